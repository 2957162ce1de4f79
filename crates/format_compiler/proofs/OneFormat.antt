-- Words are one format at most.
use Rattle.std.proofs.Common.{◌≡◌, List, refl, sym, ap, subst}
use Rattle.format_compiler.specs.declared.word.Word.{Word}
use Rattle.format_compiler.specs.Grammar.{AreItems, AreOthers, Choice, Done, Format, IsFormat, Then, over, nothing, print, choice, end, otherwise, otherwise_if}

-- two readings of the same words leave the same words and are the same format
pub record Same (rest left : List Word) (f g : Format) : Type 0 where
  pub rests : rest ≡ left
  pub formats : f ≡ g

others_at : {words others left : List Word} {f : Format} → words ≡ others → AreOthers others left f → AreOthers words left f
others_at {left = left} {f = f} is d = subst (λ (z : List Word). AreOthers z left f) (sym is) d

items_at : {words others left : List Word} {f : Format} → words ≡ others → AreItems others left f → AreItems words left f
items_at {left = left} {f = f} is d = subst (λ (z : List Word). AreItems z left f) (sym is) d

mutual
  items_alone : {words rest left : List Word} {f g : Format} → AreItems words rest f → AreItems words left g → Same rest left f g
  items_alone (over h) (over k) = record { rests = refl; formats = refl }
  items_alone (over h) (nothing k) = absurd h
  items_alone (over h) (print k) = absurd h
  items_alone (over h) (choice k l m) = absurd h
  items_alone (nothing d) (over k) = absurd k
  items_alone (nothing d) (nothing k) = items_alone d k
  items_alone (print d) (over k) = absurd k
  items_alone (print {piece = piece} d) (print k) = let s = items_alone d k in record { rests = s.rests; formats = ap (Then piece) s.formats }
  items_alone (choice d e g) (over k) = absurd k
  items_alone (choice {test = test} d e g) (choice k l m) =
      let s = items_alone d k in
      let t = others_alone e (others_at s.rests l) in
      let u = items_alone g (items_at t.rests m) in
      record { rests = u.rests; formats = (λ i. Choice test (s.formats i) (t.formats i) (u.formats i)) }

  others_alone : {words rest left : List Word} {f g : Format} → AreOthers words rest f → AreOthers words left g → Same rest left f g
  others_alone (end) (end) = record { rests = refl; formats = refl }
  others_alone (otherwise d) (otherwise k) = let s = items_alone d k in let h = s.rests in record { rests = cc; formats = s.formats }
  others_alone (otherwise_if {test = test} d e) (otherwise_if k l) =
      let s = items_alone d k in
      let t = others_alone e (others_at s.rests l) in
      record { rests = t.rests; formats = (λ i. Choice test (s.formats i) (t.formats i) Done) }

pub format_alone : (words : List Word) (f g : Format) → IsFormat words f → IsFormat words g → f ≡ g
format_alone words f g d e = let s = items_alone d e in s.formats
