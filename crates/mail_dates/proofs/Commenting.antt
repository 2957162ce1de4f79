-- A text with comments, byte by byte.
use Rattle.std.proofs.Common.{◌≡◌, ℕ, zero, suc, ◌+◌, ◌-◌, Bool, true, false, eqb, List, [], ◌∷◌, length, drop, refl, sym, ap, ◌∙◌, arith}
use Rattle.std.specs.Prelude.{◌==◌, if◌then◌else◌, min}
use Rattle.std.proofs.lemmas.Bool.Decides.{nat_tests}
use Rattle.mail_dates.specs.Words.{outside}

none_left : (depth : ℕ) → outside depth [] ≡ []
unfolding outside
none_left depth = refl

pub text_ended : (depth : ℕ) (rest : List ℕ) (all : List ℕ) → rest ≡ [] → outside depth rest ≡ all → all ≡ []
text_ended depth rest all e left = sym left ∙ ap (outside depth) e ∙ none_left depth

pub byte_given : (depth b : ℕ) (text behind all : List ℕ) → depth ≡ 0 → (b ≡ 40 → ⊥) → text ≡ b ∷ behind → outside depth text ≡ all → all ≡ b ∷ outside 0 behind
unfolding outside
byte_given depth b text behind all e other is left =
    let test : eqb b 40 ≡ false = grind (arith, nat_tests) in
    sym left ∙ rw (is, e, test) refl

abbrev no_bytes : List ℕ
no_bytes = []

all_none : (s o c : Bool) → no_bytes ≡ (if s then no_bytes else (if o then no_bytes else (if c then no_bytes else no_bytes)))
all_none true o c = refl
all_none false true c = refl
all_none false false true = refl
all_none false false false = refl

inside : (n b : ℕ) (rest : List ℕ) → outside (suc n) (b ∷ rest) ≡
    (if b == 92 then outside (suc n) (drop 1 rest) else (if b == 40 then outside (suc (suc n)) rest else (if b == 41 then outside n rest else outside (suc n) rest)))
unfolding outside
inside n b [] = all_none (b == 92) (b == 40) (b == 41)
inside n b (c ∷ rest) = refl

pub opened_first : (depth b : ℕ) (text behind all : List ℕ) → depth ≡ 0 → b ≡ 40 → text ≡ b ∷ behind → outside depth text ≡ all → outside 1 behind ≡ all
unfolding outside
opened_first depth b text behind all none e is left = sym (rw (none, is, e) refl) ∙ left

inside_by : (depth b : ℕ) (text behind all : List ℕ) → (depth ≡ 0 → ⊥) → text ≡ b ∷ behind → outside depth text ≡ all →
    (if b == 92 then outside depth (drop 1 behind) else (if b == 40 then outside (depth + 1) behind else (if b == 41 then outside (depth - 1) behind else outside depth behind))) ≡ all
inside_by zero b text behind all some is left = absurd (some refl)
inside_by (suc n) b text behind all some is left =
    let deeper : suc n + 1 ≡ suc (suc n) = omega arith in
    let out : suc n - 1 ≡ n = omega arith in
    rw (deeper, out) (sym (inside n b behind) ∙ ap (outside (suc n)) (sym is) ∙ left)

pub opened : (depth b : ℕ) (text behind all : List ℕ) → (depth ≡ 0 → ⊥) → b ≡ 40 → text ≡ b ∷ behind → outside depth text ≡ all → outside (depth + 1) behind ≡ all
opened depth b text behind all some e is left = rw e at (inside_by depth b text behind all some is left)

pub closed : (depth b : ℕ) (text behind all : List ℕ) → (depth ≡ 0 → ⊥) → b ≡ 41 → text ≡ b ∷ behind → outside depth text ≡ all → outside (depth - 1) behind ≡ all
closed depth b text behind all some e is left = rw e at (inside_by depth b text behind all some is left)

drop_one : (n : ℕ) (rest : List ℕ) → n ≡ min (length rest) 1 → drop n rest ≡ drop 1 rest
drop_one n [] e = rw e refl
drop_one n (b ∷ rest) e = let one : n ≡ 1 = omega arith in rw one refl

pub protected : (depth b n : ℕ) (text behind after all : List ℕ) → (depth ≡ 0 → ⊥) → b ≡ 92 → text ≡ b ∷ behind → n ≡ min (length behind) 1 → after ≡ drop n behind → outside depth text ≡ all → outside depth after ≡ all
protected depth b n text behind after all some e is en ea left = ap (outside depth) (ea ∙ drop_one n behind en) ∙ rw e at (inside_by depth b text behind all some is left)

pub other_inside : (depth b : ℕ) (text behind all : List ℕ) → (depth ≡ 0 → ⊥) → (b ≡ 92 → ⊥) → (b ≡ 40 → ⊥) → (b ≡ 41 → ⊥) → text ≡ b ∷ behind → outside depth text ≡ all → outside depth behind ≡ all
other_inside depth b text behind all some no_slash no_open no_close is left =
    let slash : eqb b 92 ≡ false = grind (arith, nat_tests) in
    let open_one : eqb b 40 ≡ false = grind (arith, nat_tests) in
    let close : eqb b 41 ≡ false = grind (arith, nat_tests) in
    rw (slash, open_one, close) at (inside_by depth b text behind all some is left)

pub ended : (rest : List ℕ) → rest ≡ [] → outside 0 rest ≡ []
ended rest e = ap (outside 0) e ∙ none_left 0
