-- The instructions of words are those of their format.
use Rattle.std.proofs.Common.{◌≡◌, ℕ, ◌-◌, List, [], ◌∷◌, ◌++◌, length, refl, sym, ap, ◌∙◌, arith, length-append, append_assoc, append-nil}
use Rattle.format_compiler.specs.declared.instruction.Instruction.{Instruction}
use Rattle.format_compiler.specs.declared.instruction.Instruction.TheVariants.{Unless}
use Rattle.format_compiler.specs.declared.one_test.Test.{Test}
use Rattle.format_compiler.specs.declared.word.Word.{Word}
use Rattle.format_compiler.specs.declared.word.Word.TheVariants.{Print, If}
use Rattle.format_compiler.specs.Code.{code_of, jump_over}
use Rattle.format_compiler.specs.Grammar.{AreItems, AreOthers, Choice, Done, Format, IsFormat, over, nothing, print, choice, end, otherwise, otherwise_if}
use Rattle.format_compiler.specs.Linking.{branched, jumped, linked, linked_all, Links, no_links, tested}

-- one word more at the end
pub linked_all-last : (words : List Word) (word : Word) (s : Links) → linked_all (words ++ word ∷ []) s ≡ linked_all words (linked word s)
linked_all-last [] word s = refl
linked_all-last (w ∷ words) word s = ap (linked w) (linked_all-last words word s)

-- instructions before others
abbrev pub with_code : List Instruction → Links → Links
with_code code s = record { code = code ++ s.code; targets = s.targets }

-- the other way of a conditional before others
abbrev pub with_others : List Instruction → Links → Links
with_others code s = record {
  code = jump_over code ++ (code ++ s.code);
  targets = record { behind = length s.code; other = length (code ++ s.code) } ∷ s.targets;
}

beyond : (a b c : List Instruction) → length (a ++ (b ++ c)) - length c ≡ length (a ++ b)
beyond a b c = simp length-append (omega arith)

regrouped : (a b c d e : List Instruction) → a ++ (b ++ (c ++ (d ++ e))) ≡ (((a ++ b) ++ c) ++ d) ++ e
regrouped a b c d e = sym (simp append_assoc)

-- the instructions of a conditional, before others
choice_code : (t : Test) (a b c d : List Instruction)
    → Unless t (length (a ++ (jump_over b ++ (b ++ (c ++ d)))) - length (b ++ (c ++ d))) ∷ (a ++ (jump_over b ++ (b ++ (c ++ d))))
    ≡ (Unless t (length (a ++ jump_over b)) ∷ (((a ++ jump_over b) ++ b) ++ c)) ++ d
choice_code t a b c d = λ i. Unless t (beyond a (jump_over b) (b ++ (c ++ d)) i) ∷ regrouped a (jump_over b) b c d i

jumped_over : (c d : List Instruction) → jumped (length (c ++ d) - length d) (c ++ d) ≡ jump_over c ++ (c ++ d)
jumped_over [] d = let none : length d - length d ≡ 0 = omega arith in ap (λ z. jumped z d) none
jumped_over (i ∷ c) d =
    let some : length ((i ∷ c) ++ d) - length d ≡ length (i ∷ c) = simp length-append (omega arith) in
    ap (λ z. jumped z ((i ∷ c) ++ d)) some ∙ first c
  where
    first : (c : List Instruction) → jumped (length (i ∷ c)) ((i ∷ c) ++ d) ≡ jump_over (i ∷ c) ++ ((i ∷ c) ++ d)
    first c = refl

branched_code : (c : List Instruction) (s : Links) (o : ℕ) (x : List Instruction) → x ≡ c ++ s.code
    → branched (record { code = x; targets = record { behind = length s.code; other = o } ∷ s.targets }) ≡ with_others c s
branched_code c s o x is =
    ap (λ z. branched (record { code = z; targets = record { behind = length s.code; other = o } ∷ s.targets })) is
    ∙ ap (λ z. record { code = z; targets = record { behind = length s.code; other = length (c ++ s.code) } ∷ s.targets }) (jumped_over c s.code)

mutual
  items_linked : {words rest : List Word} {f : Format} → AreItems words rest f → (s : Links) → linked_all words s ≡ with_code (code_of f) (linked_all rest s)
  items_linked (over h) s = refl
  items_linked (nothing d) s = items_linked d s
  items_linked (print {piece = piece} d) s = ap (linked (Print piece)) (items_linked d s)
  items_linked (choice {rest = rest} {test = test} {taken = taken} {other = other} {f = f} d e g) s =
      let behind = ap (λ z. with_code (code_of taken) (with_others (code_of other) z)) (items_linked g s) in
      let words = items_linked d s ∙ ap (with_code (code_of taken)) (others_linked e s) ∙ behind in
      ap (linked (If test)) words
      ∙ ap (λ z. record { code = z; targets = (linked_all rest s).targets }) (choice_code test (code_of taken) (code_of other) (code_of f) (linked_all rest s).code)

  others_linked : {words rest : List Word} {f : Format} → AreOthers words rest f → (s : Links) → linked_all words s ≡ with_others (code_of f) (linked_all rest s)
  others_linked (end) s = refl
  others_linked (otherwise {rest = rest} {other = other} d) s =
      ap branched (items_linked d s) ∙ branched_code (code_of other) (linked_all rest s) (length (linked_all rest s).code) (code_of other ++ (linked_all rest s).code) refl
  others_linked (otherwise_if {rest = rest} {test = test} {taken = taken} {other = other} d e) s =
      let words = items_linked d s ∙ ap (with_code (code_of taken)) (others_linked e s) in
      ap (λ z. branched (tested test z)) words
      ∙ branched_code (code_of (Choice test taken other Done)) (linked_all rest s) (length (code_of other ++ (linked_all rest s).code)) _ (choice_code test (code_of taken) (code_of other) [] (linked_all rest s).code)

-- the words' instructions are their format's
pub format_linked : (words : List Word) (f : Format) → IsFormat words f → linked_all words no_links ≡ with_code (code_of f) no_links
format_linked words f d = items_linked d no_links

pub one_linked : (before after all : List Word) (word : Word) (s t start : Links) → before ≡ after ++ word ∷ [] → t ≡ linked word s → linked_all before s ≡ linked_all all start
    → linked_all after t ≡ linked_all all start
one_linked before after all word s t start popped goes so_far = ap (linked_all after) goes ∙ sym (linked_all-last after word s) ∙ ap (λ z. linked_all z s) (sym popped) ∙ so_far

none_left : (words : List Word) → length words ≡ 0 → words ≡ []
none_left [] h = refl
none_left (w ∷ words) h = cc

pub all_linked : (left all : List Word) (s : Links) (f : Format) (code : List Instruction) → length left ≡ 0 → linked_all left s ≡ linked_all all no_links → IsFormat all f → code ≡ s.code → code ≡ code_of f
all_linked left all s f code none so_far is taken =
    let whole : s ≡ with_code (code_of f) no_links = ap (λ z. linked_all z s) (sym (none_left left none)) ∙ so_far ∙ format_linked all f is in
    taken ∙ ap (λ z. z.code) whole ∙ append-nil (code_of f)
