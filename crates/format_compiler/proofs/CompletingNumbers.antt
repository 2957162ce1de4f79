-- Literals and numbers, up to where they are wrong.
use Rattle.std.proofs.Common.{◌≡◌, ◌⊎◌, inl, inr, ℕ, ◌==◌, ◌||◌, not, Bool, true, false, List, [], ◌∷◌, ◌++◌, Option, Some, None, Ok, Err, refl, sym, ap, ◌∙◌, subst, ℤ, append-nil}
use Rattle.std.specs.Prelude.{if◌then◌else◌, is_some}
use Rattle.std.proofs.lemmas.List.{append_assoc}
use Rattle.format_compiler.specs.Arguments.{is_literal, literal_in, number_by, number_of, spaced_literal_in, spaced_number_in}
use Rattle.format_compiler.specs.Reading.{before, Read, ◌>>=◌, then_character}
use Rattle.format_compiler.specs.Unfinished.{begins_number, IsAll}
use Rattle.format_compiler.proofs.Completing.{equal, Reads, Seen}
use Rattle.format_compiler.proofs.TwoParts.{all, by_parts, EachIs, each_more, far, StopsHere}

abbrev pub spaced_literal : List ℕ → List ℕ → Read (List ℕ)
spaced_literal whole text = spaced_literal_in text

abbrev pub spaced_number : List ℕ → List ℕ → Read ℤ
spaced_number whole text = spaced_number_in text

literal_reads : (literal : List ℕ) → EachIs is_literal literal → (rest : List ℕ) → literal_in ((literal ++ 41 ∷ []) ++ rest) ≡ Ok (literal, rest)
literal_reads literal each rest =
    let f = far is_literal literal (41 ∷ rest) each refl in
    ap literal_in (append_assoc literal (41 ∷ []) rest) ∙ (λ i. then_character 41 (f.taken i) (f.dropped i))

spaced_reads : (literal : List ℕ) → EachIs is_literal literal → Reads spaced_literal (32 ∷ (literal ++ 41 ∷ [])) literal
spaced_reads literal each whole rest = literal_reads literal each rest

number_reads : (literal : List ℕ) (n : ℤ) → EachIs is_literal literal → number_of literal ≡ Some n → Reads spaced_number (32 ∷ (literal ++ 41 ∷ [])) n
number_reads literal n each is whole rest =
    let text = 32 ∷ ((literal ++ 41 ∷ []) ++ rest) in
    ap (λ z. z >>= λ l behind. number_by text behind (number_of l)) (literal_reads literal each rest) ∙ ap (number_by text rest) is

-- what ends a literal is a parenthesis
ends_it : (b : Bool) → not b ≡ false → b ≡ true
ends_it true h = refl
ends_it false h = cc

-- a space and a literal that is not closed
begun : (literal : List ℕ) (c : ℕ) → (c == 32) ≡ true → (32 ∷ literal) ++ [] ≡ c ∷ (literal ++ [])
begun literal c is = ap (λ z. z ∷ (literal ++ [])) (sym (equal c 32 is))

-- and one that is closed
ended : (literal : List ℕ) (c d : ℕ) (rest : List ℕ) → (c == 32) ≡ true → (d == 41) ≡ true → (32 ∷ (literal ++ 41 ∷ [])) ++ rest ≡ c ∷ (literal ++ d ∷ rest)
ended literal c d rest is end =
    ap (λ z. 32 ∷ z) (append_assoc literal (41 ∷ []) rest) ∙ (λ i. sym (equal c 32 is) i ∷ (literal ++ (sym (equal d 41 end) i) ∷ rest))

literal_rest : (bad : List ℕ → Type 0) (c : ℕ) (literal rest : List ℕ) → (c == 32) ≡ true → EachIs is_literal literal → StopsHere is_literal rest
    → Seen bad spaced_literal (c ∷ (literal ++ rest)) (then_character 41 literal rest)
literal_rest bad c literal [] is each stops = inl (record { front = 32 ∷ literal; parts = begun literal c is; more = 41 ∷ []; value = literal; reads = spaced_reads literal each })
literal_rest bad c literal (d ∷ rest) is each stops =
    let end = ends_it (d == 41) stops in
    subst (λ (b : Bool). Seen bad spaced_literal (c ∷ (literal ++ d ∷ rest)) (before literal (if b then Ok rest else Err (d ∷ rest)))) (sym end)
    (record { front = 32 ∷ (literal ++ 41 ∷ []); parts = ended literal c d rest is end; reads = spaced_reads literal each })

spaced_by : (c : ℕ) (text : List ℕ) (b : Bool) → (c == 32) ≡ b
    → Seen (λ left. left ≡ c ∷ text) spaced_literal (c ∷ text) (if b then literal_in text else Err (c ∷ text))
spaced_by c text true is =
    by_parts is_literal (λ t literal rest. Seen (λ left. left ≡ c ∷ text) spaced_literal (c ∷ t) (then_character 41 literal rest)) text
    (λ literal rest each stops. literal_rest (λ left. left ≡ c ∷ text) c literal rest is each stops)
spaced_by c text false other = inr refl

pub spaced_literal_seen : (text : List ℕ) → Seen (λ left. left ≡ text) spaced_literal text (spaced_literal_in text)
spaced_literal_seen [] = inr refl
spaced_literal_seen (c ∷ text) = spaced_by c text (c == 32) refl

-- the text ends within a number that none begins with
pub record NumberEnds (text left : List ℕ) : Type 0 where
  pub literal : List ℕ
  pub at_end : left ≡ []
  pub is : text ≡ 32 ∷ literal
  pub all : IsAll is_literal literal
  pub none : begins_number literal ≡ false

abbrev pub BadNumber : List ℕ → List ℕ → Type 0
BadNumber text left = (left ≡ text) ⊎ NumberEnds text left

-- a number that the text's end cuts off
unended : (c : ℕ) (literal : List ℕ) → (c == 32) ≡ true → EachIs is_literal literal → (now then_zero : Option ℤ) → number_of literal ≡ now → number_of (literal ++ 48 ∷ []) ≡ then_zero
    → Seen (BadNumber (c ∷ (literal ++ []))) spaced_number (c ∷ (literal ++ [])) (Err [])
unended c literal is each (Some n) z e f = inl (record { front = 32 ∷ literal; parts = begun literal c is; more = 41 ∷ []; value = n; reads = number_reads literal n each e })
unended c literal is each None (Some n) e f = inl (record {
  front = 32 ∷ literal;
  parts = begun literal c is;
  more = 48 ∷ (41 ∷ []);
  value = n;
  reads = λ whole rest.
      ap (λ z. spaced_number_in (32 ∷ (z ++ rest))) (sym (append_assoc literal (48 ∷ []) (41 ∷ []))) ∙ number_reads (literal ++ 48 ∷ []) n (each_more is_literal literal 48 each refl) f whole rest;
})
unended c literal is each None None e f = inr (inr (record {
  literal = literal;
  at_end = refl;
  is = sym (begun literal c is) ∙ append-nil (32 ∷ literal);
  all = all is_literal literal each;
  none = (λ i. is_some (e i) || is_some (f i));
}))

-- a number that is closed, right or wrong
number_found : (c d : ℕ) (literal rest whole : List ℕ) → (c == 32) ≡ true → (d == 41) ≡ true → EachIs is_literal literal → whole ≡ c ∷ (literal ++ d ∷ rest) → (n : Option ℤ) → number_of literal ≡ n
    → Seen (BadNumber (c ∷ (literal ++ d ∷ rest))) spaced_number (c ∷ (literal ++ d ∷ rest)) (number_by whole rest n)
number_found c d literal rest whole is end each same None e = inr (inl same)
number_found c d literal rest whole is end each same (Some n) e = record { front = 32 ∷ (literal ++ 41 ∷ []); parts = ended literal c d rest is end; reads = number_reads literal n each e }

number_rest : (c : ℕ) (literal rest whole : List ℕ) → (c == 32) ≡ true → EachIs is_literal literal → StopsHere is_literal rest → whole ≡ c ∷ (literal ++ rest)
    → Seen (BadNumber (c ∷ (literal ++ rest))) spaced_number (c ∷ (literal ++ rest)) (then_character 41 literal rest >>= λ l behind. number_by whole behind (number_of l))
number_rest c literal [] whole is each stops same = unended c literal is each (number_of literal) (number_of (literal ++ 48 ∷ [])) refl refl
number_rest c literal (d ∷ rest) whole is each stops same =
    let end = ends_it (d == 41) stops in
    subst (λ (b : Bool). Seen (BadNumber (c ∷ (literal ++ d ∷ rest))) spaced_number (c ∷ (literal ++ d ∷ rest)) (before literal (if b then Ok rest else Err (d ∷ rest)) >>= λ l behind. number_by whole behind (number_of l)))
    (sym end) (number_found c d literal rest whole is end each same (number_of literal) refl)

number_by_space : (c : ℕ) (text : List ℕ) (b : Bool) → (c == 32) ≡ b
    → Seen (BadNumber (c ∷ text)) spaced_number (c ∷ text) ((if b then literal_in text else Err (c ∷ text)) >>= λ l behind. number_by (c ∷ text) behind (number_of l))
number_by_space c text true is =
    by_parts is_literal (λ t literal rest. (whole : List ℕ) → whole ≡ c ∷ t → Seen (BadNumber (c ∷ t)) spaced_number (c ∷ t) (then_character 41 literal rest >>= λ l behind. number_by whole behind (number_of l))) text
    (λ literal rest each stops whole same. number_rest c literal rest whole is each stops same) (c ∷ text) refl
number_by_space c text false other = inr (inl refl)

pub spaced_number_seen : (text : List ℕ) → Seen (BadNumber text) spaced_number text (spaced_number_in text)
spaced_number_seen [] = inr (inl refl)
spaced_number_seen (c ∷ text) = number_by_space c text (c == 32) refl
