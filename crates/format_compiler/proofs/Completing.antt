-- Fronts of texts that are read, and fronts that something behind them makes such.
use Rattle.std.proofs.Common.{◌≡◌, ◌⊎◌, inl, inr, ℕ, ◌==◌, Bool, true, false, List, [], ◌∷◌, ◌++◌, Ok, Err, refl, sym, ap, ◌∙◌, subst, arith}
use Rattle.std.specs.Prelude.{if◌then◌else◌}
use Rattle.std.proofs.lemmas.Bool.Decides.{nat_tests}
use Rattle.std.proofs.lemmas.List.{append_assoc}
use Rattle.format_compiler.specs.Reading.{before, Read, ◌>>=◌, then_character}

-- a character that passes the test is this one
pub equal : (a b : ℕ) → (a == b) ≡ true → a ≡ b
equal a b e = grind (arith, nat_tests)

-- the front is read as this, whatever stands behind it
abbrev pub Reads : {A : Type 0} → (List ℕ → List ℕ → Read A) → List ℕ → A → Type 0
Reads read front x = (whole rest : List ℕ) → read whole (front ++ rest) ≡ Ok (x, rest)

-- a front of the text is read as this, and that stands behind it
pub record Taken {A : Type 0} (read : List ℕ → List ℕ → Read A) (text : List ℕ) (x : A) (behind : List ℕ) : Type 0 where
  pub front : List ℕ
  pub parts : front ++ behind ≡ text
  pub reads : Reads read front x

-- what stands before what is left can be completed
pub record Mends {A : Type 0} (read : List ℕ → List ℕ → Read A) (text left : List ℕ) : Type 0 where
  pub front : List ℕ
  pub parts : front ++ left ≡ text
  pub more : List ℕ
  pub value : A
  pub reads : Reads read (front ++ more) value

-- what is read is a front; where the text is wrong it can be completed up to there, or else it is bad in this way
abbrev pub Seen : {A : Type 0} → (List ℕ → Type 0) → (List ℕ → List ℕ → Read A) → List ℕ → Read A → Type 0
Seen bad read text (Ok x) = Taken read text x.0 x.1
Seen bad read text (Err left) = Mends read text left ⊎ bad left

-- where nothing is read yet
pub at_once : {A : Type 0} (read : List ℕ → List ℕ → Read A) (text more : List ℕ) (value : A) → Reads read more value → Mends read text text
at_once read text more value reads = record { front = []; parts = refl; more = more; value = value; reads = reads }

-- what is read behind these characters by the one reading is read with them by the other
abbrev pub Carries : {A B : Type 0} → (A → B) → (List ℕ → List ℕ → Read A) → (List ℕ → List ℕ → Read B) → List ℕ → Type 0
Carries {A = A} make inner outer lead =
    (whole text : List ℕ) (x : A) (behind : List ℕ) → ((any : List ℕ) → inner any text ≡ Ok (x, behind)) → outer whole (lead ++ text) ≡ Ok (make x, behind)

pub carried : {A B : Type 0} (make : A → B) (inner : List ℕ → List ℕ → Read A) (outer : List ℕ → List ℕ → Read B) (lead front : List ℕ) (x : A) → Carries make inner outer lead
    → Reads inner front x → Reads outer (lead ++ front) (make x)
carried make inner outer lead front x carries reads = λ whole rest.
    ap (outer whole) (append_assoc lead front rest) ∙ carries whole (front ++ rest) x rest (λ any. reads any rest)

pub taken_behind : {A B : Type 0} (make : A → B) (inner : List ℕ → List ℕ → Read A) (outer : List ℕ → List ℕ → Read B) (lead text : List ℕ) (x : A) (behind : List ℕ) → Carries make inner outer lead
    → Taken inner text x behind → Taken outer (lead ++ text) (make x) behind
taken_behind make inner outer lead text x behind carries t = record {
  front = lead ++ t.front;
  parts = append_assoc lead t.front behind ∙ ap (λ z. lead ++ z) t.parts;
  reads = carried make inner outer lead t.front x carries t.reads;
}

pub mends_behind : {A B : Type 0} (make : A → B) (inner : List ℕ → List ℕ → Read A) (outer : List ℕ → List ℕ → Read B) (lead text left : List ℕ) → Carries make inner outer lead
    → Mends inner text left → Mends outer (lead ++ text) left
mends_behind make inner outer lead text left carries m = record {
  front = lead ++ m.front;
  parts = append_assoc lead m.front left ∙ ap (λ z. lead ++ z) m.parts;
  more = m.more;
  value = make m.value;
  reads = λ whole rest. ap (λ z. outer whole (z ++ rest)) (append_assoc lead m.front m.more) ∙ carried make inner outer lead (m.front ++ m.more) m.value carries m.reads whole rest;
}

-- what is bad in the one way can be completed, or is bad in the other
abbrev pub Passes : {A : Type 0} → (List ℕ → Type 0) → (List ℕ → Type 0) → (List ℕ → List ℕ → Read A) → List ℕ → Type 0
Passes bad worse read text = (left : List ℕ) → bad left → Mends read text left ⊎ worse left

wrong_behind : {A B : Type 0} (make : A → B) (inner : List ℕ → List ℕ → Read A) (outer : List ℕ → List ℕ → Read B) (bad worse : List ℕ → Type 0) (lead text left : List ℕ) → Carries make inner outer lead
    → Passes bad worse outer (lead ++ text) → Mends inner text left ⊎ bad left → Mends outer (lead ++ text) left ⊎ worse left
wrong_behind make inner outer bad worse lead text left carries passes (inl m) = inl (mends_behind make inner outer lead text left carries m)
wrong_behind make inner outer bad worse lead text left carries passes (inr b) = passes left b

abbrev pub made : {A B : Type 0} → (A → B) → Read A → Read B
made make read = read >>= λ x behind. Ok (make x, behind)

-- the other reading is the one behind these characters
pub seen_behind : {A B : Type 0} (make : A → B) (inner : List ℕ → List ℕ → Read A) (outer : List ℕ → List ℕ → Read B) (bad worse : List ℕ → Type 0) (lead text : List ℕ) → Carries make inner outer lead
    → Passes bad worse outer (lead ++ text) → (read : Read A) → Seen bad inner text read → Seen worse outer (lead ++ text) (made make read)
seen_behind make inner outer bad worse lead text carries passes (Ok x) h = taken_behind make inner outer lead text x.0 x.1 carries h
seen_behind make inner outer bad worse lead text carries passes (Err left) h = wrong_behind make inner outer bad worse lead text left carries passes h

pub seen_at : {A : Type 0} (bad : List ℕ → Type 0) (read : List ℕ → List ℕ → Read A) (text other : List ℕ) (here : Read A) → text ≡ other → Seen bad read text here → Seen bad read other here
seen_at bad read text other here is h = subst (λ (z : List ℕ). Seen bad read z here) is h

pub read_at : {A : Type 0} (bad : List ℕ → Type 0) (read : List ℕ → List ℕ → Read A) (text : List ℕ) (here there : Read A) → here ≡ there → Seen bad read text here → Seen bad read text there
read_at {A = A} bad read text here there is h = subst (λ (z : Read A). Seen bad read text z) is h

pub made_same : {A : Type 0} (read : Read A) → made (λ x. x) read ≡ read
made_same (Ok x) = refl
made_same (Err left) = refl

pub either_seen : {A : Type 0} (bad : List ℕ → Type 0) (read : List ℕ → List ℕ → Read A) (text : List ℕ) (b : Bool) (x y : Read A) → (b ≡ true → Seen bad read text x) → (b ≡ false → Seen bad read text y)
    → Seen bad read text (if b then x else y)
either_seen bad read text true x y h k = h refl
either_seen bad read text false x y h k = k refl

-- a reading, and then a closing parenthesis
abbrev pub closed : {A B : Type 0} → (A → B) → Read A → Read B
closed make read = read >>= λ x behind. then_character 41 (make x) behind

pub closed_reads : {A B : Type 0} (make : A → B) (read : List ℕ → List ℕ → Read A) (front : List ℕ) (x : A) → Reads read front x → Reads (λ whole text. closed make (read whole text)) (front ++ 41 ∷ []) (make x)
closed_reads make read front x reads = λ whole rest. ap (λ z. closed make z) (ap (read whole) (append_assoc front (41 ∷ []) rest) ∙ reads whole (41 ∷ rest))

closing_left : {A B : Type 0} (make : A → B) (read : List ℕ → List ℕ → Read A) (text : List ℕ) (x : A) (behind : List ℕ) → Taken read text x behind
    → Mends (λ whole text. closed make (read whole text)) text behind
closing_left make read text x behind t = record { front = t.front; parts = t.parts; more = 41 ∷ []; value = make x; reads = closed_reads make read t.front x t.reads }

closed_at : {A B : Type 0} (make : A → B) (read : List ℕ → List ℕ → Read A) (bad : List ℕ → Type 0) (text : List ℕ) (x : A) (behind : List ℕ) → Taken read text x behind
    → Seen bad (λ whole text. closed make (read whole text)) text (then_character 41 (make x) behind)
closed_at make read bad text x [] t = inl (closing_left make read text x [] t)
closed_at {B = B} make read bad text x (c ∷ behind) t = choose (c == 41) refl
  where
    choose : (b : Bool) → (c == 41) ≡ b → Seen bad (λ whole text. closed make (read whole text)) text (before (make x) (if b then Ok behind else Err (c ∷ behind)))
    choose true is = record {
      front = t.front ++ c ∷ [];
      parts = append_assoc t.front (c ∷ []) behind ∙ t.parts;
      reads = λ whole rest. ap (λ z. closed make z) (ap (read whole) (append_assoc t.front (c ∷ []) rest) ∙ t.reads whole (c ∷ rest))
          ∙ ap (λ b. before (make x) (if b then Ok rest else Err (c ∷ rest))) is;
    }
    choose false is = inl (closing_left make read text x (c ∷ behind) t)

closed_wrong : {A B : Type 0} (make : A → B) (read : List ℕ → List ℕ → Read A) (bad worse : List ℕ → Type 0) (text left : List ℕ) → Passes bad worse (λ whole text. closed make (read whole text)) text
    → Mends read text left ⊎ bad left → Mends (λ whole text. closed make (read whole text)) text left ⊎ worse left
closed_wrong make read bad worse text left passes (inl m) = inl (record {
  front = m.front;
  parts = m.parts;
  more = m.more ++ 41 ∷ [];
  value = make m.value;
  reads = λ whole rest. ap (λ z. closed make (read whole (z ++ rest))) (sym (append_assoc m.front m.more (41 ∷ []))) ∙ closed_reads make read (m.front ++ m.more) m.value m.reads whole rest;
})
closed_wrong make read bad worse text left passes (inr b) = passes left b

pub closed_seen : {A B : Type 0} (make : A → B) (read : List ℕ → List ℕ → Read A) (bad worse : List ℕ → Type 0) (text : List ℕ) → Passes bad worse (λ whole text. closed make (read whole text)) text
    → (here : Read A) → Seen bad read text here → Seen worse (λ whole text. closed make (read whole text)) text (closed make here)
closed_seen make read bad worse text passes (Ok x) h = closed_at make read worse text x.0 x.1 h
closed_seen make read bad worse text passes (Err left) h = closed_wrong make read bad worse text left passes h
