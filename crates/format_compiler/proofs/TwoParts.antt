-- A text in two parts: a front of such characters, and what stands behind it.
use Rattle.std.proofs.Common.{◌≡◌, ℕ, suc, ◌+◌, Bool, true, false, List, [], ◌∷◌, ◌++◌, take, drop, refl, sym, ap, ◌∙◌, subst, arith, cond}
use Rattle.std.specs.List.{prefix_len}
use Rattle.format_compiler.specs.Unfinished.{IsAll}

abbrev pub EachIs : (ℕ → Bool) → List ℕ → Type 0
EachIs p [] = Unit {0}
EachIs p (c ∷ text) = (p c ≡ true) × EachIs p text

-- a text that doesn't begin with such a character
abbrev pub StopsHere : (ℕ → Bool) → List ℕ → Type 0
StopsHere p [] = Unit {0}
StopsHere p (c ∷ text) = p c ≡ false

pub record Parts (p : ℕ → Bool) (text : List ℕ) : Type 0 where
  pub front : List ℕ
  pub rest : List ℕ
  pub parts : front ++ rest ≡ text
  pub each : EachIs p front
  pub stops : StopsHere p rest

-- how far such a front goes
pub record Far (p : ℕ → Bool) (front rest : List ℕ) : Type 0 where
  pub taken : take (prefix_len p (front ++ rest)) (front ++ rest) ≡ front
  pub dropped : drop (prefix_len p (front ++ rest)) (front ++ rest) ≡ rest

one_more : (n : ℕ) → 1 + n ≡ suc n
one_more n = omega arith

longer : (p : ℕ → Bool) (c : ℕ) (text : List ℕ) → p c ≡ true → prefix_len p (c ∷ text) ≡ suc (prefix_len p text)
longer p c text is = ap (λ b. cond b (1 + prefix_len p text) 0) is ∙ one_more (prefix_len p text)

pub far : (p : ℕ → Bool) (front rest : List ℕ) → EachIs p front → StopsHere p rest → Far p front rest
far p [] [] each stops = record { taken = refl; dropped = refl }
far p [] (c ∷ rest) each stops =
    let n : prefix_len p (c ∷ rest) ≡ 0 = ap (λ b. cond b (1 + prefix_len p rest) 0) stops in
    record { taken = ap (λ z. take z (c ∷ rest)) n; dropped = ap (λ z. drop z (c ∷ rest)) n }
far p (c ∷ front) rest each stops =
    let n = longer p c (front ++ rest) each.0 in
    let on = far p front rest each.1 stops in
    record {
      taken = ap (λ z. take z (c ∷ (front ++ rest))) n ∙ ap (λ z. c ∷ z) on.taken;
      dropped = ap (λ z. drop z (c ∷ (front ++ rest))) n ∙ on.dropped;
    }

part_more : (p : ℕ → Bool) (c : ℕ) (text : List ℕ) → Parts p text → (b : Bool) → p c ≡ b → Parts p (c ∷ text)
part_more p c text on true is = record { front = c ∷ on.front; rest = on.rest; parts = ap (λ z. c ∷ z) on.parts; each = (is, on.each); stops = on.stops }
part_more p c text on false is = record { front = []; rest = c ∷ text; parts = refl; each = tt; stops = is }

pub parts : (p : ℕ → Bool) (text : List ℕ) → Parts p text
parts p [] = record { front = []; rest = []; parts = refl; each = tt; stops = tt }
parts p (c ∷ text) = part_more p c text (parts p text) (p c) refl

-- what holds of a front and the rest of any text holds of those of this one
pub by_parts : (p : ℕ → Bool) (P : List ℕ → List ℕ → List ℕ → Type 0) (text : List ℕ)
    → ((front rest : List ℕ) → EachIs p front → StopsHere p rest → P (front ++ rest) front rest)
    → P text (take (prefix_len p text) text) (drop (prefix_len p text) text)
by_parts p P text h =
    let s = parts p text in
    let f = far p s.front s.rest s.each s.stops in
    subst (λ (z : List ℕ). P z (take (prefix_len p z) z) (drop (prefix_len p z) z)) s.parts
    (subst (λ (z : List ℕ). P (s.front ++ s.rest) z (drop (prefix_len p (s.front ++ s.rest)) (s.front ++ s.rest))) (sym f.taken)
    (subst (λ (z : List ℕ). P (s.front ++ s.rest) s.front z) (sym f.dropped) (h s.front s.rest s.each s.stops)))

pub all : (p : ℕ → Bool) (text : List ℕ) → EachIs p text → IsAll p text
all p [] each = refl
all p (c ∷ text) each = ap (λ z. drop z (c ∷ text)) (longer p c text each.0) ∙ all p text each.1

each_by : (p : ℕ → Bool) (c : ℕ) (text : List ℕ) (b : Bool) → p c ≡ b → IsAll p (c ∷ text) → (IsAll p text → EachIs p text) → EachIs p (c ∷ text)
each_by p c text true is h on = (is, on (sym (ap (λ z. drop z (c ∷ text)) (longer p c text is)) ∙ h))
each_by p c text false other h on =
    let n : prefix_len p (c ∷ text) ≡ 0 = ap (λ b. cond b (1 + prefix_len p text) 0) other in
    let e : c ∷ text ≡ [] = sym (ap (λ z. drop z (c ∷ text)) n) ∙ h in
    cc

pub each : (p : ℕ → Bool) (text : List ℕ) → IsAll p text → EachIs p text
each p [] h = tt
each p (c ∷ text) h = each_by p c text (p c) refl h (each p text)

-- one character more behind a front
pub each_more : (p : ℕ → Bool) (front : List ℕ) (c : ℕ) → EachIs p front → p c ≡ true → EachIs p (front ++ c ∷ [])
each_more p [] c each is = (is, tt)
each_more p (d ∷ front) c each is = (each.0, each_more p front c each.1 is)
