-- The folders above one, as its name is read from the front.
use Rattle.std.proofs.Common.{◌≡◌, ◌++◌, ◌==◌, ◌&&◌, ◌||◌, ℕ, Bool, true, false, List, [], ◌∷◌, bytes_eq, map, refl, sym, ◌∙◌, ap}
use Rattle.std.proofs.lemmas.Slice.Eq.{bytes_eq-Decides}
use Rattle.mh_base.specs.Folders.{is_folder_name}
use Rattle.folder_files.specs.Places.{continues, is_parent, same_place}
use Rattle.folder_files.specs.declared.place.Place.{Place}
use Rattle.folder_files.specs.declared.place.Place.TheVariants.{Home, Work, Mail, Folder}
use Rattle.folder_room.specs.Parents.{is_above, is_among}

never : (b : Bool) → b && false ≡ false
never true = refl
never false = refl

always : (b : Bool) → b && true ≡ b
always true = refl
always false = refl

or_false : (b : Bool) → b || false ≡ b
or_false true = refl
or_false false = refl

spread : (a b c d : Bool) → a && (b || (c && d)) ≡ (a && b) || (c && (a && d))
spread true b c d = refl
spread false b true d = refl
spread false b false d = refl

pub same_turned : (a b : List ℕ) → bytes_eq a b ≡ bytes_eq b a
same_turned a b = go (bytes_eq a b) (bytes_eq b a) (bytes_eq-Decides a b) (bytes_eq-Decides b a)
  where
    go : (u v : Bool) → (u ≡ true → a ≡ b) × (a ≡ b → u ≡ true) → (v ≡ true → b ≡ a) × (b ≡ a → v ≡ true) → u ≡ v
    go true true p q = refl
    go false false p q = refl
    go true false p q = sym (q.1 (sym (p.0 refl)))
    go false true p q = p.1 (sym (q.0 refl))

nothing_before : (n : List ℕ) → continues n [] ≡ false
nothing_before [] = refl
nothing_before (b ∷ n) = refl

continues_more : (n front : List ℕ) (c : ℕ) → continues n (front ++ c ∷ []) ≡ continues n front || ((c == 47) && bytes_eq n front)
continues_more [] [] c = sym (always (c == 47))
continues_more [] (y ∷ front) c = sym (ap (λ b. (y == 47) || b) (never (c == 47)) ∙ or_false (y == 47))
continues_more (b ∷ n) [] c = ap (λ v. (b == c) && v) (nothing_before n) ∙ never (b == c) ∙ sym (never (c == 47))
continues_more (b ∷ n) (y ∷ front) c = ap (λ v. (b == y) && v) (continues_more n front c) ∙ spread (b == y) (continues n front) (c == 47) (bytes_eq n front)

-- one more character of the name
pub parent_more : (p : Place) (path front : List ℕ) (c : ℕ) → is_parent p (Folder path (front ++ c ∷ [])) ≡ is_parent p (Folder path front) || ((c == 47) && is_above path front p)
parent_more Home path front c = sym (never (c == 47))
parent_more Work path front c = sym (never (c == 47))
parent_more (Mail other) path front c = sym (ap (λ b. bytes_eq other path || b) (never (c == 47)) ∙ or_false (bytes_eq other path))
parent_more (Folder other n) path front c =
    ap (λ v. bytes_eq other path && v && is_folder_name n) (continues_more n front c)
    ∙ go (bytes_eq other path) (continues n front) (c == 47) (bytes_eq n front) (is_folder_name n) (is_folder_name front) (λ e. ap is_folder_name ((bytes_eq-Decides n front).0 e))
    ∙ ap (λ v. (bytes_eq other path && continues n front && is_folder_name n) || ((c == 47) && v)) (λ i. same_turned other path i && same_turned n front i && is_folder_name front)
  where
    go : (a b s d f g : Bool) → (d ≡ true → f ≡ g) → a && (b || (s && d)) && f ≡ (a && b && f) || (s && (a && d && g))
    go false b true d f g e = refl
    go false b false d f g e = refl
    go true true true true true g e = refl
    go true true true true false g e = e refl
    go true true true false true g e = refl
    go true true true false false g e = refl
    go true true false d true g e = refl
    go true true false d false g e = refl
    go true false true true f g e = e refl
    go true false true false f g e = refl
    go true false false d f g e = refl

-- before the first character
pub none_above : (path : List ℕ) (above : List Place) (p : Place) → above ≡ [] → is_among (Mail path ∷ above) p ≡ is_parent p (Folder path [])
none_above path above p e = ap (λ a. is_among (Mail path ∷ a) p) e ∙ go p
  where
    go : (p : Place) → is_among (Mail path ∷ []) p ≡ is_parent p (Folder path [])
    go Home = refl
    go Work = refl
    go (Mail other) = or_false (bytes_eq path other) ∙ same_turned path other
    go (Folder other n) = sym (ap (λ v. bytes_eq other path && v && is_folder_name n) (nothing_before n) ∙ cut (bytes_eq other path) (is_folder_name n))
      where
        cut : (a b : Bool) → a && false && b ≡ false
        cut true b = refl
        cut false b = refl

-- after one more
pub among_more : (p : Place) (path front : List ℕ) (c : ℕ) (old new : List Place) → is_among (Mail path ∷ old) p ≡ is_parent p (Folder path front)
    → is_among new p ≡ is_among old p || ((c == 47) && is_above path front p) → is_among (Mail path ∷ new) p ≡ is_parent p (Folder path (front ++ c ∷ []))
among_more p path front c old new h more =
    ap (λ b. same_place (Mail path) p || b) more ∙ joined (same_place (Mail path) p) (is_among old p) ((c == 47) && is_above path front p) ∙ ap (λ b. b || ((c == 47) && is_above path front p)) h ∙ sym (parent_more p path front c)
  where
    joined : (a b d : Bool) → a || (b || d) ≡ (a || b) || d
    joined true b d = refl
    joined false b d = refl

pub map_self : (xs : List ℕ) → map (λ x. x) xs ≡ xs
map_self [] = refl
map_self (x ∷ xs) = ap (λ ys. x ∷ ys) (map_self xs)
