-- The first item of a list that passes a test.
use Rattle.std.proofs.Common.{◌≡◌, ◌+◌, ◌<◌, ◌≤◌, ◌==◌, ℕ, zero, suc, Bool, true, false, List, [], ◌∷◌, length, get_or, set, refl, sym, ◌∙◌, ap, arith, add-one, max}
use Rattle.std.proofs.lemmas.Bool.Decides.{Decides-eqb}
use Rattle.std.specs.Prelude.{if◌then◌else◌}
use Rattle.folder_room.specs.Positions.{SkipsBy, IsAtBy}
use Rattle.folder_files.specs.Worlds.{file_of, next_of}
use Rattle.folder_files.specs.declared.world.File.{File}

skips_suc_by : {A : Type 0} (t : A → Bool) (xs : List A) (i : ℕ) (d : A) → i < length xs → t (get_or xs i d) ≡ false → SkipsBy t xs i → SkipsBy t xs (suc i)
skips_suc_by t [] i d l n s = tt
skips_suc_by t (x ∷ []) zero d l n s = (n, tt)
skips_suc_by t (x ∷ (y ∷ xs)) zero d l n s = (n, tt)
skips_suc_by t (x ∷ xs) (suc i) d l n s = (s.0, skips_suc_by t xs i d (omega arith) n s.1)

pub skips_more_by : {A : Type 0} (t : A → Bool) (xs : List A) (i : ℕ) (d : A) → i < length xs → t (get_or xs i d) ≡ false → SkipsBy t xs i → SkipsBy t xs (i + 1)
skips_more_by t xs i d l n s = rw add-one (skips_suc_by t xs i d l n s)

pub skips_none_by : {A : Type 0} (t : A → Bool) (xs : List A) → SkipsBy t xs 0
skips_none_by t [] = tt
skips_none_by t (x ∷ xs) = tt

pub skips_all_by : {A : Type 0} (t : A → Bool) (xs : List A) (i : ℕ) → length xs ≤ i → SkipsBy t xs i → SkipsBy t xs (length xs)
skips_all_by t [] i l s = tt
skips_all_by t (x ∷ xs) zero l s = absurd (omega arith)
skips_all_by t (x ∷ xs) (suc i) l s = (s.0, skips_all_by t xs i (omega arith) s.1)

pub is_at_by : {A : Type 0} (t : A → Bool) (xs : List A) (i : ℕ) (d : A) → i < length xs → t (get_or xs i d) ≡ true → IsAtBy t xs i
is_at_by t [] i d l e = absurd (omega arith)
is_at_by t (x ∷ xs) zero d l e = e
is_at_by t (x ∷ xs) (suc i) d l e = is_at_by t xs i d (omega arith) e

-- the file of an id, by its place
pub file_found : (xs : List File) (i id : ℕ) (d : File) → SkipsBy (λ x. x.id == id) xs i → IsAtBy (λ x. x.id == id) xs i → file_of xs id ≡ record { bytes = (get_or xs i d).bytes; safe = (get_or xs i d).safe }
file_found [] i id d s is = absurd is
file_found (x ∷ xs) zero id d s is = rw is refl
file_found (x ∷ xs) (suc i) id d s is = rw s.0 (file_found xs i id d s.1 is)

pub id_found : (xs : List File) (i id : ℕ) (d : File) → IsAtBy (λ x. x.id == id) xs i → (get_or xs i d).id ≡ id
id_found [] i id d is = absurd is
id_found (x ∷ xs) zero id d is = (Decides-eqb x.id id).0 is
id_found (x ∷ xs) (suc i) id d is = id_found xs i id d is

-- another file of that id
pub file_set : (xs : List File) (i id f : ℕ) (new : File) → SkipsBy (λ x. x.id == id) xs i → IsAtBy (λ x. x.id == id) xs i → new.id ≡ id
    → file_of (set xs i new) f ≡ (if id == f then record { bytes = new.bytes; safe = new.safe } else file_of xs f)
file_set [] i id f new s is e = absurd is
file_set (x ∷ xs) zero id f new s is e = rw (e, (Decides-eqb x.id id).0 is) (go (id == f))
  where
    go : (b : Bool) → (if b then record { bytes = new.bytes; safe = new.safe } else file_of xs f) ≡ (if b then record { bytes = new.bytes; safe = new.safe } else (if b then record { bytes = x.bytes; safe = x.safe } else file_of xs f))
    go true = refl
    go false = refl
file_set (x ∷ xs) (suc i) id f new s is e = go (x.id == f) (id == f) ((Decides-eqb x.id f).0) ((Decides-eqb id f).0) (file_set xs i id f new s.1 is e)
  where
    apart : x.id ≡ f → id ≡ f → true ≡ false
    apart p q = sym ((Decides-eqb x.id id).1 (p ∙ sym q)) ∙ s.0

    go : (v u : Bool) → (v ≡ true → x.id ≡ f) → (u ≡ true → id ≡ f) → file_of (set xs i new) f ≡ (if u then record { bytes = new.bytes; safe = new.safe } else file_of xs f)
        → (if v then record { bytes = x.bytes; safe = x.safe } else file_of (set xs i new) f) ≡ (if u then record { bytes = new.bytes; safe = new.safe } else (if v then record { bytes = x.bytes; safe = x.safe } else file_of xs f))
    go true true p q r = absurd (cc (apart (p refl) (q refl)))
    go true false p q r = refl
    go false true p q r = r
    go false false p q r = r

pub next_set : (xs : List File) (i : ℕ) (new d : File) → i < length xs → new.id ≡ (get_or xs i d).id → next_of (set xs i new) ≡ next_of xs
next_set [] i new d l e = refl
next_set (x ∷ xs) zero new d l e = ap (λ n. max (n + 1) (next_of xs)) e
next_set (x ∷ xs) (suc i) new d l e = ap (λ n. max (x.id + 1) n) (next_set xs i new d (omega arith) e)

-- an id that no file has
pub file_lacking : (xs : List File) (id : ℕ) → SkipsBy (λ x. x.id == id) xs (length xs) → file_of xs id ≡ record { bytes = []; safe = true }
file_lacking [] id s = refl
file_lacking (x ∷ xs) id s = rw s.0 (file_lacking xs id s.1)

-- whatever stands for a missing item, the item there is the same
pub same_at : {A : Type 0} (xs : List A) (i : ℕ) (a b : A) → i < length xs → get_or xs i a ≡ get_or xs i b
same_at [] i a b l = absurd (omega arith)
same_at (x ∷ xs) zero a b l = refl
same_at (x ∷ xs) (suc i) a b l = same_at xs i a b (omega arith)
