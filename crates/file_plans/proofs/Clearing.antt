-- A directory cleared of temporary names.
use Rattle.std.proofs.Common.{◌≡◌, ◌&&◌, ◌||◌, ℕ, Bool, true, false, List, [], ◌∷◌, Option, Some, None, refl, sym, ◌∙◌, ap, bytes_eq, nat_cmp}
use Rattle.std.specs.Prelude.{is_some, if◌then◌else◌}
use Rattle.std.specs.Cmp.Lexicographic.{slice_cmp}
use Rattle.std.specs.declared.cmp.Ordering.TheVariants.{Less}
use Rattle.std.specs.Ordering.{is_eq}
use Rattle.std.proofs.lemmas.Cmp.{nat_list_cmp_total}
use Rattle.std.proofs.lemmas.Map.Text.{is_eq-slice_cmp}
use Rattle.mh_base.specs.Entries.{kind_of}
use Rattle.folder_files.specs.Named.{is_temp}
use Rattle.folder_files.specs.Places.{same_place}
use Rattle.folder_files.specs.Steps.{IsAscending, has_text}
use Rattle.folder_files.specs.declared.place.Place.{Place}
use Rattle.folder_files.proofs.Names.{bytes_true, not_both, or_last}
use Rattle.folder_files.proofs.Sameness.{at_all, place_is}
use Rattle.file_plans.specs.Contents.{Contents, IsListingIn, with_text}
use Rattle.file_plans.proofs.Existing.{bytes_turned}

-- no name stands twice in a listing
less_not : (a b : List ℕ) → slice_cmp nat_cmp a b ≡ Less → bytes_eq b a ≡ false
less_not a b e = bytes_turned a b (sym (is_eq-slice_cmp a b) ∙ ap is_eq e)

pub listed_once : (a : List ℕ) (names : List (List ℕ)) → IsAscending (a ∷ names) → has_text a names ≡ false
listed_once a [] s = refl
listed_once a (b ∷ names) s = rw (less_not a b s.0) (listed_once a names (without names s))
  where
    without : (names : List (List ℕ)) → IsAscending (a ∷ (b ∷ names)) → IsAscending (a ∷ names)
    without [] s = tt
    without (d ∷ ds) s = (nat_list_cmp_total.trans a b d s.0 s.1.0, s.1.1)

pub rest_ascending : (a : List ℕ) (names : List (List ℕ)) → IsAscending (a ∷ names) → IsAscending names
rest_ascending a [] s = tt
rest_ascending a (b ∷ names) s = s.1

-- the Temp names among these lead to nothing
unfoldable pub cleared_in : Contents → Place → List (List ℕ) → Contents
cleared_in c p [] = c
cleared_in c p (n ∷ names) = if is_temp (kind_of n) then cleared_in (with_text c p n None) p names else cleared_in c p names

-- no Temp name of the place leads to anything
abbrev pub without_temps : Contents → Place → Contents
without_temps c p = record { there = c.there; texts = λ q x. if same_place p q && is_temp (kind_of x) then None else c.texts q x; outside = c.outside }

abbrev without_listed : Contents → Place → List (List ℕ) → Contents
without_listed c p names = record { there = c.there; texts = λ q x. if (same_place p q && is_temp (kind_of x)) && has_text x names then None else c.texts q x; outside = c.outside }

cleared_is : (c : Contents) (p : Place) (names : List (List ℕ)) → cleared_in c p names ≡ without_listed c p names
unfolding cleared_in
cleared_is c p [] = λ i. record { there = c.there; texts = λ q x. none (same_place p q && is_temp (kind_of x)) (c.texts q x) i; outside = c.outside }
  where
    none : (b : Bool) (o : Option (List ℕ)) → o ≡ (if b && false then None else o)
    none true o = refl
    none false o = refl
cleared_is c p (n ∷ names) = go (is_temp (kind_of n)) refl (cleared_is (with_text c p n None) p names) (cleared_is c p names)
  where
    hit : (s t e h : Bool) (o : Option (List ℕ)) → (e ≡ true → t ≡ true) → (if (s && t) && h then None else (if s && e then None else o)) ≡ (if (s && t) && (e || h) then None else o)
    hit true true true true o f = refl
    hit true true true false o f = refl
    hit true true false h o f = refl
    hit true false true h o f = absurd (let t : false ≡ true = f refl in cc)
    hit true false false h o f = refl
    hit false t e h o f = refl

    miss : (s t e h : Bool) (o : Option (List ℕ)) → (e ≡ true → t ≡ false) → (if (s && t) && h then None else o) ≡ (if (s && t) && (e || h) then None else o)
    miss true true true h o f = absurd (let t : true ≡ false = f refl in cc)
    miss true true false h o f = refl
    miss true false e h o f = refl
    miss false t e h o f = refl

    kind : (v : Bool) → is_temp (kind_of n) ≡ v → (x : List ℕ) → bytes_eq n x ≡ true → is_temp (kind_of x) ≡ v
    kind v f x e = ap (λ z. is_temp (kind_of z)) (sym (bytes_true n x e)) ∙ f

    go : (v : Bool) → is_temp (kind_of n) ≡ v → cleared_in (with_text c p n None) p names ≡ without_listed (with_text c p n None) p names → cleared_in c p names ≡ without_listed c p names
        → (if v then cleared_in (with_text c p n None) p names else cleared_in c p names) ≡ without_listed c p (n ∷ names)
    go true f a b = a ∙ (λ i. record { there = c.there; texts = λ q x. hit (same_place p q) (is_temp (kind_of x)) (bytes_eq n x) (has_text x names) (c.texts q x) (kind true f x) i; outside = c.outside })
    go false f a b = b ∙ (λ i. record { there = c.there; texts = λ q x. miss (same_place p q) (is_temp (kind_of x)) (bytes_eq n x) (has_text x names) (c.texts q x) (kind false f x) i; outside = c.outside })

-- where the names have all Temp names, these are gone
pub cleared_temps : (c : Contents) (p : Place) (names : List (List ℕ)) → ((x : List ℕ) → is_temp (kind_of x) ≡ true → has_text x names ≡ is_some (c.texts p x)) → cleared_in c p names ≡ without_temps c p
cleared_temps c p names l = cleared_is c p names ∙ (λ i. record { there = c.there; texts = λ q x. each q x i; outside = c.outside })
  where
    all : (t h : Bool) (o : Option (List ℕ)) → (t ≡ true → h ≡ is_some o) → (if t && h then None else o) ≡ (if t then None else o)
    all true true o e = refl
    all true false None e = refl
    all true false (Some text) e = absurd (let f : false ≡ true = e refl in cc (f))
    all false h o e = refl

    each : (q : Place) (x : List ℕ) → (without_listed c p names).texts q x ≡ (without_temps c p).texts q x
    each = at_all p (λ q. (x : List ℕ) → (without_listed c p names).texts q x ≡ (without_temps c p).texts q x) (λ x. rw (place_is p) (all (is_temp (kind_of x)) (has_text x names) (c.texts p x) (l x))) (λ q f x. rw f refl)

-- so where they are the listing
pub cleared_all : (c : Contents) (p : Place) (names : List (List ℕ)) → IsListingIn c p names → cleared_in c p names ≡ without_temps c p
cleared_all c p names l = cleared_temps c p names (λ x t. l.all x)

-- each Temp name among these is there
abbrev pub AreThere : Contents → Place → List (List ℕ) → Type 0
AreThere c p names = (x : List ℕ) → has_text x names ≡ true → is_temp (kind_of x) ≡ true → is_some (c.texts p x) ≡ true

-- those that are left are still there
pub still_there : (c : Contents) (p : Place) (n : List ℕ) (names : List (List ℕ)) → has_text n names ≡ false → AreThere c p (n ∷ names) → AreThere (with_text c p n None) p names
still_there c p n names once all x e t = go (bytes_eq n x) refl
  where
    go : (v : Bool) → bytes_eq n x ≡ v → is_some (if same_place p p && bytes_eq n x then None else c.texts p x) ≡ true
    go true f = absurd (not_both (has_text x names) e (ap (λ z. has_text z names) (sym (bytes_true n x f)) ∙ once))
    go false f = rw (place_is p, f) (all x (or_last (bytes_eq n x) (has_text x names) e) t)
