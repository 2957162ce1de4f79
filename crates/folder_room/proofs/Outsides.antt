-- Outside files by their paths.
use Rattle.std.proofs.Common.{◌≡◌, ◌≢◌, ◌++◌, ◌==◌, ◌&&◌, ℕ, zero, suc, Bool, true, false, List, [], ◌∷◌, length, get_or, set, Option, Some, None, bytes_eq, refl, sym, ◌∙◌, ap, subst}
use Rattle.std.proofs.lemmas.Bool.Decides.{Decides-eqb}
use Rattle.std.proofs.lemmas.Slice.Eq.{bytes_eq-Decides}
use Rattle.std.specs.Prelude.{if◌then◌else◌}
use Rattle.folder_files.specs.Histories.{delivered, after_delivery}
use Rattle.folder_files.specs.Places.{same_path, same_flag}
use Rattle.folder_room.specs.Positions.{SkipsBy, IsAtBy}
use Rattle.folder_files.specs.Steps.{made, cut_at, cut_answer}
use Rattle.folder_files.specs.declared.step.Answer.TheVariants as answer
use Rattle.folder_files.specs.Worlds.{shown, outside_of}
use Rattle.folder_files.specs.declared.place.FilePath.{FilePath}
use Rattle.folder_files.specs.declared.step.Step.TheVariants as step
use Rattle.folder_files.specs.declared.world.Outside.{Outside}
use Rattle.folder_files.specs.declared.world.World.{World}
use Rattle.folder_files.proofs.Sameness.{path_same}

flag_is : (a : Bool) → same_flag a a ≡ true
flag_is true = refl
flag_is false = refl

pub path_is : (a : FilePath) → same_path a a ≡ true
path_is a = rw (flag_is a.home, (bytes_eq-Decides a.text a.text).1 refl) refl

pub outside_found : (os : List Outside) (i : ℕ) (q : FilePath) (d : Outside) → SkipsBy (λ o. same_path o.path q) os i → IsAtBy (λ o. same_path o.path q) os i → outside_of os q ≡ Some (get_or os i d).bytes
outside_found [] i q d s is = absurd is
outside_found (o ∷ os) zero q d s is = rw is refl
outside_found (o ∷ os) (suc i) q d s is = rw s.0 (outside_found os i q d s.1 is)

pub path_found : (os : List Outside) (i : ℕ) (q : FilePath) (d : Outside) → IsAtBy (λ o. same_path o.path q) os i → (get_or os i d).path ≡ q
path_found [] i q d is = absurd is
path_found (o ∷ os) zero q d is = path_same o.path q is
path_found (o ∷ os) (suc i) q d is = path_found os i q d is

pub outside_lacking : (os : List Outside) (q : FilePath) → SkipsBy (λ o. same_path o.path q) os (length os) → outside_of os q ≡ None
outside_lacking [] q s = refl
outside_lacking (o ∷ os) q s = rw s.0 (outside_lacking os q s.1)

pub outside_set : (os : List Outside) (i : ℕ) (q f : FilePath) (new : Outside) → SkipsBy (λ o. same_path o.path q) os i → IsAtBy (λ o. same_path o.path q) os i → new.path ≡ q
    → outside_of (set os i new) f ≡ (if same_path q f then Some new.bytes else outside_of os f)
outside_set [] i q f new s is e = absurd is
outside_set (o ∷ os) zero q f new s is e = rw (e, path_same o.path q is) (go (same_path q f))
  where
    go : (b : Bool) → (if b then Some new.bytes else outside_of os f) ≡ (if b then Some new.bytes else (if b then Some o.bytes else outside_of os f))
    go true = refl
    go false = refl
outside_set (o ∷ os) (suc i) q f new s is e = go (same_path o.path f) (same_path q f) (path_same o.path f) (path_same q f) (outside_set os i q f new s.1 is e)
  where
    apart : o.path ≡ f → q ≡ f → true ≡ false
    apart a b = sym (subst (λ x. same_path o.path x ≡ true) (a ∙ sym b) (path_is o.path)) ∙ s.0

    go : (v u : Bool) → (v ≡ true → o.path ≡ f) → (u ≡ true → q ≡ f) → outside_of (set os i new) f ≡ (if u then Some new.bytes else outside_of os f)
        → (if v then Some o.bytes else outside_of (set os i new) f) ≡ (if u then Some new.bytes else (if v then Some o.bytes else outside_of os f))
    go true true a b r = absurd (cc (apart (a refl) (b refl)))
    go true false a b r = refl
    go false true a b r = r
    go false false a b r = r

outside_last : (os : List Outside) (q f : FilePath) (new : Outside) → SkipsBy (λ o. same_path o.path q) os (length os) → new.path ≡ q
    → outside_of (os ++ new ∷ []) f ≡ (if same_path q f then Some new.bytes else outside_of os f)
outside_last [] q f new s e = rw e refl
outside_last (o ∷ os) q f new s e = go (same_path o.path f) (same_path q f) (path_same o.path f) (path_same q f) (outside_last os q f new s.1 e)
  where
    apart : o.path ≡ f → q ≡ f → true ≡ false
    apart a b = sym (subst (λ x. same_path o.path x ≡ true) (a ∙ sym b) (path_is o.path)) ∙ s.0

    go : (v u : Bool) → (v ≡ true → o.path ≡ f) → (u ≡ true → q ≡ f) → outside_of (os ++ new ∷ []) f ≡ (if u then Some new.bytes else outside_of os f)
        → (if v then Some o.bytes else outside_of (os ++ new ∷ []) f) ≡ (if u then Some new.bytes else (if v then Some o.bytes else outside_of os f))
    go true true a b r = absurd (cc (apart (a refl) (b refl)))
    go true false a b r = refl
    go false true a b r = r
    go false false a b r = r

-- what one path has afterwards, by what it had
by_path : (q f : FilePath) (o : Option (List ℕ)) (look : FilePath → Option (List ℕ)) (change : Option (List ℕ) → Option (List ℕ)) → o ≡ change (look q) → (if same_path q f then o else look f) ≡ (if same_path q f then change (look f) else look f)
by_path q f o look change e = go (same_path q f) (path_same q f)
  where
    go : (b : Bool) → (b ≡ true → q ≡ f) → (if b then o else look f) ≡ (if b then change (look f) else look f)
    go true p = e ∙ ap (λ x. change (look x)) (p refl)
    go false p = refl

stays : (q f : FilePath) (look : FilePath → Option (List ℕ)) (change : Option (List ℕ) → Option (List ℕ)) → change (look q) ≡ look q → look f ≡ (if same_path q f then change (look f) else look f)
stays q f look change e = go (same_path q f) (path_same q f)
  where
    go : (b : Bool) → (b ≡ true → q ≡ f) → look f ≡ (if b then change (look f) else look f)
    go true p = subst (λ x. look x ≡ change (look x)) (p refl) (sym e)
    go false p = refl

is_length : (a b : ℕ) → a ≡ b → (a == b) ≡ true
is_length a b e = (Decides-eqb a b).1 e

no_length : (a b : ℕ) → a ≢ b → (a == b) ≡ false
no_length a b n = go (a == b) ((Decides-eqb a b).0)
  where
    go : (v : Bool) → (v ≡ true → a ≡ b) → v ≡ false
    go true p = absurd (n (p refl))
    go false p = refl

pub cut_made : (w : World) (run : ℕ) (q : FilePath) (n i : ℕ) (d : Outside) (empty : List ℕ) → empty ≡ [] → SkipsBy (λ o. same_path o.path q) w.drops i → IsAtBy (λ o. same_path o.path q) w.drops i → d ≡ get_or w.drops i d → length d.bytes ≡ n
    → shown (record w { drops = set w.drops i (record { path = d.path; bytes = empty }) }) ≡ made (shown w) run (step.CutDrop q n)
unfolding made shown
cut_made w run q n i d empty none_left s is same l = λ j. record {
  directories = (shown w).directories;
  files = (shown w).files;
  next_file = (shown w).next_file;
  outside = λ f. (each f) j;
  holds = (shown w).holds;
  ended = (shown w).ended;
}
  where
    new : Outside
    new = record { path = d.path; bytes = empty }

    found : outside_of w.drops q ≡ Some d.bytes
    found = outside_found w.drops i q d s is ∙ ap (λ (o : Outside). Some o.bytes) (sym same)

    each : (f : FilePath) → outside_of (set w.drops i new) f ≡ (if same_path q f then cut_at n (outside_of w.drops f) else outside_of w.drops f)
    each f =
        outside_set w.drops i q f new s is (ap (λ (o : Outside). o.path) same ∙ path_found w.drops i q d is)
        ∙ by_path q f (Some empty) (outside_of w.drops) (cut_at n) (ap Some none_left ∙ sym (ap (cut_at n) found ∙ ap (λ b. if b then Some [] else Some d.bytes) (is_length (length d.bytes) n l)))

pub cut_longer : (w : World) (run : ℕ) (q : FilePath) (n i : ℕ) (d : Outside) → SkipsBy (λ o. same_path o.path q) w.drops i → IsAtBy (λ o. same_path o.path q) w.drops i → d ≡ get_or w.drops i d → length d.bytes ≢ n
    → shown w ≡ made (shown w) run (step.CutDrop q n)
unfolding made shown
cut_longer w run q n i d s is same l = λ j. record {
  directories = (shown w).directories;
  files = (shown w).files;
  next_file = (shown w).next_file;
  outside = λ f. stays q f (outside_of w.drops) (cut_at n) kept j;
  holds = (shown w).holds;
  ended = (shown w).ended;
}
  where
    found : outside_of w.drops q ≡ Some d.bytes
    found = outside_found w.drops i q d s is ∙ ap (λ (o : Outside). Some o.bytes) (sym same)

    kept : cut_at n (outside_of w.drops q) ≡ outside_of w.drops q
    kept = ap (cut_at n) found ∙ ap (λ b. if b then Some [] else Some d.bytes) (no_length (length d.bytes) n l) ∙ sym found

pub cut_missing : (w : World) (run : ℕ) (q : FilePath) (n : ℕ) → SkipsBy (λ o. same_path o.path q) w.drops (length w.drops) → shown w ≡ made (shown w) run (step.CutDrop q n)
unfolding made shown
cut_missing w run q n s = λ j. record {
  directories = (shown w).directories;
  files = (shown w).files;
  next_file = (shown w).next_file;
  outside = λ f. stays q f (outside_of w.drops) (cut_at n) (ap (cut_at n) (outside_lacking w.drops q s) ∙ sym (outside_lacking w.drops q s)) j;
  holds = (shown w).holds;
  ended = (shown w).ended;
}

pub delivered_more : (w : World) (q : FilePath) (piece : List ℕ) (i : ℕ) (d : Outside) (bytes : List ℕ) → SkipsBy (λ o. same_path o.path q) w.drops i → IsAtBy (λ o. same_path o.path q) w.drops i → d ≡ get_or w.drops i d
    → bytes ≡ d.bytes ++ piece → shown (record w { drops = set w.drops i (record { path = d.path; bytes = bytes }) }) ≡ after_delivery (shown w) q piece
unfolding shown
delivered_more w q piece i d bytes s is same e = λ j. record {
  directories = (shown w).directories;
  files = (shown w).files;
  next_file = (shown w).next_file;
  outside = λ f. (each f) j;
  holds = (shown w).holds;
  ended = (shown w).ended;
}
  where
    found : outside_of w.drops q ≡ Some d.bytes
    found = outside_found w.drops i q d s is ∙ ap (λ (o : Outside). Some o.bytes) (sym same)

    each : (f : FilePath) → outside_of (set w.drops i (record { path = d.path; bytes = bytes })) f ≡ (if same_path q f then delivered (outside_of w.drops f) piece else outside_of w.drops f)
    each f =
        outside_set w.drops i q f (record { path = d.path; bytes = bytes }) s is (ap (λ (o : Outside). o.path) same ∙ path_found w.drops i q d is)
        ∙ by_path q f (Some bytes) (outside_of w.drops) (λ o. delivered o piece) (ap Some e ∙ sym (ap (λ o. delivered o piece) found))

pub delivered_first : (w : World) (q : FilePath) (piece : List ℕ) (drops : List Outside) (path : FilePath) (bytes : List ℕ) → SkipsBy (λ o. same_path o.path q) w.drops (length w.drops) → path ≡ q → bytes ≡ piece
    → drops ≡ w.drops ++ record { path = path; bytes = bytes } ∷ [] → shown (record w { drops = drops }) ≡ after_delivery (shown w) q piece
unfolding shown
delivered_first w q piece drops path bytes s p b l = λ j. record {
  directories = (shown w).directories;
  files = (shown w).files;
  next_file = (shown w).next_file;
  outside = λ f. (each f) j;
  holds = (shown w).holds;
  ended = (shown w).ended;
}
  where
    each : (f : FilePath) → outside_of drops f ≡ (if same_path q f then delivered (outside_of w.drops f) piece else outside_of w.drops f)
    each f =
        ap (λ x. outside_of x f) l ∙ outside_last w.drops q f (record { path = path; bytes = bytes }) s p
        ∙ by_path q f (Some bytes) (outside_of w.drops) (λ o. delivered o piece) (ap Some b ∙ sym (ap (λ o. delivered o piece) (outside_lacking w.drops q s)))

pub path_test : (a b : FilePath) → a ≡ b → same_path a b ≡ true
path_test a b e = subst (λ x. same_path a x ≡ true) e (path_is a)

pub path_apart : (a b : FilePath) → (a ≡ b → ⊥) → same_path a b ≡ false
path_apart a b n = go (same_path a b) (path_same a b)
  where
    go : (v : Bool) → (v ≡ true → a ≡ b) → v ≡ false
    go true e = absurd (n (e refl))
    go false e = refl

pub cut_done : (n : ℕ) (bytes : List ℕ) (o : Option (List ℕ)) → o ≡ Some bytes → length bytes ≡ n → answer.Done ≡ cut_answer n o
cut_done n bytes o e l = sym (ap (cut_answer n) e ∙ ap (λ b. if b then answer.Done else answer.Grown) (is_length (length bytes) n l))

pub cut_grown : (n : ℕ) (bytes : List ℕ) (o : Option (List ℕ)) → o ≡ Some bytes → length bytes ≢ n → answer.Grown ≡ cut_answer n o
cut_grown n bytes o e l = sym (ap (cut_answer n) e ∙ ap (λ b. if b then answer.Done else answer.Grown) (no_length (length bytes) n l))
