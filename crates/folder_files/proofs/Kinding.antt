-- The kinds that a step may be of.
use Rattle.std.proofs.Common.{◌≡◌, ◌↔◌, ◌⊎◌, inl, inr, ℕ, true, List, subst}
use Rattle.mh_base.specs.Entries.{kind_of}
use Rattle.folder_files.specs.Careful.{Kind, Makes, Creates, Puts, Gives, Takes, Removes, Drops, Discards, Commits, Clears, Cuts, Stores, Keeps, makes, creates, puts, gives, takes, backs_up, removes, drops, discards, commits, clears, cuts, links, replaces, sets_aside, MayCreate, MayPut, MayGive, MayTake, MayBackUp, MayRemove, MayDrop, MayUnhold, MayCommit, MayStore, MaySetAside, MayCut, IsLook, IsCareful, looks, changes}
use Rattle.folder_files.specs.Deeds.{Deed, HasFailed}
use Rattle.folder_files.specs.Named.{is_temp}
use Rattle.folder_files.specs.declared.place.Place.{Place}
use Rattle.folder_files.specs.declared.place.FilePath.{FilePath}
use Rattle.folder_files.specs.declared.step.Step.{Step}
use Rattle.folder_files.specs.declared.step.Step.TheVariants as step

-- some kind
abbrev pub OfSomeKind : ℕ → List Deed → Step → Type 0
OfSomeKind run own s = (kind : Kind) × Keeps run own kind s

pub makes_kind : (run : ℕ) (own : List Deed) (s : Step) (p : Place) (T : Type 0) → s ≡ step.MakeFolder p → T → T ↔ OfSomeKind run own s
makes_kind run own s p T is t = rw is (λ x. (Makes, makes p), λ k. t)

create_of : (run : ℕ) (own : List Deed) (p : Place) (temp bytes : List ℕ) (kind : Kind) → Keeps run own kind (step.Create p temp bytes) → MayCreate run p temp own
create_of run own p temp bytes kind (creates q t b m) = m

pub creates_kind : (run : ℕ) (own : List Deed) (s : Step) (p : Place) (temp bytes : List ℕ) (T : Type 0) → s ≡ step.Create p temp bytes → T ↔ MayCreate run p temp own → T ↔ OfSomeKind run own s
creates_kind run own s p temp bytes T is e = rw is (λ t. (Creates, creates p temp bytes (e.0 t)), λ k. e.1 (create_of run own p temp bytes k.0 k.1))

abbrev pub MayLink : ℕ → Place → List ℕ → List ℕ → List Deed → Type 0
MayLink run p a b own = MayPut run p a b own ⊎ (MayGive p a b ⊎ MayStore run p a b own)

link_of : (run : ℕ) (own : List Deed) (p : Place) (a b : List ℕ) (kind : Kind) → Keeps run own kind (step.Link p a b) → MayLink run p a b own
link_of run own p a b kind (puts q t n m) = inl m
link_of run own p a b kind (gives q h n m) = inr (inl m)
link_of run own p a b kind (links q t n m) = inr (inr m)

of_link : (run : ℕ) (own : List Deed) (p : Place) (a b : List ℕ) → MayLink run p a b own → OfSomeKind run own (step.Link p a b)
of_link run own p a b (inl m) = (Puts, puts p a b m)
of_link run own p a b (inr (inl m)) = (Gives, gives p a b m)
of_link run own p a b (inr (inr m)) = (Stores, links p a b m)

pub links_kind : (run : ℕ) (own : List Deed) (s : Step) (p : Place) (a b : List ℕ) (T : Type 0) → s ≡ step.Link p a b → T ↔ MayLink run p a b own → T ↔ OfSomeKind run own s
links_kind run own s p a b T is e = rw is (λ t. of_link run own p a b (e.0 t), λ k. e.1 (link_of run own p a b k.0 k.1))

abbrev pub MayRename : ℕ → Place → List ℕ → List ℕ → List Deed → Type 0
MayRename run p a b own = (MayTake run p a b own ⊎ MayBackUp p a b) ⊎ (MayCommit run p a b own ⊎ (MayStore run p a b own ⊎ MaySetAside p a b))

rename_of : (run : ℕ) (own : List Deed) (p : Place) (a b : List ℕ) (kind : Kind) → Keeps run own kind (step.Rename p a b) → MayRename run p a b own
rename_of run own p a b kind (takes q n h m) = inl (inl m)
rename_of run own p a b kind (backs_up q n h m) = inl (inr m)
rename_of run own p a b kind (commits q t n m) = inr (inl m)
rename_of run own p a b kind (replaces q t n m) = inr (inr (inl m))
rename_of run own p a b kind (sets_aside q n o m) = inr (inr (inr m))

of_rename : (run : ℕ) (own : List Deed) (p : Place) (a b : List ℕ) → MayRename run p a b own → OfSomeKind run own (step.Rename p a b)
of_rename run own p a b (inl (inl m)) = (Takes, takes p a b m)
of_rename run own p a b (inl (inr m)) = (Removes, backs_up p a b m)
of_rename run own p a b (inr (inl m)) = (Commits, commits p a b m)
of_rename run own p a b (inr (inr (inl m))) = (Stores, replaces p a b m)
of_rename run own p a b (inr (inr (inr m))) = (Stores, sets_aside p a b m)

pub renames_kind : (run : ℕ) (own : List Deed) (s : Step) (p : Place) (a b : List ℕ) (T : Type 0) → s ≡ step.Rename p a b → T ↔ MayRename run p a b own → T ↔ OfSomeKind run own s
renames_kind run own s p a b T is e = rw is (λ t. of_rename run own p a b (e.0 t), λ k. e.1 (rename_of run own p a b k.0 k.1))

abbrev pub MayUnlink : ℕ → Place → List ℕ → List Deed → Type 0
MayUnlink run p n own = (is_temp (kind_of n) ≡ true) ⊎ (MayRemove p n ⊎ (MayDrop p n own ⊎ MayUnhold run p n own))

unlink_of : (run : ℕ) (own : List Deed) (p : Place) (n : List ℕ) (kind : Kind) → Keeps run own kind (step.Unlink p n) → MayUnlink run p n own
unlink_of run own p n kind (clears q t m) = inl m
unlink_of run own p n kind (removes q t m) = inr (inl m)
unlink_of run own p n kind (drops q t m) = inr (inr (inl m))
unlink_of run own p n kind (discards q t m) = inr (inr (inr m))

of_unlink : (run : ℕ) (own : List Deed) (p : Place) (n : List ℕ) → MayUnlink run p n own → OfSomeKind run own (step.Unlink p n)
of_unlink run own p n (inl m) = (Clears, clears p n m)
of_unlink run own p n (inr (inl m)) = (Removes, removes p n m)
of_unlink run own p n (inr (inr (inl m))) = (Drops, drops p n m)
of_unlink run own p n (inr (inr (inr m))) = (Discards, discards p n m)

pub unlinks_kind : (run : ℕ) (own : List Deed) (s : Step) (p : Place) (n : List ℕ) (T : Type 0) → s ≡ step.Unlink p n → T ↔ MayUnlink run p n own → T ↔ OfSomeKind run own s
unlinks_kind run own s p n T is e = rw is (λ t. of_unlink run own p n (e.0 t), λ k. e.1 (unlink_of run own p n k.0 k.1))

cut_of : (run : ℕ) (own : List Deed) (f : FilePath) (n : ℕ) (kind : Kind) → Keeps run own kind (step.CutDrop f n) → MayCut run f n own
cut_of run own f n kind (cuts g m c) = c

pub cuts_kind : (run : ℕ) (own : List Deed) (s : Step) (f : FilePath) (n : ℕ) (T : Type 0) → s ≡ step.CutDrop f n → T ↔ MayCut run f n own → T ↔ OfSomeKind run own s
cuts_kind run own s f n T is e = rw is (λ t. (Cuts, cuts f n (e.0 t)), λ k. e.1 (cut_of run own f n k.0 k.1))

-- a step that looks is always careful
pub careful_look : (run : ℕ) (own : List Deed) (s : Step) (T : Type 0) → IsLook s → T → T ↔ IsCareful run own s
careful_look run own s T l t = (λ x. looks l, λ c. t)

-- after a failure nothing else is
pub careful_failed : (run : ℕ) (own : List Deed) (s : Step) (T : Type 0) → (IsLook s → ⊥) → HasFailed own → (T → ⊥) → T ↔ IsCareful run own s
careful_failed run own s T l f n = (λ t. absurd (n t), go)
  where
    go : IsCareful run own s → T
    go (looks x) = absurd (l x)
    go (changes g k h) = absurd (g f)

-- otherwise it has to be of a kind
pub careful_kind : (run : ℕ) (deeds own : List Deed) (s : Step) (T : Type 0) → deeds ≡ own → (IsLook s → ⊥) → (HasFailed deeds → ⊥) → T ↔ OfSomeKind run deeds s → T ↔ IsCareful run own s
careful_kind run deeds own s T is l f e = subst (λ ds. T ↔ IsCareful run ds s) is (λ t. changes f (e.0 t).0 (e.0 t).1, go)
  where
    go : IsCareful run deeds s → T
    go (looks x) = absurd (l x)
    go (changes g k h) = e.1 (k, h)
