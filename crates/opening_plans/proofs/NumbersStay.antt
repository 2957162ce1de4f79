-- A command that keeps the marks of a folder takes no number away.
use Rattle.std.proofs.Common.{◌≡◌, ℕ, true, List, inl, inr, subst}
use Rattle.mh_base.specs.Entries.{kind_of}
use Rattle.folder_files.specs.Careful.{Keeps, Kind, IsLook, backs_up, clears, commits, discards, drops, removes, replaces, sets_aside, takes}
use Rattle.folder_files.specs.Commands.{KeepsFolder, Marking, begins_folder}
use Rattle.folder_files.specs.Deeds.{Deed, Once, did, last, now, on, still}
use Rattle.folder_files.specs.Named.{is_number}
use Rattle.folder_files.specs.declared.place.Place.{Place}
use Rattle.folder_files.specs.declared.step.Answer.{Answer}
use Rattle.folder_files.specs.declared.step.Step.{Step}
use Rattle.folder_files.specs.declared.step.Step.TheVariants as step
use Rattle.folder_files.proofs.Names.{is_number_unheld, is_temp_any, is_temp_unnumbered, not_both}
use Rattle.file_plans.specs.StaysCareful.{IsOwnStep, careful, only_looks}
use Rattle.step_plans.specs.Endings.{IsTakenAway}
use Rattle.step_plans.proofs.Past.{did_step}
use Rattle.opening_plans.specs.Endings.{HasMetIn, IsMetIn}
use Rattle.opening_plans.proofs.WorkPledged.{serves_begins}

-- a kind that begins a folder unlinks no number
unlinks_none : (run : ℕ) (own : List Deed) (p : Place) (x : List ℕ) (kind : Kind) → Keeps run own kind (step.Unlink p x) → begins_folder kind ≡ true → is_number (kind_of x) ≡ true → ⊥
unlinks_none run own p x kind (clears q t m) b n = not_both (is_number (kind_of x)) n (is_temp_unnumbered x m)
unlinks_none run own p x kind (removes q t m) b n = cc (b)
unlinks_none run own p x kind (drops q t m) b n = not_both _ m.1 (is_number_unheld x n)
unlinks_none run own p x kind (discards q t m) b n = cc (b)

-- nor does it rename one
renames_none : (run : ℕ) (own : List Deed) (p : Place) (x to : List ℕ) (kind : Kind) → Keeps run own kind (step.Rename p x to) → begins_folder kind ≡ true → is_number (kind_of x) ≡ true → ⊥
renames_none run own p x to kind (takes q n h m) b e = cc (b)
renames_none run own p x to kind (backs_up q n h m) b e = cc (b)
renames_none run own p x to kind (commits q t n m) b e = not_both (is_number (kind_of x)) e (is_temp_unnumbered x (is_temp_any run x m.1.0))
renames_none run own p x to kind (replaces q t n m) b e = cc (b)
renames_none run own p x to kind (sets_aside q n o m) b e = cc (b)

begins : (path folder : List ℕ) (kind : Kind) (s : Step) → KeepsFolder path folder kind s → begins_folder kind ≡ true
begins path folder kind s (inl k) = k.0
begins path folder kind s (inr k) = serves_begins kind k.0

pub takes_none : (run : ℕ) (path folder : List ℕ) (own : List Deed) (s : Step) (a : Answer) (p : Place) (x : List ℕ) → IsOwnStep run (Marking path folder) own s → is_number (kind_of x) ≡ true → IsTakenAway p x (did s a) → ⊥
takes_none run path folder own s a p x (only_looks looks) n (inl e) = subst IsLook (did_step e) looks
takes_none run path folder own s a p x (only_looks looks) n (inr w) = subst IsLook (did_step w.1) looks
takes_none run path folder own s a p x (careful unfailed kind keeps makes orderly) n (inl e) = unlinks_none run own p x kind (subst (λ z. Keeps run own kind z) (did_step e) keeps) (begins path folder kind s makes) n
takes_none run path folder own s a p x (careful unfailed kind keeps makes orderly) n (inr w) = renames_none run own p x w.0 kind (subst (λ z. Keeps run own kind z) (did_step w.1) keeps) (begins path folder kind s makes) n

-- what was met and never taken away is met still
pub met_still : (p : Place) (x : List ℕ) (own : List Deed) → Once (λ d older. IsMetIn p x d) own → (Once (λ d older. IsTakenAway p x d) own → ⊥) → HasMetIn p x own
met_still p x _ (now m) never = last m
met_still p x _ (on {own = older} z) never = still (λ t. never (now t)) (met_still p x older z (λ w. never (on w)))
