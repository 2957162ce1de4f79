-- Branches of the plans by which sequences are committed.
use Rattle.std.proofs.Common.{◌≡◌, ◌<◌, ◌≤◌, ℕ, List, Bool, true, false, Result, Ok, Err, refl, sym, ◌∙◌, length}
use Rattle.std.specs.Prelude.{◌&&◌, bytes_eq}
use Rattle.std.proofs.lemmas.Bool.{lt-ltb, le-ltb}
use Rattle.mh_base.specs.Entries.{entry_text}
use Rattle.mh_base.specs.declared.entry.Entry.TheVariants.{Sequences}
use Rattle.mh_profile.specs.declared.named_value.NamedValue.{NamedValue}
use Rattle.mh_sequences.specs.Printing.{private_entries, text_of}
use Rattle.mh_sequences.specs.Reading.{suffix}
use Rattle.mh_sequences.specs.Sequences.{Marked}
use Rattle.folder_files.specs.Story.{FilesState}
use Rattle.folder_files.specs.declared.place.Place.{Place}
use Rattle.file_plans.specs.Plan.{Hand}
use Rattle.file_plans.specs.Follows.{State, Follows, by_hand}
use Rattle.file_plans.proofs.Following.{recalled, done, refuses}
use Rattle.step_plans.specs.ContextCommit.{LIMIT_BYTES, commit_context}
use Rattle.step_plans.specs.PlanFaults.{plan_cause}
use Rattle.step_plans.specs.Replacing.{replaced}
use Rattle.step_plans.specs.declared.fault.PlanFault.{PlanFault}
use Rattle.step_plans.specs.declared.fault.PlanFault.TheVariants as fault
use Rattle.sequence_commits.specs.Committing.{sequences_replaced, entries_committed, sequences_committed, committed_unless, changed_sequences}
use Rattle.sequence_commits.specs.PrivateChanges.{changes_to}
use Rattle.mh_profile.specs.Reading.{entries_seen}
use Rattle.sequence_commits.specs.Telling.{same_entries, tells}

-- a text that is too long
pub too_long : (run : ℕ) (p : Place) (text : List ℕ) (n : ℕ) {x : State} → n ≡ length text → LIMIT_BYTES < n → Follows run plan_cause (sequences_replaced run p text) x x (Err (fault.TooLarge n))
unfolding sequences_replaced
too_long run p text n e h = rw (sym e, lt-ltb LIMIT_BYTES n h) (refuses _ refl)

-- a text that is not
pub not_long : (run : ℕ) (p : Place) (text : List ℕ) (n : ℕ) {x y : State} {r : Result Unit PlanFault} → n ≡ length text → n ≤ LIMIT_BYTES → Follows run plan_cause (replaced run p (entry_text Sequences) text) x y r → Follows run plan_cause (sequences_replaced run p text) x y r
unfolding sequences_replaced
not_long run p text n e h f = rw (sym e, le-ltb _ _ h) f

-- the changes, by what the run has seen of the context
pub by_seen : (run : ℕ) (mail : Place) (ending : List ℕ) (kept : List NamedValue) (h : Hand) (f : FilesState) {y : State} {r : Result Unit PlanFault} →
    Follows run plan_cause (commit_context run mail (changes_to ending kept (entries_seen h.context))) (by_hand h f) y r → Follows run plan_cause (entries_committed run mail ending kept) (by_hand h f) y r
unfolding entries_committed
by_seen run mail ending kept h f w = recalled (λ i. commit_context run mail (changes_to ending kept (entries_seen i.context))) w

-- whether these are told
pub tells_by : (folder : List ℕ) (new : Marked) (a b : List ℕ) (es fs : List NamedValue) (t : Bool) → t ≡ (bytes_eq a b && same_entries es fs) → b ≡ text_of new → fs ≡ private_entries (suffix folder) new.users → t ≡ tells a es folder new
tells_by folder new a b es fs t is r s = is ∙ (λ i. bytes_eq a (r i) && same_entries es (s i))

-- what was told is of the old sequences, and the new ones are these
pub tells_old : (run : ℕ) (p mail : Place) (folder : List ℕ) (old new made : Marked) (a : List ℕ) (es : List NamedValue) {x y : State} {r : Result Unit PlanFault} → a ≡ text_of old → es ≡ private_entries (suffix folder) old.users → made ≡ new
    → Follows run plan_cause (committed_unless (tells a es folder made) run p mail folder made) x y r → Follows run plan_cause (changed_sequences run p mail folder old new) x y r
unfolding changed_sequences
tells_old run p mail folder old new made a es p_is q_is e f = rw (← p_is, ← q_is, ← e) f

-- nothing has changed
pub unchanged : (run : ℕ) (p mail : Place) (folder : List ℕ) (new : Marked) (b t : Bool) {x : State} → t ≡ b → t ≡ true → Follows run plan_cause (committed_unless b run p mail folder new) x x (Ok tt)
unchanged run p mail folder new b t e is = rw (sym e ∙ is) done

-- something has
pub changes : (run : ℕ) (p mail : Place) (folder : List ℕ) (new : Marked) (b t : Bool) {x y : State} {r : Result Unit PlanFault} → t ≡ b → t ≡ false →
    Follows run plan_cause (sequences_committed run p mail folder new) x y r → Follows run plan_cause (committed_unless b run p mail folder new) x y r
changes run p mail folder new b t e is w = rw (sym e ∙ is) w
