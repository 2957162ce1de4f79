-- A commit, step by step: such a history is there, its base is the text that the file had, and its text stays.
use Rattle.std.proofs.Common.{◌≡◌, ℕ, true, inl, inr, List, [], ◌∷◌, None, refl, ap, codes}
use Rattle.mh_base.specs.Entries.{kind_of}
use Rattle.mh_base.specs.declared.entry.Entry.TheVariants.{Sequences}
use Rattle.folder_files.specs.Careful.{Creates, Commits, creates, commits, looks, changes, WasMade, HasBase, HasLock}
use Rattle.folder_files.specs.Deeds.{now, on, last, still}
use Rattle.folder_files.specs.Histories.{world_after, own, IsLegal, begins, answers, AreCareful, AreHonest, AreOrderly}
use Rattle.folder_files.specs.Named.{is_temp_of, is_sequences, is_committed}
use Rattle.folder_files.specs.Steps.{made}
use Rattle.folder_files.specs.Worlds.{shown, IsStart}
use Rattle.folder_files.specs.declared.event.After.TheVariants.{Made}
use Rattle.folder_files.specs.declared.event.Event.{Event}
use Rattle.folder_files.specs.declared.event.Event.TheVariants.{Act}
use Rattle.folder_files.specs.declared.step.Answer.TheVariants.{Done, Gone, Failed}
use Rattle.folder_files.specs.declared.step.Step.TheVariants.{Lock, Read, Create, SyncFile, SyncFolder, Rename}
use Rattle.folder_files.specs.declared.world.World.{World}
use Rattle.step_plans.specs.Commits.{IsBase, IsSettled, HasTextFirmly, now, on}
use Rattle.step_plans.specs.Moments.{live}
use Rattle.folder_files.specs.Standing.{is_own_of}
use Rattle.step_plans.specs.Starts.{HasNoneOfTheirs}
use Rattle.step_plans.proofs.Past.{once_head, once_none}
use Rattle.step_plans.proofs.Bases.{base_law}
use Rattle.step_plans.proofs.Settling.{settled_law}
use Rattle.step_plans.proofs.Stage.{inbox, temp, temp_is, unfailed, done_is_no_failure}
use Rattle.folder_files.proofs.Sameness.{at_all}

abbrev pub sequences : List ℕ
sequences = codes ".mh_sequences"

abbrev pub text : List ℕ
text = codes "unseen: 2\n"

-- an empty folder
abbrev pub begun : World
begun = record { directories = record { place = inbox; safe = []; pending = [] } ∷ []; files = []; drops = []; locks = []; ended = [] }

abbrev pub locked : List Event
locked = Act 5 (Lock inbox) Done Made ∷ []

abbrev pub read : List Event
read = Act 5 (Read inbox sequences 100) Gone Made ∷ locked

abbrev pub created : List Event
created = Act 5 (Create inbox temp text) Done Made ∷ read

abbrev pub ready : List Event
ready = Act 5 (SyncFile inbox temp) Done Made ∷ created

abbrev pub committed : List Event
committed = Act 5 (Rename inbox temp sequences) Done Made ∷ ready

abbrev pub settled : List Event
settled = Act 5 (SyncFolder inbox) Done Made ∷ committed

pub begun_starts : IsStart begun
begun_starts = record { directories = (refl, refl, tt, tt); files = tt; outside = tt; no_lock = refl }

pub committed_is_legal : IsLegal begun committed
unfolding world_after made shown
committed_is_legal = answers 5 (Rename inbox temp sequences) Done (answers 5 (SyncFile inbox temp) Done (answers 5 (Create inbox temp text) Done (answers 5 (Read inbox sequences 100) Gone
    (answers 5 (Lock inbox) Done begins refl refl) refl refl) refl refl) refl refl) refl refl

pub settled_is_legal : IsLegal begun settled
unfolding world_after made shown
settled_is_legal = answers 5 (SyncFolder inbox) Done committed_is_legal refl refl

pub sequences_is : kind_of sequences ≡ Sequences
unfolding kind_of
sequences_is = refl

pub is_one : is_committed inbox sequences ≡ true
is_one = ap (λ k. is_sequences k) sequences_is

pub created_is_careful : AreCareful created
unfolding own
created_is_careful = ((λ on. changes (unfailed (own 5 read) (no_failure, (done_is_no_failure, tt))) Creates (creates inbox temp text (ap (λ k. is_temp_of 5 k) temp_is, not_made))), ((λ on. looks tt), ((λ on. looks tt), tt)))
  where
    no_failure : Gone ≡ Failed → ⊥
    no_failure e = cc (e)

    not_made : WasMade inbox temp (own 5 read) → ⊥
    not_made w = elim (once_head w) [
      | inl e ↦ (let z = ap (λ d. d.step) e.1 in cc (z))
      | inr y ↦ elim (once_head y) [ inl e ↦ (let z = ap (λ d. d.step) e.1 in cc (z)) | inr k ↦ once_none k ]
    ]

pub has_base : HasBase 5 inbox sequences (own 5 ready)
unfolding own
has_base = still (λ e. cc (e)) (still (λ e. cc (e)) (last (inr (inl (100, refl)), last refl)))

pub committed_is_careful : AreCareful committed
unfolding own
committed_is_careful = (
  λ on. changes (unfailed (own 5 ready) (done_is_no_failure, (done_is_no_failure, (no_failure, (done_is_no_failure, tt))))) Commits
      (commits inbox temp sequences (is_one, (ap (λ k. is_temp_of 5 k) temp_is, now (refl, now (text, refl))), has_base)),
  ((λ on. looks tt), created_is_careful),
)
  where
    no_failure : Gone ≡ Failed → ⊥
    no_failure e = cc (e)

pub committed_is_honest : AreHonest begun committed
unfolding world_after shown
committed_is_honest = ((λ other n. refl), tt)

pub lock_when_read : HasLock inbox (own 5 read)
unfolding own
lock_when_read = still (λ e. cc (e)) (last refl)

pub lock_when_ready : HasLock inbox (own 5 ready)
unfolding own
lock_when_ready = still (λ e. cc (e)) (still (λ e. cc (e)) (still (λ e. cc (e)) (last refl)))

pub committed_is_orderly : AreOrderly committed
committed_is_orderly = ((λ p l c. rw c lock_when_ready), ((λ p l c. absurd c), ((λ p l c. rw c lock_when_read), ((λ p l c. absurd c), ((λ p l c. absurd c), tt)))))

pub none_of_theirs : (past : List Event) → HasNoneOfTheirs begun past
unfolding shown
none_of_theirs past r acted = at_all inbox (λ p. (x : List ℕ) → is_own_of r x ≡ true → ((shown begun).directories p).safe x ≡ None) (λ x o. refl) (λ p e x o. rw e refl)

-- the base of the commit is that the file was missing
pub base_is_empty : IsBase 5 inbox sequences [] (own 5 ready)
unfolding world_after made shown
base_is_empty = base_law begun ready 5 inbox temp sequences Done Made begun_starts committed_is_legal committed_is_careful (none_of_theirs committed) committed_is_honest committed_is_orderly is_one ready (live refl)

was_settled : IsSettled begun inbox sequences text settled
unfolding own
was_settled = now (now (ap (λ k. is_temp_of 5 k) temp_is) (on (now refl)))

-- the text stays, whatever a crash may do
text_stays : HasTextFirmly (world_after begun settled) inbox sequences text
text_stays = settled_law begun settled inbox sequences text begun_starts settled_is_legal ((λ on. looks tt), committed_is_careful) (none_of_theirs settled) is_one was_settled
