-- A commit of a folder's sequences goes as its command pledges.
use Rattle.std.proofs.Common.{◌≡◌, ◌⊎◌, inl, inr, ◌<◌, ◌^◌, ℕ, Bool, true, false, List, Err, refl, nat_lt, length}
use Rattle.std.specs.Prelude.{if◌then◌else◌}
use Rattle.mh_base.specs.Entries.{entry_text}
use Rattle.mh_base.specs.declared.entry.Entry.TheVariants.{Sequences}
use Rattle.mh_profile.specs.declared.named_value.NamedValue.{NamedValue}
use Rattle.mh_sequences.specs.Printing.{private_entries, text_of}
use Rattle.mh_sequences.specs.Reading.{suffix}
use Rattle.mh_sequences.specs.Sequences.{Marked}
use Rattle.folder_files.specs.Careful.{HasLock}
use Rattle.folder_files.specs.Deeds.{Deed, on}
use Rattle.folder_files.specs.Named.{is_committed}
use Rattle.folder_files.specs.declared.place.Place.{Place}
use Rattle.folder_files.specs.declared.place.Place.TheVariants.{Mail}
use Rattle.folder_files.specs.declared.step.Step.{Step}
use Rattle.folder_files.specs.declared.step.Step.TheVariants as step
use Rattle.file_plans.specs.Plan.{Hand, Return}
use Rattle.file_plans.specs.Framing.{AsksOnly}
use Rattle.file_plans.proofs.Framing.{AnyStep}
use Rattle.step_plans.specs.Commits.{IsBase}
use Rattle.step_plans.specs.ContextCommit.{LIMIT_BYTES, context_name, settled}
use Rattle.step_plans.specs.Pledges.{Pledge, IsMarked}
use Rattle.step_plans.specs.Replacing.{replaced}
use Rattle.step_plans.specs.Settled.{AreSettled}
use Rattle.step_plans.specs.declared.fault.PlanFault.TheVariants as fault
use Rattle.step_plans.proofs.Asks.{Commits, asks_commit}
use Rattle.step_plans.proofs.Facts.{LeavesBase, LeavesLock, base_kept, lock_kept}
use Rattle.step_plans.proofs.Going.{okay, okay_more, Goes, goes_more, goes_then}
use Rattle.step_plans.proofs.Lasting.{KeptBy, keeping, lasting}
use Rattle.step_plans.proofs.Pledged.{HasMarked, Of, Changed, after_written, replaced_goes, IsPledged, Known, commit_goes}
use Rattle.step_plans.proofs.Stepping.{goes_end, goes_return}
use Rattle.step_plans.proofs.Written.{Serves}
use Rattle.sequence_commits.specs.Committing.{sequences_replaced, entries_committed, told_committed, committed_unless, changed_sequences}
use Rattle.sequence_commits.specs.PrivateChanges.{changes_to}
use Rattle.mh_profile.specs.Reading.{entries_seen}
use Rattle.sequence_commits.specs.Telling.{same_told}

-- the name of the text of a folder's sequences
abbrev pub sequences_name : List ℕ
sequences_name = entry_text Sequences

-- the pledge lets the text of the folder's sequences be this one, in place of that
pub record MayReplace (w : Pledge) (p : Place) (old new : List ℕ) (own : List Deed) : Type 0 where
  pub committed : is_committed p sequences_name ≡ true
  pub lock : HasLock p own
  pub base : IsBase w.run p sequences_name old own
  pub mark : (temp : List ℕ) → w.may_mark (after_written p temp new own) p sequences_name old new
  pub step_ : (temp : List ℕ) → IsMarked w p temp sequences_name (after_written p temp new own) → w.may_step (after_written p temp new own) (step.Rename p temp sequences_name)

module _ (w : Pledge) (few : w.run < 2 ^ 128) (p : Place) (lets : Serves w p) where
  -- the folder's text is replaced under the folder's lock, by what the pledge has it be
  pub text_goes : (own : List Deed) (h : Hand) (old new : List ℕ) → MayReplace w p old new own → Goes w own h (sequences_replaced w.run p new) (okay (Of (Changed w own p sequences_name new)))
  unfolding sequences_replaced
  text_goes own h old new may = go (nat_lt LIMIT_BYTES (length new))
    where
      go : (b : Bool) → Goes w own h (if b then Return (Err (fault.TooLarge (length new))) else replaced w.run p sequences_name new) (okay (Of (Changed w own p sequences_name new)))
      go true = goes_end w own h (fault.TooLarge (length new)) (Of (Changed w own p sequences_name new))
      go false = replaced_goes w few p lets own h sequences_name old new may.committed may.lock may.base may.mark may.step_

-- after a commit: the folder's text was committed and is the base, all is settled that was, the folder's lock is had, and the context was
-- committed, or what the hand knew said so already
pub record Committed (w : Pledge) (own : List Deed) (p : Place) (path ending : List ℕ) (kept : List NamedValue) (text : List ℕ) (later : List Deed) : Type 0 where
  pub marked : HasMarked w p sequences_name later
  pub settled_still : AreSettled own → AreSettled later
  pub context : ((seen : Hand) × (settled (changes_to ending kept (entries_seen seen.context)) seen.context ≡ true)) ⊎ HasMarked w (Mail path) context_name later
  pub lock : HasLock p later
  pub base : IsBase w.run p sequences_name text later

-- a step that neither lets the folder's lock go nor looks at its text or writes that anew
abbrev pub LeavesText : Place → Step → Type 0
LeavesText p s = LeavesLock p s × LeavesBase p sequences_name s

-- the folder's lock is had, and this text is the base
abbrev pub HasText : ℕ → Place → List ℕ → List Deed → Type 0
HasText run p text own = HasLock p own × IsBase run p sequences_name text own

pub text_kept : (run : ℕ) (p : Place) (text : List ℕ) → KeptBy (LeavesText p) (HasText run p text)
text_kept run p text own s a leaves f = (lock_kept p own s a leaves.0 f.0, base_kept run p sequences_name text own s a leaves.1 f.1)

-- so each step of a commit of the context
pub commit_leaves : (p : Place) (path : List ℕ) → (Mail path ≡ p → ⊥) → Commits (LeavesText p) (Mail path) context_name
commit_leaves p path apart = record {
  make = (tt, tt);
  lock = (tt, tt);
  list = (tt, tt);
  clear = λ temp e. (tt, tt);
  read = (tt, λ same named. apart same);
  create = λ temp bytes. (tt, tt);
  sync_file = λ temp. (tt, tt);
  rename = λ temp. (tt, λ same named. apart same);
  sync = (tt, tt);
  unlock = (apart, apart);
}

pub entries_leave : (run : ℕ) (p : Place) (path ending : List ℕ) (kept : List NamedValue) → (Mail path ≡ p → ⊥) → AsksOnly (LeavesText p) (entries_committed run (Mail path) ending kept)
unfolding AsksOnly entries_committed
entries_leave run p path ending kept apart = λ h. asks_commit (LeavesText p) run (Mail path) (changes_to ending kept (entries_seen h.context)) (commit_leaves p path apart)

module _ (w : Pledge) (few : w.run < 2 ^ 128) (p : Place) (lets : Serves w p) (path : List ℕ) (apart : Mail path ≡ p → ⊥) (lets_mail : Serves w (Mail path)) (ending : List ℕ) (kept : List NamedValue)
    (F : List Deed → Type 0) (keeps : KeptBy AnyStep F) (pledged : (seen : List NamedValue) → IsPledged w (Mail path) (changes_to ending kept seen) AnyStep F) where
  -- then the context, by what the hand knows
  pub entries_go : (own : List Deed) (h : Hand) → F own → Goes w own h (entries_committed w.run (Mail path) ending kept) (okay (Of (Known w own (Mail path) (changes_to ending kept (entries_seen h.context)) h)))
  unfolding Goes entries_committed
  entries_go own h f = λ s. commit_goes w few path lets_mail (changes_to ending kept (entries_seen h.context)) AnyStep F (pledged (entries_seen h.context)) own h f

  -- what lasts of the text's turn
  abbrev Lasts : List ℕ → List Deed → Type 0
  Lasts text later = HasText w.run p text later × HasMarked w p sequences_name later

  lasts : (text : List ℕ) → KeptBy (LeavesText p) (Lasts text)
  lasts text own s a leaves f = (text_kept w.run p text own s a leaves f.0, on f.1)

  after_text : (own later : List Deed) (j : Hand) (text : List ℕ) → F later → Changed w own p sequences_name text later → Goes w later j (entries_committed w.run (Mail path) ending kept) (okay (Of (Committed w own p path ending kept text)))
  after_text own later j text f c =
      goes_more w later j (entries_committed w.run (Mail path) ending kept) (okay (λ last i u. Lasts text last × Known w later (Mail path) (changes_to ending kept (entries_seen j.context)) j last)) (okay (Of (Committed w own p path ending kept text)))
      (okay_more (λ last i u. Lasts text last × Known w later (Mail path) (changes_to ending kept (entries_seen j.context)) j last) (Of (Committed w own p path ending kept text)) (λ last i u q. ends last q.0 q.1))
      (keeping w (LeavesText p) (Lasts text) (lasts text) later j (entries_committed w.run (Mail path) ending kept) (Of (Known w later (Mail path) (changes_to ending kept (entries_seen j.context)) j)) (entries_leave w.run p path ending kept apart) ((c.lock, c.base), c.marked) (entries_go later j f))
    where
      said : (last : List Deed) → ((settled (changes_to ending kept (entries_seen j.context)) j.context ≡ true) × (last ≡ later)) ⊎ HasMarked w (Mail path) context_name last
          → ((seen : Hand) × (settled (changes_to ending kept (entries_seen seen.context)) seen.context ≡ true)) ⊎ HasMarked w (Mail path) context_name last
      said last (inl q) = inl (j, q.0)
      said last (inr m) = inr m

      ends : (last : List Deed) → Lasts text last → Known w later (Mail path) (changes_to ending kept (entries_seen j.context)) j last → Committed w own p path ending kept text last
      ends last m k = record { marked = m.1; settled_still = λ s. k.settled_still (c.settled s); context = said last k.done; lock = m.0.0; base = m.0.1 }

  -- the text, and then the context
  pub told_goes : (own : List Deed) (h : Hand) (old text : List ℕ) → F own → MayReplace w p old text own → Goes w own h (told_committed w.run p (Mail path) ending text kept) (okay (Of (Committed w own p path ending kept text)))
  unfolding told_committed
  told_goes own h old text f may =
      goes_then w own h (sequences_replaced w.run p text) _ (λ later j u. F later × Changed w own p sequences_name text later) (Of (Committed w own p path ending kept text))
      (lasting w F keeps own h (sequences_replaced w.run p text) (Of (Changed w own p sequences_name text)) f (text_goes w few p lets own h old text may))
      (λ later j u q. after_text own later j text q.0 q.1)

-- a call that commits new sequences in place of others: nothing was done where the same is told
module _ (w : Pledge) (few : w.run < 2 ^ 128) (p : Place) (lets : Serves w p) (path : List ℕ) (apart : Mail path ≡ p → ⊥) (lets_mail : Serves w (Mail path)) (folder : List ℕ) (old_ new_ : Marked)
    (F : List Deed → Type 0) (keeps : KeptBy AnyStep F) (pledged : (seen : List NamedValue) → IsPledged w (Mail path) (changes_to (suffix folder) (private_entries (suffix folder) new_.users) seen) AnyStep F) where
  abbrev pub CommittedOrSame : List Deed → List Deed → Type 0
  CommittedOrSame own later = ((same_told folder old_ new_ ≡ true) × (later ≡ own)) ⊎ Committed w own p path (suffix folder) (private_entries (suffix folder) new_.users) (text_of new_) later

  pub changed_goes : (own : List Deed) (h : Hand) (old : List ℕ) → F own → MayReplace w p old (text_of new_) own → Goes w own h (changed_sequences w.run p (Mail path) folder old_ new_) (okay (Of (CommittedOrSame own)))
  unfolding changed_sequences
  changed_goes own h old f may = go (same_told folder old_ new_) refl
    where
      go : (b : Bool) → same_told folder old_ new_ ≡ b → Goes w own h (committed_unless b w.run p (Mail path) folder new_) (okay (Of (CommittedOrSame own)))
      go true e = goes_return w own h tt (okay (Of (CommittedOrSame own))) (inl (e, refl))
      go false e =
          goes_more w own h (told_committed w.run p (Mail path) (suffix folder) (text_of new_) (private_entries (suffix folder) new_.users))
          (okay (Of (Committed w own p path (suffix folder) (private_entries (suffix folder) new_.users) (text_of new_)))) (okay (Of (CommittedOrSame own)))
          (okay_more (Of (Committed w own p path (suffix folder) (private_entries (suffix folder) new_.users) (text_of new_))) (Of (CommittedOrSame own)) (λ later j u c. inr c))
          (told_goes w few p lets path apart lets_mail (suffix folder) (private_entries (suffix folder) new_.users) F keeps pledged own h old (text_of new_) f may)
