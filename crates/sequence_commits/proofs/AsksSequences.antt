-- Which steps a commit of sequences asks for, whatever is answered.
use Rattle.std.proofs.Common.{ℕ, Bool, true, false, List, length, nat_lt}
use Rattle.std.specs.Prelude.{Ok, Err, if◌then◌else◌}
use Rattle.mh_base.specs.Entries.{entry_text}
use Rattle.mh_base.specs.declared.entry.Entry.TheVariants.{Sequences}
use Rattle.mh_profile.specs.declared.named_value.NamedValue.{NamedValue}
use Rattle.mh_sequences.specs.Printing.{private_entries, text_of}
use Rattle.mh_sequences.specs.Reading.{suffix}
use Rattle.mh_sequences.specs.Sequences.{Marked}
use Rattle.folder_files.specs.declared.place.Place.{Place}
use Rattle.folder_files.specs.declared.step.Step.{Step}
use Rattle.file_plans.specs.Framing.{AsksOnly}
use Rattle.file_plans.specs.Plan.{Return}
use Rattle.file_plans.proofs.Framing.{asks_none, asks_then}
use Rattle.step_plans.specs.ContextCommit.{LIMIT_BYTES, context_name}
use Rattle.step_plans.specs.Replacing.{replaced}
use Rattle.step_plans.specs.declared.fault.PlanFault.TheVariants as fault
use Rattle.step_plans.proofs.Asks.{Commits, asks_commit, asks_replaced}
use Rattle.sequence_commits.specs.Committing.{changed_sequences, committed_unless, entries_committed, sequences_replaced, told_committed}
use Rattle.sequence_commits.specs.PrivateChanges.{changes_to}
use Rattle.mh_profile.specs.Reading.{entries_seen}
use Rattle.sequence_commits.specs.Telling.{same_told}

module _ (P : Step → Type 0) (run : ℕ) (p mail : Place) (of_text : Commits P p (entry_text Sequences)) (of_context : Commits P mail context_name) where
  asks_text : (text : List ℕ) → AsksOnly P (sequences_replaced run p text)
  unfolding sequences_replaced
  asks_text text = go (nat_lt LIMIT_BYTES (length text))
    where
      go : (b : Bool) → AsksOnly P (if b then Return (Err (fault.TooLarge (length text))) else replaced run p (entry_text Sequences) text)
      go true = asks_none P (Err (fault.TooLarge (length text)))
      go false = asks_replaced P run p (entry_text Sequences) text of_text

  asks_entries : (ending : List ℕ) (kept : List NamedValue) → AsksOnly P (entries_committed run mail ending kept)
  unfolding AsksOnly entries_committed
  asks_entries ending kept = λ h. asks_commit P run mail (changes_to ending kept (entries_seen h.context)) of_context

  -- new sequences of the folder, and what the context says of the private ones
  pub asks_sequences : (folder : List ℕ) (old new : Marked) → AsksOnly P (changed_sequences run p mail folder old new)
  unfolding changed_sequences told_committed
  asks_sequences folder old new = go (same_told folder old new)
    where
      go : (b : Bool) → AsksOnly P (committed_unless b run p mail folder new)
      go true = asks_none P (Ok tt)
      go false = asks_then P (sequences_replaced run p (text_of new)) (λ written. entries_committed run mail (suffix folder) (private_entries (suffix folder) new.users)) (asks_text (text_of new)) (λ written. asks_entries (suffix folder) (private_entries (suffix folder) new.users))
