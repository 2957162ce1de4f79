-- Which steps the moves of a message ask for, whatever is answered.
use Rattle.std.proofs.Common.{List, ℕ, Ok}
use Rattle.mh_base.specs.Entries.{entry_text}
use Rattle.mh_base.specs.declared.entry.Entry.TheVariants.{Held, Number}
use Rattle.folder_files.specs.declared.place.Place.{Place}
use Rattle.folder_files.specs.declared.step.Step.{Step}
use Rattle.folder_files.specs.declared.step.Step.TheVariants as step
use Rattle.file_plans.specs.Asking.{read}
use Rattle.file_plans.specs.Framing.{AsksOnly}
use Rattle.file_plans.specs.Plan.{ask, bind, lifted, ◌>>=◌}
use Rattle.file_plans.specs.declared.answers.Reading.{Reading}
use Rattle.file_plans.specs.declared.answers.Reading.TheVariants as reading
use Rattle.file_plans.proofs.Framing.{asks_none, asks_then}
use Rattle.step_plans.specs.ContextCommit.{LIMIT_BYTES}
use Rattle.step_plans.specs.Locking.{removed}
use Rattle.step_plans.specs.PlanFaults.{of_stop}
use Rattle.step_plans.specs.Replacing.{renamed, synced}
use Rattle.step_plans.proofs.Asks.{asks_removed, asks_renamed, asks_synced}
use Rattle.message_moves.specs.Moving.{content_by, content_read, held_discarded, number_taken}
use Rattle.message_moves.proofs.MovePledged.{taking}

module _ (P : Step → Type 0) where
  pub asks_taken : (run : ℕ) (p : Place) (n : ℕ) → P (taking run p n) → AsksOnly P (number_taken run p n)
  unfolding number_taken
  asks_taken run p n f = asks_then P (renamed p (entry_text (Number n)) (entry_text (Held run n))) _ (asks_renamed P p (entry_text (Number n)) (entry_text (Held run n)) f) (λ u. asks_none P (Ok (entry_text (Held run n))))

  asks_one_read : (p : Place) (name : List ℕ) → P (step.Read p name LIMIT_BYTES) → AsksOnly P (lifted of_stop (read p name LIMIT_BYTES))
  unfolding AsksOnly read ask bind ◌>>=◌ lifted
  asks_one_read p name f = (f, λ a. tt)

  asks_by : (p : Place) (name : List ℕ) (r : Reading) → AsksOnly P (content_by p name r)
  asks_by p name (reading.Content bytes) = asks_none P _
  asks_by p name (reading.Long l) = asks_none P _
  asks_by p name reading.Gone = asks_none P _

  pub asks_content : (p : Place) (name : List ℕ) → P (step.Read p name LIMIT_BYTES) → AsksOnly P (content_read p name)
  unfolding content_read
  asks_content p name f = asks_then P (lifted of_stop (read p name LIMIT_BYTES)) (content_by p name) (asks_one_read p name f) (asks_by p name)

  pub asks_discarded : (p : Place) (held : List ℕ) → P (step.Unlink p held) → P (step.SyncFolder p) → AsksOnly P (held_discarded p held)
  unfolding held_discarded
  asks_discarded p held f g = asks_then P (removed p held) (λ gone. synced p held) (asks_removed P p held f) (λ u. asks_synced P p held g)
