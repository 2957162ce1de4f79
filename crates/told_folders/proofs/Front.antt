-- The plan of a command that only looks: it lists a folder, reads its sequences, decides by both and by the context, and goes on with what was decided.
use Rattle.std.proofs.Common.{ℕ, List, Result}
use Rattle.mh_base.specs.Entries.{entry_text}
use Rattle.mh_base.specs.declared.entry.Entry.TheVariants.{Sequences}
use Rattle.mh_profile.specs.declared.named_value.NamedValue.{NamedValue}
use Rattle.folder_files.specs.declared.place.Place.TheVariants.{Folder}
use Rattle.file_plans.specs.Plan.{Plan, Recall, Return, ◌>>=◌}
use Rattle.step_plans.specs.declared.command_fault.CommandFault.{CommandFault}
use Rattle.command_stages.specs.Listed.{folder_listed}
use Rattle.command_stages.specs.Texts.{text_read}
use Rattle.mh_profile.specs.Reading.{entries_seen}

module _ (path folder : List ℕ) (A : Type 0) (seen : List (List ℕ) → List ℕ → List NamedValue → Result A CommandFault) (next : List (List ℕ) → A → Plan (Result Unit CommandFault)) where
  -- by the names and the text
  abbrev pub then_decided : List (List ℕ) → List ℕ → Plan (Result Unit CommandFault)
  then_decided names text = Recall (λ h. Return (seen names text (entries_seen h.context))) >>= next names

  abbrev pub then_read : List (List ℕ) → Plan (Result Unit CommandFault)
  then_read names = text_read (Folder path folder) (entry_text Sequences) >>= (λ text. then_decided names text)

  abbrev pub looks : Plan (Result Unit CommandFault)
  looks = folder_listed (Folder path folder) folder >>= (λ names. then_read names)
