-- How a command ends before its end.
use Rattle.std.specs.Prelude.{ℕ, length, List, Option, None, Some, Result, Ok, Err}
use Rattle.std.specs.Str.{encode_utf8_all}
use Rattle.mh_base.specs.declared.word.WordWhy.TheVariants.{Missing}
use Rattle.mh_words.specs.Whole.{Wrong}
use Rattle.mh_words.specs.declared.item.Item.{Item}
use Rattle.folder_files.specs.declared.refusal.Refusal.TheVariants as refusal
use Rattle.file_plans.specs.Plan.{Plan}
use Rattle.file_plans.specs.Runs.{Cause}
use Rattle.step_plans.specs.CommandFaults.{command_cause}
use Rattle.step_plans.specs.declared.command_fault.CommandFault.{CommandFault}
use Rattle.step_plans.specs.declared.command_fault.CommandFault.TheVariants as fault
use Rattle.command_stages.specs.Chosen.{word_at}
use Rattle.command_words.specs.declared.ended.Ended.{Ended}

-- a fault that speaks of no word
abbrev pub plain : CommandFault → Ended
plain e = record { fault = e; word = None }

abbrev pub ended_cause : Ended → Cause
ended_cause e = command_cause e.fault

-- a wrong word, which is this
abbrev pub wrong_word : Wrong → Option (List ℕ) → Ended
wrong_word wrong word = record { fault = fault.Refused (refusal.BadSwitch wrong.place wrong.why); word = word }

-- the word at the place of what is wrong, in bytes
abbrev pub wrong_at : List (List ℕ) → Wrong → Ended
wrong_at words wrong = wrong_word wrong (Some (encode_utf8_all (word_at words wrong.place)))

-- a word is missing after the last of these
abbrev pub missing_after : List (List ℕ) → Wrong
missing_after words = record { place = length words; why = Missing }

-- the items, or the refusal of the earliest wrong word
abbrev pub items_or_wrong : List (List ℕ) → Result (List Item) Wrong → Result (List Item) Ended
items_or_wrong words (Ok items) = Ok items
items_or_wrong words (Err wrong) = Err (wrong_at words wrong)

-- a plan that ends with a value, or so
abbrev pub Ending : Type 0 → Type 0
Ending A = Plan (Result A Ended)
