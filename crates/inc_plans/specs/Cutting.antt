-- What each piece of a drop finishes, by the bytes that were read before.
use Rattle.std.specs.Prelude.{◌≡◌, ◌++◌, ℕ, Bool, true, false, List, [], ◌∷◌, length, drop, Option, None, Some, Result, Ok, Err}
use Rattle.mbox_drop.specs.Drops.{finished, is_drop, messages, open_bytes}
use Rattle.mbox_drop.specs.Long.{excess, long_of}
use Rattle.mbox_drop.specs.Places.{is_lost}
use Rattle.mbox_drop.specs.Readings.{reading}
use Rattle.mbox_drop.specs.declared.fault.CutFault.{CutFault}
use Rattle.mbox_drop.specs.declared.fault.CutFault.TheVariants as cut
use Rattle.folder_files.specs.declared.refusal.Refusal.TheVariants as refusal
use Rattle.step_plans.specs.declared.command_fault.CommandFault.{CommandFault}
use Rattle.step_plans.specs.declared.command_fault.CommandFault.TheVariants as fault
use Rattle.command_stages.specs.Values.{IsErrorOf}

abbrev pub changed : CommandFault
changed = fault.Refused refusal.DropChanged

-- what a cutter's fault is to the command: all but want of memory says that the drop was changed
abbrev pub fault_of : CutFault → CommandFault
fault_of cut.NotADrop = changed
fault_of (cut.TooLong n) = changed
fault_of cut.Memory = fault.Memory

-- the messages that are finished with this piece and were not before
abbrev pub new_in : List ℕ → List ℕ → List (List ℕ)
new_in d piece = drop (length (finished d)) (finished (d ++ piece))

abbrev pub short_only : Option ℕ → List (List ℕ) → Result (List (List ℕ)) CommandFault
short_only None given = Ok given
short_only (Some n) given = Err changed

-- the bytes begin no drop any more, or they do
abbrev pub unless_lost : Bool → List ℕ → List ℕ → Result (List (List ℕ)) CommandFault
unless_lost true d piece = Err changed
unless_lost false d piece = short_only (excess (new_in d piece) (length (open_bytes (d ++ piece)))) (new_in d piece)

-- what the piece finishes; where these are no drop, or a message is too long, it was changed
abbrev pub given_by : List ℕ → List ℕ → Result (List (List ℕ)) CommandFault
given_by d piece = unless_lost (is_lost (reading (d ++ piece)).place) d piece

abbrev pub short_last : Option ℕ → List ℕ → Result (Option (List ℕ)) CommandFault
short_last None message = Ok (Some message)
short_last (Some n) message = Err changed

-- the message behind the finished ones
abbrev pub last_in : List (List ℕ) → Result (Option (List ℕ)) CommandFault
last_in [] = Ok None
last_in (message ∷ more) = short_last (long_of (length message)) message

abbrev pub if_drop : Bool → List ℕ → Result (Option (List ℕ)) CommandFault
if_drop true d = last_in (drop (length (finished d)) (messages d))
if_drop false d = Err changed

-- the last message of a drop; none where no byte was read
abbrev pub last_by : List ℕ → Result (Option (List ℕ)) CommandFault
last_by d = if_drop (is_drop d) d

-- the result is this value, or memory is wanting
abbrev pub IsGiven : {A : Type 0} → Result A CommandFault → Result A CommandFault → Type 0
IsGiven value (Ok a) = value ≡ Ok a
IsGiven value (Err e) = IsErrorOf value e
