-- The messages that a command's words choose.
use Rattle.std.specs.Prelude.{◌≡◌, ◌&&◌, ◌||◌, ℕ, List, [], unwrap_or, map, slice_get, Result, Ok, Err}
use Rattle.std.specs.Str.{encode_utf8_all}
use Rattle.mail_headers.specs.Fields.{fields_of}
use Rattle.mh_profile.specs.declared.named_value.NamedValue.{NamedValue}
use Rattle.mh_sequences.specs.Names.{is_seq_name}
use Rattle.mh_sequences.specs.Reading.{lists_public, lists_private, suffix, cur_in}
use Rattle.mh_sequences.specs.Runs.{Numbers, numbers_of}
use Rattle.msg_ranges.specs.Selected.{selected}
use Rattle.msg_ranges.specs.Selecting.{Folder}
use Rattle.msg_ranges.specs.Selection.{Marks}
use Rattle.msg_ranges.specs.declared.fault.SelectFault.{SelectFault}
use Rattle.msg_ranges.specs.declared.fault.SelectFault.TheVariants as select
use Rattle.folder_files.specs.declared.refusal.Refusal.TheVariants as refusal
use Rattle.step_plans.specs.declared.command_fault.CommandFault.{CommandFault}
use Rattle.step_plans.specs.declared.command_fault.CommandFault.TheVariants as fault

-- what a folder's text of sequences and the entries of the context mark
abbrev pub marks_in : List ℕ → List NamedValue → List ℕ → Marks
marks_in text entries folder = record {
  has = λ name n.
      is_seq_name name && (lists_public (fields_of text) name n || lists_private entries (suffix folder) name n);
  cur = cur_in (fields_of text);
}

-- the folder as words see it, by the prefix of negation, its message numbers and its marks
abbrev pub folder_with : List ℕ → List ℕ → Marks → Folder
folder_with prefix numbers marks = record { prefix = prefix; numbers = numbers; marks = marks }

-- the word at this place
abbrev pub word_at : List (List ℕ) → ℕ → List ℕ
word_at words k = unwrap_or (slice_get words k) []

-- the refusal of the word at its place
abbrev pub refusal_of : List (List ℕ) → SelectFault → CommandFault
refusal_of words (select.BadSpec k) = fault.Refused (refusal.BadSpec (word_at words k))
refusal_of words (select.Absent k) = fault.Refused (refusal.Absent (word_at words k))
refusal_of words (select.EmptyRange k) = fault.Refused (refusal.EmptyRange (word_at words k))
refusal_of words (select.EmptySequence k) = fault.Refused (refusal.EmptySequence (word_at words k))
refusal_of words select.Memory = fault.Memory

abbrev pub refused_by : List (List ℕ) → Result (List ℕ) SelectFault → Result (List ℕ) CommandFault
refused_by words (Ok numbers) = Ok numbers
refused_by words (Err e) = Err (refusal_of words e)

-- the numbers that these words choose in the folder, ascending, or the refusal of the first word that is refused
abbrev pub chosen_in : Folder → List (List ℕ) → Result (List ℕ) CommandFault
chosen_in folder words = refused_by words (selected folder (map encode_utf8_all words))

-- the result is this, or there was not enough memory
abbrev pub IsValue : Result (List ℕ) CommandFault → Result Numbers CommandFault → Type 0
IsValue value (Ok s) = value ≡ Ok (numbers_of s.runs)
IsValue value (Err (fault.Refused r)) = value ≡ Err (fault.Refused r)
IsValue value (Err (fault.Faulted w)) = ⊥
IsValue value (Err (fault.Locked p)) = ⊥
IsValue value (Err (fault.Meddled p x)) = ⊥
IsValue value (Err fault.Memory) = Unit {0}
