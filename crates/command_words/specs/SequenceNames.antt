-- The sequences that words name.
use Rattle.std.specs.Prelude.{ℕ, not, List, [], ◌∷◌, filter, Result, Ok, Err, if◌then◌else◌}
use Rattle.std.specs.List.{flat_map}
use Rattle.mh_sequences.specs.Names.{is_seq_name}
use Rattle.folder_files.specs.declared.refusal.Refusal.TheVariants as refusal
use Rattle.step_plans.specs.declared.command_fault.CommandFault.{CommandFault}
use Rattle.step_plans.specs.declared.command_fault.CommandFault.TheVariants as fault

-- this word is no name of a user's sequence
abbrev pub no_sequence : List ℕ → CommandFault
no_sequence word = fault.Refused (refusal.BadSequenceName word)

-- a sequence's name, or the refusal of the word that is none
abbrev pub named_sequence : List ℕ → Result (List ℕ) CommandFault
named_sequence word = if is_seq_name word then Ok word else Err (no_sequence word)

-- the words that are no names of sequences
abbrev pub wrong_names : List (List ℕ) → List (List ℕ)
wrong_names words = filter (λ word. not (is_seq_name word)) words

-- these names, or the refusal of the first of these wrong ones
abbrev pub unless_wrong : List (List ℕ) → List (List ℕ) → Result (List (List ℕ)) CommandFault
unless_wrong names [] = Ok names
unless_wrong names (word ∷ words) = Err (no_sequence word)

-- the names that the words are, or the refusal of the first that is none
abbrev pub named_sequences : List (List ℕ) → Result (List (List ℕ)) CommandFault
named_sequences words = unless_wrong words (wrong_names words)

-- the name that a word is, if it is one
abbrev pub known_in : List ℕ → List (List ℕ)
known_in word = if is_seq_name word then word ∷ [] else []

-- the words that are names of sequences
abbrev pub known_names : List (List ℕ) → List (List ℕ)
known_names words = flat_map known_in words
