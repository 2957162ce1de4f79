-- What a command does that tells of a folder's sequences, and may change them.
use Rattle.std.specs.List.{list_any}
use Rattle.std.specs.Prelude.{◌==◌, ◌≢◌, ℕ, true, List, [], ◌∷◌, Result, Ok, Err, ◌≡◌, IfSome}
use Rattle.mh_base.specs.Numbers.{IsMsgNum}
use Rattle.mh_profile.specs.declared.named_value.NamedValue.{NamedValue}
use Rattle.mh_sequences.specs.declared.run.Run.{Run}
use Rattle.mh_sequences.specs.Runs.{has, numbers_of}
use Rattle.mh_sequences.specs.Sequences.{AreSequences, Marked, member}
use Rattle.msg_ranges.specs.Selection.{marks_of}
use Rattle.file_plans.specs.Sightings.{has_number}
use Rattle.step_plans.specs.declared.command_fault.CommandFault.{CommandFault}
use Rattle.sequence_commits.specs.Cutting.{cut_to}
use Rattle.sequence_commits.specs.Reading.{sequences_in}
use Rattle.sequence_commits.specs.RunsOfAll.{runs_of_all, set_among}
use Rattle.command_stages.specs.Chosen.{chosen_in, folder_with}

-- a folder; words that choose messages of it, with the prefix of negation; what the sequences become, by the folder's
-- numbers and the chosen ones; and the lines that are said then, by the folder's numbers and its sequences
pub record Task : Type 0 where
  pub folder : List ℕ
  pub specs : List (List ℕ)
  pub negation : List ℕ
  pub becomes : List Run → List ℕ → Marked → Marked
  pub lines : List Run → Marked → List (List ℕ)

-- none of these texts is empty
abbrev pub AreSome : List (List ℕ) → Type 0
AreSome [] = Unit {0}
AreSome (l ∷ ls) = (l ≢ []) × AreSome ls

-- these runs have none but numbers of the listing
abbrev pub IsListed : List Run → List Run → Type 0
IsListed listing runs = (n : ℕ) → has runs n ≡ true → has listing n ≡ true

-- these are numbers of messages
abbrev pub AreMsgNums : List ℕ → Type 0
AreMsgNums numbers = (n : ℕ) → list_any (λ m. m == n) numbers ≡ true → IsMsgNum n

-- Of sequences in order it makes such; of sequences of listed messages, by listed ones that were chosen, it makes such,
-- and their current message has a message's number; and each line says something.
pub record IsOrderly (t : Task) : Type 0 where
  pub valid : (listing : List Run) (numbers : List ℕ) (m : Marked) → AreSequences m.users
      → AreSequences (t.becomes listing numbers m).users
  pub within : (listing : List Run) (numbers : List ℕ) (m : Marked) → IsListed listing (set_among numbers)
      → ((name : List ℕ) (n : ℕ) → member m.users name n ≡ true → has listing n ≡ true)
      → (name : List ℕ) (n : ℕ) → member (t.becomes listing numbers m).users name n ≡ true → has listing n ≡ true
  pub current : (listing : List Run) (numbers : List ℕ) (m : Marked) → AreMsgNums numbers → IfSome m.cur IsMsgNum
      → IfSome (t.becomes listing numbers m).cur IsMsgNum
  pub lines : (listing : List Run) (m : Marked) → AreSome (t.lines listing m)

-- the messages that the task's words choose of a folder with these numbers and sequences, or the refusal of the first
-- word that is refused
abbrev pub chosen_from : Task → List Run → Marked → Result (List ℕ) CommandFault
chosen_from t listing m = chosen_in (folder_with t.negation (numbers_of listing) (marks_of m)) t.specs

-- the numbers among the names of a folder
abbrev pub listed_runs : List (List ℕ) → List Run
listed_runs names = runs_of_all (λ n. has_number n names)

-- the folder's sequences, of its listed messages alone
abbrev pub sequences_listed : List (List ℕ) → List ℕ → List NamedValue → List ℕ → Marked
sequences_listed names text entries folder = cut_to (listed_runs names) (sequences_in text entries folder)

-- where words are refused, so is all
abbrev pub unless_refused : Marked → Result (List ℕ) CommandFault → Result Marked CommandFault
unless_refused m (Ok numbers) = Ok m
unless_refused m (Err e) = Err e

-- the sequences, where there are no words, or none of them is refused
abbrev pub checked_by : List (List ℕ) → Task → List Run → Marked → Result Marked CommandFault
checked_by [] t listing m = Ok m
checked_by (word ∷ words) t listing m = unless_refused m (chosen_from t listing m)

abbrev pub checked : Task → List Run → Marked → Result Marked CommandFault
checked t listing m = checked_by t.specs t listing m

-- the sequences by the folder's names, its text of sequences and the entries of the context
abbrev pub sequences_seen : Task → List (List ℕ) → List ℕ → List NamedValue → Result Marked CommandFault
sequences_seen t names text entries = checked t (listed_runs names) (sequences_listed names text entries t.folder)
