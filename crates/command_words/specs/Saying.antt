-- What the words of a command say, by the items that they are and the folder that they name.
use Rattle.std.specs.Prelude.{ℕ, List, Option, Result, Ok, Err}
use Rattle.mh_words.specs.Whole.{Wrong, read_in}
use Rattle.mh_words.specs.declared.item.Item.{Item}
use Rattle.mh_words.specs.declared.table.SwitchTable.{SwitchTable}
use Rattle.step_plans.specs.declared.command_fault.CommandFault.{CommandFault}
use Rattle.command_words.specs.Ended.{plain, wrong_at}
use Rattle.command_words.specs.FolderWords.{folder_named}
use Rattle.command_words.specs.declared.ended.Ended.{Ended}

-- what is said by a value, or the refusal of that
abbrev pub said_unless_refused : {A W : Type 0} → (A → Result W Ended) → Result A CommandFault → Result W Ended
said_unless_refused said (Ok value) = said value
said_unless_refused said (Err e) = Err (plain e)

-- what is said by a value, or the refusal of the word that is wrong
abbrev pub said_unless_wrong : {A W : Type 0} → (A → Result W Ended) → List (List ℕ) → Result A Wrong → Result W Ended
said_unless_wrong said words (Ok value) = said value
said_unless_wrong said words (Err wrong) = Err (wrong_at words wrong)

-- what is said by the folder of the one word that names one, where one does
abbrev pub folder_said : {W : Type 0} → (Option (List ℕ) → Result W Ended) → List (List ℕ)
    → Result (Option (List ℕ)) Wrong → Result W Ended
folder_said said words word = said_unless_wrong (λ w. said_unless_refused said (folder_named w)) words word

-- what is said by these words and the items that they are by a table
abbrev pub words_said : {W : Type 0} → (List (List ℕ) → List Item → Result W Ended) → SwitchTable → List (List ℕ)
    → Result W Ended
words_said said table words = said_unless_wrong (said words) words (read_in table 0 words)
