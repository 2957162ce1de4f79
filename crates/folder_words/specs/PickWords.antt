-- What the words of `pick` say.
use Rattle.std.specs.Prelude.{◌++◌, ◌==◌, codes, ℕ, ℤ, true, unwrap_or, List, [], ◌∷◌, length, Option, None, Some, Result, Ok, Err, if◌then◌else◌}
use Rattle.std.specs.List.{flat_map}
use Rattle.mh_words.specs.declared.item.Item.{Item}
use Rattle.mh_words.specs.declared.item.Item.TheVariants.{Folder, Message, Switch, Component}
use Rattle.mh_profile.specs.declared.named_value.NamedValue.{NamedValue}
use Rattle.folder_files.specs.declared.refusal.Refusal.TheVariants as refusal
use Rattle.step_plans.specs.declared.command_fault.CommandFault.{CommandFault}
use Rattle.step_plans.specs.declared.command_fault.CommandFault.TheVariants as fault
use Rattle.pick_expr.specs.Whole.{expr_in}
use Rattle.pick_expr.specs.declared.expr.Expr.{Expr}
use Rattle.pick_expr.specs.declared.fault.ExprFault.{ExprFault}
use Rattle.pick_expr.specs.declared.fault.ExprFault.TheVariants.{BadExpr, BadDate, Memory}
use Rattle.pick_plans.specs.declared.job.PickAct.{PickAct}
use Rattle.pick_plans.specs.declared.job.PickAct.TheVariants as act
use Rattle.pick_plans.specs.declared.job.PickMarks.{PickMarks}
use Rattle.command_words.specs.BadValues.{first_of, unless_bad}
use Rattle.folder_words.specs.BadNames.{bad_names}
use Rattle.command_words.specs.FolderWords.{folders, one_folder}
use Rattle.command_words.specs.MessageWords.{messages, names_or}
use Rattle.command_words.specs.Saying.{folder_said, said_unless_refused, words_said}
use Rattle.command_words.specs.SequenceNames.{named_sequences}
use Rattle.command_words.specs.Switches.{last_choice, last_of, values}
use Rattle.folder_words.specs.Tables.{pick_table}
use Rattle.command_words.specs.Words.{profile_words}
use Rattle.command_words.specs.declared.ended.Ended.{Ended}
use Rattle.folder_words.specs.declared.pick.PickWords.{PickWords}
use Rattle.folder_words.specs.declared.table.TheConstants.{PICK_SEQUENCE, PICK_PUBLIC, PICK_NOPUBLIC, PICK_ZERO, PICK_NOZERO, PICK_LIST, PICK_NOLIST}

-- the value of the switch at this place
abbrev pub value_at : ℕ → Item → List (List ℕ)
value_at at (Folder text place) = []
value_at at (Message text place) = []
value_at at (Switch index None place) = []
value_at at (Switch index (Some value) place) = if place == at then value ∷ [] else []
value_at at (Component name value place) = []

abbrev pub values_at : ℕ → List Item → List (List ℕ)
values_at at items = flat_map (value_at at) items

-- the date that is named at this place
abbrev pub date_word : ℕ → List Item → List ℕ
date_word at items = unwrap_or (last_of (values_at at items)) []

-- the expression of the items; or the refusal of a word that can't stand there, by its place, or of a date, by its word
abbrev pub named_expr : List Item → Result Expr ExprFault → Result Expr CommandFault
named_expr items (Ok expr) = Ok expr
named_expr items (Err (BadExpr place)) = Err (fault.Refused (refusal.BadExpr place))
named_expr items (Err (BadDate place)) = Err (fault.Refused (refusal.BadDate (date_word place items)))
named_expr items (Err Memory) = Err fault.Memory

-- of `-zero` and `-nozero` the last counts; without them the sequences have just the messages that match
abbrev pub act_of : List Item → PickAct
act_of items = if unwrap_or (last_choice PICK_ZERO PICK_NOZERO items) true then act.Set else act.Add

-- the sequences that are named, if any are
abbrev pub marks_of : List (List ℕ) → List Item → Option PickMarks
marks_of names items =
    if length names == 0 then None
    else Some (record { names = names; public = last_choice PICK_PUBLIC PICK_NOPUBLIC items; act = act_of items })

-- what the items say; the messages that match are listed where no sequence is named, unless the last of `-list` and
-- `-nolist` says otherwise
abbrev pub words_of : Option (List ℕ) → List (List ℕ) → Expr → List Item → PickWords
words_of folder names expr items = record {
  folder = folder;
  specs = names_or (codes "all") (messages items);
  expr = expr;
  marks = marks_of names items;
  list = unwrap_or (last_choice PICK_LIST PICK_NOLIST items) (length names == 0);
}

-- the dates of the expression are named at this moment, by a clock that is so many minutes ahead of UTC
module _ (moment offset : ℤ) where
  -- with the folder that the words name, or the refusal of the first wrong name of a sequence, or of the expression
  abbrev pub pick_in_folder : List Item → Option (List ℕ) → Result PickWords Ended
  pick_in_folder items folder =
      said_unless_refused
      (λ names. said_unless_refused (λ expr. Ok (words_of folder names expr items))
      (named_expr items (expr_in moment offset items)))
      (named_sequences (values PICK_SEQUENCE items))

  -- what the items say
  abbrev pub pick_items : List (List ℕ) → List Item → Result PickWords Ended
  pick_items words items =
      folder_said (pick_in_folder items) words (unless_bad (first_of (bad_names items)) (one_folder (folders items)))

-- the words of the profile's entry, and then the command's
abbrev pub pick_line : List NamedValue → List (List ℕ) → List (List ℕ)
pick_line profile words = profile_words (codes "pick") profile ++ words

-- what the words of `pick` say, those of the profile first, or the refusal: of a switch; then of a second folder or of
-- a name that no field may have, the earlier first; then of a folder's name; then of the first wrong name of a
-- sequence; then of the expression
abbrev pub pick_said : ℤ → ℤ → List NamedValue → List (List ℕ) → Result PickWords Ended
pick_said moment offset profile words = words_said (pick_items moment offset) pick_table (pick_line profile words)
