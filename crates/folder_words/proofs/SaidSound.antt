-- What the words of a command say names a folder by a folder's name, or none; and what they refuse is a refusal.
use Rattle.std.proofs.Common.{◌≡◌, ℕ, ℤ, Bool, true, false, List, [], ◌∷◌, Option, Result, Ok, Err, length, refl}
use Rattle.std.specs.Prelude.{if◌then◌else◌}
use Rattle.mh_base.specs.declared.word.WordWhy.TheVariants.{Missing}
use Rattle.mh_profile.specs.declared.named_value.NamedValue.{NamedValue}
use Rattle.mh_words.specs.declared.item.Item.{Item}
use Rattle.folder_files.specs.declared.refusal.Refusal.TheVariants as refusal
use Rattle.pick_expr.specs.Whole.{expr_in}
use Rattle.pick_expr.specs.declared.expr.Expr.{Expr}
use Rattle.pick_expr.specs.declared.fault.ExprFault.{ExprFault}
use Rattle.pick_expr.specs.declared.fault.ExprFault.TheVariants.{BadExpr, BadDate, Memory}
use Rattle.pick_expr.proofs.ItemValues.{never_memory}
use Rattle.command_words.specs.Ended.{wrong_at, missing_after}
use Rattle.command_words.specs.FolderWords.{folder_named, folders, one_folder}
use Rattle.folder_words.specs.MarkWords as mark_words
use Rattle.folder_words.specs.MarkWords.{lacks_sequence, mark_in_folder, mark_items, mark_line, mark_said, word_said}
use Rattle.folder_words.specs.PickWords as pick_words
use Rattle.folder_words.specs.PickWords.{date_word, named_expr, pick_in_folder, pick_items, pick_line, pick_said}
use Rattle.folder_words.specs.RmmWords as rmm_words
use Rattle.folder_words.specs.RmmWords.{rmm_items, rmm_said}
use Rattle.command_words.specs.Saying.{said_unless_refused}
use Rattle.command_words.specs.SequenceNames.{named_sequences, unless_wrong, wrong_names}
use Rattle.command_words.specs.Switches.{values}
use Rattle.folder_words.specs.Tables.{folder_table, mark_table, pick_table, rmm_table}
use Rattle.folder_words.specs.TellWords as tell_words
use Rattle.folder_words.specs.TellWords.{tell_items, tell_said}
use Rattle.folder_words.specs.declared.folder.FolderWords.{FolderWords}
use Rattle.folder_words.specs.declared.mark.MarkWords.{MarkWords}
use Rattle.folder_words.specs.declared.pick.PickWords.{PickWords}
use Rattle.folder_words.specs.declared.rmm.RmmWords.{RmmWords}
use Rattle.folder_words.specs.declared.table.TheConstants.{PICK_SEQUENCE, SEQUENCE}
use Rattle.command_words.proofs.SaidFolder.{IsValid}
use Rattle.command_words.proofs.Sound.{IsRefusing, IsSound, folder_sound, named_sound, unless_refused_sound, unless_wrong_sound, words_sound}

abbrev pub RmmValid : RmmWords → Type 0
RmmValid said = IsValid said.folder

pub rmm_sound : (profile : List NamedValue) (words : List (List ℕ)) → IsSound RmmValid (rmm_said profile words)
rmm_sound profile words = words_sound RmmValid rmm_items rmm_table _ (λ items. folder_sound RmmValid (λ folder. Ok (rmm_words.words_of folder items)) _ _ (λ folder valid. valid))

abbrev pub TellValid : FolderWords → Type 0
TellValid said = IsValid said.folder

pub tell_sound : (profile : List NamedValue) (words : List (List ℕ)) → IsSound TellValid (tell_said profile words)
tell_sound profile words = words_sound TellValid tell_items folder_table _ (λ items. folder_sound TellValid (λ folder. Ok (tell_words.words_of folder items)) _ _ (λ folder valid. valid))

-- names of sequences of which one is none
pub names_refusing : (words wrong : List (List ℕ)) → IsRefusing (unless_wrong words wrong)
names_refusing words [] = tt
names_refusing words (word ∷ wrong) = (refusal.BadSequenceName word, refl)

abbrev pub MarkValid : MarkWords → Type 0
MarkValid said = IsValid said.folder

mark_folder_sound : (items : List Item) (folder : Option (List ℕ)) → IsValid folder → IsSound MarkValid (mark_in_folder items folder)
mark_folder_sound items folder valid =
    unless_refused_sound MarkValid (λ names. Ok (mark_words.words_of folder names items)) (named_sequences (values SEQUENCE items)) (names_refusing (values SEQUENCE items) (wrong_names (values SEQUENCE items))) (λ names. valid)

mark_word_sound : (words : List (List ℕ)) (items : List Item) (word : Option (List ℕ)) → IsSound MarkValid (word_said words items word)
mark_word_sound words items word = go (lacks_sequence items)
  where
    go : (b : Bool) → IsSound MarkValid (if b then Err (wrong_at words (missing_after words)) else said_unless_refused (mark_in_folder items) (folder_named word))
    go true = (refusal.BadSwitch (length words) Missing, refl)
    go false = named_sound MarkValid (mark_in_folder items) word (λ folder valid. mark_folder_sound items folder valid)

pub mark_sound : (profile : List NamedValue) (words : List (List ℕ)) → IsSound MarkValid (mark_said profile words)
mark_sound profile words =
    words_sound MarkValid mark_items mark_table (mark_line profile words)
    (λ items. unless_wrong_sound MarkValid (word_said (mark_line profile words) items) _ (one_folder (folders items)) (λ word is. mark_word_sound (mark_line profile words) items word))

abbrev pub PickValid : PickWords → Type 0
PickValid said = IsValid said.folder

module _ (moment offset : ℤ) where
  expr_refusing : (items : List Item) (r : Result Expr ExprFault) → expr_in moment offset items ≡ r → IsRefusing (named_expr items r)
  expr_refusing items (Ok expr) is = tt
  expr_refusing items (Err (BadExpr place)) is = (refusal.BadExpr place, refl)
  expr_refusing items (Err (BadDate place)) is = (refusal.BadDate (date_word place items), refl)
  expr_refusing items (Err Memory) is = absurd (never_memory moment offset items is)

  pick_folder_sound : (items : List Item) (folder : Option (List ℕ)) → IsValid folder → IsSound PickValid (pick_in_folder moment offset items folder)
  pick_folder_sound items folder valid =
      unless_refused_sound PickValid (λ names. said_unless_refused (λ expr. Ok (pick_words.words_of folder names expr items)) (named_expr items (expr_in moment offset items))) (named_sequences (values PICK_SEQUENCE items))
      (names_refusing (values PICK_SEQUENCE items) (wrong_names (values PICK_SEQUENCE items)))
      (λ names. unless_refused_sound PickValid (λ expr. Ok (pick_words.words_of folder names expr items)) (named_expr items (expr_in moment offset items)) (expr_refusing items (expr_in moment offset items) refl) (λ expr. valid))

  pub pick_sound : (profile : List NamedValue) (words : List (List ℕ)) → IsSound PickValid (pick_said moment offset profile words)
  pick_sound profile words =
      words_sound PickValid (pick_items moment offset) pick_table (pick_line profile words)
      (λ items. folder_sound PickValid (pick_in_folder moment offset items) _ _ (λ folder valid. pick_folder_sound items folder valid))
