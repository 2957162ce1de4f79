-- What the words of `anno` say: a refusal; or a folder that is a folder's name, and lines that annotate.
use Rattle.std.proofs.Common.{◌≡◌, ◌&&◌, ℕ, ℤ, Bool, true, false, List, [], ◌∷◌, Option, Some, None, Result, Ok, Err, length, refl}
use Rattle.std.specs.Prelude.{◌==◌, not, IfSome, option_map, if◌then◌else◌}
use Rattle.std.specs.Str.{encode_utf8_all}
use Rattle.mh_base.specs.declared.word.WordWhy.TheVariants.{BadValue, Missing}
use Rattle.mh_profile.specs.declared.named_value.NamedValue.{NamedValue}
use Rattle.mh_words.specs.Whole.{Wrong}
use Rattle.mh_words.specs.declared.item.Item.{Item}
use Rattle.folder_files.specs.Annotations.{are_annotations}
use Rattle.folder_files.specs.declared.refusal.Refusal.TheVariants as refusal
use Rattle.step_plans.specs.declared.command_fault.CommandFault.TheVariants as fault
use Rattle.step_plans.proofs.Refusals.{IsRefusal}
use Rattle.annotation_lines.specs.Lines.{is_component, is_on_a_line}
use Rattle.annotation_lines.proofs.Annotating.{lines_annotate}
use Rattle.command_words.specs.BadValues.{earliest, first_of, unless_bad}
use Rattle.command_words.specs.FieldNames.{is_field_name, is_name}
use Rattle.command_words.specs.FolderWords.{folders, one_folder}
use Rattle.command_words.specs.Saying.{said_unless_wrong}
use Rattle.command_words.specs.Switches.{last_of, values}
use Rattle.command_words.specs.declared.ended.Ended.{Ended}
use Rattle.command_words.proofs.SaidFolder.{IsValid}
use Rattle.command_words.proofs.Sound.{IsSound, named_sound, said_holds, said_refuses, words_sound}
use Rattle.anno_words.specs.AnnoWords.{anno_items, anno_line, anno_said, component_of, date_of, is_dated, lines_of, text_of, word_said, words_of}
use Rattle.anno_words.specs.Table.{anno_table}
use Rattle.anno_words.specs.WrongValues.{wrong_values}
use Rattle.anno_words.specs.declared.table.TheConstants.{COMPONENT, TEXT}
use Rattle.anno_words.specs.declared.words.AnnoWords.{AnnoWords}
use Rattle.anno_words.proofs.Values.{last_so, none_of}

-- the name of a folder, or none, and lines that annotate
abbrev AnnoValid : AnnoWords → Type 0
AnnoValid said = IsValid said.folder × (are_annotations said.lines ≡ true)

named_component : (bytes : List ℕ) → is_name bytes ≡ true → is_component bytes ≡ true
named_component [] e = e
named_component (b ∷ bytes) e = e

not_wrong : (b : Bool) → not b ≡ false → b ≡ true
not_wrong true e = refl
not_wrong false e = cc (e)

good_component : (items : List Item) → wrong_values items ≡ [] → (name : List ℕ) → component_of items ≡ Some name → is_component (encode_utf8_all name) ≡ true
good_component items none name e = go (length (values TEXT items) == 0 && not (is_dated items)) e
  where
    go : (b : Bool) → (if b then None else last_of (values COMPONENT items)) ≡ Some name → is_component (encode_utf8_all name) ≡ true
    go true f = cc (f)
    go false f =
        last_so COMPONENT (λ v. is_component (encode_utf8_all v) ≡ true) (λ v fine. named_component (encode_utf8_all v) (not_wrong (is_field_name v) fine)) items none name f

good_text : (items : List Item) → wrong_values items ≡ [] → IfSome (text_of items) (λ t. is_on_a_line t ≡ true)
good_text items none = go (last_of (values TEXT items)) refl
  where
    go : (v : Option (List ℕ)) → last_of (values TEXT items) ≡ v → IfSome (option_map encode_utf8_all v) (λ t. is_on_a_line t ≡ true)
    go None e = tt
    go (Some text) e = last_so TEXT (λ v. is_on_a_line (encode_utf8_all v) ≡ true) (λ v fine. not_wrong (is_on_a_line (encode_utf8_all v)) fine) items none text e

module _ (moment offset : ℤ) where
  notes : (items : List Item) → wrong_values items ≡ [] → (name : List ℕ) → component_of items ≡ Some name → are_annotations (lines_of moment offset items name) ≡ true
  notes items none name is = lines_annotate (encode_utf8_all name) (date_of moment offset items) (text_of items) (good_component items none name is) (good_text items none)

  word_sound : (words : List (List ℕ)) (items : List Item) → wrong_values items ≡ [] → (word name : Option (List ℕ)) → component_of items ≡ name → IsSound AnnoValid (word_said moment offset words items word name)
  word_sound words items none word (Some name) is = named_sound AnnoValid (λ folder. Ok (words_of folder (lines_of moment offset items name) items)) word (λ folder valid. (valid, notes items none name is))
  word_sound words items none word None is = (refusal.BadSwitch (length words) Missing, refl)

  one_sound : (words : List (List ℕ)) (items : List Item) (wrong : Option ℕ) → first_of (wrong_values items) ≡ wrong → (r : Result (Option (List ℕ)) Wrong)
      → IsSound AnnoValid (said_unless_wrong (λ word. word_said moment offset words items word (component_of items)) words (unless_bad wrong r))
  one_sound words items wrong is (Err e) = (refusal.BadSwitch (earliest wrong e).place (earliest wrong e).why, refl)
  one_sound words items None is (Ok word) = word_sound words items (none_of (wrong_values items) is) word (component_of items) refl
  one_sound words items (Some place) is (Ok word) = (refusal.BadSwitch place BadValue, refl)

  anno_sound : (profile : List NamedValue) (words : List (List ℕ)) → IsSound AnnoValid (anno_said moment offset profile words)
  anno_sound profile words =
      words_sound AnnoValid (anno_items moment offset) anno_table (anno_line profile words)
      (λ items. one_sound (anno_line profile words) items (first_of (wrong_values items)) refl (one_folder (folders items)))

  -- what is no word is a refusal
  pub anno_refuses : (profile : List NamedValue) (words : List (List ℕ)) (x : Ended) → anno_said moment offset profile words ≡ Err x → IsRefusal x.fault
  anno_refuses profile words x is = said_refuses AnnoValid (anno_said moment offset profile words) x (anno_sound profile words) is

  -- the words name a folder, or none
  pub anno_valid : (profile : List NamedValue) (words : List (List ℕ)) (said : AnnoWords) → anno_said moment offset profile words ≡ Ok said → IsValid said.folder
  anno_valid profile words said is = (said_holds AnnoValid (anno_said moment offset profile words) said (anno_sound profile words) is).0

  -- and their lines annotate
  pub anno_annotates : (profile : List NamedValue) (words : List (List ℕ)) (said : AnnoWords) → anno_said moment offset profile words ≡ Ok said → are_annotations said.lines ≡ true
  anno_annotates profile words said is = (said_holds AnnoValid (anno_said moment offset profile words) said (anno_sound profile words) is).1
