-- The folder that words, profile and context name is a text of characters.
use Rattle.std.proofs.Common.{◌≡◌, ◌≤◌, ◌+◌, ℕ, zero, suc, Bool, true, false, ◌&&◌, List, [], ◌∷◌, ◌++◌, Option, None, Some, Result, Ok, Err, length, take, drop, map, refl, ap, subst, arith, length-drop, ℤ}
use Rattle.std.specs.Prelude.{◌==◌, codes, unwrap_or, if◌then◌else◌}
use Rattle.std.specs.Str.{IsUtf8, chars}
use Rattle.std.specs.Str.Lossy.{utf8_valid_len, valid_len_up_to}
use Rattle.std.proofs.Math.Utf8.{scalar, scalars}
use Rattle.std.proofs.lemmas.Bool.{and_from, and_parts}
use Rattle.std.proofs.lemmas.Bool.Decides.{Decides-eqb}
use Rattle.std.proofs.lemmas.List.{take_all}
use Rattle.std.proofs.lemmas.Str.{IsUtf8-from_is_utf8, chars-nil, scalars-chars}
use Rattle.mh_base.specs.Folders.{is_folder_name, without_plus}
use Rattle.mh_profile.specs.declared.named_value.NamedValue.{NamedValue}
use Rattle.mh_profile.specs.Changes.{value_of}
use Rattle.mh_words.specs.Whole.{Alone, FirstWord, IsBad, Valued, Wrong, before, dashed, first_word, found_from, last_read, named as named_switch, next_read, read_in}
use Rattle.mh_words.specs.declared.item.Item.{Item}
use Rattle.mh_words.specs.declared.item.Item.TheVariants.{Component, Folder, Message, Switch}
use Rattle.mh_words.specs.declared.lookup.Found.{Found}
use Rattle.mh_words.specs.declared.lookup.Found.TheVariants.{Nothing, One, Several}
use Rattle.mh_words.specs.declared.table.Kind.TheVariants.{Flag, Value}
use Rattle.mh_words.specs.declared.table.SwitchTable.{SwitchTable}
use Rattle.mail_text.specs.ShownBytes.{shown, shown_up_to}
use Rattle.folder_files.specs.declared.refusal.Refusal.TheVariants as refusal
use Rattle.step_plans.specs.declared.command_fault.CommandFault.{CommandFault}
use Rattle.step_plans.specs.declared.command_fault.CommandFault.TheVariants as fault
use Rattle.command_stages.specs.Current.{current_name}
use Rattle.command_words.specs.Ended.{wrong_at, missing_after}
use Rattle.command_words.specs.MessagePlaces.{alone, message_places}
use Rattle.command_words.specs.FolderWords.{FolderWord, folder_named, folders, named_folder, one_folder, some_named}
use Rattle.look_words.specs.IncWords as inc_words
use Rattle.look_words.specs.IncWords.{inc_items, inc_said}
use Rattle.command_words.specs.BadValues.{first_of, unless_bad}
use Rattle.folder_words.specs.BadNames.{bad_names}
use Rattle.folder_words.specs.PickWords as pick_words
use Rattle.folder_words.specs.PickWords.{pick_in_folder, pick_items, pick_said}
use Rattle.folder_words.specs.declared.pick.PickWords.{PickWords}
use Rattle.pick_expr.specs.Whole.{expr_in}
use Rattle.pick_expr.specs.declared.expr.Expr.{Expr}
use Rattle.look_words.specs.LookWords.{wrong_widths}
use Rattle.folder_words.specs.MarkWords.{lacks_sequence, mark_in_folder, mark_items, mark_said, word_said}
use Rattle.folder_words.specs.RefileWords.{last_or, refile_items, refile_said, source_of, targets, targets_said, unless_wrong, words_of, wrong_names}
use Rattle.folder_words.specs.MarkWords as mark_words
use Rattle.folder_words.specs.RmmWords as rmm_words
use Rattle.folder_words.specs.TellWords as tell_words
use Rattle.command_words.specs.Saying.{folder_said, said_unless_refused, said_unless_wrong, words_said}
use Rattle.folder_words.specs.RmmWords.{rmm_items, rmm_said}
use Rattle.command_words.specs.Switches.{values}
use Rattle.folder_words.specs.TellWords.{folder_and_message, is_packed, tell_items, tell_said, too_many}
use Rattle.folder_words.specs.Tables.{folder_table, mark_table, pick_table, refile_table, rmm_table}
use Rattle.look_words.specs.Tables.{inc_table}
use Rattle.command_words.specs.Words.{profile_words}
use Rattle.command_words.specs.declared.ended.Ended.{Ended}
use Rattle.folder_words.specs.declared.folder.FolderWords.{FolderWords}
use Rattle.look_words.specs.declared.inc.IncWords.{IncWords}
use Rattle.folder_words.specs.declared.mark.MarkWords.{MarkWords}
use Rattle.folder_words.specs.declared.refile.RefileWords.{RefileWords}
use Rattle.folder_words.specs.declared.rmm.RmmWords.{RmmWords}
use Rattle.anno_words.specs.AnnoWords as anno_words
use Rattle.anno_words.specs.AnnoWords.{anno_items, anno_said}
use Rattle.anno_words.specs.Table.{anno_table}
use Rattle.anno_words.specs.WrongValues.{wrong_values}
use Rattle.anno_words.specs.declared.words.AnnoWords.{AnnoWords}
use Rattle.sort_words.specs.SortWords as sort_words
use Rattle.sort_words.specs.SortWords.{sort_items, sort_said}
use Rattle.sort_words.specs.Table.{sort_table}
use Rattle.sort_words.specs.Keys.{wrong_names as wrong_fields}
use Rattle.sort_words.specs.declared.words.SortWords.{SortWords}
use Rattle.list_words.specs.ListWords as list_words
use Rattle.list_words.specs.ListWords.{list_items, list_said}
use Rattle.list_words.specs.Parts.{wrong_parts}
use Rattle.list_words.specs.Table.{list_table}
use Rattle.list_words.specs.declared.words.ListWords.{ListWords}
use Rattle.store_words.specs.StoreWords as store_words
use Rattle.store_words.specs.StoreWords.{store_items, store_said}
use Rattle.store_words.specs.Values.{wrong_values as wrong_stored_values}
use Rattle.store_words.specs.Table.{store_table}
use Rattle.store_words.specs.declared.words.StoreWords.{StoreWords}
use Rattle.command_plans.specs.Profile.{folder_of, inbox_of, stored_of, value_or}
use Rattle.mh_base.specs.Characters.{words_in}
use Rattle.mail_text.proofs.Showing.{front_valid}

valid_front : (bytes : List ℕ) → IsUtf8 (take (utf8_valid_len bytes) bytes)
unfolding utf8_valid_len
valid_front bytes = IsUtf8-from_is_utf8 (take (valid_len_up_to bytes (length bytes)) bytes) (front_valid bytes (length bytes))

scalars_both : (xs ys : List ℕ) → scalars xs ≡ true → scalars ys ≡ true → scalars (xs ++ ys) ≡ true
scalars_both [] ys a b = b
scalars_both (x ∷ xs) ys a b = let parts = and_parts (scalar x) (scalars xs) a in and_from (scalar x) (scalars (xs ++ ys)) parts.0 (scalars_both xs ys parts.1 b)

up_to_scalars : (n : ℕ) (bytes : List ℕ) → length bytes ≤ n → scalars (shown_up_to n bytes) ≡ true
up_to_scalars zero [] le = ap scalars chars-nil
up_to_scalars zero (b ∷ bytes) le = absurd (omega arith)
up_to_scalars (suc n) bytes le = go (utf8_valid_len bytes == length bytes) refl (up_to_scalars n (drop (utf8_valid_len bytes + 1) bytes) (let l = length-drop (utf8_valid_len bytes + 1) bytes in omega (arith, l, le)))
  where
    go : (b : Bool) → (utf8_valid_len bytes == length bytes) ≡ b → scalars (shown_up_to n (drop (utf8_valid_len bytes + 1) bytes)) ≡ true
        → scalars (if b then chars bytes else chars (take (utf8_valid_len bytes) bytes) ++ 63 ∷ shown_up_to n (drop (utf8_valid_len bytes + 1) bytes)) ≡ true
    go true e rest =
        let same : utf8_valid_len bytes ≡ length bytes = (Decides-eqb (utf8_valid_len bytes) (length bytes)).0 e in
        scalars-chars bytes (subst IsUtf8 (take_all (utf8_valid_len bytes) bytes (omega (arith, same))) (valid_front bytes))
    go false e rest = scalars_both (chars (take (utf8_valid_len bytes) bytes)) (63 ∷ shown_up_to n (drop (utf8_valid_len bytes + 1) bytes)) (scalars-chars (take (utf8_valid_len bytes) bytes) (valid_front bytes)) (and_from (scalar 63) (scalars (shown_up_to n (drop (utf8_valid_len bytes + 1) bytes))) refl rest)

shown_scalars : (bytes : List ℕ) → scalars (shown bytes) ≡ true
unfolding shown
shown_scalars bytes = up_to_scalars (length bytes) bytes (omega arith)

-- words that are texts of characters
abbrev pub AreTexts : List (List ℕ) → Type 0
AreTexts [] = Unit {0}
AreTexts (w ∷ ws) = (scalars w ≡ true) × AreTexts ws

texts_both : (xs ys : List (List ℕ)) → AreTexts xs → AreTexts ys → AreTexts (xs ++ ys)
texts_both [] ys a b = b
texts_both (x ∷ xs) ys a b = (a.0, texts_both xs ys a.1 b)

shown_texts : (xs : List (List ℕ)) → AreTexts (map shown xs)
shown_texts [] = tt
shown_texts (x ∷ xs) = (shown_scalars x, shown_texts xs)

-- and bytes that are UTF-8
abbrev pub AreUtf8 : List (List ℕ) → Type 0
AreUtf8 [] = Unit {0}
AreUtf8 (w ∷ ws) = IsUtf8 w × AreUtf8 ws

pub chars_texts : (ws : List (List ℕ)) → AreUtf8 ws → AreTexts (map chars ws)
chars_texts [] f = tt
chars_texts (w ∷ ws) f = (scalars-chars w f.0, chars_texts ws f.1)

-- a folder's item is a word, and so is the value of a switch
abbrev IsTextual : Item → Type 0
IsTextual (Folder text place) = scalars text ≡ true
IsTextual (Message text place) = Unit {0}
IsTextual (Switch index None place) = Unit {0}
IsTextual (Switch index (Some value) place) = scalars value ≡ true
IsTextual (Component name value place) = Unit {0}

abbrev AreTextual : List Item → Type 0
AreTextual [] = Unit {0}
AreTextual (i ∷ is) = IsTextual i × AreTextual is

abbrev Textual : Result (List Item) Wrong → Type 0
Textual (Ok items) = AreTextual items
Textual (Err e) = Unit {0}

abbrev FirstTextual : FirstWord → Type 0
FirstTextual (Alone item) = IsTextual item
FirstTextual (Valued item) = (value : List ℕ) → scalars value ≡ true → IsTextual (item value)
FirstTextual (IsBad why) = Unit {0}

switch_textual : (f : Found) (place : ℕ) → FirstTextual (named_switch f place)
switch_textual Nothing place = tt
switch_textual (One index Flag) place = tt
switch_textual (One index Value) place = λ value e. e
switch_textual Several place = tt

dashed_textual : (table : SwitchTable) (place : ℕ) (rest : List ℕ) → FirstTextual (dashed table place rest)
dashed_textual table place [] = tt
dashed_textual table place (c ∷ name) = go (table.components && (c == 45))
  where
    go : (b : Bool) → FirstTextual (if b then Valued (λ value. Component name value place) else named_switch (found_from table.switches (c ∷ name) 0 Nothing) place)
    go true = λ value e. tt
    go false = switch_textual (found_from table.switches (c ∷ name) 0 Nothing) place

first_textual : (table : SwitchTable) (place : ℕ) (word : List ℕ) → scalars word ≡ true → FirstTextual (first_word table place word)
first_textual table place [] e = tt
first_textual table place (c ∷ rest) e = go (c == 43) (c == 45)
  where
    go : (a b : Bool) → FirstTextual (if a then Alone (Folder (c ∷ rest) place) else (if b then dashed table place rest else Alone (Message (c ∷ rest) place)))
    go true b = e
    go false true = dashed_textual table place rest
    go false false = tt

before_textual : (item : Item) (r : Result (List Item) Wrong) → IsTextual item → Textual r → Textual (before item r)
before_textual item (Ok items) one rest = (one, rest)
before_textual item (Err e) one rest = tt

last_textual : (f : FirstWord) (place : ℕ) → FirstTextual f → Textual (last_read f place)
last_textual (Alone item) place one = (one, tt)
last_textual (Valued item) place one = tt
last_textual (IsBad why) place one = tt

next_textual : (f : FirstWord) (place : ℕ) (value : List ℕ) (r s : Result (List Item) Wrong) → FirstTextual f → scalars value ≡ true → Textual r → Textual s → Textual (next_read f place value r s)
next_textual (Alone item) place value r s one is a b = before_textual item r one a
next_textual (Valued item) place value r s one is a b = before_textual (item value) s (one value is) b
next_textual (IsBad why) place value r s one is a b = tt

read_textual : (table : SwitchTable) (place : ℕ) (words : List (List ℕ)) → AreTexts words → Textual (read_in table place words)
unfolding read_in
read_textual table place [] f = tt
read_textual table place (word ∷ []) f = last_textual (first_word table place word) place (first_textual table place word f.0)
read_textual table place (word ∷ (next ∷ left)) f =
    next_textual (first_word table place word) place next (read_in table (place + 1) (next ∷ left)) (read_in table (place + 2) left) (first_textual table place word f.0) f.1.0 (read_textual table (place + 1) (next ∷ left) f.1) (read_textual table (place + 2) left f.1.1)

abbrev AreFolderTexts : List FolderWord → Type 0
AreFolderTexts [] = Unit {0}
AreFolderTexts (f ∷ fs) = (scalars f.text ≡ true) × AreFolderTexts fs

folder_texts : (items : List Item) → AreTextual items → AreFolderTexts (folders items)
folder_texts [] f = tt
folder_texts (Folder text place ∷ items) f = (f.0, folder_texts items f.1)
folder_texts (Message text place ∷ items) f = folder_texts items f.1
folder_texts (Switch index value place ∷ items) f = folder_texts items f.1
folder_texts (Component name value place ∷ items) f = folder_texts items f.1

-- what a result of words says of a folder
abbrev pub HasChars : Option (List ℕ) → Type 0
HasChars None = Unit {0}
HasChars (Some text) = scalars text ≡ true

abbrev OneChars : Result (Option (List ℕ)) Wrong → Type 0
OneChars (Ok word) = HasChars word
OneChars (Err e) = Unit {0}

one_chars : (fs : List FolderWord) → AreFolderTexts fs → OneChars (one_folder fs)
one_chars [] f = tt
one_chars (x ∷ []) f = f.0
one_chars (x ∷ (y ∷ fs)) f = tt

plus_chars : (word : List ℕ) → scalars word ≡ true → scalars (without_plus word) ≡ true
plus_chars [] e = e
plus_chars (c ∷ rest) e = go (c == 43)
  where
    go : (b : Bool) → scalars (if b then rest else c ∷ rest) ≡ true
    go true = (and_parts (scalar c) (scalars rest) e).1
    go false = e

-- it holds of what is said
abbrev HoldsOf : {W : Type 0} → (W → Type 0) → Result W Ended → Type 0
HoldsOf Holds (Ok said) = Holds said
HoldsOf Holds (Err e) = Unit {0}

-- it holds of what words say by the folder that they name
named_by : {W : Type 0} (Holds : W → Type 0) (said : Option (List ℕ) → Result W Ended) (word : Option (List ℕ)) → HasChars word → ((folder : Option (List ℕ)) → HasChars folder → HoldsOf Holds (said folder))
    → HoldsOf Holds (said_unless_refused said (folder_named word))
named_by Holds said None chars f = f None tt
named_by Holds said (Some word) chars f = go (is_folder_name (without_plus word))
  where
    go : (b : Bool) → HoldsOf Holds (said_unless_refused said (some_named (if b then Ok (without_plus word) else Err (fault.Refused (refusal.BadFolder word)))))
    go true = f (Some (without_plus word)) (plus_chars word chars)
    go false = tt

folder_by : {W : Type 0} (Holds : W → Type 0) (said : Option (List ℕ) → Result W Ended) (words : List (List ℕ)) (r : Result (Option (List ℕ)) Wrong) → OneChars r
    → ((folder : Option (List ℕ)) → HasChars folder → HoldsOf Holds (said folder)) → HoldsOf Holds (folder_said said words r)
folder_by Holds said words (Ok word) chars f = named_by Holds said word chars f
folder_by Holds said words (Err wrong) chars f = tt

-- it holds of what they say with the profile's words by a table
words_by : {W : Type 0} (Holds : W → Type 0) (said : List (List ℕ) → List Item → Result W Ended) (table : SwitchTable) (name : List ℕ) (profile : List NamedValue) (words : List (List ℕ)) → AreTexts words
    → ((items : List Item) → AreTextual items → HoldsOf Holds (said (profile_words name profile ++ words) items)) → HoldsOf Holds (words_said said table (profile_words name profile ++ words))
words_by Holds said table name profile words texts f =
    go (read_in table 0 (profile_words name profile ++ words)) (read_textual table 0 (profile_words name profile ++ words) (texts_both (profile_words name profile) words (shown_texts (words_in (unwrap_or (value_of name profile) []))) texts))
  where
    go : (r : Result (List Item) Wrong) → Textual r → HoldsOf Holds (said_unless_wrong (said (profile_words name profile ++ words)) (profile_words name profile ++ words) r)
    go (Ok items) t = f items t
    go (Err wrong) t = tt

-- one folder of items that are texts, where no word is bad, or none too many
bad_chars : (bad : Option ℕ) (r : Result (Option (List ℕ)) Wrong) → OneChars r → OneChars (unless_bad bad r)
bad_chars bad (Err wrong) f = tt
bad_chars None (Ok word) f = f
bad_chars (Some place) (Ok word) f = tt

alone_chars : (r : Result (Option (List ℕ)) Wrong) (place : Option ℕ) → OneChars r → OneChars (alone r place)
alone_chars (Ok word) None f = f
alone_chars (Ok word) (Some place) f = tt
alone_chars (Err wrong) None f = tt
alone_chars (Err wrong) (Some place) f = tt

one_of : (items : List Item) → AreTextual items → OneChars (one_folder (folders items))
one_of items t = one_chars (folders items) (folder_texts items t)

-- `mark`
abbrev MarkChars : MarkWords → Type 0
MarkChars said = HasChars said.folder

mark_folder_by : (items : List Item) (folder : Option (List ℕ)) (r : Result (List (List ℕ)) CommandFault) → HasChars folder → HoldsOf MarkChars (said_unless_refused (λ names. Ok (mark_words.words_of folder names items)) r)
mark_folder_by items folder (Ok names) f = f
mark_folder_by items folder (Err e) f = tt

mark_word_by : (words : List (List ℕ)) (items : List Item) (word : Option (List ℕ)) → HasChars word → HoldsOf MarkChars (word_said words items word)
mark_word_by words items word f = go (lacks_sequence items)
  where
    go : (b : Bool) → HoldsOf MarkChars (if b then Err (wrong_at words (missing_after words)) else said_unless_refused (mark_in_folder items) (folder_named word))
    go true = tt
    go false = named_by MarkChars (mark_in_folder items) word f (λ folder chars. mark_folder_by items folder _ chars)

mark_one_by : (words : List (List ℕ)) (items : List Item) (r : Result (Option (List ℕ)) Wrong) → OneChars r → HoldsOf MarkChars (said_unless_wrong (word_said words items) words r)
mark_one_by words items (Ok word) f = mark_word_by words items word f
mark_one_by words items (Err wrong) f = tt

pub mark_chars : (profile : List NamedValue) (words : List (List ℕ)) (said : MarkWords) → AreTexts words → mark_said profile words ≡ Ok said → HasChars said.folder
mark_chars profile words said f e =
    subst (HoldsOf MarkChars) e (words_by MarkChars mark_items mark_table (codes "mark") profile words f (λ items t. mark_one_by (profile_words (codes "mark") profile ++ words) items (one_folder (folders items)) (one_of items t)))

-- `rmm`
abbrev RmmChars : RmmWords → Type 0
RmmChars said = HasChars said.folder

pub rmm_chars : (profile : List NamedValue) (words : List (List ℕ)) (said : RmmWords) → AreTexts words → rmm_said profile words ≡ Ok said → HasChars said.folder
rmm_chars profile words said f e =
    subst (HoldsOf RmmChars) e (words_by RmmChars rmm_items rmm_table (codes "rmm") profile words f (λ items t. folder_by RmmChars (λ folder. Ok (rmm_words.words_of folder items)) _ (one_folder (folders items)) (one_of items t) (λ folder chars. chars)))

-- `folder`
abbrev TellChars : FolderWords → Type 0
TellChars said = HasChars said.folder

pub tell_chars : (profile : List NamedValue) (words : List (List ℕ)) (said : FolderWords) → AreTexts words → tell_said profile words ≡ Ok said → HasChars said.folder
tell_chars profile words said f e =
    subst (HoldsOf TellChars) e (words_by TellChars tell_items folder_table (codes "folder") profile words f
    (λ items t. folder_by TellChars (λ folder. Ok (tell_words.words_of folder items)) _ (folder_and_message items) (alone_chars (one_folder (folders items)) (too_many (is_packed items) (message_places items)) (one_of items t)) (λ folder chars. chars)))

-- `refile`
targets_texts : (items : List Item) → AreTextual items → AreTexts (targets items)
targets_texts [] f = tt
targets_texts (Folder text place ∷ items) f = (plus_chars text f.0, targets_texts items f.1)
targets_texts (Message text place ∷ items) f = targets_texts items f.1
targets_texts (Switch index value place ∷ items) f = targets_texts items f.1
targets_texts (Component name value place ∷ items) f = targets_texts items f.1

source_chars : (at : ℕ) (before : Option (List ℕ)) (items : List Item) → HasChars before → AreTextual items → HasChars (last_or before (values at items))
source_chars at before [] is f = is
source_chars at before (Folder text place ∷ items) is f = source_chars at before items is f.1
source_chars at before (Message text place ∷ items) is f = source_chars at before items is f.1
source_chars at before (Component name value place ∷ items) is f = source_chars at before items is f.1
source_chars at before (Switch index None place ∷ items) is f = source_chars at before items is f.1
source_chars at before (Switch index (Some value) place ∷ items) is f = go (index == at) (source_chars at before items is f.1) (source_chars at (Some (without_plus value)) items (plus_chars value f.0) f.1)
  where
    go : (b : Bool) → HasChars (last_or before (values at items)) → HasChars (last_or (Some (without_plus value)) (values at items)) → HasChars (last_or before ((if b then value ∷ [] else []) ++ values at items))
    go true rest named = named
    go false rest named = rest

-- each folder that the words name
abbrev pub HasAllChars : RefileWords → Type 0
HasAllChars w = HasChars w.source × AreTexts (w.target ∷ w.others)

refile_wrong_by : (said : RefileWords) (wrong : List (List ℕ)) → HasAllChars said → HoldsOf HasAllChars (unless_wrong said wrong)
refile_wrong_by said [] f = f
refile_wrong_by said (word ∷ words) f = tt

refile_targets_by : (words : List (List ℕ)) (items : List Item) (names : List (List ℕ)) → AreTexts names → AreTextual items → HoldsOf HasAllChars (targets_said words items names)
refile_targets_by words items [] f g = tt
refile_targets_by words items (target ∷ others) f g = refile_wrong_by (words_of (source_of items) target others items) (wrong_names items) (source_chars _ None items tt g, f)

pub refile_chars : (profile : List NamedValue) (words : List (List ℕ)) (said : RefileWords) → AreTexts words → refile_said profile words ≡ Ok said → HasAllChars said
refile_chars profile words said f e =
    subst (HoldsOf HasAllChars) e (words_by HasAllChars refile_items refile_table (codes "refile") profile words f (λ items t. refile_targets_by (profile_words (codes "refile") profile ++ words) items (targets items) (targets_texts items t) t))

-- `inc`
abbrev IncChars : IncWords → Type 0
IncChars said = HasChars said.folder

pub inc_chars : (profile : List NamedValue) (words : List (List ℕ)) (said : IncWords) → AreTexts words → inc_said profile words ≡ Ok said → HasChars said.folder
inc_chars profile words said f e =
    subst (HoldsOf IncChars) e (words_by IncChars inc_items inc_table (codes "inc") profile words f
    (λ items t. folder_by IncChars (λ folder. Ok (inc_words.words_of folder items)) _ (unless_bad (first_of (wrong_widths items)) (inc_words.folder_alone items))
    (bad_chars (first_of (wrong_widths items)) (inc_words.folder_alone items) (alone_chars (one_folder (folders items)) (first_of (message_places items)) (one_of items t))) (λ folder chars. chars)))

-- the stored folder
value_chars : (o : Option (List ℕ)) (default : List ℕ) → scalars default ≡ true → scalars (value_or o default) ≡ true
value_chars None default e = e
value_chars (Some value) default e = shown_scalars value

stored_chars : (context profile : List NamedValue) → scalars (stored_of context profile) ≡ true
stored_chars context profile = value_chars (value_of current_name context) (inbox_of profile) (value_chars (value_of (codes "Inbox") profile) (codes "inbox") refl)

ok_name : (x y : List ℕ) → ◌≡◌ {A = Result (List ℕ) CommandFault} (Ok x) (Ok y) → x ≡ y
ok_name x y e = cc (e)

no_name : (e : CommandFault) (y : List ℕ) → ◌≡◌ {A = Result (List ℕ) CommandFault} (Err e) (Ok y) → ⊥
no_name e y f = cc (f)

named_chars : (word folder : List ℕ) → scalars word ≡ true → named_folder word ≡ Ok folder → scalars folder ≡ true
named_chars word folder f e = go (is_folder_name (without_plus word)) e
  where
    go : (b : Bool) → ◌≡◌ {A = Result (List ℕ) CommandFault} (if b then Ok (without_plus word) else Err (fault.Refused (refusal.BadFolder word))) (Ok folder) → scalars folder ≡ true
    go true e = subst (λ z. scalars z ≡ true) (ok_name (without_plus word) folder e) (plus_chars word f)
    go false e = absurd (no_name (fault.Refused (refusal.BadFolder word)) folder e)

-- the folder that is acted on
pub acted_chars : (said : Option (List ℕ)) (context profile : List NamedValue) (folder : List ℕ) → HasChars said → folder_of said context profile ≡ Ok folder → scalars folder ≡ true
acted_chars None context profile folder f e = named_chars (stored_of context profile) folder (stored_chars context profile) e
acted_chars (Some name) context profile folder f e = subst (λ z. scalars z ≡ true) (ok_name name folder e) f

-- `pick`
abbrev PickChars : PickWords → Type 0
PickChars said = HasChars said.folder

module _ (moment offset : ℤ) where
  expr_by : (folder : Option (List ℕ)) (names : List (List ℕ)) (items : List Item) (r : Result Expr CommandFault) → HasChars folder → HoldsOf PickChars (said_unless_refused (λ expr. Ok (pick_words.words_of folder names expr items)) r)
  expr_by folder names items (Ok expr) f = f
  expr_by folder names items (Err e) f = tt

  pick_folder_by : (items : List Item) (folder : Option (List ℕ)) (r : Result (List (List ℕ)) CommandFault) → HasChars folder
      → HoldsOf PickChars (said_unless_refused (λ names. said_unless_refused (λ expr. Ok (pick_words.words_of folder names expr items)) (pick_words.named_expr items (expr_in moment offset items))) r)
  pick_folder_by items folder (Ok names) f = expr_by folder names items (pick_words.named_expr items (expr_in moment offset items)) f
  pick_folder_by items folder (Err e) f = tt

  pub pick_chars : (profile : List NamedValue) (words : List (List ℕ)) (said : PickWords) → AreTexts words → pick_said moment offset profile words ≡ Ok said → HasChars said.folder
  pick_chars profile words said f e =
      subst (HoldsOf PickChars) e (words_by PickChars (pick_items moment offset) pick_table (codes "pick") profile words f
      (λ items t. folder_by PickChars (pick_in_folder moment offset items) _ (unless_bad (first_of (bad_names items)) (one_folder (folders items))) (bad_chars (first_of (bad_names items)) (one_folder (folders items)) (one_of items t))
      (λ folder chars. pick_folder_by items folder _ chars)))

-- `anno`
abbrev AnnoChars : AnnoWords → Type 0
AnnoChars said = HasChars said.folder

module _ (moment offset : ℤ) where
  anno_word_by : (words : List (List ℕ)) (items : List Item) (word name : Option (List ℕ)) → HasChars word → HoldsOf AnnoChars (anno_words.word_said moment offset words items word name)
  anno_word_by words items word (Some name) f = named_by AnnoChars (λ folder. Ok (anno_words.words_of folder (anno_words.lines_of moment offset items name) items)) word f (λ folder chars. chars)
  anno_word_by words items word None f = tt

  anno_one_by : (words : List (List ℕ)) (items : List Item) (r : Result (Option (List ℕ)) Wrong) → OneChars r → HoldsOf AnnoChars (said_unless_wrong (λ word. anno_words.word_said moment offset words items word (anno_words.component_of items)) words r)
  anno_one_by words items (Ok word) f = anno_word_by words items word (anno_words.component_of items) f
  anno_one_by words items (Err wrong) f = tt

  pub anno_chars : (profile : List NamedValue) (words : List (List ℕ)) (said : AnnoWords) → AreTexts words → anno_said moment offset profile words ≡ Ok said → HasChars said.folder
  anno_chars profile words said f e =
      subst (HoldsOf AnnoChars) e (words_by AnnoChars (anno_items moment offset) anno_table (codes "anno") profile words f
      (λ items t. anno_one_by (profile_words (codes "anno") profile ++ words) items (unless_bad (first_of (wrong_values items)) (one_folder (folders items))) (bad_chars (first_of (wrong_values items)) (one_folder (folders items)) (one_of items t))))

-- `sortm`
abbrev SortChars : SortWords → Type 0
SortChars said = HasChars said.folder

pub sort_chars : (profile : List NamedValue) (words : List (List ℕ)) (said : SortWords) → AreTexts words → sort_said profile words ≡ Ok said → HasChars said.folder
sort_chars profile words said f e =
    subst (HoldsOf SortChars) e (words_by SortChars sort_items sort_table (codes "sortm") profile words f
    (λ items t. folder_by SortChars (λ folder. Ok (sort_words.words_of folder items)) _ (unless_bad (first_of (wrong_fields items)) (one_folder (folders items))) (bad_chars (first_of (wrong_fields items)) (one_folder (folders items)) (one_of items t)) (λ folder chars. chars)))

-- `mhlist`
abbrev ListChars : ListWords → Type 0
ListChars said = HasChars said.folder

pub list_chars : (profile : List NamedValue) (words : List (List ℕ)) (said : ListWords) → AreTexts words → list_said profile words ≡ Ok said → HasChars said.folder
list_chars profile words said f e =
    subst (HoldsOf ListChars) e (words_by ListChars list_items list_table (codes "mhlist") profile words f
    (λ items t. folder_by ListChars (λ folder. Ok (list_words.words_of folder items)) _ (unless_bad (first_of (wrong_parts items)) (one_folder (folders items))) (bad_chars (first_of (wrong_parts items)) (one_folder (folders items)) (one_of items t)) (λ folder chars. chars)))

-- `mhstore`
abbrev StoreChars : StoreWords → Type 0
StoreChars said = HasChars said.folder

pub store_chars : (profile : List NamedValue) (words : List (List ℕ)) (said : StoreWords) → AreTexts words → store_said profile words ≡ Ok said → HasChars said.folder
store_chars profile words said f e =
    subst (HoldsOf StoreChars) e (words_by StoreChars store_items store_table (codes "mhstore") profile words f
    (λ items t. folder_by StoreChars (λ folder. Ok (store_words.words_of folder items)) _ (unless_bad (first_of (wrong_stored_values items)) (one_folder (folders items))) (bad_chars (first_of (wrong_stored_values items)) (one_folder (folders items)) (one_of items t)) (λ folder chars. chars)))
