-- The lines of error output.
use Rattle.std.specs.Prelude.{ℕ, List, [], ◌∷◌, ◌++◌, Option, Some, None, codes, decimal, unwrap_or}
use Rattle.std.specs.Str.{encode_utf8_all}
use Rattle.mh_base.specs.declared.word.WordWhy.{WordWhy}
use Rattle.mh_base.specs.declared.word.WordWhy.TheVariants as why
use Rattle.folder_files.specs.declared.place.Place.{Place}
use Rattle.folder_files.specs.declared.place.Place.TheVariants.{Home, Work, Mail, Folder}
use Rattle.folder_files.specs.declared.refusal.Which.{Which}
use Rattle.folder_files.specs.declared.refusal.Which.TheVariants as which
use Rattle.folder_files.specs.declared.refusal.Refusal.{Refusal}
use Rattle.folder_files.specs.declared.refusal.Refusal.TheVariants as refusal
use Rattle.mh_tools.specs.declared.status.Status.{Status}
use Rattle.mh_tools.specs.declared.status.Status.TheVariants.{Done, Refused, Faulted, Locked, Meddled, NoMemory}
use Rattle.mh_tools.specs.Shown.{shown}

abbrev pub command_text : Option (List ℕ) → List ℕ
command_text None = codes "no command"
command_text (Some word) = codes "unknown command: " ++ word

-- a wrong word, by its reason
abbrev pub word_text : Option (List ℕ) → WordWhy → List ℕ
word_text word why.NoCommand = command_text word
word_text word why.Unknown = codes "unknown switch: " ++ unwrap_or word []
word_text word why.Ambiguous = codes "ambiguous switch: " ++ unwrap_or word []
word_text word why.NoValue = codes "missing value: " ++ unwrap_or word []
word_text word why.BadValue = codes "bad value: " ++ unwrap_or word []
word_text word why.Missing = codes "missing word"
word_text word why.Extra = codes "unexpected word: " ++ unwrap_or word []

-- a refusal; `word` is the word at the place that it names
abbrev pub refusal_text : Option (List ℕ) → Refusal → List ℕ
refusal_text word (refusal.BadSwitch place why) = word_text word why
refusal_text word (refusal.BadFolder s) = codes "bad folder name: " ++ encode_utf8_all s
refusal_text word (refusal.NoFolder s) = codes "no such folder: +" ++ encode_utf8_all s
refusal_text word (refusal.BadSpec s) = codes "bad message name: " ++ encode_utf8_all s
refusal_text word (refusal.Absent s) = codes "no such message: " ++ encode_utf8_all s
refusal_text word (refusal.EmptyRange s) = codes "no messages in range: " ++ encode_utf8_all s
refusal_text word (refusal.EmptySequence s) = codes "no messages in sequence: " ++ encode_utf8_all s
refusal_text word (refusal.BadSequenceName s) = codes "bad sequence name: " ++ encode_utf8_all s
refusal_text word (refusal.BadFormat n) = codes "bad format at byte " ++ decimal n
refusal_text word (refusal.BadDate s) = codes "bad date: " ++ encode_utf8_all s
refusal_text word (refusal.BadExpr n) = codes "bad expression at word " ++ decimal n
refusal_text word refusal.NoMatch = codes "no messages match"
refusal_text word refusal.NoMail = codes "no mail to incorporate"
refusal_text word refusal.NotADrop = codes "not a mail drop"
refusal_text word (refusal.SameFolder s) = codes "same folder: +" ++ encode_utf8_all s
refusal_text word (refusal.Full s) = codes "folder is full: +" ++ encode_utf8_all s
refusal_text word (refusal.BadDraft n) = codes "bad draft at line " ++ decimal n
refusal_text word (refusal.NoPart s) = codes "no such part: " ++ encode_utf8_all s
refusal_text word (refusal.WouldReplace s) = codes "file exists: " ++ s
refusal_text word (refusal.TooLarge n limit) =
    (codes "too large: " ++ decimal n) ++ (codes " bytes, limit " ++ decimal limit)
refusal_text word refusal.DropGrown = codes "mail drop has grown"
refusal_text word (refusal.NoFile path) = codes "no such file: " ++ path.text
refusal_text word refusal.DropChanged = codes "mail drop has changed"

abbrev pub place_text : Place → List ℕ
place_text Home = codes "home directory"
place_text Work = codes "current directory"
place_text (Mail path) = codes "mail directory"
place_text (Folder path name) = codes "+" ++ encode_utf8_all name

abbrev pub which_text : Which → List ℕ
which_text which.Files = codes "fault of files"
which_text which.Source = codes "fault of input"
which_text which.Out = codes "fault of output"

-- what a status says; nothing where all is done
abbrev pub status_text : Option (List ℕ) → Status → List ℕ
status_text word Done = []
status_text word (Refused r) = refusal_text word r
status_text word (Faulted w) = which_text w
status_text word (Locked place) = place_text place ++ codes " is locked"
status_text word (Meddled place name) =
    codes "name " ++ name ++ codes " in " ++ place_text place ++ codes " was changed meanwhile"
status_text word NoMemory = codes "no memory"

-- the line of a status other than Done
unfoldable pub error_line_of : Option (List ℕ) → Status → List ℕ
error_line_of word status = codes "mh: " ++ shown (status_text word status) ++ 10 ∷ []
