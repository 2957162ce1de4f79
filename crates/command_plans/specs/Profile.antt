-- What the profile says of all commands, and the folder that is acted on.
use Rattle.std.specs.Prelude.{ℕ, List, [], Option, None, Some, unwrap_or, Result, Ok, codes}
use Rattle.mail_text.specs.ShownBytes.{shown}
use Rattle.mh_profile.specs.Reading.{entries_in}
use Rattle.mh_profile.specs.declared.named_value.NamedValue.{NamedValue}
use Rattle.mh_profile.specs.Changes.{value_of}
use Rattle.folder_files.specs.declared.step.Answer.{Answer}
use Rattle.file_plans.specs.Asking.{reading_of}
use Rattle.file_plans.specs.declared.answers.Reading.{Reading}
use Rattle.file_plans.specs.declared.answers.Reading.TheVariants as reading
use Rattle.step_plans.specs.declared.command_fault.CommandFault.{CommandFault}
use Rattle.command_stages.specs.Current.{current_name}
use Rattle.command_words.specs.FolderWords.{named_folder}

-- the profile, in the home directory
abbrev pub profile_name : List ℕ
profile_name = codes ".mh_profile"

-- the path of the mail directory
abbrev pub path_of : List NamedValue → List ℕ
path_of profile = unwrap_or (value_of (codes "Path") profile) (codes "Mail")

-- the prefix of negation; empty where there is none
abbrev pub negation_of : List NamedValue → List ℕ
negation_of profile = unwrap_or (value_of (codes "Sequence-Negation") profile) []

abbrev pub value_or : Option (List ℕ) → List ℕ → List ℕ
value_or None default = default
value_or (Some value) default = shown value

-- the folder of which words and context say nothing: the profile's, or `inbox`
abbrev pub inbox_of : List NamedValue → List ℕ
inbox_of profile = value_or (value_of (codes "Inbox") profile) (codes "inbox")

-- the stored name of the current folder
abbrev pub stored_of : List NamedValue → List NamedValue → List ℕ
stored_of context profile = value_or (value_of current_name context) (inbox_of profile)

-- the folder acted on: the one of the words, else the stored one, which may be no name
abbrev pub folder_of : Option (List ℕ) → List NamedValue → List NamedValue → Result (List ℕ) CommandFault
folder_of (Some name) context profile = Ok name
folder_of None context profile = named_folder (stored_of context profile)

-- the text that was read; the empty one where there is none
abbrev pub text_of : Reading → List ℕ
text_of (reading.Content bytes) = bytes
text_of (reading.Long l) = []
text_of reading.Gone = []

-- the entries that the answer to a reading gave
abbrev pub entries_by : Answer → List NamedValue
entries_by a = entries_in (text_of (reading_of a))

-- the path of the mail directory, by the answer to the reading of the profile
abbrev pub path_by : Answer → List ℕ
path_by a = path_of (entries_by a)
