-- What a command comes to, by its words and the mailbox. Nothing here knows of steps.
use Rattle.std.specs.Prelude.{ℕ, Bool, true, false, List, [], ◌∷◌, map, Option, None, Some, Result, Ok, Err}
use Rattle.std.specs.Str.{chars}
use Rattle.mh_profile.specs.declared.named_value.NamedValue.{NamedValue}
use Rattle.mh_profile.specs.Reading.{entries_in}
use Rattle.folder_files.specs.declared.place.FilePath.{FilePath}
use Rattle.folder_files.specs.declared.place.Place.TheVariants.{Folder, Mail}
use Rattle.folder_files.specs.declared.refusal.Refusal.TheVariants.{NoFile}
use Rattle.file_plans.specs.Mailboxes.{Folder as FolderValue, Mailbox}
use Rattle.format_compiler.specs.Grammar.{Format}
use Rattle.step_plans.specs.declared.command_fault.CommandFault.{CommandFault}
use Rattle.step_plans.specs.declared.command_fault.CommandFault.TheVariants as fault
use Rattle.command_stages.specs.Works.{Work, refused_at, readable}
use Rattle.message_lines.specs.Finding.{format_within}
use Rattle.message_lines.specs.MessageText.{Writing}
use Rattle.message_lines.specs.declared.standing.Standing.{Standing}
use Rattle.mh_looks.specs.Outcomes.{scan_work}
use Rattle.opening_plans.specs.BegunWork.{Homes}
use Rattle.opening_plans.specs.HomesOf.{homes_at}
use Rattle.mark_command.specs.Mark.{mark_work}
use Rattle.pick_plans.specs.Outcomes.{pick_work}
use Rattle.anno_plans.specs.AnnoOutcome.{anno_work}
use Rattle.sortm_plans.specs.SortOutcome.{sort_work}
use Rattle.folder_command.specs.Folder.{folder_work}
use Rattle.pack_plans.specs.PackOutcome.{pack_work}
use Rattle.mhlist_plans.specs.ListOutcome.{mhlist_work}
use Rattle.mhbuild_plans.specs.BuildOutcome.{build_work, text_found}
use Rattle.mhbuild_plans.specs.Heard.{Heard}
use Rattle.mhstore_plans.specs.StoreOutcome.{mhstore_work}
use Rattle.inc_plans.specs.IncOutcome.{inc_work}
use Rattle.opening_plans.specs.MadeFolder.{or_empty, with_folder_made}
use Rattle.refile_plans.specs.RefileOutcome.{refile_work}
use Rattle.refile_plans.specs.RmmOutcome.{rmm_work}
use Rattle.command_words.specs.Ended.{plain}
use Rattle.look_words.specs.IncWords.{inc_said}
use Rattle.folder_words.specs.MarkWords.{mark_said}
use Rattle.folder_words.specs.RefileWords.{refile_said}
use Rattle.folder_words.specs.RmmWords.{rmm_said}
use Rattle.look_words.specs.ScanWords.{scan_said}
use Rattle.folder_words.specs.TellWords.{tell_said}
use Rattle.command_words.specs.declared.ended.Ended.{Ended}
use Rattle.folder_words.specs.declared.folder.FolderWords.{FolderWords}
use Rattle.folder_words.specs.declared.mark.MarkWords.{MarkWords}
use Rattle.folder_words.specs.declared.pick.PickWords.{PickWords}
use Rattle.folder_words.specs.declared.refile.RefileWords.{RefileWords}
use Rattle.folder_words.specs.declared.rmm.RmmWords.{RmmWords}
use Rattle.anno_words.specs.declared.words.AnnoWords.{AnnoWords}
use Rattle.sort_words.specs.declared.words.SortWords.{SortWords}
use Rattle.sort_words.specs.SortWords.{sort_said}
use Rattle.list_words.specs.ListWords.{list_said}
use Rattle.list_words.specs.declared.words.ListWords.{ListWords}
use Rattle.build_words.specs.BuildWords.{build_said}
use Rattle.build_words.specs.declared.words.BuildWords.{BuildWords}
use Rattle.store_words.specs.StoreWords.{store_said}
use Rattle.store_words.specs.declared.words.StoreWords.{StoreWords}
use Rattle.command_plans.specs.Command.{anno_job, annotated_by, build_job, job_of, list_job, mark_job, no_command, pack_job, pick_job, picked_by, refile_job, rmm_job, tell_job, sort_job, store_job}
use Rattle.command_plans.specs.CommandNames.{named}
use Rattle.command_plans.specs.Incorporating.{IncAsked, job_by, job_writing}
use Rattle.command_plans.specs.Looking.{InFile, Known, ScanAsked, Telling, scan_asked, written_with}
use Rattle.command_plans.specs.Profile.{folder_of, path_of, profile_name}
use Rattle.command_plans.specs.declared.caller.Caller.{Caller}
use Rattle.command_plans.specs.declared.name.CommandName.{CommandName}
use Rattle.command_plans.specs.declared.name.CommandName.TheVariants.{Anno, Folder as FolderCommand, Inc, Mark, Mhbuild, Mhlist, Mhstore, Pick, Refile, Rmm, Scan, Sortm}

abbrev pub plainly : Result Unit CommandFault → Result Unit Ended
plainly (Ok u) = Ok u
plainly (Err e) = Err (plain e)

-- a stage's work, as the command's
abbrev pub of_stage : Work CommandFault → Work Ended
of_stage w = record { text = w.text; end = plainly w.end; mailbox = w.mailbox }

-- the work on a folder, by the context's entries and the folder
abbrev pub FolderWork : Type 0
FolderWork = List NamedValue → List ℕ → Work CommandFault

-- the folder that is acted on
abbrev pub in_folder : Mailbox → List NamedValue → FolderWork → Result (List ℕ) CommandFault → Work CommandFault
in_folder m context work (Ok folder) = work context folder
in_folder m context work (Err e) = refused_at m e

-- the context that is read
abbrev pub with_context : Mailbox → List NamedValue → Option (List ℕ) → FolderWork → Result (List ℕ) CommandFault
    → Work CommandFault
with_context m profile said work (Ok text) =
    in_folder m (entries_in text) work (folder_of said (entries_in text) profile)
with_context m profile said work (Err e) = refused_at m e

-- the work on the folder that the words name, or else the context or the profile
abbrev pub on_folder : Mailbox → List NamedValue → Option (List ℕ) → FolderWork → Work CommandFault
on_folder m profile said work = with_context m profile said work (readable (m.context (Mail (path_of profile))))

-- what words come to: the work that they ask for, or the end that they come to
abbrev pub words_work : {W : Type 0} → Mailbox → (W → Work CommandFault) → Result W Ended → Work Ended
words_work m works (Ok words) = of_stage (works words)
words_work m works (Err e) = refused_at m e

-- so the words of a command on a folder, which say what folder, or none
abbrev pub folder_words_work : {W : Type 0} → Mailbox → List NamedValue → (W → FolderWork) → (W → Option (List ℕ))
    → Result W Ended → Work Ended
folder_words_work m profile works said = words_work m (λ words. on_folder m profile (said words) (works words))

-- the format of a file outside the mailbox, where there is one
abbrev pub format_outside : FilePath → Option (List ℕ) → Result Format CommandFault
format_outside path None = Err (fault.Refused (NoFile path))
format_outside path (Some text) = format_within text

-- what is written of messages, by the file that is there
abbrev pub written_there : Mailbox → Telling → Result (Standing → Writing) CommandFault
written_there m (Known spoken) = Ok spoken
written_there m (InFile path sight) = written_with sight (format_outside path (m.outside path))

-- the work that writes so, or the refusal
abbrev pub writing : Mailbox → ((Standing → Writing) → Work CommandFault) → Result (Standing → Writing) CommandFault
    → Work CommandFault
writing m work (Ok spoken) = work spoken
writing m work (Err e) = refused_at m e

-- `scan`
abbrev pub scans : Mailbox → List NamedValue → ScanAsked → FolderWork
scans m profile words context folder =
    writing m (λ spoken. scan_work (path_of profile) context (job_of folder words profile spoken) m)
    (written_there m words.telling)

-- What a command meets that begins a folder: where each message goes that other runs held aside there, and the
-- context's entries as they are read under the folder's lock, by those that were read before; and its run's number.
pub record Meeting : Type 0 where
  pub homes : Option FolderValue → Homes
  pub entries : List NamedValue → List NamedValue
  pub run : ℕ

-- alone each goes where it goes alone, and the context is what it was; this run is the one that held nothing aside
abbrev pub alone_meeting : ℕ → Meeting
alone_meeting run = record { homes = homes_at run; entries = λ es. es; run = run }

-- where each message goes that other runs held aside in this folder
abbrev pub homes_in : Meeting → Mailbox → List NamedValue → List ℕ → Homes
homes_in g m profile folder = g.homes (m.folders (Folder (path_of profile) folder))

-- `mark`: what other runs hold aside in the folder goes first
abbrev pub marks : Meeting → Mailbox → List NamedValue → MarkWords → FolderWork
marks g m profile words context folder =
    mark_work (path_of profile) (mark_job folder words profile) (g.entries context) (homes_in g m profile folder) m

-- `pick`: so too where it marks
abbrev pub picks : Meeting → Mailbox → List NamedValue → PickWords → FolderWork
picks g m profile words context folder =
    pick_work (path_of profile) (g.entries context) (homes_in g m profile folder) (pick_job folder words profile) m

-- `folder`: so too where words choose messages
abbrev pub tells : Meeting → Mailbox → List NamedValue → FolderWords → FolderWork
tells g m profile words context folder =
    folder_work (path_of profile) (tell_job folder words profile) (g.entries context) (homes_in g m profile folder) m

-- `folder -pack`: so too
abbrev pub packs : Meeting → Mailbox → List NamedValue → FolderWork
packs g m profile context folder =
    pack_work g.run (path_of profile) (g.entries context) (homes_in g m profile folder) (pack_job folder) m

-- the one or the other
abbrev pub tasks : Meeting → Mailbox → List NamedValue → FolderWords → Bool → FolderWork
tasks g m profile words true = packs g m profile
tasks g m profile words false = tells g m profile words

-- `rmm`: so too
abbrev pub rmms : Meeting → Mailbox → List NamedValue → RmmWords → FolderWork
rmms g m profile words context folder =
    rmm_work (path_of profile) (g.entries context) (homes_in g m profile folder) (rmm_job folder words profile) m

-- `anno`: so too
abbrev pub annos : Meeting → Mailbox → List NamedValue → AnnoWords → FolderWork
annos g m profile words context folder =
    anno_work g.run (path_of profile) (g.entries context) (homes_in g m profile folder)
    (anno_job folder words profile) m

-- `sortm`: so too
abbrev pub sorts : Meeting → Mailbox → List NamedValue → SortWords → FolderWork
sorts g m profile words context folder =
    sort_work g.run (path_of profile) (g.entries context) (homes_in g m profile folder)
    (sort_job folder words profile) m

-- `refile`: so too in each folder that it begins; one that is missing is empty
abbrev pub refiles : Meeting → Mailbox → List NamedValue → RefileWords → FolderWork
refiles g m profile words context folder =
    refile_work g.run (path_of profile) (g.entries context)
    (λ name. g.homes (or_empty (m.folders (Folder (path_of profile) name)))) (refile_job folder words profile) m

-- `mhlist`, which looks alone
abbrev pub lists : Mailbox → List NamedValue → ListWords → FolderWork
lists m profile words context folder = mhlist_work (path_of profile) context (list_job folder words profile) m

-- `mhstore`, which stores files in the current directory besides
abbrev pub stores : Mailbox → List NamedValue → StoreWords → FolderWork
stores m profile words context folder = mhstore_work (path_of profile) context (store_job folder words profile) m

-- `mhbuild`, once the context is read
abbrev pub builds : ℕ → Heard → Mailbox → List NamedValue → BuildWords → Result (List ℕ) CommandFault
    → Work CommandFault
builds run heard m profile words (Ok context) =
    build_work run (path_of profile) (entries_in context) (build_job words (entries_in context) profile)
    (text_found heard m words.draft) m
builds run heard m profile words (Err e) = refused_at m e

-- `inc`, once the context is read: what other runs hold aside in the folder of its job goes first, once that is there
abbrev pub incs : Meeting → Mailbox → List NamedValue → IncAsked → Result (List ℕ) CommandFault → Work CommandFault
incs g m profile asked (Ok text) =
    writing m
    (λ spoken.
    inc_work (path_of profile) (g.entries (entries_in text))
    (homes_in g (with_folder_made m (Folder (path_of profile) asked.folder)) profile asked.folder)
    (job_writing asked spoken) m)
    (written_there m asked.telling)
incs g m profile asked (Err e) = refused_at m e

-- the command of this name
abbrev pub word_work : Meeting → Heard → Mailbox → Caller → List NamedValue → List ℕ → List (List ℕ)
    → Option CommandName → Work Ended
word_work g heard m caller profile word words None = refused_at m (no_command (Some word))
word_work g heard m caller profile word words (Some Inc) =
    words_work m (λ asked. incs g m profile asked (readable (m.context (Mail (path_of profile)))))
    (job_by caller profile (inc_said profile (map chars words)))
word_work g heard m caller profile word words (Some Scan) =
    folder_words_work m profile (scans m profile) (λ said. said.folder)
    (scan_asked caller (scan_said profile (map chars words)))
word_work g heard m caller profile word words (Some Mark) =
    folder_words_work m profile (marks g m profile) (λ said. said.folder) (mark_said profile (map chars words))
word_work g heard m caller profile word words (Some Pick) =
    folder_words_work m profile (picks g m profile) (λ said. said.folder) (picked_by caller profile (map chars words))
word_work g heard m caller profile word words (Some Refile) =
    folder_words_work m profile (refiles g m profile) (λ said. said.source) (refile_said profile (map chars words))
word_work g heard m caller profile word words (Some Rmm) =
    folder_words_work m profile (rmms g m profile) (λ said. said.folder) (rmm_said profile (map chars words))
word_work g heard m caller profile word words (Some FolderCommand) =
    folder_words_work m profile (λ said. tasks g m profile said said.pack) (λ said. said.folder)
    (tell_said profile (map chars words))
word_work g heard m caller profile word words (Some Anno) =
    folder_words_work m profile (annos g m profile) (λ said. said.folder)
    (annotated_by caller profile (map chars words))
word_work g heard m caller profile word words (Some Sortm) =
    folder_words_work m profile (sorts g m profile) (λ said. said.folder) (sort_said profile (map chars words))
word_work g heard m caller profile word words (Some Mhlist) =
    folder_words_work m profile (lists m profile) (λ said. said.folder) (list_said profile (map chars words))
word_work g heard m caller profile word words (Some Mhstore) =
    folder_words_work m profile (stores m profile) (λ said. said.folder) (store_said profile (map chars words))
word_work g heard m caller profile word words (Some Mhbuild) =
    words_work m (λ said. builds g.run heard m profile said (readable (m.context (Mail (path_of profile)))))
    (build_said profile (map chars words))

abbrev pub named_work : Meeting → Heard → Mailbox → Caller → List NamedValue → List (List ℕ) → Work Ended
named_work g heard m caller profile [] = refused_at m (no_command None)
named_work g heard m caller profile (word ∷ words) = word_work g heard m caller profile word words (named word)

-- the profile that is read
abbrev pub with_profile : Meeting → Heard → Mailbox → Caller → List (List ℕ) → Result (List ℕ) CommandFault → Work Ended
with_profile g heard m caller words (Ok text) = named_work g heard m caller (entries_in text) words
with_profile g heard m caller words (Err e) = refused_at m (plain e)

-- what a command comes to that hears this of its input, in its stages: the profile, the words, the context, the folder,
-- the file of the format, the work
unfoldable pub work_by : Meeting → Heard → Caller → List (List ℕ) → Mailbox → Work Ended
work_by g heard caller words m = with_profile g heard m caller words (readable (m.home profile_name))

-- what it comes to alone, where this is heard of the input
abbrev pub work_of : ℕ → Caller → List (List ℕ) → Heard → Mailbox → Work Ended
work_of run caller words heard m = work_by (alone_meeting run) heard caller words m
