-- What shows how a command ended whose words name one that begins a folder: its run's own deeds in the call, the newest
-- first.
use Rattle.std.specs.Prelude.{◌≡◌, ◌⊎◌, ℕ, Bool, true, false, List, [], ◌∷◌, map, Option, None, Some, Result, Ok, Err}
use Rattle.std.specs.Str.{chars}
use Rattle.mh_profile.specs.declared.named_value.NamedValue.{NamedValue}
use Rattle.folder_files.specs.Deeds.{Deed}
use Rattle.folder_files.specs.declared.refusal.Refusal.TheVariants as refusal
use Rattle.step_plans.specs.declared.command_fault.CommandFault.{CommandFault}
use Rattle.step_plans.specs.declared.command_fault.CommandFault.TheVariants as fault
use Rattle.opening_plans.specs.Endings.{ShowsEnd}
use Rattle.mark_command.specs.Mark.{look_task, mark_task}
use Rattle.mark_command.specs.declared.job.MarkAct.{MarkAct}
use Rattle.mark_command.specs.declared.job.MarkJob.{MarkJob}
use Rattle.pick_plans.specs.PickAnswers.{HasFound, HasFoundListed, ShowsListing as ShowsPickListing, ShowsPicking, TellsNone, TellsSome}
use Rattle.pick_plans.specs.declared.job.PickJob.{PickJob}
use Rattle.pick_plans.specs.declared.job.PickMarks.{PickMarks}
use Rattle.anno_plans.specs.AnnoAnswers.{ShowsAnno}
use Rattle.anno_plans.specs.AnnoDone.{HasNotedChosen}
use Rattle.anno_plans.specs.declared.job.AnnoJob.{AnnoJob}
use Rattle.sortm_plans.specs.SortAnswers.{ShowsSort}
use Rattle.sortm_plans.specs.SortDone.{HasSortedChosen}
use Rattle.sortm_plans.specs.declared.job.SortJob.{SortJob}
use Rattle.told_folders.specs.Answers.{HasChanged, ShowsListing, TellsFolder, change_answers}
use Rattle.told_folders.specs.Tasks.{Task}
use Rattle.folder_command.specs.Folder.{task_with}
use Rattle.folder_command.specs.declared.job.FolderJob.{FolderJob}
use Rattle.pack_plans.specs.PackAnswers.{ShowsPack}
use Rattle.pack_plans.specs.PackPledge.{TellsPacked}
use Rattle.pack_plans.specs.declared.job.PackJob.{PackJob}
use Rattle.inc_plans.specs.IncAnswers.{IsTextOfNew, ShowsIncorporating}
use Rattle.mhlist_plans.specs.ListAnswers.{IsNoPart, ShowsListing as ShowsPartsListing, TellsFirstRows, TellsRows}
use Rattle.mhlist_plans.specs.declared.job.ListJob.{ListJob}
use Rattle.mhstore_plans.specs.StoreAnswers.{IsNoStoring, ShowsRefused, ShowsStoring, TellsFiles, TellsFirstFiles}
use Rattle.mhstore_plans.specs.declared.job.StoreJob.{StoreJob}
use Rattle.message_lines.specs.MessageText.{Writing}
use Rattle.message_lines.specs.declared.standing.Standing.{Standing}
use Rattle.refile_plans.specs.RefileAnswers.{ShowsRefile}
use Rattle.refile_plans.specs.RefileDone.{HasRefiledChosen}
use Rattle.refile_plans.specs.RmmAnswers.{HasRemovedChosen, rmm_answers}
use Rattle.refile_plans.specs.declared.job.RefileJob.{RefileJob}
use Rattle.refile_plans.specs.declared.job.RmmJob.{RmmJob}
use Rattle.look_words.specs.IncWords.{inc_said}
use Rattle.folder_words.specs.MarkWords.{mark_said}
use Rattle.folder_words.specs.RefileWords.{refile_said}
use Rattle.folder_words.specs.RmmWords.{rmm_said}
use Rattle.folder_words.specs.TellWords.{tell_said}
use Rattle.command_words.specs.declared.ended.Ended.{Ended}
use Rattle.folder_words.specs.declared.folder.FolderWords.{FolderWords}
use Rattle.sort_words.specs.SortWords.{sort_said}
use Rattle.list_words.specs.ListWords.{list_said}
use Rattle.store_words.specs.StoreWords.{store_said}
use Rattle.command_ends.specs.Causes.{ByReadings, IsWrongStored, ShowsCommandFault, ShowsLongEntries}
use Rattle.command_plans.specs.Command.{anno_job, annotated_by, list_job, mark_job, pack_job, pick_job, picked_by, refile_job, rmm_job, tell_job, sort_job, store_job}
use Rattle.command_plans.specs.CommandNames.{named}
use Rattle.command_plans.specs.Incorporating.{IncAsked, job_by, job_writing}
use Rattle.command_plans.specs.Looking.{WritesAs}
use Rattle.command_plans.specs.Profile.{entries_by, folder_of, path_by, path_of}
use Rattle.command_ends.specs.WordCauses.{AreWordsOf, IsRefusedByWords, OfSaid}
use Rattle.command_plans.specs.declared.name.CommandName.{CommandName}
use Rattle.command_plans.specs.declared.name.CommandName.TheVariants.{Anno, Folder as FolderCommand, Inc, Mark, Mhlist, Mhstore, Pick, Refile, Rmm, Sortm}
use Rattle.command_plans.specs.declared.caller.Caller.{Caller}

-- what shows how it ended before it came to a folder, once the words are read
pub data ShowsEarly : CommandFault → List Deed → Type 0 where
  -- what is stored as the current folder is no folder's name
  wrong_stored : {word : List ℕ} {own : List Deed} → IsWrongStored word own
      → ShowsEarly (fault.Refused (refusal.BadFolder word)) own
  -- the profile or the context is too long
  long_entries : {e : CommandFault} {own : List Deed} → ShowsLongEntries e own → ShowsEarly e own

-- of a command that only looks at a folder: it tells of the sequences that it read, with these entries of the context;
-- or it is refused as a command that looks, its words by what it read
abbrev pub ShowsToldTask : ℕ → List ℕ → Task → List NamedValue → Result (List ℕ) CommandFault → List Deed → Type 0
ShowsToldTask run path t context (Ok said) own = TellsFolder path t context said own
ShowsToldTask run path t context (Err e) own = ShowsCommandFault run e own × ShowsListing path t context e own

-- of one that changes sequences: at its end it had changed them and said this, or this shows its fault
abbrev pub ShowsChangedTask : ℕ → List ℕ → Task → Result (List ℕ) CommandFault → List Deed → Type 0
ShowsChangedTask run path t (Ok said) own = HasChanged run path t said own
ShowsChangedTask run path t (Err e) own = ShowsEnd run path t.folder (change_answers t) e own

-- a `mark` lists sequences, or changes them
abbrev pub ShowsMarking : ℕ → List ℕ → MarkJob → List NamedValue → Result (List ℕ) CommandFault → List Deed
    → Option MarkAct → Type 0
ShowsMarking run path job context r own None = ShowsToldTask run path (look_task job) context r own
ShowsMarking run path job context r own (Some a) = ShowsChangedTask run path (mark_task job a) r own

-- a `pick` that marks nothing: at its end it had found messages, which this text tells; or it is refused as a command
-- that looks, or since no message matches, and its words, or that none matches, by what it read
abbrev pub ShowsFinding : ℕ → List ℕ → PickJob → List NamedValue → Result (List ℕ) CommandFault → List Deed → Type 0
ShowsFinding run path job context (Ok said) own = TellsSome (HasFoundListed path job context) job said own
ShowsFinding run path job context (Err e) own =
    (ShowsCommandFault run e own ⊎ (e ≡ fault.Refused refusal.NoMatch)) × ShowsPickListing path job context e own

-- one that marks them: at its end it had found messages on the folder that it began, which this text tells; or this
-- shows its fault
abbrev pub ShowsMarkingFound : ℕ → List ℕ → PickJob → PickMarks → Result (List ℕ) CommandFault → List Deed → Type 0
ShowsMarkingFound run path job p (Ok said) own = TellsSome (HasFound run path job) job said own
ShowsMarkingFound run path job p (Err e) own = ShowsPicking run path job p e own

abbrev pub ShowsPickJob : ℕ → List ℕ → PickJob → List NamedValue → Result (List ℕ) CommandFault → List Deed
    → Option PickMarks → Type 0
ShowsPickJob run path job context r own None = ShowsFinding run path job context r own
ShowsPickJob run path job context r own (Some p) = ShowsMarkingFound run path job p r own

-- a `folder` without words tells of a folder; one with words makes the least message that they choose the current one
abbrev pub ShowsTelling : ℕ → List ℕ → FolderJob → List NamedValue → Result (List ℕ) CommandFault → List Deed
    → List (List ℕ) → Type 0
ShowsTelling run path job context r own [] = ShowsToldTask run path (task_with [] job) context r own
ShowsTelling run path job context r own (word ∷ words) = ShowsChangedTask run path (task_with (word ∷ words) job) r own

-- `folder -pack`: at its end its messages had got other numbers, and it said the line of the folder as it was then; or
-- this shows its fault
abbrev pub ShowsPacking : ℕ → List ℕ → PackJob → Result (List ℕ) CommandFault → List Deed → Type 0
ShowsPacking run path job (Ok said) own = TellsPacked run path job own said
ShowsPacking run path job (Err e) own = ShowsPack run path job e own

-- by whether messages are numbered anew
abbrev pub ShowsTask : ℕ → List NamedValue → List NamedValue → List ℕ → FolderWords → Result (List ℕ) CommandFault
    → List Deed → Bool → Type 0
ShowsTask run profile context folder words r own true = ShowsPacking run (path_of profile) (pack_job folder) r own
ShowsTask run profile context folder words r own false =
    ShowsTelling run (path_of profile) (tell_job folder words profile) context r own words.specs

-- of a command that tells nothing: at its end this holds, and it said nothing; or this shows its fault
abbrev pub ShowsSilent : (List Deed → Type 0) → (CommandFault → List Deed → Type 0) → Result (List ℕ) CommandFault
    → List Deed → Type 0
ShowsSilent done faults (Ok said) own = done own × (said ≡ [])
ShowsSilent done faults (Err e) own = faults e own

-- `rmm` on this folder: at its end it had removed the messages that the job's words choose, and said nothing; or this
-- shows its fault
abbrev pub ShowsRemoving : ℕ → List ℕ → RmmJob → Result (List ℕ) CommandFault → List Deed → Type 0
ShowsRemoving run path job =
    ShowsSilent (HasRemovedChosen run path job) (ShowsEnd run path job.folder (rmm_answers job))

-- `anno` on this folder: at its end it had put each message that the job's words choose anew, with the job's lines in
-- front, and said nothing; or this shows its fault
abbrev pub ShowsNoting : ℕ → List ℕ → AnnoJob → Result (List ℕ) CommandFault → List Deed → Type 0
ShowsNoting run path job = ShowsSilent (HasNotedChosen run path job) (ShowsAnno run path job)

-- `sortm` on this folder: at its end the messages that the job's words choose had changed places so that they stand in
-- order, and it said nothing; or this shows its fault
abbrev pub ShowsSorting : ℕ → List ℕ → SortJob → Result (List ℕ) CommandFault → List Deed → Type 0
ShowsSorting run path job = ShowsSilent (HasSortedChosen run path job) (ShowsSort run path job)

-- `refile` from this folder: at its end it had brought each message that the job's words choose to all folders that
-- they name, and said nothing; or this shows its fault
abbrev pub ShowsRefiling : ℕ → List ℕ → RefileJob → Result (List ℕ) CommandFault → List Deed → Type 0
ShowsRefiling run path job = ShowsSilent (HasRefiledChosen run path job) (ShowsRefile run path job)

-- `mhlist` on this folder: at its end it told the parts of the messages that the job's words choose, by what it read
-- and by these entries of the context; or it is refused as a command that looks, or since a message lacks a part, and
-- its words, or the part that is missing, by what it read
abbrev pub ShowsListingParts : ℕ → List ℕ → ListJob → List NamedValue → Result (List ℕ) CommandFault → List Deed
    → Type 0
ShowsListingParts run path job context (Ok said) own = TellsRows path job context said own
ShowsListingParts run path job context (Err e) own =
    (ShowsCommandFault run e own ⊎ IsNoPart e) × ShowsPartsListing path job context e own

-- `mhstore` on this folder: at its end it had stored the files of the messages that the job's words choose, by what it
-- read and by these entries of the context, and it told their lines; or it is refused as a command that looks, since a
-- message lacks a part, or since a file is there, and by what it read and stored; or a file could not be stored, which
-- this shows
abbrev pub ShowsStoringParts : ℕ → List ℕ → StoreJob → List NamedValue → Result (List ℕ) CommandFault → List Deed
    → Type 0
ShowsStoringParts run path job context (Ok said) own = TellsFiles run path job context said own
ShowsStoringParts run path job context (Err e) own =
    (ShowsCommandFault run e own ⊎ (IsNoStoring e ⊎ ShowsStoring run e own)) × ShowsRefused run path job context e own

-- the words, the context or the profile name this folder, and this shows how the command ended there
abbrev pub ShowsOn : {W : Type 0} → List NamedValue → List NamedValue → List ℕ → Result W Ended
    → (W → Option (List ℕ)) → (W → Type 0) → Type 0
ShowsOn profile context folder value named_in shows =
    OfSaid value (λ said. (folder_of (named_in said) context profile ≡ Ok folder) × shows said)

-- what `inc` is to do is to take new mail into this folder; and this shows how it ended there, which writes of messages
-- what the words name, or what the format makes of them that the run has read from its file
abbrev pub ShowsIncJob : ℕ → List NamedValue → List ℕ → Result (List ℕ) CommandFault → List Deed → IncAsked → Type 0
ShowsIncJob run profile folder r own asked =
    (folder ≡ asked.folder)
    × ((spoken : Standing → Writing) × WritesAs asked.telling spoken own
    × ShowsIncorporating run (path_of profile) (job_writing asked spoken) r own)

-- by the command's name
abbrev pub ShowsNamed : ℕ → Caller → List NamedValue → List NamedValue → List ℕ → Result (List ℕ) CommandFault
    → List Deed
    → List (List ℕ) → Option CommandName → Type 0
ShowsNamed run caller profile context folder r own words (Some Inc) =
    OfSaid (job_by caller profile (inc_said profile (map chars words))) (ShowsIncJob run profile folder r own)
ShowsNamed run caller profile context folder r own words (Some Mark) =
    ShowsOn profile context folder (mark_said profile (map chars words)) (λ said. said.folder)
    (λ said. ShowsMarking run (path_of profile) (mark_job folder said profile) context r own said.act)
ShowsNamed run caller profile context folder r own words (Some Pick) =
    ShowsOn profile context folder (picked_by caller profile (map chars words)) (λ said. said.folder)
    (λ said. ShowsPickJob run (path_of profile) (pick_job folder said profile) context r own said.marks)
ShowsNamed run caller profile context folder r own words (Some Refile) =
    ShowsOn profile context folder (refile_said profile (map chars words)) (λ said. said.source)
    (λ said. ShowsRefiling run (path_of profile) (refile_job folder said profile) r own)
ShowsNamed run caller profile context folder r own words (Some Rmm) =
    ShowsOn profile context folder (rmm_said profile (map chars words)) (λ said. said.folder)
    (λ said. ShowsRemoving run (path_of profile) (rmm_job folder said profile) r own)
ShowsNamed run caller profile context folder r own words (Some FolderCommand) =
    ShowsOn profile context folder (tell_said profile (map chars words)) (λ said. said.folder)
    (λ said. ShowsTask run profile context folder said r own said.pack)
ShowsNamed run caller profile context folder r own words (Some Anno) =
    ShowsOn profile context folder (annotated_by caller profile (map chars words)) (λ said. said.folder)
    (λ said. ShowsNoting run (path_of profile) (anno_job folder said profile) r own)
ShowsNamed run caller profile context folder r own words (Some Sortm) =
    ShowsOn profile context folder (sort_said profile (map chars words)) (λ said. said.folder)
    (λ said. ShowsSorting run (path_of profile) (sort_job folder said profile) r own)
ShowsNamed run caller profile context folder r own words (Some Mhlist) =
    ShowsOn profile context folder (list_said profile (map chars words)) (λ said. said.folder)
    (λ said. ShowsListingParts run (path_of profile) (list_job folder said profile) context r own)
ShowsNamed run caller profile context folder r own words (Some Mhstore) =
    ShowsOn profile context folder (store_said profile (map chars words)) (λ said. said.folder)
    (λ said. ShowsStoringParts run (path_of profile) (store_job folder said profile) context r own)
ShowsNamed run caller profile context folder r own words other = ⊥

-- by the command that the first word names
abbrev pub ShowsWords : ℕ → Caller → List NamedValue → List NamedValue → List ℕ → Result (List ℕ) CommandFault
    → List Deed
    → List (List ℕ) → Type 0
ShowsWords run caller profile context folder r own [] = ⊥
ShowsWords run caller profile context folder r own (word ∷ words) =
    ShowsNamed run caller profile context folder r own words (named word)

-- the call read the profile and then the context of the mail directory that it names; by these, the words and the
-- user's name the command was on this folder, and the later deeds show how it ended there: done, with this output, or
-- by this fault
abbrev pub ShowsOnFolder : ℕ → Caller → List (List ℕ) → Result (List ℕ) CommandFault → List Deed → Type 0
ShowsOnFolder run caller words r own =
    ByReadings
    (λ profile context. (folder : List ℕ)
    × ShowsWords run caller (entries_by profile) (entries_by context) folder r own words)
    own

-- what shows each fault of a command that may begin a folder: its words are refused, or it ended early, or on its
-- folder
abbrev pub ShowsFault : ℕ → Caller → List (List ℕ) → CommandFault → List Deed → Type 0
ShowsFault run caller words e own =
    IsRefusedByWords caller words e own ⊎ (ShowsEarly e own ⊎ ShowsOnFolder run caller words (Err e) own)

-- `inc` tells while it goes on: the call read the profile and the context, and this is a text of the heading and of
-- lines of messages that it has stored, as the words say or the file that they name
abbrev pub TellsNewMail : ℕ → Caller → List (List ℕ) → List ℕ → List Deed → Type 0
TellsNewMail run caller words text own =
    ByReadings
    (λ profile context. (asked : IncAsked) × (spoken : Standing → Writing)
    × AreWordsOf Inc
    (λ rest. job_by caller (entries_by profile) (inc_said (entries_by profile) rest) ≡ Ok asked) words
    × WritesAs asked.telling spoken own
    × IsTextOfNew run (path_by profile) (job_writing asked spoken) own text)
    own

-- the words, the context or the profile name a folder, and this is the job there
abbrev pub IsJobOn : {W J : Type 0} → List NamedValue → List NamedValue → J → Result W Ended → (W → Option (List ℕ))
    → (List ℕ → W → List NamedValue → J) → Type 0
IsJobOn profile context job value named_in job_on =
    OfSaid value
    (λ said. (folder : List ℕ) × (folder_of (named_in said) context profile ≡ Ok folder)
    × (job ≡ job_on folder said profile))

-- of a `pick`, by what it marks: no message was found, and this text says so
abbrev pub TellsNoneBy : ℕ → List ℕ → PickJob → List NamedValue → List ℕ → List Deed → Option PickMarks → Type 0
TellsNoneBy run path job context text own None = TellsNone (HasFoundListed path job context) job text own
TellsNoneBy run path job context text own (Some p) = TellsNone (HasFound run path job) job text own

-- the words name `pick`, and this is its job by them
abbrev pub PicksBy : Caller → List NamedValue → List NamedValue → List (List ℕ) → PickJob → Type 0
PicksBy caller profile context words job =
    AreWordsOf Pick
    (λ rest. IsJobOn profile context job (picked_by caller profile rest) (λ said. said.folder) pick_job) words

-- `pick` says that no message matches before it is refused: the call read the profile and the context, and this text
-- says so
abbrev pub TellsNoMatch : ℕ → Caller → List (List ℕ) → List ℕ → List Deed → Type 0
TellsNoMatch run caller words text own =
    ByReadings
    (λ profile context. (job : PickJob) × PicksBy caller (entries_by profile) (entries_by context) words job
    × TellsNoneBy run (path_by profile) job (entries_by context) text own job.marks)
    own

-- the words name `mhlist`, and this is its job by them
abbrev pub ListsBy : List NamedValue → List NamedValue → List (List ℕ) → ListJob → Type 0
ListsBy profile context words job =
    AreWordsOf Mhlist
    (λ rest. IsJobOn profile context job (list_said profile rest) (λ said. said.folder) list_job) words

-- `mhlist` tells while it goes on: the call read the profile and the context, and this is the text of the header and of
-- the rows of the first messages that its words choose, which it has read
abbrev pub TellsParts : List (List ℕ) → List ℕ → List Deed → Type 0
TellsParts words text own =
    ByReadings
    (λ profile context. (job : ListJob) × ListsBy (entries_by profile) (entries_by context) words job
    × TellsFirstRows (path_by profile) job (entries_by context) text own)
    own

-- the words name `mhstore`, and this is its job by them
abbrev pub StoresBy : List NamedValue → List NamedValue → List (List ℕ) → StoreJob → Type 0
StoresBy profile context words job =
    AreWordsOf Mhstore
    (λ rest. IsJobOn profile context job (store_said profile rest) (λ said. said.folder) store_job) words

-- `mhstore` tells while it goes on: the call read the profile and the context, and this is the text of the lines of the
-- first files that it is to store, which it has stored
abbrev pub TellsFilesStored : ℕ → List (List ℕ) → List ℕ → List Deed → Type 0
TellsFilesStored run words text own =
    ByReadings
    (λ profile context. (job : StoreJob) × StoresBy (entries_by profile) (entries_by context) words job
    × TellsFirstFiles run (path_by profile) job (entries_by context) text own)
    own

-- by what these deeds show, this is the text of the command on its folder: that of the sequences that `mark` made or
-- read, where it lists; what `folder` tells; that of the messages that `pick` found, or that it found none; or what
-- `inc`, `mhlist` or `mhstore` has told so far
abbrev pub TellsOnFolder : ℕ → Caller → List (List ℕ) → List ℕ → List Deed → Type 0
TellsOnFolder run caller words text own =
    ShowsOnFolder run caller words (Ok text) own
    ⊎ (TellsNewMail run caller words text own ⊎ (TellsNoMatch run caller words text own
    ⊎ (TellsParts words text own ⊎ TellsFilesStored run words text own)))
