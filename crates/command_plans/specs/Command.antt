-- The plan of a command, by its words.
use Rattle.std.specs.Prelude.{ℕ, Bool, true, false, List, [], ◌∷◌, Option, None, Some, is_some, map, Result, Ok, Err}
use Rattle.std.specs.Str.{chars}
use Rattle.mh_base.specs.declared.word.WordWhy.TheVariants.{NoCommand}
use Rattle.mh_profile.specs.declared.named_value.NamedValue.{NamedValue}
use Rattle.mh_profile.specs.Reading.{entries_in, entries_seen}
use Rattle.folder_files.specs.declared.place.Place.{Place}
use Rattle.folder_files.specs.declared.place.Place.TheVariants.{Home, Mail}
use Rattle.file_plans.specs.Plan.{Return, Recall, Note, lifted, ◌>>=◌}
use Rattle.step_plans.specs.ContextCommit.{context_name}
use Rattle.step_plans.specs.Hands.{knowing}
use Rattle.command_stages.specs.Texts.{Commanded, text_read}
use Rattle.message_lines.specs.MessageText.{Writing}
use Rattle.message_lines.specs.declared.standing.Standing.{Standing}
use Rattle.mh_looks.specs.Scan.{scan}
use Rattle.mh_looks.specs.ScanJob.{ScanJob}
use Rattle.mark_command.specs.Mark.{mark}
use Rattle.pick_plans.specs.Pick.{pick}
use Rattle.pick_plans.specs.declared.job.PickJob.{PickJob}
use Rattle.mark_command.specs.declared.job.MarkJob.{MarkJob}
use Rattle.anno_plans.specs.Anno.{anno}
use Rattle.anno_plans.specs.declared.job.AnnoJob.{AnnoJob}
use Rattle.sortm_plans.specs.Sort.{sortm}
use Rattle.sortm_plans.specs.declared.job.SortJob.{SortJob}
use Rattle.folder_command.specs.Folder.{folder as tell}
use Rattle.folder_command.specs.declared.job.FolderJob.{FolderJob}
use Rattle.pack_plans.specs.Pack.{pack}
use Rattle.pack_plans.specs.declared.job.PackJob.{PackJob}
use Rattle.inc_plans.specs.Inc.{inc}
use Rattle.mhlist_plans.specs.Listing.{mhlist}
use Rattle.mhlist_plans.specs.declared.job.ListJob.{ListJob}
use Rattle.mhbuild_plans.specs.Building.{mhbuild}
use Rattle.mhbuild_plans.specs.declared.job.BuildJob.{BuildJob}
use Rattle.mhstore_plans.specs.Storing.{mhstore}
use Rattle.mhstore_plans.specs.declared.job.StoreJob.{StoreJob}
use Rattle.refile_plans.specs.Refile.{refile}
use Rattle.refile_plans.specs.Rmm.{rmm}
use Rattle.refile_plans.specs.declared.job.RefileJob.{RefileJob}
use Rattle.refile_plans.specs.declared.job.RmmJob.{RmmJob}
use Rattle.command_words.specs.declared.ended.Ended.{Ended}
use Rattle.folder_words.specs.declared.folder.FolderWords.{FolderWords}
use Rattle.folder_words.specs.declared.mark.MarkWords.{MarkWords}
use Rattle.folder_words.specs.declared.pick.PickWords.{PickWords}
use Rattle.folder_words.specs.declared.refile.RefileWords.{RefileWords}
use Rattle.folder_words.specs.declared.rmm.RmmWords.{RmmWords}
use Rattle.command_words.specs.Ended.{plain, wrong_word, Ending}
use Rattle.look_words.specs.IncWords.{inc_said}
use Rattle.folder_words.specs.MarkWords.{mark_said}
use Rattle.folder_words.specs.PickWords.{pick_said}
use Rattle.folder_words.specs.RefileWords.{refile_said}
use Rattle.folder_words.specs.RmmWords.{rmm_said}
use Rattle.look_words.specs.ScanWords.{scan_said}
use Rattle.folder_words.specs.TellWords.{tell_said}
use Rattle.anno_words.specs.AnnoWords.{anno_said}
use Rattle.anno_words.specs.declared.words.AnnoWords.{AnnoWords}
use Rattle.sort_words.specs.SortWords.{sort_said}
use Rattle.sort_words.specs.declared.words.SortWords.{SortWords}
use Rattle.list_words.specs.ListWords.{list_said}
use Rattle.list_words.specs.declared.words.ListWords.{ListWords}
use Rattle.build_words.specs.BuildWords.{build_said}
use Rattle.build_words.specs.declared.words.BuildWords.{BuildWords}
use Rattle.store_words.specs.StoreWords.{store_said}
use Rattle.store_words.specs.declared.words.StoreWords.{StoreWords}
use Rattle.command_plans.specs.CommandNames.{named}
use Rattle.command_plans.specs.Incorporating.{IncAsked, job_by, job_writing}
use Rattle.command_plans.specs.Looking.{ScanAsked, look_found, scan_asked, unseen_known}
use Rattle.command_plans.specs.Profile.{folder_of, negation_of, path_of, profile_name, stored_of}
use Rattle.command_plans.specs.declared.caller.Caller.{Caller}
use Rattle.command_plans.specs.declared.name.CommandName.{CommandName}
use Rattle.command_plans.specs.declared.name.CommandName.TheVariants.{Anno, Folder as FolderCommand, Inc, Mark, Mhbuild, Mhlist, Mhstore, Pick, Refile, Rmm, Scan, Sortm}

-- the context is read, and the run knows its entries
unfoldable pub context_seen : List NamedValue → Commanded Unit
context_seen entries = Recall (λ h. Note (knowing entries h) (Return (Ok tt)))

unfoldable pub context_entered : Place → Commanded Unit
context_entered place = do
  text ← text_read place context_name
  context_seen (entries_in text)

-- the context is read, and the folder that is acted on is known
unfoldable pub folder_found : List NamedValue → Option (List ℕ) → Commanded (List ℕ)
folder_found profile said = do
  entered ← context_entered (Mail (path_of profile))
  Recall (λ h. Return (folder_of said (entries_seen h.context) profile))

abbrev pub job_of : List ℕ → ScanAsked → List NamedValue → (Standing → Writing) → ScanJob
job_of folder words profile spoken = record {
  folder = folder;
  specs = words.specs;
  reverse = words.reverse;
  unseen = unseen_known profile;
  negation = negation_of profile;
  spoken = spoken;
}

-- the work that words ask for, or the end that they come to
abbrev pub by_words : {W : Type 0} → (W → Commanded Unit) → Result W Ended → Ending Unit
by_words begun (Ok words) = lifted plain (begun words)
by_words begun (Err e) = Return (Err e)

-- the work of the command begins in it; of `scan` once what is written of messages is found
unfoldable pub scan_begun : ℕ → List NamedValue → ScanAsked → Commanded Unit
scan_begun run profile words = do
  folder ← folder_found profile words.folder
  spoken ← look_found words.telling
  scan run (path_of profile) (job_of folder words profile spoken)

abbrev pub mark_job : List ℕ → MarkWords → List NamedValue → MarkJob
mark_job folder words profile =
    record {
      folder = folder;
      specs = words.specs;
      names = words.names;
      act = words.act;
      list = words.list;
      public = words.public;
      negation = negation_of profile;
    }

unfoldable pub mark_begun : ℕ → List NamedValue → MarkWords → Commanded Unit
mark_begun run profile words = do
  folder ← folder_found profile words.folder
  mark run (path_of profile) (mark_job folder words profile)

-- what the words of `pick` say, whose dates are named by the caller's clock
abbrev pub picked_by : Caller → List NamedValue → List (List ℕ) → Result PickWords Ended
picked_by caller profile words = pick_said caller.clock.moment caller.clock.offset profile words

abbrev pub pick_job : List ℕ → PickWords → List NamedValue → PickJob
pick_job folder words profile =
    record {
      folder = folder;
      specs = words.specs;
      expr = words.expr;
      marks = words.marks;
      list = words.list;
      negation = negation_of profile;
    }

unfoldable pub pick_begun : ℕ → List NamedValue → PickWords → Commanded Unit
pick_begun run profile words = do
  folder ← folder_found profile words.folder
  pick run (path_of profile) (pick_job folder words profile)

abbrev pub rmm_job : List ℕ → RmmWords → List NamedValue → RmmJob
rmm_job folder words profile =
    record { folder = folder; specs = words.specs; unlink = words.unlink; negation = negation_of profile }

unfoldable pub rmm_begun : ℕ → List NamedValue → RmmWords → Commanded Unit
rmm_begun run profile words = do
  folder ← folder_found profile words.folder
  rmm run (path_of profile) (rmm_job folder words profile)

abbrev pub tell_job : List ℕ → FolderWords → List NamedValue → FolderJob
tell_job folder words profile = record { folder = folder; specs = words.specs; negation = negation_of profile }

unfoldable pub tell_begun : ℕ → List NamedValue → FolderWords → Commanded Unit
tell_begun run profile words = do
  folder ← folder_found profile words.folder
  tell run (path_of profile) (tell_job folder words profile)

abbrev pub pack_job : List ℕ → PackJob
pack_job folder = record { folder = folder }

-- `folder -pack`
unfoldable pub pack_begun : ℕ → List NamedValue → FolderWords → Commanded Unit
pack_begun run profile words = do
  folder ← folder_found profile words.folder
  pack run (path_of profile) (pack_job folder)

-- by whether messages are numbered anew
unfoldable pub task_begun : ℕ → List NamedValue → FolderWords → Bool → Commanded Unit
task_begun run profile words true = pack_begun run profile words
task_begun run profile words false = tell_begun run profile words

abbrev pub folder_begun : ℕ → List NamedValue → FolderWords → Commanded Unit
folder_begun run profile words = task_begun run profile words words.pack

-- what the words of `anno` say, whose lines have their date by the caller's clock
abbrev pub annotated_by : Caller → List NamedValue → List (List ℕ) → Result AnnoWords Ended
annotated_by caller profile words = anno_said caller.clock.moment caller.clock.offset profile words

abbrev pub anno_job : List ℕ → AnnoWords → List NamedValue → AnnoJob
anno_job folder words profile =
    record { folder = folder; specs = words.specs; lines = words.lines; negation = negation_of profile }

unfoldable pub anno_begun : ℕ → List NamedValue → AnnoWords → Commanded Unit
anno_begun run profile words = do
  folder ← folder_found profile words.folder
  anno run (path_of profile) (anno_job folder words profile)

abbrev pub sort_job : List ℕ → SortWords → List NamedValue → SortJob
sort_job folder words profile =
    record { folder = folder; specs = words.specs; key = words.key; negation = negation_of profile }

unfoldable pub sort_begun : ℕ → List NamedValue → SortWords → Commanded Unit
sort_begun run profile words = do
  folder ← folder_found profile words.folder
  sortm run (path_of profile) (sort_job folder words profile)

abbrev pub list_job : List ℕ → ListWords → List NamedValue → ListJob
list_job folder words profile =
    record { folder = folder; specs = words.specs; parts = words.parts; negation = negation_of profile }

unfoldable pub list_begun : ℕ → List NamedValue → ListWords → Commanded Unit
list_begun run profile words = do
  folder ← folder_found profile words.folder
  mhlist run (path_of profile) (list_job folder words profile)

abbrev pub store_job : List ℕ → StoreWords → List NamedValue → StoreJob
store_job folder words profile =
    record {
      folder = folder;
      specs = words.specs;
      parts = words.parts;
      clobber = words.clobber;
      negation = negation_of profile;
    }

unfoldable pub store_begun : ℕ → List NamedValue → StoreWords → Commanded Unit
store_begun run profile words = do
  folder ← folder_found profile words.folder
  mhstore run (path_of profile) (store_job folder words profile)

-- the draft that the words name, and what forwards messages by the entries of the context and of the profile
abbrev pub build_job : BuildWords → List NamedValue → List NamedValue → BuildJob
build_job words context profile =
    record {
      draft = words.draft;
      forwarding = record { current = stored_of context profile; negation = negation_of profile };
    }

-- the context is read, and the draft becomes a message
unfoldable pub build_begun : ℕ → List NamedValue → BuildWords → Commanded Unit
build_begun run profile words = do
  entered ← context_entered (Mail (path_of profile))
  Recall (λ h. mhbuild run (path_of profile) (build_job words (entries_seen h.context) profile))

-- the source is the folder that is acted on, and becomes the current one where the words name it
abbrev pub refile_job : List ℕ → RefileWords → List NamedValue → RefileJob
refile_job folder words profile = record {
  source = folder;
  set_current = is_some words.source;
  specs = words.specs;
  target = words.target;
  others = words.others;
  link = words.link;
  negation = negation_of profile;
}

unfoldable pub refile_begun : ℕ → List NamedValue → RefileWords → Commanded Unit
refile_begun run profile words = do
  folder ← folder_found profile words.source
  refile run (path_of profile) (refile_job folder words profile)

-- the context is read, what is written of messages is found, and new mail is taken in
unfoldable pub inc_begun : ℕ → List ℕ → IncAsked → Commanded Unit
inc_begun run path asked = do
  entered ← context_entered (Mail path)
  spoken ← look_found asked.telling
  inc run path (job_writing asked spoken)

-- a word that names no command that there is
abbrev pub no_command : Option (List ℕ) → Ended
no_command word = wrong_word (record { place = 0; why = NoCommand }) word

-- by the command that the first word names, and who calls
abbrev pub word_by : ℕ → Caller → List NamedValue → List ℕ → List (List ℕ) → Option CommandName → Ending Unit
word_by run caller profile word words None = Return (Err (no_command (Some word)))
word_by run caller profile word words (Some Inc) =
    by_words (inc_begun run (path_of profile)) (job_by caller profile (inc_said profile (map chars words)))
word_by run caller profile word words (Some Scan) =
    by_words (scan_begun run profile) (scan_asked caller (scan_said profile (map chars words)))
word_by run caller profile word words (Some Mark) =
    by_words (mark_begun run profile) (mark_said profile (map chars words))
word_by run caller profile word words (Some Pick) =
    by_words (pick_begun run profile) (picked_by caller profile (map chars words))
word_by run caller profile word words (Some Refile) =
    by_words (refile_begun run profile) (refile_said profile (map chars words))
word_by run caller profile word words (Some Rmm) = by_words (rmm_begun run profile) (rmm_said profile (map chars words))
word_by run caller profile word words (Some FolderCommand) =
    by_words (folder_begun run profile) (tell_said profile (map chars words))
word_by run caller profile word words (Some Anno) =
    by_words (anno_begun run profile) (annotated_by caller profile (map chars words))
word_by run caller profile word words (Some Sortm) =
    by_words (sort_begun run profile) (sort_said profile (map chars words))
word_by run caller profile word words (Some Mhlist) =
    by_words (list_begun run profile) (list_said profile (map chars words))
word_by run caller profile word words (Some Mhstore) =
    by_words (store_begun run profile) (store_said profile (map chars words))
word_by run caller profile word words (Some Mhbuild) =
    by_words (build_begun run profile) (build_said profile (map chars words))

abbrev pub command_by : ℕ → Caller → List NamedValue → List (List ℕ) → Ending Unit
command_by run caller profile [] = Return (Err (no_command None))
command_by run caller profile (word ∷ words) = word_by run caller profile word words (named word)

-- the profile is read, and the command runs that the words name
unfoldable pub command : ℕ → Caller → List (List ℕ) → Ending Unit
command run caller words = do
  text ← lifted plain (text_read Home profile_name)
  command_by run caller (entries_in text) words
