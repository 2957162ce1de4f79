-- What a call of a command keeps.
use Rattle.std.specs.Prelude.{◌≡◌, ◌⊎◌, ◌++◌, ℕ, Bool, true, false, List, [], ◌∷◌, map, Option, None, Some, Result, Ok, Err}
use Rattle.std.specs.Str.{chars}
use Rattle.mh_profile.specs.declared.named_value.NamedValue.{NamedValue}
use Rattle.folder_files.specs.Deeds.{Deed, did}
use Rattle.folder_files.specs.declared.place.Place.TheVariants.{Home, Mail}
use Rattle.folder_files.specs.declared.step.Answer.{Answer}
use Rattle.folder_files.specs.declared.step.Step.TheVariants.{Read}
use Rattle.file_plans.specs.Follows.{State}
use Rattle.file_plans.specs.Sightings.{AreMade}
use Rattle.step_plans.specs.ContextCommit.{LIMIT_BYTES, context_name}
use Rattle.step_plans.specs.Finished.{AreFinished}
use Rattle.step_plans.specs.Pledges.{Pledge}
use Rattle.step_plans.specs.Promises.{Promises}
use Rattle.step_plans.specs.Settled.{AreSettled}
use Rattle.mh_looks.specs.ScanPledge.{scan_pledge}
use Rattle.mark_command.specs.Mark.{pledge_by}
use Rattle.pick_plans.specs.PickPledge.{pledge_by as pick_pledge_by}
use Rattle.anno_plans.specs.AnnoPledge.{anno_pledge}
use Rattle.sortm_plans.specs.SortPledge.{sortm_pledge}
use Rattle.mhlist_plans.specs.ListPledge.{list_pledge}
use Rattle.mhbuild_plans.specs.BuildPledge.{build_pledge}
use Rattle.mhstore_plans.specs.StorePledge.{store_pledge}
use Rattle.folder_command.specs.Folder.{pledge_by as tell_pledge_by}
use Rattle.pack_plans.specs.PackPledge.{pack_pledge}
use Rattle.message_lines.specs.MessageText.{Writing}
use Rattle.message_lines.specs.declared.standing.Standing.{Standing}
use Rattle.inc_plans.specs.IncPledge.{TellsNew, inc_pledge}
use Rattle.refile_plans.specs.RefilePledge.{refile_pledge}
use Rattle.refile_plans.specs.RmmPledge.{rmm_pledge}
use Rattle.look_words.specs.IncWords.{inc_said}
use Rattle.folder_words.specs.MarkWords.{mark_said}
use Rattle.folder_words.specs.RefileWords.{refile_said}
use Rattle.folder_words.specs.RmmWords.{rmm_said}
use Rattle.folder_words.specs.TellWords.{tell_said}
use Rattle.command_words.specs.declared.ended.Ended.{Ended}
use Rattle.folder_words.specs.declared.folder.FolderWords.{FolderWords}
use Rattle.sort_words.specs.SortWords.{sort_said}
use Rattle.list_words.specs.ListWords.{list_said}
use Rattle.build_words.specs.BuildWords.{build_said}
use Rattle.store_words.specs.StoreWords.{store_said}
use Rattle.command_plans.specs.Command.{anno_job, annotated_by, build_job, list_job, mark_job, pack_job, pick_job, picked_by, refile_job, rmm_job, tell_job, sort_job, store_job}
use Rattle.command_plans.specs.CommandNames.{command_of, named}
use Rattle.command_plans.specs.Incorporating.{IncAsked, job_by, job_writing}
use Rattle.command_plans.specs.Looking.{WritesAs}
use Rattle.command_plans.specs.Profile.{entries_by, folder_of, path_by, path_of, profile_name}
use Rattle.command_plans.specs.declared.name.CommandName.{CommandName}
use Rattle.command_plans.specs.declared.name.CommandName.TheVariants.{Anno, Folder as FolderCommand, Inc, Mark, Mhbuild, Mhlist, Mhstore, Pick, Refile, Rmm, Scan, Sortm}
use Rattle.command_plans.specs.declared.caller.Caller.{Caller}

-- the run made no step; or its first step read the profile, with this answer; and if it made a second one, that read
-- the context of the mail directory that the profile names, with this answer
abbrev pub HaveBegun : Answer → Answer → List Deed → Type 0
HaveBegun a b own =
    (own ≡ [])
    ⊎ ((own ≡ did (Read Home profile_name LIMIT_BYTES) a ∷ [])
    ⊎ ((newer : List Deed)
    × (own ≡ newer ++ did (Read (Mail (path_by a)) context_name LIMIT_BYTES) b
    ∷ did (Read Home profile_name LIMIT_BYTES) a ∷ [])))

-- what is pledged once this was found; where it could not be, what a command pledges that looks
abbrev pub pledge_found : {A E : Type 0} → ℕ → List NamedValue → (A → Pledge) → Result A E → Pledge
pledge_found run profile pledge (Ok found) = pledge found
pledge_found run profile pledge (Err e) = scan_pledge run (path_of profile)

-- what a command on a folder pledges, by its words and the folder that they name, or the context
abbrev pub pledge_by_words : {W : Type 0} → ℕ → List NamedValue → List NamedValue → Result W Ended
    → (W → Option (List ℕ)) → (W → List ℕ → Pledge) → Pledge
pledge_by_words run profile context value named_in pledge =
    pledge_found run profile
    (λ words. pledge_found run profile (pledge words) (folder_of (named_in words) context profile)) value

-- what `folder` pledges on one, by whether messages are numbered anew
abbrev pub task_pledge : ℕ → List NamedValue → FolderWords → List ℕ → Bool → Pledge
task_pledge run profile words folder true = pack_pledge run (path_of profile) (pack_job folder)
task_pledge run profile words folder false =
    tell_pledge_by run (path_of profile) (tell_job folder words profile) words.specs

-- the same pledge, but for what may be said
abbrev pub telling : Pledge → (List Deed → List ℕ → Type 0) → Pledge
telling w tells =
    record { run = w.run; manner = w.manner; may_mark = w.may_mark; may_tell = tells; may_step = w.may_step }

-- of new messages it tells what the words name, or what the format makes of them that the run has read from its file
abbrev pub TellsAsked : ℕ → List ℕ → IncAsked → List Deed → List ℕ → Type 0
TellsAsked run path asked own piece =
    (spoken : Standing → Writing) × WritesAs asked.telling spoken own
    × TellsNew run path (job_writing asked spoken) own piece

-- nothing is written of a message
abbrev pub unwritten : Standing → Writing
unwritten standing n message = []

-- what `inc` pledges; but for what it tells it is the same whatever is written of messages
abbrev pub asked_pledge : ℕ → List ℕ → IncAsked → Pledge
asked_pledge run path asked = telling (inc_pledge run path (job_writing asked unwritten)) (TellsAsked run path asked)

-- by the command that the first word names
abbrev pub word_pledge : ℕ → Caller → List NamedValue → List NamedValue → List (List ℕ) → Option CommandName → Pledge
word_pledge run caller profile context words None = scan_pledge run (path_of profile)
word_pledge run caller profile context words (Some Inc) =
    pledge_found run profile (asked_pledge run (path_of profile))
    (job_by caller profile (inc_said profile (map chars words)))
word_pledge run caller profile context words (Some Scan) = scan_pledge run (path_of profile)
word_pledge run caller profile context words (Some Mark) =
    pledge_by_words run profile context (mark_said profile (map chars words)) (λ said. said.folder)
    (λ said folder. pledge_by run (path_of profile) (mark_job folder said profile) said.act)
word_pledge run caller profile context words (Some Pick) =
    pledge_by_words run profile context (picked_by caller profile (map chars words)) (λ said. said.folder)
    (λ said folder. pick_pledge_by run (path_of profile) (pick_job folder said profile) said.marks)
word_pledge run caller profile context words (Some Refile) =
    pledge_by_words run profile context (refile_said profile (map chars words)) (λ said. said.source)
    (λ said folder. refile_pledge run (path_of profile) (refile_job folder said profile))
word_pledge run caller profile context words (Some Rmm) =
    pledge_by_words run profile context (rmm_said profile (map chars words)) (λ said. said.folder)
    (λ said folder. rmm_pledge run (path_of profile) (rmm_job folder said profile))
word_pledge run caller profile context words (Some FolderCommand) =
    pledge_by_words run profile context (tell_said profile (map chars words)) (λ said. said.folder)
    (λ said folder. task_pledge run profile said folder said.pack)
word_pledge run caller profile context words (Some Anno) =
    pledge_by_words run profile context (annotated_by caller profile (map chars words)) (λ said. said.folder)
    (λ said folder. anno_pledge run (path_of profile) (anno_job folder said profile))
word_pledge run caller profile context words (Some Sortm) =
    pledge_by_words run profile context (sort_said profile (map chars words)) (λ said. said.folder)
    (λ said folder. sortm_pledge run (path_of profile) (sort_job folder said profile))
word_pledge run caller profile context words (Some Mhlist) =
    pledge_by_words run profile context (list_said profile (map chars words)) (λ said. said.folder)
    (λ said folder. list_pledge run (path_of profile) (list_job folder said profile))
word_pledge run caller profile context words (Some Mhstore) =
    pledge_by_words run profile context (store_said profile (map chars words)) (λ said. said.folder)
    (λ said folder. store_pledge run (path_of profile) (store_job folder said profile))
word_pledge run caller profile context words (Some Mhbuild) =
    pledge_found run profile (λ said. build_pledge run (path_of profile) (build_job said context profile))
    (build_said profile (map chars words))

-- what a command pledges, by the user's name, its words, the entries of the profile and those of the context
abbrev pub command_pledge : ℕ → Caller → List (List ℕ) → List NamedValue → List NamedValue → Pledge
command_pledge run caller [] profile context = scan_pledge run (path_of profile)
command_pledge run caller (word ∷ words) profile context = word_pledge run caller profile context words (named word)

-- what a command has done that is done: each commit was made safe; and one that only looks at a folder made it the
-- current one, or changed nothing
abbrev pub IsDone : Option CommandName → List ℕ → List Deed → Type 0
IsDone None path own = AreFinished (Mail path) context_name own
IsDone (Some Scan) path own = AreFinished (Mail path) context_name own
IsDone (Some name) path own = AreSettled own

-- the call began with the profile, which names the path of a mail directory, and with the context of that; it kept the
-- pledge that these and its words make
pub record KeepsPledge (run : ℕ) (caller : Caller) (words : List (List ℕ)) (x y : State)
    (result : Result Unit Ended) : Type 0 where
  pub profile : Answer
  pub context : Answer
  pub own : List Deed
  pub made : AreMade run x.files.story y.files.story own
  pub begun : HaveBegun profile context own
  pub finished : result ≡ Ok tt → IsDone (command_of words) (path_by profile) own
  pub promises : Promises (command_pledge run caller words (entries_by profile) (entries_by context)) x y
