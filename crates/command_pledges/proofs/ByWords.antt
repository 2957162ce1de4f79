-- How a command goes on by its words, once the profile was read: it reads the context and works, or it ends.
use Rattle.std.proofs.Common.{◌≡◌, inl, inr, ℕ, Bool, true, false, List, [], ◌∷◌, Option, None, Some, Result, Ok, Err, refl, map}
use Rattle.std.specs.Str.{chars}
use Rattle.mh_profile.specs.declared.named_value.NamedValue.{NamedValue}
use Rattle.mh_profile.specs.Reading.{entries_in, entries_seen}
use Rattle.folder_files.specs.declared.place.Place.TheVariants.{Mail}
use Rattle.folder_files.specs.declared.step.Answer.{Answer}
use Rattle.file_plans.specs.Asking.{read, reading_of}
use Rattle.file_plans.specs.Plan.{Return, Ask, Recall, ask, bind, ◌>>=◌, lifted}
use Rattle.file_plans.specs.declared.answers.Reading.{Reading}
use Rattle.command_stages.specs.Texts.{Commanded, text_by, text_read}
use Rattle.mh_looks.specs.Scan.{scan}
use Rattle.inc_plans.specs.Inc.{inc}
use Rattle.mark_command.specs.Mark.{mark}
use Rattle.anno_plans.specs.Anno.{anno}
use Rattle.sortm_plans.specs.Sort.{sortm}
use Rattle.mhlist_plans.specs.Listing.{mhlist}
use Rattle.list_words.specs.ListWords.{list_said}
use Rattle.mhstore_plans.specs.Storing.{mhstore}
use Rattle.store_words.specs.StoreWords.{store_said}
use Rattle.folder_command.specs.Folder.{folder as tell}
use Rattle.pack_plans.specs.Pack.{pack}
use Rattle.pick_plans.specs.Pick.{pick}
use Rattle.command_words.specs.Ended.{Ending, plain}
use Rattle.look_words.specs.IncWords.{inc_said}
use Rattle.folder_words.specs.MarkWords.{mark_said}
use Rattle.folder_words.specs.RefileWords.{refile_said}
use Rattle.folder_words.specs.RmmWords.{rmm_said}
use Rattle.look_words.specs.ScanWords.{scan_said}
use Rattle.folder_words.specs.TellWords.{tell_said}
use Rattle.command_words.specs.declared.ended.Ended.{Ended}
use Rattle.folder_words.specs.declared.folder.FolderWords.{FolderWords}
use Rattle.sort_words.specs.SortWords.{sort_said}
use Rattle.command_plans.specs.Looking.{ScanAsked, look_found, scan_asked}
use Rattle.refile_plans.specs.Refile.{refile}
use Rattle.refile_plans.specs.Rmm.{rmm}
use Rattle.command_plans.specs.Command.{anno_begun, anno_job, annotated_by, build_begun, build_job, by_words, command_by, context_entered, context_seen, folder_begun, folder_found, inc_begun, job_of, list_begun, list_job, mark_begun, mark_job, no_command, pack_begun, pack_job, pick_begun, pick_job, picked_by, refile_begun, refile_job, rmm_begun, rmm_job, scan_begun, sort_begun, sort_job, store_begun, store_job, task_begun, tell_begun, tell_job, word_by}
use Rattle.command_plans.specs.CommandNames.{named}
use Rattle.build_words.specs.BuildWords.{build_said}
use Rattle.build_words.specs.declared.words.BuildWords.{BuildWords}
use Rattle.mhbuild_plans.specs.Building.{mhbuild}
use Rattle.command_plans.specs.Incorporating.{IncAsked, job_by, job_writing}
use Rattle.command_plans.specs.Profile.{folder_of, path_of}
use Rattle.command_plans.specs.declared.name.CommandName.{CommandName}
use Rattle.command_plans.specs.declared.name.CommandName.TheVariants.{Anno, Folder as FolderCommand, Inc, Mark, Mhbuild, Mhlist, Mhstore, Pick, Refile, Rmm, Scan, Sortm}
use Rattle.command_plans.specs.declared.caller.Caller.{Caller}
use Rattle.command_plans.proofs.FirstReadings.{context_step, profile_step}
use Rattle.command_pledges.proofs.TwoAnswers.{Onward, rest_by}

-- the context was read so: the folder is named, and the work goes on
abbrev pub on_context_plainly : List NamedValue → Option (List ℕ) → (List ℕ → Commanded Unit) → Reading → Commanded Unit
on_context_plainly profile said act r = ((text_by r >>= (λ text. context_seen (entries_in text))) >>= (λ entered. Recall (λ h. Return (folder_of said (entries_seen h.context) profile)))) >>= act

abbrev pub on_context : List NamedValue → Option (List ℕ) → (List ℕ → Commanded Unit) → Reading → Ending Unit
on_context profile said act r = lifted plain (on_context_plainly profile said act r)

pub context_asked : (profile : List NamedValue) (said : Option (List ℕ)) (act : List ℕ → Commanded Unit) → lifted plain (folder_found profile said >>= act) ≡ Ask (context_step profile) (λ b. on_context profile said act (reading_of b))
unfolding folder_found context_entered text_read read ask lifted bind ◌>>=◌
context_asked profile said act = refl

-- the same of work that needs no such folder
abbrev pub on_entries_plainly : Commanded Unit → Reading → Commanded Unit
on_entries_plainly act r = (text_by r >>= (λ text. context_seen (entries_in text))) >>= (λ entered. act)

abbrev pub on_entries : Commanded Unit → Reading → Ending Unit
on_entries act r = lifted plain (on_entries_plainly act r)

pub entries_asked : (profile : List NamedValue) (act : Commanded Unit) → lifted plain (context_entered (Mail (path_of profile)) >>= (λ entered. act)) ≡ Ask (context_step profile) (λ b. on_entries act (reading_of b))
unfolding context_entered text_read read ask lifted bind ◌>>=◌
entries_asked profile act = refl

-- what words begin reads the context, and goes on so
abbrev pub AsksContext : {W : Type 0} → List NamedValue → (W → Commanded Unit) → (W → Reading → Ending Unit) → Type 0
AsksContext {W = W} profile begun more = (words : W) → lifted plain (begun words) ≡ Ask (context_step profile) (λ b. more words (reading_of b))

-- the work on a folder that words name, or the context
abbrev pub on_folder : {W : Type 0} → List NamedValue → (W → Option (List ℕ)) → (W → List ℕ → Commanded Unit) → W → Reading → Ending Unit
on_folder profile named_in does words r = on_context profile (named_in words) (does words) r

module _ {W : Type 0} (profile : List NamedValue) (begun : W → Commanded Unit) (more : W → Reading → Ending Unit) (asked : AsksContext profile begun more) where
  -- the context is read, or the command ends
  unfoldable pub words_onward : (value : Result W Ended) → Onward (context_step profile) (by_words begun value)
  words_onward (Ok words) = inr (λ b. more words (reading_of b), asked words)
  words_onward (Err e) = inl (Err e, refl)

  -- the plan of a command that goes on so, as if the context had been answered so
  abbrev pub words_plan : Answer → Result W Ended → Ending Unit
  words_plan b value = Ask profile_step (λ c. rest_by (context_step profile) (by_words begun value) (words_onward value) b)

-- the same of a command on a folder
abbrev folder_onward : {W : Type 0} (profile : List NamedValue) (begun : W → Commanded Unit) (named_in : W → Option (List ℕ)) (does : W → List ℕ → Commanded Unit) → AsksContext profile begun (on_folder profile named_in does)
    → (value : Result W Ended) → Onward (context_step profile) (by_words begun value)
folder_onward profile begun named_in does asked value = words_onward profile begun (on_folder profile named_in does) asked value

module _ (run : ℕ) (profile : List NamedValue) where
  -- what `scan`, `inc`, `mhbuild` and `folder` do once the context was read
  abbrev pub scan_acts : ScanAsked → List ℕ → Commanded Unit
  scan_acts words folder = look_found words.telling >>= (λ spoken. scan run (path_of profile) (job_of folder words profile spoken))

  abbrev pub inc_acts : IncAsked → Commanded Unit
  inc_acts asked = look_found asked.telling >>= (λ spoken. inc run (path_of profile) (job_writing asked spoken))

  abbrev pub build_acts : BuildWords → Commanded Unit
  build_acts words = Recall (λ h. mhbuild run (path_of profile) (build_job words (entries_seen h.context) profile))

  abbrev pub task_acts : FolderWords → Bool → List ℕ → Commanded Unit
  task_acts words true folder = pack run (path_of profile) (pack_job folder)
  task_acts words false folder = tell run (path_of profile) (tell_job folder words profile)

  pub task_asked : (words : FolderWords) (k : Bool) → lifted plain (task_begun run profile words k) ≡ Ask (context_step profile) (λ b. on_context profile words.folder (task_acts words k) (reading_of b))
  unfolding task_begun tell_begun pack_begun
  task_asked words true = context_asked profile words.folder (task_acts words true)
  task_asked words false = context_asked profile words.folder (task_acts words false)

  -- by the command that the first word names
  unfoldable pub word_onward : (caller : Caller) (word : List ℕ) (words : List (List ℕ)) (name : Option CommandName) → Onward (context_step profile) (word_by run caller profile word words name)
  unfolding scan_begun inc_begun mark_begun pick_begun refile_begun rmm_begun anno_begun sort_begun list_begun store_begun build_begun
  word_onward caller word words None = inl (Err (no_command (Some word)), refl)
  word_onward caller word words (Some Inc) =
      words_onward profile (inc_begun run (path_of profile)) (λ asked. on_entries (inc_acts asked)) (λ asked. entries_asked profile (inc_acts asked)) (job_by caller profile (inc_said profile (map chars words)))
  word_onward caller word words (Some Scan) =
      folder_onward profile (scan_begun run profile) (λ said. said.folder) scan_acts (λ said. context_asked profile said.folder (scan_acts said)) (scan_asked caller (scan_said profile (map chars words)))
  word_onward caller word words (Some Mark) =
      folder_onward profile (mark_begun run profile) (λ said. said.folder) (λ said folder. mark run (path_of profile) (mark_job folder said profile)) (λ said. context_asked profile said.folder _) (mark_said profile (map chars words))
  word_onward caller word words (Some Pick) =
      folder_onward profile (pick_begun run profile) (λ said. said.folder) (λ said folder. pick run (path_of profile) (pick_job folder said profile)) (λ said. context_asked profile said.folder _) (picked_by caller profile (map chars words))
  word_onward caller word words (Some Refile) =
      folder_onward profile (refile_begun run profile) (λ said. said.source) (λ said folder. refile run (path_of profile) (refile_job folder said profile)) (λ said. context_asked profile said.source _) (refile_said profile (map chars words))
  word_onward caller word words (Some Rmm) =
      folder_onward profile (rmm_begun run profile) (λ said. said.folder) (λ said folder. rmm run (path_of profile) (rmm_job folder said profile)) (λ said. context_asked profile said.folder _) (rmm_said profile (map chars words))
  word_onward caller word words (Some FolderCommand) =
      folder_onward profile (folder_begun run profile) (λ said. said.folder) (λ said. task_acts said said.pack) (λ said. task_asked said said.pack) (tell_said profile (map chars words))
  word_onward caller word words (Some Anno) =
      folder_onward profile (anno_begun run profile) (λ said. said.folder) (λ said folder. anno run (path_of profile) (anno_job folder said profile)) (λ said. context_asked profile said.folder _) (annotated_by caller profile (map chars words))
  word_onward caller word words (Some Sortm) =
      folder_onward profile (sort_begun run profile) (λ said. said.folder) (λ said folder. sortm run (path_of profile) (sort_job folder said profile)) (λ said. context_asked profile said.folder _) (sort_said profile (map chars words))
  word_onward caller word words (Some Mhlist) =
      folder_onward profile (list_begun run profile) (λ said. said.folder) (λ said folder. mhlist run (path_of profile) (list_job folder said profile)) (λ said. context_asked profile said.folder _) (list_said profile (map chars words))
  word_onward caller word words (Some Mhstore) =
      folder_onward profile (store_begun run profile) (λ said. said.folder) (λ said folder. mhstore run (path_of profile) (store_job folder said profile)) (λ said. context_asked profile said.folder _) (store_said profile (map chars words))
  word_onward caller word words (Some Mhbuild) =
      words_onward profile (build_begun run profile) (λ said. on_entries (build_acts said)) (λ said. entries_asked profile (build_acts said)) (build_said profile (map chars words))

  -- its plan, as if the context had been answered so
  abbrev pub word_plan : Caller → List ℕ → List (List ℕ) → Option CommandName → Answer → Ending Unit
  word_plan caller word words name b = Ask profile_step (λ c. rest_by (context_step profile) (word_by run caller profile word words name) (word_onward caller word words name) b)

  unfoldable pub named_onward : (caller : Caller) (words : List (List ℕ)) → Onward (context_step profile) (command_by run caller profile words)
  named_onward caller [] = inl (Err (no_command None), refl)
  named_onward caller (word ∷ words) = word_onward caller word words (named word)
