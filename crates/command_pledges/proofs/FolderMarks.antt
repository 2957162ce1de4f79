-- What commands do in one folder keeps pledges that mind the marks of messages.
use Rattle.std.proofs.Common.{◌≡◌, ◌<◌, ◌^◌, ℕ, true, List, refl, ◌∷◌, [], Bool, false, Option, Some, None}
use Rattle.mh_base.specs.Folders.{is_folder_name}
use Rattle.mh_profile.specs.declared.named_value.NamedValue.{NamedValue}
use Rattle.folder_files.specs.Annotations.{are_annotations}
use Rattle.folder_files.specs.Deeds.{Deed}
use Rattle.folder_files.specs.declared.step.Step.{Step}
use Rattle.file_plans.specs.Plan.{Hand}
use Rattle.file_plans.proofs.Acting.{acts}
use Rattle.command_stages.proofs.FolderLines.{current_valid}
use Rattle.opening_plans.proofs.AllMarks.{MindsAll}
use Rattle.opening_plans.proofs.CommitMinds.{IsTold}
use Rattle.refile_plans.specs.RefileHeld.{TakesUnheld}
use Rattle.anno_plans.specs.Anno.{anno}
use Rattle.anno_plans.specs.AnnoPledge.{anno_pledge}
use Rattle.anno_plans.proofs.AnnoMinds.{anno_meets}
use Rattle.anno_plans.proofs.AnnoPledged.{anno_keeps}
use Rattle.anno_words.specs.declared.words.AnnoWords.{AnnoWords}
use Rattle.command_plans.specs.Command.{anno_job, list_job, mark_job, pack_job, pick_job, rmm_job, sort_job, store_job, tell_job}
use Rattle.command_pledges.specs.CommandMarks.{IsTextName}
use Rattle.command_plans.specs.Profile.{path_of}
use Rattle.command_pledges.proofs.Begun.{none_read}
use Rattle.command_plans.proofs.FirstReadings.{two_readings}
use Rattle.sortm_plans.specs.Sort.{sortm}
use Rattle.sortm_plans.specs.SortPledge.{sortm_pledge}
use Rattle.sortm_plans.proofs.SortMinds.{sortm_meets}
use Rattle.sortm_plans.proofs.SortPledged.{sortm_keeps}
use Rattle.sort_words.specs.declared.words.SortWords.{SortWords}
use Rattle.pack_plans.specs.Pack.{pack}
use Rattle.pack_plans.specs.PackPledge.{pack_pledge}
use Rattle.pack_plans.proofs.PackMinds.{pack_meets}
use Rattle.pack_plans.proofs.PackPledged.{pack_keeps}
use Rattle.folder_words.specs.declared.folder.FolderWords.{FolderWords}
use Rattle.mark_command.specs.declared.job.MarkJob.{MarkJob}
use Rattle.mark_command.specs.Mark.{look_task, mark, mark_by_act, mark_task}
use Rattle.mark_command.specs.declared.job.MarkAct.{MarkAct}
use Rattle.mark_command.proofs.Orderly.{mark_orderly}
use Rattle.told_folders.specs.Plans.{folder_changed}
use Rattle.told_folders.specs.Pledge.{change_pledge, look_pledge}
use Rattle.told_folders.specs.Tasks.{IsOrderly, Task}
use Rattle.told_folders.proofs.ChangesMind.{changes_meet}
use Rattle.told_folders.proofs.ChangesPledged.{changes_keep}
use Rattle.folder_command.specs.Folder.{folder as tell, folder_by, task_with}
use Rattle.folder_command.specs.declared.job.FolderJob.{FolderJob}
use Rattle.folder_command.proofs.Orderly.{orderly}
use Rattle.refile_plans.specs.HeldLeft.{RemovesUnheld}
use Rattle.refile_plans.specs.Rmm.{rmm}
use Rattle.refile_plans.specs.RmmPledge.{rmm_pledge}
use Rattle.refile_plans.proofs.RmmMinds.{rmm_meets}
use Rattle.refile_plans.proofs.RmmPledged.{rmm_keeps}
use Rattle.folder_words.specs.declared.mark.MarkWords.{MarkWords}
use Rattle.folder_words.specs.declared.rmm.RmmWords.{RmmWords}
use Rattle.command_pledges.proofs.LooksMarks.{looks_mind}
use Rattle.command_pledges.proofs.MindingPlans.{NothingMore}
use Rattle.command_pledges.proofs.MindingWork.{MindingWork, all_minded, own_minded}
use Rattle.command_pledges.proofs.Pledging.{two_unheld}
use Rattle.command_pledges.proofs.ByWords.{task_acts}
use Rattle.folder_command.proofs.FolderPledged.{folder_keeps}
use Rattle.mark_command.proofs.MarkPledged.{mark_keeps}
use Rattle.pick_plans.specs.Pick.{pick, pick_by as pick_by_marks}
use Rattle.pick_plans.specs.PickPledge.{looks_pledge, pick_pledge}
use Rattle.pick_plans.specs.declared.job.PickJob.{PickJob}
use Rattle.pick_plans.specs.declared.job.PickMarks.{PickMarks}
use Rattle.pick_plans.proofs.PickMinds.{changes_meet as picks_meet}
use Rattle.pick_plans.proofs.PickPledged.{pick_keeps}
use Rattle.folder_words.specs.declared.pick.PickWords.{PickWords}
use Rattle.list_words.specs.declared.words.ListWords.{ListWords}
use Rattle.store_words.specs.declared.words.StoreWords.{StoreWords}
use Rattle.mhlist_plans.specs.ListPledge.{list_pledge, task_of}
use Rattle.mhlist_plans.specs.Listing.{mhlist}
use Rattle.mhlist_plans.proofs.ListPledged.{list_keeps}
use Rattle.mhstore_plans.specs.StorePledge.{store_pledge}
use Rattle.mhstore_plans.specs.Storing.{mhstore}
use Rattle.mhstore_plans.proofs.StorePledged.{store_keeps}
use Rattle.command_pledges.proofs.MindsMarks.{minds_all, noting_changes}
use Rattle.command_pledges.proofs.StoreMarks.{stores_mind}

module _ (run : ℕ) (few : run < 2 ^ 128) (profile : List NamedValue) (j : Hand) where
  abbrev path : List ℕ
  path = path_of profile

  -- a task that changes sequences
  task_minded : (t : Task) → IsOrderly t → is_folder_name t.folder ≡ true → IsTextName t.folder → MindingWork run profile NothingMore j (folder_changed run path t)
  task_minded t orders real text =
      own_minded run profile NothingMore (change_pledge run path t) refl j (folder_changed run path t) (λ c d sound. changes_keep run few path t (two_readings profile c d) j sound)
      (λ own s. MindsAll (λ other. IsTold t.folder other) run own s) (λ c d sound. changes_meet run path t orders (current_valid t.folder real) (acts (two_readings profile c d)) j (none_read profile t.folder c d)) t.folder text (λ own s a more. a)

  -- `mark`, by what is to be done
  marked_by : (job : MarkJob) → is_folder_name job.folder ≡ true → IsTextName job.folder → (act : Option MarkAct) → MindingWork run profile NothingMore j (mark_by_act run path job act)
  marked_by job real text None =
      all_minded run profile NothingMore (look_pledge run path (look_task job)) refl j (mark_by_act run path job None) (λ c d sound. mark_keeps run few path job None (two_readings profile c d) j sound) (looks_mind run path (look_task job) real)
  marked_by job real text (Some a) = task_minded (mark_task job a) (mark_orderly job a) real text

  -- `folder`, by its words
  told_by_words : (job : FolderJob) → is_folder_name job.folder ≡ true → IsTextName job.folder → (specs : List (List ℕ)) → MindingWork run profile NothingMore j (folder_by run path job specs)
  told_by_words job real text [] =
      all_minded run profile NothingMore (look_pledge run path (task_with [] job)) refl j (folder_by run path job []) (λ c d sound. folder_keeps run few path job [] (two_readings profile c d) j sound) (looks_mind run path (task_with [] job) real)
  told_by_words job real text (word ∷ rest) = task_minded (task_with (word ∷ rest) job) (orderly (word ∷ rest) job) real text

  -- `pick`, by what it marks; one that marks nothing changes the context alone
  picked_by_marks : (job : PickJob) → is_folder_name job.folder ≡ true → IsTextName job.folder → (marks : Option PickMarks) → MindingWork run profile NothingMore j (pick_by_marks run path job marks)
  picked_by_marks job real text None =
      all_minded run profile NothingMore (looks_pledge run path job) refl j (pick_by_marks run path job None) (λ c d sound. pick_keeps run few path job None (two_readings profile c d) j sound)
      (minds_all (looks_pledge run path job) path (noting_changes run path) (λ before p name old new m. (job.folder, real, m.0, m.1)))
  picked_by_marks job real text (Some p) =
      own_minded run profile NothingMore (pick_pledge run path job p) refl j (pick_by_marks run path job (Some p)) (λ c d sound. pick_keeps run few path job (Some p) (two_readings profile c d) j sound)
      (λ own s. MindsAll (λ other. IsTold job.folder other) run own s) (λ c d sound. picks_meet run path job p (current_valid job.folder real) (acts (two_readings profile c d)) j (none_read profile job.folder c d)) job.folder text (λ own s a more. a)

  module _ (folder : List ℕ) (real : is_folder_name folder ≡ true) (text : IsTextName folder) where
    abbrev Told : List Deed → Step → Type 0
    Told own s = MindsAll (λ other. IsTold folder other) run own s

    pub mark_minded : (words : MarkWords) → MindingWork run profile NothingMore j (mark run path (mark_job folder words profile))
    unfolding mark
    mark_minded words = marked_by (mark_job folder words profile) real text words.act

    pub pick_minded : (words : PickWords) → MindingWork run profile NothingMore j (pick run path (pick_job folder words profile))
    unfolding pick
    pick_minded words = picked_by_marks (pick_job folder words profile) real text words.marks

    -- `folder`, by whether messages are numbered anew
    pub tell_minded : (words : FolderWords) (k : Bool) → MindingWork run profile NothingMore j (task_acts run profile words k folder)
    unfolding tell
    tell_minded words true =
        own_minded run profile NothingMore (pack_pledge run path (pack_job folder)) refl j (pack run path (pack_job folder)) (λ c d sound. pack_keeps run few path (pack_job folder) (two_readings profile c d) j (two_unheld run profile folder c d) sound)
        Told (λ c d sound. pack_meets run few path (pack_job folder) (current_valid folder real) (acts (two_readings profile c d)) j (none_read profile folder c d)) folder text (λ own s a more. a)
    tell_minded words false = told_by_words (tell_job folder words profile) real text words.specs

    pub sort_minded : (words : SortWords) → MindingWork run profile NothingMore j (sortm run path (sort_job folder words profile))
    sort_minded words =
        let job = sort_job folder words profile in
        own_minded run profile NothingMore (sortm_pledge run path job) refl j (sortm run path job) (λ c d sound. sortm_keeps run few path job (two_readings profile c d) j (two_unheld run profile folder c d) sound)
        Told (λ c d sound. sortm_meets run few path job (current_valid folder real) (acts (two_readings profile c d)) j (none_read profile folder c d)) folder text (λ own s a more. a)

    -- `rmm`, where no message is held aside when it removes one
    pub rmm_minded : (words : RmmWords) → MindingWork run profile RemovesUnheld j (rmm run path (rmm_job folder words profile))
    rmm_minded words =
        let job = rmm_job folder words profile in
        own_minded run profile RemovesUnheld (rmm_pledge run path job) refl j (rmm run path job) (λ c d sound. rmm_keeps run few path job (two_readings profile c d) j sound)
        (λ own s. RemovesUnheld own s → Told own s) (λ c d sound. rmm_meets run path job (current_valid folder real) (acts (two_readings profile c d)) j (none_read profile folder c d)) folder text (λ own s a more. a more)

    -- `anno`, where none is when it takes one
    pub anno_minded : (words : AnnoWords) → are_annotations words.lines ≡ true → MindingWork run profile TakesUnheld j (anno run path (anno_job folder words profile))
    anno_minded words notes =
        let job = anno_job folder words profile in
        own_minded run profile TakesUnheld (anno_pledge run path job) refl j (anno run path job) (λ c d sound. anno_keeps run few path job notes (two_readings profile c d) j (two_unheld run profile folder c d) sound)
        (λ own s. TakesUnheld own s → Told own s) (λ c d sound. anno_meets run few path job notes (current_valid folder real) (acts (two_readings profile c d)) j sound (none_read profile folder c d)) folder text (λ own s a more. a more)

    pub list_minded : (words : ListWords) → MindingWork run profile NothingMore j (mhlist run path (list_job folder words profile))
    list_minded words =
        let job = list_job folder words profile in
        all_minded run profile NothingMore (list_pledge run path job) refl j (mhlist run path job) (λ c d sound. list_keeps run few path job (two_readings profile c d) j sound) (looks_mind run path (task_of job) real)

    pub store_minded : (words : StoreWords) → MindingWork run profile NothingMore j (mhstore run path (store_job folder words profile))
    store_minded words =
        let job = store_job folder words profile in
        all_minded run profile NothingMore (store_pledge run path job) refl j (mhstore run path job) (λ c d sound. store_keeps run few path job (two_readings profile c d) j sound) (stores_mind run path job real)
