-- `inc` keeps a pledge that minds the marks of messages.
use Rattle.std.proofs.Common.{◌≡◌, ◌<◌, ◌^◌, ℕ, true, List, Ok, refl, sym, subst}
use Rattle.mh_base.specs.Folders.{is_folder_name}
use Rattle.mh_profile.specs.declared.named_value.NamedValue.{NamedValue}
use Rattle.folder_files.specs.Deeds.{Deed}
use Rattle.folder_files.specs.declared.place.Place.TheVariants.{Folder}
use Rattle.folder_files.specs.declared.step.Answer.{Answer}
use Rattle.folder_files.specs.declared.step.Step.{Step}
use Rattle.file_plans.specs.Plan.{Hand}
use Rattle.file_plans.specs.Rules.{IfOkay, Keeps}
use Rattle.file_plans.proofs.Acting.{acts}
use Rattle.step_plans.specs.Pledges.{Pledge}
use Rattle.step_plans.proofs.Going.{Sound}
use Rattle.step_plans.proofs.Ruling.{rules_of}
use Rattle.sequence_marks.proofs.SequencesOf.{MindsSequencesOf}
use Rattle.command_stages.proofs.FolderLines.{current_valid}
use Rattle.opening_plans.proofs.AllMarks.{MindsAll, pledge_minds}
use Rattle.opening_plans.proofs.CommitMinds.{IsTold}
use Rattle.opening_plans.proofs.EndedKept.{Still, keeps_more}
use Rattle.opening_plans.proofs.Meeting.{keeps_met, with_step}
use Rattle.opening_plans.proofs.WorkMinds.{Anyhow}
use Rattle.message_lines.specs.MessageText.{Writing}
use Rattle.message_lines.specs.declared.standing.Standing.{Standing}
use Rattle.inc_plans.specs.Inc.{inc}
use Rattle.inc_plans.specs.IncPledge.{inc_pledge}
use Rattle.inc_plans.proofs.IncMinds.{inc_meets}
use Rattle.inc_plans.proofs.IncPledged.{inc_keeps}
use Rattle.command_pledges.specs.CommandMarks.{IsTextName}
use Rattle.command_plans.specs.Incorporating.{IncAsked, job_writing}
use Rattle.command_plans.specs.Looking.{WritesAs, written_by}
use Rattle.command_plans.specs.Profile.{path_of}
use Rattle.command_pledges.proofs.Begun.{Any, any_so, none_read}
use Rattle.command_plans.proofs.LookFound.{acts_looked, look_done, look_keeps, look_writes, looked_once, looked_unlinked, writes_kept}
use Rattle.command_pledges.proofs.Telling.{keeps_telling}
use Rattle.command_plans.proofs.FirstReadings.{two_once, two_readings}
use Rattle.command_pledges.proofs.MindingPlans.{NothingMore, minds_own}
use Rattle.command_pledges.proofs.MindingWork.{MindingWork}
use Rattle.command_pledges.proofs.ByWords.{inc_acts}
use Rattle.command_pledges.specs.CommandPledge.{TellsAsked, asked_pledge}

module _ (run : ℕ) (few : run < 2 ^ 128) (profile : List NamedValue) (j : Hand) (asked : IncAsked) (real : is_folder_name asked.folder ≡ true) (text : IsTextName asked.folder) where
  abbrev path : List ℕ
  path = path_of profile

  abbrev Besides : List Deed → Step → Type 0
  Besides own s = MindsAll (λ other. IsTold asked.folder other) run own s

  abbrev takes_pledge : Pledge
  takes_pledge = with_step (asked_pledge run path asked) Besides

  taken_minds : MindsSequencesOf IsTextName (with_step takes_pledge NothingMore)
  taken_minds = minds_own asked.folder (with_step takes_pledge NothingMore) text (pledge_minds (λ other. IsTold asked.folder other) (with_step takes_pledge NothingMore) (λ own s may. may.0.1))

  taken_keeps : (c d e : Answer) (spoken : Standing → Writing) → written_by asked.telling e ≡ Ok spoken → Sound takes_pledge (acts (look_done asked.telling e (two_readings profile c d))) j
      → Keeps (rules_of takes_pledge) (look_done asked.telling e (two_readings profile c d)) j (inc run path (job_writing asked spoken)) (IfOkay Any)
  taken_keeps c d e spoken written sound =
      let first = two_readings profile c d in
      let past = look_done asked.telling e first in
      let job = job_writing asked spoken in
      let here : Sound (inc_pledge run path job) (acts past) j = record { numbered = sound.numbered; unfailed = sound.unfailed } in
      keeps_telling (with_step (inc_pledge run path job) Besides) (TellsAsked run path asked) (WritesAs asked.telling spoken) (writes_kept asked.telling spoken) (λ own piece writes told. (spoken, writes, told)) past j
      (inc run path job) (IfOkay Any) (subst (WritesAs asked.telling spoken) (sym (acts_looked asked.telling e first)) (look_writes asked.telling e (acts first) spoken written))
      (keeps_more (rules_of (with_step (inc_pledge run path job) Besides)) past j (inc run path job) (IfOkay (Still (acts past))) (IfOkay Any) (λ later i r q. any_so (Still (acts past)) later i r q)
      (keeps_met (inc_pledge run path job) Besides past (acts past) j (inc run path job) (IfOkay (Still (acts past))) Anyhow refl
      (inc_keeps run few path job past j (looked_once (inc_pledge run path job) asked.telling e first (two_once (inc_pledge run path job) profile c d)) here)
      (inc_meets run few path job (current_valid asked.folder real) (acts past) j here (looked_unlinked asked.telling e (Folder path asked.folder) first (none_read profile asked.folder c d)))))

  pub inc_minded : MindingWork run profile NothingMore j (inc_acts run profile asked)
  inc_minded = record {
    pledge = takes_pledge;
    run_is = refl;
    minds = taken_minds;
    keeps = λ c d sound. look_keeps takes_pledge (two_readings profile c d) j Any sound asked.telling (λ spoken. inc run path (job_writing asked spoken)) (taken_keeps c d);
  }
