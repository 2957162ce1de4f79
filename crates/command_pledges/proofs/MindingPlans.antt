-- Plans that keep a pledge which minds the marks of messages.
use Rattle.std.proofs.Common.{◌≡◌, ◌∷◌, [], ℕ, List, Option, Some, None, Result, sym, subst, Err, refl}
use Rattle.std.specs.Prelude.{Contains}
use Rattle.folder_files.specs.Deeds.{Deed}
use Rattle.folder_files.specs.Histories.{past_of}
use Rattle.folder_files.specs.Story.{Story}
use Rattle.folder_files.specs.declared.event.Event.{Event}
use Rattle.folder_files.specs.declared.event.Event.TheVariants.{Act, Crash, Deliver, End}
use Rattle.folder_files.specs.declared.step.Step.{Step}
use Rattle.file_plans.specs.Follows.{Follows, State}
use Rattle.file_plans.specs.Plan.{Hand, Ask, Return}
use Rattle.file_plans.specs.Rules.{Keeps, IfOkay}
use Rattle.step_plans.specs.Pledges.{Pledge}
use Rattle.step_plans.proofs.Ruling.{rules_of}
use Rattle.step_plans.proofs.StoryMay.{StoryMay}
use Rattle.sequence_marks.specs.KeepsSequencesOf.{KeepsSequencesOf}
use Rattle.sequence_marks.proofs.Sequences.{MindsSequences, SameStart}
use Rattle.sequence_marks.proofs.SequencesOf.{MindsSequencesOf, sequences_kept_of}
use Rattle.opening_plans.proofs.CommitMinds.{IsTold}
use Rattle.opening_plans.proofs.Meeting.{with_step}
use Rattle.refile_plans.proofs.FoldersMinded.{IsToldAll}
use Rattle.command_pledges.specs.CommandMarks.{IsTextName, KeepsWhere, AreAllSo}
use Rattle.command_pledges.proofs.MindsMarks.{keeps_may, minds_sequences}
use Rattle.command_pledges.proofs.StepsWith.{may_without, own_with}
use Rattle.command_pledges.proofs.ToldApart.{told_by}
use Rattle.command_pledges.proofs.Begun.{Any}
use Rattle.command_words.specs.declared.ended.Ended.{Ended}
use Rattle.command_words.specs.Ended.{Ending, ended_cause}
use Rattle.folder_files.specs.declared.place.Place.TheVariants.{Home}
use Rattle.step_plans.specs.ContextCommit.{LIMIT_BYTES}
use Rattle.mh_profile.specs.declared.named_value.NamedValue.{NamedValue}
use Rattle.command_pledges.proofs.TwoAnswers.{keeps_ended}
use Rattle.command_plans.specs.Profile.{path_of, profile_name}
use Rattle.command_plans.proofs.FirstReadings.{profile_step}
use Rattle.mh_looks.specs.ScanPledge.{scan_pledge}

-- where one folder is acted on, whose name is a text
pub minds_own : (acted : List ℕ) (w : Pledge) → IsTextName acted → MindsSequencesOf (λ other. IsTold acted other) w → MindsSequencesOf IsTextName w
minds_own acted w real m = record { public = m.public; private = λ mail folder sequence is. m.private mail folder sequence (told_by acted folder real is) }

-- where several are, whose names are texts
pub minds_all : (acted : List (List ℕ)) (w : Pledge) → ((name : List ℕ) → Contains acted name → IsTextName name) → MindsSequencesOf (λ other. IsToldAll acted other) w → MindsSequencesOf IsTextName w
minds_all acted w real m = record { public = m.public; private = λ mail folder sequence is. m.private mail folder sequence (λ name c. told_by name folder (real name c) is) }

-- a pledge that minds all marks minds them where more is asked of its steps
pub minds_with : (w : Pledge) (A : List Deed → Step → Type 0) → MindsSequences w → MindsSequencesOf IsTextName (with_step w A)
minds_with w A m = record {
  public = λ mail folder sequence own s may. m.public mail folder sequence own s (may_without w A own s may);
  private = λ mail folder sequence is own s may. m.private mail folder sequence own s (may_without w A own s may);
}

-- a plan that keeps a pledge, which minds the marks where each own step meets this besides
pub record Minding (run : ℕ) (B : List Deed → Step → Type 0) (h : Hand) (plan : Ending Unit) : Type 1 where
  pub pledge : Pledge
  pub run_is : pledge.run ≡ run
  pub minds : MindsSequencesOf IsTextName (with_step pledge B)
  pub keeps : Keeps (rules_of pledge) [] h plan (IfOkay Any)

-- what a pledge keeps where each own step meets this besides
where_kept : (B : List Deed → Step → Type 0) (w : Pledge) → MindsSequencesOf IsTextName (with_step w B) → (old new : Option Story) → SameStart old new → StoryMay w old new → KeepsWhere B w.run old new
where_kept B w minds None None same may = tt
where_kept B w minds (Some old) (Some new) same may =
    λ all. sequences_kept_of IsTextName (with_step w B) minds (Some old) (Some new) same (λ unused. own_with w B (past_of new.history) all (may unused))
where_kept B w minds None (Some new) same may = absurd may
where_kept B w minds (Some old) None same may = absurd may

-- a call that follows such a plan keeps the marks then
pub minding_where : (run : ℕ) (B : List Deed → Step → Type 0) (plan : Ending Unit) (x y : State) (result : Result Unit Ended) → Minding run B x.hand plan → Follows run ended_cause plan x y result → SameStart x.files.story y.files.story
    → KeepsWhere B run x.files.story y.files.story
minding_where run B plan x y result m f same =
    subst (λ n. KeepsWhere B n x.files.story y.files.story) m.run_is (where_kept B m.pledge m.minds x.files.story y.files.story same
    (keeps_may m.pledge ended_cause plan x y result (IfOkay Any) m.keeps (subst (λ n. Follows n ended_cause plan x y result) (sym m.run_is) f)))

-- no more than that is asked of the steps
abbrev pub NothingMore : List Deed → Step → Type 0
NothingMore own s = Unit {0}

no_more : (run : ℕ) (past : List Event) → AreAllSo NothingMore run past
no_more run [] = tt
no_more run (Act r s a m ∷ past) = ((λ is. tt), no_more run past)
no_more run (Deliver _ piece ∷ past) = no_more run past
no_more run (Crash v ∷ past) = no_more run past
no_more run (End r ∷ past) = no_more run past

pub all_kept : (run : ℕ) (old new : Option Story) → KeepsWhere NothingMore run old new → KeepsSequencesOf IsTextName run old new
all_kept run None None k = tt
all_kept run (Some old) (Some new) k = k (no_more run (past_of new.history))
all_kept run None (Some new) k = absurd k
all_kept run (Some old) None k = absurd k

-- the command ends before it does anything
pub ended_minding : (run : ℕ) (profile : List NamedValue) (B : List Deed → Step → Type 0) (h : Hand) (e : Ended) → Minding run B h (Ask profile_step (λ c. Return (Err e)))
ended_minding run profile B h e = record {
  pledge = scan_pledge run (path_of profile);
  run_is = refl;
  minds = minds_with (scan_pledge run (path_of profile)) B (minds_sequences run (path_of profile));
  keeps = keeps_ended (scan_pledge run (path_of profile)) Home profile_name LIMIT_BYTES h (Err e) (IfOkay Any) (λ c. tt);
}
