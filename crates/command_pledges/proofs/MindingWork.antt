-- Work on a folder that keeps a pledge which minds the marks of messages, by the words of the command.
use Rattle.std.proofs.Common.{◌≡◌, ℕ, List, Option, Result, Ok, subst, Err, refl, true}
use Rattle.folder_files.specs.Deeds.{Deed}
use Rattle.folder_files.specs.declared.step.Step.{Step}
use Rattle.file_plans.specs.Plan.{Hand, Plan}
use Rattle.file_plans.specs.Rules.{Keeps, IfOkay}
use Rattle.step_plans.specs.Pledges.{Pledge, MayAsk}
use Rattle.step_plans.specs.declared.command_fault.CommandFault.{CommandFault}
use Rattle.step_plans.proofs.Going.{Sound}
use Rattle.step_plans.proofs.Ruling.{rules_of}
use Rattle.sequence_marks.proofs.Sequences.{MindsSequences}
use Rattle.sequence_marks.proofs.SequencesOf.{MindsSequencesOf}
use Rattle.opening_plans.proofs.CommitMinds.{IsTold}
use Rattle.opening_plans.proofs.Meeting.{Meets, keeps_met, with_step}
use Rattle.command_pledges.specs.CommandMarks.{IsTextName}
use Rattle.command_pledges.proofs.MindsMarks.{minds_sequences}
use Rattle.folder_files.specs.declared.step.Answer.{Answer}
use Rattle.command_pledges.proofs.Begun.{Any, any_so}
use Rattle.opening_plans.proofs.WorkMinds.{Anyhow}
use Rattle.command_pledges.proofs.ByWords.{AsksContext, on_context, on_entries, on_folder, words_onward, words_plan}
use Rattle.command_stages.specs.Texts.{Commanded}
use Rattle.command_words.specs.declared.ended.Ended.{Ended}
use Rattle.command_words.specs.Ended.{Ending}
use Rattle.command_plans.proofs.FolderChars.{HasChars, acted_chars}
use Rattle.folder_files.specs.declared.place.Place.TheVariants.{Home, Mail}
use Rattle.command_words.proofs.SaidFolder.{IsValid}
use Rattle.step_plans.specs.ContextCommit.{LIMIT_BYTES, context_name}
use Rattle.command_pledges.proofs.MindingPlans.{Minding, ended_minding, minds_own, minds_with}
use Rattle.opening_plans.proofs.AllMarks.{MindsAll, pledge_minds}
use Rattle.mh_profile.specs.declared.named_value.NamedValue.{NamedValue}
use Rattle.file_plans.specs.declared.answers.Reading.{Reading}
use Rattle.opening_plans.proofs.EndedKept.{Still, keeps_more}
use Rattle.command_pledges.proofs.Pledging.{WorkKeeps, context_keeps, entries_keep, known_sound}
use Rattle.command_plans.proofs.SaidFolder.{acted_valid}
use Rattle.file_plans.proofs.Acting.{acts}
use Rattle.command_plans.specs.Profile.{entries_by, folder_of, path_of, profile_name}
use Rattle.mh_base.specs.Folders.{is_folder_name}
use Rattle.command_pledges.proofs.TwoAnswers.{keeps_after}
use Rattle.step_plans.specs.Hands.{knowing}
use Rattle.file_plans.specs.Asking.{reading_of}
use Rattle.mh_looks.specs.ScanPledge.{scan_pledge}
use Rattle.command_plans.proofs.FirstReadings.{two_readings}

ok_one : (v : Result (List ℕ) CommandFault) (x y : List ℕ) → v ≡ Ok x → v ≡ Ok y → x ≡ y
ok_one v x y e f = cc (e, f)

-- after the two readings it keeps such a pledge, where each own step meets this besides
pub record MindingWork {E : Type 0} (run : ℕ) (profile : List NamedValue) (B : List Deed → Step → Type 0) (j : Hand) (plan : Plan (Result Unit E)) : Type 1 where
  pub pledge : Pledge
  pub run_is : pledge.run ≡ run
  pub minds : MindsSequencesOf IsTextName (with_step pledge B)
  pub keeps : (c d : Answer) → Sound pledge (acts (two_readings profile c d)) j → Keeps (rules_of pledge) (two_readings profile c d) j plan (IfOkay Any)

module _ (run : ℕ) (profile : List NamedValue) (B : List Deed → Step → Type 0) where
  abbrev look : Pledge
  look = scan_pledge run (path_of profile)

  module _ (w : Pledge) (same : w.run ≡ run) (j : Hand) (plan : Commanded Unit) (keeps : WorkKeeps profile w j plan) where
    -- work whose pledge minds all marks
    pub all_minded : MindsSequences w → MindingWork run profile B j plan
    all_minded minds = record {
      pledge = w;
      run_is = same;
      minds = minds_with w B minds;
      keeps = λ c d sound. keeps_more (rules_of w) (two_readings profile c d) j plan (IfOkay (Still (acts (two_readings profile c d)))) (IfOkay Any) (any_so (Still (acts (two_readings profile c d)))) (keeps c d sound);
    }

    module _ (A : List Deed → Step → Type 0) (meets : (c d : Answer) → Sound w (acts (two_readings profile c d)) j → Meets (MayAsk w) A (acts (two_readings profile c d)) j plan Anyhow) where
      -- work each of whose steps meets this besides
      pub met_minded : MindsSequencesOf IsTextName (with_step (with_step w A) B) → MindingWork run profile B j plan
      met_minded minds = record {
        pledge = with_step w A;
        run_is = same;
        minds = minds;
        keeps = λ c d sound.
            let past = two_readings profile c d in
            let plainly : Sound w (acts past) j = record { numbered = sound.numbered; unfailed = sound.unfailed } in
            keeps_more (rules_of (with_step w A)) past j plan (IfOkay (Still (acts past))) (IfOkay Any) (any_so (Still (acts past)))
            (keeps_met w A past (acts past) j plan (IfOkay (Still (acts past))) Anyhow refl (keeps c d plainly) (meets c d plainly));
      }

      -- which minds the marks of the one folder that is acted on
      pub own_minded : (folder : List ℕ) → IsTextName folder → ((own : List Deed) (s : Step) → A own s → B own s → MindsAll (λ other. IsTold folder other) w.run own s) → MindingWork run profile B j plan
      own_minded folder text so =
          met_minded (minds_own folder (with_step (with_step w A) B) text (pledge_minds (λ other. IsTold folder other) (with_step (with_step w A) B) (λ own s may. so own s may.0.1 may.1)))

  -- after the context was read so
  pub entries_minded : (h : Hand) (b : Answer) (plan : Commanded Unit) → MindingWork run profile B (knowing (entries_by b) h) plan → MindingWork run profile B h (on_entries plan (reading_of b))
  entries_minded h b plan m = record {
    pledge = m.pledge;
    run_is = m.run_is;
    minds = m.minds;
    keeps = λ c d sound. entries_keep m.pledge (two_readings profile c d) h sound plan Any (reading_of b) (m.keeps c d (known_sound m.pledge (acts (two_readings profile c d)) h (entries_by b) sound));
  }

  -- and on the folder that is named then
  pub context_minded : (h : Hand) (b : Answer) (said : Option (List ℕ)) (act : List ℕ → Commanded Unit) → ((folder : List ℕ) → folder_of said (entries_by b) profile ≡ Ok folder → MindingWork run profile B (knowing (entries_by b) h) (act folder))
      → MindingWork run profile B h (on_context profile said act (reading_of b))
  context_minded h b said act f = go (folder_of said (entries_by b) profile) refl
    where
      go : (v : Result (List ℕ) CommandFault) → folder_of said (entries_by b) profile ≡ v → MindingWork run profile B h (on_context profile said act (reading_of b))
      go (Ok folder) is =
          let m = f folder is in
          record {
            pledge = m.pledge;
            run_is = m.run_is;
            minds = m.minds;
            keeps = λ c d sound. context_keeps m.pledge (two_readings profile c d) h sound profile said act Any (reading_of b)
                (λ other known. subst (λ z. Keeps (rules_of m.pledge) (two_readings profile c d) (knowing (entries_by b) h) (act z) (IfOkay Any)) (ok_one (folder_of said (entries_by b) profile) folder other is known)
                (m.keeps c d (known_sound m.pledge (acts (two_readings profile c d)) h (entries_by b) sound)));
          }
      go (Err e) is = record {
        pledge = look;
        run_is = refl;
        minds = minds_with look B (minds_sequences run (path_of profile));
        keeps = λ c d sound. context_keeps look (two_readings profile c d) h sound profile said act Any (reading_of b) (λ other known. absurd (cc (is, known)));
      }

  -- by the words: the work, or the end
  pub words_minding : {W : Type 0} (begun : W → Commanded Unit) (more : W → Reading → Ending Unit) (asked : AsksContext profile begun more) (h : Hand) (b : Answer) (value : Result W Ended)
      → ((words : W) → value ≡ Ok words → MindingWork run profile B h (more words (reading_of b))) → Minding run B h (words_plan profile begun more asked b value)
  unfolding words_onward
  words_minding begun more asked h b (Ok words) f =
      let m = f words refl in
      record {
        pledge = m.pledge;
        run_is = m.run_is;
        minds = m.minds;
        keeps = keeps_after m.pledge Home (Mail (path_of profile)) profile_name context_name LIMIT_BYTES h (more words (reading_of b)) (IfOkay Any) m.keeps;
      }
  words_minding begun more asked h b (Err e) f = ended_minding run profile B h e

  -- of a command on a folder, whose name is a text
  pub folder_minding : {W : Type 0} (begun : W → Commanded Unit) (named_in : W → Option (List ℕ)) (does : W → List ℕ → Commanded Unit) (asked : AsksContext profile begun (on_folder profile named_in does)) (h : Hand) (b : Answer) (value : Result W Ended)
      → ((words : W) → value ≡ Ok words → IsValid (named_in words)) → ((words : W) → value ≡ Ok words → HasChars (named_in words))
      → ((words : W) → value ≡ Ok words → (folder : List ℕ) → is_folder_name folder ≡ true → IsTextName folder → MindingWork run profile B (knowing (entries_by b) h) (does words folder))
      → Minding run B h (words_plan profile begun (on_folder profile named_in does) asked b value)
  folder_minding begun named_in does asked h b value valid texts f =
      words_minding begun (on_folder profile named_in does) asked h b value (λ words is. context_minded h b (named_in words) (does words)
      (λ folder acted. f words is folder (acted_valid (named_in words) (entries_by b) profile folder (valid words is) acted) (acted_chars (named_in words) (entries_by b) profile folder (texts words is) acted)))
