-- A command that keeps the context by naming the current folder minds the marks of all sequences.
use Rattle.std.proofs.Common.{◌≡◌, inl, inr, ◌<◌, ◌^◌, [], ℕ, false, List, Option, Some, None, Result, refl, sym, ◌∙◌, ap, subst, Err, Ok}
use Rattle.mh_profile.specs.Names.{is_attribute}
use Rattle.mh_profile.specs.declared.named_value.NamedValue.{NamedValue}
use Rattle.folder_files.specs.Commands.{IsMadeIn, Noting}
use Rattle.folder_files.specs.Deeds.{Deed}
use Rattle.folder_files.specs.Histories.{Changes}
use Rattle.folder_files.specs.Story.{GrowsBy, Story}
use Rattle.folder_files.specs.declared.place.Place.{Place}
use Rattle.folder_files.specs.declared.place.Place.TheVariants.{Folder, Mail}
use Rattle.folder_files.specs.declared.step.Step.{Step}
use Rattle.folder_files.specs.declared.step.Step.TheVariants.{Read}
use Rattle.file_plans.specs.Asking.{reading_of}
use Rattle.file_plans.specs.Follows.{deeds_in, filed_in, State, Follows}
use Rattle.file_plans.specs.Plan.{Hand, Plan}
use Rattle.file_plans.specs.Rules.{AreKept, IfOkay, Keeps}
use Rattle.file_plans.specs.Runs.{Cause, Deed as Done, exit_of}
use Rattle.file_plans.specs.StaysCareful.{IsOwnStep, only_looks, careful}
use Rattle.step_plans.specs.ContextCommit.{changed}
use Rattle.file_plans.proofs.Keeping.{run_keeps}
use Rattle.step_plans.specs.Pledges.{IsMarked, MayAsk, Pledge}
use Rattle.step_plans.proofs.KeptPledges.{look_changes}
use Rattle.step_plans.proofs.Ruling.{rules_of}
use Rattle.step_plans.proofs.Safe.{story_may}
use Rattle.step_plans.proofs.StoryMay.{StoryMay}
use Rattle.marks_law.specs.Apart.{by_text}
use Rattle.marks_law.specs.Minding.{KeepsMarks, Minds}
use Rattle.marks_law.proofs.Minded.{Considerate, MindfulApart}
use Rattle.marks_law.proofs.Pledging.{pledged_minds}
use Rattle.sequence_marks.specs.KeepsSequences.{KeepsSequences}
use Rattle.sequence_marks.specs.SequenceMarks.{private_marks, says_private}
use Rattle.sequence_marks.proofs.OtherEntries.{marks_same}
use Rattle.sequence_marks.proofs.Sequences.{MindsSequences, sequences_kept}
use Rattle.sequence_marks.proofs.Silence.{private_committed}
use Rattle.command_stages.specs.Current.{current_name}
use Rattle.mh_looks.specs.ScanPledge.{MarksCurrent, scan_pledge}
use Rattle.command_stages.proofs.FolderLines.{current_valid}
use Rattle.command_plans.specs.Command.{command}
use Rattle.command_pledges.specs.CommandPledge.{command_pledge, pledge_found}
use Rattle.command_plans.specs.Profile.{entries_by, path_of}
use Rattle.command_plans.specs.declared.caller.Caller.{Caller}
use Rattle.command_words.specs.Ended.{ended_cause}
use Rattle.command_words.specs.declared.ended.Ended.{Ended}
use Rattle.command_pledges.proofs.Begun.{start_same}
use Rattle.command_pledges.proofs.Pledging.{Answered, End, answers, follows_pledged, plan_by, pledge_at, read_keeps, pledge_run}
use Rattle.folder_command.proofs.Orderly.{orderly}
use Rattle.folder_files.specs.declared.step.Step.TheVariants as step

-- a step in the mail directory changes no folder
other_place : (mail path folder : List ℕ) (p : Place) → Mail mail ≡ p → Folder path folder ≡ p → ⊥
other_place mail path folder p e f = cc

pub mail_changes : (mail path folder : List ℕ) (s : Step) → IsMadeIn (Mail mail) s → Changes (Folder path folder) s → ⊥
mail_changes mail path folder (step.Create p n b) m c = other_place mail path folder p m c
mail_changes mail path folder (step.Link p a b) m c = other_place mail path folder p m c
mail_changes mail path folder (step.Rename p a b) m c = other_place mail path folder p m c
mail_changes mail path folder (step.Unlink p a) m c = other_place mail path folder p m c
mail_changes mail path folder s m c = c

-- a command that changes no folder, and of the context the current folder alone
module _ (w : Pledge) (mail : List ℕ) (no_change : (before : List Deed) (s : Step) (path folder : List ℕ) → IsOwnStep w.run w.manner before s → Changes (Folder path folder) s → ⊥)
    (current : (before : List Deed) (p : Place) (name old new : List ℕ) → w.may_mark before p name old new → MarksCurrent mail before p name old new) where
  -- the current folder is no sequence's
  plain_name : is_attribute current_name ≡ false
  plain_name = refl

  same_marks : (folder sequence old new : List ℕ) (before : List Deed) (p : Place) (name : List ℕ) (n : ℕ) → MarksCurrent mail before p name old new → says_private folder sequence new n ≡ says_private folder sequence old n
  unfolding changed
  same_marks folder sequence old new before p name n m =
      let valid = current_valid m.0 m.1 in
      ap (λ z. says_private folder sequence z n) m.3.2 ∙ marks_same folder sequence current_name _ old n plain_name valid.0.0 valid.0.1

  -- a commit of the context marks what its base marks
  marked_at : (path folder sequence temp : List ℕ) (before : List Deed) → MayAsk w before (step.Rename (Mail path) temp (private_marks path folder sequence).name) → IsMarked w (Mail path) temp (private_marks path folder sequence).name before
  marked_at path folder sequence temp before may = may.marks (private_committed path folder sequence)

  keeps_private : (path folder sequence temp : List ℕ) (before : List Deed) → MayAsk w before (step.Rename (Mail path) temp (private_marks path folder sequence).name) → KeepsMarks w.run (private_marks path folder sequence) temp before
  keeps_private path folder sequence temp before may =
      let m = marked_at path folder sequence temp before may in
      (m.old, m.new, m.is_base, m.created, λ n. same_marks folder sequence m.old m.new before (Mail path) (private_marks path folder sequence).name n (current before (Mail path) (private_marks path folder sequence).name m.old m.new m.made))

  minds_commit : (path folder sequence temp : List ℕ) (before : List Deed) → MayAsk w before (step.Rename (Mail path) temp (private_marks path folder sequence).name)
      → Minds w.run (private_marks path folder sequence) (by_text w.run (private_marks path folder sequence)) before (step.Rename (Mail path) temp (private_marks path folder sequence).name)
  minds_commit path folder sequence temp before may =
      let m = marked_at path folder sequence temp before may in
      pledged_minds w (private_marks path folder sequence) (by_text w.run (private_marks path folder sequence)) temp before m (λ n. same_marks folder sequence m.old m.new before (Mail path) (private_marks path folder sequence).name n (current before (Mail path) (private_marks path folder sequence).name m.old m.new m.made))

  may_private : (path folder sequence : List ℕ) (before : List Deed) (s : Step) → MayAsk w before s → MindfulApart (private_marks path folder sequence) w.run before s
  may_private path folder sequence before s may (inl c) = absurd (no_change before s path folder may.is_own c)
  may_private path folder sequence before s may (inr c) =
      subst (λ z. Minds w.run (private_marks path folder sequence) (by_text w.run (private_marks path folder sequence)) before z) (sym c.1) (minds_commit path folder sequence c.0 before (subst (λ z. MayAsk w before z) c.1 may))

  may_consider : (path folder sequence : List ℕ) (before : List Deed) (s : Step) → MayAsk w before s → Considerate (private_marks path folder sequence) w.run before s
  may_consider path folder sequence before s may temp e = inr (keeps_private path folder sequence temp before (subst (λ z. MayAsk w before z) e may))

  -- each step that it may ask for minds the marks of all sequences
  pub minds_all : MindsSequences w
  minds_all = record {
    public = λ path folder sequence before s may c. absurd (no_change before s path folder may.is_own c);
    private = λ path folder sequence before s may. (may_private path folder sequence before s may, may_consider path folder sequence before s may);
  }

-- `scan` is one
pub noting_changes : (run : ℕ) (mail : List ℕ) (before : List Deed) (s : Step) (path folder : List ℕ) → IsOwnStep run (Noting mail) before s → Changes (Folder path folder) s → ⊥
noting_changes run mail before s path folder (only_looks l) c = look_changes (Folder path folder) s l c
noting_changes run mail before s path folder (careful f kind k makes orderly) c = mail_changes mail path folder s makes.1 c

pub minds_sequences : (run : ℕ) (mail : List ℕ) → MindsSequences (scan_pledge run mail)
minds_sequences run mail = minds_all (scan_pledge run mail) mail (noting_changes run mail) (λ before p name old new m. m)

-- so does what was found, where each that may be does
pub found_minds : {A E : Type 0} (run : ℕ) (profile : List NamedValue) (pledge : A → Pledge) (value : Result A E) → ((found : A) → MindsSequences (pledge found)) → MindsSequences (pledge_found run profile pledge value)
found_minds run profile pledge (Ok found) each = each found
found_minds run profile pledge (Err e) each = minds_sequences run (path_of profile)

-- the own steps of a call's story, where its plan keeps the rules of a pledge
pub keeps_may : {T E : Type 0} (w : Pledge) (cause : E → Cause) (plan : Plan (Result T E)) (x y : State) (result : Result T E) (Q : List Done → Hand → Result T E → Type 0) → Keeps (rules_of w) [] x.hand plan Q → (f : Follows w.run cause plan x y result) → StoryMay w x.files.story y.files.story
keeps_may w cause plan x y result Q k f = told x.files.story y.files.story f.went.grows (run_keeps (rules_of w) [] x.hand plan (deeds_in f.went.log) y.hand (exit_of cause result) Q k f.went.runs).kept
  where
    told : (old new : Option Story) → GrowsBy w.run old new (filed_in f.went.log) → AreKept (rules_of w) [] (deeds_in f.went.log) → StoryMay w old new
    told None None g l = tt
    told (Some old) (Some new) g l = λ unused. story_may w old new f.went.log unused g l
    told None (Some new) g l = absurd g
    told (Some old) None g l = absurd g

-- a call that follows a command keeps the marks of all sequences, where its pledge minds them
pub command_keeps_sequences : (run : ℕ) (few : run < 2 ^ 128) (caller : Caller) (words : List (List ℕ)) → ((profile context : List NamedValue) → MindsSequences (command_pledge run caller words profile context)) → (x y : State) (result : Result Unit Ended)
    → Follows run ended_cause (command run caller words) x y result → KeepsSequences run x.files.story y.files.story
command_keeps_sequences run few caller words minds x y result f = go (answers run few caller words x y result f)
  where
    go : Answered run few caller words x.hand y.hand (deeds_in f.went.log) (exit_of ended_cause result) → KeepsSequences run x.files.story y.files.story
    go t =
        let w = pledge_at run few caller words t.first t.second in
        subst (λ n. KeepsSequences n x.files.story y.files.story) (pledge_run run caller words (entries_by t.first) (entries_by t.second))
        (sequences_kept w (minds (entries_by t.first) (entries_by t.second)) x.files.story y.files.story (start_same run ended_cause (command run caller words) x y result f)
        (keeps_may w ended_cause (plan_by run few caller words (reading_of t.first) t.second) x y result (IfOkay (End run few caller words t.first)) (read_keeps run few caller words x.hand (reading_of t.first) t.second)
        (follows_pledged run few caller words x y result f t)))
