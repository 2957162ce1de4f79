-- Steps that mind the marks of every sequence of every folder.
use Rattle.std.proofs.Common.{◌≡◌, ◌⊎◌, inl, inr, ℕ, true, List, subst}
use Rattle.mh_base.specs.Entries.{kind_of}
use Rattle.folder_files.specs.Careful.{IsLook}
use Rattle.folder_files.specs.Deeds.{Deed}
use Rattle.folder_files.specs.Histories.{Changes}
use Rattle.folder_files.specs.Named.{is_held, is_temp}
use Rattle.folder_files.specs.declared.place.Place.{Place}
use Rattle.folder_files.specs.declared.place.Place.TheVariants.{Folder, Mail}
use Rattle.folder_files.specs.declared.step.Step.{Step}
use Rattle.folder_files.specs.declared.step.Step.TheVariants as step
use Rattle.step_plans.specs.Pledges.{Pledge}
use Rattle.step_plans.proofs.KeptPledges.{look_changes}
use Rattle.marks_law.specs.Apart.{by_text}
use Rattle.marks_law.specs.Bearers.{Marking}
use Rattle.marks_law.specs.Minding.{Knowing, Minds, by_base, makes, clears, lets_go}
use Rattle.marks_law.specs.Pledging.{CommitsText}
use Rattle.marks_law.proofs.Minded.{Considerate, Mindful, MindfulApart}
use Rattle.sequence_marks.specs.SequenceMarks.{private_marks, public_marks}
use Rattle.sequence_marks.proofs.SequencesOf.{MindsSequencesOf}

-- after these own deeds the step minds the marks of each sequence of each folder, the public ones, and the private ones of these folders
pub record MindsAll (Of : List ℕ → Type 0) (run : ℕ) (own : List Deed) (s : Step) : Type 0 where
  pub public : (mail folder sequence : List ℕ) → Mindful (public_marks mail folder sequence) run own s
  pub private : (mail folder sequence : List ℕ) → Of folder → MindfulApart (private_marks mail folder sequence) run own s
  pub considerate : (mail folder sequence : List ℕ) → Of folder → Considerate (private_marks mail folder sequence) run own s

pub no_look : (k : Marking) (s : Step) → Changes k.folder s ⊎ CommitsText k s → IsLook s → ⊥
no_look k s (inl c) l = look_changes k.folder s l c
no_look k s (inr c) l = subst (λ z. IsLook z) c.1 l

module _ (Of : List ℕ → Type 0) where
  -- a pledge that asks this of its steps minds the marks
  pub pledge_minds : (w : Pledge) → ((own : List Deed) (s : Step) → w.may_step own s → MindsAll Of w.run own s) → MindsSequencesOf Of w
  pledge_minds w so = record {
    public = λ mail folder sequence own s may c. (so own s (may.steps (λ l. look_changes (Folder mail folder) s l c))).public mail folder sequence c;
    private = λ mail folder sequence is own s may. (
      λ c. (so own s (may.steps (no_look (private_marks mail folder sequence) s c))).private mail folder sequence is c,
      λ temp e. (so own s (may.steps (λ l. subst (λ z. IsLook z) e l))).considerate mail folder sequence is temp e,
    );
  }

  -- a step that changes no folder and commits no context
  pub quiet_minds : (run : ℕ) (own : List Deed) (s : Step) → ((mail folder : List ℕ) → Changes (Folder mail folder) s → ⊥) → ((mail folder sequence temp : List ℕ) → s ≡ step.Rename (Mail mail) temp (private_marks mail folder sequence).name → ⊥)
      → MindsAll Of run own s
  quiet_minds run own s never none = record {
    public = λ mail folder sequence c. absurd (never mail folder c);
    private = λ mail folder sequence is c. elim c [ inl f ↦ absurd (never mail folder f) | inr f ↦ absurd (none mail folder sequence f.0 f.1) ];
    considerate = λ mail folder sequence is temp e. absurd (none mail folder sequence temp e);
  }

  pub look_minds : (run : ℕ) (own : List Deed) (s : Step) → IsLook s → MindsAll Of run own s
  look_minds run own s l =
      quiet_minds run own s (λ mail folder c. look_changes (Folder mail folder) s l c) (λ mail folder sequence temp e. subst (λ z. IsLook z) e l)

  pub make_minds : (run : ℕ) (own : List Deed) (q : Place) → MindsAll Of run own (step.MakeFolder q)
  make_minds run own q = quiet_minds run own (step.MakeFolder q) (λ mail folder c. c) (λ mail folder sequence temp e. cc (e))

  -- a step that commits nothing and is minded in its folder, whatever the sequence
  pub plain_minds : (run : ℕ) (own : List Deed) (s : Step) → ((k : Marking) (g : Knowing) → Changes k.folder s → Minds run k g own s) → ((mail folder sequence temp : List ℕ) → s ≡ step.Rename (Mail mail) temp (private_marks mail folder sequence).name → ⊥)
      → MindsAll Of run own s
  plain_minds run own s minds none = record {
    public = λ mail folder sequence c. minds (public_marks mail folder sequence) (by_base run (public_marks mail folder sequence)) c;
    private = λ mail folder sequence is c. elim c [
      | inl f ↦ minds (private_marks mail folder sequence) (by_text run (private_marks mail folder sequence)) f
      | inr f ↦ absurd (none mail folder sequence f.0 f.1)
    ];
    considerate = λ mail folder sequence is temp e. absurd (none mail folder sequence temp e);
  }

  pub create_minds : (run : ℕ) (own : List Deed) (q : Place) (temp bytes : List ℕ) → MindsAll Of run own (step.Create q temp bytes)
  create_minds run own q temp bytes =
      plain_minds run own (step.Create q temp bytes) (λ k g c. subst (λ z. Minds run k g own (step.Create z temp bytes)) c makes) (λ mail folder sequence other e. cc (e))

  pub clear_minds : (run : ℕ) (own : List Deed) (q : Place) (temp : List ℕ) → is_temp (kind_of temp) ≡ true → MindsAll Of run own (step.Unlink q temp)
  clear_minds run own q temp is =
      plain_minds run own (step.Unlink q temp) (λ k g c. subst (λ z. Minds run k g own (step.Unlink z temp)) c (clears is)) (λ mail folder sequence other e. cc (e))

  pub drop_minds : (run : ℕ) (own : List Deed) (q : Place) (held : List ℕ) → is_held (kind_of held) ≡ true → MindsAll Of run own (step.Unlink q held)
  drop_minds run own q held is =
      plain_minds run own (step.Unlink q held) (λ k g c. subst (λ z. Minds run k g own (step.Unlink z held)) c (lets_go is)) (λ mail folder sequence other e. cc (e))
