-- Pledged steps mind marks.
use Rattle.std.proofs.Common.{◌≡◌, ◌⊎◌, inl, inr, ℕ, List, [], ◌∷◌, sym, subst}
use Rattle.folder_files.specs.Careful.{IsLook}
use Rattle.folder_files.specs.Deeds.{Deed}
use Rattle.folder_files.specs.Histories.{own, Changes}
use Rattle.folder_files.specs.declared.event.Event.{Event}
use Rattle.folder_files.specs.declared.event.Event.TheVariants.{Act, Deliver, Crash, End}
use Rattle.folder_files.specs.declared.step.Step.{Step}
use Rattle.folder_files.specs.declared.step.Step.TheVariants.{Rename}
use Rattle.step_plans.specs.Pledges.{Pledge, IsMarked}
use Rattle.step_plans.specs.Safety.{StepsAsPledged}
use Rattle.step_plans.proofs.KeptPledges.{look_changes, by_whom}
use Rattle.marks_law.specs.Always.{AreMindful}
use Rattle.marks_law.specs.Apart.{AreMindfulApart, by_text}
use Rattle.marks_law.specs.Bearers.{Marking}
use Rattle.marks_law.specs.Minding.{Knowing, Minds, keeps, by_base}
use Rattle.marks_law.specs.Pledging.{CommitsText, MindsMarks, MindsMarksApart, OthersAreMindful, OthersAreMindfulApart}

-- a commit of a text that marks what its base marks
pub pledged_minds : (w : Pledge) (k : Marking) (g : Knowing) (temp : List ℕ) (own : List Deed) → (m : IsMarked w k.place temp k.name own) → ((n : ℕ) → k.says m.new n ≡ k.says m.old n)
    → Minds w.run k g own (Rename k.place temp k.name)
pledged_minds w k g temp own m same = keeps (m.old, m.new, m.is_base, m.created, same)

commit_no_look : (k : Marking) (s : Step) → CommitsText k s → IsLook s → ⊥
commit_no_look k s c l = subst (λ z. IsLook z) c.1 l

change_no_look : (k : Marking) (s : Step) → Changes k.folder s ⊎ CommitsText k s → IsLook s → ⊥
change_no_look k s (inl c) l = look_changes k.folder s l c
change_no_look k s (inr c) l = commit_no_look k s c l

-- where the others mind the marks, and the call goes as a pledge that does, all mind them
pub all_mindful : (w : Pledge) (k : Marking) → MindsMarks w k → (past : List Event) → OthersAreMindful w.run k past → StepsAsPledged w past → AreMindful k past
all_mindful w k minds [] o f = tt
all_mindful w k minds (Act r s a m ∷ past) o f = (
  by_whom r w.run (Changes k.folder s → Minds r k (by_base r k) (own r past) s)
      (λ is c. subst (λ z. Minds z k (by_base z k) (own r past) s) (sym is) (minds (own r past) s (f.0 is (λ l. look_changes k.folder s l c)) c))
      (λ other. o.0 other),
  all_mindful w k minds past o.1 f.1,
)
all_mindful w k minds (Deliver path piece ∷ past) o f = all_mindful w k minds past o f
all_mindful w k minds (Crash v ∷ past) o f = all_mindful w k minds past o f
all_mindful w k minds (End r ∷ past) o f = all_mindful w k minds past o f

pub all_mindful_apart : (w : Pledge) (k : Marking) → MindsMarksApart w k → (past : List Event) → OthersAreMindfulApart w.run k past → StepsAsPledged w past → AreMindfulApart k past
all_mindful_apart w k minds [] o f = tt
all_mindful_apart w k minds (Act r s a m ∷ past) o f = (
  by_whom r w.run (Changes k.folder s ⊎ CommitsText k s → Minds r k (by_text r k) (own r past) s)
      (λ is c. subst (λ z. Minds z k (by_text z k) (own r past) s) (sym is) (minds (own r past) s (f.0 is (change_no_look k s c)) c))
      (λ other. o.0 other),
  all_mindful_apart w k minds past o.1 f.1,
)
all_mindful_apart w k minds (Deliver path piece ∷ past) o f = all_mindful_apart w k minds past o f
all_mindful_apart w k minds (Crash v ∷ past) o f = all_mindful_apart w k minds past o f
all_mindful_apart w k minds (End r ∷ past) o f = all_mindful_apart w k minds past o f
