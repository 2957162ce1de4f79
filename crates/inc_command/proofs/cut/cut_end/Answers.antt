use Rattle.std.proofs.Common.{◌≡◌, ◌⊎◌, ℕ, inl, inr, Ok, refl}
use Rattle.file_plans.specs.Follows.{State, Follows}
use Rattle.file_plans.specs.declared.answers.DropCut.{DropCut}
use Rattle.file_plans.specs.declared.answers.DropCut.TheVariants as drop_cut
use Rattle.file_plans.proofs.Following.{done, refuses}
use Rattle.step_plans.specs.CommandFaults.{command_cause}
use Rattle.inc_plans.specs.Inc.{cut_by}
use Rattle.inc_command.proofs.cut.cut_end.Goals as goal

ends : (cut : DropCut) → (cut ≡ drop_cut.Done) ⊎ (cut ≡ drop_cut.Gone) → (run : ℕ) (x : State) → Follows run command_cause (cut_by cut) x x (Ok tt)
ends cut (inl e) run x = rw e done
ends cut (inr e) run x = rw e done

pub returns-in-Done : goal.returns-in-Done
returns-in-Done c = ends c.args.cut c.in-Done.is

pub returns-in-Grown : goal.returns-in-Grown
returns-in-Grown c = λ run x. rw c.in-Grown.is (refuses _ refl)
