use Rattle.std.proofs.Common.{refl}
use Rattle.file_plans.proofs.Following.{go_from, stop_from, go, stop, no_room}
use Rattle.step_plans.proofs.Faulting.{stop_same}
use Rattle.step_plans.specs.ContextCommit.{committed}
use Rattle.step_plans.proofs.context.commit.Goals as goal

pub returns-in_err-ask_make_folder : goal.returns-in_err-ask_make_folder
unfolding committed
returns-in_err-ask_make_folder g c = stop_from _ stop_same (c.in_err-ask_make_folder.ensures _) c.from_residual.ensures

pub returns-in_err-lock : goal.returns-in_err-lock
unfolding committed
returns-in_err-lock g c = go_from _ _ (c.in_ok-ask_make_folder.ensures _) (stop _ (c.in_err-lock.ensures _) c.from_residual-in_err-lock.ensures)

pub returns-in_err-clear_temps : goal.returns-in_err-clear_temps
unfolding committed
returns-in_err-clear_temps g c = go_from _ _ (c.in_ok-ask_make_folder.ensures _) (go _ (c.in_ok-lock.ensures _) (stop _ (c.in_err-clear_temps.ensures _) c.from_residual-in_err-clear_temps.ensures))

pub returns-in_err-entries : goal.returns-in_err-entries
unfolding committed
returns-in_err-entries g c = go_from _ _ (c.in_ok-ask_make_folder.ensures _) (go _ (c.in_ok-lock.ensures _) (go _ (c.in_ok-clear_temps.ensures _) (stop _ (c.in_err-entries.ensures _) c.from_residual-in_err-entries.ensures)))

pub returns-in_err-change_all : goal.returns-in_err-change_all
unfolding committed
returns-in_err-change_all g c = go_from _ _ (c.in_ok-ask_make_folder.ensures _) (go _ (c.in_ok-lock.ensures _) (go _ (c.in_ok-clear_temps.ensures _) (go _ (c.in_ok-entries.ensures _) (no_room _ c.from_residual-in_err-change_all.ensures refl))))

pub returns-in_err-text : goal.returns-in_err-text
unfolding committed
returns-in_err-text g c = go_from _ _ (c.in_ok-ask_make_folder.ensures _) (go _ (c.in_ok-lock.ensures _) (go _ (c.in_ok-clear_temps.ensures _) (go _ (c.in_ok-entries.ensures _) (no_room _ c.from_residual-in_err-text.ensures refl))))

pub returns-in_err-replace_context : goal.returns-in_err-replace_context
unfolding committed
returns-in_err-replace_context g c = go_from _ _ (c.in_ok-ask_make_folder.ensures _) (go _ (c.in_ok-lock.ensures _) (go _ (c.in_ok-clear_temps.ensures _) (go _ (c.in_ok-entries.ensures _) (stop _ (rw (c.in_ok-text.ensures.text, c.in_ok-change_all.ensures) at c.in_err-replace_context.ensures) c.from_residual-in_err-replace_context.ensures))))

pub returns-in_err-let_go : goal.returns-in_err-let_go
unfolding committed
returns-in_err-let_go g c = go_from _ _ (c.in_ok-ask_make_folder.ensures _) (go _ (c.in_ok-lock.ensures _) (go _ (c.in_ok-clear_temps.ensures _) (go _ (c.in_ok-entries.ensures _) (go _ (rw (c.in_ok-text.ensures.text, c.in_ok-change_all.ensures) at c.in_ok-replace_context.ensures) (stop _ (c.in_err-let_go.ensures _) c.from_residual-in_err-let_go.ensures)))))

pub returns : goal.returns
unfolding committed
returns g c = go_from _ _ (c.in_ok-ask_make_folder.ensures _) (go _ (c.in_ok-lock.ensures _) (go _ (c.in_ok-clear_temps.ensures _) (go _ (c.in_ok-entries.ensures _) (go _ (rw (c.in_ok-text.ensures.text, c.in_ok-change_all.ensures) at c.in_ok-replace_context.ensures) (go _ (c.in_ok-let_go.ensures _) (rw c.in_ok-change_all.ensures at (c.know.ensures c.args.run (g.F.Files.state c.let_go.new.files))))))))
