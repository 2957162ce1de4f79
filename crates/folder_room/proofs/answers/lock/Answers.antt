use Rattle.std.proofs.Common.{rules, true, false, ◌≡◌, subst}
use Rattle.folder_files.specs.Worlds.{shown, holds_of}
use Rattle.folder_room.proofs.answers.lock.Goals as goal

pub returns-then-is_busy-clause-fits : goal.returns-then-is_busy-clause-fits
unfolding shown
returns-then-is_busy-clause-fits c =
    let other = c.if-is_busy.ensures in
    (search rules, (other.0, other.1, subst (λ l. holds_of l c.args.place.now other.0 ≡ true) (search rules) other.2))

pub returns-else-is_busy-clause-honest : goal.returns-else-is_busy-clause-honest
unfolding shown
returns-else-is_busy-clause-honest c = λ other n. subst (λ l. holds_of l c.args.place.now other ≡ false) (search rules) (c.if-is_busy.ensures other n)
