use Rattle.std.proofs.Common.{◌≡◌, map}
use Rattle.folder_files.specs.Histories.{own}
use Rattle.step_discipline.specs.Seen.{seen_all}
use Rattle.step_discipline.proofs.deed.own_deeds.Given as goal

abbrev pub invariant-loop-event : goal.invariant-loop-event
invariant-loop-event l = seen_all l.deeds.items ≡ own l.fn.run (map (λ e. e.now) l.yielded)
