use Rattle.std.proofs.Common.{◌≡◌, ◌≤◌, ◌-◌, []}
use Rattle.mbox_drop.specs.Cutting.{HasTaken}
use Rattle.file_plans.specs.Follows.{by_out}
use Rattle.inc_plans.specs.DropTaken.{where_of}
use Rattle.inc_plans.specs.Targets.{told_by}
use Rattle.inc_plans.proofs.Rest.{IsOn}
use Rattle.inc_command.proofs.drop.take_rest.Given as goal

abbrev pub invariant-loop-at : goal.invariant-loop-at
invariant-loop-at g l =
    (l.taken.highest ≤ 999999) × (l.hand.run ≡ l.fn.hand.run) × (l.hand.mail ≡ l.fn.hand.mail)
    × (HasTaken l.fn.cutter []
    → IsOn (where_of l.fn.hand.run l.target.folder.now l.target.place.now (told_by l.target)) l.path l.length l.length (record { bytes = []; taken = l.fn.first }) (by_out l.fn.hand.kept (g.F.Files.state l.fn.files) (g.O.Sink.state l.fn.out)) (by_out l.hand.kept (g.F.Files.state l.files) (g.O.Sink.state l.out)) l.cutter l.taken l.at)

abbrev pub decreases-loop-at : goal.decreases-loop-at
decreases-loop-at g l = l.length - l.at
