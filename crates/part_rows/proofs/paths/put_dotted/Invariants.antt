use Rattle.std.proofs.Common.{◌≡◌, ◌++◌, take}
use Rattle.part_rows.specs.PathTexts.{dotted}
use Rattle.part_rows.proofs.paths.put_dotted.Given as goal

abbrev pub invariant-loop-number : goal.invariant-loop-number
invariant-loop-number l = l.text ≡ l.initial.text ++ dotted (take l.number-index l.numbers)
