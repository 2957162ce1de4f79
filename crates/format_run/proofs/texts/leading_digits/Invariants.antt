use Rattle.std.proofs.Common.{◌≡◌, ◌≤◌, drop, min}
use Rattle.format_run.specs.Texts.{number_behind}
use Rattle.format_run.proofs.texts.leading_digits.Given as goal

abbrev pub invariant-loop-c : goal.invariant-loop-c
invariant-loop-c l =
    (l.n ≤ 9223372036854775807) × (min (number_behind l.n (drop l.c-index l.text)) 9223372036854775807 ≡ min (number_behind 0 l.text) 9223372036854775807)
