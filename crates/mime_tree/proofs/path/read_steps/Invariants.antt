use Rattle.std.proofs.Common.{◌≡◌, ◌-◌, ◌++◌}
use Rattle.std.specs.Prelude.{option_map}
use Rattle.mime_tree.specs.Paths.{path_up_to}
use Rattle.mime_tree.proofs.path.read_steps.Given as goal

abbrev pub invariant-loop-i : goal.invariant-loop-i
invariant-loop-i l = option_map (λ ns. l.numbers ++ ns) (path_up_to (64 - l._i) l.rest) ≡ path_up_to 64 l.text
