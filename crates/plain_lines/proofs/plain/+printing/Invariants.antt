use Rattle.std.proofs.Common.{◌≡◌, drop}
use Rattle.plain_lines.specs.Doing.{done}
use Rattle.plain_lines.specs.Trees.{format_of}
use Rattle.plain_lines.proofs.plain.+printing.Given as goal

abbrev pub invariant-print_parts-loop-part : goal.invariant-print_parts-loop-part
invariant-print_parts-loop-part l = done l.view (format_of (drop l.part-index l.parts)) l.state ≡ done l.view (format_of l.initial.parts) l.initial.state
