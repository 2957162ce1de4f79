use Rattle.std.proofs.Common.{drop}
use Rattle.mime_tree.specs.BoundaryLines.{lines}
use Rattle.mime_tree.specs.Pieces.{section, section_pieces}
use Rattle.mime_tree.specs.Spans.{text_at}
use Rattle.mime_tree.proofs.Sections.{Stands}
use Rattle.mime_tree.proofs.pieces.cut_sections.Given as goal

abbrev pub invariant-loop-i : goal.invariant-loop-i
invariant-loop-i l =
    Stands l.bytes l.fn.body.to l.boundary (section_pieces l.fn.body.from (section l.boundary l.fn.body.from (lines (text_at l.bytes l.fn.body)))) (drop l.i l.marks) l.pieces.items l.from l.begun l.own
