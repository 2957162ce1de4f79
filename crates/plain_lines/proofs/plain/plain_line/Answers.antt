use Rattle.plain_lines.specs.Trees.{format_of}
use Rattle.plain_lines.proofs.WhatFormatsDo.{line_done}
use Rattle.plain_lines.proofs.plain.plain_line.Goals as goal

pub returns : goal.returns
returns c =
    line_done c.args.view.now (format_of c.args.parts.now) c.args.width c.into_text.result c.new-state.result c.print_parts.new.state c.new-state.ensures
    c.in_ok-print_parts.ensures c.into_text.ensures.value
