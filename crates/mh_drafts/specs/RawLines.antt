-- What the code's lines show.
use Rattle.mh_drafts.specs.declared.line.Line.{Line}
use Rattle.mh_drafts.specs.declared.line.Line.TheVariants.{Text, Order}
use Rattle.mh_drafts.specs.Directives.{directive_in}
use Rattle.mh_drafts.specs.Marks.{Mark, plain, order}

abbrev pub line_mark : Line → Mark
line_mark (Text line) = plain line.now
line_mark (Order rest) = order (directive_in rest.now)
