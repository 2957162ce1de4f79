-- The lines of a folder's messages, as the code has them.
use Rattle.msg_ranges.specs.Selection.{marks_of}
use Rattle.message_lines.specs.MessageText.{coded, sight_of, Writing}
use Rattle.mh_looks.specs.Scan.{written_by}
use Rattle.mh_looks.specs.declared.lines.Lines.{Lines}

abbrev pub lined : Lines → Writing
lined l = written_by (coded l.look.now.program (sight_of l.look.now)) (marks_of l.unseen.now.sequences) l.unseen.now.names
