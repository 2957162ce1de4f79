use Rattle.std.proofs.Common.{rules, sym, ap}
use Rattle.folder_files.specs.Steps.{cut_answer}
use Rattle.folder_room.proofs.Outsides.{cut_done, cut_grown}
use Rattle.folder_room.proofs.answers.cut_drop.Goals as goal

pub returns-then-len-length : goal.returns-then-len-length
returns-then-len-length c = cut_done c.args.length c.in-Some.bytes.now _ c.in-Some.ensures (search rules)

pub returns-else-len-length : goal.returns-else-len-length
returns-else-len-length c = cut_grown c.args.length c.in-Some.bytes.now _ c.in-Some.ensures (search rules)

pub returns-in-None : goal.returns-in-None
returns-in-None c = sym (ap (cut_answer c.args.length) c.in-None.ensures)
