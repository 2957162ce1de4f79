use Rattle.look_commands.proofs.Looked.{scan_ended, scan_looked}
use Rattle.look_commands.proofs.scanning.scan_look.Goals as goal
use Rattle.look_commands.specs.Asked.{asked_of}

pub returns : goal.returns
returns c = rw c.in_ok-words.ensures (scan_looked c.args.caller.now c.in_ok-words.words c.in_ok-look.look (c.in_ok-look.ensures c.args.caller.now))

pub returns-in_err-look : goal.returns-in_err-look
returns-in_err-look c =
    scan_ended (asked_of c.args.caller.now) c.args.caller.now c.in_ok-words.words _ _ c.from_residual-in_err-look.result c.in_ok-words.ensures (c.in_err-look.ensures c.args.caller.now) c.from_residual-in_err-look.ensures
