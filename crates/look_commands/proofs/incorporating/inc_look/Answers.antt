use Rattle.look_commands.proofs.Looked.{inc_ended, inc_named}
use Rattle.look_commands.proofs.incorporating.inc_look.Goals as goal
use Rattle.look_commands.specs.Asked.{inc_asked_of}

pub returns : goal.returns
returns c =
    rw c.folder-2.view_is
    (inc_named c.args.caller.now c.args.profile.now c.args.words c.in_ok-unseen.unseen c.in_ok-folder.folder c.in_ok-drop_path.field-0 c.in_ok-look.look c.in_ok-unseen.ensures c.in_ok-folder.ensures
    c.in_ok-drop_path.ensures (c.in_ok-look.ensures c.args.caller.now))

pub returns-in_err-look : goal.returns-in_err-look
returns-in_err-look c =
    inc_ended (inc_asked_of c.args.caller.now) c.args.caller.now c.args.profile.now c.args.words _ _ _ c.from_residual-in_err-look.result c.in_ok-unseen.ensures c.in_ok-folder.ensures (c.in_err-look.ensures c.args.caller.now) c.from_residual-in_err-look.ensures
