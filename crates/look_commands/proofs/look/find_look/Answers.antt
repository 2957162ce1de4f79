use Rattle.std.proofs.Common.{FitsSigned, w64}
use Rattle.std.proofs.lemmas.Int.{to_z-of_z}
use Rattle.message_lines.specs.MessageText.{coded, sight_of}
use Rattle.look_commands.proofs.Looked.{look_stopped, look_unready}
use Rattle.look_commands.proofs.look.find_look.Goals as goal

pub returns-in_err-user : goal.returns-in_err-user
returns-in_err-user g c = λ h. look_unready (λ look. coded look.program (sight_of look)) c.args.run _ _ _ c.from_residual.ensures

pub returns-in_err-program : goal.returns-in_err-program
returns-in_err-program g c =
    λ h. look_stopped (λ look. coded look.program (sight_of look)) c.args.run _ _ _ _ c.from_residual-in_err-program.result (c.in_err-program.ensures h (record { width = c.args.said.width; moment = c.args.caller.now.clock.moment; user = c.args.caller.now.user })) c.from_residual-in_err-program.ensures

pub returns : goal.returns
returns g c =
    let fits : FitsSigned w64 c.moment.result = record { sfits = c.moment.type_inv } in
    λ h. rw (to_z-of_z w64 c.moment.result fits, c.moment.ensures, c.in_ok-user.ensures) (c.in_ok-program.ensures h (record { width = c.args.said.width; moment = c.args.caller.now.clock.moment; user = c.args.caller.now.user }))
