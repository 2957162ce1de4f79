use Rattle.std.proofs.Common.{refl}
use Rattle.file_plans.proofs.Following.{done, go, no_room, stop}
use Rattle.command_stages.proofs.Values.{value_off, value_on}
use Rattle.draft_contents.specs.Forwards.{folder_named, folder_word}
use Rattle.draft_contents.specs.Wants.{forward_given}
use Rattle.draft_contents.proofs.wants.forward.Goals as goal

pub returns-in_err-folder : goal.returns-in_err-folder
unfolding forward_given
returns-in_err-folder g c = value_off _ (folder_named (folder_word c.args.forwarding.now c.args.word.now)) _ _ c.in_err-folder.ensures c.from_residual.ensures

pub returns-in_err-specs : goal.returns-in_err-specs
returns-in_err-specs g c = no_room _ c.from_residual-in_err-specs.ensures refl

pub returns-in_err-messages : goal.returns-in_err-messages
unfolding forward_given
returns-in_err-messages g c =
    value_on _ (folder_named (folder_word c.args.forwarding.now c.args.word.now)) _ c.in_ok-folder.ensures
    (stop _ (rw c.in_ok-specs.ensures at c.in_err-messages.ensures) c.from_residual-in_err-messages.ensures)

pub returns : goal.returns
unfolding forward_given
returns g c =
    value_on _ (folder_named (folder_word c.args.forwarding.now c.args.word.now)) _ c.in_ok-folder.ensures
    (go _ (rw c.in_ok-specs.ensures at c.in_ok-messages.ensures) done)
