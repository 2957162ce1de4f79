use Rattle.std.proofs.Common.{rules, ◌≡◌}
use Rattle.command_stages.specs.Current.{current_change}
use Rattle.command_stages.proofs.FolderLines.{current_valid}
use Rattle.command_stages.proofs.current.current_change.Goals as goal

pub returns-clause-valid : goal.returns-clause-valid
returns-clause-valid c =
    let same : c.push.new.self ≡ current_change c.args.folder.now = search rules in
    rw same (current_valid c.args.folder.now (rw c.text.ensures.value at c.text.ensures.valid))
