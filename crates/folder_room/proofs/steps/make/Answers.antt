use Rattle.std.proofs.Common.{◌∙◌, ap, sym}
use Rattle.folder_files.specs.Steps.{made}
use Rattle.folder_files.specs.Worlds.{shown}
use Rattle.folder_room.proofs.Looking.{list_made, read_made, read_file_made, read_drop_made}
use Rattle.folder_room.proofs.steps.make.Goals as goal

pub returns-in-List-clause-ok : goal.returns-in-List-clause-ok
returns-in-List-clause-ok c = list_made (shown c.args.world.now) c.args.run _ ∙ ap (made (shown c.args.world.now) c.args.run) (sym c.in-List.is)

pub returns-in-Read-clause-ok : goal.returns-in-Read-clause-ok
returns-in-Read-clause-ok c = read_made (shown c.args.world.now) c.args.run _ _ _ ∙ ap (made (shown c.args.world.now) c.args.run) (sym c.in-Read.is)

pub returns-in-ReadFile-clause-ok : goal.returns-in-ReadFile-clause-ok
returns-in-ReadFile-clause-ok c = read_file_made (shown c.args.world.now) c.args.run _ _ ∙ ap (made (shown c.args.world.now) c.args.run) (sym c.in-ReadFile.is)

pub returns-in-ReadDrop-clause-ok : goal.returns-in-ReadDrop-clause-ok
returns-in-ReadDrop-clause-ok c = read_drop_made (shown c.args.world.now) c.args.run _ _ _ ∙ ap (made (shown c.args.world.now) c.args.run) (sym c.in-ReadDrop.is)
