use Rattle.std.proofs.Common.{rules, sym, ap}
use Rattle.folder_files.specs.Directory.{DirectoryMap}
use Rattle.folder_files.specs.Worlds.{shown}
use Rattle.folder_room.proofs.Placing.{there_found, directories_none}
use Rattle.folder_room.proofs.disk.is_there.Goals as goal

pub returns-in-Some : goal.returns-in-Some
unfolding shown
returns-in-Some c = sym (there_found c.args.world.now.directories c.in-Some.field-0 c.args.place.now (search rules) (search rules))

pub returns-in-None : goal.returns-in-None
unfolding shown
returns-in-None c = sym (ap (λ (d : DirectoryMap). d.there) (directories_none c.args.world.now.directories c.args.place.now (search rules)))
