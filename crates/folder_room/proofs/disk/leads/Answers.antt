use Rattle.std.proofs.Common.{rules, sym, ◌∙◌, ap}
use Rattle.folder_files.specs.Directory.{DirectoryMap, now_in}
use Rattle.folder_files.specs.Worlds.{shown}
use Rattle.folder_room.proofs.Placing.{directories_found, directories_none}
use Rattle.folder_room.proofs.disk.leads.Goals as goal

pub returns-in-Some : goal.returns-in-Some
unfolding shown
returns-in-Some c =
    let found = directories_found c.args.world.now.directories c.in-Some.index c.args.place.now c.index-directories-index.result (search rules) (search rules) in
    sym (ap (λ (d : DirectoryMap). now_in d c.args.name.now) found ∙ search rules)

pub returns-in-None : goal.returns-in-None
unfolding shown
returns-in-None c =
    let none_found = directories_none c.args.world.now.directories c.args.place.now (search rules) in
    sym (ap (λ (d : DirectoryMap). now_in d c.args.name.now) none_found)
