use Rattle.std.proofs.Common.{rules, sym, ap, subst, ◌∙◌}
use Rattle.folder_files.specs.Directory.{DirectoryMap}
use Rattle.folder_files.specs.Steps.{IsListing}
use Rattle.folder_files.specs.Worlds.{shown}
use Rattle.folder_room.proofs.Placing.{there_found, directories_found, directories_none}
use Rattle.folder_room.proofs.listing.list.Goals as goal

pub returns-in_ok-listing-in-Some : goal.returns-in_ok-listing-in-Some
unfolding shown
returns-in_ok-listing-in-Some c =
    let found = directories_found c.args.world.now.directories c.in-Some.index c.args.place.now c.index-directories-index.result (search rules) (search rules) in
    (there_found c.args.world.now.directories c.in-Some.index c.args.place.now (search rules) (search rules), subst (λ d. IsListing d c.in_ok-listing-in-Some.field-0) (sym (found ∙ search rules)) c.in_ok-listing-in-Some.ensures)

pub returns-in-None : goal.returns-in-None
unfolding shown
returns-in-None c = ap (λ (d : DirectoryMap). d.there) (directories_none c.args.world.now.directories c.args.place.now (search rules))
