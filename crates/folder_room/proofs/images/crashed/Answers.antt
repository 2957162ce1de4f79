use Rattle.std.proofs.Common.{◌≡◌, List, rules, subst}
use Rattle.folder_room.specs.Crashing.{IsCutDirectory, asked_at}
use Rattle.folder_room.specs.Played.{has_acted_or_is}
use Rattle.folder_files.specs.Histories.{past_of}
use Rattle.folder_files.specs.Worlds.{directory_of}
use Rattle.folder_files.specs.declared.world.Directory.{Directory}
use Rattle.folder_room.specs.declared.script.Keep.{Keep}
use Rattle.folder_room.proofs.Crashed.{world_crashed}
use Rattle.folder_room.proofs.images.crashed.Goals as goal

pub returns : goal.returns
returns c = world_crashed c.args.keeps.now c.args.fill (has_acted_or_is c.args.run (past_of c.args.history.now)) c.args.world.now (record { directories = c.from_vec.result; files = c.in_ok-all_filled.field-0; drops = c.in_ok-duplicate.field-0; locks = c.new.result; ended = c.in_ok-all_ended.field-0 })
    (λ p. let olds : c.as_slice.result.now ≡ c.args.world.now.directories = search rules in let keeps : c.as_slice-2.result.now ≡ c.args.keeps.now = search rules in let news : c.in_ok-directories.directories.items ≡ c.from_vec.result = search rules in
    subst (λ (ds : List Directory). IsCutDirectory (asked_at c.args.keeps.now p) (directory_of c.args.world.now.directories p) (directory_of ds p)) news
    (subst (λ (ds : List Directory). IsCutDirectory (asked_at c.args.keeps.now p) (directory_of ds p) (directory_of c.in_ok-directories.directories.items p)) olds
    (subst (λ (ks : List Keep). IsCutDirectory (asked_at ks p) (directory_of c.as_slice.result.now p) (directory_of c.in_ok-directories.directories.items p)) keeps (c.in_ok-directories.ensures p)))) (search rules) (search rules) (search rules) c.in_ok-all_ended.ensures
