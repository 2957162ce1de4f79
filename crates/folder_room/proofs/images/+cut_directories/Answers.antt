use Rattle.std.proofs.Common.{sym, subst, ◌∷◌, [], List}
use Rattle.std.proofs.lemmas.List.{nil_from_length}
use Rattle.folder_files.specs.Worlds.{directory_of, shown_directory}
use Rattle.folder_files.specs.declared.world.Directory.{Directory}
use Rattle.folder_room.specs.Closing.{asked_of}
use Rattle.folder_room.specs.Crashing.{asked_at, IsCutDirectory}
use Rattle.folder_room.proofs.Crashed.{nothing_cut, more_cut, asked_alike}
use Rattle.folder_room.proofs.images.+cut_directories.Goals as goal

pub returns-in-None : goal.returns-in-None
returns-in-None n c = λ p.
    subst (λ (ds : List Directory). IsCutDirectory (asked_at c.args.keeps.now p) (directory_of ds p) (directory_of c.new.result.items p)) (sym (nil_from_length c.args.directories.now c.in-None.ensures.cases))
    (subst (λ (ds : List Directory). IsCutDirectory (asked_at c.args.keeps.now p) (directory_of [] p) (directory_of ds p)) (sym c.new.ensures.items) (nothing_cut (asked_at c.args.keeps.now p)))

pub returns-in_ok-insert-in-Some : goal.returns-in_ok-insert-in-Some
returns-in_ok-insert-in-Some n c = λ p.
    subst (λ (ds : List Directory). IsCutDirectory (asked_at c.args.keeps.now p) (directory_of ds p) (directory_of c.insert.new.self.items p)) (sym c.in-Some.ensures.cases.0)
    (subst (λ (ds : List Directory). IsCutDirectory (asked_at c.args.keeps.now p) (directory_of (c.in-Some.directory.now ∷ c.in-Some.rest.now) p) (directory_of ds p)) (sym c.in_ok-insert-in-Some.ensures.items)
    (more_cut c.args.keeps.now c.in-Some.directory.now c.in_ok-first-in-Some.first c.in-Some.rest.now c.in_ok-cut-in-Some.cut.items p c.in_ok-first-in-Some.ensures.place
    (asked_alike (asked_of c.asked_for.result) (asked_at c.args.keeps.now c.in-Some.directory.now.place) (shown_directory c.in-Some.directory.now) (shown_directory c.in_ok-first-in-Some.first) c.asked_for.ensures c.in_ok-first-in-Some.ensures.image)
    (c.in_ok-cut-in-Some.ensures p)))
