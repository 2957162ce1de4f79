use Rattle.std.proofs.Common.{rules, ◌∙◌, sym, ap, ◌∷◌, ◌++◌, []}
use Rattle.std.proofs.lemmas.Iterator.{YieldsList-from_chars}
use Rattle.std.proofs.lemmas.Iterator.Consumers.{YieldsList-end}
use Rattle.folder_files.specs.Places.{is_parent}
use Rattle.folder_files.specs.declared.place.Place.TheVariants as place
use Rattle.folder_room.proofs.Above.{among_more, none_above, map_self}
use Rattle.folder_room.proofs.parents.folders_above.Goals as goal

pub loop-c-init : goal.loop-c-init
loop-c-init c = record { word = search rules; among = λ p. none_above c.args.path.now c.new-above.result.items p (search rules) }

pub loop-c-preserved : goal.loop-c-preserved
loop-c-preserved c = record {
  word = (search rules) ∙ ap (λ w. w ++ c.in-Some.c ∷ []) c.loop-c.invariant.word;
  among = λ p. among_more p c.args.path.now c.loop-c.yielded c.in-Some.c c.loop-c.above.items c.push_above.new.above.items (c.loop-c.invariant.among p) (c.in_ok-push_above.ensures c.loop-c.yielded c.loop-c.invariant.word p);
}

pub returns : goal.returns
returns c =
    let t = YieldsList-end (YieldsList-from_chars c.as_str.result.now c.as_str.utf8 (cc)) c.loop-c.yielded _ c.loop-c.yielded_by _ _ c.in-None.is c.next.ensures.steps in
    λ p. c.loop-c.invariant.among p ∙ ap (λ n. is_parent p (place.Folder c.args.path.now n)) (sym (map_self c.loop-c.yielded) ∙ t.0 ∙ c.as_str.ensures.chars ∙ c.text.ensures.value)
