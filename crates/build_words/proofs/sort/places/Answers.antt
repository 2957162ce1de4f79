use Rattle.build_words.proofs.Places.{places_all, places_more}
use Rattle.build_words.proofs.sort.places.Goals as goal

pub loop-place-preserved : goal.loop-place-preserved
loop-place-preserved c = places_more _ _ _ _ _ _ _ c.loop-place-test.true c.word-item.is c.in_ok-push_place.ensures c.loop-place.invariant

pub returns : goal.returns
returns c = rw c.as_slice-word-items.ensures at (places_all _ _ _ _ _ c.loop-place-test.false c.loop-place.invariant)
