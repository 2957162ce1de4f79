use Rattle.std.proofs.Common.{length, refl}
use Rattle.std.specs.Str.{chars}
use Rattle.std.proofs.lemmas.Option.{slice_get_read}
use Rattle.mh_words.specs.Switches.{IsAt}
use Rattle.mh_words.proofs.Lookups.{none_more, longer_more, unlike_more, found_all, begins_itself_at}
use Rattle.mh_words.proofs.lookup.find_switch.Goals as goal
use Rattle.mh_words.proofs.lookup.find_switch.Goals.{in-Longer, in-Unlike}

pub loop-index-preserved : goal.loop-index-preserved
loop-index-preserved c =
    let switches = c.as_slice-switch-items.result.now in
    let text = chars c.args.text.now in
    let at : IsAt switches c.loop-index.index c.switch-item.result = slice_get_read switches (length switches) c.loop-index.index c.switch-item.result refl c.loop-index-test.true c.switch-item.is in
    elim c.match-likeness_of.branch [
      | in-Longer w ↦
          let likeness = rw c.as_str.ensures.chars at w.in-Longer.ensures in
          record {
            none = none_more switches text c.loop-index.index c.switch-item.result c.loop-index.invariant.none at likeness.1;
            so_far = rw (w.found-is, w.with_one_more-found.ensures) (longer_more switches text c.loop-index.index c.switch-item.result c.loop-index.found c.loop-index.invariant.so_far at likeness.0);
          }
      | in-Unlike w ↦
          let likeness = rw c.as_str.ensures.chars at w.in-Unlike.ensures in
          record {
            none = none_more switches text c.loop-index.index c.switch-item.result c.loop-index.invariant.none at (λ e. likeness (begins_itself_at c.switch-item.result.name text e));
            so_far = rw w.found-is (unlike_more switches text c.loop-index.index c.switch-item.result c.loop-index.found c.loop-index.invariant.so_far at likeness);
          }
    ]

pub returns : goal.returns
returns c =
    rw (← c.as_slice-switch-items.ensures)
    (found_all c.as_slice-switch-items.result.now (chars c.args.text.now) c.loop-index.index c.loop-index.found c.loop-index-test.false c.loop-index.invariant.none c.loop-index.invariant.so_far)
