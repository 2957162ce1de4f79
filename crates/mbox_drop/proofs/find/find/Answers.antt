use Rattle.std.proofs.Common.{◌≡◌, ◌≤◌, ℕ, ◌+◌, ◌⊎◌, inl, inr, drop, sym, ap, ◌∙◌, arith}
use Rattle.mbox_drop.specs.Finding.{found_by}
use Rattle.mbox_drop.specs.declared.place.DropState.{DropState}
use Rattle.mbox_drop.specs.declared.place.Turn.{Turn}
use Rattle.mbox_drop.specs.declared.place.Turn.TheVariants.{Joins, Passes}
use Rattle.mbox_drop.specs.declared.find.Found.TheVariants.{Cut, End}
use Rattle.mbox_drop.proofs.Finds.{find_step, found-cut, found-all}
use Rattle.mbox_drop.proofs.Leaps.{found_leap}
use Rattle.mbox_drop.proofs.find.find.Goals as goal
use Rattle.mbox_drop.proofs.find.find.Goals.{in-Empties, in-Joins, in-Joins-2}

pub bytes-init : goal.bytes-init
bytes-init c = record {
  inside = c.leap-i.ensures.plain.high;
  within = omega (arith, c.requires.before);
  search = found_leap c.args.base c.args.body 0 c.leap-i.result c.args.from c.args.bytes.now c.leap-i.ensures.plain;
}

pub returns-in-Begins-clause-value : goal.returns-in-Begins-clause-value
returns-in-Begins-clause-value c =
    sym (found-cut c.args.base c.bytes.before (c.bytes.i + 1) (c.bytes.i + 1) (drop (c.bytes.i + 1) c.args.bytes.now))
    ∙ find_step c.args.base c.bytes.place c.bytes.before c.bytes.i c.args.bytes.now c.turn.result (Cut c.bytes.before (c.bytes.i + 1)) _ c.bytes-test.true c.turn.ensures
    (ap (λ t. found_by c.args.base c.bytes.before c.bytes.i t) c.in-Begins.is) c.bytes.invariant.search

joins : (base before i : ℕ) (t : Turn) (p : DropState) → (t ≡ Joins p) ⊎ (t ≡ Passes p) → found_by base before i t ≡ End p before
joins base before i t p (inl e) = ap (λ x. found_by base before i x) e
joins base before i t p (inr e) = ap (λ x. found_by base before i x) e

pub bytes-preserved : goal.bytes-preserved
bytes-preserved c =
    let low : c.bytes.i + 1 ≤ c.leap-i-in-bytes.result = c.leap-i-in-bytes.ensures.plain.low in
    record {
      inside = c.leap-i-in-bytes.ensures.plain.high;
      within = elim c.match-turn.branch [ in-Empties w ↦ omega (arith, low) | in-Joins w ↦ omega (arith, low, c.bytes.invariant.within) | in-Joins-2 w ↦ omega (arith, low, c.bytes.invariant.within) ];
      search = found_leap c.args.base c.match-turn.before (c.bytes.i + 1) c.leap-i-in-bytes.result c.match-turn.place c.args.bytes.now c.leap-i-in-bytes.ensures.plain
          ∙ find_step c.args.base c.bytes.place c.bytes.before c.bytes.i c.args.bytes.now c.turn.result (End c.match-turn.place c.match-turn.before) _ c.bytes-test.true c.turn.ensures
          (elim c.match-turn.branch [
            | in-Empties w ↦ ap (λ t. found_by c.args.base c.bytes.before c.bytes.i t) w.in-Empties.is ∙ (cc)
            | in-Joins w ↦ joins c.args.base c.bytes.before c.bytes.i c.turn.result w.in-Joins.next w.in-Joins.is ∙ (cc)
            | in-Joins-2 w ↦ joins c.args.base c.bytes.before c.bytes.i c.turn.result w.in-Joins.next w.in-Joins.is ∙ (cc)
          ])
          c.bytes.invariant.search;
    }

pub returns-clause-value : goal.returns-clause-value
returns-clause-value c =
    sym (found-all c.args.base (End c.bytes.place c.bytes.before) c.bytes.i c.args.bytes.now c.bytes-test.false) ∙ c.bytes.invariant.search
