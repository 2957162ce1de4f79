use Rattle.std.proofs.Common.{◌≡◌, ◌∙◌, ◌-◌, ap, subst, sym, nat_lt, take}
use Rattle.std.specs.Prelude.{◌||◌}
use Rattle.std.specs.List.{prefix_len}
use Rattle.mh_sequences.specs.Counts.{AreEnds}
use Rattle.mh_sequences.specs.Edits.{added}
use Rattle.mh_sequences.specs.Runs.{has, inside}
use Rattle.mh_sequences.proofs.Adding.{added_has, added_front}
use Rattle.mh_sequences.proofs.Ends.{cut}
use Rattle.mh_sequences.proofs.num_set.NumSet.insert_run.Goals as goal

pub invariant_of-self : goal.invariant_of-self
invariant_of-self c =
    let same : take c.before-2.result c.add.new.runs.runs ≡ take c.before-2.result c.self.inside.runs.runs = ap (λ v. take c.before-2.result v.runs) c.in_err-add.ensures.err in (
      c.in_err-add.ensures.valid,
      subst (λ es. AreEnds 0 es c.add.new.runs.runs) (sym c.forget_from.ensures) (cut 0 c.self.inside.counts.ends.items c.self.inside.runs.runs c.add.new.runs.runs c.before-2.result c.self.invariant.1 same),
    )

pub count_on-requires-clause-ends : goal.count_on-requires-clause-ends
count_on-requires-clause-ends c =
    let old = c.self.inside.runs.runs in
    let start : c.before-2.result ≡ prefix_len (λ r. nat_lt r.to (c.args.run.from - 1)) old = rw (← c.as_slice.ensures, ← c.ends-from.ensures.value.0) c.before-2.ensures.value in
    let same : take c.before-2.result c.as_slice-2.result.now ≡ take c.before-2.result old =
    ap (take c.before-2.result) (c.as_slice-2.ensures ∙ c.in_ok-add.ensures.ok)
    ∙ (λ i. take (start i) (added c.args.run old))
    ∙ added_front c.args.run old
    ∙ (λ i. take (sym start i) old) in
    subst (λ es. AreEnds 0 es c.as_slice-2.result.now) (sym c.forget_from.ensures) (cut 0 c.self.inside.counts.ends.items old c.as_slice-2.result.now c.before-2.result c.self.invariant.1 same)

pub returns-clause-ok : goal.returns-clause-ok
returns-clause-ok c = λ n.
    ap (λ rs. has rs n) c.in_ok-add.ensures.ok
    ∙ added_has 1 c.args.run c.self.inside.runs.runs c.requires c.self.invariant.0 n
    ∙ ap (λ v. inside c.args.run n || has v.runs n) c.self.view_is
