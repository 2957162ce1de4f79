use Rattle.std.proofs.Common.{◌≡◌, ◌∙◌, ap, subst, sym, nat_lt, take}
use Rattle.std.specs.Prelude.{◌&&◌, ◌==◌, not}
use Rattle.std.specs.List.{prefix_len}
use Rattle.mh_sequences.specs.Counts.{AreEnds}
use Rattle.mh_sequences.specs.Edits.{removed}
use Rattle.mh_sequences.specs.Runs.{has}
use Rattle.mh_sequences.proofs.Ends.{cut}
use Rattle.mh_sequences.proofs.Removing.{removed_has, removed_front}
use Rattle.mh_sequences.proofs.num_set.NumSet.remove.Goals as goal

pub invariant_of-self : goal.invariant_of-self
invariant_of-self c =
    let same : take c.before-2.result c.take_out.new.runs.runs ≡ take c.before-2.result c.self.inside.runs.runs = ap (λ v. take c.before-2.result v.runs) c.in_err-take_out.ensures.err in (
      c.in_err-take_out.ensures.valid,
      subst (λ es. AreEnds 0 es c.take_out.new.runs.runs) (sym c.forget_from.ensures) (cut 0 c.self.inside.counts.ends.items c.self.inside.runs.runs c.take_out.new.runs.runs c.before-2.result c.self.invariant.1 same),
    )

pub count_on-requires-clause-ends : goal.count_on-requires-clause-ends
count_on-requires-clause-ends c =
    let old = c.self.inside.runs.runs in
    let start : c.before-2.result ≡ prefix_len (λ r. nat_lt r.to c.args.n) old = rw (← c.as_slice.ensures, ← c.get.ensures.value) c.before-2.ensures.value in
    let same : take c.before-2.result c.as_slice-2.result.now ≡ take c.before-2.result old =
    ap (take c.before-2.result) (c.as_slice-2.ensures ∙ c.in_ok-take_out.ensures.ok ∙ ap (λ k. removed k old) c.get-2.ensures.value)
    ∙ (λ i. take (start i) (removed c.args.n old))
    ∙ removed_front c.args.n old
    ∙ (λ i. take (sym start i) old) in
    subst (λ es. AreEnds 0 es c.as_slice-2.result.now) (sym c.forget_from.ensures) (cut 0 c.self.inside.counts.ends.items old c.as_slice-2.result.now c.before-2.result c.self.invariant.1 same)

pub returns-clause-ok : goal.returns-clause-ok
returns-clause-ok c = λ m.
    ap (λ rs. has rs m) c.in_ok-take_out.ensures.ok
    ∙ ap (λ k. has (removed k c.self.inside.runs.runs) m) c.get-2.ensures.value
    ∙ removed_has 1 c.self.inside.runs.runs c.self.invariant.0 c.args.n m
    ∙ ap (λ v. has v.runs m && not (m == c.args.n)) c.self.view_is
