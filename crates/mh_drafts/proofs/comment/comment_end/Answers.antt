use Rattle.std.proofs.Common.{get_or, refl, arith, sym, ◌∙◌, ◌+◌, drop}
use Rattle.std.specs.Prelude.{option_map}
use Rattle.mh_drafts.specs.Comments.{comment_end}
use Rattle.mh_drafts.proofs.Commenting.{comment_ends, comment_goes, comment_open, comment_starts}
use Rattle.mh_drafts.proofs.comment.comment_end.Goals as goal

pub returns-then-closes-clause-value : goal.returns-then-closes-clause-value
returns-then-closes-clause-value c =
    comment_ends c.args.text.now c.loop-i.depth c.loop-i.protected c.loop-i.i (get_or c.args.text.now c.loop-i.i 0) _ c.loop-i-test.true refl (sym c.closes.ensures ∙ c.if-closes.true) c.loop-i.invariant.ends

pub loop-i-init : goal.loop-i-init
loop-i-init c = record { ends = comment_starts _; inside = omega arith }

pub loop-i-preserved : goal.loop-i-preserved
loop-i-preserved c =
    let later = comment_goes c.args.text.now c.loop-i.depth c.loop-i.protected c.loop-i.i (get_or c.args.text.now c.loop-i.i 0) _ c.loop-i-test.true refl (sym c.closes.ensures ∙ c.if-closes.false) c.loop-i.invariant.ends in
    let le = c.depth_behind-depth.ensures.inside in
    let inv = c.loop-i.invariant.inside in
    record {
      ends = (λ k. option_map (λ n. n + (c.loop-i.i + 1)) (comment_end (c.depth_behind-depth.ensures.value k) (c.protects-protected.ensures k) (drop (c.loop-i.i + 1) c.args.text.now))) ∙ later;
      inside = omega arith;
    }

pub returns-clause-value : goal.returns-clause-value
returns-clause-value c = comment_open c.args.text.now c.loop-i.depth c.loop-i.protected c.loop-i.i _ c.loop-i-test.false c.loop-i.invariant.ends
