use Rattle.std.proofs.Common.{◌≡◌, ◌+◌, ◌<◌, length, take, sym, ap, ◌∙◌, arith}
use Rattle.pick_expr.specs.Finishing.{is_match}
use Rattle.pick_expr.specs.Lines.{without_return}
use Rattle.pick_expr.proofs.BodyLines.{end_line, feed_at, found_line, more_lines, no_line}
use Rattle.pick_expr.proofs.lines.matches_line.Goals as goal

pub returns-then-len-rest : goal.returns-then-len-rest
returns-then-len-rest c =
    end_line (is_match c.args.pattern.now) c.args.body.now c.loop-at.at c.split_at.result.1.now c.matches.result c.loop-at.invariant c.loop-at-test.true
    c.split_at.ensures.back (sym c.line_len-len.ensures.value ∙ c.if-len-rest.true) c.matches.ensures.value

pub returns-then-matches : goal.returns-then-matches
returns-then-matches c =
    let less : feed_at c.split_at.result.1.now < length c.split_at.result.1.now = omega (arith, c.line_len-len.ensures.value, c.line_len-len.ensures.inside, c.if-len-rest.false) in
    let line_is : c.without_return.result.now ≡ without_return (take (feed_at c.split_at.result.1.now) c.split_at.result.1.now) =
    c.without_return.ensures ∙ ap without_return (c.split_at-in-loop-at.ensures.front ∙ ap (λ n. take n c.split_at.result.1.now) c.line_len-len.ensures.value) in
    found_line (is_match c.args.pattern.now) c.args.body.now c.loop-at.at c.split_at.result.1.now c.loop-at.invariant c.split_at.ensures.back less
    (ap (is_match c.args.pattern.now) (sym line_is) ∙ sym c.matches-in-loop-at.ensures.value ∙ c.if-matches.true)

pub loop-at-preserved : goal.loop-at-preserved
loop-at-preserved c =
    let less : feed_at c.split_at.result.1.now < length c.split_at.result.1.now = omega (arith, c.line_len-len.ensures.value, c.line_len-len.ensures.inside, c.if-len-rest.false) in
    let line_is : c.without_return.result.now ≡ without_return (take (feed_at c.split_at.result.1.now) c.split_at.result.1.now) =
    c.without_return.ensures ∙ ap without_return (c.split_at-in-loop-at.ensures.front ∙ ap (λ n. take n c.split_at.result.1.now) c.line_len-len.ensures.value) in
    more_lines (is_match c.args.pattern.now) c.args.body.now c.loop-at.at (c.loop-at.at + (c.line_len-len.result + 1)) c.split_at.result.1.now c.loop-at.invariant c.split_at.ensures.back less
    (ap (is_match c.args.pattern.now) (sym line_is) ∙ sym c.matches-in-loop-at.ensures.value ∙ c.if-matches.false) (omega (arith, c.line_len-len.ensures.value))

pub returns : goal.returns
returns c = no_line (is_match c.args.pattern.now) c.args.body.now c.loop-at.at c.loop-at.invariant c.loop-at-test.false
