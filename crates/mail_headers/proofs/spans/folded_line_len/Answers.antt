use Rattle.std.proofs.Common.{◌+◌, arith}
use Rattle.mail_headers.specs.Lines.{folded_len}
use Rattle.mail_headers.proofs.Folding.{feed_found, ends_here, goes_on, no_more, none_left, some_more}
use Rattle.mail_headers.proofs.spans.folded_line_len.Goals as goal

pub returns-then-not-continues-clause-value : goal.returns-then-not-continues-clause-value
returns-then-not-continues-clause-value c =
    let h = c.in-Some.ensures in
    let feed = feed_found c.args.bytes.now c.loop-count.from c.in-Some.count (folded_len c.args.bytes.now) c.loop-count.invariant.0 h.0.high h.0.before h.1 c.loop-count.invariant.1 in
    ends_here c.args.bytes.now (c.loop-count.from + c.in-Some.count) 10 _ feed.inside feed.is feed.left
    (no_more c.args.bytes.now (c.loop-count.from + c.in-Some.count + 1) c.continues.result c.continues.ensures c.if-not-continues.true)

pub loop-count-preserved : goal.loop-count-preserved
loop-count-preserved c =
    let h = c.in-Some.ensures in
    let feed = feed_found c.args.bytes.now c.loop-count.from c.in-Some.count (folded_len c.args.bytes.now) c.loop-count.invariant.0 h.0.high h.0.before h.1 c.loop-count.invariant.1 in
    let inside = feed.inside in (
      omega arith,
      goes_on c.args.bytes.now (c.loop-count.from + c.in-Some.count) 10 _ feed.inside feed.is feed.left
          (some_more c.args.bytes.now (c.loop-count.from + c.in-Some.count + 1) c.continues.result c.continues.ensures c.if-not-continues.false),
    )

pub returns-clause-value : goal.returns-clause-value
returns-clause-value c = none_left c.args.bytes.now c.loop-count.from _ c.loop-count.invariant.0 c.in_default.ensures c.loop-count.invariant.1
