use Rattle.std.proofs.Common.{sym, ◌∙◌, arith}
use Rattle.mime_tree.proofs.Emptiness.{no_bytes, some_bytes}
use Rattle.mh_drafts.proofs.Joining.{behind_less, line_more, lines_end, no_deeper}
use Rattle.mh_drafts.proofs.gathering.gather.Goals as goal

pub loop-rest-smaller : goal.loop-rest-smaller
loop-rest-smaller c =
    behind_less c.loop-rest.rest.now c.split_at.result.1.now c.line_len.result (some_bytes c.loop-rest.rest.now (sym c.is_empty.ensures ∙ c.loop-rest-test.true)) c.line_len.ensures.value c.split_at.ensures.back

pub loop-rest-preserved : goal.loop-rest-preserved
loop-rest-preserved c =
    let some = some_bytes c.loop-rest.rest.now (sym c.is_empty.ensures ∙ c.loop-rest-test.true) in
    let less = behind_less c.loop-rest.rest.now c.split_at.result.1.now c.line_len.result some c.line_len.ensures.value c.split_at.ensures.back in
    let deeper = no_deeper c.loop-rest.gathering.depth c.add.new.self.depth c.split_at.result.0.now c.in_ok-add.ensures.depth in
    let signs = c.in_ok-add.ensures.signs in
    let few = c.loop-rest.invariant.few in
    let shallow = c.loop-rest.invariant.shallow in
    record {
      whole = line_more c.loop-rest.gathering c.add.new.self c.loop-rest.rest.now c.split_at.result.0.now c.split_at.result.1.now c.loop-rest.gathering.depth c.add.new.self.depth _ c.line_len.result some c.line_len.ensures.value c.split_at.ensures.front c.split_at.ensures.back
          c.in_ok-add.ensures.whole c.in_ok-add.ensures.depth c.loop-rest.invariant.whole;
      few = omega arith;
      shallow = omega arith;
    }

pub returns-clause-whole : goal.returns-clause-whole
returns-clause-whole c =
    let ended = c.in_ok-end_text.ensures in
    lines_end c.loop-rest.gathering c.end_text.new.self c.loop-rest.rest.now c.loop-rest.gathering.depth _ (no_bytes c.loop-rest.rest.now (sym c.is_empty.ensures ∙ c.loop-rest-test.false)) ended.items ended.wants ended.signs c.loop-rest.invariant.whole
