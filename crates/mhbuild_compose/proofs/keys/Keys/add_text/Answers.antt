use Rattle.std.proofs.Common.{sym, ◌∙◌}
use Rattle.mime_tree.proofs.Emptiness.{no_bytes, some_bytes}
use Rattle.mhbuild_compose.specs.Keys.{takes}
use Rattle.mh_drafts.proofs.Joining.{behind_less}
use Rattle.mhbuild_compose.proofs.Lining.{lines_are, lines_none}
use Rattle.mhbuild_compose.proofs.Walking.{any_none, any_step}
use Rattle.mhbuild_compose.proofs.keys.Keys.add_text.Goals as goal

pub loop-rest-smaller : goal.loop-rest-smaller
loop-rest-smaller c =
    behind_less c.loop-rest.rest.now c.split_at.result.1.now c.line_len.result (some_bytes c.loop-rest.rest.now (sym c.is_empty.ensures ∙ c.loop-rest-test.true)) c.line_len.ensures.value c.split_at.ensures.back

pub loop-rest-preserved : goal.loop-rest-preserved
loop-rest-preserved c = λ d.
    any_step (takes c.args.mark.now d) _ _ c.split_at.result.0.now _ _ _
    (lines_are c.loop-rest.rest.now c.split_at.result.0.now c.split_at.result.1.now c.line_len.result (some_bytes c.loop-rest.rest.now (sym c.is_empty.ensures ∙ c.loop-rest-test.true)) c.line_len.ensures.value c.split_at.ensures.front c.split_at.ensures.back)
    (c.in_ok-add_line.ensures d) (c.loop-rest.invariant d)

pub returns : goal.returns
returns c = λ d. any_none (takes c.args.mark.now d) _ _ _ (lines_none c.loop-rest.rest.now (no_bytes c.loop-rest.rest.now (sym c.is_empty.ensures ∙ c.loop-rest-test.false))) (c.loop-rest.invariant d)
