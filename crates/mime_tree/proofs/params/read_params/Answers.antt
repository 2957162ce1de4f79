use Rattle.std.proofs.Common.{sym, ◌∙◌}
use Rattle.mime_tree.specs.RawParams.{taken_of}
use Rattle.mime_tree.proofs.Emptiness.{some_bytes, no_bytes}
use Rattle.mime_tree.proofs.Shortening.{params_fail, params_go, params_done, no_front_of}
use Rattle.mime_tree.proofs.params.read_params.Goals as goal

pub loop-rest-init : goal.loop-rest-init
loop-rest-init c = no_front_of _ _ c.new-params.ensures

pub returns-in_default : goal.returns-in_default
returns-in_default c =
    params_fail c.loop-rest.rest.now c.loop-rest.params _ (some_bytes c.loop-rest.rest.now (sym c.is_empty.ensures ∙ c.loop-rest-test.true)) c.in_default.ensures.value c.loop-rest.invariant

pub loop-rest-preserved : goal.loop-rest-preserved
loop-rest-preserved c =
    params_go c.loop-rest.rest.now c.loop-rest.params c.push.new.self (taken_of c.in-Some.raw) c.in_ok-shown_param.field-0 _ (some_bytes c.loop-rest.rest.now (sym c.is_empty.ensures ∙ c.loop-rest-test.true)) c.in-Some.ensures.value c.in_ok-shown_param.ensures c.in_ok-push.ensures.ok c.loop-rest.invariant

pub returns : goal.returns
returns c = params_done c.loop-rest.rest.now c.loop-rest.params _ (no_bytes c.loop-rest.rest.now (sym c.is_empty.ensures ∙ c.loop-rest-test.false)) c.loop-rest.invariant
