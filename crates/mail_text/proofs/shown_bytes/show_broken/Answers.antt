use Rattle.std.proofs.Common.{◌∙◌}
use Rattle.mail_text.proofs.Fronts.{fault_passed, all_valid}
use Rattle.mail_text.proofs.shown_bytes.show_broken.Goals as goal

pub loop-fault-preserved : goal.loop-fault-preserved
loop-fault-preserved c =
    fault_passed c.loop-fault.rest.now c.split_at.result.0.now c.split_at.result.1.now c.split_at-in-Err.result.1.now c.loop-fault.text c.put_valid.new.text c.push.new.self _ c.valid_up_to.result
    (c.valid_up_to.ensures ∙ c.in-Err.ensures.valid_len) (rw c.valid_up_to.ensures c.in-Err.ensures.cases.1.short) c.split_at.ensures.front c.split_at.ensures.back c.split_at-in-Err.ensures.back
    c.in_ok-put_valid.ensures c.in_ok-push.ensures.ok c.loop-fault.invariant

pub returns : goal.returns
returns c = all_valid c.loop-fault.rest.now c.loop-fault.text _ _ c.in_default.ensures.cases.1 c.in_ok-put_valid-2.ensures c.loop-fault.invariant
