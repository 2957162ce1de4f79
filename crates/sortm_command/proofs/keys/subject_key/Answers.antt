use Rattle.std.proofs.Common.{◌≡◌, ℕ, List, ap, ◌∙◌}
use Rattle.std.proofs.lemmas.Result.{IfOk-weaker}
use Rattle.message_order.specs.Texts.{IsBehindReplies, key_of}
use Rattle.sortm_plans.specs.Keys.{behind_replies}
use Rattle.sortm_plans.proofs.Replies.{behind_is}
use Rattle.sortm_command.proofs.keys.subject_key.Goals as goal

pub returns : goal.returns
returns c =
    IfOk-weaker c.subject_key.result (λ key. (rest : List ℕ) × IsBehindReplies c.args.text.now rest × (key.items ≡ key_of rest)) (λ key. key.items ≡ key_of (behind_replies c.args.text.now))
    (λ key k. k.2 ∙ ap key_of (behind_is c.args.text.now k.0 k.1)) c.subject_key.ensures
