use Rattle.std.proofs.Common.{drop, sym, ap, ◌∙◌, subst}
use Rattle.std.specs.List.{prefix_len}
use Rattle.std.proofs.lemmas.List.{drop_min}
use Rattle.message_order.specs.Texts.{IsBehindReplies}
use Rattle.message_order.specs.Texts.IsBehindReplies.{none, one}
use Rattle.message_order.proofs.texts.behind_replies.Goals as goal
use Rattle.mh_base.specs.Characters.{is_blank}

pub loop-rest-preserved : goal.loop-rest-preserved
loop-rest-preserved c =
    let behind = c.split_at.ensures.back ∙ ap (λ n. drop n c.loop-rest.rest.now) c.min.ensures ∙ drop_min 3 c.loop-rest.rest.now in
    let next = c.split_at-in-loop-rest.ensures.back ∙ ap (λ n. drop n c.split_at.result.1.now) c.blank_len.ensures.value ∙ ap (λ t. drop (prefix_len is_blank t) t) behind in
    λ last is. c.loop-rest.invariant last (one (sym c.begins_reply.ensures ∙ c.loop-rest-test.true) (subst (λ t. IsBehindReplies t last) next is))

pub returns : goal.returns
returns c = c.loop-rest.invariant _ (none (sym c.begins_reply.ensures ∙ c.loop-rest-test.false))
