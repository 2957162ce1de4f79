use Rattle.std.proofs.Common.{◌≡◌, refl, ap, ◌∙◌}
use Rattle.std.proofs.lemmas.Result.{IfOk-weaker}
use Rattle.sortm_plans.specs.Ordered.{in_order, order_by_texts, text_cmp}
use Rattle.sortm_plans.proofs.Sorted.{same_order}
use Rattle.sortm_command.proofs.ordering.order_by_texts.Goals as goal

pub returns : goal.returns
returns c =
    IfOk-weaker c.ordered.result (λ order. order ≡ in_order (λ x y. text_cmp x.items y.items) c.in_ok-keyed.keyed.items) (λ order. order ≡ order_by_texts c.args.texts c.args.numbers.now)
    (λ order o. o ∙ same_order (λ k. k.items) (λ x y. text_cmp x.items y.items) text_cmp (λ x y. refl) c.in_ok-keyed.keyed.items ∙ ap (in_order text_cmp) c.in_ok-keyed.ensures) c.ordered.ensures
