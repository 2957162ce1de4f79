use Rattle.std.proofs.Common.{◌≡◌, [], ◌∷◌, ◌++◌, length, sym, ap, ◌∙◌, subst}
use Rattle.std.specs.Option.{option_or}
use Rattle.mbox_drop.specs.Long.{long_of}
use Rattle.mbox_drop.proofs.PartsLoop.{IsParting, parting_more, parting_all}
use Rattle.mbox_drop.proofs.parts.cut_parts.Goals as goal

pub parts-preserved : goal.parts-preserved
parts-preserved c =
    let items : c.push-in-Whole.new.self.items ≡ c.parts.messages.items ++ c.in-Whole.message.now ∷ [] =
    c.in_ok-push-in-Whole.ensures.items ∙ ap (λ m. c.parts.messages.items ++ m ∷ []) c.in_ok-from_slice-in-Whole.ensures in
    let long : c.or-long.result ≡ option_or c.parts.long (long_of (length c.in-Whole.message.now)) = c.or-long.ensures ∙ ap (λ o. option_or c.parts.long o) c.too_long.ensures in
    subst (λ x. IsParting c.args.first c.args.bytes.now c.in-Whole.rest.now x c.or-long.result) (sym items)
    (subst (λ x. IsParting c.args.first c.args.bytes.now c.in-Whole.rest.now (c.parts.messages.items ++ c.in-Whole.message.now ∷ []) x) (sym long)
    (parting_more c.args.first c.args.bytes.now c.parts.left.now c.parts.messages.items c.parts.long c.in-Whole.message.now c.in-Whole.rest.now c.parts.invariant c.in-Whole.ensures))

pub returns-in-Open : goal.returns-in-Open
returns-in-Open c = parting_all c.args.first c.args.bytes.now c.parts.left.now _ c.parts.invariant c.in-Open.ensures
