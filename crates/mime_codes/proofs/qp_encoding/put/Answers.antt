use Rattle.std.proofs.Common.{◌≡◌, ◌++◌, IfOk, sym, subst}
use Rattle.mime_codes.specs.QuotedPrintable.{encoded_from}
use Rattle.mime_codes.proofs.Encoding.{fed, plain_put, escape_put}
use Rattle.mime_codes.proofs.qp_encoding.put.Goals as goal

pub returns-in_ok-push-clause-text : goal.returns-in_ok-push-clause-text
returns-in_ok-push-clause-text c =
    fed c.args.column c.args.byte c.args.text.now.items c.push.new.self.items c.args.rest.now c.if-byte-eq10.true c.in_ok-push.ensures.items

pub returns-then-stands_for_itself-clause-text : goal.returns-then-stands_for_itself-clause-text
returns-then-stands_for_itself-clause-text c =
    subst (λ all. IfOk c.put_item.result (λ next. c.put_item.new.text.items ++ encoded_from next c.args.rest.now ≡ all))
    (plain_put c.args.column c.args.byte c.args.text.now.items c.args.rest.now c.if-byte-eq10.false (sym c.if-stands_for_itself.ensures)) c.put_item.ensures.text

pub returns-else-stands_for_itself-clause-text : goal.returns-else-stands_for_itself-clause-text
returns-else-stands_for_itself-clause-text c =
    subst (λ all. IfOk c.put_item-else-stands_for_itself.result (λ next. c.put_item-else-stands_for_itself.new.text.items ++ encoded_from next c.args.rest.now ≡ all))
    (escape_put c.args.column c.args.byte c.digit.result c.digit-else-stands_for_itself.result c.args.text.now.items c.args.rest.now c.if-byte-eq10.false (sym c.if-stands_for_itself.ensures) c.digit.ensures c.digit-else-stands_for_itself.ensures)
    c.put_item-else-stands_for_itself.ensures.text
