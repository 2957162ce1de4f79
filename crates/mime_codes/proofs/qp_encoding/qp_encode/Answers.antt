use Rattle.std.proofs.Common.{◌∙◌, ap, arith}
use Rattle.mime_codes.specs.QuotedPrintable.{qp_decoded}
use Rattle.mime_codes.proofs.Encoding.{all_put}
use Rattle.mime_codes.proofs.Returning.{returned}
use Rattle.mime_codes.proofs.qp_encoding.qp_encode.Goals as goal

pub returns-clause-value : goal.returns-clause-value
returns-clause-value c = c.from_vec.ensures ∙ all_put c.loop-i.text.items c.args.from.now c.loop-i.column c.loop-i.i c.loop-i-test.false c.loop-i.invariant.text

pub returns-clause-back : goal.returns-clause-back
returns-clause-back c = ap qp_decoded (returns-clause-value c) ∙ returned 0 c.args.from.now (λ i. omega (arith, c.type_inv.from i))
