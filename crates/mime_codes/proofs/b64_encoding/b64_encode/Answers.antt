use Rattle.std.proofs.Common.{ap, ◌∙◌, arith}
use Rattle.std.proofs.lemmas.Bool.Decides.{nat_tests}
use Rattle.mime_codes.specs.Base64.{b64_decoded}
use Rattle.mime_codes.proofs.Restoring.{bytes_back}
use Rattle.mime_codes.proofs.Lines.{line_put, lines_put}
use Rattle.mime_codes.proofs.b64_encoding.b64_encode.Goals as goal

pub loop-rest-preserved : goal.loop-rest-preserved
loop-rest-preserved c =
    let test = c.loop-rest-test.ensures in
    line_put c.loop-rest.rest.now _ _ _ _ _ _ (grind (arith, nat_tests, test)) c.min.ensures c.split_at.ensures.front c.split_at.ensures.back c.in_ok-put_line.ensures c.loop-rest.invariant

pub returns-clause-value : goal.returns-clause-value
returns-clause-value c =
    let test = c.loop-rest-test.ensures in
    c.from_vec.ensures ∙ lines_put c.loop-rest.rest.now c.loop-rest.text.items _ (grind (arith, nat_tests, test)) c.loop-rest.invariant

pub returns-clause-back : goal.returns-clause-back
returns-clause-back c = ap b64_decoded (returns-clause-value c) ∙ bytes_back c.args.from.now (λ i. omega (arith, c.type_inv.from i))
