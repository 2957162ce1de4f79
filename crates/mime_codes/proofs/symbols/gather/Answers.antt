use Rattle.std.proofs.Common.{◌<◌, ◌∙◌, ◌++◌, length, get_or, take, filter, ap, arith}
use Rattle.std.proofs.lemmas.List.{take_all}
use Rattle.mime_codes.specs.Base64.{is_symbol}
use Rattle.mime_codes.proofs.Taking.{at_most_one, one_taken}
use Rattle.mime_codes.proofs.symbols.gather.Goals as goal

pub loop-byte-preserved : goal.loop-byte-preserved
loop-byte-preserved c =
    let i = c.loop-byte.byte-index in
    let in_text : i < length c.args.text.now = c.loop-byte-test.true in
    let lt : c.loop-byte.len < length c.loop-byte.bytes = omega (arith, in_text, c.loop-byte.invariant.bound, c.loop-byte.auto.bytes, c.requires) in
    record {
      bound = omega (arith, c.loop-byte.invariant.bound, at_most_one (get_or c.args.text.now i 0) c.count_of-len.result c.count_of-len.ensures);
      front = one_taken _ c.loop-byte.bytes c.args.text.now c.loop-byte.len i c.count_of-len.result lt in_text c.count_of-len.ensures c.loop-byte.invariant.front;
    }

pub returns-clause-value : goal.returns-clause-value
returns-clause-value c =
    c.loop-byte.invariant.front
    ∙ ap (λ t. take c.args.len c.args.bytes.now ++ filter is_symbol t) (take_all c.loop-byte.byte-index c.args.text.now (omega (arith, c.loop-byte-test.false)))
