use Rattle.std.proofs.Common.{◌≡◌, ◌≤◌, length, sym, ◌∙◌, arith}
use Rattle.std.proofs.lemmas.Bool.{false≢true, eqb-true}
use Rattle.std.proofs.lemmas.List.{nil_from_length}
use Rattle.mime_codes.proofs.Gathering.{more_taken, some_longer, bytes_of, flushed_front, flushed_behind, last_flushed}
use Rattle.mime_codes.proofs.b64_decoding.b64_decode.Goals as goal

pub decode-count-requires : goal.decode-count-requires
decode-count-requires c =
    let longer = some_longer c.loop-rest.symbols c.take.new.self c.split_at.result.0.now c.take.ensures in
    omega (arith, c.loop-rest.invariant.fits, longer, c.split_at.ensures.front_len, c.split_at.ensures.back_len)

pub loop-rest-preserved-then-is_full : goal.loop-rest-preserved-then-is_full
loop-rest-preserved-then-is_full c =
    let longer = some_longer c.loop-rest.symbols c.take.new.self c.split_at.result.0.now c.take.ensures in
    let full : length c.take.new.self ≡ 1024 = c.is_full.ensures.0 c.if-is_full.true in
    let size = bytes_of c.take.new.self in
    let le : c.loop-rest.count ≤ length c.loop-rest.into = omega (arith, c.loop-rest.invariant.fits) in
    let front = more_taken c.loop-rest.symbols c.take.new.self c.split_at.result.0.now c.split_at.result.1.now c.loop-rest.rest.now c.loop-rest.into _ c.min.result c.loop-rest.count c.split_at.ensures.front c.split_at.ensures.back c.take.ensures c.loop-rest.invariant.front in
    record {
      room = rw c.decode-count.ensures.empty (omega arith);
      fits = rw c.decode-count.ensures.empty (omega (arith, c.loop-rest.invariant.fits, longer, full, size, c.decode-count.ensures.count, c.split_at.ensures.front_len, c.split_at.ensures.back_len));
      front = rw c.decode-count.ensures.empty (flushed_front c.take.new.self _ c.loop-rest.into c.decode-count.new.into _ c.loop-rest.count c.decode-count.result le (omega (arith, full)) c.decode-count.ensures.count c.decode-count.ensures.written front);
      behind = flushed_behind _ c.loop-rest.into c.args.into.now c.decode-count.new.into c.loop-rest.count c.decode-count.result le c.decode-count.ensures.count c.decode-count.ensures.written c.loop-rest.invariant.behind;
    }

pub loop-rest-preserved : goal.loop-rest-preserved
loop-rest-preserved c =
    let longer = some_longer c.loop-rest.symbols c.take.new.self c.split_at.result.0.now c.take.ensures in
    let full : length c.take.new.self ≡ 1024 → ⊥ = λ e. false≢true (sym c.if-is_full.false ∙ c.is_full.ensures.1 e) in
    record {
      room = omega (arith, full, longer, c.split_at.ensures.front_len, c.min.ensures, c.room.ensures);
      fits = omega (arith, c.loop-rest.invariant.fits, longer, c.split_at.ensures.front_len, c.split_at.ensures.back_len);
      front = more_taken c.loop-rest.symbols c.take.new.self c.split_at.result.0.now c.split_at.result.1.now c.loop-rest.rest.now c.loop-rest.into _ c.min.result c.loop-rest.count c.split_at.ensures.front c.split_at.ensures.back c.take.ensures c.loop-rest.invariant.front;
      behind = c.loop-rest.invariant.behind;
    }

pub returns-clause-written : goal.returns-clause-written
returns-clause-written c =
    let none = nil_from_length c.loop-rest.rest.now (eqb-true _ 0 (sym c.is_empty.ensures ∙ c.loop-rest-test.false)) in
    last_flushed c.loop-rest.symbols c.loop-rest.rest.now c.loop-rest.into c.args.into.now c.decode.new.into _ c.loop-rest.count c.decode.result none c.decode.ensures.count c.decode.ensures.written
    c.loop-rest.invariant.behind c.loop-rest.invariant.front
