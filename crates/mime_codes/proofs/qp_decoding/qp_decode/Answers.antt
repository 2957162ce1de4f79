use Rattle.std.proofs.Common.{◌≡◌, ◌++◌, ◌∷◌, length, take, sym, ap, ◌∙◌, subst, arith}
use Rattle.std.proofs.lemmas.List.{length-set, length-take-le}
use Rattle.mime_codes.specs.QuotedPrintable.{decoded_behind, qp_decoded}
use Rattle.mime_codes.specs.Pieces.{BeginsWith}
use Rattle.mime_codes.specs.declared.piece.Piece.TheVariants.{Byte, Blanks}
use Rattle.mime_codes.proofs.Writing.{one_front, one_behind, some_front, some_behind, some_length, all_written, all_counted}
use Rattle.mime_codes.proofs.qp_decoding.qp_decode.Goals as goal

pub loop-piece-preserved-in-Byte : goal.loop-piece-preserved-in-Byte
loop-piece-preserved-in-Byte c =
    let begins : BeginsWith c.loop-piece.rest.now (Byte c.in-Byte.value c.in-Byte.len) = subst (λ p. BeginsWith c.loop-piece.rest.now p) c.in-Byte.is c.in-Some.ensures in
    let stands = begins.stands ∙ ap (λ x. c.in-Byte.value ∷ qp_decoded x) (sym c.split_at.ensures.back) in
    record {
      fits = omega (arith, begins.some, length-set c.loop-piece.into c.loop-piece.count c.in-Byte.value);
      front = one_front c.loop-piece.count c.in-Byte.value c.loop-piece.into _ _ _ (omega (arith, begins.some, begins.inside)) c.loop-piece.invariant.front stands;
      behind = one_behind c.loop-piece.count c.in-Byte.value c.loop-piece.into c.args.into.now c.loop-piece.invariant.behind;
    }

pub loop-piece-preserved-in-Blanks : goal.loop-piece-preserved-in-Blanks
loop-piece-preserved-in-Blanks c =
    let len = c.in-Blanks.len in
    let begins : BeginsWith c.loop-piece.rest.now (Blanks len) = subst (λ p. BeginsWith c.loop-piece.rest.now p) c.in-Blanks.is c.in-Some.ensures in
    let copied = c.copy_from_slice.ensures.after ∙ c.split_at-in-Blanks.ensures.front in
    let stands = begins.stands ∙ ap (λ x. take len c.loop-piece.rest.now ++ qp_decoded x) (sym c.split_at-in-Blanks.ensures.back) ∙ ap (λ x. x ++ qp_decoded c.split_at-in-Blanks.result.1.now) (sym copied) in
    let size = ap length copied ∙ length-take-le len c.loop-piece.rest.now begins.inside in
    record {
      fits = omega (arith, some_length c.loop-piece.count len c.loop-piece.into _ (omega (arith, begins.some, begins.inside)) size, begins.inside);
      front = some_front c.loop-piece.count len _ c.loop-piece.into _ _ _ _ (omega (arith, begins.some, begins.inside)) size c.loop-piece.invariant.front stands;
      behind = some_behind c.loop-piece.count len c.loop-piece.into c.args.into.now _ (omega (arith, begins.some, begins.inside)) size c.loop-piece.invariant.behind;
    }

pub returns-clause-count : goal.returns-clause-count
unfolding decoded_behind
returns-clause-count c =
    all_counted c.loop-piece.count c.loop-piece.into (qp_decoded c.args.from.now) (omega arith)
    (subst (λ r. take c.loop-piece.count c.loop-piece.into ++ qp_decoded r ≡ qp_decoded c.args.from.now) c.in_default.ensures c.loop-piece.invariant.front)

pub returns-clause-written : goal.returns-clause-written
unfolding decoded_behind
returns-clause-written c =
    all_written c.loop-piece.count c.loop-piece.into c.args.into.now (qp_decoded c.args.from.now)
    (subst (λ r. take c.loop-piece.count c.loop-piece.into ++ qp_decoded r ≡ qp_decoded c.args.from.now) c.in_default.ensures c.loop-piece.invariant.front)
    c.loop-piece.invariant.behind
