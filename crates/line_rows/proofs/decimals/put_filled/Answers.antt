use Rattle.std.proofs.Common.{ap, w64, ◌∙◌}
use Rattle.std.proofs.lemmas.Int.{to_z-of_z}
use Rattle.line_rows.specs.Decimals.{sign_len}
use Rattle.line_rows.proofs.FittingColumns.{on_ok, three_more, two_more_as}
use Rattle.line_rows.proofs.PrintedNumbers.{sign_put, spaces_put, zeros_put}
use Rattle.line_rows.proofs.decimals.put_filled.Goals as goal

pub split_at-requires : goal.split_at-requires
split_at-requires c = sign_put c.args.n c.args.decimal.now c.sign_len.result (c.sign_len.ensures.value ∙ ap sign_len (to_z-of_z w64 c.args.n c.ranges.n)) c.requires

pub returns-in_ok-fill : goal.returns-in_ok-fill
returns-in_ok-fill c =
    on_ok c.put_bytes-then-width.result _ _
    (λ last. three_more c.args.row.now c.put_bytes.new.self c.fill.new.self c.put_bytes-then-width.new.self _ _ _ _ c.in_ok-put_bytes.ensures c.in_ok-fill.ensures last
    (zeros_put c.args.width c.args.missing c.args.n c.args.decimal.now _ _ c.sign_len.result c.if-width.true c.requires
    (c.sign_len.ensures.value ∙ ap sign_len (to_z-of_z w64 c.args.n c.ranges.n)) c.split_at.ensures.front c.split_at.ensures.back))
    c.put_bytes-then-width.ensures

pub returns-in_ok-fill-2 : goal.returns-in_ok-fill-2
returns-in_ok-fill-2 c =
    on_ok c.put_bytes-else-width.result _ _
    (λ last. two_more_as c.args.row.now c.fill-else-width.new.self c.put_bytes-else-width.new.self _ _ _ c.in_ok-fill-2.ensures last
    (spaces_put c.args.width c.args.missing c.args.n c.args.decimal.now c.if-width.false c.requires))
    c.put_bytes-else-width.ensures
