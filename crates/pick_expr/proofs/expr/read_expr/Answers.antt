use Rattle.std.proofs.Common.{FitsSigned, w32, w64}
use Rattle.std.proofs.lemmas.Int.{to_z-of_z}
use Rattle.pick_expr.specs.Signs.{behind_all, day_of, today_at}
use Rattle.pick_expr.proofs.Days.{is_today_at}
use Rattle.pick_expr.proofs.ReaderFaults.{read_ok, read_err}
use Rattle.pick_expr.proofs.ItemValues.{expr_is}
use Rattle.pick_expr.proofs.expr.read_expr.Goals as goal

pub returns-clause-expression : goal.returns-clause-expression
returns-clause-expression c =
    let fits_now : FitsSigned w64 c.args.now = c.ranges.now in
    let fits_offset : FitsSigned w32 c.args.offset_minutes = c.ranges.offset_minutes in
    let ok = simp (to_z-of_z, c.as_slice.ensures) at c.read_items.ensures.ok in
    λ today is_today. read_ok (behind_all c.args.words.now.items) (day_of today c.args.offset_minutes) c.args.words.now.items c.read_items.result (ok today is_today)

pub returns-clause-refusal : goal.returns-clause-refusal
returns-clause-refusal c =
    let fits_now : FitsSigned w64 c.args.now = c.ranges.now in
    let fits_offset : FitsSigned w32 c.args.offset_minutes = c.ranges.offset_minutes in
    let err = simp (to_z-of_z, c.as_slice.ensures) at c.read_items.ensures.err in
    λ today is_today. read_err (behind_all c.args.words.now.items) (day_of today c.args.offset_minutes) c.args.words.now.items c.read_items.result (err today is_today)

pub returns-clause-value : goal.returns-clause-value
returns-clause-value c =
    let fits_now : FitsSigned w64 c.args.now = c.ranges.now in
    let fits_offset : FitsSigned w32 c.args.offset_minutes = c.ranges.offset_minutes in
    let ok = simp (to_z-of_z, c.as_slice.ensures) at c.read_items.ensures.ok in
    let err = simp (to_z-of_z, c.as_slice.ensures) at c.read_items.ensures.err in
    let today = today_at c.args.now c.args.offset_minutes in
    let is_today = is_today_at c.args.now c.args.offset_minutes in
    expr_is c.args.now c.args.offset_minutes c.args.words.now.items c.read_items.result (ok today is_today) (err today is_today)
