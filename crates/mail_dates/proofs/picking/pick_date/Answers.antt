use Rattle.std.proofs.Common.{sym, ap, ◌∙◌, FitsSigned, w16, w32, w64, rules, Some}
use Rattle.std.proofs.lemmas.Int.{to_z-of_z}
use Rattle.mail_dates.specs.Picking.{picked}
use Rattle.mail_dates.proofs.picking.pick_date.Goals as goal

pub returns-in-Some : goal.returns-in-Some
returns-in-Some c =
    let fits_now : FitsSigned w64 c.args.now = c.ranges.now in
    let fits_offset : FitsSigned w32 c.args.offset_minutes = c.ranges.offset_minutes in
    let fits_short : FitsSigned w16 c.args.offset_minutes = search rules in
    let fits_today : FitsSigned w64 c.today.result = search rules in
    let fits_clock : FitsSigned w64 c.in-Some.clock = search rules in
    let today = simp to_z-of_z at c.today.ensures.value in
    let value = simp to_z-of_z at (c.in-Some.ensures) in
    (c.today.result, today, ap (picked c.today.result c.args.offset_minutes) (sym (c.as_bytes-bytes.ensures.value ∙ c.as_str.ensures.bytes)) ∙ sym value ∙ ap Some (sym (to_z-of_z w64 c.in-Some.clock fits_clock)))

pub returns-in-None : goal.returns-in-None
returns-in-None c =
    let fits_now : FitsSigned w64 c.args.now = c.ranges.now in
    let fits_offset : FitsSigned w32 c.args.offset_minutes = c.ranges.offset_minutes in
    let fits_short : FitsSigned w16 c.args.offset_minutes = search rules in
    let fits_today : FitsSigned w64 c.today.result = search rules in
    let today = simp to_z-of_z at c.today.ensures.value in
    let value = simp to_z-of_z at (c.in-None.ensures) in
    (c.today.result, today, ap (picked c.today.result c.args.offset_minutes) (sym (c.as_bytes-bytes.ensures.value ∙ c.as_str.ensures.bytes)) ∙ sym value)
