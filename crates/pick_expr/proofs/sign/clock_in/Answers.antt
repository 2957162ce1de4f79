use Rattle.std.proofs.Common.{ap, ◌∙◌, FitsSigned, w32, w64, rules, Some, None}
use Rattle.std.proofs.lemmas.Int.{to_z-of_z}
use Rattle.std.specs.Str.{encode_utf8_all}
use Rattle.pick_expr.proofs.Days.{picks}
use Rattle.pick_expr.proofs.sign.clock_in.Goals as goal

pub returns-in-Ok : goal.returns-in-Ok
returns-in-Ok c = λ today is_today.
    let fits_now : FitsSigned w64 c.args.setting.now.moment = search rules in
    let fits_offset : FitsSigned w32 c.args.setting.now.offset_minutes = search rules in
    let fits_clock : FitsSigned w64 c.in-Ok.clock = search rules in
    let value = simp to_z-of_z at (c.in-Ok.ensures) in
    ap Some (to_z-of_z w64 c.in-Ok.clock fits_clock) ∙ picks c.args.setting.now.moment c.args.setting.now.offset_minutes today (encode_utf8_all c.args.text.now) (Some c.in-Ok.clock) value is_today

pub returns-in-Err : goal.returns-in-Err
returns-in-Err c = λ today is_today.
    let fits_now : FitsSigned w64 c.args.setting.now.moment = search rules in
    let fits_offset : FitsSigned w32 c.args.setting.now.offset_minutes = search rules in
    let value = simp to_z-of_z at (c.in-Err.ensures) in
    picks c.args.setting.now.moment c.args.setting.now.offset_minutes today (encode_utf8_all c.args.text.now) None value is_today
