use Rattle.std.proofs.Common.{FitsSigned, w32, w64}
use Rattle.std.proofs.lemmas.Int.{to_z-of_z}
use Rattle.annotation_lines.proofs.Dating.{date_is}
use Rattle.annotation_lines.proofs.moments.moment_date.Goals as goal

pub returns-clause-value : goal.returns-clause-value
returns-clause-value c =
    let fits_now : FitsSigned w64 c.args.moment = c.ranges.moment in
    let fits_offset : FitsSigned w32 c.args.offset_minutes = c.ranges.offset_minutes in
    date_is c.at.result c.args.moment c.args.offset_minutes c.at.ensures.valid c.requires (simp to_z-of_z at c.at.ensures.clock) (simp to_z-of_z at c.at.ensures.offset)
