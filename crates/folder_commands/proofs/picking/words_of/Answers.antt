use Rattle.std.proofs.Common.{arith, FitsSigned, w32, w64}
use Rattle.std.proofs.lemmas.Int.{ints, to_z-of_z}
use Rattle.folder_commands.proofs.picking.words_of.Goals as goal

pub returns : goal.returns
returns c =
    let now = c.moment.ensures in
    let offset = c.offset_minutes-offset_minutes.ensures.value in
    let within = c.offset_minutes-offset_minutes.ensures.within in
    let fits_now : FitsSigned w64 c.moment.result = record { sfits = grind (arith, ints, now, within.seconds.0, within.seconds.1) } in
    let fits_offset : FitsSigned w32 c.offset_minutes-offset_minutes.result = record { sfits = grind (arith, ints, offset, within.minutes.0, within.minutes.1) } in
    rw (now, offset) at (simp to_z-of_z at c.pick_words.ensures)
