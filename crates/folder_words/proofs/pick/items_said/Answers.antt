use Rattle.std.proofs.Common.{◌≡◌, None, sym, ◌∙◌, FitsSigned, w32, w64}
use Rattle.std.proofs.lemmas.Int.{to_z-of_z}
use Rattle.command_words.specs.BadValues.{first_of}
use Rattle.folder_words.specs.BadNames.{bad_names}
use Rattle.command_words.proofs.Said.{word_is}
use Rattle.folder_words.proofs.pick.items_said.Goals as goal

pub returns-in_default : goal.returns-in_default
returns-in_default c =
    let fits_now : FitsSigned w64 c.args.moment = c.ranges.moment in
    let fits_offset : FitsSigned w32 c.args.offset_minutes = c.ranges.offset_minutes in
    let none : first_of (bad_names c.args.words.now.items) ≡ None = sym c.bad_name-bad.ensures ∙ c.in_default.is in
    rw (none, word_is _ c.in-Ok.word c.in-Ok.ensures) (simp to_z-of_z at c.word_said.ensures)
