use Rattle.std.proofs.Common.{◌≡◌, Some, rules, sym, FitsSigned, w32, w64}
use Rattle.std.proofs.lemmas.Int.{to_z-of_z}
use Rattle.anno_words.specs.AnnoWords.{component_of}
use Rattle.anno_words.proofs.words.word_said.Goals as goal

pub returns-in-Some : goal.returns-in-Some
returns-in-Some c =
    let fits_now : FitsSigned w64 c.args.moment = c.ranges.moment in
    let fits_offset : FitsSigned w32 c.args.offset_minutes = c.ranges.offset_minutes in
    let named : component_of c.args.items.now ≡ Some c.in-Some.name = search rules in
    rw named (simp to_z-of_z at c.named.ensures)
