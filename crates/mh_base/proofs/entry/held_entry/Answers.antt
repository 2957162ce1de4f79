use Rattle.std.proofs.Common.{◌<◌, refl, length, take, arith}
use Rattle.std.proofs.lemmas.List.{length-take}
use Rattle.mh_base.proofs.RunDigits.{short_run}
use Rattle.mh_base.proofs.entry.held_entry.Goals as goal

pub returns-in_default : goal.returns-in_default
returns-in_default c =
    let short : length (take 32 c.args.rest.now) < 32 = omega (arith, length-take 32 c.args.rest.now, c.in_default.ensures.cases) in
    rw (short_run (take 32 c.args.rest.now) short) refl
