use Rattle.std.proofs.Common.{◌∙◌, ap, sym}
use Rattle.mh_sequences.specs.Sequences.{runs_of}
use Rattle.mh_sequences.proofs.NamedEntries.{runs_found, runs_missed}
use Rattle.mh_sequences.proofs.sequences.Sequences.get.Goals as goal

pub returns-in-Some : goal.returns-in-Some
returns-in-Some c =
    let found = rw c.in-Some.is at c.get.ensures.value in
    sym (runs_found c.args.name.now c.self.inside.users.entries c.in-Some.user.now (sym found)) ∙ ap (λ v. runs_of v.users c.args.name.now) c.self.view_is

pub returns-in-None : goal.returns-in-None
returns-in-None c =
    let missed = rw c.in-None.is at c.get.ensures.value in
    ap (λ v. runs_of v.users c.args.name.now) (sym c.self.view_is) ∙ runs_missed c.args.name.now c.self.inside.users.entries (sym missed)
