use Rattle.std.proofs.Common.{ap, sym, ◌∙◌, map, slice_get}
use Rattle.mh_profile.proofs.KeyedEntries.{name_there}
use Rattle.mh_profile.proofs.entries.Entries.name_at.Goals as goal

pub returns-in-Some : goal.returns-in-Some
returns-in-Some c =
    ap (λ es. slice_get (map (λ e. e.name) es) c.args.index) (sym c.self.view_is)
    ∙ name_there c.self.inside.map.entries c.args.index _ c.in-Some.entry.now c.in-Some.ensures.entry
