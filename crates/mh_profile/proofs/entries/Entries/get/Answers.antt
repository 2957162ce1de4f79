use Rattle.std.proofs.Common.{◌≡◌, ap, sym, ◌∙◌}
use Rattle.std.specs.Option.{option_map}
use Rattle.mh_profile.specs.Changes.{value_of}
use Rattle.mh_profile.specs.Names.{key_of}
use Rattle.mh_profile.proofs.KeyedEntries.{value_by_key}
use Rattle.mh_profile.proofs.entries.Entries.get.Goals as goal

pub returns-in-Some : goal.returns-in-Some
returns-in-Some c =
    let is : c.as_slice.result.now ≡ key_of c.args.name.now = c.as_slice.ensures.value ∙ c.in_ok-key.ensures in
    ap (value_of c.args.name.now) (sym c.self.view_is)
    ∙ value_by_key c.args.name.now c.as_slice.result.now is c.self.inside.map.entries c.self.invariant.0
    ∙ ap (option_map (λ v. v.value)) (sym c.in-Some.ensures.value)

pub returns : goal.returns
returns c =
    let is : c.as_slice.result.now ≡ key_of c.args.name.now = c.as_slice.ensures.value ∙ c.in_ok-key.ensures in
    ap (value_of c.args.name.now) (sym c.self.view_is)
    ∙ value_by_key c.args.name.now c.as_slice.result.now is c.self.inside.map.entries c.self.invariant.0
    ∙ ap (option_map (λ v. v.value)) (sym c.in-None.ensures.value)
