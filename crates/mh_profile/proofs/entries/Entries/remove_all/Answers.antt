use Rattle.std.proofs.Common.{rules, ◌≡◌, ap, subst, sym, ◌∙◌, map, not}
use Rattle.std.specs.Prelude.{filter}
use Rattle.std.specs.Map.{values_of}
use Rattle.indexmap.proofs.CallerLemmas.{filter-RetainsPairs}
use Rattle.mh_profile.specs.Changes.{without_all}
use Rattle.mh_profile.specs.NameKeys.{has_key, is_named}
use Rattle.mh_profile.specs.Validity.{AreEntries}
use Rattle.mh_profile.proofs.EntryLists.{entries_filtered}
use Rattle.mh_profile.proofs.KeySets.{all_at_once, left_keyed, left_values}
use Rattle.mh_profile.proofs.entries.Entries.remove_all.Goals as goal

pub invariant_of-self : goal.invariant_of-self
invariant_of-self c =
    let kept : c.retain.new.self.entries ≡ filter (λ p. not (has_key c.in_ok-gone.gone p.0.items)) c.self.inside.map.entries =
    filter-RetainsPairs _ (λ p. not (has_key c.in_ok-gone.gone p.0.items)) _ (λ k v b w g call. search rules) _ _ c.retain.ensures.filtered in
    let left : values_of c.retain.new.self.entries ≡ filter (λ e. not (is_named (map (λ n. n.now) c.args.names.now) e.name)) (values_of c.self.inside.map.entries) =
    ap values_of kept ∙ left_values c.in_ok-gone.gone (map (λ n. n.now) c.args.names.now) c.in_ok-gone.ensures c.self.inside.map.entries c.self.invariant.0 in
    (rw kept (left_keyed _ c.self.inside.map.entries c.self.invariant.0), subst AreEntries (sym left) (entries_filtered _ (values_of c.self.inside.map.entries) c.self.invariant.1))

pub returns-clause-ok : goal.returns-clause-ok
returns-clause-ok c =
    let kept : c.retain.new.self.entries ≡ filter (λ p. not (has_key c.in_ok-gone.gone p.0.items)) c.self.inside.map.entries =
    filter-RetainsPairs _ (λ p. not (has_key c.in_ok-gone.gone p.0.items)) _ (λ k v b w g call. search rules) _ _ c.retain.ensures.filtered in
    ap values_of kept
    ∙ left_values c.in_ok-gone.gone (map (λ n. n.now) c.args.names.now) c.in_ok-gone.ensures c.self.inside.map.entries c.self.invariant.0
    ∙ sym (all_at_once (map (λ n. n.now) c.args.names.now) (values_of c.self.inside.map.entries))
    ∙ ap (without_all (map (λ n. n.now) c.args.names.now)) c.self.view_is
