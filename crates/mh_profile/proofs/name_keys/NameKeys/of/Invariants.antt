use Rattle.std.proofs.Common.{◌≡◌, ℕ, List, drop, map}
use Rattle.std.specs.Prelude.{◌||◌}
use Rattle.mh_profile.specs.NameKeys.{has_key, is_named}
use Rattle.mh_profile.specs.Names.{key_of}
use Rattle.mh_profile.proofs.name_keys.NameKeys.of.Given as goal

abbrev pub invariant-loop-name : goal.invariant-loop-name
invariant-loop-name l =
    (name : List ℕ) → has_key (record { keys = l.keys }) (key_of name) || is_named (map (λ n. n.now) (drop l.name-index l.names)) name ≡ is_named (map (λ n. n.now) l.names) name
