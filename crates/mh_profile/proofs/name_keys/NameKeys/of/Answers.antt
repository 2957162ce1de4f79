use Rattle.std.proofs.Common.{drop, map, ap, sym, ◌∙◌, ◌+◌}
use Rattle.std.specs.Prelude.{◌||◌}
use Rattle.std.proofs.lemmas.List.{at_drop_more}
use Rattle.mh_profile.specs.NameKeys.{has_key, is_named}
use Rattle.mh_profile.specs.Names.{key_of}
use Rattle.mh_profile.proofs.KeySets.{key_more}
use Rattle.mh_profile.proofs.name_keys.NameKeys.of.Goals as goal

pub loop-name-preserved : goal.loop-name-preserved
loop-name-preserved c = λ name.
    key_more name _ c.loop-name.keys.keys c.insert.new.self.keys c.in_ok-name_key.field-0 (is_named (map (λ n. n.now) (drop (c.loop-name.name-index + 1) c.args.names.now)) name) c.in_ok-insert.ensures.keys c.in_ok-name_key.ensures
    ∙ ap (λ b. has_key (record { keys = c.loop-name.keys }) (key_of name) || b) (sym (at_drop_more (λ l. is_named (map (λ n. n.now) l) name) c.args.names.now c.loop-name.name-index _ c.loop-name-test.true))
    ∙ c.loop-name.invariant name
