use Rattle.std.proofs.Common.{rules}
use Rattle.std.proofs.lemmas.Iterator.Search.{find_from_yields_List}
use Rattle.std.proofs.lemmas.Iterator.Splits.{YieldsList-from_slice_split}
use Rattle.mh_sequences.specs.Lists.{is_listed}
use Rattle.mh_sequences.proofs.lists.first_item.Goals as goal
use Rattle.mh_base.specs.Characters.{is_blank}

pub returns : goal.returns
returns c =
    find_from_yields_List is_listed _ _ _ c.find.ensures.ran
    (YieldsList-from_slice_split _ is_blank c.args.text.now c.split.ensures.rest c.split.ensures.done c.split.ensures.closure (λ x b q k. search rules))
    (λ x b q k. search rules)
