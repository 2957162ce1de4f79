-- What a draft that was read has: its fields as they stand in it, the items that write the parts of its body, and what
-- these parts want, in order.
use Rattle.std.specs.Prelude.{ℕ, List}
use Rattle.mh_drafts.specs.declared.item.Item.{Item}
use Rattle.mh_drafts.specs.declared.want.Want.{Want}

pub record Drafted : Type 0 where
  pub fields : List ℕ
  pub items : List Item
  pub wants : List Want
