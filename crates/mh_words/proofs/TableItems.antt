-- What is read is of the table.
use Rattle.std.proofs.Common.{ℕ, List, inl, inr}
use Rattle.std.specs.Prelude.{All}
use Rattle.std.proofs.lemmas.List.Elements.{All-nil, All-cons}
use Rattle.mh_words.specs.declared.item.Item.{Item}
use Rattle.mh_words.specs.declared.table.Kind.{Kind}
use Rattle.mh_words.specs.declared.table.SwitchTable.{SwitchTable}
use Rattle.mh_words.specs.Items.{HasKind, IsItemOf}
use Rattle.mh_words.specs.Switches.{IsSwitch}
use Rattle.mh_words.specs.Readings.{Takes, takes_folder, takes_message, takes_flag, takes_value, takes_component, Reads, reads_none, reads_next}

module _ (table : SwitchTable) where
  has_kind : (name : List ℕ) (index : ℕ) (kind : Kind) → IsSwitch table.switches name index kind → HasKind table.switches index kind
  has_kind name index kind (inl full) = (name, full.there)
  has_kind name index kind (inr only) = (only.name, only.there)

  item_of : {place after : ℕ} {words left : List (List ℕ)} {item : Item} → Takes table place words item left after → IsItemOf table item
  item_of (takes_folder f) = f
  item_of (takes_message m) = m
  item_of (takes_flag w s) = has_kind _ _ _ s
  item_of (takes_value w s) = has_kind _ _ _ s
  item_of (takes_component k) = k.allowed

  pub items_of : {place : ℕ} {words : List (List ℕ)} {items : List Item} → Reads table place words items → All (IsItemOf table) items
  items_of reads_none = All-nil (IsItemOf table)
  items_of (reads_next t r) = All-cons (IsItemOf table) _ _ (item_of t) (items_of r)
