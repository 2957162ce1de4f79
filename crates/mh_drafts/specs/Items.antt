-- What stands in a draft: leaves, and where multiparts begin and end.
use Rattle.std.specs.Prelude.{ℕ, ◌||◌, Bool, false, List, [], ◌∷◌, ◌++◌, map, if◌then◌else◌}
use Rattle.mh_drafts.specs.declared.directive.Directive.{Directive}
use Rattle.mh_drafts.specs.declared.directive.Directive.TheVariants.{Begin, End, Part, Wrong}
use Rattle.mh_drafts.specs.declared.item.Item.{Item}
use Rattle.mh_drafts.specs.declared.item.Item.TheVariants.{Leaf as leaf_item, Begin as begin_item, End as end_item}
use Rattle.mh_drafts.specs.declared.item.Leaf.TheVariants.{Text as text_leaf}
use Rattle.mh_drafts.specs.declared.sign.Sign.{Sign}
use Rattle.mh_drafts.specs.declared.want.Want.{Want}
use Rattle.mh_drafts.specs.Marks.{Mark, plain, order, is_said}
use Rattle.mh_drafts.specs.Signs.{sign_of}

-- the text before the next directive, whether one of its lines isn't empty, and the items from that directive on
pub record Gathered : Type 0 where
  pub text : List ℕ
  pub said : Bool
  pub items : List Item

-- text before items: it is a part where one of its lines isn't empty
abbrev pub texted : List ℕ → Bool → List Item → List Item
texted text said items = if said then leaf_item (text_leaf text) ∷ items else items

abbrev pub all_of : Gathered → List Item
all_of g = texted g.text g.said g.items

-- text before what is gathered
abbrev pub prepended : List ℕ → Bool → Gathered → Gathered
prepended text said g = record { text = text ++ g.text; said = said || g.said; items = g.items }

-- a directive's item before others
abbrev pub item_before : Directive → List Item → List Item
item_before (Begin kind) items = begin_item kind ∷ items
item_before End items = end_item ∷ items
item_before (Part leaf want) items = leaf_item leaf ∷ items
item_before Wrong items = items

abbrev pub directed : Directive → List Item → Gathered
directed directive items = record { text = []; said = false; items = item_before directive items }

unfoldable pub gathered : List Mark → Gathered
gathered [] = record { text = []; said = false; items = [] }
gathered (plain line ∷ marks) = prepended line (is_said line) (gathered marks)
gathered (order directive ∷ marks) = directed directive (all_of (gathered marks))

-- the items of these lines: the lines between directives are one text
abbrev pub items_of : List Mark → List Item
items_of marks = all_of (gathered marks)

abbrev pub want_before : Directive → List Want → List Want
want_before (Begin kind) wants = wants
want_before End wants = wants
want_before (Part leaf want) wants = want ∷ wants
want_before Wrong wants = wants

-- what these lines want, in their order
unfoldable pub wants_of : List Mark → List Want
wants_of [] = []
wants_of (plain line ∷ marks) = wants_of marks
wants_of (order directive ∷ marks) = want_before directive (wants_of marks)

-- all that lines say
pub record Whole : Type 0 where
  pub items : List Item
  pub wants : List Want
  pub signs : List Sign

abbrev pub whole_of : List Mark → Whole
whole_of marks = record { items = items_of marks; wants = wants_of marks; signs = map sign_of marks }
