-- Drafts: the tree that a draft denotes, or its first wrong line.
use Rattle.std.specs.Prelude.{ℕ, zero, suc, ◌+◌, List, [], ◌∷◌, ◌++◌, map, Option, Some, None, option_map}
use Rattle.mail_headers.specs.Message.{body_of}
use Rattle.mh_drafts.specs.declared.item.Item.{Item}
use Rattle.mh_drafts.specs.declared.item.Item.TheVariants.{Leaf as leaf_item, Begin as begin_item, End as end_item}
use Rattle.mh_drafts.specs.declared.item.Leaf.{Leaf}
use Rattle.mh_drafts.specs.declared.kind.Kind.{Kind}
use Rattle.mh_drafts.specs.Headers.{line_at, reserved_in}
use Rattle.mh_drafts.specs.Marks.{marks_in}
use Rattle.mh_drafts.specs.Signs.{first_wrong, sign_of}

-- parts, one behind the other: leaves, and multiparts with their own parts, of which there are some
pub data Parts : Type 0 where
  none : Parts
  leaf : Leaf → Parts → Parts
  multipart : Kind → Parts → Parts → Parts

-- the items that write these parts
unfoldable pub written : Parts → List Item
written none = []
written (leaf l more) = leaf_item l ∷ written more
written (multipart kind parts more) = begin_item kind ∷ (written parts ++ end_item ∷ written more)

-- there are some
abbrev pub AreSome : Parts → Type 0
AreSome none = ⊥
AreSome (leaf l more) = Unit {0}
AreSome (multipart kind parts more) = Unit {0}

-- each multipart has a part, and at most so many multiparts stand in one another
unfoldable pub AreSound : ℕ → Parts → Type 0
AreSound depth none = Unit {0}
AreSound depth (leaf l more) = AreSound depth more
AreSound zero (multipart kind parts more) = ⊥
AreSound (suc depth) (multipart kind parts more) = AreSome parts × AreSound depth parts × AreSound (suc depth) more

-- the number of the first wrong line of a body's lines, of which the first has this number
abbrev pub wrong_from : ℕ → List ℕ → Option ℕ
wrong_from first body = option_map (λ n. first + n) (first_wrong (map sign_of (marks_in body)))

abbrev pub wrong_with : List ℕ → Option (List ℕ) → Option ℕ
wrong_with bytes (Some reserved) = Some (line_at bytes reserved)
wrong_with bytes None = wrong_from (line_at bytes (body_of bytes)) (body_of bytes)

-- the number of a draft's first wrong line, from 1
unfoldable pub first_wrong_line : List ℕ → Option ℕ
first_wrong_line bytes = wrong_with bytes (reserved_in bytes)
