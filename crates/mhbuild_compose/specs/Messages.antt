-- The message that a draft becomes.
use Rattle.std.specs.Prelude.{◌≡◌, ℕ, ◌-◌, ◌==◌, ◌||◌, codes, List, [], ◌∷◌, ◌++◌, length, slice_index, None, if◌then◌else◌}
use Rattle.mh_drafts.specs.declared.item.Item.{Item}
use Rattle.mh_drafts.specs.Drafts.{Parts, written as items_written}
use Rattle.mhbuild_compose.specs.declared.given.Given.{Given}
use Rattle.mhbuild_compose.specs.Eights.{flags_of}
use Rattle.mhbuild_compose.specs.Keys.{AreKeys, begins_in, takes_any}
use Rattle.mhbuild_compose.specs.Roots.{all_nodes}
use Rattle.mhbuild_compose.specs.Trees.{root, tree_of, tree_text}
use Rattle.mhbuild_compose.specs.Written.{written}

-- the fields, with a line feed behind the last where it has none
abbrev pub ended : List ℕ → List ℕ
ended fields = if length fields == 0 || slice_index fields (length fields - 1) == 10 then fields else fields ++ 10 ∷ []

-- what stands before the root
abbrev pub opened : List ℕ → List ℕ
opened fields = ended fields ++ codes "MIME-Version: 1.0\n"

-- the message of these fields and items with what is given: the fields and the root, whose multiparts have the least
-- keys, in their order, that no line of a part takes. Where the items write parts, the root is their tree, and its text
-- that of a tree
pub record IsComposed (fields : List ℕ) (items : List Item) (givens : List Given) (run : ℕ)
    (message : List ℕ) : Type 0 where
  pub keys : List ℕ
  pub are_keys : AreKeys (takes_any run (all_nodes items givens)) 0 keys
  pub are_all : length keys ≡ begins_in (all_nodes items givens)
  pub is_tree : (parts : Parts) → items ≡ items_written parts
      → message ≡ opened fields ++ tree_text run None (root (tree_of parts givens)) keys
  pub is_written : message ≡ opened fields
      ++ written run [] (flags_of (all_nodes items givens)) keys (all_nodes items givens)
