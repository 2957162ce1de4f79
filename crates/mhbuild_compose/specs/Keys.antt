-- The keys of boundaries.
use Rattle.std.specs.Prelude.{◌≡◌, ℕ, ◌+◌, ◌≤◌, ◌<◌, Bool, true, false, bytes_eq, codes, List, [], ◌∷◌, ◌++◌, take, Option, Some, None}
use Rattle.std.specs.List.{list_any}
use Rattle.mh_base.specs.Numbers.{hex}
use Rattle.mime_tree.specs.BoundaryLines.{behind_front, lines}
use Rattle.mhbuild_compose.specs.declared.node.Node.{Node}
use Rattle.mhbuild_compose.specs.declared.node.Node.TheVariants.{Leaf, Begin, End}
use Rattle.mhbuild_compose.specs.Boundaries.{mark_of}

-- two hyphens and what the boundaries of a run begin with
abbrev pub hyphened : ℕ → List ℕ
hyphened run = codes "--" ++ mark_of run

abbrev pub takes_behind : List ℕ → Option (List ℕ) → Bool
takes_behind digits None = false
takes_behind digits (Some rest) = bytes_eq digits (take 16 rest)

-- the line begins with the mark and the digits
abbrev pub takes : List ℕ → List ℕ → List ℕ → Bool
takes mark digits line = takes_behind digits (behind_front mark line)

-- a line of the leaf does, as it is encoded
abbrev pub node_takes : List ℕ → List ℕ → Node → Bool
node_takes mark digits (Leaf piece) = list_any (takes mark digits) (lines piece.body)
node_takes mark digits (Begin kind) = false
node_takes mark digits End = false

-- a line of a leaf begins with two hyphens and the boundary of this key
abbrev pub takes_any : ℕ → List Node → ℕ → Bool
takes_any run nodes key = list_any (node_takes (hyphened run) (hex 16 key)) nodes

-- the least key from one on that isn't taken
pub record IsLeastFree (taken : ℕ → Bool) (from key : ℕ) : Type 0 where
  pub above : from ≤ key
  pub free : taken key ≡ false
  pub least : (k : ℕ) → from ≤ k → k < key → taken k ≡ true

-- each key is the least one above the key before that isn't taken
unfoldable pub AreKeys : (ℕ → Bool) → ℕ → List ℕ → Type 0
AreKeys taken from [] = Unit {0}
AreKeys taken from (key ∷ keys) = IsLeastFree taken from key × AreKeys taken (key + 1) keys

-- one where a multipart begins; else none
abbrev pub is_begin : Node → ℕ
is_begin (Leaf piece) = 0
is_begin (Begin kind) = 1
is_begin End = 0

-- how many multiparts begin
unfoldable pub begins_in : List Node → ℕ
begins_in [] = 0
begins_in (node ∷ nodes) = is_begin node + begins_in nodes
