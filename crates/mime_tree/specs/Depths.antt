-- How deep a place lies in comments.
use Rattle.std.specs.Prelude.{ℕ, Bool, true, false}
use Rattle.mime_tree.specs.declared.gap.Nesting.{Nesting}
use Rattle.mime_tree.specs.declared.gap.Nesting.TheVariants.{Between, Inside, Protected}

abbrev pub depth_of : Nesting → ℕ
depth_of Between = 0
depth_of (Inside depth) = depth
depth_of (Protected depth) = depth

abbrev pub is_between : Nesting → Bool
is_between Between = true
is_between other = false
