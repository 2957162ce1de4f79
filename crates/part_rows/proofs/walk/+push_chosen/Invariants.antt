use Rattle.std.proofs.Common.{◌≡◌, ◌++◌, ℕ, List, map}
use Rattle.std.specs.List.{filter}
use Rattle.mime_tree.specs.Trees.{IsPart}
use Rattle.mime_tree.specs.declared.span.Span.{Span}
use Rattle.part_rows.specs.Chosen.{chooses}
use Rattle.part_rows.specs.PartViews.{Fallback, parts_at, view_of}
use Rattle.part_rows.proofs.Walking.{kids_left}
use Rattle.part_rows.proofs.walk.+push_chosen.Given as goal

abbrev pub invariant-loop-kid : goal.invariant-loop-kid
invariant-loop-kid l = (levels : ℕ) (bytes : List ℕ) (fallback : Fallback) (path : List ℕ) (span : Span) → IsPart levels bytes fallback path span l.part
    → map (λ p. view_of bytes p.now) l.parts.items ++ filter (chooses l.choice) (kids_left levels l.kid-index bytes fallback path span)
    ≡ map (λ p. view_of bytes p.now) l.fn.parts.items ++ filter (chooses l.choice) (parts_at levels bytes fallback path span)
