-- The bytes of a span.
use Rattle.std.specs.Prelude.{ℕ, List, length, take, drop}
use Rattle.mime_tree.specs.declared.span.Span.{Span}

abbrev pub text_at : List ℕ → Span → List ℕ
text_at bytes span = drop span.from (take span.to bytes)

abbrev pub whole : List ℕ → Span
whole bytes = record { from = 0; to = length bytes }
