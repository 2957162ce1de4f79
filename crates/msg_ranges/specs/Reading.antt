-- Words that were read.
use Rattle.std.specs.Prelude.{◌≡◌, ℕ, Option, None, Some, List}
use Rattle.std.specs.Borrow.{Bor}
use Rattle.msg_ranges.specs.Forms.{halves}

-- a text was cut at the first such byte, or has none
abbrev pub AreHalves : ℕ → List ℕ → Option (Bor (List ℕ) × Bor (List ℕ)) → Type 0
AreHalves mark text None = halves mark text ≡ None
AreHalves mark text (Some p) = halves mark text ≡ Some (record { front = p.0.now; back = p.1.now })
