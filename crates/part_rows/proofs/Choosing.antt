-- Wanted paths that are some.
use Rattle.std.proofs.Common.{◌≡◌, ℕ, false, List, [], ◌∷◌, length}
use Rattle.std.specs.Prelude.{◌==◌, Bool}
use Rattle.part_rows.specs.Choices.{is_listed, is_named, is_stored}
use Rattle.part_rows.specs.PartViews.{PartView}

pub listed_where_named : (wanted : List (List ℕ)) (part : PartView) (r : Bool) → (length wanted == 0) ≡ false → r ≡ is_named wanted part → r ≡ is_listed wanted part
listed_where_named [] part r some is = absurd (cc some)
listed_where_named (path ∷ paths) part r some is = is

pub stored_where_named : (wanted : List (List ℕ)) (part : PartView) (r : Bool) → (length wanted == 0) ≡ false → r ≡ is_named wanted part → r ≡ is_stored wanted part
stored_where_named [] part r some is = absurd (cc some)
stored_where_named (path ∷ paths) part r some is = is
