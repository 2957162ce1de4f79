-- The bytes of which all but the first `From ` are kept.
use Rattle.std.specs.Prelude.{ℕ, List, [], ◌++◌, codes, Option, Some, None}
use Rattle.std.proofs.Common.{Bor}

abbrev pub text_with : Option (Bor (List ℕ)) → List ℕ
text_with None = []
text_with (Some rest) = codes "From " ++ rest.now
