-- Words of the program's own, as characters.
use Rattle.std.proofs.Common.{◌≡◌, refl}
use Rattle.std.specs.Prelude.{codes}
use Rattle.std.specs.Str.{chars}

pub chars_inbox : chars (codes "inbox") ≡ codes "inbox"
unfolding chars
chars_inbox = refl
