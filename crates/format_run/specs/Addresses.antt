-- The parts of addresses.
use Rattle.std.specs.Prelude.{ℕ, List}
use Rattle.mail_text.specs.ShownAddress.{addr_text, friendly_text, shown_address}

-- how the first address of a value is shown to a reader
abbrev pub friendly_in : List ℕ → List ℕ
friendly_in value = friendly_text (shown_address value)

abbrev pub addr_in : List ℕ → List ℕ
addr_in value = addr_text (shown_address value)
