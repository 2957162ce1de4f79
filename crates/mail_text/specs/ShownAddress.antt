-- What an address shows.
use Rattle.std.specs.Prelude.{ℕ, ◌==◌, List, ◌∷◌, ◌++◌, length, if◌then◌else◌}
use Rattle.mail_text.specs.declared.address.Shown.{Shown}
use Rattle.mail_text.specs.Addresses.{first_address, note_of, pers_of, addr_of, mbox_in, host_in}

-- the parts of a value's first address
abbrev pub shown_address : List ℕ → Shown
shown_address value =
    let address = first_address value in
    record {
      pers = pers_of address;
      mbox = mbox_in (addr_of address);
      host = host_in (addr_of address);
      note = note_of address;
    }

-- mbox@host, or mbox alone where there is no host
abbrev pub addr_text : Shown → List ℕ
addr_text shown = if length shown.host == 0 then shown.mbox else shown.mbox ++ 64 ∷ shown.host

-- pers; where it is empty the note; where both are empty the address
abbrev pub friendly_text : Shown → List ℕ
friendly_text shown =
    if length shown.pers == 0 then (if length shown.note == 0 then addr_text shown else shown.note) else shown.pers
