-- What a draft may be called.
use Rattle.std.specs.Prelude.{ℕ, ◌&&◌, Bool, nat_le, List, length}
use Rattle.std.specs.List.{list_all}
use Rattle.mh_base.specs.Entries.{kind_of}
use Rattle.mh_base.specs.Names.{is_name_byte}
use Rattle.folder_files.specs.Named.{is_other}

-- so short that a comma, it and `.orig` are a name too
abbrev pub has_draft_length : List ℕ → Bool
has_draft_length name = nat_le 1 (length name) && nat_le (length name) 249

-- the name of a directory entry, of such a length, to which the program gives no meaning
unfoldable pub is_draft_name : List ℕ → Bool
is_draft_name name = has_draft_length name && (list_all is_name_byte name && is_other (kind_of name))
