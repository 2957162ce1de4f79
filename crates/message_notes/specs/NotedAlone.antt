-- What messages that get lines in front make of contents alone.
use Rattle.std.specs.Prelude.{◌++◌, ℕ, List, Some, None}
use Rattle.mh_base.specs.Entries.{entry_text}
use Rattle.mh_base.specs.declared.entry.Entry.TheVariants.{Held, Number}
use Rattle.folder_files.specs.declared.place.Place.{Place}
use Rattle.file_plans.specs.Contents.{Contents, with_text}

-- the message of this number has these lines in front of its bytes, and the run doesn't hold it aside
abbrev pub noted_in : Contents → Place → ℕ → List ℕ → ℕ → List ℕ → Contents
noted_in c p run lines n bytes =
    with_text (with_text c p (entry_text (Number n)) (Some (lines ++ bytes))) p (entry_text (Held run n)) None
