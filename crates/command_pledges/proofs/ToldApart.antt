-- Folders whose names are texts: one folder, or other entries.
use Rattle.std.proofs.Common.{◌≡◌, inl, inr, ℕ, Bool, true, false, List, refl, bytes_eq}
use Rattle.mh_sequences.specs.Reading.{suffix}
use Rattle.folder_files.proofs.Names.{bytes_true}
use Rattle.opening_plans.proofs.CommitMinds.{IsTold}
use Rattle.command_pledges.specs.CommandMarks.{IsTextName}
use Rattle.command_pledges.proofs.SuffixesApart.{suffix_same}

-- a folder whose name is a text is the one that is acted on, or has other entries
pub told_by : (acted other : List ℕ) → IsTextName acted → IsTextName other → IsTold acted other
told_by acted other real text = go (bytes_eq (suffix other) (suffix acted)) refl
  where
    go : (b : Bool) → bytes_eq (suffix other) (suffix acted) ≡ b → IsTold acted other
    go true e = inl (suffix_same other acted text real (bytes_true (suffix other) (suffix acted) e))
    go false e = inr e
