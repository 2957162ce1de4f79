-- What a folder's text and the context are to say of its sequences.
use Rattle.std.specs.Prelude.{ℕ, ◌&&◌, Bool, true, false, bytes_eq, List, [], ◌∷◌}
use Rattle.mh_profile.specs.declared.named_value.NamedValue.{NamedValue}
use Rattle.mh_sequences.specs.Printing.{private_entries, text_of}
use Rattle.mh_sequences.specs.Reading.{suffix}
use Rattle.mh_sequences.specs.Sequences.{Marked}

-- the same names with the same values, in the same order
unfoldable pub same_entries : List NamedValue → List NamedValue → Bool
same_entries [] [] = true
same_entries [] (y ∷ ys) = false
same_entries (x ∷ xs) [] = false
same_entries (x ∷ xs) (y ∷ ys) = bytes_eq x.name y.name && bytes_eq x.value y.value && same_entries xs ys

-- this text and these entries are what is told of the sequences
abbrev pub tells : List ℕ → List NamedValue → List ℕ → Marked → Bool
tells text entries folder new =
    bytes_eq text (text_of new) && same_entries entries (private_entries (suffix folder) new.users)

-- the folder's text and its private entries are alike
abbrev pub same_told : List ℕ → Marked → Marked → Bool
same_told folder old new = tells (text_of old) (private_entries (suffix folder) old.users) folder new
