-- Which folder's entry the entry of a private sequence is.
use Rattle.std.proofs.Common.{◌≡◌, ℕ, Bool, true, false, List, [], ◌∷◌, ◌++◌, drop, refl, ◌∙◌, ap, arith, bytes_eq, ne_eqb}
use Rattle.std.specs.Prelude.{flat_map, not}
use Rattle.std.specs.Char.{is_ascii_alphanumeric}
use Rattle.std.specs.List.{list_all}
use Rattle.std.specs.Str.{encode_utf8_all}
use Rattle.std.proofs.Math.Seq.{drop-append_seam}
use Rattle.std.proofs.lemmas.Bool.{and_from, and_parts}
use Rattle.mh_sequences.specs.Lists.{is_no_dash}
use Rattle.mh_sequences.specs.Names.{is_seq_name}
use Rattle.mh_sequences.specs.Printing.{is_private, private_entries, private_entry}
use Rattle.mh_sequences.specs.Reading.{attribute, escape, suffix}
use Rattle.mh_sequences.specs.Sequences.{AreSequences, Sequence}
use Rattle.mh_sequences.proofs.AsciiNames.{low, name_bytes}
use Rattle.mh_sequences.proofs.ListText.{to_dash}
use Rattle.folder_files.proofs.Names.{bytes_self}
use Rattle.sequence_commits.specs.FolderEntries.{from_dash, is_of_folder}
use Rattle.opening_plans.proofs.MarksWritten.{AreOfFolder}
use Rattle.std.specs.Prelude.{filter, map, if◌then◌else◌}

not_dash : (b : ℕ) → is_ascii_alphanumeric b ≡ true → is_no_dash b ≡ true
not_dash b h = let r = low b h in ap not (ne_eqb b 45 (λ e. omega (arith, r.0, e)))

none_dash : (xs : List ℕ) → list_all is_ascii_alphanumeric xs ≡ true → list_all is_no_dash xs ≡ true
none_dash [] h = refl
none_dash (x ∷ xs) h = let parts = and_parts (is_ascii_alphanumeric x) (list_all is_ascii_alphanumeric xs) h in and_from (is_no_dash x) (list_all is_no_dash xs) (not_dash x parts.0) (none_dash xs parts.1)

behind_dash : (sequence ys : List ℕ) → is_seq_name sequence ≡ true → from_dash (sequence ++ (45 ∷ ys)) ≡ 45 ∷ ys
behind_dash sequence ys named =
    ap (λ k. drop k (sequence ++ (45 ∷ ys))) (to_dash sequence ys (none_dash sequence (name_bytes sequence named))) ∙ drop-append_seam sequence (45 ∷ ys)

behind_name : (sequence other : List ℕ) → is_seq_name sequence ≡ true → from_dash (sequence ++ suffix other) ≡ suffix other
unfolding suffix
behind_name sequence other named = behind_dash sequence (flat_map escape (encode_utf8_all other)) named

-- an entry of a folder's sequence is an entry of the folder with that ending
pub of_folder : (ending other sequence : List ℕ) → is_seq_name sequence ≡ true → is_of_folder ending (attribute (suffix other) sequence) ≡ bytes_eq (suffix other) ending
of_folder ending other sequence named = ap (λ z. bytes_eq z ending) (behind_name sequence other named)

pub entries_of_folder : (folder : List ℕ) (users : List Sequence) → AreSequences users → AreOfFolder (suffix folder) (private_entries (suffix folder) users)
entries_of_folder folder [] valid = tt
entries_of_folder folder (s ∷ users) valid = go (is_private s) (entries_of_folder folder users valid.2)
  where
    go : (b : Bool) → AreOfFolder (suffix folder) (private_entries (suffix folder) users) → AreOfFolder (suffix folder) (map (private_entry (suffix folder)) (if b then s ∷ filter is_private users else filter is_private users))
    go true rest = (of_folder (suffix folder) folder s.name valid.0.name ∙ bytes_self (suffix folder), rest)
    go false rest = rest
