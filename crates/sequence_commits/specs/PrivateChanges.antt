-- The changes of the context that write a folder's private sequences.
use Rattle.std.specs.Prelude.{ℕ, ◌&&◌, Bool, not, List, ◌++◌, None, Some, filter, map}
use Rattle.mh_profile.specs.declared.named_value.NamedValue.{NamedValue}
use Rattle.mh_profile.specs.Validity.{has_name}
use Rattle.mh_sequences.specs.Printing.{private_entries}
use Rattle.mh_sequences.specs.Reading.{suffix}
use Rattle.mh_sequences.specs.Sequences.{Sequence}
use Rattle.step_plans.specs.declared.change.ChangeEntry.{ChangeEntry}
use Rattle.sequence_commits.specs.FolderEntries.{is_of_folder}

-- the entry gets its value
abbrev pub given : NamedValue → ChangeEntry
given e = record { name = e.name; value = Some e.value }

-- the entry of this name goes
abbrev pub gone : List ℕ → ChangeEntry
gone name = record { name = name; value = None }

-- the name of an entry of the folder that is none of these
abbrev pub is_left_over : List ℕ → List NamedValue → List ℕ → Bool
is_left_over ending kept name = is_of_folder ending name && not (has_name name kept)

abbrev pub entry_names : List NamedValue → List (List ℕ)
entry_names entries = map (λ e. e.name) entries

-- of the folder with this ending these entries get their values, and all others go
unfoldable pub changes_to : List ℕ → List NamedValue → List NamedValue → List ChangeEntry
changes_to ending kept entries = map given kept ++ map gone (filter (is_left_over ending kept) (entry_names entries))

-- the changes that write the private sequences of a folder, where the context has these entries
abbrev pub private_changes : List ℕ → List Sequence → List NamedValue → List ChangeEntry
private_changes folder users entries = changes_to (suffix folder) (private_entries (suffix folder) users) entries
