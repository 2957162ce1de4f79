-- The context: its entries, changes of them, and the plan by which changes are committed.
use Rattle.std.specs.Prelude.{◌≡◌, ◌≤◌, ℕ, drop, Bool, true, false, ◌&&◌, nat_lt, bytes_eq, List, [], ◌∷◌, length, Option, None, Some, Ok, Err, codes, if◌then◌else◌}
use Rattle.mh_profile.specs.declared.named_value.NamedValue.{NamedValue}
use Rattle.mh_profile.specs.Changes.{value_of, with_entry, without, without_all}
use Rattle.mh_profile.specs.Names.{IsFieldName}
use Rattle.mh_profile.specs.Printing.{printed}
use Rattle.mh_profile.specs.Reading.{entries_in}
use Rattle.mh_profile.specs.Values.{IsUnfolded}
use Rattle.folder_files.specs.declared.place.Place.{Place}
use Rattle.file_plans.specs.Asking.{read, make_folder}
use Rattle.file_plans.specs.Plan.{Return, Recall, lifted, ◌>>=◌}
use Rattle.file_plans.specs.declared.answers.Reading.{Reading}
use Rattle.file_plans.specs.declared.answers.Reading.TheVariants as reading
use Rattle.step_plans.specs.declared.change.ChangeEntry.{ChangeEntry}
use Rattle.step_plans.specs.declared.fault.PlanFault.TheVariants as fault
use Rattle.step_plans.specs.PlanFaults.{of_stop, Planned}
use Rattle.step_plans.specs.Hands.{known}
use Rattle.step_plans.specs.Locking.{locked, let_go, temps_cleared}
use Rattle.step_plans.specs.Replacing.{replaced}

-- the name of the context's file
abbrev pub context_name : List ℕ
context_name = codes "context"

-- the greatest text that is read or written, in bytes
abbrev pub LIMIT_BYTES : ℕ
LIMIT_BYTES = 67108864

-- how often the mail directory's lock is tried
abbrev pub TRIES : ℕ
TRIES = 64

-- one change of entries: the entry of this name has the value, or is gone
abbrev pub changed_by : List ℕ → Option (List ℕ) → List NamedValue → List NamedValue
changed_by name None es = without name es
changed_by name (Some value) es = with_entry name value es

-- these changes, one after another
unfoldable pub changed : List ChangeEntry → List NamedValue → List NamedValue
changed [] es = es
changed (c ∷ cs) es = changed cs (changed_by c.name c.value es)

-- the first changes take the entries of these names away
abbrev pub AreGoneFirst : List (List ℕ) → List ChangeEntry → Type 0
AreGoneFirst names cs =
    (length names ≤ length cs)
    × ((es : List NamedValue) → changed cs es ≡ changed (drop (length names) cs) (without_all names es))

-- a new value has a field's name and stands on one line
abbrev pub IsChangeBy : List ℕ → Option (List ℕ) → Type 0
IsChangeBy name None = Unit {0}
IsChangeBy name (Some value) = IsFieldName name × IsUnfolded value

abbrev pub AreChanges : List ChangeEntry → Type 0
AreChanges [] = Unit {0}
AreChanges (c ∷ cs) = IsChangeBy c.name c.value × AreChanges cs

abbrev pub same_value : Option (List ℕ) → Option (List ℕ) → Bool
same_value None None = true
same_value None (Some b) = false
same_value (Some a) None = false
same_value (Some a) (Some b) = bytes_eq a b

-- each change is what the entries say already
unfoldable pub says : List NamedValue → List ChangeEntry → Bool
says es [] = true
says es (c ∷ cs) = same_value (value_of c.name es) c.value && says es cs

-- the same of the entries that this run last read or wrote; false where it has seen none
abbrev pub settled : List ChangeEntry → Option (List NamedValue) → Bool
settled cs None = false
settled cs (Some es) = says es cs

-- the entries of a context that was read; none where there is no context
abbrev pub entries_by : Reading → Planned (List NamedValue)
entries_by (reading.Content bytes) = Return (Ok (entries_in bytes))
entries_by (reading.Long l) = Return (Err (fault.TooLarge l))
entries_by reading.Gone = Return (Ok [])

unfoldable pub context_read : Place → Planned (List NamedValue)
context_read p = do
  reading ← lifted of_stop (read p context_name LIMIT_BYTES)
  entries_by reading

-- the text takes the context's place, where it is not too long
unfoldable pub context_replaced : ℕ → Place → List ℕ → Planned Unit
context_replaced run p text =
    if nat_lt LIMIT_BYTES (length text) then Return (Err (fault.TooLarge (length text)))
    else replaced run p context_name text

-- under its lock, a mail directory's context becomes what the changes make of it
unfoldable pub committed : ℕ → Place → List ChangeEntry → Planned Unit
committed run p cs = do
  made ← lifted of_stop (make_folder p)
  held ← locked p TRIES
  clear ← temps_cleared p
  es ← context_read p
  new ← context_replaced run p (printed (changed cs es))
  free ← let_go p
  known (changed cs es)

abbrev pub commit_by : ℕ → Place → List ChangeEntry → Bool → Planned Unit
commit_by run p cs true = Return (Ok tt)
commit_by run p cs false = committed run p cs

-- no step where the entries say so already
unfoldable pub commit_context : ℕ → Place → List ChangeEntry → Planned Unit
commit_context run p cs = Recall (λ h. commit_by run p cs (settled cs h.context))
