-- What a run keeps beside the files, and its temporary names.
use Rattle.std.specs.Prelude.{ℕ, ◌+◌, ◌^◌, nat_lt, Bool, true, false, List, Some, Ok, Err}
use Rattle.mh_base.specs.Entries.{entry_text}
use Rattle.mh_base.specs.declared.entry.Entry.TheVariants.{Temp}
use Rattle.mh_profile.specs.declared.named_value.NamedValue.{NamedValue}
use Rattle.folder_files.specs.declared.place.Place.{Place}
use Rattle.folder_files.specs.declared.place.Place.TheVariants.{Mail}
use Rattle.file_plans.specs.Plan.{Hand as Kept, Return, Recall, Note}
use Rattle.step_plans.specs.declared.fault.PlanFault.TheVariants as fault
use Rattle.step_plans.specs.PlanFaults.{Planned}

-- a run: its number, its mail directory, and what it keeps
pub record Run : Type 0 where
  pub run : ℕ
  pub mail : List ℕ
  pub kept : Kept

-- the mail directory
abbrev pub mail_place : Run → Place
mail_place r = Mail r.mail

-- the same run, with this kept
abbrev pub keeping : Run → Kept → Run
keeping r h = record { run = r.run; mail = r.mail; kept = h }

-- the hand that has used its next number
abbrev pub used : Kept → Kept
used h = record { next = h.next + 1; context = h.context }

-- the hand that knows the context's entries
abbrev pub knowing : List NamedValue → Kept → Kept
knowing es h = record { next = h.next; context = Some es }

-- the run's temporary name of this number
abbrev pub temp_name : ℕ → ℕ → List ℕ
temp_name run k = entry_text (Temp run k)

-- the next temporary name, while there is a number
abbrev pub named_by : ℕ → Kept → Bool → Planned (List ℕ)
named_by run h true = Note (used h) (Return (Ok (temp_name run h.next)))
named_by run h false = Return (Err fault.Memory)

unfoldable pub named : ℕ → Planned (List ℕ)
named run = Recall (λ h. named_by run h (nat_lt h.next (2 ^ 64)))

-- the context has these entries from here on
unfoldable pub known : List NamedValue → Planned Unit
known es = Recall (λ h. Note (knowing es h) (Return (Ok tt)))
