-- The line of a status, as it was put.
use Rattle.std.proofs.Common.{◌≡◌, inl, inr, ℕ, List, [], Option, Some, None, Result, Ok, Err, refl, sym, subst, append-nil}
use Rattle.std.specs.Prelude.{IsErrOf}
use Rattle.mh_base.specs.Counts.{Rose}
use Rattle.mh_base.specs.Streams.{SinkState, Adds, AddsPart, Puts}
use Rattle.mh_base.specs.declared.streams.SinkFault.{SinkFault}
use Rattle.mh_base.specs.declared.streams.SinkFault.TheVariants as sink
use Rattle.step_plans.specs.declared.command_fault.CommandFault.{CommandFault}
use Rattle.step_plans.specs.declared.command_fault.CommandFault.TheVariants as fault
use Rattle.mh_tools.specs.FollowsItsPlan.{TellsStatus, told_status}
use Rattle.mh_tools.specs.Lines.{error_line_of}
use Rattle.mh_tools.specs.Status.{fault_status}
use Rattle.mh_tools.specs.declared.status.Status.{Status}
use Rattle.mh_tools.specs.declared.status.Status.TheVariants.{Done, Refused, Faulted, Locked, Meddled, NoMemory}

pub adds_none : (t : Option (List ℕ)) → Adds t t []
adds_none None = tt
adds_none (Some t) = sym (append-nil t)

none_put : (old new : Option (List ℕ)) (line : List ℕ) → new ≡ old → AddsPart old new line
none_put old new line e = ([], line, refl, rw e (adds_none old))

all_put : (old new : Option (List ℕ)) (line : List ℕ) → Adds old new line → AddsPart old new line
all_put old new line a = (line, [], append-nil line, a)

-- a fault is never Done
pub fault_undone : (k : CommandFault) → fault_status k ≡ Done → ⊥
fault_undone (fault.Refused r) e = cc
fault_undone (fault.Faulted which) e = cc
fault_undone (fault.Locked p) e = cc
fault_undone (fault.Meddled p y) e = cc
fault_undone fault.Memory e = cc

module _ (word : Option (List ℕ)) (e d : SinkState) where
  put_whole : (s : Status) → (s ≡ Done → ⊥) → Adds e.told d.told (error_line_of word s) → TellsStatus word e d s
  put_whole Done never a = absurd (never refl)
  put_whole (Refused r) never a = inl a
  put_whole (Faulted which) never a = inl a
  put_whole (Locked p) never a = inl a
  put_whole (Meddled p x) never a = inl a
  put_whole NoMemory never a = all_put e.told d.told (error_line_of word NoMemory) a

  put_part : (s : Status) → (s ≡ Done → ⊥) → AddsPart e.told d.told (error_line_of word s) → Rose e.faults d.faults → TellsStatus word e d s
  put_part Done never a rose = absurd (never refl)
  put_part (Refused r) never a rose = inr (a, rose)
  put_part (Faulted which) never a rose = inr (a, rose)
  put_part (Locked p) never a rose = inr (a, rose)
  put_part (Meddled p x) never a rose = inr (a, rose)
  put_part NoMemory never a rose = a

  pub line_told : (line : List ℕ) (r : Result Unit SinkFault) (s : Status) → (s ≡ Done → ⊥) → line ≡ error_line_of word s → Puts e.told d.told line r → (IsErrOf r sink.Failed → Rose e.faults d.faults) → TellsStatus word e d (told_status r s)
  line_told line (Ok tt) s never is put cause = put_whole s never (subst (Adds e.told d.told) is put)
  line_told line (Err sink.Failed) s never is put cause = put_part s never (subst (AddsPart e.told d.told) is put) (cause refl)
  line_told line (Err sink.Memory) s never is put cause = none_put e.told d.told (error_line_of word NoMemory) put
