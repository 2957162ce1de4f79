-- What every command begins with: the readings of the profile and of the context.
use Rattle.std.proofs.Common.{ℕ, List, [], ◌∷◌}
use Rattle.mh_profile.specs.declared.named_value.NamedValue.{NamedValue}
use Rattle.folder_files.specs.Deeds as deeds
use Rattle.folder_files.specs.declared.place.Place.{Place}
use Rattle.folder_files.specs.declared.place.Place.TheVariants.{Home, Mail}
use Rattle.folder_files.specs.declared.step.Answer.{Answer}
use Rattle.folder_files.specs.declared.step.Step.{Step}
use Rattle.folder_files.specs.declared.step.Step.TheVariants.{Read}
use Rattle.file_plans.specs.Runs.{Deed, Did}
use Rattle.file_plans.specs.StaysCareful.{only_looks}
use Rattle.file_plans.proofs.Acting.{acts}
use Rattle.step_plans.specs.ContextCommit.{LIMIT_BYTES, context_name}
use Rattle.step_plans.specs.Pledges.{MayAsk, Pledge}
use Rattle.message_puts.proofs.FirstPuts.{AreOnce, none_once, once_asked}
use Rattle.command_plans.specs.Profile.{path_of, profile_name}

-- a reading is free to a run
pub may_read : (w : Pledge) (own : List deeds.Deed) (p : Place) (n : List ℕ) (limit : ℕ) → MayAsk w own (Read p n limit)
may_read w own p n limit = record { is_own = only_looks tt; marks = tt; steps = λ no. absurd (no tt) }

abbrev pub profile_step : Step
profile_step = Read Home profile_name LIMIT_BYTES

abbrev pub context_step : List NamedValue → Step
context_step profile = Read (Mail (path_of profile)) context_name LIMIT_BYTES

-- the deeds of two readings
abbrev pub two_readings : List NamedValue → Answer → Answer → List Deed
two_readings profile a b = Did profile_step a ∷ (Did (context_step profile) b ∷ [])

-- they put nothing
pub two_once : (w : Pledge) (profile : List NamedValue) (a b : Answer) → AreOnce w.run (acts (two_readings profile a b))
two_once w profile a b =
    once_asked w (acts (Did profile_step a ∷ [])) (context_step profile) b (may_read w (acts (Did profile_step a ∷ [])) (Mail (path_of profile)) context_name LIMIT_BYTES)
    (once_asked w [] profile_step a (may_read w [] Home profile_name LIMIT_BYTES) (none_once w.run))
