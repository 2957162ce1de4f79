-- Runs that are calls of `mh`.
use Rattle.std.specs.Prelude.{ℕ, List}
use Rattle.mh_profile.specs.declared.named_value.NamedValue.{NamedValue}
use Rattle.folder_files.specs.declared.event.Event.{Event}
use Rattle.folder_files.specs.declared.world.World.{World}
use Rattle.step_plans.specs.Pledges.{Pledge}
use Rattle.step_plans.specs.Safety.{CommitsItsMarks}
use Rattle.command_pledges.specs.CommandPledge.{command_pledge}
use Rattle.command_plans.specs.declared.caller.Caller.{Caller}

-- what a call of `mh` began with: who called, the words, and the entries of the profile and of the context that it read
pub record Calling : Type 0 where
  pub caller : Caller
  pub words : List (List ℕ)
  pub profile : List NamedValue
  pub context : List NamedValue

-- what it pledges of its steps
abbrev pub pledges_of : (ℕ → Calling) → ℕ → Pledge
pledges_of calls run = command_pledge run (calls run).caller (calls run).words (calls run).profile (calls run).context

-- each run commits as its call pledges; so does one that commits nothing
abbrev pub AreCalls : (ℕ → Calling) → World → List Event → Type 0
AreCalls calls start past = (run : ℕ) → CommitsItsMarks (pledges_of calls run) start past
