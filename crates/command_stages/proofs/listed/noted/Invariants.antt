use Rattle.std.proofs.Common.{◌≡◌, ◌||◌, ℕ, drop}
use Rattle.mh_sequences.specs.Runs.{has}
use Rattle.file_plans.specs.Sightings.{has_number}
use Rattle.command_stages.proofs.listed.noted.Given as goal

abbrev pub invariant-loop-name : goal.invariant-loop-name
invariant-loop-name l = (n : ℕ) → has l.pile n || has_number n (drop l.name-index l.names) ≡ has_number n l.names
