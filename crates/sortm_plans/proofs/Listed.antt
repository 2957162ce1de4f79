-- What words choose of a listing are messages, each once; and the last of a listing is one too.
use Rattle.std.proofs.Common.{◌≡◌, ◌+◌, ◌-◌, ℕ, true, List, [], ◌∷◌, Ok, arith, false}
use Rattle.mh_sequences.specs.Runs.{AreRuns, has}
use Rattle.mh_sequences.specs.Sequences.{Marked}
use Rattle.mh_sequences.specs.declared.run.Run.{Run}
use Rattle.msg_ranges.proofs.Rising.{Rise, lists, none_below}
use Rattle.message_places.specs.Places.{AreDistinct, AreMsgNums}
use Rattle.refile_plans.proofs.Selected.{chosen_listed, chosen_numbers, chosen_rise}
use Rattle.refile_plans.specs.declared.job.RmmJob.{RmmJob}
use Rattle.sortm_plans.specs.Sort.{chosen_from}
use Rattle.sortm_plans.specs.declared.job.SortJob.{SortJob}
use Rattle.mh_base.proofs.NumberTests.{AreNumbers}

pub rise_distinct : (low : ℕ) (ns : List ℕ) → Rise low ns → AreDistinct ns
rise_distinct low [] rise = tt
rise_distinct low (n ∷ ns) rise = (none_below (n + 1) ns rise.1 n (omega arith), rise_distinct (n + 1) ns rise.1)

pub numbers_good : (ns : List ℕ) → AreNumbers ns → AreMsgNums ns
numbers_good [] ok = tt
numbers_good (n ∷ ns) ok = (ok.0, numbers_good ns ok.1)

-- words choose as they do for `rmm`
abbrev pub like : SortJob → RmmJob
like job = record { folder = job.folder; specs = job.specs; unlink = false; negation = job.negation }

module _ (job : SortJob) (listing : List Run) (m : Marked) (numbers : List ℕ) (is : chosen_from job listing m ≡ Ok numbers) where
  pub sort_rise : Rise 1 numbers
  sort_rise = chosen_rise (like job) listing m numbers is

  pub sort_distinct : AreDistinct numbers
  sort_distinct = rise_distinct 1 numbers sort_rise

  pub sort_good : AreRuns listing → AreMsgNums numbers
  sort_good runs = numbers_good numbers (chosen_numbers (like job) listing m numbers is runs)

  pub sort_listed : (n : ℕ) → lists numbers n ≡ true → has listing n ≡ true
  sort_listed n e = chosen_listed (like job) listing m numbers is n e
