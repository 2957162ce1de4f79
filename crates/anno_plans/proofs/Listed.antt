-- What words choose of a listing are messages, each once; and the last of a listing is one too.
use Rattle.std.proofs.Common.{◌≡◌, inl, inr, ◌≤◌, ◌+◌, ◌-◌, ℕ, true, false, List, [], ◌∷◌, Ok, arith}
use Rattle.mh_sequences.specs.Runs.{AreRuns}
use Rattle.mh_sequences.specs.Sequences.{Marked}
use Rattle.mh_sequences.specs.declared.run.Run.{Run}
use Rattle.msg_ranges.proofs.Rising.{Rise, lists, first_or}
use Rattle.message_moves.proofs.RefilePledged.{AreMessages}
use Rattle.refile_plans.proofs.Selected.{chosen_numbers, chosen_rise}
use Rattle.refile_plans.specs.declared.job.RmmJob.{RmmJob}
use Rattle.refile_plans.proofs.RefileMoved.{apart_from}
use Rattle.anno_plans.specs.Anno.{chosen_from}
use Rattle.anno_plans.specs.declared.job.AnnoJob.{AnnoJob}
use Rattle.mh_base.proofs.NumberTests.{AreNumbers}

from_on : (low : ℕ) (ns : List ℕ) → Rise low ns → (k : ℕ) → lists ns k ≡ true → low ≤ k
from_on low [] rise k e = absurd (cc (e))
from_on low (n ∷ ns) rise k e = elim (first_or n k ns e) [
  | inl same ↦ (let le = rise.0 in omega (arith, le, same))
  | inr there ↦ (let le = rise.0 in let more = from_on (n + 1) ns rise.1 k there in omega (arith, le, more))
]

rising : (low : ℕ) (ns : List ℕ) → Rise low ns → AreNumbers ns → AreMessages ns
rising low [] rise ok = tt
rising low (n ∷ ns) rise ok = (ok.0, apart_from n ns (λ k e. let le = from_on (n + 1) ns rise.1 k e in omega (arith, le)), rising (n + 1) ns rise.1 ok.1)

-- words choose as they do for `rmm`
abbrev pub like : AnnoJob → RmmJob
like job = record { folder = job.folder; specs = job.specs; unlink = false; negation = job.negation }

pub chosen_messages : (job : AnnoJob) (listing : List Run) (m : Marked) (numbers : List ℕ) → chosen_from job listing m ≡ Ok numbers → AreRuns listing → AreMessages numbers
chosen_messages job listing m numbers is runs = rising 1 numbers (chosen_rise (like job) listing m numbers is) (chosen_numbers (like job) listing m numbers is runs)
