-- Values that decide how a plan goes on.
use Rattle.std.proofs.Common.{◌≡◌, ℕ, List, refl, subst}
use Rattle.std.specs.Global.{Vec}
use Rattle.std.specs.Prelude.{Result, Ok, Err, IsErr, IsErrAnd}
use Rattle.file_plans.specs.Plan.{Hand, Plan, Return, Recall, bind, after, ◌>>=◌}
use Rattle.file_plans.specs.Follows.{State, Follows}
use Rattle.file_plans.proofs.Following.{recalled, refuses, no_room_at}
use Rattle.step_plans.specs.CommandFaults.{command_cause}
use Rattle.step_plans.specs.declared.command_fault.CommandFault.{CommandFault}
use Rattle.step_plans.specs.declared.command_fault.CommandFault.TheVariants as fault
use Rattle.command_stages.specs.Chosen.{IsValue}
use Rattle.folder_files.specs.declared.place.Place.{Place}
use Rattle.msg_ranges.specs.Selection.{Marks}
use Rattle.command_stages.specs.Chosen.{marks_in}
use Rattle.mh_looks.specs.Scan.{all_shown, chosen_by, chosen_with, lined_by, written_by}
use Rattle.mh_looks.specs.ScanJob.{ScanJob}
use Rattle.mh_looks.specs.Values.{IsListed}
use Rattle.mh_profile.specs.Reading.{entries_seen}

pub refused_value : (value : Result (List ℕ) CommandFault) (e : CommandFault) → IsValue value (Err e) → IsListed value (Err e)
refused_value value (fault.Refused r) is = is
refused_value value (fault.Faulted w) is = is
refused_value value (fault.Locked p) is = is
refused_value value (fault.Meddled p x) is = is
refused_value value fault.Memory is = tt

module _ {run : ℕ} (value : Hand → Result (List ℕ) CommandFault) (k : List ℕ → Plan (Result Unit CommandFault)) {x : State} where
  -- the plan goes on with the numbers
  pub chosen_on : {y : State} {r : Result Unit CommandFault} (numbers : List ℕ) → value x.hand ≡ Ok numbers → Follows run command_cause (k numbers) x y r → Follows run command_cause (Recall (λ h. Return (value h)) >>= k) x y r
  unfolding ◌>>=◌ bind
  chosen_on {y = y} {r = r} numbers is f = recalled (λ h. after k (value h)) (rw is f)

  -- or ends with the refusal
  off : (e : CommandFault) → IsListed (value x.hand) (Err e) → Follows run command_cause (Recall (λ h. Return (value h)) >>= k) x x (Err e)
  unfolding ◌>>=◌ bind
  off (fault.Refused r) is = recalled (λ h. after k (value h)) (rw is (refuses _ refl))
  off (fault.Faulted w) is = absurd is
  off (fault.Locked p) is = absurd is
  off (fault.Meddled p y) is = absurd is
  off fault.Memory is = no_room_at refl

  pub chosen_off : (e : CommandFault) (r : Result Unit CommandFault) → IsListed (value x.hand) (Err e) → IsErr r × IsErrAnd r (λ f. f ≡ e) → Follows run command_cause (Recall (λ h. Return (value h)) >>= k) x x r
  chosen_off e (Ok u) is err = absurd (let no = err.0 in cc)
  chosen_off e (Err f) is err = rw err.1 (off e is)

-- the marks of the sequences are those of the text and the context
pub listed_by : (job : ScanJob) (names : List (List ℕ)) (m n : Marks) (r : Result (Vec ℕ) CommandFault) → m ≡ n → IsListed (chosen_with job names m) r → IsListed (chosen_with job names n) r
listed_by job names m n r same is = subst (λ z. IsListed (chosen_with job names z) r) same is

pub recalls_shown : {run : ℕ} (job : ScanJob) (place : Place) (text : List ℕ) (m : Marks) (numbers : List ℕ) {x y : State} {r : Result Unit CommandFault}
    → Follows run command_cause (all_shown (written_by job.spoken m job.unseen) place numbers) x y r → m ≡ marks_in text (entries_seen x.hand.context) job.folder
    → Follows run command_cause (Recall (λ h. all_shown (lined_by job text (entries_seen h.context)) place numbers)) x y r
recalls_shown {run = run} job place text m numbers {x = x} {y = y} {r = r} f same =
    recalled (λ h. all_shown (lined_by job text (entries_seen h.context)) place numbers) (subst (λ z. Follows run command_cause (all_shown (written_by job.spoken z job.unseen) place numbers) x y r) same f)

pub refused_by_words : {run : ℕ} (job : ScanJob) (names : List (List ℕ)) (text : List ℕ) (m : Marks) (k : List ℕ → Plan (Result Unit CommandFault)) {x : State} (e : CommandFault) (r : Result Unit CommandFault)
    → IsListed (chosen_with job names m) (Err e) → m ≡ marks_in text (entries_seen x.hand.context) job.folder → IsErr r × IsErrAnd r (λ f. f ≡ e)
    → Follows run command_cause (Recall (λ h. Return (chosen_by job names text (entries_seen h.context))) >>= k) x x r
refused_by_words job names text m k {x = x} e r is same err =
    chosen_off (λ h. chosen_by job names text (entries_seen h.context)) k e r (listed_by job names m (marks_in text (entries_seen x.hand.context) job.folder) (Err e) same is) err
