-- Several folders are begun, one after another, as their command pledges.
use Rattle.std.proofs.Common.{◌≡◌, ◌⊎◌, inl, inr, ◌≤◌, ◌+◌, ◌++◌, ◌∷◌, [], ℕ, List, Result, Ok, Err, sym, subst, append-nil, append_assoc, arith}
use Rattle.std.specs.Prelude.{Contains}
use Rattle.std.proofs.lemmas.List.Elements.{Contains-append_cases}
use Rattle.mh_sequences.specs.Runs.{AreRunsFrom}
use Rattle.mh_sequences.specs.declared.run.Run.{Run}
use Rattle.folder_files.specs.Careful.{HasLock}
use Rattle.folder_files.specs.Deeds.{Deed}
use Rattle.folder_files.specs.declared.place.Place.TheVariants.{Folder, Mail}
use Rattle.folder_files.specs.declared.step.Step.{Step}
use Rattle.file_plans.specs.Framing.{AsksOnly}
use Rattle.file_plans.specs.Plan.{Hand, Plan, lifted}
use Rattle.step_plans.specs.Pledges.{Pledge}
use Rattle.step_plans.specs.Settled.{AreSettled}
use Rattle.step_plans.specs.declared.command_fault.CommandFault.{CommandFault}
use Rattle.step_plans.proofs.Facts.{LeavesLock, lock_kept}
use Rattle.step_plans.proofs.Going.{Goes, Outcome, goes_bind, goes_lifted, goes_more, okay}
use Rattle.step_plans.proofs.Lasting.{KeptBy, keeping}
use Rattle.command_stages.specs.Endings.{of_plan}
use Rattle.message_moves.specs.Copying.{highest_of}
use Rattle.opening_plans.specs.Making.{made_begun}
use Rattle.opening_plans.specs.Opening.{Opened}
use Rattle.opening_plans.proofs.FolderPledged.{HasBegun}
use Rattle.held_messages.proofs.Linking.{IsEnd}
use Rattle.refile_plans.specs.Gathering.{Gathered, after_one, all_begun}
use Rattle.refile_plans.specs.Refile.{greatest_of}
use Rattle.refile_plans.proofs.BeginsAsks.{Begins, asks_made_begun}
use Rattle.refile_plans.proofs.FolderNames.{AreApart, first_or_later, first_there, later_there, none_there}
use Rattle.refile_plans.proofs.RmmPledged.{listed_runs}

-- the greatest of numbers of messages is one
highest_low : (runs : List Run) → IsEnd (greatest_of runs) → highest_of (greatest_of runs) ≤ 999999
highest_low [] ok = omega arith
highest_low (r ∷ rs) ok = ok.1

pub greatest_end : (low : ℕ) (runs : List Run) → 1 ≤ low → AreRunsFrom low runs → IsEnd (greatest_of runs)
greatest_end low [] least f = tt
greatest_end low (r ∷ rs) least f =
    let rest = highest_low rs (greatest_end (r.to + 2) rs (omega arith) f.3) in
    let from = f.0 in
    let order = f.1 in
    let this = f.2 in (omega (arith, least, from, order, rest, this), omega (arith, rest, this))

-- the folders of these names, under this mail directory
module _ (path : List ℕ) where
  -- a folder that was begun is the one of this name, and its numbers are numbers of messages
  abbrev pub IsOf : List ℕ → Opened → Type 0
  IsOf name o = (o.place ≡ Folder path name) × IsEnd (greatest_of o.listing)

  abbrev pub AreOf : List (List ℕ) → List Opened → Type 0
  AreOf [] [] = Unit {0}
  AreOf [] (o ∷ os) = ⊥
  AreOf (n ∷ ns) [] = ⊥
  AreOf (n ∷ ns) (o ∷ os) = IsOf n o × AreOf ns os

  are_behind : (ns : List (List ℕ)) (os : List Opened) (n : List ℕ) (o : Opened) → AreOf ns os → IsOf n o → AreOf (ns ++ n ∷ []) (os ++ o ∷ [])
  are_behind [] [] n o all one = (one, tt)
  are_behind [] (x ∷ os) n o all one = absurd all
  are_behind (m ∷ ns) [] n o all one = absurd all
  are_behind (m ∷ ns) (x ∷ os) n o all one = (all.0, are_behind ns os n o all.1 one)

  -- the locks of all of them are had
  abbrev pub HasLocksOf : List (List ℕ) → List Deed → Type 0
  HasLocksOf names own = (n : List ℕ) → Contains names n → HasLock (Folder path n) own

  abbrev pub LeavesLocksOf : List (List ℕ) → Step → Type 0
  LeavesLocksOf names s = (n : List ℕ) → Contains names n → LeavesLock (Folder path n) s

  locks_kept : (names : List (List ℕ)) → KeptBy (LeavesLocksOf names) (HasLocksOf names)
  locks_kept names own s a leaves f n c = lock_kept (Folder path n) own s a (leaves n c) (f n c)

  -- the begin of another folder leaves them alone
  others_leave : (run : ℕ) (names : List (List ℕ)) (name : List ℕ) → (Contains names name → ⊥) → Begins (LeavesLocksOf names) run (Folder path name) (Mail path)
  others_leave run names name off = record {
    text = record {
      make = λ n c. tt;
      lock = λ n c. tt;
      list = λ n c. tt;
      clear = λ temp is. λ n c. tt;
      read = λ n c. tt;
      create = λ temp bytes. λ n c. tt;
      sync_file = λ temp. λ n c. tt;
      rename = λ temp. λ n c. tt;
      sync = λ n c. tt;
      unlock = λ n c e. off (let same : n ≡ name = cc (e) in subst (Contains names) same c);
    };
    context = record {
      make = λ n c. tt;
      lock = λ n c. tt;
      list = λ n c. tt;
      clear = λ temp is. λ n c. tt;
      read = λ n c. tt;
      create = λ temp bytes. λ n c. tt;
      sync_file = λ temp. λ n c. tt;
      rename = λ temp. λ n c. tt;
      sync = λ n c. tt;
      unlock = λ n c e. cc (e);
    };
    give = λ h number pair others. λ n c. tt;
    drop = λ name. λ n c. tt;
  }

  one_more_lock : (names : List (List ℕ)) (name : List ℕ) (own : List Deed) → HasLocksOf names own → HasLock (Folder path name) own → HasLocksOf (names ++ name ∷ []) own
  one_more_lock names name own all one n c = by (Contains-append_cases names (name ∷ []) n c)
    where
      by : Contains names n ⊎ Contains (name ∷ []) n → HasLock (Folder path n) own
      by (inl i) = all n i
      by (inr i) = elim (first_or_later name [] n i) [ inl same ↦ subst (λ z. HasLock (Folder path z) own) same one | inr none ↦ absurd (none_there n none) ]

  pub none_twice : (names : List (List ℕ)) (name : List ℕ) (ns : List (List ℕ)) → (Contains ns name → ⊥) → ((n : List ℕ) → Contains (name ∷ ns) n → Contains names n → ⊥) → (n : List ℕ) → Contains ns n → Contains (names ++ name ∷ []) n → ⊥
  none_twice names name ns apart off n c d = by (Contains-append_cases names (name ∷ []) n d)
    where
      by : Contains names n ⊎ Contains (name ∷ []) n → ⊥
      by (inl i) = off n (later_there name ns n c) i
      by (inr i) = elim (first_or_later name [] n i) [ inl same ↦ apart (subst (Contains ns) (sym same) c) | inr none ↦ absurd (none_there n none) ]

  -- The pledge; the names of the folders that it lets the run make and begin; and what their begins leave alone.
  module _ (w : Pledge) (all : List (List ℕ)) (P : Step → Type 0) (F : List Deed → Type 0) (keeps : KeptBy P F)
      (goes : (name : List ℕ) → Contains all name → (own : List Deed) (h : Hand) → Goes w own h (made_begun w.run (Folder path name) (Mail path) name) (okay (λ later j o. HasBegun w own path name later o)))
      (asks : (name : List ℕ) → Contains all name → AsksOnly P (made_begun w.run (Folder path name) (Mail path) name)) where
    -- where all were begun their locks are had; what was settled stays so
    abbrev pub AreBegun : List (List ℕ) → List Deed → List Deed → List Opened → Result Unit CommandFault → Type 0
    AreBegun names own later os (Ok u) = AreOf names os × HasLocksOf names later × F later × (AreSettled own → AreSettled later)
    AreBegun names own later os (Err e) = Unit {0}

    abbrev Begun : List (List ℕ) → List Deed → Outcome Gathered
    Begun names own later j g = AreBegun names own later g.opened g.end

    -- one of them was begun
    abbrev OneBegun : List (List ℕ) → List ℕ → List Deed → Outcome Opened
    OneBegun had name own later j o = F later × (HasLocksOf had later × HasBegun w own path name later o)

    one_goes : (had : List (List ℕ)) (name : List ℕ) → Contains all name → (Contains had name → ⊥) → (own : List Deed) (h : Hand) → HasLocksOf had own → F own
        → Goes w own h (lifted (of_plan name) (made_begun w.run (Folder path name) (Mail path) name)) (okay (OneBegun had name own))
    one_goes had name is off own h locks fact =
        goes_lifted w own h (of_plan name) (made_begun w.run (Folder path name) (Mail path) name) (OneBegun had name own)
        (keeping w P F keeps own h (made_begun w.run (Folder path name) (Mail path) name) (λ later j o. HasLocksOf had later × HasBegun w own path name later o) (asks name is) fact
        (keeping w (LeavesLocksOf had) (HasLocksOf had) (locks_kept had) own h (made_begun w.run (Folder path name) (Mail path) name) (λ later j o. HasBegun w own path name later o) (asks_made_begun (LeavesLocksOf had) w.run (Folder path name) (Mail path) (others_leave w.run had name off) name) locks (goes name is own h)))

    after_goes : (names had : List (List ℕ)) (name : List ℕ) (own : List Deed) (before : List Opened) (others : List Opened → Plan Gathered) (later : List Deed) (j : Hand) (r : Result Opened CommandFault) → okay (OneBegun had name own) later j r
        → ((o : Opened) → OneBegun had name own later j o → Goes w later j (others (before ++ o ∷ [])) (Begun names own)) → Goes w later j (after_one before r others) (Begun names own)
    unfolding Goes
    after_goes names had name own before others later j (Ok o) q next = next o q
    after_goes names had name own before others later j (Err e) q next = tt

    further : (names : List (List ℕ)) (own mid : List Deed) → (AreSettled own → AreSettled mid) → (later : List Deed) (j : Hand) (g : Gathered) → Begun names mid later j g → Begun names own later j g
    further names own mid f later j g b = by g.end b
      where
        by : (r : Result Unit CommandFault) → AreBegun names mid later g.opened r → AreBegun names own later g.opened r
        by (Ok u) q = (q.0, q.1, q.2, λ s. q.3 (f s))
        by (Err e) q = tt

    -- all of them
    left_go : (left had : List (List ℕ)) (before : List Opened) (own : List Deed) (h : Hand) → AreApart left → ((n : List ℕ) → Contains left n → Contains all n) → ((n : List ℕ) → Contains left n → Contains had n → ⊥)
        → AreOf had before → HasLocksOf had own → F own → Goes w own h (all_begun w.run path left before) (Begun (had ++ left) own)
    unfolding Goes all_begun
    left_go [] had before own h apart among off are locks fact = subst (λ ms. AreBegun ms own own before (Ok tt)) (sym (append-nil had)) (are, locks, fact, λ s. s)
    left_go (n ∷ ns) had before own h apart among off are locks fact =
        goes_bind w own h (lifted (of_plan n) (made_begun w.run (Folder path n) (Mail path) n)) (λ r. after_one before r (λ so_far. all_begun w.run path ns so_far)) (okay (OneBegun had n own)) (Begun (had ++ n ∷ ns) own)
        (one_goes had n (among n (first_there n ns)) (off n (first_there n ns)) own h locks fact)
        (λ later j r q.
        after_goes (had ++ n ∷ ns) had n own before (λ so_far. all_begun w.run path ns so_far) later j r q
        (λ o b.
        subst (λ ms. Goes w later j (all_begun w.run path ns (before ++ o ∷ [])) (Begun ms own)) (append_assoc had (n ∷ []) ns)
        (goes_more w later j (all_begun w.run path ns (before ++ o ∷ [])) (Begun ((had ++ n ∷ []) ++ ns) later) (Begun ((had ++ n ∷ []) ++ ns) own) (further ((had ++ n ∷ []) ++ ns) own later b.1.1.held.settled)
        (left_go ns (had ++ n ∷ []) (before ++ o ∷ []) later j apart.1 (λ m c. among m (later_there n ns m c)) (none_twice had n ns apart.0 off)
        (are_behind had before n o are (b.1.1.place, greatest_end 1 o.listing (omega arith) (listed_runs w.run (Folder path n) (Mail path) o.listing b.1.1.text b.1.1.context later b.1.1.seen)))
        (one_more_lock had n later b.1.0 b.1.1.held.lock) b.0))))

    -- the folders of these names are begun, and their locks are had
    pub gathered_goes : (own : List Deed) (h : Hand) → AreApart all → F own → Goes w own h (all_begun w.run path all []) (Begun all own)
    gathered_goes own h apart fact = left_go all [] [] own h apart (λ n c. c) (λ n c d. absurd (none_there n d)) tt (λ n d. absurd (none_there n d)) fact
