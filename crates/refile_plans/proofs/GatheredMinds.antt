-- Several folders are begun, one after another, and each of these steps minds all marks.
use Rattle.std.proofs.Common.{◌≡◌, ◌⊎◌, inl, inr, ◌++◌, ◌∷◌, [], ℕ, List, Result, Ok, Err, sym, subst, append-nil, append_assoc}
use Rattle.std.specs.Prelude.{Contains}
use Rattle.std.proofs.lemmas.List.Elements.{Contains-append_cases}
use Rattle.folder_files.specs.Deeds.{Deed}
use Rattle.folder_files.specs.declared.place.Place.TheVariants.{Folder, Mail}
use Rattle.folder_files.specs.declared.step.Step.{Step}
use Rattle.file_plans.specs.Plan.{Hand, Plan, lifted}
use Rattle.step_plans.specs.Pledges.{MayAsk, Pledge}
use Rattle.step_plans.specs.declared.command_fault.CommandFault.{CommandFault}
use Rattle.step_plans.proofs.Going.{Goes, Outcome, Sound, okay}
use Rattle.command_stages.specs.Endings.{of_plan}
use Rattle.opening_plans.specs.Making.{made_begun}
use Rattle.opening_plans.specs.Opening.{Opened}
use Rattle.opening_plans.proofs.AllMarks.{MindsAll}
use Rattle.opening_plans.proofs.CommitMinds.{IsTold}
use Rattle.opening_plans.proofs.FolderPledged.{HasBegun}
use Rattle.opening_plans.proofs.MadeMinds.{Made, made_minds}
use Rattle.opening_plans.proofs.Meeting.{Meets, meets_bind, meets_lifted, meets_okay, meets_weaker}
use Rattle.refile_plans.specs.Gathering.{Gathered, after_one, all_begun}
use Rattle.refile_plans.proofs.FolderNames.{AreApart, first_or_later, first_there, later_there, none_there}
use Rattle.refile_plans.proofs.FoldersMinded.{AllMinded, AreToldApart, HasMinded, IsToldAll, NoneUnlinkedIn, all_kept, minded_behind, minds_fewer, none_kept, of_made}
use Rattle.refile_plans.proofs.Meetings.{AnyAsk, meets_okay_both, meets_okay_sound}
use Rattle.refile_plans.proofs.RefileGathering.{none_twice}

-- The pledge; a folder that was begun before; the names of those that the run makes and begins, none of which share entries; and that it may.
module _ (w : Pledge) (path source : List ℕ) (o : Opened) (all : List (List ℕ)) (told : AreToldApart (source ∷ all))
    (goes : (name : List ℕ) → Contains all name → (own : List Deed) (h : Hand) → Goes w own h (made_begun w.run (Folder path name) (Mail path) name) (okay (λ later j x. HasBegun w own path name later x))) where
  abbrev Of : List ℕ → Type 0
  Of other = IsToldAll (source ∷ all) other

  abbrev A : List Deed → Step → Type 0
  A own s = MindsAll Of w.run own s

  abbrev M : {R : Type 0} → List Deed → Hand → Plan R → Outcome R → Type 0
  M own h plan Q = Meets (MayAsk w) A own h plan Q

  -- all of these are known
  abbrev Had : List (List ℕ) → List Opened → List Deed → Type 0
  Had had before own = AllMinded w.run path (source ∷ had) (o ∷ before) own

  -- one of them was begun, and of the others nothing is lost
  abbrev OneMinded : List (List ℕ) → List Opened → List (List ℕ) → List ℕ → Outcome Opened
  OneMinded had before left name later j x = Sound w later j × (HasMinded w.run path name later x × (Had had before later × NoneUnlinkedIn path left later))

  one_meets : (had : List (List ℕ)) (before : List Opened) (left : List (List ℕ)) (name : List ℕ) → Contains all name → ((n : List ℕ) → Contains (source ∷ had) n → Contains (source ∷ all) n) → ((n : List ℕ) → Contains (source ∷ had) n → name ≡ n → ⊥)
      → ((n : List ℕ) → Contains left n → name ≡ n → ⊥) → (own : List Deed) (h : Hand) → Sound w own h → NoneUnlinkedIn path (name ∷ left) own → Had had before own
      → M own h (lifted (of_plan name) (made_begun w.run (Folder path name) (Mail path) name)) (okay (OneMinded had before left name))
  one_meets had before left name is among off away own h sound none f =
      meets_lifted (MayAsk w) A own h (of_plan name) (made_begun w.run (Folder path name) (Mail path) name) (OneMinded had before left name)
      (meets_okay_sound w A own h (made_begun w.run (Folder path name) (Mail path) name) (okay (λ later j x. HasBegun w own path name later x)) (λ later j x. HasMinded w.run path name later x × (Had had before later × NoneUnlinkedIn path left later)) sound (goes name is own h)
      (meets_okay_both (MayAsk w) A AnyAsk own h (made_begun w.run (Folder path name) (Mail path) name) (λ later j x. HasMinded w.run path name later x) (λ later j x. Had had before later × NoneUnlinkedIn path left later)
      (meets_okay (MayAsk w) A own h (made_begun w.run (Folder path name) (Mail path) name) (Made w path name own) (λ later j x. HasMinded w.run path name later x) (λ later j x g. of_made w path name own later j x g)
      (meets_weaker (MayAsk w) (MindsAll (λ other. IsTold name other) w.run) A (λ before_ s g. minds_fewer (λ other. IsTold name other) Of (λ other apart. apart name (later_there source all name is)) w.run before_ s g) own h (made_begun w.run (Folder path name) (Mail path) name) (okay (Made w path name own))
      (made_minds w path name own h sound (goes name is own h) (none name (first_there name left)))))
      (meets_okay_both (MayAsk w) AnyAsk AnyAsk own h (made_begun w.run (Folder path name) (Mail path) name) (λ later j x. Had had before later) (λ later j x. NoneUnlinkedIn path left later)
      (all_kept w path name (source ∷ had) (o ∷ before) off (λ n c. told n (among n c) name (later_there source all name is)) own h f)
      (none_kept w path name left away own h (λ n c. none n (later_there name left n c))))))

  -- where all were begun all are known
  abbrev pub AreMinded : List (List ℕ) → List Deed → List Opened → Result Unit CommandFault → Type 0
  AreMinded names later os (Ok u) = Had names os later
  AreMinded names later os (Err e) = Unit {0}

  abbrev pub Gathers : List (List ℕ) → Outcome Gathered
  Gathers names later j g = AreMinded names later g.opened g.end

  after_meets : (names had : List (List ℕ)) (before : List Opened) (left : List (List ℕ)) (name : List ℕ) (others : List Opened → Plan Gathered) (later : List Deed) (j : Hand) (r : Result Opened CommandFault) → okay (OneMinded had before left name) later j r
      → ((x : Opened) → OneMinded had before left name later j x → M later j (others (before ++ x ∷ [])) (Gathers names)) → M later j (after_one before r others) (Gathers names)
  unfolding Meets
  after_meets names had before left name others later j (Ok x) q next = next x q
  after_meets names had before left name others later j (Err e) q next = tt

  among_more : (had : List (List ℕ)) (name : List ℕ) → Contains all name → ((n : List ℕ) → Contains (source ∷ had) n → Contains (source ∷ all) n) → (n : List ℕ) → Contains (source ∷ (had ++ name ∷ [])) n → Contains (source ∷ all) n
  among_more had name is among n c = by (Contains-append_cases (source ∷ had) (name ∷ []) n c)
    where
      by : Contains (source ∷ had) n ⊎ Contains (name ∷ []) n → Contains (source ∷ all) n
      by (inl i) = among n i
      by (inr i) = elim (first_or_later name [] n i) [ inl same ↦ subst (Contains (source ∷ all)) same (later_there source all name is) | inr none ↦ absurd (none_there n none) ]

  left_meet : (left had : List (List ℕ)) (before : List Opened) (own : List Deed) (h : Hand) → AreApart left → ((n : List ℕ) → Contains left n → Contains all n) → ((n : List ℕ) → Contains left n → Contains (source ∷ had) n → ⊥)
      → ((n : List ℕ) → Contains (source ∷ had) n → Contains (source ∷ all) n) → Sound w own h → NoneUnlinkedIn path left own → Had had before own → M own h (all_begun w.run path left before) (Gathers (had ++ left))
  unfolding Meets all_begun
  left_meet [] had before own h apart in_all off among sound none f = subst (λ ms. AreMinded ms own before (Ok tt)) (sym (append-nil had)) f
  left_meet (n ∷ ns) had before own h apart in_all off among sound none f =
      meets_bind (MayAsk w) A own h (lifted (of_plan n) (made_begun w.run (Folder path n) (Mail path) n)) (λ r. after_one before r (λ so_far. all_begun w.run path ns so_far)) (okay (OneMinded had before ns n)) (Gathers (had ++ n ∷ ns))
      (one_meets had before ns n (in_all n (first_there n ns)) among (λ m c same. off n (first_there n ns) (subst (Contains (source ∷ had)) (sym same) c)) (λ m c same. apart.0 (subst (Contains ns) (sym same) c)) own h sound none f)
      (λ later j r q.
      after_meets (had ++ n ∷ ns) had before ns n (λ so_far. all_begun w.run path ns so_far) later j r q
      (λ x b.
      subst (λ ms. M later j (all_begun w.run path ns (before ++ x ∷ [])) (Gathers ms)) (append_assoc had (n ∷ []) ns)
      (left_meet ns (had ++ n ∷ []) (before ++ x ∷ []) later j apart.1 (λ m c. in_all m (later_there n ns m c)) (none_twice path (source ∷ had) n ns apart.0 off) (among_more had n (in_all n (first_there n ns)) among) b.0 b.1.1.1
      (minded_behind w.run path later (source ∷ had) (o ∷ before) n x b.1.1.0 b.1.0))))

  -- the folders of these names are begun
  pub gathered_meet : (own : List Deed) (h : Hand) → AreApart all → (Contains all source → ⊥) → Sound w own h → NoneUnlinkedIn path all own → HasMinded w.run path source own o → M own h (all_begun w.run path all []) (Gathers all)
  gathered_meet own h apart off sound none f = left_meet all [] [] own h apart (λ n c. c) other (λ n c. among n (first_or_later source [] n c)) sound none (f, tt)
    where
      among : (n : List ℕ) → (source ≡ n) ⊎ Contains [] n → Contains (source ∷ all) n
      among n (inl same) = subst (Contains (source ∷ all)) same (first_there source all)
      among n (inr there) = absurd (none_there n there)

      other : (n : List ℕ) → Contains all n → Contains (source ∷ []) n → ⊥
      other n c d = elim (first_or_later source [] n d) [ inl same ↦ off (subst (Contains all) (sym same) c) | inr there ↦ absurd (none_there n there) ]
