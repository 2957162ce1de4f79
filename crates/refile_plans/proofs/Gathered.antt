-- Several folders are begun, one after another, and what comes after that.
use Rattle.std.specs.Prelude.{IsErr, IsErrAnd}
use Rattle.std.proofs.Common.{◌≡◌, ◌++◌, ◌∷◌, [], ℕ, ◌+◌, ◌<◌, ◌≤◌, List, Result, Ok, Err, refl, sym, subst, drop, get_or, length}
use Rattle.std.proofs.lemmas.List.{drop_all}
use Rattle.folder_files.specs.declared.place.Place.{Place}
use Rattle.folder_files.specs.declared.place.Place.TheVariants.{Folder, Mail}
use Rattle.folder_files.specs.declared.refusal.Which.TheVariants.{Files, Source, Out}
use Rattle.file_plans.specs.Follows.{Follows, State}
use Rattle.file_plans.specs.Plan.{bind, lifted}
use Rattle.file_plans.proofs.Following.{end_off, end_on, no_room_at, refuses, same_plan, bind_both}
use Rattle.step_plans.specs.CommandFaults.{command_cause}
use Rattle.step_plans.specs.declared.command_fault.CommandFault.{CommandFault}
use Rattle.step_plans.specs.declared.command_fault.CommandFault.TheVariants as fault
use Rattle.step_plans.proofs.Rounds.{next}
use Rattle.command_stages.specs.Endings.{of_plan}
use Rattle.command_stages.specs.Texts.{Commanded}
use Rattle.opening_plans.specs.Making.{made_begun}
use Rattle.opening_plans.specs.Opening.{Opened}
use Rattle.refile_plans.specs.Gathering.{Gathered, after_one, all_begun, all_ended, gathered}
use Rattle.refile_plans.specs.Gathers.{EndsAll, GoesOn}

module _ (run : ℕ) (path : List ℕ) (later : Gathered → Commanded Unit) where
  abbrev one : List ℕ → Commanded Opened
  one name = lifted (of_plan name) (made_begun run (Folder path name) (Mail path) name)

  abbrev rest : List (List ℕ) → List Opened → Result Opened CommandFault → Commanded Unit
  rest names before r = bind (after_one before r (λ so_far. all_begun run path names so_far)) later

  begun_next : (name : List ℕ) (names : List (List ℕ)) (before : List Opened) → bind (all_begun run path (name ∷ names) before) later ≡ bind (one name) (rest names before)
  unfolding all_begun
  begun_next name names before = bind_both (one name) (λ r. after_one before r (λ so_far. all_begun run path names so_far)) later

  module _ (names : List (List ℕ)) (i : ℕ) (name : List ℕ) (before : List Opened) (lt : i < length names) (is : name ≡ get_or names i name) where
    abbrev others : List (List ℕ)
    others = drop (i + 1) names

    begun_here : bind (all_begun run path (drop i names) before) later ≡ bind (one name) (rest others before)
    begun_here = subst (λ ns. bind (all_begun run path ns before) later ≡ bind (one name) (rest others before)) (sym (next names i name lt is)) (begun_next name others before)

    -- one more was begun, and then the others
    pub one_begun : (o : Opened) {x y z : State} {s : Result Unit CommandFault} → Follows run command_cause (one name) x y (Ok o) → Follows run command_cause (bind (all_begun run path others (before ++ o ∷ [])) later) y z s
        → Follows run command_cause (bind (all_begun run path (drop i names) before) later) x z s
    one_begun o f g = same_plan _ _ begun_here (end_on command_cause (rest others before) (Ok o) refl f g)

    not_begun : (e : CommandFault) {x y z : State} {s : Result Unit CommandFault} → Follows run command_cause (one name) x y (Err e) → GoesOn run later before (Err e) y z s → Follows run command_cause (bind (one name) (rest others before)) x z s
    unfolding bind
    not_begun (fault.Refused r) f g = end_on command_cause (rest others before) (Err (fault.Refused r)) refl f g
    not_begun (fault.Faulted Files) f g = rw (g.0, g.1) (end_off command_cause (rest others before) (Err (fault.Faulted Files)) refl f)
    not_begun (fault.Faulted Source) f g = rw (g.0, g.1) (end_off command_cause (rest others before) (Err (fault.Faulted Source)) refl f)
    not_begun (fault.Faulted Out) f g = rw (g.0, g.1) (end_off command_cause (rest others before) (Err (fault.Faulted Out)) refl f)
    not_begun (fault.Locked q) f g = end_on command_cause (rest others before) (Err (fault.Locked q)) refl f g
    not_begun (fault.Meddled q n) f g = end_on command_cause (rest others before) (Err (fault.Meddled q n)) refl f g
    not_begun fault.Memory f g = rw (g.0, g.1) (end_off command_cause (rest others before) (Err fault.Memory) refl f)

    -- it could not be begun
    pub none_more : (e : CommandFault) {x y z : State} {s : Result Unit CommandFault} → Follows run command_cause (one name) x y (Err e) → GoesOn run later before (Err e) y z s → Follows run command_cause (bind (all_begun run path (drop i names) before) later) x z s
    none_more e f g = same_plan _ _ begun_here (not_begun e f g)

    -- one was begun, and there was no memory to keep it
    pub no_more_room : (o : Opened) {x y z : State} {s : Result Unit CommandFault} → Follows run command_cause (one name) x y (Ok o) → (s ≡ Err fault.Memory) × (z ≡ y) → Follows run command_cause (bind (all_begun run path (drop i names) before) later) x z s
    no_more_room o f g = rw (g.0, g.1) (same_plan _ _ begun_here (end_on command_cause (rest others before) (Ok o) refl f (no_room_at refl)))

  -- what comes after a call whose error is this
  pub for_fault : (opened : List Opened) (e : CommandFault) (r : Result Unit CommandFault) (y z : State) (s : Result Unit CommandFault) → IsErr r × IsErrAnd r (λ f. f ≡ e) → GoesOn run later opened r y z s → GoesOn run later opened (Err e) y z s
  for_fault opened e (Ok u) y z s is g = absurd (let wrong = is.0 in cc (wrong))
  for_fault opened e (Err f) y z s is g = subst (λ x. GoesOn run later opened (Err x) y z s) is.1 g

  -- all were begun
  pub all_were : (names : List (List ℕ)) (i : ℕ) (before : List Opened) {y z : State} {s : Result Unit CommandFault} → length names ≤ i
      → Follows run command_cause (later (gathered before (Ok tt))) y z s → Follows run command_cause (bind (all_begun run path (drop i names) before) later) y z s
  unfolding all_begun bind
  all_were names i before le f = rw (drop_all i names le) f

-- the work, and then the end that the code makes of it
pub all_ends_so : {run : ℕ} (ps : List Place) (p : Commanded Unit) {x y z : State} (r : Result Unit CommandFault) {s : Result Unit CommandFault}
    → Follows run command_cause p x y r → EndsAll run ps r y z s → Follows run command_cause (bind p (all_ended ps)) x z s
all_ends_so ps p (Ok tt) f g = end_on command_cause (all_ended ps) (Ok tt) refl f g
all_ends_so ps p (Err (fault.Refused r)) f g = end_on command_cause (all_ended ps) (Err (fault.Refused r)) refl f g
all_ends_so ps p (Err (fault.Faulted Files)) f g = rw (g.0, g.1) (end_off command_cause (all_ended ps) (Err (fault.Faulted Files)) refl f)
all_ends_so ps p (Err (fault.Faulted Source)) f g = rw (g.0, g.1) (end_off command_cause (all_ended ps) (Err (fault.Faulted Source)) refl f)
all_ends_so ps p (Err (fault.Faulted Out)) f g = rw (g.0, g.1) (end_off command_cause (all_ended ps) (Err (fault.Faulted Out)) refl f)
all_ends_so ps p (Err (fault.Locked q)) f g = end_on command_cause (all_ended ps) (Err (fault.Locked q)) refl f g
all_ends_so {run = run} ps p {x = x} {y = y} (Err (fault.Meddled q n)) {s = s} f g = end_on command_cause (all_ended ps) (Err (fault.Meddled q n)) refl f (stays g.0 g.1)
  where
    stays : {z : State} → s ≡ Err (fault.Meddled q n) → z ≡ y → Follows run command_cause (all_ended ps (Err (fault.Meddled q n))) y z s
    stays e same = rw (e, same) (refuses _ refl)
all_ends_so ps p (Err fault.Memory) f g = rw (g.0, g.1) (end_off command_cause (all_ended ps) (Err fault.Memory) refl f)
