-- Plans that put back what is held aside, and what they make of contents.
use Rattle.std.specs.Prelude.{◌+◌, ◌-◌, ◌∷◌, ◌++◌, [], ℕ, zero, suc, max, List, Option, Some, None, Ok, Err, decimal}
use Rattle.folder_files.specs.declared.place.Place.{Place}
use Rattle.file_plans.specs.Asking.{link, list}
use Rattle.file_plans.specs.Plan.{Return, ◌>>=◌, lifted}
use Rattle.file_plans.specs.declared.answers.Entered.{Entered}
use Rattle.file_plans.specs.declared.answers.Entered.TheVariants as entered
use Rattle.file_plans.specs.declared.answers.Listing.{Listing}
use Rattle.file_plans.specs.declared.answers.Listing.TheVariants as listing
use Rattle.file_plans.specs.Contents.{Contents, with_text}
use Rattle.step_plans.specs.Locking.{removed}
use Rattle.step_plans.specs.PlanFaults.{of_stop, Planned}
use Rattle.step_plans.specs.Replacing.{synced}
use Rattle.step_plans.specs.declared.fault.PlanFault.TheVariants as fault
use Rattle.held_messages.specs.HeldPairs.{held_name, held_pairs, top_after}
use Rattle.held_messages.specs.Highest.{highest}
use Rattle.held_messages.specs.declared.held.HeldPair.{HeldPair}

-- one more name for what a held name leads to
abbrev pub linked : Place → List ℕ → ℕ → Planned Entered
linked p held n = lifted of_stop (link p held (decimal n))

abbrev pub given_at : Place → List ℕ → ℕ → Entered → Planned (Option ℕ) → Planned (Option ℕ)
given_at p held n entered.Done up = Return (Ok (Some n))
given_at p held n entered.Exists up = up
given_at p held n entered.Gone up = Return (Err (fault.Meddled p held))

-- the held name is linked to the first free number from here on, among so many; where none is free it stays held
unfoldable pub given_up : Place → List ℕ → ℕ → ℕ → Planned (Option ℕ)
given_up p held n zero = Return (Ok None)
given_up p held n (suc left) = do
  entered ← linked p held n
  given_at p held n entered (given_up p held (n + 1) left)

abbrev pub given_from : Place → List ℕ → ℕ → Planned (Option ℕ)
given_from p held n = given_up p held n (1000000 - n)

-- a name's file is linked to this number, or else above the highest
abbrev pub homed_name : Place → List ℕ → ℕ → ℕ → Planned (Option ℕ)
homed_name p name n top = do
  entered ← linked p name n
  given_at p name n entered (given_from p name (max n top + 1))

-- the held name is linked to its number, or else above the highest
unfoldable pub homed : Place → HeldPair → ℕ → Planned (Option ℕ)
homed p h top = homed_name p (held_name h) h.number top

-- one after another; these are the ends of those before
unfoldable pub all_homed : Place → List HeldPair → ℕ → List (Option ℕ) → Planned (List (Option ℕ))
all_homed p [] top before = Return (Ok before)
all_homed p (h ∷ hs) top before = do
  end ← homed p h top
  all_homed p hs (top_after end top) (before ++ end ∷ [])

-- the held name is unlinked, where it was linked
abbrev pub dropped_one : Place → HeldPair → Option ℕ → Planned Unit
dropped_one p h None = Return (Ok tt)
dropped_one p h (Some m) = removed p (held_name h)

unfoldable pub dropped : Place → List HeldPair → List (Option ℕ) → Planned Unit
dropped p [] ends = Return (Ok tt)
dropped p (h ∷ hs) [] = Return (Ok tt)
dropped p (h ∷ hs) (end ∷ ends) = do
  gone ← dropped_one p h end
  dropped p hs ends

abbrev pub or_before : Option ℕ → Option ℕ → Option ℕ
or_before None before = before
or_before (Some m) before = Some m

-- the number at which a held message was put last, if any was
unfoldable pub last_put : List (Option ℕ) → Option ℕ → Option ℕ
last_put [] before = before
last_put (end ∷ ends) before = last_put ends (or_before end before)

-- the directory is made safe; this number is the last name that the call made there
abbrev pub synced_at : Place → ℕ → Planned Unit
synced_at p m = synced p (decimal m)

-- that they are gone is made safe too, so that no crash brings one back
unfoldable pub dropped_for_good : Place → List HeldPair → List (Option ℕ) → ℕ → Planned Unit
dropped_for_good p hs ends m = do
  gone ← dropped p hs ends
  synced_at p m

-- no held name goes before what it leads to is safe under its number
unfoldable pub dropped_safely : Place → List HeldPair → List (Option ℕ) → ℕ → Planned (List (Option ℕ))
dropped_safely p hs ends m = do
  safe ← synced_at p m
  gone ← dropped_for_good p hs ends m
  Return (Ok ends)

-- nothing more is to be done where nothing was put anywhere
abbrev pub settled_by : Place → List HeldPair → List (Option ℕ) → Option ℕ → Planned (List (Option ℕ))
settled_by p hs ends None = Return (Ok ends)
settled_by p hs ends (Some m) = dropped_safely p hs ends m

-- what is held aside is linked to numbers, made safe there, and is then held no longer; it tells where each stands
unfoldable pub settle : Place → List HeldPair → ℕ → Planned (List (Option ℕ))
settle p hs top = do
  ends ← all_homed p hs top []
  settled_by p hs ends (last_put ends None)

-- the names that a folder had, and where each message stands that was held aside there by another run
pub record Settled : Type 0 where
  pub names : List (List ℕ)
  pub ends : List (Option ℕ)

abbrev pub settled_of : List (List ℕ) → List (Option ℕ) → Settled
settled_of names ends = record { names = names; ends = ends }

-- the names of a folder; where it isn't there the plan ends
abbrev pub names_by : Place → Listing → Planned (List (List ℕ))
names_by p (listing.Names names) = Return (Ok names)
names_by p listing.Gone = Return (Err (fault.Absent p))

-- a folder is listed, and what other runs than this hold aside there is put back
unfoldable pub put_back : ℕ → Place → Planned Settled
put_back own p = do
  listing ← lifted of_stop (list p)
  names ← names_by p listing
  ends ← settle p (held_pairs own names) (highest names)
  Return (Ok (settled_of names ends))

-- what these make of contents
abbrev pub given_in : Contents → Place → HeldPair → Option ℕ → Contents
given_in c p h None = c
given_in c p h (Some m) = with_text c p (decimal m) (c.texts p (held_name h))

unfoldable pub linked_in : Contents → Place → List HeldPair → List (Option ℕ) → Contents
linked_in c p [] ends = c
linked_in c p (h ∷ hs) [] = c
linked_in c p (h ∷ hs) (end ∷ ends) = linked_in (given_in c p h end) p hs ends

abbrev pub dropped_of : Contents → Place → HeldPair → Option ℕ → Contents
dropped_of c p h None = c
dropped_of c p h (Some m) = with_text c p (held_name h) None

unfoldable pub dropped_in : Contents → Place → List HeldPair → List (Option ℕ) → Contents
dropped_in c p [] ends = c
dropped_in c p (h ∷ hs) [] = c
dropped_in c p (h ∷ hs) (end ∷ ends) = dropped_in (dropped_of c p h end) p hs ends

abbrev pub settled_in : Contents → Place → List HeldPair → List (Option ℕ) → Contents
settled_in c p hs ends = dropped_in (linked_in c p hs ends) p hs ends
