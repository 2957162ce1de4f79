-- Copies of a message are stored in each destination: each step minds all marks.
use Rattle.std.proofs.Common.{◌≡◌, ◌<◌, ◌≤◌, ◌++◌, ◌∷◌, [], ℕ, List, Some, Ok, sym, ◌∙◌, subst, append-nil, append_assoc, arith}
use Rattle.std.specs.Prelude.{Contains, map}
use Rattle.folder_files.specs.Deeds.{Deed, did}
use Rattle.folder_files.specs.declared.place.Place.{Place}
use Rattle.folder_files.specs.declared.place.Place.TheVariants.{Folder}
use Rattle.folder_files.specs.declared.step.Answer.{Answer}
use Rattle.folder_files.specs.declared.step.Step.{Step}
use Rattle.folder_files.specs.declared.step.Step.TheVariants as step
use Rattle.file_plans.specs.Plan.{Hand, Plan, Return, lifted}
use Rattle.step_plans.specs.Pledges.{MayAsk, Pledge}
use Rattle.step_plans.proofs.Facts.{LeavesBase}
use Rattle.step_plans.proofs.Going.{Outcome, okay}
use Rattle.message_puts.specs.Putting.{message_stored}
use Rattle.command_stages.specs.Endings.{of_plan}
use Rattle.message_moves.specs.Copying.{copied_to, copied_to_all, highest_of}
use Rattle.message_moves.specs.declared.destination.Destination.{Destination}
use Rattle.opening_plans.specs.Opening.{Opened}
use Rattle.opening_plans.proofs.AllMarks.{MindsAll}
use Rattle.opening_plans.proofs.CommitSeen.{NoCommit}
use Rattle.opening_plans.proofs.FolderSeen.{Quiet}
use Rattle.opening_plans.proofs.Meeting.{Meets, meets_lifted, meets_return, meets_then}
use Rattle.sequence_commits.proofs.SequencesPledged.{sequences_name}
use Rattle.refile_plans.specs.Refile.{destination_of}
use Rattle.refile_plans.proofs.FolderNames.{first_there, later_there}
use Rattle.refile_plans.proofs.FoldersMinded.{AllMinded, HasMinded}
use Rattle.refile_plans.proofs.Greatest.{greatest_low, unlisted}
use Rattle.refile_plans.proofs.StoredMinds.{IsPut, stored_meets}
use Rattle.refile_plans.proofs.UnmarkedNumbers.{IsUnmarkedIn, unmarked_kept, unmarked_of}

-- the destination is the folder of this name, and no sequence marks a number there above its highest
pub record IsOpenAt (run : ℕ) (path name : List ℕ) (own : List Deed) (d : Destination) : Type 0 where
  pub place : d.place ≡ Folder path name
  pub small : highest_of d.highest ≤ 999999
  pub free : (n : ℕ) → highest_of d.highest < n → IsUnmarkedIn run path name n own

-- each of these is so
abbrev pub AllOpen : ℕ → List ℕ → List (List ℕ) → List Destination → List Deed → Type 0
AllOpen run path [] [] own = Unit {0}
AllOpen run path [] (d ∷ ds) own = ⊥
AllOpen run path (n ∷ ns) [] own = ⊥
AllOpen run path (n ∷ ns) (d ∷ ds) own = IsOpenAt run path n own d × AllOpen run path ns ds own

-- a step that leaves the text of each of these folders alone, and its lock
abbrev pub LeavesTexts : List ℕ → List (List ℕ) → Step → Type 0
LeavesTexts path names s = (n : List ℕ) → Contains names n → LeavesBase (Folder path n) sequences_name s

module _ (run : ℕ) (path : List ℕ) where
  open_kept : (name : List ℕ) (d : Destination) (own : List Deed) (s : Step) (a : Answer) → LeavesBase (Folder path name) sequences_name s → NoCommit path s → IsOpenAt run path name own d → IsOpenAt run path name (did s a ∷ own) d
  open_kept name d own s a leaves none f = record { place = f.place; small = f.small; free = λ n above. unmarked_kept run path name n own s a leaves none (f.free n above) }

  pub all_open_kept : (ns : List (List ℕ)) (ds : List Destination) (own : List Deed) (s : Step) (a : Answer) → LeavesTexts path ns s → NoCommit path s → AllOpen run path ns ds own → AllOpen run path ns ds (did s a ∷ own)
  all_open_kept [] [] own s a leaves none f = tt
  all_open_kept [] (d ∷ ds) own s a leaves none f = absurd f
  all_open_kept (n ∷ ns) [] own s a leaves none f = absurd f
  all_open_kept (n ∷ ns) (d ∷ ds) own s a leaves none f = (open_kept n d own s a (leaves n (first_there n ns)) none f.0, all_open_kept ns ds own s a (λ m c. leaves m (later_there n ns m c)) none f.1)

  open_behind : (own : List Deed) (ns : List (List ℕ)) (ds : List Destination) (n : List ℕ) (d : Destination) → AllOpen run path ns ds own → IsOpenAt run path n own d → AllOpen run path (ns ++ n ∷ []) (ds ++ d ∷ []) own
  open_behind own [] [] n d all one = (one, tt)
  open_behind own [] (x ∷ ds) n d all one = absurd all
  open_behind own (m ∷ ns) [] n d all one = absurd all
  open_behind own (m ∷ ns) (x ∷ ds) n d all one = (all.0, open_behind own ns ds n d all.1 one)

  -- so is each folder that was begun
  open_of : (name : List ℕ) (own : List Deed) (o : Opened) → HasMinded run path name own o → IsOpenAt run path name own (destination_of o)
  open_of name own o f = record { place = f.begun.place; small = greatest_low 1 o.listing f.begun.runs; free = λ n above. unmarked_of run path name own o f n (unlisted o.listing n above) }

  pub all_open_of : (own : List Deed) (ns : List (List ℕ)) (os : List Opened) → AllMinded run path ns os own → AllOpen run path ns (map destination_of os) own
  all_open_of own [] [] f = tt
  all_open_of own [] (o ∷ os) f = absurd f
  all_open_of own (n ∷ ns) [] f = absurd f
  all_open_of own (n ∷ ns) (o ∷ os) f = (open_of n own o f.0, all_open_of own ns os f.1)

-- a put leaves texts and contexts alone, and all of another folder
put_leaves : (q r : Place) (x : List ℕ) (s : Step) → IsPut q s → LeavesBase r x s
put_leaves q r x (step.Create t n b) f = tt
put_leaves q r x (step.SyncFile t n) f = tt
put_leaves q r x (step.SyncFolder t) f = tt
put_leaves q r x (step.Link t a b) f = tt
put_leaves q r x (step.Unlink t a) f = tt
put_leaves q r x s f = absurd f

put_none : (path : List ℕ) (q : Place) (s : Step) → IsPut q s → NoCommit path s
put_none path q (step.Create t n b) f = λ temp e. cc (e)
put_none path q (step.SyncFile t n) f = λ temp e. cc (e)
put_none path q (step.SyncFolder t) f = λ temp e. cc (e)
put_none path q (step.Link t a b) f = λ temp e. cc (e)
put_none path q (step.Unlink t a) f = λ temp e. cc (e)
put_none path q s f = absurd f

put_quiet : (p q : Place) → (q ≡ p → ⊥) → (s : Step) → IsPut q s → Quiet p s
put_quiet p q off (step.Create t n b) f = tt
put_quiet p q off (step.SyncFile t n) f = tt
put_quiet p q off (step.SyncFolder t) f = tt
put_quiet p q off (step.Link t a b) f = λ e. off (sym f ∙ e)
put_quiet p q off (step.Unlink t a) f = λ e. f.1
put_quiet p q off s f = absurd f

-- The folders whose private marks are minded; the pledge; the source; and what lasts of it while its messages, its lock and its text are left alone.
module _ (Of : List ℕ → Type 0) (w : Pledge) (path source : List ℕ) (S : List Deed → Type 0)
    (lasts : (own : List Deed) (s : Step) (a : Answer) → MayAsk w own s → Quiet (Folder path source) s → NoCommit path s → LeavesBase (Folder path source) sequences_name s → S own → S (did s a ∷ own)) where
  abbrev A : List Deed → Step → Type 0
  A own s = MindsAll Of w.run own s

  abbrev M : {R : Type 0} → List Deed → Hand → Plan R → Outcome R → Type 0
  M own h plan Q = Meets (MayAsk w) A own h plan Q

  -- one of the destinations, those before it, and those after it
  module _ (name : List ℕ) (off : name ≡ source → ⊥) (ns ls : List (List ℕ)) (before others : List Destination) (d : Destination) where
    abbrev All_ : List Deed → Type 0
    All_ own = S own × (AllOpen w.run path ns before own × (IsOpenAt w.run path name own d × AllOpen w.run path ls others own))

    away : Folder path name ≡ Folder path source → ⊥
    away e = off (cc (e))

    all_put : (own : List Deed) (s : Step) (a : Answer) → MayAsk w own s → IsPut (Folder path name) s → All_ own → All_ (did s a ∷ own)
    all_put own s a may put f =
        let none = put_none path (Folder path name) s put in (
          lasts own s a may (put_quiet (Folder path source) (Folder path name) away s put) none (put_leaves (Folder path name) (Folder path source) sequences_name s put) f.0,
          (
            all_open_kept w.run path ns before own s a (λ n c. put_leaves (Folder path name) (Folder path n) sequences_name s put) none f.1.0,
            (
              open_kept w.run path name d own s a (put_leaves (Folder path name) (Folder path name) sequences_name s put) none f.1.1.0,
              all_open_kept w.run path ls others own s a (λ n c. put_leaves (Folder path name) (Folder path n) sequences_name s put) none f.1.1.1,
            ),
          ),
        )

    -- once the copy is there
    abbrev Copied : Outcome Destination
    Copied later j x = S later × (AllOpen w.run path ns before later × (IsOpenAt w.run path name later x × AllOpen w.run path ls others later))

    stored_at : (q : Place) → q ≡ Folder path name → (bytes : List ℕ) (own : List Deed) (h : Hand) → All_ own
        → M own h (message_stored w.run q (highest_of d.highest) bytes) (okay (λ later j m. (highest_of d.highest < m) × (m ≤ 999999) × All_ later))
    stored_at q at bytes own h f =
        subst (λ z. M own h (message_stored w.run z (highest_of d.highest) bytes) (okay (λ later j m. (highest_of d.highest < m) × (m ≤ 999999) × All_ later))) (sym at)
        (stored_meets Of w path name All_ all_put (highest_of d.highest) f.1.1.0.small (λ before_ n g above. g.1.1.0.free n above) bytes own h f)

    copied_meets : (bytes : List ℕ) (own : List Deed) (h : Hand) → All_ own → M own h (copied_to w.run bytes d) (okay Copied)
    unfolding copied_to
    copied_meets bytes own h f =
        meets_then (MayAsk w) A own h (lifted (of_plan d.folder) (message_stored w.run d.place (highest_of d.highest) bytes)) (λ number. Return (Ok (record { folder = d.folder; place = d.place; highest = Some number }))) (λ later j m. (highest_of d.highest < m) × (m ≤ 999999) × All_ later) Copied
        (meets_lifted (MayAsk w) A own h (of_plan d.folder) (message_stored w.run d.place (highest_of d.highest) bytes) (λ later j m. (highest_of d.highest < m) × (m ≤ 999999) × All_ later) (stored_at d.place f.1.1.0.place bytes own h f))
        (λ later j m g.
        meets_return (MayAsk w) A later j (record { folder = d.folder; place = d.place; highest = Some m }) (okay Copied) (
          g.2.0,
          (g.2.1.0, (record { place = g.2.1.1.0.place; small = g.1; free = λ n above. g.2.1.1.0.free n (let low = g.0 in omega (arith, low, above)) }, g.2.1.1.1)),
        ))

  -- once copies are in all
  abbrev pub AllCopied : List (List ℕ) → Outcome (List Destination)
  AllCopied names later j ds = S later × AllOpen w.run path names ds later

  pub copies_meet : (bytes : List ℕ) (ls ns : List (List ℕ)) (ds before : List Destination) → ((n : List ℕ) → Contains ls n → n ≡ source → ⊥) → (own : List Deed) (h : Hand) → S own → AllOpen w.run path ns before own → AllOpen w.run path ls ds own
      → M own h (copied_to_all w.run bytes ds before) (okay (AllCopied (ns ++ ls)))
  unfolding copied_to_all
  copies_meet bytes [] ns [] before off own h s done left = meets_return (MayAsk w) A own h before (okay (AllCopied (ns ++ []))) (s, subst (λ ms. AllOpen w.run path ms before own) (sym (append-nil ns)) done)
  copies_meet bytes [] ns (d ∷ ds) before off own h s done left = absurd left
  copies_meet bytes (n ∷ ls) ns [] before off own h s done left = absurd left
  copies_meet bytes (n ∷ ls) ns (d ∷ ds) before off own h s done left =
      meets_then (MayAsk w) A own h (copied_to w.run bytes d) (λ one. copied_to_all w.run bytes ds (before ++ one ∷ [])) (Copied n (off n (first_there n ls)) ns ls before ds d) (AllCopied (ns ++ n ∷ ls))
      (copied_meets n (off n (first_there n ls)) ns ls before ds d bytes own h (s, (done, (left.0, left.1))))
      (λ later j x g.
      subst (λ ms. M later j (copied_to_all w.run bytes ds (before ++ x ∷ [])) (okay (AllCopied ms))) (append_assoc ns (n ∷ []) ls)
      (copies_meet bytes ls (ns ++ n ∷ []) ds (before ++ x ∷ []) (λ m c. off m (later_there n ls m c)) later j g.0 (open_behind w.run path later ns before n x g.1.0 g.1.1.0) g.1.1.1))
