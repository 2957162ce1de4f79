-- How it ends that messages of a folder get other numbers and their marks go along, and what shows it.
use Rattle.std.proofs.Common.{◌≡◌, inl, inr, ◌<◌, ◌^◌, ◌∷◌, [], true, ℕ, List, Option, Result, Ok, Err, refl}
use Rattle.mh_sequences.specs.Runs.{AreRuns, last_in}
use Rattle.mh_sequences.specs.declared.run.Run.{Run}
use Rattle.mh_sequences.specs.Sequences.{Marked}
use Rattle.folder_files.specs.Deeds.{Deed, WasDone, on}
use Rattle.folder_files.specs.declared.place.Place.{Place}
use Rattle.folder_files.specs.declared.place.Place.TheVariants.{Folder, Mail}
use Rattle.folder_files.specs.declared.step.Step.TheVariants as step
use Rattle.file_plans.specs.Plan.{Hand, Return, ◌>>=◌}
use Rattle.file_plans.proofs.Framing.{AnyStep}
use Rattle.step_plans.specs.declared.fault.PlanFault.{PlanFault}
use Rattle.step_plans.proofs.Coming.{Comes, comes_more, comes_then, comes_to}
use Rattle.step_plans.proofs.Going.{Outcome, okay}
use Rattle.step_plans.proofs.Lasting.{KeptBy}
use Rattle.sequence_commits.specs.Committing.{changed_sequences}
use Rattle.message_puts.specs.Stored.{HasMetAt}
use Rattle.message_places.specs.Arranging.{arranged}
use Rattle.message_places.specs.Places.{AreDistinct, AreMsgNums, froms, is_in, slots}
use Rattle.message_places.specs.declared.moves.Move.{Move}
use Rattle.opening_plans.specs.Endings.{HasMetIn}
use Rattle.opening_plans.specs.FolderPledge.{told_within}
use Rattle.opening_plans.specs.Opening.{Opened, opened_of}
use Rattle.opening_plans.specs.Reads.{HaveSeen}
use Rattle.opening_plans.proofs.CleanRuns.{comes_both}
use Rattle.opening_plans.proofs.FolderPledged.{seen_kept}
use Rattle.opening_plans.proofs.SequencesEnd.{Left}
use Rattle.sortm_plans.specs.Marking.{gone_along}
use Rattle.sortm_plans.proofs.ArrangedDone as settling
use Rattle.sortm_plans.proofs.ArrangedDone.{arranged_settles}
use Rattle.sortm_plans.proofs.ArrangedEnds as moving
use Rattle.sortm_plans.proofs.ArrangedEnds.{arranged_comes}
use Rattle.sortm_plans.specs.Moving.{marked_moved, moved_if}
use Rattle.sortm_plans.proofs.CommitsShown as commits
use Rattle.sortm_plans.proofs.CommitsShown.{Commits}
use Rattle.sortm_plans.specs.MovePledge.{MovesMarks}
use Rattle.mh_base.specs.Entries.{entry_text}
use Rattle.mh_base.specs.declared.entry.Entry.TheVariants.{Number}
use Rattle.folder_files.specs.Careful.{HasLock}
use Rattle.step_plans.specs.Commits.{IsBase}
use Rattle.sequence_commits.proofs.SequencesPledged.{sequences_name}
use Rattle.sortm_plans.specs.MovesDone.{AllSettled}
use Rattle.refile_plans.proofs.Lasts.{last_listed, last_small}
use Rattle.refile_plans.specs.Rmm.{withdrawn}

module _ (shown : Commits) where
  abbrev run : ℕ
  run = shown.run

  abbrev few : run < 2 ^ 128
  few = shown.few

  abbrev path : List ℕ
  path = shown.path

  abbrev folder : List ℕ
  folder = shown.folder

  abbrev p : Place
  p = Folder path folder

  abbrev mail : Place
  mail = Mail path

  -- how a plan on the folder ends
  abbrev Plainly : {A : Type 0} → Outcome A → Outcome (Result A PlanFault)
  Plainly P later j r = commits.Plainly shown P later j r

  abbrev pub Leaves : {A : Type 0} → Outcome A
  Leaves later j x = Left run few path folder shown.answers later j

  -- the work on a folder with these numbers, by what was read of it
  module _ (listing : List Run) (listed : AreRuns listing) (text context : List ℕ) (ends_ : List (Option ℕ)) where
    abbrev marked : Marked
    marked = told_within listing text context folder

    abbrev opened : Opened
    opened = opened_of p folder listing marked ends_

    abbrev Seen : List Deed → Type 0
    Seen later = HaveSeen run p mail listing text context later

    -- the last number is taken: the run listed a message there, or linked or met one there
    abbrev Top : List Deed → Type 0
    Top later = commits.Top shown listing text context later

    abbrev top_kept : KeptBy AnyStep Top
    top_kept = commits.top_kept shown listing text context

    abbrev top_met : (later : List Deed) → HasMetAt p 999999 later → Top later
    top_met = commits.top_met shown listing text context

    -- messages move, of which the run knows this, and these numbers are taken
    module _ (Knows : List Deed → Type 0) (knows_kept : KeptBy AnyStep Knows) (takes : List ℕ) (good_takes : AreMsgNums takes) (distinct_takes : AreDistinct takes) where
      abbrev freed : Marked
      freed = withdrawn takes marked

      module _ (x : Move) (l : List Move) (good_moving : AreMsgNums (froms (x ∷ l))) (distinct_moving : AreDistinct (froms (x ∷ l))) (good_slots : AreMsgNums (slots (x ∷ l))) (among : (k : ℕ) → is_in k (froms (x ∷ l)) ≡ true → is_in k takes ≡ true)
          (makes : (later : List Deed) (new : Marked) → Knows later → MovesMarks run p takes (x ∷ l) later marked new → shown.makes later listing marked new) where
        abbrev ms : List Move
        ms = x ∷ l

        -- what lasts
        abbrev Lasts : List Deed → Type 0
        Lasts later = Knows later × (WasDone (step.Lock p) later × Seen later)

        lasts_on : KeptBy AnyStep Lasts
        lasts_on later t a any f = (knows_kept later t a tt f.0, (on f.1.0, seen_kept run p mail listing text context later t a tt f.1.1))

        abbrev Freed : Outcome Unit
        Freed later j u = Lasts later × (commits.AllMet shown listing text context takes good_takes freed later × commits.Committed shown listing text context marked freed later j u)

        abbrev Moved : Outcome (List ℕ)
        Moved later j ends = Lasts later × (moving.Calm run few path folder Top top_kept top_met later j × AllSettled run p ms ends later)

        moves_come : (later : List Deed) (j : Hand) → Freed later j tt → Comes later j (arranged run p takes ms (last_in listing)) (Plainly Moved)
        moves_come later j f =
            commits.beside shown Lasts lasts_on later j (arranged run p takes ms (last_in listing)) (λ last_ i ends. moving.Calm run few path folder Top top_kept top_met last_ i × AllSettled run p ms ends last_) f.0
            (comes_more later j (arranged run p takes ms (last_in listing))
            (λ last_ i r. moving.MovedSo run few path folder Top top_kept top_met (λ end k ends. moving.Calm run few path folder Top top_kept top_met end k) last_ i r × okay (settling.AllSettle run few p ms) last_ i r)
            (Plainly (λ last_ i ends. moving.Calm run few path folder Top top_kept top_met last_ i × AllSettled run p ms ends last_)) go
            (comes_both later j (arranged run p takes ms (last_in listing)) (moving.MovedSo run few path folder Top top_kept top_met (λ end k ends. moving.Calm run few path folder Top top_kept top_met end k)) (okay (settling.AllSettle run few p ms))
            (arranged_comes run few path folder Top top_kept top_met takes good_takes distinct_takes x l good_moving distinct_moving good_slots among (last_in listing) later j (last_small listing listed) (λ e. inl (f.0.1.1, last_listed listing e)) f.1.1.1.clean
            (λ k e. f.1.0 k e))
            (arranged_settles run few p takes good_takes ms among (last_in listing) later j)))
          where
            go : (last_ : List Deed) (i : Hand) (r : Result (List ℕ) PlanFault)
                → moving.MovedSo run few path folder Top top_kept top_met (λ end k ends. moving.Calm run few path folder Top top_kept top_met end k) last_ i r × okay (settling.AllSettle run few p ms) last_ i r
                → Plainly (λ end k ends. moving.Calm run few path folder Top top_kept top_met end k × AllSettled run p ms ends end) last_ i r
            go last_ i (Ok ends) g = g
            go last_ i (Err e) g = commits.moves_show shown listing text context e last_ g.0

        marked_comes : (later : List Deed) (j : Hand) (base : List ℕ) → Knows later → Seen later → HasLock p later → WasDone (step.Lock p) later → IsBase run p sequences_name base later → ((k : ℕ) → is_in k takes ≡ true → HasMetIn p (entry_text (Number k)) later)
            → Left run few path folder shown.answers later j → Comes later j (marked_moved run mail opened takes ms) (Plainly Leaves)
        unfolding marked_moved
        marked_comes later j base known seen lock was is met left =
            comes_then later j (changed_sequences run p mail folder marked freed) (λ free. arranged run p takes ms (last_in listing) >>= (λ ends. changed_sequences run p mail folder freed (gone_along ms ends marked) >>= (λ back. Return (Ok ends)))) (Plainly Freed) (Plainly Leaves)
            (commits.beside shown Lasts lasts_on later j (changed_sequences run p mail folder marked freed) (λ last_ i u. commits.AllMet shown listing text context takes good_takes freed last_ × commits.Committed shown listing text context marked freed last_ i u) (known, (was, seen))
            (commits.first_comes shown listing text context takes good_takes freed later j (seen, makes later freed known (inl refl)) met lock was base is left))
            (λ second i u q.
            comes_then second i (arranged run p takes ms (last_in listing)) (λ ends. changed_sequences run p mail folder freed (gone_along ms ends marked) >>= (λ back. Return (Ok ends))) (Plainly Moved) (Plainly Leaves) (moves_come second i q)
            (λ third k ends m.
            comes_then third k (changed_sequences run p mail folder freed (gone_along ms ends marked)) (λ back. Return (Ok ends)) (Plainly (commits.Committed shown listing text context freed (gone_along ms ends marked))) (Plainly Leaves)
            (commits.commit_comes shown listing text context freed (gone_along ms ends marked) third k (m.0.1.1, makes third (gone_along ms ends marked) m.0.0 (inr (ends, commits.all_moved run p ms ends third m.1.1, refl))) m.0.1.0 (record { clean = m.1.0.clean; safe = m.1.0.safe }))
            (λ last_ i v q_. comes_to last_ i (Ok ends) (Plainly Leaves) q_.1) (λ last_ i e q_. q_))
            (λ third k e m. m))
            (λ second i e q. q)

      -- where none moves nothing is done
      pub moved_comes : (ms : List Move) → AreMsgNums (froms ms) → AreDistinct (froms ms) → AreMsgNums (slots ms) → ((k : ℕ) → is_in k (froms ms) ≡ true → is_in k takes ≡ true)
          → ((later : List Deed) (new : Marked) → Knows later → MovesMarks run p takes ms later marked new → shown.makes later listing marked new)
          → (later : List Deed) (j : Hand) (base : List ℕ) → Knows later → Seen later → HasLock p later → WasDone (step.Lock p) later → IsBase run p sequences_name base later → ((k : ℕ) → is_in k takes ≡ true → HasMetIn p (entry_text (Number k)) later)
          → Left run few path folder shown.answers later j → Comes later j (moved_if run mail opened takes ms) (Plainly Leaves)
      moved_comes [] good_moving distinct_moving good_slots among makes later j base known seen lock was is met left = comes_to later j (Ok []) (Plainly Leaves) left
      moved_comes (x ∷ l) good_moving distinct_moving good_slots among makes later j base known seen lock was is met left = marked_comes x l good_moving distinct_moving good_slots among makes later j base known seen lock was is met left
