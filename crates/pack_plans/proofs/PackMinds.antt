-- Each step of `folder -pack` minds the marks of all sequences.
use Rattle.std.proofs.Common.{◌≡◌, inl, inr, ◌<◌, ◌^◌, ◌∷◌, [], ℕ, true, false, List, Option, refl, sym, ◌∙◌, subst}
use Rattle.mh_sequences.specs.Runs.{AreRuns, has, numbers_of}
use Rattle.mh_sequences.specs.Sequences.{Marked}
use Rattle.mh_sequences.specs.declared.run.Run.{Run}
use Rattle.msg_ranges.proofs.Rising.{lists_numbers}
use Rattle.folder_files.specs.Deeds.{Deed}
use Rattle.folder_files.specs.declared.place.Place.{Place}
use Rattle.folder_files.specs.declared.place.Place.TheVariants.{Folder, Mail}
use Rattle.folder_files.specs.declared.step.Step.{Step}
use Rattle.file_plans.specs.Plan.{Hand, Plan, lifted, ◌>>=◌}
use Rattle.step_plans.specs.ContextCommit.{AreChanges}
use Rattle.step_plans.specs.Pledges.{MayAsk, Pledge}
use Rattle.step_plans.proofs.Going.{Outcome, okay}
use Rattle.message_places.specs.Places.{AreMsgNums, froms, is_in, slots}
use Rattle.message_places.specs.declared.moves.Move.{Move}
use Rattle.command_stages.specs.Current.{current_change, made_current}
use Rattle.command_stages.specs.Endings.{of_plan}
use Rattle.sequence_marks.proofs.OtherEntries.{by_bool}
use Rattle.opening_plans.specs.FolderPledge.{told_within}
use Rattle.opening_plans.specs.Opening.{Opened, opened_of}
use Rattle.opening_plans.proofs.AllMarks.{MindsAll}
use Rattle.opening_plans.proofs.BegunSeen.{NoneUnlinked}
use Rattle.opening_plans.proofs.CommitMinds.{Facts, IsTold}
use Rattle.opening_plans.proofs.Meeting.{Meets, meets_lifted, meets_okay, meets_return, meets_then}
use Rattle.opening_plans.proofs.ToldMarks.{InListing}
use Rattle.opening_plans.proofs.WorkMinds.{Anyhow, current_meets}
use Rattle.sortm_plans.proofs.MarksKnown.{KnowsMarks}
use Rattle.step_plans.specs.CommandFaults.{of_sink}
use Rattle.opening_plans.proofs.Meeting.{meets_say}
use Rattle.told_folders.specs.Plans.{lines_said}
use Rattle.message_places.proofs.InOrder.{slot_unlisted}
use Rattle.sortm_plans.proofs.MovesMind as moves
use Rattle.pack_plans.specs.Pack.{line_after, line_told, opened_packed, pack, renumbered}
use Rattle.pack_plans.specs.PackPledge.{pack_pledge}
use Rattle.pack_plans.specs.Places.{listing_moves, places_of}
use Rattle.pack_plans.specs.declared.job.PackJob.{PackJob}
use Rattle.pack_plans.proofs.PackMoves.{meant_good, moving_good, places_distinct, places_many}
use Rattle.sortm_plans.proofs.KnownMinds.{work_meets}

module _ (w : Pledge) (few : w.run < 2 ^ 128) (path : List ℕ) (job : PackJob) (ok : AreChanges (current_change job.folder)) where
  abbrev Of : List ℕ → Type 0
  Of other = IsTold job.folder other

  abbrev p : Place
  p = Folder path job.folder

  abbrev mail : Place
  mail = Mail path

  abbrev A : List Deed → Step → Type 0
  A own s = MindsAll Of w.run own s

  abbrev M : {R : Type 0} → List Deed → Hand → Plan R → Outcome R → Type 0
  M own h plan Q = Meets (MayAsk w) A own h plan Q

  -- the work on a folder that was begun
  module _ (names : List (List ℕ)) (listing : List Run) (runs : AreRuns listing) (text context : List ℕ) (ends_ : List (Option ℕ)) where
    abbrev told : Marked
    told = told_within listing text context job.folder

    abbrev opened : Opened
    opened = opened_of p job.folder listing told ends_

    -- each listed number is there, and no other is marked
    abbrev Known : List Deed → Hand → Type 0
    Known own h = Facts w path job.folder names (InListing listing) own × KnowsMarks w path job.folder told own h

    abbrev None_ : List ℕ → Type 0
    None_ z = ⊥

    -- what is left once messages may have got other numbers
    abbrev ReadyAt : Outcome (List ℕ)
    ReadyAt later j ends = Facts w path job.folder names None_ later

    -- these messages get other numbers
    moved_meets : (ms : List Move) → AreMsgNums (froms ms) → AreMsgNums (slots ms) → ((k : ℕ) → is_in k (slots ms) ≡ true → is_in k (froms ms) ≡ false → has listing k ≡ false) → (own : List Deed) (h : Hand) → Known own h
        → M own h (renumbered w.run mail opened ms) (okay ReadyAt)
    moved_meets ms fs ss unlisted own h f =
        moves.moved_meets w few path job.folder names listing runs text context ms (froms ms) fs fs ss (λ k. refl) (λ k e. by_bool (is_in k (froms ms)) (λ i. inl i) (λ off. inr (unlisted k e off))) ends_ own h f

    line_meets : (own : List Deed) (h : Hand) (line : List ℕ) → M own h (lines_said (line ∷ [])) (okay (λ later j u. later ≡ own))
    unfolding lines_said
    line_meets own h line = meets_say (MayAsk w) A own h of_sink (okay (λ later j u. later ≡ own)) line (λ told_. lines_said []) (meets_return (MayAsk w) A own h tt (okay (λ later j u. later ≡ own)) refl)

    opened_okay : (own : List Deed) (h : Hand) → Known own h → M own h (opened_packed w.run path job opened) (okay (λ later j u. Unit {0}))
    unfolding opened_packed line_told
    opened_okay own h f =
        meets_then (MayAsk w) A own h (lifted (of_plan job.folder) (renumbered w.run mail opened (listing_moves listing))) (λ ends. lines_said (line_after job listing told ends ∷ []) >>= (λ told_. made_current w.run path job.folder)) ReadyAt (λ later j u. Unit {0})
        (meets_lifted (MayAsk w) A own h (of_plan job.folder) (renumbered w.run mail opened (listing_moves listing)) ReadyAt
        (moved_meets (listing_moves listing) (moving_good listing runs) (meant_good listing runs)
        (λ k e off. sym (lists_numbers listing k) ∙ slot_unlisted (numbers_of listing) (places_of (numbers_of listing)) (sym (places_many (numbers_of listing))) (places_distinct (numbers_of listing)) k e off) own h f))
        (λ later j ends g.
        meets_then (MayAsk w) A later j (lines_said (line_after job listing told ends ∷ [])) (λ told_. made_current w.run path job.folder) (λ last i u. last ≡ later) (λ last i u. Unit {0}) (line_meets later j (line_after job listing told ends))
        (λ last i u e.
        meets_okay (MayAsk w) A last i (made_current w.run path job.folder) (λ end l v. Facts w path job.folder names None_ end) (λ end l v. Unit {0}) (λ end l v k. tt)
        (current_meets w path job.folder names None_ ok last i (subst (λ z. Facts w path job.folder names None_ z) (sym e) g))))

  -- each step of `folder -pack` minds all marks
  pub pack_minds : (own : List Deed) (h : Hand) → NoneUnlinked p own → M own h (pack w.run path job) Anyhow
  unfolding pack
  pack_minds own h none = work_meets w path job.folder (opened_packed w.run path job) opened_okay own h none

-- so of a call as it is pledged
pub pack_meets : (run : ℕ) → run < 2 ^ 128 → (path : List ℕ) (job : PackJob) → AreChanges (current_change job.folder) → (own : List Deed) (h : Hand) → NoneUnlinked (Folder path job.folder) own
    → Meets (MayAsk (pack_pledge run path job)) (MindsAll (IsTold job.folder) run) own h (pack run path job) Anyhow
pack_meets run few path job ok own h none = pack_minds (pack_pledge run path job) few path job ok own h none
