-- Each step of `inc` minds the marks of all sequences.
use Rattle.std.proofs.Common.{◌≡◌, ◌⊎◌, inl, inr, ◌<◌, ◌^◌, ◌∷◌, [], ℕ, Bool, true, false, List, sym, subst, arith}
use Rattle.mh_base.specs.Entries.{kind_of}
use Rattle.mh_sequences.specs.Runs.{has}
use Rattle.mh_sequences.specs.Sequences.{Marked}
use Rattle.msg_ranges.proofs.Rising.{lists}
use Rattle.folder_files.specs.Deeds.{Deed, did}
use Rattle.folder_files.specs.Named.{is_number}
use Rattle.folder_files.specs.declared.place.Place.{Place}
use Rattle.folder_files.specs.declared.place.Place.TheVariants.{Folder, Mail}
use Rattle.folder_files.specs.declared.step.Step.{Step}
use Rattle.folder_files.specs.declared.step.Step.TheVariants as step
use Rattle.file_plans.specs.Asking.{cut_drop, drop_cut_of}
use Rattle.file_plans.specs.Plan.{Hand, Plan, ask, bind, lifted, ◌>>=◌}
use Rattle.file_plans.specs.declared.answers.DropCut.{DropCut}
use Rattle.file_plans.specs.declared.answers.DropCut.TheVariants as drop_cut
use Rattle.step_plans.specs.ContextCommit.{AreChanges}
use Rattle.step_plans.specs.Pledges.{MayAsk, Pledge}
use Rattle.step_plans.proofs.Going.{Outcome, Sound, okay}
use Rattle.marks_law.specs.Minding.{Sees}
use Rattle.sequence_commits.specs.Committing.{changed_sequences}
use Rattle.sequence_commits.specs.Marking.{marked_by_all}
use Rattle.sequence_commits.specs.RunsOfAll.{set_among}
use Rattle.command_stages.specs.Current.{current_change, made_current}
use Rattle.command_stages.specs.Endings.{of_plan}
use Rattle.opening_plans.specs.FolderPledge.{told_within}
use Rattle.opening_plans.specs.Making.{made_begun}
use Rattle.opening_plans.specs.Opening.{Opened}
use Rattle.opening_plans.proofs.AllMarks.{MindsAll, quiet_minds}
use Rattle.opening_plans.proofs.BegunSeen.{HasSeenBegun, NoneUnlinked}
use Rattle.opening_plans.proofs.ChosenListed.{has_tested}
use Rattle.opening_plans.proofs.CommitMinds.{Facts, IsTold, Within, changed_meets}
use Rattle.opening_plans.proofs.FolderPledged.{HasBegun}
use Rattle.opening_plans.proofs.FreeMarks.{FreesOthers}
use Rattle.opening_plans.proofs.MadeMinds.{Made, made_minds}
use Rattle.opening_plans.proofs.Meeting.{Meets, meets_lifted, meets_more, meets_okay, meets_then}
use Rattle.opening_plans.proofs.ToldMarks.{told_cur, told_listed, told_valid}
use Rattle.opening_plans.proofs.WorkMinds.{Anyhow, current_meets, opened_meets}
use Rattle.opening_plans.proofs.WorkPledged.{made_goes}
use Rattle.inc_plans.specs.DropTaken.{drop_taken, where_of}
use Rattle.inc_plans.specs.Inc.{cut_by, cut_if, drop_ended, heading_told, inc, new_marked, new_marks, opened_incorporated, room_counted, telling_of, told_taken, top_of}
use Rattle.inc_plans.specs.IncPledge.{MakesSo, MarksNew, TellsNew, inc_pledge}
use Rattle.inc_plans.specs.declared.size.DropSize.{DropSize}
use Rattle.inc_plans.specs.declared.taken.Taken.{Taken}
use Rattle.inc_plans.specs.IncJob.{IncJob}
use Rattle.folder_files.specs.Commands.{Incorporating}
use Rattle.inc_plans.proofs.DropMinds.{HasTaken, Takes, headed_meets, pass_meets, room_meets}
use Rattle.inc_plans.proofs.IncPledged.{lasts, lets, top_low}
use Rattle.inc_plans.proofs.NewWithin.{new_cur, new_valid, new_within}
use Rattle.inc_plans.proofs.PutMinds.{A as Minding, Known as KnownOf, There as ThereOf}

module _ (run : ℕ) (few : run < 2 ^ 128) (path : List ℕ) (job : IncJob) (ok : AreChanges (current_change job.folder)) where
  abbrev w : Pledge
  w = inc_pledge run path job

  abbrev p : Place
  p = Folder path job.folder

  abbrev mail : Place
  mail = Mail path

  abbrev Of : List ℕ → Type 0
  Of other = IsTold job.folder other

  abbrev A : List Deed → Step → Type 0
  A own s = Minding run path job own s

  abbrev M : {R : Type 0} → List Deed → Hand → Plan R → Outcome R → Type 0
  M own h plan Q = Meets (MayAsk w) A own h plan Q

  abbrev Free : Outcome Unit
  Free later j u = Unit {0}

  -- the drop is cut
  cut_meets : (own : List Deed) (h : Hand) (b : Bool) (l : ℕ) → M own h (cut_if b job.drop l) (okay Free)
  unfolding Meets drop_ended cut_drop ask lifted bind ◌>>=◌
  cut_meets own h false l = tt
  cut_meets own h true l = λ may. (
    quiet_minds Of run own (step.CutDrop job.drop l) (λ other folder c. c) (λ other folder sequence temp e. cc (e)),
    λ a row live. ended (did (step.CutDrop job.drop l) a ∷ own) (drop_cut_of a),
  )
    where
      ended : (later : List Deed) (cut : DropCut) → M later h (cut_by cut) (okay Free)
      ended later drop_cut.Done = tt
      ended later drop_cut.Gone = tt
      ended later drop_cut.Grown = tt

  -- the work on a folder that was begun
  module _ (first own : List Deed) (h : Hand) (o : Opened) (begun : HasBegun w first path job.folder own o) (b : HasSeenBegun path job.folder own o) (frees : FreesOthers run path job.folder o.listing own) where
    abbrev old : List ℕ
    old = begun.base.0

    abbrev Known : List ℕ → List Deed → Type 0
    Known numbers later = KnownOf run path job b.names o.listing old begun.marks numbers later

    abbrev There : List ℕ → List ℕ → Type 0
    There numbers z = ThereOf run path job b.names o.listing old begun.marks numbers z

    abbrev m : Marked
    m = told_within o.listing b.text b.context job.folder

    known : Known [] own
    known = (((record { lock = b.facts.0.lock; there = there; held = b.facts.0.held; listed = b.facts.0.listed }, b.facts.1), begun.base.1), frees)
      where
        there : (z : List ℕ) → There [] z → is_number (kind_of z) ≡ true → Sees p z true own
        there z (inl so) number = b.facts.0.there z so number
        there z (inr so) number = let e = so.2 in cc (e)

    abbrev made : List ℕ → Marked
    made numbers = marked_by_all (new_marks job numbers) m

    abbrev Such : List ℕ → ℕ → Type 0
    Such numbers n = (has o.listing n ≡ true) ⊎ (lists numbers n ≡ true)

    made_within : (numbers : List ℕ) → Within (There numbers) (made numbers)
    made_within numbers z n sequence kind e =
        go (new_within (Such numbers) (set_among numbers) (λ k f. inr (has_tested (λ j. lists numbers j) k f)) job.change_cur numbers job.unseen m (λ t k f. inl (told_listed o.listing b.text b.context job.folder t k f)) sequence n e)
      where
        go : Such numbers n → There numbers z
        go (inl f) = inl (n, kind, f)
        go (inr f) = inr (n, kind, f)

    -- the new messages are marked
    marked_meets : (t : Taken) (later : List Deed) (j : Hand) → HasTaken run path job b.names o.listing old begun.marks later t
        → M later j (lifted (of_plan job.folder) (changed_sequences run p mail job.folder m (made t.numbers)) >>= (λ marked. made_current run path job.folder)) (okay Free)
    marked_meets t later j f =
        meets_then (MayAsk w) (MindsAll Of run) later j (lifted (of_plan job.folder) (changed_sequences run p mail job.folder m (made t.numbers))) (λ marked. made_current run path job.folder) (λ last i u. Facts w path job.folder b.names (There t.numbers) last) Free
        (meets_lifted (MayAsk w) (MindsAll Of run) later j (of_plan job.folder) (changed_sequences run p mail job.folder m (made t.numbers)) (λ last i u. Facts w path job.folder b.names (There t.numbers) last)
        (changed_meets w path job.folder b.names (There t.numbers) (made t.numbers) (new_valid job.change_cur t.numbers (set_among t.numbers) job.unseen m (told_valid o.listing b.text b.context job.folder))
        (new_cur job.change_cur t.numbers (set_among t.numbers) job.unseen m f.numbers (told_cur o.listing b.text b.context job.folder)) (made_within t.numbers) later j m f.known.0.0))
        (λ last i u g.
        meets_okay (MayAsk w) (MindsAll Of run) last i (made_current run path job.folder) (λ end k v. Facts w path job.folder b.names (There t.numbers) end) Free (λ end k v z. tt)
        (current_meets w path job.folder b.names (There t.numbers) ok last i g))

    marked_at : (q : Place) (n : List ℕ) (s : Marked) → q ≡ p → n ≡ job.folder → s ≡ m → (t : Taken) (later : List Deed) (j : Hand) → HasTaken run path job b.names o.listing old begun.marks later t
        → M later j (lifted (of_plan job.folder) (changed_sequences run q mail n s (marked_by_all (new_marks job t.numbers) s)) >>= (λ marked. made_current run path job.folder)) (okay Free)
    marked_at q n s place name is t later j f = rw (place, name, is) (marked_meets t later j f)

    -- the messages are taken in
    taken_at : (q : Place) → q ≡ p → (size : DropSize) (later : List Deed) (j : Hand) → Known [] later
        → M later j (heading_told job.silent job.folder >>= (λ told. drop_taken (where_of run job.folder q (telling_of job o.sequences.cur)) job.drop size.length size.messages (top_of o.listing))) (okay (Takes run path job b.names o.listing old begun.marks))
    taken_at q place size later j f =
        subst (λ z. M later j (heading_told job.silent job.folder >>= (λ told. drop_taken (where_of run job.folder z (telling_of job o.sequences.cur)) job.drop size.length size.messages (top_of o.listing))) (okay (Takes run path job b.names o.listing old begun.marks))) (sym place)
        (headed_meets run path job b.names o.listing old begun.marks job.silent later j (λ told. drop_taken (where_of run job.folder p (telling_of job o.sequences.cur)) job.drop size.length size.messages (top_of o.listing)) (okay (Takes run path job b.names o.listing old begun.marks))
        (pass_meets run path job b.names o.listing old begun.marks (telling_of job o.sequences.cur) size.length size.messages (top_of o.listing) (omega arith) (top_low 1 o.listing b.runs) later j f))

    work_meets : M own h (opened_incorporated run path job o) (okay Free)
    unfolding opened_incorporated told_taken new_marked
    work_meets =
        meets_then (MayAsk w) A own h (room_counted job.folder job.drop (top_of o.listing)) (λ size. told_taken run job o size >>= (λ t. new_marked run path job o t.numbers >>= (λ marked. cut_if job.truncate job.drop size.length))) (λ later j size. Known [] later) Free
        (room_meets run path job b.names o.listing old begun.marks [] (top_of o.listing) own h known)
        (λ later j size f.
        meets_then (MayAsk w) A later j (told_taken run job o size) (λ t. new_marked run path job o t.numbers >>= (λ marked. cut_if job.truncate job.drop size.length)) (Takes run path job b.names o.listing old begun.marks) Free
        (taken_at o.place b.place size later j f)
        (λ last i t g.
        meets_then (MayAsk w) A last i (new_marked run path job o t.numbers) (λ marked. cut_if job.truncate job.drop size.length) Free Free
        (marked_at o.place o.folder o.sequences b.place b.name b.sequences t last i g)
        (λ end k u z. cut_meets end k job.truncate size.length)))

    pub work_anyhow : M own h (opened_incorporated run path job o) Anyhow
    work_anyhow = meets_more (MayAsk w) A own h (opened_incorporated run path job o) (okay Free) Anyhow (λ later j r q. tt) work_meets

  -- each step of `inc` minds them
  pub inc_meets : (own : List Deed) (h : Hand) → Sound w own h → NoneUnlinked p own → M own h (inc run path job) Anyhow
  unfolding inc
  inc_meets own h sound none =
      opened_meets w path job.folder A (λ before s m. m) (opened_incorporated run path job) (λ later j o. Made w path job.folder own later j o) (λ later j o q. work_anyhow own later j o q.0 q.1.0 q.1.1)
      (lifted (of_plan job.folder) (made_begun run p mail job.folder)) own h
      (meets_lifted (MayAsk w) (MindsAll Of run) own h (of_plan job.folder) (made_begun run p mail job.folder) (Made w path job.folder own)
      (made_minds w path job.folder own h sound
      (made_goes run few path job.folder (MarksNew run path job) (Incorporating path job.folder job.drop) (TellsNew run path job) (MakesSo run path job) (lets run few path job) (lasts run few path job) own h) none))
