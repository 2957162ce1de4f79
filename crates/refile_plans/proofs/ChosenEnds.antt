-- How the work of `refile` on folders that were begun ends, and what shows it.
use Rattle.std.proofs.Common.{◌≡◌, ◌≤◌, ◌<◌, ◌+◌, ◌^◌, ◌∷◌, [], ℕ, Bool, true, false, List, Result, Ok, Err, inl, inr, length, nat_le, refl, sym, ap, subst, arith}
use Rattle.std.specs.Prelude.{map}
use Rattle.std.proofs.lemmas.Bool.Decides.{nat_tests}
use Rattle.mh_base.specs.Entries.{entry_text}
use Rattle.mh_base.specs.Numbers.{IsMsgNum}
use Rattle.mh_base.specs.declared.entry.Entry.TheVariants.{Number}
use Rattle.mh_sequences.specs.Runs.{has, numbers_of}
use Rattle.mh_sequences.specs.Sequences.{Marked}
use Rattle.mh_sequences.specs.declared.run.Run.{Run}
use Rattle.msg_ranges.specs.Selection.{marks_of}
use Rattle.msg_ranges.proofs.Rising.{lists}
use Rattle.folder_files.specs.Careful.{HasLock}
use Rattle.folder_files.specs.Deeds.{Deed, WasDone, last, on}
use Rattle.folder_files.specs.declared.place.Place.{Place}
use Rattle.folder_files.specs.declared.place.Place.TheVariants.{Folder, Mail}
use Rattle.folder_files.specs.declared.refusal.Refusal.{Refusal}
use Rattle.folder_files.specs.declared.refusal.Refusal.TheVariants as refusal
use Rattle.folder_files.specs.declared.step.Answer.TheVariants as answer
use Rattle.folder_files.specs.declared.step.Step.TheVariants as step
use Rattle.file_plans.specs.Plan.{Hand, Plan, Return, lifted, ◌>>=◌}
use Rattle.step_plans.specs.Locking.{lock_name}
use Rattle.step_plans.specs.PlanFaults.{of_stop}
use Rattle.step_plans.specs.Replacing.{held_to, synced}
use Rattle.step_plans.specs.declared.command_fault.CommandFault.{CommandFault}
use Rattle.step_plans.specs.declared.command_fault.CommandFault.TheVariants as fault
use Rattle.step_plans.specs.declared.fault.PlanFault.{PlanFault}
use Rattle.step_plans.specs.declared.fault.PlanFault.TheVariants as plan
use Rattle.step_plans.proofs.Coming.{Comes, comes_lifted, comes_more, comes_on, comes_stop, comes_sync_folder, comes_then, comes_to}
use Rattle.step_plans.proofs.Facts.{lock_kept}
use Rattle.step_plans.proofs.Going.{Outcome}
use Rattle.step_plans.proofs.Lasting.{KeptBy}
use Rattle.sequence_commits.specs.Committing.{changed_sequences}
use Rattle.command_stages.specs.Chosen.{folder_with}
use Rattle.command_stages.specs.Current.{made_current}
use Rattle.command_stages.specs.Endings.{of_plan, if_room}
use Rattle.mh_looks.proofs.Ending.{by_choice}
use Rattle.message_moves.specs.Copying.{highest_of, messages_copied}
use Rattle.message_moves.specs.Refiling.{messages_refiled}
use Rattle.message_moves.specs.declared.destination.Destination.{Destination}
use Rattle.opening_plans.specs.Endings.{HasMetIn, IsRefusedBy, PutsBackups, removed_gone}
use Rattle.opening_plans.specs.FolderPledge.{told_within}
use Rattle.opening_plans.specs.Opening.{Opened}
use Rattle.opening_plans.specs.Reads.{HaveSeen}
use Rattle.opening_plans.proofs.BeginState.{was_locked}
use Rattle.opening_plans.proofs.CleanRuns.{Clean, clean_more}
use Rattle.opening_plans.proofs.FolderPledged.{seen_kept}
use Rattle.opening_plans.proofs.NamesKept.{names_met_kept, names_safe_kept}
use Rattle.opening_plans.proofs.SequencesEnd.{Leaves, Left, changed_comes}
use Rattle.opening_plans.proofs.WorkEnds.{Ends, EndsWith, comes_shown, current_comes}
use Rattle.refile_plans.specs.Gathering.{Gathered}
use Rattle.refile_plans.specs.Refile.{current_if, destination_of, gathered_refiled, greatest_of, messages_left, messages_stay, moved_by, names_source, opened_refiled, refile_chosen, room_in, said_refiled, unless_source}
use Rattle.refile_plans.specs.RefileAnswers.{HaveChosen, ShowsRefile, no_room, same_folder, source_answers}
use Rattle.refile_plans.specs.Rmm.{withdrawn}
use Rattle.refile_plans.specs.declared.job.RefileJob.{RefileJob}
use Rattle.refile_plans.specs.declared.job.RmmJob.{RmmJob}
use Rattle.refile_plans.proofs.CopyEnds.{AreTargets}
use Rattle.refile_plans.proofs.MessageEnds.{Left_, Moving, copied_comes, refiled_comes}
use Rattle.refile_plans.proofs.RmmPledged.{listed_runs}
use Rattle.refile_plans.proofs.Selected.{chosen_listed, chosen_rise, in_runs}
use Rattle.refile_plans.proofs.TargetEnds.{AreReady, EndOf, LeavesSource}

module _ (run : ℕ) (few : run < 2 ^ 128) (path : List ℕ) (job : RefileJob) where
  abbrev source : Place
  source = Folder path job.source

  abbrev mail : Place
  mail = Mail path

  abbrev Shows : CommandFault → List Deed → Type 0
  Shows e own = ShowsRefile run path job e own

  -- how a plan ends: with this, or by what shows its fault
  abbrev pub So : {A : Type 0} → Outcome A → Outcome (Result A CommandFault)
  So P later j r = EndsWith Shows P later j r

  -- words choose of the source as they do of a folder that `rmm` begins
  abbrev like : RmmJob
  like = record { folder = job.source; specs = job.specs; unlink = false; negation = job.negation }

  -- what is left of the run and of the source's names
  abbrev LeftSo : Outcome Unit
  LeftSo later j u = Left run few path job.source (source_answers job) later j

  -- what shows a fault of the source shows it of the command
  source_so : {A : Type 0} (P : Outcome A) (later : List Deed) (j : Hand) (r : Result A CommandFault) → Ends run few path job.source (source_answers job) P later j r → So P later j r
  source_so P later j (Ok a) g = g
  source_so P later j (Err e) g = inl g

  -- each of these destinations has room for so many messages
  abbrev AllRoom : List Opened → ℕ → Type 0
  AllRoom [] count = Unit {0}
  AllRoom (d ∷ ds) count = (highest_of (greatest_of d.listing) + count ≤ 999999) × AllRoom ds count

  abbrev Roomy : List Opened → ℕ → List Deed → Hand → Outcome Unit
  Roomy os count own h later j u = (later ≡ own) × (j ≡ h) × AllRoom os count

  room_comes : (os : List Opened) (numbers : List ℕ) (own : List Deed) (h : Hand) → AreReady run few path job os own → HaveChosen run path job numbers own → Comes own h (room_in (map destination_of os) (length numbers)) (So (Roomy os (length numbers) own h))
  unfolding room_in
  room_comes [] numbers own h ready chosen = comes_to own h (Ok tt) (So (Roomy [] (length numbers) own h)) (refl, refl, tt)
  room_comes (d ∷ ds) numbers own h ready chosen =
      comes_then own h (if_room (nat_le (highest_of (greatest_of d.listing) + length numbers) 999999) d.folder) (λ room. room_in (map destination_of ds) (length numbers)) (So One) (So (Roomy (d ∷ ds) (length numbers) own h))
      (one (nat_le (highest_of (greatest_of d.listing) + length numbers) 999999) refl)
      (λ later j u q.
      subst (λ z. Comes z j (room_in (map destination_of ds) (length numbers)) (So (Roomy (d ∷ ds) (length numbers) own h))) (sym q.0)
      (subst (λ i. Comes own i (room_in (map destination_of ds) (length numbers)) (So (Roomy (d ∷ ds) (length numbers) own h))) (sym q.1)
      (comes_more own h (room_in (map destination_of ds) (length numbers)) (So (Roomy ds (length numbers) own h)) (So (Roomy (d ∷ ds) (length numbers) own h)) (more q.2) (room_comes ds numbers own h ready.1 chosen))))
      (λ later j e q. q)
    where
      One : Outcome Unit
      One later j u = (later ≡ own) × (j ≡ h) × (highest_of (greatest_of d.listing) + length numbers ≤ 999999)

      one : (b : Bool) → nat_le (highest_of (greatest_of d.listing) + length numbers) 999999 ≡ b → Comes own h (if_room b d.folder) (So One)
      one true e = comes_to own h (Ok tt) (So One) (refl, refl, grind (arith, nat_tests, e))
      one false e = comes_to own h (Err (fault.Refused (refusal.Full d.folder))) (So One) (inr (inr (no_room ready.0.is_one ready.0.seen chosen (grind (arith, nat_tests, e)))))

      more : highest_of (greatest_of d.listing) + length numbers ≤ 999999 → (later : List Deed) (j : Hand) (r : Result Unit CommandFault) → So (Roomy ds (length numbers) own h) later j r → So (Roomy (d ∷ ds) (length numbers) own h) later j r
      more low later j (Ok u) q = (q.0, q.1, (low, q.2))
      more low later j (Err e) q = q

  -- such are destinations for a message
  are_targets : (os : List Opened) (count : ℕ) (own : List Deed) → 1 ≤ count → AreReady run few path job os own → AllRoom os count → AreTargets run few path job (map destination_of os) own
  are_targets [] count own some ready room = tt
  are_targets (d ∷ ds) count own some ready room = (
    record {
      is_one = ready.0.is_one;
      place = ready.0.place;
      lock = ready.0.lock;
      low = (let low = room.0 in omega (arith, low));
      topped = λ e. absurd (let low = room.0 in omega (arith, low, some, e));
    },
    are_targets ds count own some ready.1 room.1,
  )

  -- the source as it was begun
  module _ (listing : List Run) (text context : List ℕ) where
    abbrev told : Marked
    told = told_within listing text context job.source

    -- the run has met each message that it listed there, has its lock, and has put no name there that isn't safe
    pub record Sourced (own : List Deed) : Type 0 where
      pub safe : PutsBackups source own
      pub lock : HasLock source own
      pub seen : HaveSeen run source mail listing text context own
      pub met : (n : ℕ) → IsMsgNum n → has listing n ≡ true → HasMetIn source (entry_text (Number n)) own

    pub sourced_kept : KeptBy (LeavesSource run few path job) Sourced
    sourced_kept own s a leaves f = record {
      safe = names_safe_kept source own s a leaves.0 f.safe;
      lock = lock_kept source own s a leaves.1 f.lock;
      seen = seen_kept run source mail listing text context own s a tt f.seen;
      met = λ n ok e. names_met_kept source (entry_text (Number n)) own s a leaves.0 (f.met n ok e);
    }

    -- what words refuse
    refused_by : (r : Refusal) (own : List Deed) → Sourced own → refile_chosen job listing told ≡ Err (fault.Refused r) → IsRefusedBy run path job.source (source_answers job) r own
    refused_by r own f is = record { listing = listing; text = text; context = context; seen = f.seen; lock = f.lock; refuses = is }

    refused_shows : (own : List Deed) (e : CommandFault) → Sourced own → refile_chosen job listing told ≡ Err e → Shows e own
    refused_shows own e f is =
        by_choice (λ z. refile_chosen job listing told ≡ Err z → Shows z own) (folder_with job.negation (numbers_of listing) (marks_of told)) job.specs e is (λ word i. inl (refused_by (refusal.BadSpec word) own f i))
        (λ word i. inl (refused_by (refusal.Absent word) own f i)) (λ word i. inl (refused_by (refusal.EmptyRange word) own f i)) (λ word i. inl (refused_by (refusal.EmptySequence word) own f i)) is

    -- what is left of the source once its messages went
    record Gone (own : List Deed) : Type 0 where
      safe : PutsBackups source own
      lock : WasDone (step.Lock source) own
      seen : HaveSeen run source mail listing text context own

    module _ (numbers : List ℕ) (is : refile_chosen job listing told ≡ Ok numbers) where
      have_chosen : (own : List Deed) → Sourced own → HaveChosen run path job numbers own
      have_chosen own f = record { listing = listing; text = text; context = context; seen = f.seen; chosen = is }

      moving : (own : List Deed) → Sourced own → Moving run few path job listing text context numbers is numbers own
      moving own f = record { safe = f.safe; lock = was_locked source own f.lock; seen = f.seen; met = λ k e. (ok k e, f.met k (ok k e) (there k e)) }
        where
          there : (k : ℕ) → lists numbers k ≡ true → has listing k ≡ true
          there k e = chosen_listed like listing told numbers is k e

          ok : (k : ℕ) → lists numbers k ≡ true → IsMsgNum k
          ok k e = in_runs listing (listed_runs run source mail listing text context own f.seen) k (there k e)

      gone : (own : List Deed) → Moving run few path job listing text context numbers is [] own → Gone own
      gone own f = record { safe = f.safe; lock = f.lock; seen = f.seen }

    abbrev GoneSo : Outcome (List Destination)
    GoneSo later j to = Clean run later j × Gone later

    fewer : (numbers : List ℕ) (is : refile_chosen job listing told ≡ Ok numbers) (later : List Deed) (j : Hand) (r : Result (List Destination) CommandFault) → So (Left_ run few path job listing text context numbers is []) later j r → So GoneSo later j r
    fewer numbers is later j (Ok to) q = (q.0, gone numbers is later q.2)
    fewer numbers is later j (Err e) q = q

    none_went : (own : List Deed) → Sourced own → Gone own
    none_went own f = record { safe = f.safe; lock = was_locked source own f.lock; seen = f.seen }

    -- the messages leave
    all_refiled : (numbers : List ℕ) → refile_chosen job listing told ≡ Ok numbers → job.link ≡ false → (os : List Opened) (own : List Deed) (h : Hand) → Clean run own h → Sourced own → AreReady run few path job os own → AllRoom os (length numbers)
        → Comes own h (messages_refiled run job.source source numbers (map destination_of os)) (So GoneSo)
    unfolding messages_refiled
    all_refiled [] is link os own h clean f ready room = comes_to own h (Ok (map destination_of os)) (So GoneSo) (clean, none_went own f)
    all_refiled (n ∷ ns) is link os own h clean f ready room =
        comes_more own h (messages_refiled run job.source source (n ∷ ns) (map destination_of os)) (So (Left_ run few path job listing text context (n ∷ ns) is [])) (So GoneSo) (fewer (n ∷ ns) is)
        (refiled_comes run few path job listing text context (n ∷ ns) is link 1 (n ∷ ns) (map destination_of os) (chosen_rise like listing told (n ∷ ns) is) (λ k e. e) own h
        (clean, are_targets os (length (n ∷ ns)) own (omega arith) ready room, moving (n ∷ ns) is own f))

    -- or are copied and stay
    all_copied : (numbers : List ℕ) → refile_chosen job listing told ≡ Ok numbers → job.link ≡ true → (os : List Opened) (own : List Deed) (h : Hand) → Clean run own h → Sourced own → AreReady run few path job os own → AllRoom os (length numbers)
        → Comes own h (messages_copied run job.source source numbers (map destination_of os)) (So GoneSo)
    unfolding messages_copied
    all_copied [] is link os own h clean f ready room = comes_to own h (Ok (map destination_of os)) (So GoneSo) (clean, none_went own f)
    all_copied (n ∷ ns) is link os own h clean f ready room =
        comes_more own h (messages_copied run job.source source (n ∷ ns) (map destination_of os)) (So (Left_ run few path job listing text context (n ∷ ns) is [])) (So GoneSo) (fewer (n ∷ ns) is)
        (copied_comes run few path job listing text context (n ∷ ns) is link (n ∷ ns) (map destination_of os) (λ k e. e) own h (clean, are_targets os (length (n ∷ ns)) own (omega arith) ready room, moving (n ∷ ns) is own f))

    -- and then they leave its sequences
    abbrev Safely : Outcome Unit
    Safely later j u = Clean run later j × Gone later

    abbrev Plainly : {A : Type 0} → Outcome A → Outcome (Result A PlanFault)
    Plainly P later j (Ok a) = P later j a
    Plainly P later j (Err e) = Shows (of_plan job.source e) later

    synced_comes : (own : List Deed) (h : Hand) → Clean run own h → Gone own → Comes own h (lifted (of_plan job.source) (synced source lock_name)) (So Safely)
    unfolding synced
    synced_comes own h clean g =
        comes_lifted own h (of_plan job.source) (synced source lock_name) (Plainly Safely) (So Safely)
        (comes_sync_folder own h of_stop (Plainly Safely) source (held_to source lock_name) (comes_to _ h (Ok tt) (Plainly Safely) (
          clean_more run own h (step.SyncFolder source) answer.Done (λ e. cc (e)) tt clean,
          record { safe = last (inr refl); lock = on g.lock; seen = seen_kept run source mail listing text context own (step.SyncFolder source) answer.Done tt g.seen },
        ))
        (comes_to _ h (Err (plan.Meddled source lock_name)) (Plainly Safely) (inl (removed_gone refl g.lock g.safe))))
        (λ later j u q. q)
        (λ later j e q. q)

    withdrawn_comes : (numbers : List ℕ) → refile_chosen job listing told ≡ Ok numbers → job.link ≡ false → (sequences : Marked) → sequences ≡ told → (own : List Deed) (h : Hand) → Clean run own h → Gone own
        → Comes own h (lifted (of_plan job.source) (changed_sequences run source mail job.source sequences (withdrawn numbers sequences))) (So LeftSo)
    withdrawn_comes numbers is link sequences same own h clean g =
        comes_more own h (lifted (of_plan job.source) (changed_sequences run source mail job.source sequences (withdrawn numbers sequences))) (Ends run few path job.source (source_answers job) LeftSo) (So LeftSo) (source_so LeftSo)
        (comes_shown run few path job.source (source_answers job) own h (changed_sequences run source mail job.source sequences (withdrawn numbers sequences)) LeftSo
        (changed_comes run few path job.source (source_answers job) listing text context (withdrawn numbers sequences) (inr (link, numbers, is, ap (withdrawn numbers) same)) sequences own h g.seen g.lock (record { clean = clean; safe = g.safe })))

    -- what is done with the chosen messages
    module _ (o : Opened) (place : o.place ≡ source) (name : o.folder ≡ job.source) (same : o.sequences ≡ told) (numbers : List ℕ) (is : refile_chosen job listing told ≡ Ok numbers) (os : List Opened) where
      abbrev ds : List Destination
      ds = map destination_of os

      abbrev left_at : Place → List ℕ → Plan (Result Unit CommandFault)
      left_at q n =
          messages_refiled run job.source q numbers ds >>= (λ gone. lifted (of_plan job.source) (synced q lock_name) >>= (λ safe. lifted (of_plan job.source) (changed_sequences run q mail n o.sequences (withdrawn numbers o.sequences))))

      left_comes : job.link ≡ false → (own : List Deed) (h : Hand) → Clean run own h → Sourced own → AreReady run few path job os own → AllRoom os (length numbers) → Comes own h (left_at source job.source) (So LeftSo)
      left_comes link own h clean f ready room =
          comes_then own h (messages_refiled run job.source source numbers ds) (λ gone. lifted (of_plan job.source) (synced source lock_name) >>= (λ safe. lifted (of_plan job.source) (changed_sequences run source mail job.source o.sequences (withdrawn numbers o.sequences)))) (So GoneSo) (So LeftSo)
          (all_refiled numbers is link os own h clean f ready room)
          (λ later j to q.
          comes_then later j (lifted (of_plan job.source) (synced source lock_name)) (λ safe. lifted (of_plan job.source) (changed_sequences run source mail job.source o.sequences (withdrawn numbers o.sequences))) (So Safely) (So LeftSo) (synced_comes later j q.0 q.1)
          (λ end i u g. withdrawn_comes numbers is link o.sequences same end i g.0 g.1)
          (λ end i e g. g))
          (λ later j e q. q)

      stay_comes : job.link ≡ true → (own : List Deed) (h : Hand) → Clean run own h → Sourced own → AreReady run few path job os own → AllRoom os (length numbers) → Comes own h (messages_copied run job.source source numbers ds >>= (λ copied. Return (Ok tt))) (So LeftSo)
      stay_comes link own h clean f ready room =
          comes_then own h (messages_copied run job.source source numbers ds) (λ copied. Return (Ok tt)) (So GoneSo) (So LeftSo) (all_copied numbers is link os own h clean f ready room)
          (λ later j to q. comes_to later j (Ok tt) (So LeftSo) (record { clean = q.0; safe = q.1.safe }))
          (λ later j e q. q)

      moved_comes : (v : Bool) → job.link ≡ v → (own : List Deed) (h : Hand) → Clean run own h → Sourced own → AreReady run few path job os own → AllRoom os (length numbers) → Comes own h (moved_by v run path job o ds numbers) (So LeftSo)
      unfolding messages_left messages_stay
      moved_comes true link own h clean f ready room = subst (λ q. Comes own h (messages_copied run job.source q numbers ds >>= (λ copied. Return (Ok tt))) (So LeftSo)) (sym place) (stay_comes link own h clean f ready room)
      moved_comes false link own h clean f ready room =
          subst (λ q. Comes own h (left_at q o.folder) (So LeftSo)) (sym place) (subst (λ n. Comes own h (left_at source n) (So LeftSo)) (sym name) (left_comes link own h clean f ready room))

      abbrev room_then : Unit {0} → Plan (Result Unit CommandFault)
      room_then apart = room_in ds (length numbers) >>= (λ room. moved_by job.link run path job o ds numbers)

      apart_comes : (v : Bool) → names_source job ≡ v → (own : List Deed) (h : Hand) → Clean run own h → Sourced own → AreReady run few path job os own → Comes own h (unless_source v job.source >>= room_then) (So LeftSo)
      apart_comes true e own h clean f ready = comes_stop own h (fault.Refused (refusal.SameFolder job.source)) room_then (So LeftSo) (inr (inr (same_folder (have_chosen numbers is own f) e)))
      apart_comes false e own h clean f ready =
          comes_on own h tt room_then (So LeftSo)
          (comes_then own h (room_in ds (length numbers)) (λ room. moved_by job.link run path job o ds numbers) (So (Roomy os (length numbers) own h)) (So LeftSo) (room_comes os numbers own h ready (have_chosen numbers is own f))
          (λ later j u q.
          subst (λ z. Comes z j (moved_by job.link run path job o ds numbers) (So LeftSo)) (sym q.0)
          (subst (λ i. Comes own i (moved_by job.link run path job o ds numbers) (So LeftSo)) (sym q.1) (moved_comes job.link refl own h clean f ready q.2)))
          (λ later j e q. q))

    -- the whole work
    module _ (o : Opened) (listed : o.listing ≡ listing) (place : o.place ≡ source) (name : o.folder ≡ job.source) (same : o.sequences ≡ told) where
      abbrev rest : List Opened → List ℕ → Plan (Result Unit CommandFault)
      rest os numbers = unless_source (names_source job) job.source >>= (λ apart. room_in (map destination_of os) (length numbers) >>= (λ room. moved_by job.link run path job o (map destination_of os) numbers))

      value_comes : (os : List Opened) (value : Result (List ℕ) CommandFault) → refile_chosen job listing told ≡ value → (own : List Deed) (h : Hand) → Clean run own h → Sourced own → AreReady run few path job os own → Comes own h (Return value >>= rest os) (So LeftSo)
      value_comes os (Ok numbers) is own h clean f ready = comes_on own h numbers (rest os) (So LeftSo) (apart_comes o place name same numbers is os (names_source job) refl own h clean f ready)
      value_comes os (Err e) is own h clean f ready = comes_stop own h e (rest os) (So LeftSo) (refused_shows own e f is)

      said_comes : (os : List Opened) (own : List Deed) (h : Hand) → Clean run own h → Sourced own → AreReady run few path job os own → Comes own h (said_refiled run path job o (map destination_of os)) (So LeftSo)
      unfolding said_refiled
      said_comes os own h clean f ready =
          subst (λ m. Comes own h (Return (refile_chosen job o.listing m) >>= rest os) (So LeftSo)) (sym same)
          (subst (λ l. Comes own h (Return (refile_chosen job l told) >>= rest os) (So LeftSo)) (sym listed) (value_comes os (refile_chosen job listing told) refl own h clean f ready))

      abbrev pub Anyhow : Outcome Unit
      Anyhow later j u = Unit {0}

      done : (later : List Deed) (j : Hand) (r : Result Unit CommandFault) → Ends run few path job.source (source_answers job) (Leaves run few path job.source (source_answers job)) later j r → So Anyhow later j r
      done later j (Ok u) q = tt
      done later j (Err e) q = inl q

      set_comes : (v : Bool) (own : List Deed) (h : Hand) → Left run few path job.source (source_answers job) own h → Comes own h (current_if v run path job.source) (So Anyhow)
      set_comes true own h left =
          comes_more own h (made_current run path job.source) (Ends run few path job.source (source_answers job) (Leaves run few path job.source (source_answers job))) (So Anyhow) done (current_comes run few path job.source (source_answers job) own h left)
      set_comes false own h left = comes_to own h (Ok tt) (So Anyhow) tt

      opened_comes : (os : List Opened) (own : List Deed) (h : Hand) → Clean run own h → Sourced own → AreReady run few path job os own → Comes own h (opened_refiled run path job o os) (So Anyhow)
      unfolding opened_refiled
      opened_comes os own h clean f ready =
          comes_then own h (said_refiled run path job o (map destination_of os)) (λ moved. current_if job.set_current run path job.source) (So LeftSo) (So Anyhow) (said_comes os own h clean f ready) (λ later j u q. set_comes job.set_current later j q) (λ later j e q. q)

      -- whatever was begun
      pub gathered_work_comes : (g : Gathered) (own : List Deed) (h : Hand) → Sourced own → AreReady run few path job g.opened own → EndOf run few path job Sourced sourced_kept g.end own h → Comes own h (gathered_refiled run path job o g) (So Anyhow)
      gathered_work_comes g own h f ready end = by g.end end
        where
          by : (r : Result Unit CommandFault) → EndOf run few path job Sourced sourced_kept r own h → Comes own h (Return r >>= (λ all. opened_refiled run path job o g.opened)) (So Anyhow)
          by (Ok u) clean = comes_on own h u (λ all. opened_refiled run path job o g.opened) (So Anyhow) (opened_comes g.opened own h clean f ready)
          by (Err e) shows = comes_stop own h e (λ all. opened_refiled run path job o g.opened) (So Anyhow) shows
