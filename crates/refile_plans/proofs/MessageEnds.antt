-- How the moves of messages to other folders end, and what shows it.
use Rattle.std.proofs.Common.{◌≡◌, ◌<◌, ◌+◌, ◌^◌, ◌∷◌, [], ℕ, Bool, true, false, List, Result, Ok, Err, inl, inr, refl, sym, ◌∙◌, ap, subst}
use Rattle.mh_base.specs.Entries.{entry_text, kind_of}
use Rattle.mh_base.specs.Numbers.{IsMsgNum}
use Rattle.mh_base.specs.declared.entry.Entry.TheVariants.{Held, Number}
use Rattle.mh_base.proofs.EntryKinds.{kind_of-entry_text}
use Rattle.mh_sequences.specs.declared.run.Run.{Run}
use Rattle.msg_ranges.proofs.Rising.{Rise, lists, first_of, rest_of}
use Rattle.folder_files.specs.Deeds.{Deed, WasDone, did, last, on, still}
use Rattle.folder_files.specs.declared.place.Place.{Place}
use Rattle.folder_files.specs.declared.place.Place.TheVariants.{Folder, Mail}
use Rattle.folder_files.specs.declared.step.Answer.TheVariants as answer
use Rattle.folder_files.specs.declared.step.Step.TheVariants as step
use Rattle.file_plans.specs.Plan.{Hand, Return, lifted, ◌>>=◌}
use Rattle.step_plans.specs.ContextCommit.{LIMIT_BYTES}
use Rattle.step_plans.specs.Locking.{removed}
use Rattle.step_plans.specs.PlanFaults.{of_stop}
use Rattle.step_plans.specs.Replacing.{held_to, renamed, synced}
use Rattle.step_plans.specs.declared.command_fault.CommandFault.{CommandFault}
use Rattle.step_plans.specs.declared.fault.PlanFault.{PlanFault}
use Rattle.step_plans.specs.declared.fault.PlanFault.TheVariants as plan
use Rattle.step_plans.proofs.Coming.{Comes, comes_lifted, comes_more, comes_read, comes_rename, comes_sync_folder, comes_then, comes_to, comes_unlink}
use Rattle.step_plans.proofs.Going.{Outcome}
use Rattle.step_plans.proofs.Lasting.{KeptBy}
use Rattle.command_stages.specs.Endings.{of_plan}
use Rattle.command_stages.specs.Texts.{Commanded}
use Rattle.message_moves.specs.Copying.{copied_to_all, message_copied, messages_copied}
use Rattle.message_moves.specs.Moving.{content_by, content_read, held_discarded, number_taken}
use Rattle.message_moves.specs.Refiling.{message_refiled, messages_refiled}
use Rattle.message_moves.specs.declared.destination.Destination.{Destination}
use Rattle.opening_plans.specs.Endings.{HasMetIn, IsLastName, PutsBackups, last_gone, met_gone}
use Rattle.opening_plans.specs.FolderPledge.{told_within}
use Rattle.opening_plans.specs.Reads.{HaveSeen}
use Rattle.opening_plans.proofs.CleanRuns.{Clean, clean_more}
use Rattle.opening_plans.proofs.FolderPledged.{seen_kept}
use Rattle.opening_plans.proofs.NamesKept.{LeavesNames, last_kept, names_met_kept, names_safe_kept, other_renamed, other_unlinked, putting}
use Rattle.refile_plans.specs.Refile.{refile_chosen}
use Rattle.refile_plans.specs.RefileAnswers.{ShowsRefile, long_message}
use Rattle.refile_plans.specs.RefilePledge.{WasChosen, name_read}
use Rattle.refile_plans.specs.RmmOutcome.{is_among}
use Rattle.refile_plans.specs.declared.job.RefileJob.{RefileJob}
use Rattle.refile_plans.proofs.CopyEnds.{All, AreTargets, So, all_comes, targets_kept}
use Rattle.refile_plans.proofs.RmmEnds.{later_ones, number_names}

module _ (run : ℕ) (few : run < 2 ^ 128) (path : List ℕ) (job : RefileJob) (listing : List Run) (text context : List ℕ) (numbers : List ℕ) (chosen : refile_chosen job listing (told_within listing text context job.source) ≡ Ok numbers) where
  abbrev source : Place
  source = Folder path job.source

  abbrev mail : Place
  mail = Mail path

  abbrev Shows : CommandFault → List Deed → Type 0
  Shows e own = ShowsRefile run path job e own

  -- how a command's plan ends, and one on the source: with this, or by what shows its fault
  abbrev Ends : {A : Type 0} → Outcome A → Outcome (Result A CommandFault)
  Ends P later j r = So run few path job P later j r

  abbrev pub Plainly : {A : Type 0} → Outcome A → Outcome (Result A PlanFault)
  Plainly P later j (Ok a) = P later j a
  Plainly P later j (Err e) = Shows (of_plan job.source e) later

  abbrev pub Seen : List Deed → Type 0
  Seen own = HaveSeen run source mail listing text context own

  abbrev held_of : ℕ → List ℕ
  held_of n = entry_text (Held run n)

  abbrev number_of : ℕ → List ℕ
  number_of n = entry_text (Number n)

  abbrev Met : ℕ → List Deed → Type 0
  Met k own = IsMsgNum k × HasMetIn source (number_of k) own

  -- the run has met each of these messages
  abbrev pub AllMet : List ℕ → List Deed → Type 0
  AllMet left own = (k : ℕ) → lists left k ≡ true → Met k own

  all_met_kept : (left : List ℕ) → KeptBy (LeavesNames source) (AllMet left)
  all_met_kept left own s a leaves f k e = ((f k e).0, names_met_kept source (number_of k) own s a leaves (f k e).1)

  -- the words choose each of these numbers
  abbrev pub AllAmong : List ℕ → Type 0
  AllAmong left = (k : ℕ) → lists left k ≡ true → is_among k numbers ≡ true

  was_chosen : (n : ℕ) → is_among n numbers ≡ true → (own : List Deed) → Seen own → WasChosen run path job n own
  was_chosen n one own seen = record { listing = listing; text = text; context = context; seen = seen; numbers = numbers; chosen = chosen; one = one }

  -- before the next message goes: of those that are left the run has met each, and it has put no name into the source that isn't safe
  pub record Moving (left : List ℕ) (own : List Deed) : Type 0 where
    pub safe : PutsBackups source own
    pub lock : WasDone (step.Lock source) own
    pub seen : Seen own
    pub met : AllMet left own

  moving_kept : (left : List ℕ) → KeptBy (LeavesNames source) (Moving left)
  moving_kept left own s a leaves f = record {
    safe = names_safe_kept source own s a leaves f.safe;
    lock = on f.lock;
    seen = seen_kept run source mail listing text context own s a tt f.seen;
    met = all_met_kept left own s a leaves f.met;
  }

  one_less : (n : ℕ) (ns : List ℕ) (own : List Deed) → Moving (n ∷ ns) own → Moving ns own
  one_less n ns own f = record { safe = f.safe; lock = f.lock; seen = f.seen; met = rest_of {F = λ k. Met k own} n ns f.met }

  -- while one is held aside: its held name is the last that the run put there
  record Holding (n : ℕ) (left : List ℕ) (own : List Deed) : Type 0 where
    lock : WasDone (step.Lock source) own
    seen : Seen own
    met : AllMet left own
    held : HasMetIn source (held_of n) own
    last_ : IsLastName source (held_of n) own

  holding_kept : (n : ℕ) (left : List ℕ) → KeptBy (LeavesNames source) (Holding n left)
  holding_kept n left own s a leaves f = record {
    lock = on f.lock;
    seen = seen_kept run source mail listing text context own s a tt f.seen;
    met = all_met_kept left own s a leaves f.met;
    held = names_met_kept source (held_of n) own s a leaves f.held;
    last_ = last_kept source (held_of n) s a own (λ y w. leaves.0 (putting source y s a w)) f.last_;
  }

  held_no_number : (n k : ℕ) → IsMsgNum n → IsMsgNum k → held_of n ≡ number_of k → ⊥
  held_no_number n k good fine e = let same : Held run n ≡ Number k = sym (kind_of-entry_text (Held run n) (few, good)) ∙ (ap kind_of e ∙ kind_of-entry_text (Number k) fine) in cc (same)

  -- a message is read under its name, beside facts that last
  module _ (b : Bool) (link : job.link ≡ b) (n : ℕ) (one : is_among n numbers ≡ true) (F : List Deed → Type 0) (keeps : KeptBy (LeavesNames source) F) where
    abbrev name : List ℕ
    name = name_read b run n

    abbrev Reads : Outcome (List ℕ)
    Reads later j bytes = Clean run later j × F later

    long_shows : (l : ℕ) (own : List Deed) → Seen own → Shows (of_plan job.source (plan.TooLarge l)) (did (step.Read source (name_read b run n) LIMIT_BYTES) (answer.Long l) ∷ own)
    long_shows l own seen =
        subst (λ v. Shows (of_plan job.source (plan.TooLarge l)) (did (step.Read source (name_read v run n) LIMIT_BYTES) (answer.Long l) ∷ own)) link (inr (inr (long_message (was_chosen n one own seen))))

    content_comes : (own : List Deed) (h : Hand) → Clean run own h → Seen own → HasMetIn source name own → F own → Comes own h (content_read source name) (Plainly Reads)
    unfolding content_read
    content_comes own h clean seen met f =
        comes_read own h of_stop (Plainly Reads) source name LIMIT_BYTES (content_by source name)
        (λ bytes. comes_to _ h (Ok bytes) (Plainly Reads) (clean_more run own h (step.Read source name LIMIT_BYTES) (answer.Content bytes) (λ e. cc (e)) tt clean, keeps own (step.Read source name LIMIT_BYTES) (answer.Content bytes) (λ e. e, λ e. e) f))
        (λ l. comes_to _ h (Err (plan.TooLarge l)) (Plainly Reads) (long_shows l own seen))
        (comes_to _ h (Err (plan.Meddled source name)) (Plainly Reads) (inl (met_gone (inl (inl (LIMIT_BYTES, refl))) met)))

    read_comes : (own : List Deed) (h : Hand) → Clean run own h → Seen own → HasMetIn source name own → F own → Comes own h (lifted (of_plan job.source) (content_read source name)) (Ends Reads)
    read_comes own h clean seen met f = comes_lifted own h (of_plan job.source) (content_read source name) (Plainly Reads) (Ends Reads) (content_comes own h clean seen met f) (λ later j a g. g) (λ later j e g. g)

  -- so many are left, and these are the destinations then
  abbrev pub Left_ : List ℕ → Outcome (List Destination)
  Left_ left later j to = Clean run later j × AreTargets run few path job to later × Moving left later

  -- messages that leave
  module _ (link : job.link ≡ false) where
    abbrev Holds : ℕ → List ℕ → List Destination → Outcome Unit
    Holds n ns to later j u = Clean run later j × Holding n ns later × AreTargets run few path job to later

    abbrev Taken : ℕ → List ℕ → List Destination → Outcome (List ℕ)
    Taken n ns to later j name = (name ≡ held_of n) × Holds n ns to later j tt

    renamed_now : (n : ℕ) (ns : List ℕ) (to : List Destination) (own : List Deed) (h : Hand) → ((k : ℕ) → lists ns k ≡ true → n ≡ k → ⊥) → Clean run own h → AreTargets run few path job to own → Moving (n ∷ ns) own → Holds n ns to (did (step.Rename source (number_of n) (held_of n)) answer.Done ∷ own) h tt
    renamed_now n ns to own h other clean ts f = (
      clean_more run own h (step.Rename source (number_of n) (held_of n)) answer.Done (λ e. cc (e)) tt clean,
      record {
        lock = on f.lock;
        seen = seen_kept run source mail listing text context own (step.Rename source (number_of n) (held_of n)) answer.Done tt f.seen;
        met = λ k e. (
          (rest_of {F = λ z. Met z own} n ns f.met k e).0,
          still (other_renamed source (number_of n) (held_of n) (number_of k) answer.Done (λ same. other k e (number_names n k (first_of {F = λ z. Met z own} n ns f.met).0 (rest_of {F = λ z. Met z own} n ns f.met k e).0 same)))
              (rest_of {F = λ z. Met z own} n ns f.met k e).1,
        );
        held = last (inr (inl (inr (inr (number_of n, refl)))));
        last_ = last (inr (inr (number_of n, refl)));
      },
      targets_kept run few path job to own (step.Rename source (number_of n) (held_of n)) answer.Done tt ts,
    )

    taken_comes : (n : ℕ) (ns : List ℕ) (to : List Destination) (own : List Deed) (h : Hand) → ((k : ℕ) → lists ns k ≡ true → n ≡ k → ⊥) → Clean run own h → AreTargets run few path job to own → Moving (n ∷ ns) own → Comes own h (number_taken run source n) (Plainly (Taken n ns to))
    unfolding number_taken renamed
    taken_comes n ns to own h other clean ts f =
        comes_then own h (renamed source (number_of n) (held_of n)) (λ moved. Return (Ok (held_of n))) (Plainly (Holds n ns to)) (Plainly (Taken n ns to))
        (comes_rename own h of_stop (Plainly (Holds n ns to)) source (number_of n) (held_of n) (held_to source (number_of n)) (comes_to _ h (Ok tt) (Plainly (Holds n ns to)) (renamed_now n ns to own h other clean ts f))
        (comes_to _ h (Err (plan.Meddled source (number_of n))) (Plainly (Holds n ns to)) (inl (met_gone (inl (inr (inr (inr (held_of n, refl))))) (first_of {F = λ z. Met z own} n ns f.met).1))))
        (λ later j u q. comes_to later j (Ok (held_of n)) (Plainly (Taken n ns to)) (refl, q))
        (λ later j e q. q)

    -- once its copies are safe it is let go
    abbrev Goes_ : ℕ → List ℕ → List Destination → Outcome Unit
    Goes_ n ns to later j u = Clean run later j × AreTargets run few path job to later × (WasDone (step.Lock source) later × Seen later × AllMet ns later × IsLastName source (held_of n) later)

    unlinked_now : (n : ℕ) (ns : List ℕ) (to : List Destination) (own : List Deed) (h : Hand) → IsMsgNum n → Clean run own h → AreTargets run few path job to own → Holding n ns own → Goes_ n ns to (did (step.Unlink source (held_of n)) answer.Done ∷ own) h tt
    unlinked_now n ns to own h ok clean ts f = (
      clean_more run own h (step.Unlink source (held_of n)) answer.Done (λ e. cc (e)) tt clean,
      targets_kept run few path job to own (step.Unlink source (held_of n)) answer.Done tt ts,
      (
        on f.lock,
        seen_kept run source mail listing text context own (step.Unlink source (held_of n)) answer.Done tt f.seen,
        (λ k e. ((f.met k e).0, still (other_unlinked source (held_of n) (number_of k) answer.Done (held_no_number n k ok (f.met k e).0)) (f.met k e).1)),
        last_kept source (held_of n) (step.Unlink source (held_of n)) answer.Done own (λ y w. putting source y (step.Unlink source (held_of n)) answer.Done w) f.last_,
      ),
    )

    abbrev Discards : List ℕ → List Destination → Outcome Unit
    Discards ns to later j u = Left_ ns later j to

    synced_now : (n : ℕ) (ns : List ℕ) (to : List Destination) (own : List Deed) (h : Hand) → Goes_ n ns to own h tt → Discards ns to (did (step.SyncFolder source) answer.Done ∷ own) h tt
    synced_now n ns to own h g = (
      clean_more run own h (step.SyncFolder source) answer.Done (λ e. cc (e)) tt g.0,
      targets_kept run few path job to own (step.SyncFolder source) answer.Done tt g.1,
      record {
        safe = last (inr refl);
        lock = on g.2.0;
        seen = seen_kept run source mail listing text context own (step.SyncFolder source) answer.Done tt g.2.1;
        met = all_met_kept ns own (step.SyncFolder source) answer.Done (λ e. e, λ e. e) g.2.2;
      },
    )

    discarded_comes : (n : ℕ) (ns : List ℕ) (to : List Destination) (own : List Deed) (h : Hand) → IsMsgNum n → Clean run own h → AreTargets run few path job to own → Holding n ns own → Comes own h (held_discarded source (held_of n)) (Plainly (Discards ns to))
    unfolding held_discarded removed synced
    discarded_comes n ns to own h ok clean ts f =
        comes_then own h (removed source (held_of n)) (λ gone. synced source (held_of n)) (Plainly (Goes_ n ns to)) (Plainly (Discards ns to))
        (comes_unlink own h of_stop (Plainly (Goes_ n ns to)) source (held_of n) (held_to source (held_of n)) (comes_to _ h (Ok tt) (Plainly (Goes_ n ns to)) (unlinked_now n ns to own h ok clean ts f))
        (comes_to _ h (Err (plan.Meddled source (held_of n))) (Plainly (Goes_ n ns to)) (inl (met_gone (inl (inr (inr (inl refl)))) f.held))))
        (λ later j u g.
        comes_sync_folder later j of_stop (Plainly (Discards ns to)) source (held_to source (held_of n)) (comes_to _ j (Ok tt) (Plainly (Discards ns to)) (synced_now n ns to later j g))
        (comes_to _ j (Err (plan.Meddled source (held_of n))) (Plainly (Discards ns to)) (inl (last_gone g.2.3))))
        (λ later j e g. g)

    -- one message
    abbrev rest_refiled : ℕ → List Destination → List ℕ → Commanded (List Destination)
    rest_refiled n to held = lifted (of_plan job.source) (content_read source held) >>= (λ bytes. copied_to_all run bytes to [] >>= (λ later. lifted (of_plan job.source) (held_discarded source held) >>= (λ gone. Return (Ok later))))

    rest_comes : (n : ℕ) (ns : List ℕ) (to : List Destination) → is_among n numbers ≡ true → IsMsgNum n → (own : List Deed) (h : Hand) → Holds n ns to own h tt → Comes own h (rest_refiled n to (held_of n)) (Ends (Left_ ns))
    rest_comes n ns to one ok own h q =
        comes_then own h (lifted (of_plan job.source) (content_read source (held_of n))) (λ bytes. copied_to_all run bytes to [] >>= (λ later. lifted (of_plan job.source) (held_discarded source (held_of n)) >>= (λ gone. Return (Ok later))))
        (Ends (Reads false link n one Facts facts_kept)) (Ends (Left_ ns)) (read_comes false link n one Facts facts_kept own h q.0 q.1.seen q.1.held (q.1, q.2))
        (λ later j bytes r.
        comes_then later j (copied_to_all run bytes to []) (λ es. lifted (of_plan job.source) (held_discarded source (held_of n)) >>= (λ gone. Return (Ok es))) (Ends (All run few path job (Holding n ns) (holding_kept n ns) bytes)) (Ends (Left_ ns))
        (all_comes run few path job (Holding n ns) (holding_kept n ns) bytes to [] later j r.0 r.1.1 tt r.1.0)
        (λ end i es s.
        comes_then end i (lifted (of_plan job.source) (held_discarded source (held_of n))) (λ gone. Return (Ok es)) (Ends (Discards ns es)) (Ends (Left_ ns))
        (comes_lifted end i (of_plan job.source) (held_discarded source (held_of n)) (Plainly (Discards ns es)) (Ends (Discards ns es)) (discarded_comes n ns es end i ok s.0 s.1 s.2) (λ a b c g. g) (λ a b c g. g))
        (λ last_ l u g. comes_to last_ l (Ok es) (Ends (Left_ ns)) g)
        (λ last_ l e g. g))
        (λ end i e s. s))
        (λ later j e r. r)
      where
        Facts : List Deed → Type 0
        Facts now_ = Holding n ns now_ × AreTargets run few path job to now_

        facts_kept : KeptBy (LeavesNames source) Facts
        facts_kept now_ s a leaves f = (holding_kept n ns now_ s a leaves f.0, targets_kept run few path job to now_ s a tt f.1)

    one_refiled_comes : (n : ℕ) (ns : List ℕ) (to : List Destination) → is_among n numbers ≡ true → ((k : ℕ) → lists ns k ≡ true → n ≡ k → ⊥) → (own : List Deed) (h : Hand) → Left_ (n ∷ ns) own h to → Comes own h (message_refiled run job.source source n to) (Ends (Left_ ns))
    unfolding message_refiled
    one_refiled_comes n ns [] one other own h f = comes_to own h (Ok []) (Ends (Left_ ns)) (f.0, tt, one_less n ns own f.2)
    one_refiled_comes n ns (d ∷ ds) one other own h f =
        comes_then own h (lifted (of_plan job.source) (number_taken run source n)) (rest_refiled n (d ∷ ds)) (Ends (Taken n ns (d ∷ ds))) (Ends (Left_ ns))
        (comes_lifted own h (of_plan job.source) (number_taken run source n) (Plainly (Taken n ns (d ∷ ds))) (Ends (Taken n ns (d ∷ ds))) (taken_comes n ns (d ∷ ds) own h other f.0 f.1 f.2) (λ a b c g. g) (λ a b c g. g))
        (λ later j held q. subst (λ z. Comes later j (rest_refiled n (d ∷ ds) z) (Ends (Left_ ns))) (sym q.0) (rest_comes n ns (d ∷ ds) one (first_of {F = λ z. Met z own} n ns f.2.met).0 later j q.1))
        (λ later j e q. q)

    -- all of them
    pub refiled_comes : (first : ℕ) (ns : List ℕ) (to : List Destination) → Rise first ns → AllAmong ns → (own : List Deed) (h : Hand) → Left_ ns own h to → Comes own h (messages_refiled run job.source source ns to) (Ends (Left_ []))
    unfolding messages_refiled
    refiled_comes first [] to rise among own h f = comes_to own h (Ok to) (Ends (Left_ [])) f
    refiled_comes first (n ∷ ns) to rise among own h f =
        comes_then own h (message_refiled run job.source source n to) (λ later. messages_refiled run job.source source ns later) (Ends (Left_ ns)) (Ends (Left_ []))
        (one_refiled_comes n ns to (first_of {F = λ k. is_among k numbers ≡ true} n ns among) (later_ones first n ns rise) own h f)
        (λ later j es q. refiled_comes (n + 1) ns es rise.1 (rest_of {F = λ k. is_among k numbers ≡ true} n ns among) later j q)
        (λ later j e q. q)

  -- messages that are copied and stay
  module _ (link : job.link ≡ true) where
    one_copied_comes : (n : ℕ) (ns : List ℕ) (to : List Destination) → is_among n numbers ≡ true → (own : List Deed) (h : Hand) → Left_ (n ∷ ns) own h to → Comes own h (message_copied run job.source source n to) (Ends (Left_ ns))
    unfolding message_copied
    one_copied_comes n ns to one own h f =
        comes_then own h (lifted (of_plan job.source) (content_read source (number_of n))) (λ bytes. copied_to_all run bytes to []) (Ends (Reads true link n one Facts facts_kept)) (Ends (Left_ ns))
        (read_comes true link n one Facts facts_kept own h f.0 f.2.seen (first_of {F = λ z. Met z own} n ns f.2.met).1 (f.2, f.1))
        (λ later j bytes r.
        comes_more later j (copied_to_all run bytes to []) (Ends (All run few path job (Moving (n ∷ ns)) (moving_kept (n ∷ ns)) bytes)) (Ends (Left_ ns)) (less bytes)
        (all_comes run few path job (Moving (n ∷ ns)) (moving_kept (n ∷ ns)) bytes to [] later j r.0 r.1.1 tt r.1.0))
        (λ later j e r. r)
      where
        Facts : List Deed → Type 0
        Facts now_ = Moving (n ∷ ns) now_ × AreTargets run few path job to now_

        facts_kept : KeptBy (LeavesNames source) Facts
        facts_kept now_ s a leaves g = (moving_kept (n ∷ ns) now_ s a leaves g.0, targets_kept run few path job to now_ s a tt g.1)

        less : (bytes : List ℕ) (later : List Deed) (j : Hand) (r : Result (List Destination) CommandFault) → Ends (All run few path job (Moving (n ∷ ns)) (moving_kept (n ∷ ns)) bytes) later j r → Ends (Left_ ns) later j r
        less bytes later j (Ok es) q = (q.0, q.1, one_less n ns later q.2)
        less bytes later j (Err e) q = q

    pub copied_comes : (ns : List ℕ) (to : List Destination) → AllAmong ns → (own : List Deed) (h : Hand) → Left_ ns own h to → Comes own h (messages_copied run job.source source ns to) (Ends (Left_ []))
    unfolding messages_copied
    copied_comes [] to among own h f = comes_to own h (Ok to) (Ends (Left_ [])) f
    copied_comes (n ∷ ns) to among own h f =
        comes_then own h (message_copied run job.source source n to) (λ later. messages_copied run job.source source ns later) (Ends (Left_ ns)) (Ends (Left_ []))
        (one_copied_comes n ns to (first_of {F = λ k. is_among k numbers ≡ true} n ns among) own h f)
        (λ later j es q. copied_comes ns es (rest_of {F = λ k. is_among k numbers ≡ true} n ns among) later j q)
        (λ later j e q. q)
