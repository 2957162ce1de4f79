-- Messages that the words choose go to the destinations of `refile` as it pledges.
use Rattle.std.proofs.Common.{◌≡◌, inl, inr, ◌<◌, ◌≤◌, ◌+◌, ◌^◌, ◌∷◌, [], ℕ, Bool, true, false, List, Ok, refl, sym, ◌∙◌, ap, subst, arith}
use Rattle.mh_base.specs.Entries.{entry_text, kind_of}
use Rattle.mh_base.specs.Numbers.{IsMsgNum}
use Rattle.mh_base.specs.declared.entry.Entry.TheVariants.{Held, Number, Sequences}
use Rattle.mh_base.proofs.EntryKinds.{kind_of-entry_text}
use Rattle.mh_sequences.specs.Sequences.{Marked}
use Rattle.mh_sequences.specs.declared.run.Run.{Run}
use Rattle.msg_ranges.proofs.Rising.{Rise, lists, first_of, first_or, rest_of}
use Rattle.folder_files.specs.Careful.{HasLock}
use Rattle.folder_files.specs.Deeds.{Deed, did, on, still}
use Rattle.folder_files.specs.declared.place.Place.{Place}
use Rattle.folder_files.specs.declared.place.Place.TheVariants.{Folder, Mail}
use Rattle.folder_files.specs.declared.step.Answer.TheVariants as answer
use Rattle.folder_files.specs.declared.step.Step.{Step}
use Rattle.folder_files.specs.declared.step.Step.TheVariants as step
use Rattle.file_plans.specs.Plan.{Hand, Return, lifted, ◌>>=◌}
use Rattle.file_plans.proofs.Framing.{AnyStep}
use Rattle.step_plans.specs.Commits.{IsBase}
use Rattle.step_plans.specs.Locking.{lock_name}
use Rattle.step_plans.specs.Pledges.{Pledge}
use Rattle.step_plans.specs.Replacing.{synced}
use Rattle.step_plans.specs.Settled.{AreSettled}
use Rattle.step_plans.proofs.Facts.{LeavesBase, LeavesSettled, base_kept, settled_kept}
use Rattle.step_plans.proofs.Going.{Goes, Outcome, goes_lifted, goes_more, goes_then, okay, okay_more}
use Rattle.step_plans.proofs.Lasting.{KeptBy, lasting}
use Rattle.step_plans.proofs.Pledged.{synced_goes}
use Rattle.step_plans.proofs.Stepping.{goes_return}
use Rattle.step_plans.proofs.Written.{Adds, goes_at}
use Rattle.sequence_commits.specs.Committing.{changed_sequences}
use Rattle.sequence_commits.proofs.SequencesPledged.{sequences_name}
use Rattle.command_stages.specs.Endings.{of_plan}
use Rattle.command_stages.specs.Texts.{Commanded}
use Rattle.message_moves.specs.Copied.{HasCopied, HasRefiled}
use Rattle.message_moves.specs.Copying.{messages_copied}
use Rattle.message_moves.specs.Refiling.{messages_refiled}
use Rattle.message_moves.specs.declared.destination.Destination.{Destination}
use Rattle.message_moves.proofs.CopyPledged.{AreDestinations, Locks, places}
use Rattle.message_moves.proofs.MoveCopied.{AreSpared}
use Rattle.message_moves.proofs.MovePledged.{held_uncommitted}
use Rattle.message_moves.proofs.RefilePledged.{AllGone, AllMay, AllRefiled, AllSpared, AreMessages, HasGone, IsNone, MovesKeep, messages_go}
use Rattle.message_moves.proofs.StayPledged.{AllOf, AreCopied, CopiesKeep, EachMay, copied_messages_go}
use Rattle.opening_plans.specs.FolderPledge.{told_within}
use Rattle.opening_plans.specs.Reads.{HaveSeen}
use Rattle.opening_plans.proofs.FolderPledged.{seen_kept}
use Rattle.refile_plans.specs.Refile.{each_once, names_source, names_without, refile_chosen, targets_of}
use Rattle.refile_plans.specs.RefileDone.{HasRefiledChosen, WentBy}
use Rattle.refile_plans.specs.RefilePledge.{WasChosen, Withdraws, folders_of}
use Rattle.refile_plans.specs.Rmm.{withdrawn}
use Rattle.refile_plans.specs.RmmOutcome.{is_among}
use Rattle.refile_plans.specs.declared.job.RefileJob.{RefileJob}
use Rattle.refile_plans.specs.declared.job.RmmJob.{RmmJob}
use Rattle.refile_plans.proofs.FolderMarks as folder_marks
use Rattle.refile_plans.proofs.RefileLets.{HasReadOne, In, Known, MayCopy, lets_copy, lets_refile, lets_source, marks_source, p, read_one_kept, w, withdraws_kept}
use Rattle.refile_plans.proofs.Selected.{chosen_rise}
use Rattle.mh_base.proofs.NumberTests.{AreNumbers}

-- ascending numbers of messages are each one once
pub apart_from : (n : ℕ) (ns : List ℕ) → ((k : ℕ) → lists ns k ≡ true → n < k) → IsNone n ns
apart_from n [] f = tt
apart_from n (m ∷ ms) f = ((λ e. absurd (let lt = first_of {F = λ k. n < k} m ms f in omega (arith, lt, e))), apart_from n ms (rest_of {F = λ k. n < k} m ms f))

above : (low : ℕ) (ns : List ℕ) → Rise low ns → (k : ℕ) → lists ns k ≡ true → low ≤ k
above low [] rise k e = absurd (cc (e))
above low (n ∷ ns) rise k e = elim (first_or n k ns e) [
  | inl same ↦ (let le = rise.0 in omega (arith, le, same))
  | inr there ↦ (let le = rise.0 in let more = above (n + 1) ns rise.1 k there in omega (arith, le, more))
]

are_messages : (low : ℕ) (ns : List ℕ) → Rise low ns → AreNumbers ns → AreMessages ns
are_messages low [] rise ok = tt
are_messages low (n ∷ ns) rise ok = (ok.0, apart_from n ns (λ k e. let le = above (n + 1) ns rise.1 k e in omega (arith, le)), are_messages (n + 1) ns rise.1 ok.1)

-- words choose of the source as they do of a folder that `rmm` begins
abbrev like : RefileJob → RmmJob
like job = record { folder = job.source; specs = job.specs; unlink = false; negation = job.negation }

-- the run has used its held names of messages in this folder for nothing
abbrev pub HasHeldNone : ℕ → Place → List Deed → Type 0
HasHeldNone run q own = (n : ℕ) → IsMsgNum n → AreSpared q (entry_text (Held run n)) own

spared_each : (run : ℕ) (q : Place) (own : List Deed) → HasHeldNone run q own → (ns : List ℕ) → AreMessages ns → AllSpared run q ns own
spared_each run q own f [] are = tt
spared_each run q own f (n ∷ ns) are = (f n are.0, spared_each run q own f ns are.2)

-- what happened to each of these happened to one of them
each_gone : (run : ℕ) (q : Place) (to : Place) (folders : List Place) (ns : List ℕ) (own : List Deed) → AllGone run q (to ∷ folders) ns own → (n : ℕ) → lists ns n ≡ true → HasRefiled run q n (to ∷ folders) own
each_gone run q to folders [] own f n e = absurd (cc (e))
each_gone run q to folders (m ∷ ms) own f n e = elim (first_or m n ms e) [ inl same ↦ subst (λ k. HasRefiled run q k (to ∷ folders) own) same f.0 | inr there ↦ each_gone run q to folders ms own f.1 n there ]

one_gone_kept : (run : ℕ) (q : Place) (folders : List Place) (n : ℕ) → KeptBy AnyStep (HasGone run q folders n)
one_gone_kept run q [] n own s a any f = tt
one_gone_kept run q (to ∷ folders) n own s a any f = on f

all_gone_kept : (run : ℕ) (q : Place) (folders : List Place) (ns : List ℕ) → KeptBy AnyStep (AllGone run q folders ns)
all_gone_kept run q folders [] own s a any f = tt
all_gone_kept run q folders (n ∷ ns) own s a any f = (one_gone_kept run q folders n own s a any f.0, all_gone_kept run q folders ns own s a any f.1)

copied_kept : (run : ℕ) (q : Place) (name : List ℕ) (folders : List Place) → KeptBy AnyStep (HasCopied run q name folders)
copied_kept run q name folders own s a any f = record { bytes = f.bytes; since = did s a ∷ f.since; reading = f.reading; before = f.before; deeds = ap (λ z. did s a ∷ z) f.deeds; is_reading = f.is_reading; stored = λ to c. (let one = f.stored to c in (one.0, on one.1)) }

module _ (run : ℕ) (few : run < 2 ^ 128) (path : List ℕ) (job : RefileJob) where
  went_kept : (b : Bool) (n : ℕ) → KeptBy AnyStep (WentBy b run path job n)
  went_kept true n own s a any f = copied_kept run (Folder path job.source) (entry_text (Number n)) (folders_of path (targets_of job)) own s a any f
  went_kept false n own s a any f = on f

  -- what was done once stays so
  pub refiled_kept : KeptBy AnyStep (HasRefiledChosen run path job)
  refiled_kept own s a any f = record {
    listing = f.listing;
    text = f.text;
    context = f.context;
    seen = seen_kept run (Folder path job.source) (Mail path) f.listing f.text f.context own s a tt f.seen;
    numbers = f.numbers;
    chosen = f.chosen;
    apart = f.apart;
    each = λ n e. went_kept job.link n own s a any (f.each n e);
  }

  abbrev pledge : Pledge
  pledge = w run few path job

  abbrev source : Place
  source = p run few path job

  abbrev mail : Place
  mail = Mail path

  abbrev folders : List Place
  folders = folders_of path (targets_of job)

  abbrev pub To : List Destination → List Deed → Type 0
  To ds own = AreDestinations pledge few source (In run few path job) (Known run few path job) (HasReadOne run few path job) (read_one_kept run few path job) ds own

  abbrev pub HasLocks : List Deed → Type 0
  HasLocks own = Locks pledge few source (In run few path job) (Known run few path job) (HasReadOne run few path job) (read_one_kept run few path job) own

  module _ (listing : List Run) (text context old : List ℕ) (first : List Deed) where
    -- what lasts while messages go: what was settled stays so, the folder was listed and read, and the text of its sequences is known
    pub record Ground (later : List Deed) : Type 0 where
      pub settled : AreSettled first → AreSettled later
      pub seen : HaveSeen run source mail listing text context later
      pub base : IsBase run source sequences_name old later

    abbrev Leaves : Step → Type 0
    Leaves s = LeavesSettled s × LeavesBase source sequences_name s

    ground_kept : KeptBy Leaves Ground
    ground_kept own s a leaves g = record {
      settled = λ x. settled_kept own s a leaves.0 (g.settled x);
      seen = seen_kept run source mail listing text context own s a tt g.seen;
      base = base_kept run source sequences_name old own s a leaves.1 g.base;
    }

    no_sequences : (n : ℕ) → IsMsgNum n → entry_text (Held run n) ≡ sequences_name → ⊥
    no_sequences n ok e = absurd (let same : Held run n ≡ Sequences = sym (kind_of-entry_text (Held run n) (few, ok)) ∙ (ap kind_of e ∙ kind_of-entry_text Sequences tt) in cc (same))

    moves_keep : MovesKeep pledge few source refl (In run few path job) (inl refl) (Known run few path job) (HasReadOne run few path job) (read_one_kept run few path job) Leaves Ground
    moves_keep = record {
      kept = ground_kept;
      take = λ n ok. (held_uncommitted run few n ok source, (λ same e. no_sequences n ok e));
      read = λ n ok. (tt, (λ same e. no_sequences n ok e));
      elsewhere = λ q off. record { create = λ temp bytes. (tt, tt); sync = λ temp. (tt, tt); link = λ temp number. (tt, tt); unlink = λ temp. (tt, tt) };
      safe = λ q. (tt, tt);
      gone = λ n ok. (tt, tt);
    }

    -- where they are copied and stay, the text need not be known
    pub record Stays (later : List Deed) : Type 0 where
      pub settled : AreSettled first → AreSettled later
      pub seen : HaveSeen run source mail listing text context later

    copies_keep : CopiesKeep pledge few source (In run few path job) (Known run few path job) (HasReadOne run few path job) (read_one_kept run few path job) LeavesSettled Stays
    copies_keep = record {
      kept = λ own s a leaves g. record { settled = λ x. settled_kept own s a leaves (g.settled x); seen = seen_kept run source mail listing text context own s a tt g.seen };
      read = λ n. tt;
      elsewhere = λ q off. record { create = λ temp bytes. tt; sync = λ temp. tt; link = λ temp number. tt; unlink = λ temp. tt };
      safe = λ q. tt;
    }

    abbrev pub told : Marked
    told = told_within listing text context job.source

    -- where the work is done the folder was listed and read, what was settled is settled still, and the messages went
    abbrev pub Moved : Outcome Unit
    Moved later j u = HaveSeen run source mail listing text context later × (AreSettled first → AreSettled later) × HasRefiledChosen run path job later

    module _ (numbers : List ℕ) (is : refile_chosen job listing told ≡ Ok numbers) (all : AreNumbers numbers) (ds : List Destination) (same : places ds ≡ folders) (apart : names_source job ≡ false) where
      messages : AreMessages numbers
      messages = are_messages 1 numbers (chosen_rise (like job) listing told numbers is) all

      was_chosen : (own : List Deed) → HaveSeen run source mail listing text context own → (n : ℕ) → is_among n numbers ≡ true → WasChosen run path job n own
      was_chosen own seen n among = record { listing = listing; text = text; context = context; seen = seen; numbers = numbers; chosen = is; one = among }

      -- so they went, where each of them did
      have_gone : (own : List Deed) → HaveSeen run source mail listing text context own → ((n : ℕ) → lists numbers n ≡ true → WentBy job.link run path job n own) → HasRefiledChosen run path job own
      have_gone own seen f = record { listing = listing; text = text; context = context; seen = seen; numbers = numbers; chosen = is; apart = apart; each = f }

      -- messages leave
      module _ (link : job.link ≡ false) where
        abbrev May : List ℕ → List Deed → Type 0
        May ns own = AllMay pledge few source refl (In run few path job) (inl refl) (Known run few path job) (HasReadOne run few path job) (read_one_kept run few path job) job.source folders (WasChosen run path job) (lets_refile run few path job link) Leaves Ground moves_keep ns own

        abbrev Went : Outcome (List Destination)
        Went = AllRefiled pledge few source refl (In run few path job) (inl refl) (Known run few path job) (HasReadOne run few path job) (read_one_kept run few path job) job.source folders (WasChosen run path job) (lets_refile run few path job link) Leaves Ground moves_keep numbers

        each_may : (own : List Deed) → (ns : List ℕ) → ((n : ℕ) → lists ns n ≡ true → WasChosen run path job n own) → May ns own
        each_may own [] f = tt
        each_may own (n ∷ ns) f = (first_of {F = λ k. WasChosen run path job k own} n ns f, each_may own ns (rest_of {F = λ k. WasChosen run path job k own} n ns f))

        went_goes : (own : List Deed) (h : Hand) → HasHeldNone run source own → Ground own → HasLocks own → To ds own → Goes pledge own h (messages_refiled run job.source source numbers ds) (okay Went)
        went_goes own h none g locks to =
            messages_go pledge few source refl (In run few path job) (inl refl) (Known run few path job) (HasReadOne run few path job) (read_one_kept run few path job) job.source folders (WasChosen run path job) (lets_refile run few path job link) Leaves Ground moves_keep
            numbers messages ds same own h (each_may own numbers (was_chosen own g.seen)) (spared_each run source own none numbers messages) g locks to

        all_gone : (own : List Deed) → AllGone run source folders numbers own → (n : ℕ) → lists numbers n ≡ true → HasRefiled run source n folders own
        all_gone own gone = each_gone run source (Folder path job.target) (folders_of path (names_without job.target (each_once job.others))) numbers own gone

        went_away : (own : List Deed) (n : ℕ) → HasRefiled run source n folders own → WentBy job.link run path job n own
        went_away own n f = subst (λ b. WentBy b run path job n own) (sym link) f

        withdraws : (own : List Deed) → AllGone run source folders numbers own → Withdraws run path job own listing told (withdrawn numbers told)
        withdraws own gone = (link, numbers, is, all_gone own gone, refl)

        abbrev left_at : Place → List ℕ → Marked → Commanded Unit
        left_at q name m =
            messages_refiled run job.source q numbers ds >>= (λ gone. lifted (of_plan job.source) (synced q lock_name) >>= (λ safe. lifted (of_plan job.source) (changed_sequences run q mail name m (withdrawn numbers m))))

        left_goes : (own : List Deed) (h : Hand) → HasHeldNone run source own → Ground own → HasLocks own → To ds own → Goes pledge own h (left_at source job.source told) (okay Moved)
        left_goes own h none g locks to =
            goes_then pledge own h (messages_refiled run job.source source numbers ds) (λ gone. lifted (of_plan job.source) (synced source lock_name) >>= (λ safe. lifted (of_plan job.source) (changed_sequences run source mail job.source told (withdrawn numbers told)))) Went Moved
            (went_goes own h none g locks to)
            (λ later j es q.
            goes_then pledge later j (lifted (of_plan job.source) (synced source lock_name)) (λ safe. lifted (of_plan job.source) (changed_sequences run source mail job.source told (withdrawn numbers told))) (Adds later (did (step.SyncFolder source) answer.Done)) Moved
            (goes_lifted pledge later j (of_plan job.source) (synced source lock_name) (Adds later (did (step.SyncFolder source) answer.Done)) (synced_goes pledge later j source lock_name))
            (λ last i u e.
            goes_at pledge last (did (step.SyncFolder source) answer.Done ∷ later) i _ (okay Moved) e
            (committing later i (ground_kept later (step.SyncFolder source) answer.Done (tt, tt) q.3) (still (λ x. cc (x)) (q.2 source (inl refl))) (gone_on later q.4))))
          where
            gone_on : (later : List Deed) → AllGone run source folders numbers later → AllGone run source folders numbers (did (step.SyncFolder source) answer.Done ∷ later)
            gone_on later f = all_gone_kept run source folders numbers later (step.SyncFolder source) answer.Done tt f

            committing : (later : List Deed) (i : Hand) → Ground (did (step.SyncFolder source) answer.Done ∷ later) → HasLock source (did (step.SyncFolder source) answer.Done ∷ later) → AllGone run source folders numbers (did (step.SyncFolder source) answer.Done ∷ later)
                → Goes pledge (did (step.SyncFolder source) answer.Done ∷ later) i (lifted (of_plan job.source) (changed_sequences run source mail job.source told (withdrawn numbers told))) (okay Moved)
            committing later i k lock gone =
                goes_more pledge _ i (lifted (of_plan job.source) (changed_sequences run source mail job.source told (withdrawn numbers told))) (okay (λ end l v. HasRefiledChosen run path job end × Committed end l v)) (okay Moved)
                (okay_more (λ end l v. HasRefiledChosen run path job end × Committed end l v) Moved (λ end l v c. (c.1.0, (λ s. c.1.1 (k.settled s)), c.0)))
                (lasting pledge (HasRefiledChosen run path job) refiled_kept _ i (lifted (of_plan job.source) (changed_sequences run source mail job.source told (withdrawn numbers told))) Committed (have_gone _ k.seen (λ n e. went_away _ n (all_gone _ gone n e)))
                (folder_marks.sequences_goes pledge few path job.source (Withdraws run path job) (job.set_current ≡ true) (lets_source run few path job) (withdraws_kept run few path job) (marks_source run few path job) _ i listing text context (withdrawn numbers told) (withdraws _ gone) k.seen lock old k.base))
              where
                Committed : Outcome Unit
                Committed end l v = HaveSeen run source mail listing text context end × (AreSettled (did (step.SyncFolder source) answer.Done ∷ later) → AreSettled end)

        pub left_there : (q : Place) (name : List ℕ) (m : Marked) → q ≡ source → name ≡ job.source → m ≡ told → (own : List Deed) (h : Hand) → HasHeldNone run source own → Ground own → HasLocks own → To ds own
            → Goes pledge own h (left_at q name m) (okay Moved)
        left_there q name m place same_name alike own h none g locks to = rw (place, same_name, alike) (left_goes own h none g locks to)

      -- or are copied and stay
      module _ (link : job.link ≡ true) where
        abbrev Copied_ : Outcome (List Destination)
        Copied_ = AllOf pledge few source (In run few path job) (Known run few path job) (HasReadOne run few path job) (read_one_kept run few path job) job.source folders (MayCopy run few path job link) (lets_copy run few path job link) LeavesSettled Stays copies_keep numbers

        abbrev Each : List ℕ → List Deed → Type 0
        Each ns own = EachMay pledge few source (In run few path job) (Known run few path job) (HasReadOne run few path job) (read_one_kept run few path job) job.source folders (MayCopy run few path job link) (lets_copy run few path job link) LeavesSettled Stays copies_keep ns own

        each_copies : (own : List Deed) → (ns : List ℕ) → AreNumbers ns → ((n : ℕ) → lists ns n ≡ true → WasChosen run path job n own) → Each ns own
        each_copies own [] ok f = tt
        each_copies own (n ∷ ns) ok f = ((ok.0, first_of {F = λ k. WasChosen run path job k own} n ns f), each_copies own ns ok.1 (rest_of {F = λ k. WasChosen run path job k own} n ns f))

        all_copied : (own : List Deed) (ns : List ℕ)
            → AreCopied pledge few source (In run few path job) (Known run few path job) (HasReadOne run few path job) (read_one_kept run few path job) job.source folders (MayCopy run few path job link) (lets_copy run few path job link) LeavesSettled Stays copies_keep ns own
            → (n : ℕ) → lists ns n ≡ true → HasCopied run source (entry_text (Number n)) folders own
        all_copied own [] f n e = absurd (cc (e))
        all_copied own (m ∷ ms) f n e = elim (first_or m n ms e) [ inl alike ↦ subst (λ k. HasCopied run source (entry_text (Number k)) folders own) alike f.0 | inr there ↦ all_copied own ms f.1 n there ]

        abbrev stay_at : Place → Commanded Unit
        stay_at q = messages_copied run job.source q numbers ds >>= (λ copied. Return (Ok tt))

        stay_goes : (own : List Deed) (h : Hand) → Stays own → HasLocks own → To ds own → Goes pledge own h (stay_at source) (okay Moved)
        stay_goes own h g locks to =
            goes_then pledge own h (messages_copied run job.source source numbers ds) (λ copied. Return (Ok tt)) Copied_ Moved
            (copied_messages_go pledge few source (In run few path job) (Known run few path job) (HasReadOne run few path job) (read_one_kept run few path job) job.source folders (MayCopy run few path job link) (lets_copy run few path job link) LeavesSettled Stays copies_keep
            numbers ds same own h (each_copies own numbers all (was_chosen own g.seen)) g locks to)
            (λ later j es q. goes_return pledge later j tt (okay Moved) (q.3.seen, q.3.settled, have_gone later q.3.seen (λ n e. subst (λ b. WentBy b run path job n later) (sym link) (all_copied later numbers q.4 n e))))

        pub stay_there : (q : Place) → q ≡ source → (own : List Deed) (h : Hand) → Stays own → HasLocks own → To ds own → Goes pledge own h (stay_at q) (okay Moved)
        stay_there q place own h g locks to = rw place (stay_goes own h g locks to)
