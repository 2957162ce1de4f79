-- `anno` goes as it pledges.
use Rattle.std.proofs.Common.{◌≡◌, inl, inr, ◌<◌, ◌^◌, ◌++◌, ◌∷◌, [], ℕ, true, List, Result, Some, Ok, Err, refl, sym, ◌∙◌, ap, subst, arith}
use Rattle.mh_base.specs.Entries.{entry_text, kind_of}
use Rattle.mh_base.specs.Numbers.{IsMsgNum}
use Rattle.mh_base.specs.declared.entry.Entry.TheVariants.{Held, Number}
use Rattle.mh_base.proofs.EntryKinds.{kind_of-entry_text}
use Rattle.mh_sequences.specs.Sequences.{Marked}
use Rattle.mh_sequences.specs.declared.run.Run.{Run}
use Rattle.msg_ranges.proofs.Rising.{lists, first_of, first_or, rest_of}
use Rattle.folder_files.specs.Annotations.{are_annotations}
use Rattle.folder_files.specs.Careful.{WasGivenAway, WasReady, WasTaken}
use Rattle.folder_files.specs.Commands.{Annotating, HasReadHeld, IsChosen}
use Rattle.folder_files.specs.Deeds.{Deed, now, on}
use Rattle.folder_files.specs.Named.{is_held}
use Rattle.folder_files.specs.declared.place.Place.{Place}
use Rattle.folder_files.specs.declared.place.Place.TheVariants.{Folder, Mail}
use Rattle.folder_files.proofs.Names.{is_held_any}
use Rattle.file_plans.specs.Follows.{Follows, State}
use Rattle.file_plans.specs.Plan.{Hand, Return, after, bind, lifted, ◌>>=◌}
use Rattle.file_plans.specs.Rules.{IfOkay, Keeps}
use Rattle.file_plans.specs.Runs.{Deed as Done}
use Rattle.file_plans.proofs.Acting.{acts}
use Rattle.file_plans.proofs.Framing.{AnyStep}
use Rattle.step_plans.specs.CommandFaults.{command_cause}
use Rattle.step_plans.specs.ContextCommit.{LIMIT_BYTES}
use Rattle.step_plans.specs.Pledges.{Pledge}
use Rattle.step_plans.specs.Promises.{Promises}
use Rattle.step_plans.specs.Settled.{AreSettled}
use Rattle.step_plans.specs.declared.command_fault.CommandFault.{CommandFault}
use Rattle.step_plans.proofs.Facts.{LeavesSettled, settled_kept}
use Rattle.step_plans.proofs.Going.{Goes, Outcome, Sound, goes_lifted, goes_more, goes_then, okay, okay_more}
use Rattle.step_plans.proofs.Lasting.{KeptBy, keeping, lasting}
use Rattle.step_plans.proofs.Pledged.{Of}
use Rattle.step_plans.proofs.Promising.{keeps_pledge}
use Rattle.step_plans.proofs.Ruling.{rules_of}
use Rattle.step_plans.proofs.Stepping.{goes_end}
use Rattle.message_puts.proofs.PutPledged.{PutsMessages}
use Rattle.message_moves.proofs.MovePledged.{LetsDiscard, LetsTake, held_uncommitted, is_held_so}
use Rattle.message_moves.proofs.RefilePledged.{AreMessages}
use Rattle.message_notes.specs.Noted.{HasNoted, HasPutAnew}
use Rattle.message_notes.specs.Noting.{messages_noted}
use Rattle.message_notes.proofs.NotedPledged as noting
use Rattle.message_notes.proofs.NotedPledged.{LetsNote, NotesKeep}
use Rattle.command_stages.specs.Current.{made_current}
use Rattle.command_stages.specs.Endings.{of_plan}
use Rattle.opening_plans.specs.FolderPledge.{told_within}
use Rattle.opening_plans.specs.Opening.{Opened, begun}
use Rattle.opening_plans.specs.Reads.{HaveSeen}
use Rattle.opening_plans.proofs.EndedKept.{Still}
use Rattle.opening_plans.proofs.FolderPledged.{Begins, HasBegun, begun_goes, seen_kept}
use Rattle.opening_plans.proofs.WorkPledged as work
use Rattle.opening_plans.proofs.WorkPledged.{LetsBegin, current_goes, opened_keeps}
use Rattle.refile_plans.specs.RmmOutcome.{is_among}
use Rattle.refile_plans.specs.RmmPledge.{every_message}
use Rattle.refile_plans.proofs.BeginsAsks.{asks_begun}
use Rattle.refile_plans.proofs.RefileMoved.{HasHeldNone}
use Rattle.refile_plans.proofs.RmmPledged.{in_up, listed_runs}
use Rattle.refile_plans.proofs.RefileLets.{committed_unheld, temp_unheld}
use Rattle.refile_plans.specs.RefilePledge.{MakesNothing}
use Rattle.anno_plans.specs.Anno.{anno, chosen_from, opened_noted, said_noted}
use Rattle.mh_sequences.specs.Runs.{last_in}
use Rattle.anno_plans.specs.AnnoDone.{HasNotedChosen}
use Rattle.anno_plans.specs.AnnoPledge.{NotesSo, WasChosen, WasTakenAndNoted, anno_pledge}
use Rattle.anno_plans.specs.declared.job.AnnoJob.{AnnoJob}
use Rattle.anno_plans.proofs.HeldNone.{Spares, begins_sparing, none_kept, spared_of}
use Rattle.anno_plans.proofs.Listed.{chosen_messages}
use Rattle.refile_plans.proofs.Lasts.{last_small}

module _ (run : ℕ) (few : run < 2 ^ 128) (path : List ℕ) (job : AnnoJob) where
  abbrev w : Pledge
  w = anno_pledge run path job

  abbrev p : Place
  p = Folder path job.folder

  abbrev mail : Place
  mail = Mail path

  abbrev no_piece : List Deed → List ℕ → Type 0
  no_piece own piece = ⊥

  -- what was chosen once stays so
  chosen_kept : (n : ℕ) → KeptBy AnyStep (WasChosen run path job n)
  chosen_kept n own s a any f = record { listing = f.listing; text = f.text; context = f.context; seen = seen_kept run p mail f.listing f.text f.context own s a tt f.seen; numbers = f.numbers; chosen = f.chosen; one = f.one }

  -- and what was done with the messages that were chosen
  pub noted_chosen_kept : KeptBy AnyStep (HasNotedChosen run path job)
  noted_chosen_kept own s a any f = record { listing = f.listing; text = f.text; context = f.context; seen = seen_kept run p mail f.listing f.text f.context own s a tt f.seen; numbers = f.numbers; chosen = f.chosen; noted = λ n e. on (f.noted n e) }

  pub lets : LetsBegin path job.folder (Annotating path job.folder every_message job.lines) (NotesSo run path job)
  lets = record {
    kinds = λ own kind s k. inl k;
    makes = λ own q. ((λ number held n e k h. absurd (cc (e))), (λ held e h. absurd (cc (e))), (λ r temp number e is. absurd (cc (e))));
    creates = λ own q name bytes. ((λ number held n e k h. absurd (cc (e))), (λ held e h. absurd (cc (e))), (λ r temp number e is. absurd (cc (e))));
    clears = λ own q temp is. (
      (λ number held n e k h. absurd (cc (e))),
      (λ held e h. absurd (let same : temp ≡ held = cc (e) in temp_unheld temp held is same h)),
      (λ r other number e is_temp_. absurd (cc (e))),
    );
    gives = λ own q held number is. (
      (λ from other n e k h. absurd (cc (e))),
      (λ other e h. absurd (cc (e))),
      (λ r temp other e is_temp_. absurd (let same : temp ≡ held = cc (e) in temp_unheld temp held is_temp_ same is)),
    );
    drops = λ own q held is away. (
      (λ number other n e k h. absurd (cc (e))),
      (λ other e h. inl (let same : q ≡ p = cc (e) in let alike : held ≡ other = cc (e) in subst (λ z. WasGivenAway z other own) same (subst (λ z. WasGivenAway q z own) alike away))),
      (λ r temp number e is_temp_. absurd (cc (e))),
    );
    commits = λ own q temp name is. (
      (λ number held n e k h. absurd (let same : name ≡ held = cc (e) in committed_unheld q name held is same h)),
      (λ held e h. absurd (cc (e))),
      (λ r other number e is_temp_. absurd (cc (e))),
    );
  }

  nothing_kept : (listing : List Run) (m new : Marked) → KeptBy AnyStep (λ own. MakesNothing own listing m new)
  nothing_kept listing m new own s a any f = f

  abbrev begins : Begins w path job.folder
  begins = work.begins run few path job.folder MakesNothing (Annotating path job.folder every_message job.lines) no_piece (NotesSo run path job) lets nothing_kept

  module _ (notes : are_annotations job.lines ≡ true) where
    -- nothing is asked of numbers
    abbrev Known : ℕ → List Deed → Type 0
    Known n own = Unit {0}

    abbrev Now : ℕ → List ℕ → List Deed → Type 0
    Now n bytes own = HasReadHeld p bytes own

    chosen_number : (n : ℕ) → IsMsgNum n → IsChosen every_message (entry_text (Number n))
    chosen_number n ok = (n, kind_of-entry_text (Number n) ok, in_up 1 999999 n ok.0 (let l = ok.1 in omega (arith, l)))

    held_any : (n : ℕ) → IsMsgNum n → is_held (kind_of (entry_text (Held run n))) ≡ true
    held_any n ok = is_held_any run (entry_text (Held run n)) (is_held_so run few n ok)

    takes_one : (n : ℕ) (own : List Deed) → IsMsgNum n → WasChosen run path job n own → LetsTake w p n own
    takes_one n own ok may = record {
      makes = inr (inl (refl, entry_text (Number n), chosen_number n ok, entry_text (Held run n), refl));
      may = (
        (λ number held k e kind h.
            let from : entry_text (Number n) ≡ number = cc (e) in
            let same : Number n ≡ Number k = sym (kind_of-entry_text (Number n) ok) ∙ (ap kind_of from ∙ kind) in
            let alike : n ≡ k = cc (same) in subst (λ z. WasChosen run path job z own) alike may),
        (λ held e h. absurd (cc (e))),
        (λ r temp number e is. absurd (cc (e))),
      );
    }

    discards_one : (n : ℕ) (own : List Deed) → IsMsgNum n → (anew : HasPutAnew run p (entry_text (Held run n)) job.lines own) → WasTaken run p (entry_text (Held run n)) anew.before → LetsDiscard w p (entry_text (Held run n)) own
    discards_one n own ok anew taken = record {
      makes = inr (inr (inr (refl, refl)));
      may = (
        (λ number held k e kind h. absurd (cc (e))),
        (λ held e h. let same : entry_text (Held run n) ≡ held = cc (e) in inr (subst (λ z. WasTakenAndNoted run p z job.lines own) same (record { anew = anew; taken = taken }))),
        (λ r temp number e is. absurd (cc (e))),
      );
    }

    puts_one : (n : ℕ) (bytes : List ℕ) → IsMsgNum n → PutsMessages w p (job.lines ++ bytes) Known (Some n) (HasReadHeld p bytes)
    puts_one n bytes ok = record {
      serves = begins.serves;
      puts = λ own temp number ready f. inr (inr (inl (bytes, f, (refl, temp, number, refl, ready))));
      link = λ own temp k is_own is_number_ reach ready f. (
        (λ number held m e kind h. absurd (cc (e))),
        (λ held e h. absurd (cc (e))),
        (λ r other number e is.
            let same : p ≡ r = cc (e) in
            let alike : temp ≡ other = cc (e) in (
              sym same,
              (
                bytes,
                subst (λ z. HasReadHeld z bytes own) same f,
                subst (λ z. WasReady z other (job.lines ++ bytes) own) same (subst (λ z. WasReady p z (job.lines ++ bytes) own) alike ready),
              ),
            )),
      );
      kept = λ k own s a any f. tt;
      linked = λ own temp k. tt;
      met = λ own temp k. tt;
      made_now = λ own temp f. on (on f);
      met_now = λ own temp k f. on f;
    }

    lets_note : LetsNote w few p refl job.lines notes Known Now (WasChosen run path job)
    lets_note = record {
      takes = takes_one;
      reads = λ n bytes own ok may. now (entry_text (Held run n), held_any n ok, (LIMIT_BYTES, refl));
      puts = puts_one;
      discards = discards_one;
      lasts = chosen_kept;
      known = λ n own s a any f. tt;
    }

    -- what was settled of commits is so still, and each of the messages got the lines
    abbrev pub Worked : List Deed → List Deed → Type 0
    Worked own later = (AreSettled own → AreSettled later) × HasNotedChosen run path job later

    -- the work on a folder that was begun
    module _ (begin own : List Deed) (o : Opened) (b : HasBegun w begin path job.folder own o) (none : HasHeldNone run p own) where
      abbrev told : Marked
      told = told_within o.listing b.text b.context job.folder

      -- what was settled is so still, and what was read
      abbrev Going : List Deed → Type 0
      Going later = (AreSettled own → AreSettled later) × HaveSeen run p mail o.listing b.text b.context later

      going_on : KeptBy LeavesSettled Going
      going_on later s a leaves f = ((λ x. settled_kept later s a leaves (f.0 x)), seen_kept run p mail o.listing b.text b.context later s a tt f.1)

      -- and each of the messages got the lines
      abbrev Noted : List Deed → Type 0
      Noted later = Going later × HasNotedChosen run path job later

      moves : NotesKeep w few p refl job.lines notes Known Now LeavesSettled Going
      moves = record {
        kept = going_on;
        take = λ n ok. held_uncommitted run few n ok p;
        read = λ n ok. tt;
        put = record { create = λ temp bytes. tt; sync = λ temp. tt; link = λ temp number is. tt; unlink = λ temp is. tt };
        safe = tt;
        gone = λ n ok. tt;
      }

      abbrev AllMay : List ℕ → List Deed → Type 0
      AllMay ns later = noting.AllMay w few p refl job.lines notes Known Now (WasChosen run path job) lets_note LeavesSettled Going moves ns later

      module _ (numbers : List ℕ) (is : chosen_from job o.listing told ≡ Ok numbers) where
        all_may : (ns : List ℕ) → ((k : ℕ) → lists ns k ≡ true → is_among k numbers ≡ true) → AllMay ns own
        all_may [] among = tt
        all_may (n ∷ ns) among = (
          record { listing = o.listing; text = b.text; context = b.context; seen = b.seen; numbers = numbers; chosen = is; one = first_of {F = λ k. is_among k numbers ≡ true} n ns among },
          all_may ns (rest_of {F = λ k. is_among k numbers ≡ true} n ns among),
        )

        are : AreMessages numbers
        are = chosen_messages job o.listing told numbers is (listed_runs run p mail o.listing b.text b.context own b.seen)

        abbrev AllNoted : List ℕ → List Deed → Type 0
        AllNoted ns later = noting.AllNoted w few p refl job.lines notes Known Now (WasChosen run path job) lets_note LeavesSettled Going moves ns later

        each_noted : (ns : List ℕ) (later : List Deed) → AllNoted ns later → (k : ℕ) → lists ns k ≡ true → HasNoted run p k job.lines later
        each_noted [] later f k e = cc (e)
        each_noted (n ∷ ns) later f k e = elim (first_or n k ns e) [ inl same ↦ subst (λ z. HasNoted run p z job.lines later) same f.0 | inr there ↦ each_noted ns later f.1 k there ]

        noted_goes : (h : Hand) → Goes w own h (messages_noted run p job.lines numbers (last_in o.listing)) (okay (Of Noted))
        noted_goes h =
            goes_more w own h (messages_noted run p job.lines numbers (last_in o.listing))
            (okay (noting.AllDone w few p refl job.lines notes Known Now (WasChosen run path job) lets_note LeavesSettled Going moves numbers)) (okay (Of Noted))
            (okay_more (noting.AllDone w few p refl job.lines notes Known Now (WasChosen run path job) lets_note LeavesSettled Going moves numbers) (Of Noted)
            (λ later j u f. (f.1, record { listing = o.listing; text = b.text; context = b.context; seen = f.1.1; numbers = numbers; chosen = is; noted = each_noted numbers later f.2 })))
            (noting.messages_go w few p refl job.lines notes Known Now (WasChosen run path job) lets_note LeavesSettled Going moves numbers are (last_in o.listing) (last_small o.listing (listed_runs run p mail o.listing b.text b.context own b.seen)) own h tt (all_may numbers (λ k e. e)) (spared_of run p own none numbers are) ((λ x. x), b.seen) b.held.lock)

      by_value : (value : Result (List ℕ) CommandFault) → chosen_from job o.listing told ≡ value → (h : Hand) → Goes w own h (after (λ numbers. lifted (of_plan job.folder) (messages_noted run p job.lines numbers (last_in o.listing))) value) (okay (Of Noted))
      by_value (Ok numbers) is h = goes_lifted w own h (of_plan job.folder) (messages_noted run p job.lines numbers (last_in o.listing)) (Of Noted) (noted_goes numbers is h)
      by_value (Err e) is h = goes_end w own h e (Of Noted)

      at_place : (q : Place) (seen : Marked) → q ≡ p → seen ≡ told → (h : Hand) → Goes w own h (Return (chosen_from job o.listing seen) >>= (λ numbers. lifted (of_plan job.folder) (messages_noted run q job.lines numbers (last_in o.listing)))) (okay (Of Noted))
      unfolding Goes bind ◌>>=◌
      at_place q seen place is h = rw (place, is) (by_value (chosen_from job o.listing told) refl h)

      said_goes : (h : Hand) → Goes w own h (said_noted run job o) (okay (Of Noted))
      unfolding said_noted
      said_goes h = at_place o.place o.sequences b.place b.sequences h

      pub opened_goes : (h : Hand) → Goes w own h (opened_noted run path job o) (okay (Of (Worked own)))
      unfolding opened_noted
      opened_goes h =
          goes_then w own h (said_noted run job o) (λ noted. made_current run path job.folder) (Of Noted) (Of (Worked own)) (said_goes h)
          (λ later j u f.
          goes_more w later j (made_current run path job.folder) (okay (λ end i v. HasNotedChosen run path job end × (AreSettled later → AreSettled end))) (okay (Of (Worked own)))
          (okay_more (λ end i v. HasNotedChosen run path job end × (AreSettled later → AreSettled end)) (Of (Worked own)) (λ end i v g. ((λ s. g.1 (f.0.0 s)), g.0)))
          (lasting w (HasNotedChosen run path job) noted_chosen_kept later j (made_current run path job.folder) (Of (λ end. AreSettled later → AreSettled end)) f.1
          (current_goes run few path job.folder MakesNothing (Annotating path job.folder every_message job.lines) no_piece (NotesSo run path job) lets nothing_kept later j o.listing b.text b.context f.0.1)))

    -- the folder is begun, and the run holds nothing aside itself
    abbrev pub Began : List Deed → Outcome Opened
    Began own later j o = HasBegun w own path job.folder later o × HasHeldNone run p later

    pub begun_sparing : (own : List Deed) (h : Hand) → HasHeldNone run p own → Goes w own h (begun run p mail job.folder) (okay (Began own))
    begun_sparing own h none =
        goes_more w own h (begun run p mail job.folder) (okay (λ later j o. HasHeldNone run p later × HasBegun w own path job.folder later o)) (okay (Began own))
        (okay_more (λ later j o. HasHeldNone run p later × HasBegun w own path job.folder later o) (Began own) (λ later j o f. (f.1, f.0)))
        (keeping w (Spares run few path job.folder) (HasHeldNone run p) (none_kept run few path job.folder) own h (begun run p mail job.folder) (λ later j o. HasBegun w own path job.folder later o) (asks_begun (Spares run few path job.folder) run p mail (begins_sparing run few path job.folder) job.folder) none
        (begun_goes w few path job.folder begins own h))

    -- `anno` keeps the rules of its pledge, where its run has used none of its held names before
    pub anno_keeps : (past : List Done) (h : Hand) → HasHeldNone run p (acts past) → Sound w (acts past) h → Keeps (rules_of w) past h (anno run path job) (IfOkay (Still (acts past)))
    unfolding anno
    anno_keeps past h none sound =
        opened_keeps run few path job.folder MakesNothing (Annotating path job.folder every_message job.lines) no_piece (NotesSo run path job) lets nothing_kept (HasHeldNone run p) (begun run p mail job.folder) (opened_noted run path job) past
        (λ later o b i s.
        goes_more w later i (opened_noted run path job o) (okay (Of (Worked later))) (okay (Of (λ end. AreSettled later → AreSettled end))) (okay_more (Of (Worked later)) (Of (λ end. AreSettled later → AreSettled end)) (λ end k v g. g.0))
        (opened_goes (acts past) later o b.0 b.1 i)) h sound (begun_sparing (acts past) h none)

    pub anno_promises : (x y : State) (result : Result Unit CommandFault) → Follows run command_cause (anno run path job) x y result → Promises w x y
    anno_promises x y result f = keeps_pledge w command_cause (anno run path job) x y result (IfOkay (Still [])) (anno_keeps [] x.hand (λ n ok. tt) (record { numbered = tt; unfailed = λ z. elim z [ ] })) f
