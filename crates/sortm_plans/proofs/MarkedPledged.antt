-- A command that gives messages of a folder other numbers goes as it pledges.
use Rattle.std.proofs.Common.{◌≡◌, ◌⊎◌, inl, inr, ◌<◌, ◌^◌, ◌∷◌, [], ℕ, true, List, Ok, refl, sym, ◌∙◌, ap, subst}
use Rattle.mh_base.specs.Entries.{kind_of}
use Rattle.mh_base.specs.Numbers.{IsMsgNum}
use Rattle.mh_base.specs.declared.entry.Entry.TheVariants.{Held, Sequences}
use Rattle.mh_base.proofs.EntryKinds.{kind_of-entry_text}
use Rattle.mh_profile.specs.declared.named_value.NamedValue.{NamedValue}
use Rattle.mh_sequences.specs.Printing.{private_entries, text_of}
use Rattle.mh_sequences.specs.Reading.{suffix}
use Rattle.mh_sequences.specs.Sequences.{Marked}
use Rattle.mh_sequences.specs.declared.run.Run.{Run}
use Rattle.folder_files.specs.Careful.{HasLock}
use Rattle.folder_files.specs.Commands.{Sorting}
use Rattle.folder_files.specs.Deeds.{Deed, did, on}
use Rattle.folder_files.specs.Named.{is_committed}
use Rattle.folder_files.specs.declared.place.Place.{Place}
use Rattle.folder_files.specs.declared.place.Place.TheVariants.{Folder, Mail}
use Rattle.folder_files.specs.declared.step.Answer.TheVariants as answer
use Rattle.folder_files.specs.declared.step.Step.{Step}
use Rattle.folder_files.specs.declared.step.Step.TheVariants as step
use Rattle.file_plans.specs.Plan.{Hand, Return, ◌>>=◌}
use Rattle.file_plans.proofs.Framing.{AnyStep}
use Rattle.step_plans.specs.Commits.{IsBase}
use Rattle.step_plans.specs.ContextCommit.{context_name}
use Rattle.step_plans.specs.Pledges.{Pledge}
use Rattle.step_plans.specs.Settled.{AreSettled}
use Rattle.step_plans.proofs.Facts.{LeavesBase, base_kept}
use Rattle.step_plans.proofs.Going.{Goes, Outcome, goes_more, goes_then, okay, okay_more}
use Rattle.step_plans.proofs.Lasting.{KeptBy, keeping, lasting}
use Rattle.step_plans.proofs.Pledged.{IsPledged, Of, after_written}
use Rattle.step_plans.proofs.Stepping.{goes_return}
use Rattle.sequence_commits.specs.Committing.{changed_sequences}
use Rattle.sequence_commits.specs.PrivateChanges.{changes_to}
use Rattle.sequence_commits.specs.Telling.{same_told}
use Rattle.sequence_commits.proofs.AsksSequences.{asks_sequences}
use Rattle.sequence_commits.proofs.SequencesPledged.{MayReplace, sequences_name}
use Rattle.message_places.specs.Arranging.{arranged, aside_name}
use Rattle.message_places.specs.Places.{AreDistinct, AreMsgNums, froms, is_in, slots}
use Rattle.message_places.specs.declared.moves.Move.{Move}
use Rattle.message_places.proofs.ArrangedPledged as places
use Rattle.message_places.proofs.ArrangedPledged.{LetsArrange, PlacesKeep, arranged_goes, lets_places, spared_untaken}
use Rattle.message_places.proofs.NumberLists.{in_good}
use Rattle.opening_plans.specs.FolderPledge.{told_within}
use Rattle.opening_plans.specs.Opening.{Opened, begun, opened_of}
use Rattle.opening_plans.specs.Reads.{HaveSeen}
use Rattle.opening_plans.proofs.FolderPledged.{HasBegun, begun_goes, seen_kept}
use Rattle.opening_plans.proofs.WorkPledged.{current_goes, opened_keeps}
use Rattle.refile_plans.specs.RmmPledge.{every_message}
use Rattle.refile_plans.proofs.RefileMoved.{HasHeldNone}
use Rattle.refile_plans.proofs.RmmPledged.{listed_runs}
use Rattle.sortm_plans.proofs.ArrangedDone as settling
use Rattle.sortm_plans.proofs.ArrangedDone.{arranged_settles}
use Rattle.sortm_plans.proofs.HeldNone.{Spares, begins_sparing, none_kept, spared_of}
use Rattle.sortm_plans.proofs.SafeCommits.{Stands, goes_comes, okay_both, stands_go}
use Rattle.opening_plans.specs.FolderPledge.{folder_pledge}
use Rattle.opening_plans.proofs.FolderPledged.{Begins}
use Rattle.opening_plans.proofs.WorkPledged as work
use Rattle.opening_plans.proofs.WorkPledged.{LetsBegin}
use Rattle.message_moves.proofs.MovePledged.{LetsTake}
use Rattle.refile_plans.proofs.BeginsAsks.{asks_begun}
use Rattle.sortm_plans.specs.Marking.{gone_along}
use Rattle.sortm_plans.specs.MovePledge.{AreToldWithout, HasCommitted, MovesMarks}
use Rattle.sortm_plans.specs.MovesDone.{AllSettled, IsReplaced, MarksWent}
use Rattle.sortm_plans.specs.Moving.{marked_moved, moved_if}
use Rattle.mh_sequences.specs.Runs.{last_in}
use Rattle.refile_plans.proofs.Lasts.{last_small}
use Rattle.refile_plans.specs.Rmm.{withdrawn}

module _ (run : ℕ) (few : run < 2 ^ 128) (path folder : List ℕ) (Makes : List Deed → List Run → Marked → Marked → Type 0) (Tells : List Deed → List ℕ → Type 0) (So : List Deed → Step → Type 0)
    (lets : LetsBegin path folder (Sorting path folder every_message) So) (makes_kept : (listing : List Run) (m new : Marked) → KeptBy AnyStep (λ own. Makes own listing m new)) where
  abbrev w : Pledge
  w = folder_pledge run path folder Makes (Sorting path folder every_message) Tells So

  abbrev p : Place
  p = Folder path folder

  abbrev mail : Place
  mail = Mail path

  -- the folder may be begun
  abbrev pub begins : Begins w path folder
  begins = work.begins run few path folder Makes (Sorting path folder every_message) Tells So lets makes_kept

  apart : mail ≡ p → ⊥
  apart e = cc (e)

  held_named : (n : ℕ) → IsMsgNum n → aside_name run n ≡ sequences_name → ⊥
  held_named n ok e = absurd (let same : Held run n ≡ Sequences = sym (kind_of-entry_text (Held run n) (few, ok)) ∙ (ap kind_of e ∙ kind_of-entry_text Sequences tt) in cc (same))

  -- new sequences of the folder are committed, which the command makes by its deeds
  module _ (listing : List Run) (text context : List ℕ) (old new : Marked) where
    abbrev told : Marked
    told = told_within listing text context folder

    abbrev Made : List Deed → Type 0
    Made own = HaveSeen run p mail listing text context own × Makes own listing told new

    made_kept : KeptBy AnyStep Made
    made_kept own s a any f = (seen_kept run p mail listing text context own s a tt f.0, makes_kept listing told new own s a tt f.1)

    entries_pledged : (seen : List NamedValue) → IsPledged w mail (changes_to (suffix folder) (private_entries (suffix folder) new.users) seen) AnyStep Made
    entries_pledged seen = record {
      asks = record { make = tt; lock = tt; list = tt; clear = λ temp is. tt; read = tt; create = λ temp bytes. tt; sync_file = λ temp. tt; rename = λ temp. tt; sync = tt; unlock = tt };
      keeps = made_kept;
      may = λ later before f. record { listing = listing; read_text = text; context = context; seen = f.0; new = new; made = inr f.1; writes = inr (inl (seen, (refl, refl, refl))) };
      lets = λ later temp f lock m. lets.commits later mail temp context_name refl;
    }

    made_twice : (temp : List ℕ) (own : List Deed) → Made own → Made (after_written p temp (text_of new) own)
    made_twice temp own f = made_kept _ (step.SyncFile p temp) answer.Done tt (made_kept own (step.Create p temp (text_of new)) answer.Done tt f)

    folder_commits : is_committed p sequences_name ≡ true
    folder_commits = rw (kind_of-entry_text Sequences tt) refl

    may_replace : (own : List Deed) (base : List ℕ) → Made own → HasLock p own → IsBase run p sequences_name base own → MayReplace w p base (text_of new) own
    may_replace own base f lock is = record {
      committed = folder_commits;
      lock = lock;
      base = is;
      mark = λ temp. record { listing = listing; read_text = text; context = context; seen = (made_twice temp own f).0; new = new; made = inr (made_twice temp own f).1; writes = inl (refl, refl, refl) };
      step_ = λ temp marked. lets.commits (after_written p temp (text_of new) own) p temp sequences_name folder_commits;
    }

    -- what stands after it
    abbrev Stood : List Deed → List Deed → Type 0
    Stood own later = Stands w few p begins.serves path apart begins.mail folder old new Made made_kept entries_pledged own later

    abbrev Commits : List Deed → Outcome Unit
    Commits own later j u = Made later × Stood own later

    commit_goes : (own : List Deed) (h : Hand) (base : List ℕ) → Made own → HasLock p own → IsBase run p sequences_name base own → Goes w own h (changed_sequences run p mail folder old new) (okay (Commits own))
    commit_goes own h base f lock is =
        lasting w Made made_kept own h (changed_sequences run p mail folder old new) (Of (Stood own)) f
        (stands_go w few p begins.serves path apart begins.mail folder old new Made made_kept entries_pledged own h base f (may_replace own base f lock is))

  -- the work on a folder that was begun
  module _ (begin own : List Deed) (o : Opened) (b : HasBegun w begin path folder own o) where
    abbrev m : Marked
    m = told_within o.listing b.text b.context folder

    -- the folder as it was opened
    abbrev pub opened : Opened
    opened = opened_of p folder o.listing m o.ends

    pub same_opened : o ≡ opened
    same_opened = λ i. opened_of (b.place i) (b.name i) o.listing (b.sequences i) o.ends

    abbrev Seen : List Deed → Type 0
    Seen later = HaveSeen run p mail o.listing b.text b.context later

    -- these messages move, of which the run knows this
    module _ (Knows : List Deed → Type 0) (knows_kept : KeptBy AnyStep Knows) (takes : List ℕ) (ms : List Move) (good_takes : AreMsgNums takes) (takes_distinct : AreDistinct takes) (good_moving : AreMsgNums (froms ms)) (good_slots : AreMsgNums (slots ms))
        (among : (k : ℕ) → is_in k (froms ms) ≡ true → is_in k takes ≡ true)
        (takes_one : (later : List Deed) (n : ℕ) → is_in n takes ≡ true → Seen later → Knows later → AreToldWithout run path folder m takes later → LetsTake w p n later)
        (makes : (later : List Deed) (new : Marked) → Knows later → MovesMarks run p takes ms later m new → Makes later o.listing m new) where
      abbrev freed : Marked
      freed = withdrawn takes m

      -- what stands once they have moved to these numbers
      pub record Gone (before : List Deed) (ends : List ℕ) (later : List Deed) : Type 0 where
        pub settled : AreSettled before → AreSettled later
        pub seen : Seen later
        pub known : Knows later
        pub moved : AllSettled run p ms ends later
        pub marks : MarksWent folder p m takes ms ends later

      -- what lasts while they move
      record Moving (later : List Deed) : Type 0 where
        seen : Seen later
        known : Knows later
        withdrawn_so : AreToldWithout run path folder m takes later
        base : (last : List ℕ) × IsBase run p sequences_name last later

      withdrawn_on : (later : List Deed) (s : Step) (a : _) → LeavesBase p sequences_name s → AreToldWithout run path folder m takes later → AreToldWithout run path folder m takes (did s a ∷ later)
      withdrawn_on later s a leaves (inl e) = inl e
      withdrawn_on later s a leaves (inr c) = inr (record { safe = on c.safe; base = base_kept run p sequences_name (text_of freed) later s a leaves c.base })

      moving_on : KeptBy (LeavesBase p sequences_name) Moving
      moving_on later s a leaves f = record {
        seen = seen_kept run p mail o.listing b.text b.context later s a tt f.seen;
        known = knows_kept later s a tt f.known;
        withdrawn_so = withdrawn_on later s a leaves f.withdrawn_so;
        base = (f.base.0, base_kept run p sequences_name f.base.0 later s a leaves f.base.1);
      }

      lets_arrange : LetsArrange w p takes ms Moving
      lets_arrange = lets_places w few p takes ms Moving good_moving begins.settles (λ later n e f. takes_one later n e f.seen f.known f.withdrawn_so)

      keep : PlacesKeep run p takes ms (LeavesBase p sequences_name) Moving
      keep = record { kept = moving_on; take = λ n e same named. held_named n (in_good takes good_takes n e) named; give = λ n k e ok. tt; drop = λ n e. tt; safe = tt }

      -- the messages move
      abbrev Moved : List Deed → Outcome (List ℕ)
      Moved before later j ends = places.HasArranged w few p refl takes ms (LeavesBase p sequences_name) Moving lets_arrange keep before later ends × AllSettled run p ms ends later

      moves_go : (before : List Deed) (h : Hand) → HasHeldNone run p before → HasLock p before → Moving before → Goes w before h (arranged run p takes ms (last_in o.listing)) (okay (Moved before))
      moves_go before h unused lock f =
          goes_more w before h (arranged run p takes ms (last_in o.listing))
          (λ later j r. okay (places.Arranged w few p refl takes ms (LeavesBase p sequences_name) Moving lets_arrange keep before) later j r × okay (settling.AllSettle run few p ms) later j r) (okay (Moved before))
          (okay_both (places.Arranged w few p refl takes ms (LeavesBase p sequences_name) Moving lets_arrange keep before) (settling.AllSettle run few p ms))
          (goes_comes w before h (arranged run p takes ms (last_in o.listing)) (okay (places.Arranged w few p refl takes ms (LeavesBase p sequences_name) Moving lets_arrange keep before)) (okay (settling.AllSettle run few p ms))
          (arranged_goes w few p refl takes ms (LeavesBase p sequences_name) Moving lets_arrange keep good_moving good_slots good_takes takes_distinct among (last_in o.listing)
          (last_small o.listing (listed_runs run p mail o.listing b.text b.context own b.seen)) before h (spared_untaken run p takes before (spared_of run p before unused takes good_takes)) lock f)
          (arranged_settles run few p takes good_takes ms among (last_in o.listing) before h))

      -- no sequence has them
      abbrev Withdrew : List Deed → Outcome Unit
      Withdrew before later j u = HasHeldNone run p later × (Knows later × (Made o.listing b.text b.context m freed later × Stood o.listing b.text b.context m freed before later))

      withdraw_goes : (before : List Deed) (h : Hand) (last : List ℕ) → HasHeldNone run p before → HasLock p before → IsBase run p sequences_name last before → Seen before → Knows before → Goes w before h (changed_sequences run p mail folder m freed) (okay (Withdrew before))
      withdraw_goes before h last unused lock base seen known =
          keeping w (Spares run few path folder) (HasHeldNone run p) (none_kept run few path folder) before h (changed_sequences run p mail folder m freed) (λ later j u. Knows later × Commits o.listing b.text b.context m freed before later j u)
          (asks_sequences (Spares run few path folder) run p mail (begins_sparing run few path folder).text (begins_sparing run few path folder).context folder m freed) unused
          (lasting w Knows knows_kept before h (changed_sequences run p mail folder m freed) (Commits o.listing b.text b.context m freed before) known
          (commit_goes o.listing b.text b.context m freed before h last (seen, makes before freed known (inl refl)) lock base))

      -- each has its marks again
      replaced_by : (later : List Deed) → AreToldWithout run path folder m takes later → IsReplaced folder p m freed later
      replaced_by later (inl e) = inl e
      replaced_by later (inr c) = inr c.safe

      replaced_kept : (from to : Marked) → KeptBy AnyStep (IsReplaced folder p from to)
      replaced_kept from to later s a any (inl e) = inl e
      replaced_kept from to later s a any (inr f) = inr (on f)

      abbrev Went : List ℕ → List Deed → Type 0
      Went ends later = Knows later × (AllSettled run p ms ends later × IsReplaced folder p m freed later)

      went_kept : (ends : List ℕ) → KeptBy AnyStep (Went ends)
      went_kept ends later s a any f = (knows_kept later s a tt f.0, (settling.settled_kept run few p ms ends later s a tt f.1.0, replaced_kept m freed later s a tt f.1.1))

      marks_went : (l : List Move) (ends : List ℕ) (later : List Deed) → IsReplaced folder p m freed later → IsReplaced folder p freed (gone_along l ends m) later → MarksWent folder p m takes l ends later
      marks_went [] ends later f g = tt
      marks_went (x ∷ l) ends later f g = (f, g)

      restored : (ends : List ℕ) (before later : List Deed) → Stood o.listing b.text b.context freed (gone_along ms ends m) before later → IsReplaced folder p freed (gone_along ms ends m) later
      restored ends before later s = by s.committed
        where
          by : (same_told folder freed (gone_along ms ends m) ≡ true) ⊎ HasCommitted run p (text_of (gone_along ms ends m)) later → IsReplaced folder p freed (gone_along ms ends m) later
          by (inl e) = inl e
          by (inr c) = inr c.safe

      abbrev pub Goings : List Deed → Outcome (List ℕ)
      Goings before later j ends = Gone before ends later

      marked_goes : (before : List Deed) (h : Hand) (last : List ℕ) → HasHeldNone run p before → HasLock p before → IsBase run p sequences_name last before → Seen before → Knows before → Goes w before h (marked_moved run mail opened takes ms) (okay (Goings before))
      unfolding marked_moved
      marked_goes before h last unused lock base seen known =
          goes_then w before h (changed_sequences run p mail folder m freed)
          (λ free. arranged run p takes ms (last_in o.listing) >>= (λ ends. changed_sequences run p mail folder freed (gone_along ms ends m) >>= (λ back. Return (Ok ends)))) (Withdrew before) (Goings before)
          (withdraw_goes before h last unused lock base seen known)
          (λ second j u q.
          goes_then w second j (arranged run p takes ms (last_in o.listing)) (λ ends. changed_sequences run p mail folder freed (gone_along ms ends m) >>= (λ back. Return (Ok ends))) (Moved second) (Goings before)
          (moves_go second j q.0 q.1.1.1.lock (record { seen = q.1.1.0.0; known = q.1.0; withdrawn_so = q.1.1.1.committed; base = q.1.1.1.base }))
          (λ third k ends a.
          goes_then w third k (changed_sequences run p mail folder freed (gone_along ms ends m)) (λ back. Return (Ok ends)) (λ end i v. Went ends end × Commits o.listing b.text b.context freed (gone_along ms ends m) third end i v) (Goings before)
          (lasting w (Went ends) (went_kept ends) third k (changed_sequences run p mail folder freed (gone_along ms ends m)) (Commits o.listing b.text b.context freed (gone_along ms ends m) third) (a.0.stays.fact.known, (a.1, replaced_by third a.0.stays.fact.withdrawn_so))
          (commit_goes o.listing b.text b.context freed (gone_along ms ends m) third k a.0.stays.fact.base.0 (a.0.stays.fact.seen, makes third (gone_along ms ends m) a.0.stays.fact.known (inr (ends, a.0.moved, refl))) a.0.stays.lock a.0.stays.fact.base.1))
          (λ end i v e. goes_return w end i ends (okay (Goings before)) (record {
            settled = λ x. e.1.1.settled (a.0.stays.settled (q.1.1.1.settled x));
            seen = e.1.0.0;
            known = e.0.0;
            moved = e.0.1.0;
            marks = marks_went ms ends end e.0.1.1 (restored ends third end e.1.1);
          }))))

      -- where none moves nothing is done
      pub moved_goes : (l : List Move) → ms ≡ l → (before : List Deed) (h : Hand) (last : List ℕ) → HasHeldNone run p before → HasLock p before → IsBase run p sequences_name last before → Seen before → Knows before
          → Goes w before h (moved_if run mail opened takes l) (okay (Goings before))
      moved_goes [] e before h last unused lock base seen known = goes_return w before h [] (okay (Goings before)) (record {
        settled = λ x. x;
        seen = seen;
        known = known;
        moved = subst (λ l. AllSettled run p l [] before) (sym e) tt;
        marks = subst (λ l. MarksWent folder p m takes l [] before) (sym e) tt;
      })
      moved_goes (x ∷ l) e before h last unused lock base seen known = subst (λ z. Goes w before h (marked_moved run mail opened takes z) (okay (Goings before))) e (marked_goes before h last unused lock base seen known)

  -- the folder is begun, and the run holds nothing aside itself
  abbrev pub Began : List Deed → Outcome Opened
  Began own later j o = HasBegun w own path folder later o × HasHeldNone run p later

  pub begun_sparing : (own : List Deed) (h : Hand) → HasHeldNone run p own → Goes w own h (begun run p mail folder) (okay (Began own))
  begun_sparing own h none =
      goes_more w own h (begun run p mail folder) (okay (λ later j o. HasHeldNone run p later × HasBegun w own path folder later o)) (okay (Began own))
      (okay_more (λ later j o. HasHeldNone run p later × HasBegun w own path folder later o) (Began own) (λ later j o f. (f.1, f.0)))
      (keeping w (Spares run few path folder) (HasHeldNone run p) (none_kept run few path folder) own h (begun run p mail folder) (λ later j o. HasBegun w own path folder later o) (asks_begun (Spares run few path folder) run p mail (begins_sparing run few path folder) folder) none
      (begun_goes w few path folder begins own h))
