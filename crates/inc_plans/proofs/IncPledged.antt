-- `inc` goes as it pledges.
use Rattle.std.proofs.Common.{◌≡◌, ◌⊎◌, inl, inr, ◌<◌, ◌≤◌, ◌+◌, ◌^◌, ◌&&◌, ◌||◌, ◌++◌, ◌∷◌, [], ◌==◌, ℕ, Bool, true, false, List, Option, None, Result, Ok, length, max, nat_le, refl, sym, ◌∙◌, ap, subst, arith}
use Rattle.std.specs.Prelude.{decimal, reverse}
use Rattle.std.proofs.lemmas.Bool.Decides.{nat_tests}
use Rattle.mbox_drop.specs.Drops.{is_drop, messages}
use Rattle.mh_base.specs.Entries.{entry_text, kind_of}
use Rattle.mh_base.specs.declared.entry.Entry.{Entry}
use Rattle.mh_base.specs.declared.entry.Entry.TheVariants.{Sequences}
use Rattle.mh_base.specs.declared.entry.Entry.TheVariants as entry
use Rattle.mh_sequences.specs.Runs.{AreRuns, AreRunsFrom, has}
use Rattle.mh_sequences.specs.Sequences.{Marked}
use Rattle.mh_sequences.specs.declared.run.Run.{Run}
use Rattle.folder_files.specs.Careful.{Cuts, HasPieces, HasStored, MayCut, all, cuts}
use Rattle.folder_files.specs.Commands.{Incorporating}
use Rattle.folder_files.specs.Deeds.{Deed, Once, did, now, on}
use Rattle.folder_files.specs.Named.{is_held, is_temp, is_temp_of}
use Rattle.folder_files.specs.declared.place.FilePath.{FilePath}
use Rattle.folder_files.specs.declared.place.Place.{Place}
use Rattle.folder_files.specs.declared.place.Place.TheVariants.{Folder, Mail}
use Rattle.folder_files.specs.declared.refusal.Refusal.TheVariants as refusal
use Rattle.folder_files.specs.declared.step.Answer.TheVariants as answer
use Rattle.folder_files.specs.declared.step.Step.TheVariants as step
use Rattle.file_plans.specs.Follows.{Follows, State}
use Rattle.file_plans.specs.Framing.{AsksOnly}
use Rattle.file_plans.specs.Plan.{Hand, Plan, Return, lifted, ◌>>=◌}
use Rattle.file_plans.specs.Rules.{IfOkay, Keeps}
use Rattle.file_plans.specs.Runs.{Deed as Done}
use Rattle.file_plans.specs.StaysCareful.{careful}
use Rattle.file_plans.proofs.Acting.{acts}
use Rattle.file_plans.proofs.Framing.{AnyStep, asks_lifted, asks_none, asks_then}
use Rattle.step_plans.specs.CommandFaults.{command_cause, of_sink, of_stop}
use Rattle.step_plans.specs.ContextCommit.{commit_context, context_name}
use Rattle.step_plans.specs.Pledges.{Pledge}
use Rattle.step_plans.specs.Promises.{Promises}
use Rattle.step_plans.specs.Settled.{AreSettled}
use Rattle.step_plans.specs.declared.command_fault.CommandFault.{CommandFault}
use Rattle.step_plans.specs.declared.command_fault.CommandFault.TheVariants as fault
use Rattle.step_plans.proofs.Asks.{Commits, asks_commit}
use Rattle.step_plans.proofs.Facts.{settled_kept}
use Rattle.step_plans.proofs.Going.{Goes, Outcome, Sound, goes_more, goes_then, okay, okay_more}
use Rattle.step_plans.proofs.Lasting.{KeptBy, goes_keeping, keeping, lasting}
use Rattle.step_plans.proofs.Pledged.{Of}
use Rattle.step_plans.proofs.Promising.{keeps_pledge}
use Rattle.step_plans.proofs.Ruling.{rules_of}
use Rattle.step_plans.proofs.Stepping.{goes_cut, goes_end, goes_on, goes_return, goes_say, goes_stop}
use Rattle.sequence_commits.specs.Committing.{changed_sequences}
use Rattle.sequence_commits.specs.Marking.{marked_by_all}
use Rattle.sequence_commits.proofs.AsksSequences.{asks_sequences}
use Rattle.message_puts.proofs.FirstPuts.{AreOnce, none_once, once_asked}
use Rattle.message_puts.proofs.PutPledged.{MayReach, PutsMessages}
use Rattle.command_stages.specs.Current.{current_change, made_current}
use Rattle.command_stages.specs.Endings.{of_plan, if_room}
use Rattle.opening_plans.specs.FolderPledge.{told_within}
use Rattle.opening_plans.specs.Opening.{Opened}
use Rattle.opening_plans.specs.Reads.{HaveSeen}
use Rattle.opening_plans.proofs.EndedKept.{Still}
use Rattle.opening_plans.proofs.FolderPledged.{Begins, HasBegun, seen_kept}
use Rattle.opening_plans.proofs.WorkPledged.{LetsBegin, begins, committed_goes, current_goes, made_keeps}
use Rattle.opening_plans.proofs.Listed.{settled_runs}
use Rattle.inc_plans.specs.Counting.{drop_counted}
use Rattle.inc_plans.specs.DropTaken.{drop_taken, where_of}
use Rattle.inc_plans.specs.Inc.{are_some, cut_by, cut_if, drop_ended, heading, heading_told, inc, new_marked, new_marks, opened_incorporated, room_counted, telling_of, told_taken, top_of}
use Rattle.inc_plans.specs.IncPledge.{HasSeenNumber, HasTakenIn, HoldsOne, MakesSo, MarksNew, TellsNew, inc_pledge}
use Rattle.inc_plans.specs.Stored.{IsLineOfStored}
use Rattle.inc_plans.specs.Taking.{standing_for}
use Rattle.inc_plans.specs.declared.size.DropSize.{DropSize}
use Rattle.inc_plans.specs.declared.taken.Taken.{Taken}
use Rattle.inc_plans.specs.IncJob.{IncJob}
use Rattle.inc_plans.proofs.Courses.{Ground, stored_still, then_soundly}
use Rattle.inc_plans.proofs.DropKept.{LeavesDrop, leaves_first, pieces_kept, stored_kept}
use Rattle.inc_plans.proofs.DropPledged.{AllTaken, IsTold, Takes, counted_goes, taken_goes}

or_there : (a b : Bool) → b ≡ true → a || b ≡ true
or_there true b e = refl
or_there false b e = e

unheld : (k : Entry) → is_temp k ≡ true → is_held k ≡ true → ⊥
unheld (entry.Temp r n) e f = cc (f)
unheld (entry.Number n) e f = cc (e)
unheld (entry.Backup n) e f = cc (e)
unheld (entry.Held r n) e f = cc (e)
unheld entry.Sequences e f = cc (e)
unheld entry.LockFile e f = cc (e)
unheld entry.Other e f = cc (e)

-- the greatest number of a set is one of messages
pub top_low : (low : ℕ) (runs : List Run) → AreRunsFrom low runs → top_of runs ≤ 999999
top_low low [] f = omega arith
top_low low (r ∷ rs) f = let rest = top_low (r.to + 2) rs f.3 in let this = f.2 in omega (arith, rest, this)

-- it is 0, or one of the set's
top_known : (low : ℕ) (runs : List Run) → AreRunsFrom low runs → (top_of runs ≡ 0) ⊎ (has runs (top_of runs) ≡ true)
top_known low [] f = inl refl
top_known low (r ∷ rs) f = go (nat_le (top_of rs) r.to) refl (top_known (r.to + 2) rs f.3)
  where
    end : nat_le r.from r.to ≡ true
    end = let l = f.1 in grind (arith, nat_tests, l)

    self : nat_le r.to r.to ≡ true
    self = grind (arith, nat_tests)

    go : (v : Bool) → nat_le (top_of rs) r.to ≡ v → (top_of rs ≡ 0) ⊎ (has rs (top_of rs) ≡ true) → (top_of (r ∷ rs) ≡ 0) ⊎ (has (r ∷ rs) (top_of (r ∷ rs)) ≡ true)
    go true e rest =
        let le : top_of rs ≤ r.to = grind (arith, nat_tests, e) in
        let top : max r.to (top_of rs) ≡ r.to = omega (arith, le) in
        inr (subst (λ n. (nat_le r.from n && nat_le n r.to) || has rs n ≡ true) (sym top) (rw (end, self) refl))
    go false e (inl none) = let lt : r.to < top_of rs = grind (arith, nat_tests, e) in absurd (omega (arith, lt, none))
    go false e (inr there) =
        let lt : r.to < top_of rs = grind (arith, nat_tests, e) in
        let top : max r.to (top_of rs) ≡ top_of rs = omega (arith, lt) in
        inr (subst (λ n. (nat_le r.from n && nat_le n r.to) || has rs n ≡ true) (sym top) (or_there (nat_le r.from (top_of rs) && nat_le (top_of rs) r.to) (has rs (top_of rs)) there))

top_small : (run : ℕ) (p mail : Place) (listing : List Run) (text context : List ℕ) (own : List Deed) → HaveSeen run p mail listing text context own → top_of listing ≤ 999999
top_small run p mail listing text context own f = top_low 1 listing (subst AreRuns (sym f.listed.1) (settled_runs run f.listed.0))

-- the whole drop was read and stored: it may be cut
record IsReady (run : ℕ) (f : FilePath) (l : ℕ) (own : List Deed) : Type 0 where
  drop : List ℕ
  pieces : HasPieces f drop own
  whole : length drop ≡ l
  told : IsTold f l own
  is_one : is_drop drop ≡ true
  stored : HasStored run f [] (reverse (messages drop)) own

ready_kept : (run : ℕ) (f : FilePath) (l : ℕ) → KeptBy (LeavesDrop f) (IsReady run f l)
ready_kept run f l own s a leaves r = record {
  drop = r.drop;
  pieces = pieces_kept f r.drop own s a leaves r.pieces;
  whole = r.whole;
  told = on r.told;
  is_one = r.is_one;
  stored = stored_kept run f (reverse (messages r.drop)) own s a (leaves_first f s leaves) r.stored;
}

ready_cut : (run : ℕ) (f : FilePath) (l : ℕ) (own : List Deed) → IsReady run f l own → MayCut run f l own
ready_cut run f l own r = record { drop = r.drop; pieces = r.pieces; whole = r.whole; told = r.told; is_one = r.is_one; stored = r.stored }

commits_leave : (f : FilePath) (p : Place) (name : List ℕ) → Commits (LeavesDrop f) p name
commits_leave f p name = record { make = tt; lock = tt; list = tt; clear = λ temp is. tt; read = tt; create = λ temp bytes. tt; sync_file = λ temp. tt; rename = λ temp. tt; sync = tt; unlock = tt }

pieces_once : (f : FilePath) (drop : List ℕ) (own : List Deed) → HasPieces f drop own → Once (λ d older. HasPieces f drop (d ∷ older)) own
pieces_once f drop [] z = elim z [ ]
pieces_once f drop (d ∷ own) z = now z

module _ (run : ℕ) (few : run < 2 ^ 128) (path : List ℕ) (job : IncJob) where
  abbrev w : Pledge
  w = inc_pledge run path job

  abbrev p : Place
  p = Folder path job.folder

  abbrev mail : Place
  mail = Mail path

  pub lets : LetsBegin path job.folder (Incorporating path job.folder job.drop) (MakesSo run path job)
  lets = record {
    kinds = λ own kind s k. inl k;
    makes = λ own q. ((λ l e. absurd (cc (e))), (λ temp number e is. absurd (cc (e))), (λ temp number e is. absurd (cc (e))));
    creates = λ own q temp bytes. ((λ l e. absurd (cc (e))), (λ other number e is. absurd (cc (e))), (λ other number e is. absurd (cc (e))));
    clears = λ own q temp is. ((λ l e. absurd (cc (e))), (λ other number e is_temp_. absurd (cc (e))), (λ other number e is_temp_. absurd (cc (e))));
    gives = λ own q held number is. ((λ l e. absurd (cc (e))), (λ temp other e is_temp_. absurd (let same : held ≡ temp = cc (e) in unheld (kind_of temp) is_temp_ (subst (λ x. is_held (kind_of x) ≡ true) same is))), (λ temp other e is_temp_. absurd (let same : held ≡ temp = cc (e) in unheld (kind_of temp) is_temp_ (subst (λ x. is_held (kind_of x) ≡ true) same is))));
    drops = λ own q held is away. ((λ l e. absurd (cc (e))), (λ temp number e is_temp_. absurd (cc (e))), (λ temp number e is_temp_. absurd (cc (e))));
    commits = λ own q temp name is. ((λ l e. absurd (cc (e))), (λ other number e is_temp_. absurd (cc (e))), (λ other number e is_temp_. absurd (cc (e))));
  }

  taken_in_kept : (numbers : List ℕ) → KeptBy AnyStep (HasTakenIn run p job.drop numbers)
  taken_in_kept numbers own s a any t = record { drop = t.drop; read = on t.read; is_one = t.is_one; stored = stored_still run p numbers (messages t.drop) own s a any t.stored }

  pub lasts : (listing : List Run) (m new : Marked) → KeptBy AnyStep (λ own. MarksNew run path job own listing m new)
  lasts listing m new own s a any f = (f.0, taken_in_kept f.0 own s a any f.1, f.2)

  may_begin : Begins w path job.folder
  may_begin = begins run few path job.folder (MarksNew run path job) (Incorporating path job.folder job.drop) (TellsNew run path job) (MakesSo run path job) lets lasts

  abbrev Known : ℕ → List Deed → Type 0
  Known n own = HasSeenNumber run path job.folder n own

  known_kept : (n : ℕ) → KeptBy AnyStep (Known n)
  known_kept n own s a any (inl e) = inl e
  known_kept n own s a any (inr (inl f)) = inr (inl (f.0, f.1, f.2, seen_kept run p mail f.0 f.1 f.2 own s a any f.3, f.4))
  known_kept n own s a any (inr (inr f)) = inr (inr (on f))

  -- it holds one message still
  holds_on : KeptBy (LeavesDrop job.drop) (HoldsOne run job.drop)
  holds_on own s a leaves z = record {
    before = z.before;
    piece = z.piece;
    read = pieces_kept job.drop (z.before ++ z.piece) own s a leaves z.read;
    short = z.short;
    done = z.done;
    left = z.left;
    of_drop = z.of_drop;
    stored = stored_kept run job.drop (reverse z.done) own s a (leaves_first job.drop s leaves) z.stored;
    front = z.front;
  }

  near_none : (own : List Deed) (temp : List ℕ) (n : ℕ) → is_temp_of run (kind_of temp) ≡ true → MayReach Known None n own → HoldsOne run job.drop own → MakesSo run path job own (step.Link p temp (decimal n))
  near_none own temp n is_own (inl e) holds = absurd (cc (e))
  near_none own temp n is_own (inr near) holds = (
    (λ l e. absurd (cc (e))),
    (λ other number e is. (n, (let same : step.Link p temp (decimal n) ≡ step.Link p other number = e in cc (same)), near.0, near.1, near.2)),
    (λ other number e is. holds),
  )

  puts : (bytes : List ℕ) → PutsMessages w p bytes Known None (HoldsOne run job.drop)
  puts bytes = record {
    serves = may_begin.serves;
    puts = λ own temp number ready holds. inr (inl (refl, refl));
    link = λ own temp n is_own is_number_ reach ready holds. near_none own temp n is_own reach holds;
    kept = known_kept;
    linked = λ own temp n. inr (inr (now (temp, inl refl)));
    met = λ own temp n. inr (inr (now (temp, inr refl)));
    made_now = λ own temp holds. holds_on (did (step.Create p temp bytes) answer.Done ∷ own) (step.SyncFile p temp) answer.Done tt (holds_on own (step.Create p temp bytes) answer.Done tt holds);
    met_now = λ own temp n holds. holds_on own (step.Link p temp (decimal n)) answer.Exists tt holds;
  }

  -- whichever message was the current one before
  tells : (cur : Option ℕ) → job.silent ≡ false → (own : List Deed) (piece : List ℕ) → IsLineOfStored (telling_of job cur).line run p own piece → TellsNew run path job own piece
  tells cur loud own piece i =
      (loud, inr (record { number = i.number; message = i.message; kind = (standing_for job.change_cur (are_some job.unseen) cur i.kind i.number).current; line = i.line; stored = i.stored }))

  module _ (cur : Option ℕ) (begin : List Deed) (listing : List Run) (text context old : List ℕ) where
    abbrev Takes_ : List ℕ → List (List ℕ) → List ℕ → List Deed → Type 0
    Takes_ d done numbers own = Takes w few path job.folder Known job.drop puts (telling_of job cur) (tells cur) begin listing text context old d done numbers own

    abbrev Bare : List Deed → Type 0
    Bare own = Takes_ [] [] [] own

    abbrev Counted : Outcome DropSize
    Counted later j size = Bare later × IsTold job.drop size.length later × ((size.length == 0) ≡ false)

    -- the drop is counted, and there is room
    room_goes : (top : ℕ) (own : List Deed) (h : Hand) → Bare own → Goes w own h (room_counted job.folder job.drop top) (okay Counted)
    unfolding room_counted
    room_goes top own h b =
        goes_then w own h (drop_counted job.drop) (λ size. if_room (nat_le (top + size.messages) 999999) job.folder >>= (λ room. Return (Ok size))) Counted Counted
        (counted_goes w few path job.folder Known job.drop puts (telling_of job cur) (tells cur) begin listing text context old own h b) (λ later j size q. by_room (nat_le (top + size.messages) 999999) size later j q)
      where
        by_room : (v : Bool) (size : DropSize) (later : List Deed) (j : Hand) → Counted later j size → Goes w later j (if_room v job.folder >>= (λ room. Return (Ok size))) (okay Counted)
        by_room true size later j q = goes_on w later j tt (λ room. Return (Ok size)) (okay Counted) (goes_return w later j size (okay Counted) q)
        by_room false size later j q = goes_stop w later j (fault.Refused (refusal.Full job.folder)) (λ room. Return (Ok size)) Counted

    -- the heading is told, and the messages are taken in
    abbrev Taken_ : ℕ → Outcome Taken
    Taken_ l later j t = AllTaken w few path job.folder Known job.drop puts (telling_of job cur) (tells cur) begin listing text context old l t.numbers later

    told_goes : (o : Opened) (size : DropSize) → (size.length == 0) ≡ false → o.place ≡ p → o.sequences.cur ≡ cur → top_of o.listing ≤ 999999 → (own : List Deed) (h : Hand) → Sound w own h → Known (top_of o.listing) own → Bare own → Goes w own h (told_taken run job o size) (okay (Taken_ size.length))
    unfolding told_taken
    told_goes o size some place marked small own h sound known b =
        subst (λ q. Goes w own h (heading_told job.silent job.folder >>= (λ told. drop_taken (where_of run job.folder q (telling_of job o.sequences.cur)) job.drop size.length size.messages (top_of o.listing))) (okay (Taken_ size.length))) (sym place)
        (subst (λ k. Goes w own h (heading_told job.silent job.folder >>= (λ told. drop_taken (where_of run job.folder p (telling_of job k)) job.drop size.length size.messages (top_of o.listing))) (okay (Taken_ size.length))) (sym marked)
        (by_silent job.silent refl))
      where
        rest : Unit {0} → Plan (Result Taken CommandFault)
        rest told = drop_taken (where_of run job.folder p (telling_of job cur)) job.drop size.length size.messages (top_of o.listing)

        takes : Goes w own h (rest tt) (okay (Taken_ size.length))
        takes = taken_goes w few path job.folder Known job.drop puts (telling_of job cur) (tells cur) begin listing text context old size.length some size.messages (top_of o.listing) small own h sound known b

        by_silent : (v : Bool) → job.silent ≡ v → Goes w own h (heading_told v job.folder >>= rest) (okay (Taken_ size.length))
        by_silent true is = goes_on w own h tt rest (okay (Taken_ size.length)) takes
        by_silent false is = goes_say w own h of_sink (okay (Taken_ size.length)) (heading job.folder) rest (λ s. (is, inl refl)) takes

    -- the drop was all taken in
    ready_of : (l : ℕ) (numbers : List ℕ) (own : List Deed) → (l == 0) ≡ false → IsTold job.drop l own
        → (z : AllTaken w few path job.folder Known job.drop puts (telling_of job cur) (tells cur) begin listing text context old l numbers own) → IsReady run job.drop l own × HasTakenIn run p job.drop numbers own
    ready_of l numbers own some told z = by_pieces z.taken.pieces
      where
        by_pieces : (z.drop ≡ []) ⊎ HasPieces job.drop z.drop own → IsReady run job.drop l own × HasTakenIn run p job.drop numbers own
        by_pieces (inl none) =
            let no : l ≡ 0 = sym z.whole ∙ ap length none in
            let bad : true ≡ false = sym (ap (λ k. k == 0) no) ∙ some in absurd (cc (bad))
        by_pieces (inr pieces) = (
          record { drop = z.drop; pieces = pieces; whole = z.whole; told = told; is_one = z.is_one; stored = z.taken.stored },
          record { drop = z.drop; read = pieces_once job.drop z.drop own pieces; is_one = z.is_one; stored = z.taken.at },
        )

    abbrev told_ : Marked
    told_ = told_within listing text context job.folder

    abbrev Ready : ℕ → List Deed → Type 0
    Ready l own = IsReady run job.drop l own

    asks_current : AsksOnly (LeavesDrop job.drop) (made_current run path job.folder)
    unfolding made_current
    asks_current =
        asks_then (LeavesDrop job.drop) (lifted (of_plan job.folder) (commit_context run mail (current_change job.folder))) (λ done. Return (Ok tt))
        (asks_lifted (LeavesDrop job.drop) (of_plan job.folder) (commit_context run mail (current_change job.folder)) (asks_commit (LeavesDrop job.drop) run mail (current_change job.folder) (commits_leave job.drop mail context_name)))
        (λ done. asks_none (LeavesDrop job.drop) (Ok tt))

    -- the folder becomes the current one
    current_keeps : (l : ℕ) (own : List Deed) (h : Hand) → Ready l own → HaveSeen run p mail listing text context own → Goes w own h (made_current run path job.folder) (okay (λ later j u. Ready l later × (AreSettled own → AreSettled later)))
    current_keeps l own h ready seen =
        keeping w (LeavesDrop job.drop) (Ready l) (ready_kept run job.drop l) own h (made_current run path job.folder) (Of (λ later. AreSettled own → AreSettled later)) asks_current ready
        (current_goes run few path job.folder (MarksNew run path job) (Incorporating path job.folder job.drop) (TellsNew run path job) (MakesSo run path job) lets lasts own h listing text context seen)

    -- the new messages are marked
    marked_goes : (l : ℕ) (numbers : List ℕ) (own : List Deed) (h : Hand) → HasTakenIn run p job.drop numbers own → Ready l own → Ground run path job.folder job.drop begin listing text context old own
        → Goes w own h (lifted (of_plan job.folder) (changed_sequences run p mail job.folder told_ (marked_by_all (new_marks job numbers) told_)) >>= (λ marked. made_current run path job.folder)) (okay (λ later j u. Ready l later × (AreSettled own → AreSettled later)))
    marked_goes l numbers own h taken ready g =
        goes_keeping w (LeavesDrop job.drop) (Ready l) (ready_kept run job.drop l) own h (lifted (of_plan job.folder) (changed_sequences run p mail job.folder told_ (marked_by_all (new_marks job numbers) told_))) (λ marked. made_current run path job.folder)
        (λ later j u. HaveSeen run p mail listing text context later × (AreSettled own → AreSettled later)) (λ later j u. Ready l later × (AreSettled own → AreSettled later))
        (asks_lifted (LeavesDrop job.drop) (of_plan job.folder) (changed_sequences run p mail job.folder told_ (marked_by_all (new_marks job numbers) told_)) (asks_sequences (LeavesDrop job.drop) run p mail (commits_leave job.drop p (entry_text Sequences)) (commits_leave job.drop mail context_name) job.folder told_ (marked_by_all (new_marks job numbers) told_)))
        ready
        (committed_goes run few path job.folder (MarksNew run path job) (Incorporating path job.folder job.drop) (TellsNew run path job) (MakesSo run path job) lets lasts own h listing text context (marked_by_all (new_marks job numbers) told_) (inr (numbers, taken, refl)) g.seen g.lock old g.base)
        (λ later j u r q.
        goes_more w later j (made_current run path job.folder) (okay (λ last i v. Ready l last × (AreSettled later → AreSettled last))) (okay (λ last i v. Ready l last × (AreSettled own → AreSettled last)))
        (okay_more (λ last i v. Ready l last × (AreSettled later → AreSettled last)) (λ last i v. Ready l last × (AreSettled own → AreSettled last)) (λ last i v z. (z.0, λ s. z.1 (q.1 s))))
        (current_keeps l later j r q.0))

    marked_at : (q : Place) (n : List ℕ) (m : Marked) → q ≡ p → n ≡ job.folder → m ≡ told_ → (l : ℕ) (numbers : List ℕ) (own : List Deed) (h : Hand) → HasTakenIn run p job.drop numbers own → Ready l own → Ground run path job.folder job.drop begin listing text context old own
        → Goes w own h (lifted (of_plan job.folder) (changed_sequences run q mail n m (marked_by_all (new_marks job numbers) m)) >>= (λ marked. made_current run path job.folder)) (okay (λ later j u. Ready l later × (AreSettled own → AreSettled later)))
    marked_at q n m place name same l numbers own h taken ready g = rw (place, name, same) (marked_goes l numbers own h taken ready g)

    -- the drop is cut, where it is to be
    cut_goes : (l : ℕ) (own : List Deed) (h : Hand) → Ready l own → Goes w own h (cut_if job.truncate job.drop l) (okay (Of (λ later. AreSettled own → AreSettled later)))
    unfolding drop_ended
    cut_goes l own h ready = by_truncate job.truncate refl
      where
        Q : Outcome Unit
        Q later j u = AreSettled own → AreSettled later

        by_truncate : (v : Bool) → job.truncate ≡ v → Goes w own h (cut_if v job.drop l) (okay Q)
        by_truncate true is =
            goes_cut w own h of_stop (okay Q) job.drop l cut_by
            (λ s. (
              record {
                is_own = careful s.unfailed Cuts (cuts job.drop l (ready_cut run job.drop l own ready)) (inr (inr (l, refl))) (λ q k c. absurd c);
                marks = tt;
                steps = λ no. ((λ k e. is), (λ temp number e is_temp_. absurd (cc (e))), (λ temp number e is_temp_. absurd (cc (e))));
              },
              tt,
            ))
            (goes_return w _ h tt (okay Q) (λ s. settled_kept own (step.CutDrop job.drop l) answer.Done tt s))
            (goes_end w _ h (fault.Refused refusal.DropGrown) Q)
            (goes_return w _ h tt (okay Q) (λ s. settled_kept own (step.CutDrop job.drop l) answer.Gone tt s))
        by_truncate false is = goes_return w own h tt (okay Q) (λ s. s)

  -- the work on a folder that was begun
  module _ (first own : List Deed) (o : Opened) (b : HasBegun w first path job.folder own o) (once : AreOnce run own) where
    abbrev old_ : List ℕ
    old_ = b.base.0

    begun : Takes w few path job.folder Known job.drop puts (telling_of job o.sequences.cur) (tells o.sequences.cur) own o.listing b.text b.context old_ [] [] [] own
    begun = record { ground = record { settled = λ s. s; lock = b.held.lock; base = b.base.1; seen = b.seen; once = once }; pieces = inl refl; stored = all; at = tt }

    small : top_of o.listing ≤ 999999
    small = top_small run p mail o.listing b.text b.context own b.seen

    known_top : (later : List Deed) → HaveSeen run p mail o.listing b.text b.context later → Known (top_of o.listing) later
    known_top later seen = by_listing (top_known 1 o.listing (subst AreRuns (sym seen.listed.1) (settled_runs run seen.listed.0)))
      where
        by_listing : (top_of o.listing ≡ 0) ⊎ (has o.listing (top_of o.listing) ≡ true) → Known (top_of o.listing) later
        by_listing (inl none) = inl none
        by_listing (inr there) = inr (inl (o.listing, b.text, b.context, seen, there))

    abbrev End : Outcome Unit
    End later j u = AreSettled own → AreSettled later

    module _ (size : DropSize) (some : (size.length == 0) ≡ false) where
      abbrev TakenTold : Outcome Taken
      TakenTold later j t = IsTold job.drop size.length later × AllTaken w few path job.folder Known job.drop puts (telling_of job o.sequences.cur) (tells o.sequences.cur) own o.listing b.text b.context old_ size.length t.numbers later

      then_cut : (t : Taken) (later : List Deed) (j : Hand) → TakenTold later j t → Goes w later j (new_marked run path job o t.numbers >>= (λ marked. cut_if job.truncate job.drop size.length)) (okay End)
      unfolding new_marked
      then_cut t later j z =
          let both = ready_of o.sequences.cur own o.listing b.text b.context old_ size.length t.numbers later some z.0 z.1 in
          goes_then w later j (new_marked run path job o t.numbers) (λ marked. cut_if job.truncate job.drop size.length) (λ last i u. IsReady run job.drop size.length last × (AreSettled later → AreSettled last)) End
          (marked_at o.sequences.cur own o.listing b.text b.context old_ o.place o.folder o.sequences b.place b.name b.sequences size.length t.numbers later j both.1 both.0 z.1.taken.ground)
          (λ last i u y.
          goes_more w last i (cut_if job.truncate job.drop size.length) (okay (Of (λ end. AreSettled last → AreSettled end))) (okay End)
          (okay_more (Of (λ end. AreSettled last → AreSettled end)) End (λ end k v g s. g (y.1 (z.1.taken.ground.settled s))))
          (cut_goes o.sequences.cur own o.listing b.text b.context old_ size.length last i y.0))

    work_goes : (h : Hand) → Sound w own h → Goes w own h (opened_incorporated run path job o) (okay End)
    unfolding opened_incorporated
    work_goes h sound =
        then_soundly w own h (room_counted job.folder job.drop (top_of o.listing)) (λ size. told_taken run job o size >>= (λ t. new_marked run path job o t.numbers >>= (λ marked. cut_if job.truncate job.drop size.length))) (Counted o.sequences.cur own o.listing b.text b.context old_) End sound
        (room_goes o.sequences.cur own o.listing b.text b.context old_ (top_of o.listing) own h begun)
        (λ later j size ok q.
        then_soundly w later j (told_taken run job o size) (λ t. new_marked run path job o t.numbers >>= (λ marked. cut_if job.truncate job.drop size.length)) (TakenTold size q.2) End ok
        (lasting w (IsTold job.drop size.length) (λ k s a any t. on t) later j (told_taken run job o size) (Taken_ o.sequences.cur own o.listing b.text b.context old_ size.length) q.1 (told_goes o.sequences.cur own o.listing b.text b.context old_ o size q.2 b.place refl small later j ok (known_top later q.0.ground.seen) q.0))
        (λ last i t sure z. then_cut size q.2 t last i z))

  -- `inc` keeps the rules of its pledge, where its run put no name before that it had not made, and made none twice
  pub inc_keeps : (past : List Done) (h : Hand) → AreOnce run (acts past) → Sound w (acts past) h → Keeps (rules_of w) past h (inc run path job) (IfOkay (Still (acts past)))
  unfolding inc
  inc_keeps past h once sound =
      made_keeps run few path job.folder (MarksNew run path job) (Incorporating path job.folder job.drop) (TellsNew run path job) (MakesSo run path job) lets lasts (AreOnce run) (once_asked w) (opened_incorporated run path job) past
      (λ later o b i s. work_goes (acts past) later o b.0 b.1 i s) h once sound

  pub inc_promises : (x y : State) (result : Result Unit CommandFault) → Follows run command_cause (inc run path job) x y result → Promises w x y
  inc_promises x y result f = keeps_pledge w command_cause (inc run path job) x y result (IfOkay (Still [])) (inc_keeps [] x.hand (none_once run) (record { numbered = tt; unfailed = λ z. elim z [ ] })) f
