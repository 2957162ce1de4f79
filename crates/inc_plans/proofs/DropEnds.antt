-- How both passes over a drop end, and what shows it.
use Rattle.std.proofs.Common.{◌≡◌, ◌≢◌, ◌⊎◌, ◌<◌, ◌≤◌, ◌+◌, ◌-◌, ◌^◌, ◌++◌, ◌∷◌, [], ◌==◌, ℕ, zero, suc, Bool, true, false, List, Option, Some, None, Result, Ok, Err, inl, inr, length, min, nat_lt, nat_le, refl, sym, ◌∙◌, ap, subst, arith, append_assoc, append-nil}
use Rattle.std.specs.Prelude.{drop, if◌then◌else◌}
use Rattle.std.proofs.lemmas.Bool.Decides.{Decides-eqb, nat_tests}
use Rattle.std.proofs.lemmas.List.{length-append}
use Rattle.mbox_drop.specs.Drops.{finished, is_drop, messages}
use Rattle.mbox_drop.specs.Long.{excess, first_long, long_of}
use Rattle.mbox_drop.specs.Drops.{open_bytes}
use Rattle.mbox_drop.specs.Places.{is_lost}
use Rattle.mbox_drop.specs.Readings.{reading}
use Rattle.mbox_drop.proofs.Cuttings.{finished-none}
use Rattle.mh_sequences.specs.declared.run.Run.{Run}
use Rattle.folder_files.specs.Careful.{HasPieces, first, more}
use Rattle.folder_files.specs.Deeds.{Deed, Once, WasDone, did, now, on}
use Rattle.folder_files.specs.declared.place.FilePath.{FilePath}
use Rattle.folder_files.specs.declared.place.Place.{Place}
use Rattle.folder_files.specs.declared.place.Place.TheVariants.{Folder, Mail}
use Rattle.folder_files.specs.declared.refusal.Refusal.TheVariants as refusal
use Rattle.folder_files.specs.declared.step.Answer.{Answer}
use Rattle.folder_files.specs.declared.step.Answer.TheVariants as answer
use Rattle.folder_files.specs.declared.step.Step.{Step}
use Rattle.folder_files.specs.declared.step.Step.TheVariants as step
use Rattle.file_plans.specs.Asking.{drop_piece_of, read_drop}
use Rattle.file_plans.specs.Plan.{Hand, Plan, Return, ask, bind, lifted, ◌>>=◌}
use Rattle.file_plans.specs.declared.answers.DropPiece.{DropPiece}
use Rattle.file_plans.specs.declared.answers.DropPiece.TheVariants as drop_piece
use Rattle.file_plans.specs.declared.asking.Stop.{Stop}
use Rattle.file_plans.proofs.Framing.{AnyStep}
use Rattle.step_plans.specs.CommandFaults.{of_stop}
use Rattle.step_plans.specs.declared.command_fault.CommandFault.{CommandFault}
use Rattle.step_plans.specs.declared.command_fault.CommandFault.TheVariants as fault
use Rattle.step_plans.specs.declared.fault.PlanFault.{PlanFault}
use Rattle.step_plans.specs.declared.fault.PlanFault.TheVariants as plan
use Rattle.step_plans.proofs.Coming.{Comes, comes_lifted, comes_more, comes_say, comes_then, comes_to}
use Rattle.step_plans.proofs.Going.{Outcome}
use Rattle.step_plans.proofs.Lasting.{KeptBy}
use Rattle.step_plans.proofs.Stepping.{on_piece}
use Rattle.message_puts.proofs.PutPledged.{AsksPut}
use Rattle.message_puts.proofs.StoredPledged.{stored_keeps, was_stored}
use Rattle.message_puts.specs.Stored.{HasMetAt, HasStoredAt}
use Rattle.command_stages.specs.Endings.{of_plan, if_room}
use Rattle.message_lines.specs.MessageText.{line_of}
use Rattle.step_plans.specs.CommandFaults.{of_sink}
use Rattle.opening_plans.specs.Reads.{HaveSeen}
use Rattle.opening_plans.proofs.CleanRuns.{clean_more}
use Rattle.opening_plans.proofs.FolderPledged.{seen_kept}
use Rattle.opening_plans.proofs.NamesKept.{backups_kept, putting}
use Rattle.opening_plans.proofs.SequencesEnd.{Left}
use Rattle.opening_plans.proofs.WorkEnds.{EndsWith, folder_shows}
use Rattle.inc_plans.specs.Counting.{LIMIT, LONGEST, PIECE, counted_by, drop_counted, drop_read, empty_if, head_by, head_if, head_read, long_if, piece_by, piece_read, rest_read, size_if, whole_if}
use Rattle.inc_plans.specs.Cutting.{changed, given_by, if_drop, last_by, last_in, new_in, short_last, short_only, unless_lost}
use Rattle.inc_plans.specs.DropTaken.{Read, Where, as_counted, drop_taken, ended_taken, into, listed, piece_taken, rest_taken, where_of}
use Rattle.inc_plans.specs.Inc.{room_counted, top_of}
use Rattle.inc_plans.specs.IncAnswers.{ShowsInc, ShowsIntake, WasCounted, WasTold, empty_file, gone_piece, inc_answers, long_file, long_message, no_drop, no_file, no_room, none_left, odd_first, odd_piece, other_bytes}
use Rattle.inc_plans.specs.IncPledge.{HasTakenIn}
use Rattle.inc_plans.specs.Intake.{all_taken, with_number}
use Rattle.inc_plans.specs.Stored.{AreStoredAt}
use Rattle.message_puts.specs.Putting.{message_stored}
use Rattle.inc_plans.specs.Taking.{first_of, message_taken, message_told, Telling, told_if}
use Rattle.inc_plans.specs.declared.size.DropSize.{DropSize}
use Rattle.inc_plans.specs.declared.drop_head.Head.{Head}
use Rattle.inc_plans.specs.declared.taken.Taken.{Taken}
use Rattle.inc_plans.specs.IncJob.{IncJob}
use Rattle.inc_plans.proofs.Courses.{stored_still}
use Rattle.inc_plans.proofs.DropKept.{LeavesDrop, pieces_kept}
use Rattle.inc_plans.proofs.Finishing.{IsFound, finished_all, finished_on, none_found}
use Rattle.inc_plans.proofs.Fronts.{end_gives, piece_gives}
use Rattle.opening_plans.proofs.PutEnds.{PutShown, ShowsPut, StoredAs, Stores, Topped, stored_comes}

-- a piece of a drop, and then the rest
comes_drop : {B F : Type 0} (own : List Deed) (h : Hand) (from : Stop → F) (Q : Outcome (Result B F)) (f : FilePath) (at most : ℕ) (k : DropPiece → Plan (Result B F))
    → ((bytes : List ℕ) (l : ℕ) → Comes (did (step.ReadDrop f at most) (answer.Piece bytes l) ∷ own) h (k (drop_piece.Piece bytes l)) Q) → Comes (did (step.ReadDrop f at most) answer.Gone ∷ own) h (k drop_piece.Gone) Q
    → Comes own h (lifted from (read_drop f at most) >>= k) Q
unfolding Comes read_drop ask lifted bind ◌>>=◌
comes_drop own h from Q f at most k p g = on_piece most (λ a. Comes (did (step.ReadDrop f at most) a ∷ own) h (k (drop_piece_of a)) Q) (λ bytes l short. p bytes l) g

-- faults of a cutter say that the drop was changed
short_fault : (o : Option ℕ) (given : List (List ℕ)) (e : CommandFault) → short_only o given ≡ Err e → e ≡ changed
short_fault None given e is = cc (is)
short_fault (Some n) given e is = cc (is)

lost_fault : (b : Bool) (d piece : List ℕ) (e : CommandFault) → unless_lost b d piece ≡ Err e → e ≡ changed
lost_fault true d piece e is = cc (is)
lost_fault false d piece e is = short_fault (excess (new_in d piece) (length (open_bytes (d ++ piece)))) (new_in d piece) e is

given_fault : (d piece : List ℕ) (e : CommandFault) → given_by d piece ≡ Err e → e ≡ changed
given_fault d piece e is = lost_fault (is_lost (reading (d ++ piece)).place) d piece e is

last_short_fault : (o : Option ℕ) (m : List ℕ) (e : CommandFault) → short_last o m ≡ Err e → e ≡ changed
last_short_fault None m e is = cc (is)
last_short_fault (Some n) m e is = cc (is)

last_in_fault : (xs : List (List ℕ)) (e : CommandFault) → last_in xs ≡ Err e → e ≡ changed
last_in_fault [] e is = cc (is)
last_in_fault (m ∷ xs) e is = last_short_fault (long_of (length m)) m e is

drop_fault : (b : Bool) (d : List ℕ) (e : CommandFault) → if_drop b d ≡ Err e → e ≡ changed
drop_fault true d e is = last_in_fault (drop (length (finished d)) (messages d)) e is
drop_fault false d e is = cc (is)

last_fault : (d : List ℕ) (e : CommandFault) → last_by d ≡ Err e → e ≡ changed
last_fault d e is = drop_fault (is_drop d) d e is

-- what was read was read once
pub pieces_once : (f : FilePath) (d : List ℕ) (own : List Deed) → HasPieces f d own → Once (λ e older. HasPieces f d (e ∷ older)) own
pieces_once f d [] w = elim w [ ]
pieces_once f d (e ∷ own) w = now w

stored_both : (run : ℕ) (p : Place) (ns ks : List ℕ) (ms os : List (List ℕ)) (own : List Deed) → AreStoredAt run p ns ms own → AreStoredAt run p ks os own → AreStoredAt run p (ns ++ ks) (ms ++ os) own
stored_both run p [] ks [] os own f g = g
stored_both run p [] ks (m ∷ ms) os own f g = absurd f
stored_both run p (n ∷ ns) ks [] os own f g = absurd f
stored_both run p (n ∷ ns) ks (m ∷ ms) os own f g = (f.0, stored_both run p ns ks ms os own f.1 g)

stored_many : (run : ℕ) (p : Place) (ns : List ℕ) (ms : List (List ℕ)) (own : List Deed) → AreStoredAt run p ns ms own → length ns ≡ length ms
stored_many run p [] [] own f = refl
stored_many run p [] (m ∷ ms) own f = absurd f
stored_many run p (n ∷ ns) [] own f = absurd f
stored_many run p (n ∷ ns) (m ∷ ms) own f = let e = stored_many run p ns ms own f.1 in omega (arith, e)

module _ (run : ℕ) (few : run < 2 ^ 128) (path : List ℕ) (job : IncJob) (listing : List Run) (text context : List ℕ) where
  abbrev p : Place
  p = Folder path job.folder

  abbrev mail : Place
  mail = Mail path

  abbrev f : FilePath
  f = job.drop

  abbrev Shows : CommandFault → List Deed → Type 0
  Shows e own = ShowsInc run path job e own

  abbrev So : {A : Type 0} → Outcome A → Outcome (Result A CommandFault)
  So P later j r = EndsWith Shows P later j r

  abbrev Seen : List Deed → Type 0
  Seen own = HaveSeen run p mail listing text context own

  -- the folder was begun, and the run may go on
  pub record Ready (own : List Deed) (h : Hand) : Type 0 where
    pub left : Left run few path job.folder (inc_answers job) own h
    pub lock : WasDone (step.Lock p) own
    pub seen : Seen own

  ready_read : (own : List Deed) (h : Hand) (from most : ℕ) (a : Answer) → a ≢ answer.Failed → Ready own h → Ready (did (step.ReadDrop f from most) a ∷ own) h
  ready_read own h from most a live r = record {
    left = record {
      clean = clean_more run own h (step.ReadDrop f from most) a live tt r.left.clean;
      safe = backups_kept p (step.ReadDrop f from most) a own (λ y w. putting p y (step.ReadDrop f from most) a w) r.left.safe;
    };
    lock = on r.lock;
    seen = seen_kept run p mail listing text context own (step.ReadDrop f from most) a tt r.seen;
  }

  piece_there : (bytes : List ℕ) (l from most : ℕ) (own : List Deed) (h : Hand) → Ready own h → Ready (did (step.ReadDrop f from most) (answer.Piece bytes l) ∷ own) h
  piece_there bytes l from most own h r = ready_read own h from most (answer.Piece bytes l) (λ e. cc (e)) r

  -- a piece of just so many bytes
  abbrev Pieces : ℕ → ℕ → List Deed → Hand → Outcome (List ℕ)
  Pieces from asked own h later j bytes = (l : ℕ) × (later ≡ did (step.ReadDrop f from asked) (answer.Piece bytes l) ∷ own) × (j ≡ h) × (length bytes ≡ asked)

  piece_comes : (l from asked : ℕ) (own : List Deed) (h : Hand) → WasTold f l own → from + asked ≤ l → Comes own h (piece_read f from asked) (So (Pieces from asked own h))
  unfolding piece_read
  piece_comes l from asked own h told within =
      comes_drop own h of_stop (So (Pieces from asked own h)) f from asked (piece_by asked) (λ bytes k. by_test bytes k (length bytes == asked) (Decides-eqb (length bytes) asked))
      (comes_to _ h (Err (fault.Refused refusal.DropChanged)) (So (Pieces from asked own h)) (inr (gone_piece told)))
    where
      by_test : (bytes : List ℕ) (k : ℕ) (b : Bool) → (b ≡ true → length bytes ≡ asked) × (length bytes ≡ asked → b ≡ true) → Comes (did (step.ReadDrop f from asked) (answer.Piece bytes k) ∷ own) h (whole_if b bytes) (So (Pieces from asked own h))
      by_test bytes k true e = comes_to _ h (Ok bytes) (So (Pieces from asked own h)) (k, refl, refl, e.0 refl)
      by_test bytes k false e = comes_to _ h (Err (fault.Refused refusal.DropChanged)) (So (Pieces from asked own h)) (inr (odd_piece told within (λ same. let bad = e.1 same in cc (bad))))

  -- the first pass: these bytes were read of a drop of this length
  pub record Reading (l : ℕ) (d : List ℕ) (own : List Deed) (h : Hand) : Type 0 where
    pub ready : Ready own h
    pub pieces : HasPieces f d own
    pub told : WasTold f l own
    pub some : length d ≢ 0
    pub within : length d ≤ l

  abbrev Headed : Outcome Head
  Headed later j head = Reading head.length head.bytes later j

  head_comes : (own : List Deed) (h : Hand) → Ready own h → Comes own h (head_read f) (So Headed)
  unfolding head_read
  head_comes own h r =
      comes_drop own h of_stop (So Headed) f 0 PIECE head_by (λ bytes l. by_empty bytes l (l == 0) (Decides-eqb l 0))
      (comes_to _ h (Err (fault.Refused refusal.NoMail)) (So Headed) (inr no_file))
    where
      on_ : List ℕ → ℕ → List Deed
      on_ bytes l = did (step.ReadDrop f 0 PIECE) (answer.Piece bytes l) ∷ own

      by_whole : (bytes : List ℕ) (l : ℕ) → (l ≡ 0 → ⊥) → (b : Bool) → (b ≡ true → length bytes ≡ min l PIECE) × (length bytes ≡ min l PIECE → b ≡ true) → Comes (on_ bytes l) h (head_if b l bytes) (So Headed)
      by_whole bytes l full true e =
          let same = e.0 refl in
          comes_to (on_ bytes l) h (Ok (record { length = l; bytes = bytes })) (So Headed) (record {
            ready = piece_there bytes l 0 PIECE own h r;
            pieces = first (PIECE, refl);
            told = now (bytes, (PIECE, refl));
            some = λ none. full (omega (arith, same, none));
            within = omega (arith, same);
          })
      by_whole bytes l full false e = comes_to (on_ bytes l) h (Err (fault.Refused refusal.DropChanged)) (So Headed) (inr (odd_first (λ same. let bad = e.1 same in cc (bad))))

      by_long : (bytes : List ℕ) (l : ℕ) → (l ≡ 0 → ⊥) → (b : Bool) → nat_lt LONGEST l ≡ b → Comes (on_ bytes l) h (long_if b l bytes) (So Headed)
      by_long bytes l full true e = comes_to (on_ bytes l) h (Err (fault.Refused (refusal.TooLarge l LONGEST))) (So Headed) (inr (long_file e))
      by_long bytes l full false e = by_whole bytes l full (length bytes == min l PIECE) (Decides-eqb (length bytes) (min l PIECE))

      by_empty : (bytes : List ℕ) (l : ℕ) (b : Bool) → (b ≡ true → l ≡ 0) × (l ≡ 0 → b ≡ true) → Comes (on_ bytes l) h (empty_if b l bytes) (So Headed)
      by_empty bytes l true e = comes_to (on_ bytes l) h (Err (fault.Refused refusal.NoMail)) (So Headed) (inr (subst (λ n. ShowsIntake run path job (fault.Refused refusal.NoMail) (on_ bytes n)) (sym (e.0 refl)) empty_file))
      by_empty bytes l false e = by_long bytes l (λ none. let bad = e.1 none in cc (bad)) (nat_lt LONGEST l) refl

  abbrev Wholes : ℕ → Outcome (List ℕ)
  Wholes l later j d = Reading l d later j × (length d ≡ l)

  rest_comes : (l fuel : ℕ) (d : List ℕ) → l ≤ length d + fuel → (own : List Deed) (h : Hand) → Reading l d own h → Comes own h (rest_read f l fuel d) (So (Wholes l))
  unfolding rest_read
  rest_comes l zero d enough own h r = comes_to own h (Ok d) (So (Wholes l)) (r, (let w = r.within in omega (arith, enough, w)))
  rest_comes l (suc fuel) d enough own h r = go (nat_lt (length d) l) refl (λ bytes le later j q. rest_comes l fuel (d ++ bytes) le later j q)
    where
      go : (b : Bool) → nat_lt (length d) l ≡ b → ((bytes : List ℕ) → l ≤ length (d ++ bytes) + fuel → (later : List Deed) (j : Hand) → Reading l (d ++ bytes) later j → Comes later j (rest_read f l fuel (d ++ bytes)) (So (Wholes l)))
          → Comes own h (if b then piece_read f (length d) (min (l - length d) PIECE) >>= (λ bytes. rest_read f l fuel (d ++ bytes)) else Return (Ok d)) (So (Wholes l))
      go true e next =
          let lt : length d < l = grind (arith, nat_tests, e) in
          comes_then own h (piece_read f (length d) (min (l - length d) PIECE)) (λ bytes. rest_read f l fuel (d ++ bytes)) (So (Pieces (length d) (min (l - length d) PIECE) own h)) (So (Wholes l))
          (piece_comes l (length d) (min (l - length d) PIECE) own h r.told (omega (arith, lt)))
          (λ later j bytes q.
          let long = length-append d bytes in
          let same = q.3 in
          subst (λ i. Comes later i (rest_read f l fuel (d ++ bytes)) (So (Wholes l))) (sym q.2)
          (subst (λ k. Comes k h (rest_read f l fuel (d ++ bytes)) (So (Wholes l))) (sym q.1)
          (next bytes (omega (arith, long, same, lt, enough)) (did (step.ReadDrop f (length d) (min (l - length d) PIECE)) (answer.Piece bytes q.0) ∷ own) h (record {
            ready = piece_there bytes q.0 (length d) (min (l - length d) PIECE) own h r.ready;
            pieces = more r.some (min (l - length d) PIECE, refl) r.pieces;
            told = on r.told;
            some = λ none. r.some (omega (arith, long, none));
            within = omega (arith, long, same, lt);
          }))))
          (λ later j x q. q)
      go false e next = comes_to own h (Ok d) (So (Wholes l)) (r, (let w = r.within in let le : l ≤ length d = grind (arith, nat_tests, e) in omega (arith, le, w)))

  -- all of it
  abbrev ReadAll : Outcome (List ℕ)
  ReadAll later j d = Reading (length d) d later j

  read_comes : (own : List Deed) (h : Hand) → Ready own h → Comes own h (drop_read f) (So ReadAll)
  unfolding drop_read
  read_comes own h r =
      comes_then own h (head_read f) (λ head. rest_read f head.length head.length head.bytes) (So Headed) (So ReadAll) (head_comes own h r)
      (λ later j head q. comes_more later j (rest_read f head.length head.length head.bytes) (So (Wholes head.length)) (So ReadAll) (whole head.length) (rest_comes head.length head.length head.bytes (omega arith) later j q))
      (λ later j x q. q)
    where
      whole : (l : ℕ) (later : List Deed) (j : Hand) (x : Result (List ℕ) CommandFault) → So (Wholes l) later j x → So ReadAll later j x
      whole l later j (Ok d) q = subst (λ n. Reading n d later j) (sym q.1) q.0
      whole l later j (Err e) q = q

  -- and it was counted: the second pass may begin
  pub record Counts (d : List ℕ) (size : DropSize) (own : List Deed) (h : Hand) : Type 0 where
    pub read : Reading (length d) d own h
    pub is_one : is_drop d ≡ true
    pub short : first_long (messages d) ≡ None
    pub size_is : size ≡ record { length = length d; messages = length (messages d) }

  abbrev Counted : Outcome DropSize
  Counted later j size = (d : List ℕ) × Counts d size later j

  counted_comes : (own : List Deed) (h : Hand) → Ready own h → Comes own h (drop_counted f) (So Counted)
  unfolding drop_counted
  counted_comes own h r = comes_then own h (drop_read f) (λ d. Return (counted_by d)) (So ReadAll) (So Counted) (read_comes own h r) (λ later j d q. by_drop later j d q (is_drop d) refl) (λ later j x q. q)
    where
      by_short : (later : List Deed) (j : Hand) (d : List ℕ) → ReadAll later j d → is_drop d ≡ true → (o : Option ℕ) → first_long (messages d) ≡ o → Comes later j (Return (size_if true o d)) (So Counted)
      by_short later j d q one None e = comes_to later j (Ok (record { length = length d; messages = length (messages d) })) (So Counted) (d, record { read = q; is_one = one; short = e; size_is = refl })
      by_short later j d q one (Some l) e = comes_to later j (Err (fault.Refused (refusal.TooLarge l LIMIT))) (So Counted) (inr (long_message q.pieces e))

      by_drop : (later : List Deed) (j : Hand) (d : List ℕ) → ReadAll later j d → (b : Bool) → is_drop d ≡ b → Comes later j (Return (size_if b (first_long (messages d)) d)) (So Counted)
      by_drop later j d q true e = by_short later j d q e (first_long (messages d)) refl
      by_drop later j d q false e = comes_to later j (Err (fault.Refused refusal.NotADrop)) (So Counted) (inr (no_drop q.pieces e))

  -- where there is room
  pub record Roomed (d : List ℕ) (size : DropSize) (own : List Deed) (h : Hand) : Type 0 where
    pub counts : Counts d size own h
    pub room : top_of listing + length (messages d) ≤ 999999

  abbrev pub Rooms : Outcome DropSize
  Rooms later j size = (d : List ℕ) × Roomed d size later j

  pub room_comes : (own : List Deed) (h : Hand) → Ready own h → Comes own h (room_counted job.folder f (top_of listing)) (So Rooms)
  unfolding room_counted Comes bind ◌>>=◌
  room_comes own h r =
      comes_then own h (drop_counted f) (λ size. if_room (nat_le (top_of listing + size.messages) 999999) job.folder >>= (λ room. Return (Ok size))) (So Counted) (So Rooms) (counted_comes own h r)
      (λ later j size q. by_test later j size q.0 q.1 (nat_le (top_of listing + size.messages) 999999) refl)
      (λ later j x q. q)
    where
      many : (d : List ℕ) (size : DropSize) (later : List Deed) (j : Hand) → Counts d size later j → size.messages ≡ length (messages d)
      many d size later j q = ap (λ s. s.messages) q.size_is

      by_test : (later : List Deed) (j : Hand) (size : DropSize) (d : List ℕ) → Counts d size later j → (b : Bool) → nat_le (top_of listing + size.messages) 999999 ≡ b → Comes later j (if_room b job.folder >>= (λ room. Return (Ok size))) (So Rooms)
      by_test later j size d q true e = (d, record { counts = q; room = subst (λ n. top_of listing + n ≤ 999999) (many d size later j q) (grind (arith, nat_tests, e)) })
      by_test later j size d q false e = inr (no_room q.read.pieces q.read.ready.seen (subst (λ n. 999999 < top_of listing + n) (many d size later j q) (grind (arith, nat_tests, e))))

  -- a message is taken in, and facts last that are not of the drop
  put_shown : (e : PlanFault) (own : List Deed) → ShowsPut run few path job.folder (inc_answers job) e own → Shows (of_plan job.folder e) own
  put_shown plan.Faulted own g = absurd g
  put_shown (plan.Locked q) own g = inl (inl (folder_shows run few path job.folder (inc_answers job) (plan.Locked q) own g))
  put_shown (plan.Meddled q x) own g = inl (inl (folder_shows run few path job.folder (inc_answers job) (plan.Meddled q x) own g))
  put_shown plan.Full own g = inr (none_left g)
  put_shown (plan.Absent q) own g = inl (inl (folder_shows run few path job.folder (inc_answers job) (plan.Absent q) own g))
  put_shown (plan.TooLarge l) own g = inl (inl (folder_shows run few path job.folder (inc_answers job) (plan.TooLarge l) own g))
  put_shown plan.Memory own g = inl (inl tt)

  abbrev Highest : ℕ → List Deed → Type 0
  Highest top own = (top ≤ 999999) × Topped run few path job.folder (inc_answers job) top own

  asks_drop : AsksPut (LeavesDrop f) p
  asks_drop = record { create = λ temp bytes. tt; sync = λ temp. tt; link = λ temp number. tt; unlink = λ temp. tt }

  asks_any : AsksPut AnyStep p
  asks_any = record { create = λ temp bytes. tt; sync = λ temp. tt; link = λ temp number. tt; unlink = λ temp. tt }

  ready_then : (bytes : List ℕ) (own : List Deed) (m : ℕ) (later : List Deed) (h j : Hand) → Ready own h → Stores run few path job.folder (inc_answers job) bytes own m later j → Ready later j
  ready_then bytes own m later h j r s = record {
    left = record { clean = s.clean; safe = s.safe };
    lock = stored_keeps AnyStep (WasDone (step.Lock p)) (λ o t a any g. on g) run p asks_any tt bytes own m later s.taken r.lock;
    seen = stored_keeps AnyStep Seen (seen_kept run p mail listing text context) run p asks_any tt bytes own m later s.taken r.seen;
  }

  highest_then : (bytes : List ℕ) (own : List Deed) (m : ℕ) (later : List Deed) (j : Hand) → Stores run few path job.folder (inc_answers job) bytes own m later j → Highest m later
  highest_then bytes own m later j s = ((let ok = s.number in omega (arith, ok.1)), λ last. subst (λ n. HasMetAt p n later) last s.met)

  -- one message
  record One (F : List Deed → Type 0) (bytes : List ℕ) (m : ℕ) (later : List Deed) (j : Hand) : Type 0 where
    ready : Ready later j
    highest : Highest m later
    stored : HasStoredAt run p m bytes later
    fact : F later

  abbrev Ones : (List Deed → Type 0) → List ℕ → Outcome ℕ
  Ones F bytes later j m = One F bytes m later j

  told_comes : (F : List Deed → Type 0) (b : Bool) (line : List ℕ) (m : ℕ) (bytes : List ℕ) (own : List Deed) (h : Hand) → One F bytes m own h → Comes own h (told_if b line >>= (λ done. Return (Ok m))) (So (Ones F bytes))
  unfolding Comes bind ◌>>=◌
  told_comes F true line m bytes own h one = one
  told_comes F false line m bytes own h one = comes_say own h of_sink (So (Ones F bytes)) line (λ done. Return (Ok m)) one

  one_comes : (F : List Deed → Type 0) → KeptBy (LeavesDrop f) F → (telling : Telling) (numbers : List ℕ) (top : ℕ) (bytes : List ℕ) (own : List Deed) (h : Hand) → Ready own h → Highest top own → F own
      → Comes own h (message_taken run job.folder p telling numbers top bytes) (So (Ones F bytes))
  unfolding message_taken
  one_comes F keeps telling numbers top bytes own h r high fact =
      comes_then own h (lifted (of_plan job.folder) (message_stored run p top bytes)) (λ number. message_told telling numbers number bytes >>= (λ done. Return (Ok number))) (So (Ones F bytes)) (So (Ones F bytes))
      (comes_lifted own h (of_plan job.folder) (message_stored run p top bytes) (PutShown run few path job.folder (inc_answers job) (StoredAs run few path job.folder (inc_answers job) bytes own)) (So (Ones F bytes))
      (stored_comes run few path job.folder (inc_answers job) bytes top high.0 own h high.1 r.left.clean r.lock)
      (λ later j m s. record {
        ready = ready_then bytes own m later h j r s;
        highest = highest_then bytes own m later j s;
        stored = was_stored run p bytes own m later s.number s.taken;
        fact = stored_keeps (LeavesDrop f) F keeps run p asks_drop tt bytes own m later s.taken fact;
      })
      (λ later j e s. put_shown e later s))
      (λ later j m one. told_comes F telling.silent (line_of (telling.line (first_of numbers m)) m bytes) m bytes later j one)
      (λ later j e q. q)

  -- and one after another
  record AllIn (F : List Deed → Type 0) (t : Taken) (ms : List (List ℕ)) (u : Taken) (later : List Deed) (j : Hand) : Type 0 where
    more_ : List ℕ
    numbers : u.numbers ≡ t.numbers ++ more_
    stored : AreStoredAt run p more_ ms later
    ready : Ready later j
    highest : Highest u.highest later
    fact : F later

  abbrev AllOf : (List Deed → Type 0) → Taken → List (List ℕ) → Outcome Taken
  AllOf F t ms later j u = AllIn F t ms u later j

  all_comes : (ms : List (List ℕ)) (F : List Deed → Type 0) → KeptBy (LeavesDrop f) F → (telling : Telling) (t : Taken) (own : List Deed) (h : Hand) → Ready own h → Highest t.highest own → F own
      → Comes own h (all_taken run job.folder p telling t ms) (So (AllOf F t ms))
  unfolding all_taken
  all_comes [] F keeps telling t own h r high fact =
      comes_to own h (Ok t) (So (AllOf F t [])) (record { more_ = []; numbers = sym (append-nil t.numbers); stored = tt; ready = r; highest = high; fact = fact })
  all_comes (m ∷ ms) F keeps telling t own h r high fact =
      comes_then own h (message_taken run job.folder p telling t.numbers t.highest m) (λ n. all_taken run job.folder p telling (with_number n t) ms) (So (Ones F m)) (So (AllOf F t (m ∷ ms))) (one_comes F keeps telling t.numbers t.highest m own h r high fact)
      (λ later j n one.
      comes_more later j (all_taken run job.folder p telling (with_number n t) ms) (So (AllOf (λ o. F o × HasStoredAt run p n m o) (with_number n t) ms)) (So (AllOf F t (m ∷ ms))) (behind n)
      (all_comes ms (λ o. F o × HasStoredAt run p n m o) (λ o s a leaves g. (keeps o s a leaves g.0, on g.1)) telling (with_number n t) later j one.ready one.highest (one.fact, one.stored)))
      (λ later j e q. q)
    where
      behind : (n : ℕ) (last_ : List Deed) (i : Hand) (x : Result Taken CommandFault) → So (AllOf (λ o. F o × HasStoredAt run p n m o) (with_number n t) ms) last_ i x → So (AllOf F t (m ∷ ms)) last_ i x
      behind n last_ i (Ok u) q = record {
        more_ = n ∷ q.more_;
        numbers = q.numbers ∙ append_assoc t.numbers (n ∷ []) q.more_;
        stored = (q.fact.1, q.stored);
        ready = q.ready;
        highest = q.highest;
        fact = q.fact.0;
      }
      behind n last_ i (Err e) q = q

  -- the second pass over a drop that was read and counted before
  module _ (drop : List ℕ) (is_one : is_drop drop ≡ true) (short : first_long (messages drop) ≡ None) (telling : Telling) where
    abbrev w : Where
    w = where_of run job.folder p telling

    abbrev l : ℕ
    l = length drop

    abbrev Before : List Deed → Type 0
    Before own = WasCounted f drop own × WasTold f l own

    before_kept : (own : List Deed) (s : Step) (a : Answer) → Before own → Before (did s a ∷ own)
    before_kept own s a b = (record { read = on b.0.read; is_one = b.0.is_one; short = b.0.short }, on b.1)

    -- these bytes were read again, and the messages that they finish are stored
    record Again (d : List ℕ) (t : Taken) (own : List Deed) (h : Hand) : Type 0 where
      ready : Ready own h
      highest : Highest t.highest own
      before : Before own
      pieces : (d ≡ []) ⊎ HasPieces f d own
      found : IsFound d
      within : length d ≤ l
      stored : AreStoredAt run p t.numbers (finished d) own

    abbrev Agains : Outcome Read
    Agains later j s = Again s.bytes s.taken later j

    abbrev ReadsTo : List ℕ → Outcome Read
    ReadsTo d later j s = (s.bytes ≡ d) × Agains later j s

    differs : (d piece : List ℕ) (e : CommandFault) → given_by d piece ≡ Err e → (rest : List ℕ) → drop ≡ (d ++ piece) ++ rest → ⊥
    differs d piece e is rest whole = let good : Err e ≡ Ok (new_in d piece) = sym is ∙ piece_gives drop is_one short d piece rest whole in cc (good)

    read_on : (d piece : List ℕ) (k asked : ℕ) (own : List Deed) → (d ≡ []) ⊎ HasPieces f d own → HasPieces f (d ++ piece) (did (step.ReadDrop f (length d) asked) (answer.Piece piece k) ∷ own)
    read_on [] piece k asked own has = first (asked, refl)
    read_on (b ∷ d) piece k asked own (inl e) = cc (e)
    read_on (b ∷ d) piece k asked own (inr has) = more (λ none. absurd (omega (arith, none))) (asked, refl) has

    given_comes : (d piece : List ℕ) (t : Taken) (later : List Deed) (j : Hand) → Ready later j → Highest t.highest later → Before later → HasPieces f (d ++ piece) later → IsFound d → length (d ++ piece) ≤ l → AreStoredAt run p t.numbers (finished d) later
        → (value : Result (List (List ℕ)) CommandFault) → given_by d piece ≡ value
        → Comes later j (Return value >>= (λ given. into w t given >>= (λ more_. Return (Ok (record { bytes = d ++ piece; taken = more_ }))))) (So (ReadsTo (d ++ piece)))
    unfolding Comes bind ◌>>=◌
    given_comes d piece t later j r high b has found fits stored (Err e) is =
        subst (λ x. Shows x later) (sym (given_fault d piece e is)) (inr (other_bytes (record { drop = drop; counted = b.0; again = d ++ piece; pieces = has; other = differs d piece e is })))
    given_comes d piece t later j r high b has found fits stored (Ok given) is =
        comes_then later j (into w t given) (λ more_. Return (Ok (record { bytes = d ++ piece; taken = more_ }))) (So (AllOf Kept t given)) (So (ReadsTo (d ++ piece)))
        (all_comes given Kept kept telling t later j r high (b, has, stored))
        (λ last_ i u q. comes_to last_ i (Ok (record { bytes = d ++ piece; taken = u })) (So (ReadsTo (d ++ piece))) (
          refl,
          record {
            ready = q.ready;
            highest = q.highest;
            before = q.fact.0;
            pieces = inr q.fact.1;
            found = on_.0;
            within = fits;
            stored = subst (λ ns. AreStoredAt run p ns (finished (d ++ piece)) last_) (sym q.numbers) (subst (λ ms. AreStoredAt run p (t.numbers ++ q.more_) ms last_) on_.1 (stored_both run p t.numbers q.more_ (finished d) given last_ q.fact.2 q.stored));
          },
        ))
        (λ last_ i e q. q)
      where
        on_ : IsFound (d ++ piece) × (finished d ++ given ≡ finished (d ++ piece))
        on_ = finished_on d piece given found is

        Kept : List Deed → Type 0
        Kept own = Before own × HasPieces f (d ++ piece) own × AreStoredAt run p t.numbers (finished d) own

        kept : KeptBy (LeavesDrop f) Kept
        kept own s a leaves g = (before_kept own s a g.0, pieces_kept f (d ++ piece) own s a leaves g.1, stored_still run p t.numbers (finished d) own s a tt g.2)

    -- a piece of so many bytes more
    abbrev ReadsOn : List ℕ → ℕ → Outcome Read
    ReadsOn d asked later j s = (piece : List ℕ) × (length piece ≡ asked) × ReadsTo (d ++ piece) later j s

    piece_goes_on : (d : List ℕ) (t : Taken) (own : List Deed) (h : Hand) → length d < l → Again d t own h → Comes own h (piece_taken w f l d t) (So (ReadsOn d (min (l - length d) PIECE)))
    unfolding piece_taken
    piece_goes_on d t own h lt g =
        comes_then own h (piece_read f (length d) (min (l - length d) PIECE)) (λ bytes. Return (given_by d bytes) >>= (λ given. into w t given >>= (λ more_. Return (Ok (record { bytes = d ++ bytes; taken = more_ })))))
        (So (Pieces (length d) (min (l - length d) PIECE) own h)) (So (ReadsOn d (min (l - length d) PIECE)))
        (piece_comes l (length d) (min (l - length d) PIECE) own h g.before.1 (omega (arith, lt)))
        (λ later j bytes q.
        subst (λ i. Comes later i (Return (given_by d bytes) >>= (λ given. into w t given >>= (λ more_. Return (Ok (record { bytes = d ++ bytes; taken = more_ }))))) (So (ReadsOn d (min (l - length d) PIECE)))) (sym q.2)
        (subst (λ k. Comes k h (Return (given_by d bytes) >>= (λ given. into w t given >>= (λ more_. Return (Ok (record { bytes = d ++ bytes; taken = more_ }))))) (So (ReadsOn d (min (l - length d) PIECE)))) (sym q.1)
        (with_bytes bytes q.0 q.3)))
        (λ later j e q. q)
      where
        now_ : List ℕ → ℕ → List Deed
        now_ bytes k = did (step.ReadDrop f (length d) (min (l - length d) PIECE)) (answer.Piece bytes k) ∷ own

        so_many : (bytes : List ℕ) → length bytes ≡ min (l - length d) PIECE → (later : List Deed) (j : Hand) (x : Result Read CommandFault) → So (ReadsTo (d ++ bytes)) later j x → So (ReadsOn d (min (l - length d) PIECE)) later j x
        so_many bytes same later j (Ok s) q = (bytes, same, q)
        so_many bytes same later j (Err e) q = q

        with_bytes : (bytes : List ℕ) (k : ℕ) → length bytes ≡ min (l - length d) PIECE
            → Comes (did (step.ReadDrop f (length d) (min (l - length d) PIECE)) (answer.Piece bytes k) ∷ own) h (Return (given_by d bytes) >>= (λ given. into w t given >>= (λ more_. Return (Ok (record { bytes = d ++ bytes; taken = more_ }))))) (So (ReadsOn d (min (l - length d) PIECE)))
        with_bytes bytes k same =
            let long : length (d ++ bytes) ≡ length d + length bytes = length-append d bytes in
            comes_more (now_ bytes k) h (Return (given_by d bytes) >>= (λ given. into w t given >>= (λ more_. Return (Ok (record { bytes = d ++ bytes; taken = more_ }))))) (So (ReadsTo (d ++ bytes))) (So (ReadsOn d (min (l - length d) PIECE))) (so_many bytes same)
            (given_comes d bytes t (now_ bytes k) h (piece_there bytes k (length d) (min (l - length d) PIECE) own h g.ready) (g.highest.0, λ e. on (g.highest.1 e)) (before_kept own (step.ReadDrop f (length d) (min (l - length d) PIECE)) (answer.Piece bytes k) g.before)
            (read_on d bytes k (min (l - length d) PIECE) own g.pieces) g.found (omega (arith, long, same, lt)) (stored_still run p t.numbers (finished d) own (step.ReadDrop f (length d) (min (l - length d) PIECE)) (answer.Piece bytes k) tt g.stored) (given_by d bytes) refl)

    abbrev Throughs : Outcome Read
    Throughs later j s = Agains later j s × (length s.bytes ≡ l)

    rest_again : (fuel : ℕ) (s : Read) → l ≤ length s.bytes + fuel → (own : List Deed) (h : Hand) → Again s.bytes s.taken own h → Comes own h (rest_taken w f l fuel s) (So Throughs)
    unfolding rest_taken
    rest_again zero s enough own h g = comes_to own h (Ok s) (So Throughs) (g, (let fits = g.within in omega (arith, enough, fits)))
    rest_again (suc fuel) s enough own h g = go (nat_lt (length s.bytes) l) refl (λ u le later j q. rest_again fuel u le later j q)
      where
        go : (b : Bool) → nat_lt (length s.bytes) l ≡ b → ((u : Read) → l ≤ length u.bytes + fuel → (later : List Deed) (j : Hand) → Again u.bytes u.taken later j → Comes later j (rest_taken w f l fuel u) (So Throughs))
            → Comes own h (if b then piece_taken w f l s.bytes s.taken >>= (λ more_. rest_taken w f l fuel more_) else Return (Ok s)) (So Throughs)
        go true e next =
            let lt : length s.bytes < l = grind (arith, nat_tests, e) in
            comes_then own h (piece_taken w f l s.bytes s.taken) (λ more_. rest_taken w f l fuel more_) (So (ReadsOn s.bytes (min (l - length s.bytes) PIECE))) (So Throughs) (piece_goes_on s.bytes s.taken own h lt g)
            (λ later j u q.
            let long : length (s.bytes ++ q.0) ≡ length s.bytes + length q.0 = length-append s.bytes q.0 in
            let same = q.1 in
            let now_long : length u.bytes ≡ length s.bytes + length q.0 = ap length q.2.0 ∙ long in
            next u (omega (arith, now_long, same, lt, enough)) later j q.2.1)
            (λ later j e_ q. q)
        go false e next = comes_to own h (Ok s) (So Throughs) (g, (let fits = g.within in let le : l ≤ length s.bytes = grind (arith, nat_tests, e) in omega (arith, fits, le)))

    -- at its end all messages are stored
    pub record Taken_ (numbers : List ℕ) (own : List Deed) (h : Hand) : Type 0 where
      pub ready : Ready own h
      pub mail_ : HasTakenIn run p f numbers own

    abbrev Ended_ : Outcome Taken
    Ended_ later j t = Taken_ t.numbers later j × (Before later × ((d : List ℕ) × HasPieces f d later × (length d ≡ l) × (length t.numbers ≡ length (messages d))))

    same_all : (d rest : List ℕ) → length d ≡ l → drop ≡ d ++ rest → d ≡ drop
    same_all d [] long whole = sym (whole ∙ append-nil d)
    same_all d (b ∷ rest) long whole = absurd (let all = ap length whole ∙ length-append d (b ∷ rest) in omega (arith, all, long))

    last_differs : (d : List ℕ) (e : CommandFault) → length d ≡ l → last_by d ≡ Err e → (rest : List ℕ) → drop ≡ d ++ rest → ⊥
    last_differs d e long is rest whole =
        let good = end_gives drop is_one short in
        let bad : Err e ≡ Ok good.0 = sym is ∙ (ap last_by (same_all d rest long whole) ∙ good.1) in
        cc (bad)

    full_pieces : (d : List ℕ) (own : List Deed) → 1 ≤ length d → (d ≡ []) ⊎ HasPieces f d own → HasPieces f d own
    full_pieces d own some (inl e) = absurd (let none = ap length e in omega (arith, some, none))
    full_pieces d own some (inr has) = has

    ended_comes : (s : Read) (own : List Deed) (h : Hand) → 1 ≤ l → length s.bytes ≡ l → Again s.bytes s.taken own h → (value : Result (Option (List ℕ)) CommandFault) → last_by s.bytes ≡ value
        → Comes own h (Return value >>= (λ last_. into w s.taken (listed last_))) (So Ended_)
    unfolding Comes bind ◌>>=◌
    ended_comes s own h some long g (Err e) is =
        subst (λ x. Shows x own) (sym (last_fault s.bytes e is))
        (inr (other_bytes (record { drop = drop; counted = g.before.0; again = s.bytes; pieces = full_pieces s.bytes own (omega (arith, some, long)) g.pieces; other = last_differs s.bytes e long is })))
    ended_comes s own h some long g (Ok last_) is =
        comes_more own h (into w s.taken (listed last_)) (So (AllOf Kept s.taken (listed last_))) (So Ended_) all_there
        (all_comes (listed last_) Kept kept telling s.taken own h g.ready g.highest (g.before, full_pieces s.bytes own (omega (arith, some, long)) g.pieces, g.stored))
      where
        whole : (is_drop s.bytes ≡ true) × (finished s.bytes ++ listed last_ ≡ messages s.bytes)
        whole = finished_all s.bytes last_ is

        Kept : List Deed → Type 0
        Kept before = Before before × HasPieces f s.bytes before × AreStoredAt run p s.taken.numbers (finished s.bytes) before

        kept : KeptBy (LeavesDrop f) Kept
        kept before t a leaves k = (before_kept before t a k.0, pieces_kept f s.bytes before t a leaves k.1, stored_still run p s.taken.numbers (finished s.bytes) before t a tt k.2)

        all_there : (later : List Deed) (j : Hand) (x : Result Taken CommandFault) → So (AllOf Kept s.taken (listed last_)) later j x → So Ended_ later j x
        all_there later j (Err e) q = q
        all_there later j (Ok u) q =
            let stored : AreStoredAt run p u.numbers (messages s.bytes) later = (subst (λ ns. AreStoredAt run p ns (messages s.bytes) later) (sym q.numbers) (subst (λ ms. AreStoredAt run p (s.taken.numbers ++ q.more_) ms later) whole.1 (stored_both run p s.taken.numbers q.more_ (finished s.bytes) (listed last_) later q.fact.2 q.stored))) in (
              record { ready = q.ready; mail_ = record { drop = s.bytes; read = pieces_once f s.bytes later q.fact.1; is_one = whole.0; stored = stored } },
              (q.fact.0, (s.bytes, q.fact.1, long, stored_many run p u.numbers (messages s.bytes) later stored)),
            )

    -- as many as were counted
    abbrev pub TakesAll : Outcome Taken
    TakesAll later j t = Taken_ t.numbers later j

    counts_differ : (d : List ℕ) (numbers : List ℕ) → length d ≡ l → length numbers ≡ length (messages d) → (length numbers ≡ length (messages drop) → ⊥) → (rest : List ℕ) → drop ≡ d ++ rest → ⊥
    counts_differ d numbers long many other rest whole = other (many ∙ ap (λ x. length (messages x)) (same_all d rest long whole))

    as_counted_comes : (t : Taken) (own : List Deed) (h : Hand) → Ended_ own h t → (b : Bool) → (b ≡ true → length t.numbers ≡ length (messages drop)) × (length t.numbers ≡ length (messages drop) → b ≡ true) → Comes own h (as_counted b t) (So TakesAll)
    as_counted_comes t own h q true e = comes_to own h (Ok t) (So TakesAll) q.0
    as_counted_comes t own h q false e =
        comes_to own h (Err changed) (So TakesAll)
        (inr (other_bytes (record { drop = drop; counted = q.1.0.0; again = q.1.1.0; pieces = q.1.1.1; other = counts_differ q.1.1.0 t.numbers q.1.1.2 q.1.1.3 (λ same. let bad = e.1 same in cc (bad)) })))

    pub pass_comes : (own : List Deed) (h : Hand) → 1 ≤ l → Ready own h → Before own → Highest (top_of listing) own → Comes own h (drop_taken w f l (length (messages drop)) (top_of listing)) (So TakesAll)
    unfolding drop_taken ended_taken
    pass_comes own h some r b high =
        comes_then own h (rest_taken w f l l (record { bytes = []; taken = start })) (λ s. (Return (last_by s.bytes) >>= (λ last_. into w s.taken (listed last_))) >>= (λ taken. as_counted (length taken.numbers == length (messages drop)) taken)) (So Throughs) (So TakesAll)
        (rest_again l (record { bytes = []; taken = start }) (omega arith) own h none_yet)
        (λ later j s q.
        comes_then later j (Return (last_by s.bytes) >>= (λ last_. into w s.taken (listed last_))) (λ taken. as_counted (length taken.numbers == length (messages drop)) taken) (So Ended_) (So TakesAll) (ended_comes s later j some q.1 q.0 (last_by s.bytes) refl)
        (λ last_ i t k. as_counted_comes t last_ i k (length t.numbers == length (messages drop)) (Decides-eqb (length t.numbers) (length (messages drop))))
        (λ last_ i e k. k))
        (λ later j e q. q)
      where
        start : Taken
        start = record { numbers = []; highest = top_of listing }

        none_yet : Again [] (record { numbers = []; highest = top_of listing }) own h
        none_yet = record {
          ready = r;
          highest = high;
          before = b;
          pieces = inl refl;
          found = none_found;
          within = omega arith;
          stored = subst (λ ms. AreStoredAt run p [] ms own) (sym finished-none) tt;
        }
