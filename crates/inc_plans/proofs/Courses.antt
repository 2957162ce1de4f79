-- What holds while messages of a drop are taken in.
use Rattle.std.proofs.Common.{◌≡◌, ◌⊎◌, inl, inr, ◌<◌, ◌≤◌, ◌^◌, ◌++◌, ◌∷◌, [], ℕ, false, Bool, List, None, Result, Ok, Err, length, refl, sym, ◌∙◌, ap, subst, arith, append-nil, append_assoc, length-append}
use Rattle.std.specs.Prelude.{reverse}
use Rattle.std.proofs.lemmas.List.{reverse-append}
use Rattle.mbox_drop.specs.Drops.{finished, messages}
use Rattle.mh_base.specs.Numbers.{IsMsgNum}
use Rattle.mh_sequences.specs.declared.run.Run.{Run}
use Rattle.folder_files.specs.Careful.{HasLock, HasPieces, HasStored, WasMade, WasPutFrom}
use Rattle.folder_files.specs.Deeds.{Deed, did, now, on}
use Rattle.folder_files.specs.declared.place.FilePath.{FilePath}
use Rattle.folder_files.specs.declared.place.Place.{Place}
use Rattle.folder_files.specs.declared.place.Place.TheVariants.{Folder, Mail}
use Rattle.folder_files.specs.declared.step.Answer.{Answer}
use Rattle.folder_files.specs.declared.step.Answer.TheVariants as answer
use Rattle.folder_files.specs.declared.step.Step.TheVariants as step
use Rattle.file_plans.specs.Plan.{Hand, Plan, ◌>>=◌}
use Rattle.file_plans.proofs.Framing.{AnyStep}
use Rattle.file_plans.proofs.Showing.{number_kind}
use Rattle.step_plans.specs.Commits.{IsBase}
use Rattle.step_plans.specs.Pledges.{Pledge}
use Rattle.step_plans.specs.Settled.{AreSettled}
use Rattle.step_plans.specs.declared.command_fault.CommandFault.{CommandFault}
use Rattle.step_plans.proofs.Facts.{LeavesBase, base_kept, lock_kept, settled_kept}
use Rattle.step_plans.proofs.Going.{Goes, Outcome, Sound, Soundly, goes_more, goes_soundly, goes_then, okay}
use Rattle.step_plans.proofs.Lasting.{KeptBy}
use Rattle.step_plans.proofs.Past.{did_step}
use Rattle.step_plans.proofs.Pledged.{Held}
use Rattle.step_plans.proofs.Stepping.{goes_return}
use Rattle.sequence_commits.proofs.SequencesPledged.{sequences_name}
use Rattle.message_puts.specs.Stored.{HasStoredAt}
use Rattle.message_puts.proofs.FirstPuts.{AllNew, AreOnce, first_put, once_asked}
use Rattle.message_puts.proofs.PutPledged.{AsksPut, IsPutBy, PutsMessages, linking_kept, put_ready}
use Rattle.message_puts.proofs.StoredPledged.{IsStoredBy, stored_keeps}
use Rattle.opening_plans.specs.Reads.{HaveSeen}
use Rattle.opening_plans.proofs.CleanRuns.{goes_asked}
use Rattle.opening_plans.proofs.FolderPledged.{seen_kept}
use Rattle.inc_plans.specs.IncPledge.{HoldsOne}
use Rattle.inc_plans.specs.Intake.{all_taken, with_number}
use Rattle.inc_plans.specs.Stored.{AreStoredAt, IsLineOfStored}
use Rattle.inc_plans.specs.Taking.{message_taken, Telling}
use Rattle.inc_plans.specs.declared.taken.Taken.{Taken}
use Rattle.inc_plans.proofs.DropKept.{LeavesDrop, leaves_first, pieces_kept, stored_kept, stored_taken}
use Rattle.inc_plans.proofs.TakenPledged.{HasTaken, taken_goes}

-- one part of a sound run, and the next where it is Ok
sound_okay : {A E : Type 0} (w : Pledge) (P : Outcome A) (own : List Deed) (h : Hand) (r : Result A E) → Soundly w (okay P) own h r → okay (λ later j a. Sound w later j × P later j a) own h r
sound_okay w P own h (Ok a) q = q
sound_okay w P own h (Err e) q = tt

pub then_soundly : {A B E : Type 0} (w : Pledge) (own : List Deed) (h : Hand) (p : Plan (Result A E)) (k : A → Plan (Result B E)) (P : Outcome A) (Q : Outcome B)
    → Sound w own h → Goes w own h p (okay P) → ((later : List Deed) (j : Hand) (a : A) → Sound w later j → P later j a → Goes w later j (k a) (okay Q)) → Goes w own h (p >>= k) (okay Q)
then_soundly w own h p k P Q s f g =
    goes_then w own h p k (λ later j a. Sound w later j × P later j a) Q (goes_more w own h p (Soundly w (okay P)) (okay (λ later j a. Sound w later j × P later j a)) (sound_okay w P) (goes_soundly w own h p (okay P) s f))
    (λ later j a q. g later j a q.0 q.1)

pub stored_still : (run : ℕ) (p : Place) (numbers : List ℕ) (messages : List (List ℕ)) → KeptBy AnyStep (AreStoredAt run p numbers messages)
stored_still run p [] [] own s a any f = tt
stored_still run p [] (m ∷ ms) own s a any f = f
stored_still run p (n ∷ ns) [] own s a any f = f
stored_still run p (n ∷ ns) (m ∷ ms) own s a any f = (on f.0, stored_still run p ns ms own s a any f.1)

stored_behind : (run : ℕ) (p : Place) (numbers : List ℕ) (messages : List (List ℕ)) (n : ℕ) (m : List ℕ) (own : List Deed) → AreStoredAt run p numbers messages own → HasStoredAt run p n m own → AreStoredAt run p (numbers ++ n ∷ []) (messages ++ m ∷ []) own
stored_behind run p [] [] n m own f g = (g, tt)
stored_behind run p [] (x ∷ ms) n m own f g = absurd f
stored_behind run p (k ∷ ns) [] n m own f g = absurd f
stored_behind run p (k ∷ ns) (x ∷ ms) n m own f g = (f.0, stored_behind run p ns ms n m own f.1 g)

asks_any_put : (p : Place) → AsksPut AnyStep p
asks_any_put p = record { create = λ temp bytes. tt; sync = λ temp. tt; link = λ temp number. tt; unlink = λ temp. tt }

module _ (run : ℕ) (path folder : List ℕ) (f : FilePath) (first : List Deed) (listing : List Run) (text context old : List ℕ) where
  abbrev p : Place
  p = Folder path folder

  -- what the work on a begun folder rests on
  pub record Ground (own : List Deed) : Type 0 where
    pub settled : AreSettled first → AreSettled own
    pub lock : HasLock p own
    pub base : IsBase run p sequences_name old own
    pub seen : HaveSeen run p (Mail path) listing text context own
    pub once : AreOnce run own

  -- of the drop these bytes were read; of these these messages are stored, at these numbers
  pub record Course (d : List ℕ) (done : List (List ℕ)) (numbers : List ℕ) (own : List Deed) : Type 0 where
    pub ground : Ground own
    pub pieces : (d ≡ []) ⊎ HasPieces f d own
    pub stored : HasStored run f [] (reverse done) own
    pub at : AreStoredAt run p numbers done own

  -- a piece is read
  once_read : (own : List Deed) (from most : ℕ) (a : Answer) → AreOnce run own → AreOnce run (did (step.ReadDrop f from most) a ∷ own)
  once_read own from most a o = record { made = made; new = ((λ q temp bytes e was. absurd (let same = did_step e in cc (same))), o.new) }
    where
      made : (q : Place) (temp : List ℕ) → WasPutFrom run q temp (did (step.ReadDrop f from most) a ∷ own) → WasMade q temp (did (step.ReadDrop f from most) a ∷ own)
      made q temp (now l) = absurd (let same = did_step l.1 in cc (same))
      made q temp (on z) = on (o.made q temp z)

  pub ground_read : (own : List Deed) (from most : ℕ) (a : Answer) → Ground own → Ground (did (step.ReadDrop f from most) a ∷ own)
  ground_read own from most a g = record {
    settled = λ s. settled_kept own (step.ReadDrop f from most) a tt (g.settled s);
    lock = lock_kept p own (step.ReadDrop f from most) a tt g.lock;
    base = base_kept run p sequences_name old own (step.ReadDrop f from most) a tt g.base;
    seen = seen_kept run p (Mail path) listing text context own (step.ReadDrop f from most) a tt g.seen;
    once = once_read own from most a g.once;
  }

  asks_base : AsksPut (LeavesBase p sequences_name) p
  asks_base = record { create = λ temp bytes. tt; sync = λ temp. tt; link = λ temp number. tt; unlink = λ temp. tt }

  asks_drop : AsksPut (LeavesDrop f) p
  asks_drop = record { create = λ temp bytes. tt; sync = λ temp. tt; link = λ temp number. tt; unlink = λ temp. tt }

  pieces_case : (d : List ℕ) (own later : List Deed) → (HasPieces f d own → HasPieces f d later) → (d ≡ []) ⊎ HasPieces f d own → (d ≡ []) ⊎ HasPieces f d later
  pieces_case d own later g (inl e) = inl e
  pieces_case d own later g (inr z) = inr (g z)

  -- a message was stored
  course_taken : (d : List ℕ) (done : List (List ℕ)) (numbers bytes : List ℕ) (own : List Deed) (m : ℕ) (later : List Deed) → Course d done numbers own
      → Held own p later → IsMsgNum m → HasStoredAt run p m bytes later → IsStoredBy run p bytes own m later → AreOnce run later → Course d (done ++ bytes ∷ []) (numbers ++ m ∷ []) later
  course_taken d done numbers bytes own m later c held ok at_ t once = record {
    ground = record {
      settled = λ s. held.settled (c.ground.settled s);
      lock = held.lock;
      base = stored_keeps (LeavesBase p sequences_name) (IsBase run p sequences_name old) (base_kept run p sequences_name old) run p asks_base tt bytes own m later t c.ground.base;
      seen = stored_keeps AnyStep (HaveSeen run p (Mail path) listing text context) (seen_kept run p (Mail path) listing text context) run p (asks_any_put p) tt bytes own m later t c.ground.seen;
      once = once;
    };
    pieces = pieces_case d own later (λ z. stored_keeps (LeavesDrop f) (HasPieces f d) (pieces_kept f d) run p asks_drop tt bytes own m later t z) c.pieces;
    stored = subst (λ ms. HasStored run f [] ms later) (sym (reverse-append done (bytes ∷ []))) stored_later;
    at = stored_behind run p numbers done m bytes later (stored_keeps AnyStep (AreStoredAt run p numbers done) (stored_still run p numbers done) run p (asks_any_put p) tt bytes own m later t c.at) at_;
  }
    where
      b : IsPutBy run p bytes own m t.before
      b = t.put

      stored_older : HasStored run f [] (reverse done) b.link.older
      stored_older = linking_kept (LeavesDrop f) (HasStored run f [] (reverse done)) (λ o s a leaves z. stored_kept run f (reverse done) o s a (leaves_first f s leaves) z) run p asks_drop bytes own m t.before b c.stored

      never : WasPutFrom run p b.temp b.link.older → ⊥
      never = first_put run p bytes own t.before m b c.ground.once (subst AllNew t.deeds once.new).1

      stored_later : HasStored run f [] (bytes ∷ reverse done) later
      stored_later =
          subst (HasStored run f [] (bytes ∷ reverse done)) (sym t.deeds)
          (subst (λ z. HasStored run f [] (bytes ∷ reverse done) (did (step.SyncFolder p) answer.Done ∷ z)) (sym b.deeds)
          (subst (λ z. HasStored run f [] (bytes ∷ reverse done) (did (step.SyncFolder p) answer.Done ∷ (did (step.Unlink p b.temp) answer.Done ∷ z))) (sym b.link.deeds)
          (stored_taken run f p b.temp bytes m (reverse done) b.link.older b.is_own (rw (number_kind m ok) refl) refl (put_ready run p bytes own m t.before b) never stored_older)))

-- messages are taken in, one after another
module _ (w : Pledge) (few : w.run < 2 ^ 128) (path folder : List ℕ) (Known : ℕ → List Deed → Type 0) (f : FilePath)
    (lets : (bytes : List ℕ) → PutsMessages w (Folder path folder) bytes Known None (HoldsOne w.run f)) (telling : Telling)
    (tells : telling.silent ≡ false → (own : List Deed) (piece : List ℕ) → IsLineOfStored telling.line w.run (Folder path folder) own piece → w.may_tell own piece)
    (first : List Deed) (listing : List Run) (text context old : List ℕ) where
  abbrev pub Taking : List ℕ → List (List ℕ) → List ℕ → List Deed → Type 0
  Taking d done numbers own = Course w.run path folder f first listing text context old d done numbers own

  one_goes : (message : List ℕ) (top : ℕ) → top ≤ 999999 → (d : List ℕ) (done : List (List ℕ)) (numbers : List ℕ) (own : List Deed) (h : Hand) → Sound w own h → Known top own → HoldsOne w.run f own → Taking d done numbers own
      → Goes w own h (message_taken w.run folder (Folder path folder) telling numbers top message) (okay (λ later j m. IsMsgNum m × Known m later × Taking d (done ++ message ∷ []) (numbers ++ m ∷ []) later))
  one_goes message top small d done numbers own h s known holds c =
      goes_more w own h (message_taken w.run folder (Folder path folder) telling numbers top message) (λ later j r. AreOnce w.run later × okay Stores later j r) (okay (λ later j m. IsMsgNum m × Known m later × Taking d (done ++ message ∷ []) (numbers ++ m ∷ []) later)) by_end
      (goes_asked w (AreOnce w.run) (once_asked w) own h (message_taken w.run folder (Folder path folder) telling numbers top message) (okay Stores) s c.ground.once
      (taken_goes w few (Folder path folder) Known (HoldsOne w.run f) lets refl telling tells folder numbers message top small own h known holds c.ground.lock))
    where
      Stores : Outcome ℕ
      Stores later j m = HasTaken w few (Folder path folder) Known (HoldsOne w.run f) lets refl message own later j m

      by_end : (later : List Deed) (j : Hand) (r : Result ℕ CommandFault) → AreOnce w.run later × okay Stores later j r → okay (λ last i m. IsMsgNum m × Known m last × Taking d (done ++ message ∷ []) (numbers ++ m ∷ []) last) later j r
      by_end later j (Ok m) q = (q.1.1, q.1.4, course_taken w.run path folder f first listing text context old d done numbers message own m later c q.1.0 q.1.1 q.1.2 q.1.3 q.0)
      by_end later j (Err e) q = tt

  -- what of the drop was read before the newest piece, that piece, and what is known of them where these messages are stored and these are left
  pub record IsAt (d : List ℕ) (done left : List (List ℕ)) : Type 0 where
    pub before : List ℕ
    pub piece : List ℕ
    pub is : d ≡ before ++ piece
    pub short : length piece ≤ 65536
    pub some : d ≡ [] → ⊥
    pub whole : done ++ left ≡ messages d
    pub front : length (finished before) ≤ length done

  holds_one : (d : List ℕ) (done left : List (List ℕ)) (numbers : List ℕ) (own : List Deed) → IsAt d done left → Taking d done numbers own → HoldsOne w.run f own
  holds_one d done left numbers own i c = record {
    before = i.before;
    piece = i.piece;
    read = subst (λ x. HasPieces f x own) i.is (by_pieces c.pieces);
    short = i.short;
    done = done;
    left = left;
    of_drop = i.whole ∙ ap messages i.is;
    stored = c.stored;
    front = i.front;
  }
    where
      by_pieces : (d ≡ []) ⊎ HasPieces f d own → HasPieces f d own
      by_pieces (inl none) = absurd (i.some none)
      by_pieces (inr z) = z

  at_next : (d : List ℕ) (done : List (List ℕ)) (message : List ℕ) (left : List (List ℕ)) → IsAt d done (message ∷ left) → IsAt d (done ++ message ∷ []) left
  at_next d done message left i = record {
    before = i.before;
    piece = i.piece;
    is = i.is;
    short = i.short;
    some = i.some;
    whole = append_assoc done (message ∷ []) left ∙ i.whole;
    front = (let long = length-append done (message ∷ []) in let le = i.front in omega (arith, long, le));
  }

  pub all_go : (mail : List (List ℕ)) (taken : Taken) → taken.highest ≤ 999999 → (d : List ℕ) (done tail : List (List ℕ)) → IsAt d done (mail ++ tail) → (own : List Deed) (h : Hand) → Sound w own h → Known taken.highest own → Taking d done taken.numbers own
      → Goes w own h (all_taken w.run folder (Folder path folder) telling taken mail) (okay (λ later j t. (t.highest ≤ 999999) × Known t.highest later × Taking d (done ++ mail) t.numbers later))
  unfolding all_taken
  all_go [] taken small d done tail i own h s known c =
      goes_return w own h taken (okay (λ later j t. (t.highest ≤ 999999) × Known t.highest later × Taking d (done ++ []) t.numbers later)) (small, known, subst (λ ms. Taking d ms taken.numbers own) (sym (append-nil done)) c)
  all_go (message ∷ mail) taken small d done tail i own h s known c =
      then_soundly w own h (message_taken w.run folder (Folder path folder) telling taken.numbers taken.highest message) (λ n. all_taken w.run folder (Folder path folder) telling (with_number n taken) mail)
      (λ later j m. IsMsgNum m × Known m later × Taking d (done ++ message ∷ []) (taken.numbers ++ m ∷ []) later) (λ later j t. (t.highest ≤ 999999) × Known t.highest later × Taking d (done ++ message ∷ mail) t.numbers later) s
      (one_goes message taken.highest small d done taken.numbers own h s known (holds_one d done (message ∷ (mail ++ tail)) taken.numbers own i c) c)
      (λ later j m sound q.
      subst (λ ms. Goes w later j (all_taken w.run folder (Folder path folder) telling (with_number m taken) mail) (okay (λ last i t. (t.highest ≤ 999999) × Known t.highest last × Taking d ms t.numbers last))) (append_assoc done (message ∷ []) mail)
      (all_go mail (with_number m taken) q.0.1 d (done ++ message ∷ []) tail (at_next d done message (mail ++ tail) i) later j sound q.1 q.2))
