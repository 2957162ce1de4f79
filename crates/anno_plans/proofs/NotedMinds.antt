-- Messages get lines, one after another: each step minds all marks, where no message was left held aside there.
use Rattle.std.proofs.Common.{◌≡◌, ◌⊎◌, inl, inr, ◌<◌, ◌≤◌, ◌+◌, ◌-◌, ◌++◌, ◌^◌, ◌∷◌, [], ℕ, zero, suc, Bool, true, false, List, Option, Some, None, Ok, Err, max, length, nat_lt, refl, sym, ◌∙◌, ap, subst, bytes_eq, arith}
use Rattle.std.specs.Prelude.{decimal, if◌then◌else◌}
use Rattle.mh_base.specs.Entries.{entry_text, kind_of}
use Rattle.mh_base.specs.Numbers.{IsMsgNum}
use Rattle.mh_base.specs.declared.entry.Entry.TheVariants.{Held, Number, Sequences}
use Rattle.mh_base.proofs.EntryKinds.{kind_of-entry_text}
use Rattle.mh_sequences.specs.Runs.{has}
use Rattle.mh_sequences.specs.declared.run.Run.{Run}
use Rattle.msg_ranges.proofs.Rising.{Rise}
use Rattle.folder_files.specs.Annotations.{are_annotations}
use Rattle.folder_files.specs.Careful.{HasLock, WasCopiedFrom, WasReadAs}
use Rattle.folder_files.specs.Deeds.{Deed, WasDone, did, now, on, still}
use Rattle.folder_files.specs.Named.{is_held, is_number, is_temp}
use Rattle.folder_files.specs.Steps.{has_text}
use Rattle.folder_files.specs.declared.place.Place.{Place}
use Rattle.folder_files.specs.declared.place.Place.TheVariants.{Folder}
use Rattle.folder_files.specs.declared.step.Answer.{Answer}
use Rattle.folder_files.specs.declared.step.Answer.TheVariants as answer
use Rattle.folder_files.specs.declared.step.Step.{Step}
use Rattle.folder_files.specs.declared.step.Step.TheVariants as step
use Rattle.folder_files.proofs.Names.{bytes_self, bytes_true, held_stands, not_both, number_stands}
use Rattle.file_plans.specs.Plan.{Hand, Plan, Return, ◌>>=◌}
use Rattle.file_plans.proofs.Showing.{number_kind as decimal_kind}
use Rattle.held_messages.specs.Settle.{given_at, given_from, given_up, homed_name}
use Rattle.step_plans.specs.ContextCommit.{LIMIT_BYTES}
use Rattle.step_plans.specs.Hands.{named}
use Rattle.step_plans.specs.Locking.{removed}
use Rattle.step_plans.specs.PlanFaults.{Planned, of_stop}
use Rattle.step_plans.specs.Pledges.{MayAsk, Pledge}
use Rattle.step_plans.specs.Replacing.{created, entered_once, held_to, made_safe, renamed, synced, written}
use Rattle.step_plans.specs.declared.fault.PlanFault.TheVariants as fault
use Rattle.step_plans.proofs.Asks.{asks_named}
use Rattle.step_plans.proofs.Facts.{LeavesBase}
use Rattle.step_plans.proofs.Going.{Outcome, okay}
use Rattle.step_plans.proofs.Past.{did_step}
use Rattle.marks_law.specs.Apart as apart
use Rattle.marks_law.specs.Minding.{Minds, Sees, SeesNoneHeld, arrived, copies, unlinked}
use Rattle.marks_law.specs.Minding as minding
use Rattle.message_puts.specs.Putting.{linked_first, message_put, number_got, numbered}
use Rattle.message_moves.specs.Moving.{content_by, content_read, held_discarded, number_taken, readable}
use Rattle.message_moves.proofs.MovePledged.{is_taken_so}
use Rattle.message_notes.specs.Noting.{message_noted, messages_noted, stored_at}
use Rattle.opening_plans.proofs.AllMarks.{MindsAll, clear_minds, create_minds, drop_minds, look_minds, plain_minds}
use Rattle.opening_plans.proofs.CommitMinds.{Facts}
use Rattle.opening_plans.proofs.CommitSeen.{NoCommit, Synced, synced_kept}
use Rattle.opening_plans.proofs.FolderSeen.{Quiet, WasListed, created_temp, quiet_lock, quiet_seen, quiet_sees, quiet_unlinked}
use Rattle.opening_plans.proofs.Meeting.{Meets, meets_create, meets_end, meets_link, meets_on, meets_quietly, meets_read, meets_rename, meets_return, meets_stop, meets_sync_file, meets_sync_folder, meets_then, meets_unlink}
use Rattle.refile_plans.specs.RefileHeld.{TakesUnheld}
use Rattle.refile_plans.proofs.UnmarkedNumbers.{IsUnmarkedIn, put_minds, take_minds, unmarked_kept}
use Rattle.sequence_commits.proofs.SequencesPledged.{sequences_name}
use Rattle.mh_base.proofs.NumberTests.{AreNumbers}

-- the greater of two numbers is one of them, and not less than both
two_tops : (a b : ℕ) → (a ≤ max a b) × (a ≤ 999999 → b ≤ 999999 → max a b ≤ 999999)
two_tops a b = (omega arith, λ x y. omega (arith, x, y))

-- The folders whose private marks are minded; the pledge; the folder, what was listed there, its numbers; and the lines.
module _ (Of : List ℕ → Type 0) (w : Pledge) (few : w.run < 2 ^ 128) (path folder : List ℕ) (names : List (List ℕ)) (listing : List Run) (lines : List ℕ) (notes : are_annotations lines ≡ true) where
  abbrev p : Place
  p = Folder path folder

  -- what each step meets
  abbrev pub A : List Deed → Step → Type 0
  A own s = TakesUnheld own s → MindsAll Of w.run own s

  abbrev M : {R : Type 0} → List Deed → Hand → Plan R → Outcome R → Type 0
  M own h plan Q = Meets (MayAsk w) A own h plan Q

  plainly : (own : List Deed) (s : Step) → MindsAll Of w.run own s → A own s
  plainly own s f unheld = f

  -- a listed number from this one on
  abbrev pub There : ℕ → List ℕ → Type 0
  There low z = (j : ℕ) × (kind_of z ≡ Number j) × (has listing j ≡ true) × (low ≤ j)

  -- no sequence marks a number that was not listed
  abbrev pub Free : List Deed → Type 0
  Free own = (j : ℕ) → has listing j ≡ false → IsUnmarkedIn w.run path folder j own

  -- what is known of the folder while messages from this number on are to get the lines
  abbrev pub At : ℕ → List Deed → Type 0
  At low own = Facts w path folder names (There low) own × Free own

  -- no message above this number was listed
  abbrev pub IsTop : ℕ → Type 0
  IsTop top = (top ≤ 999999) × ((j : ℕ) → top < j → has listing j ≡ false)

  lower : (low high : ℕ) → low ≤ high → (z : List ℕ) → There high z → There low z
  lower low high le z so = (so.0, so.1, so.2, (let more = so.3 in omega (arith, le, more)))

  free_kept : (own : List Deed) (s : Step) (a : Answer) → LeavesBase p sequences_name s → NoCommit path s → Free own → Free (did s a ∷ own)
  free_kept own s a leaves none f j e = unmarked_kept w.run path folder j own s a leaves none (f j e)

  at_kept : (low : ℕ) (own : List Deed) (s : Step) (a : Answer) → MayAsk w own s → Quiet p s → NoCommit path s → LeavesBase p sequences_name s → At low own → At low (did s a ∷ own)
  at_kept low own s a may quiet none leaves f = ((quiet_seen w p names (There low) own s a may quiet f.0.0, synced_kept Of w path folder own s a quiet none f.0.1), free_kept own s a leaves none f.1)

  -- a put at the number of an own held name, of what was read of that
  copy_minds : (own : List Deed) (temp : List ℕ) (n : ℕ) → IsMsgNum n → Sees p (entry_text (Held w.run n)) true own → WasCopiedFrom p (entry_text (Held w.run n)) p temp own → MindsAll Of w.run own (step.Link p temp (decimal n))
  unfolding entry_text
  copy_minds own temp n one seen copied =
      plain_minds Of w.run own (step.Link p temp (decimal n))
      (λ k g c. subst (λ z. Minds w.run k g own (step.Link z temp (decimal n))) c
      (copies (is_taken_so w.run few n one) (subst (λ z. Sees z (entry_text (Held w.run n)) true own) (sym c) seen) (subst (λ z. WasCopiedFrom z (entry_text (Held w.run n)) z temp own) (sym c) copied)))
      (λ mail other sequence temp_ e. cc (e))

  -- one message
  module _ (low n : ℕ) (le : low ≤ n) (one : IsMsgNum n) where
    abbrev number : List ℕ
    number = entry_text (Number n)

    abbrev aside : List ℕ
    aside = entry_text (Held w.run n)

    number_kind : kind_of number ≡ Number n
    number_kind = kind_of-entry_text (Number n) one

    aside_kind : kind_of aside ≡ Held w.run n
    aside_kind = kind_of-entry_text (Held w.run n) (few, one)

    aside_held : is_held (kind_of aside) ≡ true
    aside_held = rw aside_kind refl

    aside_other : aside ≡ sequences_name → ⊥
    aside_other e = absurd (let same : Held w.run n ≡ Sequences = sym aside_kind ∙ (ap kind_of e ∙ kind_of-entry_text Sequences tt) in cc (same))

    -- a number is no held name
    number_unheld : (y x : List ℕ) (m : ℕ) → kind_of y ≡ Number m → is_held (kind_of x) ≡ true → y ≡ x → ⊥
    number_unheld y x m kind held e = not_both (is_held (kind_of x)) held (subst (λ (z : List ℕ). is_held (kind_of z) ≡ false) e (rw kind refl))

    aside_unnumbered : (z : List ℕ) → is_number (kind_of z) ≡ true → aside ≡ z → ⊥
    aside_unnumbered z numbered e = not_both (is_number (kind_of z)) numbered (subst (λ (y : List ℕ). is_number (kind_of y) ≡ false) e (rw aside_kind refl))

    -- a number that is none of the listed ones above this one
    abbrev Off : ℕ → Type 0
    Off m = (j : ℕ) → has listing j ≡ true → n + 1 ≤ j → m ≡ j → ⊥

    other : (y : List ℕ) (m : ℕ) → kind_of y ≡ Number m → Off m → (z : List ℕ) → There (n + 1) z → y ≡ z → ⊥
    other y m kind off z so e = let same : Number m ≡ Number so.0 = sym kind ∙ (ap kind_of e ∙ so.1) in off so.0 so.2 so.3 (cc (same))

    off_own : Off n
    off_own j e more same = absurd (omega (arith, more, same))

    off_above : (top m : ℕ) → IsTop top → top < m → Off m
    off_above top m is lt j e more same = not_both (has listing j) e (subst (λ k. has listing k ≡ false) same (is.1 m lt))

    -- what is known of the folder while this message is held aside
    record Aside (own : List Deed) : Type 0 where
      lock : HasLock p own
      there : (z : List ℕ) → There (n + 1) z → is_number (kind_of z) ≡ true → Sees p z true own
      others : (x : List ℕ) → is_held (kind_of x) ≡ true → (x ≡ aside → ⊥) → (has_text x names ≡ true → WasDone (step.Unlink p x) own) → Sees p x false own
      listed : WasListed p names own
      safe : Synced path folder own
      free : Free own
      held : Sees p aside true own

    aside_kept : (own : List Deed) (s : Step) (a : Answer) → MayAsk w own s → Quiet p s → NoCommit path s → LeavesBase p sequences_name s → Aside own → Aside (did s a ∷ own)
    aside_kept own s a may quiet none leaves f = record {
      lock = quiet_lock w p own s a quiet f.lock;
      there = λ z so numbered. quiet_sees w p own s a z true may quiet (number_stands z numbered) (f.there z so numbered);
      others = λ x held off gone. quiet_sees w p own s a x false may quiet (held_stands x held) (f.others x held off (λ listed. quiet_unlinked w p own s a x quiet held (gone listed)));
      listed = on f.listed;
      safe = synced_kept Of w path folder own s a quiet none f.safe;
      free = free_kept own s a leaves none f.free;
      held = quiet_sees w p own s a aside true may quiet (held_stands aside aside_held) f.held;
    }

    -- a file gets a number that is none of those
    linked_kept : (own : List Deed) (temp : List ℕ) (m : ℕ) (a : Answer) → IsMsgNum m → Off m → Aside own → Aside (did (step.Link p temp (decimal m)) a ∷ own)
    linked_kept own temp m a ok off f = record {
      lock = still (λ e. cc (e)) f.lock;
      there = λ z so numbered. minding.on (λ e. cc (e)) (λ t. other (decimal m) m kind off z so t.1) (f.there z so numbered);
      others = λ x held away gone. minding.on (λ e. cc (e)) (λ t. number_unheld (decimal m) x m kind held t.1) (f.others x held away (λ listed. before x (gone listed)));
      listed = on f.listed;
      safe = λ sequence. apart.on (λ e. cc (e)) (λ other_temp e. cc (e)) (f.safe sequence);
      free = free_kept own (step.Link p temp (decimal m)) a tt (λ t e. cc (e)) f.free;
      held = minding.on (λ e. cc (e)) (λ t. number_unheld (decimal m) aside m kind aside_held t.1) f.held;
    }
      where
        kind : kind_of (decimal m) ≡ Number m
        kind = decimal_kind m ok

        before : (x : List ℕ) → WasDone (step.Unlink p x) (did (step.Link p temp (decimal m)) a ∷ own) → WasDone (step.Unlink p x) own
        before x (now e) = let same = did_step e in absurd (cc (same))
        before x (on g) = g

    -- it is held aside
    none_held : (own : List Deed) → At low own → TakesUnheld own (step.Rename p number aside) → SeesNoneHeld p own
    none_held own f unheld x held = f.0.0.held x held (λ listed. unheld p n (refl, number_kind, aside_held) names f.0.0.listed x held listed)

    above : (own : List Deed) → At low own → (z : List ℕ) (j : ℕ) → kind_of z ≡ Number j → n < j → IsUnmarkedIn w.run path folder j own ⊎ Sees p z true own
    above own f z j kind lt = go (has listing j) refl
      where
        go : (b : Bool) → has listing j ≡ b → IsUnmarkedIn w.run path folder j own ⊎ Sees p z true own
        go true e = inr (f.0.0.there z (j, kind, e, omega (arith, le, lt)) (rw kind refl))
        go false e = inl (f.1 j e)

    take_so : (own : List Deed) → At low own → A own (step.Rename p number aside)
    take_so own f unheld = take_minds w.run path folder Of own number aside n number_kind (is_taken_so w.run few n one) (none_held own f unheld) (above own f)

    taken : (own : List Deed) → At low own → Aside (did (step.Rename p number aside) answer.Done ∷ own)
    taken own f = record {
      lock = still (λ e. cc (e)) f.0.0.lock;
      there = λ z so numbered. minding.on (λ e. cc (e)) (λ t. touched z so numbered t.1) (f.0.0.there z (lower low (n + 1) (omega (arith, le)) z so) numbered);
      others = λ x held off gone. minding.on (λ e. cc (e)) (λ t. unheld x held off t.1) (f.0.0.held x held (λ listed. before x (gone listed)));
      listed = on f.0.0.listed;
      safe = λ sequence. apart.on (λ e. cc (e)) (λ temp e. cc (e)) (f.0.1 sequence);
      free = free_kept own (step.Rename p number aside) answer.Done (λ same named. aside_other named) (λ temp e. cc (e)) f.1;
      held = arrived refl f.0.0.lock;
    }
      where
        touched : (z : List ℕ) → There (n + 1) z → is_number (kind_of z) ≡ true → (number ≡ z) ⊎ (aside ≡ z) → ⊥
        touched z so numbered (inl e) = other number n number_kind off_own z so e
        touched z so numbered (inr e) = aside_unnumbered z numbered e

        unheld : (x : List ℕ) → is_held (kind_of x) ≡ true → (x ≡ aside → ⊥) → (number ≡ x) ⊎ (aside ≡ x) → ⊥
        unheld x held off (inl e) = number_unheld number x n number_kind held e
        unheld x held off (inr e) = off (sym e)

        before : (x : List ℕ) → WasDone (step.Unlink p x) (did (step.Rename p number aside) answer.Done ∷ own) → WasDone (step.Unlink p x) own
        before x (now e) = let same = did_step e in absurd (cc (same))
        before x (on g) = g

    abbrev Taken : Outcome (List ℕ)
    Taken later j x = (x ≡ aside) × Aside later

    taken_meets : (own : List Deed) (h : Hand) → At low own → M own h (number_taken w.run p n) (okay Taken)
    unfolding number_taken renamed
    taken_meets own h f =
        meets_then (MayAsk w) A own h (renamed p number aside) (λ moved. Return (Ok aside)) (λ later j u. Aside later) Taken
        (meets_rename (MayAsk w) A own h of_stop (okay (λ later j u. Aside later)) p number aside (held_to p number)
        (λ may. (
          take_so own f,
          meets_return (MayAsk w) A (did (step.Rename p number aside) answer.Done ∷ own) h tt (okay (λ later j u. Aside later)) (taken own f),
          meets_end (MayAsk w) A (did (step.Rename p number aside) answer.Gone ∷ own) h (fault.Meddled p number) (λ later j u. Aside later),
        )))
        (λ later j u g. meets_return (MayAsk w) A later j aside (okay Taken) (refl, g))

    -- it is read
    abbrev WasRead : List ℕ → List Deed → Type 0
    WasRead bytes own = Aside own × WasReadAs p aside (lines ++ bytes) own

    read_kept : (own : List Deed) (a : Answer) → MayAsk w own (step.Read p aside LIMIT_BYTES) → Aside own → Aside (did (step.Read p aside LIMIT_BYTES) a ∷ own)
    read_kept own a may f = aside_kept own (step.Read p aside LIMIT_BYTES) a may tt (λ t e. cc (e)) (λ same named. aside_other named) f

    read_meets : (own : List Deed) (h : Hand) → Aside own → M own h (content_read p aside) (okay (λ later j (bytes : List ℕ). WasRead bytes later))
    unfolding content_read
    read_meets own h f =
        meets_read (MayAsk w) A own h of_stop (okay (λ later j (bytes : List ℕ). WasRead bytes later)) p aside LIMIT_BYTES (content_by p aside)
        (λ may. (
          plainly own (step.Read p aside LIMIT_BYTES) (look_minds Of w.run own (step.Read p aside LIMIT_BYTES) tt),
          (λ bytes. meets_return (MayAsk w) A (did (step.Read p aside LIMIT_BYTES) (answer.Content bytes) ∷ own) h bytes (okay (λ later j (bytes : List ℕ). WasRead bytes later))
              (read_kept own (answer.Content bytes) may f, now (bytes, (LIMIT_BYTES, refl), (lines, refl, notes)))),
          (λ l. meets_end (MayAsk w) A (did (step.Read p aside LIMIT_BYTES) (answer.Long l) ∷ own) h (fault.TooLarge l) (λ later j (bytes : List ℕ). WasRead bytes later)),
          meets_end (MayAsk w) A (did (step.Read p aside LIMIT_BYTES) answer.Gone ∷ own) h (fault.Meddled p aside) (λ later j (bytes : List ℕ). WasRead bytes later),
        ))

    -- what it is to be is written
    abbrev Copied : List ℕ → List Deed → Type 0
    Copied temp own = Aside own × ((is_temp (kind_of temp) ≡ true) × WasCopiedFrom p aside p temp own)

    abbrev IsNone : Step → Type 0
    IsNone s = ⊥

    written_meets : (bytes : List ℕ) (own : List Deed) (h : Hand) → WasRead bytes own → M own h (written w.run p (lines ++ bytes)) (okay (λ later j temp. Copied temp later))
    unfolding written created made_safe
    written_meets bytes own h f =
        meets_then (MayAsk w) A own h (named w.run) (λ temp. created p temp (lines ++ bytes) >>= (λ made. made_safe p temp >>= (λ safe. Return (Ok temp)))) (λ later j temp. WasRead bytes later) (λ later j temp. Copied temp later)
        (meets_quietly (MayAsk w) A IsNone (WasRead bytes) (λ own s a may none g. absurd none) (λ own s may none g. absurd none) own h (named w.run) (asks_named IsNone w.run) f)
        (λ later j temp g.
        meets_then (MayAsk w) A later j (created p temp (lines ++ bytes)) (λ made. made_safe p temp >>= (λ safe. Return (Ok temp))) (λ last i u. Copied temp last) (λ last i t. Copied t last)
        (meets_create (MayAsk w) A later j of_stop (okay (λ last i u. Copied temp last)) p temp (lines ++ bytes) (entered_once p temp)
        (λ may. (
          plainly later (step.Create p temp (lines ++ bytes)) (create_minds Of w.run later p temp (lines ++ bytes)),
          meets_return (MayAsk w) A (did (step.Create p temp (lines ++ bytes)) answer.Done ∷ later) j tt (okay (λ last i u. Copied temp last))
              (aside_kept later (step.Create p temp (lines ++ bytes)) answer.Done may tt (λ t e. cc (e)) tt g.0, (created_temp w later p temp (lines ++ bytes) may, now (lines ++ bytes, refl, g.1))),
          meets_end (MayAsk w) A (did (step.Create p temp (lines ++ bytes)) answer.Exists ∷ later) j (fault.Meddled p temp) (λ last i u. Copied temp last),
          meets_end (MayAsk w) A (did (step.Create p temp (lines ++ bytes)) answer.Gone ∷ later) j (fault.Meddled p temp) (λ last i u. Copied temp last),
        )))
        (λ last i u k.
        meets_then (MayAsk w) A last i (made_safe p temp) (λ safe. Return (Ok temp)) (λ end l u. Copied temp end) (λ end l t. Copied t end)
        (meets_sync_file (MayAsk w) A last i of_stop (okay (λ end l u. Copied temp end)) p temp (held_to p temp)
        (λ may. (
          plainly last (step.SyncFile p temp) (look_minds Of w.run last (step.SyncFile p temp) tt),
          meets_return (MayAsk w) A (did (step.SyncFile p temp) answer.Done ∷ last) i tt (okay (λ end l u. Copied temp end)) (aside_kept last (step.SyncFile p temp) answer.Done may tt (λ t e. cc (e)) tt k.0, (k.1.0, on k.1.1)),
          meets_end (MayAsk w) A (did (step.SyncFile p temp) answer.Gone ∷ last) i (fault.Meddled p temp) (λ end l u. Copied temp end),
        )))
        (λ end l u z. meets_return (MayAsk w) A end l temp (okay (λ end l t. Copied t end)) z)))

    -- it gets its number again, or one above all that were listed
    abbrev PutAt : List ℕ → Outcome (Option ℕ)
    PutAt temp later j None = Copied temp later
    PutAt temp later j (Some m) = (m ≤ 999999) × Copied temp later

    link_copied : (own : List Deed) (temp : List ℕ) (m : ℕ) (a : Answer) → IsMsgNum m → Off m → Copied temp own → Copied temp (did (step.Link p temp (decimal m)) a ∷ own)
    link_copied own temp m a ok off f = (linked_kept own temp m a ok off f.0, (f.1.0, on f.1.1))

    up_meets : (top : ℕ) → IsTop top → (temp : List ℕ) (left m : ℕ) → (1 ≤ m) × (m + left ≡ 1000000) → top < m → (own : List Deed) (h : Hand) → Copied temp own → M own h (given_up p temp m left) (okay (PutAt temp))
    unfolding given_up
    up_meets top is temp zero m sum lt own h f = meets_return (MayAsk w) A own h None (okay (PutAt temp)) f
    up_meets top is temp (suc left) m sum lt own h f =
        meets_link (MayAsk w) A own h of_stop (okay (PutAt temp)) p temp (decimal m) (λ e. given_at p temp m e (given_up p temp (m + 1) left))
        (λ may. (
          plainly own (step.Link p temp (decimal m)) (put_minds w.run path folder Of own temp m ok (f.0.free m (is.1 m lt))),
          meets_return (MayAsk w) A (did (step.Link p temp (decimal m)) answer.Done ∷ own) h (Some m) (okay (PutAt temp)) (ok.1, link_copied own temp m answer.Done ok (off_above top m is lt) f),
          up_meets top is temp left (m + 1) (omega arith, (let full = sum.1 in omega (arith, full))) (omega (arith, lt)) (did (step.Link p temp (decimal m)) answer.Exists ∷ own) h (link_copied own temp m answer.Exists ok (off_above top m is lt) f),
          meets_end (MayAsk w) A (did (step.Link p temp (decimal m)) answer.Gone ∷ own) h (fault.Meddled p temp) (PutAt temp),
        ))
      where
        ok : IsMsgNum m
        ok = (sum.0, (let full = sum.1 in omega (arith, full)))

    abbrev Numbered : List ℕ → Outcome ℕ
    Numbered temp later j m = (m ≤ 999999) × Copied temp later

    numbered_meets : (top : ℕ) → IsTop top → (temp : List ℕ) (own : List Deed) (h : Hand) → Copied temp own → M own h (numbered p temp (Some n) top) (okay (Numbered temp))
    unfolding numbered linked_first
    numbered_meets top is temp own h f =
        meets_then (MayAsk w) A own h (homed_name p temp n top) number_got (PutAt temp) (Numbered temp)
        (meets_link (MayAsk w) A own h of_stop (okay (PutAt temp)) p temp (decimal n) (λ e. given_at p temp n e (given_from p temp (max n top + 1)))
        (λ may. (
          plainly own (step.Link p temp (decimal n)) (copy_minds own temp n one f.0.held f.1.1),
          meets_return (MayAsk w) A (did (step.Link p temp (decimal n)) answer.Done ∷ own) h (Some n) (okay (PutAt temp)) (one.1, link_copied own temp n answer.Done one off_own f),
          up_meets top is temp (1000000 - (max n top + 1)) (max n top + 1) (omega arith, (let l = one.1 in let small = is.0 in omega (arith, l, small))) (omega arith) (did (step.Link p temp (decimal n)) answer.Exists ∷ own) h
              (link_copied own temp n answer.Exists one off_own f),
          meets_end (MayAsk w) A (did (step.Link p temp (decimal n)) answer.Gone ∷ own) h (fault.Meddled p temp) (PutAt temp),
        )))
        got
      where
        got : (later : List Deed) (j : Hand) (end : Option ℕ) → PutAt temp later j end → M later j (number_got end) (okay (Numbered temp))
        got later j None g = meets_end (MayAsk w) A later j fault.Full (Numbered temp)
        got later j (Some m) g = meets_return (MayAsk w) A later j m (okay (Numbered temp)) g

    abbrev Stored : Outcome ℕ
    Stored later j m = (m ≤ 999999) × Aside later

    gone_meets : (temp : List ℕ) (own : List Deed) (h : Hand) → Copied temp own → M own h (removed p temp) (okay (λ later j u. Aside later))
    unfolding removed
    gone_meets temp own h f =
        meets_unlink (MayAsk w) A own h of_stop (okay (λ later j u. Aside later)) p temp (held_to p temp)
        (λ may. (
          plainly own (step.Unlink p temp) (clear_minds Of w.run own p temp f.1.0),
          meets_return (MayAsk w) A (did (step.Unlink p temp) answer.Done ∷ own) h tt (okay (λ later j u. Aside later)) (aside_kept own (step.Unlink p temp) answer.Done may (λ same. f.1.0) (λ t e. cc (e)) tt f.0),
          meets_end (MayAsk w) A (did (step.Unlink p temp) answer.Gone ∷ own) h (fault.Meddled p temp) (λ later j u. Aside later),
        ))

    safe_meets : (name : List ℕ) (own : List Deed) (h : Hand) → Aside own → M own h (synced p name) (okay (λ later j u. Aside later))
    unfolding synced
    safe_meets name own h f =
        meets_sync_folder (MayAsk w) A own h of_stop (okay (λ later j u. Aside later)) p (held_to p name)
        (λ may. (
          plainly own (step.SyncFolder p) (look_minds Of w.run own (step.SyncFolder p) tt),
          meets_return (MayAsk w) A (did (step.SyncFolder p) answer.Done ∷ own) h tt (okay (λ later j u. Aside later)) (aside_kept own (step.SyncFolder p) answer.Done may tt (λ t e. cc (e)) tt f),
          meets_end (MayAsk w) A (did (step.SyncFolder p) answer.Gone ∷ own) h (fault.Meddled p name) (λ later j u. Aside later),
        ))

    stored_meets : (top : ℕ) → IsTop top → (bytes : List ℕ) (own : List Deed) (h : Hand) → WasRead bytes own → M own h (stored_at w.run p n (lines ++ bytes) top) (okay Stored)
    unfolding stored_at message_put
    stored_meets top is bytes own h f =
        meets_then (MayAsk w) A own h (message_put w.run p (lines ++ bytes) (Some n) top) (λ m. synced p (decimal m) >>= (λ safe. Return (Ok m))) Stored Stored
        (meets_then (MayAsk w) A own h (written w.run p (lines ++ bytes)) (λ temp. numbered p temp (Some n) top >>= (λ m. removed p temp >>= (λ gone. Return (Ok m)))) (λ later j temp. Copied temp later) Stored (written_meets bytes own h f)
        (λ later j temp g.
        meets_then (MayAsk w) A later j (numbered p temp (Some n) top) (λ m. removed p temp >>= (λ gone. Return (Ok m))) (Numbered temp) Stored (numbered_meets top is temp later j g)
        (λ last i m z.
        meets_then (MayAsk w) A last i (removed p temp) (λ gone. Return (Ok m)) (λ end l u. Aside end) Stored (gone_meets temp last i z.1) (λ end l u y. meets_return (MayAsk w) A end l m (okay Stored) (z.0, y)))))
        (λ later j m g.
        meets_then (MayAsk w) A later j (synced p (decimal m)) (λ safe. Return (Ok m)) (λ last i u. Aside last) Stored (safe_meets (decimal m) later j g.1) (λ last i u y. meets_return (MayAsk w) A last i m (okay Stored) (g.0, y)))

    -- what was held aside is let go
    gone_ : (own : List Deed) → Aside own → At (n + 1) (did (step.Unlink p aside) answer.Done ∷ own)
    gone_ own f = (
      (
        record {
          lock = still (λ e. cc (e)) f.lock;
          there = λ z so numbered. minding.on (λ e. cc (e)) (λ t. aside_unnumbered z numbered t.1) (f.there z so numbered);
          held = λ x held gone. by x held gone (bytes_eq x aside) refl;
          listed = on f.listed;
        },
        (λ sequence. apart.on (λ e. cc (e)) (λ temp e. cc (e)) (f.safe sequence)),
      ),
      free_kept own (step.Unlink p aside) answer.Done tt (λ temp e. cc (e)) f.free,
    )
      where
        unlinked_one : (x : List ℕ) → step.Unlink p aside ≡ step.Unlink p x → aside ≡ x
        unlinked_one x e = cc (e)

        before : (x : List ℕ) → (x ≡ aside → ⊥) → WasDone (step.Unlink p x) (did (step.Unlink p aside) answer.Done ∷ own) → WasDone (step.Unlink p x) own
        before x away (now e) = absurd (away (sym (unlinked_one x (did_step e))))
        before x away (on g) = g

        by : (x : List ℕ) → is_held (kind_of x) ≡ true → (has_text x names ≡ true → WasDone (step.Unlink p x) (did (step.Unlink p aside) answer.Done ∷ own)) → (b : Bool) → bytes_eq x aside ≡ b → Sees p x false (did (step.Unlink p aside) answer.Done ∷ own)
        by x held gone true e = subst (λ y. Sees p y false (did (step.Unlink p aside) answer.Done ∷ own)) (sym (bytes_true x aside e)) (unlinked refl f.lock)
        by x held gone false e = minding.on (λ u. cc (u)) (λ t. away (sym t.1)) (f.others x held away (λ listed. before x away (gone listed)))
          where
            away : x ≡ aside → ⊥
            away same = not_both (bytes_eq x aside) (subst (λ y. bytes_eq x y ≡ true) same (bytes_self x)) e

    abbrev Gone_ : Outcome Unit
    Gone_ later j u = At (n + 1) later

    end_meets : (own : List Deed) (h : Hand) → At (n + 1) own → M own h (synced p aside) (okay Gone_)
    unfolding synced
    end_meets own h f =
        meets_sync_folder (MayAsk w) A own h of_stop (okay Gone_) p (held_to p aside)
        (λ may. (
          plainly own (step.SyncFolder p) (look_minds Of w.run own (step.SyncFolder p) tt),
          meets_return (MayAsk w) A (did (step.SyncFolder p) answer.Done ∷ own) h tt (okay Gone_) (at_kept (n + 1) own (step.SyncFolder p) answer.Done may tt (λ t e. cc (e)) tt f),
          meets_end (MayAsk w) A (did (step.SyncFolder p) answer.Gone ∷ own) h (fault.Meddled p aside) Gone_,
        ))

    discarded_meets : (own : List Deed) (h : Hand) → Aside own → M own h (held_discarded p aside) (okay Gone_)
    unfolding held_discarded removed
    discarded_meets own h f =
        meets_then (MayAsk w) A own h (removed p aside) (λ gone. synced p aside) Gone_ Gone_
        (meets_unlink (MayAsk w) A own h of_stop (okay Gone_) p aside (held_to p aside)
        (λ may. (
          plainly own (step.Unlink p aside) (drop_minds Of w.run own p aside aside_held),
          meets_return (MayAsk w) A (did (step.Unlink p aside) answer.Done ∷ own) h tt (okay Gone_) (gone_ own f),
          meets_end (MayAsk w) A (did (step.Unlink p aside) answer.Gone ∷ own) h (fault.Meddled p aside) Gone_,
        )))
        (λ later j u g. end_meets later j g)

    -- all of it
    abbrev pub Noted : Outcome ℕ
    Noted later j m = (m ≤ 999999) × At (n + 1) later

    abbrev storing : List ℕ → List ℕ → ℕ → Planned ℕ
    storing x new top = stored_at w.run p n new top >>= (λ m. held_discarded p x >>= (λ gone. Return (Ok m)))

    storing_meets : (top : ℕ) → IsTop top → (bytes : List ℕ) (own : List Deed) (h : Hand) → WasRead bytes own → M own h (storing aside (lines ++ bytes) top) (okay Noted)
    storing_meets top is bytes own h f =
        meets_then (MayAsk w) A own h (stored_at w.run p n (lines ++ bytes) top) (λ m. held_discarded p aside >>= (λ gone. Return (Ok m))) Stored Noted (stored_meets top is bytes own h f)
        (λ later j m g. meets_then (MayAsk w) A later j (held_discarded p aside) (λ gone. Return (Ok m)) Gone_ Noted (discarded_meets later j g.1) (λ last i u y. meets_return (MayAsk w) A last i m (okay Noted) (g.0, y)))

    lined_meets : (top : ℕ) → IsTop top → (bytes : List ℕ) (own : List Deed) (h : Hand) → WasRead bytes own → M own h (Return (readable (lines ++ bytes)) >>= (λ new. storing aside new top)) (okay Noted)
    lined_meets top is bytes own h f = go (nat_lt LIMIT_BYTES (length (lines ++ bytes)))
      where
        go : (v : Bool) → M own h (Return (if v then Err (fault.TooLarge (length (lines ++ bytes))) else Ok (lines ++ bytes)) >>= (λ new. storing aside new top)) (okay Noted)
        go true = meets_stop (MayAsk w) A own h (fault.TooLarge (length (lines ++ bytes))) (λ new. storing aside new top) Noted
        go false = meets_on (MayAsk w) A own h (lines ++ bytes) (λ new. storing aside new top) (okay Noted) (storing_meets top is bytes own h f)

    noted_meets : (top : ℕ) → IsTop top → (own : List Deed) (h : Hand) → At low own → M own h (message_noted w.run p lines n top) (okay Noted)
    unfolding message_noted
    noted_meets top is own h f =
        meets_then (MayAsk w) A own h (number_taken w.run p n) (λ x. content_read p x >>= (λ bytes. Return (readable (lines ++ bytes)) >>= (λ new. storing x new top))) Taken Noted (taken_meets own h f)
        (λ later j x g.
        subst (λ z. M later j (content_read p z >>= (λ bytes. Return (readable (lines ++ bytes)) >>= (λ new. storing z new top))) (okay Noted)) (sym g.0)
        (meets_then (MayAsk w) A later j (content_read p aside) (λ bytes. Return (readable (lines ++ bytes)) >>= (λ new. storing aside new top)) (λ last i (bytes : List ℕ). WasRead bytes last) Noted (read_meets later j g.1) (λ last i bytes z. lined_meets top is bytes last i z)))

  -- messages of these numbers, one after another
  pub all_noted_meet : (numbers : List ℕ) (low : ℕ) → Rise low numbers → AreNumbers numbers → (top : ℕ) → IsTop top → (own : List Deed) (h : Hand) → At low own → M own h (messages_noted w.run p lines numbers top) (okay (λ later j u. (high : ℕ) × At high later))
  unfolding messages_noted
  all_noted_meet [] low rise valid top is own h f = meets_return (MayAsk w) A own h tt (okay (λ later j u. (high : ℕ) × At high later)) (low, f)
  all_noted_meet (n ∷ numbers) low rise valid top is own h f =
      meets_then (MayAsk w) A own h (message_noted w.run p lines n top) (λ m. messages_noted w.run p lines numbers (max top m)) (λ later j m. (m ≤ 999999) × At (n + 1) later) (λ later j u. (high : ℕ) × At high later)
      (noted_meets low n rise.0 valid.0 top is own h f)
      (λ later j m g.
      let t = two_tops top m in
      all_noted_meet numbers (n + 1) rise.1 valid.1 (max top m) (t.1 is.0 g.0, (λ j lt. is.1 j (let more = t.0 in omega (arith, more, lt)))) later j g.1)
