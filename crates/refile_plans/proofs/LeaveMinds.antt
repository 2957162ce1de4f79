-- Messages leave their folder, one after another: each step minds all marks, where no message was left held aside there.
use Rattle.std.proofs.Common.{◌≡◌, ◌⊎◌, inl, inr, ◌<◌, ◌≤◌, ◌+◌, ◌^◌, ◌∷◌, [], ℕ, Bool, true, false, List, Ok, refl, sym, ◌∙◌, ap, subst, bytes_eq, arith}
use Rattle.std.specs.Prelude.{Contains}
use Rattle.mh_base.specs.Entries.{entry_text, kind_of}
use Rattle.mh_base.specs.Numbers.{IsMsgNum}
use Rattle.mh_base.specs.declared.entry.Entry.TheVariants.{Held, Number, Sequences}
use Rattle.mh_base.proofs.EntryKinds.{kind_of-entry_text}
use Rattle.mh_sequences.specs.Runs.{has}
use Rattle.mh_sequences.specs.declared.run.Run.{Run}
use Rattle.msg_ranges.proofs.Rising.{Rise, lists, first_of, rest_of}
use Rattle.folder_files.specs.Careful.{HasLock}
use Rattle.folder_files.specs.Deeds.{Deed, WasDone, did, now, on, still}
use Rattle.folder_files.specs.Named.{is_held, is_number}
use Rattle.folder_files.specs.Steps.{has_text}
use Rattle.folder_files.specs.declared.place.Place.{Place}
use Rattle.folder_files.specs.declared.place.Place.TheVariants.{Folder}
use Rattle.folder_files.specs.declared.step.Answer.{Answer}
use Rattle.folder_files.specs.declared.step.Answer.TheVariants as answer
use Rattle.folder_files.specs.declared.step.Step.{Step}
use Rattle.folder_files.specs.declared.step.Step.TheVariants as step
use Rattle.folder_files.proofs.Names.{bytes_self, bytes_true, held_stands, not_both, number_stands}
use Rattle.file_plans.specs.Plan.{Hand, Plan, Return, lifted, ◌>>=◌}
use Rattle.step_plans.specs.Locking.{removed}
use Rattle.step_plans.specs.PlanFaults.{of_stop}
use Rattle.step_plans.specs.Pledges.{MayAsk, Pledge}
use Rattle.step_plans.specs.Replacing.{held_to, renamed, synced}
use Rattle.step_plans.specs.declared.fault.PlanFault.TheVariants as fault
use Rattle.step_plans.proofs.Facts.{LeavesBase}
use Rattle.step_plans.proofs.Going.{Outcome, okay}
use Rattle.step_plans.proofs.Past.{did_step}
use Rattle.marks_law.specs.Apart as apart
use Rattle.marks_law.specs.Minding.{Sees, SeesNoneHeld, unlinked}
use Rattle.marks_law.specs.Minding as minding
use Rattle.command_stages.specs.Endings.{of_plan}
use Rattle.command_stages.specs.Texts.{Commanded}
use Rattle.message_moves.specs.Copying.{copied_to_all}
use Rattle.message_moves.specs.Moving.{content_read, held_discarded, number_taken}
use Rattle.message_moves.specs.Refiling.{message_refiled, messages_refiled}
use Rattle.message_moves.specs.declared.destination.Destination.{Destination}
use Rattle.message_moves.proofs.MovePledged.{is_taken_so}
use Rattle.opening_plans.proofs.AllMarks.{MindsAll, drop_minds, look_minds}
use Rattle.opening_plans.proofs.CommitMinds.{Facts}
use Rattle.opening_plans.proofs.CommitSeen.{NoCommit, Synced, synced_kept}
use Rattle.opening_plans.proofs.FolderSeen.{Quiet, WasListed, quiet_lock, quiet_seen, quiet_sees, quiet_unlinked}
use Rattle.opening_plans.proofs.Meeting.{Meets, meets_end, meets_lifted, meets_rename, meets_return, meets_sync_folder, meets_then, meets_unlink, meets_weaker}
use Rattle.sequence_commits.proofs.SequencesPledged.{sequences_name}
use Rattle.refile_plans.specs.RefileHeld.{TakesUnheld}
use Rattle.refile_plans.proofs.ContentMinds.{content_meets}
use Rattle.refile_plans.proofs.CopiesMind.{AllOpen, all_open_kept, copies_meet}
use Rattle.refile_plans.proofs.UnmarkedNumbers.{IsUnmarkedIn, take_minds, unmarked_kept}
use Rattle.mh_base.proofs.NumberTests.{AreNumbers}

-- The folders whose private marks are minded; the pledge; the source, what was listed there, its numbers, and which of them leave.
module _ (Of : List ℕ → Type 0) (w : Pledge) (few : w.run < 2 ^ 128) (path source : List ℕ) (names : List (List ℕ)) (listing : List Run) (chosen : ℕ → Bool) where
  abbrev p : Place
  p = Folder path source

  -- what each step meets
  abbrev pub A : List Deed → Step → Type 0
  A own s = TakesUnheld own s → MindsAll Of w.run own s

  abbrev M : {R : Type 0} → List Deed → Hand → Plan R → Outcome R → Type 0
  M own h plan Q = Meets (MayAsk w) A own h plan Q

  -- a listed number from this one on, or one that stays
  abbrev pub There : ℕ → List ℕ → Type 0
  There low z = (j : ℕ) × (kind_of z ≡ Number j) × (has listing j ≡ true) × ((low ≤ j) ⊎ (chosen j ≡ false))

  -- no sequence marks a number that was not listed
  abbrev pub Free : List Deed → Type 0
  Free own = (j : ℕ) → has listing j ≡ false → IsUnmarkedIn w.run path source j own

  -- what is known of the source while messages from this number on are to leave
  abbrev pub At : ℕ → List Deed → Type 0
  At low own = Facts w path source names (There low) own × Free own

  lower : (low high : ℕ) → low ≤ high → (z : List ℕ) → There high z → There low z
  lower low high le z so = (so.0, so.1, so.2, elim so.3 [ inl f ↦ inl (omega (arith, le, f)) | inr f ↦ inr f ])

  at_higher : (low high : ℕ) → low ≤ high → (own : List Deed) → At low own → At high own
  at_higher low high le own f = ((record { lock = f.0.0.lock; there = λ z so number. f.0.0.there z (lower low high le z so) number; held = f.0.0.held; listed = f.0.0.listed }, f.0.1), f.1)

  free_kept : (own : List Deed) (s : Step) (a : Answer) → LeavesBase p sequences_name s → NoCommit path s → Free own → Free (did s a ∷ own)
  free_kept own s a leaves none f j e = unmarked_kept w.run path source j own s a leaves none (f j e)

  at_kept : (low : ℕ) (own : List Deed) (s : Step) (a : Answer) → MayAsk w own s → Quiet p s → NoCommit path s → LeavesBase p sequences_name s → At low own → At low (did s a ∷ own)
  at_kept low own s a may quiet none leaves f = ((quiet_seen w p names (There low) own s a may quiet f.0.0, synced_kept Of w path source own s a quiet none f.0.1), free_kept own s a leaves none f.1)

  -- one message
  module _ (low n : ℕ) (le : low ≤ n) (one : IsMsgNum n) (is : chosen n ≡ true) where
    abbrev number : List ℕ
    number = entry_text (Number n)

    abbrev aside : List ℕ
    aside = entry_text (Held w.run n)

    number_kind : kind_of number ≡ Number n
    number_kind = kind_of-entry_text (Number n) one

    aside_kind : kind_of aside ≡ Held w.run n
    aside_kind = kind_of-entry_text (Held w.run n) (few, one)

    aside_held : is_held (kind_of aside) ≡ true
    aside_held = rw aside_kind refl

    aside_other : aside ≡ sequences_name → ⊥
    aside_other e = absurd (let same : Held w.run n ≡ Sequences = sym aside_kind ∙ (ap kind_of e ∙ kind_of-entry_text Sequences tt) in cc (same))

    -- what is there has another name
    other : (z : List ℕ) → There (n + 1) z → number ≡ z → ⊥
    other z so e =
        let same : Number n ≡ Number so.0 = sym number_kind ∙ (ap kind_of e ∙ so.1) in
        let alike : n ≡ so.0 = cc (same) in
        elim so.3 [ inl f ↦ absurd (omega (arith, f, alike)) | inr f ↦ not_both (chosen n) is (subst (λ k. chosen k ≡ false) (sym alike) f) ]

    number_unheld : (x : List ℕ) → is_held (kind_of x) ≡ true → number ≡ x → ⊥
    number_unheld x held e = not_both (is_held (kind_of x)) held (subst (λ (y : List ℕ). is_held (kind_of y) ≡ false) e (rw number_kind refl))

    aside_unnumbered : (z : List ℕ) → is_number (kind_of z) ≡ true → aside ≡ z → ⊥
    aside_unnumbered z numbered e = not_both (is_number (kind_of z)) numbered (subst (λ (y : List ℕ). is_number (kind_of y) ≡ false) e (rw aside_kind refl))

    -- what is known of the source while this message is held aside
    record Aside (own : List Deed) : Type 0 where
      lock : HasLock p own
      there : (z : List ℕ) → There (n + 1) z → is_number (kind_of z) ≡ true → Sees p z true own
      others : (x : List ℕ) → is_held (kind_of x) ≡ true → (x ≡ aside → ⊥) → (has_text x names ≡ true → WasDone (step.Unlink p x) own) → Sees p x false own
      listed : WasListed p names own
      safe : Synced path source own
      free : Free own

    aside_kept : (own : List Deed) (s : Step) (a : Answer) → MayAsk w own s → Quiet p s → NoCommit path s → LeavesBase p sequences_name s → Aside own → Aside (did s a ∷ own)
    aside_kept own s a may quiet none leaves f = record {
      lock = quiet_lock w p own s a quiet f.lock;
      there = λ z so numbered. quiet_sees w p own s a z true may quiet (number_stands z numbered) (f.there z so numbered);
      others = λ x held off gone. quiet_sees w p own s a x false may quiet (held_stands x held) (f.others x held off (λ listed. quiet_unlinked w p own s a x quiet held (gone listed)));
      listed = on f.listed;
      safe = synced_kept Of w path source own s a quiet none f.safe;
      free = free_kept own s a leaves none f.free;
    }

    -- it is held aside
    none_held : (own : List Deed) → At low own → TakesUnheld own (step.Rename p number aside) → SeesNoneHeld p own
    none_held own f unheld x held = f.0.0.held x held (λ listed. unheld p n (refl, number_kind, aside_held) names f.0.0.listed x held listed)

    above : (own : List Deed) → At low own → (z : List ℕ) (j : ℕ) → kind_of z ≡ Number j → n < j → IsUnmarkedIn w.run path source j own ⊎ Sees p z true own
    above own f z j kind lt = go (has listing j) refl
      where
        go : (b : Bool) → has listing j ≡ b → IsUnmarkedIn w.run path source j own ⊎ Sees p z true own
        go true e = inr (f.0.0.there z (j, kind, e, inl (omega (arith, le, lt))) (rw kind refl))
        go false e = inl (f.1 j e)

    take_so : (own : List Deed) → At low own → A own (step.Rename p number aside)
    take_so own f unheld = take_minds w.run path source Of own number aside n number_kind (is_taken_so w.run few n one) (none_held own f unheld) (above own f)

    taken : (own : List Deed) → At low own → Aside (did (step.Rename p number aside) answer.Done ∷ own)
    taken own f = record {
      lock = still (λ e. cc (e)) f.0.0.lock;
      there = λ z so numbered. minding.on (λ e. cc (e)) (λ t. touched z so numbered t.1) (f.0.0.there z (lower low (n + 1) (omega (arith, le)) z so) numbered);
      others = λ x held off gone. minding.on (λ e. cc (e)) (λ t. unheld x held off t.1) (f.0.0.held x held (λ listed. before x (gone listed)));
      listed = on f.0.0.listed;
      safe = λ sequence. apart.on (λ e. cc (e)) (λ temp e. cc (e)) (f.0.1 sequence);
      free = free_kept own (step.Rename p number aside) answer.Done (λ same named. aside_other named) (λ temp e. cc (e)) f.1;
    }
      where
        touched : (z : List ℕ) → There (n + 1) z → is_number (kind_of z) ≡ true → (number ≡ z) ⊎ (aside ≡ z) → ⊥
        touched z so numbered (inl e) = other z so e
        touched z so numbered (inr e) = aside_unnumbered z numbered e

        unheld : (x : List ℕ) → is_held (kind_of x) ≡ true → (x ≡ aside → ⊥) → (number ≡ x) ⊎ (aside ≡ x) → ⊥
        unheld x held off (inl e) = number_unheld x held e
        unheld x held off (inr e) = off (sym e)

        before : (x : List ℕ) → WasDone (step.Unlink p x) (did (step.Rename p number aside) answer.Done ∷ own) → WasDone (step.Unlink p x) own
        before x (now e) = let same = did_step e in absurd (cc (same))
        before x (on g) = g

    -- the destinations
    module _ (ns : List (List ℕ)) (off : (m : List ℕ) → Contains ns m → m ≡ source → ⊥) where
      abbrev Taken : List Destination → Outcome (List ℕ)
      Taken ds later j x = (x ≡ aside) × (Aside later × AllOpen w.run path ns ds later)

      taken_meets : (ds : List Destination) (own : List Deed) (h : Hand) → At low own → AllOpen w.run path ns ds own → M own h (number_taken w.run p n) (okay (Taken ds))
      unfolding number_taken renamed
      taken_meets ds own h f to =
          meets_then (MayAsk w) A own h (renamed p number aside) (λ moved. Return (Ok aside)) (λ later j u. Aside later × AllOpen w.run path ns ds later) (Taken ds)
          (meets_rename (MayAsk w) A own h of_stop (okay (λ later j u. Aside later × AllOpen w.run path ns ds later)) p number aside (held_to p number)
          (λ may. (
            take_so own f,
            meets_return (MayAsk w) A (did (step.Rename p number aside) answer.Done ∷ own) h tt (okay (λ later j u. Aside later × AllOpen w.run path ns ds later))
                (taken own f, all_open_kept w.run path ns ds own (step.Rename p number aside) answer.Done (λ m c same named. aside_other named) (λ t e. cc (e)) to),
            meets_end (MayAsk w) A (did (step.Rename p number aside) answer.Gone ∷ own) h (fault.Meddled p number) (λ later j u. Aside later × AllOpen w.run path ns ds later),
          )))
          (λ later j u g. meets_return (MayAsk w) A later j aside (okay (Taken ds)) (refl, g))

      -- it is let go
      gone_ : (own : List Deed) → Aside own → At (n + 1) (did (step.Unlink p aside) answer.Done ∷ own)
      gone_ own f = (
        (
          record {
            lock = still (λ e. cc (e)) f.lock;
            there = λ z so numbered. minding.on (λ e. cc (e)) (λ t. aside_unnumbered z numbered t.1) (f.there z so numbered);
            held = λ x held gone. by x held gone (bytes_eq x aside) refl;
            listed = on f.listed;
          },
          (λ sequence. apart.on (λ e. cc (e)) (λ temp e. cc (e)) (f.safe sequence)),
        ),
        free_kept own (step.Unlink p aside) answer.Done tt (λ temp e. cc (e)) f.free,
      )
        where
          unlinked_one : (x : List ℕ) → step.Unlink p aside ≡ step.Unlink p x → aside ≡ x
          unlinked_one x e = cc (e)

          before : (x : List ℕ) → (x ≡ aside → ⊥) → WasDone (step.Unlink p x) (did (step.Unlink p aside) answer.Done ∷ own) → WasDone (step.Unlink p x) own
          before x away (now e) = absurd (away (sym (unlinked_one x (did_step e))))
          before x away (on g) = g

          by : (x : List ℕ) → is_held (kind_of x) ≡ true → (has_text x names ≡ true → WasDone (step.Unlink p x) (did (step.Unlink p aside) answer.Done ∷ own)) → (b : Bool) → bytes_eq x aside ≡ b → Sees p x false (did (step.Unlink p aside) answer.Done ∷ own)
          by x held gone true e = subst (λ y. Sees p y false (did (step.Unlink p aside) answer.Done ∷ own)) (sym (bytes_true x aside e)) (unlinked refl f.lock)
          by x held gone false e = minding.on (λ u. cc (u)) (λ t. away (sym t.1)) (f.others x held away (λ listed. before x away (gone listed)))
            where
              away : x ≡ aside → ⊥
              away same = not_both (bytes_eq x aside) (subst (λ y. bytes_eq x y ≡ true) same (bytes_self x)) e

      abbrev Gone_ : List Destination → Outcome Unit
      Gone_ ds later j u = At (n + 1) later × AllOpen w.run path ns ds later

      safe_meets : (ds : List Destination) (own : List Deed) (h : Hand) → At (n + 1) own → AllOpen w.run path ns ds own → M own h (synced p aside) (okay (Gone_ ds))
      unfolding synced
      safe_meets ds own h f to =
          meets_sync_folder (MayAsk w) A own h of_stop (okay (Gone_ ds)) p (held_to p aside)
          (λ may. (
            (λ unheld. look_minds Of w.run own (step.SyncFolder p) tt),
            meets_return (MayAsk w) A (did (step.SyncFolder p) answer.Done ∷ own) h tt (okay (Gone_ ds)) (at_kept (n + 1) own (step.SyncFolder p) answer.Done may tt (λ t e. cc (e)) tt f, all_open_kept w.run path ns ds own (step.SyncFolder p) answer.Done (λ m c. tt) (λ t e. cc (e)) to),
            meets_end (MayAsk w) A (did (step.SyncFolder p) answer.Gone ∷ own) h (fault.Meddled p aside) (Gone_ ds),
          ))

      discarded_meets : (ds : List Destination) (own : List Deed) (h : Hand) → Aside own → AllOpen w.run path ns ds own → M own h (held_discarded p aside) (okay (Gone_ ds))
      unfolding held_discarded removed
      discarded_meets ds own h f to =
          meets_then (MayAsk w) A own h (removed p aside) (λ gone. synced p aside) (Gone_ ds) (Gone_ ds)
          (meets_unlink (MayAsk w) A own h of_stop (okay (Gone_ ds)) p aside (held_to p aside)
          (λ may. (
            (λ unheld. drop_minds Of w.run own p aside aside_held),
            meets_return (MayAsk w) A (did (step.Unlink p aside) answer.Done ∷ own) h tt (okay (Gone_ ds)) (gone_ own f, all_open_kept w.run path ns ds own (step.Unlink p aside) answer.Done (λ m c. tt) (λ t e. cc (e)) to),
            meets_end (MayAsk w) A (did (step.Unlink p aside) answer.Gone ∷ own) h (fault.Meddled p aside) (Gone_ ds),
          )))
          (λ later j u g. safe_meets ds later j g.0 g.1)

      -- it goes to all of them
      abbrev Went : Outcome (List Destination)
      Went later j ds = At (n + 1) later × AllOpen w.run path ns ds later

      unheld_too : (own : List Deed) (s : Step) → MindsAll Of w.run own s → A own s
      unheld_too own s f unheld = f

      abbrev further : List ℕ → List Destination → Commanded (List Destination)
      further held ds =
          lifted (of_plan source) (content_read p held) >>= (λ bytes. copied_to_all w.run bytes ds [] >>= (λ later. lifted (of_plan source) (held_discarded p held) >>= (λ gone. Return (Ok later))))

      sent : (ds : List Destination) (own : List Deed) (h : Hand) → Aside own → AllOpen w.run path ns ds own → M own h (further aside ds) (okay Went)
      sent ds own h f to =
          meets_then (MayAsk w) A own h (lifted (of_plan source) (content_read p aside)) (λ bytes. copied_to_all w.run bytes ds [] >>= (λ later. lifted (of_plan source) (held_discarded p aside) >>= (λ gone. Return (Ok later))))
          (λ later j (bytes : List ℕ). Aside later × AllOpen w.run path ns ds later) Went
          (meets_lifted (MayAsk w) A own h (of_plan source) (content_read p aside) (λ later j (bytes : List ℕ). Aside later × AllOpen w.run path ns ds later)
          (meets_weaker (MayAsk w) (MindsAll Of w.run) A unheld_too own h (content_read p aside) (okay (λ later j (bytes : List ℕ). Aside later × AllOpen w.run path ns ds later)) (content_meets Of w path source Aside aside_kept ns ds aside aside_other own h (f, to))))
          (λ first j bytes a.
          meets_then (MayAsk w) A first j (copied_to_all w.run bytes ds []) (λ later. lifted (of_plan source) (held_discarded p aside) >>= (λ gone. Return (Ok later))) (λ later k to_. Aside later × AllOpen w.run path ns to_ later) Went
          (meets_weaker (MayAsk w) (MindsAll Of w.run) A unheld_too first j (copied_to_all w.run bytes ds []) (okay (λ later k to_. Aside later × AllOpen w.run path ns to_ later)) (copies_meet Of w path source Aside aside_kept bytes ns [] ds [] off first j a.0 tt a.1))
          (λ second k to_ b.
          meets_then (MayAsk w) A second k (lifted (of_plan source) (held_discarded p aside)) (λ gone. Return (Ok to_)) (Gone_ to_) Went (meets_lifted (MayAsk w) A second k (of_plan source) (held_discarded p aside) (Gone_ to_) (discarded_meets to_ second k b.0 b.1))
          (λ third i u c. meets_return (MayAsk w) A third i to_ (okay Went) c)))

    refiled_meets : (ns : List (List ℕ)) (off : (m : List ℕ) → Contains ns m → m ≡ source → ⊥) (ds : List Destination) (own : List Deed) (h : Hand) → At low own → AllOpen w.run path ns ds own → M own h (message_refiled w.run source p n ds) (okay (Went ns off))
    unfolding message_refiled
    refiled_meets [] off [] own h f to = meets_return (MayAsk w) A own h [] (okay (Went [] off)) (at_higher low (n + 1) (omega (arith, le)) own f, tt)
    refiled_meets [] off (d ∷ ds) own h f to = absurd to
    refiled_meets (m ∷ ns) off [] own h f to = absurd to
    refiled_meets (m ∷ ns) off (d ∷ ds) own h f to =
        meets_then (MayAsk w) A own h (lifted (of_plan source) (number_taken w.run p n)) (λ held. further (m ∷ ns) off held (d ∷ ds)) (Taken (m ∷ ns) off (d ∷ ds)) (Went (m ∷ ns) off)
        (meets_lifted (MayAsk w) A own h (of_plan source) (number_taken w.run p n) (Taken (m ∷ ns) off (d ∷ ds)) (taken_meets (m ∷ ns) off (d ∷ ds) own h f to))
        (λ later j x g. subst (λ z. M later j (further (m ∷ ns) off z (d ∷ ds)) (okay (Went (m ∷ ns) off))) (sym g.0) (sent (m ∷ ns) off (d ∷ ds) later j g.1.0 g.1.1))

  -- all of them
  pub all_refiled_meet : (ns : List (List ℕ)) → ((m : List ℕ) → Contains ns m → m ≡ source → ⊥) → (numbers : List ℕ) (low : ℕ) → Rise low numbers → AreNumbers numbers → ((k : ℕ) → lists numbers k ≡ true → chosen k ≡ true) → (ds : List Destination) (own : List Deed) (h : Hand)
      → At low own → AllOpen w.run path ns ds own → M own h (messages_refiled w.run source p numbers ds) (okay (λ later j (x : List Destination). (high : ℕ) × At high later))
  unfolding messages_refiled
  all_refiled_meet ns off [] low rise valid are ds own h f to = meets_return (MayAsk w) A own h ds (okay (λ later j (x : List Destination). (high : ℕ) × At high later)) (low, f)
  all_refiled_meet ns off (n ∷ numbers) low rise valid are ds own h f to =
      meets_then (MayAsk w) A own h (message_refiled w.run source p n ds) (λ later. messages_refiled w.run source p numbers later) (λ later j x. At (n + 1) later × AllOpen w.run path ns x later) (λ later j (x : List Destination). (high : ℕ) × At high later)
      (refiled_meets low n rise.0 valid.0 (first_of {F = λ k. chosen k ≡ true} n numbers are) ns off ds own h f to)
      (λ later j x g. all_refiled_meet ns off numbers (n + 1) rise.1 valid.1 (rest_of {F = λ k. chosen k ≡ true} n numbers are) x later j g.0 g.1)
