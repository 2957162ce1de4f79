-- How it ends that messages of a folder change places, and what shows it.
use Rattle.std.proofs.Common.{◌≡◌, ◌⊎◌, inl, inr, ◌<◌, ◌≤◌, ◌+◌, ◌-◌, ◌^◌, ◌++◌, ◌∷◌, [], max, ℕ, zero, suc, true, false, List, Option, Some, None, Result, Ok, Err, length, refl, sym, ◌∙◌, ap, subst, arith, append-nil, append_assoc}
use Rattle.std.specs.Prelude.{decimal}
use Rattle.std.specs.List.{last_or}
use Rattle.mh_base.specs.Entries.{entry_text, kind_of}
use Rattle.mh_base.specs.Numbers.{IsMsgNum}
use Rattle.mh_base.specs.declared.entry.Entry.TheVariants.{Held, Number}
use Rattle.mh_base.proofs.EntryKinds.{kind_of-entry_text}
use Rattle.folder_files.specs.Deeds.{Deed, did, last, now, still}
use Rattle.folder_files.specs.declared.place.Place.{Place}
use Rattle.folder_files.specs.declared.place.Place.TheVariants.{Folder}
use Rattle.folder_files.specs.declared.step.Answer.{Answer}
use Rattle.folder_files.specs.declared.step.Answer.TheVariants as answer
use Rattle.folder_files.specs.declared.step.Step.TheVariants as step
use Rattle.folder_files.proofs.Names.{not_both}
use Rattle.file_plans.specs.Plan.{Hand, Return, ◌>>=◌}
use Rattle.file_plans.proofs.Framing.{AnyStep, asks_any}
use Rattle.step_plans.specs.Locking.{removed}
use Rattle.step_plans.specs.PlanFaults.{of_stop}
use Rattle.step_plans.specs.Replacing.{held_to, renamed, synced}
use Rattle.step_plans.specs.declared.fault.PlanFault.{PlanFault}
use Rattle.step_plans.specs.declared.fault.PlanFault.TheVariants as fault
use Rattle.step_plans.proofs.Coming.{Comes, comes_framed, comes_more, comes_rename, comes_sync_folder, comes_then, comes_to, comes_unlink}
use Rattle.step_plans.proofs.Going.{Outcome}
use Rattle.step_plans.proofs.Lasting.{KeptBy}
use Rattle.held_messages.specs.Settle.{given_at, given_from, given_up, homed_name, synced_at}
use Rattle.message_puts.specs.Putting.{number_got}
use Rattle.message_puts.specs.Stored.{HasMetAt}
use Rattle.message_moves.specs.Moving.{number_taken}
use Rattle.opening_plans.specs.Endings.{HasMetIn, IsLastName, IsMeddledIn, PutsBackups, last_gone, met_gone}
use Rattle.opening_plans.proofs.CleanRuns.{Clean, clean_more, comes_link}
use Rattle.opening_plans.proofs.NamesKept.{backups_kept, last_kept, met_in_kept, other_renamed, other_unlinked, putting}
use Rattle.message_places.specs.Arranging.{all_dropped, all_given, all_taken, arranged, aside_name, dropped_for_good, dropped_safely, given, let_go_after, let_go_by}
use Rattle.message_places.specs.Places.{AreDistinct, AreMsgNums, froms, is_in, slots}
use Rattle.message_places.specs.declared.moves.Move.{Move}
use Rattle.message_places.proofs.ArrangedGiven.{last_none}
use Rattle.message_places.proofs.NumberLists.{in_cases, in_good, in_head, in_tail}
use Rattle.refile_plans.proofs.RmmEnds.{number_names}
use Rattle.mh_base.proofs.NumberTests.{greater_is}

-- that the last number is taken lasts, and is so where a link met it
module _ (run : ℕ) (few : run < 2 ^ 128) (path folder : List ℕ) (Top : List Deed → Type 0) (lasts : KeptBy AnyStep Top) (tops : (own : List Deed) → HasMetAt (Folder path folder) 999999 own → Top own) where
  abbrev p : Place
  p = Folder path folder

  abbrev aside : ℕ → List ℕ
  aside n = aside_name run n

  abbrev number : ℕ → List ℕ
  number n = entry_text (Number n)

  -- what shows each fault
  abbrev pub ShowsMoved : PlanFault → List Deed → Type 0
  ShowsMoved fault.Faulted own = ⊥
  ShowsMoved (fault.Locked q) own = ⊥
  ShowsMoved (fault.Meddled q x) own = IsMeddledIn run q x own
  ShowsMoved fault.Full own = Top own
  ShowsMoved (fault.Absent q) own = ⊥
  ShowsMoved (fault.TooLarge l) own = ⊥
  ShowsMoved fault.Memory own = ⊥

  abbrev pub MovedSo : {A : Type 0} → Outcome A → Outcome (Result A PlanFault)
  MovedSo P later j (Ok a) = P later j a
  MovedSo P later j (Err e) = ShowsMoved e later

  -- the run is clean, and has put no name there that isn't safe
  pub record Calm (own : List Deed) (h : Hand) : Type 0 where
    pub clean : Clean run own h
    pub safe : PutsBackups p own

  -- names of different messages are different
  held_kind : (n : ℕ) → IsMsgNum n → kind_of (aside n) ≡ Held run n
  held_kind n ok = kind_of-entry_text (Held run n) (few, ok)

  same_held : (n k : ℕ) → IsMsgNum n → IsMsgNum k → aside n ≡ aside k → n ≡ k
  same_held n k one other e = let same : Held run n ≡ Held run k = sym (held_kind n one) ∙ (ap kind_of e ∙ held_kind k other) in cc (same)

  number_held : (n k : ℕ) → IsMsgNum n → IsMsgNum k → number n ≡ aside k → ⊥
  number_held n k one other e = absurd (let same : Number n ≡ Held run k = sym (kind_of-entry_text (Number n) one) ∙ (ap kind_of e ∙ held_kind k other) in cc (same))

  apart_of : (n k : ℕ) (ns : List ℕ) → is_in n ns ≡ false → is_in k ns ≡ true → n ≡ k → ⊥
  apart_of n k ns off i e = not_both (is_in k ns) i (subst (λ z. is_in z ns ≡ false) e off)

  module _ (takes : List ℕ) (good : AreMsgNums takes) where
    -- each is held aside
    abbrev AllHeld : List Deed → Type 0
    AllHeld own = (k : ℕ) → is_in k takes ≡ true → HasMetIn p (aside k) own

    -- those that are left stand at their numbers, and the others are held aside
    record Taking (left : List ℕ) (own : List Deed) (h : Hand) : Type 0 where
      clean : Clean run own h
      numbers : (k : ℕ) → is_in k left ≡ true → HasMetIn p (number k) own
      each : (k : ℕ) → is_in k takes ≡ true → (is_in k left ≡ true) ⊎ HasMetIn p (aside k) own

    module _ (n : ℕ) (left : List ℕ) (ok : AreMsgNums (n ∷ left)) (distinct : AreDistinct (n ∷ left)) where
      took : (own : List Deed) (h : Hand) → Taking (n ∷ left) own h → Taking left (did (step.Rename p (number n) (aside n)) answer.Done ∷ own) h
      took own h f = record {
        clean = clean_more run own h (step.Rename p (number n) (aside n)) answer.Done (λ e. cc (e)) tt f.clean;
        numbers = λ k i.
            still (other_renamed p (number n) (aside n) (number k) answer.Done (λ same. apart_of n k left distinct.0 i (number_names n k ok.0 (in_good left ok.1 k i) same)))
            (f.numbers k (in_tail n k left i));
        each = λ k i. each_on k i (f.each k i);
      }
        where
          each_on : (k : ℕ) → is_in k takes ≡ true → (is_in k (n ∷ left) ≡ true) ⊎ HasMetIn p (aside k) own → (is_in k left ≡ true) ⊎ HasMetIn p (aside k) (did (step.Rename p (number n) (aside n)) answer.Done ∷ own)
          each_on k i (inl l) = in_cases (λ z. (is_in z left ≡ true) ⊎ HasMetIn p (aside z) (did (step.Rename p (number n) (aside n)) answer.Done ∷ own)) n k left l (inr (last (inr (inl (inr (inr (number n, refl))))))) (λ there. inl there)
          each_on k i (inr h) = inr (still (other_renamed p (number n) (aside n) (aside k) answer.Done (λ same. number_held n k ok.0 (in_good takes good k i) same)) h)

      take_comes : (own : List Deed) (h : Hand) → Taking (n ∷ left) own h → Comes own h (number_taken run p n) (MovedSo (λ later j name. Taking left later j))
      unfolding number_taken renamed
      take_comes own h f =
          comes_then own h (renamed p (number n) (aside n)) (λ moved. Return (Ok (aside n))) (MovedSo (λ later j u. Taking left later j)) (MovedSo (λ later j name. Taking left later j))
          (comes_rename own h of_stop (MovedSo (λ later j u. Taking left later j)) p (number n) (aside n) (held_to p (number n)) (comes_to _ h (Ok tt) (MovedSo (λ later j u. Taking left later j)) (took own h f))
          (comes_to _ h (Err (fault.Meddled p (number n))) (MovedSo (λ later j u. Taking left later j)) (met_gone (inl (inr (inr (inr (aside n, refl))))) (f.numbers n (in_head n left)))))
          (λ later j u g. comes_to later j (Ok (aside n)) (MovedSo (λ last_ i name. Taking left last_ i)) g) (λ later j e g. g)

    takes_come : (left : List ℕ) → AreMsgNums left → AreDistinct left → (own : List Deed) (h : Hand) → Taking left own h → Comes own h (all_taken run p left) (MovedSo (λ later j u. Taking [] later j))
    unfolding all_taken
    takes_come [] ok distinct own h f = comes_to own h (Ok tt) (MovedSo (λ later j u. Taking [] later j)) f
    takes_come (n ∷ left) ok distinct own h f =
        comes_then own h (number_taken run p n) (λ held. all_taken run p left) (MovedSo (λ later j name. Taking left later j)) (MovedSo (λ later j u. Taking [] later j)) (take_comes n left ok distinct own h f)
        (λ later j name g. takes_come left ok.1 distinct.1 later j g) (λ later j e g. g)

    all_held : (own : List Deed) (h : Hand) → Taking [] own h → AllHeld own
    all_held own h f k i = go (f.each k i)
      where
        go : (is_in k [] ≡ true) ⊎ HasMetIn p (aside k) own → HasMetIn p (aside k) own
        go (inl l) = absurd (cc (l))
        go (inr g) = g

    -- no number above this one is left where the last is taken
    abbrev pub Topped : List Deed → ℕ → Type 0
    Topped own top = (top ≤ 999999) × (top ≡ 999999 → Top own)

    topped_kept : (top : ℕ) → KeptBy AnyStep (λ own. Topped own top)
    topped_kept top own s a any f = (f.0, λ e. lasts own s a any (f.1 e))

    -- one is given a number
    record Gave (m : ℕ) (own : List Deed) (h : Hand) : Type 0 where
      clean : Clean run own h
      held : AllHeld own
      latest : IsLastName p (decimal m) own
      ok : IsMsgNum m
      met : HasMetAt p m own

    module _ (n : ℕ) (is : is_in n takes ≡ true) where
      abbrev giving : ℕ → Answer → Deed
      giving k a = did (step.Link p (aside n) (decimal k)) a

      record Linking (own : List Deed) (h : Hand) : Type 0 where
        clean : Clean run own h
        held : AllHeld own

      met_one : (k : ℕ) (own : List Deed) (h : Hand) → Linking own h → Linking (giving k answer.Exists ∷ own) h
      met_one k own h f = record {
        clean = clean_more run own h (step.Link p (aside n) (decimal k)) answer.Exists (λ e. cc (e)) tt f.clean;
        held = λ i there. met_in_kept p (aside i) (step.Link p (aside n) (decimal k)) answer.Exists own (λ t. t) (f.held i there);
      }

      gave_one : (k : ℕ) (own : List Deed) (h : Hand) → IsMsgNum k → Linking own h → Gave k (giving k answer.Done ∷ own) h
      gave_one k own h ok f = record {
        clean = clean_more run own h (step.Link p (aside n) (decimal k)) answer.Done (λ e. cc (e)) tt f.clean;
        held = λ i there. met_in_kept p (aside i) (step.Link p (aside n) (decimal k)) answer.Done own (λ t. t) (f.held i there);
        latest = last (inr (inl (aside n, refl)));
        ok = ok;
        met = now (aside n, inl refl);
      }

      taken_tops : (k : ℕ) (own : List Deed) → IsMsgNum k → Topped (giving k answer.Exists ∷ own) k
      taken_tops k own ok = (ok.1, λ e. tops _ (now (aside n, inr (ap (λ i. giving i answer.Exists) e))))

      abbrev GaveSome : Outcome (Option ℕ)
      GaveSome later j None = Top later
      GaveSome later j (Some m) = Gave m later j

      up_comes : (left k : ℕ) → 1 ≤ k → k + left ≡ 1000000 → (own : List Deed) (h : Hand) → (k ≡ 1000000 → Top own) → Linking own h → Comes own h (given_up p (aside n) k left) (MovedSo GaveSome)
      unfolding given_up
      up_comes zero k one range own h reached f = comes_to own h (Ok None) (MovedSo GaveSome) (reached (omega (arith, range)))
      up_comes (suc left) k one range own h reached f =
          comes_link own h of_stop (MovedSo GaveSome) p (aside n) (decimal k) (λ e. given_at p (aside n) k e (given_up p (aside n) (k + 1) left)) (comes_to _ h (Ok (Some k)) (MovedSo GaveSome) (gave_one k own h (one, omega (arith, range)) f))
          (up_comes left (k + 1) (omega arith) (omega (arith, range)) (giving k answer.Exists ∷ own) h (λ e. (taken_tops k own (one, omega (arith, range))).1 (let same : k ≡ 999999 = omega (arith, e) in same)) (met_one k own h f))
          (comes_to _ h (Err (fault.Meddled p (aside n))) (MovedSo GaveSome) (met_gone (inr (decimal k, refl)) (f.held n is)))

      from_comes : (top : ℕ) (own : List Deed) (h : Hand) → Topped own top → Linking own h → Comes own h (given_from p (aside n) (top + 1)) (MovedSo GaveSome)
      from_comes top own h topped f = let low = topped.0 in up_comes (1000000 - (top + 1)) (top + 1) (omega arith) (omega (arith, low)) own h (λ e. topped.1 (omega (arith, e))) f

      home_comes : (slot top : ℕ) → IsMsgNum slot → (own : List Deed) (h : Hand) → Topped own top → Linking own h → Comes own h (homed_name p (aside n) slot top) (MovedSo GaveSome)
      home_comes slot top ok own h topped f =
          comes_link own h of_stop (MovedSo GaveSome) p (aside n) (decimal slot) (λ e. given_at p (aside n) slot e (given_from p (aside n) (max slot top + 1))) (comes_to _ h (Ok (Some slot)) (MovedSo GaveSome) (gave_one slot own h ok f))
          (from_comes (max slot top) (giving slot answer.Exists ∷ own) h
          (greater_is (λ k. Topped (giving slot answer.Exists ∷ own) k) slot top (taken_tops slot own ok) (topped_kept top own (step.Link p (aside n) (decimal slot)) answer.Exists tt topped)) (met_one slot own h f))
          (comes_to _ h (Err (fault.Meddled p (aside n))) (MovedSo GaveSome) (met_gone (inr (decimal slot, refl)) (f.held n is)))

      given_comes : (slot top : ℕ) → IsMsgNum slot → (own : List Deed) (h : Hand) → Topped own top → Linking own h → Comes own h (given run p (record { from = n; slot = slot }) top) (MovedSo (λ later j m. Gave m later j))
      unfolding given
      given_comes slot top ok own h topped f =
          comes_then own h (homed_name p (aside n) slot top) number_got (MovedSo GaveSome) (MovedSo (λ later j m. Gave m later j)) (home_comes slot top ok own h topped f) got (λ later j e g. g)
        where
          got : (later : List Deed) (j : Hand) (end : Option ℕ) → GaveSome later j end → Comes later j (number_got end) (MovedSo (λ last_ i m. Gave m last_ i))
          got later j None g = comes_to later j (Err fault.Full) (MovedSo (λ last_ i m. Gave m last_ i)) g
          got later j (Some m) g = comes_to later j (Ok m) (MovedSo (λ last_ i k. Gave k last_ i)) g

    -- this is the last name that was put there, where any was
    abbrev LastOf : Option ℕ → List Deed → Type 0
    LastOf None own = Unit {0}
    LastOf (Some n) own = IsLastName p (decimal n) own

    record GaveAll (o : Option ℕ) (ms : List Move) (before all : List ℕ) (own : List Deed) (h : Hand) : Type 0 where
      ends : List ℕ
      all_so : all ≡ before ++ ends
      many : length ends ≡ length ms
      latest : LastOf (last_or o ends) own
      clean : Clean run own h
      held : AllHeld own

    gives_come : (ms : List Move) → ((k : ℕ) → is_in k (froms ms) ≡ true → is_in k takes ≡ true) → AreMsgNums (slots ms) → (o : Option ℕ) (top : ℕ) (before : List ℕ) (own : List Deed) (h : Hand) → LastOf o own → Topped own top → Clean run own h → AllHeld own
        → Comes own h (all_given run p ms top before) (MovedSo (λ later j all. GaveAll o ms before all later j))
    unfolding all_given
    gives_come [] among ss o top before own h latest topped clean held = comes_to own h (Ok before) (MovedSo (λ later j all. GaveAll o [] before all later j)) (record { ends = []; all_so = sym (append-nil before); many = refl; latest = latest; clean = clean; held = held })
    gives_come (m ∷ ms) among ss o top before own h latest topped clean held =
        comes_then own h (given run p m top) (λ end. all_given run p ms (max end top) (before ++ end ∷ [])) (MovedSo (λ later j n. Gave n later j × Topped later top)) (MovedSo (λ later j all. GaveAll o (m ∷ ms) before all later j))
        first
        (λ later j n g.
        comes_more later j (all_given run p ms (max n top) (before ++ n ∷ [])) (MovedSo (λ last_ i all. GaveAll (Some n) ms (before ++ n ∷ []) all last_ i)) (MovedSo (λ last_ i all. GaveAll o (m ∷ ms) before all last_ i)) (more n)
        (gives_come ms (λ k e. among k (in_tail m.from k (froms ms) e)) ss.1 (Some n) (max n top) (before ++ n ∷ []) later j g.0.latest
        (greater_is (λ k. Topped later k) n top (g.0.ok.1, λ e. tops later (subst (λ k. HasMetAt p k later) e g.0.met)) g.1) g.0.clean g.0.held))
        (λ later j e g. g)
      where
        top_on : (later : List Deed) (j : Hand) (r : Result ℕ PlanFault) → Topped later top × MovedSo (λ last_ i n. Gave n last_ i) later j r → MovedSo (λ last_ i n. Gave n last_ i × Topped last_ top) later j r
        top_on later j (Ok n) g = (g.1, g.0)
        top_on later j (Err e) g = g.1

        first : Comes own h (given run p m top) (MovedSo (λ later j n. Gave n later j × Topped later top))
        first =
            comes_more own h (given run p m top) (λ later j r. Topped later top × MovedSo (λ last_ i n. Gave n last_ i) later j r) (MovedSo (λ later j n. Gave n later j × Topped later top)) top_on
            (comes_framed AnyStep (λ later. Topped later top) (topped_kept top) own h (given run p m top) (MovedSo (λ last_ i n. Gave n last_ i)) (asks_any (given run p m top)) topped
            (given_comes m.from (among m.from (in_head m.from (froms ms))) m.slot top ss.0 own h topped (record { clean = clean; held = held })))

        more : (n : ℕ) (last_ : List Deed) (i : Hand) (r : Result (List ℕ) PlanFault) → MovedSo (λ end k all. GaveAll (Some n) ms (before ++ n ∷ []) all end k) last_ i r → MovedSo (λ end k all. GaveAll o (m ∷ ms) before all end k) last_ i r
        more n last_ i (Ok all) g = record { ends = n ∷ g.ends; all_so = g.all_so ∙ append_assoc before (n ∷ []) g.ends; many = ap suc g.many; latest = g.latest; clean = g.clean; held = g.held }
        more n last_ i (Err e) g = g

    -- the folder is made safe, and the held names go
    module _ (n : ℕ) where
      record Dropping (left : List Move) (own : List Deed) (h : Hand) : Type 0 where
        clean : Clean run own h
        safe : PutsBackups p own
        latest : IsLastName p (decimal n) own
        held : (k : ℕ) → is_in k (froms left) ≡ true → HasMetIn p (aside k) own

      drops_come : (left : List Move) → AreMsgNums (froms left) → AreDistinct (froms left) → (own : List Deed) (h : Hand) → Dropping left own h → Comes own h (all_dropped run p left) (MovedSo (λ later j u. Dropping [] later j))
      unfolding all_dropped removed
      drops_come [] ok distinct own h f = comes_to own h (Ok tt) (MovedSo (λ later j u. Dropping [] later j)) f
      drops_come (m ∷ left) ok distinct own h f =
          comes_then own h (removed p (aside m.from)) (λ gone. all_dropped run p left) (MovedSo (λ later j u. Dropping left later j)) (MovedSo (λ later j u. Dropping [] later j))
          (comes_unlink own h of_stop (MovedSo (λ later j u. Dropping left later j)) p (aside m.from) (held_to p (aside m.from)) (comes_to _ h (Ok tt) (MovedSo (λ later j u. Dropping left later j)) (record {
            clean = clean_more run own h (step.Unlink p (aside m.from)) answer.Done (λ e. cc (e)) tt f.clean;
            safe = backups_kept p (step.Unlink p (aside m.from)) answer.Done own (λ y w. putting p y (step.Unlink p (aside m.from)) answer.Done w) f.safe;
            latest = last_kept p (decimal n) (step.Unlink p (aside m.from)) answer.Done own (λ y w. putting p y (step.Unlink p (aside m.from)) answer.Done w) f.latest;
            held = λ k i. still (other_unlinked p (aside m.from) (aside k) answer.Done (λ same. apart_of m.from k (froms left) distinct.0 i (same_held m.from k ok.0 (in_good (froms left) ok.1 k i) same))) (f.held k (in_tail m.from k (froms left) i));
          }))
          (comes_to _ h (Err (fault.Meddled p (aside m.from))) (MovedSo (λ later j u. Dropping left later j)) (met_gone (inl (inr (inr (inl refl)))) (f.held m.from (in_head m.from (froms left))))))
          (λ later j u g. drops_come left ok.1 distinct.1 later j g) (λ later j e g. g)

      module _ (ms : List Move) (ok : AreMsgNums (froms ms)) (distinct : AreDistinct (froms ms)) where
        for_good : (own : List Deed) (h : Hand) → Dropping ms own h → Comes own h (dropped_for_good run p ms n) (MovedSo (λ later j u. Calm later j))
        unfolding dropped_for_good synced
        for_good own h f =
            comes_then own h (all_dropped run p ms) (λ u. synced_at p n) (MovedSo (λ later j u. Dropping [] later j)) (MovedSo (λ later j u. Calm later j)) (drops_come ms ok distinct own h f)
            (λ later j u g.
            comes_sync_folder later j of_stop (MovedSo (λ last_ i v. Calm last_ i)) p (held_to p (decimal n))
            (comes_to _ j (Ok tt) (MovedSo (λ last_ i v. Calm last_ i)) (record { clean = clean_more run later j (step.SyncFolder p) answer.Done (λ e. cc (e)) tt g.clean; safe = last (inr refl) }))
            (comes_to _ j (Err (fault.Meddled p (decimal n))) (MovedSo (λ last_ i v. Calm last_ i)) (last_gone g.latest)))
            (λ later j e g. g)

        safely : (own : List Deed) (h : Hand) → Clean run own h → IsLastName p (decimal n) own → ((k : ℕ) → is_in k (froms ms) ≡ true → HasMetIn p (aside k) own) → Comes own h (dropped_safely run p ms n) (MovedSo (λ later j u. Calm later j))
        unfolding dropped_safely synced
        safely own h clean latest held =
            comes_then own h (synced_at p n) (λ u. dropped_for_good run p ms n) (MovedSo (λ later j u. Dropping ms later j)) (MovedSo (λ later j u. Calm later j))
            (comes_sync_folder own h of_stop (MovedSo (λ later j u. Dropping ms later j)) p (held_to p (decimal n)) (comes_to _ h (Ok tt) (MovedSo (λ later j u. Dropping ms later j)) (record {
              clean = clean_more run own h (step.SyncFolder p) answer.Done (λ e. cc (e)) tt clean;
              safe = last (inr refl);
              latest = last_kept p (decimal n) (step.SyncFolder p) answer.Done own (λ y w. putting p y (step.SyncFolder p) answer.Done w) latest;
              held = λ k i. met_in_kept p (aside k) (step.SyncFolder p) answer.Done own (λ t. t) (held k i);
            }))
            (comes_to _ h (Err (fault.Meddled p (decimal n))) (MovedSo (λ later j u. Dropping ms later j)) (last_gone latest)))
            (λ later j u g. for_good later j g) (λ later j e g. g)

    let_go_comes : (ms : List Move) → AreMsgNums (froms ms) → AreDistinct (froms ms) → ((k : ℕ) → is_in k (froms ms) ≡ true → is_in k takes ≡ true) → (o : Option ℕ) → (o ≡ None → ⊥) → (own : List Deed) (h : Hand) → LastOf o own → Clean run own h → AllHeld own
        → Comes own h (let_go_by run p ms o) (MovedSo (λ later j u. Calm later j))
    let_go_comes ms ok distinct among None some own h latest clean held = absurd (some refl)
    let_go_comes ms ok distinct among (Some n) some own h latest clean held = safely n ms ok distinct own h clean latest (λ k i. held k (among k i))

  some_last : (ends : List ℕ) (n : ℕ) → length ends ≡ suc n → last_or None ends ≡ None → ⊥
  some_last ends n many e = absurd (let none : ends ≡ [] = last_none ends e in let zero_so : 0 ≡ suc n = sym (ap length none) ∙ many in cc (zero_so))

  -- messages of a folder change places, some at least: each was met before, and no number above the highest is left where the last is taken
  pub arranged_comes : (takes : List ℕ) → AreMsgNums takes → AreDistinct takes → (m : Move) (ms : List Move) → AreMsgNums (froms (m ∷ ms)) → AreDistinct (froms (m ∷ ms)) → AreMsgNums (slots (m ∷ ms)) → ((k : ℕ) → is_in k (froms (m ∷ ms)) ≡ true → is_in k takes ≡ true)
      → (top : ℕ) (own : List Deed) (h : Hand) → top ≤ 999999 → (top ≡ 999999 → Top own) → Clean run own h → ((k : ℕ) → is_in k takes ≡ true → HasMetIn p (number k) own)
      → Comes own h (arranged run p takes (m ∷ ms) top) (MovedSo (λ later j ends. Calm later j))
  unfolding arranged
  arranged_comes takes good distinct m ms fs fd ss among top own h small full clean met =
      comes_then own h (all_taken run p takes) (λ u. all_given run p (m ∷ ms) top [] >>= (λ ends. let_go_after run p (m ∷ ms) ends >>= (λ u. Return (Ok ends)))) (MovedSo (λ later j u. Taking takes good [] later j × (top ≡ 999999 → Top later))) (MovedSo (λ later j ends. Calm later j))
      taken
      (λ first i u t.
      comes_then first i (all_given run p (m ∷ ms) top []) (λ ends. let_go_after run p (m ∷ ms) ends >>= (λ u. Return (Ok ends))) (MovedSo (λ later j all. GaveAll takes good None (m ∷ ms) [] all later j)) (MovedSo (λ later j ends. Calm later j))
      (gives_come takes good (m ∷ ms) among ss None top [] first i tt (small, t.1) t.0.clean (all_held takes good first i t.0))
      (λ second j all g.
      subst (λ es. Comes second j (let_go_after run p (m ∷ ms) es >>= (λ u. Return (Ok es))) (MovedSo (λ later k ends. Calm later k))) (sym g.all_so)
      (comes_then second j (let_go_after run p (m ∷ ms) g.ends) (λ u. Return (Ok g.ends)) (MovedSo (λ later k u. Calm later k)) (MovedSo (λ later k ends. Calm later k))
      (let_go_comes takes good (m ∷ ms) fs fd among (last_or None g.ends) (some_last g.ends (length ms) g.many) second j g.latest g.clean g.held)
      (λ last_ k v f. comes_to last_ k (Ok g.ends) (MovedSo (λ end l ends. Calm end l)) f) (λ last_ k e f. f)))
      (λ second j e g. g))
      (λ first i e t. t)
    where
      full_on : (later : List Deed) (j : Hand) (r : Result Unit PlanFault) → (top ≡ 999999 → Top later) × MovedSo (λ last_ i u. Taking takes good [] last_ i) later j r → MovedSo (λ last_ i u. Taking takes good [] last_ i × (top ≡ 999999 → Top last_)) later j r
      full_on later j (Ok u) g = (g.1, g.0)
      full_on later j (Err e) g = g.1

      taken : Comes own h (all_taken run p takes) (MovedSo (λ later j u. Taking takes good [] later j × (top ≡ 999999 → Top later)))
      taken =
          comes_more own h (all_taken run p takes) (λ later j r. (top ≡ 999999 → Top later) × MovedSo (λ last_ i u. Taking takes good [] last_ i) later j r) (MovedSo (λ later j u. Taking takes good [] later j × (top ≡ 999999 → Top later))) full_on
          (comes_framed AnyStep (λ later. top ≡ 999999 → Top later) (λ o s a any f e. lasts o s a any (f e)) own h (all_taken run p takes) (MovedSo (λ last_ i u. Taking takes good [] last_ i)) (asks_any (all_taken run p takes)) full
          (takes_come takes good takes good distinct own h (record { clean = clean; numbers = met; each = λ k e. inl e })))
