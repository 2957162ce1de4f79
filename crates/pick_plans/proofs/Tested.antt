-- What comes of reading and testing messages.
use Rattle.std.proofs.Common.{◌≡◌, ◌++◌, ◌∷◌, ◌==◌, ◌||◌, [], ℕ, Bool, true, false, cond, List, Result, Ok, Err, refl, sym, ◌∙◌, ap, append_assoc, append-nil}
use Rattle.msg_ranges.proofs.Rising.{lists, first_listed, other_listed}
use Rattle.folder_files.specs.Deeds.{Deed, did}
use Rattle.folder_files.specs.declared.place.Place.{Place}
use Rattle.folder_files.specs.declared.step.Answer.TheVariants as answer
use Rattle.folder_files.specs.declared.step.Step.{Step}
use Rattle.folder_files.specs.declared.step.Step.TheVariants as step
use Rattle.file_plans.specs.Plan.{Hand}
use Rattle.file_plans.proofs.Framing.{AnyStep}
use Rattle.step_plans.specs.CommandFaults.{of_stop}
use Rattle.step_plans.specs.ContextCommit.{LIMIT_BYTES}
use Rattle.step_plans.specs.Pledges.{Pledge}
use Rattle.step_plans.specs.declared.command_fault.CommandFault.{CommandFault}
use Rattle.step_plans.specs.declared.command_fault.CommandFault.TheVariants as fault
use Rattle.step_plans.proofs.Coming.{Comes, comes_more, comes_read, comes_then, comes_to}
use Rattle.step_plans.proofs.Going.{Goes, Outcome, goes_more, goes_then, okay, okay_more}
use Rattle.step_plans.proofs.Lasting.{KeptBy}
use Rattle.step_plans.proofs.Stepping.{goes_end, goes_read, goes_return}
use Rattle.command_stages.specs.Texts.{too_large}
use Rattle.mh_looks.proofs.Ending.{comes_at, name_of}
use Rattle.opening_plans.proofs.AllMarks.{MindsAll, look_minds}
use Rattle.opening_plans.proofs.Meeting.{Meets, meets_end, meets_okay, meets_read, meets_return, meets_then}
use Rattle.pick_expr.specs.Picks.{picks}
use Rattle.pick_expr.specs.declared.expr.Expr.{Expr}
use Rattle.pick_plans.specs.Testing.{HaveTested, ReadMessage, after_reading, all_tested, kept_if, matching, numbers_in, one_tested, reading_of, tested_by}
use Rattle.told_folders.proofs.MessagesStand.{reading}

-- what each reading keeps of these, all of them keep
pub reading_kept : (place : Place) (F : List Deed → Type 0) (Fine : ℕ → Type 0) → ((own : List Deed) (n : ℕ) (text : List ℕ) → Fine n → F own → F (reading place n (answer.Content text) ∷ own)) → (ms : List ReadMessage)
    → ((n : ℕ) → lists (numbers_in ms) n ≡ true → Fine n) → (own : List Deed) → F own → F (after_reading place ms own)
reading_kept place F Fine keeps [] fine own f = f
reading_kept place F Fine keeps (m ∷ ms) fine own f =
    reading_kept place F Fine keeps ms (λ n e. fine n (other_listed m.number n (numbers_in ms) e)) (reading_of place m ∷ own) (keeps own m.number m.text (fine m.number (first_listed m.number (numbers_in ms))) f)

-- so does what each step keeps
pub reading_keeps : (place : Place) (P : Step → Type 0) (F : List Deed → Type 0) → KeptBy P F → ((x : List ℕ) → P (step.Read place x LIMIT_BYTES)) → (ms : List ReadMessage) (own : List Deed) → F own → F (after_reading place ms own)
reading_keeps place P F kept reads ms own f = reading_kept place F (λ n. Unit {0}) (λ before n text fine g. kept before (step.Read place (name_of n) LIMIT_BYTES) (answer.Content text) (reads (name_of n)) g) ms (λ n e. tt) own f

-- what was tested stays so
pub tested_kept : (place : Place) (expr : Expr) (numbers found : List ℕ) → KeptBy AnyStep (HaveTested place expr numbers found)
tested_kept place expr numbers found own s a any f = record { messages = f.messages; newer = did s a ∷ f.newer; older = f.older; seen = ap (λ z. did s a ∷ z) f.seen; all = f.all; matches = f.matches }

-- these messages were read and tested after these deeds, and those that match came behind others
pub record AreTested (place : Place) (expr : Expr) (found ns : List ℕ) (own later : List Deed) (all : List ℕ) : Type 0 where
  pub messages : List ReadMessage
  pub read : later ≡ after_reading place messages own
  pub numbers : numbers_in messages ≡ ns
  pub matches : all ≡ found ++ numbers_in (matching expr messages)

none_tested : (place : Place) (expr : Expr) (found : List ℕ) (own : List Deed) → AreTested place expr found [] own own found
none_tested place expr found own = record { messages = []; read = refl; numbers = refl; matches = sym (append-nil found) }

one_more : (b : Bool) (m : ReadMessage) (rest : List ReadMessage) → kept_if b m.number ++ numbers_in rest ≡ numbers_in (cond b (m ∷ rest) rest)
one_more true m rest = refl
one_more false m rest = refl

more_tested : (place : Place) (expr : Expr) (found : List ℕ) (n : ℕ) (text ns : List ℕ) (own later : List Deed) (all : List ℕ) → AreTested place expr (found ++ kept_if (picks expr text) n) ns (reading place n (answer.Content text) ∷ own) later all → AreTested place expr found (n ∷ ns) own later all
more_tested place expr found n text ns own later all t =
    let m : ReadMessage = record { number = n; text = text } in
    record {
      messages = m ∷ t.messages;
      read = t.read;
      numbers = ap (λ z. n ∷ z) t.numbers;
      matches = t.matches ∙ (append_assoc found (kept_if (picks expr text) n) (numbers_in (matching expr t.messages)) ∙ ap (λ z. found ++ z) (one_more (picks expr text) m (matching expr t.messages)));
    }

-- from the first on
pub tested_all : (place : Place) (expr : Expr) (ns all : List ℕ) (own later : List Deed) → AreTested place expr [] ns own later all → HaveTested place expr ns all later
tested_all place expr ns all own later t = record { messages = t.messages; newer = []; older = own; seen = t.read; all = t.numbers; matches = sym t.matches }

-- a message that is too long, or is gone, ends it
pub data Stopped (place : Place) (ns : List ℕ) (own : List Deed) : CommandFault → List Deed → Type 0 where
  too_long : (n l : ℕ) (ms : List ReadMessage) → Stopped place ns own (too_large l) (reading place n (answer.Long l) ∷ after_reading place ms own)
  is_gone : (n : ℕ) (ms : List ReadMessage) → lists ns n ≡ true → Stopped place ns own (fault.Meddled place (name_of n)) (reading place n answer.Gone ∷ after_reading place ms own)

first_stopped : (place : Place) (n : ℕ) (ns : List ℕ) (own : List Deed) (e : CommandFault) (later : List Deed) → Stopped place (n ∷ []) own e later → Stopped place (n ∷ ns) own e later
first_stopped place n ns own _ _ (too_long k l ms) = too_long k l ms
first_stopped place n ns own _ _ (is_gone k ms is) = is_gone k ms (or_first (n == k) (lists ns k) is)
  where
    or_first : (a b : Bool) → a || false ≡ true → a || b ≡ true
    or_first true b e = refl
    or_first false b e = cc (e)

later_stopped : (place : Place) (n : ℕ) (text ns : List ℕ) (own : List Deed) (e : CommandFault) (later : List Deed) → Stopped place ns (reading place n (answer.Content text) ∷ own) e later → Stopped place (n ∷ ns) own e later
later_stopped place n text ns own _ _ (too_long k l ms) = too_long k l (record { number = n; text = text } ∷ ms)
later_stopped place n text ns own _ _ (is_gone k ms is) = is_gone k (record { number = n; text = text } ∷ ms) (other_listed n k ns is)

module _ (place : Place) (expr : Expr) where
  -- one message
  abbrev One : ℕ → List Deed → Hand → Outcome Bool
  One n own h later j b = (text : List ℕ) × (b ≡ picks expr text) × (later ≡ reading place n (answer.Content text) ∷ own) × (j ≡ h)

  abbrev pub All : List ℕ → List ℕ → List Deed → Hand → Outcome (List ℕ)
  All found ns own h later j all = AreTested place expr found ns own later all × (j ≡ h)

  abbrev pub Ends : {A : Type 0} → List ℕ → List Deed → Outcome A → Outcome (Result A CommandFault)
  Ends ns own P later j (Ok a) = P later j a
  Ends ns own P later j (Err e) = Stopped place ns own e later

  one_comes : (n : ℕ) (own : List Deed) (h : Hand) → Comes own h (one_tested place expr n) (Ends (n ∷ []) own (One n own h))
  unfolding one_tested
  one_comes n own h =
      comes_read own h of_stop (Ends (n ∷ []) own (One n own h)) place (name_of n) LIMIT_BYTES (tested_by place expr n)
      (λ bytes. comes_to _ h (Ok (picks expr bytes)) (Ends (n ∷ []) own (One n own h)) (bytes, refl, refl, refl))
      (λ l. comes_to _ h (Err (too_large l)) (Ends (n ∷ []) own (One n own h)) (too_long n l []))
      (comes_to _ h (Err (fault.Meddled place (name_of n))) (Ends (n ∷ []) own (One n own h)) (is_gone n [] (first_listed n [])))

  pub all_comes : (found ns : List ℕ) (own : List Deed) (h : Hand) → Comes own h (all_tested place expr found ns) (Ends ns own (All found ns own h))
  unfolding all_tested
  all_comes found [] own h = comes_to own h (Ok found) (Ends [] own (All found [] own h)) (none_tested place expr found own, refl)
  all_comes found (n ∷ ns) own h =
      comes_then own h (one_tested place expr n) (λ matches. all_tested place expr (found ++ kept_if matches n) ns) (Ends (n ∷ []) own (One n own h)) (Ends (n ∷ ns) own (All found (n ∷ ns) own h)) (one_comes n own h)
      (λ later j b q. comes_at later (reading place n (answer.Content q.0) ∷ own) j h _ (Ends (n ∷ ns) own (All found (n ∷ ns) own h)) q.2 q.3 (then_all (λ f o. all_comes f ns o h) b q.0 q.1))
      (λ later j e q. first_stopped place n ns own e later q)
    where
      more : (text : List ℕ) (later : List Deed) (j : Hand) (r : Result (List ℕ) CommandFault) → Ends ns (reading place n (answer.Content text) ∷ own) (All (found ++ kept_if (picks expr text) n) ns (reading place n (answer.Content text) ∷ own) h) later j r
          → Ends (n ∷ ns) own (All found (n ∷ ns) own h) later j r
      more text later j (Ok all) q = (more_tested place expr found n text ns own later all q.0, q.1)
      more text later j (Err e) q = later_stopped place n text ns own e later q

      then_all : ((f : List ℕ) (o : List Deed) → Comes o h (all_tested place expr f ns) (Ends ns o (All f ns o h))) → (b : Bool) (text : List ℕ) → b ≡ picks expr text → Comes (reading place n (answer.Content text) ∷ own) h (all_tested place expr (found ++ kept_if b n) ns) (Ends (n ∷ ns) own (All found (n ∷ ns) own h))
      then_all rest b text is =
          rw is
          (comes_more (reading place n (answer.Content text) ∷ own) h (all_tested place expr (found ++ kept_if (picks expr text) n) ns) _ _ (more text) (rest (found ++ kept_if (picks expr text) n) (reading place n (answer.Content text) ∷ own)))

  -- as a command that pledges whatever
  module _ (w : Pledge) where
    one_goes : (n : ℕ) (own : List Deed) (h : Hand) → Goes w own h (one_tested place expr n) (okay (One n own h))
    unfolding one_tested
    one_goes n own h =
        goes_read w own h of_stop (okay (One n own h)) place (name_of n) LIMIT_BYTES (tested_by place expr n) (λ bytes. goes_return w _ h (picks expr bytes) (okay (One n own h)) (bytes, refl, refl, refl)) (λ l. goes_end w _ h (too_large l) (One n own h))
        (goes_end w _ h (fault.Meddled place (name_of n)) (One n own h))

    pub all_goes : (found ns : List ℕ) (own : List Deed) (h : Hand) → Goes w own h (all_tested place expr found ns) (okay (All found ns own h))
    unfolding all_tested
    all_goes found [] own h = goes_return w own h found (okay (All found [] own h)) (none_tested place expr found own, refl)
    all_goes found (n ∷ ns) own h =
        goes_then w own h (one_tested place expr n) (λ matches. all_tested place expr (found ++ kept_if matches n) ns) (One n own h) (All found (n ∷ ns) own h) (one_goes n own h)
        (λ later j b q. rw (q.1, q.2, q.3)
        (goes_more w _ h (all_tested place expr (found ++ kept_if (picks expr q.0) n) ns) (okay (All (found ++ kept_if (picks expr q.0) n) ns _ h)) (okay (All found (n ∷ ns) own h)) (okay_more (All (found ++ kept_if (picks expr q.0) n) ns _ h) (All found (n ∷ ns) own h) (λ last i all t. (more_tested place expr found n q.0 ns own last all t.0, t.1)))
        (all_goes (found ++ kept_if (picks expr q.0) n) ns (reading place n (answer.Content q.0) ∷ own) h)))

  -- and each step minds all marks, beside a fact that each reading keeps
  module _ (May : List Deed → Step → Type 0) (Of : List ℕ → Type 0) (run : ℕ) (F : List Deed → Type 0) (keeps : (own : List Deed) (n : ℕ) (text : List ℕ) → May own (step.Read place (name_of n) LIMIT_BYTES) → F own → F (reading place n (answer.Content text) ∷ own)) where
    abbrev pub Beside : {A : Type 0} → Outcome A → Outcome A
    Beside P later j a = P later j a × F later

    one_meets : (n : ℕ) (own : List Deed) (h : Hand) → F own → Meets May (MindsAll Of run) own h (one_tested place expr n) (okay (Beside (One n own h)))
    unfolding one_tested
    one_meets n own h f =
        meets_read May (MindsAll Of run) own h of_stop (okay (Beside (One n own h))) place (name_of n) LIMIT_BYTES (tested_by place expr n)
        (λ may. (
          look_minds Of run own (step.Read place (name_of n) LIMIT_BYTES) tt,
          (λ bytes. meets_return May (MindsAll Of run) _ h (picks expr bytes) (okay (Beside (One n own h))) ((bytes, refl, refl, refl), keeps own n bytes may f)),
          (λ l. meets_end May (MindsAll Of run) _ h (too_large l) (Beside (One n own h))),
          meets_end May (MindsAll Of run) _ h (fault.Meddled place (name_of n)) (Beside (One n own h)),
        ))

    pub all_meets : (found ns : List ℕ) (own : List Deed) (h : Hand) → F own → Meets May (MindsAll Of run) own h (all_tested place expr found ns) (okay (Beside (All found ns own h)))
    unfolding all_tested
    all_meets found [] own h f = meets_return May (MindsAll Of run) own h found (okay (Beside (All found [] own h))) ((none_tested place expr found own, refl), f)
    all_meets found (n ∷ ns) own h f =
        meets_then May (MindsAll Of run) own h (one_tested place expr n) (λ matches. all_tested place expr (found ++ kept_if matches n) ns) (Beside (One n own h)) (Beside (All found (n ∷ ns) own h)) (one_meets n own h f)
        (λ later j b q. then_all (λ f o g. all_meets f ns o h g) later j b q.0.0 q.0.1 q.0.2 q.0.3 q.1)
      where
        then_all : ((f_ : List ℕ) (o : List Deed) → F o → Meets May (MindsAll Of run) o h (all_tested place expr f_ ns) (okay (Beside (All f_ ns o h)))) → (later : List Deed) (j : Hand) (b : Bool) (text : List ℕ) → b ≡ picks expr text → later ≡ reading place n (answer.Content text) ∷ own → j ≡ h → F later
            → Meets May (MindsAll Of run) later j (all_tested place expr (found ++ kept_if b n) ns) (okay (Beside (All found (n ∷ ns) own h)))
        then_all rest later j b text is at same g =
            rw (is, same)
            (meets_okay May (MindsAll Of run) later h (all_tested place expr (found ++ kept_if (picks expr text) n) ns) (Beside (All (found ++ kept_if (picks expr text) n) ns later h)) (Beside (All found (n ∷ ns) own h))
            (λ last i all t. ((more_tested place expr found n text ns own last all (rw at at t.0.0), t.0.1), t.1))
            (rest (found ++ kept_if (picks expr text) n) later g))
