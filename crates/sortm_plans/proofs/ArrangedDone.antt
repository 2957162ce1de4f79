-- What was done with each message once messages have changed places.
use Rattle.std.proofs.Common.{◌≡◌, ◌+◌, ◌-◌, ◌<◌, ◌^◌, ◌++◌, ◌∷◌, [], max, ℕ, zero, suc, true, List, Option, Some, None, Result, Ok, Err, refl, sym, ◌∙◌, subst, append-nil, append_assoc}
use Rattle.std.specs.Prelude.{decimal}
use Rattle.std.specs.List.{last_or}
use Rattle.mh_base.specs.Entries.{entry_text}
use Rattle.mh_base.specs.declared.entry.Entry.TheVariants.{Number}
use Rattle.folder_files.specs.Careful.{WasTaken}
use Rattle.folder_files.specs.Deeds.{Deed, Once, did, now, on}
use Rattle.folder_files.specs.declared.place.Place.{Place}
use Rattle.folder_files.specs.declared.step.Answer.TheVariants as answer
use Rattle.folder_files.specs.declared.step.Step.TheVariants as step
use Rattle.file_plans.specs.Plan.{Hand, Return, ◌>>=◌}
use Rattle.file_plans.proofs.Framing.{AnyStep, asks_any}
use Rattle.step_plans.specs.Locking.{removed}
use Rattle.step_plans.specs.PlanFaults.{Planned, of_stop}
use Rattle.step_plans.specs.Replacing.{held_to, renamed, synced}
use Rattle.step_plans.specs.declared.fault.PlanFault.{PlanFault}
use Rattle.step_plans.specs.declared.fault.PlanFault.TheVariants as fault
use Rattle.step_plans.proofs.Coming.{Comes, comes_framed, comes_more, comes_rename, comes_sync_folder, comes_then, comes_to, comes_unlink}
use Rattle.step_plans.proofs.Going.{Outcome, okay}
use Rattle.step_plans.proofs.Lasting.{KeptBy}
use Rattle.held_messages.specs.Settle.{given_at, given_from, given_up, homed_name, synced_at}
use Rattle.message_puts.specs.Putting.{number_got}
use Rattle.message_moves.specs.Moving.{number_taken}
use Rattle.message_moves.proofs.MovePledged.{is_taken_so}
use Rattle.opening_plans.proofs.CleanRuns.{comes_link}
use Rattle.message_places.specs.Arranging.{all_dropped, all_given, all_taken, arranged, aside_name, dropped_for_good, dropped_safely, given, let_go_after, let_go_by}
use Rattle.message_places.specs.Moved.{AllMoved, HasMoved, IsGivenTo}
use Rattle.message_places.specs.Places.{AreMsgNums, froms, is_in}
use Rattle.message_places.specs.declared.moves.Move.{Move}
use Rattle.message_places.proofs.ArrangedGiven.{last_none}
use Rattle.message_places.proofs.ArrangedPledged.{moved_kept}
use Rattle.message_places.proofs.NumberLists.{in_cases, in_head, in_tail}
use Rattle.sortm_plans.specs.MovesDone.{AllSettled}

-- a part beside a fact that each step keeps
pub comes_lasting : {A : Type 0} (F : List Deed → Type 0) → KeptBy AnyStep F → (own : List Deed) (h : Hand) (p : Planned A) (P : Outcome A) → F own → Comes own h p (okay P) → Comes own h p (okay (λ later j a. F later × P later j a))
comes_lasting {A = A} F keeps own h p P f g = comes_more own h p (λ later j r. F later × okay P later j r) (okay (λ later j a. F later × P later j a)) both (comes_framed AnyStep F keeps own h p (okay P) (asks_any p) f g)
  where
    both : (later : List Deed) (j : Hand) (r : Result A PlanFault) → F later × okay P later j r → okay (λ last i a. F last × P last i a) later j r
    both later j (Ok a) q = q
    both later j (Err e) q = tt

module _ (run : ℕ) (few : run < 2 ^ 128) (p : Place) where
  abbrev aside : ℕ → List ℕ
  aside n = aside_name run n

  -- all are held aside
  abbrev WereTaken : List ℕ → List Deed → Type 0
  WereTaken ns own = (k : ℕ) → is_in k ns ≡ true → WasTaken run p (aside k) own

  taken_kept : (ns : List ℕ) → KeptBy AnyStep (WereTaken ns)
  taken_kept ns own s a any f k e = on (f k e)

  abbrev Took : ℕ → Outcome (List ℕ)
  Took n later j name = WasTaken run p (aside n) later

  take_comes : (n : ℕ) → AreMsgNums (n ∷ []) → (own : List Deed) (h : Hand) → Comes own h (number_taken run p n) (okay (Took n))
  unfolding number_taken renamed
  take_comes n ok own h =
      comes_then own h (renamed p (entry_text (Number n)) (aside n)) (λ moved. Return (Ok (aside n))) (okay (λ later j u. WasTaken run p (aside n) later)) (okay (Took n))
      (comes_rename own h of_stop (okay (λ later j u. WasTaken run p (aside n) later)) p (entry_text (Number n)) (aside n) (held_to p (entry_text (Number n)))
      (comes_to _ h (Ok tt) (okay (λ later j u. WasTaken run p (aside n) later)) (now (entry_text (Number n), refl, is_taken_so run few n ok.0)))
      (comes_to _ h (Err (fault.Meddled p (entry_text (Number n)))) (okay (λ later j u. WasTaken run p (aside n) later)) tt))
      (λ later j u f. comes_to later j (Ok (aside n)) (okay (Took n)) f) (λ later j e f. tt)

  abbrev AllTook : List ℕ → Outcome Unit
  AllTook ns later j u = WereTaken ns later

  takes_come : (ns : List ℕ) → AreMsgNums ns → (own : List Deed) (h : Hand) → Comes own h (all_taken run p ns) (okay (AllTook ns))
  unfolding all_taken
  takes_come [] ok own h = comes_to own h (Ok tt) (okay (AllTook [])) (λ k e. absurd (cc (e)))
  takes_come (n ∷ ns) ok own h =
      comes_then own h (number_taken run p n) (λ held. all_taken run p ns) (okay (Took n)) (okay (AllTook (n ∷ ns))) (take_comes n (ok.0, tt) own h)
      (λ later j name f.
      comes_more later j (all_taken run p ns) (okay (λ last i u. WasTaken run p (aside n) last × AllTook ns last i u)) (okay (AllTook (n ∷ ns))) more
      (comes_lasting (WasTaken run p (aside n)) (λ o s a any g. on g) later j (all_taken run p ns) (AllTook ns) f (takes_come ns ok.1 later j)))
      (λ later j e f. tt)
    where
      more : (last : List Deed) (i : Hand) (r : Result Unit PlanFault) → okay (λ end k u. WasTaken run p (aside n) end × AllTook ns end k u) last i r → okay (AllTook (n ∷ ns)) last i r
      more last i (Ok u) g = λ k e. in_cases (λ z. WasTaken run p (aside z) last) n k ns e g.0 (g.1 k)
      more last i (Err e) g = tt

  -- one is given a number
  module _ (n : ℕ) where
    abbrev GaveSome : Outcome (Option ℕ)
    GaveSome later j None = Unit {0}
    GaveSome later j (Some k) = Once (IsGivenTo run p n k) later

    up_comes : (left k : ℕ) (own : List Deed) (h : Hand) → WasTaken run p (aside n) own → Comes own h (given_up p (aside n) k left) (okay GaveSome)
    unfolding given_up
    up_comes zero k own h f = comes_to own h (Ok None) (okay GaveSome) tt
    up_comes (suc left) k own h f =
        comes_link own h of_stop (okay GaveSome) p (aside n) (decimal k) (λ e. given_at p (aside n) k e (given_up p (aside n) (k + 1) left)) (comes_to _ h (Ok (Some k)) (okay GaveSome) (now (record { given = refl; taken = f })))
        (up_comes left (k + 1) (did (step.Link p (aside n) (decimal k)) answer.Exists ∷ own) h (on f)) (comes_to _ h (Err (fault.Meddled p (aside n))) (okay GaveSome) tt)

    home_comes : (slot top : ℕ) (own : List Deed) (h : Hand) → WasTaken run p (aside n) own → Comes own h (homed_name p (aside n) slot top) (okay GaveSome)
    home_comes slot top own h f =
        comes_link own h of_stop (okay GaveSome) p (aside n) (decimal slot) (λ e. given_at p (aside n) slot e (given_from p (aside n) (max slot top + 1)))
        (comes_to _ h (Ok (Some slot)) (okay GaveSome) (now (record { given = refl; taken = f })))
        (up_comes (1000000 - (max slot top + 1)) (max slot top + 1) (did (step.Link p (aside n) (decimal slot)) answer.Exists ∷ own) h (on f)) (comes_to _ h (Err (fault.Meddled p (aside n))) (okay GaveSome) tt)

    abbrev Gave : Outcome ℕ
    Gave later j k = Once (IsGivenTo run p n k) later

    given_comes : (slot top : ℕ) (own : List Deed) (h : Hand) → WasTaken run p (aside n) own → Comes own h (given run p (record { from = n; slot = slot }) top) (okay Gave)
    unfolding given
    given_comes slot top own h f =
        comes_then own h (homed_name p (aside n) slot top) number_got (okay GaveSome) (okay Gave) (home_comes slot top own h f) got (λ later j e g. tt)
      where
        got : (later : List Deed) (j : Hand) (end : Option ℕ) → GaveSome later j end → Comes later j (number_got end) (okay Gave)
        got later j None g = comes_to later j (Err fault.Full) (okay Gave) tt
        got later j (Some k) g = comes_to later j (Ok k) (okay Gave) g

  -- each of them is
  abbrev AllGivenTo : List Move → List ℕ → List Deed → Type 0
  AllGivenTo [] [] own = Unit {0}
  AllGivenTo [] (n ∷ ends) own = ⊥
  AllGivenTo (m ∷ ms) [] own = ⊥
  AllGivenTo (m ∷ ms) (n ∷ ends) own = Once (IsGivenTo run p m.from n) own × AllGivenTo ms ends own

  record GaveAll (ms : List Move) (before all : List ℕ) (later : List Deed) : Type 0 where
    ends : List ℕ
    all_so : all ≡ before ++ ends
    given : AllGivenTo ms ends later

  abbrev Given : List Move → List ℕ → Outcome (List ℕ)
  Given ms before later j all = GaveAll ms before all later

  gives_come : (ms : List Move) (top : ℕ) (before : List ℕ) (own : List Deed) (h : Hand) → WereTaken (froms ms) own → Comes own h (all_given run p ms top before) (okay (Given ms before))
  unfolding all_given
  gives_come [] top before own h f = comes_to own h (Ok before) (okay (Given [] before)) (record { ends = []; all_so = sym (append-nil before); given = tt })
  gives_come (m ∷ ms) top before own h f =
      comes_then own h (given run p m top) (λ end. all_given run p ms (max end top) (before ++ end ∷ [])) (okay (λ later j end. WereTaken (froms (m ∷ ms)) later × Once (IsGivenTo run p m.from end) later)) (okay (Given (m ∷ ms) before))
      (comes_lasting (WereTaken (froms (m ∷ ms))) (taken_kept (froms (m ∷ ms))) own h (given run p m top) (Gave m.from) f (given_comes m.from m.slot top own h (f m.from (in_head m.from (froms ms)))))
      (λ later j n g.
      comes_more later j (all_given run p ms (max n top) (before ++ n ∷ [])) (okay (λ last i all. Once (IsGivenTo run p m.from n) last × Given ms (before ++ n ∷ []) last i all)) (okay (Given (m ∷ ms) before)) (more n)
      (comes_lasting (Once (IsGivenTo run p m.from n)) (λ o s a any x. on x) later j (all_given run p ms (max n top) (before ++ n ∷ [])) (Given ms (before ++ n ∷ [])) g.1
      (gives_come ms (max n top) (before ++ n ∷ []) later j (λ k e. g.0 k (in_tail m.from k (froms ms) e)))))
      (λ later j e g. tt)
    where
      more : (n : ℕ) (last : List Deed) (i : Hand) (r : Result (List ℕ) PlanFault) → okay (λ end k all. Once (IsGivenTo run p m.from n) end × Given ms (before ++ n ∷ []) end k all) last i r → okay (Given (m ∷ ms) before) last i r
      more n last i (Ok all) g = record { ends = n ∷ g.1.ends; all_so = g.1.all_so ∙ append_assoc before (n ∷ []) g.1.ends; given = (g.0, g.1.given) }
      more n last i (Err e) g = tt

  -- the folder is made safe, the held names go, and it is made safe again
  all_moved : (ms : List Move) (ends : List ℕ) (own : List Deed) → AllGivenTo ms ends own → AllMoved run p ms ends (did (step.SyncFolder p) answer.Done ∷ own)
  all_moved [] [] own f = tt
  all_moved [] (n ∷ ends) own f = absurd f
  all_moved (m ∷ ms) [] own f = absurd f
  all_moved (m ∷ ms) (n ∷ ends) own f = (now (refl, f.0), all_moved ms ends own f.1)

  abbrev AllDropped : List Move → List ℕ → List Deed → Type 0
  AllDropped [] [] own = Unit {0}
  AllDropped [] (n ∷ ends) own = ⊥
  AllDropped (m ∷ ms) [] own = ⊥
  AllDropped (m ∷ ms) (n ∷ ends) own = Once (λ e before. (e ≡ did (step.Unlink p (aside m.from)) answer.Done) × HasMoved run p m.from n before) own × AllDropped ms ends own

  all_settled : (ms : List Move) (ends : List ℕ) (own : List Deed) → AllDropped ms ends own → AllSettled run p ms ends (did (step.SyncFolder p) answer.Done ∷ own)
  all_settled [] [] own f = tt
  all_settled [] (n ∷ ends) own f = absurd f
  all_settled (m ∷ ms) [] own f = absurd f
  all_settled (m ∷ ms) (n ∷ ends) own f = (now (refl, f.0), all_settled ms ends own f.1)

  none_settled : (ms : List Move) (ends : List ℕ) (own : List Deed) → ends ≡ [] → AllGivenTo ms ends own → AllSettled run p ms ends own
  none_settled [] [] own e f = tt
  none_settled [] (n ∷ ends) own e f = absurd f
  none_settled (m ∷ ms) [] own e f = absurd f
  none_settled (m ∷ ms) (n ∷ ends) own e f = cc

  pub settled_kept : (ms : List Move) (ends : List ℕ) → KeptBy AnyStep (AllSettled run p ms ends)
  settled_kept [] [] own s a any f = tt
  settled_kept [] (n ∷ ends) own s a any f = absurd f
  settled_kept (m ∷ ms) [] own s a any f = absurd f
  settled_kept (m ∷ ms) (n ∷ ends) own s a any f = (on f.0, settled_kept ms ends own s a any f.1)

  safe_comes : (n : ℕ) (F G : List Deed → Type 0) → ((own : List Deed) → F own → G (did (step.SyncFolder p) answer.Done ∷ own)) → (own : List Deed) (h : Hand) → F own → Comes own h (synced_at p n) (okay (λ later j u. G later))
  unfolding synced
  safe_comes n F G then own h f =
      comes_sync_folder own h of_stop (okay (λ later j u. G later)) p (held_to p (decimal n)) (comes_to _ h (Ok tt) (okay (λ later j u. G later)) (then own f)) (comes_to _ h (Err (fault.Meddled p (decimal n))) (okay (λ later j u. G later)) tt)

  abbrev Dropped : List Move → List ℕ → Outcome Unit
  Dropped ms ends later j u = AllDropped ms ends later

  drops_come : (ms : List Move) (ends : List ℕ) (own : List Deed) (h : Hand) → AllMoved run p ms ends own → Comes own h (all_dropped run p ms) (okay (Dropped ms ends))
  unfolding all_dropped removed
  drops_come [] [] own h f = comes_to own h (Ok tt) (okay (Dropped [] [])) tt
  drops_come [] (n ∷ ends) own h f = absurd f
  drops_come (m ∷ ms) [] own h f = absurd f
  drops_come (m ∷ ms) (n ∷ ends) own h f =
      comes_then own h (removed p (aside m.from)) (λ gone. all_dropped run p ms) (okay One) (okay (Dropped (m ∷ ms) (n ∷ ends)))
      (comes_unlink own h of_stop (okay One) p (aside m.from) (held_to p (aside m.from)) (comes_to _ h (Ok tt) (okay One) (now (refl, f.0), moved_kept run few p ms ends own (step.Unlink p (aside m.from)) answer.Done tt f.1))
      (comes_to _ h (Err (fault.Meddled p (aside m.from))) (okay One) tt))
      (λ later j u g.
      comes_lasting (Once (λ e before. (e ≡ did (step.Unlink p (aside m.from)) answer.Done) × HasMoved run p m.from n before)) (λ o s a any x. on x) later j (all_dropped run p ms) (Dropped ms ends) g.0 (drops_come ms ends later j g.1))
      (λ later j e g. tt)
    where
      One : Outcome Unit
      One later j u = Once (λ e before. (e ≡ did (step.Unlink p (aside m.from)) answer.Done) × HasMoved run p m.from n before) later × AllMoved run p ms ends later

  module _ (ms : List Move) (ends : List ℕ) where
    abbrev Settles : Outcome Unit
    Settles later j u = AllSettled run p ms ends later

    for_good : (n : ℕ) (own : List Deed) (h : Hand) → AllMoved run p ms ends own → Comes own h (dropped_for_good run p ms n) (okay Settles)
    unfolding dropped_for_good
    for_good n own h f =
        comes_then own h (all_dropped run p ms) (λ u. synced_at p n) (okay (Dropped ms ends)) (okay Settles) (drops_come ms ends own h f) (λ later j u g. safe_comes n (AllDropped ms ends) (AllSettled run p ms ends) (all_settled ms ends) later j g) (λ later j e g. tt)

    safely : (n : ℕ) (own : List Deed) (h : Hand) → AllGivenTo ms ends own → Comes own h (dropped_safely run p ms n) (okay Settles)
    unfolding dropped_safely
    safely n own h f =
        comes_then own h (synced_at p n) (λ u. dropped_for_good run p ms n) (okay (λ later j u. AllMoved run p ms ends later)) (okay Settles) (safe_comes n (AllGivenTo ms ends) (AllMoved run p ms ends) (all_moved ms ends) own h f)
        (λ later j u g. for_good n later j g) (λ later j e g. tt)

    let_go_comes : (o : Option ℕ) → last_or None ends ≡ o → (own : List Deed) (h : Hand) → AllGivenTo ms ends own → Comes own h (let_go_by run p ms o) (okay Settles)
    let_go_comes (Some n) e own h f = safely n own h f
    let_go_comes None e own h f = comes_to own h (Ok tt) (okay Settles) (none_settled ms ends own (last_none ends e) f)

  -- where messages have changed places, each of them was held aside, given its number and let go
  abbrev pub AllSettle : List Move → Outcome (List ℕ)
  AllSettle ms later j ends = AllSettled run p ms ends later

  pub arranged_settles : (takes : List ℕ) → AreMsgNums takes → (ms : List Move) → ((k : ℕ) → is_in k (froms ms) ≡ true → is_in k takes ≡ true) → (top : ℕ) (own : List Deed) (h : Hand) → Comes own h (arranged run p takes ms top) (okay (AllSettle ms))
  unfolding arranged
  arranged_settles takes ok ms among top own h =
      comes_then own h (all_taken run p takes) (λ u. all_given run p ms top [] >>= (λ ends. let_go_after run p ms ends >>= (λ u. Return (Ok ends)))) (okay (AllTook takes)) (okay (AllSettle ms)) (takes_come takes ok own h)
      (λ first i u t.
      comes_then first i (all_given run p ms top []) (λ ends. let_go_after run p ms ends >>= (λ u. Return (Ok ends))) (okay (Given ms [])) (okay (AllSettle ms)) (gives_come ms top [] first i (λ k e. t k (among k e)))
      (λ second j all g.
      subst (λ es. Comes second j (let_go_after run p ms es >>= (λ u. Return (Ok es))) (okay (AllSettle ms))) (sym g.all_so)
      (comes_then second j (let_go_after run p ms g.ends) (λ u. Return (Ok g.ends)) (okay (Settles ms g.ends)) (okay (AllSettle ms)) (let_go_comes ms g.ends (last_or None g.ends) refl second j g.given)
      (λ last k v f. comes_to last k (Ok g.ends) (okay (AllSettle ms)) f) (λ last k e f. tt)))
      (λ second j e g. tt))
      (λ first i e t. tt)
