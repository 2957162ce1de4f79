-- Which steps messages that change places ask for, whatever is answered.
use Rattle.std.proofs.Common.{◌≡◌, ◌+◌, ◌-◌, ◌++◌, ◌∷◌, [], max, ℕ, zero, suc, true, List, Option, Some, None, Ok}
use Rattle.std.specs.Prelude.{decimal}
use Rattle.std.specs.List.{last_or}
use Rattle.folder_files.specs.declared.place.Place.{Place}
use Rattle.folder_files.specs.declared.step.Step.{Step}
use Rattle.folder_files.specs.declared.step.Step.TheVariants as step
use Rattle.file_plans.specs.Asking.{link}
use Rattle.file_plans.specs.Framing.{AsksOnly}
use Rattle.file_plans.specs.Plan.{ask, bind, lifted, ◌>>=◌}
use Rattle.file_plans.specs.declared.answers.Entered.{Entered}
use Rattle.file_plans.specs.declared.answers.Entered.TheVariants as entered
use Rattle.file_plans.proofs.Framing.{asks_none, asks_then}
use Rattle.step_plans.specs.Locking.{removed}
use Rattle.step_plans.specs.PlanFaults.{Planned}
use Rattle.step_plans.proofs.Asks.{asks_removed, asks_synced}
use Rattle.held_messages.specs.Settle.{given_at, given_from, given_up, homed_name, linked, synced_at}
use Rattle.message_puts.specs.Putting.{number_got}
use Rattle.message_moves.specs.Moving.{number_taken}
use Rattle.message_moves.proofs.MoveAsks.{asks_taken}
use Rattle.message_moves.proofs.MovePledged.{taking}
use Rattle.message_places.specs.Arranging.{all_dropped, all_given, all_taken, arranged, aside_name, dropped_for_good, dropped_safely, given, let_go_after, let_go_by}
use Rattle.message_places.specs.Places.{froms, is_in}
use Rattle.message_places.specs.declared.moves.Move.{Move}
use Rattle.message_places.proofs.ArrangedPledged.{dropping, giving}
use Rattle.message_places.proofs.NumberLists.{in_head, in_tail}

-- such steps are free: those of these numbers are taken, and those of the moves given whatever numbers and dropped
pub record Arranges (P : Step → Type 0) (run : ℕ) (p : Place) (takes : List ℕ) (ms : List Move) : Type 0 where
  pub take : (n : ℕ) → is_in n takes ≡ true → P (taking run p n)
  pub give : (n k : ℕ) → is_in n (froms ms) ≡ true → P (giving run p n k)
  pub drop : (n : ℕ) → is_in n (froms ms) ≡ true → P (dropping run p n)
  pub safe : P (step.SyncFolder p)

module _ (P : Step → Type 0) (run : ℕ) (p : Place) where
  asks_all_taken : (ns : List ℕ) → ((n : ℕ) → is_in n ns ≡ true → P (taking run p n)) → AsksOnly P (all_taken run p ns)
  unfolding all_taken
  asks_all_taken [] f = asks_none P (Ok tt)
  asks_all_taken (n ∷ ns) f = asks_then P (number_taken run p n) (λ held. all_taken run p ns) (asks_taken P run p n (f n (in_head n ns))) (λ held. asks_all_taken ns (λ k e. f k (in_tail n k ns e)))

  module _ (n : ℕ) (give : (k : ℕ) → P (giving run p n k)) where
    abbrev held : List ℕ
    held = aside_name run n

    asks_linked : (k : ℕ) → AsksOnly P (linked p held k)
    unfolding AsksOnly link ask bind ◌>>=◌ lifted
    asks_linked k = (give k, λ a. tt)

    asks_at : (k : ℕ) (e : Entered) (up : Planned (Option ℕ)) → AsksOnly P up → AsksOnly P (given_at p held k e up)
    asks_at k entered.Done up f = asks_none P (Ok (Some k))
    asks_at k entered.Exists up f = f
    asks_at k entered.Gone up f = asks_none P _

    asks_up : (left k : ℕ) → AsksOnly P (given_up p held k left)
    unfolding given_up
    asks_up zero k = asks_none P (Ok None)
    asks_up (suc left) k = asks_then P (linked p held k) (λ e. given_at p held k e (given_up p held (k + 1) left)) (asks_linked k) (λ e. asks_at k e (given_up p held (k + 1) left) (asks_up left (k + 1)))

    asks_got : (end : Option ℕ) → AsksOnly P (number_got end)
    asks_got None = asks_none P _
    asks_got (Some k) = asks_none P (Ok k)

    asks_given : (slot top : ℕ) → AsksOnly P (given run p (record { from = n; slot = slot }) top)
    unfolding given
    asks_given slot top =
        asks_then P (homed_name p held slot top) number_got
        (asks_then P (linked p held slot) (λ e. given_at p held slot e (given_from p held (max slot top + 1))) (asks_linked slot) (λ e. asks_at slot e (given_from p held (max slot top + 1)) (asks_up (1000000 - (max slot top + 1)) (max slot top + 1))))
        asks_got

  asks_all_given : (ms : List Move) → ((n k : ℕ) → is_in n (froms ms) ≡ true → P (giving run p n k)) → (top : ℕ) (before : List ℕ) → AsksOnly P (all_given run p ms top before)
  unfolding all_given
  asks_all_given [] f top before = asks_none P (Ok before)
  asks_all_given (m ∷ ms) f top before =
      asks_then P (given run p m top) (λ end. all_given run p ms (max end top) (before ++ end ∷ [])) (asks_given m.from (λ k. f m.from k (in_head m.from (froms ms))) m.slot top)
      (λ end. asks_all_given ms (λ n k e. f n k (in_tail m.from n (froms ms) e)) (max end top) (before ++ end ∷ []))

  asks_dropped : (ms : List Move) → ((n : ℕ) → is_in n (froms ms) ≡ true → P (dropping run p n)) → AsksOnly P (all_dropped run p ms)
  unfolding all_dropped
  asks_dropped [] f = asks_none P (Ok tt)
  asks_dropped (m ∷ ms) f =
      asks_then P (removed p (aside_name run m.from)) (λ gone. all_dropped run p ms) (asks_removed P p (aside_name run m.from) (f m.from (in_head m.from (froms ms)))) (λ gone. asks_dropped ms (λ n e. f n (in_tail m.from n (froms ms) e)))

  asks_let_go : (ms : List Move) → ((n : ℕ) → is_in n (froms ms) ≡ true → P (dropping run p n)) → P (step.SyncFolder p) → (o : Option ℕ) → AsksOnly P (let_go_by run p ms o)
  unfolding dropped_safely dropped_for_good
  asks_let_go ms f g None = asks_none P (Ok tt)
  asks_let_go ms f g (Some n) =
      asks_then P (synced_at p n) (λ safe. dropped_for_good run p ms n) (asks_synced P p (decimal n) g)
      (λ safe. asks_then P (all_dropped run p ms) (λ gone. synced_at p n) (asks_dropped ms f) (λ gone. asks_synced P p (decimal n) g))

pub asks_arranged : (P : Step → Type 0) (run : ℕ) (p : Place) (takes : List ℕ) (ms : List Move) (top : ℕ) → Arranges P run p takes ms → AsksOnly P (arranged run p takes ms top)
unfolding arranged
asks_arranged P run p takes ms top f =
    asks_then P (all_taken run p takes) _ (asks_all_taken P run p takes f.take)
    (λ aside. asks_then P (all_given run p ms top []) _ (asks_all_given P run p ms f.give top [])
    (λ ends. asks_then P (let_go_after run p ms ends) _ (asks_let_go P run p ms f.drop f.safe (last_or None ends)) (λ gone. asks_none P (Ok ends))))
