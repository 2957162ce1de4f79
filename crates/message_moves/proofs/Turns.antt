-- One destination after another, and one message after another.
use Rattle.std.proofs.Common.{◌≡◌, ◌==◌, ◌++◌, ◌∷◌, [], ℕ, ◌+◌, ◌<◌, ◌≤◌, true, false, List, Result, Ok, refl, ap, drop, get_or, length, arith}
use Rattle.std.proofs.lemmas.Bool.Decides.{nat_tests}
use Rattle.std.proofs.lemmas.List.{drop_all}
use Rattle.folder_files.specs.declared.place.Place.{Place}
use Rattle.file_plans.specs.Follows.{Follows, State}
use Rattle.file_plans.specs.Plan.{Return, lifted, ◌>>=◌}
use Rattle.file_plans.proofs.Following.{done, same_plan}
use Rattle.step_plans.specs.CommandFaults.{command_cause}
use Rattle.step_plans.specs.declared.command_fault.CommandFault.{CommandFault}
use Rattle.step_plans.proofs.Rounds.{next}
use Rattle.command_stages.specs.Endings.{of_plan}
use Rattle.command_stages.specs.Texts.{Commanded}
use Rattle.message_moves.specs.Copying.{copied_to, copied_to_all, message_copied, messages_copied}
use Rattle.message_moves.specs.Moving.{content_read, held_discarded, number_taken}
use Rattle.message_moves.specs.Refiling.{message_refiled, messages_refiled}
use Rattle.message_moves.specs.declared.destination.Destination.{Destination}

module _ (run : ℕ) where
  pub one_copied : (bytes : List ℕ) (l : List Destination) (i : ℕ) (to : Destination) (before : List Destination) {x y : State} {r : Result (List Destination) CommandFault} → i < length l → to ≡ get_or l i to
      → Follows run command_cause (copied_to run bytes to >>= λ one. copied_to_all run bytes (drop (i + 1) l) (before ++ one ∷ [])) x y r → Follows run command_cause (copied_to_all run bytes (drop i l) before) x y r
  unfolding copied_to_all
  one_copied bytes l i to before lt is f = same_plan _ _ (ap (λ ds. copied_to_all run bytes ds before) (next l i to lt is)) f

  pub none_copied : (bytes : List ℕ) (l : List Destination) (i : ℕ) (before : List Destination) {x : State} → length l ≤ i → Follows run command_cause (copied_to_all run bytes (drop i l) before) x x (Ok before)
  unfolding copied_to_all
  none_copied bytes l i before le = rw (drop_all i l le) done

  module _ (folder : List ℕ) (p : Place) (l : List ℕ) (i : ℕ) where
    pub copied_turn : (n : ℕ) (to : List Destination) {x y : State} {r : Result (List Destination) CommandFault} → i < length l → n ≡ get_or l i n
        → Follows run command_cause (message_copied run folder p n to >>= λ later. messages_copied run folder p (drop (i + 1) l) later) x y r → Follows run command_cause (messages_copied run folder p (drop i l) to) x y r
    unfolding messages_copied
    copied_turn n to lt is f = same_plan _ _ (ap (λ ns. messages_copied run folder p ns to) (next l i n lt is)) f

    pub copied_end : (to : List Destination) {x : State} → length l ≤ i → Follows run command_cause (messages_copied run folder p (drop i l) to) x x (Ok to)
    unfolding messages_copied
    copied_end to le = rw (drop_all i l le) done

    pub refiled_turn : (n : ℕ) (to : List Destination) {x y : State} {r : Result (List Destination) CommandFault} → i < length l → n ≡ get_or l i n
        → Follows run command_cause (message_refiled run folder p n to >>= λ later. messages_refiled run folder p (drop (i + 1) l) later) x y r → Follows run command_cause (messages_refiled run folder p (drop i l) to) x y r
    unfolding messages_refiled
    refiled_turn n to lt is f = same_plan _ _ (ap (λ ns. messages_refiled run folder p ns to) (next l i n lt is)) f

    pub refiled_end : (to : List Destination) {x : State} → length l ≤ i → Follows run command_cause (messages_refiled run folder p (drop i l) to) x x (Ok to)
    unfolding messages_refiled
    refiled_end to le = rw (drop_all i l le) done

  -- a message leaves only where it goes somewhere
  pub goes_nowhere : (folder : List ℕ) (p : Place) (n : ℕ) (to : List Destination) → (length to == 0) ≡ true → message_refiled run folder p n to ≡ Return (Ok [])
  unfolding message_refiled
  goes_nowhere folder p n [] e = refl
  goes_nowhere folder p n (to ∷ others) e = absurd (grind (arith, nat_tests, e))

  abbrev pub away : List ℕ → Place → ℕ → List Destination → Commanded (List Destination)
  away folder p n to =
      lifted (of_plan folder) (number_taken run p n) >>= (λ held. lifted (of_plan folder) (content_read p held) >>= (λ bytes. copied_to_all run bytes to [] >>= (λ later. lifted (of_plan folder) (held_discarded p held) >>= (λ gone. Return (Ok later)))))

  pub goes_away : (folder : List ℕ) (p : Place) (n : ℕ) (to : List Destination) → (length to == 0) ≡ false → message_refiled run folder p n to ≡ away folder p n to
  unfolding message_refiled
  goes_away folder p n [] e = absurd (grind (arith, nat_tests, e))
  goes_away folder p n (to ∷ others) e = refl
