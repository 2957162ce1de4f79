-- The keys of messages, read one after another.
use Rattle.std.proofs.Common.{◌≡◌, ◌++◌, ◌∷◌, ◌+◌, ◌<◌, ◌≤◌, ℕ, List, [], Result, Ok, sym, ◌∙◌, ap, drop, get_or, length, add-one, drop-cons}
use Rattle.std.proofs.lemmas.List.{drop_all}
use Rattle.folder_files.specs.declared.place.Place.{Place}
use Rattle.file_plans.specs.Plan.{◌>>=◌}
use Rattle.file_plans.specs.Follows.{State, Follows}
use Rattle.file_plans.proofs.Following.{done, same_plan}
use Rattle.step_plans.specs.CommandFaults.{command_cause}
use Rattle.step_plans.specs.declared.command_fault.CommandFault.{CommandFault}
use Rattle.sortm_plans.specs.Reading.{keys_read, message_read}

module _ {K : Type 0} (key : List ℕ → K) (run : ℕ) (place : Place) where
  -- one more is read
  pub turn : (keys : List K) (l : List ℕ) (i n : ℕ) (x y : State) (r : Result (List K) CommandFault) → i < length l → n ≡ get_or l i n
      → Follows run command_cause (message_read place n >>= λ bytes. keys_read key place (keys ++ key bytes ∷ []) (drop (i + 1) l)) x y r → Follows run command_cause (keys_read key place keys (drop i l)) x y r
  unfolding keys_read
  turn keys l i n x y r h is f =
      let next : drop i l ≡ n ∷ drop (i + 1) l = drop-cons l i n h ∙ (λ j. sym is j ∷ drop (sym (add-one i) j) l) in
      same_plan _ _ (ap (keys_read key place keys) next) f

  -- none is left
  pub end : (keys : List K) (l : List ℕ) (i : ℕ) (x : State) → length l ≤ i → Follows run command_cause (keys_read key place keys (drop i l)) x x (Ok keys)
  unfolding keys_read
  end keys l i x h = rw (drop_all i l h) done
