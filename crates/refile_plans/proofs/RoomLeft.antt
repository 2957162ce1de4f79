-- Whether each destination has room, and which number is the greatest of a folder; folders that were begun, as messages go to them.
use Rattle.std.proofs.Common.{◌≡◌, ◌∷◌, ◌++◌, [], append_assoc, append-nil, ℕ, suc, ◌+◌, ◌-◌, ◌<◌, ◌≤◌, List, Some, None, Result, Ok, refl, sym, ◌∙◌, ap, subst, arith, drop, get_or, slice_get, length, max}
use Rattle.std.specs.Prelude.{nat_le, map}
use Rattle.std.proofs.lemmas.List.{drop_all}
use Rattle.mh_sequences.specs.Runs.{AreRunsFrom}
use Rattle.mh_sequences.specs.declared.run.Run.{Run}
use Rattle.mh_sequences.proofs.OneRun.{last_there}
use Rattle.file_plans.specs.Follows.{Follows, State}
use Rattle.file_plans.specs.Plan.{◌>>=◌}
use Rattle.file_plans.proofs.Following.{done, same_plan}
use Rattle.step_plans.specs.CommandFaults.{command_cause}
use Rattle.step_plans.specs.declared.command_fault.CommandFault.{CommandFault}
use Rattle.step_plans.proofs.Rounds.{next}
use Rattle.opening_plans.specs.Opening.{Opened}
use Rattle.message_moves.specs.Copying.{highest_of}
use Rattle.message_moves.specs.declared.destination.Destination.{Destination}
use Rattle.refile_plans.specs.Refile.{destination_of, greatest_of, room_in}
use Rattle.command_stages.specs.Endings.{if_room}

module _ (run : ℕ) (l : List Destination) (i : ℕ) (count : ℕ) {x y : State} {r : Result Unit CommandFault} where
  pub next_room : (to : Destination) → i < length l → to ≡ get_or l i to
      → Follows run command_cause (if_room (nat_le (highest_of to.highest + count) 999999) to.folder >>= λ room. room_in (drop (i + 1) l) count) x y r → Follows run command_cause (room_in (drop i l) count) x y r
  unfolding room_in
  next_room to lt is f = same_plan _ _ (ap (λ ds. room_in ds count) (next l i to lt is)) f

pub all_rooms : (run : ℕ) (l : List Destination) (i : ℕ) (count : ℕ) {x : State} → length l ≤ i → Follows run command_cause (room_in (drop i l) count) x x (Ok tt)
unfolding room_in
all_rooms run l i count le = rw (drop_all i l le) done

-- the last run of a set has the greatest number
above_first : (low : ℕ) (r : Run) (rs : List Run) → AreRunsFrom low (r ∷ rs) → r.to ≤ highest_of (greatest_of (r ∷ rs))
above_first low r rs f = omega arith

pub last_greatest : (low : ℕ) (runs : List Run) (r : Run) → AreRunsFrom low runs → slice_get runs (length runs - 1) ≡ Some r → Some r.to ≡ greatest_of runs
last_greatest low [] r f e = cc (e)
last_greatest low (s ∷ []) r f e = let same : s ≡ r = cc (e) in let most : r.to ≡ max s.to 0 = let to : s.to ≡ r.to = ap (λ x. x.to) same in omega (arith, to) in ap Some most
last_greatest low (s ∷ (t ∷ rs)) r f e =
    let index : suc (suc (length rs)) - 1 ≡ suc (suc (length rs) - 1) = omega arith in
    let rest : Some r.to ≡ greatest_of (t ∷ rs) = last_greatest (s.to + 2) (t ∷ rs) r f.3 (subst (λ n. slice_get (s ∷ (t ∷ rs)) n ≡ Some r) index e) in
    let rest_to : r.to ≡ highest_of (greatest_of (t ∷ rs)) = ap highest_of rest in
    let after : s.to + 2 ≤ t.from = f.3.0 in
    let up : t.from ≤ t.to = f.3.1 in
    let most : t.to ≤ highest_of (greatest_of (t ∷ rs)) = above_first (s.to + 2) t rs f.3 in
    let whole : r.to ≡ max s.to (highest_of (greatest_of (t ∷ rs))) = omega (arith, rest_to, after, up, most) in
    ap Some whole

pub none_greatest : (runs : List Run) → slice_get runs (length runs - 1) ≡ None → None ≡ greatest_of runs
none_greatest [] e = refl
none_greatest (r ∷ runs) e = absurd (last_there r runs e)

-- folders as messages go to them, one after another
pub next_mapped : (l : List Opened) (i : ℕ) (o : Opened) (to : Destination) (old new : List Destination) → i < length l → o ≡ get_or l i o → to ≡ destination_of o → new ≡ old ++ to ∷ [] → old ++ map destination_of (drop i l) ≡ map destination_of l
    → new ++ map destination_of (drop (i + 1) l) ≡ map destination_of l
next_mapped l i o to old new lt is so put left =
    ap (λ ds. ds ++ map destination_of (drop (i + 1) l)) (put ∙ ap (λ d. old ++ d ∷ []) so)
    ∙ (append_assoc old (destination_of o ∷ []) (map destination_of (drop (i + 1) l)) ∙ (ap (λ os. old ++ map destination_of os) (sym (next l i o lt is)) ∙ left))

pub all_mapped : (l : List Opened) (i : ℕ) (to : List Destination) → length l ≤ i → to ++ map destination_of (drop i l) ≡ map destination_of l → to ≡ map destination_of l
all_mapped l i to le left = sym (append-nil to) ∙ (ap (λ os. to ++ map destination_of os) (sym (drop_all i l le)) ∙ left)
