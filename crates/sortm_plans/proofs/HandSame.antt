-- While messages change places, the run's hand stays as it is.
use Rattle.std.proofs.Common.{◌≡◌, ◌+◌, ◌-◌, ◌++◌, ◌∷◌, [], max, ℕ, zero, suc, List, Option, Some, None, Result, Ok, Err, refl}
use Rattle.std.specs.Prelude.{decimal}
use Rattle.std.specs.List.{last_or}
use Rattle.mh_base.specs.Entries.{entry_text}
use Rattle.mh_base.specs.declared.entry.Entry.TheVariants.{Held, Number}
use Rattle.folder_files.specs.declared.place.Place.{Place}
use Rattle.file_plans.specs.Asking.{link, rename, sync_folder, touched_of, unlink}
use Rattle.file_plans.specs.Giving.{Gives, Table}
use Rattle.file_plans.specs.Plan.{Ask, Hand, Hear, Note, Plan, Recall, Return, Say, Try, after, ask, bind, lifted, ◌>>=◌}
use Rattle.file_plans.specs.declared.answers.Entered.{Entered}
use Rattle.file_plans.specs.declared.answers.Entered.TheVariants as entered
use Rattle.file_plans.specs.declared.answers.Touched.{Touched}
use Rattle.file_plans.specs.declared.answers.Touched.TheVariants as touched
use Rattle.step_plans.specs.Locking.{removed}
use Rattle.step_plans.specs.PlanFaults.{Planned}
use Rattle.step_plans.specs.Replacing.{held_to, renamed, synced}
use Rattle.held_messages.specs.Settle.{given_at, given_from, given_up, homed_name, linked, synced_at}
use Rattle.message_puts.specs.Putting.{number_got}
use Rattle.message_moves.specs.Moving.{number_taken}
use Rattle.message_places.specs.Arranging.{all_dropped, all_given, all_taken, arranged, aside_name, dropped_for_good, dropped_safely, given, let_go_after, let_go_by}
use Rattle.message_places.specs.declared.moves.Move.{Move}

-- the plan notes nothing
unfoldable Noteless : {R : Type 0} → Plan R → Type 0
Noteless (Return r) = Unit {0}
Noteless (Ask s next) = (a : _) → Noteless (next a)
Noteless (Try s next) = (a : _) → Noteless (next a)
Noteless (Say piece next) = Noteless next
Noteless (Hear most next) = (piece : List ℕ) → Noteless (next piece)
Noteless (Recall next) = (h : Hand) → Noteless (next h)
Noteless (Note j next) = ⊥

-- so the hand is the same at its end
gives_same : {S R : Type 0} (t : Table S) (s : S) (h : Hand) (text : List ℕ) (p : Plan R) (Q : S → Hand → List ℕ → R → Type 0) → Noteless p → Gives t s h text p Q → Gives t s h text p (λ z j left r. (j ≡ h) × Q z j left r)
unfolding Gives Noteless
gives_same t s h text (Return r) Q n f = (refl, f)
gives_same t s h text (Ask step next) Q n f = λ a row live fits. gives_same t (t.after s step a) h text (next a) Q (n a) (f a row live fits)
gives_same t s h text (Try step next) Q n f = λ a row fits. gives_same t (t.after s step a) h text (next a) Q (n a) (f a row fits)
gives_same t s h text (Say piece next) Q n f = (f.0, (f.1.0, f.1.1, gives_same t s h f.1.0 next Q n f.1.2))
gives_same t s h text (Hear most next) Q n f = λ piece short. gives_same t s h text (next piece) Q (n piece) (f piece short)
gives_same t s h text (Recall next) Q n f = gives_same t s h text (next h) Q (n h) f
gives_same t s h text (Note j next) Q n f = absurd n

none_bind : {S R : Type 0} (p : Plan S) (k : S → Plan R) → Noteless p → ((a : S) → Noteless (k a)) → Noteless (bind p k)
unfolding Noteless bind
none_bind (Return r) k f g = g r
none_bind (Ask s next) k f g = λ a. none_bind (next a) k (f a) g
none_bind (Try s next) k f g = λ a. none_bind (next a) k (f a) g
none_bind (Say piece next) k f g = none_bind next k f g
none_bind (Hear most next) k f g = λ piece. none_bind (next piece) k (f piece) g
none_bind (Recall next) k f g = λ h. none_bind (next h) k (f h) g
none_bind (Note j next) k f g = absurd f

none_after : {S R E : Type 0} (k : S → Plan (Result R E)) → ((a : S) → Noteless (k a)) → (r : Result S E) → Noteless (after k r)
unfolding Noteless
none_after k g (Ok a) = g a
none_after k g (Err e) = tt

none_then : {S R E : Type 0} (p : Plan (Result S E)) (k : S → Plan (Result R E)) → Noteless p → ((a : S) → Noteless (k a)) → Noteless (p >>= k)
unfolding ◌>>=◌
none_then p k f g = none_bind p (after k) f (none_after k g)

none_at_end : {R E : Type 0} (r : Result R E) → Noteless (Return r)
unfolding Noteless
none_at_end r = tt

-- the steps of the moves
none_held : (p : Place) (n : List ℕ) (t : Touched) → Noteless (held_to p n t)
none_held p n touched.Done = none_at_end _
none_held p n touched.Gone = none_at_end _

none_renamed : (p : Place) (n to : List ℕ) → Noteless (renamed p n to)
unfolding Noteless renamed rename ask lifted bind ◌>>=◌
none_renamed p n to = λ a. none_held p n (touched_of a)

none_synced : (p : Place) (n : List ℕ) → Noteless (synced p n)
unfolding Noteless synced sync_folder ask lifted bind ◌>>=◌
none_synced p n = λ a. none_held p n (touched_of a)

none_removed : (p : Place) (n : List ℕ) → Noteless (removed p n)
unfolding Noteless removed unlink ask lifted bind ◌>>=◌
none_removed p n = λ a. none_held p n (touched_of a)

none_linked : (p : Place) (held : List ℕ) (k : ℕ) → Noteless (linked p held k)
unfolding Noteless link ask lifted bind ◌>>=◌
none_linked p held k = λ a. tt

module _ (run : ℕ) (p : Place) where
  none_taken : (ns : List ℕ) → Noteless (all_taken run p ns)
  unfolding all_taken number_taken
  none_taken [] = none_at_end _
  none_taken (n ∷ ns) = none_then (number_taken run p n) (λ held. all_taken run p ns) (none_then (renamed p (entry_text (Number n)) (entry_text (Held run n))) (λ moved. Return (Ok (entry_text (Held run n)))) (none_renamed p _ _) (λ moved. none_at_end _)) (λ held. none_taken ns)

  none_at : (held : List ℕ) (k : ℕ) (e : Entered) (up : Planned (Option ℕ)) → Noteless up → Noteless (given_at p held k e up)
  none_at held k entered.Done up f = none_at_end _
  none_at held k entered.Exists up f = f
  none_at held k entered.Gone up f = none_at_end _

  none_up : (held : List ℕ) (left k : ℕ) → Noteless (given_up p held k left)
  unfolding given_up
  none_up held zero k = none_at_end _
  none_up held (suc left) k = none_then (linked p held k) (λ e. given_at p held k e (given_up p held (k + 1) left)) (none_linked p held k) (λ e. none_at held k e (given_up p held (k + 1) left) (none_up held left (k + 1)))

  none_got : (end : Option ℕ) → Noteless (number_got end)
  none_got None = none_at_end _
  none_got (Some k) = none_at_end _

  none_given : (m : Move) (top : ℕ) → Noteless (given run p m top)
  unfolding given
  none_given m top =
      none_then (homed_name p (aside_name run m.from) m.slot top) number_got
      (none_then (linked p (aside_name run m.from) m.slot) (λ e. given_at p (aside_name run m.from) m.slot e (given_from p (aside_name run m.from) (max m.slot top + 1))) (none_linked p (aside_name run m.from) m.slot)
      (λ e. none_at (aside_name run m.from) m.slot e (given_from p (aside_name run m.from) (max m.slot top + 1)) (none_up (aside_name run m.from) (1000000 - (max m.slot top + 1)) (max m.slot top + 1))))
      none_got

  none_all_given : (ms : List Move) (top : ℕ) (before : List ℕ) → Noteless (all_given run p ms top before)
  unfolding all_given
  none_all_given [] top before = none_at_end _
  none_all_given (m ∷ ms) top before = none_then (given run p m top) (λ end. all_given run p ms (max end top) (before ++ end ∷ [])) (none_given m top) (λ end. none_all_given ms (max end top) (before ++ end ∷ []))

  none_dropped : (ms : List Move) → Noteless (all_dropped run p ms)
  unfolding all_dropped
  none_dropped [] = none_at_end _
  none_dropped (m ∷ ms) = none_then (removed p (aside_name run m.from)) (λ gone. all_dropped run p ms) (none_removed p (aside_name run m.from)) (λ gone. none_dropped ms)

  none_let_go : (ms : List Move) (o : Option ℕ) → Noteless (let_go_by run p ms o)
  unfolding dropped_safely dropped_for_good
  none_let_go ms None = none_at_end _
  none_let_go ms (Some n) =
      none_then (synced_at p n) (λ safe. dropped_for_good run p ms n) (none_synced p (decimal n)) (λ safe. none_then (all_dropped run p ms) (λ gone. synced_at p n) (none_dropped ms) (λ gone. none_synced p (decimal n)))

  none_arranged : (takes : List ℕ) (ms : List Move) (top : ℕ) → Noteless (arranged run p takes ms top)
  unfolding arranged
  none_arranged takes ms top =
      none_then (all_taken run p takes) (λ aside. all_given run p ms top [] >>= (λ ends. let_go_after run p ms ends >>= (λ gone. Return (Ok ends)))) (none_taken takes)
      (λ aside. none_then (all_given run p ms top []) (λ ends. let_go_after run p ms ends >>= (λ gone. Return (Ok ends))) (none_all_given ms top [])
      (λ ends. none_then (let_go_after run p ms ends) (λ gone. Return (Ok ends)) (none_let_go ms (last_or None ends)) (λ gone. none_at_end _)))

  pub arranged_same : {S : Type 0} (t : Table S) (s : S) (h : Hand) (text takes : List ℕ) (ms : List Move) (top : ℕ) (Q : S → Hand → List ℕ → Result (List ℕ) _ → Type 0) → Gives t s h text (arranged run p takes ms top) Q
      → Gives t s h text (arranged run p takes ms top) (λ z j left r. (j ≡ h) × Q z j left r)
  arranged_same t s h text takes ms top Q f = gives_same t s h text (arranged run p takes ms top) Q (none_arranged takes ms top) f
