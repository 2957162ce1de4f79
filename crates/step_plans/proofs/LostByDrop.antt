-- Why a held name is dropped only once its folder was synced after the give: a history in which this is not so, and a message is lost.
use Rattle.std.proofs.Common.{◌≡◌, ℕ, Bool, true, false, ◌==◌, ◌||◌, inl, inr, List, [], ◌∷◌, Option, Some, None, refl, sym, ap, subst, codes, bytes_eq, if◌then◌else◌}
use Rattle.mh_base.specs.Entries.{kind_of}
use Rattle.folder_files.specs.Careful.{IsCareful, Takes, Gives, takes, gives, changes}
use Rattle.folder_files.specs.CrashImage.{IsDirectoryImage, IsCrashImage}
use Rattle.folder_files.specs.Deeds.{HasFailed}
use Rattle.folder_files.specs.Directory.{now_in}
use Rattle.folder_files.specs.Histories.{world_after, own, has_acted, IsLegal, begins, answers, crashes, AreCareful}
use Rattle.folder_files.specs.Named.{is_number, is_held, is_temp_of, is_taking, is_backing_up}
use Rattle.folder_files.specs.Places.{same_place}
use Rattle.folder_files.specs.Steps.{made}
use Rattle.folder_files.specs.Worlds.{FileState, shown, IsStart}
use Rattle.folder_files.specs.declared.event.After.TheVariants.{Made}
use Rattle.folder_files.specs.declared.event.Event.{Event}
use Rattle.folder_files.specs.declared.event.Event.TheVariants.{Act, Crash}
use Rattle.folder_files.specs.declared.place.Place.{Place}
use Rattle.folder_files.specs.declared.step.Answer.TheVariants.{Done, Failed}
use Rattle.folder_files.specs.declared.step.Step.TheVariants.{Rename, Link, Unlink}
use Rattle.folder_files.specs.declared.world.World.{World}
use Rattle.step_plans.specs.Durable.{IsDurable, stood, on}
use Rattle.step_plans.specs.Leaving.{IsRemoved, on}
use Rattle.step_plans.specs.NoLoss.{IsKept, removed, stands, discarded, LosesNothing}
use Rattle.folder_files.specs.Standing.{is_standing, is_own_of}
use Rattle.step_plans.specs.Starts.{HasNoneOfTheirs}
use Rattle.step_plans.specs.Successors.{WasPutSince, IsSuccessor, on}
use Rattle.folder_files.proofs.Names.{not_both, bytes_true}
use Rattle.step_plans.proofs.Past.{successor_case, since_case, once_head, once_none}
use Rattle.step_plans.proofs.Kept.{loses_nothing}
use Rattle.step_plans.proofs.Stage.{inbox, two, three, held, two_is, three_is, held_is, removed_case}
use Rattle.folder_files.proofs.Sameness.{at_all}

-- message 2 is file 7
abbrev pub begun : World
begun = record {
  directories = record { place = inbox; safe = record { name = two; file = 7 } ∷ []; pending = [] } ∷ [];
  files = record { id = 7; bytes = codes "x"; safe = true } ∷ [];
  drops = [];
  locks = [];
  ended = [];
}

-- the machine stops, and no name leads to it
abbrev pub left : World
left = record {
  directories = record { place = inbox; safe = []; pending = [] } ∷ [];
  files = record { id = 7; bytes = codes "x"; safe = true } ∷ [];
  drops = [];
  locks = [];
  ended = 5 ∷ [];
}

-- run 5 takes message 2 and gives it number 3
abbrev pub given : List Event
given = Act 5 (Link inbox held three) Done Made ∷ (Act 5 (Rename inbox two held) Done Made ∷ [])

-- it drops the held name at once; then the machine stops
abbrev pub dropped : List Event
dropped = Act 5 (Unlink inbox held) Done Made ∷ given

abbrev pub lost : List Event
lost = Crash left ∷ dropped

begun_starts : IsStart begun
begun_starts = record { directories = (refl, refl, (refl, refl, tt), tt); files = (refl, refl, tt); outside = tt; no_lock = refl }

dropped_is_legal : IsLegal begun dropped
unfolding world_after made shown
dropped_is_legal = answers 5 (Unlink inbox held) Done (answers 5 (Link inbox held three) Done (answers 5 (Rename inbox two held) Done begins refl refl) refl refl) refl refl

-- the change that gave number 3 is left out
abbrev keep : ℕ → Bool
keep i = (i == 0) || (i == 2)

no_directory_elsewhere : (p : Place) → same_place inbox p ≡ false → IsDirectoryImage ((world_after begun dropped).directories p) ((shown left).directories p)
unfolding world_after made shown
no_directory_elsewhere p e = rw e (record { keep = λ i. true; closed = tt; slots = λ x. refl; there = refl; nothing_pending = refl })

inbox_image : IsDirectoryImage ((world_after begun dropped).directories inbox) ((shown left).directories inbox)
unfolding world_after made shown
inbox_image = record {
  keep = keep;
  closed = ((λ k x t. ((λ u. absurd (apart x t u)), ((λ u. refl), tt))), ((λ k x t. absurd (cc (k))), ((λ k x t. tt), tt)));
  slots = λ x. gone (bytes_eq held x) (bytes_eq two x);
  there = refl;
  nothing_pending = refl;
}
  where
    apart : (x : List ℕ) → bytes_eq held x ≡ true → bytes_eq three x ≡ true → ⊥
    apart x t u = differ (subst (λ y. bytes_eq three y ≡ true) (sym (bytes_true held x t)) u)
      where
        differ : bytes_eq three held ≡ true → ⊥
        differ e = cc (e)

    gone : (a b : Bool) → ◌≡◌ {A = Option ℕ} None (if a then None else (if a then Some 7 else (if b then None else (if b then Some 7 else None))))
    gone true b = refl
    gone false true = refl
    gone false false = refl

left_is_image : IsCrashImage (world_after begun dropped) (shown left) (has_acted dropped)
unfolding world_after made shown
left_is_image = record {
  directories = at_all inbox (λ p. IsDirectoryImage ((world_after begun dropped).directories p) ((shown left).directories p)) inbox_image no_directory_elsewhere;
  kept_bytes = λ f s. refl;
  all_safe = λ f l. safe (7 == f);
  next_file = refl;
  outside = refl;
  no_lock = λ p r. refl;
  ended = λ r e. over (5 == r) e;
}
  where
    here : FileState
    here = record { bytes = codes "x"; safe = true }

    none : FileState
    none = record { bytes = []; safe = true }

    safe : (v : Bool) → (if v then here else none).safe ≡ true
    safe true = refl
    safe false = refl

    over : (v : Bool) → ((v || (v || (v || false))) || false) ≡ true → (v || false) ≡ true
    over true e = refl
    over false e = absurd (cc (e))

lost_is_legal : IsLegal begun lost
lost_is_legal = crashes left dropped_is_legal left_is_image

-- all that came before the drop was careful
given_is_careful : AreCareful given
unfolding own
given_is_careful = ((λ on. changes unfailed Gives (gives inbox held three (refl, ap (λ k. is_held k) held_is, ap (λ k. is_number k) three_is))), ((λ on. changes unfailed_first Takes (takes inbox two held (refl, taking, λ w. once_none w))), tt))
  where
    taking : is_taking 5 (kind_of two) (kind_of held) ≡ true
    taking = rw (two_is, held_is) refl

    unfailed_first : HasFailed [] → ⊥
    unfailed_first w = once_none w

    unfailed : HasFailed (own 5 (Act 5 (Rename inbox two held) Done Made ∷ [])) → ⊥
    unfailed w = elim (once_head w) [ inl e ↦ no_failure e | inr y ↦ once_none y ]
      where
        no_failure : Done ≡ Failed → ⊥
        no_failure e = cc (e)

-- it was never removed
not_removed : IsRemoved begun inbox 7 lost → ⊥
not_removed (on z) = elim (removed_case z) [
  | inl y ↦ elim y [ inl k ↦ cc (k.2) | inr k ↦ (let e : held ≡ k.0 = cc (k.1) in no_number (subst (λ n. is_number (kind_of n) ≡ true) (sym e) k.2)) ]
  | inr y ↦ elim (removed_case y) [
    | inl k ↦ elim k [ inl j ↦ cc (j.2) | inr j ↦ cc (j.1) ]
    | inr k ↦ elim (removed_case k) [
      | inl j ↦ elim j [ inl i ↦ (let e : two ≡ i.0 = cc (i.2) in let d : held ≡ i.1 = cc (i.2) in no_backup i.0 i.1 e d i.3) | inr i ↦ cc (i.1) ]
      | inr j ↦ elim j [ ]
    ]
  ]
]
  where
    no_number : is_number (kind_of held) ≡ true → ⊥
    no_number e = not_both (is_number (kind_of held)) e (rw held_is refl)

    no_backup : (n b : List ℕ) → two ≡ n → held ≡ b → is_backing_up (kind_of n) (kind_of b) ≡ true → ⊥
    no_backup n b e d is = not_both (is_backing_up (kind_of two) (kind_of held)) (subst (λ x. is_backing_up (kind_of two) (kind_of x) ≡ true) (sym d) (subst (λ x. is_backing_up (kind_of x) (kind_of b) ≡ true) (sym e) is)) (rw (two_is, held_is) refl)

-- and nothing was put in its place
no_put : (b : List ℕ) (q : Place) (g : ℕ) (c : List ℕ) → WasPutSince begun 5 inbox held b q g c given → ⊥
no_put b q g c w = elim (since_case w) [
  | inl y ↦ (let e : held ≡ y.0 = cc (y.3) in not_both (is_temp_of 5 (kind_of held)) (subst (λ n. is_temp_of 5 (kind_of n) ≡ true) (sym e) y.5) (rw held_is refl))
  | inr y ↦ elim (since_case y) [ inl k ↦ cc (k.3) | inr k ↦ elim k [ ] ]
]

no_successor : (q : Place) (g : ℕ) (b c : List ℕ) → IsSuccessor begun inbox 7 q g b c lost → ⊥
no_successor q g b c (on w) = elim (successor_case w) [
  | inl y ↦ (let e : held ≡ y.0 = cc (y.1) in no_put b q g c (subst (λ n. WasPutSince begun 5 inbox n b q g c given) (sym e) y.6))
  | inr y ↦ elim (successor_case y) [
    | inl k ↦ cc (k.1)
    | inr k ↦ elim (successor_case k) [ inl j ↦ cc (j.1) | inr j ↦ elim j [ ] ]
  ]
]

none_leads : (x : List ℕ) → now_in ((world_after begun lost).directories inbox) x ≡ Some 7 → ⊥
unfolding world_after shown
none_leads x e = cc (e)

was_durable : IsDurable begun inbox 7 (codes "x") lost
unfolding shown
was_durable = on (on (on (on (stood two tt stand refl refl))))
  where
    stand : is_standing two ≡ true
    stand = rw two_is refl

-- and file 7, which was durable, is lost
file_is_lost : LosesNothing begun lost → ⊥
file_is_lost h = go (h inbox 7 (codes "x") was_durable)
  where
    go : IsKept begun lost inbox 7 (codes "x") → ⊥
    go (removed z) = not_removed z
    go (stands z) = none_leads z.now.0 z.now.2
    go (discarded d s t r) = no_successor s.0 s.1 (codes "x") s.2 s.3

-- the start has no name of a run's own
none_of_theirs : HasNoneOfTheirs begun lost
unfolding shown
none_of_theirs r acted = at_all inbox (λ p. (x : List ℕ) → is_own_of r x ≡ true → ((shown begun).directories p).safe x ≡ None) (λ x o. inbox_none x o (bytes_eq two x) refl) (λ p e x o. rw e refl)
  where
    inbox_none : (x : List ℕ) → is_own_of r x ≡ true → (v : Bool) → bytes_eq two x ≡ v → ◌≡◌ {A = Option ℕ} (if v then Some 7 else None) None
    inbox_none x o true e = absurd (not_both (is_own_of r two) (subst (λ y. is_own_of r y ≡ true) (sym (bytes_true two x e)) o) (rw two_is refl))
    inbox_none x o false e = refl

-- so the drop is not careful
drop_is_careless : IsCareful 5 (own 5 given) (Unlink inbox held) → ⊥
drop_is_careless c = file_is_lost (loses_nothing begun lost begun_starts lost_is_legal ((λ on. c), given_is_careful) none_of_theirs)
