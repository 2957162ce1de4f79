-- Why a message is discarded only once the folders of its copies were synced: a history in which this is not so, and the message is lost.
use Rattle.std.proofs.Common.{◌≡◌, ℕ, Bool, true, false, ◌==◌, ◌||◌, inl, inr, List, [], ◌∷◌, Option, Some, None, refl, sym, ap, subst, codes, bytes_eq, if◌then◌else◌}
use Rattle.mh_base.specs.Entries.{kind_of}
use Rattle.folder_files.specs.Careful.{IsCareful, Takes, Creates, Puts, takes, creates, puts, looks, changes, WasMade}
use Rattle.folder_files.specs.CrashImage.{IsDirectoryImage, IsCrashImage}
use Rattle.folder_files.specs.Deeds.{now, on}
use Rattle.folder_files.specs.Directory.{now_in}
use Rattle.folder_files.specs.Histories.{world_after, own, has_acted, IsLegal, begins, answers, crashes, AreCareful}
use Rattle.folder_files.specs.Named.{is_number, is_temp_of, is_taking, is_backing_up}
use Rattle.folder_files.specs.Places.{same_place}
use Rattle.folder_files.specs.Steps.{made}
use Rattle.folder_files.specs.Worlds.{FileState, shown, no_directory, IsStart}
use Rattle.folder_files.specs.declared.event.After.TheVariants.{Made}
use Rattle.folder_files.specs.declared.event.Event.{Event}
use Rattle.folder_files.specs.declared.event.Event.TheVariants.{Act, Crash}
use Rattle.folder_files.specs.declared.place.Place.{Place}
use Rattle.folder_files.specs.declared.step.Answer.TheVariants.{Done, Content, Failed}
use Rattle.folder_files.specs.declared.step.Step.TheVariants.{Read, Create, SyncFile, Rename, Link, Unlink}
use Rattle.folder_files.specs.declared.world.World.{World}
use Rattle.folder_files.proofs.Sameness.{place_same}
use Rattle.step_plans.specs.Durable.{IsDurable, stood, on}
use Rattle.step_plans.specs.Leaving.{IsRemoved, on}
use Rattle.step_plans.specs.NoLoss.{IsKept, removed, stands, discarded, LosesNothing}
use Rattle.folder_files.specs.Standing.{is_standing, is_own_of}
use Rattle.step_plans.specs.Starts.{HasNoneOfTheirs}
use Rattle.step_plans.specs.Successors.{WasPutSince, IsSuccessor, on}
use Rattle.folder_files.proofs.Names.{not_both, bytes_true}
use Rattle.step_plans.proofs.Past.{successor_case, since_case, durable_case, once_head, once_none}
use Rattle.step_plans.proofs.Kept.{loses_nothing}
use Rattle.step_plans.proofs.Stage.{inbox, out, one, two, held, temp, one_is, two_is, held_is, temp_is, removed_case, unfailed, done_is_no_failure}

-- message 2 is file 7
abbrev pub begun : World
begun = record {
  directories = record { place = inbox; safe = record { name = two; file = 7 } ∷ []; pending = [] } ∷ (record { place = out; safe = []; pending = [] } ∷ []);
  files = record { id = 7; bytes = codes "x"; safe = true } ∷ [];
  drops = [];
  locks = [];
  ended = [];
}

-- the machine stops, and no name leads to it, nor to the copy
abbrev pub left : World
left = record {
  directories = record { place = inbox; safe = []; pending = [] } ∷ (record { place = out; safe = []; pending = [] } ∷ []);
  files = record { id = 7; bytes = codes "x"; safe = true } ∷ (record { id = 8; bytes = codes "x"; safe = true } ∷ []);
  drops = [];
  locks = [];
  ended = 5 ∷ [];
}

-- run 5 takes message 2, reads it, and makes a file of its bytes in `out`
abbrev pub taken : List Event
taken = Act 5 (Rename inbox two held) Done Made ∷ []

abbrev pub read : List Event
read = Act 5 (Read inbox held 10) (Content (codes "x")) Made ∷ taken

abbrev pub copied : List Event
copied = Act 5 (Create out temp (codes "x")) Done Made ∷ read

abbrev pub synced : List Event
synced = Act 5 (SyncFile out temp) Done Made ∷ copied

-- it puts that file there as message 1
abbrev pub put : List Event
put = Act 5 (Link out temp one) Done Made ∷ synced

-- it discards the message at once; then the machine stops
abbrev pub gone : List Event
gone = Act 5 (Unlink inbox held) Done Made ∷ put

abbrev pub lost : List Event
lost = Crash left ∷ gone

begun_starts : IsStart begun
begun_starts = record { directories = (refl, refl, (refl, refl, tt), (refl, refl, tt, tt)); files = (refl, refl, tt); outside = tt; no_lock = refl }

pub put_is_legal : IsLegal begun put
unfolding world_after made shown
put_is_legal =
    answers 5 (Link out temp one) Done (answers 5 (SyncFile out temp) Done (answers 5 (Create out temp (codes "x")) Done
    (answers 5 (Read inbox held 10) (Content (codes "x")) (answers 5 (Rename inbox two held) Done begins refl refl) refl refl) refl refl) refl refl) refl refl

gone_is_legal : IsLegal begun gone
unfolding world_after made shown
gone_is_legal = answers 5 (Unlink inbox held) Done put_is_legal refl refl

-- of `inbox` all is kept
inbox_image : IsDirectoryImage ((world_after begun gone).directories inbox) ((shown left).directories inbox)
unfolding world_after made shown
inbox_image = record {
  keep = λ i. true;
  closed = ((λ k x t. ((λ u. refl), tt)), ((λ k x t. tt), tt));
  slots = λ x. none (bytes_eq held x) (bytes_eq two x);
  there = refl;
  nothing_pending = refl;
}
  where
    none : (a b : Bool) → ◌≡◌ {A = Option ℕ} None (if a then None else (if a then Some 7 else (if b then None else (if b then Some 7 else None))))
    none true b = refl
    none false true = refl
    none false false = refl

-- of `out` nothing
out_image : IsDirectoryImage ((world_after begun gone).directories out) ((shown left).directories out)
unfolding world_after made shown
out_image = record {
  keep = λ i. false;
  closed = ((λ k x t. absurd (cc (k))), ((λ k x t. absurd (cc (k))), tt));
  slots = λ x. refl;
  there = refl;
  nothing_pending = refl;
}

elsewhere : (p : Place) → same_place inbox p ≡ false → same_place out p ≡ false → IsDirectoryImage ((world_after begun gone).directories p) ((shown left).directories p)
unfolding world_after made shown
elsewhere p e f = rw (e, f) (record { keep = λ i. true; closed = tt; slots = λ x. refl; there = refl; nothing_pending = refl })

each_image : (p : Place) → IsDirectoryImage ((world_after begun gone).directories p) ((shown left).directories p)
each_image p = go (same_place inbox p) refl (same_place out p) refl
  where
    at : (q : Place) → IsDirectoryImage ((world_after begun gone).directories q) ((shown left).directories q) → same_place q p ≡ true → IsDirectoryImage ((world_after begun gone).directories p) ((shown left).directories p)
    at q h e = subst (λ (y : Place). IsDirectoryImage ((world_after begun gone).directories y) ((shown left).directories y)) (place_same q p e) h

    go : (v : Bool) → same_place inbox p ≡ v → (u : Bool) → same_place out p ≡ u → IsDirectoryImage ((world_after begun gone).directories p) ((shown left).directories p)
    go true e u f = at inbox inbox_image e
    go false e true f = at out out_image f
    go false e false f = elsewhere p e f

left_is_image : IsCrashImage (world_after begun gone) (shown left) (has_acted gone)
unfolding world_after made shown
left_is_image = record {
  directories = each_image;
  kept_bytes = λ f s. kept (8 == f) (7 == f);
  all_safe = λ f l. safe (7 == f) (8 == f);
  next_file = refl;
  outside = refl;
  no_lock = λ p r. refl;
  ended = λ r e. over (5 == r) e;
}
  where
    here : FileState
    here = record { bytes = codes "x"; safe = true }

    fresh : FileState
    fresh = record { bytes = codes "x"; safe = false }

    none : FileState
    none = record { bytes = []; safe = true }

    before : Bool → Bool → FileState
    before a b = if a then fresh else (if b then here else none)

    after : Bool → Bool → FileState
    after a b = if a then record { bytes = (before a b).bytes; safe = true } else before a b

    kept : (a b : Bool) → (if b then here else (if a then here else none)).bytes ≡ (after a b).bytes
    kept true true = refl
    kept true false = refl
    kept false true = refl
    kept false false = refl

    safe : (b a : Bool) → (if b then here else (if a then here else none)).safe ≡ true
    safe true a = refl
    safe false true = refl
    safe false false = refl

    over : (v : Bool) → ((v || (v || (v || (v || (v || (v || false)))))) || false) ≡ true → (v || false) ≡ true
    over true e = refl
    over false e = absurd (cc (e))

lost_is_legal : IsLegal begun lost
lost_is_legal = crashes left gone_is_legal left_is_image

-- all that came before the discard was careful
pub put_is_careful : AreCareful put
unfolding own
put_is_careful = (
  λ on. changes (unfailed (own 5 synced) (done_is_no_failure, (done_is_no_failure, (no_failure, (done_is_no_failure, tt))))) Puts (puts out temp one (refl, ap (λ k. is_number k) one_is, (ap (λ k. is_temp_of 5 k) temp_is, now (refl, now (codes "x", refl))))),
  (
    λ on. looks tt,
    (
      λ on. changes (unfailed (own 5 read) (no_failure, (done_is_no_failure, tt))) Creates (creates out temp (codes "x") (ap (λ k. is_temp_of 5 k) temp_is, not_made)),
      ((λ on. looks tt), ((λ on. changes (unfailed [] tt) Takes (takes inbox two held (refl, taking, λ w. once_none w))), tt)),
    ),
  ),
)
  where
    no_failure : Content (codes "x") ≡ Failed → ⊥
    no_failure e = cc (e)

    taking : is_taking 5 (kind_of two) (kind_of held) ≡ true
    taking = rw (two_is, held_is) refl

    not_made : WasMade out temp (own 5 read) → ⊥
    not_made w = elim (once_head w) [
      | inl e ↦ (let z = ap (λ d. d.step) e.1 in cc (z))
      | inr y ↦ elim (once_head y) [ inl e ↦ (let z = ap (λ d. d.step) e.1 in cc (z)) | inr k ↦ once_none k ]
    ]

-- the message was never removed
not_removed : IsRemoved begun inbox 7 lost → ⊥
not_removed (on z) = elim (removed_case z) [
  | inl y ↦ elim y [ inl k ↦ cc (k.2) | inr k ↦ (let e : held ≡ k.0 = cc (k.1) in no_number (subst (λ n. is_number (kind_of n) ≡ true) (sym e) k.2)) ]
  | inr y ↦ elim (removed_case y) [ inl k ↦ elim k [ inl j ↦ cc (j.2) | inr j ↦ cc (j.1) ] | inr k ↦ in_synced k ]
]
  where
    no_number : is_number (kind_of held) ≡ true → ⊥
    no_number e = not_both (is_number (kind_of held)) e (rw held_is refl)

    no_backup : (n b : List ℕ) → two ≡ n → held ≡ b → is_backing_up (kind_of n) (kind_of b) ≡ true → ⊥
    no_backup n b e d is = not_both (is_backing_up (kind_of two) (kind_of held)) (subst (λ x. is_backing_up (kind_of two) (kind_of x) ≡ true) (sym d) (subst (λ x. is_backing_up (kind_of x) (kind_of b) ≡ true) (sym e) is)) (rw (two_is, held_is) refl)

    in_taken : IsRemoved begun inbox 7 taken → ⊥
    in_taken z = elim (removed_case z) [
      | inl j ↦ elim j [ inl i ↦ (let e : two ≡ i.0 = cc (i.2) in let d : held ≡ i.1 = cc (i.2) in no_backup i.0 i.1 e d i.3) | inr i ↦ cc (i.1) ]
      | inr j ↦ elim j [ ]
    ]

    in_copied : IsRemoved begun inbox 7 copied → ⊥
    in_copied z = elim (removed_case z) [
      | inl k ↦ elim k [ inl j ↦ cc (j.2) | inr j ↦ cc (j.1) ]
      | inr k ↦ elim (removed_case k) [ inl j ↦ elim j [ inl i ↦ cc (i.2) | inr i ↦ cc (i.1) ] | inr j ↦ in_taken j ]
    ]

    in_synced : IsRemoved begun inbox 7 synced → ⊥
    in_synced z = elim (removed_case z) [ inl k ↦ elim k [ inl j ↦ cc (j.2) | inr j ↦ cc (j.1) ] | inr k ↦ in_copied k ]

-- its successors are in `out`
since_out : (b : List ℕ) (q : Place) (g : ℕ) (c h : List ℕ) → WasPutSince begun 5 inbox h b q g c put → out ≡ q
since_out b q g c h w = elim (since_case w) [
  | inl y ↦ cc (y.3)
  | inr y ↦ absurd (elim (since_case y) [
    | inl k ↦ cc (k.3)
    | inr k ↦ elim (since_case k) [
      | inl j ↦ cc (j.3)
      | inr j ↦ elim (since_case j) [ inl i ↦ cc (i.3) | inr i ↦ elim (since_case i) [ inl n ↦ cc (n.3) | inr n ↦ elim n [ ] ] ]
    ]
  ])
]

successor_out : (q : Place) (g : ℕ) (b c : List ℕ) → IsSuccessor begun inbox 7 q g b c lost → out ≡ q
successor_out q g b c (on w) = elim (successor_case w) [
  | inl y ↦ since_out b q g c y.0 y.6
  | inr y ↦ absurd (elim (successor_case y) [
    | inl k ↦ cc (k.1)
    | inr k ↦ elim (successor_case k) [
      | inl j ↦ cc (j.1)
      | inr j ↦ elim (successor_case j) [
        | inl i ↦ cc (i.1)
        | inr i ↦ elim (successor_case i) [ inl n ↦ cc (n.1) | inr n ↦ elim (successor_case n) [ inl o ↦ cc (o.1) | inr o ↦ elim o [ ] ] ]
      ]
    ]
  ])
]

out_is_empty : (x : List ℕ) (g : ℕ) → ((shown begun).directories out).safe x ≡ Some g → ⊥
unfolding shown
out_is_empty x g e = cc (e)

-- and nothing in `out` is durable
not_durable : (g : ℕ) (c : List ℕ) → IsDurable begun out g c lost → ⊥
not_durable g c (on z) = elim (durable_case z) [
  | inl k ↦ cc (k.0)
  | inr k ↦ elim (durable_case k) [
    | inl j ↦ cc (j.0)
    | inr j ↦ elim (durable_case j) [
      | inl i ↦ cc (i.0)
      | inr i ↦ elim (durable_case i) [
        | inl n ↦ cc (n.0)
        | inr n ↦ elim (durable_case n) [ inl o ↦ cc (o.0) | inr o ↦ elim (durable_case o) [ inl m ↦ cc (m.0) | inr m ↦ at_start m ] ]
      ]
    ]
  ]
]
  where
    at_start : IsDurable begun out g c [] → ⊥
    at_start (stood x lock st leads bytes) = out_is_empty x g leads

none_leads : (x : List ℕ) → now_in ((world_after begun lost).directories inbox) x ≡ Some 7 → ⊥
unfolding world_after shown
none_leads x e = cc (e)

was_durable : IsDurable begun inbox 7 (codes "x") lost
unfolding shown
was_durable = on (on (on (on (on (on (on (stood two tt stand refl refl)))))))
  where
    stand : is_standing two ≡ true
    stand = rw two_is refl

-- and file 7, which was durable, is lost, and its copy too
file_is_lost : LosesNothing begun lost → ⊥
file_is_lost h = go (h inbox 7 (codes "x") was_durable)
  where
    go : IsKept begun lost inbox 7 (codes "x") → ⊥
    go (removed z) = not_removed z
    go (stands z) = none_leads z.now.0 z.now.2
    go (discarded d s t r) = not_durable s.1 s.2 (subst (λ (q : Place). IsDurable begun q s.1 s.2 lost) (sym (successor_out s.0 s.1 (codes "x") s.2 s.3)) (t s.0 s.1 (codes "x") s.2 s.3).0)

-- the start has no name of a run's own
none_of_theirs : HasNoneOfTheirs begun lost
unfolding shown
none_of_theirs r acted p x o = go (same_place inbox p) (same_place out p) (bytes_eq two x) refl
  where
    go : (v u b : Bool) → bytes_eq two x ≡ b → (if v then record { there = true; safe = λ y. if bytes_eq two y then Some 7 else None; pending = [] } else (if u then record { there = true; safe = λ y. None; pending = [] } else no_directory)).safe x ≡ None
    go true u true e = absurd (not_both (is_own_of r two) (subst (λ y. is_own_of r y ≡ true) (sym (bytes_true two x e)) o) (rw two_is refl))
    go true u false e = rw e refl
    go false true b e = refl
    go false false b e = refl

-- so the discard is not careful
discard_is_careless : IsCareful 5 (own 5 put) (Unlink inbox held) → ⊥
discard_is_careless c = file_is_lost (loses_nothing begun lost begun_starts lost_is_legal ((λ on. c), put_is_careful) none_of_theirs)
