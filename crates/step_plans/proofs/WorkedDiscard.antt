-- A message moved to another folder, step by step: such a history is there, each of its steps is careful, and its copy is durable.
use Rattle.std.proofs.Common.{◌≡◌, ℕ, true, inl, inr, List, [], ◌∷◌, refl, ap, subst, codes}
use Rattle.mh_base.specs.Entries.{kind_of}
use Rattle.folder_files.specs.Careful.{Discards, discards, looks, changes, MayDiscard, WasGivenAway, IsCopyPut, IsSucceeded, IsSuccessorSynced}
use Rattle.folder_files.specs.Deeds.{Deed, did, Once, now, on}
use Rattle.folder_files.specs.Histories.{world_after, own, IsLegal, answers, AreCareful}
use Rattle.folder_files.specs.Named.{is_number, is_temp, is_temp_of, is_taking, is_held_of}
use Rattle.folder_files.specs.Steps.{made}
use Rattle.folder_files.specs.Walks.{Walks}
use Rattle.folder_files.specs.Worlds.{shown}
use Rattle.folder_files.specs.declared.event.After.TheVariants.{Made}
use Rattle.folder_files.specs.declared.event.Event.{Event}
use Rattle.folder_files.specs.declared.event.Event.TheVariants.{Act}
use Rattle.folder_files.specs.declared.place.Place.{Place}
use Rattle.folder_files.specs.declared.step.Answer.{Answer}
use Rattle.folder_files.specs.declared.step.Answer.TheVariants.{Done, Content, Failed}
use Rattle.folder_files.specs.declared.step.Step.{Step}
use Rattle.folder_files.specs.declared.step.Step.TheVariants.{Read, Create, SyncFile, SyncFolder, Rename, Link, Unlink}
use Rattle.folder_files.proofs.Walking.{everywhere}
use Rattle.step_plans.specs.Durable.{IsDurable, now, on}
use Rattle.step_plans.specs.Leaving.{IsDiscarded, now}
use Rattle.step_plans.specs.Moments.{live}
use Rattle.step_plans.specs.Successors.{IsSuccessor, now, on}
use Rattle.step_plans.proofs.Past.{did_step, did_answer, once_head, once_none}
use Rattle.step_plans.proofs.Stage.{inbox, out, one, two, held, temp, one_is, two_is, held_is, temp_is, unfailed, done_is_no_failure}
use Rattle.step_plans.proofs.LostByDiscard.{begun, put, put_is_careful, put_is_legal}

-- after its put the run syncs the folder, and only then discards the message
abbrev pub safe : List Event
safe = Act 5 (SyncFolder out) Done Made ∷ put

abbrev pub moved : List Event
moved = Act 5 (Unlink inbox held) Done Made ∷ safe

moved_is_legal : IsLegal begun moved
unfolding world_after made shown
moved_is_legal = answers 5 (Unlink inbox held) Done (answers 5 (SyncFolder out) Done put_is_legal refl refl) refl refl

-- a deed answered Done is no reading
no_read : (s : Step) (newer : List Deed) → IsSucceeded 5 inbox held newer (did s Done)
no_read s newer bytes r = absurd (differ (did_answer r.1))
  where
    differ : Done ≡ Content bytes → ⊥
    differ e = cc (e)

-- the copy that was put after the reading
copy_put : Once (IsCopyPut 5 (codes "x")) (did (SyncFolder out) Done ∷ (did (Link out temp one) Done ∷ (did (SyncFile out temp) Done ∷ (did (Create out temp (codes "x")) Done ∷ []))))
copy_put = on (now (out, temp, (one, refl, ap (λ k. is_temp_of 5 k) temp_is, ap (λ k. is_number k) one_is, refl), on (now (codes "x", refl, ([], refl, refl)))))

read_succeeded : IsSucceeded 5 inbox held (did (SyncFolder out) Done ∷ (did (Link out temp one) Done ∷ (did (SyncFile out temp) Done ∷ (did (Create out temp (codes "x")) Done ∷ [])))) (did (Read inbox held 10) (Content (codes "x")))
read_succeeded bytes r = subst (λ b. Once (IsCopyPut 5 b) (did (SyncFolder out) Done ∷ (did (Link out temp one) Done ∷ (did (SyncFile out temp) Done ∷ (did (Create out temp (codes "x")) Done ∷ []))))) (same (did_answer r.1)) copy_put
  where
    same : Content (codes "x") ≡ Content bytes → codes "x" ≡ bytes
    same e = cc (e)

succeeded : Walks (λ newer d older. IsSucceeded 5 inbox held newer d) [] (own 5 safe)
unfolding Walks own
succeeded = (no_read (SyncFolder out) _, (no_read (Link out temp one) _, (no_read (SyncFile out temp) _, (no_read (Create out temp (codes "x")) _, (read_succeeded, (no_read (Rename inbox two held) _, tt))))))

-- a deed that is no link puts nothing
no_put : (s : Step) (a : Answer) → ((q : Place) (t n : List ℕ) → s ≡ Link q t n → ⊥) → (newer older : List Deed) → IsSuccessorSynced 5 inbox held newer (did s a) older
no_put s a never newer older q p = absurd (never q p.0 p.1.0 (did_step p.1.1))

put_synced : (older : List Deed) → IsSuccessorSynced 5 inbox held (did (SyncFolder out) Done ∷ []) (did (Link out temp one) Done) older
put_synced older q p = now (ap (λ z. did (SyncFolder z) Done) (place (did_step p.1.1)))
  where
    place : Link out temp one ≡ Link q p.0 p.1.0 → out ≡ q
    place e = cc (e)

all_synced : Walks (IsSuccessorSynced 5 inbox held) [] (own 5 safe)
unfolding Walks own
all_synced = (
  no_put (SyncFolder out) Done (λ q t n e. cc (e)) _ _,
  (
    put_synced _,
    (
      no_put (SyncFile out temp) Done (λ q t n e. cc (e)) _ _,
      (
        no_put (Create out temp (codes "x")) Done (λ q t n e. cc (e)) _ _,
        (no_put (Read inbox held 10) (Content (codes "x")) (λ q t n e. cc (e)) _ _, (no_put (Rename inbox two held) Done (λ q t n e. cc (e)) _ _, tt)),
      ),
    ),
  ),
)

taking : is_taking 5 (kind_of two) (kind_of held) ≡ true
taking = rw (two_is, held_is) refl

not_given : WasGivenAway inbox held (own 5 safe) → ⊥
unfolding own
not_given w = elim (once_head w) [
  | inl e ↦ other_folder (did_step e.0)
  | inr y ↦ elim (once_head y) [
    | inl e ↦ (let z = did_step e.0 in cc (z))
    | inr k ↦ elim (once_head k) [
      | inl e ↦ (let z = did_step e.0 in cc (z))
      | inr j ↦ elim (once_head j) [
        | inl e ↦ (let z = did_step e.0 in cc (z))
        | inr i ↦ elim (once_head i) [ inl e ↦ (let z = did_step e.0 in cc (z)) | inr n ↦ elim (once_head n) [ inl e ↦ (let z = did_step e.0 in cc (z)) | inr o ↦ once_none o ] ]
      ]
    ]
  ]
]
  where
    other_folder : SyncFolder out ≡ SyncFolder inbox → ⊥
    other_folder e = cc (e)

may_discard : MayDiscard 5 inbox held (own 5 safe)
unfolding own
may_discard = record {
  not_given_away = not_given;
  taken_and_read = on (on (on (on (now ((codes "x", (10, refl)), now (two, refl, taking))))));
  succeeded = (everywhere (λ newer d older. IsSucceeded 5 inbox held newer d) (own 5 safe)).0 succeeded;
  synced = (everywhere (IsSuccessorSynced 5 inbox held) (own 5 safe)).0 all_synced;
}

moved_is_careful : AreCareful moved
unfolding own
moved_is_careful = (
  λ on. changes (unfailed (own 5 safe) (done_is_no_failure, (done_is_no_failure, (done_is_no_failure, (done_is_no_failure, (no_failure, (done_is_no_failure, tt))))))) Discards
      (discards inbox held (refl, ap (λ k. is_held_of 5 k) held_is, may_discard)),
  ((λ on. looks tt), put_is_careful),
)
  where
    no_failure : Content (codes "x") ≡ Failed → ⊥
    no_failure e = cc (e)

-- file 7 was discarded, and file 8 in `out` is its successor
was_discarded : IsDiscarded begun inbox 7 moved
unfolding world_after made shown
was_discarded = now (ap (λ k. is_held_of 5 k) held_is) (safe, live refl, refl) not_given

is_successor : IsSuccessor begun inbox 7 out 8 (codes "x") (codes "x") moved
unfolding world_after made shown own
is_successor = now (ap (λ k. is_held_of 5 k) held_is) (safe, live refl, refl) not_given ([], refl, refl)
    (on (now refl (ap (λ k. is_temp_of 5 k) temp_is) (ap (λ k. is_number k) one_is) (on (now (refl, now (10, refl)))) refl))

-- and it is durable
is_durable : IsDurable begun out 8 (codes "x") moved
unfolding world_after made shown
is_durable = on (now (now refl (ap (λ k. is_temp k) temp_is) (ap (λ k. is_number k) one_is) refl refl))
