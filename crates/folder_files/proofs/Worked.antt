-- Small cases of the definitions, worked out by hand, as facts that compute.
use Rattle.std.proofs.Common.{◌≡◌, inl, inr, ◌∷◌, [], ℕ, Bool, true, false, List, refl, subst, sym, Some, None, ◌==◌, ◌+◌, ◌||◌, bytes_eq}
use Rattle.std.specs.Prelude.{if◌then◌else◌, is_some, Contains}
use Rattle.std.proofs.Common.{arith}
use Rattle.std.proofs.lemmas.Slice.Eq.{bytes_eq-Decides}
use Rattle.folder_files.specs.Careful.{HasLock, Cuts, Removes, Commits, looks}
use Rattle.folder_files.specs.Commands.{Manner, MakesStep, Looking, Noting, Incorporating, Removing}
use Rattle.folder_files.specs.CrashImage.{IsCrashImage}
use Rattle.folder_files.specs.Deeds.{did}
use Rattle.folder_files.specs.Directory.{Slots, lead, kept_lead, touches, IsClosed, now_in}
use Rattle.folder_files.specs.Histories.{own, has_acted, delivered, after_event, world_after, IsLegal, begins, answers, stops, AreCareful, AreHonest, AreOrderly, AreConsecutive, IsAlone}
use Rattle.mh_base.specs.Folders.{is_folder_name}
use Rattle.folder_files.specs.Places.{is_parent}
use Rattle.folder_files.specs.Steps.{made, left_by, create_answer, cut_answer, piece_answer, reading_of, IsListing, IsLocked, MayLeave}
use Rattle.folder_files.specs.Worlds.{shown, IsStart}
use Rattle.folder_files.specs.declared.world.Change.{Change}
use Rattle.folder_files.specs.declared.world.Change.TheVariants as change
use Rattle.folder_files.specs.declared.world.World.{World}
use Rattle.folder_files.specs.declared.place.Place.{Place}
use Rattle.folder_files.specs.declared.place.Place.TheVariants as place
use Rattle.folder_files.specs.declared.step.Step.TheVariants as step
use Rattle.folder_files.specs.declared.step.Answer.TheVariants as answer
use Rattle.folder_files.specs.declared.event.Event.{Event}
use Rattle.folder_files.specs.declared.event.Event.TheVariants as event
use Rattle.folder_files.specs.declared.event.After.TheVariants as after

-- two changes of one name and one of another: 1 leads to file 10, then moves to 2; 3 leads to file 30. The newest is first
abbrev pub nothing_safe : Slots
nothing_safe x = None

abbrev pub three_changes : List Change
three_changes = change.Set (51 ∷ []) 30 ∷ (change.Moved (49 ∷ []) (50 ∷ []) ∷ (change.Set (49 ∷ []) 10 ∷ []))

all_lead_two : lead nothing_safe three_changes (50 ∷ []) ≡ Some 10
all_lead_two = refl

all_leave_no_one : lead nothing_safe three_changes (49 ∷ []) ≡ None
all_leave_no_one = refl

abbrev pub last_only : ℕ → Bool
last_only i = i == 2

apart : (c : Change) (x : List ℕ) {A : Type 0} → touches (change.Set (51 ∷ []) 30) x ≡ true → touches c x ≡ true → (touches c (51 ∷ []) ≡ true → ⊥) → A
apart c x t u n = absurd (n (subst (λ y. touches c y ≡ true) (sym ((bytes_eq-Decides (51 ∷ []) x).0 t)) u))

-- the last change alone is a closed set, and leaves 3 alone
last_is_closed : IsClosed three_changes last_only
last_is_closed = (
  (λ k x t. ((λ u. apart (change.Moved (49 ∷ []) (50 ∷ [])) x t u (λ e. cc (e))), ((λ u. apart (change.Set (49 ∷ []) 10) x t u (λ e. cc (e))), tt))),
  ((λ k x t. absurd (cc (k))), ((λ k x t. absurd (cc (k))), tt)),
)

last_leads_three : kept_lead nothing_safe three_changes last_only (51 ∷ []) ≡ Some 30
last_leads_three = refl

last_leads_no_two : kept_lead nothing_safe three_changes last_only (50 ∷ []) ≡ None
last_leads_no_two = refl

-- the move without the change before it of the same name is none
move_is_not_closed : IsClosed three_changes (λ i. i == 1) → ⊥
move_is_not_closed c = false_true ((c.1.0 refl (49 ∷ []) refl).0 refl)
  where
    false_true : (0 == 1) ≡ true → ⊥
    false_true e = cc (e)

-- `inbox` in the mail directory `m`
abbrev pub inbox : Place
inbox = place.Folder (109 ∷ []) (105 ∷ [])

made_with_inbox : is_parent (place.Mail (109 ∷ [])) inbox ≡ true
made_with_inbox = refl

below_inbox : is_folder_name (105 ∷ []) ≡ true → is_parent inbox (place.Folder (109 ∷ []) (105 ∷ (47 ∷ (97 ∷ [])))) ≡ true
below_inbox e = e

-- `i ` stands before a slash in `i /a`, and no folder is called so
no_folder_above : is_folder_name (105 ∷ (32 ∷ [])) ≡ false → is_parent (place.Folder (109 ∷ []) (105 ∷ (32 ∷ []))) (place.Folder (109 ∷ []) (105 ∷ (32 ∷ (47 ∷ (97 ∷ []))))) ≡ false
no_folder_above e = e

no_parent : is_parent inbox (place.Folder (109 ∷ []) (105 ∷ (97 ∷ []))) ≡ false
no_parent = refl

-- a world in which 1 of `inbox` leads to file 7, and run 9 has the lock
abbrev pub small : World
small = record {
  directories = record { place = inbox; safe = record { name = 49 ∷ []; file = 7 } ∷ []; pending = [] } ∷ [];
  files = record { id = 7; bytes = 120 ∷ []; safe = true } ∷ [];
  drops = [];
  locks = record { place = inbox; run = 9 } ∷ [];
  ended = [];
}

linked_two : now_in ((made (shown small) 5 (step.Link inbox (49 ∷ []) (50 ∷ []))).directories inbox) (50 ∷ []) ≡ Some 7
unfolding made shown
linked_two = refl

renamed_one : now_in ((made (shown small) 5 (step.Rename inbox (49 ∷ []) (50 ∷ []))).directories inbox) (49 ∷ []) ≡ None
unfolding made shown
renamed_one = refl

renamed_to_itself : now_in ((made (shown small) 5 (step.Rename inbox (49 ∷ []) (49 ∷ []))).directories inbox) (49 ∷ []) ≡ Some 7
unfolding made shown
renamed_to_itself = refl

created_eight : now_in ((made (shown small) 5 (step.Create inbox (50 ∷ []) (121 ∷ []))).directories inbox) (50 ∷ []) ≡ Some 8
unfolding made shown
created_eight = refl

not_created_again : create_answer ((shown small).directories inbox) (49 ∷ []) ≡ answer.Exists
unfolding shown
not_created_again = refl

own_lock_falls : (left_by (shown small) 9 (step.Unlock inbox) answer.Failed after.Before).holds inbox 9 ≡ false
unfolding made shown
own_lock_falls = refl

their_lock_stays : (left_by (shown small) 5 (step.Unlock inbox) answer.Failed after.Before).holds inbox 9 ≡ true
unfolding made shown
their_lock_stays = refl

ended_lock_falls : (after_event (shown small) (event.End 9)).holds inbox 9 ≡ false
unfolding shown
ended_lock_falls = refl

longer : reading_of 2 (97 ∷ (98 ∷ (99 ∷ []))) ≡ answer.Long 3
longer = refl

second_piece : piece_answer 1 1 (Some (97 ∷ (98 ∷ (99 ∷ [])))) ≡ answer.Piece (98 ∷ []) 3
second_piece = refl

grown : cut_answer 2 (Some (97 ∷ [])) ≡ answer.Grown
grown = refl

first_delivery : delivered None (97 ∷ []) ≡ Some (97 ∷ [])
first_delivery = refl

-- the world with nothing in it
abbrev pub empty : World
empty = record { directories = []; files = []; drops = []; locks = []; ended = [] }

empty_starts : IsStart empty
empty_starts = record { directories = tt; files = tt; outside = tt; no_lock = refl }

-- a crash leaves it as it was
empty_image : IsCrashImage (shown empty) (shown empty) (λ r. false)
unfolding shown
empty_image = record {
  directories = λ p. record { keep = λ i. true; closed = tt; slots = λ x. refl; there = refl; nothing_pending = refl };
  kept_bytes = λ f s. refl;
  all_safe = λ f l. refl;
  next_file = refl;
  outside = refl;
  no_lock = λ p r. refl;
  ended = λ r e. e;
}

-- run 5 syncs a folder that is not there, and ends; then the machine stops
abbrev pub short_past : List Event
short_past = event.Crash empty ∷ (event.End 5 ∷ (event.Act 5 (step.SyncFolder inbox) answer.Gone after.Made ∷ []))

one_deed : own 5 short_past ≡ did (step.SyncFolder inbox) answer.Gone ∷ []
unfolding own
one_deed = refl

no_deed_of_six : own 6 short_past ≡ []
unfolding own
no_deed_of_six = refl

five_acted : has_acted short_past 5 ≡ true
five_acted = refl

first_is_legal : IsLegal empty (event.Act 5 (step.SyncFolder inbox) answer.Gone after.Made ∷ [])
unfolding world_after shown
first_is_legal = answers 5 (step.SyncFolder inbox) answer.Gone begins refl refl

first_two_are_legal : IsLegal empty (event.End 5 ∷ (event.Act 5 (step.SyncFolder inbox) answer.Gone after.Made ∷ []))
first_two_are_legal = stops 5 first_is_legal

short_is_careful : AreCareful short_past
short_is_careful = ((λ on. looks tt), tt)

short_is_honest : AreHonest empty short_past
short_is_honest = tt

short_is_orderly : AreOrderly short_past
short_is_orderly = ((λ p l c. absurd c), tt)

three_in_a_row : AreConsecutive (4 ∷ (5 ∷ (6 ∷ [])))
three_in_a_row = (refl, (refl, tt))

gap_between : AreConsecutive (4 ∷ (6 ∷ [])) → ⊥
gap_between c = apart_numbers c.0
  where
    apart_numbers : 6 ≡ 4 + 1 → ⊥
    apart_numbers e = cc (e)

-- `inc` into `i` of the mail directory `m` cuts its own drop, and no other
abbrev pub incorporating : Manner
incorporating = Incorporating (109 ∷ []) (105 ∷ []) (record { home = true; text = 109 ∷ [] })

incorporating_cuts : MakesStep incorporating [] Cuts (step.CutDrop (record { home = true; text = 109 ∷ [] }) 3)
incorporating_cuts = inr (inr (3, refl))

-- who looks commits nothing, and who keeps the context commits no folder's sequences
looking_commits_not : MakesStep Looking [] Commits (step.Rename inbox (50 ∷ []) (51 ∷ [])) → ⊥
looking_commits_not m = m

noting_commits : MakesStep (Noting (109 ∷ [])) [] Commits (step.Rename (place.Mail (109 ∷ [])) (50 ∷ []) (51 ∷ []))
noting_commits = (refl, refl)

noting_leaves_folders : MakesStep (Noting (109 ∷ [])) [] Commits (step.Rename inbox (50 ∷ []) (51 ∷ [])) → ⊥
noting_leaves_folders m = apart_places m.1
  where
    apart_places : place.Mail (109 ∷ []) ≡ inbox → ⊥
    apart_places e = cc (e)

-- nobody's words chose the number of a removal
removing_none : MakesStep (Removing (109 ∷ []) (105 ∷ []) []) [] Removes (step.Unlink inbox (49 ∷ [])) → ⊥
removing_none m = elim m [ inl k ↦ elim k [ inl z ↦ (let e = z.0 in cc (e)) | inr z ↦ (let e = z.0 in cc (e)) ] | inr k ↦ none_there k.2.2 ]
  where
    none_there : {n : ℕ} → Contains [] n → ⊥
    none_there c = omega (arith, c.1)

-- the one name of `inbox`
one_listed : IsListing ((shown small).directories inbox) ((49 ∷ []) ∷ [])
unfolding shown
one_listed = record { ascending = tt; all = λ x. found (bytes_eq (49 ∷ []) x) }
  where
    found : (b : Bool) → (b || false) ≡ is_some {T = ℕ} (if b then Some 7 else None)
    found true = refl
    found false = refl

-- run 9 has its lock, so run 5 may find it busy
found_busy : IsLocked (shown small) 5 inbox answer.Busy
unfolding shown
found_busy = (refl, (9, (λ e. cc (e)), refl))

-- or get it all the same, which is not honest
got_anyway : IsLocked (shown small) 5 inbox answer.Done
unfolding shown
got_anyway = refl

not_honest : AreHonest small (event.Act 5 (step.Lock inbox) answer.Done after.Made ∷ []) → ⊥
unfolding world_after shown
not_honest h = true_false (h.0 9 (λ e. cc (e)))
  where
    true_false : true ≡ false → ⊥
    true_false e = cc (e)

-- a name taken away without the lock is out of order
not_orderly : AreOrderly (event.Act 5 (step.Unlink inbox (49 ∷ [])) answer.Done after.Made ∷ []) → ⊥
unfolding own
not_orderly o = no_lock (o.0 inbox tt refl)
  where
    no_lock : HasLock inbox [] → ⊥
    no_lock l = elim l [ ]

-- a failed Create may leave other bytes, and an Unlink may not
torn_create : MayLeave (step.Create inbox (50 ∷ []) (120 ∷ [])) (after.Torn (121 ∷ []))
torn_create = tt

no_torn_unlink : MayLeave (step.Unlink inbox (50 ∷ [])) (after.Torn (121 ∷ [])) → ⊥
no_torn_unlink t = t

-- one step by itself is made alone
one_alone : IsAlone 5 empty (event.Act 5 (step.SyncFolder inbox) answer.Gone after.Made ∷ []) (0 ∷ [])
unfolding world_after shown
one_alone = record { consecutive = tt; unlocked = λ p other n. refl }
