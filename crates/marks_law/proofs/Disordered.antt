-- What an image that is not ordered may do: a number is removed and withdrawn, another message comes to it, and the marks are sound; but the disk
-- keeps the removal and the new message, and not the withdrawal. So the mark passes to the new message.
use Rattle.std.proofs.Common.{◌≡◌, ℕ, Bool, true, false, ◌==◌, ◌||◌, ◌⊎◌, inl, inr, List, [], ◌∷◌, Option, Some, None, refl, sym, ◌∙◌, ap, subst, codes, bytes_eq, if◌then◌else◌}
use Rattle.mh_base.specs.Entries.{kind_of}
use Rattle.mh_base.specs.declared.entry.Entry.TheVariants.{Number, Held, Temp, Sequences}
use Rattle.folder_files.specs.CrashImage.{IsDirectoryImage, IsCrashImage}
use Rattle.folder_files.specs.Directory.{Slots, touches}
use Rattle.folder_files.specs.Histories.{world_after, own, has_acted, IsLegal, begins, answers}
use Rattle.folder_files.specs.Places.{same_place}
use Rattle.folder_files.specs.Steps.{made}
use Rattle.folder_files.specs.Worlds.{FileState, shown}
use Rattle.folder_files.specs.declared.event.After.{After}
use Rattle.folder_files.specs.declared.event.After.TheVariants.{Made}
use Rattle.folder_files.specs.declared.event.Event.{Event}
use Rattle.folder_files.specs.declared.event.Event.TheVariants.{Act, Deliver, Crash, End}
use Rattle.folder_files.specs.declared.place.Place.{Place}
use Rattle.folder_files.specs.declared.step.Answer.{Answer}
use Rattle.folder_files.specs.declared.step.Answer.TheVariants.{Done}
use Rattle.folder_files.specs.declared.step.Step.{Step}
use Rattle.folder_files.specs.declared.step.Step.TheVariants as step
use Rattle.folder_files.specs.declared.world.Change.{Change}
use Rattle.folder_files.specs.declared.world.Change.TheVariants.{Set, Moved}
use Rattle.folder_files.specs.declared.world.World.{World}
use Rattle.step_plans.specs.Moments.{Leads, IsTriedAt, live}
use Rattle.folder_files.proofs.Names.{bytes_true, bytes_false, number_text}
use Rattle.step_plans.proofs.Stage.{inbox, one, temp, one_is, temp_is}
use Rattle.folder_files.proofs.Sameness.{at_all}
use Rattle.marks_law.specs.Heirs.{IsHeir, Descends, itself, further}
use Rattle.marks_law.specs.Bearers.{Marking, Bears, marks, stood, set, kept, on}
use Rattle.marks_law.specs.Sound.{IsSound, IsOwn, IsOrdered, AreSound, AreSoundIn}
use Rattle.marks_law.proofs.Sounding.{absent}
use Rattle.marks_law.proofs.Views.{EachView, each_part}
use Rattle.marks_law.proofs.Withdrawing.{begun, says, sequences, sequences_is, k, AreNoReads, no_copy, heir_case, bears_first}
use Rattle.marks_law.proofs.Settling.{marked_one}

-- the second name that run 5 makes
abbrev another_temp : List ℕ
another_temp = codes ".mh_temp_00000000000000000000000000000005_1"

-- message 1, which is marked, is removed, and the text without its mark is tried
abbrev withdrawing : List Event
withdrawing = Act 5 (step.SyncFile inbox temp) Done Made ∷ (Act 5 (step.Create inbox temp []) Done Made ∷ (Act 5 (step.Unlink inbox one) Done Made ∷ []))

-- the text is committed, and a new message is put at the number
abbrev pub replaced : List Event
replaced = Act 5 (step.Link inbox another_temp one) Done Made ∷ (Act 5 (step.SyncFile inbox another_temp) Done Made ∷ (Act 5 (step.Create inbox another_temp (codes "y")) Done Made ∷ (Act 5 (step.Rename inbox temp sequences) Done Made ∷ withdrawing)))

replaced_is_legal : IsLegal begun replaced
unfolding world_after made shown
replaced_is_legal = answers 5 (step.Link inbox another_temp one) Done (answers 5 (step.SyncFile inbox another_temp) Done (answers 5 (step.Create inbox another_temp (codes "y")) Done (answers 5 (step.Rename inbox temp sequences) Done
    (answers 5 (step.SyncFile inbox temp) Done (answers 5 (step.Create inbox temp []) Done (answers 5 (step.Unlink inbox one) Done begins refl refl) refl refl) refl refl) refl refl) refl refl) refl refl) refl refl

-- the machine stops: the removal and the put are kept, and the commit is not
abbrev pub cut_apart : World
cut_apart = record {
  directories = record { place = inbox; safe = record { name = one; file = 9 } ∷ (record { name = another_temp; file = 9 } ∷ (record { name = sequences; file = 3 } ∷ [])); pending = [] } ∷ [];
  files = record { id = 9; bytes = codes "y"; safe = true } ∷ (record { id = 8; bytes = []; safe = true } ∷ (record { id = 3; bytes = 1 ∷ []; safe = true } ∷ (record { id = 7; bytes = codes "x"; safe = true } ∷ [])));
  drops = [];
  locks = [];
  ended = 5 ∷ [];
}

abbrev keep : ℕ → Bool
keep i = (i == 0) || ((i == 3) || (i == 4))

elsewhere : (p : Place) → same_place inbox p ≡ false → IsDirectoryImage ((world_after begun replaced).directories p) ((shown cut_apart).directories p)
unfolding world_after made shown
elsewhere p e = rw e (record { keep = λ i. true; closed = tt; slots = λ x. refl; there = refl; nothing_pending = refl })

-- a change that doesn't touch a name
apart : (c : Change) (a x : List ℕ) → (touches c a ≡ true → ⊥) → bytes_eq a x ≡ true → touches c x ≡ true → ⊥
apart c a x differ t u = differ (subst (λ y. touches c y ≡ true) (sym (bytes_true a x t)) u)

inbox_image : IsDirectoryImage ((world_after begun replaced).directories inbox) ((shown cut_apart).directories inbox)
unfolding world_after made shown
inbox_image = record {
  keep = keep;
  closed = (
    (λ i x t. ((λ u. refl), ((λ u. absurd (apart (Moved temp sequences) one x (λ e. cc (e)) t u)), ((λ u. absurd (apart (Set temp 8) one x (λ e. cc (e)) t u)), ((λ u. refl), tt))))),
    (
      (λ i x t. ((λ u. absurd (apart (Moved temp sequences) another_temp x (λ e. cc (e)) t u)), ((λ u. absurd (apart (Set temp 8) another_temp x (λ e. cc (e)) t u)), ((λ u. refl), tt)))),
      ((λ i x t. absurd (cc (i))), ((λ i x t. absurd (cc (i))), ((λ i x t. tt), tt))),
    ),
  );
  slots = λ x. same (bytes_eq one x) (bytes_eq another_temp x) (bytes_eq sequences x);
  there = refl;
  nothing_pending = refl;
}
  where
    same : (o a q : Bool)
        → ◌≡◌ {A = Option ℕ} (if o then Some 9 else (if a then Some 9 else (if q then Some 3 else None))) (if o then Some 9 else (if a then Some 9 else (if o then None else (if q then Some 3 else (if o then Some 7 else None)))))
    same true a q = refl
    same false true q = refl
    same false false true = refl
    same false false false = refl

cut_is_image : IsCrashImage (world_after begun replaced) (shown cut_apart) (has_acted replaced)
unfolding world_after made shown
cut_is_image = record {
  directories = at_all inbox (λ p. IsDirectoryImage ((world_after begun replaced).directories p) ((shown cut_apart).directories p)) inbox_image elsewhere;
  kept_bytes = λ f s. bytes f (9 == f) refl (8 == f) refl (3 == f) refl (7 == f) refl;
  all_safe = λ f l. safe (9 == f) (8 == f) (3 == f) (7 == f);
  next_file = refl;
  outside = refl;
  no_lock = λ p r. refl;
  ended = λ r e. over (5 == r) e;
}
  where
    state : List ℕ → FileState
    state b = record { bytes = b; safe = true }

    safe : (a b c d : Bool) → (if a then state (codes "y") else (if b then state [] else (if c then state (1 ∷ []) else (if d then state (codes "x") else state [])))).safe ≡ true
    safe true b c d = refl
    safe false true c d = refl
    safe false false true d = refl
    safe false false false true = refl
    safe false false false false = refl

    bytes : (f : ℕ) (a : Bool) → (9 == f) ≡ a → (b : Bool) → (8 == f) ≡ b → (c : Bool) → (3 == f) ≡ c → (d : Bool) → (7 == f) ≡ d → ((shown cut_apart).files f).bytes ≡ ((world_after begun replaced).files f).bytes
    bytes f true ea b eb c ec d ed = rw ea refl
    bytes f false ea true eb c ec d ed = rw (ea, eb) refl
    bytes f false ea false eb true ec d ed = rw (ea, eb, ec) refl
    bytes f false ea false eb false ec true ed = rw (ea, eb, ec, ed) refl
    bytes f false ea false eb false ec false ed = rw (ea, eb, ec, ed) refl

    over : (v : Bool) → ((v || (v || (v || (v || (v || (v || (v || false))))))) || false) ≡ true → (v || false) ≡ true
    over true e = refl
    over false e = absurd (cc (e))

-- the image holds no front part of the pending changes
cut_is_not_ordered : IsOrdered ((world_after begun replaced).directories inbox) ((shown cut_apart).directories inbox) → ⊥
unfolding world_after made shown
cut_is_not_ordered i = each_part Clash ((world_after begun replaced).directories inbox).safe i.newer i.older
    (subst (λ (cs : List Change). EachView Clash ((world_after begun replaced).directories inbox).safe cs) i.parts
    ((λ q o. cc (q)), ((λ q o. cc (o)), ((λ q o. cc (o)), ((λ q o. cc (o)), ((λ q o. cc (o)), (λ q o. cc (o))))))))
    (sym (i.slots sequences)) (sym (i.slots one))
  where
    Clash : Slots → Type 0
    Clash s = s sequences ≡ Some 3 → s one ≡ Some 9 → ⊥

-- the marks are sound before the crash
own_mark : IsOwn begun k replaced (Some 3) 1 7
unfolding world_after shown
own_mark = (3, 7, refl, on (on (on (on (on (on (on (stood refl (one, one_is, refl)))))))), itself)

silent_sound : (s : Slots) (Own : ℕ → ℕ → Type 0) → IsSound s (says []) Own
silent_sound s Own = record { numbers = λ y n g e l m. absurd (cc (m)); held = λ y h r n g e a m eh l. absurd (cc (m)); above = λ h y r m n g eh l e a q lt. absurd (cc (q)) }

old_sound : (s : Slots) → ((g : ℕ) → s one ≡ Some g → 7 ≡ g) → ((h : List ℕ) (r m : ℕ) → kind_of h ≡ Held r m → s h ≡ None) → IsSound s (says (1 ∷ [])) (IsOwn begun k replaced (Some 3))
old_sound s at none = record {
  numbers = λ y n g e l m. its y n g e l (marked_one n m);
  held = λ y h r n g e a m eh l. absurd (absent (none h r n eh) l);
  above = λ h y r m n g eh l e a q lt. absurd (absent (none h r m eh) l);
}
  where
    its : (y : List ℕ) (n g : ℕ) → kind_of y ≡ Number n → s y ≡ Some g → 1 ≡ n → IsOwn begun k replaced (Some 3) n g
    its y n g e l q = let same : y ≡ one = number_text y 1 (e ∙ ap Number (sym q)) ∙ sym (number_text one 1 one_is) in
        subst (λ j. IsOwn begun k replaced (Some 3) j g) q (subst (λ j. IsOwn begun k replaced (Some 3) 1 j) (at g (ap s (sym same) ∙ l)) own_mark)

not_one : (h : List ℕ) (r m : ℕ) → kind_of h ≡ Held r m → bytes_eq one h ≡ false
not_one h r m e = bytes_false one h (λ i. (let z : Number 1 ≡ Held r m = sym one_is ∙ (ap kind_of i ∙ e) in cc (z)))

not_sequences : (h : List ℕ) (r m : ℕ) → kind_of h ≡ Held r m → bytes_eq sequences h ≡ false
not_sequences h r m e = bytes_false sequences h (λ i. (let z : Sequences ≡ Held r m = sym sequences_is ∙ (ap kind_of i ∙ e) in cc (z)))

not_temp : (h : List ℕ) (r m : ℕ) → kind_of h ≡ Held r m → bytes_eq temp h ≡ false
not_temp h r m e = bytes_false temp h (λ i. (let z : Temp 5 0 ≡ Held r m = sym temp_is ∙ (ap kind_of i ∙ e) in cc (z)))

sound : AreSound begun k replaced
unfolding world_after made shown
sound newer older e = each_part Sound ((world_after begun replaced).directories inbox).safe newer older
    (subst (λ (cs : List Change). EachView Sound ((world_after begun replaced).directories inbox).safe cs) e (
      silent_sound _ _,
      (
        silent_sound _ _,
        (
          silent_sound _ _,
          (
            old_sound _ (λ g l. cc (l)) (λ h r m eh. rw (not_temp h r m eh, not_one h r m eh, not_sequences h r m eh) refl),
            (old_sound _ (λ g l. cc (l)) (λ h r m eh. rw (not_one h r m eh, not_sequences h r m eh) refl), old_sound _ (λ g l. cc (l)) (λ h r m eh. rw (not_one h r m eh, not_sequences h r m eh) refl)),
          ),
        ),
      ),
    ))
  where
    Sound : Slots → Type 0
    Sound s = IsSound s (marks k (world_after begun replaced) (s sequences)) (IsOwn begun k replaced (s sequences))

-- a text file's mark came at its commit, or before
bears_act : {start : World} {m_ : Marking} {n f c r : ℕ} {s : Step} {a : Answer} {m : After} {past : List Event} → Bears start m_ n f c (Act r s a m ∷ past)
    → ((t : List ℕ) × (moment : List Event) × (s ≡ step.Rename m_.place t m_.name) × IsTriedAt start r moment past × Leads start moment m_.place t c) ⊎ Bears start m_ n f c past
bears_act (set {temp = t} moment tried lt no_mark at) = inl (t, moment, refl, tried, lt)
bears_act (kept {temp = t} moment b tried lt lx old z) = inl (t, moment, refl, tried, lt)
bears_act (on z) = inr z

tried_now : {r : ℕ} {moment : List Event} → IsTriedAt begun r moment withdrawing → moment ≡ withdrawing
tried_now (live l) = refl

led_temp : Leads begun withdrawing inbox temp 3 → ⊥
unfolding world_after made shown
led_temp e = cc (e)

-- the commit was not one of file 3
not_three : (t moment : _) → step.Rename inbox temp sequences ≡ step.Rename inbox t sequences → IsTriedAt begun 5 moment withdrawing → Leads begun moment inbox t 3 → ⊥
not_three t moment e tried lt = let same : temp ≡ t = cc (e) in led_temp (subst (λ (y : List Event). Leads begun y inbox temp 3) (tried_now tried) (subst (λ y. Leads begun moment inbox y 3) (sym same) lt))

bearer : {f : ℕ} → Bears begun k 1 f 3 replaced → f ≡ 7
bearer z = elim (bears_act z) [
  | inl y ↦ absurd (cc (y.2))
  | inr z ↦ elim (bears_act z) [
    | inl y ↦ absurd (cc (y.2))
    | inr z ↦ elim (bears_act z) [
      | inl y ↦ absurd (cc (y.2))
      | inr z ↦ elim (bears_act z) [
        | inl y ↦ absurd (not_three y.0 y.1 y.2 y.3 y.4)
        | inr z ↦ elim (bears_act z) [
          | inl y ↦ absurd (cc (y.2))
          | inr z ↦ elim (bears_act z) [ inl y ↦ absurd (cc (y.2)) | inr z ↦ elim (bears_act z) [ inl y ↦ absurd (cc (y.2)) | inr z ↦ bears_first z ] ]
        ]
      ]
    ]
  ]
]

-- all is done by run 5, which reads nothing
abbrev AreUnread : List Event → Type 0
AreUnread [] = Unit {0}
AreUnread (Act r s a m ∷ past) = AreNoReads (own r past) × AreUnread past
AreUnread (Deliver path piece ∷ past) = ⊥
AreUnread (Crash v ∷ past) = ⊥
AreUnread (End r ∷ past) = ⊥

no_heir : {start : World} {p q : Place} {f g : ℕ} (past : List Event) → AreUnread past → IsHeir start p f q g past → ⊥
no_heir [] u z = elim z [ ]
no_heir {p = p} {q = q} (Act r s a m ∷ past) u z = elim (heir_case z) [ inl y ↦ no_copy p y.0 q y.1 (own r past) u.0 y.2 | inr y ↦ no_heir past u.1 y ]
no_heir (Deliver path piece ∷ past) u z = absurd u
no_heir (Crash v ∷ past) u z = absurd u
no_heir (End r ∷ past) u z = absurd u

unread : AreUnread replaced
unfolding own
unread = (
  ((λ p n l e. cc (e)), ((λ p n l e. cc (e)), ((λ p n l e. cc (e)), ((λ p n l e. cc (e)), ((λ p n l e. cc (e)), ((λ p n l e. cc (e)), tt)))))),
  (((λ p n l e. cc (e)), ((λ p n l e. cc (e)), ((λ p n l e. cc (e)), ((λ p n l e. cc (e)), ((λ p n l e. cc (e)), tt))))), (((λ p n l e. cc (e)), ((λ p n l e. cc (e)), ((λ p n l e. cc (e)), ((λ p n l e. cc (e)), tt)))), (((λ p n l e. cc (e)), ((λ p n l e. cc (e)), ((λ p n l e. cc (e)), tt))), (((λ p n l e. cc (e)), ((λ p n l e. cc (e)), tt)), (((λ p n l e. cc (e)), tt), (tt, tt)))))),
)

same_file : {f g : ℕ} {q : Place} → Descends begun inbox f replaced q g → f ≡ g
same_file itself = refl
same_file (further z h) = absurd (no_heir replaced unread h)

not_own : IsOwn begun k replaced (Some 3) 1 9 → ⊥
not_own z = let c : 3 ≡ z.0 = cc (z.2) in
    let e : z.1 ≡ 7 = bearer (subst (λ y. Bears begun k 1 z.1 y replaced) (sym c) z.3) in
    let n : 7 ≡ 9 = sym e ∙ same_file z.4 in cc (n)

-- and in the image the mark of message 1 passed to the new message
mark_passes : AreSoundIn begun k replaced (shown cut_apart) → ⊥
unfolding shown
mark_passes h = not_own (h.numbers one 1 9 one_is refl refl)
