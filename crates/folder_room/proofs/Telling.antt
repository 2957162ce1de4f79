-- What a mailbox in memory tells, call by call.
use Rattle.std.proofs.Common.{◌≡◌, ◌+◌, ◌++◌, ◌∷◌, [], ℕ, List, Option, Some, map, reverse, length, refl, sym, ◌∙◌, ap, subst, arith, append_assoc, append-nil, length-append}
use Rattle.std.proofs.lemmas.List.{reverse-append, reverse-reverse, map-append}
use Rattle.std.specs.Prelude.{Result, Ok, Err, MatchResult, IfOk}
use Rattle.std.specs.declared.alloc.AllocError.{AllocError}
use Rattle.folder_files.specs.Histories.{past_of, IsLegal, world_after}
use Rattle.folder_files.specs.Rows.{IsAnswerOf}
use Rattle.folder_files.specs.Story.{Moment, Mine, Theirs, Asks, Waits, AreOthers, IsOther, places, event_of, Counts}
use Rattle.folder_files.specs.declared.step.Step.{Step}
use Rattle.folder_files.specs.declared.step.Answer.{Answer}
use Rattle.folder_files.specs.declared.step.Answer.TheVariants.{Failed}
use Rattle.folder_files.specs.declared.event.After.{After}
use Rattle.folder_files.specs.declared.event.After.TheVariants.{Before, Made}
use Rattle.folder_files.specs.declared.event.Event.{Event}
use Rattle.folder_files.specs.declared.event.Event.TheVariants as event
use Rattle.folder_files.specs.declared.world.World.{World}
use Rattle.folder_room.specs.Played.{Plays, PlaysOne, stops, plays, skips, acts, lives, is_over, delivers, fails, crashes, IsAnswered, is_dead, fails_by, answers, crashes_within, IsPlayed, failing, fail_of}
use Rattle.folder_room.specs.Seen.{Seen, story_of}
use Rattle.folder_room.specs.declared.script.Happening.{Happening}
use Rattle.folder_room.proofs.Fitted.{fits_row, failed_row}

-- events of others, the oldest first, after which the past is this
pub record Adds (run : ℕ) (past now : List Event) : Type 0 where
  pub others : List Event
  pub past_is : now ≡ reverse others ++ past
  pub theirs : (more : List Moment) → AreOthers run more → AreOthers run (map Theirs others ++ more)

no_more : (run : ℕ) (past : List Event) → Adds run past past
no_more run past = record { others = []; past_is = refl; theirs = λ more h. h }

one_more : (run : ℕ) (e : Event) (past now : List Event) → IsOther run e → Adds run (e ∷ past) now → Adds run past now
one_more run e past now h a = record {
  others = e ∷ a.others;
  past_is = a.past_is ∙ sym (append_assoc (reverse a.others) (e ∷ []) past) ∙ ap (λ es. es ++ past) (sym (reverse-append (e ∷ []) a.others));
  theirs = λ more m. (h, a.theirs more m);
}

one_adds : (start : World) (run : ℕ) (what : Happening) (past mid now : List Event) → PlaysOne start run what past mid → Adds run mid now → Adds run past now
one_adds start run _ past _ now (skips r s k) a = a
one_adds start run _ past _ now (acts r s n k (lives x l h)) a = one_more run (event.Act r s x Made) past now n a
one_adds start run _ past _ now (acts r s n k (is_over e)) a = one_more run (event.Act r s Failed Before) past now n a
one_adds start run _ past _ now (delivers path piece) a = one_more run (event.Deliver path piece) past now tt a
one_adds start run _ past _ now (fails m) a = a
one_adds start run _ past _ now (crashes keeps fill is_made v c) a = one_more run (event.Crash v) past now tt a

pub plays_add : (start : World) (run : ℕ) (left turn : List Happening) (past now : List Event) → Plays start run left turn past now → Adds run past now
plays_add start run left _ past _ stops = no_more run past
plays_add start run left _ past now (plays what turn {past = p} {mid = mid} d one rest) = one_adds start run what past mid now one (plays_add start run left turn mid now rest)

-- an own step after them
pub record EndsWith (run : ℕ) (s : Step) (a : Answer) (past now : List Event) : Type 0 where
  pub others : List Event
  pub after : After
  pub past_is : now ≡ event.Act run s a after ∷ reverse others ++ past
  pub theirs : (more : List Moment) → AreOthers run more → AreOthers run (map Theirs others ++ more)

ends_with : (run : ℕ) (s : Step) (a : Answer) (m : After) (past mid : List Event) → Adds run past mid → EndsWith run s a past (event.Act run s a m ∷ mid)
ends_with run s a m past mid d = record { others = d.others; after = m; past_is = ap (λ es. event.Act run s a m ∷ es) d.past_is; theirs = d.theirs }

-- the crash within the step stands behind the others
with_last : (run : ℕ) (e : Event) (past mid : List Event) → IsOther run e → Adds run past mid → Adds run past (e ∷ mid)
with_last run e past mid h d = record {
  others = d.others ++ e ∷ [];
  past_is = ap (λ es. e ∷ es) d.past_is ∙ ap (λ es. es ++ past) (sym (reverse-append d.others (e ∷ [])));
  theirs = λ more m. subst (AreOthers run) (sym (ap (λ ms. ms ++ more) (map-append Theirs d.others (e ∷ [])) ∙ append_assoc (map Theirs d.others) (Theirs e ∷ []) more)) (d.theirs (Theirs e ∷ more) (h, m));
}

pub answered_ends : (start : World) (run : ℕ) (s : Step) (fail : Option After) (past mid : List Event) (left : List Happening) (a : Answer) (now : List Event) → Adds run past mid → IsAnswered start run s fail mid left a now → EndsWith run s a past now
answered_ends start run s fail past mid _ _ _ d (is_dead e) = ends_with run s Failed Before past mid d
answered_ends start run s fail past mid _ _ _ d (fails_by m l e) = ends_with run s Failed (failing s m) past mid d
answered_ends start run s fail past mid _ _ _ d (answers a l e h) = ends_with run s a Made past mid d
answered_ends start run s fail past mid _ _ _ d (crashes_within keeps fill v l c) = ends_with run s Failed Before past (event.Crash v ∷ mid) (with_last run (event.Crash v) past mid tt d)

turned : (a b : List Event) → reverse a ≡ reverse b → a ≡ b
turned a b e = sym (reverse-reverse a) ∙ ap reverse e ∙ reverse-reverse b

history_adds : (h i others : List Event) → past_of i ≡ reverse others ++ past_of h → i ≡ h ++ others
history_adds h i others e = turned i (h ++ others) (e ∙ sym (reverse-append h others))

map_theirs : (run : ℕ) (es : List Event) (more : List Moment) → map (event_of run) (map Theirs es ++ more) ≡ es ++ map (event_of run) more
map_theirs run [] more = refl
map_theirs run (e ∷ es) more = ap (λ x. e ∷ x) (map_theirs run es more)

places_theirs : (n : ℕ) (es : List Event) (more : List Moment) → places n (map Theirs es ++ more) ≡ places (n + length es) more
places_theirs n [] more = grind arith
places_theirs n (e ∷ es) more = grind (arith, places_theirs (n + 1) es more)

-- a call that waited
pub room_waits : (start : World) (run : ℕ) (h i : List Event) (asked : List ℕ) → IsLegal start (past_of i) → Adds run (past_of h) (past_of i)
    → Waits run (Some (record { start = start; history = h; asked = asked })) (Some (record { start = start; history = i; asked = asked }))
room_waits start run h i asked legal d =
    let bare = append-nil (map Theirs d.others) in (
      d.others,
      record {
        start = refl;
        history = history_adds h i d.others d.past_is ∙ ap (λ es. h ++ es) (sym (append-nil d.others) ∙ sym (map_theirs run d.others []) ∙ ap (map (event_of run)) bare);
        asked = sym (append-nil asked) ∙ ap (λ ps. asked ++ ps) (sym (places_theirs (length h) d.others []) ∙ ap (places (length h)) bare);
        others = subst (AreOthers run) bare (d.theirs [] tt);
        possible = λ old. legal;
      },
    )

-- a call that asked
pub room_asks : (start : World) (run : ℕ) (h i : List Event) (asked more : List ℕ) (s : Step) (a : Answer) (place : ℕ) → IsLegal start (past_of i) → EndsWith run s a (past_of h) (past_of i) → more ≡ asked ++ place ∷ [] → place + 1 ≡ length i
    → Asks run (Some (record { start = start; history = h; asked = asked })) (Some (record { start = start; history = i; asked = more })) s a
room_asks start run h i asked more s a place legal d e l =
    let whole : i ≡ h ++ (d.others ++ event.Act run s a d.after ∷ []) = history_adds h i (d.others ++ event.Act run s a d.after ∷ []) (d.past_is ∙ ap (λ es. es ++ past_of h) (sym (reverse-append d.others (event.Act run s a d.after ∷ [])))) in
    let long = ap length whole ∙ length-append h (d.others ++ event.Act run s a d.after ∷ []) ∙ ap (λ n. length h + n) (length-append d.others (event.Act run s a d.after ∷ [])) in
    let at : place ≡ length h + length d.others = omega arith in (
      d.others,
      d.after,
      record {
        start = refl;
        history = whole ∙ ap (λ es. h ++ es) (sym (map_theirs run d.others (Mine s a d.after ∷ [])));
        asked = e ∙ ap (λ p. asked ++ p ∷ []) at ∙ ap (λ ps. asked ++ ps) (sym (places_theirs (length h) d.others (Mine s a d.after ∷ [])));
        others = d.theirs (Mine s a d.after ∷ []) tt;
        possible = λ old. legal;
      },
    )

-- what a call of `act` tells
pub room_tells : (start : World) (run : ℕ) (h i : List Event) (asked more : List ℕ) (s : Step) (turn : List Happening) (r : Result Answer AllocError) → IsLegal start (past_of i) → IsPlayed start run s turn (past_of h) r (past_of i)
    → MatchResult r (λ a. (place : ℕ) × ((more ≡ asked ++ place ∷ []) × (place + 1 ≡ length i))) (λ x. more ≡ asked)
    → MatchResult r (λ a. Asks run (Some (record { start = start; history = h; asked = asked })) (Some (record { start = start; history = i; asked = more })) s a) (λ x. Waits run (Some (record { start = start; history = h; asked = asked })) (Some (record { start = start; history = i; asked = more })))
room_tells start run h i asked more s turn (Ok a) legal p q =
    room_asks start run h i asked more s a q.0 legal (answered_ends start run s (fail_of turn) (past_of h) p.1 p.0 a (past_of i) (plays_add start run p.0 turn (past_of h) p.1 p.2) p.3) q.1.0 q.1.1
room_tells start run h i asked more s turn (Err x) legal p q =
    subst (λ ps. Waits run (Some (record { start = start; history = h; asked = asked })) (Some (record { start = start; history = i; asked = ps }))) (sym q) (room_waits start run h i asked legal (plays_add start run p.0 turn (past_of h) (past_of i) p.1))

-- the answer of a call is one of its step's row
pub room_row : (start : World) (run : ℕ) (s : Step) (turn : List Happening) (past now : List Event) (r : Result Answer AllocError) → IsPlayed start run s turn past r now → IfOk r (λ a. IsAnswerOf s a)
room_row start run s turn past now (Ok a) p = row (fail_of turn) p.1 p.0 a now p.3
  where
    row : (fail : Option After) (mid : List Event) (left : List Happening) (a : Answer) (now : List Event) → IsAnswered start run s fail mid left a now → IsAnswerOf s a
    row fail mid _ _ _ (is_dead e) = failed_row s
    row fail mid _ _ _ (fails_by m l e) = failed_row s
    row fail mid _ _ _ (answers a l e h) = fits_row (world_after start mid) run s a h.fits
    row fail mid _ _ _ (crashes_within keeps fill v l c) = failed_row s
room_row start run s turn past now (Err x) p = tt

-- an answered call of the mailbox
pub act_asks : (run : ℕ) (old mid new : Seen) (s : Step) (turn : List Happening) (a : Answer) (faults : ℕ) → mid.start ≡ old.start → IsLegal mid.start (past_of mid.history) → IsPlayed old.start run s turn (past_of old.history) (Ok a) (past_of mid.history)
    → (place : ℕ) × ((mid.asked ≡ old.asked ++ place ∷ []) × (place + 1 ≡ length mid.history)) → new ≡ record mid { faults = faults } → (b : Answer) → b ≡ a → Asks run (Some (story_of old)) (Some (story_of new)) s b
act_asks run old mid new s turn a faults e legal p q n b same =
    subst (λ x. Asks run (Some (story_of old)) (Some (story_of new)) s x) (sym same)
    (subst (λ (r : Seen). Asks run (Some (story_of old)) (Some (story_of r)) s a) (sym n)
    (subst (λ st. Asks run (Some (story_of old)) (Some (record { start = st; history = mid.history; asked = mid.asked })) s a) (sym e)
    (room_tells old.start run old.history mid.history old.asked mid.asked s turn (Ok a) (subst (λ st. IsLegal st (past_of mid.history)) e legal) p q)))

-- and one that wants memory
pub act_waits : (run : ℕ) (old new : Seen) (s : Step) (turn : List Happening) (x : AllocError) → new.start ≡ old.start → IsLegal new.start (past_of new.history) → IsPlayed old.start run s turn (past_of old.history) (Err x) (past_of new.history) → new.asked ≡ old.asked
    → Waits run (Some (story_of old)) (Some (story_of new))
act_waits run old new s turn x e legal p q =
    subst (λ st. Waits run (Some (story_of old)) (Some (record { start = st; history = new.history; asked = new.asked }))) (sym e)
    (room_tells old.start run old.history new.history old.asked new.asked s turn (Err x) (subst (λ st. IsLegal st (past_of new.history)) e legal) p q)

pub act_row : (start : World) (run : ℕ) (s : Step) (turn : List Happening) (past now : List Event) (a b : Answer) → IsPlayed start run s turn past (Ok a) now → b ≡ a → IsAnswerOf s b
act_row start run s turn past now a b p e = subst (IsAnswerOf s) (sym e) (room_row start run s turn past now (Ok a) p)

-- the count that rose rose since the call began
pub act_counts : (old mid new : ℕ) (a b : Answer) → mid ≡ old → Counts mid new a → b ≡ a → Counts old new b
act_counts old mid new a b e h g = subst (Counts old new) (sym g) (subst (λ n. Counts n new a) e h)
