-- A call beside which nothing else happened: its own steps lead from the contents at its first to those after its last.
use Rattle.std.proofs.Common.{◌≡◌, ◌≢◌, inl, inr, ◌==◌, ◌&&◌, ◌||◌, Bool, true, false, Option, Some, None, ℕ, suc, ◌+◌, ◌<◌, List, [], ◌∷◌, ◌++◌, map, length, take, refl, sym, ◌∙◌, ap, subst, arith, append_assoc, append-nil, length-append}
use Rattle.std.specs.Prelude.{reverse, drop, not, is_none}
use Rattle.std.proofs.lemmas.List.{reverse-append, map-append, length-map}
use Rattle.std.proofs.Math.Seq.{take-append_seam, drop-append_seam}
use Rattle.folder_files.specs.Deeds as deeds
use Rattle.folder_files.specs.Deeds.{did}
use Rattle.folder_files.specs.Histories.{IsLegal, answers, fails, is_dead, crashes_within, HeldByNoOther, own, past_of, world_after, AreConsecutive, AreUnlocked, IsAlone}
use Rattle.folder_files.specs.Places.{same_place}
use Rattle.folder_files.specs.Steps.{Fits, made, made_by}
use Rattle.folder_files.specs.Story.{Story, Moment, Mine, Theirs, Grows, IsPossible, AreOthers, event_of, places}
use Rattle.folder_files.specs.Worlds.{WorldMap, IsStart}
use Rattle.folder_files.specs.declared.event.After.{After}
use Rattle.folder_files.specs.declared.event.After.TheVariants as after
use Rattle.folder_files.specs.declared.event.Event.{Event}
use Rattle.folder_files.specs.declared.event.Event.TheVariants.{Act, Deliver, Crash, End}
use Rattle.folder_files.specs.declared.place.Place.{Place}
use Rattle.folder_files.specs.declared.step.Step.{Step}
use Rattle.folder_files.specs.declared.step.Step.TheVariants as step
use Rattle.folder_files.specs.declared.step.Answer.{Answer}
use Rattle.folder_files.specs.declared.step.Answer.TheVariants.{Done, Gone, Exists, Busy, Failed}
use Rattle.folder_files.specs.declared.world.World.{World}
use Rattle.folder_files.proofs.Effects.{is_busy, free_if, free_read_file, free_piece, free_cut, never_busy}
use Rattle.file_plans.specs.Alone.{world_at, first_of}
use Rattle.file_plans.specs.Giving.{Table, FitAll}
use Rattle.file_plans.specs.Runs.{Deed, Did, Said, Heard}
use Rattle.file_plans.specs.Sightings.{events_since, Made, IsFailed}
use Rattle.file_plans.proofs.Acting.{acts, acts_over, own_append, own_mine, own_others, AllOther, since_is}
use Rattle.file_plans.proofs.Rising.{num_not}
use Rattle.file_plans.proofs.LegalTails.{AreActs, legal_tail}
use Rattle.file_plans.specs.Contents.{Contents, contents_of, FitsIn, by_contents, name_answer, link_answer}
use Rattle.file_plans.specs.Agreeing.{FitPast}
use Rattle.file_plans.proofs.Below.{legal_below}
use Rattle.file_plans.proofs.Contents.{fits_in, made_in}

-- the same in the order in which the deeds were done
fit_over : {S : Type 0} (t : Table S) (s z : S) (past : List deeds.Deed) (ds : List Deed) → FitPast t s (acts_over past ds) z → (y : S) × FitPast t s past y × FitAll t y ds z
fit_over t s z past [] f = (z, f, refl)
fit_over t s z past (Did step a ∷ ds) f =
    let r = fit_over t s z (did step a ∷ past) ds f in
    let g = r.1 in
    (g.0, g.1, (g.2, subst (λ y. FitAll t y ds z) g.3 r.2))
fit_over t s z past (Said piece ∷ ds) f = fit_over t s z past ds f
fit_over t s z past (Heard piece ∷ ds) f = fit_over t s z past ds f

-- and back
past_over : {S : Type 0} (t : Table S) (s y z : S) (past : List deeds.Deed) (ds : List Deed) → FitPast t s past y → FitAll t y ds z → FitPast t s (acts_over past ds) z
past_over t s y z past [] f g = subst (λ w. FitPast t s past w) (sym g) f
past_over t s y z past (Did step a ∷ ds) f g = past_over t s (t.after y step a) z (did step a ∷ past) ds (y, f, g.0, refl) g.1
past_over t s y z past (Said piece ∷ ds) f g = past_over t s y z past ds f g
past_over t s y z past (Heard piece ∷ ds) f g = past_over t s y z past ds f g

pub acts_fit : {S : Type 0} (t : Table S) (s z : S) (ds : List Deed) → FitAll t s ds z → FitPast t s (acts ds) z
acts_fit t s z ds g = past_over t s s z [] ds refl g

pub fit_acts : {S : Type 0} (t : Table S) (s z : S) (ds : List Deed) → FitPast t s (acts ds) z → FitAll t s ds z
fit_acts t s z ds f = let r = fit_over t s z [] ds f in subst (λ y. FitAll t y ds z) r.1 r.2

-- a step that did not fail was answered by its world
record Answered (start : World) (run : ℕ) (s : Step) (a : Answer) (m : After) (past : List Event) : Type 0 where
  legal : IsLegal start past
  fits : Fits (world_after start past) run s a
  is : m ≡ after.Made

answered : (start : World) (run : ℕ) (s : Step) (a : Answer) (m : After) (past : List Event) → IsLegal start (Act run s a m ∷ past) → (a ≡ Failed → ⊥) → Answered start run s a m past
answered start run s a _ past (answers _ _ _ l live fits) never = record { legal = l; fits = fits; is = refl }
answered start run s _ m past (fails _ _ _ l live may) never = absurd (never refl)
answered start run s _ _ past (is_dead _ _ l dead) never = absurd (never refl)
answered start run s _ _ _ (crashes_within v _ _ l live image) never = absurd (never refl)

abbrev pub IsFree : WorldMap → ℕ → Type 0
IsFree w run = (p : Place) → HeldByNoOther w p run

-- no lock is taken from another by own steps
taken_not : (x y z h : Bool) → z ≡ false → h ≡ false → (x && y && z) || h ≡ false
taken_not true true z h e f = rw (e, f) refl
taken_not true false z h e f = f
taken_not false y z h e f = f

still_not : (b h : Bool) → h ≡ false → not b && h ≡ false
still_not true h f = refl
still_not false h f = f

made_free : (w : WorldMap) (run : ℕ) (s : Step) → IsFree w run → IsFree (made w run s) run
unfolding made
made_free w run (step.Lock q) free = λ p other ne. taken_not (w.directories q).there (same_place q p) (run == other) (w.holds p other) (num_not run other (λ e. ne (sym e))) (free p other ne)
made_free w run (step.Unlock q) free = λ p other ne. still_not (same_place q p && run == other) (w.holds p other) (free p other ne)
made_free w run s free = free

holds_after_free : (w : WorldMap) (run : ℕ) (s : Step) (a : Answer) → IsFree w run → IsFree (made_by w run s a) run
holds_after_free w run s Busy free = free
holds_after_free w run s a free = made_free w run s free

free_link : (u v : Option (List ℕ)) → is_busy (link_answer u v) ≡ false
free_link None v = refl
free_link (Some f) None = refl
free_link (Some f) (Some g) = refl

free_name : (u : Option (List ℕ)) → is_busy (name_answer u) ≡ false
free_name None = refl
free_name (Some f) = refl

busy_not : (c : Contents) (s : Step) → FitsIn c s Busy → ⊥
busy_not c (step.List p) f = f
busy_not c (step.Read p n limit) f = never_busy _ (free_read_file limit (c.texts p n)) f
busy_not c (step.MakeFolder p) f = never_busy _ (free_if (c.there p) Exists Done refl refl) f
busy_not c (step.Create p n b) f = never_busy _ (free_if (c.there p) _ Gone (free_if (is_none (c.texts p n)) Done Exists refl refl) refl) f
busy_not c (step.SyncFile p n) f = never_busy _ (free_name (c.texts p n)) f
busy_not c (step.SyncFolder p) f = never_busy _ (free_if (c.there p) Done Gone refl refl) f
busy_not c (step.Link p n m) f = never_busy _ (free_link (c.texts p n) (c.texts p m)) f
busy_not c (step.Rename p n m) f = never_busy _ (free_name (c.texts p n)) f
busy_not c (step.Unlink p n) f = never_busy _ (free_name (c.texts p n)) f
busy_not c (step.Lock p) f = never_busy _ (free_if (c.there p) Done Gone refl refl) f
busy_not c (step.Unlock p) f = never_busy _ refl f
busy_not c (step.ReadFile path limit) f = never_busy _ (free_read_file limit (c.outside path)) f
busy_not c (step.ReadDrop path from most) f = never_busy _ (free_piece from most (c.outside path)) f
busy_not c (step.CutDrop path n) f = never_busy _ (free_cut n (c.outside path)) f

no_other_busy : (w : WorldMap) (run : ℕ) (s : Step) (a : Answer) → IsFree w run → Fits w run s a → a ≢ Busy
no_other_busy w run s a free f e = busy_not (contents_of w) s (subst (λ z. FitsIn (contents_of w) s z) e (fits_in w run s a free f))

abbrev NoneFailed : List deeds.Deed → Type 0
NoneFailed [] = Unit {0}
NoneFailed (d ∷ ds) = (d.answer ≢ Failed) × NoneFailed ds

none_failed : (ds : List deeds.Deed) → (Made IsFailed ds → ⊥) → NoneFailed ds
none_failed [] never = tt
none_failed (d ∷ ds) never = ((λ e. never (inl e)), none_failed ds (λ m. never (inr m)))

-- own acts, the newest first, over a past
record Changed (start : World) (run : ℕ) (es base : List Event) : Type 0 where
  fit : FitPast by_contents (contents_of (world_after start base)) (own run es) (contents_of (world_after start (es ++ base)))
  free : IsFree (world_after start (es ++ base)) run

acted : (start : World) (run : ℕ) (s : Step) (a : Answer) (m : After) (past : List Event) → m ≡ after.Made → world_after start (Act run s a m ∷ past) ≡ made_by (world_after start past) run s a
unfolding world_after
acted start run s a m past is = rw is refl

nothing_done : (start : World) (run : ℕ) (base : List Event) → IsFree (world_after start base) run → Changed start run [] base
unfolding own
nothing_done start run base free = record { fit = refl; free = free }

changes_fit : (start : World) → IsStart start → (run : ℕ) (es base : List Event) → AreActs run es → NoneFailed (own run es) → IsLegal start (es ++ base) → IsFree (world_after start base) run → Changed start run es base
unfolding own
changes_fit start st run [] base acts g l free = record { fit = refl; free = free }
changes_fit start st run (Act r s a m ∷ es) base acts g l free =
    let now : NoneFailed (did s a ∷ own run es) = rw (acts.0, own_mine run s a m es) at g in
    let h : Answered start run s a m (es ++ base) = answered start run s a m (es ++ base) (rw acts.0 at l) now.0 in
    let rest = changes_fit start st run es base acts.1 now.1 h.legal free in
    let w = world_after start (es ++ base) in
    let is : world_after start (Act run s a m ∷ (es ++ base)) ≡ made_by w run s a = acted start run s a m (es ++ base) h.is in
    rw (acts.0) (record {
      fit = rw (own_mine run s a m es) (contents_of w, rest.fit, (λ live. fits_in w run s a rest.free h.fits), ap contents_of is ∙ made_in w run s a (legal_below start st (es ++ base) h.legal) h.fits (no_other_busy w run s a rest.free h.fits));
      free = rw is (holds_after_free w run s a rest.free);
    })
changes_fit start st run (Deliver path piece ∷ es) base acts g l free = absurd acts
changes_fit start st run (Crash v ∷ es) base acts g l free = absurd acts
changes_fit start st run (End r ∷ es) base acts g l free = absurd acts

abbrev AllMine : List Moment → Type 0
AllMine [] = Unit {0}
AllMine (Mine s a f ∷ ms) = AllMine ms
AllMine (Theirs e ∷ ms) = ⊥

-- my moments, and then others' events
record Closed (ms : List Moment) : Type 0 where
  mine : List Moment
  later : List Event
  is : ms ≡ mine ++ map Theirs later
  all : AllMine mine

-- nothing of mine comes later
none_later : (n k : ℕ) (ms : List Moment) → n + 1 < k → AreConsecutive (n ∷ places k ms) → (later : List Event) × (ms ≡ map Theirs later)
none_later n k [] lt c = ([], refl)
none_later n k (Mine s a f ∷ ms) lt c = absurd (let e : k ≡ n + 1 = c.0 in omega (arith, e, lt))
none_later n k (Theirs x ∷ ms) lt c = let r = none_later n (k + 1) ms (omega (arith, lt)) c in (x ∷ r.0, ap (λ t. Theirs x ∷ t) r.1)

close : (n : ℕ) (ms : List Moment) → AreConsecutive (n ∷ places (n + 1) ms) → Closed ms
close n [] c = record { mine = []; later = []; is = refl; all = tt }
close n (Mine s a f ∷ ms) c = let r = close (n + 1) ms c.1 in record { mine = Mine s a f ∷ r.mine; later = r.later; is = ap (λ t. Mine s a f ∷ t) r.is; all = r.all }
close n (Theirs x ∷ ms) c = let r = none_later n (n + 1 + 1) ms (omega arith) c in record { mine = []; later = x ∷ r.0; is = ap (λ t. Theirs x ∷ t) r.1; all = tt }

-- others' events, then mine, then others' again; and where mine stand
record Parted (n : ℕ) (ms : List Moment) : Type 0 where
  earlier : List Event
  mine : List Moment
  later : List Event
  is : ms ≡ map Theirs earlier ++ (mine ++ map Theirs later)
  all : AllMine mine
  count : length (places n ms) ≡ length mine
  first : (m : Moment) (rest : List Moment) → mine ≡ m ∷ rest → first_of n (places n ms) ≡ n + length earlier

no_places : (k : ℕ) (later : List Event) → places k (map Theirs later) ≡ []
no_places k [] = refl
no_places k (e ∷ later) = no_places (k + 1) later

mine_places : (k : ℕ) (mine : List Moment) (later : List Event) → AllMine mine → length (places k (mine ++ map Theirs later)) ≡ length mine
mine_places k [] later all = rw (no_places k later) refl
mine_places k (Mine s a f ∷ mine) later all = ap suc (mine_places (k + 1) mine later all)
mine_places k (Theirs e ∷ mine) later all = absurd all

first_left : (n k : ℕ) (l : List ℕ) → length l ≢ 0 → first_of n l ≡ first_of k l
first_left n k [] never = absurd (never refl)
first_left n k (p ∷ l) never = refl

some_more : (m : Moment) (mine rest : List Moment) (k : ℕ) → mine ≡ m ∷ rest → k ≡ length mine → k ≢ 0
some_more m mine rest k is e none = let long : length (m ∷ rest) ≡ 0 = rw is at (sym e ∙ none) in omega (arith, long)

part : (n : ℕ) (ms : List Moment) → AreConsecutive (places n ms) → Parted n ms
part n [] c = record { earlier = []; mine = []; later = []; is = refl; all = tt; count = refl; first = λ m rest e. cc }
part n (Mine s a f ∷ ms) c =
    let r = close n ms c in
    record {
      earlier = [];
      mine = Mine s a f ∷ r.mine;
      later = r.later;
      is = ap (λ t. Mine s a f ∷ t) r.is;
      all = r.all;
      count = ap suc (ap (λ t. length (places (n + 1) t)) r.is ∙ mine_places (n + 1) r.mine r.later r.all);
      first = λ m rest e. omega arith;
    }
part n (Theirs x ∷ ms) c =
    let r = part (n + 1) ms c in
    record {
      earlier = x ∷ r.earlier;
      mine = r.mine;
      later = r.later;
      is = ap (λ t. Theirs x ∷ t) r.is;
      all = r.all;
      count = r.count;
      first = λ m rest e. first_left n (n + 1) (places (n + 1) ms) (some_more m r.mine rest (length (places (n + 1) ms)) e r.count) ∙ (r.first m rest e ∙ omega arith);
    }

events_theirs : (run : ℕ) (es : List Event) → map (event_of run) (map Theirs es) ≡ es
events_theirs run [] = refl
events_theirs run (e ∷ es) = ap (λ t. e ∷ t) (events_theirs run es)

others_front : (run : ℕ) (es : List Event) (ms : List Moment) → AreOthers run (map Theirs es ++ ms) → AllOther run es × AreOthers run ms
others_front run [] ms o = (tt, o)
others_front run (e ∷ es) ms o = let r = others_front run es ms o.1 in ((o.0, r.0), r.1)

others_back : (run : ℕ) (mine : List Moment) (ms : List Moment) → AreOthers run (mine ++ ms) → AreOthers run ms
others_back run [] ms o = o
others_back run (Mine s a f ∷ mine) ms o = others_back run mine ms o
others_back run (Theirs e ∷ mine) ms o = others_back run mine ms o.1

others_all : (run : ℕ) (es : List Event) → AreOthers run (map Theirs es) → AllOther run es
others_all run [] o = tt
others_all run (e ∷ es) o = (o.0, others_all run es o.1)

both_acts : (run : ℕ) (a b : List Event) → AreActs run a → AreActs run b → AreActs run (a ++ b)
both_acts run [] b f g = g
both_acts run (Act r s x m ∷ a) b f g = (f.0, both_acts run a b f.1 g)
both_acts run (Deliver path piece ∷ a) b f g = absurd f
both_acts run (Crash v ∷ a) b f g = absurd f
both_acts run (End r ∷ a) b f g = absurd f

mine_acts : (run : ℕ) (ms : List Moment) → AllMine ms → AreActs run (reverse (map (event_of run) ms))
mine_acts run [] all = tt
mine_acts run (Mine s a f ∷ ms) all =
    rw (reverse-append (Act run s a f ∷ []) (map (event_of run) ms)) (both_acts run (reverse (map (event_of run) ms)) (Act run s a f ∷ []) (mine_acts run ms all) (refl, tt))
mine_acts run (Theirs e ∷ ms) all = absurd all

abbrev Events : Type 0
Events = List Event

turned : (a b c d : Events) → reverse (a ++ (b ++ (c ++ d))) ≡ reverse d ++ (reverse c ++ reverse (a ++ b))
turned a b c d =
    ap reverse (sym (append_assoc a b (c ++ d))) ∙ (reverse-append (a ++ b) (c ++ d) ∙ (ap (λ t. t ++ reverse (a ++ b)) (reverse-append c d) ∙ append_assoc (reverse d) (reverse c) (reverse (a ++ b))))

taken_front : (a b c : Events) (k : ℕ) → k ≡ length a + length b → take k (a ++ (b ++ c)) ≡ a ++ b
taken_front a b c k is = rw (is, ← length-append a b, ← append_assoc) (take-append_seam (a ++ b) c)

taken_more : (a b c d : Events) (k : ℕ) → k ≡ (length a + length b) + length c → take k (a ++ (b ++ (c ++ d))) ≡ (a ++ b) ++ c
taken_more a b c d k is =
    ap (take k) (sym (append_assoc a b (c ++ d)) ∙ sym (append_assoc (a ++ b) c d)) ∙ (ap (λ m. take m (((a ++ b) ++ c) ++ d)) (is ∙ (ap (λ m. m + length c) (sym (length-append a b)) ∙ sym (length-append (a ++ b) c))) ∙ take-append_seam ((a ++ b) ++ c) d)

own_middle : (run : ℕ) (b c d : Events) → AllOther run b → AllOther run d → own run (reverse (b ++ (c ++ d))) ≡ own run (reverse c)
own_middle run b c d p q =
    ap (own run) (reverse-append b (c ++ d) ∙ ap (λ t. t ++ reverse b) (reverse-append c d)) ∙ (own_append run (reverse d ++ reverse c) (reverse b) ∙ (ap (λ t. own run (reverse d ++ reverse c) ++ t) (own_others run b p) ∙ (append-nil (own run (reverse d ++ reverse c)) ∙ (own_append run (reverse d) (reverse c) ∙ ap (λ t. t ++ own run (reverse c)) (own_others run d q)))))

module _ (run : ℕ) (old new : Story) (log : List Moment) (g : Grows run old new log) (possible : IsPossible old) (st : IsStart new.start) (never : NoneFailed (own run (past_of (events_since old new)))) (p : Parted (length old.history) log) where
  abbrev a : Events
  a = old.history

  abbrev b : Events
  b = p.earlier

  abbrev c : Events
  c = map (event_of run) p.mine

  abbrev d : Events
  d = p.later

  log_is : map (event_of run) log ≡ b ++ (c ++ d)
  log_is = ap (map (event_of run)) p.is ∙ (map-append (event_of run) (map Theirs b) (p.mine ++ map Theirs d) ∙ (λ i. events_theirs run b i ++ (map-append (event_of run) p.mine (map Theirs d) ∙ ap (λ t. c ++ t) (events_theirs run d)) i))

  history_is : new.history ≡ a ++ (b ++ (c ++ d))
  history_is = g.history ∙ ap (λ t. a ++ t) log_is

  others : AllOther run b × AllOther run d
  others =
      let o : AreOthers run (map Theirs b ++ (p.mine ++ map Theirs d)) = rw p.is at g.others in
      let f = others_front run b (p.mine ++ map Theirs d) o in
      (f.0, others_all run d (others_back run p.mine (map Theirs d) f.1))

  own_is : own run (past_of (events_since old new)) ≡ own run (reverse c)
  own_is = ap (λ t. own run (reverse t)) (since_is run old new log g ∙ log_is) ∙ own_middle run b c d others.0 others.1

  legal : IsLegal new.start (reverse d ++ (reverse c ++ reverse (a ++ b)))
  legal = subst (λ t. IsLegal new.start t) (ap reverse history_is ∙ turned a b c d) (g.possible possible)

  -- up to the last own step
  legal_mine : (es : Events) → es ≡ reverse c → AreActs run es → IsLegal new.start (reverse d ++ (es ++ reverse (a ++ b))) → NoneFailed (own run es) → IsFree (world_after new.start (reverse (a ++ b))) run → Changed new.start run es (reverse (a ++ b))
  legal_mine [] e acts l n free = nothing_done new.start run (reverse (a ++ b)) free
  legal_mine (Act r s x m ∷ es) e acts l n free =
      changes_fit new.start st run (Act r s x m ∷ es) (reverse (a ++ b)) acts n (legal_tail new.start (reverse d ++ (Act r s x m ∷ es ++ reverse (a ++ b))) l (reverse d) (Act r s x m) (es ++ reverse (a ++ b)) refl tt) free
  legal_mine (Deliver path piece ∷ es) e acts l n free = absurd acts
  legal_mine (Crash v ∷ es) e acts l n free = absurd acts
  legal_mine (End r ∷ es) e acts l n free = absurd acts

  changes : IsFree (world_after new.start (reverse (a ++ b))) run → Changed new.start run (reverse c) (reverse (a ++ b))
  changes free = legal_mine (reverse c) refl (mine_acts run p.mine p.all) legal (subst NoneFailed own_is never) free

  front_is : (k : ℕ) → k ≡ length a + length b → world_at new k ≡ world_after new.start (reverse (a ++ b))
  front_is k at_first = ap (λ t. world_after new.start (reverse t)) (ap (take k) history_is ∙ taken_front a b (c ++ d) k at_first)

  back_is : (k n : ℕ) → k ≡ length a + length b → n ≡ length p.mine → world_at new (k + n) ≡ world_after new.start (reverse c ++ reverse (a ++ b))
  back_is k n at_first count =
      ap (λ t. world_after new.start (reverse t)) (ap (take (k + n)) history_is ∙ taken_more a b c d (k + n) (let l : length c ≡ length p.mine = length-map p.mine (event_of run) in omega (arith, at_first, count, l))) ∙ ap (world_after new.start) (reverse-append (a ++ b) c)

-- own steps lead from the contents at the first of these places to those after the last
abbrev pub IsChange : ℕ → Story → Story → List ℕ → Type 0
IsChange run old new added =
    FitPast by_contents (contents_of (world_at new (first_of (length old.history) added))) (own run (past_of (events_since old new))) (contents_of (world_at new (first_of (length old.history) added + length added)))

-- a call beside which nothing happened
pub lone_changes : (run : ℕ) (old new : Story) (log : List Moment) (added : List ℕ) → Grows run old new log → new.asked ≡ old.asked ++ added → IsStart new.start → IsPossible old → IsAlone run new.start new.history added
    → (Made IsFailed (own run (past_of (events_since old new))) → ⊥) → IsChange run old new added
unfolding own
lone_changes run old new log added g is st possible alone never =
    let same : added ≡ places (length old.history) log = append_same old.asked added (places (length old.history) log) (sym is ∙ g.asked) in
    go (part (length old.history) log (rw same at alone.consecutive)) same
  where
    append_same : (x y z : List ℕ) → x ++ y ≡ x ++ z → y ≡ z
    append_same x y z e = sym (drop-append_seam x y) ∙ (ap (drop (length x)) e ∙ drop-append_seam x z)

    none : NoneFailed (own run (past_of (events_since old new)))
    none = none_failed (own run (past_of (events_since old new))) never

    free_at : (l : List ℕ) → added ≡ l → length l ≢ 0 → IsFree (world_at new (first_of (length old.history) l)) run
    free_at [] e n = absurd (n refl)
    free_at (k ∷ rest) e n = subst (λ z. AreUnlocked run new.start new.history z) e alone.unlocked

    go : (p : Parted (length old.history) log) → added ≡ places (length old.history) log → IsChange run old new added
    go p same = by p.mine refl
      where
        some : (m : Moment) (rest : List Moment) → p.mine ≡ m ∷ rest → IsChange run old new added
        some m rest e =
            let k : first_of (length old.history) added ≡ length old.history + length p.earlier = rw same (p.first m rest e) in
            let n : length added ≡ length p.mine = rw same p.count in
            let front = front_is run old new log g possible st none p (first_of (length old.history) added) k in
            let back = back_is run old new log g possible st none p (first_of (length old.history) added) (length added) k n in
            let free = subst (λ w. IsFree w run) front (free_at added refl (some_more m p.mine rest (length added) e n)) in
            rw (front, back, own_is run old new log g possible st none p) (changes run old new log g possible st none p free).fit

        none_done : p.mine ≡ [] → IsChange run old new added
        none_done e =
            let n : length added ≡ 0 = rw same (p.count ∙ ap length e) in
            rw (own_is run old new log g possible st none p) (rw e (ap (λ j. contents_of (world_at new j)) (omega (arith, n))))

        by : (ms : List Moment) → p.mine ≡ ms → IsChange run old new added
        by [] e = none_done e
        by (m ∷ rest) e = some m rest e
