-- The invariant holds after each legal history of careful runs, and what is discarded has durable successors.
use Rattle.std.proofs.Common.{◌≡◌, ℕ, Bool, true, false, ◌==◌, ◌||◌, ◌⊎◌, inl, inr, List, [], ◌∷◌, ◌++◌, refl, sym, ap, subst}
use Rattle.mh_base.specs.Entries.{kind_of}
use Rattle.folder_files.specs.Annotations.{Annotates}
use Rattle.folder_files.specs.Careful.{IsCareful, IsCopyPut, IsPutLink, IsRead, IsSuccessorPut, MayDiscard, WasCopied, WasGivenAway}
use Rattle.folder_files.specs.CrashImage.{IsCrashImage}
use Rattle.folder_files.specs.Deeds.{Deed, did, Once, last, still, WasDone, now, on}
use Rattle.folder_files.specs.Directory.{now_in}
use Rattle.folder_files.specs.Histories.{world_after, own, has_acted, IsLive, IsLegal, begins, answers, fails, is_dead, delivers, crashes, crashes_within, stops, AreCareful, IsLockable}
use Rattle.folder_files.specs.Named.{is_held, is_held_of}
use Rattle.folder_files.specs.Steps.{made, MayLeave, Fits}
use Rattle.folder_files.specs.Worlds.{WorldMap, shown, IsStart}
use Rattle.folder_files.specs.declared.event.After.{After}
use Rattle.folder_files.specs.declared.event.After.TheVariants.{Before, Made}
use Rattle.folder_files.specs.declared.event.Event.{Event}
use Rattle.folder_files.specs.declared.event.Event.TheVariants.{Act, Crash}
use Rattle.folder_files.specs.declared.place.Place.{Place}
use Rattle.folder_files.specs.declared.step.Answer.{Answer}
use Rattle.folder_files.specs.declared.step.Answer.TheVariants.{Done, Failed}
use Rattle.folder_files.specs.declared.step.Step.{Step}
use Rattle.folder_files.specs.declared.step.Step.TheVariants as step
use Rattle.folder_files.specs.declared.world.World.{World}
use Rattle.folder_files.proofs.Kinding.{MayUnlink}
use Rattle.step_plans.specs.Durable.{IsDurable, on}
use Rattle.step_plans.specs.Leaving.{IsDiscarded, on}
use Rattle.step_plans.specs.Moments.{IsTriedAt, live, cut, Tries}
use Rattle.step_plans.specs.Starts.{HasNoneOf, HasNoneOfTheirs}
use Rattle.step_plans.specs.Successors.{HasMadeSince, WasPutSince, IsSuccessor, now, on}
use Rattle.folder_files.proofs.Names.{not_both, num_itself, or_left, or_last, is_held_any, is_temp_unheld, is_number_unheld}
use Rattle.folder_files.proofs.Effects.{answered, failed, refused, link_done, fits_as, world_failed}
use Rattle.step_plans.proofs.Past.{own_crash, did_step, did_answer, once_head, once_none, once_case, discard_case, successor_case}
use Rattle.step_plans.proofs.Inv.{Inv, IsUnsynced, inv_act}
use Rattle.step_plans.proofs.Discipline.{Cares, careful_unlink}
use Rattle.step_plans.proofs.Crashes.{ended_by, inv_crash, inv_within, inv_deliver, inv_end, inv_start}

pub none_now : (start : World) (r : ℕ) (s : Step) (a : Answer) (m : After) (past : List Event) → HasNoneOfTheirs start (Act r s a m ∷ past) → HasNoneOf start r
none_now start r s a m past none = none r (or_left (r == r) (has_acted past r) (num_itself r))

pub none_before : (start : World) (r : ℕ) (s : Step) (a : Answer) (m : After) (past : List Event) → HasNoneOfTheirs start (Act r s a m ∷ past) → HasNoneOfTheirs start past
none_before start r s a m past none o h = none o (or_last (r == o) (has_acted past o) h)

pub may_made : (s : Step) → MayLeave s Made
may_made (step.Create p n c) = tt
may_made s = tt

pub careful_back : (r : ℕ) (s : Step) (v : World) (past : List Event) → Cares r (own r (Crash v ∷ past)) s → Cares r (own r past) s
careful_back r s v past c = subst (λ (z : List Deed). Cares r z s) (own_crash r v past) c

-- an image of the world with the step made is one of the world after it, had it been made and answered Failed
pub image_within : (start : World) (past : List Event) (v : World) (r : ℕ) (s : Step) (over : ℕ → Bool) → IsCrashImage (made (world_after start past) r s) (shown v) over
    → IsCrashImage (world_after start (Act r s Failed Made ∷ past)) (shown v) over
image_within start past v r s over image = subst (λ (z : WorldMap). IsCrashImage z (shown v) over) (sym (world_failed start r s past)) image

pub within_ended : (r : ℕ) (v : World) (past : List Event) (old : ℕ → Bool) → ((q : ℕ) → (((r == q) || has_acted past q) || old q) ≡ true → (shown v).ended q ≡ true) → (shown v).ended r ≡ true
within_ended r v past old e = e r (or_left ((r == r) || has_acted past r) (old r) (or_left (r == r) (has_acted past r) (num_itself r)))

-- the invariant
pub inv : (start : World) {past : List Event} → IsStart start → IsLegal start past → AreCareful past → HasNoneOfTheirs start past → Inv start past
inv start st begins careful none = inv_start start st
inv start st (answers r s a {past = past} l lv fits) careful none =
    inv_act start past r s a Made careful.0 (answered a lv fits) (none_now start r s a Made past none) (inv start st l careful.1 (none_before start r s a Made past none))
inv start st (fails r s m {past = past} l lv may) careful none =
    inv_act start past r s Failed m careful.0 (failed m lv may) (none_now start r s Failed m past none) (inv start st l careful.1 (none_before start r s Failed m past none))
inv start st (is_dead r s {past = past} l over) careful none =
    inv_act start past r s Failed Before careful.0 (refused over) (none_now start r s Failed Before past none) (inv start st l careful.1 (none_before start r s Failed Before past none))
inv start st (delivers path piece {past = past} l) careful none = inv_deliver start path piece past (inv start st l careful none)
inv start st (crashes v {past = past} l image) careful none = inv_crash start v past image (inv start st l careful none)
inv start st (crashes_within v r s {past = past} l lv image) careful none =
    inv_within start v r s past lv (within_ended r v past (made (world_after start past) r s).ended image.ended)
    (inv_crash start v (Act r s Failed Made ∷ past) (image_within start past v r s _ image)
    (inv_act start past r s Failed Made (careful_back r s v past careful.0) (failed Made lv (may_made s)) (none_now start r s Failed Before (Crash v ∷ past) none)
    (inv start st l careful.1 (none_before start r s Failed Before (Crash v ∷ past) none))))
inv start st (stops r {past = past} l) careful none = inv_end start r past (inv start st l careful none)

-- by its own account the run put a successor of the held file
abbrev pub HasPutSince : ℕ → Place → List ℕ → List ℕ → Place → List ℕ → List Deed → Type 0
HasPutSince r p h b q c deeds = Once (λ d older. (t : List ℕ) × IsPutLink r q t d × HasMadeSince p h b q t c older) deeds

put_now : (start : World) (past : List Event) (r o : ℕ) (s : Step) (a : Answer) (m : After) (p : Place) (h b : List ℕ) (q : Place) (c t : List ℕ) → Fits (world_after start past) o s a → o ≡ r → IsPutLink r q t (did s a) → HasMadeSince p h b q t c (own r past)
    → (g : ℕ) × WasPutSince start r p h b q g c (Act o s a m ∷ past)
put_now start past r o s a m p h b q c t fits er l w =
    let es = did_step l.1 in let ea = did_answer l.1 in
    let z = link_done (now_in ((world_after start past).directories q) t) (now_in ((world_after start past).directories q) l.0) (fits_as (world_after start past) o s (step.Link q t l.0) a Done es ea fits) in (
      z.0.0,
      subst (λ (k : ℕ). WasPutSince start r p h b q z.0.0 c (Act k s a m ∷ past)) (sym er) (subst (λ (k : Step). WasPutSince start r p h b q z.0.0 c (Act r k a m ∷ past)) (sym es)
          (subst (λ (k : Answer). WasPutSince start r p h b q z.0.0 c (Act r (step.Link q t l.0) k m ∷ past)) (sym ea) (now l.4 l.2 l.3 w z.0.1))),
    )

no_put : (r : ℕ) {q : Place} {t : List ℕ} {s : Step} → IsPutLink r q t (did s Failed) → ⊥
no_put r l = let ea = did_answer l.1 in cc (ea)

-- what a run put by its own account, it put in the world
put_found : (start : World) (r : ℕ) (p : Place) (h b : List ℕ) (q : Place) (c : List ℕ) {past : List Event} → IsLegal start past → HasPutSince r p h b q c (own r past) → (g : ℕ) × WasPutSince start r p h b q g c past
unfolding own
put_found start r p h b q c begins w = absurd (once_none w)
put_found start r p h b q c (answers o s a {past = past} l lv fits) w = elim (once_case r o s a Made past w) [
  | inl y ↦ put_now start past r o s a Made p h b q c y.1.0 fits y.0 y.1.1 y.1.2
  | inr y ↦ (let x = put_found start r p h b q c l y in (x.0, on x.1))
]
put_found start r p h b q c (fails o s m {past = past} l lv may) w = elim (once_case r o s Failed m past w) [
  | inl y ↦ absurd (no_put r y.1.1)
  | inr y ↦ (let x = put_found start r p h b q c l y in (x.0, on x.1))
]
put_found start r p h b q c (is_dead o s {past = past} l over) w = elim (once_case r o s Failed Before past w) [
  | inl y ↦ absurd (no_put r y.1.1)
  | inr y ↦ (let x = put_found start r p h b q c l y in (x.0, on x.1))
]
put_found start r p h b q c (delivers path piece l) w = let x = put_found start r p h b q c l w in (x.0, on x.1)
put_found start r p h b q c (crashes v l image) w = let x = put_found start r p h b q c l w in (x.0, on x.1)
put_found start r p h b q c (crashes_within v o s {past = past} l lv image) w = elim (once_case r o s Failed Before (Crash v ∷ past) w) [
  | inl y ↦ absurd (no_put r y.1.1)
  | inr y ↦ (let x = put_found start r p h b q c l y in (x.0, on (on x.1)))
]
put_found start r p h b q c (stops o l) w = let x = put_found start r p h b q c l w in (x.0, on x.1)

-- the unlink of an own held name that was not given away is a discard
pub is_discard : (r : ℕ) (deeds : List Deed) (p : Place) (h : List ℕ) → IsCareful r deeds (step.Unlink p h) → is_held_of r (kind_of h) ≡ true → (WasGivenAway p h deeds → ⊥) → MayDiscard r p h deeds
is_discard r deeds p h careful is never = go (careful_unlink r deeds p h careful).1
  where
    held : is_held (kind_of h) ≡ true
    held = is_held_any r h is

    go : MayUnlink r p h deeds → MayDiscard r p h deeds
    go (inl temp) = absurd (not_both (is_held (kind_of h)) held (is_temp_unheld h temp))
    go (inr (inl m)) = absurd (not_both (is_held (kind_of h)) held (is_number_unheld h m.1))
    go (inr (inr (inl m))) = absurd (never m.2)
    go (inr (inr (inr m))) = m.2

pub careful_as : (r : ℕ) (deeds : List Deed) (s : Step) (p : Place) (h : List ℕ) → IsLockable p → s ≡ step.Unlink p h → Cares r deeds s → IsCareful r deeds (step.Unlink p h)
careful_as r deeds s p h lock e c = subst (λ (z : Step). Cares r deeds z) e c lock

-- a list of deeds parted at one of them
record IsParted (P : Deed → List Deed → Type 0) (N : List Deed → Type 0) (deeds : List Deed) : Type 0 where
  pub newer : List Deed
  pub deed : Deed
  pub older : List Deed
  pub parts : deeds ≡ newer ++ deed ∷ older
  pub holds : P deed older
  pub news : N newer

parted : {P : Deed → List Deed → Type 0} {deeds : List Deed} → Once P deeds → IsParted P (λ n. Unit {0}) deeds
parted (now {d = d} {own = older} z) = record { newer = []; deed = d; older = older; parts = refl; holds = z; news = tt }
parted (on {d = d} w) = let z = parted w in record { newer = d ∷ z.newer; deed = z.deed; older = z.older; parts = ap (λ k. d ∷ k) z.parts; holds = z.holds; news = tt }

unsynced_parted : (r : ℕ) (p : Place) (h : List ℕ) (q : Place) {deeds : List Deed} → IsUnsynced r p h q deeds → IsParted (IsSuccessorPut r p h q) (λ n. WasDone (step.SyncFolder q) n → ⊥) deeds
unsynced_parted r p h q (last {d = d} {own = older} z) = record { newer = []; deed = d; older = older; parts = refl; holds = z; news = λ w. once_none w }
unsynced_parted r p h q (still {d = d} n w) = let z = unsynced_parted r p h q w in
    record { newer = d ∷ z.newer; deed = z.deed; older = z.older; parts = ap (λ k. d ∷ k) z.parts; holds = z.holds; news = λ w. elim (once_head w) [ inl e ↦ n e | inr y ↦ z.news y ] }

-- what was put, and synced, is durable
synced_durable : (start : World) (past : List Event) (r : ℕ) (p : Place) (h b : List ℕ) (q : Place) (g : ℕ) (c : List ℕ) → Inv start past → IsLive r (world_after start past) → MayDiscard r p h (own r past) → Annotates b c
    → WasPutSince start r p h b q g c past → IsDurable start q g c past
synced_durable start past r p h b q g c i lv may lines w = elim (i.since r p h b q g c lv lines w) [
  | inl z ↦ z
  | inr z ↦ absurd (let k = unsynced_parted r p h q z.0 in k.news (may.synced k.newer k.deed k.older k.parts q k.holds))
]

pub since_back : {start : World} {r : ℕ} {p : Place} {h b : List ℕ} {q : Place} {g : ℕ} {c : List ℕ} {v : World} {past : List Event} → WasPutSince start r p h b q g c (Crash v ∷ past) → WasPutSince start r p h b q g c past
since_back (on w) = w

pub uncrash : {start v : World} {past : List Event} → IsLegal start (Crash v ∷ past) → IsLegal start past
uncrash (crashes v l image) = l

-- at the moment at which the run tried its step, the invariant held, the run was live, and its deeds were the same
pub record IsMoment (start : World) (r : ℕ) (moment past : List Event) : Type 0 where
  pub inv : Inv start moment
  pub lives : IsLive r (world_after start moment)
  pub deeds : own r past ≡ own r moment
  pub since : (p : Place) (h b : List ℕ) (q : Place) (g : ℕ) (c : List ℕ) → WasPutSince start r p h b q g c past → WasPutSince start r p h b q g c moment
  pub durable : (q : Place) (g : ℕ) (c : List ℕ) → IsDurable start q g c moment → IsDurable start q g c past

pub at_moment : (start : World) (r : ℕ) {moment past : List Event} → IsStart start → IsLegal start past → AreCareful past → HasNoneOfTheirs start past → IsTriedAt start r moment past → IsMoment start r moment past
at_moment start r st l careful none (live lv) = record { inv = inv start st l careful none; lives = lv; deeds = refl; since = λ p h b q g c w. w; durable = λ q g c w. w }
at_moment start r st l careful none (cut {v = v} {past = past} over lv) = record {
  inv = inv start st (uncrash l) careful none;
  lives = lv;
  deeds = own_crash r v past;
  since = λ p h b q g c w. since_back w;
  durable = λ q g c w. on w;
}

-- where the crash is the one within this step
pub within_moment : (start : World) (r : ℕ) (v : World) {moment past : List Event} → IsStart start → IsLegal start past → AreCareful past → HasNoneOfTheirs start past → IsLive r (world_after start past) → (shown v).ended r ≡ true
    → IsTriedAt start r moment (Crash v ∷ past) → IsMoment start r moment (Crash v ∷ past)
within_moment start r v {past = before} st l careful none lv over t = go lv over l careful none t refl
  where
    go : {past all moment : List Event} → IsLive r (world_after start past) → (shown v).ended r ≡ true → IsLegal start past → AreCareful past → HasNoneOfTheirs start past → IsTriedAt start r moment all → all ≡ Crash v ∷ past → IsMoment start r moment all
    go {past = past} lv over l careful none (live dead) e =
        absurd (not_both ((world_after start (Crash v ∷ past)).ended r) (ended_by start v past r over) (subst (λ (z : List Event). (world_after start z).ended r ≡ false) e dead))
    go {past = past} lv over l careful none (cut {v = u} {past = moment} o alive) e = record {
      inv = subst (λ (z : List Event). Inv start z) (same e) (inv start st l careful none);
      lives = alive;
      deeds = own_crash r u moment;
      since = λ p h b q g c w. since_back w;
      durable = λ q g c w. on w;
    }
      where
        same : {u : World} {moment : List Event} → ◌≡◌ {A = List Event} (Crash u ∷ moment) (Crash v ∷ past) → past ≡ moment
        same e = cc (e)

next_durable : (start : World) (past : List Event) (r : ℕ) (s : Step) (p : Place) (f : ℕ) (q : Place) (g : ℕ) (b c h : List ℕ) → IsLockable p → Cares r (own r past) s → s ≡ step.Unlink p h → is_held_of r (kind_of h) ≡ true → {moment : List Event} → IsMoment start r moment past
    → (WasGivenAway p h (own r past) → ⊥) → Annotates b c → WasPutSince start r p h b q g c past → IsDurable start q g c past
next_durable start past r s p f q g b c h lock careful es is {moment = moment} k never lines w =
    k.durable q g c (synced_durable start moment r p h b q g c k.inv k.lives (subst (λ (z : List Deed). MayDiscard r p h z) k.deeds (is_discard r (own r past) p h (careful_as r (own r past) s p h lock es careful) is never)) lines (k.since p h b q g c w))

-- the successors of a discarded file are durable
pub heirs : (start : World) (p : Place) (f : ℕ) (q : Place) (g : ℕ) (b c : List ℕ) {past : List Event} → IsLockable p → IsStart start → IsLegal start past → AreCareful past → HasNoneOfTheirs start past → IsSuccessor start p f q g b c past → IsDurable start q g c past
heirs start p f q g b c lock st begins careful none w = elim w [ ]
heirs start p f q g b c lock st (answers r s a {past = past} l lv fits) careful none w = let none_b = none_before start r s a Made past none in on (elim (successor_case w) [
  | inl y ↦ next_durable start past r s p f q g b c y.0 lock careful.0 y.1 y.2 (at_moment start r st l careful.1 none_b y.3.1) y.4 y.5 y.6
  | inr y ↦ heirs start p f q g b c lock st l careful.1 none_b y
])
heirs start p f q g b c lock st (fails r s m {past = past} l lv may) careful none w = let none_b = none_before start r s Failed m past none in on (elim (successor_case w) [
  | inl y ↦ next_durable start past r s p f q g b c y.0 lock careful.0 y.1 y.2 (at_moment start r st l careful.1 none_b y.3.1) y.4 y.5 y.6
  | inr y ↦ heirs start p f q g b c lock st l careful.1 none_b y
])
heirs start p f q g b c lock st (is_dead r s {past = past} l over) careful none w = let none_b = none_before start r s Failed Before past none in on (elim (successor_case w) [
  | inl y ↦ next_durable start past r s p f q g b c y.0 lock careful.0 y.1 y.2 (at_moment start r st l careful.1 none_b y.3.1) y.4 y.5 y.6
  | inr y ↦ heirs start p f q g b c lock st l careful.1 none_b y
])
heirs start p f q g b c lock st (delivers path piece l) careful none (on w) = on (heirs start p f q g b c lock st l careful none w)
heirs start p f q g b c lock st (crashes v l image) careful none (on w) = on (heirs start p f q g b c lock st l careful none w)
heirs start p f q g b c lock st (crashes_within v r s {past = past} l lv image) careful none w = let none_b = none_before start r s Failed Before (Crash v ∷ past) none in on (elim (successor_case w) [
  | inl y ↦ next_durable start (Crash v ∷ past) r s p f q g b c y.0 lock careful.0 y.1 y.2 (within_moment start r v st l careful.1 none_b lv (within_ended r v past (made (world_after start past) r s).ended image.ended) y.3.1) y.4 y.5 y.6
  | inr y ↦ on (heirs start p f q g b c lock st l careful.1 none_b (back y))
])
  where
    back : IsSuccessor start p f q g b c (Crash v ∷ past) → IsSuccessor start p f q g b c past
    back (on z) = z
heirs start p f q g b c lock st (stops o l) careful none (on w) = on (heirs start p f q g b c lock st l careful none w)

abbrev pub HasHeir : World → Place → ℕ → List Event → Type 0
HasHeir start p f past = (q : Place) × (g : ℕ) × (b : List ℕ) × (c : List ℕ) × IsSuccessor start p f q g b c past

heir_on : (start : World) (p : Place) (f : ℕ) (e : Event) (past : List Event) → HasHeir start p f past → HasHeir start p f (e ∷ past)
heir_on start p f e past h = (h.0, h.1, h.2, h.3, on h.4)

once_later : {P : Deed → List Deed → Type 0} (newer : List Deed) (d : Deed) (older : List Deed) → P d older → Once P (newer ++ d ∷ older)
once_later [] d older z = now z
once_later (e ∷ newer) d older z = on (once_later newer d older z)

-- a copy that was made after a reading
made_since : (p : Place) (h b : List ℕ) (q : Place) (t : List ℕ) (d : Deed) (older : List Deed) → IsRead p h b d → {newer : List Deed} → WasCopied q t b newer → (c : List ℕ) × HasMadeSince p h b q t c (newer ++ d ∷ older) × Annotates b c
made_since p h b q t d older is (now {d = e} {own = rest} z) = (z.0, now (z.1, once_later rest d older is), z.2)
made_since p h b q t d older is (on w) = let k = made_since p h b q t d older is w in (k.0, on k.1, k.2)

-- and put
abbrev HasSomePut : ℕ → Place → List ℕ → List ℕ → List Deed → Type 0
HasSomePut r p h b deeds = (q : Place) × (c : List ℕ) × HasPutSince r p h b q c deeds × Annotates b c

put_since : (r : ℕ) (p : Place) (h b : List ℕ) (d : Deed) (older : List Deed) → IsRead p h b d → {newer : List Deed} → Once (IsCopyPut r b) newer → HasSomePut r p h b (newer ++ d ∷ older)
put_since r p h b d older is (now z) = let k = made_since p h b z.0 z.1 d older is z.3 in (z.0, k.0, now (z.1, z.2, k.1), k.2)
put_since r p h b d older is (on w) = let k = put_since r p h b d older is w in (k.0, k.1, on k.2, k.3)

may_put : (r : ℕ) (p : Place) (h : List ℕ) (deeds : List Deed) → MayDiscard r p h deeds → (b : List ℕ) × HasSomePut r p h b deeds
may_put r p h deeds may =
    let k = parted may.taken_and_read in
    let z = put_since r p h k.holds.0.0 k.deed k.older k.holds.0.1 (may.succeeded k.newer k.deed k.older k.parts k.holds.0.0 k.holds.0.1) in
    (k.holds.0.0, subst (λ (ds : List Deed). HasSomePut r p h k.holds.0.0 ds) (sym k.parts) z)

heir_now : (start : World) (p : Place) (f r : ℕ) (s : Step) (a : Answer) (m : After) (past : List Event) → IsLockable p
    → ((h b : List ℕ) (q : Place) (c : List ℕ) → HasPutSince r p h b q c (own r past) → (g : ℕ) × WasPutSince start r p h b q g c past) → Cares r (own r past) s
    → IsDiscarded start p f (Act r s a m ∷ past) → HasHeir start p f (Act r s a m ∷ past) ⊎ IsDiscarded start p f past
heir_now start p f r s a m past lock found careful d = elim (discard_case d) [
  | inl y ↦ inl (made_heir y.0 y.1 y.2 y.3 y.4 (is_discard r (own r past) p y.0 (careful_as r (own r past) s p y.0 lock y.1 careful) y.2 y.4))
  | inr y ↦ inr y
]
  where
    made_heir : (h : List ℕ) → s ≡ step.Unlink p h → is_held_of r (kind_of h) ≡ true → Tries start r p h f past → (WasGivenAway p h (own r past) → ⊥) → MayDiscard r p h (own r past) → HasHeir start p f (Act r s a m ∷ past)
    made_heir h e is t never may =
        let k = may_put r p h (own r past) may in
        let g = found h k.0 k.1.0 k.1.1 k.1.2 in
        (k.1.0, g.0, k.0, k.1.1, subst (λ (z : Step). IsSuccessor start p f k.1.0 g.0 k.0 k.1.1 (Act r z a m ∷ past)) (sym e) (now is t never k.1.3 g.1))

pub heir : (start : World) (p : Place) (f : ℕ) {past : List Event} → IsLockable p → IsLegal start past → AreCareful past → IsDiscarded start p f past → HasHeir start p f past
unfolding own
heir start p f lock begins careful w = elim w [ ]
heir start p f lock (answers r s a {past = past} l lv fits) careful w = elim (heir_now start p f r s a Made past lock (λ h b q c z. put_found start r p h b q c l z) careful.0 w) [ inl z ↦ z | inr z ↦ heir_on start p f _ past (heir start p f lock l careful.1 z) ]
heir start p f lock (fails r s m {past = past} l lv may) careful w = elim (heir_now start p f r s Failed m past lock (λ h b q c z. put_found start r p h b q c l z) careful.0 w) [ inl z ↦ z | inr z ↦ heir_on start p f _ past (heir start p f lock l careful.1 z) ]
heir start p f lock (is_dead r s {past = past} l over) careful w = elim (heir_now start p f r s Failed Before past lock (λ h b q c z. put_found start r p h b q c l z) careful.0 w) [ inl z ↦ z | inr z ↦ heir_on start p f _ past (heir start p f lock l careful.1 z) ]
heir start p f lock (delivers path piece {past = past} l) careful (on w) = heir_on start p f _ past (heir start p f lock l careful w)
heir start p f lock (crashes v {past = past} l image) careful (on w) = heir_on start p f _ past (heir start p f lock l careful w)
heir start p f lock (crashes_within v r s {past = past} l lv image) careful w =
    elim (heir_now start p f r s Failed Before (Crash v ∷ past) lock (λ h b q c y. let x = put_found start r p h b q c l y in (x.0, on x.1)) careful.0 w) [
      | inl z ↦ z
      | inr z ↦ heir_on start p f _ (Crash v ∷ past) (heir_on start p f _ past (heir start p f lock l careful.1 (back z)))
    ]
  where
    back : IsDiscarded start p f (Crash v ∷ past) → IsDiscarded start p f past
    back (on z) = z
heir start p f lock (stops o {past = past} l) careful (on w) = heir_on start p f _ past (heir start p f lock l careful w)
