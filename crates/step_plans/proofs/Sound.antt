-- Whatever stands under a number or a held name is safe; so the bytes that a run read under its held name stay.
use Rattle.std.proofs.Common.{◌≡◌, ℕ, ◌<◌, Bool, true, false, ◌||◌, inl, inr, List, [], ◌∷◌, length, Option, Some, None, refl, sym, ◌∙◌, ap, subst, arith, bytes_eq, if◌then◌else◌}
use Rattle.mh_base.specs.Entries.{kind_of}
use Rattle.folder_files.specs.Careful.{WasSynced, changes, Creates, creates}
use Rattle.folder_files.specs.CrashImage.{IsCrashImage}
use Rattle.folder_files.specs.Deeds.{Deed}
use Rattle.folder_files.specs.Directory.{Slots, DirectoryMap, after_change, lead, kept_lead, now_in}
use Rattle.folder_files.specs.Histories.{IsLockable, world_after, own, IsLive, IsLegal, begins, answers, fails, is_dead, delivers, crashes, crashes_within, stops, AreCareful}
use Rattle.folder_files.specs.Named.{is_temp_of, is_held_of}
use Rattle.folder_files.specs.Places.{same_place, is_parent}
use Rattle.folder_files.specs.Steps.{made, changed, changed_if, is_created, with_created, linked, with_renamed, with_made, directory_after, torn, MayLeave}
use Rattle.folder_files.specs.Worlds.{WorldMap, shown, IsStart}
use Rattle.folder_files.specs.declared.event.After.{After}
use Rattle.folder_files.specs.declared.event.After.TheVariants.{Before, Made, Torn}
use Rattle.folder_files.specs.declared.event.Event.{Event}
use Rattle.folder_files.specs.declared.event.Event.TheVariants.{Act, Crash}
use Rattle.folder_files.specs.declared.place.Place.{Place}
use Rattle.folder_files.specs.declared.step.Answer.{Answer}
use Rattle.folder_files.specs.declared.step.Answer.TheVariants.{Failed}
use Rattle.folder_files.specs.declared.step.Step.{Step}
use Rattle.folder_files.specs.declared.step.Step.TheVariants as step
use Rattle.folder_files.specs.declared.world.Change.{Change}
use Rattle.folder_files.specs.declared.world.Change.TheVariants.{Set, Gone, Moved}
use Rattle.folder_files.specs.declared.world.World.{World}
use Rattle.folder_files.proofs.Kinding.{MayLink, MayRename}
use Rattle.folder_files.proofs.Sameness.{place_same}
use Rattle.step_plans.specs.Moments.{Leads, IsTriedAt, live, cut}
use Rattle.folder_files.specs.Standing.{is_standing}
use Rattle.step_plans.specs.Starts.{HasNoneOf, HasNoneOfTheirs}
use Rattle.step_plans.specs.Successors.{WasPutSince, IsSuccessor, on}
use Rattle.folder_files.proofs.Names.{not_both, bytes_true, number_stands, held_stands, is_temp_any, is_temp_quiet, is_held_any, is_other_quiet, is_taking_number, is_backing_quiet, is_committed_quiet, original_both}
use Rattle.folder_files.proofs.Changes.{now_below}
use Rattle.folder_files.proofs.Effects.{IsNext, answered, failed, refused, left, left_directory, left_grows, left_keeps, world_start, world_crash, world_deliver, world_end, world_next}
use Rattle.step_plans.proofs.Past.{since_read, successor_case}
use Rattle.step_plans.proofs.Inv.{Inv, In, IsSafeAs}
use Rattle.step_plans.proofs.Discipline.{Cares, place_lock, careful_create, careful_link, careful_rename}
use Rattle.folder_files.proofs.Beginning.{nothing_pending, all_safe, all_known}
use Rattle.step_plans.proofs.Crashes.{ended_by}
use Rattle.step_plans.proofs.Law.{inv, none_now, none_before, may_made, careful_back, image_within, within_ended, uncrash, IsMoment, at_moment, within_moment}

-- a set of files that holds each file that the change brings under a standing name
abbrev IsSoundChange : (ℕ → Type 0) → Change → Type 0
IsSoundChange ok c = ((x : List ℕ) (f : ℕ) → c ≡ Set x f → is_standing x ≡ true → ok f) × ((a b : List ℕ) → c ≡ Moved a b → is_standing b ≡ true → is_standing a ≡ true)

abbrev AllSound : (ℕ → Type 0) → List Change → Type 0
AllSound ok [] = Unit {0}
AllSound ok (c ∷ cs) = IsSoundChange ok c × AllSound ok cs

abbrev SoundSlots : (ℕ → Type 0) → Slots → Type 0
SoundSlots ok s = (x : List ℕ) (f : ℕ) → is_standing x ≡ true → s x ≡ Some f → ok f

pub record IsSound (ok : ℕ → Type 0) (d : DirectoryMap) : Type 0 where
  pub safe : SoundSlots ok d.safe
  pub pending : AllSound ok d.pending

sound_change : (ok : ℕ → Type 0) (c : Change) (s : Slots) → IsSoundChange ok c → SoundSlots ok s → SoundSlots ok (after_change c s)
sound_change ok (Set n g) s c h x f st e = go (bytes_eq n x) refl e
  where
    go : (v : Bool) → bytes_eq n x ≡ v → (if v then Some g else s x) ≡ Some f → ok f
    go true t e = let gf : g ≡ f = cc (e) in subst ok gf (c.0 n g refl (rw (bytes_true n x t) st))
    go false t e = h x f st e
sound_change ok (Gone n) s c h x f st e = go (bytes_eq n x) e
  where
    go : (v : Bool) → (if v then None else s x) ≡ Some f → ok f
    go true e = absurd (cc (e))
    go false e = h x f st e
sound_change ok (Moved a b) s c h x f st e = go (bytes_eq b x) (bytes_eq a x) refl e
  where
    go : (v u : Bool) → bytes_eq b x ≡ v → (if v then s a else (if u then None else s x)) ≡ Some f → ok f
    go true u t e = h a f (c.1 a b refl (rw (bytes_true b x t) st)) e
    go false true t e = absurd (cc (e))
    go false false t e = h x f st e

sound_lead : (ok : ℕ → Type 0) (s : Slots) (cs : List Change) → SoundSlots ok s → AllSound ok cs → SoundSlots ok (lead s cs)
sound_lead ok s [] h all = h
sound_lead ok s (c ∷ cs) h all = sound_change ok c (lead s cs) all.0 (sound_lead ok s cs h all.1)

sound_kept : (ok : ℕ → Type 0) (s : Slots) (cs : List Change) (keep : ℕ → Bool) → SoundSlots ok s → AllSound ok cs → SoundSlots ok (kept_lead s cs keep)
sound_kept ok s [] keep h all x f st e = h x f st e
sound_kept ok s (c ∷ cs) keep h all x f st e = go (keep (length cs)) (sound_kept ok s cs keep h all.1) e
  where
    go : (v : Bool) → SoundSlots ok (kept_lead s cs keep) → (if v then after_change c (kept_lead s cs keep) x else kept_lead s cs keep x) ≡ Some f → ok f
    go true rest e = sound_change ok c (kept_lead s cs keep) all.0 rest x f st e
    go false rest e = rest x f st e

sound_now : (ok : ℕ → Type 0) (d : DirectoryMap) → IsSound ok d → (x : List ℕ) (f : ℕ) → is_standing x ≡ true → now_in d x ≡ Some f → ok f
sound_now ok d h x f st e = sound_lead ok d.safe d.pending h.safe h.pending x f st e

all_more : (ok ko : ℕ → Type 0) (cs : List Change) → ((f : ℕ) → ok f → ko f) → AllSound ok cs → AllSound ko cs
all_more ok ko [] m all = tt
all_more ok ko (c ∷ cs) m all = ((λ x f e st. m f (all.0.0 x f e st), all.0.1), all_more ok ko cs m all.1)

sound_more : (ok ko : ℕ → Type 0) (d : DirectoryMap) → ((f : ℕ) → ok f → ko f) → IsSound ok d → IsSound ko d
sound_more ok ko d m h = record { safe = λ x f st e. m f (h.safe x f st e); pending = all_more ok ko d.pending m h.pending }

sound_changed : (ok : ℕ → Type 0) (d : DirectoryMap) (c : Change) → IsSoundChange ok c → IsSound ok d → IsSound ok (changed d c)
sound_changed ok d c sc h = record { safe = h.safe; pending = (sc, h.pending) }

sound_linked : (ok : ℕ → Type 0) (d : DirectoryMap) (b : List ℕ) (u v : Option ℕ) → ((f : ℕ) → u ≡ Some f → is_standing b ≡ true → ok f) → IsSound ok d → IsSound ok (linked d b u v)
sound_linked ok d b (Some f) None o h = sound_changed ok d (Set b f) (λ x g e st. (let gf : f ≡ g = cc (e) in let bx : b ≡ x = cc (e) in subst ok gf (o f refl (rw bx st))), λ x y e st. absurd (cc (e))) h
sound_linked ok d b (Some f) (Some g) o h = h
sound_linked ok d b None v o h = h

sound_if : (ok : ℕ → Type 0) (d : DirectoryMap) (c : Change) (u : Option ℕ) → IsSoundChange ok c → IsSound ok d → IsSound ok (changed_if d c u)
sound_if ok d c (Some f) sc h = sound_changed ok d c sc h
sound_if ok d c None sc h = h

sound_created : (ok : ℕ → Type 0) (d : DirectoryMap) (n : List ℕ) (k : ℕ) → is_standing n ≡ false → IsSound ok d → IsSound ok (with_created d n k)
sound_created ok d n k ns h = go (is_created d n)
  where
    name_of : (x : List ℕ) (g : ℕ) → Set n k ≡ Set x g → n ≡ x
    name_of x g e = cc (e)

    go : (v : Bool) → IsSound ok (if v then changed d (Set n k) else d)
    go true = sound_changed ok d (Set n k) (λ x g e st. absurd (cc (ap (λ y. is_standing y) (name_of x g e), ns, st)), λ x y e st. absurd (cc (e))) h
    go false = h

sound_renamed : (ok : ℕ → Type 0) (d : DirectoryMap) (a b : List ℕ) → (is_standing b ≡ true → is_standing a ≡ true) → IsSound ok d → IsSound ok (with_renamed d a b)
sound_renamed ok d a b m h = go (bytes_eq a b)
  where
    go : (v : Bool) → IsSound ok (if v then d else changed_if d (Moved a b) (now_in d a))
    go true = h
    go false = sound_if ok d (Moved a b) (now_in d a) (λ x f e st. absurd (cc (e)), λ x y e st. (let ax : a ≡ x = cc (e) in let bx : b ≡ y = cc (e) in rw (sym ax) (m (rw bx st)))) h

at_place : (ok : ℕ → Type 0) (p q : Place) (d e : DirectoryMap) → IsSound ok d → ((q ≡ p) → IsSound ok e) → IsSound ok (if same_place q p then e else d)
at_place ok p q d e h m = go (same_place q p) refl
  where
    go : (v : Bool) → same_place q p ≡ v → IsSound ok (if v then e else d)
    go true z = m (place_same q p z)
    go false z = h

never : {A : Type 0} (x : List ℕ) → is_standing x ≡ false → is_standing x ≡ true → A
never x n s = absurd (not_both (is_standing x) s n)

step_sound : (ok : ℕ → Type 0) (w : WorldMap) (r : ℕ) (deeds : List Deed) (s : Step) (p : Place) → IsLockable p → Cares r deeds s
    → ((q : Place) → IsLockable q → (t : List ℕ) (f : ℕ) → is_temp_of r (kind_of t) ≡ true → WasSynced q t deeds → In w q t f → ok f)
    → IsSound ok (w.directories p) → IsSound ok (directory_after w s p)
step_sound ok w r deeds (step.MakeFolder q) p lock careful ready h = go (same_place q p || is_parent p q)
  where
    go : (v : Bool) → IsSound ok (if v then with_made (w.directories p) else w.directories p)
    go true = record { safe = h.safe; pending = h.pending }
    go false = h
step_sound ok w r deeds (step.SyncFolder q) p lock careful ready h = at_place ok p q (w.directories p) _ h (λ e. record { safe = sound_lead ok (w.directories p).safe (w.directories p).pending h.safe h.pending; pending = tt })
step_sound ok w r deeds (step.Create q n b) p lock careful ready h =
    at_place ok p q (w.directories p) _ h (λ e. sound_created ok (w.directories p) n w.next_file (is_temp_quiet n (is_temp_any r n (careful_create r deeds q n b (careful (place_lock e lock))).1.0)) h)
step_sound ok w r deeds (step.Link q a b) p lock careful ready h =
    at_place ok p q (w.directories p) _ h (λ e. sound_linked ok (w.directories p) b (now_in (w.directories p) a) (now_in (w.directories p) b) (λ f l st. go e f l st (careful_link r deeds q a b (careful (place_lock e lock))).1) h)
  where
    go : q ≡ p → (f : ℕ) → now_in (w.directories p) a ≡ Some f → is_standing b ≡ true → MayLink r q a b deeds → ok f
    go e f l st (inl m) = ready q (place_lock e lock) a f m.2.0 m.2.1 (rw e l)
    go e f l st (inr (inl m)) = sound_now ok (w.directories p) h a f (held_stands a m.1) l
    go e f l st (inr (inr m)) = never b (is_other_quiet b m.1) st
step_sound ok w r deeds (step.Rename q a b) p lock careful ready h = at_place ok p q (w.directories p) _ h (λ e. sound_renamed ok (w.directories p) a b (go (careful_rename r deeds q a b (careful (place_lock e lock))).1) h)
  where
    go : MayRename r q a b deeds → is_standing b ≡ true → is_standing a ≡ true
    go (inl (inl m)) st = number_stands a (is_taking_number r a b m.1)
    go (inl (inr m)) st = never b (is_backing_quiet a b m.1) st
    go (inr (inl m)) st = never b (is_committed_quiet q b m.0) st
    go (inr (inr (inl m))) st = never b (is_other_quiet b m.1) st
    go (inr (inr (inr m))) st = never b (subst (λ (z : List ℕ). is_standing z ≡ false) (sym m.2) (original_both a).0) st
step_sound ok w r deeds (step.Unlink q a) p lock careful ready h =
    at_place ok p q (w.directories p) _ h (λ e. sound_if ok (w.directories p) (Gone a) (now_in (w.directories p) a) (λ x f e st. absurd (cc (e)), λ x y e st. absurd (cc (e))) h)
step_sound ok w r deeds s p lock careful ready h = h

-- the file is there, and safe
abbrev Fixed : WorldMap → ℕ → Type 0
Fixed w f = (f < w.next_file) × ((w.files f).safe ≡ true)

abbrev SoundAt : WorldMap → Type 0
SoundAt w = (p : Place) → IsLockable p → IsSound (Fixed w) (w.directories p)

pub torn_careful : (r : ℕ) (deeds : List Deed) (s : Step) (b : List ℕ) → Cares r deeds s → MayLeave s (Torn b) → Cares r deeds (torn s b)
torn_careful r deeds (step.Create p t c) b careful may = λ lock. let m = careful_create r deeds p t c (careful lock) in changes m.0 Creates (creates p t b m.1)
torn_careful r deeds s b careful may = absurd may

fixed_on : (w : WorldMap) (r : ℕ) (s : Step) (a : Answer) (m : After) (f : ℕ) → Fixed w f → Fixed (left w r s a m) f
fixed_on w r s a m f z = (let l = left_grows w s m in let t = z.0 in omega arith, (left_keeps w s m f z.0).1 z.1)

ready_fixed : (start : World) (past : List Event) (r : ℕ) → Inv start past → IsLive r (world_after start past) → (q : Place) → IsLockable q → (t : List ℕ) (f : ℕ) → is_temp_of r (kind_of t) ≡ true → WasSynced q t (own r past) → In (world_after start past) q t f → Fixed (world_after start past) f
ready_fixed start past r i lv q lock t f temp w e = (now_below (world_after start past).next_file ((world_after start past).directories q) (i.below q) t f e, i.ready r q t f lock temp lv w e)

left_sound : (start : World) (past : List Event) (r : ℕ) (s : Step) (a : Answer) (m : After) → Cares r (own r past) s → IsLive r (world_after start past) → MayLeave s m → Inv start past
    → SoundAt (world_after start past) → (p : Place) → IsLockable p → IsSound (Fixed (world_after start past)) (left_directory (world_after start past) s m p)
left_sound start past r s a Before careful lv may i h p lock = h p lock
left_sound start past r s a Made careful lv may i h p lock = step_sound (Fixed (world_after start past)) (world_after start past) r (own r past) s p lock careful (ready_fixed start past r i lv) (h p lock)
left_sound start past r s a (Torn b) careful lv may i h p lock = step_sound (Fixed (world_after start past)) (world_after start past) r (own r past) (torn s b) p lock (torn_careful r (own r past) s b careful may) (ready_fixed start past r i lv) (h p lock)

act_sound : (start : World) (past : List Event) (r : ℕ) (s : Step) (a : Answer) (m : After) → Cares r (own r past) s → IsNext (world_after start past) r s a m → Inv start past → SoundAt (world_after start past) → SoundAt (world_after start (Act r s a m ∷ past))
act_sound start past r s a m careful nx i h =
    subst SoundAt (sym (world_next start r s a m past nx)) (λ p lock. sound_more (Fixed (world_after start past)) (Fixed (left (world_after start past) r s a m)) _ (λ f z. fixed_on (world_after start past) r s a m f z) (here nx p lock))
  where
    here : {a : Answer} {m : After} → IsNext (world_after start past) r s a m → (p : Place) → IsLockable p → IsSound (Fixed (world_after start past)) (left_directory (world_after start past) s m p)
    here {a = a} (answered _ lv fits) p lock = left_sound start past r s a Made careful lv (may_made s) i h p lock
    here {m = m} (failed _ lv may) p lock = left_sound start past r s Failed m careful lv may i h p lock
    here (refused d) p lock = h p lock

image_sound : (w v : WorldMap) (over : ℕ → Bool) → IsCrashImage w v over → SoundAt w → SoundAt v
image_sound w v over image h p lock = record {
  safe = λ x f st e. fixed f (sound_kept (Fixed w) (w.directories p).safe (w.directories p).pending (image.directories p).keep (h p lock).safe (h p lock).pending x f st (sym ((image.directories p).slots x) ∙ e));
  pending = rw (image.directories p).nothing_pending tt;
}
  where
    fixed : (f : ℕ) → Fixed w f → Fixed v f
    fixed f z = (rw image.next_file z.0, image.all_safe f z.0)

start_sound : (start : World) → IsStart start → SoundAt (shown start)
start_sound start st p lock = record { safe = λ x f s e. (all_known start st p x f e, all_safe start st f); pending = rw (nothing_pending start st p) tt }

sound : (start : World) {past : List Event} → IsStart start → IsLegal start past → AreCareful past → HasNoneOfTheirs start past → SoundAt (world_after start past)
sound start st begins careful none = subst SoundAt (sym (world_start start)) (start_sound start st)
sound start st (answers r s a {past = past} l lv fits) careful none = let none_b = none_before start r s a Made past none in
    act_sound start past r s a Made careful.0 (answered a lv fits) (inv start st l careful.1 none_b) (sound start st l careful.1 none_b)
sound start st (fails r s m {past = past} l lv may) careful none = let none_b = none_before start r s Failed m past none in
    act_sound start past r s Failed m careful.0 (failed m lv may) (inv start st l careful.1 none_b) (sound start st l careful.1 none_b)
sound start st (is_dead r s {past = past} l over) careful none = let none_b = none_before start r s Failed Before past none in
    act_sound start past r s Failed Before careful.0 (refused over) (inv start st l careful.1 none_b) (sound start st l careful.1 none_b)
sound start st (delivers path piece {past = past} l) careful none = subst SoundAt (sym (world_deliver start path piece past)) (λ p lock. let h = sound start st l careful none p lock in record { safe = h.safe; pending = h.pending })
sound start st (crashes v {past = past} l image) careful none = subst SoundAt (sym (world_crash start v past)) (image_sound (world_after start past) (shown v) _ image (sound start st l careful none))
sound start st (crashes_within v r s {past = past} l lv image) careful none = let none_b = none_before start r s Failed Before (Crash v ∷ past) none in
    subst SoundAt (sym (world_next start r s Failed Before (Crash v ∷ past) (refused (ended_by start v past r (within_ended r v past (made (world_after start past) r s).ended image.ended)))))
    (within (subst SoundAt (sym (world_crash start v past)) (image_sound (world_after start (Act r s Failed Made ∷ past)) (shown v) _ (image_within start past v r s _ image)
    (act_sound start past r s Failed Made (careful_back r s v past careful.0) (failed Made lv (may_made s)) (inv start st l careful.1 none_b) (sound start st l careful.1 none_b)))))
  where
    within : SoundAt (world_after start (Crash v ∷ past)) → SoundAt (left (world_after start (Crash v ∷ past)) r s Failed Before)
    within h p lock = record { safe = (h p lock).safe; pending = (h p lock).pending }
sound start st (stops r {past = past} l) careful none = subst SoundAt (sym (world_end start r past)) (λ p lock. let h = sound start st l careful none p lock in record { safe = h.safe; pending = h.pending })

-- a file and one that came after it: the first is safe with these bytes
pub record IsElder (w : WorldMap) (f g : ℕ) (b : List ℕ) : Type 0 where
  pub safe : IsSafeAs w f b
  pub older : f < g

elder_left : (w : WorldMap) (r : ℕ) (s : Step) (a : Answer) (m : After) (f g : ℕ) (b : List ℕ) → IsElder w f g b → IsElder (left w r s a m) f g b
elder_left w r s a m f g b z = record {
  safe = record { there = (let l = left_grows w s m in let t = z.safe.there in omega arith); safe = (left_keeps w s m f z.safe.there).1 z.safe.safe; bytes = (left_keeps w s m f z.safe.there).0 ∙ z.safe.bytes };
  older = z.older;
}

elder_image : (w v : WorldMap) (over : ℕ → Bool) (f g : ℕ) (b : List ℕ) → IsCrashImage w v over → IsElder w f g b → IsElder v f g b
elder_image w v over f g b image z = record {
  safe = record { there = rw image.next_file z.safe.there; safe = image.all_safe f z.safe.there; bytes = image.kept_bytes f z.safe.safe ∙ z.safe.bytes };
  older = z.older;
}

elder_then : (start : World) (moment past : List Event) (r : ℕ) (p : Place) (h : List ℕ) (q : Place) (f g : ℕ) (b c : List ℕ) → IsLockable p → IsMoment start r moment past → HasNoneOf start r → SoundAt (world_after start moment) → is_held_of r (kind_of h) ≡ true
    → Leads start moment p h f → WasPutSince start r p h b q g c past → IsElder (world_after start moment) f g b
elder_then start moment past r p h q f g b c lock k none snd is here w =
    let z = sound_now (Fixed (world_after start moment)) ((world_after start moment).directories p) (snd p lock) h f (held_stands h (is_held_any r h is)) here in
    let y = k.since p h b q g c w in
    record { safe = record { there = z.0; safe = z.1; bytes = k.inv.read r p h f b lock is k.lives none (since_read r moment y) here }; older = k.inv.older_put r p h q f g b c lock is k.lives none y here }

sound_then : (start : World) (r : ℕ) {moment past : List Event} → IsStart start → IsLegal start past → AreCareful past → HasNoneOfTheirs start past → IsTriedAt start r moment past → SoundAt (world_after start moment)
sound_then start r st l careful none (live lv) = sound start st l careful none
sound_then start r st l careful none (cut over lv) = sound start st (uncrash l) careful none

elder_since : (start : World) (r f g : ℕ) (b : List ℕ) {moment past : List Event} → IsLegal start past → IsTriedAt start r moment past → IsElder (world_after start moment) f g b → IsElder (world_after start past) f g b
elder_since start r f g b l (live lv) z = z
elder_since start r f g b (crashes v {past = past} l image) (cut over lv) z = subst (λ (y : WorldMap). IsElder y f g b) (sym (world_crash start v past)) (elder_image (world_after start past) (shown v) _ f g b image z)

-- a discarded file and its successor
pub elder : (start : World) (p : Place) (f : ℕ) (q : Place) (g : ℕ) (b c : List ℕ) {past : List Event} → IsLockable p → IsStart start → IsLegal start past → AreCareful past → HasNoneOfTheirs start past → IsSuccessor start p f q g b c past → IsElder (world_after start past) f g b
elder start p f q g b c lock st begins careful none w = elim w [ ]
elder start p f q g b c lock st (answers r s a {past = past} l lv fits) careful none w = let none_b = none_before start r s a Made past none in
    subst (λ (y : WorldMap). IsElder y f g b) (sym (world_next start r s a Made past (answered a lv fits))) (elder_left (world_after start past) r s a Made f g b (elim (successor_case w) [
      | inl y ↦ elder_since start r f g b l y.3.1 (elder_then start y.3.0 past r p y.0 q f g b c lock (at_moment start r st l careful.1 none_b y.3.1) (none_now start r s a Made past none) (sound_then start r st l careful.1 none_b y.3.1) y.2 y.3.2 y.6)
      | inr y ↦ elder start p f q g b c lock st l careful.1 none_b y
    ]))
elder start p f q g b c lock st (fails r s m {past = past} l lv may) careful none w = let none_b = none_before start r s Failed m past none in
    subst (λ (y : WorldMap). IsElder y f g b) (sym (world_next start r s Failed m past (failed m lv may))) (elder_left (world_after start past) r s Failed m f g b (elim (successor_case w) [
      | inl y ↦ elder_since start r f g b l y.3.1 (elder_then start y.3.0 past r p y.0 q f g b c lock (at_moment start r st l careful.1 none_b y.3.1) (none_now start r s Failed m past none) (sound_then start r st l careful.1 none_b y.3.1) y.2 y.3.2 y.6)
      | inr y ↦ elder start p f q g b c lock st l careful.1 none_b y
    ]))
elder start p f q g b c lock st (is_dead r s {past = past} l over) careful none w = let none_b = none_before start r s Failed Before past none in
    subst (λ (y : WorldMap). IsElder y f g b) (sym (world_next start r s Failed Before past (refused over))) (elder_left (world_after start past) r s Failed Before f g b (elim (successor_case w) [
      | inl y ↦ elder_since start r f g b l y.3.1 (elder_then start y.3.0 past r p y.0 q f g b c lock (at_moment start r st l careful.1 none_b y.3.1) (none_now start r s Failed Before past none) (sound_then start r st l careful.1 none_b y.3.1) y.2 y.3.2 y.6)
      | inr y ↦ elder start p f q g b c lock st l careful.1 none_b y
    ]))
elder start p f q g b c lock st (delivers path piece {past = past} l) careful none (on w) = subst (λ (y : WorldMap). IsElder y f g b) (sym (world_deliver start path piece past))
    (let z = elder start p f q g b c lock st l careful none w in record { safe = record { there = z.safe.there; safe = z.safe.safe; bytes = z.safe.bytes }; older = z.older })
elder start p f q g b c lock st (crashes v {past = past} l image) careful none (on w) = subst (λ (y : WorldMap). IsElder y f g b) (sym (world_crash start v past)) (elder_image (world_after start past) (shown v) _ f g b image (elder start p f q g b c lock st l careful none w))
elder start p f q g b c lock st (crashes_within v r s {past = past} l lv image) careful none w = let none_b = none_before start r s Failed Before (Crash v ∷ past) none in
    let over = within_ended r v past (made (world_after start past) r s).ended image.ended in
    subst (λ (y : WorldMap). IsElder y f g b) (sym (world_next start r s Failed Before (Crash v ∷ past) (refused (ended_by start v past r over))))
    (elder_left (world_after start (Crash v ∷ past)) r s Failed Before f g b (elim (successor_case w) [
      | inl y ↦ crashed (tried over y.3.1 (elder_then start y.3.0 (Crash v ∷ past) r p y.0 q f g b c lock (within_moment start r v st l careful.1 none_b lv over y.3.1) (none_now start r s Failed Before (Crash v ∷ past) none)
          (sound_within over y.3.1 (sound start st l careful.1 none_b)) y.2 y.3.2 y.6))
      | inr y ↦ crashed (elder start p f q g b c lock st l careful.1 none_b (back y))
    ]))
  where
    back : IsSuccessor start p f q g b c (Crash v ∷ past) → IsSuccessor start p f q g b c past
    back (on z) = z

    crashed : IsElder (world_after start past) f g b → IsElder (world_after start (Crash v ∷ past)) f g b
    crashed z = subst (λ (y : WorldMap). IsElder y f g b) (sym (world_crash start v past)) (elder_image (world_after start (Act r s Failed Made ∷ past)) (shown v) _ f g b (image_within start past v r s _ image)
        (subst (λ (y : WorldMap). IsElder y f g b) (sym (world_next start r s Failed Made past (failed Made lv (may_made s)))) (elder_left (world_after start past) r s Failed Made f g b z)))

    -- the moment is the one before the crash
    same_moment : {all moment : List Event} → (shown v).ended r ≡ true → IsTriedAt start r moment all → all ≡ Crash v ∷ past → moment ≡ past
    same_moment over (live dead) e = absurd (not_both ((world_after start (Crash v ∷ past)).ended r) (ended_by start v past r over) (subst (λ (z : List Event). (world_after start z).ended r ≡ false) e dead))
    same_moment over (cut {v = u} {past = m} o alive) e = moment_of e
      where
        moment_of : {u : World} {m : List Event} → ◌≡◌ {A = List Event} (Crash u ∷ m) (Crash v ∷ past) → m ≡ past
        moment_of e = cc (e)

    tried : {moment : List Event} → (shown v).ended r ≡ true → IsTriedAt start r moment (Crash v ∷ past) → IsElder (world_after start moment) f g b → IsElder (world_after start past) f g b
    tried over t z = subst (λ (y : List Event). IsElder (world_after start y) f g b) (same_moment over t refl) z

    sound_within : {moment : List Event} → (shown v).ended r ≡ true → IsTriedAt start r moment (Crash v ∷ past) → SoundAt (world_after start past) → SoundAt (world_after start moment)
    sound_within over t z = subst (λ (y : List Event). SoundAt (world_after start y)) (sym (same_moment over t refl)) z
elder start p f q g b c lock st (stops o {past = past} l) careful none (on w) = subst (λ (y : WorldMap). IsElder y f g b) (sym (world_end start o past))
    (let z = elder start p f q g b c lock st l careful none w in record { safe = record { there = z.safe.there; safe = z.safe.safe; bytes = z.safe.bytes }; older = z.older })
