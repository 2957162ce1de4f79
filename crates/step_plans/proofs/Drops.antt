-- The messages of a drop that is cut are durable.
use Rattle.std.proofs.Common.{◌≡◌, ℕ, Bool, true, false, ◌==◌, ◌||◌, ◌⊎◌, inl, inr, List, [], ◌∷◌, ◌++◌, length, take, drop, reverse, Option, Some, None, refl, sym, ◌∙◌, ap, subst, arith, append_assoc, append-nil, length-append, if◌then◌else◌}
use Rattle.std.proofs.lemmas.List.{take-append-drop, reverse-append, reverse-reverse}
use Rattle.std.proofs.Math.Seq.{drop-append_seam}
use Rattle.mbox_drop.specs.Drops.{messages}
use Rattle.mh_base.specs.Entries.{kind_of}
use Rattle.folder_files.specs.Careful.{HasPieces, first, more, on, HasStored, all, put, MayCut, WasPutFrom}
use Rattle.folder_files.specs.Deeds.{Deed, did, Once, WasDone, now, on}
use Rattle.folder_files.specs.Histories.{world_after, own, has_acted, IsLive, IsLegal, begins, answers, fails, is_dead, delivers, crashes, crashes_within, stops, AreCareful, delivered}
use Rattle.folder_files.specs.Named.{is_temp_of}
use Rattle.folder_files.specs.Places.{same_path, is_folder}
use Rattle.folder_files.specs.Steps.{made, made_by, unmade, left_by, torn, MayLeave, piece_answer, cut_at, cut_answer}
use Rattle.folder_files.specs.Worlds.{WorldMap, shown, IsStart}
use Rattle.folder_files.specs.declared.event.After.{After}
use Rattle.folder_files.specs.declared.event.After.TheVariants.{Before, Made, Torn}
use Rattle.folder_files.specs.declared.event.Event.{Event}
use Rattle.folder_files.specs.declared.event.Event.TheVariants.{Act, Crash}
use Rattle.folder_files.specs.declared.place.Place.{Place}
use Rattle.folder_files.specs.declared.place.FilePath.{FilePath}
use Rattle.folder_files.specs.declared.step.Answer.{Answer}
use Rattle.folder_files.specs.declared.step.Answer.TheVariants.{Done, Piece, Busy, Grown, Failed}
use Rattle.folder_files.specs.declared.step.Step.{Step}
use Rattle.folder_files.specs.declared.step.Step.TheVariants as step
use Rattle.folder_files.specs.declared.world.World.{World}
use Rattle.folder_files.proofs.Sameness.{path_same}
use Rattle.step_plans.specs.Cutting.{IsCut, IsUncut, read, on, AreStoredAs, IsNoneOf, AreApart, AreDurable}
use Rattle.step_plans.specs.Durable.{IsDurable}
use Rattle.step_plans.specs.Moments.{HasLed, IsTriedAt, live, cut}
use Rattle.step_plans.specs.Starts.{HasNoneOf, HasNoneOfTheirs}
use Rattle.folder_files.proofs.Names.{num_same, num_apart, not_both, or_left, or_false}
use Rattle.folder_files.proofs.Effects.{IsNext, answered, failed, refused, next_fits, fits_as, world_act, world_crash, world_deliver, world_end}
use Rattle.step_plans.proofs.Past.{did_step, did_answer, acted, folder_lock}
use Rattle.step_plans.proofs.Discipline.{careful_cut}
use Rattle.step_plans.proofs.Crashes.{ended_by}
use Rattle.step_plans.proofs.Law.{none_now, none_before, within_ended}
use Rattle.step_plans.proofs.Tried.{tried, careful_then, none_then}
use Rattle.step_plans.proofs.Told.{lives_before, HasPutAs, HasSyncedAs, durable_as}
use Rattle.step_plans.proofs.Apart.{apart}

-- an outside file stays as it is at a step that doesn't cut it
cut_misses : (n : ℕ) (o : Option (List ℕ)) → (cut_answer n o ≡ Done → ⊥) → cut_at n o ≡ o
cut_misses n None never = refl
cut_misses n (Some bytes) never = go (length bytes == n) never
  where
    go : (v : Bool) → ((if v then Done else Grown) ≡ Done → ⊥) → (if v then Some [] else Some bytes) ≡ Some bytes
    go true never = absurd (never refl)
    go false never = refl

made_outside : (w : WorldMap) (r : ℕ) (s : Step) (f : FilePath) → ((n : ℕ) → s ≡ step.CutDrop f n → cut_answer n (w.outside f) ≡ Done → ⊥) → (made w r s).outside f ≡ w.outside f
unfolding made
made_outside w r (step.CutDrop path n) f never = go (same_path path f) refl
  where
    go : (v : Bool) → same_path path f ≡ v → (if v then cut_at n (w.outside f) else w.outside f) ≡ w.outside f
    go true e = cut_misses n (w.outside f) (never n (ap (λ q. step.CutDrop q n) (path_same path f e)))
    go false e = refl
made_outside w r _ f never = refl

unmade_outside : (w : WorldMap) (r : ℕ) (s : Step) (f : FilePath) → (unmade w r s).outside f ≡ w.outside f
unfolding made
unmade_outside w r (step.Unlock p) f = refl
unmade_outside w r _ f = refl

torn_outside : (w : WorldMap) (r : ℕ) (s : Step) (b : List ℕ) (f : FilePath) → MayLeave s (Torn b) → (made w r (torn s b)).outside f ≡ w.outside f
unfolding made
torn_outside w r (step.Create p n c) b f may = refl
torn_outside w r s b f may = absurd may

left_outside : (w : WorldMap) (r : ℕ) (s : Step) (a : Answer) (m : After) (f : FilePath) → IsNext w r s a m → ((n : ℕ) → s ≡ step.CutDrop f n → m ≡ Made → cut_answer n (w.outside f) ≡ Done → ⊥) → (left_by w r s a m).outside f ≡ w.outside f
left_outside w r s a m f (answered _ lv fits) never = by a
  where
    by : (a : Answer) → (made_by w r s a).outside f ≡ w.outside f
    by Busy = refl
    by _ = made_outside w r s f (λ n e k. never n e refl k)
left_outside w r s a m f (failed Before lv may) never = unmade_outside w r s f
left_outside w r s a m f (failed Made lv may) never = made_outside w r s f (λ n e k. never n e refl k)
left_outside w r s a m f (failed (Torn b) lv may) never = torn_outside w r s b f may
left_outside w r s a m f (refused d) never = unmade_outside w r s f

-- the file has these bytes and maybe more
abbrev Begins : Option (List ℕ) → List ℕ → Type 0
Begins o b = (rest : List ℕ) × (o ≡ Some (b ++ rest))

-- what a piece tells
piece_gives : (from most n : ℕ) (o : Option (List ℕ)) (b : List ℕ) → Piece b n ≡ piece_answer from most o → (x : List ℕ) × (o ≡ Some x) × (b ≡ take most (drop from x))
piece_gives from most n None b e = absurd (cc (e))
piece_gives from most n (Some x) b e = (x, refl, cc (e))

first_begins : (most n : ℕ) (o : Option (List ℕ)) (b : List ℕ) → Piece b n ≡ piece_answer 0 most o → Begins o b
first_begins most n o b e = let g = piece_gives 0 most n o b e in (drop most g.0, g.1 ∙ ap Some (sym (take-append-drop most g.0) ∙ ap (λ y. y ++ drop most g.0) (sym g.2)))

more_begins : (most n : ℕ) (o : Option (List ℕ)) (b piece : List ℕ) → Begins o b → Piece piece n ≡ piece_answer (length b) most o → Begins o (b ++ piece)
more_begins most n o b piece s e =
    let g = piece_gives (length b) most n o piece e in
    let x : g.0 ≡ b ++ s.0 = some (sym g.1 ∙ s.1) in
    let p : piece ≡ take most s.0 = g.2 ∙ ap (λ y. take most (drop (length b) y)) x ∙ ap (take most) (drop-append_seam b s.0) in
    (drop most s.0, s.1 ∙ ap Some (ap (λ y. b ++ y) (sym (take-append-drop most s.0) ∙ ap (λ y. y ++ drop most s.0) (sym p)) ∙ sym (append_assoc b piece (drop most s.0))))
  where
    some : {x y : List ℕ} → Some x ≡ Some y → x ≡ y
    some e = cc (e)

uncut_case : {start : World} {r : ℕ} {f : FilePath} {o : ℕ} {s : Step} {a : Answer} {m : After} {past : List Event} → IsUncut start r f (Act o s a m ∷ past)
    → ((o ≡ r) × ((most : ℕ) × (s ≡ step.ReadDrop f 0 most))) ⊎ ((IsCut start f (Act o s a m) past → ⊥) × IsUncut start r f past)
uncut_case (read {most = most}) = inl (refl, (most, refl))
uncut_case (on nc u) = inr (nc, u)

pub own_split : (r q : ℕ) (s : Step) (a : Answer) (m : After) (past : List Event)
    → ((q ≡ r) × (own r (Act q s a m ∷ past) ≡ did s a ∷ own r past)) ⊎ ((q ≡ r → ⊥) × (own r (Act q s a m ∷ past) ≡ own r past))
unfolding own
own_split r q s a m past = go (q == r) refl
  where
    go : (v : Bool) → (q == r) ≡ v → ((q ≡ r) × ((if v then did s a ∷ [] else []) ++ own r past ≡ did s a ∷ own r past)) ⊎ ((q ≡ r → ⊥) × ((if v then did s a ∷ [] else []) ++ own r past ≡ own r past))
    go true e = inl (num_same q r e, refl)
    go false e = inr (num_apart q r e, refl)

pieces_once : {f : FilePath} {b : List ℕ} {deeds : List Deed} → HasPieces f b deeds → Once (λ d older. Unit {0}) deeds
pieces_once (first p) = now tt
pieces_once (more nz p h) = now tt
pieces_once (on n h) = on (pieces_once h)

pieces_none : {f : FilePath} {b : List ℕ} → HasPieces f b [] → ⊥
pieces_none h = elim h [ ]

act_begins : (start : World) (past : List Event) (r : ℕ) (f : FilePath) (o : ℕ) (s : Step) (a : Answer) (m : After) → IsNext (world_after start past) o s a m → IsUncut start r f (Act o s a m ∷ past)
    → (IsUncut start r f past → (c : List ℕ) → HasPieces f c (own r past) → Begins ((world_after start past).outside f) c)
    → (b : List ℕ) → HasPieces f b (own r (Act o s a m ∷ past)) → Begins ((world_after start (Act o s a m ∷ past)).outside f) b
act_begins start past r f o s a m nx u rest b h = elim (own_split r o s a m past) [
  | inl e ↦ mine b (subst (λ (ds : List Deed). HasPieces f b ds) e.1 h)
  | inr e ↦ theirs e.0 (subst (λ (ds : List Deed). HasPieces f b ds) e.1 h)
]
  where
    stays : (c : List ℕ) → (IsCut start f (Act o s a m) past → ⊥) → Begins ((world_after start past).outside f) c → Begins ((world_after start (Act o s a m ∷ past)).outside f) c
    stays c never z = (z.0, ap (λ w. w.outside f) (world_act start o s a m past) ∙ left_outside (world_after start past) o s a m f nx (λ n e k h. never (n, e, k, h)) ∙ z.1)

    reads : (from most : ℕ) → s ≡ step.ReadDrop f from most → IsCut start f (Act o s a m) past → ⊥
    reads from most e k = let z = sym e ∙ k.1 in cc (z)

    told : (from most n : ℕ) (c : List ℕ) → did s a ≡ did (step.ReadDrop f from most) (Piece c n) → Piece c n ≡ piece_answer from most ((world_after start past).outside f)
    told from most n c e = let es = did_step e in let ea = did_answer e in
        fits_as (world_after start past) o s (step.ReadDrop f from most) a (Piece c n) es ea (next_fits (world_after start past) o s a m nx (λ k. cc (k, ea))).1

    mine : (x : List ℕ) → HasPieces f x (did s a ∷ own r past) → Begins ((world_after start (Act o s a m ∷ past)).outside f) x
    mine _ (first {bytes = c} {length_ = n} p) = stays c (reads 0 p.0 (did_step p.1)) (first_begins p.0 n ((world_after start past).outside f) c (told 0 p.0 n c p.1))
    mine _ (more {bytes = c} {piece = piece} {length_ = n} nz p k) = elim (uncut_case u) [
      | inl z ↦ absurd (nz (from_zero (sym (did_step p.1) ∙ z.1.1)))
      | inr z ↦ stays (c ++ piece) (reads (length c) p.0 (did_step p.1)) (more_begins p.0 n ((world_after start past).outside f) c piece (rest z.1 c k) (told (length c) p.0 n piece p.1))
    ]
      where
        from_zero : {x y z : ℕ} → step.ReadDrop f x y ≡ step.ReadDrop f 0 z → x ≡ 0
        from_zero e = cc (e)
    mine x (on n k) = elim (uncut_case u) [
      | inl z ↦ absurd (n 0 z.1.0 z.1.1)
      | inr z ↦ stays x z.0 (rest z.1 x k)
    ]

    theirs : (o ≡ r → ⊥) → HasPieces f b (own r past) → Begins ((world_after start (Act o s a m ∷ past)).outside f) b
    theirs other k = elim (uncut_case u) [
      | inl z ↦ absurd (other z.0)
      | inr z ↦ stays b z.0 (rest z.1 b k)
    ]

deliver_begins : (path f : FilePath) (piece : List ℕ) (o : Option (List ℕ)) (b : List ℕ) → Begins o b → Begins (if same_path path f then delivered o piece else o) b
deliver_begins path f piece o b z = go (same_path path f)
  where
    go : (v : Bool) → Begins (if v then delivered o piece else o) b
    go true = (z.0 ++ piece, ap (λ y. delivered y piece) z.1 ∙ ap Some (append_assoc b z.0 piece))
    go false = z

begins_so : (start : World) (r : ℕ) (f : FilePath) {past : List Event} → IsLegal start past → IsLive r (world_after start past) → IsUncut start r f past → (b : List ℕ) → HasPieces f b (own r past) → Begins ((world_after start past).outside f) b
unfolding own
begins_so start r f begins lv u b h = absurd (pieces_none h)
begins_so start r f (answers o s a {past = past} l alive fits) lv u b h = let nx : IsNext (world_after start past) o s a Made = answered a alive fits in
    act_begins start past r f o s a Made nx u (λ v c k. begins_so start r f l (lives_before start r o s a Made past nx lv) v c k) b h
begins_so start r f (fails o s m {past = past} l alive may) lv u b h = let nx : IsNext (world_after start past) o s Failed m = failed m alive may in
    act_begins start past r f o s Failed m nx u (λ v c k. begins_so start r f l (lives_before start r o s Failed m past nx lv) v c k) b h
begins_so start r f (is_dead o s {past = past} l d) lv u b h = let nx : IsNext (world_after start past) o s Failed Before = refused d in
    act_begins start past r f o s Failed Before nx u (λ v c k. begins_so start r f l (lives_before start r o s Failed Before past nx lv) v c k) b h
begins_so start r f (delivers path piece {past = past} l) lv (on nc u) b h =
    let z = deliver_begins path f piece ((world_after start past).outside f) b (begins_so start r f l (subst (λ (y : WorldMap). y.ended r ≡ false) (world_deliver start path piece past) lv) u b h) in
    (z.0, ap (λ w. w.outside f) (world_deliver start path piece past) ∙ z.1)
begins_so start r f (crashes v {past = past} l image) lv u b h =
    absurd (not_both ((world_after start (Crash v ∷ past)).ended r) (ended_by start v past r (image.ended r (or_left (has_acted past r) ((world_after start past).ended r) (acted r past (pieces_once h))))) lv)
begins_so start r f (crashes_within v o s {past = past} l alive image) lv u b h =
    absurd (not_both ((shown v).ended r) (image.ended r (or_left ((o == r) || has_acted past r) ((made (world_after start past) o s).ended r) (acted r (Act o s Failed Before ∷ (Crash v ∷ past)) (pieces_once h)))) after)
  where
    after : (shown v).ended r ≡ false
    after = subst (λ (z : WorldMap). z.ended r ≡ false) (world_crash start v past) (lives_before start r o s Failed Before (Crash v ∷ past) (refused (ended_by start v past o (within_ended o v past (made (world_after start past) o s).ended image.ended))) lv)
begins_so start r f (stops o {past = past} l) lv (on nc u) b h =
    let z = begins_so start r f l (or_false (o == r) ((world_after start past).ended r) (subst (λ (y : WorldMap). y.ended r ≡ false) (world_end start o past) lv)).1 u b h in
    (z.0, ap (λ w. w.outside f) (world_end start o past) ∙ z.1)

empty_of : (x : List ℕ) → length x ≡ 0 → x ≡ []
empty_of [] e = refl
empty_of (c ∷ x) e = absurd (omega (arith, e))

-- bytes of one length, of which one begins the other
whole_of : (b x : List ℕ) → Begins (Some x) b → length b ≡ length x → x ≡ b
whole_of b x z e =
    let same : x ≡ b ++ z.0 = some z.1 in
    let none : z.0 ≡ [] = empty_of z.0 (let k = ap length same ∙ length-append b z.0 in omega (arith, e, k)) in
    same ∙ ap (λ y. b ++ y) none ∙ append-nil b
  where
    some : {x y : List ℕ} → Some x ≡ Some y → x ≡ y
    some e = cc (e)

-- what was stored, in another order
stored_more : (start : World) (past : List Event) (fs : List ℕ) (ms : List (List ℕ)) (f : ℕ) (m : List ℕ) → AreStoredAs start past fs ms → (p : Place) × IsDurable start p f m past → AreStoredAs start past (fs ++ f ∷ []) (ms ++ m ∷ [])
stored_more start past [] [] f m h d = (d, tt)
stored_more start past [] (n ∷ ms) f m h d = absurd h
stored_more start past (g ∷ fs) [] f m h d = absurd h
stored_more start past (g ∷ fs) (n ∷ ms) f m h d = (h.0, stored_more start past fs ms f m h.1 d)

none_more : (g f : ℕ) (fs : List ℕ) → IsNoneOf g fs → (g ≡ f → ⊥) → IsNoneOf g (fs ++ f ∷ [])
none_more g f [] h n = (n, tt)
none_more g f (k ∷ fs) h n = (h.0, none_more g f fs h.1 n)

apart_more : (f : ℕ) (fs : List ℕ) → AreApart fs → IsNoneOf f fs → AreApart (fs ++ f ∷ [])
apart_more f [] h n = (tt, tt)
apart_more f (g ∷ fs) h n = (none_more g f fs h.0 (λ e. n.0 (sym e)), apart_more f fs h.1 n.1)

none_back : (g : ℕ) (fs gs : List ℕ) → IsNoneOf g fs → IsNoneOf g gs → IsNoneOf g (fs ++ gs)
none_back g [] gs h k = k
none_back g (f ∷ fs) gs h k = (h.0, none_back g fs gs h.1 k)

-- files of messages, each its own
abbrev AreFiles : World → List Event → List ℕ → List (List ℕ) → Type 0
AreFiles start past fs ms = AreStoredAs start past fs ms × AreApart fs

none_reversed : (g : ℕ) (fs : List ℕ) → IsNoneOf g fs → IsNoneOf g (reverse fs)
none_reversed g [] h = tt
none_reversed g (f ∷ fs) h = subst (λ (l : List ℕ). IsNoneOf g l) (sym (reverse-append (f ∷ []) fs)) (none_more g f (reverse fs) (none_reversed g fs h.1) h.0)

files_reversed : (start : World) (past : List Event) (fs : List ℕ) (ms : List (List ℕ)) → AreFiles start past fs ms → AreFiles start past (reverse fs) (reverse ms)
files_reversed start past [] [] h = (tt, tt)
files_reversed start past [] (m ∷ ms) h = absurd h.0
files_reversed start past (f ∷ fs) [] h = absurd h.0
files_reversed start past (f ∷ fs) (m ∷ ms) h = let k = files_reversed start past fs ms (h.0.1, h.1.1) in
    subst (λ (l : List ℕ). AreFiles start past l (reverse (m ∷ ms))) (sym (reverse-append (f ∷ []) fs))
    (subst (λ (l : List (List ℕ)). AreFiles start past (reverse fs ++ f ∷ []) l) (sym (reverse-append (m ∷ []) ms))
    (stored_more start past (reverse fs) (reverse ms) f m k.0 h.0.0, apart_more f (reverse fs) k.1 (none_reversed f fs h.1.0)))

-- what the messages that the run stored rest on
once_front : {P : Deed → List Deed → Type 0} (front : List Deed) {deeds : List Deed} → Once P deeds → Once P (front ++ deeds)
once_front [] w = w
once_front (d ∷ front) w = on (once_front front w)

synced_after : (q : Place) (r : ℕ) (t m : List ℕ) (older : List Deed) → HasPutAs r q t m older → {newer : List Deed} → WasDone (step.SyncFolder q) newer → HasSyncedAs r q t m (newer ++ older)
synced_after q r t m older h (now {own = rest} e) = now (e, once_front rest h)
synced_after q r t m older h (on w) = on (synced_after q r t m older h w)

-- the file was put by these deeds, from this name of the run
record IsPutFrom (start : World) (past : List Event) (r : ℕ) (deeds : List Deed) (f : ℕ) : Type 0 where
  pub place : Place
  pub temp : List ℕ
  pub folder : is_folder place ≡ true
  pub is : is_temp_of r (kind_of temp) ≡ true
  pub led : HasLed start place temp f past
  pub put : WasPutFrom r place temp deeds

abbrev ArePutFrom : World → List Event → ℕ → List Deed → List ℕ → Type 0
ArePutFrom start past r deeds [] = Unit {0}
ArePutFrom start past r deeds (f ∷ fs) = IsPutFrom start past r deeds f × ArePutFrom start past r deeds fs

put_later : (start : World) (past : List Event) (r : ℕ) (d : Deed) (deeds : List Deed) (fs : List ℕ) → ArePutFrom start past r deeds fs → ArePutFrom start past r (d ∷ deeds) fs
put_later start past r d deeds [] h = tt
put_later start past r d deeds (f ∷ fs) h =
    (record { place = h.0.place; temp = h.0.temp; folder = h.0.folder; is = h.0.is; led = h.0.led; put = on h.0.put }, put_later start past r d deeds fs h.1)

-- such files for these messages
record HasFiles (start : World) (past : List Event) (r : ℕ) (deeds : List Deed) (ms : List (List ℕ)) : Type 0 where
  pub files : List ℕ
  pub stored : AreStoredAs start past files ms
  pub apart : AreApart files
  pub from : ArePutFrom start past r deeds files

module _ (start : World) (r : ℕ) (f : FilePath) (past : List Event) (st : IsStart start) (l : IsLegal start past) (careful : AreCareful past) (none : HasNoneOfTheirs start past) (lv : HasNoneOf start r) where
  -- a file put from a name that was not put from before is none of those that were
  first_apart : (q : Place) (t : List ℕ) (g : ℕ) (deeds : List Deed) (fs : List ℕ) → is_folder q ≡ true → is_temp_of r (kind_of t) ≡ true → HasLed start q t g past → (WasPutFrom r q t deeds → ⊥) → ArePutFrom start past r deeds fs → IsNoneOf g fs
  first_apart q t g deeds [] folder temp led unput h = tt
  first_apart q t g deeds (k ∷ fs) folder temp led unput h = (
    λ e. (let one = apart start r r q h.0.place t h.0.temp g st lv (folder_lock q folder) (folder_lock h.0.place h.0.folder) temp h.0.is l careful none led (subst (λ (n : ℕ). HasLed start h.0.place h.0.temp n past) (sym e) h.0.led) in
        unput (subst (λ (n : List ℕ). WasPutFrom r q n deeds) (sym one.1) (subst (λ (n : Place). WasPutFrom r n h.0.temp deeds) (sym one.0) h.0.put))),
    first_apart q t g deeds fs folder temp led unput h.1,
  )

  stored_files : {newer : List Deed} {ms : List (List ℕ)} {deeds : List Deed} → newer ++ deeds ≡ own r past → HasStored r f newer ms deeds → HasFiles start past r deeds ms
  stored_files e all = record { files = []; stored = tt; apart = tt; from = tt }
  stored_files e (put {newer = newer} {own = older} {d = d} q {message = m} {messages = ms} p s h) =
      let rest = stored_files (append_assoc newer (d ∷ []) older ∙ e) h in
      let z = durable_as start r q p.0 m st l careful none (subst (λ (ds : List Deed). HasSyncedAs r q p.0 m ds) e (synced_after q r p.0 m (d ∷ older) (now (p.1, p.2)) s)) in
      record {
        files = z.0 ∷ rest.files;
        stored = ((q, z.1), rest.stored);
        apart = (first_apart q p.0 z.0 older rest.files p.1.4 p.1.2 z.2 p.3 rest.from, rest.apart);
        from = (record { place = q; temp = p.0; folder = p.1.4; is = p.1.2; led = z.2; put = now p.1 }, put_later start past r d older rest.files rest.from);
      }
  stored_files e (on {newer = newer} {own = older} {d = d} {messages = ms} n h) =
      let rest = stored_files (append_assoc newer (d ∷ []) older ∙ e) h in
      record { files = rest.files; stored = rest.stored; apart = rest.apart; from = put_later start past r d older rest.files rest.from }

cut_at_moment : (start : World) (r : ℕ) (f : FilePath) (n : ℕ) (bytes : List ℕ) {past : List Event} → IsStart start → IsLegal start past → AreCareful past → HasNoneOfTheirs start past → HasNoneOf start r → IsLive r (world_after start past)
    → MayCut r f n (own r past) → IsUncut start r f past → (world_after start past).outside f ≡ Some bytes → length bytes ≡ n → AreDurable start past bytes
cut_at_moment start r f n bytes {past = past} st l careful none fresh lv may u has long =
    let z = begins_so start r f l lv u may.drop may.pieces in
    let same : bytes ≡ may.drop = whole_of may.drop bytes (z.0, sym has ∙ z.1) (may.whole ∙ sym long) in
    let k = stored_files start r f past st l careful none fresh refl may.stored in
    let both = files_reversed start past k.files (reverse (messages may.drop)) (k.stored, k.apart) in
    subst (λ (b : List ℕ). AreDurable start past b) (sym same)
    (reverse k.files, subst (λ (ms : List (List ℕ)). AreStoredAs start past (reverse k.files) ms) (reverse-reverse (messages may.drop)) both.0, both.1)

uncut_then : {start : World} {r : ℕ} {f : FilePath} {moment past : List Event} → IsTriedAt start r moment past → IsUncut start r f past → IsUncut start r f moment
uncut_then (live lv) u = u
uncut_then (cut o lv) (on nc u) = u

pub cut_law : (start : World) (past : List Event) (r : ℕ) (f : FilePath) (n : ℕ) (a : Answer) (m : After) → IsStart start → IsLegal start (Act r (step.CutDrop f n) a m ∷ past) → AreCareful (Act r (step.CutDrop f n) a m ∷ past)
    → HasNoneOfTheirs start (Act r (step.CutDrop f n) a m ∷ past) → (moment : List Event) (bytes : List ℕ) → IsTriedAt start r moment past → IsUncut start r f past → (world_after start moment).outside f ≡ Some bytes → length bytes ≡ n
    → AreDurable start moment bytes
cut_law start past r f n a m st l careful none moment bytes t u has long =
    let k = tried start r (step.CutDrop f n) l t in
    cut_at_moment start r f n bytes st k.legal (careful_then t careful.1) (none_then t (none_before start r (step.CutDrop f n) a m past none)) (none_now start r (step.CutDrop f n) a m past none) k.lives
    (subst (λ (ds : List Deed). MayCut r f n ds) k.deeds (careful_cut r (own r past) f n (careful.0 tt)).1) (uncut_then t u) has long
