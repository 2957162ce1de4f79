-- What an event makes of the world.
use Rattle.std.proofs.Common.{◌≡◌, ℕ, ◌<◌, ◌≤◌, Bool, true, false, ◌==◌, ◌&&◌, List, [], ◌∷◌, length, Option, Some, None, is_none, refl, sym, ◌∙◌, ap, subst, arith, nat_lt, if◌then◌else◌}
use Rattle.folder_files.specs.Directory.{DirectoryMap, now_in}
use Rattle.folder_files.specs.Histories.{IsLive, world_after, after_delivery, after_end}
use Rattle.folder_files.specs.Places.{same_place}
use Rattle.folder_files.specs.Steps.{changed, with_created, linked, with_linked, with_renamed, torn, made, made_by, left_by, MayLeave, Fits, reading_of, read_answer, read_file_answer, piece_answer, cut_answer, link_answer, name_answer, directory_after, file_after, next_after}
use Rattle.folder_files.specs.Worlds.{FileState, WorldMap, shown}
use Rattle.folder_files.specs.declared.event.After.{After}
use Rattle.folder_files.specs.declared.event.After.TheVariants.{Before, Made, Torn}
use Rattle.folder_files.specs.declared.event.Event.{Event}
use Rattle.folder_files.specs.declared.event.Event.TheVariants.{Act, Deliver, Crash, End}
use Rattle.folder_files.specs.declared.place.Place.{Place}
use Rattle.folder_files.specs.declared.place.FilePath.{FilePath}
use Rattle.folder_files.specs.declared.step.Answer.{Answer}
use Rattle.folder_files.specs.declared.step.Answer.TheVariants.{Done, Content, Long, Gone, Exists, Busy, Grown, Failed}
use Rattle.folder_files.specs.declared.step.Step.{Step}
use Rattle.folder_files.specs.declared.step.Step.TheVariants as step
use Rattle.folder_files.specs.declared.world.Change.TheVariants.{Set}
use Rattle.folder_files.specs.declared.world.World.{World}
use Rattle.folder_files.proofs.Sameness.{place_same, place_is}
use Rattle.folder_files.proofs.Names.{num_itself, bytes_self}
use Rattle.folder_files.proofs.Changes.{IsTarget, Goes, stays, weaken, step_goes, file_keeps, next_grows}

-- the events one by one
pub world_start : (start : World) → world_after start [] ≡ shown start
unfolding world_after
world_start start = refl

pub world_act : (start : World) (r : ℕ) (s : Step) (a : Answer) (m : After) (past : List Event) → world_after start (Act r s a m ∷ past) ≡ left_by (world_after start past) r s a m
unfolding world_after
world_act start r s a m past = refl

pub world_crash : (start v : World) (past : List Event) → world_after start (Crash v ∷ past) ≡ shown v
unfolding world_after
world_crash start v past = refl

pub world_deliver : (start : World) (path : FilePath) (piece : List ℕ) (past : List Event) → world_after start (Deliver path piece ∷ past) ≡ after_delivery (world_after start past) path piece
unfolding world_after
world_deliver start path piece past = refl

pub world_end : (start : World) (r : ℕ) (past : List Event) → world_after start (End r ∷ past) ≡ after_end (world_after start past) r
unfolding world_after
world_end start r past = refl

-- an act that may come next in this world
pub data IsNext (w : WorldMap) (r : ℕ) (s : Step) : Answer → After → Type 0 where
  answered : (a : Answer) → IsLive r w → Fits w r s a → IsNext w r s a Made
  failed : (m : After) → IsLive r w → MayLeave s m → IsNext w r s Failed m
  refused : w.ended r ≡ true → IsNext w r s Failed Before

-- what it leaves: directories and files are as if Busy were an answer as any other
abbrev pub left_directory : WorldMap → Step → After → Place → DirectoryMap
left_directory w s Before p = w.directories p
left_directory w s Made p = directory_after w s p
left_directory w s (Torn b) p = directory_after w (torn s b) p

abbrev pub left_file : WorldMap → Step → After → ℕ → FileState
left_file w s Before f = w.files f
left_file w s Made f = file_after w s f
left_file w s (Torn b) f = file_after w (torn s b) f

abbrev pub left_next : WorldMap → Step → After → ℕ
left_next w s Before = w.next_file
left_next w s Made = next_after w s
left_next w s (Torn b) = next_after w (torn s b)

abbrev pub left : WorldMap → ℕ → Step → Answer → After → WorldMap
left w r s a m = record {
  directories = left_directory w s m;
  files = left_file w s m;
  next_file = left_next w s m;
  outside = (left_by w r s a m).outside;
  holds = (left_by w r s a m).holds;
  ended = w.ended;
}

-- answers that tell of no lock
abbrev pub is_busy : Answer → Bool
is_busy Busy = true
is_busy _ = false

pub free_if : (b : Bool) (x y : Answer) → is_busy x ≡ false → is_busy y ≡ false → is_busy (if b then x else y) ≡ false
free_if true x y p q = p
free_if false x y p q = q

free_reading : (limit : ℕ) (bytes : List ℕ) → is_busy (reading_of limit bytes) ≡ false
free_reading limit bytes = free_if (nat_lt limit (length bytes)) (Long (length bytes)) (Content bytes) refl refl

free_read : (w : WorldMap) (limit : ℕ) (o : Option ℕ) → is_busy (read_answer w limit o) ≡ false
free_read w limit None = refl
free_read w limit (Some f) = free_reading limit (w.files f).bytes

pub free_read_file : (limit : ℕ) (o : Option (List ℕ)) → is_busy (read_file_answer limit o) ≡ false
free_read_file limit None = refl
free_read_file limit (Some bytes) = free_reading limit bytes

pub free_piece : (from most : ℕ) (o : Option (List ℕ)) → is_busy (piece_answer from most o) ≡ false
free_piece from most None = refl
free_piece from most (Some bytes) = refl

pub free_cut : (n : ℕ) (o : Option (List ℕ)) → is_busy (cut_answer n o) ≡ false
free_cut n None = refl
free_cut n (Some bytes) = free_if (length bytes == n) Done Grown refl refl

free_link : (u v : Option ℕ) → is_busy (link_answer u v) ≡ false
free_link None v = refl
free_link (Some f) None = refl
free_link (Some f) (Some g) = refl

free_name : (u : Option ℕ) → is_busy (name_answer u) ≡ false
free_name None = refl
free_name (Some f) = refl

pub never_busy : (a : Answer) → is_busy a ≡ false → Busy ≡ a → ⊥
never_busy a f e = let t : is_busy a ≡ true = sym (ap is_busy e) in cc (t, f)

left_busy : (w : WorldMap) (r : ℕ) (s : Step) → Fits w r s Busy → w ≡ left w r s Busy Made
left_busy w r (step.List p) fits = absurd fits
left_busy w r (step.Read p n limit) fits = absurd (never_busy _ (free_read w limit (now_in (w.directories p) n)) fits)
left_busy w r (step.MakeFolder p) fits = absurd (never_busy _ (free_if (w.directories p).there Exists Done refl refl) fits)
left_busy w r (step.Create p n b) fits = absurd (never_busy _ (free_if (w.directories p).there _ Gone (free_if (is_none (now_in (w.directories p) n)) Done Exists refl refl) refl) fits)
left_busy w r (step.SyncFile p n) fits = absurd (never_busy _ (free_name (now_in (w.directories p) n)) fits)
left_busy w r (step.SyncFolder p) fits = absurd (never_busy _ (free_if (w.directories p).there Done Gone refl refl) fits)
left_busy w r (step.Link p n m) fits = absurd (never_busy _ (free_link (now_in (w.directories p) n) (now_in (w.directories p) m)) fits)
left_busy w r (step.Rename p n m) fits = absurd (never_busy _ (free_name (now_in (w.directories p) n)) fits)
left_busy w r (step.Unlink p n) fits = absurd (never_busy _ (free_name (now_in (w.directories p) n)) fits)
left_busy w r (step.Lock p) fits = refl
left_busy w r (step.Unlock p) fits = absurd (never_busy Done refl fits)
left_busy w r (step.ReadFile path limit) fits = absurd (never_busy _ (free_read_file limit (w.outside path)) fits)
left_busy w r (step.ReadDrop path from most) fits = absurd (never_busy _ (free_piece from most (w.outside path)) fits)
left_busy w r (step.CutDrop path n) fits = absurd (never_busy _ (free_cut n (w.outside path)) fits)

left_before : (w : WorldMap) (r : ℕ) (s : Step) (a : Answer) → left_by w r s a Before ≡ left w r s a Before
unfolding made
left_before w r (step.Unlock p) a = refl
left_before w r _ a = refl

left_made : (w : WorldMap) (r : ℕ) (s : Step) (a : Answer) → Fits w r s a → made_by w r s a ≡ left w r s a Made
unfolding made
left_made w r s Busy fits = left_busy w r s fits
left_made w r s _ fits = refl

left_failed : (w : WorldMap) (r : ℕ) (s : Step) → made w r s ≡ left w r s Failed Made
unfolding made
left_failed w r s = refl

pub made_left : (w : WorldMap) (r : ℕ) (s : Step) → made w r s ≡ left w r s Failed Made
made_left w r s = left_failed w r s

left_torn : (w : WorldMap) (r : ℕ) (s : Step) (a : Answer) (b : List ℕ) → made w r (torn s b) ≡ left w r s a (Torn b)
unfolding made
left_torn w r s a b = refl

pub left_is : (w : WorldMap) (r : ℕ) (s : Step) (a : Answer) (m : After) → IsNext w r s a m → left_by w r s a m ≡ left w r s a m
left_is w r s a m (answered _ lv fits) = left_made w r s a fits
left_is w r s a m (failed Before lv may) = left_before w r s Failed
left_is w r s a m (failed Made lv may) = left_failed w r s
left_is w r s a m (failed (Torn b) lv may) = left_torn w r s Failed b
left_is w r s a m (refused d) = left_before w r s Failed

pub world_next : (start : World) (r : ℕ) (s : Step) (a : Answer) (m : After) (past : List Event) → IsNext (world_after start past) r s a m
    → world_after start (Act r s a m ∷ past) ≡ left (world_after start past) r s a m
world_next start r s a m past nx = world_act start r s a m past ∙ left_is (world_after start past) r s a m nx

-- the world in which the step was made and answered Failed is the one that it makes
pub world_failed : (start : World) (r : ℕ) (s : Step) (past : List Event) → world_after start (Act r s Failed Made ∷ past) ≡ made (world_after start past) r s
unfolding world_after
world_failed start r s past = refl

torn_target : (s : Step) (b : List ℕ) (p : Place) (x : List ℕ) → IsTarget (torn s b) p x → IsTarget s p x
torn_target (step.Create q n c) b p x t = t
torn_target s b p x t = t

pub left_goes : (w : WorldMap) (s : Step) (m : After) (p : Place) → Goes w.next_file (left_next w s m) (λ x. IsTarget s p x) (w.directories p) (left_directory w s m p)
left_goes w s Before p = stays
left_goes w s Made p = step_goes w s p
left_goes w s (Torn b) p = weaken w.next_file (next_after w (torn s b)) (λ x. IsTarget (torn s b) p x) (λ x. IsTarget s p x) (w.directories p) (λ x z. torn_target s b p x z) (step_goes w (torn s b) p)

pub left_grows : (w : WorldMap) (s : Step) (m : After) → w.next_file ≤ left_next w s m
left_grows w s Before = omega arith
left_grows w s Made = next_grows w s
left_grows w s (Torn b) = next_grows w (torn s b)

pub left_keeps : (w : WorldMap) (s : Step) (m : After) (f : ℕ) → f < w.next_file → ((left_file w s m f).bytes ≡ (w.files f).bytes) × ((w.files f).safe ≡ true → (left_file w s m f).safe ≡ true)
left_keeps w s Before f l = (refl, λ h. h)
left_keeps w s Made f l = file_keeps w s f l
left_keeps w s (Torn b) f l = file_keeps w (torn s b) f l

pub link_done : (u v : Option ℕ) → Done ≡ link_answer u v → ((f : ℕ) × (u ≡ Some f)) × (v ≡ None)
link_done (Some f) None e = ((f, refl), refl)
link_done (Some f) (Some g) e = absurd (cc (e))
link_done None v e = absurd (cc (e))

at_other : (k j : ℕ) (p q : Place) (t : List ℕ → Type 0) (d e : DirectoryMap) → ((q ≡ p) → e ≡ d) → Goes k j t d (if same_place q p then e else d)
at_other k j p q t d e m = go (same_place q p) refl
  where
    go : (v : Bool) → same_place q p ≡ v → Goes k j t d (if v then e else d)
    go true h = subst (λ (z : DirectoryMap). Goes k j t d z) (sym (m (place_same q p h))) stays
    go false h = stays

-- where a step is answered Gone nothing comes to a name
pub gone_goes : (w : WorldMap) (r : ℕ) (s : Step) (p : Place) → Fits w r s Gone → Goes w.next_file (next_after w s) (λ x. ⊥) (w.directories p) (directory_after w s p)
gone_goes w r (step.Create q n b) p fits = at_other w.next_file _ p q (λ x. ⊥) (w.directories p) (with_created (w.directories p) n w.next_file) same_directory
  where
    shut : (t v : Bool) → Gone ≡ (if t then (if v then Done else Exists) else Gone) → t ≡ false
    shut true true e = absurd (cc (e))
    shut true false e = absurd (cc (e))
    shut false v e = refl

    same_directory : q ≡ p → with_created (w.directories p) n w.next_file ≡ w.directories p
    same_directory e = let z : (w.directories p).there ≡ false = rw e at (shut (w.directories q).there (is_none (now_in (w.directories q) n)) fits) in rw z refl
gone_goes w r (step.Link q a b) p fits = at_other w.next_file w.next_file p q (λ x. ⊥) (w.directories p) (with_linked (w.directories p) a b) same_directory
  where
    gone : (u v : Option ℕ) → Gone ≡ link_answer u v → u ≡ None
    gone (Some f) None e = absurd (cc (e))
    gone (Some f) (Some g) e = absurd (cc (e))
    gone None v e = refl

    stuck : (d : DirectoryMap) (u v : Option ℕ) → u ≡ None → linked d b u v ≡ d
    stuck d (Some f) v e = absurd (cc (e))
    stuck d None v e = refl

    same_directory : q ≡ p → with_linked (w.directories p) a b ≡ w.directories p
    same_directory e = stuck (w.directories p) (now_in (w.directories p) a) (now_in (w.directories p) b) (rw e at (gone (now_in (w.directories q) a) (now_in (w.directories q) b) fits))
gone_goes w r (step.Rename q a b) p fits = at_other w.next_file w.next_file p q (λ x. ⊥) (w.directories p) (with_renamed (w.directories p) a b) same_directory
  where
    gone : (u : Option ℕ) → Gone ≡ name_answer u → u ≡ None
    gone (Some f) e = absurd (cc (e))
    gone None e = refl

    same_if : (v : Bool) (d : DirectoryMap) → (if v then d else d) ≡ d
    same_if true d = refl
    same_if false d = refl

    same_directory : q ≡ p → with_renamed (w.directories p) a b ≡ w.directories p
    same_directory e = let z : now_in (w.directories p) a ≡ None = rw e at (gone (now_in (w.directories q) a) fits) in rw z (same_if _ (w.directories p))
gone_goes w r (step.MakeFolder q) p fits = step_goes w (step.MakeFolder q) p
gone_goes w r (step.SyncFolder q) p fits = step_goes w (step.SyncFolder q) p
gone_goes w r (step.Unlink q a) p fits = step_goes w (step.Unlink q a) p
gone_goes w r _ p fits = stays

-- what comes to a name by such an act
abbrev pub ComesTo : Step → Answer → Place → List ℕ → Type 0
ComesTo s a p x = IsTarget s p x × (a ≡ Gone → ⊥)

pub answered_goes : (w : WorldMap) (r : ℕ) (s : Step) (a : Answer) (p : Place) → Fits w r s a → Goes w.next_file (next_after w s) (ComesTo s a p) (w.directories p) (directory_after w s p)
answered_goes w r s Gone p fits = weaken w.next_file (next_after w s) (λ x. ⊥) (ComesTo s Gone p) (w.directories p) (λ x z. absurd z) (gone_goes w r s p fits)
answered_goes w r s a p fits = weaken w.next_file (next_after w s) (λ x. IsTarget s p x) (ComesTo s a p) (w.directories p) (λ x z. (z, λ e. cc (e))) (step_goes w s p)

pub next_goes : (w : WorldMap) (r : ℕ) (s : Step) (a : Answer) (m : After) (p : Place) → IsNext w r s a m → Goes w.next_file (left_next w s m) (ComesTo s a p) (w.directories p) (left_directory w s m p)
next_goes w r s a m p (answered _ lv fits) = answered_goes w r s a p fits
next_goes w r s a m p (failed _ lv may) = weaken w.next_file (left_next w s m) (λ x. IsTarget s p x) (ComesTo s Failed p) (w.directories p) (λ x z. (z, λ e. cc (e))) (left_goes w s m p)
next_goes w r s a m p (refused d) = stays

-- an answer other than Failed is the table's
pub next_fits : (w : WorldMap) (r : ℕ) (s : Step) (a : Answer) (m : After) → IsNext w r s a m → (a ≡ Failed → ⊥) → IsLive r w × Fits w r s a × (m ≡ Made)
next_fits w r s a m (answered b lv fits) no_fail = (lv, fits, refl)
next_fits w r s a m (failed n lv may) no_fail = absurd (no_fail refl)
next_fits w r s a m (refused d) no_fail = absurd (no_fail refl)

pub fits_as : (w : WorldMap) (r : ℕ) (s t : Step) (a b : Answer) → s ≡ t → a ≡ b → Fits w r s a → Fits w r t b
fits_as w r s t a b es ea h = subst (λ (z : Step). Fits w r z b) es (subst (λ (z : Answer). Fits w r s z) ea h)

-- a Create that is answered Done makes the name lead to the next file, with these bytes
pub created_leads : (w : WorldMap) (r : ℕ) (p : Place) (n b : List ℕ) → Fits w r (step.Create p n b) Done → now_in (directory_after w (step.Create p n b) p) n ≡ Some w.next_file
created_leads w r p n b fits = rw (place_is p) (go (w.directories p).there (is_none (now_in (w.directories p) n)) fits)
  where
    go : (t v : Bool) → Done ≡ (if t then (if v then Done else Exists) else Gone) → now_in (if t && v then changed (w.directories p) (Set n w.next_file) else w.directories p) n ≡ Some w.next_file
    go true true e = rw (bytes_self n) refl
    go true false e = absurd (cc (e))
    go false v e = absurd (cc (e))

pub created_bytes : (w : WorldMap) (r : ℕ) (p : Place) (n b : List ℕ) → Fits w r (step.Create p n b) Done → (file_after w (step.Create p n b) w.next_file).bytes ≡ b
created_bytes w r p n b fits = rw (num_itself w.next_file) (go (w.directories p).there (is_none (now_in (w.directories p) n)) fits)
  where
    new : FileState
    new = record { bytes = b; safe = false }

    go : (t v : Bool) → Done ≡ (if t then (if v then Done else Exists) else Gone) → (if (t && v) && true then new else w.files w.next_file).bytes ≡ b
    go true true e = refl
    go true false e = absurd (cc (e))
    go false v e = absurd (cc (e))
