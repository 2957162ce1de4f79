-- No name of a directory that isn't there leads anywhere: not in a world from which a history starts or that a crash leaves, and no step makes
-- it so.
use Rattle.std.proofs.Common.{◌≡◌, ◌&&◌, ◌||◌, ℕ, Bool, true, false, bytes_eq, List, [], ◌∷◌, Option, Some, None, refl, ◌∙◌, sym, ap}
use Rattle.std.specs.Prelude.{is_none, option_map, take, if◌then◌else◌}
use Rattle.folder_files.specs.Directory.{DirectoryMap, now_in}
use Rattle.folder_files.specs.Histories.{after_event, world_after}
use Rattle.folder_files.specs.Places.{is_parent, same_place}
use Rattle.folder_files.specs.Steps.{changed, changed_if, directory_after, left_by, linked, made, made_by, synced, torn, unmade, with_created, with_linked, with_made, with_renamed, with_unlinked}
use Rattle.folder_files.specs.Worlds.{WorldMap, directory_of, shown, shown_directory}
use Rattle.folder_files.specs.declared.event.After.{After}
use Rattle.folder_files.specs.declared.event.After.TheVariants.{Before, Made, Torn}
use Rattle.folder_files.specs.declared.event.Event.{Event}
use Rattle.folder_files.specs.declared.event.Event.TheVariants.{Act, Crash, Deliver, End}
use Rattle.folder_files.specs.declared.place.Place.{Place}
use Rattle.folder_files.specs.declared.step.Answer.{Answer}
use Rattle.folder_files.specs.declared.step.Answer.TheVariants.{Done, Names, Content, Piece, Long, Gone, Exists, Busy, Grown, Failed}
use Rattle.folder_files.specs.declared.step.Step.{Step}
use Rattle.folder_files.specs.declared.step.Step.TheVariants as step
use Rattle.folder_files.specs.declared.world.Change.{Change}
use Rattle.folder_files.specs.declared.world.Change.TheVariants as change
use Rattle.folder_files.specs.declared.world.Directory.{Directory}
use Rattle.folder_files.specs.declared.world.World.{World}
use Rattle.folder_files.specs.Histories.{past_of}
use Rattle.folder_files.specs.Story.{Story}
use Rattle.file_plans.specs.Alone.{world_at}
use Rattle.file_plans.specs.Contents.{contents_of}
use Rattle.opening_plans.specs.Making.{IsBare}

abbrev pub IsBareDirectory : DirectoryMap → Type 0
IsBareDirectory d = d.there ≡ false → (x : List ℕ) → now_in d x ≡ None

abbrev pub IsBareWorld : WorldMap → Type 0
IsBareWorld w = (p : Place) → IsBareDirectory (w.directories p)

listed_bare : (ds : List Directory) (p : Place) → IsBareDirectory (directory_of ds p)
listed_bare [] p = λ e x. refl
listed_bare (d ∷ ds) p = go (same_place d.place p) (listed_bare ds p)
  where
    go : (b : Bool) → IsBareDirectory (directory_of ds p) → IsBareDirectory (if b then shown_directory d else directory_of ds p)
    go true rest = λ e x. cc (e)
    go false rest = rest

shown_bare : (w : World) → IsBareWorld (shown w)
unfolding shown
shown_bare w = λ p. listed_bare w.directories p

-- what steps make of one directory
chosen_bare : (b : Bool) (d e : DirectoryMap) → IsBareDirectory d → IsBareDirectory e → IsBareDirectory (if b then d else e)
chosen_bare true d e f g = f
chosen_bare false d e f g = g

made_bare : (d : DirectoryMap) → IsBareDirectory (with_made d)
made_bare d = λ e x. cc (e)

-- a change of a directory that is there
led_bare : (d : DirectoryMap) (c : Change) (x : List ℕ) (o : Option ℕ) → now_in d x ≡ o → IsBareDirectory d → IsBareDirectory (changed_if d c o)
led_bare d c x None e f = f
led_bare d c x (Some n) e f = λ gone y. absurd (let both : Some n ≡ None = sym e ∙ f gone x in cc (both))

created_bare : (d : DirectoryMap) (n : List ℕ) (new : ℕ) → IsBareDirectory d → IsBareDirectory (with_created d n new)
created_bare d n new f = go d.there (is_none (now_in d n)) refl
  where
    go : (a b : Bool) → d.there ≡ a → IsBareDirectory (if a && b then changed d (change.Set n new) else d)
    go true true e = λ gone x. absurd (let both : true ≡ false = sym e ∙ gone in cc (both))
    go true false e = f
    go false b e = f

linked_bare : (d : DirectoryMap) (a b : List ℕ) → IsBareDirectory d → IsBareDirectory (with_linked d a b)
linked_bare d a b f = go (now_in d a) (now_in d b) refl
  where
    go : (o u : Option ℕ) → now_in d a ≡ o → IsBareDirectory (linked d b o u)
    go None u e = f
    go (Some n) (Some m) e = f
    go (Some n) None e = λ gone x. absurd (let both : Some n ≡ None = sym e ∙ f gone a in cc (both))

directory_bare : (w : WorldMap) (s : Step) (p : Place) → IsBareDirectory (w.directories p) → IsBareDirectory (directory_after w s p)
directory_bare w (step.List q) p f = f
directory_bare w (step.Read q n limit) p f = f
directory_bare w (step.MakeFolder q) p f = chosen_bare (same_place q p || is_parent p q) (with_made (w.directories p)) (w.directories p) (made_bare (w.directories p)) f
directory_bare w (step.Create q n b) p f = chosen_bare (same_place q p) (with_created (w.directories p) n w.next_file) (w.directories p) (created_bare (w.directories p) n w.next_file f) f
directory_bare w (step.SyncFile q n) p f = f
directory_bare w (step.SyncFolder q) p f = chosen_bare (same_place q p) (synced (w.directories p)) (w.directories p) f f
directory_bare w (step.Link q a b) p f = chosen_bare (same_place q p) (with_linked (w.directories p) a b) (w.directories p) (linked_bare (w.directories p) a b f) f
directory_bare w (step.Rename q a b) p f =
    chosen_bare (same_place q p) (with_renamed (w.directories p) a b) (w.directories p)
    (chosen_bare (bytes_eq a b) (w.directories p) (changed_if (w.directories p) (change.Moved a b) (now_in (w.directories p) a)) f (led_bare (w.directories p) (change.Moved a b) a (now_in (w.directories p) a) refl f)) f
directory_bare w (step.Unlink q a) p f = chosen_bare (same_place q p) (with_unlinked (w.directories p) a) (w.directories p) (led_bare (w.directories p) (change.Gone a) a (now_in (w.directories p) a) refl f) f
directory_bare w (step.Lock q) p f = f
directory_bare w (step.Unlock q) p f = f
directory_bare w (step.ReadFile path limit) p f = f
directory_bare w (step.ReadDrop path from most) p f = f
directory_bare w (step.CutDrop path n) p f = f

step_bare : (w : WorldMap) (run : ℕ) (s : Step) → IsBareWorld w → IsBareWorld (made w run s)
unfolding made
step_bare w run s f = λ p. directory_bare w s p (f p)

answered_bare : (w : WorldMap) (run : ℕ) (s : Step) (a : Answer) → IsBareWorld w → IsBareWorld (made_by w run s a)
answered_bare w run s Busy f = f
answered_bare w run s Done f = step_bare w run s f
answered_bare w run s (Names names) f = step_bare w run s f
answered_bare w run s (Content b) f = step_bare w run s f
answered_bare w run s (Piece b n) f = step_bare w run s f
answered_bare w run s (Long n) f = step_bare w run s f
answered_bare w run s Gone f = step_bare w run s f
answered_bare w run s Exists f = step_bare w run s f
answered_bare w run s Grown f = step_bare w run s f
answered_bare w run s Failed f = step_bare w run s f

unmade_bare : (w : WorldMap) (run : ℕ) (s : Step) → IsBareWorld w → IsBareWorld (unmade w run s)
unmade_bare w run (step.Unlock p) f = step_bare w run (step.Unlock p) f
unmade_bare w run (step.List q) f = f
unmade_bare w run (step.Read q n limit) f = f
unmade_bare w run (step.MakeFolder q) f = f
unmade_bare w run (step.Create q n b) f = f
unmade_bare w run (step.SyncFile q n) f = f
unmade_bare w run (step.SyncFolder q) f = f
unmade_bare w run (step.Link q a b) f = f
unmade_bare w run (step.Rename q a b) f = f
unmade_bare w run (step.Unlink q a) f = f
unmade_bare w run (step.Lock q) f = f
unmade_bare w run (step.ReadFile path limit) f = f
unmade_bare w run (step.ReadDrop path from most) f = f
unmade_bare w run (step.CutDrop path n) f = f

left_bare : (w : WorldMap) (run : ℕ) (s : Step) (a : Answer) (m : After) → IsBareWorld w → IsBareWorld (left_by w run s a m)
left_bare w run s a Before f = unmade_bare w run s f
left_bare w run s a Made f = answered_bare w run s a f
left_bare w run s a (Torn b) f = step_bare w run (torn s b) f

event_bare : (w : WorldMap) (e : Event) → IsBareWorld w → IsBareWorld (after_event w e)
event_bare w (Act run s a m) f = left_bare w run s a m f
event_bare w (Deliver path piece) f = f
event_bare w (Crash v) f = shown_bare v
event_bare w (End run) f = f

pub world_bare : (start : World) (past : List Event) → IsBareWorld (world_after start past)
unfolding world_after
world_bare start [] = shown_bare start
world_bare start (e ∷ past) = event_bare (world_after start past) e (world_bare start past)

-- so in the contents of each world of a story
pub story_bare : (s : Story) (k : ℕ) → IsBare (contents_of (world_at s k))
story_bare s k p gone x = ap (option_map (λ f. ((world_at s k).files f).bytes)) (world_bare s.start (past_of (take k s.history)) p gone x)
