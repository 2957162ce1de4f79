-- Moments of a history, the newest event first: where names lead, and when a step was tried.
use Rattle.std.specs.Prelude.{◌≡◌, ℕ, true, List, [], ◌∷◌, Some, None}
use Rattle.folder_files.specs.Directory.{now_in}
use Rattle.folder_files.specs.Histories.{world_after, IsLive}
use Rattle.folder_files.specs.Steps.{made}
use Rattle.folder_files.specs.Worlds.{WorldMap, shown}
use Rattle.folder_files.specs.declared.event.Event.{Event}
use Rattle.folder_files.specs.declared.event.Event.TheVariants.{Act, Deliver, Crash, End}
use Rattle.folder_files.specs.declared.place.Place.{Place}
use Rattle.folder_files.specs.declared.step.Step.{Step}
use Rattle.folder_files.specs.declared.world.World.{World}

-- the name leads to the file after these events
abbrev pub Leads : World → List Event → Place → List ℕ → ℕ → Type 0
Leads start past p x f = now_in ((world_after start past).directories p) x ≡ Some f

-- the name led to the file after some of these events, or at the start
pub data HasLed (start : World) (p : Place) (x : List ℕ) (f : ℕ) : List Event → Type 0 where
  now : {past : List Event} → Leads start past p x f → HasLed start p x f past
  on : {e : Event} {past : List Event} → HasLed start p x f past → HasLed start p x f (e ∷ past)

-- the run tried its step at this moment: right before the step, where the run was live, or, where a crash right before
-- the step ended the run, right before that crash
pub data IsTriedAt (start : World) (run : ℕ) : List Event → List Event → Type 0 where
  live : {past : List Event} → IsLive run (world_after start past) → IsTriedAt start run past past
  cut : {v : World} {past : List Event} → (shown v).ended run ≡ true → IsLive run (world_after start past)
      → IsTriedAt start run past (Crash v ∷ past)

-- the name led to the file at the moment at which the run tried the step that comes after these events
abbrev pub Tries : World → ℕ → Place → List ℕ → ℕ → List Event → Type 0
Tries start run p x f past = (moment : List Event) × IsTriedAt start run moment past × Leads start moment p x f

-- the step would make the name, which leads to no file in this world, lead to one
abbrev pub WouldMake : WorldMap → ℕ → Step → Place → List ℕ → Type 0
WouldMake w run s p x =
    (now_in (w.directories p) x ≡ None) × ((f : ℕ) × (now_in ((made w run s).directories p) x ≡ Some f))

-- no step was tried that would make the name where it had led to a file before
abbrev pub IsMadeOnce : World → Place → List ℕ → List Event → Type 0
IsMadeOnce start p x [] = Unit {0}
IsMadeOnce start p x (Act run s a m ∷ past) =
    ((moment : List Event) → IsTriedAt start run moment past → WouldMake (world_after start moment) run s p x → (f : ℕ)
    → HasLed start p x f moment → ⊥)
    × IsMadeOnce start p x past
IsMadeOnce start p x (Deliver path piece ∷ past) = IsMadeOnce start p x past
IsMadeOnce start p x (Crash v ∷ past) = IsMadeOnce start p x past
IsMadeOnce start p x (End run ∷ past) = IsMadeOnce start p x past

-- an event that is no crash
abbrev pub IsNoCrash : Event → Type 0
IsNoCrash (Act r s a m) = Unit {0}
IsNoCrash (Deliver path piece) = Unit {0}
IsNoCrash (Crash v) = ⊥
IsNoCrash (End r) = Unit {0}
