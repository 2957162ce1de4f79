-- Answers that their steps have in some world.
use Rattle.std.proofs.Common.{◌≡◌, ◌⊎◌, inl, inr, ◌==◌, ℕ, Bool, true, false, List, [], ◌∷◌, ◌++◌, Option, Some, None, length, refl}
use Rattle.std.specs.Prelude.{nat_lt, if◌then◌else◌}
use Rattle.std.proofs.lemmas.Bool.Decides.{Decides-eqb}
use Rattle.folder_files.specs.Deeds as deeds
use Rattle.folder_files.specs.Deeds.{did}
use Rattle.folder_files.specs.Histories.{IsLegal, begins, answers, fails, is_dead, delivers, crashes, crashes_within, stops, own, world_after}
use Rattle.folder_files.specs.Steps.{Fits, read_answer}
use Rattle.folder_files.specs.Worlds.{WorldMap}
use Rattle.folder_files.specs.declared.event.After.{After}
use Rattle.folder_files.specs.declared.event.After.TheVariants.{Made as made, Before}
use Rattle.folder_files.specs.declared.event.Event.{Event}
use Rattle.folder_files.specs.declared.event.Event.TheVariants.{Act, Crash}
use Rattle.folder_files.specs.declared.step.Step.{Step}
use Rattle.folder_files.specs.declared.step.Answer.{Answer}
use Rattle.folder_files.specs.declared.step.Answer.TheVariants.{Content, Long, Failed}
use Rattle.folder_files.specs.declared.world.World.{World}

-- the step failed, or its answer is one that it has in some world
abbrev pub IsSound : ℕ → deeds.Deed → Type 0
IsSound run d = (d.answer ≡ Failed) ⊎ ((w : WorldMap) × Fits w run d.step d.answer)

abbrev pub AllSound : ℕ → List deeds.Deed → Type 0
AllSound run [] = Unit {0}
AllSound run (d ∷ ds) = IsSound run d × AllSound run ds

sound_act : (run r : ℕ) (s : Step) (a : Answer) (m : After) (past : List Event) → (r ≡ run → IsSound run (did s a)) → AllSound run (own run past) → AllSound run (own run (Act r s a m ∷ past))
unfolding own
sound_act run r s a m past one all = go (r == run) refl
  where
    go : (v : Bool) → (r == run) ≡ v → AllSound run ((if v then did s a ∷ [] else []) ++ own run past)
    go true e = (one ((Decides-eqb r run).0 e), all)
    go false e = all

fits_as : (run r : ℕ) (w : WorldMap) (s : Step) (a : Answer) → Fits w r s a → r ≡ run → IsSound run (did s a)
fits_as run r w s a f e = inr (w, rw e at f)

pub legal_sound : (run : ℕ) (start : World) (past : List Event) → IsLegal start past → AllSound run (own run past)
unfolding own
legal_sound run start _ begins = tt
legal_sound run start _ (answers r s a {past = past} l live fits) = sound_act run r s a made past (fits_as run r (world_after start past) s a fits) (legal_sound run start past l)
legal_sound run start _ (fails r s m {past = past} l live may) = sound_act run r s Failed m past (λ e. inl refl) (legal_sound run start past l)
legal_sound run start _ (is_dead r s {past = past} l dead) = sound_act run r s Failed Before past (λ e. inl refl) (legal_sound run start past l)
legal_sound run start _ (delivers path piece {past = past} l) = legal_sound run start past l
legal_sound run start _ (crashes v {past = past} l image) = legal_sound run start past l
legal_sound run start _ (crashes_within v r s {past = past} l live image) = sound_act run r s Failed Before (Crash v ∷ past) (λ e. inl refl) (legal_sound run start past l)
legal_sound run start _ (stops r {past = past} l) = legal_sound run start past l

pub sound_front : (run : ℕ) (a b : List deeds.Deed) → AllSound run (a ++ b) → AllSound run a
sound_front run [] b f = tt
sound_front run (d ∷ a) b f = (f.0, sound_front run a b f.1)

-- a length that was answered is above the limit
long_by : (limit l : ℕ) (bytes : List ℕ) (v : Bool) → nat_lt limit (length bytes) ≡ v → Long l ≡ (if v then Long (length bytes) else Content bytes) → nat_lt limit l ≡ true
long_by limit l bytes true e f = let same : l ≡ length bytes = cc in rw same e
long_by limit l bytes false e f = cc

pub long_above : (w : WorldMap) (limit : ℕ) (o : Option ℕ) (l : ℕ) → Long l ≡ read_answer w limit o → nat_lt limit l ≡ true
long_above w limit None l e = cc
long_above w limit (Some f) l e = long_by limit l (w.files f).bytes (nat_lt limit (length (w.files f).bytes)) refl e
