-- What stands in place of a discarded file.
use Rattle.std.specs.Prelude.{◌≡◌, ℕ, true, List, ◌∷◌}
use Rattle.mh_base.specs.Entries.{kind_of}
use Rattle.folder_files.specs.Annotations.{Annotates}
use Rattle.folder_files.specs.Careful.{IsRead, WasGivenAway}
use Rattle.folder_files.specs.Deeds.{Deed, did, Once}
use Rattle.folder_files.specs.Histories.{own}
use Rattle.folder_files.specs.Named.{is_number, is_temp_of, is_held_of}
use Rattle.folder_files.specs.Places.{is_folder}
use Rattle.folder_files.specs.declared.event.After.{After}
use Rattle.folder_files.specs.declared.event.Event.{Event}
use Rattle.folder_files.specs.declared.event.Event.TheVariants.{Act}
use Rattle.folder_files.specs.declared.place.Place.{Place}
use Rattle.folder_files.specs.declared.step.Answer.{Answer}
use Rattle.folder_files.specs.declared.step.Answer.TheVariants.{Done}
use Rattle.folder_files.specs.declared.step.Step.TheVariants.{Create, Link, Unlink}
use Rattle.folder_files.specs.declared.world.World.{World}
use Rattle.step_plans.specs.Moments.{Leads, Tries}

-- the held file was read, and had these bytes
abbrev pub HasReadHeld : Place → List ℕ → List ℕ → List Deed → Type 0
HasReadHeld p held bytes own = Once (λ d older. IsRead p held bytes d) own

-- after such a reading the run made a file of these bytes
abbrev pub HasMadeSince : Place → List ℕ → List ℕ → Place → List ℕ → List ℕ → List Deed → Type 0
HasMadeSince p held bytes q temp copy own =
    Once (λ d older. (d ≡ did (Create q temp copy) Done) × HasReadHeld p held bytes older) own

-- the run put the file g into the folder q with the answer Done; it had made it of these bytes after it read the held
-- file
pub data WasPutSince (start : World) (run : ℕ) (p : Place) (held bytes : List ℕ) (q : Place) (g : ℕ)
    (copy : List ℕ) : List Event → Type 0 where
  now : {temp number : List ℕ} {m : After} {past : List Event} → is_folder q ≡ true
      → is_temp_of run (kind_of temp) ≡ true → is_number (kind_of number) ≡ true
      → HasMadeSince p held bytes q temp copy (own run past) → Leads start past q temp g
      → WasPutSince start run p held bytes q g copy (Act run (Link q temp number) Done m ∷ past)
  on : {e : Event} {past : List Event} → WasPutSince start run p held bytes q g copy past
      → WasPutSince start run p held bytes q g copy (e ∷ past)

-- the file f of p was discarded by a run that had read it as these bytes; g in q, of the bytes of the copy, is what
-- that run put in its place: what it had read, or lines and then that
pub data IsSuccessor (start : World) (p : Place) (f : ℕ) (q : Place) (g : ℕ) (bytes copy : List ℕ) : List Event
    → Type 0 where
  now : {run : ℕ} {held : List ℕ} {a : Answer} {m : After} {past : List Event} → is_held_of run (kind_of held) ≡ true
      → Tries start run p held f past
      → (WasGivenAway p held (own run past) → ⊥) → Annotates bytes copy
      → WasPutSince start run p held bytes q g copy past
      → IsSuccessor start p f q g bytes copy (Act run (Unlink p held) a m ∷ past)
  on : {e : Event} {past : List Event} → IsSuccessor start p f q g bytes copy past
      → IsSuccessor start p f q g bytes copy (e ∷ past)
