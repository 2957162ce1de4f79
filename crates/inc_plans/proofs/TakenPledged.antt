-- A message is taken in as its command pledges: its line is told only once it is stored.
use Rattle.std.proofs.Common.{◌≡◌, ◌<◌, ◌≤◌, ◌^◌, ℕ, Bool, true, false, List, None, refl}
use Rattle.folder_files.specs.Careful.{HasLock}
use Rattle.folder_files.specs.Deeds.{Deed}
use Rattle.folder_files.specs.Places.{is_folder}
use Rattle.folder_files.specs.declared.place.Place.{Place}
use Rattle.file_plans.specs.Plan.{Hand, bind, lifted, say, ◌>>=◌}
use Rattle.step_plans.specs.Pledges.{Pledge}
use Rattle.step_plans.proofs.Going.{Goes, Outcome, goes_lifted, goes_then, okay}
use Rattle.step_plans.proofs.Stepping.{goes_return}
use Rattle.step_plans.proofs.Written.{goes_at}
use Rattle.message_puts.specs.Putting.{message_stored}
use Rattle.message_puts.specs.Stored.{HasStoredAt}
use Rattle.message_puts.proofs.PutPledged.{PutsMessages}
use Rattle.message_puts.proofs.StoredPledged.{HasStored, stored_goes}
use Rattle.command_stages.specs.Endings.{of_plan}
use Rattle.message_lines.specs.MessageText.{line_of}
use Rattle.inc_plans.specs.Stored.{IsLineOfStored}
use Rattle.inc_plans.specs.Taking.{first_of, message_taken, message_told, Telling, told_if}

module _ (w : Pledge) (few : w.run < 2 ^ 128) (p : Place) (Known : ℕ → List Deed → Type 0) (Now : List Deed → Type 0) (lets : (bytes : List ℕ) → PutsMessages w p bytes Known None Now) (is_there : is_folder p ≡ true) where
  -- the message is stored at this number, and the lock is had
  abbrev pub HasTaken : List ℕ → List Deed → Outcome ℕ
  HasTaken bytes own = HasStored w few p bytes Known Now (lets bytes) is_there own

  -- lines of stored messages may be told, where any are
  module _ (telling : Telling) (tells : telling.silent ≡ false → (own : List Deed) (piece : List ℕ) → IsLineOfStored telling.line w.run p own piece → w.may_tell own piece) where
    told_by : (b : Bool) → telling.silent ≡ b → (first m : ℕ) (bytes : List ℕ) (own : List Deed) (h : Hand) → HasStoredAt w.run p m bytes own
        → Goes w own h (told_if b (line_of (telling.line first) m bytes)) (okay (λ later j u. later ≡ own))
    unfolding Goes say lifted bind ◌>>=◌
    told_by true is first m bytes own h stored = refl
    told_by false is first m bytes own h stored = ((λ s. tells is own (line_of (telling.line first) m bytes) (record { number = m; message = bytes; kind = first; line = refl; stored = stored })), refl)

    told_goes : (numbers : List ℕ) (m : ℕ) (bytes : List ℕ) (own : List Deed) (h : Hand) → HasStoredAt w.run p m bytes own → Goes w own h (message_told telling numbers m bytes) (okay (λ later j u. later ≡ own))
    told_goes numbers m bytes own h stored = told_by telling.silent refl (first_of numbers m) m bytes own h stored

    pub taken_goes : (folder numbers : List ℕ) (bytes : List ℕ) (top : ℕ) → top ≤ 999999 → (own : List Deed) (h : Hand) → Known top own → Now own → HasLock p own → Goes w own h (message_taken w.run folder p telling numbers top bytes) (okay (HasTaken bytes own))
    unfolding message_taken
    taken_goes folder numbers bytes top small own h known current lock =
        goes_then w own h (lifted (of_plan folder) (message_stored w.run p top bytes)) _ (HasTaken bytes own) (HasTaken bytes own)
        (goes_lifted w own h (of_plan folder) (message_stored w.run p top bytes) (HasTaken bytes own) (stored_goes w few p bytes Known Now (lets bytes) is_there top small own h known current lock))
        (λ later j m f.
        goes_then w later j (message_told telling numbers m bytes) _ (λ last i u. last ≡ later) (HasTaken bytes own) (told_goes numbers m bytes later j f.2)
        (λ last i u e. goes_at w last later i _ (okay (HasTaken bytes own)) e (goes_return w later i m (okay (HasTaken bytes own)) f)))
