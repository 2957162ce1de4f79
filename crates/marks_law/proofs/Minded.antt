-- Where each step that a command may ask for minds marks, and the others' do, the marks stay sound.
use Rattle.std.proofs.Common.{◌≡◌, ◌≢◌, ◌⊎◌, ℕ, true, false, Bool, List, [], ◌∷◌, sym, subst}
use Rattle.folder_files.specs.Careful.{HasLock}
use Rattle.folder_files.specs.Deeds.{Deed}
use Rattle.folder_files.specs.Histories.{own, Changes, IsLegal, AreHonest}
use Rattle.folder_files.specs.Named.{is_committed}
use Rattle.folder_files.specs.Places.{is_folder}
use Rattle.folder_files.specs.Worlds.{IsStart}
use Rattle.folder_files.specs.declared.event.Event.{Event}
use Rattle.folder_files.specs.declared.event.Event.TheVariants.{Act, Deliver, Crash, End}
use Rattle.folder_files.specs.declared.place.Place.{Place}
use Rattle.folder_files.specs.declared.step.Step.{Step}
use Rattle.folder_files.specs.declared.step.Step.TheVariants.{Rename}
use Rattle.folder_files.specs.declared.world.World.{World}
use Rattle.step_plans.specs.Pledges.{Pledge, MayAsk}
use Rattle.step_plans.specs.Safety.{AtSteps, OthersAreCareful, OthersAreOrderly}
use Rattle.step_plans.specs.Starts.{HasNoneOfTheirs}
use Rattle.step_plans.proofs.KeptPledges.{OwnMay, all_careful, all_orderly, by_whom}
use Rattle.marks_law.specs.Always.{AreMindful, AreOrderedCrashes}
use Rattle.marks_law.specs.Apart.{AreConsiderate, AreMindfulApart, AreSoundApart, by_text}
use Rattle.marks_law.specs.Bearers.{Marking, in_folder}
use Rattle.marks_law.specs.Minding.{KeepsMarks, Minds, by_base}
use Rattle.marks_law.specs.Pledging.{CommitsText, OthersAreConsiderate, OthersAreMindful, OthersAreMindfulApart}
use Rattle.marks_law.specs.Sound.{AreSound}
use Rattle.marks_law.proofs.Always.{marks_always_sound}
use Rattle.marks_law.proofs.ApartAlways.{marks_always_sound_apart}

-- what holds of the other runs' steps, and of each that the command may ask for, holds of all
abbrev pub AllSteps : (ℕ → List Deed → Step → Type 0) → List Event → Type 0
AllSteps Q past = AtSteps (λ r. Unit {0}) Q past

all_steps : (w : Pledge) (Q : ℕ → List Deed → Step → Type 0) → ((before : List Deed) (s : Step) → MayAsk w before s → Q w.run before s) → (past : List Event) → AtSteps (λ r. r ≢ w.run) Q past → OwnMay w past → AllSteps Q past
all_steps w Q may [] o f = tt
all_steps w Q may (Act r s a m ∷ past) o f =
    ((λ u. by_whom r w.run (Q r (own r past) s) (λ is. subst (λ z. Q z (own r past) s) (sym is) (may (own r past) s (f.0 is))) o.0), all_steps w Q may past o.1 f.1)
all_steps w Q may (Deliver path piece ∷ past) o f = all_steps w Q may past o f
all_steps w Q may (Crash v ∷ past) o f = all_steps w Q may past o f
all_steps w Q may (End r ∷ past) o f = all_steps w Q may past o f

-- a step that minds the marks where it changes the folder
abbrev pub Mindful : Marking → ℕ → List Deed → Step → Type 0
Mindful k r before s = Changes k.folder s → Minds r k (by_base r k) before s

-- the same of marks whose text stands in another directory
abbrev pub MindfulApart : Marking → ℕ → List Deed → Step → Type 0
MindfulApart k r before s = Changes k.folder s ⊎ CommitsText k s → Minds r k (by_text r k) before s

-- a step that commits the text only under the folder's lock, or keeps the marks
abbrev pub Considerate : Marking → ℕ → List Deed → Step → Type 0
Considerate k r before s = (temp : List ℕ) → s ≡ Rename k.place temp k.name → HasLock k.folder before ⊎ KeepsMarks r k temp before

are_mindful : (k : Marking) (past : List Event) → AllSteps (Mindful k) past → AreMindful k past
are_mindful k [] f = tt
are_mindful k (Act r s a m ∷ past) f = (f.0 tt, are_mindful k past f.1)
are_mindful k (Deliver path piece ∷ past) f = are_mindful k past f
are_mindful k (Crash v ∷ past) f = are_mindful k past f
are_mindful k (End r ∷ past) f = are_mindful k past f

are_mindful_apart : (k : Marking) (past : List Event) → AllSteps (MindfulApart k) past → AreMindfulApart k past
are_mindful_apart k [] f = tt
are_mindful_apart k (Act r s a m ∷ past) f = (f.0 tt, are_mindful_apart k past f.1)
are_mindful_apart k (Deliver path piece ∷ past) f = are_mindful_apart k past f
are_mindful_apart k (Crash v ∷ past) f = are_mindful_apart k past f
are_mindful_apart k (End r ∷ past) f = are_mindful_apart k past f

are_considerate : (k : Marking) (past : List Event) → AllSteps (Considerate k) past → AreConsiderate k past
are_considerate k [] f = tt
are_considerate k (Act r s a m ∷ past) f = (f.0 tt, are_considerate k past f.1)
are_considerate k (Deliver path piece ∷ past) f = are_considerate k past f
are_considerate k (Crash v ∷ past) f = are_considerate k past f
are_considerate k (End r ∷ past) f = are_considerate k past f

-- each step that the command may ask for minds the marks
abbrev pub MayMind : Pledge → Marking → Type 0
MayMind w k = (before : List Deed) (s : Step) → MayAsk w before s → Mindful k w.run before s

abbrev pub MayMindApart : Pledge → Marking → Type 0
MayMindApart w k = (before : List Deed) (s : Step) → MayAsk w before s → MindfulApart k w.run before s × Considerate k w.run before s

-- a history in which the others are careful and orderly, and the command's own steps are those that it may ask for
pub record IsShared (w : Pledge) (start : World) (past : List Event) : Type 0 where
  pub start_is : IsStart start
  pub none : HasNoneOfTheirs start past
  pub honest : AreHonest start past
  pub careful : OthersAreCareful w.run past
  pub orderly : OthersAreOrderly w.run past
  pub may : OwnMay w past

pub marks_kept : (w : Pledge) (p : Place) (x : List ℕ) (says : List ℕ → ℕ → Bool) (start : World) (past : List Event) → is_committed p x ≡ true → is_folder p ≡ true → ((n : ℕ) → says [] n ≡ false)
    → MayMind w (in_folder p x says) → IsShared w start past → OthersAreMindful w.run (in_folder p x says) past
    → (l : IsLegal start past) → AreOrderedCrashes start p l → AreSound start (in_folder p x says) [] → AreSound start (in_folder p x says) past
marks_kept w p x says start past committed folder silent minds s others l crashes sound =
    marks_always_sound start p x says s.start_is committed folder silent l (all_careful w past s.careful s.may) s.none s.honest (all_orderly w past s.orderly s.may)
    (are_mindful (in_folder p x says) past (all_steps w (Mindful (in_folder p x says)) minds past others s.may)) crashes sound

pub marks_kept_apart : (w : Pledge) (k : Marking) (start : World) (past : List Event) → is_committed k.place k.name ≡ true → is_folder k.folder ≡ true → ((n : ℕ) → k.says [] n ≡ false)
    → MayMindApart w k → IsShared w start past → OthersAreMindfulApart w.run k past → OthersAreConsiderate w.run k past
    → (l : IsLegal start past) → AreOrderedCrashes start k.folder l → AreOrderedCrashes start k.place l → AreSoundApart start k [] → AreSoundApart start k past
marks_kept_apart w k start past committed folder silent minds s others considerate l crashes crashes_text sound =
    marks_always_sound_apart start k s.start_is committed folder silent l (all_careful w past s.careful s.may) s.none s.honest (all_orderly w past s.orderly s.may)
    (are_considerate k past (all_steps w (Considerate k) (λ before t f. (minds before t f).1) past considerate s.may))
    (are_mindful_apart k past (all_steps w (MindfulApart k) (λ before t f. (minds before t f).0) past others s.may)) crashes crashes_text sound
