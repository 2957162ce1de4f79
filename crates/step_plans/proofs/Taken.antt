-- No careful step makes a number that leads to a file lead to another.
use Rattle.std.proofs.Common.{◌≡◌, ℕ, true, inl, inr, List, ◌∷◌, Option, Some, None, refl, sym, ap, subst}
use Rattle.mh_base.specs.Entries.{kind_of}
use Rattle.folder_files.specs.Deeds.{Deed}
use Rattle.folder_files.specs.Careful.{IsCareful}
use Rattle.folder_files.specs.Directory.{DirectoryMap, now_in}
use Rattle.folder_files.specs.Histories.{world_after, own, IsLegal, answers, fails, is_dead, crashes_within, IsLive, Changes}
use Rattle.folder_files.specs.Named.{is_number}
use Rattle.folder_files.specs.Steps.{made, linked, directory_after, torn}
use Rattle.folder_files.specs.Worlds.{WorldMap}
use Rattle.folder_files.specs.declared.event.After.{After}
use Rattle.folder_files.specs.declared.event.After.TheVariants.{Before, Made, Torn}
use Rattle.folder_files.specs.declared.event.Event.{Event}
use Rattle.folder_files.specs.declared.event.Event.TheVariants.{Act, Crash}
use Rattle.folder_files.specs.declared.place.Place.{Place}
use Rattle.folder_files.specs.declared.step.Answer.{Answer}
use Rattle.folder_files.specs.declared.step.Answer.TheVariants.{Failed}
use Rattle.folder_files.specs.declared.step.Step.{Step}
use Rattle.folder_files.specs.declared.step.Step.TheVariants.{Link}
use Rattle.folder_files.specs.declared.step.Step.TheVariants as step
use Rattle.folder_files.specs.declared.world.World.{World}
use Rattle.folder_files.proofs.Sameness.{place_is}
use Rattle.step_plans.specs.Moments.{Leads}
use Rattle.folder_files.proofs.Changes.{arrives, IsTarget}
use Rattle.folder_files.proofs.Effects.{IsNext, answered, failed, refused, left_directory, left_next, ComesTo, next_goes, world_next, world_failed}
use Rattle.step_plans.proofs.Discipline.{number_target}
use Rattle.step_plans.proofs.Crashes.{ended_by}
use Rattle.step_plans.proofs.Law.{within_ended, may_made}

linked_taken : (d : DirectoryMap) (b : List ℕ) (u v : Option ℕ) (f : ℕ) → v ≡ Some f → linked d b u v ≡ d
linked_taken d b (Some g) (Some h) f e = refl
linked_taken d b None v f e = refl
linked_taken d b (Some g) None f e = absurd (cc (e))

not_taken : (w : WorldMap) (r : ℕ) (s : Step) (a : Answer) (m : After) (p : Place) (x : List ℕ) (f g : ℕ) → ((ComesTo s a p x) → (c : List ℕ) × (s ≡ Link p c x)) → IsNext w r s a m
    → now_in (w.directories p) x ≡ Some f → now_in (left_directory w s m p) x ≡ Some g → f ≡ g
not_taken w r s a m p x f g target nx old new =
    elim (arrives w.next_file (left_next w s m) (ComesTo s a p) (w.directories p) x g (next_goes w r s a m p nx) new) [
      | inl z ↦ cc (z, old)
      | inr z ↦ go m (target z).1 new
    ]
  where
    same : (s : Step) (c : List ℕ) → s ≡ Link p c x → now_in (directory_after w s p) x ≡ now_in (w.directories p) x
    same s c e = subst (λ (z : Step). now_in (directory_after w z p) x ≡ now_in (w.directories p) x) (sym e)
        (rw (place_is p, linked_taken (w.directories p) x (now_in (w.directories p) c) (now_in (w.directories p) x) f old) refl)

    go : (m : After) {c : List ℕ} → s ≡ Link p c x → now_in (left_directory w s m p) x ≡ Some g → f ≡ g
    go Before e h = cc (h, old)
    go Made {c = c} e h = cc (h, old, same s c e)
    go (Torn b) {c = c} e h = cc (h, old, same (torn s b) c (ap (λ x. torn x b) e))

target_changes : (s : Step) (p : Place) (x : List ℕ) → IsTarget s p x → Changes p s
target_changes (step.Create q n b) p x t = sym t.0
target_changes (step.Link q a b) p x t = sym t.0
target_changes (step.Rename q a b) p x t = sym t.0
target_changes s p x t = absurd t

-- where the step changes names of the place it is careful
abbrev CaresIn : Place → ℕ → List Deed → Step → Type 0
CaresIn p r deeds s = Changes p s → IsCareful r deeds s

next_taken : (start : World) (past : List Event) (r : ℕ) (s : Step) (a : Answer) (m : After) → IsNext (world_after start past) r s a m
    → (p : Place) → CaresIn p r (own r past) s → (x : List ℕ) (f g : ℕ) → is_number (kind_of x) ≡ true → Leads start past p x f → Leads start (Act r s a m ∷ past) p x g → f ≡ g
next_taken start past r s a m nx p careful x f g number old new =
    not_taken (world_after start past) r s a m p x f g (λ z. number_target r (own r past) s p x (careful (target_changes s p x z.0)) number z.0) nx old
    (subst (λ (z : WorldMap). now_in (z.directories p) x ≡ Some g) (world_next start r s a m past nx) new)

pub taken : (start : World) (past : List Event) (r : ℕ) (s : Step) (a : Answer) (m : After) → IsLegal start (Act r s a m ∷ past)
    → (p : Place) → CaresIn p r (own r past) s → (x : List ℕ) (f g : ℕ) → is_number (kind_of x) ≡ true → Leads start past p x f → Leads start (Act r s a m ∷ past) p x g → f ≡ g
taken start past r s _ _ (answers _ _ a l lv fits) p careful x f g number old new = next_taken start past r s a Made (answered a lv fits) p careful x f g number old new
taken start past r s _ _ (fails _ _ m l lv may) p careful x f g number old new = next_taken start past r s Failed m (failed m lv may) p careful x f g number old new
taken start past r s _ _ (is_dead _ _ l over) p careful x f g number old new = next_taken start past r s Failed Before (refused over) p careful x f g number old new
taken start _ r s _ _ (crashes_within v _ _ {past = past} l lv image) p careful x f g number old new =
    next_taken start (Crash v ∷ past) r s Failed Before (refused (ended_by start v past r (within_ended r v past (made (world_after start past) r s).ended image.ended))) p careful x f g number old new

-- nor does one in whose middle the machine stops, in the world that it would have made
pub taken_within : (start : World) (past : List Event) (r : ℕ) (s : Step) → IsLive r (world_after start past) → (p : Place) → CaresIn p r (own r past) s
    → (x : List ℕ) (f g : ℕ) → is_number (kind_of x) ≡ true → Leads start past p x f → now_in ((made (world_after start past) r s).directories p) x ≡ Some g → f ≡ g
taken_within start past r s lv p careful x f g number old new =
    next_taken start past r s Failed Made (failed Made lv (may_made s)) p careful x f g number old
    (subst (λ (z : WorldMap). now_in (z.directories p) x ≡ Some g) (sym (world_failed start r s past)) new)
