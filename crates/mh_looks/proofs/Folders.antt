-- A folder that is listed, by names and bytes.
use Rattle.std.proofs.Common.{◌≡◌, ◌||◌, ℕ, Bool, true, false, List, Result, Ok, Err, refl, sym, ◌∙◌, ap, subst}
use Rattle.std.specs.Prelude.{is_some, decimal}
use Rattle.mh_base.specs.Entries.{entry_text}
use Rattle.folder_files.specs.Standing.{is_standing}
use Rattle.folder_files.specs.Steps.{has_text}
use Rattle.folder_files.specs.declared.place.Place.{Place}
use Rattle.folder_files.specs.declared.refusal.Refusal.TheVariants as refusal
use Rattle.folder_files.specs.declared.step.Step.TheVariants as step
use Rattle.folder_files.specs.declared.step.Answer.TheVariants as answer
use Rattle.file_plans.specs.Contents.{Contents, folder_at}
use Rattle.file_plans.specs.Giving.{Gives}
use Rattle.file_plans.specs.Mailboxes.{is_message_number, numbered}
use Rattle.file_plans.specs.Plan.{Hand, bind, ◌>>=◌}
use Rattle.file_plans.specs.Sightings.{has_number}
use Rattle.file_plans.specs.Views.{Unseen, View, view_after, ListingTells, PlaceTells, fits_view, by_view}
use Rattle.file_plans.proofs.Showing.{number_ok, number_kind}
use Rattle.file_plans.proofs.NumberTexts.{has_number_text}
use Rattle.file_plans.proofs.Viewing.{list_view}
use Rattle.step_plans.specs.CommandFaults.{of_stop}
use Rattle.step_plans.specs.declared.command_fault.CommandFault.{CommandFault}
use Rattle.step_plans.specs.declared.command_fault.CommandFault.TheVariants as fault
use Rattle.command_stages.specs.Listed.{names_by, folder_listed}

-- nothing was seen of the folder, and no own Link met a name
pub record IsFresh (v : View) (p : Place) : Type 0 where
  pub place : v.seen.places p ≡ false
  pub names : (x : List ℕ) → is_standing x ≡ true → v.seen.names p x ≡ Unseen
  pub unmet : (x : List ℕ) → v.met p x ≡ false

-- the listing has just the standing names that lead to something
pub record Tells (c : Contents) (p : Place) (names : List (List ℕ)) : Type 0 where
  pub there : c.there p ≡ true
  pub all : (x : List ℕ) → is_standing x ≡ true → has_text x names ≡ is_some (c.texts p x)

or_false : (b : Bool) → b || false ≡ b
or_false true = refl
or_false false = refl

tells_names : (alone : Bool) (v : View) (p : Place) (names : List (List ℕ)) → (alone ≡ false → IsFresh v p) → fits_view alone v (step.List p) (answer.Names names) → Tells v.contents p names
tells_names true v p names fresh f = record { there = f.0.0; all = λ x standing. f.0.1.all x }
tells_names false v p names fresh f =
    let i = fresh refl in
    record {
      there = subst (λ b. PlaceTells b (v.contents.there p) true) i.place f.0.0;
      all = λ x standing.
          let t : is_some (v.contents.texts p x) ≡ has_text x names || v.met p x = subst (λ s. ListingTells s (v.contents.texts p x) (has_text x names || v.met p x)) (i.names x standing) (f.0.1 x standing) in
          sym (t ∙ ap (λ b. has_text x names || b) (i.unmet x) ∙ or_false (has_text x names));
    }

tells_gone : (alone : Bool) (v : View) (p : Place) → (alone ≡ false → IsFresh v p) → fits_view alone v (step.List p) answer.Gone → v.contents.there p ≡ false
tells_gone true v p fresh f = f.0
tells_gone false v p fresh f = subst (λ b. PlaceTells b (v.contents.there p) false) (fresh refl).place f.0

-- what holds after the folder was listed
pub record IsListed (v : View) (p : Place) (h : Hand) (text : List ℕ) (names : List (List ℕ)) (z : View) (j : Hand) (left : List ℕ) : Type 0 where
  pub view : z ≡ view_after v (step.List p) (answer.Names names)
  pub hand : j ≡ h
  pub rest : left ≡ text
  pub tells : Tells v.contents p names

pub record IsAbsent (v : View) (p : Place) (folder : List ℕ) (h : Hand) (text : List ℕ) (e : CommandFault) (z : View) (j : Hand) (left : List ℕ) : Type 0 where
  pub contents : z.contents ≡ v.contents
  pub hand : j ≡ h
  pub rest : left ≡ text
  pub fault : e ≡ fault.Refused (refusal.NoFolder folder)
  pub none : v.contents.there p ≡ false

abbrev pub FolderListed : View → Place → List ℕ → Hand → List ℕ → View → Hand → List ℕ → Result (List (List ℕ)) CommandFault → Type 0
FolderListed v p folder h text z j left (Ok names) = IsListed v p h text names z j left
FolderListed v p folder h text z j left (Err e) = IsAbsent v p folder h text e z j left

pub folder_gives : (alone : Bool) (v : View) (p : Place) (folder : List ℕ) (h : Hand) (text : List ℕ) → (alone ≡ false → IsFresh v p) → Gives (by_view alone) v h text (folder_listed p folder) (FolderListed v p folder h text)
unfolding Gives folder_listed bind ◌>>=◌
folder_gives alone v p folder h text fresh =
    list_view alone v of_stop h text (FolderListed v p folder h text) p (names_by folder)
    (λ names f. record { view = refl; hand = refl; rest = refl; tells = tells_names alone v p names fresh f })
    (λ f. record { contents = refl; hand = refl; rest = refl; fault = refl; none = tells_gone alone v p fresh f })

-- the folder's messages are those of the listing
number_stands : (n : ℕ) → is_message_number n ≡ true → is_standing (decimal n) ≡ true
number_stands n ok = rw (number_kind n (number_ok n ok)) refl

pub messages_listed : (c : Contents) (p : Place) (names : List (List ℕ)) → Tells c p names → (n : ℕ) → is_some ((folder_at c p).messages n) ≡ has_number n names
unfolding entry_text
messages_listed c p names t n = go (is_message_number n) refl
  where
    go : (b : Bool) → is_message_number n ≡ b → is_some (numbered n (c.texts p (decimal n))) ≡ has_number n names
    go true e = rw (has_number_text n names, e) (sym (t.all (decimal n) (number_stands n e)))
    go false e = rw (has_number_text n names, e) refl
