-- A run's own steps, by what its plan did and by the story.
use Rattle.std.proofs.Common.{◌≡◌, ◌==◌, ℕ, Bool, true, List, [], ◌∷◌, ◌++◌, Option, Some, None, map, refl, sym, ◌∙◌, ap, append_assoc, append-nil}
use Rattle.std.specs.Prelude.{reverse, if◌then◌else◌}
use Rattle.std.proofs.lemmas.List.{reverse-append}
use Rattle.std.proofs.Math.Seq.{drop-append_seam}
use Rattle.folder_files.specs.Deeds as deeds
use Rattle.folder_files.specs.Deeds.{did}
use Rattle.folder_files.specs.Histories.{own, deed_of, past_of}
use Rattle.folder_files.specs.Story.{Story, Moment, Mine, Theirs, Grows, GrowsBy, IsOther, AreOthers, event_of}
use Rattle.folder_files.specs.declared.event.After.{After}
use Rattle.folder_files.specs.declared.event.Event.{Event}
use Rattle.folder_files.specs.declared.event.Event.TheVariants.{Act, Deliver, Crash, End}
use Rattle.folder_files.specs.declared.step.Step.{Step}
use Rattle.folder_files.specs.declared.step.Answer.{Answer}
use Rattle.folder_files.proofs.OwnDeeds.{own_one}
use Rattle.file_plans.specs.Follows.{Turn, Filed, Spoke, Took, filed_in, deeds_in}
use Rattle.file_plans.specs.Runs.{Deed, Did, Said, Heard}
use Rattle.file_plans.specs.Sightings.{AreMade, events_since}
use Rattle.file_plans.proofs.Rising.{num_same, num_not}

-- the steps among deeds, the newest first, before these
abbrev pub acts_over : List deeds.Deed → List Deed → List deeds.Deed
acts_over past [] = past
acts_over past (Did s a ∷ ds) = acts_over (did s a ∷ past) ds
acts_over past (Said piece ∷ ds) = acts_over past ds
acts_over past (Heard piece ∷ ds) = acts_over past ds

abbrev pub acts : List Deed → List deeds.Deed
acts ds = acts_over [] ds

pub acts_append : (past : List deeds.Deed) (a b : List Deed) → acts_over past (a ++ b) ≡ acts_over (acts_over past a) b
acts_append past [] b = refl
acts_append past (Did s x ∷ a) b = acts_append (did s x ∷ past) a b
acts_append past (Said piece ∷ a) b = acts_append past a b
acts_append past (Heard piece ∷ a) b = acts_append past a b

deed_mine : (run : ℕ) (s : Step) (a : Answer) (b : Bool) → b ≡ true → (if b then did s a ∷ [] else []) ≡ did s a ∷ []
deed_mine run s a b e = rw e refl

pub deed_other : (run : ℕ) (e : Event) → IsOther run e → deed_of run e ≡ []
deed_other run (Act r s a f) o = rw (num_not r run o) refl
deed_other run (Deliver path piece) o = refl
deed_other run (Crash v) o = refl
deed_other run (End r) o = refl

pub own_append : (run : ℕ) (a b : List Event) → own run (a ++ b) ≡ own run a ++ own run b
unfolding own
own_append run [] b = refl
own_append run (e ∷ a) b = ap (λ t. deed_of run e ++ t) (own_append run a b) ∙ sym (append_assoc (deed_of run e) (own run a) (own run b))

-- one more event at the end of a list that is turned round
own_turned : (run : ℕ) (e : Event) (es : List Event) → own run (reverse (e ∷ es)) ≡ own run (reverse es) ++ deed_of run e
own_turned run e es = ap (own run) (reverse-append (e ∷ []) es) ∙ (own_append run (reverse es) (e ∷ []) ∙ ap (λ t. own run (reverse es) ++ t) (own_one run e))

over_split : (past : List deeds.Deed) (ts : List Turn) → acts_over past (deeds_in ts) ≡ acts_over [] (deeds_in ts) ++ past
over_split past [] = refl
over_split past (Filed (Mine s a f) ∷ ts) =
    over_split (did s a ∷ past) ts ∙ (sym (append_assoc (acts_over [] (deeds_in ts)) (did s a ∷ []) past) ∙ ap (λ t. t ++ past) (sym (over_split (did s a ∷ []) ts)))
over_split past (Filed (Theirs e) ∷ ts) = over_split past ts
over_split past (Spoke piece ∷ ts) = over_split past ts
over_split past (Took piece ∷ ts) = over_split past ts

pub own_acts : (run : ℕ) (ts : List Turn) → AreOthers run (filed_in ts) → own run (reverse (map (event_of run) (filed_in ts))) ≡ acts (deeds_in ts)
unfolding own
own_acts run [] o = refl
own_acts run (Filed (Mine s a f) ∷ ts) o =
    own_turned run (Act run s a f) (map (event_of run) (filed_in ts)) ∙ (ap (λ t. t ++ deed_of run (Act run s a f)) (own_acts run ts o) ∙ (ap (λ t. acts (deeds_in ts) ++ t) (deed_mine run s a (run == run) (num_same run)) ∙ sym (over_split (did s a ∷ []) ts)))
own_acts run (Filed (Theirs e) ∷ ts) o =
    own_turned run e (map (event_of run) (filed_in ts)) ∙ (ap (λ t. t ++ deed_of run e) (own_acts run ts o.1) ∙ (ap (λ t. acts (deeds_in ts) ++ t) (deed_other run e o.0) ∙ append-nil (acts (deeds_in ts))))
own_acts run (Spoke piece ∷ ts) o = own_acts run ts o
own_acts run (Took piece ∷ ts) o = own_acts run ts o

pub since_is : (run : ℕ) (old new : Story) (log : List Moment) → Grows run old new log → events_since old new ≡ map (event_of run) log
since_is run old new log g = rw g.history (drop-append_seam old.history (map (event_of run) log))

-- what the plan did is what the story has
pub acts_made : (run : ℕ) (old new : Option Story) (ts : List Turn) → GrowsBy run old new (filed_in ts) → AreMade run old new (acts (deeds_in ts))
acts_made run None None ts g = tt
acts_made run (Some old) (Some new) ts g = sym (ap (λ es. own run (past_of es)) (since_is run old new (filed_in ts) g) ∙ own_acts run ts g.others)
acts_made run None (Some new) ts g = absurd g
acts_made run (Some old) None ts g = absurd g

pub own_mine : (run : ℕ) (s : Step) (a : Answer) (m : After) (past : List Event) → own run (Act run s a m ∷ past) ≡ did s a ∷ own run past
unfolding own
own_mine run s a m past = rw (num_same run) refl

abbrev pub AllOther : ℕ → List Event → Type 0
AllOther run [] = Unit {0}
AllOther run (e ∷ es) = IsOther run e × AllOther run es

pub own_others : (run : ℕ) (es : List Event) → AllOther run es → own run (reverse es) ≡ []
unfolding own
own_others run [] o = refl
own_others run (e ∷ es) o = own_turned run e es ∙ (ap (λ t. t ++ deed_of run e) (own_others run es o.1) ∙ deed_other run e o.0)
