-- Parts of a plan that look: what they leave of a run's deeds as it was.
use Rattle.std.proofs.Common.{◌≡◌, ℕ, List, [], ◌∷◌, Result, Ok, Err, refl}
use Rattle.mh_base.specs.Entries.{entry_text}
use Rattle.mh_base.specs.declared.entry.Entry.TheVariants.{Number}
use Rattle.folder_files.specs.Careful.{IsLook}
use Rattle.folder_files.specs.Deeds.{Deed, did, now, on}
use Rattle.folder_files.specs.declared.place.Place.{Place}
use Rattle.folder_files.specs.declared.refusal.Refusal.TheVariants as refusal
use Rattle.folder_files.specs.declared.step.Step.{Step}
use Rattle.folder_files.specs.declared.step.Step.TheVariants as step
use Rattle.folder_files.specs.declared.step.Answer.{Answer}
use Rattle.folder_files.specs.declared.step.Answer.TheVariants as answer
use Rattle.file_plans.specs.Plan.{Hand, Plan, Return, Recall, bind, after, ◌>>=◌}
use Rattle.step_plans.specs.CommandFaults.{of_stop, of_sink}
use Rattle.step_plans.specs.ContextCommit.{LIMIT_BYTES}
use Rattle.step_plans.specs.Finished.{OnlyLooked}
use Rattle.step_plans.specs.Pledges.{Pledge}
use Rattle.step_plans.specs.Settled.{AreSettled}
use Rattle.step_plans.specs.declared.command_fault.CommandFault.TheVariants as fault
use Rattle.step_plans.proofs.Facts.{LeavesSettled, settled_kept}
use Rattle.step_plans.proofs.Going.{Outcome, okay, Goes, goes_then, goes_more, okay_more}
use Rattle.step_plans.proofs.Stepping.{goes_list, goes_read, goes_say, goes_end, goes_return}
use Rattle.command_stages.specs.Listed.{names_by, folder_listed}
use Rattle.command_stages.specs.Texts.{text_by, text_read, too_large}
use Rattle.message_lines.specs.MessageText.{line_of, Writing}
use Rattle.mh_looks.specs.Scan.{shown_by, one_shown, all_shown}
use Rattle.mh_looks.specs.ScanPledge.{HasListed}

look_leaves : (s : Step) → IsLook s → LeavesSettled s
look_leaves (step.List p) l = tt
look_leaves (step.Read p n limit) l = tt
look_leaves (step.MakeFolder p) l = absurd l
look_leaves (step.Create p n b) l = absurd l
look_leaves (step.SyncFile p n) l = tt
look_leaves (step.SyncFolder p) l = tt
look_leaves (step.Link p a b) l = absurd l
look_leaves (step.Rename p a b) l = absurd l
look_leaves (step.Unlink p a) l = absurd l
look_leaves (step.Lock p) l = tt
look_leaves (step.Unlock p) l = tt
look_leaves (step.ReadFile f limit) l = tt
look_leaves (step.ReadDrop f from most) l = tt
look_leaves (step.CutDrop f n) l = absurd l

-- what was so of the deeds is so of these
pub record Looked (own later : List Deed) : Type 0 where
  pub looked : OnlyLooked own → OnlyLooked later
  pub settled : AreSettled own → AreSettled later
  pub listed : (p : Place) → HasListed p own → HasListed p later

pub none_looked : (own : List Deed) → Looked own own
none_looked own = record { looked = λ f. f; settled = λ f. f; listed = λ p f. f }

pub one_looked : (own : List Deed) (s : Step) (a : Answer) → IsLook s → Looked own (did s a ∷ own)
one_looked own s a l = record { looked = λ f. (l, f); settled = λ f. settled_kept own s a (look_leaves s l) f; listed = λ p f. on f }

pub more_looked : (own later last : List Deed) → Looked own later → Looked later last → Looked own last
more_looked own later last f g = record { looked = λ x. g.looked (f.looked x); settled = λ x. g.settled (f.settled x); listed = λ p x. g.listed p (f.listed p x) }

-- a part that looks
abbrev pub Looks : {A : Type 0} → List Deed → Outcome A
Looks own later j a = Looked own later

-- the hand as it is, and then the rest
pub goes_recall : {A B E : Type 0} (w : Pledge) (own : List Deed) (h : Hand) (next : Hand → Plan (Result A E)) (k : A → Plan (Result B E)) (Q : Outcome (Result B E))
    → Goes w own h (next h >>= k) Q → Goes w own h (Recall next >>= k) Q
unfolding Goes bind ◌>>=◌
goes_recall w own h next k Q f = λ s. f

-- where the hand chooses a result
pub goes_chosen : {A B E : Type 0} (w : Pledge) (own : List Deed) (h : Hand) (choose : Hand → Result A E) (k : A → Plan (Result B E)) (Q : Outcome B) →
    ((a : A) → choose h ≡ Ok a → Goes w own h (k a) (okay Q)) → Goes w own h (Recall (λ i. Return (choose i)) >>= k) (okay Q)
unfolding Goes bind ◌>>=◌
goes_chosen {A = A} {E = E} w own h choose k Q f = λ s. go (choose h) refl
  where
    go : (r : Result A E) → choose h ≡ r → Goes w own h (after k r) (okay Q)
    go (Ok a) e = f a e
    go (Err x) e = tt

module _ (w : Pledge) (tells : (own : List Deed) (piece : List ℕ) → w.may_tell own piece) where
  -- the folder was listed
  abbrev pub Lists : Place → List Deed → Outcome (List (List ℕ))
  Lists place own later j names = Looked own later × HasListed place later

  pub listed_goes : (own : List Deed) (h : Hand) (place : Place) (folder : List ℕ) → Goes w own h (folder_listed place folder) (okay (Lists place own))
  unfolding folder_listed
  listed_goes own h place folder =
      goes_list w own h of_stop (okay (Lists place own)) place (names_by folder)
      (λ names. goes_return w _ h names (okay (Lists place own)) (one_looked own (step.List place) (answer.Names names) tt, now (names, refl)))
      (goes_end w _ h (fault.Refused (refusal.NoFolder folder)) (Lists place own))

  pub text_goes : (own : List Deed) (h : Hand) (place : Place) (name : List ℕ) → Goes w own h (text_read place name) (okay (Looks own))
  unfolding text_read
  text_goes own h place name =
      goes_read w own h of_stop (okay (Looks own)) place name LIMIT_BYTES text_by
      (λ bytes. goes_return w _ h bytes (okay (Looks own)) (one_looked own (step.Read place name LIMIT_BYTES) (answer.Content bytes) tt))
      (λ l. goes_end w _ h (too_large l) (Looks own))
      (goes_return w _ h [] (okay (Looks own)) (one_looked own (step.Read place name LIMIT_BYTES) answer.Gone tt))

  pub one_goes : (lined : Writing) (own : List Deed) (h : Hand) (place : Place) (n : ℕ) → Goes w own h (one_shown lined place n) (okay (Looks own))
  unfolding one_shown
  one_goes lined own h place n =
      goes_read w own h of_stop (okay (Looks own)) place (entry_text (Number n)) LIMIT_BYTES (shown_by lined place n)
      (λ bytes. goes_say w _ h of_sink (okay (Looks own)) (line_of lined n bytes) _ (λ s. tells _ (line_of lined n bytes)) (goes_return w _ h tt (okay (Looks own)) (one_looked own (step.Read place (entry_text (Number n)) LIMIT_BYTES) (answer.Content bytes) tt)))
      (λ l. goes_end w _ h (too_large l) (Looks own))
      (goes_end w _ h (fault.Meddled place (entry_text (Number n))) (Looks own))

  pub all_goes : (lined : Writing) (own : List Deed) (h : Hand) (place : Place) (ns : List ℕ) → Goes w own h (all_shown lined place ns) (okay (Looks own))
  unfolding all_shown
  all_goes lined own h place [] = goes_return w own h tt (okay (Looks own)) (none_looked own)
  all_goes lined own h place (n ∷ ns) =
      goes_then w own h (one_shown lined place n) (λ shown. all_shown lined place ns) (Looks own) (Looks own) (one_goes lined own h place n)
      (λ later j u f. goes_more w later j (all_shown lined place ns) (okay (Looks later)) (okay (Looks own)) (okay_more (Looks later) (Looks own) (λ last i v g. more_looked own later last f g)) (all_goes lined later j place ns))
