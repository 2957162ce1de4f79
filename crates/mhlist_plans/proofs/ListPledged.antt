-- `mhlist` goes as it pledges.
use Rattle.std.proofs.Common.{◌≡◌, ◌<◌, ◌^◌, ◌∷◌, [], ℕ, List, Option, Some, None, Result, Ok, Err, refl, subst, sym}
use Rattle.mh_base.specs.Entries.{entry_text}
use Rattle.mh_base.specs.declared.entry.Entry.TheVariants.{Number, Sequences}
use Rattle.folder_files.specs.Deeds.{Deed}
use Rattle.folder_files.specs.declared.place.Place.{Place}
use Rattle.folder_files.specs.declared.place.Place.TheVariants.{Folder}
use Rattle.folder_files.specs.declared.step.Answer.TheVariants as answer
use Rattle.folder_files.specs.declared.step.Step.TheVariants as step
use Rattle.file_plans.specs.Follows.{Follows, State}
use Rattle.file_plans.specs.Plan.{Hand}
use Rattle.file_plans.specs.Rules.{IfOkay, Keeps}
use Rattle.file_plans.specs.Runs.{Deed as Done}
use Rattle.file_plans.proofs.Acting.{acts}
use Rattle.step_plans.specs.CommandFaults.{command_cause, of_stop}
use Rattle.step_plans.specs.ContextCommit.{LIMIT_BYTES}
use Rattle.step_plans.specs.Pledges.{Pledge}
use Rattle.step_plans.specs.Promises.{Promises}
use Rattle.step_plans.specs.Settled.{AreSettled}
use Rattle.step_plans.specs.declared.command_fault.CommandFault.{CommandFault}
use Rattle.step_plans.specs.declared.command_fault.CommandFault.TheVariants as fault
use Rattle.step_plans.proofs.Going.{ByActs, Goes, Outcome, Sound, Soundly, goes_keeps, goes_more, goes_then, okay, okay_more}
use Rattle.step_plans.proofs.Promising.{keeps_pledge}
use Rattle.step_plans.proofs.Ruling.{rules_of}
use Rattle.step_plans.proofs.Stepping.{goes_end, goes_read, goes_return}
use Rattle.command_stages.specs.Current.{made_current}
use Rattle.command_stages.specs.Listed.{folder_listed}
use Rattle.command_stages.specs.Texts.{text_read, too_large}
use Rattle.opening_plans.proofs.EndedKept.{Still, keeps_more}
use Rattle.mh_looks.specs.ScanPledge.{HasListed}
use Rattle.mh_looks.proofs.LooksLeave.{Lists, Looked, Looks, goes_chosen, listed_goes, more_looked, none_looked, one_looked, text_goes}
use Rattle.told_folders.proofs.ChangesPledged.{lines_go, noted_goes, sound_first}
use Rattle.part_rows.specs.Choices.{first_missing}
use Rattle.part_rows.specs.PartViews.{parts_of}
use Rattle.part_rows.specs.Rows.{header, rows_of}
use Rattle.mhlist_plans.specs.Listing.{all_listed, chosen_seen, header_said, listed_by, mhlist, no_part, one_listed, rows_said, said_unless}
use Rattle.mhlist_plans.specs.ListPledge.{list_pledge, task_of}
use Rattle.mhlist_plans.specs.declared.job.ListJob.{ListJob}
use Rattle.mh_profile.specs.Reading.{entries_seen}

module _ (w : Pledge) (tells : (own : List Deed) (piece : List ℕ) → w.may_tell own piece) where
  abbrev Stays : List Deed → Outcome Unit
  Stays own later j u = later ≡ own

  said_goes : (own : List Deed) (h : Hand) (wanted : List (List ℕ)) (n : ℕ) (bytes : List ℕ) (missing : Option (List ℕ)) → Goes w own h (said_unless wanted n bytes missing) (okay (Stays own))
  said_goes own h wanted n bytes None = lines_go w tells own h (rows_of n wanted bytes)
  said_goes own h wanted n bytes (Some path) = goes_end w own h (no_part path) (Stays own)

  rows_go : (own : List Deed) (h : Hand) (wanted : List (List ℕ)) (n : ℕ) (bytes : List ℕ) → Goes w own h (rows_said wanted n bytes) (okay (Stays own))
  rows_go own h wanted n bytes = said_goes own h wanted n bytes (first_missing wanted (parts_of bytes))

  one_goes : (wanted : List (List ℕ)) (own : List Deed) (h : Hand) (place : Place) (n : ℕ) → Goes w own h (one_listed wanted place n) (okay (Looks own))
  unfolding one_listed
  one_goes wanted own h place n =
      goes_read w own h of_stop (okay (Looks own)) place (entry_text (Number n)) LIMIT_BYTES (listed_by wanted place n)
      (λ bytes. goes_more w _ h (rows_said wanted n bytes) (okay (Stays _)) (okay (Looks own))
      (okay_more (Stays _) (Looks own) (λ later j u e. subst (Looked own) (sym e) (one_looked own (step.Read place (entry_text (Number n)) LIMIT_BYTES) (answer.Content bytes) tt))) (rows_go _ h wanted n bytes))
      (λ l. goes_end w _ h (too_large l) (Looks own))
      (goes_end w _ h (fault.Meddled place (entry_text (Number n))) (Looks own))

  pub all_goes : (wanted : List (List ℕ)) (own : List Deed) (h : Hand) (place : Place) (ns : List ℕ) → Goes w own h (all_listed wanted place ns) (okay (Looks own))
  unfolding all_listed
  all_goes wanted own h place [] = goes_return w own h tt (okay (Looks own)) (none_looked own)
  all_goes wanted own h place (n ∷ ns) =
      goes_then w own h (one_listed wanted place n) (λ listed. all_listed wanted place ns) (Looks own) (Looks own) (one_goes wanted own h place n)
      (λ later j u f. goes_more w later j (all_listed wanted place ns) (okay (Looks later)) (okay (Looks own)) (okay_more (Looks later) (Looks own) (λ last i v g. more_looked own later last f g)) (all_goes wanted later j place ns))

module _ (run : ℕ) (few : run < 2 ^ 128) (path : List ℕ) (job : ListJob) where
  abbrev v : Pledge
  v = list_pledge run path job

  abbrev at : Place
  at = Folder path job.folder

  abbrev any_tells : List Deed → List ℕ → Type 0
  any_tells own piece = Unit {0}

  tells_any : (own : List Deed) (piece : List ℕ) → v.may_tell own piece
  tells_any own piece = tt

  -- what was settled of commits stays so
  abbrev StillBy : List Deed → Outcome Unit
  StillBy own later j u = AreSettled own → AreSettled later

  noted_after : (own later : List Deed) (h : Hand) → (AreSettled own → AreSettled later) → HasListed at later → Goes v later h (made_current run path job.folder) (okay (StillBy own))
  noted_after own later h f listed =
      goes_more v later h (made_current run path job.folder) (okay (StillBy later)) (okay (StillBy own)) (okay_more (StillBy later) (StillBy own) (λ last j u g s. g (f s))) (noted_goes run few path (task_of job) any_tells later h listed)

  list_goes : (own : List Deed) (h : Hand) → Goes v own h (mhlist run path job) (okay (StillBy own))
  unfolding mhlist
  list_goes own h =
      goes_then v own h (folder_listed at job.folder) _ (Lists v tells_any at own) (StillBy own) (listed_goes v tells_any own h at job.folder) (λ later j names f.
      goes_then v later j (text_read at (entry_text Sequences)) _ (Looks later) (StillBy own) (text_goes v tells_any later j at (entry_text Sequences)) (λ next i text g.
      goes_chosen v next i (λ k. chosen_seen job names text (entries_seen k.context)) _ (StillBy own) (λ numbers is.
      goes_then v next i header_said _ (λ last k u. last ≡ next) (StillBy own) (lines_go v tells_any next i (header ∷ [])) (λ said k u e.
      goes_then v said k (all_listed job.parts at numbers) _ (Looks said) (StillBy own) (all_goes v tells_any job.parts said k at numbers) (λ last l u s.
      noted_after own last l (λ x. s.settled (subst AreSettled (sym e) (g.settled (f.0.settled x)))) (s.listed at (subst (HasListed at) (sym e) (g.listed at f.1))))))))

  looked_so : (own : List Deed) (past : List Done) (h : Hand) (r : Result Unit CommandFault) → Sound v (acts past) h → okay (StillBy own) (acts past) h r → IfOkay (Still own) past h r
  looked_so own past h (Ok u) s f = record { settled = f; unfailed = s.unfailed }
  looked_so own past h (Err e) s f = tt

  pub list_keeps : (past : List Done) (h : Hand) → Sound v (acts past) h → Keeps (rules_of v) past h (mhlist run path job) (IfOkay (Still (acts past)))
  list_keeps past h sound =
      keeps_more (rules_of v) past h (mhlist run path job) (ByActs (Soundly v (okay (StillBy (acts past))))) (IfOkay (Still (acts past))) (λ later j r q. looked_so (acts past) later j r q.0 q.1)
      (goes_keeps v past (acts past) h (mhlist run path job) (okay (StillBy (acts past))) refl sound (list_goes (acts past) h))

  pub list_promises : (x y : State) (result : Result Unit CommandFault) → Follows run command_cause (mhlist run path job) x y result → Promises v x y
  list_promises x y result f = keeps_pledge v command_cause (mhlist run path job) x y result (IfOkay (Still [])) (list_keeps [] x.hand (sound_first v x.hand)) f
