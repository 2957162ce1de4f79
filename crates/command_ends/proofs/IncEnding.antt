-- How `inc` ends that has read the profile and the context, what shows it, and what it says.
use Rattle.std.proofs.Common.{◌≡◌, ◌<◌, ◌^◌, [], ℕ, List, Result, Ok, sym, ◌∙◌, subst}
use Rattle.mh_profile.specs.declared.named_value.NamedValue.{NamedValue}
use Rattle.folder_files.specs.Deeds.{Deed, Once}
use Rattle.folder_files.specs.declared.place.Place.TheVariants.{Folder, Mail}
use Rattle.folder_files.specs.declared.step.Answer.{Answer}
use Rattle.file_plans.specs.Text.{said_of}
use Rattle.file_plans.specs.Plan.{Hand, fresh}
use Rattle.file_plans.specs.Rules.{IfOkay, Keeps}
use Rattle.file_plans.specs.Runs as runs
use Rattle.file_plans.proofs.Acting.{acts}
use Rattle.file_plans.proofs.Framing.{AnyStep}
use Rattle.step_plans.specs.Endings.{IsTakenAway}
use Rattle.step_plans.specs.Hands.{knowing}
use Rattle.step_plans.specs.Pledges.{Pledge}
use Rattle.step_plans.specs.declared.command_fault.CommandFault.{CommandFault}
use Rattle.step_plans.proofs.Coming.{NoneFailed, anything}
use Rattle.step_plans.proofs.Lasting.{KeptBy}
use Rattle.message_lines.specs.MessageText.{Writing}
use Rattle.message_lines.specs.declared.standing.Standing.{Standing}
use Rattle.opening_plans.specs.Endings.{PutsNone}
use Rattle.opening_plans.proofs.EndedKept.{Still, keeps_more}
use Rattle.opening_plans.proofs.Speaking.{keeps_both, speaking}
use Rattle.opening_plans.proofs.WorkEnds.{EndsBeside}
use Rattle.message_puts.proofs.FirstPuts.{AreOnce}
use Rattle.inc_plans.specs.Inc.{inc}
use Rattle.inc_plans.specs.IncAnswers.{HasTakenMail, ShowsInc, IsTextOfNew, nothing}
use Rattle.inc_plans.specs.IncPledge.{inc_pledge}
use Rattle.inc_plans.specs.IncJob.{IncJob}
use Rattle.inc_plans.proofs.IncEnds.{inc_ends}
use Rattle.inc_plans.proofs.IncPledged.{inc_keeps}
use Rattle.inc_plans.proofs.IncSays.{HasTold, TellsSo, says}
use Rattle.command_plans.specs.Incorporating.{IncAsked, job_writing}
use Rattle.command_plans.specs.Looking.{WritesAs, written_by}
use Rattle.command_plans.specs.Profile.{entries_by, path_of}
use Rattle.command_ends.proofs.BegunParts.{Behind, after_context, behind_kept, clean_looked, none_put_looked, none_taken_looked}
use Rattle.command_plans.proofs.LookFound.{acts_looked, look_behind, look_deeds, look_writes, looked_once, writes_kept}
use Rattle.command_plans.proofs.FirstReadings.{two_once, two_readings}

module _ (run : ℕ) (few : run < 2 ^ 128) (a : Answer) (asked : IncAsked) (b : Answer) (spoken : Standing → Writing) where
  abbrev profile : List NamedValue
  profile = entries_by a

  abbrev path : List ℕ
  path = path_of profile

  abbrev job : IncJob
  job = job_writing asked spoken

  abbrev w : Pledge
  w = inc_pledge run path job

  -- behind both readings, and that of the file of a format
  abbrev pub BehindLook : List Deed → Type 0
  BehindLook own = Behind a b own × WritesAs asked.telling spoken own

  pub look_kept : KeptBy AnyStep BehindLook
  look_kept own s x any f = (behind_kept a b own s x any f.0, writes_kept asked.telling spoken own s x any f.1)

  -- what it says of new messages
  abbrev pub ToldSo : List ℕ → List Deed → Type 0
  ToldSo text own = TellsSo run path job BehindLook look_kept text own

  -- how it ends
  abbrev pub TakesIn : List runs.Deed → Hand → Result Unit CommandFault → Type 0
  TakesIn later i r = ToldSo (said_of later) (acts later) × EndsBeside (ShowsInc run path job) BehindLook (HasTakenMail run path job) later i r

  module _ (past : List runs.Deed) (j : Hand) (c : Answer) (is : acts past ≡ look_deeds asked.telling c (after_context path a b)) (written : written_by asked.telling c ≡ Ok spoken) (first : j ≡ knowing (entries_by b) fresh) (clean : NoneFailed (acts past)) (silent : said_of past ≡ []) where
    begun : BehindLook (acts past)
    begun =
        let behind = look_behind asked.telling c (after_context path a b) in
        ((behind.0, is ∙ behind.1), subst (WritesAs asked.telling spoken) (sym is) (look_writes asked.telling c (after_context path a b) spoken written))

    told : HasTold run path job BehindLook look_kept past
    told = (begun, subst (λ text. IsTextOfNew run path job (acts past) text) (sym silent) nothing)

    once : AreOnce run (acts past)
    once = subst (λ o. AreOnce run o) (sym (is ∙ sym (acts_looked asked.telling c (two_readings profile a b)))) (looked_once w asked.telling c (two_readings profile a b) (two_once w profile a b))

    pub inc_comes : Keeps (speaking ToldSo) past j (inc run path job) TakesIn
    inc_comes =
        let here = clean_looked a run b asked.telling c (acts past) j is first clean in
        keeps_both (speaking ToldSo) anything past j (inc run path job) (λ later i r. ToldSo (said_of later) (acts later)) (EndsBeside (ShowsInc run path job) BehindLook (HasTakenMail run path job))
        (only_told (says run path job BehindLook look_kept past j (inc run path job) (IfOkay (Still (acts past))) told (inc_keeps run few path job past j once (record { numbered = here.numbered; unfailed = here.unfailed }))))
        (inc_ends run few path job BehindLook look_kept past j clean here (subst (PutsNone (Mail path)) (sym is) (none_put_looked (Mail path) path a b asked.telling c))
        (λ x n t. none_taken_looked (Folder path asked.folder) path a b asked.telling c x n (subst (λ o. Once (λ d older. IsTakenAway (Folder path asked.folder) x d) o) is t)) begun)
      where
        only_told : Keeps (speaking ToldSo) past j (inc run path job) (λ later i r. HasTold run path job BehindLook look_kept later × IfOkay (Still (acts past)) later i r)
            → Keeps (speaking ToldSo) past j (inc run path job) (λ later i r. ToldSo (said_of later) (acts later))
        only_told f = keeps_more (speaking ToldSo) past j (inc run path job) (λ later i r. HasTold run path job BehindLook look_kept later × IfOkay (Still (acts past)) later i r) (λ later i r. ToldSo (said_of later) (acts later)) (λ later i r q. q.0) f
