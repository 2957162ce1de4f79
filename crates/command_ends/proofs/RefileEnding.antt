-- How a command ends whose words name `refile`, and what shows it; and that it says nothing.
use Rattle.std.proofs.Common.{◌≡◌, ◌≢◌, ◌<◌, ◌^◌, ◌∷◌, [], ℕ, List, Some, Result, Ok, Err, inl, inr, refl, sym, subst}
use Rattle.std.specs.Prelude.{map}
use Rattle.std.specs.Str.{chars}
use Rattle.mh_profile.specs.declared.named_value.NamedValue.{NamedValue}
use Rattle.folder_files.specs.Deeds.{Deed}
use Rattle.folder_files.specs.declared.place.Place.TheVariants.{Folder, Mail}
use Rattle.folder_files.specs.declared.step.Answer.{Answer}
use Rattle.file_plans.specs.Text.{said_of}
use Rattle.file_plans.specs.Plan.{Hand, converted, fresh}
use Rattle.file_plans.specs.Rules.{IfOkay, Keeps, Rules}
use Rattle.file_plans.specs.Runs as runs
use Rattle.file_plans.specs.Runs.{Exit, OutFailed, Returned, Runs}
use Rattle.file_plans.proofs.Acting.{acts}
use Rattle.file_plans.proofs.Keeping.{run_keeps}
use Rattle.step_plans.specs.Hands.{knowing}
use Rattle.step_plans.specs.declared.command_fault.CommandFault.{CommandFault}
use Rattle.step_plans.proofs.Coming.{NoneFailed}
use Rattle.opening_plans.specs.Endings.{IsToldBy}
use Rattle.opening_plans.proofs.Speaking.{run_speaks, speaking}
use Rattle.refile_plans.specs.Refile.{refile}
use Rattle.refile_plans.specs.RefileAnswers.{IsEndedFirst, ShowsRefile}
use Rattle.refile_plans.specs.RefilePledge.{refile_pledge}
use Rattle.refile_plans.specs.declared.job.RefileJob.{RefileJob}
use Rattle.refile_plans.proofs.RefileEnds.{RefileEndsSo, refile_ends}
use Rattle.refile_plans.proofs.RefilePledged.{EndsRefiled, refile_keeps as refile_pledged}
use Rattle.refile_plans.proofs.ShownFirst.{ended_first, first_more}
use Rattle.command_words.specs.Ended.{plain}
use Rattle.folder_words.specs.RefileWords.{refile_said}
use Rattle.command_words.specs.declared.ended.Ended.{Ended}
use Rattle.command_ends.specs.BegunCauses.{ShowsEarly, ShowsFault, ShowsOnFolder, ShowsRefiling, long_entries}
use Rattle.command_plans.specs.Command.{by_words, command, command_by, refile_begun, refile_job, word_by}
use Rattle.command_plans.specs.CommandNames.{command_of, named}
use Rattle.command_plans.specs.Profile.{entries_by, path_of}
use Rattle.command_plans.specs.declared.name.CommandName.TheVariants.{Refile}
use Rattle.command_plans.specs.declared.caller.Caller.{Caller}
use Rattle.command_ends.proofs.BegunEnding.{early, refused_shown, said_on}
use Rattle.command_ends.proofs.Begins.{command_keeps, folder_then, words_keep}
use Rattle.command_ends.proofs.BegunParts.{Behind, after_context, after_profile, begun_clean, behind_kept, held_none, none_told, put_none, quietly_keeps, taken_none}
use Rattle.command_plans.proofs.Refusals.{refile_refuses}
use Rattle.command_ends.proofs.WordEnding.{refusal_of, refused_by}

module _ (run : ℕ) (few : run < 2 ^ 128) (caller : Caller) (words_ : List (List ℕ)) where
  abbrev Shows : CommandFault → List Deed → Type 0
  Shows e own = ShowsFault run caller words_ e own

  -- nothing may be said
  abbrev Silence : Rules
  Silence = speaking none_told

  -- how the command ends: nothing was said, and own steps show that it is done, or its fault
  abbrev pub EndsFirst : List runs.Deed → Hand → Result Unit Ended → Type 0
  EndsFirst past h (Ok u) = (said_of past ≡ []) × ShowsOnFolder run caller words_ (Ok []) (acts past)
  EndsFirst past h (Err x) = (said_of past ≡ []) × IsEndedFirst Shows x.fault (acts past)

  -- the same of a plan whose faults speak of no word
  abbrev Plainly : List runs.Deed → Hand → Result Unit CommandFault → Type 0
  Plainly past h r = EndsFirst past h (converted plain r)

  -- an end before the command came to a folder
  early_first : (e : CommandFault) (own : List Deed) → ShowsEarly e own → NoneFailed own → IsEndedFirst Shows e own
  early_first e own s clean = ended_first Shows e own (early run few caller words_ e own s clean)

  -- the profile was read
  module _ (a : Answer) where
    abbrev profile : List NamedValue
    profile = entries_by a

    abbrev path : List ℕ
    path = path_of profile

    -- so the command ends that came to its folder
    refiled_keeps : (past : List runs.Deed) (b : Answer) → acts past ≡ after_context path a b → NoneFailed (acts past) → said_of past ≡ [] → (job : RefileJob) → ((r : Result (List ℕ) CommandFault) (own : List Deed) → Behind a b own × ShowsRefiling run path job r own → ShowsOnFolder run caller words_ r own)
        → Keeps Silence past (knowing (entries_by b) fresh) (refile run path job) Plainly
    refiled_keeps past b is clean silent job on =
        let here = begun_clean run a b past is clean in
        let held = held_none run a b past is clean job.source in
        let known = knowing (entries_by b) fresh in
        quietly_keeps run a b past is clean none_told (refile_pledge run path job) (λ now_ piece f. f) silent (refile run path job) (IfOkay (EndsRefiled run few path job (acts past))) (RefileEndsSo run path job (Behind a b)) Plainly
        (refile_pledged run few path job past known held (record { numbered = here.numbered; unfailed = here.unfailed }))
        (refile_ends run few path job (Behind a b) (behind_kept a b) past known clean here (put_none run a b past is clean (Mail path)) (λ x n t. taken_none run a b past is clean (Folder path job.source) x n t) held ([], is)) so
      where
        so : (later : List runs.Deed) (i : Hand) (r : Result Unit CommandFault) → said_of later ≡ [] → IfOkay (EndsRefiled run few path job (acts past)) later i r → RefileEndsSo run path job (Behind a b) later i r → Plainly later i r
        so later i (Ok u) none p s = (none, on (Ok []) (acts later) (s.0, (s.1, refl)))
        so later i (Err e) none p s = (none, first_more (λ k own. Behind a b own × ShowsRefile run path job k own) Shows (λ k own f. inr (inr (on (Err k) own f))) e (acts later) s)

    module _ (past : List runs.Deed) (is : acts past ≡ after_profile a) (clean : NoneFailed (acts past)) (silent : said_of past ≡ []) where
      -- the command by its words, refused or not
      by_refile : (word : List ℕ) (rest : List (List ℕ)) → words_ ≡ word ∷ rest → named word ≡ Some Refile → Keeps Silence past fresh (by_words (refile_begun run profile) (refile_said profile (map chars rest))) EndsFirst
      unfolding refile_begun
      by_refile word rest is_words name =
          words_keep none_told EndsFirst a past is clean silent (refile_begun run profile) (refile_said profile (map chars rest))
          (λ said e. folder_then none_told EndsFirst a past is clean silent said.source (λ folder. refile run path (refile_job folder said profile)) (λ later j x none unfailed s. (none, early_first x (acts later) s unfailed))
          (λ later b folder at there unfailed none. refiled_keeps later b at unfailed none (refile_job folder said profile)
          (λ r own f. said_on run few caller words_ a word rest is_words (Some Refile) name (refile_said profile (map chars rest)) said e (λ w. w.source) (λ w. ShowsRefiling run path (refile_job folder w profile) r own) b folder r own (λ s. s) there f)))
          (λ x e. (
            silent,
            ended_first Shows x.fault (acts past)
                (refused_shown run few caller words_ a x past is (refile_refuses profile (map chars rest) x e) (refused_by caller words_ a word rest is_words (Some Refile) name x.fault (refusal_of (refile_said profile (map chars rest)) x e)) clean),
          ))

      by_line : (words : List (List ℕ)) → words_ ≡ words → command_of words ≡ Some Refile → Keeps Silence past fresh (command_by run caller profile words) EndsFirst
      by_line [] is_words name = cc (name)
      by_line (word ∷ rest) is_words name = subst (λ n. Keeps Silence past fresh (word_by run caller profile word rest n) EndsFirst) (sym name) (by_refile word rest is_words name)

  -- a command whose words name `refile`: how it ends, and what shows it
  refile_ends_by : command_of words_ ≡ Some Refile → Keeps Silence [] fresh (command run caller words_) EndsFirst
  refile_ends_by refiles =
      command_keeps none_told EndsFirst run caller words_ (λ past h x silent clean s. (silent, early_first x.fault (acts past) (long_entries s) clean)) (λ a past is clean silent. by_line a past is clean silent words_ refl refiles)

  -- so does each run of it
  pub run_refile_ends_by : command_of words_ ≡ Some Refile → (ds : List runs.Deed) (j : Hand) (r : Result Unit Ended) → Runs (command run caller words_) fresh ds j (Returned r) → EndsFirst ds j r
  run_refile_ends_by refiles ds j r f = (run_keeps Silence [] fresh (command run caller words_) ds j (Returned r) EndsFirst (refile_ends_by refiles) f).gave

  -- and it says nothing however it ends; and its output never fails
  pub run_refile_silent : command_of words_ ≡ Some Refile → (ds : List runs.Deed) (j : Hand) (x : Exit (Result Unit Ended)) → Runs (command run caller words_) fresh ds j x → (said_of ds ≡ []) × (x ≡ OutFailed → ⊥)
  run_refile_silent refiles ds j x f = go (run_speaks none_told (command run caller words_) fresh ds j x EndsFirst (refile_ends_by refiles) f)
    where
      nothing : IsToldBy none_told (said_of ds) (acts ds) → said_of ds ≡ []
      nothing (inl none) = none
      nothing (inr t) = absurd t.1

      go : IsToldBy none_told (said_of ds) (acts ds) × (x ≡ OutFailed → (text : List ℕ) × none_told text (acts ds) × (text ≢ [])) → (said_of ds ≡ []) × (x ≡ OutFailed → ⊥)
      go told = (nothing told.0, λ e. absurd (told.1 e).1)
