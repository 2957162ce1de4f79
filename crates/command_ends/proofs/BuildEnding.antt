-- How a `mhbuild` ends, what shows it, and what it says.
use Rattle.std.proofs.Common.{◌≡◌, ◌≢◌, inl, inr, ◌<◌, ◌^◌, ◌∷◌, [], ℕ, List, Option, None, Some, Result, Ok, Err, refl, sym, subst, map}
use Rattle.std.specs.Str.{chars}
use Rattle.mh_profile.specs.Reading.{entries_seen}
use Rattle.mh_profile.specs.declared.named_value.NamedValue.{NamedValue}
use Rattle.folder_files.specs.Careful.{WasMade}
use Rattle.folder_files.specs.Deeds.{Deed, HasFailed}
use Rattle.folder_files.specs.declared.place.Place.TheVariants.{Work}
use Rattle.folder_files.specs.declared.step.Answer.{Answer}
use Rattle.file_plans.specs.Plan.{Hand, Recall, converted, fresh}
use Rattle.file_plans.specs.Rules.{IfOkay, Keeps, Rules}
use Rattle.file_plans.specs.Runs as runs
use Rattle.file_plans.specs.Runs.{Exit, OutFailed, Returned, Runs}
use Rattle.file_plans.specs.Text.{said_of}
use Rattle.file_plans.proofs.Acting.{acts}
use Rattle.file_plans.proofs.Keeping.{run_keeps}
use Rattle.step_plans.specs.Hands.{knowing, temp_name}
use Rattle.step_plans.specs.declared.command_fault.CommandFault.{CommandFault}
use Rattle.step_plans.proofs.Coming.{NoneFailed, OfActs, anything}
use Rattle.step_plans.proofs.Ruling.{rules_of}
use Rattle.command_stages.specs.Texts.{Commanded}
use Rattle.opening_plans.specs.Endings.{IsToldBy}
use Rattle.opening_plans.proofs.CleanRuns.{Clean}
use Rattle.opening_plans.proofs.EndedKept.{keeps_more}
use Rattle.opening_plans.proofs.Speaking.{keeps_both, run_speaks, speaking, speaks_more}
use Rattle.mhbuild_plans.specs.BuildDone.{HasBuilt}
use Rattle.mhbuild_plans.specs.BuildPledge.{build_pledge}
use Rattle.mhbuild_plans.specs.Building.{mhbuild}
use Rattle.mhbuild_plans.specs.declared.job.BuildJob.{BuildJob}
use Rattle.mhbuild_plans.proofs.BuildEnds.{Built, build_ends}
use Rattle.mhbuild_plans.proofs.BuildPledged.{build_keeps}
use Rattle.mhbuild_plans.proofs.BuildSays.{SaysSo, Tells, build_says}
use Rattle.mhbuild_plans.proofs.Unlocked.{IsUnlocked, not_locked, refused_unlocked}
use Rattle.build_words.specs.BuildWords.{build_said}
use Rattle.build_words.specs.declared.words.BuildWords.{BuildWords}
use Rattle.build_words.proofs.Said.{IsDraft, build_refuses, build_valid}
use Rattle.command_words.specs.Ended.{plain}
use Rattle.command_words.specs.declared.ended.Ended.{Ended}
use Rattle.command_ends.specs.BuildCauses.{BuildsBy, SaysBuilt, ShowsBuildFault, ShowsBuilding, ShowsBuilt, TellsBuilt}
use Rattle.command_ends.specs.Causes.{ShowsLongEntries, long_context, long_profile}
use Rattle.command_plans.specs.Command.{build_begun, build_job, command, command_by, word_by}
use Rattle.command_plans.specs.CommandNames.{command_of, named}
use Rattle.command_plans.specs.Profile.{entries_by, path_of}
use Rattle.command_ends.specs.WordCauses.{IsRefusedByWords, OfSaid}
use Rattle.command_plans.specs.declared.name.CommandName.TheVariants.{Mhbuild}
use Rattle.command_plans.specs.declared.caller.Caller.{Caller}
use Rattle.command_ends.proofs.BegunParts.{Behind, Later, after_context, after_profile, begun_clean, behind_kept, later_keeps, made_none}
use Rattle.command_ends.proofs.Begins.{command_keeps, context_then, words_keep}
use Rattle.command_ends.proofs.WordEnding.{refusal_of, refused_by}

-- what is too long is no lock
long_unlocked : (e : CommandFault) (own : List Deed) → ShowsLongEntries e own → IsUnlocked e
long_unlocked _ _ long_profile = tt
long_unlocked _ _ long_context = tt

module _ (run : ℕ) (few : run < 2 ^ 128) (caller : Caller) (words_ : List (List ℕ)) where
  abbrev Shows : CommandFault → List Deed → Type 0
  Shows e own = ShowsBuildFault run caller words_ e own

  abbrev Spoken : List ℕ → List Deed → Type 0
  Spoken text own = TellsBuilt run words_ text own

  abbrev Speech : Rules
  Speech = speaking Spoken

  -- its fault is shown, no step failed, and it is no lock
  pub record StopsBuilt (e : CommandFault) (own : List Deed) : Type 0 where
    pub shows : Shows e own
    pub clean : NoneFailed own
    pub unlocked : IsUnlocked e

  -- how the command ends: own steps show that it is done with what it said, or its fault
  abbrev pub EndsBuilt : List runs.Deed → Hand → Result Unit Ended → Type 0
  EndsBuilt past h (Ok u) = ShowsBuilt run words_ (Ok (said_of past)) (acts past)
  EndsBuilt past h (Err x) = StopsBuilt x.fault (acts past)

  abbrev Plainly : List runs.Deed → Hand → Result Unit CommandFault → Type 0
  Plainly past h r = EndsBuilt past h (converted plain r)

  early : (e : CommandFault) (own : List Deed) → ShowsLongEntries e own → NoneFailed own → StopsBuilt e own
  early e own s clean = record { shows = inr (inl s); clean = clean; unlocked = long_unlocked e own s }

  -- the profile was read
  module _ (a : Answer) where
    abbrev profile : List NamedValue
    profile = entries_by a

    abbrev path : List ℕ
    path = path_of profile

    -- and the context, by words of `mhbuild` that are not refused
    module _ (word : List ℕ) (rest : List (List ℕ)) (is_words : words_ ≡ word ∷ rest) (name : named word ≡ Some Mhbuild) (words : BuildWords) (said : build_said profile (map chars rest) ≡ Ok words)
        (past : List runs.Deed) (b : Answer) (is : acts past ≡ after_context path a b) (clean : NoneFailed (acts past)) (silent : said_of past ≡ []) where
      abbrev j : Hand
      j = knowing (entries_by b) fresh

      abbrev job : BuildJob
      job = build_job words (entries_by b) profile

      abbrev plan : Commanded Unit
      plan = mhbuild run path job

      valid : IsDraft words.draft
      valid = build_valid profile (map chars rest) words said

      names_job : BuildsBy profile (entries_by b) words_ job
      names_job =
          subst (λ ws. BuildsBy profile (entries_by b) ws job) (sym is_words) (name, subst (λ m. OfSaid m (λ w. job ≡ build_job w (entries_by b) profile)) (sym said) refl)

      begins : Clean run (acts past) j
      begins = begun_clean run a b past is clean

      unmade : WasMade Work (temp_name run j.next) (acts past) → ⊥
      unmade w = made_none run a b past is clean Work (temp_name run j.next) w

      spoken : (text : List ℕ) (own : List Deed) → Tells run few path job valid j (Behind a b) (behind_kept a b) text own → Spoken text own
      spoken text own t = record { profile = a; context = b; newer = t.0.0; begun = t.0.1; holds = (job, names_job, t.1, t.2) }

      built_on : (r : Result (List ℕ) CommandFault) (own : List Deed) → Behind a b own → ShowsBuilding run path job (entries_by b) r own → ShowsBuilt run words_ r own
      built_on r own f s = record { profile = a; context = b; newer = f.0; begun = f.1; holds = (job, names_job, s) }

      abbrev Says : List runs.Deed → Hand → Result Unit CommandFault → Type 0
      Says later i r = SaysSo run few path job valid j (Behind a b) (behind_kept a b) job.draft later i r

      abbrev Ends : List runs.Deed → Hand → Result Unit CommandFault → Type 0
      Ends later i r = OfActs (Later a b (Built run few path job valid j)) later i r

      abbrev Places : List runs.Deed → Hand → Result Unit CommandFault → Type 0
      Places later i r = IfOkay (λ last k u. HasBuilt run path job (acts past) (acts last) × (HasFailed (acts last) → ⊥)) later i r

      says : Keeps Speech past j plan Says
      says =
          speaks_more (Tells run few path job valid j (Behind a b) (behind_kept a b)) Spoken spoken past j plan Says
          (build_says run few path job valid j (Behind a b) (behind_kept a b) past silent ([], is) unmade)

      ends : Keeps anything past j plan Ends
      ends = later_keeps run a b past is clean plan (Built run few path job valid j) (build_ends run few path job valid j (acts past) unmade)

      places : Keeps (rules_of (build_pledge run path job)) past j plan Places
      places = build_keeps run few path job valid past j (record { numbered = begins.numbered; unfailed = begins.unfailed })

      says_built : (d : Option (List ℕ)) (later : List runs.Deed) (i : Hand) → SaysSo run few path job valid j (Behind a b) (behind_kept a b) d later i (Ok tt) → SaysBuilt run path job (said_of later) (acts later) d
      says_built None later i s = s
      says_built (Some name_) later i s = s

      built_keeps : Keeps Speech past j plan Plainly
      built_keeps =
          keeps_more Speech past j plan (λ later i r. (Says later i r × Ends later i r) × Places later i r) Plainly more
          (keeps_both Speech (rules_of (build_pledge run path job)) past j plan (λ later i r. Says later i r × Ends later i r) Places (keeps_both Speech anything past j plan Says Ends says ends) places)
        where
          more : (later : List runs.Deed) (i : Hand) (r : Result Unit CommandFault) → (Says later i r × Ends later i r) × Places later i r → Plainly later i r
          more later i (Ok tt) q = built_on (Ok (said_of later)) (acts later) q.0.1.1.0 (q.1.0.placed, says_built job.draft later i q.0.0)
          more later i (Err e) q = record {
            shows = inr (inr (built_on (Err e) (acts later) q.0.1.1.0 q.0.1.1.1));
            clean = q.0.1.0;
            unlocked = not_locked run path job (entries_by b) 0 e (acts later) q.0.1.1.1;
          }

      -- as the plan goes on by what its hand has seen
      recalled_keeps : Keeps Speech past j (Recall (λ h. mhbuild run path (build_job words (entries_seen h.context) profile))) Plainly
      unfolding Keeps
      recalled_keeps = built_keeps

    module _ (past : List runs.Deed) (is : acts past ≡ after_profile a) (clean : NoneFailed (acts past)) (silent : said_of past ≡ []) where
      -- what the words of `mhbuild` refuse
      build_refused : (word : List ℕ) (rest : List (List ℕ)) → words_ ≡ word ∷ rest → named word ≡ Some Mhbuild → (x : Ended) → build_said profile (map chars rest) ≡ Err x → StopsBuilt x.fault (acts past)
      build_refused word rest is_words name x said = record {
        shows = inl (subst (λ o. IsRefusedByWords caller words_ x.fault o) (sym is) (refused_by caller words_ a word rest is_words (Some Mhbuild) name x.fault (refusal_of (build_said profile (map chars rest)) x said)));
        clean = clean;
        unlocked = refused_unlocked x.fault (build_refuses profile (map chars rest) x said);
      }

      by_build : (word : List ℕ) (rest : List (List ℕ)) → words_ ≡ word ∷ rest → named word ≡ Some Mhbuild → Keeps Speech past fresh (word_by run caller profile word rest (Some Mhbuild)) EndsBuilt
      unfolding build_begun
      by_build word rest is_words name =
          words_keep Spoken EndsBuilt a past is clean silent (build_begun run profile) (build_said profile (map chars rest))
          (λ said e. context_then Spoken EndsBuilt a past is clean silent (Recall (λ h. mhbuild run path (build_job said (entries_seen h.context) profile))) (λ later i x none live s. early x (acts later) s live)
          (λ later b at live none. recalled_keeps word rest is_words name said e later b at live none))
          (λ x e. build_refused word rest is_words name x e)

      by_line : (words : List (List ℕ)) → words_ ≡ words → command_of words ≡ Some Mhbuild → Keeps Speech past fresh (command_by run caller profile words) EndsBuilt
      by_line [] is_words name = cc (name)
      by_line (word ∷ rest) is_words name = subst (λ n. Keeps Speech past fresh (word_by run caller profile word rest n) EndsBuilt) (sym name) (by_build word rest is_words name)

  -- a command whose words name `mhbuild`: how it ends, and what shows it
  build_ends_by : command_of words_ ≡ Some Mhbuild → Keeps Speech [] fresh (command run caller words_) EndsBuilt
  build_ends_by builds = command_keeps Spoken EndsBuilt run caller words_ (λ past h x silent clean s. early x.fault (acts past) s clean) (λ a past is clean silent. by_line a past is clean silent words_ refl builds)

  -- so does each run of it
  pub run_build_ends_by : command_of words_ ≡ Some Mhbuild → (ds : List runs.Deed) (j : Hand) (r : Result Unit Ended) → Runs (command run caller words_) fresh ds j (Returned r) → EndsBuilt ds j r
  run_build_ends_by builds ds j r f = (run_keeps Speech [] fresh (command run caller words_) ds j (Returned r) EndsBuilt (build_ends_by builds) f).gave

  -- and it says no more however it ends
  pub run_build_tells : command_of words_ ≡ Some Mhbuild → (ds : List runs.Deed) (j : Hand) (x : Exit (Result Unit Ended)) → Runs (command run caller words_) fresh ds j x
      → IsToldBy (TellsBuilt run words_) (said_of ds) (acts ds) × (x ≡ OutFailed → (text : List ℕ) × TellsBuilt run words_ text (acts ds) × (text ≢ []))
  run_build_tells builds ds j x f = run_speaks Spoken (command run caller words_) fresh ds j x EndsBuilt (build_ends_by builds) f
