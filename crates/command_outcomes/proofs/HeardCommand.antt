-- A command, where this was heard of its input.
use Rattle.std.proofs.Common.{◌≡◌, ◌≢◌, ℕ, List, [], ◌∷◌, Option, None, Some, Result, Ok, Err, inl, inr, refl, sym, ◌∙◌, subst, map}
use Rattle.std.specs.Str.{chars}
use Rattle.mh_profile.specs.Reading.{entries_in, entries_seen}
use Rattle.mh_profile.specs.declared.named_value.NamedValue.{NamedValue}
use Rattle.folder_files.specs.declared.place.Place.{Place}
use Rattle.folder_files.specs.declared.place.Place.TheVariants.{Home, Mail}
use Rattle.file_plans.specs.Plan.{Hand, Recall, Return, after, bind, converted, lifted, ◌>>=◌}
use Rattle.file_plans.specs.Runs.{Deed, Exit, Returned, Runs}
use Rattle.step_plans.specs.ContextCommit.{context_name}
use Rattle.step_plans.specs.declared.command_fault.CommandFault.{CommandFault}
use Rattle.command_stages.specs.Texts.{Commanded, text_read}
use Rattle.sequence_commits.proofs.NeverFailed.{IsPlain, plain_lifted, plain_return, plain_then}
use Rattle.command_words.specs.Ended.{Ending, plain}
use Rattle.command_words.specs.declared.ended.Ended.{Ended}
use Rattle.build_words.specs.BuildWords.{build_said}
use Rattle.build_words.specs.declared.words.BuildWords.{BuildWords}
use Rattle.mhbuild_plans.specs.Building.{mhbuild}
use Rattle.mhbuild_plans.specs.Heard.{Heard}
use Rattle.mhbuild_plans.specs.declared.job.BuildJob.{BuildJob}
use Rattle.mhbuild_plans.proofs.HeardBuild.{mhbuild_given, mhbuild_heeds}
use Rattle.mhbuild_plans.proofs.Heeding.{Heeds, bind_assoc, heeds_bind, heeds_recall, heeds_same, plain_heeds}
use Rattle.mhbuild_plans.proofs.PlainBuild.{plain_text_read}
use Rattle.command_plans.specs.Command.{build_begun, build_job, by_words, command, command_by, context_entered, context_seen, no_command, word_by}
use Rattle.command_plans.specs.CommandNames.{command_of, named}
use Rattle.command_plans.specs.Profile.{path_of, profile_name}
use Rattle.command_plans.specs.declared.name.CommandName.{CommandName}
use Rattle.command_plans.specs.declared.name.CommandName.TheVariants.{Mhbuild}
use Rattle.command_plans.specs.declared.caller.Caller.{Caller}

-- the plans in which this was heard
unfoldable pub build_given : Heard → ℕ → List NamedValue → BuildWords → Commanded Unit
build_given heard run profile words = context_entered (Mail (path_of profile)) >>= (λ entered. Recall (λ h. mhbuild_given heard run (path_of profile) (build_job words (entries_seen h.context) profile)))

abbrev pub word_given : Heard → ℕ → Caller → List NamedValue → List ℕ → List (List ℕ) → Option CommandName → Ending Unit
word_given heard run caller profile word words (Some Mhbuild) = by_words (build_given heard run profile) (build_said profile (map chars words))
word_given heard run caller profile word words other = word_by run caller profile word words other

abbrev pub given_by : Heard → ℕ → Caller → List NamedValue → List (List ℕ) → Ending Unit
given_by heard run caller profile [] = Return (Err (no_command None))
given_by heard run caller profile (word ∷ words) = word_given heard run caller profile word words (named word)

unfoldable pub command_given : Heard → ℕ → Caller → List (List ℕ) → Ending Unit
command_given heard run caller words = lifted plain (text_read Home profile_name) >>= (λ text. given_by heard run caller (entries_in text) words)

-- the command is not done
abbrev pub IsNotDone : Exit (Result Unit Ended) → Type 0
IsNotDone x = x ≢ Returned (Ok tt)

-- reading the context only asks
plain_seen : (es : List NamedValue) → IsPlain (context_seen es)
unfolding IsPlain context_seen
plain_seen es = λ h. tt

plain_entered : (p : Place) → IsPlain (context_entered p)
unfolding context_entered
plain_entered p = plain_then (text_read p context_name) (λ text. context_seen (entries_in text)) (plain_text_read p context_name) (λ text. plain_seen (entries_in text))

module _ (run : ℕ) (profile : List NamedValue) (words : BuildWords) where
  abbrev ended : Result Unit CommandFault → Ending Unit
  ended r = Return (converted plain r)

  abbrev job_by : Hand → BuildJob
  job_by h = build_job words (entries_seen h.context) profile

  abbrev next : Unit {0} → Commanded Unit
  next entered = Recall (λ h. mhbuild run (path_of profile) (job_by h))

  abbrev next_given : Heard → Unit {0} → Commanded Unit
  next_given heard entered = Recall (λ h. mhbuild_given heard run (path_of profile) (job_by h))

  entered : Commanded Unit
  entered = context_entered (Mail (path_of profile))

  -- not Done
  ended_stops : (e : CommandFault) (h j : Hand) (x : Exit (Result Unit Ended)) (ds : List Deed) → Runs (ended (Err e)) h ds j x → IsNotDone x
  unfolding Runs
  ended_stops e h j x [] (same, inl at) = λ done. let is = sym at ∙ done in cc
  ended_stops e h j x [] (same, inr at) = λ done. let is = sym at ∙ done in cc
  ended_stops e h j x (d ∷ ds) runs = absurd runs

  by_entered : (r : Result Unit CommandFault) → Heeds IsNotDone (bind (after next r) ended) (λ heard. bind (after (next_given heard) r) ended)
  unfolding bind
  by_entered (Ok u) = heeds_recall IsNotDone (λ h. bind (mhbuild run (path_of profile) (job_by h)) ended) (λ heard h. bind (mhbuild_given heard run (path_of profile) (job_by h)) ended)
      (λ h. mhbuild_heeds run (path_of profile) (job_by h) ended (λ r. plain_return (converted plain r)) IsNotDone ended_stops)
  by_entered (Err e) = plain_heeds IsNotDone (ended (Err e)) (plain_return (converted plain (Err e)))

  build_heeds : Heeds IsNotDone (lifted plain (build_begun run profile words)) (λ heard. lifted plain (build_given heard run profile words))
  unfolding build_begun build_given lifted ◌>>=◌ entered
  build_heeds =
      heeds_same IsNotDone (bind entered (λ r. bind (after next r) ended)) (bind (bind entered (after next)) ended) (λ heard. bind entered (λ r. bind (after (next_given heard) r) ended)) (λ heard. bind (bind entered (after (next_given heard))) ended)
      (sym (bind_assoc entered (after next) ended)) (λ heard. sym (bind_assoc entered (after (next_given heard)) ended))
      (heeds_bind IsNotDone entered (λ r. bind (after next r) ended) (λ heard r. bind (after (next_given heard) r) ended) (plain_entered (Mail (path_of profile))) by_entered)

module _ (run : ℕ) (caller : Caller) where
  by_said : (profile : List NamedValue) (value : Result BuildWords Ended) → Heeds IsNotDone (by_words (build_begun run profile) value) (λ heard. by_words (build_given heard run profile) value)
  by_said profile (Ok words) = build_heeds run profile words
  by_said profile (Err e) = plain_heeds IsNotDone (Return (Err e)) (plain_return (Err e))

  by_command : (words : List (List ℕ)) → command_of words ≡ Some Mhbuild → (profile : List NamedValue) → Heeds IsNotDone (command_by run caller profile words) (λ heard. given_by heard run caller profile words)
  by_command [] is profile = cc (is)
  by_command (word ∷ words) is profile = subst (λ n. Heeds IsNotDone (word_by run caller profile word words n) (λ heard. word_given heard run caller profile word words n)) (sym is) (by_said profile (build_said profile (map chars words)))

  -- a run of `mhbuild` is a run of the plan in which this was heard
  pub command_heeds : (words : List (List ℕ)) → command_of words ≡ Some Mhbuild → Heeds IsNotDone (command run caller words) (λ heard. command_given heard run caller words)
  unfolding command command_given ◌>>=◌
  command_heeds words is =
      heeds_bind IsNotDone (lifted plain (text_read Home profile_name)) (after (λ text. command_by run caller (entries_in text) words)) (λ heard. after (λ text. given_by heard run caller (entries_in text) words))
      (plain_lifted plain (text_read Home profile_name) (plain_text_read Home profile_name)) go
    where
      go : (r : Result (List ℕ) Ended) → Heeds IsNotDone (after (λ text. command_by run caller (entries_in text) words) r) (λ heard. after (λ text. given_by heard run caller (entries_in text) words) r)
      go (Ok text) = by_command words is (entries_in text)
      go (Err e) = plain_heeds IsNotDone (Return (Err e)) (plain_return (Err e))

  -- another command does not hear
  name_same : (heard : Heard) (profile : List NamedValue) (word : List ℕ) (words : List (List ℕ)) (name : Option CommandName) → name ≢ Some Mhbuild → word_given heard run caller profile word words name ≡ word_by run caller profile word words name
  name_same heard profile word words (Some Mhbuild) other = absurd (other refl)
  name_same heard profile word words name other = refl

  words_same : (heard : Heard) (words : List (List ℕ)) → command_of words ≢ Some Mhbuild → (profile : List NamedValue) → given_by heard run caller profile words ≡ command_by run caller profile words
  words_same heard [] other profile = refl
  words_same heard (word ∷ words) other profile = name_same heard profile word words (named word) other

  pub given_same : (heard : Heard) (words : List (List ℕ)) → command_of words ≢ Some Mhbuild → command_given heard run caller words ≡ command run caller words
  unfolding command command_given
  given_same heard words other = λ i. lifted plain (text_read Home profile_name) >>= (λ text. words_same heard words other (entries_in text) i)
