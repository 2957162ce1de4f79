-- How a command ends that looks, and what shows it.
use Rattle.std.proofs.Common.{◌≡◌, inl, inr, ◌⊎◌, ◌^◌, ◌∷◌, [], ℕ, true, false, List, Option, Some, None, Result, Ok, Err, nat_lt, refl, sym, subst}
use Rattle.std.specs.Prelude.{map}
use Rattle.std.specs.Str.{chars}
use Rattle.mh_profile.specs.declared.named_value.NamedValue.{NamedValue}
use Rattle.mh_profile.specs.Reading.{entries_in}
use Rattle.folder_files.specs.Deeds.{Deed, did}
use Rattle.folder_files.specs.Directory.{now_in}
use Rattle.folder_files.specs.declared.place.FilePath.{FilePath}
use Rattle.folder_files.specs.declared.place.Place.{Place}
use Rattle.folder_files.specs.declared.place.Place.TheVariants.{Home, Mail}
use Rattle.folder_files.specs.declared.step.Step.TheVariants as step
use Rattle.folder_files.specs.declared.step.Answer.{Answer}
use Rattle.folder_files.specs.declared.step.Answer.TheVariants as answer
use Rattle.file_plans.specs.Plan.{Hand, fresh, lifted, ◌>>=◌}
use Rattle.file_plans.specs.Rules.{Keeps}
use Rattle.file_plans.specs.Runs as runs
use Rattle.file_plans.specs.Runs.{Returned, Runs}
use Rattle.file_plans.proofs.Acting.{acts}
use Rattle.file_plans.proofs.Soundness.{IsSound, AllSound, long_above}
use Rattle.file_plans.proofs.Keeping.{run_keeps}
use Rattle.step_plans.specs.ContextCommit.{context_name, LIMIT_BYTES}
use Rattle.step_plans.specs.Hands.{knowing, temp_name}
use Rattle.step_plans.specs.declared.command_fault.CommandFault.{CommandFault}
use Rattle.step_plans.specs.declared.command_fault.CommandFault.TheVariants as fault
use Rattle.step_plans.proofs.Coming.{Comes, comes_to, comes_more, comes_then, comes_lifted, comes_clean, comes_keeps, NoneFailed, anything}
use Rattle.step_plans.proofs.Going.{Outcome}
use Rattle.step_plans.proofs.Refusals.{IsRefusal}
use Rattle.command_stages.specs.Texts.{text_read}
use Rattle.message_lines.specs.MessageText.{Writing}
use Rattle.message_lines.specs.declared.standing.Standing.{Standing}
use Rattle.mh_looks.specs.Scan.{scan}
use Rattle.mh_looks.specs.ScanJob.{ScanJob}
use Rattle.mh_looks.proofs.Ending.{ScanShows, no_folder, bad_spec, absent, empty_range, empty_sequence, long_file, long_text, held, meddled, comes_at, ScanEnds, scan_comes}
use Rattle.command_words.specs.Ended.{plain}
use Rattle.look_words.specs.ScanWords.{scan_said}
use Rattle.command_words.specs.declared.ended.Ended.{Ended}
use Rattle.command_ends.specs.BegunCauses.{ShowsEarly, long_entries, wrong_stored}
use Rattle.command_ends.specs.Causes.{IsAboveLimit, ShowsCommandFault, ShowsRefusal, long_context, long_profile}
use Rattle.command_plans.specs.Command.{by_words, command, command_by, folder_found, job_of, no_command, scan_begun, word_by}
use Rattle.command_plans.specs.CommandNames.{begins_folders, command_of, named}
use Rattle.command_plans.specs.Looking.{ScanAsked, look_found, scan_asked}
use Rattle.command_plans.specs.Profile.{entries_by, path_by, path_of, profile_name}
use Rattle.command_ends.specs.WordCauses.{IsRefusedByWords, asked_file, file_in, words_file}
use Rattle.command_plans.specs.declared.caller.Caller.{Caller}
use Rattle.command_plans.specs.declared.name.CommandName.{CommandName}
use Rattle.command_plans.specs.declared.name.CommandName.TheVariants.{Scan}
use Rattle.command_ends.proofs.BegunParts.{Found, Profile, after_context, after_profile, found_comes, none_made_looked, numbered_there, profile_comes}
use Rattle.command_plans.proofs.LookFound.{Looked, look_comes, look_deeds}
use Rattle.command_plans.proofs.Refusals.{asked_refuses}
use Rattle.command_ends.proofs.WordEnding.{file_by, format_shown, refusal_of, refused_by, refused_none}

-- what shows the end of `scan` shows that of a command
pub scan_shows : (run : ℕ) (mail folder : List ℕ) (e : CommandFault) (own : List Deed) → ScanShows run mail folder e own → ShowsCommandFault run e own
scan_shows run mail folder _ _ (no_folder {older = older}) = (mail, older, refl)
scan_shows run mail folder _ _ (bad_spec {names = names} {a = a} {older = older}) = (mail, folder, names, a, older, refl)
scan_shows run mail folder _ _ (absent {names = names} {a = a} {older = older}) = (mail, folder, names, a, older, refl)
scan_shows run mail folder _ _ (empty_range {names = names} {a = a} {older = older}) = (mail, folder, names, a, older, refl)
scan_shows run mail folder _ _ (empty_sequence {names = names} {a = a} {older = older}) = (mail, folder, names, a, older, refl)
scan_shows run mail folder _ _ (long_file {place = place} {name = name} {older = older}) = (refl, inl (place, name, (older, refl)))
scan_shows run mail folder _ _ (long_text is) = (refl, inr (mail, folder, is))
scan_shows run mail folder _ _ (held is) = (mail, refl, is)
scan_shows run mail folder _ _ (meddled is) = is

read_above : (run : ℕ) (p : Place) (x : List ℕ) (limit l : ℕ) → IsSound run (did (step.Read p x limit) (answer.Long l)) → nat_lt limit l ≡ true
read_above run p x limit l (inl e) = cc
read_above run p x limit l (inr f) = long_above f.0 limit (now_in (f.0.directories p) x) l f.1

-- where the answers are those of some world, a length that is refused is above the limit
pub refused_above : (run l : ℕ) (own : List Deed) → AllSound run own → IsAboveLimit l own → nat_lt LIMIT_BYTES l ≡ true
refused_above run l own s (inl f) = read_above run f.0 f.1 LIMIT_BYTES l (subst (AllSound run) f.2.1 s).0
refused_above run l own s (inr f) = f.2.above

-- so does what shows an early one
early_shows : (run : ℕ) (e : CommandFault) (own : List Deed) → ShowsEarly e own → ShowsCommandFault run e own
early_shows run _ own (wrong_stored f) = f
early_shows run _ _ (long_entries long_profile) = (refl, inl (Home, profile_name, ([], refl)))
early_shows run _ _ (long_entries (long_context {a = a})) = (refl, inl (Mail (path_by a), context_name, (after_profile a, refl)))

module _ (run : ℕ) (caller : Caller) (words_ : List (List ℕ)) where
  -- what shows a fault of the plan: the words are refused, or it comes later
  abbrev pub ShowsLooked : CommandFault → List Deed → Type 0
  ShowsLooked (fault.Refused r) own = IsRefusedByWords caller words_ (fault.Refused r) own ⊎ ShowsRefusal r own
  ShowsLooked (fault.Faulted which) own = ShowsCommandFault run (fault.Faulted which) own
  ShowsLooked (fault.Locked p) own = ShowsCommandFault run (fault.Locked p) own
  ShowsLooked (fault.Meddled p x) own = ShowsCommandFault run (fault.Meddled p x) own
  ShowsLooked fault.Memory own = ShowsCommandFault run fault.Memory own

  later_shows : (e : CommandFault) (own : List Deed) → ShowsCommandFault run e own → ShowsLooked e own
  later_shows (fault.Refused r) own s = inr s
  later_shows (fault.Faulted which) own s = s
  later_shows (fault.Locked p) own s = s
  later_shows (fault.Meddled p x) own s = s
  later_shows fault.Memory own s = s

  words_show : (e : CommandFault) (own : List Deed) → IsRefusal e → IsRefusedByWords caller words_ e own → ShowsLooked e own
  words_show e own r s = subst (λ z. ShowsLooked z own) (sym r.1) (inl (subst (λ z. IsRefusedByWords caller words_ z own) r.1 s))

  -- how a plan of a command ends: what shows its fault
  abbrev Faults : Outcome (Result Unit CommandFault)
  Faults later j (Ok u) = Unit {0}
  Faults later j (Err e) = ShowsLooked e later

  abbrev CommandEnds : Outcome (Result Unit Ended)
  CommandEnds later j (Ok u) = Unit {0}
  CommandEnds later j (Err x) = ShowsLooked x.fault later

  -- the profile was read
  module _ (a : Answer) where
    abbrev profile : List NamedValue
    profile = entries_by a

    abbrev path : List ℕ
    path = path_of profile

    -- `scan` on its folder, with what it writes
    module _ (words : ScanAsked) (named_file : (file : FilePath) → file_in words.telling ≡ Some file → words_file caller profile words_ ≡ Some file) where
      scanned_comes : (b : Answer) (j : Hand) → j ≡ knowing (entries_by b) fresh → (folder : List ℕ) (c : Answer) (spoken : Standing → Writing)
          → Comes (look_deeds words.telling c (after_context path a b)) j (scan run path (job_of folder words profile spoken)) Faults
      scanned_comes b j first folder c spoken =
          comes_more own j (scan run path job) (ScanEnds run path job j numbered) Faults shows (scan_comes run path job j numbered own (λ z. none_made_looked (Mail path) (temp_name run j.next) path a b words.telling c z))
        where
          own : List Deed
          own = look_deeds words.telling c (after_context path a b)

          job : ScanJob
          job = job_of folder words profile spoken

          numbered : nat_lt j.next (2 ^ 64) ≡ true
          numbered = numbered_there a b j first

          shows : (later : List Deed) (i : Hand) (r : Result Unit CommandFault) → ScanEnds run path job j numbered later i r → Faults later i r
          shows later i (Ok u) q = tt
          shows later i (Err e) q = later_shows e later (scan_shows run path folder e later q)

      -- with the format that is found
      looked_comes : (b : Answer) (j : Hand) → j ≡ knowing (entries_by b) fresh → (folder : List ℕ)
          → Comes (after_context path a b) j (look_found words.telling >>= (λ spoken. scan run path (job_of folder words profile spoken))) Faults
      looked_comes b j first folder =
          comes_then (after_context path a b) j (look_found words.telling) (λ spoken. scan run path (job_of folder words profile spoken)) (Looked words.telling (after_context path a b) j) Faults
          (look_comes words.telling (after_context path a b) j)
          (λ later i spoken q. comes_at later (look_deeds words.telling q.0 (after_context path a b)) i j _ Faults q.1 q.2 (scanned_comes b j first folder q.0 spoken))
          (λ later i e q. refused later e q.0 q.1 (format_shown caller words_ a b q.0 words.telling e q.2 named_file))
        where
          refused : (later : List Deed) (e : CommandFault) (c : Answer) → later ≡ look_deeds words.telling c (after_context path a b)
              → IsRefusal e × IsRefusedByWords caller words_ e (look_deeds words.telling c (after_context path a b)) → ShowsLooked e later
          refused later e c is s = subst (ShowsLooked e) (sym is) (words_show e (look_deeds words.telling c (after_context path a b)) s.0 s.1)

      scan_begun_comes : Comes (after_profile a) fresh (scan_begun run profile words) Faults
      unfolding scan_begun
      scan_begun_comes =
          comes_then (after_profile a) fresh (folder_found profile words.folder) (λ folder. look_found words.telling >>= (λ spoken. scan run path (job_of folder words profile spoken))) (Found a words.folder) Faults
          (found_comes a words.folder)
          (λ later j folder q. comes_at later (after_context path a q.0) j j _ Faults q.1 refl (looked_comes q.0 j q.2 folder)) (λ later j e q. later_shows e later (early_shows run e later q))

    -- by what its words ask
    asked_comes : (value : Result ScanAsked Ended) → ((x : Ended) → value ≡ Err x → IsRefusal x.fault × IsRefusedByWords caller words_ x.fault (after_profile a))
        → ((file : FilePath) → asked_file value (λ asked. asked.telling) ≡ Some file → words_file caller profile words_ ≡ Some file) → Comes (after_profile a) fresh (by_words (scan_begun run profile) value) CommandEnds
    asked_comes (Ok words) refused file =
        comes_lifted (after_profile a) fresh plain (scan_begun run profile words) Faults CommandEnds (scan_begun_comes words file) (λ later j u q. tt) (λ later j e q. q)
    asked_comes (Err x) refused file = let s = refused x refl in comes_to (after_profile a) fresh (Err x) CommandEnds (words_show x.fault (after_profile a) s.0 s.1)

    by_word : (word : List ℕ) (rest : List (List ℕ)) → words_ ≡ word ∷ rest → (name : Option CommandName) → named word ≡ name → begins_folders name ≡ false → Comes (after_profile a) fresh (word_by run caller profile word rest name) CommandEnds
    by_word word rest is None name other = comes_to (after_profile a) fresh (Err (no_command (Some word))) CommandEnds (inl (refused_by caller words_ a word rest is None name (no_command None).fault refl))
    by_word word rest is (Some Scan) name other =
        asked_comes (scan_asked caller (scan_said profile (map chars rest)))
        (λ x said. (asked_refuses caller profile (map chars rest) x said, refused_by caller words_ a word rest is (Some Scan) name x.fault (refusal_of (scan_asked caller (scan_said profile (map chars rest))) x said)))
        (λ file said. file_by caller words_ a word rest is (Some Scan) name file said)
    by_word word rest is n name other = cc (other)

    by_line : (words : List (List ℕ)) → words_ ≡ words → begins_folders (command_of words) ≡ false → Comes (after_profile a) fresh (command_by run caller profile words) CommandEnds
    by_line [] is other = comes_to (after_profile a) fresh (Err (no_command None)) CommandEnds (inl (refused_none caller words_ a is))
    by_line (word ∷ rest) is other = by_word word rest is (named word) refl other

  command_comes : begins_folders (command_of words_) ≡ false → Comes [] fresh (command run caller words_) CommandEnds
  unfolding command
  command_comes other =
      comes_then [] fresh (lifted plain (text_read Home profile_name)) (λ text. command_by run caller (entries_in text) words_) Profile CommandEnds profile_comes
      (λ later j text q. comes_at later (after_profile q.0) j fresh (command_by run caller (entries_in text) words_) CommandEnds q.1 q.2
      (subst (λ t. Comes (after_profile q.0) fresh (command_by run caller (entries_in t) words_) CommandEnds) (sym q.3) (by_line q.0 words_ refl other)))
      (λ later j x q. later_shows x.fault later (early_shows run x.fault later (long_entries q)))

  -- where the plan of a command that looks returns, no step of the call has failed, and its deeds show the fault, if there is one
  abbrev pub EndsAs : List runs.Deed → Hand → Result Unit Ended → Type 0
  EndsAs past h (Ok u) = NoneFailed (acts past)
  EndsAs past h (Err x) = ShowsLooked x.fault (acts past) × NoneFailed (acts past)

  pub command_ends : begins_folders (command_of words_) ≡ false → Keeps anything [] fresh (command run caller words_) EndsAs
  command_ends other =
      comes_keeps [] [] fresh (command run caller words_) Ends refl (comes_more [] fresh (command run caller words_) (λ later j r. NoneFailed later × CommandEnds later j r) Ends both (comes_clean [] fresh (command run caller words_) CommandEnds (λ m. m) (command_comes other)))
    where
      Ends : Outcome (Result Unit Ended)
      Ends later j (Ok u) = NoneFailed later
      Ends later j (Err x) = ShowsLooked x.fault later × NoneFailed later

      both : (later : List Deed) (j : Hand) (r : Result Unit Ended) → NoneFailed later × CommandEnds later j r → Ends later j r
      both later j (Ok u) q = q.0
      both later j (Err x) q = (q.1, q.0)

  -- so does each run of it
  pub run_ends : begins_folders (command_of words_) ≡ false → (ds : List runs.Deed) (j : Hand) (r : Result Unit Ended) → Runs (command run caller words_) fresh ds j (Returned r) → EndsAs ds j r
  run_ends other ds j r f = (run_keeps anything [] fresh (command run caller words_) ds j (Returned r) EndsAs (command_ends other) f).gave
