-- A command goes as pledged: by the mail directory that its profile names, its words and the context.
use Rattle.std.proofs.Common.{◌≡◌, ◌⊎◌, inl, inr, ◌<◌, ◌^◌, ℕ, Bool, true, false, List, [], ◌∷◌, Option, None, Some, Result, Ok, Err, refl, sym, subst, map}
use Rattle.std.specs.Str.{chars}
use Rattle.mh_profile.specs.declared.named_value.NamedValue.{NamedValue}
use Rattle.mh_profile.specs.Reading.{entries_in}
use Rattle.folder_files.specs.Deeds.{Deed, HasFailed}
use Rattle.folder_files.specs.declared.place.Place.TheVariants.{Folder, Home, Mail}
use Rattle.folder_files.specs.declared.step.Answer.{Answer}
use Rattle.folder_files.specs.declared.step.Step.{Step}
use Rattle.file_plans.specs.Asking.{read, reading_of}
use Rattle.file_plans.specs.Follows.{State, Follows, deeds_in}
use Rattle.file_plans.specs.Plan.{Hand, Ask, after, ask, bind, ◌>>=◌, lifted}
use Rattle.file_plans.specs.Rules.{IsKeptExit, IfOkay, Keeps}
use Rattle.file_plans.specs.Runs.{Deed as Done, Exit, Runs, exit_of}
use Rattle.file_plans.specs.declared.answers.Reading.{Reading}
use Rattle.file_plans.proofs.Acting.{acts, acts_made}
use Rattle.file_plans.proofs.Keeping.{keeps_lifted, run_keeps}
use Rattle.step_plans.specs.ContextCommit.{LIMIT_BYTES, context_name}
use Rattle.step_plans.specs.Finished.{HasCommitted, OnlyLooked}
use Rattle.step_plans.specs.Hands.{knowing}
use Rattle.step_plans.specs.Pledges.{Pledge}
use Rattle.step_plans.specs.Settled.{AreSettled}
use Rattle.step_plans.specs.declared.command_fault.CommandFault.{CommandFault}
use Rattle.step_plans.proofs.Facts.{none_settled, settled_kept}
use Rattle.step_plans.proofs.Going.{ByActs, Sound, Soundly, goes_keeps, okay}
use Rattle.step_plans.proofs.Pledged.{Of}
use Rattle.step_plans.proofs.Promising.{keeps_pledge}
use Rattle.step_plans.proofs.Ruling.{rules_of}
use Rattle.command_stages.specs.Texts.{Commanded, text_by, text_read, too_large}
use Rattle.mh_looks.specs.Scan.{scan}
use Rattle.mh_looks.specs.ScanPledge.{scan_pledge}
use Rattle.mh_looks.proofs.Pledging.{Noted, scan_goes}
use Rattle.opening_plans.proofs.EndedKept.{Still, keeps_more}
use Rattle.message_lines.specs.MessageText.{Writing}
use Rattle.message_lines.specs.declared.standing.Standing.{Standing}
use Rattle.inc_plans.specs.Inc.{inc}
use Rattle.inc_plans.specs.IncPledge.{inc_pledge}
use Rattle.inc_plans.proofs.IncPledged.{inc_keeps}
use Rattle.mark_command.specs.Mark.{mark, pledge_by}
use Rattle.mark_command.specs.declared.job.MarkAct.{MarkAct}
use Rattle.mark_command.proofs.MarkPledged.{mark_keeps}
use Rattle.anno_plans.proofs.AnnoPledged.{anno_keeps}
use Rattle.anno_words.proofs.Said.{anno_annotates}
use Rattle.sortm_plans.proofs.SortPledged.{sortm_keeps}
use Rattle.mhlist_plans.proofs.ListPledged.{list_keeps}
use Rattle.list_words.specs.ListWords.{list_said}
use Rattle.mhstore_plans.proofs.StorePledged.{store_keeps}
use Rattle.store_words.specs.StoreWords.{store_said}
use Rattle.folder_command.specs.Folder.{folder as tell, pledge_by as tell_pledge_by}
use Rattle.folder_command.proofs.FolderPledged.{folder_keeps}
use Rattle.pack_plans.proofs.PackPledged.{pack_keeps}
use Rattle.pick_plans.specs.Pick.{pick}
use Rattle.pick_plans.specs.PickPledge.{pledge_by as pick_pledge_by}
use Rattle.pick_plans.specs.declared.job.PickMarks.{PickMarks}
use Rattle.pick_plans.proofs.PickPledged.{pick_keeps}
use Rattle.command_words.specs.Ended.{Ending, ended_cause, plain}
use Rattle.look_words.specs.IncWords.{inc_said}
use Rattle.folder_words.specs.MarkWords.{mark_said}
use Rattle.folder_words.specs.RefileWords.{refile_said}
use Rattle.folder_words.specs.RmmWords.{rmm_said}
use Rattle.look_words.specs.ScanWords.{scan_said}
use Rattle.folder_words.specs.TellWords.{tell_said}
use Rattle.command_words.specs.declared.ended.Ended.{Ended}
use Rattle.folder_words.specs.declared.folder.FolderWords.{FolderWords}
use Rattle.folder_words.specs.declared.mark.MarkWords.{MarkWords}
use Rattle.folder_words.specs.declared.pick.PickWords.{PickWords}
use Rattle.sort_words.specs.SortWords.{sort_said}
use Rattle.command_plans.specs.Looking.{ScanAsked, WritesAs, scan_asked, written_by}
use Rattle.command_words.proofs.SaidFolder.{IsValid}
use Rattle.refile_plans.specs.Refile.{refile}
use Rattle.refile_plans.specs.declared.job.RefileJob.{RefileJob}
use Rattle.refile_plans.proofs.RefileMoved.{HasHeldNone}
use Rattle.refile_plans.proofs.RefilePledged.{EndsRefiled, refile_keeps}
use Rattle.refile_plans.proofs.RmmPledged.{rmm_keeps}
use Rattle.command_plans.specs.Command.{anno_job, annotated_by, build_job, command, command_by, context_seen, job_of, list_job, mark_job, no_command, pack_job, pick_job, picked_by, refile_job, rmm_job, sort_job, store_job, tell_job}
use Rattle.command_plans.specs.CommandNames.{command_of, named}
use Rattle.build_words.specs.BuildWords.{build_said}
use Rattle.build_words.specs.declared.words.BuildWords.{BuildWords}
use Rattle.build_words.proofs.Said.{build_valid}
use Rattle.mhbuild_plans.specs.BuildDone.{HasBuilt}
use Rattle.mhbuild_plans.specs.BuildPledge.{build_pledge}
use Rattle.mhbuild_plans.specs.Building.{mhbuild}
use Rattle.mhbuild_plans.specs.declared.job.BuildJob.{BuildJob}
use Rattle.mhbuild_plans.proofs.BuildPledged.{build_keeps}
use Rattle.command_plans.specs.Incorporating.{IncAsked, job_by, job_writing}
use Rattle.command_plans.specs.Profile.{entries_by, folder_of, path_by, path_of, profile_name, text_of}
use Rattle.command_plans.specs.declared.name.CommandName.{CommandName}
use Rattle.command_plans.specs.declared.name.CommandName.TheVariants.{Anno, Folder as FolderCommand, Inc, Mark, Mhbuild, Mhlist, Mhstore, Pick, Refile, Rmm, Scan, Sortm}
use Rattle.command_plans.specs.declared.caller.Caller.{Caller}
use Rattle.command_plans.proofs.LookFound.{acts_looked, look_done, look_keeps, look_writes, looked_once, looked_only, looked_settled, writes_kept}
use Rattle.command_pledges.proofs.Telling.{keeps_telling}
use Rattle.command_plans.proofs.SaidFolder.{acted_valid, asked_valid}
use Rattle.command_plans.proofs.FirstReadings.{context_step, profile_step, two_once, two_readings}
use Rattle.command_pledges.proofs.TwoAnswers.{Onward, TwoAnswers, acts_begin_with, follows_so, keeps_after, keeps_ended, rest_by, two_answers}
use Rattle.command_pledges.specs.CommandPledge.{IsDone, KeepsPledge, TellsAsked, asked_pledge, command_pledge, pledge_by_words, pledge_found, task_pledge, word_pledge}
use Rattle.command_pledges.proofs.ByWords.{AsksContext, build_acts, inc_acts, named_onward, on_context, on_context_plainly, on_entries, on_entries_plainly, on_folder, scan_acts, task_acts, word_onward, word_plan, words_onward, words_plan}
use Rattle.refile_plans.specs.RefilePledge.{refile_pledge}
use Rattle.file_plans.specs.declared.answers.Reading.TheVariants as reading

-- a command is done so
pub record Finished (name : Option CommandName) (path : List ℕ) (past : List Done) (h : Hand) (u : Unit {0}) : Type 0 where
  pub is_done : IsDone name path (acts past)
  pub unfailed : HasFailed (acts past) → ⊥

-- the folder is named after the context was read so, and the work keeps the rules
module _ (w : Pledge) (past : List Done) (h : Hand) (sound : Sound w (acts past) h) (profile : List NamedValue) (said : Option (List ℕ)) (act : List ℕ → Commanded Unit) (P : List Done → Hand → Unit → Type 0) where
  acts_by : (es : List NamedValue) → ((folder : List ℕ) → folder_of said es profile ≡ Ok folder → Keeps (rules_of w) past (knowing es h) (act folder) (IfOkay P)) → (value : Result (List ℕ) CommandFault) → folder_of said es profile ≡ value
      → Keeps (rules_of w) past (knowing es h) (after act value) (IfOkay P)
  unfolding Keeps
  acts_by es f (Ok folder) is = f folder is
  acts_by es f (Err e) is = (sound.numbered, tt)

  plainly_keeps : (r : Reading) → ((folder : List ℕ) → folder_of said (entries_in (text_of r)) profile ≡ Ok folder → Keeps (rules_of w) past (knowing (entries_in (text_of r)) h) (act folder) (IfOkay P))
      → Keeps (rules_of w) past h (on_context_plainly profile said act r) (IfOkay P)
  unfolding Keeps context_seen bind ◌>>=◌
  plainly_keeps (reading.Content bytes) f = (sound.numbered, acts_by (entries_in bytes) f (folder_of said (entries_in bytes) profile) refl)
  plainly_keeps (reading.Long l) f = (sound.numbered, tt)
  plainly_keeps reading.Gone f = (sound.numbered, acts_by (entries_in []) f (folder_of said (entries_in []) profile) refl)

  pub context_keeps : (r : Reading) → ((folder : List ℕ) → folder_of said (entries_in (text_of r)) profile ≡ Ok folder → Keeps (rules_of w) past (knowing (entries_in (text_of r)) h) (act folder) (IfOkay P))
      → Keeps (rules_of w) past h (on_context profile said act r) (IfOkay P)
  context_keeps r f = keeps_lifted (rules_of w) past h plain (on_context_plainly profile said act r) P (plainly_keeps r f)

-- the context was read so, and the work keeps the rules with its entries
module _ (w : Pledge) (past : List Done) (h : Hand) (sound : Sound w (acts past) h) (act : Commanded Unit) (P : List Done → Hand → Unit → Type 0) where
  entries_plainly : (r : Reading) → Keeps (rules_of w) past (knowing (entries_in (text_of r)) h) act (IfOkay P) → Keeps (rules_of w) past h (on_entries_plainly act r) (IfOkay P)
  unfolding Keeps context_seen bind ◌>>=◌
  entries_plainly (reading.Content bytes) f = (sound.numbered, f)
  entries_plainly (reading.Long l) f = (sound.numbered, tt)
  entries_plainly reading.Gone f = (sound.numbered, f)

  pub entries_keep : (r : Reading) → Keeps (rules_of w) past (knowing (entries_in (text_of r)) h) act (IfOkay P) → Keeps (rules_of w) past h (on_entries act r) (IfOkay P)
  entries_keep r f = keeps_lifted (rules_of w) past h plain (on_entries_plainly act r) P (entries_plainly r f)

two_settled : (profile : List NamedValue) (a b : Answer) → AreSettled (acts (two_readings profile a b))
two_settled profile a b = settled_kept _ (context_step profile) b tt (settled_kept [] profile_step a tt none_settled)

-- two readings use no held name of a folder
pub two_unheld : (run : ℕ) (profile : List NamedValue) (folder : List ℕ) (a b : Answer) → HasHeldNone run (Folder (path_of profile) folder) (acts (two_readings profile a b))
two_unheld run profile folder a b = λ n ok. ((λ e f. cc (e)), ((λ e f. cc (e)), tt))

pub known_sound : (w : Pledge) (own : List Deed) (h : Hand) (es : List NamedValue) → Sound w own h → Sound w own (knowing es h)
known_sound w own h es s = record { numbered = s.numbered; unfailed = s.unfailed }

-- after both readings this work keeps the rules of the pledge, and leaves settled what was settled
abbrev pub WorkKeeps : List NamedValue → Pledge → Hand → Commanded Unit → Type 0
WorkKeeps profile w j plan = (c d : Answer) → Sound w (acts (two_readings profile c d)) j → Keeps (rules_of w) (two_readings profile c d) j plan (IfOkay (Still (acts (two_readings profile c d))))

-- what goes on so by its words keeps the rules of their pledge, where it does after both readings
words_keep : {W : Type 0} (profile : List NamedValue) (begun : W → Commanded Unit) (more : W → Reading → Ending Unit) (asked : AsksContext profile begun more) (h : Hand) (b : Answer) (P : List Done → Hand → Unit {0} → Type 0) (pledge : Result W Ended → Pledge) (value : Result W Ended)
    → ((words : W) → value ≡ Ok words → (c d : Answer) → Sound (pledge (Ok words)) (acts (two_readings profile c d)) h → Keeps (rules_of (pledge (Ok words))) (two_readings profile c d) h (more words (reading_of b)) (IfOkay P))
    → Keeps (rules_of (pledge value)) [] h (words_plan profile begun more asked b value) (IfOkay P)
unfolding words_onward
words_keep profile begun more asked h b P pledge (Ok words) f = keeps_after (pledge (Ok words)) Home (Mail (path_of profile)) profile_name context_name LIMIT_BYTES h (more words (reading_of b)) (IfOkay P) (f words refl)
words_keep profile begun more asked h b P pledge (Err e) f = keeps_ended (pledge (Err e)) Home profile_name LIMIT_BYTES h (Err e) (IfOkay P) (λ c. tt)

module _ (run : ℕ) (few : run < 2 ^ 128) (profile : List NamedValue) where
  -- `folder`, by whether messages are numbered anew
  task_keeps : (words : FolderWords) (folder : List ℕ) (k : Bool) (j : Hand) → WorkKeeps profile (task_pledge run profile words folder k) j (task_acts run profile words k folder)
  unfolding tell
  task_keeps words folder true j c d sound = pack_keeps run few (path_of profile) (pack_job folder) (two_readings profile c d) j (two_unheld run profile folder c d) sound
  task_keeps words folder false j c d sound = folder_keeps run few (path_of profile) (tell_job folder words profile) words.specs (two_readings profile c d) j sound

  -- `refile`, of whose end more is known
  still_refiled : (job : RefileJob) (own : List Deed) (later : List Done) (j : Hand) (r : Result Unit CommandFault) → IfOkay (EndsRefiled run few (path_of profile) job own) later j r → IfOkay (Still own) later j r
  still_refiled job own later j (Ok u) f = f.0
  still_refiled job own later j (Err e) f = tt

  pub refiled_keeps : (job : RefileJob) (j : Hand) → WorkKeeps profile (refile_pledge run (path_of profile) job) j (refile run (path_of profile) job)
  refiled_keeps job j c d sound =
      keeps_more (rules_of (refile_pledge run (path_of profile) job)) (two_readings profile c d) j (refile run (path_of profile) job) (IfOkay (EndsRefiled run few (path_of profile) job (acts (two_readings profile c d)))) (IfOkay (Still (acts (two_readings profile c d))))
      (still_refiled job (acts (two_readings profile c d))) (refile_keeps run few (path_of profile) job (two_readings profile c d) j (two_unheld run profile job.source c d) sound)

module _ (run : ℕ) (few : run < 2 ^ 128) (profile : List NamedValue) (h : Hand) (b : Answer) where
  abbrev path : List ℕ
  path = path_of profile

  abbrev look : Pledge
  look = scan_pledge run path

  -- the hand, once the context is known
  abbrev entered : Hand
  entered = knowing (entries_by b) h

  -- what leaves settled what was settled is done, where no more is asked of it
  done_so : (name : Option CommandName) → ((own : List Deed) → AreSettled own → IsDone name path own) → (past : List Done) → AreSettled (acts past)
      → (later : List Done) (j : Hand) (r : Result Unit CommandFault) → IfOkay (Still (acts past)) later j r → IfOkay (Finished name path) later j r
  done_so name done past settled later j (Ok u) f = record { is_done = done (acts later) (f.settled settled); unfailed = f.unfailed }
  done_so name done past settled later j (Err e) f = tt

  -- a command on a folder, whose work there keeps the rules of what is pledged on it
  folder_keep : {W : Type 0} (begun : W → Commanded Unit) (named_in : W → Option (List ℕ)) (does : W → List ℕ → Commanded Unit) (asked : AsksContext profile begun (on_folder profile named_in does)) (pledge : W → List ℕ → Pledge) (value : Result W Ended)
      (name : Option CommandName) → ((own : List Deed) → AreSettled own → IsDone name path own) → ((words : W) → value ≡ Ok words → (folder : List ℕ) → WorkKeeps profile (pledge words folder) entered (does words folder))
      → Keeps (rules_of (pledge_by_words run profile (entries_by b) value named_in pledge)) [] h (words_plan profile begun (on_folder profile named_in does) asked b value) (IfOkay (Finished name path))
  folder_keep {W = W} begun named_in does asked pledge value name done f =
      words_keep profile begun (on_folder profile named_in does) asked h b (Finished name path) (λ v. pledge_by_words run profile (entries_by b) v named_in pledge) value
      (λ words is c d sound. context_keeps (on_value words (folder_of (named_in words) (entries_by b) profile)) (two_readings profile c d) h sound profile (named_in words) (does words) (Finished name path) (reading_of b)
      (λ folder acted. works words is c d folder (folder_of (named_in words) (entries_by b) profile) acted (known_sound (on_value words (folder_of (named_in words) (entries_by b) profile)) (acts (two_readings profile c d)) h (entries_by b) sound)))
    where
      on_value : W → Result (List ℕ) CommandFault → Pledge
      on_value words v = pledge_found run profile (pledge words) v

      works : (words : W) → value ≡ Ok words → (c d : Answer) (folder : List ℕ) (v : Result (List ℕ) CommandFault) → v ≡ Ok folder → Sound (on_value words v) (acts (two_readings profile c d)) entered
          → Keeps (rules_of (on_value words v)) (two_readings profile c d) entered (does words folder) (IfOkay (Finished name path))
      works words is c d folder v acted =
          subst (λ z. Sound (on_value words z) (acts (two_readings profile c d)) entered → Keeps (rules_of (on_value words z)) (two_readings profile c d) entered (does words folder) (IfOkay (Finished name path))) (sym acted)
          (λ sound. keeps_more (rules_of (pledge words folder)) (two_readings profile c d) entered (does words folder) (IfOkay (Still (acts (two_readings profile c d)))) (IfOkay (Finished name path))
          (done_so name done (two_readings profile c d) (two_settled profile c d)) (f words is folder c d sound))

  -- `scan`
  scan_done : (past : List Done) → AreSettled (acts past) → OnlyLooked (acts past) → (later : List Done) (j : Hand) (r : Result Unit CommandFault) → Sound look (acts later) j → okay (Of (Noted path (acts past))) (acts later) j r → IfOkay (Finished (Some Scan) path) later j r
  scan_done past settled only later j (Ok u) s f = record { is_done = record { settled = f.settled settled; done = parts f.done }; unfailed = s.unfailed }
    where
      parts : HasCommitted (Mail path) context_name (acts later) ⊎ (OnlyLooked (acts past) → OnlyLooked (acts later)) → HasCommitted (Mail path) context_name (acts later) ⊎ OnlyLooked (acts later)
      parts (inl c) = inl c
      parts (inr o) = inr (o only)
  scan_done past settled only later j (Err e) s f = tt

  scan_keeps : (words : ScanAsked) → IsValid words.folder → (c d : Answer) (folder : List ℕ) → folder_of words.folder (entries_by b) profile ≡ Ok folder → Sound look (acts (two_readings profile c d)) h
      → Keeps (rules_of look) (two_readings profile c d) entered (scan_acts run profile words folder) (IfOkay (Finished (Some Scan) path))
  scan_keeps words valid c d folder is sound = look_keeps look past entered (Finished (Some Scan) path) (known_sound look (acts past) h (entries_by b) sound) words.telling plan go
    where
      past : List Done
      past = two_readings profile c d

      plan : (Standing → Writing) → Commanded Unit
      plan spoken = scan run path (job_of folder words profile spoken)

      go : (e : Answer) (spoken : Standing → Writing) → written_by words.telling e ≡ Ok spoken → Sound look (acts (look_done words.telling e past)) entered
          → Keeps (rules_of look) (look_done words.telling e past) entered (plan spoken) (IfOkay (Finished (Some Scan) path))
      go e spoken written here =
          let then_ = look_done words.telling e past in
          keeps_more (rules_of look) then_ entered (plan spoken) (ByActs (Soundly look (okay (Of (Noted path (acts then_)))))) (IfOkay (Finished (Some Scan) path))
          (λ later i r q. scan_done then_ (looked_settled words.telling e past (two_settled profile c d)) (looked_only words.telling e past (tt, (tt, tt))) later i r q.0 q.1)
          (goes_keeps look then_ (acts then_) entered (plan spoken) (okay (Of (Noted path (acts then_)))) refl here
          (scan_goes run few path (acts then_) entered (job_of folder words profile spoken) (acted_valid words.folder (entries_by b) profile folder valid is)))

  -- `mhbuild`, of whose end more is known
  module _ (words : BuildWords) where
    abbrev building : BuildJob
    building = build_job words (entries_by b) profile

    abbrev build_w : Pledge
    build_w = build_pledge run path building

    abbrev Built : Answer → Answer → List Done → Hand → Unit {0} → Type 0
    Built c d later j u = HasBuilt run path building (acts (two_readings profile c d)) (acts later) × (HasFailed (acts later) → ⊥)

    built_so : (c d : Answer) (later : List Done) (j : Hand) (r : Result Unit CommandFault) → IfOkay (Built c d) later j r → IfOkay (Finished (Some Mhbuild) path) later j r
    built_so c d later j (Ok u) f = record { is_done = f.0.settled (two_settled profile c d); unfailed = f.1 }
    built_so c d later j (Err e) f = tt

    built_keeps : (c d : Answer) → Keeps (rules_of build_w) (two_readings profile c d) entered (mhbuild run path building) (IfOkay (Built c d)) → Keeps (rules_of build_w) (two_readings profile c d) entered (build_acts run profile words) (IfOkay (Finished (Some Mhbuild) path))
    unfolding Keeps
    built_keeps c d k = keeps_more (rules_of build_w) (two_readings profile c d) entered (mhbuild run path building) (IfOkay (Built c d)) (IfOkay (Finished (Some Mhbuild) path)) (built_so c d) k

  -- `inc`
  module _ (asked : IncAsked) where
    abbrev inc_w : Pledge
    inc_w = asked_pledge run path asked

    taken_so : (c d e : Answer) (spoken : Standing → Writing) → written_by asked.telling e ≡ Ok spoken → Sound inc_w (acts (look_done asked.telling e (two_readings profile c d))) entered
        → Keeps (rules_of inc_w) (look_done asked.telling e (two_readings profile c d)) entered (inc run path (job_writing asked spoken)) (IfOkay (Finished (Some Inc) path))
    taken_so c d e spoken written sound =
        let first = two_readings profile c d in
        let past = look_done asked.telling e first in
        let job = job_writing asked spoken in
        keeps_telling (inc_pledge run path job) (TellsAsked run path asked) (WritesAs asked.telling spoken) (writes_kept asked.telling spoken) (λ own piece writes told. (spoken, writes, told)) past entered
        (inc run path job) (IfOkay (Finished (Some Inc) path)) (subst (WritesAs asked.telling spoken) (sym (acts_looked asked.telling e first)) (look_writes asked.telling e (acts first) spoken written))
        (keeps_more (rules_of (inc_pledge run path job)) past entered (inc run path job) (IfOkay (Still (acts past))) (IfOkay (Finished (Some Inc) path))
        (done_so (Some Inc) (λ own s. s) past (looked_settled asked.telling e first (two_settled profile c d)))
        (inc_keeps run few path job past entered (looked_once inc_w asked.telling e first (two_once inc_w profile c d)) (record { numbered = sound.numbered; unfailed = sound.unfailed })))

    asked_so : (c d : Answer) → Sound inc_w (acts (two_readings profile c d)) h → Keeps (rules_of inc_w) (two_readings profile c d) entered (inc_acts run profile asked) (IfOkay (Finished (Some Inc) path))
    asked_so c d sound =
        look_keeps inc_w (two_readings profile c d) entered (Finished (Some Inc) path) (known_sound inc_w (acts (two_readings profile c d)) h (entries_by b) sound) asked.telling (λ spoken. inc run path (job_writing asked spoken)) (taken_so c d)

  -- the command that the first word names
  word_keeps : (caller : Caller) (word : List ℕ) (words : List (List ℕ)) (name : Option CommandName)
      → Keeps (rules_of (word_pledge run caller profile (entries_by b) words name)) [] h (word_plan run profile caller word words name b) (IfOkay (Finished name path))
  unfolding word_onward mark pick
  word_keeps caller word words None = keeps_ended look Home profile_name LIMIT_BYTES h (Err (no_command (Some word))) (IfOkay (Finished None path)) (λ c. tt)
  word_keeps caller word words (Some Inc) =
      words_keep profile _ _ _ h b (Finished (Some Inc) path) (pledge_found run profile (asked_pledge run path)) (job_by caller profile (inc_said profile (map chars words)))
      (λ asked is c d sound. entries_keep (inc_w asked) (two_readings profile c d) h sound (inc_acts run profile asked) (Finished (Some Inc) path) (reading_of b) (asked_so asked c d sound))
  word_keeps caller word words (Some Scan) =
      words_keep profile _ _ _ h b (Finished (Some Scan) path) (λ v. look) (scan_asked caller (scan_said profile (map chars words)))
      (λ said is c d sound. context_keeps look (two_readings profile c d) h sound profile said.folder (scan_acts run profile said) (Finished (Some Scan) path) (reading_of b)
      (λ folder acted. scan_keeps said (asked_valid caller profile (map chars words) said is) c d folder acted sound))
  word_keeps caller word words (Some Mark) =
      folder_keep _ _ _ _ _ (mark_said profile (map chars words)) (Some Mark) (λ own s. s)
      (λ said is folder c d sound. mark_keeps run few path (mark_job folder said profile) said.act (two_readings profile c d) entered sound)
  word_keeps caller word words (Some Pick) =
      folder_keep _ _ _ _ _ (picked_by caller profile (map chars words)) (Some Pick) (λ own s. s)
      (λ said is folder c d sound. pick_keeps run few path (pick_job folder said profile) said.marks (two_readings profile c d) entered sound)
  word_keeps caller word words (Some Refile) =
      folder_keep _ _ _ _ _ (refile_said profile (map chars words)) (Some Refile) (λ own s. s)
      (λ said is folder. refiled_keeps run few profile (refile_job folder said profile) entered)
  word_keeps caller word words (Some Rmm) =
      folder_keep _ _ _ _ _ (rmm_said profile (map chars words)) (Some Rmm) (λ own s. s)
      (λ said is folder c d sound. rmm_keeps run few path (rmm_job folder said profile) (two_readings profile c d) entered sound)
  word_keeps caller word words (Some FolderCommand) =
      folder_keep _ _ _ _ _ (tell_said profile (map chars words)) (Some FolderCommand) (λ own s. s)
      (λ said is folder. task_keeps run few profile said folder said.pack entered)
  word_keeps caller word words (Some Anno) =
      folder_keep _ _ _ _ _ (annotated_by caller profile (map chars words)) (Some Anno) (λ own s. s)
      (λ said is folder c d sound. anno_keeps run few path (anno_job folder said profile) (anno_annotates caller.clock.moment caller.clock.offset profile (map chars words) said is) (two_readings profile c d) entered (two_unheld run profile folder c d) sound)
  word_keeps caller word words (Some Sortm) =
      folder_keep _ _ _ _ _ (sort_said profile (map chars words)) (Some Sortm) (λ own s. s)
      (λ said is folder c d sound. sortm_keeps run few path (sort_job folder said profile) (two_readings profile c d) entered (two_unheld run profile folder c d) sound)
  word_keeps caller word words (Some Mhlist) =
      folder_keep _ _ _ _ _ (list_said profile (map chars words)) (Some Mhlist) (λ own s. s)
      (λ said is folder c d sound. list_keeps run few path (list_job folder said profile) (two_readings profile c d) entered sound)
  word_keeps caller word words (Some Mhstore) =
      folder_keep _ _ _ _ _ (store_said profile (map chars words)) (Some Mhstore) (λ own s. s)
      (λ said is folder c d sound. store_keeps run few path (store_job folder said profile) (two_readings profile c d) entered sound)
  word_keeps caller word words (Some Mhbuild) =
      words_keep profile _ _ _ h b (Finished (Some Mhbuild) path) (pledge_found run profile (λ said. build_pledge run path (build_job said (entries_by b) profile))) (build_said profile (map chars words))
      (λ said is c d sound. entries_keep (build_w said) (two_readings profile c d) h sound (build_acts run profile said) (Finished (Some Mhbuild) path) (reading_of b)
      (built_keeps said c d (build_keeps run few path (building said) (build_valid profile (map chars words) said is) (two_readings profile c d) entered (known_sound (build_w said) (acts (two_readings profile c d)) h (entries_by b) sound))))

  named_keeps : (caller : Caller) (words : List (List ℕ))
      → Keeps (rules_of (command_pledge run caller words profile (entries_by b))) [] h (Ask profile_step (λ c. rest_by (context_step profile) (command_by run caller profile words) (named_onward run profile caller words) b)) (IfOkay (Finished (command_of words) path))
  unfolding named_onward
  named_keeps caller [] = keeps_ended look Home profile_name LIMIT_BYTES h (Err (no_command None)) (IfOkay (Finished None path)) (λ c. tt)
  named_keeps caller (word ∷ words) = word_keeps caller word words (named word)

-- whose pledge it is, where each is that run's
found_run : {A E : Type 0} (run : ℕ) (profile : List NamedValue) (pledge : A → Pledge) (value : Result A E) → ((found : A) → (pledge found).run ≡ run) → (pledge_found run profile pledge value).run ≡ run
found_run run profile pledge (Ok found) each = each found
found_run run profile pledge (Err e) each = refl

words_run : {W : Type 0} (run : ℕ) (profile context : List NamedValue) (value : Result W Ended) (named_in : W → Option (List ℕ)) (pledge : W → List ℕ → Pledge) → ((words : W) (folder : List ℕ) → (pledge words folder).run ≡ run)
    → (pledge_by_words run profile context value named_in pledge).run ≡ run
words_run run profile context value named_in pledge each =
    found_run run profile (λ words. pledge_found run profile (pledge words) (folder_of (named_in words) context profile)) value (λ words. found_run run profile (pledge words) (folder_of (named_in words) context profile) (each words))

pub pledge_run : (run : ℕ) (caller : Caller) (words : List (List ℕ)) (profile context : List NamedValue) → (command_pledge run caller words profile context).run ≡ run
pledge_run run caller [] profile context = refl
pledge_run run caller (word ∷ words) profile context = go (named word)
  where
    marks : (said : MarkWords) (folder : List ℕ) (act : Option MarkAct) → (pledge_by run (path_of profile) (mark_job folder said profile) act).run ≡ run
    marks said folder None = refl
    marks said folder (Some a) = refl

    picks : (said : PickWords) (folder : List ℕ) (p : Option PickMarks) → (pick_pledge_by run (path_of profile) (pick_job folder said profile) p).run ≡ run
    picks said folder None = refl
    picks said folder (Some p) = refl

    tells : (said : FolderWords) (folder : List ℕ) (specs : List (List ℕ)) → (tell_pledge_by run (path_of profile) (tell_job folder said profile) specs).run ≡ run
    tells said folder [] = refl
    tells said folder (word ∷ words) = refl

    tasks : (said : FolderWords) (folder : List ℕ) (k : Bool) → (task_pledge run profile said folder k).run ≡ run
    tasks said folder true = refl
    tasks said folder false = tells said folder said.specs

    go : (name : Option CommandName) → (word_pledge run caller profile context words name).run ≡ run
    go None = refl
    go (Some Inc) = found_run run profile (asked_pledge run (path_of profile)) (job_by caller profile (inc_said profile (map chars words))) (λ asked. refl)
    go (Some Scan) = refl
    go (Some Mark) = words_run run profile context (mark_said profile (map chars words)) _ _ (λ said folder. marks said folder said.act)
    go (Some Pick) = words_run run profile context (picked_by caller profile (map chars words)) _ _ (λ said folder. picks said folder said.marks)
    go (Some Refile) = words_run run profile context (refile_said profile (map chars words)) _ _ (λ said folder. refl)
    go (Some Rmm) = words_run run profile context (rmm_said profile (map chars words)) _ _ (λ said folder. refl)
    go (Some FolderCommand) = words_run run profile context (tell_said profile (map chars words)) _ _ (λ said folder. tasks said folder said.pack)
    go (Some Anno) = words_run run profile context (annotated_by caller profile (map chars words)) _ _ (λ said folder. refl)
    go (Some Sortm) = words_run run profile context (sort_said profile (map chars words)) _ _ (λ said folder. refl)
    go (Some Mhlist) = words_run run profile context (list_said profile (map chars words)) _ _ (λ said folder. refl)
    go (Some Mhstore) = words_run run profile context (store_said profile (map chars words)) _ _ (λ said folder. refl)
    go (Some Mhbuild) = found_run run profile _ (build_said profile (map chars words)) (λ said. refl)

module _ (run : ℕ) (few : run < 2 ^ 128) (caller : Caller) (words : List (List ℕ)) where
  -- the command, by what reading the profile gave
  abbrev pub next_by : Reading → Ending Unit
  next_by r = lifted plain (text_by r) >>= (λ text. command_by run caller (entries_in text) words)

  command_is : command run caller words ≡ Ask profile_step (λ a. next_by (reading_of a))
  unfolding command text_read read ask lifted bind ◌>>=◌
  command_is = refl

  abbrev step_by : Reading → Step
  step_by r = context_step (entries_in (text_of r))

  unfoldable pub onward_by : (r : Reading) → Onward (step_by r) (next_by r)
  unfolding lifted bind ◌>>=◌
  onward_by (reading.Content bytes) = named_onward run (entries_in bytes) caller words
  onward_by (reading.Long l) = inl (Err (plain (too_large l)), refl)
  onward_by reading.Gone = named_onward run (entries_in []) caller words

  abbrev pub plan_by : Reading → Answer → Ending Unit
  plan_by r b = Ask profile_step (λ c. rest_by (step_by r) (next_by r) (onward_by r) b)

  -- whatever the profile and the context were, the call keeps the rules of its pledge
  pub read_keeps : (h : Hand) (r : Reading) (b : Answer) → Keeps (rules_of (command_pledge run caller words (entries_in (text_of r)) (entries_by b))) [] h (plan_by r b) (IfOkay (Finished (command_of words) (path_of (entries_in (text_of r)))))
  unfolding onward_by lifted bind ◌>>=◌
  read_keeps h (reading.Content bytes) b = named_keeps run few (entries_in bytes) h b caller words
  read_keeps h (reading.Long l) b = keeps_ended (command_pledge run caller words (entries_in []) (entries_by b)) Home profile_name LIMIT_BYTES h (Err (plain (too_large l))) (IfOkay (Finished (command_of words) (path_of (entries_in [])))) (λ c. tt)
  read_keeps h reading.Gone b = named_keeps run few (entries_in []) h b caller words

  -- the answers to the first two steps of a run of the command
  abbrev pub Answered : Hand → Hand → List Done → Exit (Result Unit Ended) → Type 0
  Answered h j ds exit = TwoAnswers profile_step (λ a. step_by (reading_of a)) (λ a. next_by (reading_of a)) (λ a. onward_by (reading_of a)) h j ds exit

  pub answers_of : (h j : Hand) (ds : List Done) (exit : Exit (Result Unit Ended)) → Runs (command run caller words) h ds j exit → Answered h j ds exit
  answers_of h j ds exit f =
      two_answers profile_step (λ a. step_by (reading_of a)) (λ a. next_by (reading_of a)) h j ds exit (λ a. onward_by (reading_of a)) (subst (λ p. Runs p h ds j exit) command_is f)

  abbrev pub End : Answer → List Done → Hand → Unit {0} → Type 0
  End a = Finished (command_of words) (path_by a)

  abbrev pub pledge_at : Answer → Answer → Pledge
  pledge_at a b = command_pledge run caller words (entries_by a) (entries_by b)

  -- where the command is Done, no step has failed, and it is done as it pledged
  ended_so : (h j : Hand) (ds : List Done) (result : Result Unit Ended) → (t : Answered h j ds (exit_of ended_cause result)) → result ≡ Ok tt → Finished (command_of words) (path_by t.first) ds j tt
  ended_so h j ds result t e =
      let kept = run_keeps (rules_of (pledge_at t.first t.second)) [] h (plan_by (reading_of t.first) t.second) ds j (exit_of ended_cause result) (IfOkay (End t.first)) (read_keeps h (reading_of t.first) t.second) t.runs in
      subst (λ r. IsKeptExit (rules_of (pledge_at t.first t.second)) (IfOkay (End t.first)) ds j (exit_of ended_cause r)) e kept.gave

  module _ (x y : State) (result : Result Unit Ended) (f : Follows run ended_cause (command run caller words) x y result) where
    abbrev pub deeds : List Done
    deeds = deeds_in f.went.log

    abbrev pub answers : Answered x.hand y.hand deeds (exit_of ended_cause result)
    answers = answers_of x.hand y.hand deeds (exit_of ended_cause result) f.went.runs

    -- it follows the plan with the answers that it got
    pub follows_pledged : (t : Answered x.hand y.hand deeds (exit_of ended_cause result)) → Follows (pledge_at t.first t.second).run ended_cause (plan_by (reading_of t.first) t.second) x y result
    follows_pledged t =
        subst (λ n. Follows n ended_cause (plan_by (reading_of t.first) t.second) x y result) (sym (pledge_run run caller words (entries_by t.first) (entries_by t.second)))
        (follows_so run ended_cause (command run caller words) (plan_by (reading_of t.first) t.second) x y result f t.runs)

    pub command_clean : result ≡ Ok tt → HasFailed (acts deeds) → ⊥
    command_clean e = (ended_so x.hand y.hand deeds result answers e).unfailed

    -- a call that follows a command keeps the pledge that its profile, its words and the context make
    pub command_keeps : KeepsPledge run caller words x y result
    command_keeps = kept_by answers
      where
        kept_by : Answered x.hand y.hand deeds (exit_of ended_cause result) → KeepsPledge run caller words x y result
        kept_by t = record {
          profile = t.first;
          context = t.second;
          own = acts deeds;
          made = acts_made run x.files.story y.files.story f.went.log f.went.grows;
          begun = acts_begin_with profile_step t.first (step_by (reading_of t.first)) t.second deeds t.begin;
          finished = λ e. (ended_so x.hand y.hand deeds result t e).is_done;
          promises = keeps_pledge (pledge_at t.first t.second) ended_cause (plan_by (reading_of t.first) t.second) x y result (IfOkay (End t.first)) (read_keeps x.hand (reading_of t.first) t.second) (follows_pledged t);
        }
