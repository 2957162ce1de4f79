-- The promises of the top call, from the plan that it followed.
use Rattle.std.specs.String.{string_bytes}
use Rattle.std.proofs.lemmas.Str.{IsUtf8-string_bytes}
use Rattle.std.proofs.Common.{◌≡◌, ◌≢◌, ◌⊎◌, inl, inr, ◌++◌, ◌<◌, ◌^◌, ℕ, ◌+◌, Bool, true, false, List, [], ◌∷◌, Option, Some, None, Result, Ok, Err, length, refl, sym, ◌∙◌, ap, subst, append-nil, String, map}
use Rattle.mh_base.specs.Counts.{Rose}
use Rattle.mh_base.specs.Streams.{Adds, AddsPart}
use Rattle.folder_files.specs.Deeds as deeds
use Rattle.folder_files.specs.Histories.{IsAlone, own, past_of}
use Rattle.folder_files.specs.Story.{IsPossible, Story, Grows, GrowsBy}
use Rattle.folder_files.specs.Worlds.{IsStart}
use Rattle.folder_files.specs.declared.place.Place.{Place}
use Rattle.folder_files.specs.declared.refusal.Refusal.{Refusal}
use Rattle.folder_files.specs.declared.refusal.Which.{Which}
use Rattle.folder_files.specs.declared.refusal.Which.TheVariants.{Files, Source, Out}
use Rattle.file_plans.specs.Agreeing.{FitPast, MailboxAgrees, AgreesWith, is_first_met, numbers_put}
use Rattle.file_plans.specs.Alone.{first_of, world_at, mailbox_at}
use Rattle.file_plans.specs.Contents.{Contents, by_contents, contents_of, mailbox_in}
use Rattle.file_plans.specs.Follows.{Hears, TakesAll, Went, filed_in, deeds_in}
use Rattle.file_plans.specs.Giving as giving
use Rattle.file_plans.specs.Giving.{FitAll}
use Rattle.file_plans.specs.Mailboxes.{Mailbox}
use Rattle.file_plans.specs.Plan.{Hand, Plan, fresh}
use Rattle.file_plans.specs.Runs.{Deed, Exit, InFailed, NoMemory as NoRoom, Returned, OutFailed, OfPlan, Runs, exit_by, exit_of}
use Rattle.file_plans.specs.Sightings.{AreMade, Made, events_since, IsFailed}
use Rattle.file_plans.specs.Text.{said_of}
use Rattle.file_plans.specs.Views.{View, by_view, first_view, nothing_seen}
use Rattle.file_plans.proofs.Acting.{acts, acts_made}
use Rattle.file_plans.proofs.Beside.{fit_acts, lone_changes}
use Rattle.file_plans.proofs.Both.{GaveSeen, alone_fit, seen_gave, alone_gave, possible_agrees}
use Rattle.file_plans.proofs.Contents.{mailbox_is}
use Rattle.file_plans.proofs.Existing.{puts_in}
use Rattle.file_plans.proofs.Failing.{said_are, failed_made, made_failed, run_failed}
use Rattle.file_plans.proofs.Giving.{run_gives}
use Rattle.step_plans.specs.CommandFaults.{command_cause}
use Rattle.step_plans.specs.Pledges.{Pledge}
use Rattle.step_plans.specs.Promises.{Promises}
use Rattle.step_plans.specs.declared.command_fault.CommandFault.{CommandFault}
use Rattle.step_plans.specs.declared.command_fault.CommandFault.TheVariants as fault
use Rattle.command_stages.specs.Works.{Work}
use Rattle.opening_plans.specs.Making.{IsBare}
use Rattle.opening_plans.proofs.HomesFound.{homes_there}
use Rattle.opening_plans.specs.Endings.{IsEndedBy}
use Rattle.refile_plans.specs.RefileAnswers.{IsEndedFirst}
use Rattle.command_ends.specs.BegunCauses.{ShowsFault, ShowsOnFolder}
use Rattle.command_ends.specs.BuildCauses.{ShowsBuilt}
use Rattle.command_plans.specs.Command.{command}
use Rattle.command_words.specs.Ended.{ended_cause}
use Rattle.command_plans.specs.LeavesInput.{IsNotOfInput, LeavesInput}
use Rattle.command_plans.specs.CommandNames.{begins_folders, command_of, makes_folders, stores_files}
use Rattle.command_outcomes.specs.Outcomes.{work_of}
use Rattle.command_plans.specs.declared.name.CommandName.{CommandName}
use Rattle.command_plans.specs.declared.name.CommandName.TheVariants.{Anno, Folder as FolderCommand, Inc, Mark, Mhbuild, Mhlist, Mhstore, Pick, Refile, Rmm, Scan, Sortm}
use Rattle.command_words.specs.declared.ended.Ended.{Ended}
use Rattle.command_ends.proofs.BegunEnding.{run_ends_by, run_tells}
use Rattle.command_ends.proofs.BuildEnding.{StopsBuilt, run_build_ends_by, run_build_tells}
use Rattle.command_ends.proofs.Ending.{EndsAs, ShowsLooked, run_ends}
use Rattle.command_outcomes.proofs.Giving.{IsLateEnd, DecidesEnd, ByFault, CommandEnds, command_gives}
use Rattle.command_plans.proofs.FolderChars.{AreUtf8}
use Rattle.command_outcomes.proofs.HeardCommand.{IsNotDone, command_given, command_heeds, given_same}
use Rattle.command_pledges.proofs.MarksKept.{command_keeps_marks}
use Rattle.command_pledges.proofs.Pledging.{command_clean, command_keeps}
use Rattle.command_ends.proofs.RefileEnding.{run_refile_ends_by, run_refile_silent}
use Rattle.command_outcomes.proofs.Unlinked.{command_first}
use Rattle.mh_tools.proofs.Told.{adds_none, fault_undone}
use Rattle.mh_tools.proofs.BareWorlds.{story_bare}
use Rattle.mhbuild_plans.specs.BuildAlone.{IsHeard}
use Rattle.mhbuild_plans.specs.Heard.{Heard, TooMuch, Whole, heard_text}
use Rattle.mhbuild_plans.proofs.Heeding.{HeardAs, heard_all, in_vain, unheard}
use Rattle.mhbuild_plans.proofs.InputHeard.{heard_are, heard_of, same_acts, same_said}
use Rattle.mh_tools.specs.AnswersAlone.{ByHeard, HasHeard, HasOutcome, IsUnfaulted, HasOutcomeAlone, AloneIfTold, AnswersAlone}
use Rattle.mh_tools.specs.AnswersAsOne.{AnswersAsOne}
use Rattle.mhstore_plans.specs.ClearWork.{HasClearWork}
use Rattle.mh_tools.specs.Calls.{Builds, Call, LooksOnly, MakesFolder, StoresFiles, begins, ends, MadeBy}
use Rattle.mh_tools.specs.FollowsItsPlan.{TellsStatus, FollowsItsPlan}
use Rattle.mh_tools.specs.IsCaused.{IsCaused, IsShown, IsShownBegun, IsShownBuilt, IsShownRefiled, MayBegin, Refiles}
use Rattle.mh_tools.specs.KeepsMail.{KeepsMail, KeepsMarks}
use Rattle.mh_tools.specs.ReadsInput.{HasTakenAll, ReadsInput}
use Rattle.mh_tools.specs.Lines.{error_line_of}
use Rattle.mh_tools.specs.Outcome.{error_of, answered, outcome_of}
use Rattle.mh_tools.specs.Status.{fault_status, ended_status, ended_word, IsVerdict}
use Rattle.mh_tools.specs.TellsWhatItSaw.{SomeAgrees, IsLate, TellsIfItLooks}
use Rattle.mh_tools.specs.declared.status.Status.{Status}
use Rattle.mh_tools.specs.declared.status.Status.TheVariants.{Done, Refused, Faulted, Locked, Meddled, NoMemory}
use Rattle.mh_tools.specs.Callers.{caller_of}

-- the fault of a status
fault_refused : (k : CommandFault) (r : Refusal) → fault_status k ≡ Refused r → k ≡ fault.Refused r
fault_refused (fault.Refused q) r e = cc
fault_refused (fault.Faulted w) r e = cc
fault_refused (fault.Locked p) r e = cc
fault_refused (fault.Meddled p x) r e = cc
fault_refused fault.Memory r e = cc

fault_faulted : (k : CommandFault) (w : Which) → fault_status k ≡ Faulted w → k ≡ fault.Faulted w
fault_faulted (fault.Refused q) w e = cc
fault_faulted (fault.Faulted v) w e = cc
fault_faulted (fault.Locked p) w e = cc
fault_faulted (fault.Meddled p x) w e = cc
fault_faulted fault.Memory w e = cc

fault_locked : (k : CommandFault) (q : Place) → fault_status k ≡ Locked q → k ≡ fault.Locked q
fault_locked (fault.Refused r) q e = cc
fault_locked (fault.Faulted w) q e = cc
fault_locked (fault.Locked p) q e = cc
fault_locked (fault.Meddled p x) q e = cc
fault_locked fault.Memory q e = cc

fault_meddled : (k : CommandFault) (q : Place) (y : List ℕ) → fault_status k ≡ Meddled q y → k ≡ fault.Meddled q y
fault_meddled (fault.Refused r) q y e = cc
fault_meddled (fault.Faulted w) q y e = cc
fault_meddled (fault.Locked p) q y e = cc
fault_meddled (fault.Meddled p x) q y e = cc
fault_meddled fault.Memory q y e = cc

-- a command that looks makes no folder
looks_made : (name : Option CommandName) → begins_folders name ≡ false → makes_folders name ≡ true → ⊥
looks_made None looks made = cc (made)
looks_made (Some Inc) looks made = cc (looks)
looks_made (Some Scan) looks made = cc (made)
looks_made (Some Mark) looks made = cc (made)
looks_made (Some Pick) looks made = cc (made)
looks_made (Some Refile) looks made = cc (looks)
looks_made (Some Rmm) looks made = cc (made)
looks_made (Some FolderCommand) looks made = cc (made)
looks_made (Some Anno) looks made = cc (made)
looks_made (Some Sortm) looks made = cc (made)
looks_made (Some Mhlist) looks made = cc (made)
looks_made (Some Mhstore) looks made = cc (made)
looks_made (Some Mhbuild) looks made = cc (made)

-- nor does it store files
looks_stored : (name : Option CommandName) → begins_folders name ≡ false → stores_files name ≡ true → ⊥
looks_stored None looks stored = cc (stored)
looks_stored (Some Inc) looks stored = cc (stored)
looks_stored (Some Scan) looks stored = cc (stored)
looks_stored (Some Mark) looks stored = cc (stored)
looks_stored (Some Pick) looks stored = cc (stored)
looks_stored (Some Refile) looks stored = cc (stored)
looks_stored (Some Rmm) looks stored = cc (stored)
looks_stored (Some FolderCommand) looks stored = cc (stored)
looks_stored (Some Anno) looks stored = cc (stored)
looks_stored (Some Sortm) looks stored = cc (stored)
looks_stored (Some Mhlist) looks stored = cc (stored)
looks_stored (Some Mhstore) looks stored = cc (looks)
looks_stored (Some Mhbuild) looks stored = cc (looks)

verdict_at : (s t : Status) → s ≡ t → IsVerdict t → IsVerdict s
verdict_at s t e v = rw e v

failed_once : (own : List deeds.Deed) → Made IsFailed own → deeds.HasFailed own
failed_once [] m = absurd m
failed_once (d ∷ own) (inl e) = deeds.now e
failed_once (d ∷ own) (inr m) = deeds.on (failed_once own m)

-- how the plan's run ended
exit_fault : (e : Ended) (k : CommandFault) → e.fault ≡ k → exit_of ended_cause (Err e) ≡ exit_by {T = Unit {0}} e (command_cause k)
exit_fault e k is = ap (λ f. exit_by {T = Unit {0}} e (command_cause f)) is

-- the words name `mhbuild`, or another command or none
is_build : (name : Option CommandName) → (name ≡ Some Mhbuild) ⊎ (name ≢ Some Mhbuild)
is_build None = inr (λ e. cc (e))
is_build (Some Inc) = inr (λ e. cc (e))
is_build (Some Scan) = inr (λ e. cc (e))
is_build (Some Mark) = inr (λ e. cc (e))
is_build (Some Pick) = inr (λ e. cc (e))
is_build (Some Refile) = inr (λ e. cc (e))
is_build (Some Rmm) = inr (λ e. cc (e))
is_build (Some FolderCommand) = inr (λ e. cc (e))
is_build (Some Anno) = inr (λ e. cc (e))
is_build (Some Sortm) = inr (λ e. cc (e))
is_build (Some Mhlist) = inr (λ e. cc (e))
is_build (Some Mhstore) = inr (λ e. cc (e))
is_build (Some Mhbuild) = inl refl

-- a command that looks is not that one
looks_not : (name : Option CommandName) → begins_folders name ≡ false → name ≢ Some Mhbuild
looks_not name looks is = let both : false ≡ true = sym looks ∙ ap begins_folders is in cc (both)

-- an end by no fault of the input
not_source : (r : Result Unit Ended) → IsNotOfInput r → ended_status r ≡ Faulted Source → ⊥
not_source (Ok tt) f e = cc (e)
not_source (Err x) f e = f (fault_faulted x.fault Source e)

-- a call that wants memory
memory_status : (r : Result Unit Ended) → exit_of ended_cause r ≡ NoRoom → ended_status r ≡ NoMemory
memory_status (Ok tt) e = absurd (cc (e))
memory_status (Err x) e = go x.fault e
  where
    go : (k : CommandFault) → exit_by {T = Unit {0}} x (command_cause k) ≡ NoRoom → fault_status k ≡ NoMemory
    go (fault.Refused r) e = absurd (cc (e))
    go (fault.Faulted Files) e = absurd (cc (e))
    go (fault.Faulted Source) e = absurd (cc (e))
    go (fault.Faulted Out) e = absurd (cc (e))
    go (fault.Locked p) e = absurd (cc (e))
    go (fault.Meddled p y) e = absurd (cc (e))
    go fault.Memory e = refl

exit_verdict : (r : Result Unit Ended) → IsVerdict (ended_status r) → exit_of ended_cause r ≡ Returned r
exit_verdict (Ok tt) v = refl
exit_verdict (Err e) v = go e.fault v
  where
    go : (k : CommandFault) → IsVerdict (fault_status k) → exit_by {T = Unit {0}} e (command_cause k) ≡ Returned (Err e)
    go (fault.Refused r) v = refl
    go (fault.Faulted w) v = absurd v
    go (fault.Locked p) v = absurd v
    go (fault.Meddled p x) v = absurd v
    go fault.Memory v = absurd v

-- words as strings hold them are UTF-8
pub string_texts : {Z : Type 0} (words : List (String Z)) → AreUtf8 (map string_bytes words)
string_texts [] = tt
string_texts (w ∷ words) = (IsUtf8-string_bytes w, string_texts words)

module _ (c : Call) (plan : FollowsItsPlan c) where
  abbrev unread : LeavesInput (command_of c.words) c.before.input c.after.input plan.outcome
  unread = plan.unread

  abbrev run : ℕ
  run = c.setting.run

  abbrev outcome : Result Unit Ended
  outcome = plan.outcome

  abbrev exit : Exit (Result Unit Ended)
  exit = exit_of ended_cause outcome

  abbrev went : Went run (command run (caller_of c.setting) c.words) (begins c fresh) (ends c plan.left) exit
  went = plan.follows.went

  abbrev steps : List deeds.Deed
  steps = acts (deeds_in went.log)

  made : MadeBy c steps
  made = acts_made run c.before.files.story c.after.files.story went.log went.grows

  said : List ℕ
  said = said_of (deeds_in went.log)

  said_adds : Adds c.before.out.told c.after.out.told (said_of (deeds_in went.log))
  said_adds = rw said_are at went.adds

  -- the plan in which this was heard of the input
  abbrev given : Heard → Plan (Result Unit Ended)
  given heard = command_given heard run (caller_of c.setting) c.words

  -- nothing was taken of the input, where it tells what it has left
  abbrev IsLeft : Option (List ℕ) → Option (List ℕ) → Type 0
  IsLeft None None = Unit {0}
  IsLeft (Some old) (Some new) = new ≡ old
  IsLeft None (Some new) = ⊥
  IsLeft (Some old) None = ⊥

  -- how the call came to its end, by what it heard
  data Heeded : Type 0 where
    vain : (exit ≡ InFailed) ⊎ (exit ≡ NoRoom) → said_of (deeds_in went.log) ≡ [] → Heeded
    whatever : ((heard : Heard) → Runs (given heard) fresh (deeds_in went.log) plan.left exit) → IsLeft c.before.input.left c.after.input.left → Heeded
    this : (heard : Heard) (rest : List Deed) → HasHeard c.before.input.left c.after.input.left heard → Runs (given heard) fresh rest plan.left exit → steps ≡ acts rest → said_of (deeds_in went.log) ≡ said_of rest
        → ((l : ℕ) → heard ≡ TooMuch l → IsNotDone exit) → Heeded

  same_left : (l : Option (List ℕ)) → IsLeft l l
  same_left None = tt
  same_left (Some text) = refl

  none_left : (l r : Option (List ℕ)) (pieces : List (List ℕ)) → pieces ≡ [] → Hears l r pieces → IsLeft l r
  none_left None None pieces none t = tt
  none_left (Some old) (Some new) pieces none t = subst (λ ps. TakesAll old new ps) none t
  none_left None (Some new) pieces none t = absurd t
  none_left (Some old) None pieces none t = absurd t

  has_heard : (l r : Option (List ℕ)) (pieces : List (List ℕ)) (heard : Heard) → ((old new : List ℕ) → TakesAll old new pieces → IsHeard old new (heard_text heard)) → Hears l r pieces → HasHeard l r heard
  has_heard None None pieces heard f t = tt
  has_heard (Some old) (Some new) pieces heard f t = f old new t
  has_heard None (Some new) pieces heard f t = absurd t
  has_heard (Some old) None pieces heard f t = absurd t

  hears : Hears c.before.input.left c.after.input.left (heard_of (deeds_in went.log))
  hears = subst (Hears c.before.input.left c.after.input.left) (heard_are went.log) went.hears

  heeds_by : HeardAs IsNotDone given fresh plan.left exit (deeds_in went.log) → Heeded
  heeds_by (in_vain e silent) = vain e silent
  heeds_by (unheard f none) = whatever f (none_left c.before.input.left c.after.input.left (heard_of (deeds_in went.log)) none hears)
  heeds_by (heard_all heard rest runs same is stops) =
      this heard rest (has_heard c.before.input.left c.after.input.left (heard_of (deeds_in went.log)) heard is hears) runs (same_acts (deeds_in went.log) rest same) (same_said (deeds_in went.log) rest same) stops

  -- a command that does not hear goes so whatever might be heard
  unheard_runs : command_of c.words ≢ Some Mhbuild → (heard : Heard) → Runs (given heard) fresh (deeds_in went.log) plan.left exit
  unheard_runs other heard = subst (λ p. Runs p fresh (deeds_in went.log) plan.left exit) (sym (given_same run (caller_of c.setting) heard c.words other)) went.runs

  heeded : Heeded
  heeded = go (is_build (command_of c.words))
    where
      go : (command_of c.words ≡ Some Mhbuild) ⊎ (command_of c.words ≢ Some Mhbuild) → Heeded
      go (inl builds) = heeds_by (command_heeds run (caller_of c.setting) c.words builds fresh plan.left exit (deeds_in went.log) went.runs)
      go (inr other) = whatever (unheard_runs other) (subst (λ z. IsLeft c.before.input.left z.left) (sym (unread other).0) (same_left c.before.input.left))

  -- the status, where the call did not want memory for its line
  settle : (x : Status) → c.status ≡ x → (NoMemory ≡ x → ⊥) → ended_status outcome ≡ x
  settle x q never = go plan.ends_so
    where
      go : (c.status ≡ ended_status outcome) ⊎ (c.status ≡ NoMemory) → ended_status outcome ≡ x
      go (inl e) = sym e ∙ q
      go (inr e) = absurd (never (sym e ∙ q))

  verdict_so : IsVerdict c.status → IsVerdict (ended_status outcome) × (c.status ≡ ended_status outcome)
  verdict_so v = go plan.ends_so
    where
      go : (c.status ≡ ended_status outcome) ⊎ (c.status ≡ NoMemory) → IsVerdict (ended_status outcome) × (c.status ≡ ended_status outcome)
      go (inl e) = (rw e at v, e)
      go (inr e) = absurd (rw e at v)

  -- a fault of the surroundings
  faulted : (r : Result Unit Ended) (w : Which) → outcome ≡ r → ended_status r ≡ Faulted w → (e : Ended) × (exit ≡ exit_by {T = Unit {0}} e (command_cause (fault.Faulted w)))
  faulted (Ok tt) w is e = absurd (cc (e))
  faulted (Err x) w is e = (x, ap (exit_of ended_cause) is ∙ exit_fault x (fault.Faulted w) (fault_faulted x.fault w e))

  out_fault : ended_status outcome ≡ Faulted Out → exit ≡ OutFailed
  out_fault e = (faulted outcome Out refl e).1

  -- what is shown where the plan of a command returned that looks
  module _ (looks : LooksOnly c) where
    shown_at : (r : Result Unit Ended) → outcome ≡ r → exit ≡ Returned r → EndsAs run (caller_of c.setting) c.words (deeds_in went.log) plan.left r
    shown_at r is e = run_ends run (caller_of c.setting) c.words looks (deeds_in went.log) plan.left r (subst (λ x. Runs (command run (caller_of c.setting) c.words) fresh (deeds_in went.log) plan.left x) e went.runs)

    -- a fault of the plan is shown
    fault_shown : (r : Result Unit Ended) (s : Status) (k : CommandFault) → outcome ≡ r → ended_status r ≡ s → (s ≡ Done → ⊥) → ((f : CommandFault) → fault_status f ≡ s → f ≡ k) → command_cause k ≡ OfPlan → ShowsLooked run (caller_of c.setting) c.words k steps × (Made IsFailed steps → ⊥)
    fault_shown (Ok tt) s k is e never only cause = absurd (never (sym e))
    fault_shown (Err x) s k is e never only cause =
        let f : x.fault ≡ k = only x.fault e in
        let at : exit ≡ Returned (Err x) = ap (exit_of ended_cause) is ∙ (exit_fault x k f ∙ ap (exit_by {T = Unit {0}} x) cause) in
        let shows = shown_at (Err x) is at in
        (subst (λ j. ShowsLooked run (caller_of c.setting) c.words j steps) f shows.0, shows.1)

  -- and of one that may begin a folder
  module _ (few : run < 2 ^ 128) (may : MayBegin c) where
    begun_shown : (r : Result Unit Ended) (s : Status) (k : CommandFault) → outcome ≡ r → ended_status r ≡ s → (s ≡ Done → ⊥) → ((f : CommandFault) → fault_status f ≡ s → f ≡ k) → command_cause k ≡ OfPlan → IsEndedBy (ShowsFault run (caller_of c.setting) c.words) k steps
    begun_shown (Ok tt) s k is e never only cause = absurd (never (sym e))
    begun_shown (Err x) s k is e never only cause =
        let f : x.fault ≡ k = only x.fault e in
        let at : exit ≡ Returned (Err x) = ap (exit_of ended_cause) is ∙ (exit_fault x k f ∙ ap (exit_by {T = Unit {0}} x) cause) in
        subst (λ j. IsEndedBy (ShowsFault run (caller_of c.setting) c.words) j steps) f
        (run_ends_by run few (caller_of c.setting) c.words may (deeds_in went.log) plan.left (Err x) (subst (λ z. Runs (command run (caller_of c.setting) c.words) fresh (deeds_in went.log) plan.left z) at went.runs))

    begun_done : (r : Result Unit Ended) → outcome ≡ r → ended_status r ≡ Done → ShowsOnFolder run (caller_of c.setting) c.words (Ok (said_of (deeds_in went.log))) steps
    begun_done (Ok tt) is e =
        run_ends_by run few (caller_of c.setting) c.words may (deeds_in went.log) plan.left (Ok tt) (subst (λ z. Runs (command run (caller_of c.setting) c.words) fresh (deeds_in went.log) plan.left z) (ap (exit_of ended_cause) is) went.runs)
    begun_done (Err x) is e = absurd (fault_undone x.fault e)

    shown_begun : IsShownBegun c steps
    shown_begun = record {
      done = λ q. (said_of (deeds_in went.log), said_adds, begun_done outcome refl (settle Done q (λ e. cc (e))));
      refused = λ r q. begun_shown outcome (Refused r) (fault.Refused r) refl (settle (Refused r) q (λ e. cc (e))) (λ e. cc (e)) (λ f e. fault_refused f r e) refl;
      locked = λ place q. begun_shown outcome (Locked place) (fault.Locked place) refl (settle (Locked place) q (λ e. cc (e))) (λ e. cc (e)) (λ f e. fault_locked f place e) refl;
      meddled = λ place name q. begun_shown outcome (Meddled place name) (fault.Meddled place name) refl (settle (Meddled place name) q (λ e. cc (e))) (λ e. cc (e)) (λ f e. fault_meddled f place name e) refl;
      told = (said_of (deeds_in went.log), said_adds, (run_tells run few (caller_of c.setting) c.words may (deeds_in went.log) plan.left exit went.runs).0);
      out = λ q. (run_tells run few (caller_of c.setting) c.words may (deeds_in went.log) plan.left exit went.runs).1 (out_fault (settle (Faulted Out) q (λ e. cc (e))));
    }

  -- and of `refile`
  module _ (few : run < 2 ^ 128) (refiles : Refiles c) where
    refile_fault : (r : Result Unit Ended) (s : Status) (k : CommandFault) → outcome ≡ r → ended_status r ≡ s → (s ≡ Done → ⊥) → ((f : CommandFault) → fault_status f ≡ s → f ≡ k) → command_cause k ≡ OfPlan → IsEndedFirst (ShowsFault run (caller_of c.setting) c.words) k steps
    refile_fault (Ok tt) s k is e never only cause = absurd (never (sym e))
    refile_fault (Err x) s k is e never only cause =
        let f : x.fault ≡ k = only x.fault e in
        let at : exit ≡ Returned (Err x) = ap (exit_of ended_cause) is ∙ (exit_fault x k f ∙ ap (exit_by {T = Unit {0}} x) cause) in
        subst (λ j. IsEndedFirst (ShowsFault run (caller_of c.setting) c.words) j steps) f
        (run_refile_ends_by run few (caller_of c.setting) c.words refiles (deeds_in went.log) plan.left (Err x) (subst (λ z. Runs (command run (caller_of c.setting) c.words) fresh (deeds_in went.log) plan.left z) at went.runs)).1

    refile_done : (r : Result Unit Ended) → outcome ≡ r → ended_status r ≡ Done → ShowsOnFolder run (caller_of c.setting) c.words (Ok []) steps
    refile_done (Ok tt) is e =
        (run_refile_ends_by run few (caller_of c.setting) c.words refiles (deeds_in went.log) plan.left (Ok tt) (subst (λ z. Runs (command run (caller_of c.setting) c.words) fresh (deeds_in went.log) plan.left z) (ap (exit_of ended_cause) is) went.runs)).1
    refile_done (Err x) is e = absurd (fault_undone x.fault e)

    refile_silent : (said_of (deeds_in went.log) ≡ []) × (exit ≡ OutFailed → ⊥)
    refile_silent = run_refile_silent run few (caller_of c.setting) c.words refiles (deeds_in went.log) plan.left exit went.runs

    shown_refiled : IsShownRefiled c steps
    shown_refiled = record {
      done = λ q. refile_done outcome refl (settle Done q (λ e. cc (e)));
      refused = λ r q. refile_fault outcome (Refused r) (fault.Refused r) refl (settle (Refused r) q (λ e. cc (e))) (λ e. cc (e)) (λ f e. fault_refused f r e) refl;
      locked = λ place q. refile_fault outcome (Locked place) (fault.Locked place) refl (settle (Locked place) q (λ e. cc (e))) (λ e. cc (e)) (λ f e. fault_locked f place e) refl;
      meddled = λ place name q. refile_fault outcome (Meddled place name) (fault.Meddled place name) refl (settle (Meddled place name) q (λ e. cc (e))) (λ e. cc (e)) (λ f e. fault_meddled f place name e) refl;
      told = subst (Adds c.before.out.told c.after.out.told) refile_silent.0 said_adds;
      out = λ q. refile_silent.1 (out_fault (settle (Faulted Out) q (λ e. cc (e))));
    }

  -- and of `mhbuild`
  module _ (few : run < 2 ^ 128) (builds : Builds c) where
    build_fault : (r : Result Unit Ended) (s : Status) (k : CommandFault) → outcome ≡ r → ended_status r ≡ s → (s ≡ Done → ⊥) → ((f : CommandFault) → fault_status f ≡ s → f ≡ k) → command_cause k ≡ OfPlan → StopsBuilt run few (caller_of c.setting) c.words k steps
    build_fault (Ok tt) s k is e never only cause = absurd (never (sym e))
    build_fault (Err x) s k is e never only cause =
        let f : x.fault ≡ k = only x.fault e in
        let at : exit ≡ Returned (Err x) = ap (exit_of ended_cause) is ∙ (exit_fault x k f ∙ ap (exit_by {T = Unit {0}} x) cause) in
        subst (λ j. StopsBuilt run few (caller_of c.setting) c.words j steps) f
        (run_build_ends_by run few (caller_of c.setting) c.words builds (deeds_in went.log) plan.left (Err x) (subst (λ z. Runs (command run (caller_of c.setting) c.words) fresh (deeds_in went.log) plan.left z) at went.runs))

    build_done : (r : Result Unit Ended) → outcome ≡ r → ended_status r ≡ Done → ShowsBuilt run c.words (Ok (said_of (deeds_in went.log))) steps
    build_done (Ok tt) is e =
        run_build_ends_by run few (caller_of c.setting) c.words builds (deeds_in went.log) plan.left (Ok tt) (subst (λ z. Runs (command run (caller_of c.setting) c.words) fresh (deeds_in went.log) plan.left z) (ap (exit_of ended_cause) is) went.runs)
    build_done (Err x) is e = absurd (fault_undone x.fault e)

    shown_built : IsShownBuilt c steps
    shown_built = record {
      done = λ q. (said_of (deeds_in went.log), said_adds, build_done outcome refl (settle Done q (λ e. cc (e))));
      refused = λ r q. let s = build_fault outcome (Refused r) (fault.Refused r) refl (settle (Refused r) q (λ e. cc (e))) (λ e. cc (e)) (λ f e. fault_refused f r e) refl in (s.shows, s.clean);
      unlocked = λ place q. (build_fault outcome (Locked place) (fault.Locked place) refl (settle (Locked place) q (λ e. cc (e))) (λ e. cc (e)) (λ f e. fault_locked f place e) refl).unlocked;
      meddled = λ place name q. let s = build_fault outcome (Meddled place name) (fault.Meddled place name) refl (settle (Meddled place name) q (λ e. cc (e))) (λ e. cc (e)) (λ f e. fault_meddled f place name e) refl in (s.shows, s.clean);
      told = (said_of (deeds_in went.log), said_adds, (run_build_tells run few (caller_of c.setting) c.words builds (deeds_in went.log) plan.left exit went.runs).0);
      out = λ q. (run_build_tells run few (caller_of c.setting) c.words builds (deeds_in went.log) plan.left exit went.runs).1 (out_fault (settle (Faulted Out) q (λ e. cc (e))));
    }

  -- the input failed
  source_at : ended_status outcome ≡ Faulted Source → Builds c × Rose c.before.input.faults c.after.input.faults
  source_at e = go (is_build (command_of c.words))
    where
      rose : Rose c.before.input.faults c.after.input.faults
      rose = went.in_cause (faulted outcome Source refl e).1

      go : (command_of c.words ≡ Some Mhbuild) ⊎ (command_of c.words ≢ Some Mhbuild) → Builds c × Rose c.before.input.faults c.after.input.faults
      go (inl builds) = (builds, rose)
      go (inr other) = absurd (not_source outcome (unread other).1 e)

  files_at : ended_status outcome ≡ Faulted Files → Rose c.before.files.faults c.after.files.faults × Made IsFailed steps
  files_at e =
      let x = faulted outcome Files refl e in
      (went.files_cause x.1, failed_made (deeds_in went.log) (run_failed (command run (caller_of c.setting) c.words) fresh (deeds_in went.log) plan.left exit went.runs x.1))

  module _ (few : run < 2 ^ 128) where
    abbrev work : Heard → Mailbox → Work Ended
    work heard m = work_of run (caller_of c.setting) c.words heard m

    -- by contents that agree
    seen : LooksOnly c → (heard : Heard) (d : Contents) → AgreesWith d steps → GaveSeen plan.left (work heard (mailbox_in d)).text (said_of (deeds_in went.log)) exit (CommandEnds false (work heard (mailbox_in d)))
    seen looks heard d agrees =
        seen_gave (given heard) fresh plan.left (deeds_in went.log) exit (work heard (mailbox_in d)).text (CommandEnds false (work heard (mailbox_in d))) d agrees (unheard_runs (looks_not (command_of c.words) looks) heard)
        (command_gives false run d few (λ e. absurd (cc (e))) heard (caller_of c.setting) c.words (λ is. sym looks ∙ is) (λ made. absurd (looks_made (command_of c.words) looks made)) (λ stored. absurd (looks_stored (command_of c.words) looks stored)) (first_view d (numbers_put steps []) (is_first_met steps)) refl (command_first run (caller_of c.setting) c.words looks d (numbers_put steps []) fresh plan.left (deeds_in went.log) exit went.runs))

    -- what an end says of the work
    ends_verdict : (alone : Bool) (w : Work Ended) (z : View) (j : Hand) (left : List ℕ) (r : Result Unit Ended) → IsVerdict (ended_status r) → CommandEnds alone w z j left r → (left ≡ []) × DecidesEnd alone w z r
    ends_verdict alone w z j left (Ok tt) v e = e
    ends_verdict alone w z j left (Err x) v e = go x.fault v e
      where
        go : (k : CommandFault) → IsVerdict (fault_status k) → ByFault alone w z left x k → (left ≡ []) × DecidesEnd alone w z (Err x)
        go (fault.Refused r) v e = e
        go (fault.Faulted which) v e = absurd v
        go (fault.Locked p) v e = absurd v
        go (fault.Meddled p y) v e = absurd v
        go fault.Memory v e = absurd v

    all_said : (said left text : List ℕ) → said ++ left ≡ text → left ≡ [] → Adds c.before.out.told c.after.out.told said → Adds c.before.out.told c.after.out.told text
    all_said said left text e none adds = subst (Adds c.before.out.told c.after.out.told) (sym (append-nil said) ∙ (ap (λ t. said ++ t) (sym none) ∙ e)) adds

    late_status : (r : Result Unit Ended) → IsLateEnd r → IsLate (ended_status r)
    late_status r (inl is) = inl (ap ended_status is)
    late_status r (inr is) = inr (is.0, ap ended_status is.1)

    -- a verdict is the one of each mailbox that agrees, and all of its text was said
    record IsThere (heard : Heard) (m : Mailbox) : Type 0 where
      verdict : (ended_status outcome ≡ ended_status (work heard m).end) ⊎ (IsLate (ended_status outcome) × IsLate (ended_status (work heard m).end))
      text : Adds c.before.out.told c.after.out.told (work heard m).text

    there_in : LooksOnly c → (heard : Heard) (d : Contents) → AgreesWith d steps → IsVerdict (ended_status outcome) → IsThere heard (mailbox_in d)
    there_in looks heard d agrees v =
        let g = seen looks heard d agrees in
        let e = ends_verdict false (work heard (mailbox_in d)) g.view plan.left g.gave.left outcome v (g.gave.returned outcome (exit_verdict outcome v)) in
        record { verdict = by g.view e.1; text = all_said (said_of (deeds_in went.log)) g.gave.left (work heard (mailbox_in d)).text g.gave.prefix e.0 said_adds }
      where
        by : (z : View) → DecidesEnd false (work heard (mailbox_in d)) z outcome → (ended_status outcome ≡ ended_status (work heard (mailbox_in d)).end) ⊎ (IsLate (ended_status outcome) × IsLate (ended_status (work heard (mailbox_in d)).end))
        by z (inl is) = inl (ap ended_status (sym is.0))
        by z (inr late) = inr (late_status outcome late.1.1, late_status (work heard (mailbox_in d)).end late.1.0)

    is_there : LooksOnly c → (heard : Heard) (m : Mailbox) → MailboxAgrees m steps → IsVerdict (ended_status outcome) → IsThere heard m
    is_there looks heard m agrees v = subst (IsThere heard) agrees.shown (there_in looks heard agrees.contents agrees.agrees v)

    part_said : LooksOnly c → (heard : Heard) (m : Mailbox) → MailboxAgrees m steps → AddsPart c.before.out.told c.after.out.told (work heard m).text
    part_said looks heard m agrees =
        subst (λ n. AddsPart c.before.out.told c.after.out.told (work heard n).text) agrees.shown
        (let g = (seen looks heard agrees.contents agrees.agrees).gave in (said_of (deeds_in went.log), g.left, g.prefix, said_adds))

    some_text : LooksOnly c → (heard : Heard) (m : Mailbox) → MailboxAgrees m steps → exit ≡ OutFailed → (work heard m).text ≢ []
    some_text looks heard m agrees e = subst (λ n. (work heard n).text ≢ []) agrees.shown ((seen looks heard agrees.contents agrees.agrees).gave.cut e)

    is_done : (r : Result Unit Ended) → ended_status r ≡ Done → r ≡ Ok tt
    is_done (Ok tt) e = refl
    is_done (Err x) e = absurd (fault_undone x.fault e)

    shown : LooksOnly c → IsShown c steps
    unfolding outcome_of
    shown looks =
        record {
          refused = λ r q. fault_shown looks outcome (Refused r) (fault.Refused r) refl (settle (Refused r) q (λ e. cc (e))) (λ e. cc (e)) (λ f e. fault_refused f r e) refl;
          out = λ q m heard agrees. some_text looks heard m agrees (out_fault (settle (Faulted Out) q (λ e. cc (e))));
          locked = λ place q. fault_shown looks outcome (Locked place) (fault.Locked place) refl (settle (Locked place) q (λ e. cc (e))) (λ e. cc (e)) (λ f e. fault_locked f place e) refl;
          meddled = λ place name q. fault_shown looks outcome (Meddled place name) (fault.Meddled place name) refl (settle (Meddled place name) q (λ e. cc (e))) (λ e. cc (e)) (λ f e. fault_meddled f place name e) refl;
        }

    pub caused : IsCaused c
    caused =
        record {
          deeds = steps;
          made = made;
          done = λ q m. command_clean run few (caller_of c.setting) c.words (begins c fresh) (ends c plan.left) outcome plan.follows (is_done outcome (settle Done q (λ e. cc (e)))) (failed_once steps m);
          files = λ q. files_at (settle (Faulted Files) q (λ e. cc (e)));
          source = λ q. source_at (settle (Faulted Source) q (λ e. cc (e)));
          out = λ q. went.out_cause (out_fault (settle (Faulted Out) q (λ e. cc (e))));
          shown = shown;
          begun = λ may. shown_begun few may;
          refiled = λ refiles. shown_refiled few refiles;
          built = λ builds. shown_built few builds;
        }

    some_agrees : (old new : Option Story) → GrowsBy run old new (filed_in went.log) → AreMade run old new steps → SomeAgrees old steps
    some_agrees None None grows made_ = tt
    some_agrees None (Some new) grows made_ = absurd grows
    some_agrees (Some old) None grows made_ = absurd grows
    some_agrees (Some old) (Some new) grows made_ = λ possible. possible_agrees run old new (filed_in went.log) (deeds_in went.log) grows possible (sym made_)

    pub tells : TellsIfItLooks c
    unfolding outcome_of
    tells looks =
        record {
          deeds = steps;
          made = made;
          exists = some_agrees c.before.files.story c.after.files.story went.grows made;
          prefix = λ m heard agrees. part_said looks heard m agrees;
          whole = λ m heard agrees v. (is_there looks heard m agrees (verdict_so v).0).text;
          verdict = λ m heard agrees v. so m heard agrees (verdict_so v);
        }
      where
        so : (m : Mailbox) (heard : Heard) → MailboxAgrees m steps → IsVerdict (ended_status outcome) × (c.status ≡ ended_status outcome) → (c.status ≡ ended_status (work heard m).end) ⊎ (IsLate c.status × IsLate (ended_status (work heard m).end))
        so m heard agrees s = by (is_there looks heard m agrees s.0).verdict
          where
            by : (ended_status outcome ≡ ended_status (work heard m).end) ⊎ (IsLate (ended_status outcome) × IsLate (ended_status (work heard m).end)) → (c.status ≡ ended_status (work heard m).end) ⊎ (IsLate c.status × IsLate (ended_status (work heard m).end))
            by (inl is) = inl (s.1 ∙ is)
            by (inr late) = inr (subst IsLate (sym s.1) late.0, late.1)

    pub keeps : KeepsMail c
    keeps =
        let k = command_keeps run few (caller_of c.setting) c.words (begins c fresh) (ends c plan.left) outcome plan.follows in
        record { profile = k.profile; context = k.context; deeds = k.own; made = k.made; begun = k.begun; finished = λ q. k.finished (is_done outcome (settle Done q (λ e. cc (e)))); promises = moved k.promises }
      where
        moved : {w : Pledge} → Promises w (begins c fresh) (ends c plan.left) → Promises w (begins c fresh) (ends c fresh)
        moved p = record { careful = p.careful; as_pledged = p.as_pledged; by_bases = p.by_bases; safe = p.safe; in_order = p.in_order }

    pub marks : AreUtf8 c.words → KeepsMarks c
    marks texts = command_keeps_marks run few (caller_of c.setting) (begins c fresh) (ends c plan.left) outcome c.words texts plan.follows

    -- alone
    error_told : (r : Result Unit Ended) (s : Status) → s ≡ ended_status r → IsVerdict s → TellsStatus (ended_word r) c.before.err c.after.err s → (Rose c.before.err.faults c.after.err.faults → ⊥) → Adds c.before.err.told c.after.err.told (error_of r)
    error_told (Ok tt) s is v told never = silent (subst (λ x. TellsStatus None c.before.err c.after.err x) is told)
      where
        silent : c.after.err ≡ c.before.err → Adds c.before.err.told c.after.err.told []
        silent e = rw e (adds_none c.before.err.told)
    error_told (Err x) s is v told never = go (fault_status x.fault) (subst IsVerdict is v) (subst (λ y. TellsStatus x.word c.before.err c.after.err y) is told) refl
      where
        go : (y : Status) → IsVerdict y → TellsStatus x.word c.before.err c.after.err y → fault_status x.fault ≡ y → Adds c.before.err.told c.after.err.told (error_line_of x.word (fault_status x.fault))
        go Done v told e = absurd (fault_undone x.fault e)
        go (Refused r) v (inl t) e = subst (λ y. Adds c.before.err.told c.after.err.told (error_line_of x.word y)) (sym e) t
        go (Refused r) v (inr t) e = absurd (never t.1)
        go (Faulted which) v told e = absurd v
        go (Locked p) v told e = absurd v
        go (Meddled p y) v told e = absurd v
        go NoMemory v told e = absurd v

    module _ (is : c.status ≡ ended_status outcome) where
      -- the outcome on the mailbox that the call came upon
      answers_by : (w : Work Ended) (z : View) (j : Hand) (left : List ℕ) (after : Mailbox) → mailbox_in z.contents ≡ after → said_of (deeds_in went.log) ++ left ≡ w.text → IsVerdict (ended_status outcome) → CommandEnds true w z j left outcome → HasOutcome (answered w) after c
      answers_by w z j left after there prefix v e =
          let k = ends_verdict true w z j left outcome v e in
          let d = surely k.1 in
          let at : c.status ≡ ended_status w.end = is ∙ ap ended_status (sym d.0) in
          record {
            verdict = verdict_at c.status (ended_status outcome) is v;
            ends = at;
            output = all_said (said_of (deeds_in went.log)) left w.text prefix k.0 said_adds;
            mailbox = sym there ∙ d.1 refl;
            error = λ never. subst (λ r. Adds c.before.err.told c.after.err.told (error_of r)) (sym d.0) (error_told outcome c.status is (verdict_at c.status (ended_status outcome) is v) plan.told never);
          }
        where
          surely : DecidesEnd true w z outcome → (w.end ≡ outcome) × (true ≡ true → mailbox_in z.contents ≡ w.mailbox)
          surely (inl d) = d
          surely (inr late) = absurd (let e : true ≡ false = late.0 in cc)

    module _ (unfaulted : IsUnfaulted c) (is : c.status ≡ ended_status outcome) where
      -- a verdict, or want of memory
      verdict_by : (w : Work Ended) (z : View) (j : Hand) → giving.Gave z j w.text (said_of (deeds_in went.log)) exit (CommandEnds true w) → (r : Result Unit Ended) → outcome ≡ r → (c.status ≡ NoMemory) ⊎ IsVerdict (ended_status outcome)
      verdict_by w z j g (Ok tt) same = inr (subst (λ r. IsVerdict (ended_status r)) (sym same) tt)
      verdict_by w z j g (Err x) same = go x.fault refl
        where
          at : (k : CommandFault) → x.fault ≡ k → exit ≡ exit_by {T = Unit {0}} x (command_cause k)
          at k e = ap (exit_of ended_cause) same ∙ exit_fault x k e

          ended_at : (k : CommandFault) → x.fault ≡ k → command_cause k ≡ OfPlan → ByFault true w z g.left x k
          ended_at k e cause = subst (λ f. ByFault true w z g.left x f) e (g.returned (Err x) (at k e ∙ ap (exit_by {T = Unit {0}} x) cause))

          go : (k : CommandFault) → x.fault ≡ k → (c.status ≡ NoMemory) ⊎ IsVerdict (ended_status outcome)
          go (fault.Refused r) e = inr (subst (λ q. IsVerdict (ended_status q)) (sym same) (subst (λ f. IsVerdict (fault_status f)) (sym e) tt))
          go (fault.Faulted Files) e = absurd (unfaulted.files (went.files_cause (at (fault.Faulted Files) e)))
          go (fault.Faulted Source) e = absurd (unfaulted.source (went.in_cause (at (fault.Faulted Source) e)))
          go (fault.Faulted Out) e = absurd (unfaulted.out (went.out_cause (at (fault.Faulted Out) e)))
          go (fault.Locked p) e = absurd (ended_at (fault.Locked p) e refl refl)
          go (fault.Meddled p y) e = absurd (ended_at (fault.Meddled p y) e refl refl)
          go fault.Memory e = inl (is ∙ (ap ended_status same ∙ ap fault_status e))

      module _ (old new : Story) (grows : Grows run old new (filed_in went.log)) (made_ : AreMade run (Some old) (Some new) steps) (added : List ℕ) (asked : new.asked ≡ old.asked ++ added) (start : IsStart new.start) (possible : IsPossible old)
          (alone : IsAlone run new.start new.history added) (clear : StoresFiles c → HasClearWork run (contents_of (world_at new (first_of (length old.history) added)))) where
        abbrev first_ : ℕ
        first_ = first_of (length old.history) added

        abbrev d : Contents
        d = contents_of (world_at new first_)

        abbrev after_ : Mailbox
        after_ = mailbox_at new (first_ + length added)

        -- what it came to where this was heard
        record Came (heard : Heard) : Type 0 where
          view : View
          there : mailbox_in view.contents ≡ after_
          gave : giving.Gave view plan.left (work heard (mailbox_in d)).text (said_of (deeds_in went.log)) exit (CommandEnds true (work heard (mailbox_in d)))

        came : (heard : Heard) (rest : List Deed) → Runs (given heard) fresh rest plan.left exit → steps ≡ acts rest → said_of (deeds_in went.log) ≡ said_of rest → Came heard
        came heard rest runs did said_ =
            let never : Made IsFailed (own run (past_of (events_since old new))) → ⊥ = λ failed. unfaulted.files (went.failed_cause (made_failed (deeds_in went.log) (rw (← made_) at failed))) in
            let w = work heard (mailbox_in d) in
            let g = alone_gave (λ p x. false) run old new added (given heard) fresh plan.left rest exit w.text (CommandEnds true w) (lone_changes run old new (filed_in went.log) added grows asked start possible alone never) (sym made_ ∙ did) runs
            (command_gives true run d few (λ e p. homes_there run d p) heard (caller_of c.setting) c.words (λ is. refl) (λ makes. story_bare new first_) clear (first_view d (puts_in rest) (λ p x. false)) refl (record { seen = refl; unmet = λ p x. refl })) in
            record {
              view = g.view;
              there = ap mailbox_in g.contents ∙ sym (mailbox_is (world_at new (first_ + length added)));
              gave = subst (λ z. giving.Gave g.view plan.left w.text z exit (CommandEnds true w)) (sym said_) g.gave;
            }

        -- its outcome then
        outcome_by : (heard : Heard) → Came heard → IsVerdict (ended_status outcome) → HasOutcome (answered (work heard (mailbox_at new first_))) after_ c
        outcome_by heard k v =
            subst (λ m. HasOutcome (answered (work heard m)) after_ c) (sym (mailbox_is (world_at new first_)))
            (answers_by is (work heard (mailbox_in d)) k.view plan.left k.gave.left after_ k.there k.gave.prefix v (k.gave.returned outcome (exit_verdict outcome v)))

        abbrev Answered : Type 0
        Answered = (c.status ≡ NoMemory) ⊎ ByHeard c (λ heard. HasOutcome (answered (work heard (mailbox_at new first_))) after_ c)

        by_heeded : Heeded → Answered
        by_heeded (vain (inl e) silent) = absurd (unfaulted.source (went.in_cause e))
        by_heeded (vain (inr e) silent) = inl (is ∙ memory_status outcome e)
        by_heeded (whatever f left) = go (verdict_by (work (Whole []) (mailbox_in d)) (all (Whole [])).view plan.left (all (Whole [])).gave outcome refl)
          where
            all : (heard : Heard) → Came heard
            all heard = came heard (deeds_in went.log) (f heard) refl refl

            go : (c.status ≡ NoMemory) ⊎ IsVerdict (ended_status outcome) → Answered
            go (inl none) = inl none
            go (inr v) = inr (inr (λ heard. outcome_by heard (all heard) v))
        by_heeded (this heard rest has runs did said_ stops) = go (verdict_by (work heard (mailbox_in d)) so.view plan.left so.gave outcome refl)
          where
            so : Came heard
            so = came heard rest runs did said_

            go : (c.status ≡ NoMemory) ⊎ IsVerdict (ended_status outcome) → Answered
            go (inl none) = inl none
            go (inr v) = inr (inl (heard, has, outcome_by heard so v))

      alone_told : (old new : Story) → Grows run old new (filed_in went.log) → AreMade run (Some old) (Some new) steps → HasOutcomeAlone c old new
      unfolding outcome_of
      alone_told old new grows made_ = λ added asked start possible alone clear. by_heeded old new grows made_ added asked start possible alone clear heeded

    pub answers_alone : AnswersAlone c
    answers_alone = record { answers = λ unfaulted. by_story c.before.files.story c.after.files.story went.grows made unfaulted plan.ends_so }
      where
        by_story : (old new : Option Story) → GrowsBy run old new (filed_in went.log) → AreMade run old new steps → IsUnfaulted c → (c.status ≡ ended_status outcome) ⊎ (c.status ≡ NoMemory) → AloneIfTold c old new
        by_story None None grows made_ unfaulted e = tt
        by_story None (Some new) grows made_ unfaulted e = absurd grows
        by_story (Some old) None grows made_ unfaulted e = absurd grows
        by_story (Some old) (Some new) grows made_ unfaulted (inl is) = alone_told unfaulted is old new grows made_
        by_story (Some old) (Some new) grows made_ unfaulted (inr is) = λ added asked start possible alone clear. inl is

    -- where one mailbox answers all steps
    module _ (d z : Contents) (bare : MakesFolder c → IsBare d) (clear : StoresFiles c → HasClearWork c.setting.run d) (fits : FitPast by_contents d steps z) where
      module _ (heard : Heard) (rest : List Deed) (runs : Runs (given heard) fresh rest plan.left exit) (did : steps ≡ acts rest) (said_ : said_of (deeds_in went.log) ≡ said_of rest) where
        abbrev first : View
        first = first_view d (puts_in rest) (λ p x. false)

        fitted : (y : View) × (y.contents ≡ z) × FitAll (by_view true) first rest y
        fitted = alone_fit (λ p x. false) rest d z nothing_seen (fit_acts by_contents d z rest (subst (λ o. FitPast by_contents d o z) did fits))

        gave : giving.Gave fitted.0 plan.left (work heard (mailbox_in d)).text (said_of (deeds_in went.log)) exit (CommandEnds true (work heard (mailbox_in d)))
        gave =
            subst (λ t. giving.Gave fitted.0 plan.left (work heard (mailbox_in d)).text t exit (CommandEnds true (work heard (mailbox_in d)))) (sym said_)
            (run_gives (by_view true) first fitted.0 fresh plan.left (work heard (mailbox_in d)).text (given heard) rest exit (CommandEnds true (work heard (mailbox_in d)))
            (command_gives true run d few (λ e p. homes_there run d p) heard (caller_of c.setting) c.words (λ is. refl) bare clear first refl (record { seen = refl; unmet = λ p x. refl })) fitted.2 runs)

        -- another run's lock and a name that was changed meanwhile are not answered
        never_given : (r : Result Unit Ended) (k : CommandFault) (s : Status) → outcome ≡ r → ended_status r ≡ s → (s ≡ Done → ⊥) → ((f : CommandFault) → fault_status f ≡ s → f ≡ k) → command_cause k ≡ OfPlan
            → ((left : List ℕ) (x : Ended) → ByFault true (work heard (mailbox_in d)) fitted.0 left x k → ⊥) → ⊥
        never_given (Ok u) k s same e undone only cause refutes = undone (sym e)
        never_given (Err x) k s same e undone only cause refutes =
            let f : x.fault ≡ k = only x.fault e in
            let at : exit ≡ Returned (Err x) = ap (exit_of ended_cause) same ∙ (exit_fault x k f ∙ ap (exit_by {T = Unit {0}} x) cause) in
            refutes gave.left x (subst (λ i. ByFault true (work heard (mailbox_in d)) fitted.0 gave.left x i) f (gave.returned (Err x) at))

        verdict_given : (n : Mailbox) → mailbox_in z ≡ n → IsVerdict c.status → HasOutcome (answered (work heard (mailbox_in d))) n c
        verdict_given n at v =
            let so = verdict_so v in
            answers_by so.1 (work heard (mailbox_in d)) fitted.0 plan.left gave.left n (ap mailbox_in fitted.1 ∙ at) gave.prefix so.0 (gave.returned outcome (exit_verdict outcome so.0))

        part_given : AddsPart c.before.out.told c.after.out.told (work heard (mailbox_in d)).text
        part_given = (said_of (deeds_in went.log), gave.left, gave.prefix, said_adds)

      -- nothing was said
      part_none : said_of (deeds_in went.log) ≡ [] → (text : List ℕ) → AddsPart c.before.out.told c.after.out.told text
      part_none silent text = ([], text, refl, subst (Adds c.before.out.told c.after.out.told) silent said_adds)

      -- an end that is none of the plan's
      vain_never : (r : Result Unit Ended) → exit ≡ Returned r → (exit ≡ InFailed) ⊎ (exit ≡ NoRoom) → ⊥
      vain_never r at (inl e) = let both : Returned r ≡ InFailed = sym at ∙ e in cc (both)
      vain_never r at (inr e) = let both : Returned r ≡ NoRoom = sym at ∙ e in cc (both)

      prefix_on : Heeded → ByHeard c (λ heard. AddsPart c.before.out.told c.after.out.told (work heard (mailbox_in d)).text)
      prefix_on (vain e silent) = inr (λ heard. part_none silent (work heard (mailbox_in d)).text)
      prefix_on (whatever f left) = inr (λ heard. part_given heard (deeds_in went.log) (f heard) refl refl)
      prefix_on (this heard rest has runs did said_ stops) = inl (heard, has, part_given heard rest runs did said_)

      verdict_on : Heeded → (n : Mailbox) → mailbox_in z ≡ n → IsVerdict c.status → ByHeard c (λ heard. HasOutcome (answered (work heard (mailbox_in d))) n c)
      verdict_on (vain e silent) n at v = absurd (vain_never outcome (exit_verdict outcome (verdict_so v).0) e)
      verdict_on (whatever f left) n at v = inr (λ heard. verdict_given heard (deeds_in went.log) (f heard) refl refl n at v)
      verdict_on (this heard rest has runs did said_ stops) n at v = inl (heard, has, verdict_given heard rest runs did said_ n at v)

      never : Heeded → (k : CommandFault) (s : Status) → ended_status outcome ≡ s → (s ≡ Done → ⊥) → ((f : CommandFault) → fault_status f ≡ s → f ≡ k) → command_cause k ≡ OfPlan
          → ((w : Work Ended) (y : View) (left : List ℕ) (x : Ended) → ByFault true w y left x k → ⊥) → ⊥
      never (vain e silent) k s at undone only cause refutes = stops outcome refl at
        where
          stops : (r : Result Unit Ended) → outcome ≡ r → ended_status r ≡ s → ⊥
          stops (Ok tt) same q = undone (sym q)
          stops (Err x) same q = vain_never (Err x) (ap (exit_of ended_cause) same ∙ (exit_fault x k (only x.fault q) ∙ ap (exit_by {T = Unit {0}} x) cause)) e
      never (whatever f left) k s at undone only cause refutes =
          never_given (Whole []) (deeds_in went.log) (f (Whole [])) refl refl outcome k s refl at undone only cause (λ rest x. refutes (work (Whole []) (mailbox_in d)) (fitted (Whole []) (deeds_in went.log) (f (Whole [])) refl refl).0 rest x)
      never (this heard rest has runs did said_ stops) k s at undone only cause refutes = never_given heard rest runs did said_ outcome k s refl at undone only cause (λ more x. refutes (work heard (mailbox_in d)) (fitted heard rest runs did said_).0 more x)

    by_heard : {P Q : Heard → Type 0} → ((heard : Heard) → P heard → Q heard) → ByHeard c P → ByHeard c Q
    by_heard f (inl p) = inl (p.0, p.1, f p.0 p.2)
    by_heard f (inr p) = inr (λ heard. f heard (p heard))

    pub answers_as_one : AnswersAsOne c
    unfolding outcome_of
    answers_as_one =
        record {
          deeds = steps;
          made = made;
          prefix = λ m n a. by_heard (λ heard p. subst (λ k. AddsPart c.before.out.told c.after.out.told (work heard k).text) a.shown p) (prefix_on a.contents a.left a.bare a.clear a.answers heeded);
          verdict = λ m n a v. by_heard (λ heard p. subst (λ k. HasOutcome (answered (work heard k)) n c) a.shown p) (verdict_on a.contents a.left a.bare a.clear a.answers heeded n a.made v);
          unlocked = λ m n a place q. never a.contents a.left a.bare a.clear a.answers heeded (fault.Locked place) (Locked place) (settle (Locked place) q (λ e. cc (e))) (λ e. cc (e)) (λ f e. fault_locked f place e) refl (λ w y left x e. e refl);
          unmeddled = λ m n a place name q. never a.contents a.left a.bare a.clear a.answers heeded (fault.Meddled place name) (Meddled place name) (settle (Meddled place name) q (λ e. cc (e))) (λ e. cc (e)) (λ f e. fault_meddled f place name e) refl (λ w y left x e. e refl);
        }

    -- what becomes of the input
    pub reads_input : ReadsInput c
    reads_input = record { others = λ other. (unread other).0; done = λ q. at_done heeded (is_done outcome (settle Done q (λ e. cc (e)))) }
      where
        all_taken : (l r : Option (List ℕ)) (text : List ℕ) → HasHeard l r (Whole text) → HasTakenAll l r
        all_taken None None text h = tt
        all_taken (Some old) (Some new) text h = inr h.1
        all_taken None (Some new) text h = absurd h
        all_taken (Some old) None text h = absurd h

        none_taken : (l r : Option (List ℕ)) → IsLeft l r → HasTakenAll l r
        none_taken None None h = tt
        none_taken (Some old) (Some new) h = inl h
        none_taken None (Some new) h = absurd h
        none_taken (Some old) None h = absurd h

        ends_at : outcome ≡ Ok tt → exit ≡ Returned (Ok tt)
        ends_at e = ap (exit_of ended_cause) e

        heard_done : (heard : Heard) → HasHeard c.before.input.left c.after.input.left heard → ((l : ℕ) → heard ≡ TooMuch l → IsNotDone exit) → outcome ≡ Ok tt → HasTakenAll c.before.input.left c.after.input.left
        heard_done (Whole text) has stops e = all_taken c.before.input.left c.after.input.left text has
        heard_done (TooMuch l) has stops e = absurd (stops l refl (ends_at e))

        not_vain : exit ≡ Returned (Ok tt) → (exit ≡ InFailed) ⊎ (exit ≡ NoRoom) → ⊥
        not_vain at (inl e) = let both : Returned (Ok tt) ≡ exit = sym at in let more = both ∙ e in cc (more)
        not_vain at (inr e) = let both : Returned (Ok tt) ≡ exit = sym at in let more = both ∙ e in cc (more)

        at_done : Heeded → outcome ≡ Ok tt → HasTakenAll c.before.input.left c.after.input.left
        at_done (vain v silent) e = absurd (not_vain (ends_at e) v)
        at_done (whatever f left) e = none_taken c.before.input.left c.after.input.left left
        at_done (this heard rest has runs did said_ stops) e = heard_done heard has stops e
