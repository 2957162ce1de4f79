-- `mhbuild` alone.
use Rattle.std.proofs.Common.{◌≡◌, inl, inr, ◌<◌, ◌^◌, ◌++◌, ◌∷◌, ◌+◌, ℕ, true, false, List, [], length, Option, None, Some, Result, Ok, Err, refl, sym, ◌∙◌, ap, subst, append-nil}
use Rattle.mh_base.specs.Counts.{Rose}
use Rattle.mh_base.specs.Streams.{Adds, SinkState, SourceState}
use Rattle.mh_profile.specs.Reading.{entries_in}
use Rattle.mh_profile.specs.declared.named_value.NamedValue.{NamedValue}
use Rattle.folder_files.specs.Histories.{IsAlone, own, past_of}
use Rattle.folder_files.specs.Story.{FilesState, Grows, GrowsBy, IsPossible, Story}
use Rattle.folder_files.specs.Worlds.{IsStart}
use Rattle.folder_files.specs.declared.place.Place.TheVariants.{Mail, Work}
use Rattle.folder_files.specs.declared.refusal.Refusal.{Refusal}
use Rattle.folder_files.specs.declared.refusal.Refusal.TheVariants as refusal
use Rattle.folder_files.specs.declared.refusal.Which.TheVariants.{Files, Out, Source}
use Rattle.file_plans.specs.Alone.{first_of, mailbox_at, world_at}
use Rattle.file_plans.specs.Contents.{Contents, contents_of, filled, mailbox_in}
use Rattle.file_plans.specs.Follows.{Follows, Hears, TakesAll, Went, all, deeds_in, filed_in}
use Rattle.file_plans.specs.Giving as giving
use Rattle.file_plans.specs.Giving.{Gives}
use Rattle.file_plans.specs.Mailboxes.{Mailbox, mailbox_of}
use Rattle.file_plans.specs.Plan.{Hand, Plan, Return, after, bind, ◌>>=◌}
use Rattle.file_plans.specs.Runs.{Deed, Exit, NoMemory, Returned, Runs, exit_of}
use Rattle.file_plans.specs.Sightings.{AreMade, IsFailed, Made, events_since}
use Rattle.file_plans.specs.Text.{said_of}
use Rattle.file_plans.specs.Views.{View, by_view, first_view}
use Rattle.file_plans.proofs.Acting.{acts, acts_made}
use Rattle.file_plans.proofs.Beside.{lone_changes}
use Rattle.file_plans.proofs.Both.{alone_gave}
use Rattle.file_plans.proofs.Contents.{mailbox_is}
use Rattle.file_plans.proofs.Existing.{puts_in}
use Rattle.file_plans.proofs.Failing.{made_failed, said_are}
use Rattle.step_plans.specs.CommandFaults.{command_cause}
use Rattle.step_plans.specs.ContextCommit.{LIMIT_BYTES}
use Rattle.step_plans.specs.Hands.{temp_name}
use Rattle.step_plans.specs.declared.command_fault.CommandFault.{CommandFault}
use Rattle.step_plans.specs.declared.command_fault.CommandFault.TheVariants as fault
use Rattle.command_stages.specs.Texts.{too_large}
use Rattle.command_stages.specs.Works.{Work as WorkValue, refused_at}
use Rattle.opening_plans.proofs.WorkGiven.{WorkEnds}
use Rattle.told_folders.specs.ToldAlone.{ComesTo, HasReadContext}
use Rattle.draft_files.specs.Drafts.{draft_text}
use Rattle.draft_files.specs.Hearing.{all_heard}
use Rattle.mhbuild_plans.specs.BuildAlone.{ComesToBuilt, ComesToHeard, ComesToInput, IsValid, TellsAlone, TellsIfUnfaulted, TellsInStory}
use Rattle.mhbuild_plans.specs.Building.{message_done, mhbuild, text_built}
use Rattle.mhbuild_plans.specs.BuildOutcome.{build_work, built, ended_work, named_text}
use Rattle.mhbuild_plans.specs.declared.job.BuildJob.{BuildJob}
use Rattle.mhbuild_plans.proofs.BuildGiven.{HasDraft, text_ends}
use Rattle.mhbuild_plans.specs.Heard.{Heard as HeardText, TooMuch, Whole, heard_text}
use Rattle.mhbuild_plans.proofs.InputHeard.{HeardSo, all_heard_so, heard_are, heard_of, is_heard, same_acts, same_said, stopped, went as went_on}
use Rattle.mhbuild_plans.proofs.NamedGiven.{named_gives}

module _ (run : ℕ) (path : List ℕ) (job : BuildJob) (h j : Hand) (f g : FilesState) (n m : SourceState) (x y : SinkState) (result : Result Unit CommandFault)
    (went : Went run (mhbuild run path job) (all h f n x) (all j g m y) (exit_of command_cause result)) (no_files : Rose f.faults g.faults → ⊥) (no_in : Rose n.faults m.faults → ⊥) (no_out : Rose x.faults y.faults → ⊥) where
  abbrev exit : Exit (Result Unit CommandFault)
  exit = exit_of command_cause result

  abbrev ds : List Deed
  ds = deeds_in went.log

  said_adds : Adds x.told y.told (said_of ds)
  said_adds = rw said_are at went.adds

  all_said : (said left text : List ℕ) → said ++ left ≡ text → left ≡ [] → Adds x.told y.told said → Adds x.told y.told text
  all_said said left text e none adds = subst (Adds x.told y.told) (sym (append-nil said) ∙ (ap (λ t. said ++ t) (sym none) ∙ e)) adds

  -- Done or a refusal, with its text and its mailbox
  came : (w : WorkValue CommandFault) (z : View) (said left : List ℕ) (after : Mailbox) → said_of ds ≡ said → mailbox_in z.contents ≡ after → said ++ left ≡ w.text → left ≡ [] → w.end ≡ result → mailbox_in z.contents ≡ w.mailbox → ComesTo w after x y result
  came w z said left after same there prefix none is shows = inr (sym is, all_said said left w.text prefix none (subst (Adds x.told y.told) same said_adds), sym there ∙ shows)

  -- these are the deeds by which it said what it said
  by_end : (w : WorkValue CommandFault) (z : View) (i : Hand) (es : List Deed) (after : Mailbox) → said_of ds ≡ said_of es → mailbox_in z.contents ≡ after → giving.Gave z i w.text (said_of es) exit (WorkEnds w) → (r : Result Unit CommandFault) → result ≡ r → ComesTo w after x y result
  by_end w z i es after said there gave (Ok u) same =
      let e = gave.returned (Ok u) (ap (exit_of command_cause) same) in
      came w z (said_of es) gave.left after said there gave.prefix e.0 (e.1 ∙ sym same) e.2
  by_end w z i es after said there gave (Err (fault.Refused r)) same =
      let e = gave.returned (Err (fault.Refused r)) (ap (exit_of command_cause) same) in
      came w z (said_of es) gave.left after said there gave.prefix e.0 (e.1 ∙ sym same) e.2
  by_end w z i es after said there gave (Err (fault.Faulted Files)) same = absurd (no_files (went.files_cause (ap (exit_of command_cause) same)))
  by_end w z i es after said there gave (Err (fault.Faulted Source)) same = absurd (no_in (went.in_cause (ap (exit_of command_cause) same)))
  by_end w z i es after said there gave (Err (fault.Faulted Out)) same = absurd (no_out (went.out_cause (ap (exit_of command_cause) same)))
  by_end w z i es after said there gave (Err (fault.Locked q)) same = absurd (gave.returned (Err (fault.Locked q)) (ap (exit_of command_cause) same))
  by_end w z i es after said there gave (Err (fault.Meddled q k)) same = absurd (gave.returned (Err (fault.Meddled q k)) (ap (exit_of command_cause) same))
  by_end w z i es after said there gave (Err fault.Memory) same = inl same

  -- memory was wanting
  memory_is : (r : Result Unit CommandFault) → exit_of command_cause r ≡ NoMemory → r ≡ Err fault.Memory
  memory_is (Ok u) e = cc (e)
  memory_is (Err (fault.Refused r)) e = cc (e)
  memory_is (Err (fault.Faulted Files)) e = cc (e)
  memory_is (Err (fault.Faulted Source)) e = cc (e)
  memory_is (Err (fault.Faulted Out)) e = cc (e)
  memory_is (Err (fault.Locked q)) e = cc (e)
  memory_is (Err (fault.Meddled q k)) e = cc (e)
  memory_is (Err fault.Memory) e = refl

  returned_is : (r e : Result Unit CommandFault) → exit_of command_cause r ≡ Returned e → r ≡ e
  returned_is (Ok u) e is = cc (is)
  returned_is (Err (fault.Refused r)) e is = cc (is)
  returned_is (Err (fault.Faulted Files)) e is = cc (is)
  returned_is (Err (fault.Faulted Source)) e is = cc (is)
  returned_is (Err (fault.Faulted Out)) e is = cc (is)
  returned_is (Err (fault.Locked q)) e is = cc (is)
  returned_is (Err (fault.Meddled q k)) e is = cc (is)
  returned_is (Err fault.Memory) e is = cc (is)

  module _ (old new : Story) (grows : Grows run old new (filed_in went.log)) (own_is : own run (past_of (events_since old new)) ≡ acts ds) (never : Made IsFailed (own run (past_of (events_since old new))) → ⊥)
      (added : List ℕ) (asked : new.asked ≡ old.asked ++ added) (start : IsStart new.start) (possible : IsPossible old) (alone : IsAlone run new.start new.history added) where
    abbrev c : Contents
    c = contents_of (world_at new (first_of (length old.history) added))

    abbrev after_ : Mailbox
    after_ = mailbox_at new (first_of (length old.history) added + length added)

    -- a plan that these deeds are a run of
    alone_by : (plan : Plan (Result Unit CommandFault)) (es : List Deed) (i : Hand) → acts ds ≡ acts es → said_of ds ≡ said_of es → Runs plan h es i exit → (w : WorkValue CommandFault)
        → Gives (by_view true) (first_view c (puts_in es) (λ q k. false)) h w.text plan (WorkEnds w) → ComesTo w after_ x y result
    alone_by plan es i did said runs w gives =
        let r = alone_gave (λ q k. false) run old new added plan h i es exit w.text (WorkEnds w) (lone_changes run old new (filed_in went.log) added grows asked start possible alone never) (own_is ∙ did) runs gives in
        by_end w r.view i es after_ said (ap mailbox_in r.contents ∙ sym (mailbox_is (world_at new (first_of (length old.history) added + length added)))) r.gave result refl

    module _ (few : run < 2 ^ 128) (valid : IsValid job.draft) (entries : List NamedValue) (known : h.context ≡ Some entries) (there : c.there Work ≡ true) (free : c.texts Work (temp_name run h.next) ≡ None) where
      abbrev work_by : Result (List ℕ) CommandFault → WorkValue CommandFault
      work_by text = build_work run path entries job text (mailbox_in c)

      abbrev then_built : List ℕ → Plan (Result Unit CommandFault)
      then_built text = text_built run path job text >>= message_done run job.draft

      named_tells : (name : List ℕ) → job.draft ≡ Some name → ComesTo (work_by (named_text name (mailbox_in c))) after_ x y result
      named_tells name is =
          alone_by (mhbuild run path job) ds j refl refl went.runs (work_by (named_text name (mailbox_in c)))
          (named_gives (puts_in ds) c h run few path job entries known name is (subst IsValid is valid) there free (first_view c (puts_in ds) (λ q k. false)) ((λ e. refl), refl))

      refused_tells : (e : CommandFault) (rest : List Deed) → Runs (Return (Err e)) h rest j exit → acts ds ≡ acts rest → said_of ds ≡ said_of rest → (r : Refusal) → e ≡ fault.Refused r → ComesTo (work_by (Err e)) after_ x y result
      unfolding build_work Gives
      refused_tells e rest runs did said r is =
          alone_by (Return (Err e)) rest j did said runs (refused_at (mailbox_in c) e) (subst (λ z. WorkEnds (refused_at (mailbox_in c) z) (first_view c (puts_in rest) (λ q k. false)) h [] (Err z)) (sym is) (refl, refl, refl))

      heard_tells : job.draft ≡ None → (text : List ℕ) (rest : List Deed) → Runs (then_built text) h rest j exit → acts ds ≡ acts rest → said_of ds ≡ said_of rest → ComesTo (work_by (Ok text)) after_ x y result
      unfolding build_work
      heard_tells is text rest runs did said =
          alone_by (then_built text) rest j did said runs (ended_work (mailbox_in c) job.draft text (built run path entries job (mailbox_in c) text))
          (text_ends (puts_in rest) c h run path job entries known few text (subst (λ d. HasDraft (puts_in rest) c h run path job entries known d text) (sym is) tt) (first_view c (puts_in rest) (λ q k. false)) ((λ e. refl), refl))

      -- by how the input was heard
      tells_by : job.draft ≡ None → (heard : HeardText) (rest : List Deed) → Runs (after then_built (heard_text heard)) h rest j exit → acts ds ≡ acts rest → said_of ds ≡ said_of rest → ComesTo (work_by (heard_text heard)) after_ x y result
      tells_by is (Whole text) rest runs did said = heard_tells is text rest runs did said
      tells_by is (TooMuch l) rest runs did said = refused_tells (too_large l) rest runs did said (refusal.TooLarge l LIMIT_BYTES) refl

      input_tells : job.draft ≡ None → (left later : List ℕ) → TakesAll left later (heard_of ds) → HeardSo (after then_built) h j exit [] ds → ComesToHeard work_by after_ left later x y result
      input_tells is left later t (stopped (inl e) silent) = absurd (no_in (went.in_cause e))
      input_tells is left later t (stopped (inr e) silent) = inl (memory_is result e)
      input_tells is left later t (went_on heard rest runs same behind) =
          inr (heard_text heard, is_heard left later (heard_text heard) (behind left later t), tells_by is heard rest runs (same_acts ds rest same) (same_said ds rest same))

      runs_input : job.draft ≡ None → Runs (bind all_heard (after then_built)) h ds j exit
      unfolding mhbuild ◌>>=◌
      runs_input is = subst (λ d. Runs (bind (draft_text d) (after then_built)) h ds j exit) is went.runs

      deaf : (e : CommandFault) (es : List Deed) → Runs (after then_built (Err e)) h es j exit → heard_of es ≡ []
      unfolding Runs
      deaf e [] runs = refl
      deaf e (d ∷ es) runs = absurd runs

      by_left : job.draft ≡ None → (l r : Option (List ℕ)) → Hears l r (heard_of ds) → ComesToInput work_by after_ l r x y result
      by_left is None None t = tt
      by_left is (Some l) (Some r) t = input_tells is l r t (all_heard_so (after then_built) h j exit deaf ds (runs_input is))
      by_left is None (Some r) t = absurd t
      by_left is (Some l) None t = absurd t

      by_draft : (d : Option (List ℕ)) → job.draft ≡ d → ComesToBuilt d work_by (mailbox_in c) after_ n m x y result
      by_draft None is = by_left is n.left m.left (subst (Hears n.left m.left) (heard_are went.log) went.hears)
      by_draft (Some name) is = named_tells name is

  told : (old new : Story) → Grows run old new (filed_in went.log) → own run (past_of (events_since old new)) ≡ acts ds → (Made IsFailed (own run (past_of (events_since old new))) → ⊥) → TellsAlone run path job h result n m x y old new
  unfolding mailbox_in
  told old new grows own_is never = λ added asked start possible alone few valid known clear.
      let first = world_at new (first_of (length old.history) added) in
      let is : mailbox_of first ≡ mailbox_in (contents_of first) = mailbox_is first in
      let entries = entries_in (filled ((mailbox_in (contents_of first)).context (Mail path))) in
      let known_in : HasReadContext (mailbox_in (contents_of first)) path h = subst (λ b. HasReadContext b path h) is known in
      let free : (contents_of first).texts Work (temp_name run h.next) ≡ None = ap (λ (b : Mailbox). b.work (temp_name run h.next)) (sym is) ∙ clear.free in
      subst (λ b. ComesToBuilt job.draft (λ text. build_work run path (entries_in (filled (b.context (Mail path)))) job text b) b (mailbox_at new (first_of (length old.history) added + length added)) n m x y result) (sym is)
      (by_draft old new grows own_is never added asked start possible alone few valid entries known_in.0 clear.there free job.draft refl)

pub build_alone : (run : ℕ) (path : List ℕ) (job : BuildJob) (h j : Hand) (f g : FilesState) (n m : SourceState) (x y : SinkState) (result : Result Unit CommandFault) → Follows run command_cause (mhbuild run path job) (all h f n x) (all j g m y) result
    → TellsIfUnfaulted run path job h result f g n m x y
build_alone run path job h j f g n m x y result follows no_files no_in no_out = by_story f.story g.story follows.went.grows (acts_made run f.story g.story follows.went.log follows.went.grows)
  where
    by_story : (old new : Option Story) → GrowsBy run old new (filed_in follows.went.log) → AreMade run old new (acts (deeds_in follows.went.log)) → TellsInStory run path job h result n m x y old new
    by_story None None grows made = tt
    by_story None (Some new) grows made = absurd grows
    by_story (Some old) None grows made = absurd grows
    by_story (Some old) (Some new) grows made =
        told run path job h j f g n m x y result follows.went no_files no_in no_out old new grows (sym made)
        (λ failed. no_files (follows.went.failed_cause (made_failed (deeds_in follows.went.log) (rw (← made) at failed))))
