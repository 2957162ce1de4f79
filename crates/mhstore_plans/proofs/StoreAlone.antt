-- `mhstore` alone, by what it gives.
use Rattle.std.proofs.Common.{◌≡◌, inl, inr, ◌++◌, ◌+◌, ℕ, false, List, [], length, Option, None, Some, Result, Ok, Err, refl, sym, ◌∙◌, ap, subst, append-nil, arith}
use Rattle.mh_base.specs.Counts.{Rose}
use Rattle.mh_base.specs.Streams.{Adds, SinkState}
use Rattle.mh_profile.specs.Reading.{entries_in}
use Rattle.folder_files.specs.Histories.{own, past_of}
use Rattle.folder_files.specs.Story.{FilesState, Grows, GrowsBy, Story}
use Rattle.folder_files.specs.declared.place.Place.TheVariants.{Mail}
use Rattle.folder_files.specs.declared.refusal.Which.TheVariants.{Files, Out, Source}
use Rattle.file_plans.specs.Alone.{first_of, world_at}
use Rattle.file_plans.specs.Contents.{contents_of, filled, mailbox_in}
use Rattle.file_plans.specs.Follows.{Follows, Went, by_out, deeds_in, filed_in}
use Rattle.file_plans.specs.Giving as giving
use Rattle.file_plans.specs.Mailboxes.{Mailbox, mailbox_of}
use Rattle.file_plans.specs.Plan.{Hand}
use Rattle.file_plans.specs.Runs.{Deed, Exit, exit_of}
use Rattle.file_plans.specs.Sightings.{AreMade, IsFailed, Made, events_since}
use Rattle.file_plans.specs.Text.{said_of}
use Rattle.file_plans.specs.Views.{View, first_view}
use Rattle.file_plans.proofs.Acting.{acts, acts_made}
use Rattle.file_plans.proofs.Beside.{lone_changes}
use Rattle.file_plans.proofs.Both.{alone_gave}
use Rattle.file_plans.proofs.Contents.{mailbox_is}
use Rattle.file_plans.proofs.Existing.{puts_in}
use Rattle.file_plans.proofs.Failing.{made_failed, said_are}
use Rattle.step_plans.specs.CommandFaults.{command_cause}
use Rattle.step_plans.specs.ContextCommit.{context_name}
use Rattle.step_plans.specs.declared.command_fault.CommandFault.{CommandFault}
use Rattle.step_plans.specs.declared.command_fault.CommandFault.TheVariants as fault
use Rattle.command_stages.specs.Works.{Work}
use Rattle.opening_plans.proofs.WorkGiven.{WorkEnds}
use Rattle.told_folders.specs.ToldAlone.{ComesTo, HasReadContext}
use Rattle.told_folders.proofs.ToldAlone.{short_is}
use Rattle.mhstore_plans.specs.StoreAlone.{HasNoTemps, StoresAlone, StoresIfUnfaulted, StoresInStory}
use Rattle.mhstore_plans.specs.StoreOutcome.{mhstore_work}
use Rattle.mhstore_plans.specs.Storing.{mhstore}
use Rattle.mhstore_plans.specs.declared.job.StoreJob.{StoreJob}
use Rattle.mhstore_plans.proofs.WholeGiven.{store_gives}

module _ (run : ℕ) (path : List ℕ) (job : StoreJob) (h j : Hand) (f g : FilesState) (x y : SinkState) (result : Result Unit CommandFault)
    (went : Went run (mhstore run path job) (by_out h f x) (by_out j g y) (exit_of command_cause result)) (no_files : Rose f.faults g.faults → ⊥) (no_out : Rose x.faults y.faults → ⊥) where
  abbrev exit : Exit (Result Unit CommandFault)
  exit = exit_of command_cause result

  abbrev ds : List Deed
  ds = deeds_in went.log

  said_adds : Adds x.told y.told (said_of ds)
  said_adds = rw said_are at went.adds

  all_said : (said left text : List ℕ) → said ++ left ≡ text → left ≡ [] → Adds x.told y.told said → Adds x.told y.told text
  all_said said left text e none adds = subst (Adds x.told y.told) (sym (append-nil said) ∙ (ap (λ t. said ++ t) (sym none) ∙ e)) adds

  -- Done or a refusal, with its text and its mailbox
  came : (w : Work CommandFault) (z : View) (left : List ℕ) (after : Mailbox) → mailbox_in z.contents ≡ after → said_of ds ++ left ≡ w.text → left ≡ [] → w.end ≡ result → mailbox_in z.contents ≡ w.mailbox → ComesTo w after x y result
  came w z left after there prefix none is shows = inr (sym is, all_said (said_of ds) left w.text prefix none said_adds, sym there ∙ shows)

  by_end : (w : Work CommandFault) (z : View) (after : Mailbox) → mailbox_in z.contents ≡ after → giving.Gave z j w.text (said_of ds) exit (WorkEnds w) → (r : Result Unit CommandFault) → result ≡ r → ComesTo w after x y result
  by_end w z after there gave (Ok u) same =
      let e = gave.returned (Ok u) (ap (exit_of command_cause) same) in
      came w z gave.left after there gave.prefix e.0 (e.1 ∙ sym same) e.2
  by_end w z after there gave (Err (fault.Refused r)) same =
      let e = gave.returned (Err (fault.Refused r)) (ap (exit_of command_cause) same) in
      came w z gave.left after there gave.prefix e.0 (e.1 ∙ sym same) e.2
  by_end w z after there gave (Err (fault.Faulted Files)) same = absurd (no_files (went.files_cause (ap (exit_of command_cause) same)))
  by_end w z after there gave (Err (fault.Faulted Source)) same = absurd (silent (went.in_cause (ap (exit_of command_cause) same)))
    where
      silent : Rose 0 0 → ⊥
      silent r = omega (arith, r)
  by_end w z after there gave (Err (fault.Faulted Out)) same = absurd (no_out (went.out_cause (ap (exit_of command_cause) same)))
  by_end w z after there gave (Err (fault.Locked q)) same = absurd (gave.returned (Err (fault.Locked q)) (ap (exit_of command_cause) same))
  by_end w z after there gave (Err (fault.Meddled q n)) same = absurd (gave.returned (Err (fault.Meddled q n)) (ap (exit_of command_cause) same))
  by_end w z after there gave (Err fault.Memory) same = inl same

  told : (old new : Story) → Grows run old new (filed_in went.log) → own run (past_of (events_since old new)) ≡ acts ds → (Made IsFailed (own run (past_of (events_since old new))) → ⊥) → StoresAlone run path job h result x y old new
  unfolding mailbox_in
  told old new grows own_is never = λ added asked start possible alone few known valid work_there none.
      let first = world_at new (first_of (length old.history) added) in
      let c = contents_of first in
      let last = world_at new (first_of (length old.history) added + length added) in
      let is : mailbox_of first ≡ mailbox_in c = mailbox_is first in
      let known_in : HasReadContext (mailbox_in c) path h = subst (λ m. HasReadContext m path h) is known in
      let none_in : HasNoTemps run h (mailbox_in c) = subst (λ m. HasNoTemps run h m) is none in
      let es = entries_in (filled (c.texts (Mail path) context_name)) in
      let done = mhstore_work path es job (mailbox_in c) in
      let r = alone_gave (λ q n. false) run old new added (mhstore run path job) h j ds exit done.text (WorkEnds done)
      (lone_changes run old new (filed_in went.log) added grows asked start possible alone never) own_is went.runs
      (store_gives run few path job valid c es refl (short_is (c.texts (Mail path) context_name) known_in.1) (puts_in ds) (first_view c (puts_in ds) (λ q n. false)) h refl refl known_in.0 work_there none_in) in
      subst (λ m. ComesTo (mhstore_work path (entries_in (filled (m.context (Mail path)))) job m) (mailbox_of last) x y result) (sym is)
      (by_end done r.view (mailbox_of last) (ap mailbox_in r.contents ∙ sym (mailbox_is last)) r.gave result refl)

pub store_alone : (run : ℕ) (path : List ℕ) (job : StoreJob) (h j : Hand) (f g : FilesState) (x y : SinkState) (result : Result Unit CommandFault) → Follows run command_cause (mhstore run path job) (by_out h f x) (by_out j g y) result
    → StoresIfUnfaulted run path job h result f g x y
store_alone run path job h j f g x y result follows no_files no_out = by_story f.story g.story follows.went.grows (acts_made run f.story g.story follows.went.log follows.went.grows)
  where
    by_story : (old new : Option Story) → GrowsBy run old new (filed_in follows.went.log) → AreMade run old new (acts (deeds_in follows.went.log)) → StoresInStory run path job h result x y old new
    by_story None None grows made = tt
    by_story None (Some new) grows made = absurd grows
    by_story (Some old) None grows made = absurd grows
    by_story (Some old) (Some new) grows made =
        told run path job h j f g x y result follows.went no_files no_out old new grows (sym made)
        (λ failed. no_files (follows.went.failed_cause (made_failed (deeds_in follows.went.log) (rw (← made) at failed))))
