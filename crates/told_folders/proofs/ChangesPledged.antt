-- A command that tells of a folder's sequences goes as it pledges.
use Rattle.std.proofs.Common.{◌≡◌, inr, ◌<◌, ◌^◌, ◌∷◌, [], ℕ, List, Result, Ok, Err, refl, sym, ◌∙◌, ap, subst}
use Rattle.mh_base.specs.Entries.{entry_text}
use Rattle.mh_base.specs.declared.entry.Entry.TheVariants.{Sequences}
use Rattle.mh_sequences.specs.Sequences.{Marked}
use Rattle.folder_files.specs.Deeds.{Deed}
use Rattle.folder_files.specs.declared.place.Place.{Place}
use Rattle.folder_files.specs.declared.place.Place.TheVariants.{Folder, Mail}
use Rattle.file_plans.specs.Plan.{Hand, Return, after, lifted, ◌>>=◌, bind}
use Rattle.file_plans.proofs.Framing.{AnyStep}
use Rattle.step_plans.specs.ContextCommit.{commit_context}
use Rattle.step_plans.specs.Pledges.{Pledge}
use Rattle.step_plans.specs.Settled.{AreSettled}
use Rattle.step_plans.specs.declared.change.ChangeEntry.{ChangeEntry}
use Rattle.step_plans.specs.declared.command_fault.CommandFault.{CommandFault}
use Rattle.step_plans.proofs.Facts.{once_kept}
use Rattle.step_plans.proofs.Going.{Goes, Outcome, goes_lifted, goes_more, goes_then, okay, okay_more}
use Rattle.step_plans.proofs.Pledged.{IsPledged, Known, Of, commit_goes}
use Rattle.step_plans.proofs.Stepping.{goes_end, goes_return, goes_say}
use Rattle.step_plans.proofs.Written.{Serves, goes_at}
use Rattle.step_plans.specs.CommandFaults.{of_sink}
use Rattle.sequence_commits.specs.Committing.{changed_sequences}
use Rattle.command_stages.specs.Current.{current_change, made_current}
use Rattle.command_stages.specs.Endings.{of_plan}
use Rattle.opening_plans.specs.Opening.{Opened, with_sequences}
use Rattle.opening_plans.specs.Reads.{HaveSeen}
use Rattle.folder_files.specs.Commands.{Marking}
use Rattle.folder_files.specs.declared.step.Step.{Step}
use Rattle.opening_plans.proofs.EndedKept.{Still, keeps_more}
use Rattle.opening_plans.proofs.FolderPledged.{HasBegun}
use Rattle.opening_plans.proofs.WorkPledged.{LetsBegin, begun_keeps, committed_goes, current_goes, whenever}
use Rattle.file_plans.specs.Follows.{Follows, State}
use Rattle.file_plans.specs.Rules.{IfOkay, Keeps}
use Rattle.file_plans.specs.Runs.{Deed as Done}
use Rattle.file_plans.proofs.Acting.{acts}
use Rattle.step_plans.specs.CommandFaults.{command_cause}
use Rattle.step_plans.specs.Promises.{Promises}
use Rattle.step_plans.proofs.Going.{ByActs, Sound, Soundly, goes_keeps}
use Rattle.step_plans.proofs.Promising.{keeps_pledge}
use Rattle.step_plans.proofs.Ruling.{rules_of}
use Rattle.command_stages.specs.Listed.{folder_listed}
use Rattle.command_stages.specs.Texts.{text_read}
use Rattle.mh_looks.specs.ScanPledge.{HasListed}
use Rattle.mh_looks.proofs.LooksLeave.{Lists, Looks, goes_chosen, listed_goes, text_goes}
use Rattle.told_folders.specs.Plans.{chosen_changed, folder_changed, folder_looked, lines_said, opened_told}
use Rattle.told_folders.specs.Pledge.{Changes, change_pledge, look_pledge}
use Rattle.told_folders.specs.Tasks.{Task, chosen_from, listed_runs, sequences_seen}
use Rattle.mh_profile.specs.Reading.{entries_seen}

-- lines are free to be said
module _ (w : Pledge) (tells : (own : List Deed) (piece : List ℕ) → w.may_tell own piece) where
  pub lines_go : (own : List Deed) (h : Hand) (lines : List (List ℕ)) → Goes w own h (lines_said lines) (okay (λ later j u. later ≡ own))
  unfolding lines_said
  lines_go own h [] = goes_return w own h tt (okay (λ later j u. later ≡ own)) refl
  lines_go own h (line ∷ lines) = goes_say w own h of_sink (okay (λ later j u. later ≡ own)) line (λ told. lines_said lines) (λ s. tells own line) (lines_go own h lines)

module _ (run : ℕ) (few : run < 2 ^ 128) (path : List ℕ) (task : Task) where
  abbrev w : Pledge
  w = change_pledge run path task

  abbrev p : Place
  p = Folder path task.folder

  abbrev mail : Place
  mail = Mail path

  abbrev any_piece : List Deed → List ℕ → Type 0
  any_piece own piece = Unit {0}

  abbrev any_step : List Deed → Step → Type 0
  any_step own s = Unit {0}

  pub lets : LetsBegin path task.folder (Marking path task.folder) any_step
  lets = record {
    kinds = λ own kind s k. k;
    makes = λ own q. tt;
    creates = λ own q temp bytes. tt;
    clears = λ own q temp is. tt;
    gives = λ own q held number is. tt;
    drops = λ own q held is away. tt;
    commits = λ own q temp name is. tt;
  }

  abbrev Seen : Opened → List ℕ → List ℕ → List Deed → Type 0
  Seen o text context later = HaveSeen run p mail o.listing text context later

  module _ (first own : List Deed) (o : Opened) (b : HasBegun w first path task.folder own o) (h : Hand) where
    abbrev made : List ℕ → Marked
    made numbers = task.becomes o.listing numbers o.sequences

    abbrev Marks_ : Outcome Opened
    Marks_ later j q = Seen o b.text b.context later × (AreSettled own → AreSettled later)

    -- the marks on what the words choose are committed
    commits : (numbers : List ℕ) → chosen_from task o.listing o.sequences ≡ Ok numbers
        → Goes w own h (lifted (of_plan task.folder) (changed_sequences run p mail task.folder o.sequences (made numbers)) >>= (λ done. Return (Ok (with_sequences (made numbers) o)))) (okay Marks_)
    commits numbers is =
        goes_then w own h (lifted (of_plan task.folder) (changed_sequences run p mail task.folder o.sequences (made numbers))) (λ done. Return (Ok (with_sequences (made numbers) o))) (λ later j u. Seen o b.text b.context later × (AreSettled own → AreSettled later)) Marks_
        (subst (λ m. Goes w own h (lifted (of_plan task.folder) (changed_sequences run p mail task.folder m (made numbers))) (okay (λ later j u. Seen o b.text b.context later × (AreSettled own → AreSettled later)))) (sym b.sequences)
        (committed_goes run few path task.folder (λ own. Changes task) (Marking path task.folder) any_piece any_step lets (whenever (Changes task)) own h o.listing b.text b.context (made numbers)
        (inr (numbers, ap (λ m. chosen_from task o.listing m) (sym b.sequences) ∙ is, ap (task.becomes o.listing numbers) b.sequences)) b.seen b.held.lock b.base.0 b.base.1))
        (λ later j u f. goes_return w later j (with_sequences (made numbers) o) (okay Marks_) f)

    chosen_by : (value : Result (List ℕ) CommandFault) → chosen_from task o.listing o.sequences ≡ value
        → Goes w own h (after (λ numbers. lifted (of_plan task.folder) (changed_sequences run p mail task.folder o.sequences (made numbers)) >>= (λ done. Return (Ok (with_sequences (made numbers) o)))) value) (okay Marks_)
    chosen_by (Ok numbers) is = commits numbers is
    chosen_by (Err e) is = goes_end w own h e Marks_

    chosen_at : (q : Place) (n : List ℕ) → q ≡ p → n ≡ task.folder
        → Goes w own h (Return (chosen_from task o.listing o.sequences) >>= (λ numbers. lifted (of_plan task.folder) (changed_sequences run q mail n o.sequences (made numbers)) >>= (λ done. Return (Ok (with_sequences (made numbers) o))))) (okay Marks_)
    unfolding Goes bind ◌>>=◌
    chosen_at q n place name = rw (place, name) (chosen_by (chosen_from task o.listing o.sequences) refl)

    chosen_goes : Goes w own h (chosen_changed run path task o) (okay Marks_)
    unfolding chosen_changed
    chosen_goes = chosen_at o.place o.folder b.place b.name

    -- the work on a folder that was begun
    pub opened_goes : Goes w own h (opened_told run path task o) (okay (Of (λ later. AreSettled own → AreSettled later)))
    unfolding opened_told
    opened_goes =
        goes_then w own h (chosen_changed run path task o) (λ marked. lines_said (task.lines marked.listing marked.sequences) >>= (λ told. made_current run path task.folder)) Marks_ (Of (λ later. AreSettled own → AreSettled later)) chosen_goes
        (λ later j q m.
        goes_then w later j (lines_said (task.lines q.listing q.sequences)) (λ told. made_current run path task.folder) (λ last i u. last ≡ later) (Of (λ last. AreSettled own → AreSettled last)) (lines_go w (λ deeds piece. tt) later j (task.lines q.listing q.sequences))
        (λ last i u e. goes_at w last later i (made_current run path task.folder) (okay (Of (λ end. AreSettled own → AreSettled end))) e
        (goes_more w later i (made_current run path task.folder) (okay (Of (λ end. AreSettled later → AreSettled end))) (okay (Of (λ end. AreSettled own → AreSettled end)))
        (okay_more (Of (λ end. AreSettled later → AreSettled end)) (Of (λ end. AreSettled own → AreSettled end)) (λ end k v f s. f (m.1 s)))
        (current_goes run few path task.folder (λ own. Changes task) (Marking path task.folder) any_piece any_step lets (whenever (Changes task)) later i o.listing b.text b.context m.0))))

-- one that only lists makes its folder the current one, whatever it may tell
module _ (run : ℕ) (few : run < 2 ^ 128) (path : List ℕ) (task : Task) (tells : List Deed → List ℕ → Type 0) where
  abbrev pub notes_pledge : Pledge
  notes_pledge = record (look_pledge run path task) { may_tell = tells }

  abbrev at : Place
  at = Folder path task.folder

  abbrev current : List ChangeEntry
  current = current_change task.folder

  serves_context : Serves notes_pledge (Mail path)
  serves_context = record { serves = λ own kind s k m. (k, m); make = λ own. tt; create = λ own temp bytes is. tt; clear = λ own temp is. tt }

  listed_pledged : IsPledged notes_pledge (Mail path) current AnyStep (HasListed at)
  listed_pledged = record {
    asks = record { make = tt; lock = tt; list = tt; clear = λ temp is. tt; read = tt; create = λ temp bytes. tt; sync_file = λ temp. tt; rename = λ temp. tt; sync = tt; unlock = tt };
    keeps = once_kept _ AnyStep;
    may = λ later old f. (f, (refl, refl, refl));
    lets = λ later temp f lock m. tt;
  }

  -- what was settled of commits stays so
  abbrev pub StillBy : List Deed → Outcome Unit
  StillBy own later j u = AreSettled own → AreSettled later

  pub noted_goes : (own : List Deed) (h : Hand) → HasListed at own → Goes notes_pledge own h (made_current run path task.folder) (okay (StillBy own))
  unfolding made_current
  noted_goes own h listed =
      goes_then notes_pledge own h (lifted (of_plan task.folder) (commit_context run (Mail path) current)) _ (Of (Known notes_pledge own (Mail path) current h)) (StillBy own)
      (goes_lifted notes_pledge own h (of_plan task.folder) (commit_context run (Mail path) current) (Of (Known notes_pledge own (Mail path) current h))
      (commit_goes notes_pledge few path serves_context current AnyStep (HasListed at) listed_pledged own h listed))
      (λ later j u k. goes_return notes_pledge later j tt (okay (StillBy own)) k.settled_still)

-- one that only lists
module _ (run : ℕ) (few : run < 2 ^ 128) (path : List ℕ) (task : Task) where
  abbrev any_tells : List Deed → List ℕ → Type 0
  any_tells own piece = Unit {0}

  abbrev v : Pledge
  v = look_pledge run path task

  abbrev folder_at : Place
  folder_at = Folder path task.folder

  abbrev StillBy_ : List Deed → Outcome Unit
  StillBy_ own later j u = AreSettled own → AreSettled later

  tells_any : (own : List Deed) (piece : List ℕ) → v.may_tell own piece
  tells_any own piece = tt

  noted_after : (own later : List Deed) (h : Hand) → (AreSettled own → AreSettled later) → HasListed folder_at later → Goes v later h (made_current run path task.folder) (okay (StillBy_ own))
  noted_after own later h f listed =
      goes_more v later h (made_current run path task.folder) (okay (StillBy_ later)) (okay (StillBy_ own)) (okay_more (StillBy_ later) (StillBy_ own) (λ last j u g s. g (f s))) (noted_goes run few path task any_tells later h listed)

  looks_go : (own : List Deed) (h : Hand) → Goes v own h (folder_looked run path task) (okay (StillBy_ own))
  unfolding folder_looked
  looks_go own h =
      goes_then v own h (folder_listed folder_at task.folder) _ (Lists v tells_any folder_at own) (StillBy_ own) (listed_goes v tells_any own h folder_at task.folder) (λ later j names f.
      goes_then v later j (text_read folder_at (entry_text Sequences)) _ (Looks later) (StillBy_ own) (text_goes v tells_any later j folder_at (entry_text Sequences)) (λ next i text g.
      goes_chosen v next i (λ k. sequences_seen task names text (entries_seen k.context)) _ (StillBy_ own) (λ m is.
      goes_then v next i (lines_said (task.lines (listed_runs names) m)) _ (λ last k u. last ≡ next) (StillBy_ own) (lines_go v tells_any next i (task.lines (listed_runs names) m)) (λ last k u e.
      goes_at v last next k (made_current run path task.folder) (okay (StillBy_ own)) e (noted_after own next k (λ s. g.settled (f.0.settled s)) (g.listed folder_at f.1))))))

-- nothing was done before
pub sound_first : (w : Pledge) (h : Hand) → Sound w [] h
sound_first w h = record { numbered = tt; unfailed = λ z. elim z [ ] }

module _ (run : ℕ) (few : run < 2 ^ 128) (path : List ℕ) (task : Task) where
  -- a command that changes sequences keeps the rules of its pledge, whatever its run has done before
  pub changes_keep : (past : List Done) (h : Hand) → Sound (change_pledge run path task) (acts past) h → Keeps (rules_of (change_pledge run path task)) past h (folder_changed run path task) (IfOkay (Still (acts past)))
  unfolding folder_changed
  changes_keep past h sound =
      begun_keeps run few path task.folder (λ own. Changes task) (Marking path task.folder) (any_piece run few path task) (any_step run few path task) (lets run few path task) (whenever (Changes task)) (opened_told run path task)
      (λ first own o b i. opened_goes run few path task first own o b i) past h sound

  looked_so : (own : List Deed) (past : List Done) (h : Hand) (r : Result Unit CommandFault) → Sound (look_pledge run path task) (acts past) h → okay (StillBy_ run few path task own) (acts past) h r → IfOkay (Still own) past h r
  looked_so own past h (Ok u) s f = record { settled = f; unfailed = s.unfailed }
  looked_so own past h (Err e) s f = tt

  -- and so does one that only looks
  pub looks_keep : (past : List Done) (h : Hand) → Sound (look_pledge run path task) (acts past) h → Keeps (rules_of (look_pledge run path task)) past h (folder_looked run path task) (IfOkay (Still (acts past)))
  looks_keep past h sound =
      keeps_more (rules_of (look_pledge run path task)) past h (folder_looked run path task) (ByActs (Soundly (look_pledge run path task) (okay (StillBy_ run few path task (acts past))))) (IfOkay (Still (acts past)))
      (λ later j r q. looked_so (acts past) later j r q.0 q.1)
      (goes_keeps (look_pledge run path task) past (acts past) h (folder_looked run path task) (okay (StillBy_ run few path task (acts past))) refl sound (looks_go run few path task (acts past) h))

  -- each promises what its pledge says
  pub changes_promise : (x y : State) (result : Result Unit CommandFault) → Follows run command_cause (folder_changed run path task) x y result → Promises (change_pledge run path task) x y
  changes_promise x y result f =
      keeps_pledge (change_pledge run path task) command_cause (folder_changed run path task) x y result (IfOkay (Still [])) (changes_keep [] x.hand (sound_first (change_pledge run path task) x.hand)) f

  pub looks_promise : (x y : State) (result : Result Unit CommandFault) → Follows run command_cause (folder_looked run path task) x y result → Promises (look_pledge run path task) x y
  looks_promise x y result f =
      keeps_pledge (look_pledge run path task) command_cause (folder_looked run path task) x y result (IfOkay (Still [])) (looks_keep [] x.hand (sound_first (look_pledge run path task) x.hand)) f
