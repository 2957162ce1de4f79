-- What a command says that changes a folder's sequences: a front of its lines of what it made of what it read, and all of them where it is done.
use Rattle.std.proofs.Common.{◌≡◌, inr, ◌<◌, ◌^◌, ◌++◌, ◌∷◌, [], ℕ, List, Result, Ok, Err, refl, sym, ◌∙◌, ap, subst, append_assoc, append-nil}
use Rattle.mh_sequences.specs.Sequences.{Marked}
use Rattle.mh_sequences.specs.declared.run.Run.{Run}
use Rattle.folder_files.specs.Commands.{Marking}
use Rattle.folder_files.specs.Deeds as deeds
use Rattle.folder_files.specs.Deeds.{did}
use Rattle.folder_files.specs.declared.place.Place.{Place}
use Rattle.folder_files.specs.declared.place.Place.TheVariants.{Folder, Mail}
use Rattle.folder_files.specs.declared.step.Answer.{Answer}
use Rattle.folder_files.specs.declared.step.Answer.TheVariants.{Failed}
use Rattle.folder_files.specs.declared.step.Step.{Step}
use Rattle.folder_files.specs.declared.step.Step.TheVariants as step
use Rattle.file_plans.specs.Asking.{attempt_unlock, unlock}
use Rattle.file_plans.specs.Plan.{Hand, Plan, Return, after, ask, attempt, bind, lifted, say, ◌>>=◌}
use Rattle.file_plans.specs.Rules.{IfOkay, Keeps}
use Rattle.file_plans.specs.Runs.{Deed, Did, Said}
use Rattle.file_plans.specs.Text.{said_of}
use Rattle.file_plans.proofs.Acting.{acts, acts_append}
use Rattle.file_plans.proofs.Framing.{AnyStep}
use Rattle.file_plans.proofs.Keeping.{keeps_bind}
use Rattle.step_plans.specs.Pledges.{Pledge}
use Rattle.step_plans.specs.declared.command_fault.CommandFault.{CommandFault}
use Rattle.step_plans.specs.declared.command_fault.CommandFault.TheVariants as fault
use Rattle.step_plans.proofs.Going.{ByActs, Goes, Outcome, Sound, Soundly, goes_keeps, goes_lifted, goes_then, okay}
use Rattle.step_plans.proofs.Lasting.{KeptBy}
use Rattle.step_plans.proofs.Pledged.{Of}
use Rattle.step_plans.proofs.Ruling.{rules_of}
use Rattle.step_plans.proofs.Stepping.{goes_end, goes_return}
use Rattle.step_plans.specs.Settled.{AreSettled}
use Rattle.sequence_commits.specs.Committing.{changed_sequences}
use Rattle.command_stages.specs.Current.{made_current}
use Rattle.command_stages.specs.Endings.{of_plan}
use Rattle.opening_plans.specs.Ending.{ended, finished, given_up}
use Rattle.opening_plans.specs.Endings.{IsToldBy}
use Rattle.opening_plans.specs.FolderPledge.{folder_pledge}
use Rattle.opening_plans.specs.Opening.{Opened, begun, with_sequences}
use Rattle.opening_plans.specs.Reads.{HaveSeen}
use Rattle.opening_plans.proofs.EndedKept.{keeps_more}
use Rattle.opening_plans.proofs.FolderPledged.{HasBegun, begun_goes, seen_kept}
use Rattle.opening_plans.proofs.Speaking.{Quiet, keeps_holding, quietly, said_did, said_more, silent_told, speaking, told_did}
use Rattle.opening_plans.proofs.WorkPledged.{begins, committed_goes, current_goes, whenever}
use Rattle.told_folders.proofs.ChangesPledged.{lets}
use Rattle.told_folders.specs.Answers.{HasChanged}
use Rattle.told_folders.specs.Outcomes.{joined}
use Rattle.told_folders.specs.Plans.{chosen_changed, folder_changed, lines_said, opened_told}
use Rattle.told_folders.specs.Pledge.{Changes}
use Rattle.told_folders.specs.Tasks.{AreSome, IsOrderly, Task, chosen_from}

-- lines are said, and that is all
abbrev pub Adds : List ℕ → List Deed → Hand → List Deed → Hand → Result Unit CommandFault → Type 0
Adds text past h later j r = (said_of later ≡ said_of past ++ text) × (acts later ≡ acts past) × (j ≡ h)

-- the lines of a text that the deeds tell
module _ (T : List ℕ → List deeds.Deed → Type 0) (text : List ℕ) where
  pub all_told : (said : List ℕ) (own : List deeds.Deed) → T text own → said ≡ text → IsToldBy T said own
  all_told said own t e = inr (text, t, ([], append-nil said ∙ e))

  pub lines_say : (past : List Deed) (h : Hand) (lines : List (List ℕ)) → AreSome lines → T text (acts past) → said_of past ++ joined lines ≡ text
      → Keeps (speaking T) past h (lines_said lines) (λ later j r. Adds (joined lines) past h later j r)
  unfolding Keeps lines_said say lifted bind ◌>>=◌
  lines_say past h [] some t is = (all_told (said_of past) (acts past) t (sym (append-nil (said_of past)) ∙ is), (sym (append-nil (said_of past)), refl, refl))
  lines_say past h (line ∷ lines) some t is = (
    inr (text, t, (line ++ joined lines, is)),
    (text, t, some.0, (joined lines, append_assoc (said_of past) line (joined lines) ∙ is)),
    (λ part rest e. inr (text, subst (T text) (sym (acts_append [] past (Said part ∷ []))) t, (rest ++ joined lines, by_part part rest e))),
    keeps_more (speaking T) (past ++ Said line ∷ []) h (lines_said lines) (λ later j r. Adds (joined lines) (past ++ Said line ∷ []) h later j r) (λ later j r. Adds (line ++ joined lines) past h later j r)
        (λ later j r q. (q.0 ∙ (ap (λ z. z ++ joined lines) (said_more past line) ∙ append_assoc (said_of past) line (joined lines)), q.1 ∙ acts_append [] past (Said line ∷ []), q.2))
        (lines_say (past ++ Said line ∷ []) h lines some.1 (subst (T text) (sym (acts_append [] past (Said line ∷ []))) t)
        (ap (λ z. z ++ joined lines) (said_more past line) ∙ (append_assoc (said_of past) line (joined lines) ∙ is))),
  )
    where
      by_part : (part rest : List ℕ) → part ++ rest ≡ line → said_of (past ++ Said part ∷ []) ++ (rest ++ joined lines) ≡ text
      by_part part rest e =
          ap (λ z. z ++ (rest ++ joined lines)) (said_more past part)
          ∙ (append_assoc (said_of past) part (rest ++ joined lines)
          ∙ (ap (λ z. said_of past ++ z) (sym (append_assoc part rest (joined lines)) ∙ ap (λ z. z ++ joined lines) e) ∙ is))

module _ (run : ℕ) (few : run < 2 ^ 128) (path : List ℕ) (task : Task) (orderly : IsOrderly task) where
  abbrev p : Place
  p = Folder path task.folder

  abbrev mail : Place
  mail = Mail path

  abbrev no_piece : List deeds.Deed → List ℕ → Type 0
  no_piece own piece = ⊥

  abbrev any_step : List deeds.Deed → Step → Type 0
  any_step own s = Unit {0}

  -- one that says nothing
  abbrev v : Pledge
  v = folder_pledge run path task.folder (λ own. Changes task) (Marking path task.folder) no_piece any_step

  abbrev Seen : List Run → List ℕ → List ℕ → List deeds.Deed → Type 0
  Seen listing text context own = HaveSeen run p mail listing text context own

  module _ (first own : List deeds.Deed) (o : Opened) (b : HasBegun v first path task.folder own o) (h : Hand) where
    abbrev made : List ℕ → Marked
    made numbers = task.becomes o.listing numbers o.sequences

    abbrev Marks_ : Outcome Opened
    Marks_ later j q = Seen o.listing b.text b.context later × ((numbers : List ℕ) × (chosen_from task o.listing o.sequences ≡ Ok numbers) × (q.sequences ≡ made numbers) × (q.listing ≡ o.listing))

    abbrev Commits : Outcome Unit
    Commits later j u = Seen o.listing b.text b.context later × (AreSettled own → AreSettled later)

    commits : (numbers : List ℕ) → chosen_from task o.listing o.sequences ≡ Ok numbers
        → Goes v own h (lifted (of_plan task.folder) (changed_sequences run p mail task.folder o.sequences (made numbers)) >>= (λ done. Return (Ok (with_sequences (made numbers) o)))) (okay Marks_)
    commits numbers is =
        goes_then v own h (lifted (of_plan task.folder) (changed_sequences run p mail task.folder o.sequences (made numbers))) (λ done. Return (Ok (with_sequences (made numbers) o))) Commits Marks_
        (subst (λ m. Goes v own h (lifted (of_plan task.folder) (changed_sequences run p mail task.folder m (made numbers))) (okay Commits)) (sym b.sequences)
        (committed_goes run few path task.folder (λ own. Changes task) (Marking path task.folder) no_piece any_step (lets run few path task) (whenever (Changes task)) own h o.listing b.text b.context (made numbers)
        (inr (numbers, ap (λ m. chosen_from task o.listing m) (sym b.sequences) ∙ is, ap (task.becomes o.listing numbers) b.sequences)) b.seen b.held.lock b.base.0 b.base.1))
        (λ later j u f. goes_return v later j (with_sequences (made numbers) o) (okay Marks_) (f.0, (numbers, is, refl, refl)))

    chosen_by : (value : Result (List ℕ) CommandFault) → chosen_from task o.listing o.sequences ≡ value
        → Goes v own h (after (λ numbers. lifted (of_plan task.folder) (changed_sequences run p mail task.folder o.sequences (made numbers)) >>= (λ done. Return (Ok (with_sequences (made numbers) o)))) value) (okay Marks_)
    chosen_by (Ok numbers) is = commits numbers is
    chosen_by (Err e) is = goes_end v own h e Marks_

    chosen_at : (q : Place) (n : List ℕ) → q ≡ p → n ≡ task.folder
        → Goes v own h (Return (chosen_from task o.listing o.sequences) >>= (λ numbers. lifted (of_plan task.folder) (changed_sequences run q mail n o.sequences (made numbers)) >>= (λ done. Return (Ok (with_sequences (made numbers) o))))) (okay Marks_)
    unfolding Goes bind ◌>>=◌
    chosen_at q n place name = rw (place, name) (chosen_by (chosen_from task o.listing o.sequences) refl)

    chosen_goes : Goes v own h (chosen_changed run path task o) (okay Marks_)
    unfolding chosen_changed
    chosen_goes = chosen_at o.place o.folder b.place b.name

  quiet : (past : List Deed) (piece : List ℕ) → (rules_of v).may_say past piece → ⊥
  quiet past piece f = f

  -- with what lasts besides
  module _ (F : List deeds.Deed → Type 0) (lasts : KeptBy AnyStep F) where
    abbrev T : List ℕ → List deeds.Deed → Type 0
    T text own = F own × HasChanged run path task text own

    marked_kept : (text : List ℕ) → KeptBy AnyStep (T text)
    marked_kept text own s x any f =
        let m = f.1 in
        (lasts own s x any f.0, record { listing = m.listing; text = m.text; context = m.context; seen = seen_kept run p mail m.listing m.text m.context own s x any m.seen; numbers = m.numbers; chosen = m.chosen; lines = m.lines })

    abbrev Told : List Deed → Type 0
    Told past = IsToldBy T (said_of past) (acts past)

    abbrev pub Ends : List Deed → Hand → Result Unit CommandFault → Type 0
    Ends later j r = IfOkay (λ last i u. T (said_of last) (acts last)) later j r

    stops : (later : List Deed) (j : Hand) (e : CommandFault) → Told later → Keeps (speaking T) later j (Return (Err e)) Ends
    unfolding Keeps
    stops later j e told = (told, tt)

    tells_all : (later : List Deed) → T (said_of later) (acts later) → Told later
    tells_all later t = all_told T (said_of later) (said_of later) (acts later) t refl

    unlocked : (later : List Deed) (b : Answer) → T (said_of later) (acts later) → T (said_of (later ++ Did (step.Unlock p) b ∷ [])) (acts (later ++ Did (step.Unlock p) b ∷ []))
    unlocked later b t =
        subst (λ z. T z (acts (later ++ Did (step.Unlock p) b ∷ []))) (sym (said_did later (step.Unlock p) b))
        (subst (T (said_of later)) (sym (acts_append [] later (Did (step.Unlock p) b ∷ []))) (marked_kept (said_of later) (acts later) (step.Unlock p) b tt t))

    at_end : (later : List Deed) (j : Hand) (r : Result Unit CommandFault) → Told later → Ends later j r → Keeps (speaking T) later j (ended p r) Ends
    unfolding Keeps finished given_up unlock ask attempt_unlock attempt lifted bind ◌>>=◌
    at_end later j (Ok u) told s =
        (told, tt, told_did T marked_kept later (step.Unlock p) Failed told, λ b row live. (told_did T marked_kept later (step.Unlock p) b told, unlocked later b s))
    at_end later j (Err (fault.Refused r)) told s = (told, tt, λ b row. (told_did T marked_kept later (step.Unlock p) b told, tt))
    at_end later j (Err (fault.Faulted which)) told s = (told, tt)
    at_end later j (Err (fault.Locked q)) told s = (told, tt, λ b row. (told_did T marked_kept later (step.Unlock p) b told, tt))
    at_end later j (Err (fault.Meddled q x)) told s = (told, tt)
    at_end later j (Err fault.Memory) told s = (told, tt)

    -- the work on a folder that was begun
    module _ (first : List deeds.Deed) (now_ : List Deed) (o : Opened) (b : HasBegun v first path task.folder (acts now_) o) (h : Hand) (sound : Sound v (acts now_) h) (silent : said_of now_ ≡ []) (f : F (acts now_)) where
      abbrev S : List deeds.Deed → Type 0
      S own = F own × Seen o.listing b.text b.context own

      S_kept : KeptBy AnyStep S
      S_kept own s x any g = (lasts own s x any g.0, seen_kept run p mail o.listing b.text b.context own s x any g.1)

      abbrev Chosen : List Deed → Hand → Result Opened CommandFault → Type 0
      Chosen later j r = ByActs (Soundly v (okay (λ last i m. Marks_ first (acts now_) o b h last i m))) later j r

      abbrev new : Opened → List ℕ
      new m = joined (task.lines m.listing m.sequences)

      -- what it saw tells the lines of what it made of that
      tells_new : (m : Opened) (numbers : List ℕ) → chosen_from task o.listing o.sequences ≡ Ok numbers → m.sequences ≡ task.becomes o.listing numbers o.sequences → m.listing ≡ o.listing → (own : List deeds.Deed) → S own → T (new m) own
      tells_new m numbers is made_ same own s = (
        s.0,
        record {
          listing = o.listing;
          text = b.text;
          context = b.context;
          seen = s.1;
          numbers = numbers;
          chosen = ap (λ z. chosen_from task o.listing z) (sym b.sequences) ∙ is;
          lines = ap (λ z. joined (task.lines z m.sequences)) same ∙ ap (λ z. joined (task.lines o.listing z)) (made_ ∙ ap (task.becomes o.listing numbers) b.sequences);
        },
      )

      module _ (m : Opened) (numbers : List ℕ) (is : chosen_from task o.listing o.sequences ≡ Ok numbers) (made_ : m.sequences ≡ task.becomes o.listing numbers o.sequences) (same : m.listing ≡ o.listing) where
        so : (own : List deeds.Deed) → S own → T (new m) own
        so own s = tells_new m numbers is made_ same own s

        current_says : (later : List Deed) (j : Hand) → Sound v (acts later) j → S (acts later) → said_of later ≡ new m → Keeps (speaking T) later j (made_current run path task.folder) Ends
        current_says later j ok s told =
            keeps_more (speaking T) later j (made_current run path task.folder) _ Ends go
            (quietly T marked_kept (rules_of v) quiet S S_kept later j (made_current run path task.folder) (ByActs (Soundly v (okay (Of (λ last. AreSettled (acts later) → AreSettled last)))))
            (all_told T (new m) (said_of later) (acts later) (so (acts later) s) told)
            (goes_keeps v later (acts later) j (made_current run path task.folder) (okay (Of (λ last. AreSettled (acts later) → AreSettled last))) refl ok
            (current_goes run few path task.folder (λ own. Changes task) (Marking path task.folder) no_piece any_step (lets run few path task) (whenever (Changes task)) (acts later) j o.listing b.text b.context s.1)))
          where
            go : (last : List Deed) (i : Hand) (r : Result Unit CommandFault)
                → Quiet T marked_kept (rules_of v) quiet S S_kept (ByActs (Soundly v (okay (Of (λ end. AreSettled (acts later) → AreSettled end))))) later last i r → Ends last i r
            go last i (Ok u) q = subst (λ z. T z (acts last)) (sym (q.0 ∙ told)) (so (acts last) (q.1 s))
            go last i (Err e) q = tt

        then_said : (later : List Deed) (j : Hand) → Sound v (acts later) j → S (acts later) → said_of later ≡ [] → (last : List Deed) (i : Hand) (r : Result Unit CommandFault) → Adds (new m) later j last i r
            → Keeps (speaking T) last i (after (λ told. made_current run path task.folder) r) Ends
        then_said later j ok s none last i (Err e) q =
            stops last i e (all_told T (new m) (said_of last) (acts last) (so (acts last) (subst S (sym q.1) s)) (q.0 ∙ ap (λ z. z ++ new m) none))
        then_said later j ok s none last i (Ok u) q =
            current_says last i (subst (λ k. Sound v (acts last) k) (sym q.2) (subst (λ z. Sound v z j) (sym q.1) ok)) (subst S (sym q.1) s) (q.0 ∙ ap (λ z. z ++ new m) none)

        marked_says : (later : List Deed) (j : Hand) → Sound v (acts later) j → S (acts later) → said_of later ≡ []
            → Keeps (speaking T) later j (bind (lines_said (task.lines m.listing m.sequences)) (after (λ told. made_current run path task.folder))) Ends
        marked_says later j ok s none =
            keeps_bind (speaking T) later j (lines_said (task.lines m.listing m.sequences)) (after (λ told. made_current run path task.folder)) (λ last i r. Adds (new m) later j last i r) Ends
            (lines_say T (new m) later j (task.lines m.listing m.sequences) (orderly.lines m.listing m.sequences) (so (acts later) s) (ap (λ z. z ++ new m) none)) (then_said later j ok s none)

      opened_says : Keeps (speaking T) now_ h (opened_told run path task o) Ends
      unfolding opened_told ◌>>=◌
      opened_says =
          keeps_bind (speaking T) now_ h (chosen_changed run path task o) (after (λ marked. bind (lines_said (task.lines marked.listing marked.sequences)) (after (λ told. made_current run path task.folder)))) _ Ends
          (quietly T marked_kept (rules_of v) quiet S S_kept now_ h (chosen_changed run path task o) Chosen (silent_told T marked_kept now_ silent)
          (goes_keeps v now_ (acts now_) h (chosen_changed run path task o) (okay (λ last i m. Marks_ first (acts now_) o b h last i m)) refl sound (chosen_goes first (acts now_) o b h)))
          go
        where
          go : (later : List Deed) (j : Hand) (r : Result Opened CommandFault) → Quiet T marked_kept (rules_of v) quiet S S_kept Chosen now_ later j r
              → Keeps (speaking T) later j (after (λ marked. bind (lines_said (task.lines marked.listing marked.sequences)) (after (λ told. made_current run path task.folder))) r) Ends
          go later j (Err e) q = stops later j e q.2
          go later j (Ok m) q = marked_says m q.3.1.1.0 q.3.1.1.1 q.3.1.1.2 q.3.1.1.3 later j q.3.0 (q.1 (f, b.seen)) (q.0 ∙ silent)

    abbrev Begun : List deeds.Deed → Outcome Opened
    Begun first later j o = HasBegun v first path task.folder later o

    -- the whole, after deeds that said nothing
    pub changes_say : (past : List Deed) (h : Hand) → said_of past ≡ [] → F (acts past) → Sound v (acts past) h → Keeps (speaking T) past h (folder_changed run path task) Ends
    unfolding folder_changed ◌>>=◌
    changes_say past h silent f sound =
        keeps_bind (speaking T) past h plan (after work) _ Ends
        (quietly T marked_kept (rules_of v) quiet F lasts past h plan (ByActs (Soundly v (okay (Begun (acts past))))) (silent_told T marked_kept past silent)
        (goes_keeps v past (acts past) h plan (okay (Begun (acts past))) refl sound
        (goes_lifted v (acts past) h (of_plan task.folder) (begun run p mail task.folder) (Begun (acts past))
        (begun_goes v few path task.folder (begins run few path task.folder (λ own. Changes task) (Marking path task.folder) no_piece any_step (lets run few path task) (whenever (Changes task))) (acts past) h))))
        go
      where
        plan : Plan (Result Opened CommandFault)
        plan = lifted (of_plan task.folder) (begun run p mail task.folder)

        work : Opened → Plan (Result Unit CommandFault)
        work o = bind (opened_told run path task o) (ended p)

        go : (later : List Deed) (j : Hand) (r : Result Opened CommandFault) → Quiet T marked_kept (rules_of v) quiet F lasts (ByActs (Soundly v (okay (Begun (acts past))))) past later j r
            → Keeps (speaking T) later j (after work r) Ends
        go later j (Err e) q = stops later j e q.2
        go later j (Ok o) q =
            keeps_bind (speaking T) later j (opened_told run path task o) (ended p) (λ last i r. Told last × Ends last i r) Ends
            (keeps_holding (speaking T) later j (opened_told run path task o) Ends (opened_says (acts past) later o q.3.1 j q.3.0 (q.0 ∙ silent) (q.1 f)))
            (λ last i r s. at_end last i r s.0 s.1)
