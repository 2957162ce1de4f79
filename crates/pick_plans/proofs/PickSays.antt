-- What a `pick` says that marks: a front of the numbers of the messages that it read and of which the expression holds, or of the zero that tells
-- that there are none; and all numbers where it is done.
use Rattle.std.proofs.Common.{◌≡◌, ◌≢◌, inl, inr, ◌<◌, ◌^◌, ◌++◌, ◌∷◌, [], ℕ, Bool, true, false, List, Result, Ok, Err, refl, sym, ◌∙◌, ap, subst, append-nil}
use Rattle.mh_sequences.specs.Sequences.{Marked}
use Rattle.folder_files.specs.Commands.{Marking}
use Rattle.folder_files.specs.Deeds as deeds
use Rattle.folder_files.specs.declared.place.Place.{Place}
use Rattle.folder_files.specs.declared.place.Place.TheVariants.{Folder, Mail}
use Rattle.folder_files.specs.declared.refusal.Refusal.TheVariants as refusal
use Rattle.folder_files.specs.declared.step.Answer.{Answer}
use Rattle.folder_files.specs.declared.step.Answer.TheVariants.{Failed}
use Rattle.folder_files.specs.declared.step.Step.TheVariants as step
use Rattle.file_plans.specs.Asking.{attempt_unlock, unlock}
use Rattle.file_plans.specs.Plan.{Hand, Plan, Return, after, ask, attempt, bind, lifted, ◌>>=◌}
use Rattle.file_plans.specs.Rules.{IfOkay, Keeps}
use Rattle.file_plans.specs.Runs.{Deed, Did}
use Rattle.file_plans.specs.Text.{said_of}
use Rattle.file_plans.proofs.Acting.{acts, acts_append}
use Rattle.file_plans.proofs.Framing.{AnyStep}
use Rattle.file_plans.proofs.Keeping.{keeps_bind}
use Rattle.step_plans.specs.Pledges.{Pledge}
use Rattle.step_plans.specs.Settled.{AreSettled}
use Rattle.step_plans.specs.declared.command_fault.CommandFault.{CommandFault}
use Rattle.step_plans.specs.declared.command_fault.CommandFault.TheVariants as fault
use Rattle.step_plans.proofs.Going.{ByActs, Outcome, Sound, Soundly, goes_keeps, goes_lifted, okay}
use Rattle.step_plans.proofs.Lasting.{KeptBy}
use Rattle.step_plans.proofs.Pledged.{Of}
use Rattle.step_plans.proofs.Ruling.{rules_of}
use Rattle.sequence_commits.specs.Committing.{changed_sequences}
use Rattle.command_stages.specs.Current.{made_current}
use Rattle.command_stages.specs.Endings.{of_plan}
use Rattle.opening_plans.specs.Ending.{ended, finished, given_up}
use Rattle.opening_plans.specs.Endings.{IsToldBy}
use Rattle.opening_plans.specs.FolderPledge.{told_within}
use Rattle.opening_plans.specs.Opening.{Opened, begun}
use Rattle.opening_plans.specs.Reads.{HaveSeen}
use Rattle.opening_plans.proofs.EndedKept.{keeps_more}
use Rattle.opening_plans.proofs.FolderPledged.{HasBegun, begun_goes, seen_kept}
use Rattle.opening_plans.proofs.Speaking.{Quiet, keeps_holding, quietly, said_did, silent_told, speaking, told_did}
use Rattle.opening_plans.proofs.WorkPledged.{begins, current_goes}
use Rattle.told_folders.specs.Tasks.{AreSome}
use Rattle.told_folders.proofs.ChangesSay.{Adds, all_told, lines_say}
use Rattle.pick_plans.specs.Lines.{lines_for}
use Rattle.pick_plans.specs.Marking.{marked_for}
use Rattle.pick_plans.specs.Outcomes.{text_if}
use Rattle.pick_plans.specs.Pick.{chosen_from, found_marked, found_told, opened_picked, pick_changes, said_if, some_found, unless_none}
use Rattle.pick_plans.specs.PickAnswers.{HasFound, TellsFound, TellsSome}
use Rattle.pick_plans.specs.PickPledge.{Picks}
use Rattle.pick_plans.specs.Testing.{all_tested}
use Rattle.pick_plans.specs.declared.job.PickJob.{PickJob}
use Rattle.pick_plans.specs.declared.job.PickMarks.{PickMarks}
use Rattle.pick_plans.proofs.PickPledged.{Commits, commit_goes, lasts, lets, seen_later, telling_pledge}
use Rattle.pick_plans.proofs.Tested.{All, AreTested, all_goes, tested_all, tested_kept}
use Rattle.pick_plans.proofs.TestsGiven.{some_for}

-- what is said of what was found: the whole is a text that the deeds tell
module _ (T : List ℕ → List deeds.Deed → Type 0) (text : List ℕ) where
  pub said_says : (past : List Deed) (h : Hand) (list : Bool) (lines : List (List ℕ)) → AreSome lines → T text (acts past) → said_of past ++ text_if list lines ≡ text
      → Keeps (speaking T) past h (said_if list lines) (λ later j r. Adds (text_if list lines) past h later j r)
  unfolding Keeps
  said_says past h true lines some t is = lines_say T text past h lines some t is
  said_says past h false lines some t is = (all_told T text (said_of past) (acts past) t (sym (append-nil (said_of past)) ∙ is), (sym (append-nil (said_of past)), refl, refl))

-- an end at which what was said is a front of a text that the deeds tell
pub returns_so : {R : Type 0} (T : List ℕ → List deeds.Deed → Type 0) (past : List Deed) (h : Hand) (r : R) (Q : List Deed → Hand → R → Type 0) → IsToldBy T (said_of past) (acts past) → Q past h r → Keeps (speaking T) past h (Return r) Q
unfolding Keeps
returns_so T past h r Q told q = (told, q)

-- what these deeds tell of what was found
pub tells_found : (Found : List ℕ → List deeds.Deed → Type 0) (job : PickJob) (found : List ℕ) (own : List deeds.Deed) → Found found own → TellsFound Found job (text_if job.list (lines_for found)) own
tells_found Found job [] own f = inr (f, refl)
tells_found Found job (n ∷ ns) own f = inl (n ∷ ns, (λ e. cc (e)), f, refl)

-- some messages are found, or that there are none is said
module _ (T : List ℕ → List deeds.Deed → Type 0) (list : Bool) where
  abbrev Fronts : List Deed → Type 0
  Fronts past = IsToldBy T (said_of past) (acts past)

  -- they are as they were found, and nothing was said
  abbrev pub Quietly : List Deed → Hand → List ℕ → List Deed → Hand → Result (List ℕ) CommandFault → Type 0
  Quietly past h found later j (Ok all) = (later ≡ past) × (j ≡ h) × (all ≡ found) × (found ≢ [])
  Quietly past h found later j (Err e) = Unit {0}

  pub unless_says : (past : List Deed) (h : Hand) (found : List ℕ) → (found ≡ [] → T (text_if list (lines_for [])) (acts past)) → said_of past ≡ [] → Fronts past → Keeps (speaking T) past h (unless_none list found) (λ later j r. Fronts later × Quietly past h found later j r)
  unfolding unless_none ◌>>=◌
  unless_says past h [] t none told =
      keeps_bind (speaking T) past h (said_if list (lines_for [])) (after (λ told. Return (Err (fault.Refused refusal.NoMatch)))) (λ later j r. Adds zero past h later j r) (λ later j r. Fronts later × Quietly past h [] later j r)
      (said_says T zero past h list (lines_for []) (some_for []) (t refl) (ap (λ z. z ++ zero) none)) go
    where
      zero : List ℕ
      zero = text_if list (lines_for [])

      all : (later : List Deed) (j : Hand) (r : Result Unit CommandFault) → Adds zero past h later j r → Fronts later
      all later j r q = all_told T zero (said_of later) (acts later) (subst (T zero) (sym q.1) (t refl)) (q.0 ∙ ap (λ z. z ++ zero) none)

      go : (later : List Deed) (j : Hand) (r : Result Unit CommandFault) → Adds zero past h later j r → Keeps (speaking T) later j (after (λ told. Return (Err (fault.Refused refusal.NoMatch))) r) (λ last i s. Fronts last × Quietly past h [] last i s)
      go later j (Ok u) q = returns_so T later j (Err (fault.Refused refusal.NoMatch)) (λ last i s. Fronts last × Quietly past h [] last i s) (all later j (Ok u) q) (all later j (Ok u) q, tt)
      go later j (Err e) q = returns_so T later j (Err e) (λ last i s. Fronts last × Quietly past h [] last i s) (all later j (Err e) q) (all later j (Err e) q, tt)
  unless_says past h (n ∷ ns) t none told = returns_so T past h (Ok (n ∷ ns)) (λ last i s. Fronts last × Quietly past h (n ∷ ns) last i s) told (told, (refl, refl, refl, λ e. cc (e)))

module _ (run : ℕ) (few : run < 2 ^ 128) (path : List ℕ) (job : PickJob) (p : PickMarks) where
  abbrev place : Place
  place = Folder path job.folder

  abbrev mail : Place
  mail = Mail path

  abbrev no_piece : List deeds.Deed → List ℕ → Type 0
  no_piece own piece = ⊥

  -- a `pick` that says nothing
  abbrev v : Pledge
  v = telling_pledge run few path job p no_piece

  abbrev Found : List ℕ → List deeds.Deed → Type 0
  Found found own = HasFound run path job found own

  found_kept : (found : List ℕ) → KeptBy AnyStep (Found found)
  found_kept found own s x any f = record {
    listing = f.listing;
    text = f.text;
    context = f.context;
    seen = seen_kept run place mail f.listing f.text f.context own s x any f.seen;
    numbers = f.numbers;
    chosen = f.chosen;
    tested = tested_kept place job.expr f.numbers found own s x any f.tested;
  }

  quiet : (past : List Deed) (piece : List ℕ) → (rules_of v).may_say past piece → ⊥
  quiet past piece f = f

  -- with what lasts besides
  module _ (F : List deeds.Deed → Type 0) (fasts : KeptBy AnyStep F) where
    abbrev T : List ℕ → List deeds.Deed → Type 0
    T text own = F own × TellsFound Found job text own

    -- where it is done
    abbrev Done : List ℕ → List deeds.Deed → Type 0
    Done text own = F own × TellsSome Found job text own

    some_kept : (text : List ℕ) → KeptBy AnyStep (TellsSome Found job text)
    some_kept text own s x any f = (f.0, f.1, found_kept f.0 own s x any f.2, f.3)

    told_kept : (text : List ℕ) → KeptBy AnyStep (T text)
    told_kept text own s x any (f, inl t) = (fasts own s x any f, inl (some_kept text own s x any t))
    told_kept text own s x any (f, inr t) = (fasts own s x any f, inr (found_kept [] own s x any t.0, t.1))

    abbrev Told : List Deed → Type 0
    Told past = IsToldBy T (said_of past) (acts past)

    abbrev pub Ends : List Deed → Hand → Result Unit CommandFault → Type 0
    Ends later j r = IfOkay (λ last i u. Done (said_of last) (acts last)) later j r

    stops : (later : List Deed) (j : Hand) (e : CommandFault) → Told later → Keeps (speaking T) later j (Return (Err e)) Ends
    unfolding Keeps
    stops later j e told = (told, tt)

    unlocked : (later : List Deed) (b : Answer) → Done (said_of later) (acts later) → Done (said_of (later ++ Did (step.Unlock place) b ∷ [])) (acts (later ++ Did (step.Unlock place) b ∷ []))
    unlocked later b t =
        subst (λ z. Done z (acts (later ++ Did (step.Unlock place) b ∷ []))) (sym (said_did later (step.Unlock place) b))
        (subst (Done (said_of later)) (sym (acts_append [] later (Did (step.Unlock place) b ∷ []))) (fasts (acts later) (step.Unlock place) b tt t.0, some_kept (said_of later) (acts later) (step.Unlock place) b tt t.1))

    at_end : (later : List Deed) (j : Hand) (r : Result Unit CommandFault) → Told later → Ends later j r → Keeps (speaking T) later j (ended place r) Ends
    unfolding Keeps finished given_up unlock ask attempt_unlock attempt lifted bind ◌>>=◌
    at_end later j (Ok u) told s =
        (told, tt, told_did T told_kept later (step.Unlock place) Failed told, λ b row live. (told_did T told_kept later (step.Unlock place) b told, unlocked later b s))
    at_end later j (Err (fault.Refused r)) told s = (told, tt, λ b row. (told_did T told_kept later (step.Unlock place) b told, tt))
    at_end later j (Err (fault.Faulted which)) told s = (told, tt)
    at_end later j (Err (fault.Locked q)) told s = (told, tt, λ b row. (told_did T told_kept later (step.Unlock place) b told, tt))
    at_end later j (Err (fault.Meddled q x)) told s = (told, tt)
    at_end later j (Err fault.Memory) told s = (told, tt)

    -- the work on a folder that was begun
    module _ (first : List deeds.Deed) (now_ : List Deed) (o : Opened) (b : HasBegun v first path job.folder (acts now_) o) (h : Hand) (sound : Sound v (acts now_) h) (silent : said_of now_ ≡ []) (f : F (acts now_)) where
      abbrev Seen : List deeds.Deed → Type 0
      Seen own = HaveSeen run place mail o.listing b.text b.context own

      abbrev new : List ℕ → List ℕ
      new found = text_if job.list (lines_for found)

      abbrev made : List ℕ → Marked
      made found = marked_for p found o.sequences

      module _ (numbers : List ℕ) (is : chosen_from job o.listing o.sequences ≡ Ok numbers) where
        is_told : chosen_from job o.listing (told_within o.listing b.text b.context job.folder) ≡ Ok numbers
        is_told = ap (λ m. chosen_from job o.listing m) (sym b.sequences) ∙ is

        has_found : (own : List deeds.Deed) (found : List ℕ) → AreTested place job.expr [] numbers (acts now_) own found → Found found own
        has_found own found t = record {
          listing = o.listing;
          text = b.text;
          context = b.context;
          seen = seen_later run few path job p no_piece first (acts now_) o b h numbers is own found t;
          numbers = numbers;
          chosen = is_told;
          tested = tested_all place job.expr numbers found (acts now_) own t;
        }

        -- what holds once messages were tested in silence
        abbrev Tests : List Deed → Hand → Result (List ℕ) CommandFault → Type 0
        Tests later j r = Quiet T told_kept (rules_of v) quiet F fasts (ByActs (Soundly v (okay (All place job.expr [] numbers (acts now_) h)))) now_ later j r

        tests_say : Keeps (speaking T) now_ h (all_tested place job.expr [] numbers) Tests
        tests_say =
            quietly T told_kept (rules_of v) quiet F fasts now_ h (all_tested place job.expr [] numbers) (ByActs (Soundly v (okay (All place job.expr [] numbers (acts now_) h)))) (silent_told T told_kept now_ silent)
            (goes_keeps v now_ (acts now_) h (all_tested place job.expr [] numbers) (okay (All place job.expr [] numbers (acts now_) h)) refl sound (all_goes place job.expr v [] numbers (acts now_) h))

        -- and some were found
        record Finds (later : List Deed) (j : Hand) (found : List ℕ) : Type 0 where
          pub none_said : said_of later ≡ []
          pub fact : F (acts later)
          pub so : Sound v (acts later) j
          pub tested : AreTested place job.expr [] numbers (acts now_) (acts later) found
          pub some : found ≢ []

        abbrev FindsSome : List Deed → Hand → Result (List ℕ) CommandFault → Type 0
        FindsSome later j (Ok found) = Told later × Finds later j found
        FindsSome later j (Err e) = Told later

        found_says : Keeps (speaking T) now_ h (some_found place job numbers) FindsSome
        unfolding some_found ◌>>=◌
        found_says = keeps_bind (speaking T) now_ h (all_tested place job.expr [] numbers) (after (λ found. unless_none job.list found)) Tests FindsSome tests_say go
          where
            go : (later : List Deed) (j : Hand) (r : Result (List ℕ) CommandFault) → Tests later j r → Keeps (speaking T) later j (after (λ found. unless_none job.list found) r) FindsSome
            go later j (Err e) q = returns_so T later j (Err e) FindsSome q.2 q.2
            go later j (Ok found) q =
                keeps_more (speaking T) later j (unless_none job.list found) (λ last i r. IsToldBy T (said_of last) (acts last) × Quietly T job.list later j found last i r) FindsSome more
                (unless_says T job.list later j found (λ e. (q.1 f, inr (subst (λ z. Found z (acts later)) e (has_found (acts later) found q.3.1.0), refl))) (q.0 ∙ silent) q.2)
              where
                more : (last : List Deed) (i : Hand) (r : Result (List ℕ) CommandFault) → Told last × Quietly T job.list later j found last i r → FindsSome last i r
                more last i (Err e) s = s.0
                more last i (Ok all) s =
                    (s.0, rw (s.1.0, s.1.1, s.1.2) (record { none_said = q.0 ∙ silent; fact = q.1 f; so = q.3.0; tested = q.3.1.0; some = s.1.3 }))

        -- they are marked in silence
        abbrev then_told : Place → List ℕ → List ℕ → Plan (Result Unit CommandFault)
        then_told q n found = bind (lifted (of_plan job.folder) (changed_sequences run q mail n o.sequences (made found))) (after (λ done. found_told run path job found))

        module _ (later : List Deed) (j : Hand) (found : List ℕ) (g : Finds later j found) where
          abbrev S : List deeds.Deed → Type 0
          S own = F own × (Found found own × Seen own)

          S_kept : KeptBy AnyStep S
          S_kept own s x any z = (fasts own s x any z.0, (found_kept found own s x any z.1.0, seen_kept run place mail o.listing b.text b.context own s x any z.1.1))

          S_now : S (acts later)
          S_now = (g.fact, (has_found (acts later) found g.tested, seen_later run few path job p no_piece first (acts now_) o b h numbers is (acts later) found g.tested))

          tells : (own : List deeds.Deed) → S own → T (new found) own
          tells own s = (s.0, tells_found Found job found own s.1.0)

          done : (own : List deeds.Deed) → S own → Done (new found) own
          done own s = (s.0, (found, g.some, s.1.0, refl))

          current_says : (past : List Deed) (i : Hand) → Sound v (acts past) i → S (acts past) → said_of past ≡ new found → Keeps (speaking T) past i (made_current run path job.folder) Ends
          current_says past i ok s told =
              keeps_more (speaking T) past i (made_current run path job.folder) _ Ends go
              (quietly T told_kept (rules_of v) quiet S S_kept past i (made_current run path job.folder) (ByActs (Soundly v (okay (Of (λ last. AreSettled (acts past) → AreSettled last)))))
              (all_told T (new found) (said_of past) (acts past) (tells (acts past) s) told)
              (goes_keeps v past (acts past) i (made_current run path job.folder) (okay (Of (λ last. AreSettled (acts past) → AreSettled last))) refl ok
              (current_goes run few path job.folder (Picks path job p) (Marking path job.folder) no_piece (λ own step_. Unit {0}) (lets run few path job p no_piece) (lasts run few path job p no_piece) (acts past) i o.listing b.text b.context s.1.1)))
            where
              go : (last : List Deed) (k : Hand) (r : Result Unit CommandFault)
                  → Quiet T told_kept (rules_of v) quiet S S_kept (ByActs (Soundly v (okay (Of (λ end. AreSettled (acts past) → AreSettled end))))) past last k r → Ends last k r
              go last k (Ok u) q = subst (λ z. Done z (acts last)) (sym (q.0 ∙ told)) (done (acts last) (q.1 s))
              go last k (Err e) q = tt

          told_says : (past : List Deed) (i : Hand) → Sound v (acts past) i → S (acts past) → said_of past ≡ [] → Keeps (speaking T) past i (found_told run path job found) Ends
          unfolding found_told ◌>>=◌
          told_says past i ok s none =
              keeps_bind (speaking T) past i (said_if job.list (lines_for found)) (after (λ told. made_current run path job.folder)) (λ last k r. Adds (new found) past i last k r) Ends
              (said_says T (new found) past i job.list (lines_for found) (some_for found) (tells (acts past) s) (ap (λ z. z ++ new found) none)) go
            where
              go : (last : List Deed) (k : Hand) (r : Result Unit CommandFault) → Adds (new found) past i last k r → Keeps (speaking T) last k (after (λ told. made_current run path job.folder) r) Ends
              go last k (Err e) q = stops last k e (all_told T (new found) (said_of last) (acts last) (tells (acts last) (subst S (sym q.1) s)) (q.0 ∙ ap (λ z. z ++ new found) none))
              go last k (Ok u) q = current_says last k (subst (λ x. Sound v (acts last) x) (sym q.2) (subst (λ z. Sound v z i) (sym q.1) ok)) (subst S (sym q.1) s) (q.0 ∙ ap (λ z. z ++ new found) none)

          marked_says : Told later → Keeps (speaking T) later j (then_told place job.folder found) Ends
          marked_says told =
              keeps_bind (speaking T) later j (lifted (of_plan job.folder) (changed_sequences run place mail job.folder o.sequences (made found))) (after (λ done_. found_told run path job found)) Committed Ends
              (quietly T told_kept (rules_of v) quiet S S_kept later j (lifted (of_plan job.folder) (changed_sequences run place mail job.folder o.sequences (made found)))
              (ByActs (Soundly v (okay (Commits run few path job p no_piece first (acts now_) o b h numbers is (acts later) found g.tested)))) told
              (goes_keeps v later (acts later) j (lifted (of_plan job.folder) (changed_sequences run place mail job.folder o.sequences (made found))) (okay (Commits run few path job p no_piece first (acts now_) o b h numbers is (acts later) found g.tested)) refl g.so
              (commit_goes run few path job p no_piece first (acts now_) o b h numbers is (acts later) found g.tested j)))
              go
            where
              Committed : List Deed → Hand → Result Unit CommandFault → Type 0
              Committed last i r = Quiet T told_kept (rules_of v) quiet S S_kept (ByActs (Soundly v (okay (Commits run few path job p no_piece first (acts now_) o b h numbers is (acts later) found g.tested)))) later last i r

              go : (last : List Deed) (i : Hand) (r : Result Unit CommandFault) → Committed last i r → Keeps (speaking T) last i (after (λ done_. found_told run path job found) r) Ends
              go last i (Err e) q = stops last i e q.2
              go last i (Ok u) q = told_says last i q.3.0 (q.1 S_now) (q.0 ∙ g.none_said)

      abbrev then_marked : Place → List ℕ → List ℕ → Plan (Result Unit CommandFault)
      then_marked q n found = bind (lifted (of_plan job.folder) (changed_sequences run q mail n o.sequences (made found))) (after (λ done. found_told run path job found))

      chosen_by : (value : Result (List ℕ) CommandFault) → chosen_from job o.listing o.sequences ≡ value → Keeps (speaking T) now_ h (after (λ numbers. bind (some_found place job numbers) (after (then_marked place job.folder))) value) Ends
      chosen_by (Err e) is = stops now_ h e (silent_told T told_kept now_ silent)
      chosen_by (Ok numbers) is = keeps_bind (speaking T) now_ h (some_found place job numbers) (after (then_marked place job.folder)) (FindsSome numbers is) Ends (found_says numbers is) go
        where
          go : (later : List Deed) (j : Hand) (r : Result (List ℕ) CommandFault) → FindsSome numbers is later j r → Keeps (speaking T) later j (after (then_marked place job.folder) r) Ends
          go later j (Err e) q = stops later j e q
          go later j (Ok found) q = marked_says numbers is later j found q.1 q.0

      chosen_at : (q : Place) (n : List ℕ) → q ≡ place → n ≡ job.folder → Keeps (speaking T) now_ h (after (λ numbers. bind (some_found q job numbers) (after (then_marked q n))) (chosen_from job o.listing o.sequences)) Ends
      chosen_at q n at name = rw (at, name) (chosen_by (chosen_from job o.listing o.sequences) refl)

      opened_says : Keeps (speaking T) now_ h (opened_picked run path job p o) Ends
      unfolding opened_picked found_marked bind ◌>>=◌
      opened_says = chosen_at o.place o.folder b.place b.name

    abbrev Begun : List deeds.Deed → Outcome Opened
    Begun first later j o = HasBegun v first path job.folder later o

    -- a `pick` that marks, after deeds that said nothing
    pub changes_say : (past : List Deed) (h : Hand) → said_of past ≡ [] → F (acts past) → Sound v (acts past) h → Keeps (speaking T) past h (pick_changes run path job p) Ends
    unfolding pick_changes ◌>>=◌
    changes_say past h silent f sound =
        keeps_bind (speaking T) past h plan (after work) _ Ends
        (quietly T told_kept (rules_of v) quiet F fasts past h plan (ByActs (Soundly v (okay (Begun (acts past))))) (silent_told T told_kept past silent)
        (goes_keeps v past (acts past) h plan (okay (Begun (acts past))) refl sound
        (goes_lifted v (acts past) h (of_plan job.folder) (begun run place mail job.folder) (Begun (acts past))
        (begun_goes v few path job.folder (begins run few path job.folder (Picks path job p) (Marking path job.folder) no_piece (λ own step_. Unit {0}) (lets run few path job p no_piece) (lasts run few path job p no_piece)) (acts past) h))))
        go
      where
        plan : Plan (Result Opened CommandFault)
        plan = lifted (of_plan job.folder) (begun run place mail job.folder)

        work : Opened → Plan (Result Unit CommandFault)
        work o = bind (opened_picked run path job p o) (ended place)

        go : (later : List Deed) (j : Hand) (r : Result Opened CommandFault) → Quiet T told_kept (rules_of v) quiet F fasts (ByActs (Soundly v (okay (Begun (acts past))))) past later j r
            → Keeps (speaking T) later j (after work r) Ends
        go later j (Err e) q = stops later j e q.2
        go later j (Ok o) q =
            keeps_bind (speaking T) later j (opened_picked run path job p o) (ended place) (λ last i r. Told last × Ends last i r) Ends
            (keeps_holding (speaking T) later j (opened_picked run path job p o) Ends (opened_says (acts past) later o q.3.1 j q.3.0 (q.0 ∙ silent) (q.1 f)))
            (λ last i r s. at_end last i r s.0 s.1)
