-- What a `pick` says that marks nothing: a front of the numbers of the messages that it read and of which the expression holds, or of the zero that
-- tells that there are none; and all numbers where it is done.
use Rattle.std.proofs.Common.{◌≡◌, ◌≢◌, inl, inr, ◌<◌, ◌^◌, ◌++◌, ◌∷◌, [], ℕ, List, Result, Ok, Err, refl, sym, ◌∙◌, ap, subst}
use Rattle.mh_base.specs.Entries.{entry_text}
use Rattle.mh_base.specs.declared.entry.Entry.TheVariants.{Sequences}
use Rattle.mh_profile.specs.declared.named_value.NamedValue.{NamedValue}
use Rattle.folder_files.specs.Deeds as deeds
use Rattle.folder_files.specs.Deeds.{did, now, on}
use Rattle.folder_files.specs.declared.place.Place.{Place}
use Rattle.folder_files.specs.declared.place.Place.TheVariants.{Folder}
use Rattle.folder_files.specs.declared.step.Answer.TheVariants as answer
use Rattle.folder_files.specs.declared.step.Step.TheVariants as step
use Rattle.file_plans.specs.Plan.{Hand, Plan, after, bind, ◌>>=◌}
use Rattle.file_plans.specs.Rules.{IfOkay, Keeps}
use Rattle.file_plans.specs.Runs.{Deed}
use Rattle.file_plans.specs.Text.{said_of}
use Rattle.file_plans.proofs.Acting.{acts}
use Rattle.file_plans.proofs.Framing.{AnyStep}
use Rattle.file_plans.proofs.Keeping.{keeps_bind}
use Rattle.step_plans.specs.Pledges.{Pledge}
use Rattle.step_plans.specs.declared.command_fault.CommandFault.{CommandFault}
use Rattle.step_plans.proofs.Coming.{NoneFailed}
use Rattle.step_plans.proofs.Going.{ByActs, Sound, Soundly, goes_keeps, okay}
use Rattle.step_plans.proofs.Lasting.{KeptBy}
use Rattle.step_plans.proofs.Ruling.{AreNumbered, rules_of}
use Rattle.command_stages.specs.Current.{made_current}
use Rattle.mh_looks.specs.ScanPledge.{HasListed}
use Rattle.opening_plans.specs.Endings.{IsToldBy}
use Rattle.opening_plans.specs.Reads.{TellsText}
use Rattle.opening_plans.proofs.CleanRuns.{unfailed_by}
use Rattle.opening_plans.proofs.EndedKept.{keeps_more}
use Rattle.opening_plans.proofs.Speaking.{Quiet, quietly, speaking}
use Rattle.told_folders.specs.Tasks.{Task}
use Rattle.told_folders.proofs.ChangesPledged.{notes_pledge}
use Rattle.told_folders.proofs.ChangesSay.{Adds, all_told}
use Rattle.told_folders.proofs.FrontComes.{reading}
use Rattle.told_folders.proofs.FrontSays.{GoesOn, behind, both_clean, current_says, front_says, stops}
use Rattle.pick_plans.specs.Lines.{lines_for}
use Rattle.pick_plans.specs.Outcomes.{text_if}
use Rattle.pick_plans.specs.Pick.{chosen_seen, found_told, pick_looks, said_if, some_found, unless_none}
use Rattle.pick_plans.specs.PickAnswers.{HasFoundListed, TellsFound, TellsSome}
use Rattle.pick_plans.specs.Testing.{all_tested}
use Rattle.pick_plans.specs.declared.job.PickJob.{PickJob}
use Rattle.pick_plans.proofs.ListedFound.{found_listed}
use Rattle.pick_plans.proofs.LooksJob.{looks_of}
use Rattle.pick_plans.proofs.PickSays.{Quietly, returns_so, said_says, tells_found, unless_says}
use Rattle.pick_plans.proofs.Tested.{All, AreTested, all_goes, tested_kept}
use Rattle.pick_plans.proofs.TestsGiven.{some_for}
use Rattle.mh_profile.specs.Reading.{entries_seen}

module _ (run : ℕ) (few : run < 2 ^ 128) (path : List ℕ) (job : PickJob) (h : Hand) where
  abbrev place : Place
  place = Folder path job.folder

  abbrev entries : List NamedValue
  entries = entries_seen h.context

  abbrev no_piece : List deeds.Deed → List ℕ → Type 0
  no_piece own piece = ⊥

  -- the same folder, as other commands look at it
  abbrev looks : Task
  looks = looks_of job

  -- one that says nothing
  abbrev v : Pledge
  v = notes_pledge run few path looks no_piece

  abbrev Found : List ℕ → List deeds.Deed → Type 0
  Found found own = HasFoundListed path job entries found own

  found_kept : (found : List ℕ) → KeptBy AnyStep (Found found)
  found_kept found own s x any f = record {
    names = f.names;
    text = f.text;
    reading = f.reading;
    newer = did s x ∷ f.newer;
    older = f.older;
    seen = ap (λ z. did s x ∷ z) f.seen;
    told = f.told;
    numbers = f.numbers;
    chosen = f.chosen;
    tested = tested_kept place job.expr f.numbers found own s x any f.tested;
  }

  listed_by : (found : List ℕ) (own : List deeds.Deed) → Found found own → HasListed place own
  listed_by found own f = subst (HasListed place) (sym f.seen) (behind _ f.newer (f.reading ∷ did (step.List place) (answer.Names f.names) ∷ f.older) (on (now (f.names, refl))))

  quiet : (past : List Deed) (piece : List ℕ) → (rules_of v).may_say past piece → ⊥
  quiet past piece f = f

  -- with what lasts besides
  module _ (F : List deeds.Deed → Type 0) (fasts : KeptBy AnyStep F) where
    abbrev T : List ℕ → List deeds.Deed → Type 0
    T text own = F own × TellsFound Found job text own

    -- where it is done
    abbrev Done : List ℕ → List deeds.Deed → Type 0
    Done text own = F own × TellsSome Found job text own

    told_kept : (text : List ℕ) → KeptBy AnyStep (T text)
    told_kept text own s x any (f, inl t) = (fasts own s x any f, inl (t.0, t.1, found_kept t.0 own s x any t.2, t.3))
    told_kept text own s x any (f, inr t) = (fasts own s x any f, inr (found_kept [] own s x any t.0, t.1))

    abbrev Told : List Deed → Type 0
    Told past = IsToldBy T (said_of past) (acts past)

    abbrev pub Ends : List Deed → Hand → Result Unit CommandFault → Type 0
    Ends later j r = IfOkay (λ last i u. Done (said_of last) (acts last)) later j r

    fails : (later : List Deed) (j : Hand) (e : CommandFault) → Ends later j (Err e)
    fails later j e = tt

    sound_there : (later : List Deed) (j : Hand) → j ≡ h → AreNumbered run h.next (acts later) → NoneFailed (acts later) → Sound v (acts later) j
    sound_there later j same numbered clean = record { numbered = subst (λ i. AreNumbered run i.next (acts later)) (sym same) numbered; unfailed = unfailed_by (acts later) clean }

    -- some were found
    module _ (found : List ℕ) (some : found ≢ []) where
      abbrev new : List ℕ
      new = text_if job.list (lines_for found)

      abbrev S : List deeds.Deed → Type 0
      S own = F own × Found found own

      S_kept : KeptBy AnyStep S
      S_kept own s x any z = (fasts own s x any z.0, found_kept found own s x any z.1)

      tells : (own : List deeds.Deed) → S own → T new own
      tells own s = (s.0, tells_found Found job found own s.1)

      -- the folder becomes the current one
      current_made : (past : List Deed) (i : Hand) → Sound v (acts past) i → S (acts past) → said_of past ≡ new → Keeps (speaking T) past i (made_current run path job.folder) Ends
      current_made past i ok s told =
          current_says T told_kept Ends fails run few path looks S S_kept past i ok (all_told T new (said_of past) (acts past) (tells (acts past) s) told) (listed_by found (acts past) s.1) s
          (λ last k none z. subst (λ t. Done t (acts last)) (sym (none ∙ told)) (z.0, (found, some, z.1, refl)))

      told_says : (past : List Deed) (i : Hand) → Sound v (acts past) i → S (acts past) → said_of past ≡ [] → Keeps (speaking T) past i (found_told run path job found) Ends
      unfolding found_told ◌>>=◌
      told_says past i ok s none =
          keeps_bind (speaking T) past i (said_if job.list (lines_for found)) (after (λ told. made_current run path job.folder)) (λ last k r. Adds new past i last k r) Ends
          (said_says T new past i job.list (lines_for found) (some_for found) (tells (acts past) s) (ap (λ z. z ++ new) none)) go
        where
          go : (last : List Deed) (k : Hand) (r : Result Unit CommandFault) → Adds new past i last k r → Keeps (speaking T) last k (after (λ told. made_current run path job.folder) r) Ends
          go last k (Err e) q = stops T told_kept Ends fails last k e (λ (told : Unit {0}). made_current run path job.folder) (all_told T new (said_of last) (acts last) (tells (acts last) (subst S (sym q.1) s)) (q.0 ∙ ap (λ z. z ++ new) none))
          go last k (Ok u) q = current_made last k (subst (λ x. Sound v (acts last) x) (sym q.2) (subst (λ z. Sound v z i) (sym q.1) ok)) (subst S (sym q.1) s) (q.0 ∙ ap (λ z. z ++ new) none)

    abbrev then_told : List ℕ → Plan (Result Unit CommandFault)
    then_told found = found_told run path job found

    abbrev rest : List ℕ → Plan (Result Unit CommandFault)
    rest numbers = bind (some_found place job numbers) (after then_told)

    -- what was read
    module _ (past : List Deed) (silent : said_of past ≡ []) (f : F (acts past)) (numbered : AreNumbered run h.next (acts past)) where
      module _ (names : List (List ℕ)) (text : List ℕ) (reading_ : deeds.Deed) (told_text : TellsText place (entry_text Sequences) text reading_) (later : List Deed) (is : acts later ≡ reading_ ∷ did (step.List place) (answer.Names names) ∷ acts past)
          (g : F (acts later)) (sound : Sound v (acts later) h) (none : said_of later ≡ []) (t : Told later) where
        module _ (numbers : List ℕ) (same : chosen_seen job names text entries ≡ Ok numbers) where
          has_found : (own : List deeds.Deed) (found : List ℕ) → AreTested place job.expr [] numbers (acts later) own found → Found found own
          has_found own found tested = found_listed path job entries names text reading_ (acts past) (acts later) is told_text numbers same own found tested

          abbrev Tests : List Deed → Hand → Result (List ℕ) CommandFault → Type 0
          Tests last j r = Quiet T told_kept (rules_of v) quiet F fasts (ByActs (Soundly v (okay (All place job.expr [] numbers (acts later) h)))) later last j r

          abbrev FindsSome : List Deed → Hand → Result (List ℕ) CommandFault → Type 0
          FindsSome last j (Ok found) = Told last × ((said_of last ≡ []) × F (acts last) × Sound v (acts last) j × Found found (acts last) × (found ≢ []))
          FindsSome last j (Err e) = Told last

          found_says : Keeps (speaking T) later h (some_found place job numbers) FindsSome
          unfolding some_found ◌>>=◌
          found_says =
              keeps_bind (speaking T) later h (all_tested place job.expr [] numbers) (after (λ found. unless_none job.list found)) Tests FindsSome
              (quietly T told_kept (rules_of v) quiet F fasts later h (all_tested place job.expr [] numbers) (ByActs (Soundly v (okay (All place job.expr [] numbers (acts later) h)))) t
              (goes_keeps v later (acts later) h (all_tested place job.expr [] numbers) (okay (All place job.expr [] numbers (acts later) h)) refl sound (all_goes place job.expr v [] numbers (acts later) h)))
              go
            where
              go : (last : List Deed) (j : Hand) (r : Result (List ℕ) CommandFault) → Tests last j r → Keeps (speaking T) last j (after (λ found. unless_none job.list found) r) FindsSome
              go last j (Err e) q = returns_so T last j (Err e) FindsSome q.2 q.2
              go last j (Ok found) q =
                  keeps_more (speaking T) last j (unless_none job.list found) (λ end i r. IsToldBy T (said_of end) (acts end) × Quietly T job.list last j found end i r) FindsSome more
                  (unless_says T job.list last j found (λ e. (q.1 g, inr (subst (λ z. Found z (acts last)) e (has_found (acts last) found q.3.1.0), refl))) (q.0 ∙ none) q.2)
                where
                  more : (end : List Deed) (i : Hand) (r : Result (List ℕ) CommandFault) → Told end × Quietly T job.list last j found end i r → FindsSome end i r
                  more end i (Err e) s = s.0
                  more end i (Ok all) s = (s.0, rw (s.1.0, s.1.1, s.1.2) (q.0 ∙ none, q.1 g, q.3.0, has_found (acts last) found q.3.1.0, s.1.3))

        numbers_say : (numbers : List ℕ) → chosen_seen job names text entries ≡ Ok numbers → Keeps (speaking T) later h (rest numbers) Ends
        numbers_say numbers same = keeps_bind (speaking T) later h (some_found place job numbers) (after then_told) (FindsSome numbers same) Ends (found_says numbers same) go
          where
            go : (last : List Deed) (j : Hand) (r : Result (List ℕ) CommandFault) → FindsSome numbers same last j r → Keeps (speaking T) last j (after then_told r) Ends
            go last j (Err e) q = stops T told_kept Ends fails last j e then_told q
            go last j (Ok found) q = told_says found q.1.4 last j q.1.2 (q.1.1, q.1.3) q.1.0

      -- after deeds that said nothing, of which none failed
      pub listing_says : NoneFailed (acts past) → Keeps (speaking T) past h (pick_looks run path job) Ends
      unfolding pick_looks ◌>>=◌
      listing_says clean = front_says T told_kept Ends fails F fasts path job.folder h (List ℕ) (chosen_seen job) (λ names. rest) past silent f goes
        where
          goes : GoesOn T told_kept Ends fails F fasts path job.folder h (List ℕ) (chosen_seen job) (λ names. rest) past
          goes names text a told live later is g none t numbers same =
              numbers_say names text (reading path job.folder h a) told later is g (sound_there later h refl (subst (AreNumbered run h.next) (sym is) (tt, (tt, numbered))) (subst NoneFailed (sym is) (both_clean path job.folder h names a (acts past) live clean))) none t numbers same
