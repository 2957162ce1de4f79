-- What a command says that only looks: a front of its lines of what it read, and all of them where it is done.
use Rattle.std.proofs.Common.{◌≡◌, ◌<◌, ◌^◌, ◌++◌, ◌∷◌, [], ℕ, List, Result, Ok, Err, refl, sym, ◌∙◌, ap, subst}
use Rattle.mh_profile.specs.declared.named_value.NamedValue.{NamedValue}
use Rattle.mh_sequences.specs.Sequences.{Marked}
use Rattle.mh_sequences.specs.declared.run.Run.{Run}
use Rattle.folder_files.specs.Deeds as deeds
use Rattle.folder_files.specs.Deeds.{did, now, on}
use Rattle.folder_files.specs.declared.place.Place.{Place}
use Rattle.folder_files.specs.declared.place.Place.TheVariants.{Folder}
use Rattle.folder_files.specs.declared.step.Answer.TheVariants as answer
use Rattle.folder_files.specs.declared.step.Step.TheVariants as step
use Rattle.file_plans.specs.Plan.{Hand, Plan, after, bind, ◌>>=◌}
use Rattle.file_plans.specs.Rules.{IfOkay, Keeps}
use Rattle.file_plans.specs.Runs.{Deed}
use Rattle.file_plans.specs.Text.{said_of}
use Rattle.file_plans.proofs.Acting.{acts}
use Rattle.file_plans.proofs.Framing.{AnyStep}
use Rattle.file_plans.proofs.Keeping.{keeps_bind}
use Rattle.step_plans.specs.Pledges.{Pledge}
use Rattle.step_plans.specs.declared.command_fault.CommandFault.{CommandFault}
use Rattle.step_plans.proofs.Coming.{NoneFailed}
use Rattle.step_plans.proofs.Going.{Sound}
use Rattle.step_plans.proofs.Lasting.{KeptBy}
use Rattle.step_plans.proofs.Ruling.{AreNumbered}
use Rattle.command_stages.specs.Current.{made_current}
use Rattle.mh_looks.specs.ScanPledge.{HasListed}
use Rattle.opening_plans.proofs.CleanRuns.{unfailed_by}
use Rattle.opening_plans.proofs.Speaking.{speaking}
use Rattle.told_folders.proofs.FrontComes.{reading}
use Rattle.told_folders.proofs.FrontSays.{GoesOn, behind, both_clean, current_says, front_says, stops}
use Rattle.told_folders.proofs.ChangesPledged.{notes_pledge}
use Rattle.told_folders.proofs.ChangesSay.{Adds, all_told, lines_say}
use Rattle.told_folders.specs.Answers.{TellsFolder}
use Rattle.told_folders.specs.Outcomes.{joined}
use Rattle.told_folders.specs.Plans.{folder_looked, lines_said}
use Rattle.told_folders.specs.Tasks.{IsOrderly, Task, listed_runs, sequences_seen}
use Rattle.mh_profile.specs.Reading.{entries_seen}

module _ (run : ℕ) (few : run < 2 ^ 128) (path : List ℕ) (task : Task) (orderly : IsOrderly task) (h : Hand) where
  abbrev place : Place
  place = Folder path task.folder

  abbrev entries : List NamedValue
  entries = entries_seen h.context

  abbrev no_piece : List deeds.Deed → List ℕ → Type 0
  no_piece own piece = ⊥

  -- one that says nothing
  abbrev v : Pledge
  v = notes_pledge run few path task no_piece

  -- with what lasts besides
  module _ (F : List deeds.Deed → Type 0) (lasts : KeptBy AnyStep F) where
    abbrev T : List ℕ → List deeds.Deed → Type 0
    T text own = F own × TellsFolder path task entries text own

    told_kept : (text : List ℕ) → KeptBy AnyStep (T text)
    told_kept text own s x any f =
        let m = f.1 in (
          lasts own s x any f.0,
          record {
            names = m.names;
            text = m.text;
            reading = m.reading;
            newer = did s x ∷ m.newer;
            older = m.older;
            seen = ap (λ z. did s x ∷ z) m.seen;
            told = m.told;
            marked = m.marked;
            listed = m.listed;
            lines = m.lines;
          },
        )

    listed_by : (text : List ℕ) (own : List deeds.Deed) → T text own → HasListed place own
    listed_by text own f =
        let m = f.1 in
        subst (HasListed place) (sym m.seen) (behind _ m.newer (m.reading ∷ did (step.List place) (answer.Names m.names) ∷ m.older) (on (now (m.names, refl))))

    abbrev pub Ends : List Deed → Hand → Result Unit CommandFault → Type 0
    Ends later j r = IfOkay (λ last i u. T (said_of last) (acts last)) later j r

    fails : (later : List Deed) (j : Hand) (e : CommandFault) → Ends later j (Err e)
    fails later j e = tt

    -- the folder becomes the current one
    current_made : (text : List ℕ) (later : List Deed) (j : Hand) → Sound v (acts later) j → T text (acts later) → said_of later ≡ text → Keeps (speaking T) later j (made_current run path task.folder) Ends
    current_made text later j sound t told =
        current_says T told_kept Ends fails run few path task (T text) (told_kept text) later j sound (all_told T text (said_of later) (acts later) t told) (listed_by text (acts later) t) t
        (λ last i none g. subst (λ z. T z (acts last)) (sym (none ∙ told)) g)

    -- the lines
    module _ (listing_ : List Run) (m : Marked) where
      abbrev text_ : List ℕ
      text_ = joined (task.lines listing_ m)

      lines_says : (later : List Deed) (j : Hand) → Sound v (acts later) j → T text_ (acts later) → said_of later ≡ []
          → Keeps (speaking T) later j (bind (lines_said (task.lines listing_ m)) (after (λ told. made_current run path task.folder))) Ends
      lines_says later j sound t none =
          keeps_bind (speaking T) later j (lines_said (task.lines listing_ m)) (after (λ told. made_current run path task.folder)) (λ last i r. Adds text_ later j last i r) Ends
          (lines_say T text_ later j (task.lines listing_ m) (orderly.lines listing_ m) t (ap (λ z. z ++ text_) none)) go
        where
          all : (last : List Deed) (i : Hand) (r : Result Unit CommandFault) → Adds text_ later j last i r → said_of last ≡ text_
          all last i r q = q.0 ∙ ap (λ z. z ++ text_) none

          go : (last : List Deed) (i : Hand) (r : Result Unit CommandFault) → Adds text_ later j last i r → Keeps (speaking T) last i (after (λ told. made_current run path task.folder) r) Ends
          go last i (Err e) q = stops T told_kept Ends fails last i e (λ (told : Unit {0}). made_current run path task.folder) (all_told T text_ (said_of last) (acts last) (subst (T text_) (sym q.1) t) (all last i (Err e) q))
          go last i (Ok u) q =
              current_made text_ last i (subst (λ k. Sound v (acts last) k) (sym q.2) (subst (λ z. Sound v z j) (sym q.1) sound)) (subst (T text_) (sym q.1) t) (all last i (Ok u) q)

    abbrev rest : List Run → Marked → Plan (Result Unit CommandFault)
    rest l m = bind (lines_said (task.lines l m)) (after (λ told. made_current run path task.folder))

    -- after deeds that said nothing, of which none failed
    module _ (past : List Deed) (silent : said_of past ≡ []) (f : F (acts past)) (numbered : AreNumbered run h.next (acts past)) where
      pub listing_says : NoneFailed (acts past) → Keeps (speaking T) past h (folder_looked run path task) Ends
      unfolding folder_looked ◌>>=◌
      listing_says clean = front_says T told_kept Ends fails F lasts path task.folder h Marked (sequences_seen task) (λ names m. rest (listed_runs names) m) past silent f goes
        where
          goes : GoesOn T told_kept Ends fails F lasts path task.folder h Marked (sequences_seen task) (λ names m. rest (listed_runs names) m) past
          goes names text a told live later is g none t m same =
              lines_says (listed_runs names) m later h
              (record { numbered = subst (AreNumbered run h.next) (sym is) (tt, (tt, numbered)); unfailed = unfailed_by (acts later) (subst NoneFailed (sym is) (both_clean path task.folder h names a (acts past) live clean)) })
              (g, record { names = names; text = text; reading = reading path task.folder h a; newer = []; older = acts past; seen = is; told = told; marked = m; listed = same; lines = refl }) none
