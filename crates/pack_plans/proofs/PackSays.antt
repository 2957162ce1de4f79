-- What `folder -pack` says: a front of the line of the folder as its own steps left it, and all of it where it is done.
use Rattle.std.proofs.Common.{◌≡◌, ◌<◌, ◌^◌, ◌++◌, ◌∷◌, [], ℕ, List, Result, Ok, Err, refl, sym, ◌∙◌, ap, subst, append-nil}
use Rattle.std.specs.Str.{encode_utf8_all}
use Rattle.mh_sequences.specs.Runs.{numbers_of}
use Rattle.folder_files.specs.Commands.{Sorting}
use Rattle.folder_files.specs.Deeds as deeds
use Rattle.folder_files.specs.declared.place.Place.{Place}
use Rattle.folder_files.specs.declared.place.Place.TheVariants.{Folder, Mail}
use Rattle.file_plans.specs.Plan.{Hand, Plan, after, bind, lifted, ◌>>=◌}
use Rattle.file_plans.specs.Rules.{Keeps}
use Rattle.file_plans.specs.Runs.{Deed}
use Rattle.file_plans.specs.Text.{said_of}
use Rattle.file_plans.proofs.Acting.{acts}
use Rattle.file_plans.proofs.Framing.{AnyStep}
use Rattle.file_plans.proofs.Keeping.{keeps_bind}
use Rattle.step_plans.specs.Pledges.{Pledge}
use Rattle.step_plans.specs.Settled.{AreSettled}
use Rattle.step_plans.specs.declared.command_fault.CommandFault.{CommandFault}
use Rattle.step_plans.proofs.Going.{ByActs, Outcome, Sound, Soundly, goes_keeps, goes_lifted, okay}
use Rattle.step_plans.proofs.Lasting.{KeptBy}
use Rattle.step_plans.proofs.Pledged.{Of}
use Rattle.step_plans.proofs.Ruling.{rules_of}
use Rattle.command_stages.specs.Current.{made_current}
use Rattle.command_stages.specs.Endings.{of_plan}
use Rattle.opening_plans.specs.Ending.{ended}
use Rattle.opening_plans.specs.Endings.{IsToldBy}
use Rattle.opening_plans.specs.FolderPledge.{told_within}
use Rattle.opening_plans.specs.Opening.{Opened, begun}
use Rattle.opening_plans.proofs.EndedKept.{keeps_more}
use Rattle.opening_plans.proofs.FolderPledged.{HasBegun, seen_kept}
use Rattle.opening_plans.proofs.Speaking.{Quiet, keeps_holding, quietly, silent_told, speaking}
use Rattle.opening_plans.proofs.WorkPledged.{current_goes}
use Rattle.told_folders.specs.Plans.{lines_said}
use Rattle.told_folders.proofs.ChangesSay.{Adds, all_told, lines_say}
use Rattle.pack_plans.proofs.SaysEnded as saying
use Rattle.folder_command.proofs.Orderly.{summary_some}
use Rattle.refile_plans.specs.RmmPledge.{every_message}
use Rattle.refile_plans.proofs.RefileMoved.{HasHeldNone}
use Rattle.pack_plans.specs.Pack.{line_after, line_told, opened_packed, pack, renumbered}
use Rattle.pack_plans.specs.PackPledge.{MakesMarks, PacksSo, TellsPacked}
use Rattle.pack_plans.specs.Places.{listing_moves, packed_listing}
use Rattle.sortm_plans.specs.Moving.{sequences_after}
use Rattle.pack_plans.specs.declared.job.PackJob.{PackJob}
use Rattle.pack_plans.proofs.PackLets.{all_kept, lets, makes_kept, packing}
use Rattle.pack_plans.proofs.PackPledged as pledged

module _ (run : ℕ) (few : run < 2 ^ 128) (path : List ℕ) (job : PackJob) where
  abbrev p : Place
  p = Folder path job.folder

  abbrev mail : Place
  mail = Mail path

  abbrev no_piece : List deeds.Deed → List ℕ → Type 0
  no_piece own piece = ⊥

  -- one that says nothing
  abbrev v : Pledge
  v = packing run few path job no_piece

  quiet : (past : List Deed) (piece : List ℕ) → (rules_of v).may_say past piece → ⊥
  quiet past piece f = f

  -- with what lasts besides
  module _ (F : List deeds.Deed → Type 0) (lasts : KeptBy AnyStep F) where
    abbrev T : List ℕ → List deeds.Deed → Type 0
    T text own = F own × TellsPacked run path job own text

    told_kept : (text : List ℕ) → KeptBy AnyStep (T text)
    told_kept text own s x any (g, (f, same)) = (
      lasts own s x any g,
      (
        record {
          listing = f.listing;
          text = f.text;
          context = f.context;
          seen = seen_kept run p mail f.listing f.text f.context own s x any f.seen;
          ends = f.ends;
          packed = all_kept run few path job f.listing (told_within f.listing f.text f.context job.folder) f.ends own s x any f.packed;
        },
        same,
      ),
    )

    abbrev Told : List Deed → Type 0
    Told past = IsToldBy T (said_of past) (acts past)

    abbrev pub Ends : List Deed → Hand → Result Unit CommandFault → Type 0
    Ends later j r = saying.Ends T later j r

    -- the work on a folder that was begun
    module _ (first : List deeds.Deed) (now_ : List Deed) (o : Opened) (b : HasBegun v first path job.folder (acts now_) o) (none : HasHeldNone run p (acts now_)) (h : Hand) (sound : Sound v (acts now_) h) (silent : said_of now_ ≡ []) (f : F (acts now_)) where
      abbrev opened : Opened
      opened = pledged.opened run few path job no_piece first (acts now_) o b none

      abbrev Moves : List Deed → Hand → Result (List ℕ) CommandFault → Type 0
      Moves later j r = ByActs (Soundly v (okay (pledged.Packs run few path job no_piece first (acts now_) o b none))) later j r

      abbrev line : List ℕ → List ℕ
      line ends = line_after job opened.listing opened.sequences ends

      -- the deeds of a run whose messages moved tell the line
      tells_line : (ends : List ℕ) (own : List deeds.Deed) → F own → pledged.Packed run few path job no_piece first (acts now_) o b none ends own → T (line ends) own
      tells_line ends own g m = (g, (record { listing = o.listing; text = b.text; context = b.context; seen = m.seen; ends = ends; packed = m.done }, refl))

      line_some : (ends : List ℕ) → line ends ≡ [] → ⊥
      line_some ends e =
          summary_some (encode_utf8_all job.folder) (numbers_of (packed_listing opened.listing ends)) (sequences_after (listing_moves opened.listing) ends opened.sequences).cur e

      module _ (ends : List ℕ) where
        current_says : (later : List Deed) (j : Hand) → Sound v (acts later) j → T (line ends) (acts later) → said_of later ≡ line ends → Keeps (speaking T) later j (made_current run path job.folder) Ends
        current_says later j ok t told =
            keeps_more (speaking T) later j (made_current run path job.folder) _ Ends go
            (quietly T told_kept (rules_of v) quiet (T (line ends)) (told_kept (line ends)) later j (made_current run path job.folder) (ByActs (Soundly v (okay (Of (λ last. AreSettled (acts later) → AreSettled last)))))
            (all_told T (line ends) (said_of later) (acts later) t told)
            (goes_keeps v later (acts later) j (made_current run path job.folder) (okay (Of (λ last. AreSettled (acts later) → AreSettled last))) refl ok
            (current_goes run few path job.folder (MakesMarks run path job) (Sorting path job.folder every_message) no_piece (PacksSo run path job) (lets run few path job) (makes_kept run few path job) (acts later) j t.1.0.listing t.1.0.text t.1.0.context t.1.0.seen)))
          where
            go : (last : List Deed) (i : Hand) (r : Result Unit CommandFault)
                → Quiet T told_kept (rules_of v) quiet (T (line ends)) (told_kept (line ends)) (ByActs (Soundly v (okay (Of (λ end. AreSettled (acts later) → AreSettled end))))) later last i r → Ends last i r
            go last i (Ok u) q = subst (λ z. T z (acts last)) (sym (q.0 ∙ told)) (q.1 t)
            go last i (Err e) q = tt

        then_said : (later : List Deed) (j : Hand) → Sound v (acts later) j → T (line ends) (acts later) → said_of later ≡ [] → (last : List Deed) (i : Hand) (r : Result Unit CommandFault) → Adds (line ends ++ []) later j last i r
            → Keeps (speaking T) last i (after (λ told. made_current run path job.folder) r) Ends
        then_said later j ok t nothing last i (Err e) q =
            saying.stops T told_kept p last i e (all_told T (line ends) (said_of last) (acts last) (subst (T (line ends)) (sym q.1) t) (q.0 ∙ (ap (λ z. z ++ (line ends ++ [])) nothing ∙ append-nil (line ends))))
        then_said later j ok t nothing last i (Ok u) q =
            current_says last i (subst (λ k. Sound v (acts last) k) (sym q.2) (subst (λ z. Sound v z j) (sym q.1) ok)) (subst (T (line ends)) (sym q.1) t) (q.0 ∙ (ap (λ z. z ++ (line ends ++ [])) nothing ∙ append-nil (line ends)))

        moved_says : (later : List Deed) (j : Hand) → Sound v (acts later) j → T (line ends) (acts later) → said_of later ≡ []
            → Keeps (speaking T) later j (bind (lines_said (line ends ∷ [])) (after (λ told. made_current run path job.folder))) Ends
        moved_says later j ok t nothing =
            keeps_bind (speaking T) later j (lines_said (line ends ∷ [])) (after (λ told. made_current run path job.folder)) (λ last i r. Adds (line ends ++ []) later j last i r) Ends
            (lines_say T (line ends) later j (line ends ∷ []) (line_some ends, tt) t (ap (λ z. z ++ (line ends ++ [])) nothing ∙ append-nil (line ends))) (then_said later j ok t nothing)

      at_opened : Keeps (speaking T) now_ h (opened_packed run path job opened) Ends
      unfolding opened_packed line_told ◌>>=◌
      at_opened =
          keeps_bind (speaking T) now_ h plan (after (λ ends. bind (lines_said (line ends ∷ [])) (after (λ told. made_current run path job.folder)))) _ Ends
          (quietly T told_kept (rules_of v) quiet F lasts now_ h plan Moves (silent_told T told_kept now_ silent)
          (goes_keeps v now_ (acts now_) h plan (okay (pledged.Packs run few path job no_piece first (acts now_) o b none)) refl sound
          (goes_lifted v (acts now_) h (of_plan job.folder) (renumbered run mail opened (listing_moves o.listing)) (pledged.Packs run few path job no_piece first (acts now_) o b none)
          (pledged.moves_go run few path job no_piece first (acts now_) o b none h))))
          go
        where
          plan : Plan (Result (List ℕ) CommandFault)
          plan = lifted (of_plan job.folder) (renumbered run mail opened (listing_moves o.listing))

          go : (later : List Deed) (j : Hand) (r : Result (List ℕ) CommandFault) → Quiet T told_kept (rules_of v) quiet F lasts Moves now_ later j r
              → Keeps (speaking T) later j (after (λ ends. bind (lines_said (line ends ∷ [])) (after (λ told. made_current run path job.folder))) r) Ends
          go later j (Err e) q = saying.stops T told_kept p later j e q.2
          go later j (Ok ends) q = moved_says ends later j q.3.0 (tells_line ends (acts later) (q.1 f) q.3.1) (q.0 ∙ silent)

      opened_says : Keeps (speaking T) now_ h (opened_packed run path job o) Ends
      opened_says = subst (λ z. Keeps (speaking T) now_ h (opened_packed run path job z) Ends) (sym (pledged.same_opened run few path job no_piece first (acts now_) o b none)) at_opened

    abbrev Begun : List deeds.Deed → Outcome Opened
    Begun own later j o = pledged.Began run few path job no_piece own later j o

    -- the whole, after deeds that said nothing, where its run has used none of its held names before
    pub pack_says : (past : List Deed) (h : Hand) → said_of past ≡ [] → F (acts past) → HasHeldNone run p (acts past) → Sound v (acts past) h → Keeps (speaking T) past h (pack run path job) Ends
    unfolding pack ◌>>=◌
    pack_says past h silent f none sound =
        keeps_bind (speaking T) past h plan (after work) _ Ends
        (quietly T told_kept (rules_of v) quiet F lasts past h plan (ByActs (Soundly v (okay (Begun (acts past))))) (silent_told T told_kept past silent)
        (goes_keeps v past (acts past) h plan (okay (Begun (acts past))) refl sound
        (goes_lifted v (acts past) h (of_plan job.folder) (begun run p mail job.folder) (Begun (acts past)) (pledged.begun_sparing run few path job no_piece (acts past) h none))))
        go
      where
        plan : Plan (Result Opened CommandFault)
        plan = lifted (of_plan job.folder) (begun run p mail job.folder)

        work : Opened → Plan (Result Unit CommandFault)
        work o = bind (opened_packed run path job o) (ended p)

        go : (later : List Deed) (j : Hand) (r : Result Opened CommandFault) → Quiet T told_kept (rules_of v) quiet F lasts (ByActs (Soundly v (okay (Begun (acts past))))) past later j r
            → Keeps (speaking T) later j (after work r) Ends
        go later j (Err e) q = saying.stops T told_kept p later j e q.2
        go later j (Ok o) q =
            keeps_bind (speaking T) later j (opened_packed run path job o) (ended p) (λ last i r. Told last × Ends last i r) Ends
            (keeps_holding (speaking T) later j (opened_packed run path job o) Ends (opened_says (acts past) later o q.3.1.0 q.3.1.1 j q.3.0 (q.0 ∙ silent) (q.1 f)))
            (λ last i r s. saying.at_end T told_kept p last i r s.0 s.1)
