-- `folder -pack` goes as it pledges.
use Rattle.std.proofs.Common.{◌≡◌, ◌<◌, ◌^◌, ◌∷◌, [], ℕ, true, List, Result, refl, sym, subst}
use Rattle.mh_sequences.specs.Runs.{AreRuns}
use Rattle.mh_sequences.specs.Sequences.{Marked}
use Rattle.folder_files.specs.Commands.{Sorting}
use Rattle.folder_files.specs.Deeds.{Deed}
use Rattle.folder_files.specs.declared.place.Place.{Place}
use Rattle.folder_files.specs.declared.place.Place.TheVariants.{Folder, Mail}
use Rattle.file_plans.specs.Follows.{Follows, State}
use Rattle.file_plans.specs.Plan.{Hand, lifted, ◌>>=◌}
use Rattle.file_plans.specs.Rules.{IfOkay, Keeps}
use Rattle.file_plans.specs.Runs.{Deed as Done}
use Rattle.file_plans.proofs.Acting.{acts}
use Rattle.file_plans.proofs.Framing.{AnyStep}
use Rattle.step_plans.specs.CommandFaults.{command_cause, of_sink}
use Rattle.step_plans.specs.Pledges.{Pledge}
use Rattle.step_plans.specs.Promises.{Promises}
use Rattle.step_plans.specs.Settled.{AreSettled}
use Rattle.step_plans.specs.declared.command_fault.CommandFault.{CommandFault}
use Rattle.step_plans.proofs.Going.{Goes, Outcome, Sound, goes_lifted, goes_more, goes_then, okay, okay_more}
use Rattle.step_plans.proofs.Lasting.{KeptBy, lasting}
use Rattle.step_plans.proofs.Pledged.{Of}
use Rattle.step_plans.proofs.Promising.{keeps_pledge}
use Rattle.step_plans.proofs.Ruling.{rules_of}
use Rattle.step_plans.proofs.Stepping.{goes_return, goes_say}
use Rattle.step_plans.proofs.Written.{goes_at}
use Rattle.message_places.specs.Places.{AreMsgNums, froms, is_in}
use Rattle.message_places.specs.declared.moves.Move.{Move}
use Rattle.message_places.proofs.NumberLists.{in_good}
use Rattle.command_stages.specs.Current.{made_current}
use Rattle.command_stages.specs.Endings.{of_plan}
use Rattle.opening_plans.specs.FolderPledge.{told_within}
use Rattle.opening_plans.specs.Opening.{Opened, begun, opened_of}
use Rattle.opening_plans.specs.Reads.{HaveSeen}
use Rattle.opening_plans.proofs.EndedKept.{Still}
use Rattle.opening_plans.proofs.FolderPledged.{HasBegun}
use Rattle.opening_plans.proofs.WorkPledged.{current_goes, opened_keeps}
use Rattle.told_folders.specs.Plans.{lines_said}
use Rattle.refile_plans.specs.RmmPledge.{every_message}
use Rattle.refile_plans.proofs.RefileMoved.{HasHeldNone}
use Rattle.refile_plans.proofs.RmmPledged.{listed_runs}
use Rattle.pack_plans.specs.Pack.{line_after, line_told, opened_packed, pack, renumbered}
use Rattle.message_moves.proofs.MovePledged.{LetsTake}
use Rattle.sortm_plans.specs.MovePledge.{AreToldWithout}
use Rattle.sortm_plans.proofs.MarkedPledged as stage
use Rattle.pack_plans.specs.PackDone.{AllPacked, HasPacked}
use Rattle.pack_plans.specs.PackPledge.{MakesMarks, PacksSo, TellsPacked, pack_pledge}
use Rattle.pack_plans.specs.Places.{listing_moves}
use Rattle.pack_plans.specs.declared.job.PackJob.{PackJob}
use Rattle.pack_plans.proofs.PackLets.{lets, makes_kept, packed_kept, packing, takes_one}
use Rattle.pack_plans.proofs.PackMoves.{meant_good, moving_distinct, moving_good}

-- whatever it may tell
module _ (run : ℕ) (few : run < 2 ^ 128) (path : List ℕ) (job : PackJob) (Tells : List Deed → List ℕ → Type 0) where
  abbrev w : Pledge
  w = packing run few path job Tells

  abbrev p : Place
  p = Folder path job.folder

  abbrev mail : Place
  mail = Mail path

  -- the work on a folder that was begun
  module _ (begin own : List Deed) (o : Opened) (b : HasBegun w begin path job.folder own o) (none : HasHeldNone run p own) where
    abbrev m : Marked
    m = told_within o.listing b.text b.context job.folder

    runs : AreRuns o.listing
    runs = listed_runs run p mail o.listing b.text b.context own b.seen

    abbrev ms : List Move
    ms = listing_moves o.listing

    abbrev takes : List ℕ
    takes = froms ms

    -- what stands once they have moved to these numbers
    pub record Packed (ends : List ℕ) (later : List Deed) : Type 0 where
      pub settled : AreSettled own → AreSettled later
      pub seen : HaveSeen run p mail o.listing b.text b.context later
      pub done : AllPacked run path job o.listing m ends later

    abbrev pub Packs : Outcome (List ℕ)
    Packs later j ends = Packed ends later

    -- the folder as it was opened
    abbrev pub opened : Opened
    opened = opened_of p job.folder o.listing m o.ends

    good_takes : AreMsgNums takes
    good_takes = moving_good o.listing runs

    -- nothing more is known of the moves: they are by the numbers of the folder
    abbrev Knows : List Deed → Type 0
    Knows later = Unit {0}

    knows_kept : KeptBy AnyStep Knows
    knows_kept later s a any f = tt

    takes_so : (later : List Deed) (n : ℕ) → is_in n takes ≡ true → HaveSeen run p mail o.listing b.text b.context later → Knows later → AreToldWithout run path job.folder m takes later → LetsTake w p n later
    takes_so later n e seen u freed = takes_one run few path job Tells n later (in_good takes good_takes n e) (record { listing = o.listing; text = b.text; context = b.context; seen = seen; numbers = takes; taken = refl; one = e; freed = freed })

    abbrev Gone : List ℕ → List Deed → Type 0
    Gone ends later =
        stage.Gone run few path job.folder (MakesMarks run path job) Tells (PacksSo run path job) (lets run few path job) (makes_kept run few path job) begin own o b Knows knows_kept takes ms good_takes (moving_distinct o.listing runs) good_takes
        (meant_good o.listing runs) (λ k e. e) takes_so (λ later new u made. made) own ends later

    -- the messages get their numbers
    pub moves_go : (h : Hand) → Goes w own h (renumbered run mail opened ms) (okay Packs)
    moves_go h =
        goes_more w own h (renumbered run mail opened ms) (okay (λ later j ends. Gone ends later)) (okay Packs)
        (okay_more (λ later j ends. Gone ends later) Packs (λ later j ends f. record { settled = f.settled; seen = f.seen; done = record { moved = f.moved; marks = f.marks } }))
        (stage.moved_goes run few path job.folder (MakesMarks run path job) Tells (PacksSo run path job) (lets run few path job) (makes_kept run few path job) begin own o b Knows knows_kept takes ms good_takes (moving_distinct o.listing runs) good_takes
        (meant_good o.listing runs) (λ k e. e) takes_so (λ later new u made. made) ms refl own h b.base.0 none b.held.lock b.base.1 b.seen tt)

    pub same_opened : o ≡ opened
    same_opened = λ i. opened_of (b.place i) (b.name i) o.listing (b.sequences i) o.ends

    packed_so : (ends : List ℕ) (later : List Deed) → Packed ends later → HasPacked run path job later
    packed_so ends later f = record { listing = o.listing; text = b.text; context = b.context; seen = f.seen; ends = ends; packed = f.done }

    -- what was settled of commits is so still, and the messages have their numbers
    abbrev pub Worked : List Deed → Type 0
    Worked later = (AreSettled own → AreSettled later) × HasPacked run path job later

    -- it may tell the line of the folder as it is then
    abbrev TellsLine : Type 0
    TellsLine = (at_ : List Deed) (piece : List ℕ) → TellsPacked run path job at_ piece → Tells at_ piece

    line_goes : TellsLine → (ends : List ℕ) (later : List Deed) (h : Hand) → Packed ends later → Goes w later h (lines_said (line_after job o.listing m ends ∷ [])) (okay (λ last i u. last ≡ later))
    unfolding lines_said packed_so
    line_goes tells ends later h f =
        goes_say w later h of_sink (okay (λ last i u. last ≡ later)) (line_after job o.listing m ends) (λ told. lines_said []) (λ s. tells later (line_after job o.listing m ends) (packed_so ends later f, refl)) (goes_return w later h tt (okay (λ last i u. last ≡ later)) refl)

    become_current : (ends : List ℕ) (later : List Deed) (h : Hand) → Packed ends later → Goes w later h (made_current run path job.folder) (okay (Of Worked))
    become_current ends later h f =
        goes_more w later h (made_current run path job.folder) (okay (λ end i v. HasPacked run path job end × (AreSettled later → AreSettled end))) (okay (Of Worked))
        (okay_more (λ end i v. HasPacked run path job end × (AreSettled later → AreSettled end)) (Of Worked) (λ end i v g. ((λ s. g.1 (f.settled s)), g.0)))
        (lasting w (HasPacked run path job) (packed_kept run few path job) later h (made_current run path job.folder) (Of (λ end. AreSettled later → AreSettled end)) (packed_so ends later f)
        (current_goes run few path job.folder (MakesMarks run path job) (Sorting path job.folder every_message) Tells (PacksSo run path job) (lets run few path job) (makes_kept run few path job) later h o.listing b.text b.context f.seen))

    at_opened : TellsLine → (h : Hand) → Goes w own h (opened_packed run path job opened) (okay (Of Worked))
    unfolding opened_packed line_told
    at_opened tells h =
        goes_then w own h (lifted (of_plan job.folder) (renumbered run mail opened ms)) (λ ends. lines_said (line_after job o.listing m ends ∷ []) >>= (λ told. made_current run path job.folder)) Packs (Of Worked)
        (goes_lifted w own h (of_plan job.folder) (renumbered run mail opened ms) Packs (moves_go h))
        (λ later j ends f.
        goes_then w later j (lines_said (line_after job o.listing m ends ∷ [])) (λ told. made_current run path job.folder) (λ last i u. last ≡ later) (Of Worked) (line_goes tells ends later j f)
        (λ last i u e. goes_at w last later i (made_current run path job.folder) (okay (Of Worked)) e (become_current ends later i f)))

    pub opened_goes : TellsLine → (h : Hand) → Goes w own h (opened_packed run path job o) (okay (Of Worked))
    opened_goes tells h = subst (λ x. Goes w own h (opened_packed run path job x) (okay (Of Worked))) (sym same_opened) (at_opened tells h)

  -- the folder is begun, and the run holds nothing aside itself
  abbrev pub Began : List Deed → Outcome Opened
  Began own later j o = HasBegun w own path job.folder later o × HasHeldNone run p later

  pub begun_sparing : (own : List Deed) (h : Hand) → HasHeldNone run p own → Goes w own h (begun run p mail job.folder) (okay (Began own))
  begun_sparing = stage.begun_sparing run few path job.folder (MakesMarks run path job) Tells (PacksSo run path job) (lets run few path job) (makes_kept run few path job)

module _ (run : ℕ) (few : run < 2 ^ 128) (path : List ℕ) (job : PackJob) where
  abbrev promised : Pledge
  promised = pack_pledge run path job

  abbrev Tells_ : List Deed → List ℕ → Type 0
  Tells_ = TellsPacked run path job

  abbrev folder : Place
  folder = Folder path job.folder

  -- `folder -pack` keeps the rules of its pledge, where its run has used none of its held names before
  pub pack_keeps : (past : List Done) (h : Hand) → HasHeldNone run folder (acts past) → Sound promised (acts past) h → Keeps (rules_of promised) past h (pack run path job) (IfOkay (Still (acts past)))
  unfolding pack
  pack_keeps past h none sound =
      opened_keeps run few path job.folder (MakesMarks run path job) (Sorting path job.folder every_message) (TellsPacked run path job) (PacksSo run path job) (lets run few path job) (makes_kept run few path job) (HasHeldNone run folder) (begun run folder (Mail path) job.folder)
      (opened_packed run path job) past
      (λ later o b i s.
      goes_more promised later i (opened_packed run path job o) (okay (Of (Worked run few path job Tells_ (acts past) later o b.0 b.1))) (okay (Of (λ end. AreSettled later → AreSettled end)))
      (okay_more (Of (Worked run few path job Tells_ (acts past) later o b.0 b.1)) (Of (λ end. AreSettled later → AreSettled end)) (λ end k v g. g.0)) (opened_goes run few path job Tells_ (acts past) later o b.0 b.1 (λ at_ piece t. t) i)) h sound (begun_sparing run few path job Tells_ (acts past) h none)

  pub pack_promises : (x y : State) (result : Result Unit CommandFault) → Follows run command_cause (pack run path job) x y result → Promises promised x y
  pack_promises x y result f = keeps_pledge promised command_cause (pack run path job) x y result (IfOkay (Still [])) (pack_keeps [] x.hand (λ n ok. tt) (record { numbered = tt; unfailed = λ z. elim z [ ] })) f
