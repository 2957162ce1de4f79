-- What the pledge of `sortm` lets its steps be.
use Rattle.std.proofs.Common.{◌≡◌, inl, ◌<◌, ◌^◌, ℕ, List, subst}
use Rattle.mh_base.specs.Entries.{entry_text}
use Rattle.mh_base.specs.Numbers.{IsMsgNum}
use Rattle.mh_base.specs.declared.entry.Entry.TheVariants.{Number}
use Rattle.mh_sequences.specs.Sequences.{Marked}
use Rattle.mh_sequences.specs.declared.run.Run.{Run}
use Rattle.folder_files.specs.Commands.{Sorting}
use Rattle.folder_files.specs.Deeds.{Deed}
use Rattle.folder_files.specs.declared.place.Place.{Place}
use Rattle.folder_files.specs.declared.place.Place.TheVariants.{Folder, Mail}
use Rattle.file_plans.proofs.Framing.{AnyStep}
use Rattle.step_plans.specs.Pledges.{Pledge}
use Rattle.step_plans.proofs.Lasting.{KeptBy}
use Rattle.message_moves.proofs.MovePledged.{LetsTake}
use Rattle.message_places.specs.declared.moves.Move.{Move}
use Rattle.opening_plans.specs.FolderPledge.{told_within}
use Rattle.opening_plans.proofs.FolderPledged.{seen_kept}
use Rattle.opening_plans.proofs.WorkPledged.{LetsBegin}
use Rattle.refile_plans.specs.RmmPledge.{every_message}
use Rattle.message_places.specs.Places.{slots}
use Rattle.sortm_plans.specs.MovePledge.{Taking, WasWithdrawn}
use Rattle.sortm_plans.specs.SortDone.{HasSortedChosen}
use Rattle.sortm_plans.specs.SortPledge.{AreMoves, MakesMarks, SortsSo, TakesSlots, WasChosen, sortm_pledge}
use Rattle.sortm_plans.specs.SortMoves.{moves_by, read_on}
use Rattle.sortm_plans.specs.declared.job.SortJob.{SortJob}
use Rattle.sortm_plans.proofs.ArrangedDone.{settled_kept}
use Rattle.sortm_plans.proofs.MoveLets as moving
use Rattle.sortm_plans.proofs.MoveLets.{marks_kept, may_take, moves_marks_kept, taken_number}
use Rattle.refile_plans.proofs.RefileLets.{committed_unheld}

module _ (run : ℕ) (few : run < 2 ^ 128) (path : List ℕ) (job : SortJob) where
  abbrev w : Pledge
  w = sortm_pledge run path job

  abbrev p : Place
  p = Folder path job.folder

  abbrev mail : Place
  mail = Mail path

  abbrev no_piece : List Deed → List ℕ → Type 0
  no_piece own piece = ⊥

  abbrev Takes : Taking
  Takes = TakesSlots run path job

  pub lets : LetsBegin path job.folder (Sorting path job.folder every_message) (SortsSo run path job)
  lets = let so = moving.lets run path job.folder Takes in record {
    kinds = λ own kind s k. inl k;
    makes = λ own q. ((λ number held n e k h. absurd (cc (e))), so.makes own q);
    creates = λ own q name bytes. ((λ number held n e k h. absurd (cc (e))), so.creates own q name bytes);
    clears = λ own q temp is. ((λ number held n e k h. absurd (cc (e))), so.clears own q temp is);
    gives = λ own q held number is. ((λ from other n e k h. absurd (cc (e))), so.gives own q held number is);
    drops = λ own q held is away. ((λ number other n e k h. absurd (cc (e))), so.drops own q held is away);
    commits = λ own q temp name is. ((λ number held n e k h. absurd (let same : name ≡ held = cc (e) in committed_unheld q name held is same h)), so.commits own q temp name is);
  }

  -- what it makes of sequences it makes later too
  pub moves_kept : (listing : List Run) (m : Marked) (ms : List Move) → KeptBy AnyStep (AreMoves run path job listing m ms)
  moves_kept listing m ms own s a any f = record { numbers = f.numbers; chosen = f.chosen; texts = f.texts; read = read_on f.read; moves = f.moves }

  pub makes_kept : (listing : List Run) (m new : Marked) → KeptBy AnyStep (λ own. MakesMarks run path job own listing m new)
  makes_kept listing m new own s a any (ms, are, made) = (ms, moves_kept listing m ms own s a tt are, moves_marks_kept run path job.folder few (slots ms) ms m new own s a tt made)

  -- a message is taken that the words chose, and that no sequence has any more
  pub takes_one : (n : ℕ) (own : List Deed) → IsMsgNum n → WasChosen run path job n own → WasWithdrawn run path job.folder Takes n own → LetsTake w p n own
  takes_one n own ok chosen freed =
      moving.takes_one run path job.folder (MakesMarks run path job) no_piece (SortsSo run path job) n own ok (
        (λ number held k e kind h. subst (λ z. WasChosen run path job z own) (taken_number run path job.folder n k number ok (let from : entry_text (Number n) ≡ number = cc (e) in from) kind) chosen),
        may_take run path job.folder Takes n own ok freed,
      )

  -- what was done at the end stays so
  pub sorted_kept : KeptBy AnyStep (HasSortedChosen run path job)
  sorted_kept own s a any f = record {
    listing = f.listing;
    text = f.text;
    context = f.context;
    seen = seen_kept run p mail f.listing f.text f.context own s a tt f.seen;
    numbers = f.numbers;
    chosen = f.chosen;
    texts = f.texts;
    read = read_on f.read;
    ends = f.ends;
    moved = settled_kept run few p (moves_by job.key f.texts f.numbers) f.ends own s a tt f.moved;
    marks = marks_kept run path job.folder (told_within f.listing f.text f.context job.folder) (slots (moves_by job.key f.texts f.numbers)) (moves_by job.key f.texts f.numbers) f.ends own s a tt f.marks;
  }
