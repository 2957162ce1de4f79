-- The plans of one step each, and the causes of their errors.
use Rattle.std.specs.Prelude.{List, ℕ, Result, Ok}
use Rattle.mh_base.specs.declared.streams.SinkFault.{SinkFault}
use Rattle.mh_base.specs.declared.streams.SinkFault.TheVariants as sink
use Rattle.mh_base.specs.declared.streams.SourceFault.{SourceFault}
use Rattle.mh_base.specs.declared.streams.SourceFault.TheVariants as source
use Rattle.folder_files.specs.declared.place.Place.{Place}
use Rattle.folder_files.specs.declared.place.FilePath.{FilePath}
use Rattle.folder_files.specs.declared.step.Step.TheVariants as step
use Rattle.folder_files.specs.declared.step.Answer.{Answer}
use Rattle.folder_files.specs.declared.step.Answer.TheVariants as answer
use Rattle.file_plans.specs.declared.asking.Stop.{Stop}
use Rattle.file_plans.specs.declared.asking.Stop.TheVariants as stop
use Rattle.file_plans.specs.declared.answers.Listing.{Listing}
use Rattle.file_plans.specs.declared.answers.Listing.TheVariants as listing
use Rattle.file_plans.specs.declared.answers.Reading.{Reading}
use Rattle.file_plans.specs.declared.answers.Reading.TheVariants as reading
use Rattle.file_plans.specs.declared.answers.FolderMade.{FolderMade}
use Rattle.file_plans.specs.declared.answers.FolderMade.TheVariants as folder_made
use Rattle.file_plans.specs.declared.answers.Entered.{Entered}
use Rattle.file_plans.specs.declared.answers.Entered.TheVariants as entered
use Rattle.file_plans.specs.declared.answers.Touched.{Touched}
use Rattle.file_plans.specs.declared.answers.Touched.TheVariants as touched
use Rattle.file_plans.specs.declared.answers.Locking.{Locking}
use Rattle.file_plans.specs.declared.answers.Locking.TheVariants as locking
use Rattle.file_plans.specs.declared.answers.DropPiece.{DropPiece}
use Rattle.file_plans.specs.declared.answers.DropPiece.TheVariants as drop_piece
use Rattle.file_plans.specs.declared.answers.DropCut.{DropCut}
use Rattle.file_plans.specs.declared.answers.DropCut.TheVariants as drop_cut
use Rattle.file_plans.specs.Plan.{Plan, Return, ask, attempt, ◌>>=◌}
use Rattle.file_plans.specs.Runs.{Cause, OfFiles, OfIn, OfOut, OfMemory}

abbrev pub stop_cause : Stop → Cause
stop_cause stop.Failed = OfFiles
stop_cause stop.Memory = OfMemory

abbrev pub sink_cause : SinkFault → Cause
sink_cause sink.Failed = OfOut
sink_cause sink.Memory = OfMemory

abbrev pub source_cause : SourceFault → Cause
source_cause source.Failed = OfIn
source_cause source.Memory = OfMemory

-- answers by the kind of step
abbrev pub listing_of : Answer → Listing
listing_of (answer.Names names) = listing.Names names
listing_of _ = listing.Gone

abbrev pub reading_of : Answer → Reading
reading_of (answer.Content bytes) = reading.Content bytes
reading_of (answer.Long length) = reading.Long length
reading_of _ = reading.Gone

abbrev pub folder_made_of : Answer → FolderMade
folder_made_of answer.Done = folder_made.Done
folder_made_of _ = folder_made.Exists

abbrev pub entered_of : Answer → Entered
entered_of answer.Done = entered.Done
entered_of answer.Exists = entered.Exists
entered_of _ = entered.Gone

abbrev pub touched_of : Answer → Touched
touched_of answer.Done = touched.Done
touched_of _ = touched.Gone

abbrev pub locking_of : Answer → Locking
locking_of answer.Done = locking.Done
locking_of answer.Busy = locking.Busy
locking_of _ = locking.Gone

abbrev pub drop_piece_of : Answer → DropPiece
drop_piece_of (answer.Piece bytes length) = drop_piece.Piece bytes length
drop_piece_of _ = drop_piece.Gone

abbrev pub drop_cut_of : Answer → DropCut
drop_cut_of answer.Done = drop_cut.Done
drop_cut_of answer.Grown = drop_cut.Grown
drop_cut_of _ = drop_cut.Gone

-- one step each
unfoldable pub list : Place → Plan (Result Listing Stop)
list place = do
  answer ← ask (step.List place)
  Return (Ok (listing_of answer))

unfoldable pub read : Place → List ℕ → ℕ → Plan (Result Reading Stop)
read place name limit = do
  answer ← ask (step.Read place name limit)
  Return (Ok (reading_of answer))

unfoldable pub make_folder : Place → Plan (Result FolderMade Stop)
make_folder place = do
  answer ← ask (step.MakeFolder place)
  Return (Ok (folder_made_of answer))

unfoldable pub create : Place → List ℕ → List ℕ → Plan (Result Entered Stop)
create place name bytes = do
  answer ← ask (step.Create place name bytes)
  Return (Ok (entered_of answer))

unfoldable pub sync_file : Place → List ℕ → Plan (Result Touched Stop)
sync_file place name = do
  answer ← ask (step.SyncFile place name)
  Return (Ok (touched_of answer))

unfoldable pub sync_folder : Place → Plan (Result Touched Stop)
sync_folder place = do
  answer ← ask (step.SyncFolder place)
  Return (Ok (touched_of answer))

unfoldable pub link : Place → List ℕ → List ℕ → Plan (Result Entered Stop)
link place from to = do
  answer ← ask (step.Link place from to)
  Return (Ok (entered_of answer))

unfoldable pub rename : Place → List ℕ → List ℕ → Plan (Result Touched Stop)
rename place from to = do
  answer ← ask (step.Rename place from to)
  Return (Ok (touched_of answer))

unfoldable pub unlink : Place → List ℕ → Plan (Result Touched Stop)
unlink place name = do
  answer ← ask (step.Unlink place name)
  Return (Ok (touched_of answer))

unfoldable pub lock : Place → Plan (Result Locking Stop)
lock place = do
  answer ← ask (step.Lock place)
  Return (Ok (locking_of answer))

unfoldable pub read_file : FilePath → ℕ → Plan (Result Reading Stop)
read_file path limit = do
  answer ← ask (step.ReadFile path limit)
  Return (Ok (reading_of answer))

unfoldable pub read_drop : FilePath → ℕ → ℕ → Plan (Result DropPiece Stop)
read_drop path from most = do
  answer ← ask (step.ReadDrop path from most)
  Return (Ok (drop_piece_of answer))

unfoldable pub cut_drop : FilePath → ℕ → Plan (Result DropCut Stop)
cut_drop path length = do
  answer ← ask (step.CutDrop path length)
  Return (Ok (drop_cut_of answer))

unfoldable pub unlock : Place → Plan (Result Unit Stop)
unlock place = do
  answer ← ask (step.Unlock place)
  Return (Ok tt)

-- the lock falls, and the call goes on, also where that failed
unfoldable pub attempt_unlock : Place → Plan (Result Unit Stop)
attempt_unlock place = do
  answer ← attempt (step.Unlock place)
  Return (Ok tt)
