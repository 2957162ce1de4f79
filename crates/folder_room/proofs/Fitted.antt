-- An answer that fits is one of its step's row.
use Rattle.std.proofs.Common.{◌==◌, ℕ, Bool, true, false, List, Option, Some, None, length, drop, sym, subst, arith}
use Rattle.std.specs.Prelude.{if◌then◌else◌, is_none, nat_lt}
use Rattle.std.proofs.lemmas.List.{length-take}
use Rattle.folder_files.specs.Rows.{IsAnswerOf, IsReadRow, IsNewRow, IsOldRow, IsMakeRow, IsCutRow, IsPieceRow, IsNamesRow, IsLockRow}
use Rattle.folder_files.specs.Steps.{Fits, IsListed, IsLocked, reading_of, read_answer, read_file_answer, piece_answer, cut_answer, create_answer, link_answer, there_answer, name_answer}
use Rattle.folder_files.specs.Directory.{DirectoryMap, now_in}
use Rattle.folder_files.specs.Worlds.{WorldMap}
use Rattle.folder_files.specs.declared.place.Place.{Place}
use Rattle.folder_files.specs.declared.step.Step.{Step}
use Rattle.folder_files.specs.declared.step.Step.TheVariants as step
use Rattle.folder_files.specs.declared.step.Answer.{Answer}
use Rattle.folder_files.specs.declared.step.Answer.TheVariants.{Done, Names, Content, Piece, Long, Gone, Exists, Busy, Grown, Failed}

reading : (limit : ℕ) (b : List ℕ) → IsReadRow (reading_of limit b)
reading limit b = go (nat_lt limit (length b))
  where
    go : (t : Bool) → IsReadRow (if t then Long (length b) else Content b)
    go true = tt
    go false = tt

read : (w : WorldMap) (limit : ℕ) (o : Option ℕ) → IsReadRow (read_answer w limit o)
read w limit None = tt
read w limit (Some x) = reading limit (w.files x).bytes

read_file : (limit : ℕ) (o : Option (List ℕ)) → IsReadRow (read_file_answer limit o)
read_file limit None = tt
read_file limit (Some b) = reading limit b

piece : (from most : ℕ) (o : Option (List ℕ)) → IsPieceRow most (piece_answer from most o)
piece from most None = tt
piece from most (Some b) = let l = length-take most (drop from b) in omega arith

cut : (n : ℕ) (o : Option (List ℕ)) → IsCutRow (cut_answer n o)
cut n None = tt
cut n (Some b) = go (length b == n)
  where
    go : (t : Bool) → IsCutRow (if t then Done else Grown)
    go true = tt
    go false = tt

create : (d : DirectoryMap) (n : List ℕ) → IsNewRow (create_answer d n)
create d n = go d.there (is_none (now_in d n))
  where
    go : (t u : Bool) → IsNewRow (if t then (if u then Done else Exists) else Gone)
    go true true = tt
    go true false = tt
    go false u = tt

link : (a b : Option ℕ) → IsNewRow (link_answer a b)
link None b = tt
link (Some x) None = tt
link (Some x) (Some y) = tt

there : (t : Bool) → IsOldRow (there_answer t)
there true = tt
there false = tt

name : (o : Option ℕ) → IsOldRow (name_answer o)
name None = tt
name (Some x) = tt

made : (t : Bool) → IsMakeRow (if t then Exists else Done)
made true = tt
made false = tt

listed : (d : DirectoryMap) (a : Answer) → IsListed d a → IsNamesRow a
listed d (Names n) f = tt
listed d Gone f = tt
listed d Done f = absurd f
listed d (Content b) f = absurd f
listed d (Piece b n) f = absurd f
listed d (Long n) f = absurd f
listed d Exists f = absurd f
listed d Busy f = absurd f
listed d Grown f = absurd f
listed d Failed f = absurd f

locked : (w : WorldMap) (run : ℕ) (p : Place) (a : Answer) → IsLocked w run p a → IsLockRow a
locked w run p Done f = tt
locked w run p Gone f = tt
locked w run p Busy f = tt
locked w run p (Names n) f = absurd f
locked w run p (Content b) f = absurd f
locked w run p (Piece b n) f = absurd f
locked w run p (Long n) f = absurd f
locked w run p Exists f = absurd f
locked w run p Grown f = absurd f
locked w run p Failed f = absurd f

pub fits_row : (w : WorldMap) (run : ℕ) (s : Step) (a : Answer) → Fits w run s a → IsAnswerOf s a
fits_row w run (step.List p) a f = listed (w.directories p) a f
fits_row w run (step.Read p n limit) a f = subst IsReadRow (sym f) (read w limit (now_in (w.directories p) n))
fits_row w run (step.MakeFolder p) a f = subst IsMakeRow (sym f) (made (w.directories p).there)
fits_row w run (step.Create p n b) a f = subst IsNewRow (sym f) (create (w.directories p) n)
fits_row w run (step.SyncFile p n) a f = subst IsOldRow (sym f) (name (now_in (w.directories p) n))
fits_row w run (step.SyncFolder p) a f = subst IsOldRow (sym f) (there (w.directories p).there)
fits_row w run (step.Link p n m) a f = subst IsNewRow (sym f) (link (now_in (w.directories p) n) (now_in (w.directories p) m))
fits_row w run (step.Rename p n m) a f = subst IsOldRow (sym f) (name (now_in (w.directories p) n))
fits_row w run (step.Unlink p n) a f = subst IsOldRow (sym f) (name (now_in (w.directories p) n))
fits_row w run (step.Lock p) a f = locked w run p a f
fits_row w run (step.Unlock p) a f = subst (IsAnswerOf (step.Unlock p)) (sym f) tt
fits_row w run (step.ReadFile path limit) a f = subst IsReadRow (sym f) (read_file limit (w.outside path))
fits_row w run (step.ReadDrop path from most) a f = subst (IsPieceRow most) (sym f) (piece from most (w.outside path))
fits_row w run (step.CutDrop path n) a f = subst IsCutRow (sym f) (cut n (w.outside path))

pub failed_row : (s : Step) → IsAnswerOf s Failed
failed_row (step.List p) = tt
failed_row (step.Read p n limit) = tt
failed_row (step.MakeFolder p) = tt
failed_row (step.Create p n b) = tt
failed_row (step.SyncFile p n) = tt
failed_row (step.SyncFolder p) = tt
failed_row (step.Link p n m) = tt
failed_row (step.Rename p n m) = tt
failed_row (step.Unlink p n) = tt
failed_row (step.Lock p) = tt
failed_row (step.Unlock p) = tt
failed_row (step.ReadFile path limit) = tt
failed_row (step.ReadDrop path from most) = tt
failed_row (step.CutDrop path n) = tt
