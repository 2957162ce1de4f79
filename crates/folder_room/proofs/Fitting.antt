-- An answer that fits is no failure.
use Rattle.std.proofs.Common.{◌≡◌, ◌==◌, ℕ, Bool, true, false, List, Option, Some, None, length, subst}
use Rattle.std.specs.Prelude.{if◌then◌else◌, is_none, nat_lt}
use Rattle.folder_files.specs.Steps.{Fits, reading_of, read_answer, read_file_answer, piece_answer, cut_answer, create_answer, link_answer, there_answer, name_answer}
use Rattle.folder_files.specs.Directory.{DirectoryMap, now_in}
use Rattle.folder_files.specs.Worlds.{WorldMap}
use Rattle.folder_files.specs.declared.step.Step.{Step}
use Rattle.folder_files.specs.declared.step.Step.TheVariants as step
use Rattle.folder_files.specs.declared.step.Answer.{Answer}
use Rattle.folder_files.specs.declared.step.Answer.TheVariants.{Done, Names, Content, Piece, Long, Gone, Exists, Busy, Grown, Failed}

abbrev Fails : Answer → Type 0
Fails Failed = Unit {0}
Fails Done = ⊥
Fails (Names n) = ⊥
Fails (Content b) = ⊥
Fails (Piece b n) = ⊥
Fails (Long n) = ⊥
Fails Gone = ⊥
Fails Exists = ⊥
Fails Busy = ⊥
Fails Grown = ⊥

reading : (limit : ℕ) (b : List ℕ) → Fails (reading_of limit b) → ⊥
reading limit b f = go (nat_lt limit (length b)) f
  where
    go : (t : Bool) → Fails (if t then Long (length b) else Content b) → ⊥
    go true f = f
    go false f = f

read : (w : WorldMap) (limit : ℕ) (o : Option ℕ) → Fails (read_answer w limit o) → ⊥
read w limit None f = f
read w limit (Some x) f = reading limit (w.files x).bytes f

read_file : (limit : ℕ) (o : Option (List ℕ)) → Fails (read_file_answer limit o) → ⊥
read_file limit None f = f
read_file limit (Some b) f = reading limit b f

piece : (from most : ℕ) (o : Option (List ℕ)) → Fails (piece_answer from most o) → ⊥
piece from most None f = f
piece from most (Some b) f = f

cut : (n : ℕ) (o : Option (List ℕ)) → Fails (cut_answer n o) → ⊥
cut n None f = f
cut n (Some b) f = go (length b == n) f
  where
    go : (t : Bool) → Fails (if t then Done else Grown) → ⊥
    go true f = f
    go false f = f

create : (d : DirectoryMap) (n : List ℕ) → Fails (create_answer d n) → ⊥
create d n f = go d.there (is_none (now_in d n)) f
  where
    go : (t u : Bool) → Fails (if t then (if u then Done else Exists) else Gone) → ⊥
    go true true f = f
    go true false f = f
    go false u f = f

link : (a b : Option ℕ) → Fails (link_answer a b) → ⊥
link None b f = f
link (Some x) None f = f
link (Some x) (Some y) f = f

there : (t : Bool) → Fails (there_answer t) → ⊥
there true f = f
there false f = f

name : (o : Option ℕ) → Fails (name_answer o) → ⊥
name None f = f
name (Some x) f = f

made : (t : Bool) → Fails (if t then Exists else Done) → ⊥
made true f = f
made false f = f

-- the fitting answer isn't Failed
pub fits_answers : (w : WorldMap) (run : ℕ) (s : Step) (a : Answer) → Fits w run s a → a ≡ Failed → ⊥
fits_answers w run s a f e = go s (subst (Fits w run s) e f)
  where
    go : (s : Step) → Fits w run s Failed → ⊥
    go (step.List p) f = f
    go (step.Read p n limit) f = read w limit (now_in (w.directories p) n) (subst Fails f tt)
    go (step.MakeFolder p) f = made (w.directories p).there (subst Fails f tt)
    go (step.Create p n b) f = create (w.directories p) n (subst Fails f tt)
    go (step.SyncFile p n) f = name (now_in (w.directories p) n) (subst Fails f tt)
    go (step.SyncFolder p) f = there (w.directories p).there (subst Fails f tt)
    go (step.Link p n m) f = link (now_in (w.directories p) n) (now_in (w.directories p) m) (subst Fails f tt)
    go (step.Rename p n m) f = name (now_in (w.directories p) n) (subst Fails f tt)
    go (step.Unlink p n) f = name (now_in (w.directories p) n) (subst Fails f tt)
    go (step.Lock p) f = f
    go (step.Unlock p) f = subst Fails f tt
    go (step.ReadFile path limit) f = read_file limit (w.outside path) (subst Fails f tt)
    go (step.ReadDrop path from most) f = piece from most (w.outside path) (subst Fails f tt)
    go (step.CutDrop path n) f = cut n (w.outside path) (subst Fails f tt)
