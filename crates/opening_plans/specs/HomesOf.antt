-- What other runs hold aside in a folder, and where each of it goes alone.
use Rattle.std.specs.Prelude.{ℕ, zero, suc, ◌+◌, ◌==◌, ◌^◌, ◌&&◌, ◌++◌, not, List, [], ◌∷◌, Option, None, Some, is_some, if◌then◌else◌}
use Rattle.file_plans.specs.Mailboxes.{Folder as FolderValue}
use Rattle.held_messages.specs.HeldPairs.{homes}
use Rattle.held_messages.specs.declared.held.HeldPair.{HeldPair}
use Rattle.opening_plans.specs.BegunWork.{Homes}

-- of this number, what each of so many runs from this one on holds, but for this run itself
unfoldable pub pairs_at : ℕ → FolderValue → ℕ → ℕ → ℕ → List HeldPair
pairs_at own f n run zero = []
pairs_at own f n run (suc k) =
    if not (run == own) && is_some (f.held run n) then record { run = run; number = n } ∷ pairs_at own f n (run + 1) k
    else pairs_at own f n (run + 1) k

-- of so many numbers from this one on, each by run
unfoldable pub pairs_from : ℕ → FolderValue → ℕ → ℕ → List HeldPair
pairs_from own f n zero = []
pairs_from own f n (suc k) = pairs_at own f n 0 (2 ^ 128) ++ pairs_from own f (n + 1) k

-- the highest number up to this one that has a message, or 0
unfoldable pub top_from : FolderValue → ℕ → ℕ
top_from f zero = 0
top_from f (suc k) = if is_some (f.messages (suc k)) then suc k else top_from f k

-- what other runs hold aside in the folder, by number and then by run, and where each goes
unfoldable pub homes_of : ℕ → FolderValue → Homes
homes_of own f = record {
  pairs = pairs_from own f 1 999999;
  ends = homes (λ k. is_some (f.messages k)) (top_from f 999999) (pairs_from own f 1 999999);
}

-- so in a folder that may be missing
abbrev pub homes_at : ℕ → Option FolderValue → Homes
homes_at own None = record { pairs = []; ends = [] }
homes_at own (Some f) = homes_of own f
