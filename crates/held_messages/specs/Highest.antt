-- The highest number among messages.
use Rattle.std.specs.Prelude.{◌≡◌, ◌≤◌, ◌⊎◌, ℕ, true, max, List, [], ◌∷◌, Option, Some, None, is_some}
use Rattle.mh_base.specs.Numbers.{number_of}
use Rattle.file_plans.specs.Mailboxes.{Folder}

abbrev pub above : Option ℕ → ℕ → ℕ
above None top = top
above (Some n) top = max n top

-- the highest number among the names, or 0
unfoldable pub highest : List (List ℕ) → ℕ
highest [] = 0
highest (x ∷ names) = above (number_of x) (highest names)

-- the highest number of a folder's messages, or 0
pub record IsTop (f : Folder) (top : ℕ) : Type 0 where
  pub above : (k : ℕ) → is_some (f.messages k) ≡ true → k ≤ top
  pub attained : (top ≡ 0) ⊎ (is_some (f.messages top) ≡ true)
