-- The numbers of a folder are those of its listing.
use Rattle.std.proofs.Common.{◌≡◌, ℕ, zero, suc, ◌+◌, ◌-◌, Bool, true, false, Option, List, [], ◌∷◌, refl, sym, ◌∙◌, ap, append-nil}
use Rattle.std.specs.Prelude.{filter, is_some, if◌then◌else◌}
use Rattle.std.specs.List.{range_with_len}
use Rattle.mh_sequences.specs.Runs.{numbers_of}
use Rattle.msg_ranges.specs.Selected.{every_number}
use Rattle.file_plans.specs.Mailboxes.{Folder, numbers_from, numbers_of as folder_numbers_of}
use Rattle.file_plans.specs.Sightings.{has_number}
use Rattle.command_stages.specs.Listed.{numbers_listed}

from_filter : (messages : ℕ → Option (List ℕ)) (n k : ℕ) → numbers_from messages n k ≡ filter (λ m. is_some (messages m)) (range_with_len n k)
unfolding numbers_from
from_filter messages n zero = refl
from_filter messages n (suc k) = go (is_some (messages n)) refl (from_filter messages (n + 1) k)
  where
    go : (b : Bool) → is_some (messages n) ≡ b → numbers_from messages (n + 1) k ≡ filter (λ m. is_some (messages m)) (range_with_len (n + 1) k)
        → (if is_some (messages n) then n ∷ numbers_from messages (n + 1) k else numbers_from messages (n + 1) k) ≡ filter (λ m. is_some (messages m)) (range_with_len n (suc k))
    go true e rest = rw e (ap (λ l. n ∷ l) rest)
    go false e rest = rw e rest

every_is : (k : ℕ) → numbers_of (record { from = 1; to = k } ∷ []) ≡ range_with_len 1 (k + 1 - 1)
every_is k = append-nil (range_with_len 1 (k + 1 - 1))

every_range : numbers_of every_number ≡ range_with_len 1 999999
unfolding every_number
every_range = every_is 999999

pub folder_numbers : (f : Folder) (names : List (List ℕ)) → ((n : ℕ) → is_some (f.messages n) ≡ has_number n names) → folder_numbers_of f ≡ numbers_listed names
unfolding Rattle.file_plans.specs.Mailboxes.numbers_of
folder_numbers f names same =
    from_filter f.messages 1 999999 ∙ ap (λ p. filter p (range_with_len 1 999999)) (λ i n. same n i) ∙ ap (filter (λ n. has_number n names)) (sym every_range)
