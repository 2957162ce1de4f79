-- Numbers that are put into a set, one after another.
use Rattle.std.proofs.Common.{◌≡◌, ◌+◌, ◌<◌, ◌≤◌, ◌||◌, ◌==◌, ℕ, List, sym, ◌∙◌, ap, drop, get_or, length}
use Rattle.std.proofs.lemmas.List.{drop_all}
use Rattle.mh_base.proofs.NumberTests.{is_one}
use Rattle.mh_sequences.specs.declared.run.Run.{Run}
use Rattle.mh_sequences.specs.Runs.{has, inside}
use Rattle.mh_sequences.proofs.OneRun.{inside_one}
use Rattle.step_plans.proofs.Rounds.{next}
use Rattle.command_stages.proofs.Listing.{or_none, swap}

pub one_added : (numbers : List ℕ) (i x : ℕ) (old new : List Run) → i < length numbers → x ≡ get_or numbers i x → ((n : ℕ) → has new n ≡ (inside (record { from = x; to = x }) n || has old n))
    → ((n : ℕ) → has old n || is_one n (drop i numbers) ≡ is_one n numbers) → (n : ℕ) → has new n || is_one n (drop (i + 1) numbers) ≡ is_one n numbers
one_added numbers i x old new h is put left n =
    ap (λ b. b || is_one n (drop (i + 1) numbers)) (put n ∙ ap (λ b. b || has old n) (inside_one x n))
    ∙ (swap (x == n) (has old n) (is_one n (drop (i + 1) numbers)) ∙ (ap (λ l. has old n || is_one n l) (sym (next numbers i x h is)) ∙ left n))

pub all_added : (numbers : List ℕ) (i : ℕ) (runs : List Run) → length numbers ≤ i → ((n : ℕ) → has runs n || is_one n (drop i numbers) ≡ is_one n numbers) → (n : ℕ) → has runs n ≡ is_one n numbers
all_added numbers i runs h left n = sym (or_none (has runs n)) ∙ (ap (λ l. has runs n || is_one n l) (sym (drop_all i numbers h)) ∙ left n)
