-- Sets that were made, as lists of numbers.
use Rattle.std.proofs.Common.{◌≡◌, ℕ, List, [], sym, ◌∙◌, ap}
use Rattle.std.specs.Prelude.{◌&&◌, ◌||◌, not, nat_le, filter}
use Rattle.mh_sequences.specs.declared.run.Run.{Run}
use Rattle.mh_sequences.specs.Runs.{AreRuns, has, numbers_of}
use Rattle.mh_sequences.specs.Sequences.{Marked, runs_of, member}
use Rattle.mh_sequences.proofs.Bools.{or_nothing}
use Rattle.msg_ranges.specs.Selection.{from, up_to, marks_of, members, others}
use Rattle.msg_ranges.proofs.Rising.{filtered}
use Rattle.msg_ranges.proofs.Spans.{two_tests, none_pass}

-- what a span has of a set
pub clipped : (set span none clip : List Run) (a b : ℕ) → AreRuns set → AreRuns clip → none ≡ [] → ((n : ℕ) → has span n ≡ (nat_le a n && nat_le n b) || has none n) → ((n : ℕ) → has clip n ≡ has set n && has span n) → numbers_of clip ≡ from a (up_to b (numbers_of set))
clipped set span none clip a b h k e put both =
    filtered clip set (λ n. nat_le a n && nat_le n b) k h
    (λ n. both n ∙ ap (λ t. has set n && t) (put n ∙ ap (λ l. (nat_le a n && nat_le n b) || has l n) e ∙ or_nothing (nat_le a n && nat_le n b)))
    ∙ two_tests (λ n. nat_le a n) (λ n. nat_le n b) (numbers_of set)

-- the members of a sequence
pub some_members : (listing set both : List Run) (marked : Marked) (name : List ℕ) → AreRuns listing → AreRuns both → set ≡ runs_of marked.users name → ((n : ℕ) → has both n ≡ has listing n && has set n) → numbers_of both ≡ members (numbers_of listing) (marks_of marked) name
some_members listing set both marked name h k e met = filtered both listing (λ n. member marked.users name n) k h (λ n. met n ∙ ap (λ l. has listing n && has l n) e)

pub no_members : (listing none : List Run) (marked : Marked) (name : List ℕ) → none ≡ [] → runs_of marked.users name ≡ [] → numbers_of none ≡ members (numbers_of listing) (marks_of marked) name
no_members listing none marked name e f = ap numbers_of e ∙ sym (none_pass (numbers_of listing)) ∙ ap (λ l. filter (λ x. has l x) (numbers_of listing)) (sym f)

-- the messages that are no members
pub no_member : (listing set rest : List Run) (marked : Marked) (name : List ℕ) → AreRuns listing → AreRuns rest → set ≡ runs_of marked.users name → ((n : ℕ) → has rest n ≡ has listing n && not (has set n)) → numbers_of rest ≡ others (numbers_of listing) (marks_of marked) name
no_member listing set rest marked name h k e left =
    filtered rest listing (λ n. not (member marked.users name n)) k h (λ n. left n ∙ ap (λ l. has listing n && not (has l n)) e)
