-- The moves of messages that are numbered anew are of different messages, to different numbers.
use Rattle.std.proofs.Common.{◌≡◌, ◌≤◌, ◌+◌, ℕ, zero, suc, true, List, [], ◌∷◌, length, sym, ◌∙◌, arith}
use Rattle.std.specs.List.{range_with_len}
use Rattle.std.proofs.lemmas.List.FromFn.{length-range_with_len}
use Rattle.mh_base.specs.Numbers.{IsMsgNum}
use Rattle.mh_sequences.specs.Runs.{AreRuns, has, numbers_of}
use Rattle.mh_sequences.specs.declared.run.Run.{Run}
use Rattle.mh_sequences.proofs.Counting as counting
use Rattle.msg_ranges.proofs.Rising.{Rise, lists, lists_numbers, rise_runs, first_of, rest_of}
use Rattle.message_places.specs.Places.{AreDistinct, AreMsgNums, froms, is_in, slots}
use Rattle.message_places.specs.declared.moves.Move.{Move}
use Rattle.message_places.proofs.InOrder.{from_in, froms_distinct, froms_good, slots_distinct, slots_good}
use Rattle.refile_plans.proofs.Selected.{in_runs}
use Rattle.pack_plans.specs.Places.{listing_moves, places_of}
use Rattle.sortm_plans.proofs.Listed.{rise_distinct}

all_good : (ns : List ℕ) → ((n : ℕ) → lists ns n ≡ true → IsMsgNum n) → AreMsgNums ns
all_good [] f = tt
all_good (n ∷ ns) f = (first_of {F = IsMsgNum} n ns f, all_good ns (rest_of {F = IsMsgNum} n ns f))

range_rises : (a k : ℕ) → Rise a (range_with_len a k)
range_rises a zero = tt
range_rises a (suc k) = (omega arith, range_rises (a + 1) k)

range_good : (a k : ℕ) → 1 ≤ a → a + k ≤ 1000000 → AreMsgNums (range_with_len a k)
range_good a zero low high = tt
range_good a (suc k) low high = ((low, omega (arith, high)), range_good (a + 1) k (omega arith) (omega (arith, high)))

-- the places are as many as the numbers
pub places_many : (ns : List ℕ) → length (places_of ns) ≡ length ns
places_many ns = length-range_with_len 1 (length ns)

pub places_rise : (ns : List ℕ) → Rise 1 (places_of ns)
places_rise ns = range_rises 1 (length ns)

pub places_distinct : (ns : List ℕ) → AreDistinct (places_of ns)
places_distinct ns = rise_distinct 1 (places_of ns) (places_rise ns)

module _ (listing : List Run) (runs : AreRuns listing) where
  abbrev numbers : List ℕ
  numbers = numbers_of listing

  abbrev ms : List Move
  ms = listing_moves listing

  pub numbers_distinct : AreDistinct numbers
  numbers_distinct = rise_distinct 1 numbers (rise_runs 1 listing runs)

  pub numbers_good : AreMsgNums numbers
  numbers_good = all_good numbers (λ n e. in_runs listing runs n (sym (lists_numbers listing n) ∙ e))

  pub places_good : AreMsgNums (places_of numbers)
  places_good = let small : length numbers ≤ 999999 = counting.few listing runs in range_good 1 (length numbers) (omega arith) (omega (arith, small))

  pub moving_good : AreMsgNums (froms ms)
  moving_good = froms_good numbers (places_of numbers) numbers_good

  pub moving_distinct : AreDistinct (froms ms)
  moving_distinct = froms_distinct numbers (places_of numbers) numbers_distinct

  pub meant_good : AreMsgNums (slots ms)
  meant_good = slots_good numbers (places_of numbers) places_good

  pub meant_distinct : AreDistinct (slots ms)
  meant_distinct = slots_distinct numbers (places_of numbers) (places_distinct numbers)

  -- what moves is listed
  pub moving_listed : (k : ℕ) → is_in k (froms ms) ≡ true → has listing k ≡ true
  moving_listed k e = sym (lists_numbers listing k) ∙ from_in numbers (places_of numbers) k e
