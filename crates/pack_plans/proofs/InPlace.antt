-- Messages that are numbered anew stand at the numbers from 1 on.
use Rattle.std.proofs.Common.{◌≡◌, ◌||◌, ◌==◌, ◌++◌, ℕ, Bool, true, false, List, [], ◌∷◌, length, refl, sym, ◌∙◌, ap}
use Rattle.std.specs.Prelude.{is_some, if◌then◌else◌}
use Rattle.std.specs.List.{list_any}
use Rattle.std.proofs.lemmas.List.Folds.{list_any-append}
use Rattle.folder_files.proofs.Names.{not_both, num_same}
use Rattle.file_plans.specs.Mailboxes.{Folder}
use Rattle.mh_sequences.specs.Runs.{AreRuns, has, numbers_of}
use Rattle.mh_sequences.specs.declared.run.Run.{Run}
use Rattle.msg_ranges.proofs.Rising.{lists, lists_numbers, rise_runs, same_list}
use Rattle.message_places.specs.Order.{StandInOrder, moves_of}
use Rattle.message_places.specs.Places.{is_in, slots}
use Rattle.message_places.proofs.InOrder.{slots_alone, stand_in_order, with_pair, suc_same}
use Rattle.message_places.proofs.NumberLists.{in_good}
use Rattle.sequence_commits.proofs.RunTests.{all_runs}
use Rattle.opening_plans.proofs.ChosenListed.{has_tested, tested_has}
use Rattle.pack_plans.specs.PackOutcome.{moved_at}
use Rattle.pack_plans.specs.Places.{listing_moves, packed_listing, places_of, staying}
use Rattle.pack_plans.proofs.PackMoves.{numbers_distinct, places_distinct, places_good, places_many, places_rise}

-- a place has a message that stays there, or one that comes there
stays_or_comes : (ns ss : List ℕ) → length ns ≡ length ss → (k : ℕ) → is_in k ss ≡ is_in k (staying ns ss) || is_in k (slots (moves_of ns ss))
stays_or_comes [] [] m k = refl
stays_or_comes [] (s ∷ ss) m k = cc
stays_or_comes (n ∷ ns) [] m k = cc
stays_or_comes (n ∷ ns) (s ∷ ss) m k = ap (λ z. (s == k) || z) (stays_or_comes ns ss (suc_same (length ns) (length ss) m) k) ∙ go (n == s) refl (s == k) (is_in k (staying ns ss)) (is_in k (slots (moves_of ns ss))) refl refl refl
  where
    go : (b : Bool) → (n == s) ≡ b → (e x f : Bool) → (s == k) ≡ e → is_in k (staying ns ss) ≡ x → is_in k (slots (moves_of ns ss)) ≡ f
        → (e || (x || f)) ≡ is_in k (if b then n ∷ staying ns ss else staying ns ss) || is_in k (slots (with_pair b n s (moves_of ns ss)))
    go true w true x f h i j = let t : (n == k) ≡ true = ap (λ z. z == k) (num_same n s w) ∙ h in rw t refl
    go true w false x f h i j = let t : (n == k) ≡ false = ap (λ z. z == k) (num_same n s w) ∙ h in rw (t, i, j) refl
    go false w true true f h i j = rw i refl
    go false w true false f h i j = rw (h, i) refl
    go false w false x f h i j = rw (h, i, j) refl

module _ (listing : List Run) (runs : AreRuns listing) where
  abbrev ns : List ℕ
  ns = numbers_of listing

  abbrev ss : List ℕ
  ss = places_of (numbers_of listing)

  same_many : length ns ≡ length ss
  same_many = sym (places_many ns)

  pub in_order : (run : ℕ) (f : Folder) → StandInOrder f.messages (moved_at run (listing_moves listing) f).messages ns ss
  in_order run f = stand_in_order f ns ss (numbers_distinct listing runs) (places_distinct ns)

  pub just_places : (run : ℕ) (f : Folder) → ((n : ℕ) → is_some (f.messages n) ≡ has listing n) → (k : ℕ) → is_some ((moved_at run (listing_moves listing) f).messages k) ≡ is_in k ss
  just_places run f all k = slots_alone f ns ss same_many (numbers_distinct listing runs) (places_distinct ns) (λ n. all n ∙ sym (lists_numbers listing n)) k

  abbrev told : List ℕ
  told = staying ns ss ++ slots (listing_moves listing)

  abbrev test : ℕ → Bool
  test n = list_any (λ m. m == n) told

  test_is : (n : ℕ) → test n ≡ is_in n ss
  test_is n = list_any-append (λ m. m == n) (staying ns ss) (slots (listing_moves listing)) ∙ sym (stays_or_comes ns ss same_many n)

  same_told : (n : ℕ) → lists (numbers_of (packed_listing listing (slots (listing_moves listing)))) n ≡ lists ss n
  same_told n = lists_numbers (packed_listing listing (slots (listing_moves listing))) n ∙ go (is_in n ss) refl
    where
      go : (b : Bool) → is_in n ss ≡ b → has (packed_listing listing (slots (listing_moves listing))) n ≡ lists ss n
      go true e = tested_has test n (in_good ss (places_good listing runs) n e) (test_is n ∙ e) ∙ sym e
      go false e = by (has (packed_listing listing (slots (listing_moves listing))) n) refl ∙ sym e
        where
          by : (b : Bool) → has (packed_listing listing (slots (listing_moves listing))) n ≡ b → b ≡ false
          by true h = absurd (not_both (is_in n ss) (sym (test_is n) ∙ has_tested test n h) e)
          by false h = refl

  pub told_places : numbers_of (packed_listing listing (slots (listing_moves listing))) ≡ ss
  told_places = same_list 1 (numbers_of (packed_listing listing (slots (listing_moves listing)))) ss (rise_runs 1 (packed_listing listing (slots (listing_moves listing))) (all_runs test)) (places_rise ns) same_told
