-- A counter keeps its counts over a leap.
use Rattle.std.proofs.Common.{◌≡◌, ℕ, ◌+◌, ◌-◌, ◌≤◌, Bool, true, false, List, ◌++◌, length, take, drop, refl, sym, ap, ◌∙◌, subst, append_assoc, arith}
use Rattle.std.proofs.lemmas.List.{length-append, length-take, length-drop, length-take-le, take-append-drop}
use Rattle.std.proofs.Math.Seq.{take-append-add}
use Rattle.mbox_drop.specs.Places.{is_middle}
use Rattle.mbox_drop.specs.Leaping.{HasNoEnd, IsLeap}
use Rattle.mbox_drop.specs.Readings.{Reading, at, read, unread, reading}
use Rattle.mbox_drop.specs.Counting.{grown_by, Counts}
use Rattle.mbox_drop.proofs.KnownBytes.{read-append}
use Rattle.mbox_drop.proofs.Counts.{reading_sized, CountsOn}
use Rattle.mbox_drop.proofs.Leaps.{read_plain, is_middle-place}
use Rattle.mbox_drop.specs.declared.counter.DropCounter.{DropCounter}
use Rattle.mbox_drop.specs.declared.place.DropState.TheVariants.{Middle}

take_on : (i j : ℕ) (xs : List ℕ) → i ≤ j → j ≤ length xs → take j xs ≡ take i xs ++ take (j - i) (drop i xs)
take_on i j xs h k =
    let size : length (take i xs) ≡ i = length-take-le i xs (omega arith) in
    let e : length (take i xs) + (j - i) ≡ j = omega arith in
    ap (λ n. take n xs) (sym e) ∙ ap (λ x. take (length (take i xs) + (j - i)) x) (sym (take-append-drop i xs)) ∙ take-append-add (take i xs) (drop i xs) (j - i)

-- one line more or less
grown_middle : (c : DropCounter) (s : Reading) (xs : List ℕ) → s.place ≡ Middle → HasNoEnd xs → length s.hand + length xs ≤ 268435456 → Counts c s → Counts (grown_by c (length xs)) (read s xs)
grown_middle c s xs m u h k =
    let e : read s xs ≡ at s.done (s.hand ++ xs) s.body Middle = ap (λ p. read (at s.done s.hand s.body p) xs) m ∙ read_plain xs s.done s.hand s.body u in
    subst (λ y. Counts (grown_by c (length xs)) y) (sym e) (record {
      place = k.place ∙ m;
      size = omega (arith, k.size, length-append s.hand xs);
      body = k.body;
      count = k.count;
      long = k.long;
    })

leap_at : (t : Bool) (from c : DropCounter) (piece : List ℕ) (i j : ℕ) → is_middle c.place ≡ t → IsLeap c.place piece i j → CountsOn from c piece i → CountsOn from (grown_by c (j - i)) piece j
leap_at true from c piece i j m l k = record {
  far = λ d room start.
      let s : Reading = reading (d ++ take i piece) in
      let xs : List ℕ = take (j - i) (drop i piece) in
      let now_at : Counts c s = k.far d room start in
      let sized : length s.hand + length s.done ≤ length (d ++ take i piece) = reading_sized (d ++ take i piece) in
      let on_to : take j piece ≡ take i piece ++ xs = take_on i j piece l.low l.high in
      let size : length xs ≡ j - i = omega (arith, l.low, l.high, length-take (j - i) (drop i piece), length-drop i piece) in
      let short : length s.hand + length xs ≤ 268435456 =
      omega (arith, sized, size, length-append d (take i piece), length-take i piece, l.low, l.high) in
      let e : read s xs ≡ reading (d ++ take j piece) =
      sym (read-append unread (d ++ take i piece) xs) ∙ ap (λ x. reading x) (append_assoc d (take i piece) xs ∙ ap (λ x. d ++ x) (sym on_to)) in
      subst (λ y. Counts (grown_by c (j - i)) y) e
      (subst (λ n. Counts (grown_by c n) (read s xs)) size (grown_middle c s xs (sym now_at.place ∙ is_middle-place c.place m) l.plain short now_at));
}
leap_at false from c piece i j m l k = record {
  far = λ d room start.
      let same : j ≡ i = l.still m in
      let now_at : Counts c (reading (d ++ take i piece)) = k.far d room start in
      let sized : length (reading (d ++ take i piece)).hand + length (reading (d ++ take i piece)).done ≤ length (d ++ take i piece) = reading_sized (d ++ take i piece) in
      let total : length (d ++ take i piece) ≤ 268435456 = omega (arith, length-append d (take i piece), length-take i piece) in
      let small : c.size ≤ 268435456 = omega (arith, now_at.size) in
      subst (λ n. Counts (grown_by c (j - i)) (reading (d ++ take n piece))) (sym same) (record {
        place = now_at.place;
        size = omega (arith, now_at.size);
        body = now_at.body;
        count = now_at.count;
        long = now_at.long;
      });
}

pub counts_leap : (from c : DropCounter) (piece : List ℕ) (i j : ℕ) → IsLeap c.place piece i j → CountsOn from c piece i → CountsOn from (grown_by c (j - i)) piece j
counts_leap from c piece i j l k = leap_at (is_middle c.place) from c piece i j refl l k
