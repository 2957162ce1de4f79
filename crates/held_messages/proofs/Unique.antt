-- A folder has one list of what it holds aside.
use Rattle.std.proofs.Common.{◌≡◌, inl, inr, ◌==◌, ℕ, Bool, true, false, List, [], ◌∷◌, refl, sym, ◌∙◌}
use Rattle.std.proofs.lemmas.Bool.Decides.{Decides-eqb}
use Rattle.file_plans.specs.Mailboxes.{Folder}
use Rattle.folder_files.proofs.Names.{not_both, both, or_left, or_case, num_itself}
use Rattle.held_messages.specs.declared.held.HeldPair.{HeldPair}
use Rattle.held_messages.specs.HeldPairs.{is_pair, has_pair, is_before, AreInOrder, AreHeld}
use Rattle.held_messages.proofs.ListedPairs.{earlier, neither, not_itself, earlier_on}

abbrev Same : List HeldPair → List HeldPair → Type 0
Same hs ks = (r n : ℕ) → has_pair r n hs ≡ has_pair r n ks

pub rest_ordered : (h : HeldPair) (hs : List HeldPair) → AreInOrder (h ∷ hs) → AreInOrder hs
rest_ordered h [] o = tt
rest_ordered h (k ∷ ks) o = o.1

pub without_next : (h k : HeldPair) (ks : List HeldPair) → AreInOrder (h ∷ (k ∷ ks)) → AreInOrder (h ∷ ks)
without_next h k [] o = tt
without_next h k (j ∷ js) o = (earlier_on h.number h.run k.number k.run j.number j.run o.0 o.1.0, o.1.1)

pair_is : (r n : ℕ) (h : HeldPair) → is_pair r n h ≡ true → (h.number ≡ n) × (h.run ≡ r)
pair_is r n h e = ((Decides-eqb h.number n).0 (both (h.run == r) (h.number == n) e).1, (Decides-eqb h.run r).0 (both (h.run == r) (h.number == n) e).0)

itself : (h : HeldPair) → is_pair h.run h.number h ≡ true
itself h = rw (num_itself h.run, num_itself h.number) refl

after_all : (h : HeldPair) (hs : List HeldPair) → AreInOrder (h ∷ hs) → (r n : ℕ) → has_pair r n hs ≡ true → earlier h.number h.run n r ≡ true
after_all h [] o r n e = cc
after_all h (k ∷ ks) o r n e = elim (or_case (is_pair r n k) (has_pair r n ks) e) [
  | inl f ↦ (let s = pair_is r n k f in (λ i. earlier h.number h.run (sym s.0 i) (sym s.1 i)) ∙ o.0)
  | inr f ↦ after_all h ks (without_next h k ks o) r n f
]

not_in : (h : HeldPair) (hs : List HeldPair) → AreInOrder (h ∷ hs) → has_pair h.run h.number hs ≡ false
not_in h hs o = go (has_pair h.run h.number hs) refl
  where
    go : (b : Bool) → has_pair h.run h.number hs ≡ b → b ≡ false
    go true e = absurd (not_itself h.number h.run (after_all h hs o h.run h.number e))
    go false e = refl

not_before : (h k : HeldPair) (hs ks : List HeldPair) → AreInOrder (k ∷ ks) → Same (h ∷ hs) (k ∷ ks) → is_before h k ≡ false
not_before h k hs ks o same = go (is_before h k) refl
  where
    there : has_pair h.run h.number (k ∷ ks) ≡ true
    there = sym (same h.run h.number) ∙ or_left (is_pair h.run h.number h) (has_pair h.run h.number hs) (itself h)

    go : (b : Bool) → is_before h k ≡ b → b ≡ false
    go true e = absurd (elim (or_case (is_pair h.run h.number k) (has_pair h.run h.number ks) there) [
      | inl f ↦ (let s = pair_is h.run h.number k f in not_itself h.number h.run ((λ i. earlier h.number h.run (sym s.0 i) (sym s.1 i)) ∙ e))
      | inr f ↦ not_itself h.number h.run (earlier_on h.number h.run k.number k.run h.number h.run e (after_all k ks o h.run h.number f))
    ])
    go false e = refl

pub one_list : (hs ks : List HeldPair) → AreInOrder hs → AreInOrder ks → Same hs ks → hs ≡ ks
one_list [] [] o q same = refl
one_list [] (k ∷ ks) o q same = absurd (not_both (has_pair k.run k.number (k ∷ ks)) (or_left (is_pair k.run k.number k) (has_pair k.run k.number ks) (itself k)) (sym (same k.run k.number)))
one_list (h ∷ hs) [] o q same = absurd (not_both (has_pair h.run h.number (h ∷ hs)) (or_left (is_pair h.run h.number h) (has_pair h.run h.number hs) (itself h)) (same h.run h.number))
one_list (h ∷ hs) (k ∷ ks) o q same = λ i. heads i ∷ one_list hs ks (rest_ordered h hs o) (rest_ordered k ks q) tails i
  where
    parts : (h.number ≡ k.number) × (h.run ≡ k.run)
    parts = neither h.number h.run k.number k.run (not_before h k hs ks q same) (not_before k h ks hs o (λ r n. sym (same r n)))

    heads : h ≡ k
    heads = λ i. record { run = parts.1 i; number = parts.0 i }

    tails : (r n : ℕ) → has_pair r n hs ≡ has_pair r n ks
    tails r n = go (is_pair r n h) refl
      where
        k_not : has_pair h.run h.number ks ≡ false
        k_not = (λ i. has_pair (parts.1 i) (parts.0 i) ks) ∙ not_in k ks q

        go : (b : Bool) → is_pair r n h ≡ b → has_pair r n hs ≡ has_pair r n ks
        go true e = let s = pair_is r n h e in (λ i. has_pair (sym s.1 i) (sym s.0 i) hs) ∙ (not_in h hs o ∙ (sym k_not ∙ (λ i. has_pair (s.1 i) (s.0 i) ks)))
        go false e = (rw e at (rw (sym parts.0, sym parts.1) at (same r n)))

-- the folder determines it
pub held_once : (own : ℕ) (f : Folder) (hs ks : List HeldPair) → AreHeld own f hs → AreHeld own f ks → hs ≡ ks
held_once own f hs ks a b = one_list hs ks a.in_order b.in_order (λ r n. a.all r n ∙ sym (b.all r n))
