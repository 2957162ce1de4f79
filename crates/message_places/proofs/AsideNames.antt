-- The names under which a run holds messages aside: each number has its own.
use Rattle.std.proofs.Common.{◌≡◌, ◌<◌, ◌^◌, ◌==◌, inl, inr, ℕ, Bool, true, false, List, [], ◌∷◌, Option, Some, map, refl, sym, ◌∙◌, ap, bytes_eq, subst}
use Rattle.std.specs.List.{list_any}
use Rattle.mh_base.specs.Entries.{kind_of}
use Rattle.mh_base.specs.Numbers.{IsMsgNum}
use Rattle.mh_base.specs.declared.entry.Entry.TheVariants.{Held}
use Rattle.folder_files.proofs.Names.{bytes_false, bytes_self, bytes_true, num_apart, num_same, or_case, or_false, or_last, or_left}
use Rattle.held_messages.specs.declared.held.HeldPair.{HeldPair}
use Rattle.held_messages.proofs.ListedPairs.{AreApart, ArePairs, IsApart, held_kind}
use Rattle.message_places.specs.Arranging.{aside_name}
use Rattle.message_places.specs.Places.{AreDistinct, AreMsgNums, is_in}
use Rattle.message_places.proofs.NumberLists.{in_head, in_tail, num_turned}

-- a message that a run holds aside
abbrev pub aside_of : ℕ → ℕ → HeldPair
aside_of run n = record { run = run; number = n }

abbrev pub asides : ℕ → List ℕ → List HeldPair
asides run ns = map (aside_of run) ns

-- each has an end
abbrev pub somes : List ℕ → List (Option ℕ)
somes ns = map Some ns

-- the name is that of one of these
abbrev pub names_one : ℕ → List ℕ → List ℕ → Bool
names_one run ns x = list_any (λ n. bytes_eq (aside_name run n) x) ns

-- a held name of the run is that of a number
pub name_found : (run : ℕ) (ns : List ℕ) (x : List ℕ) → names_one run ns x ≡ true → (n : ℕ) × (is_in n ns ≡ true) × (aside_name run n ≡ x)
name_found run [] x e = absurd (cc (e))
name_found run (n ∷ ns) x e = elim (or_case (bytes_eq (aside_name run n) x) (names_one run ns x) e) [
  | inl f ↦ (n, in_head n ns, bytes_true (aside_name run n) x f)
  | inr f ↦ (let w = name_found run ns x f in (w.0, in_tail n w.0 ns w.1, w.2))
]

pub name_there : (run : ℕ) (ns : List ℕ) (n : ℕ) → is_in n ns ≡ true → names_one run ns (aside_name run n) ≡ true
name_there run [] n e = absurd (cc (e))
name_there run (m ∷ ns) n e = elim (or_case (m == n) (is_in n ns) e) [
  | inl f ↦ or_left (bytes_eq (aside_name run m) (aside_name run n)) (names_one run ns (aside_name run n)) (subst (λ z. bytes_eq (aside_name run m) (aside_name run z) ≡ true) (num_same m n f) (bytes_self (aside_name run m)))
  | inr f ↦ or_last (bytes_eq (aside_name run m) (aside_name run n)) (names_one run ns (aside_name run n)) (name_there run ns n f)
]

held_number : (run n m : ℕ) → Held run n ≡ Held run m → n ≡ m
held_number run n m e = cc

module _ (run : ℕ) (few : run < 2 ^ 128) where
  pub asides_are : (ns : List ℕ) → AreMsgNums ns → ArePairs (asides run ns)
  asides_are [] ok = tt
  asides_are (n ∷ ns) ok = ((few, ok.0), asides_are ns ok.1)

  pub names_differ : (n m : ℕ) → IsMsgNum n → IsMsgNum m → (n == m) ≡ false → bytes_eq (aside_name run n) (aside_name run m) ≡ false
  names_differ n m one other e =
      bytes_false (aside_name run n) (aside_name run m) (λ same. num_apart n m e (held_number run n m (sym (held_kind (aside_of run n) (few, one)) ∙ (ap kind_of same ∙ held_kind (aside_of run m) (few, other)))))

  pub apart_from : (n : ℕ) → IsMsgNum n → (ns : List ℕ) → AreMsgNums ns → is_in n ns ≡ false → IsApart (aside_of run n) (asides run ns)
  apart_from n one [] ok e = tt
  apart_from n one (m ∷ ns) ok e = let o = or_false (m == n) (is_in n ns) e in (names_differ n m one ok.0 (num_turned m n o.0), apart_from n one ns ok.1 o.1)

  pub asides_apart : (ns : List ℕ) → AreMsgNums ns → AreDistinct ns → AreApart (asides run ns)
  asides_apart [] ok d = tt
  asides_apart (n ∷ ns) ok d = (apart_from n ok.0 ns ok.1 d.0, asides_apart ns ok.1 d.1)

  -- the name of another number is none of these
  pub names_none : (n : ℕ) → IsMsgNum n → (ns : List ℕ) → AreMsgNums ns → is_in n ns ≡ false → names_one run ns (aside_name run n) ≡ false
  names_none n one [] ok e = refl
  names_none n one (m ∷ ns) ok e = let o = or_false (m == n) (is_in n ns) e in rw (names_differ m n ok.0 one o.0) (names_none n one ns ok.1 o.1)
