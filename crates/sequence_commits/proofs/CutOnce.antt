-- Sequences with their listed numbers are the one cut.
use Rattle.std.proofs.Common.{◌≡◌, ℕ, ◌≤◌, Bool, true, false, List, [], ◌∷◌, refl, sym, ◌∙◌, ap}
use Rattle.std.specs.Prelude.{◌&&◌, ◌||◌, bytes_eq, if◌then◌else◌}
use Rattle.std.proofs.lemmas.Bool.{and_parts, both_ways}
use Rattle.mh_sequences.specs.declared.run.Run.{Run}
use Rattle.mh_sequences.specs.Changes.{IsCut}
use Rattle.mh_sequences.specs.Names.{is_seq_name}
use Rattle.mh_sequences.specs.Runs.{has}
use Rattle.mh_sequences.specs.Sequences.{AreSequences, Marked, Sequence, member, public_of, runs_of}
use Rattle.sequence_commits.specs.Cutting.{is_kept, cut_to}
use Rattle.sequence_commits.specs.Marking.{names_of}
use Rattle.sequence_commits.specs.Together.{sequences_of}
use Rattle.sequence_commits.proofs.Gathering.{is_named, member_named, member_in_range, within_or_not, sequences_valid, numbers_together, public_together, only_these}

-- a member's name is among the names
pub among_names : (ss : List Sequence) (t : List ℕ) (n : ℕ) → is_seq_name t ≡ true → member ss t n ≡ true → is_named (names_of ss) t ≡ true
among_names [] t n valid m = cc
among_names (s ∷ ss) t n valid m = by (bytes_eq t s.name) refl m (among_names ss t n valid)
  where
    or_true : (a : Bool) → a || true ≡ true
    or_true true = refl
    or_true false = refl

    by : (b : Bool) → bytes_eq t s.name ≡ b → has (if b then s.runs else runs_of ss t) n ≡ true → (member ss t n ≡ true → is_named (names_of ss) t ≡ true) → (is_seq_name s.name && bytes_eq t s.name) || is_named (names_of ss) t ≡ true
    by true e m rest = ap (λ b. (is_seq_name s.name && b) || is_named (names_of ss) t) e ∙ ap (λ b. (b && true) || is_named (names_of ss) t) (ap is_seq_name (sym (Rattle.mh_sequences.proofs.NamePlaces.same_is t s.name e)) ∙ valid)
    by false e m rest = ap (λ b. (is_seq_name s.name && bytes_eq t s.name) || b) (rest m) ∙ or_true (is_seq_name s.name && bytes_eq t s.name)

pub cut_valid : (listing : List Run) (m : Marked) → AreSequences (cut_to listing m).users
unfolding cut_to
cut_valid listing m = sequences_valid (is_kept listing m.users) (public_of m.users) (names_of m.users)

covered : (listing : List Run) (ss : List Sequence) (t : List ℕ) (n : ℕ) → is_seq_name t ≡ true → is_kept listing ss t n ≡ true → is_named (names_of ss) t ≡ true
covered listing ss t n valid e = among_names ss t n valid (and_parts (member ss t n) (has listing n) e).0

-- a message number, since it is a member
pub member_within : (ss : List Sequence) → AreSequences ss → (t : List ℕ) (n : ℕ) → member ss t n ≡ true → (1 ≤ n) × (n ≤ 999999)
member_within ss h t n m = within_or_not ((1 ≤ n) × (n ≤ 999999)) n (λ low high. (low, high)) (λ out. absurd (both_ways (member ss t n) (member_in_range ss h t n out) m))

with_name : (ss : List Sequence) → AreSequences ss → (t : List ℕ) (n : ℕ) (b : Bool) → is_seq_name t && (member ss t n && b) ≡ member ss t n && b
with_name ss h t n b = by (member ss t n) refl
  where
    by : (m : Bool) → member ss t n ≡ m → is_seq_name t && (m && b) ≡ m && b
    by true e = ap (λ x. x && b) (member_named ss h t n e)
    by false e = none (is_seq_name t)
      where
        none : (x : Bool) → x && false ≡ false
        none true = refl
        none false = refl

pub cut_is : (listing : List Run) (m : Marked) → AreSequences m.users → IsCut listing m (cut_to listing m)
unfolding cut_to
cut_is listing m h = record {
  numbers = λ t n.
      numbers_together (is_kept listing m.users) (public_of m.users) (names_of m.users) (covered listing m.users)
      (λ s k valid e. member_within m.users h s k (and_parts (member m.users s k) (has listing k) e).0) t n
      ∙ with_name m.users h t n (has listing n);
  public = λ t n is. public_together (is_kept listing m.users) (public_of m.users) (names_of m.users) t n is;
  cur = refl;
}

-- the one cut
pub cuts : (listing : List Run) (m new : Marked) → AreSequences new.users → IsCut listing m new → new ≡ cut_to listing m
unfolding cut_to
cuts listing m new valid is =
    let users : new.users ≡ sequences_of (names_of m.users) (is_kept listing m.users) (public_of m.users) =
    only_these (is_kept listing m.users) (public_of m.users) (names_of m.users) new.users valid (covered listing m.users) (λ t n e. is.numbers t n) is.public in
    λ i. record { users = users i; cur = is.cur i }
