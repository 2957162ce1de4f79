-- Sequences made of mentions.
use Rattle.std.proofs.Common.{◌≡◌, ℕ, zero, suc, ◌+◌, ◌<◌, ◌≤◌, Bool, true, false, Some, None, List, [], ◌∷◌, ◌++◌, length, map, get_or, take, drop, refl, sym, ◌∙◌, ap, subst, arith, add-one, drop-cons, ⊎_elim}
use Rattle.std.specs.Prelude.{bytes_eq, slice_set, ◌==◌, ◌&&◌, ◌||◌, if◌then◌else◌}
use Rattle.std.specs.List.{All}
use Rattle.std.specs.List.Sorted.{IsPermutation}
use Rattle.std.proofs.lemmas.List.Sorted.{All-permutation, list_any-IsPermutation}
use Rattle.std.proofs.lemmas.Bool.{cases_Bool, eqb-true}
use Rattle.std.proofs.lemmas.Bool.Decides.{nat_tests}
use Rattle.mail_headers.specs.Fields.{FieldText}
use Rattle.mh_profile.specs.declared.named_value.NamedValue.{NamedValue}
use Rattle.mh_sequences.specs.declared.run.Run.{Run}
use Rattle.mh_sequences.specs.declared.user.User.{User}
use Rattle.mh_sequences.specs.declared.mention.Mention.{Mention}
use Rattle.mh_sequences.specs.declared.join.Join.TheVariants.{Either}
use Rattle.mh_sequences.specs.Changes.{IsJoined}
use Rattle.mh_sequences.specs.Names.{is_seq_name}
use Rattle.mh_sequences.specs.Runs.{AreRuns, has, inside}
use Rattle.mh_sequences.specs.Sequences.{AreSequences, Sequence, marked_of, member, public_of, told}
use Rattle.mh_sequences.specs.Placing.{IsAt, IsBefore}
use Rattle.mh_sequences.specs.Mentions.{given, IsGathered, IsMention, IsRunAdded}
use Rattle.mh_sequences.specs.Reading.{has_field, lists_private, lists_public, AreBothParts, IsContextNoted, IsPublicPart}
use Rattle.mh_sequences.proofs.Bools.{or_nothing}
use Rattle.mh_sequences.proofs.Joined.{is_joined}
use Rattle.mh_sequences.proofs.Mentioning.{same_turned}
use Rattle.mh_sequences.proofs.Placing.{placed_valid}
use Rattle.mh_sequences.proofs.NamePlaces.{at_place, put_new, put_there, same_is}

nonzero : (n : ℕ) → suc n == 0 ≡ false
nonzero n = ⊎_elim (λ t. let e = eqb-true (suc n) 0 t in absurd (omega arith)) (λ f. f) (cases_Bool (suc n == 0))

some_runs : (rs : List Run) (n : ℕ) → has rs n ≡ true → length rs == 0 ≡ false
some_runs [] n e = cc
some_runs (r ∷ rs) n e = nonzero (length rs)

first_inside : (r : Run) → r.from ≤ r.to → inside r r.from ≡ true
first_inside r le = grind (arith, nat_tests)

or_turned : (a b : Bool) → a || b ≡ b || (a || false)
or_turned true true = refl
or_turned true false = refl
or_turned false true = refl
or_turned false false = refl

or_first : (a b : Bool) → a ≡ true → a || b ≡ true
or_first true b e = refl
or_first false b e = cc

-- a run put into the sequence of a name
pub added_there : (us : List User) (i : ℕ) (name : List ℕ) (run : Run) (u v : User) → IsAt name (map told us) i → u ≡ get_or us i u → v.name ≡ u.name → run.from ≤ run.to → AreRuns v.numbers.runs → ((n : ℕ) → has v.numbers.runs n ≡ inside run n || has u.numbers.runs n) → IsRunAdded name run v.public (map told us) (map told (slice_set us i v))
added_there us i name run u v at is same le valid put = record {
  runs = v.numbers.runs;
  valid = valid;
  numbers = λ n. put n ∙ or_turned (inside run n) (has u.numbers.runs n) ∙ ap (λ rs. has rs n || (inside run n || false)) (sym (at_place us i name u at is).1);
  put = put_there us i name u v at is same (some_runs v.numbers.runs run.from (put run.from ∙ or_first (inside run run.from) (has u.numbers.runs run.from) (first_inside run le)));
}

-- or a new sequence of it
pub added_new : (us : List User) (i : ℕ) (name : List ℕ) (run : Run) (v : User) → IsBefore name (map told us) i → v.name ≡ name → run.from ≤ run.to → AreRuns v.numbers.runs → ((n : ℕ) → has v.numbers.runs n ≡ has (run ∷ []) n) → IsRunAdded name run v.public (map told us) (map told (take i us ++ (v ∷ drop i us)))
added_new us i name run v at same le valid put = record {
  runs = v.numbers.runs;
  valid = valid;
  numbers = λ n. put n ∙ ap (λ rs. has rs n || (inside run n || false)) (sym at.runs);
  put = put_new us i name v at same (some_runs v.numbers.runs run.from (put run.from ∙ or_first (inside run run.from) false (first_inside run le)));
}

-- the mentions that are left complete the sequences
pub record IsGatheredSoFar (rule : List ℕ → Bool) (all rest : List Mention) (users : List Sequence) : Type 0 where
  pub valid : AreSequences users
  pub numbers : (name : List ℕ) (n : ℕ) → member users name n || given rest name n ≡ given all name n
  pub public : (name : List ℕ) (n : ℕ) → member users name n ≡ true → public_of users name ≡ rule name

pub gather_begun : (rule : List ℕ → Bool) (all : List Mention) (us : List User) → us ≡ [] → IsGatheredSoFar rule all all (map told us)
gather_begun rule all us e = rw e (record { valid = tt; numbers = λ name n. refl; public = λ name n m. cc })

chosen : (b m x g : Bool) → (if b then m || (x || false) else m) || g ≡ m || ((b && x) || g)
chosen true true x g = refl
chosen true false true g = refl
chosen true false false g = refl
chosen false m x g = refl

gathered : (rule : List ℕ → Bool) (all rest : List Mention) (m : Mention) (old new : List Sequence) → is_seq_name m.name.now ≡ true → IsRunAdded m.name.now m.run (rule m.name.now) old new → IsGatheredSoFar rule all (m ∷ rest) old → IsGatheredSoFar rule all rest new
gathered rule all rest m old new named added is =
    let joined : IsJoined m.name.now (m.run ∷ []) Either (Some (rule m.name.now)) (marked_of old None) (marked_of new None) = is_joined m.name.now (m.run ∷ []) Either (Some (rule m.name.now)) (rule m.name.now) added.runs old new None is.valid added.numbers refl added.put in
    record {
      valid = subst AreSequences (sym added.put) (placed_valid m.name.now (rule m.name.now) added.runs old named added.valid is.valid);
      numbers = λ name n.
          ap (λ b. b || given rest name n) (joined.members name n)
          ∙ chosen (bytes_eq name m.name.now) (member old name n) (inside m.run n) (given rest name n)
          ∙ ap (λ b. member old name n || ((b && inside m.run n) || given rest name n)) (same_turned name m.name.now)
          ∙ is.numbers name n;
      public = λ name n h. joined.state name n h ∙ by name n (bytes_eq name m.name.now) (same_is name m.name.now) (sym (joined.members name n) ∙ h);
    }
  where
    by : (name : List ℕ) (n : ℕ) (b : Bool) → (b ≡ true → name ≡ m.name.now) → (if b then member old name n || (inside m.run n || false) else member old name n) ≡ true → (if b then rule m.name.now else public_of old name) ≡ rule name
    by name n true same h = ap rule (sym (same refl))
    by name n false same h = is.public name n h

pub mention_gathered : (rule : List ℕ → Bool) (all : List Mention) (i : ℕ) (m : Mention) (old new : List Sequence) → is_seq_name m.name.now ≡ true → i < length all → m ≡ get_or all i m → IsRunAdded m.name.now m.run (rule m.name.now) old new → IsGatheredSoFar rule all (drop i all) old → IsGatheredSoFar rule all (drop (i + 1) all) new
mention_gathered rule all i m old new named lt same added is =
    let at : drop i all ≡ m ∷ drop (suc i) all = drop-cons all i m lt ∙ ap (λ x. x ∷ drop (suc i) all) (sym same) in
    rw (add-one i) (gathered rule all (drop (suc i) all) m old new named added (subst (λ l. IsGatheredSoFar rule all l old) at is))

past : (ms : List Mention) (i : ℕ) → length ms ≤ i → drop i ms ≡ []
past [] zero le = refl
past [] (suc i) le = refl
past (x ∷ xs) zero le = absurd (omega arith)
past (x ∷ xs) (suc i) le = past xs i (omega arith)

-- in whatever order they were
pub all_gathered : (rule : List ℕ → Bool) (mentions ordered : List Mention) (i : ℕ) (users : List Sequence) → IsPermutation mentions ordered → length ordered ≤ i → IsGatheredSoFar rule ordered (drop i ordered) users → IsGathered rule mentions users
all_gathered rule mentions ordered i users moved le is = record {
  valid = is.valid;
  numbers = λ name n.
      sym (ap (λ l. member users name n || given l name n) (past ordered i le) ∙ or_nothing (member users name n))
      ∙ is.numbers name n
      ∙ sym (list_any-IsPermutation (λ m. bytes_eq m.name.now name && inside m.run n) mentions ordered moved);
  public = λ name n m. is.public name n m;
}

pub mention_here : (mentions ordered : List Mention) (i : ℕ) (m : Mention) → IsPermutation mentions ordered → All IsMention mentions → i < length ordered → m ≡ get_or ordered i m → IsMention m
mention_here mentions ordered i m moved all lt same = subst IsMention (sym same) (All-permutation IsMention mentions ordered moved all i m lt)

share : (v x y : Bool) → (v && x) || (v && y) ≡ v && (x || y)
share true x y = refl
share false x y = refl

-- what was noted of a text and of a context, made into sequences
pub both_parts : (fields : List FieldText) (entries : List NamedValue) (ending : List ℕ) (rule : List ℕ → Bool) (public both : List Mention) (users : List Sequence) → IsPublicPart fields public → IsContextNoted entries ending public both → ((name : List ℕ) → rule name ≡ has_field fields name) → IsGathered rule both users → AreBothParts fields entries ending users
both_parts fields entries ending rule public both users first second rules is = record {
  valid = is.valid;
  numbers = λ name n.
      is.numbers name n
      ∙ second.given name n
      ∙ ap (λ b. b || (is_seq_name name && lists_private entries ending name n)) (first.given name n)
      ∙ share (is_seq_name name) (lists_public fields name n) (lists_private entries ending name n);
  public = λ name n m. is.public name n m ∙ rules name;
}
