-- What a mark makes of sequences.
use Rattle.std.proofs.Common.{◌≡◌, ℕ, ◌≤◌, Bool, true, false, List, [], ◌∷◌, ◌++◌, refl, sym, ◌∙◌, ap, subst, ⊎_elim}
use Rattle.std.specs.Prelude.{◌&&◌, ◌||◌, ◌==◌, not, bytes_eq, if◌then◌else◌}
use Rattle.std.specs.List.{list_any}
use Rattle.std.proofs.lemmas.Bool.{and_parts, or_cases, or_left, or_right, eqb-true, both_ways}
use Rattle.mh_sequences.specs.declared.mark.Mark.{Mark}
use Rattle.mh_sequences.specs.declared.mark.Mark.TheVariants.{Add, Delete, Set, Withdraw, Move, Cur}
use Rattle.mh_sequences.specs.declared.mark.Pair.{Pair}
use Rattle.mh_sequences.specs.declared.run.Run.{Run}
use Rattle.mh_sequences.specs.Marks.{IsMarked, marked, marked_public, moved}
use Rattle.mh_sequences.specs.Names.{is_seq_name}
use Rattle.mh_sequences.specs.Runs.{AreRuns, has}
use Rattle.mh_sequences.specs.Sequences.{AreSequences, Marked, Sequence, member, public_of}
use Rattle.mh_sequences.proofs.NamePlaces.{same_is}
use Rattle.sequence_commits.specs.Marking.{AreTargets, IsValidMark, names_of, name_in_mark, marked_by, marked_by_all}
use Rattle.sequence_commits.specs.Together.{sequences_of}
use Rattle.sequence_commits.proofs.CutOnce.{among_names, member_within}
use Rattle.sequence_commits.proofs.Gathering.{is_named, member_named, within_or_not, sequences_valid, numbers_together, public_together, only_these}
use Rattle.sequence_commits.proofs.RunTests.{none_outside}

named_first : (name t : List ℕ) (rest : List (List ℕ)) → is_seq_name t ≡ true → bytes_eq t name ≡ true → is_named (name ∷ rest) t ≡ true
named_first name t rest valid e =
    or_left (is_seq_name name && bytes_eq t name) (is_named rest t) (λ i. (ap is_seq_name (sym (same_is t name e)) ∙ valid) i && e i)

named_later : (name t : List ℕ) (rest : List (List ℕ)) → is_named rest t ≡ true → is_named (name ∷ rest) t ≡ true
named_later name t rest e = or_right (is_seq_name name && bytes_eq t name) (is_named rest t) e

-- a number that moved came from a member
moved_from : (pairs : List Pair) (ss : List Sequence) (t : List ℕ) (n : ℕ) → is_seq_name t ≡ true → moved pairs (member ss t) n ≡ true → is_named (names_of ss) t ≡ true
moved_from pairs ss t n valid e =
    ⊎_elim (λ h. came pairs h) (λ h. among_names ss t n valid (and_parts (member ss t n) (not (list_any (λ p. n == p.from) pairs)) h).0)
    (or_cases (list_any (λ p. n == p.to && member ss t p.from) pairs) (member ss t n && not (list_any (λ p. n == p.from) pairs)) e)
  where
    came : (ps : List Pair) → list_any (λ p. n == p.to && member ss t p.from) ps ≡ true → is_named (names_of ss) t ≡ true
    came [] h = cc
    came (p ∷ ps) h = ⊎_elim (λ k. among_names ss t p.from valid (and_parts (n == p.to) (member ss t p.from) k).1) (came ps) (or_cases (n == p.to && member ss t p.from) (list_any (λ q. n == q.to && member ss t q.from) ps) h)

-- a name with a number after the mark is the mark's, or was there
module _ (m : Marked) (t : List ℕ) (n : ℕ) (valid : is_seq_name t ≡ true) where
  either : (name : List ℕ) (x : Bool) → (if bytes_eq t name then x else member m.users t n) ≡ true → is_named (name ∷ names_of m.users) t ≡ true
  either name x h = by (bytes_eq t name) refl h
    where
      by : (b : Bool) → bytes_eq t name ≡ b → (if b then x else member m.users t n) ≡ true → is_named (name ∷ names_of m.users) t ≡ true
      by true e k = named_first name t (names_of m.users) valid e
      by false e k = named_later name t (names_of m.users) (among_names m.users t n valid k)

  pub covered : (mark : Mark) → marked mark t (member m.users t) n ≡ true → is_named (name_in_mark mark ++ names_of m.users) t ≡ true
  covered (Add name numbers public) e = either name (member m.users t n || has numbers.runs n) e
  covered (Delete name numbers public) e = either name (member m.users t n && not (has numbers.runs n)) e
  covered (Set name numbers public) e = either name (has numbers.runs n) e
  covered (Withdraw numbers) e = among_names m.users t n valid (and_parts (member m.users t n) (not (has numbers.runs n)) e).0
  covered (Move pairs) e = moved_from pairs m.users t n valid e
  covered (Cur cur) e = among_names m.users t n valid e

pub marked_valid : (mark : Mark) (m : Marked) → AreSequences (marked_by mark m).users
unfolding marked_by
marked_valid mark m = sequences_valid (λ t. marked mark t (member m.users t)) (λ t. marked_public mark t (public_of m.users t)) (name_in_mark mark ++ names_of m.users)

-- the one result of a mark
pub marks : (mark : Mark) (m new : Marked) → AreSequences new.users → IsMarked mark m new → new ≡ marked_by mark m
unfolding marked_by
marks mark m new valid is =
    let users : new.users ≡ sequences_of (name_in_mark mark ++ names_of m.users) (λ t. marked mark t (member m.users t)) (λ t. marked_public mark t (public_of m.users t)) =
    only_these (λ t. marked mark t (member m.users t)) (λ t. marked_public mark t (public_of m.users t)) (name_in_mark mark ++ names_of m.users) new.users valid (λ t n e. covered m t n e mark) (λ t n e. is.numbers t n) is.public in
    λ i. record { users = users i; cur = is.cur i }

-- a name that is a sequence's, and a message number
abbrev IsMember : List ℕ → ℕ → Type 0
IsMember t n = (is_seq_name t ≡ true) × (1 ≤ n) × (n ≤ 999999)

was_member : (ss : List Sequence) → AreSequences ss → (t : List ℕ) (n : ℕ) → member ss t n ≡ true → IsMember t n
was_member ss h t n e = let within = member_within ss h t n e in (member_named ss h t n e, within.0, within.1)

-- a set's number under a sequence's name
set_member : (name t : List ℕ) (runs : List Run) (n : ℕ) → is_seq_name name ≡ true → AreRuns runs → bytes_eq t name ≡ true → has runs n ≡ true → IsMember t n
set_member name t runs n valid r e is =
    let within : (1 ≤ n) × (n ≤ 999999) = within_or_not ((1 ≤ n) × (n ≤ 999999)) n (λ low high. (low, high)) (λ out. absurd (both_ways (has runs n) (none_outside runs n r out) is)) in
    (ap is_seq_name (same_is t name e) ∙ valid, within.0, within.1)

-- what has a number after the mark
module _ (m : Marked) (h : AreSequences m.users) (t : List ℕ) (n : ℕ) where
  had : member m.users t n ≡ true → IsMember t n
  had e = was_member m.users h t n e

  came : (ps : List Pair) → AreTargets ps → list_any (λ p. n == p.to && member m.users t p.from) ps ≡ true → IsMember t n
  came [] v e = cc
  came (p ∷ ps) v e =
      ⊎_elim
      (λ k. let parts = and_parts (n == p.to) (member m.users t p.from) k in let at : n ≡ p.to = eqb-true n p.to parts.0 in
      (member_named m.users h t p.from parts.1, subst (λ x. 1 ≤ x) (sym at) v.0.0, subst (λ x. x ≤ 999999) (sym at) v.0.1))
      (came ps v.1)
      (or_cases (n == p.to && member m.users t p.from) (list_any (λ q. n == q.to && member m.users t q.from) ps) e)

  one_of : (name : List ℕ) (x : Bool) → (bytes_eq t name ≡ true → x ≡ true → IsMember t n) → (if bytes_eq t name then x else member m.users t n) ≡ true → IsMember t n
  one_of name x f e = by (bytes_eq t name) refl e
    where
      by : (b : Bool) → bytes_eq t name ≡ b → (if b then x else member m.users t n) ≡ true → IsMember t n
      by true is k = f is k
      by false is k = had k

  marked_member : (mark : Mark) → IsValidMark mark → marked mark t (member m.users t) n ≡ true → IsMember t n
  marked_member (Add name numbers public) v e = one_of name (member m.users t n || has numbers.runs n) (λ is k. ⊎_elim had (set_member name t numbers.runs n v.0 v.1 is) (or_cases (member m.users t n) (has numbers.runs n) k)) e
  marked_member (Delete name numbers public) v e = one_of name (member m.users t n && not (has numbers.runs n)) (λ is k. had (and_parts (member m.users t n) (not (has numbers.runs n)) k).0) e
  marked_member (Set name numbers public) v e = one_of name (has numbers.runs n) (set_member name t numbers.runs n v.0 v.1) e
  marked_member (Withdraw numbers) v e = had (and_parts (member m.users t n) (not (has numbers.runs n)) e).0
  marked_member (Move pairs) v e =
      ⊎_elim (came pairs v) (λ k. had (and_parts (member m.users t n) (not (list_any (λ p. n == p.from) pairs)) k).0)
      (or_cases (list_any (λ p. n == p.to && member m.users t p.from) pairs) (member m.users t n && not (list_any (λ p. n == p.from) pairs)) e)
  marked_member (Cur cur) v e = had e

named_all : (t : List ℕ) (x : Bool) → (x ≡ true → is_seq_name t ≡ true) → is_seq_name t && x ≡ x
named_all t true f = ap (λ b. b && true) (f refl)
named_all t false f = none (is_seq_name t)
  where
    none : (b : Bool) → b && false ≡ false
    none true = refl
    none false = refl

-- it is that result
pub marked_is : (mark : Mark) (m : Marked) → AreSequences m.users → IsValidMark mark → IsMarked mark m (marked_by mark m)
unfolding marked_by
marked_is mark m h v = record {
  numbers = λ t n.
      numbers_together (λ s. marked mark s (member m.users s)) (λ s. marked_public mark s (public_of m.users s)) (name_in_mark mark ++ names_of m.users) (λ s k e. covered m s k e mark)
      (λ s k e is. let all = marked_member m h s k mark v is in (all.1, all.2)) t n
      ∙ named_all t (marked mark t (member m.users t) n) (λ is. (marked_member m h t n mark v is).0);
  public = λ t n is. public_together (λ s. marked mark s (member m.users s)) (λ s. marked_public mark s (public_of m.users s)) (name_in_mark mark ++ names_of m.users) t n is;
  cur = refl;
}

-- all marks leave sequences in order
pub all_valid : (marks : List Mark) (m : Marked) → AreSequences m.users → AreSequences (marked_by_all marks m).users
unfolding marked_by_all
all_valid [] m f = f
all_valid (mark ∷ marks) m f = all_valid marks (marked_by mark m) (marked_valid mark m)
