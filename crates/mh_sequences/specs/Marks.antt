-- What marks do to sequences, as sets.
use Rattle.std.specs.Prelude.{◌≡◌, ℕ, ◌==◌, ◌&&◌, ◌||◌, Bool, not, bytes_eq, IsTrue, Option, None, Some, List, [], ◌∷◌, if◌then◌else◌}
use Rattle.std.specs.List.{list_any}
use Rattle.mh_sequences.specs.declared.mark.Pair.{Pair}
use Rattle.mh_sequences.specs.declared.mark.Mark.{Mark}
use Rattle.mh_sequences.specs.declared.mark.Mark.TheVariants.{Add, Delete, Set, Withdraw, Move, Cur}
use Rattle.mh_sequences.specs.Runs.{has}
use Rattle.mh_sequences.specs.Sequences.{Marked, member, public_of}

-- a number where a member moved to, or a member that does not move
abbrev pub moved : List Pair → (ℕ → Bool) → ℕ → Bool
moved pairs old n = list_any (λ p. n == p.to && old p.from) pairs || (old n && not (list_any (λ p. n == p.from) pairs))

-- where the current message moves to
abbrev pub moved_to : List Pair → ℕ → ℕ
moved_to [] n = n
moved_to (p ∷ ps) n = if n == p.from then p.to else moved_to ps n

abbrev pub moved_cur : List Pair → Option ℕ → Option ℕ
moved_cur pairs None = None
moved_cur pairs (Some n) = Some (moved_to pairs n)

-- the numbers that the sequence of this name has afterwards, by those that it had
abbrev pub marked : Mark → List ℕ → (ℕ → Bool) → ℕ → Bool
marked (Add name numbers public) s old n = if bytes_eq s name then old n || has numbers.runs n else old n
marked (Delete name numbers public) s old n = if bytes_eq s name then old n && not (has numbers.runs n) else old n
marked (Set name numbers public) s old n = if bytes_eq s name then has numbers.runs n else old n
marked (Withdraw numbers) s old n = old n && not (has numbers.runs n)
marked (Move pairs) s old n = moved pairs old n
marked (Cur cur) s old n = old n

abbrev pub set_to : Option Bool → Bool → Bool
set_to None old = old
set_to (Some new) old = new

-- whether it is public afterwards, by whether it was
abbrev pub marked_public : Mark → List ℕ → Bool → Bool
marked_public (Add name numbers public) s old = if bytes_eq s name then set_to public old else old
marked_public (Delete name numbers public) s old = if bytes_eq s name then set_to public old else old
marked_public (Set name numbers public) s old = if bytes_eq s name then set_to public old else old
marked_public (Withdraw numbers) s old = old
marked_public (Move pairs) s old = old
marked_public (Cur cur) s old = old

-- the current message afterwards
abbrev pub marked_cur : Mark → Option ℕ → Option ℕ
marked_cur (Add name numbers public) old = old
marked_cur (Delete name numbers public) old = old
marked_cur (Set name numbers public) old = old
marked_cur (Withdraw numbers) old = old
marked_cur (Move pairs) old = moved_cur pairs old
marked_cur (Cur cur) old = cur

-- what the mark makes of sequences
pub record IsMarked (mark : Mark) (old new : Marked) : Type 0 where
  pub numbers : (name : List ℕ) (n : ℕ) → member new.users name n ≡ marked mark name (member old.users name) n
  pub public : (name : List ℕ) (n : ℕ) → IsTrue (member new.users name n)
      → public_of new.users name ≡ marked_public mark name (public_of old.users name)
  pub cur : new.cur ≡ marked_cur mark old.cur
