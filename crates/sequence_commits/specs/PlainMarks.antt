-- Marks, whatever room their sets have.
use Rattle.mh_sequences.specs.declared.mark.Mark.{Mark}
use Rattle.mh_sequences.specs.declared.mark.Mark.TheVariants.{Add, Delete, Set, Withdraw, Move, Cur}
use Rattle.mh_sequences.specs.Runs.{set_of}

-- a mark whose set has no room
abbrev pub plain_mark : Mark → Mark
plain_mark (Add name numbers public) = Add name (set_of numbers.runs 0) public
plain_mark (Delete name numbers public) = Delete name (set_of numbers.runs 0) public
plain_mark (Set name numbers public) = Set name (set_of numbers.runs 0) public
plain_mark (Withdraw numbers) = Withdraw (set_of numbers.runs 0)
plain_mark (Move pairs) = Move pairs
plain_mark (Cur cur) = Cur cur
