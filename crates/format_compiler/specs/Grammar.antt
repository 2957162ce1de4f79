-- The trees that the words of formats write.
use Rattle.std.specs.Prelude.{List, [], ◌∷◌}
use Rattle.format_compiler.specs.declared.one_test.Test.{Test}
use Rattle.format_compiler.specs.declared.piece.Piece.{Piece}
use Rattle.format_compiler.specs.declared.word.Word.{Word}
use Rattle.format_compiler.specs.declared.word.Word.TheVariants.{Nothing, Print, If, ElseIf, Else, End}

-- a format: what it prints, and conditionals, one behind the other; a conditional has what counts where its test holds
-- and what counts where it doesn't, and before `%?` stands a conditional that has another in the second place
pub data Format : Type 0 where
  Done : Format
  Then : Piece → Format → Format
  Choice : Test → Format → Format → Format → Format

-- no item begins here
abbrev pub AreOver : List Word → Type 0
AreOver [] = Unit {0}
AreOver (Nothing ∷ words) = ⊥
AreOver (Print piece ∷ words) = ⊥
AreOver (If test ∷ words) = ⊥
AreOver (ElseIf test ∷ words) = Unit {0}
AreOver (Else ∷ words) = Unit {0}
AreOver (End ∷ words) = Unit {0}

-- The words begin with all items that stand here, or with all that stands between a conditional's first items and the
-- words behind its end, and the rest stands behind them.
mutual
  pub data AreItems : List Word → List Word → Format → Type 0 where
    over : {rest : List Word} → AreOver rest → AreItems rest rest Done
    nothing : {words rest : List Word} {f : Format} → AreItems words rest f → AreItems (Nothing ∷ words) rest f
    print : {words rest : List Word} {piece : Piece} {f : Format} → AreItems words rest f
        → AreItems (Print piece ∷ words) rest (Then piece f)
    choice : {words others behind rest : List Word} {test : Test} {taken other f : Format} → AreItems words others taken
        → AreOthers others behind other → AreItems behind rest f
        → AreItems (If test ∷ words) rest (Choice test taken other f)

  pub data AreOthers : List Word → List Word → Format → Type 0 where
    end : {rest : List Word} → AreOthers (End ∷ rest) rest Done
    otherwise : {words rest : List Word} {other : Format} → AreItems words (End ∷ rest) other
        → AreOthers (Else ∷ words) rest other
    otherwise_if : {words others rest : List Word} {test : Test} {taken other : Format} → AreItems words others taken
        → AreOthers others rest other → AreOthers (ElseIf test ∷ words) rest (Choice test taken other Done)

-- the words are this format
abbrev pub IsFormat : List Word → Format → Type 0
IsFormat words f = AreItems words [] f
