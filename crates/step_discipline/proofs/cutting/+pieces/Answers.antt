use Rattle.std.proofs.Common.{rules}
use Rattle.std.proofs.lemmas.Result.{IfOk-weaker}
use Rattle.step_discipline.proofs.Pieces.{pieces_aside, pieces_odd, pieces_first, pieces_joined}
use Rattle.step_discipline.proofs.cutting.+pieces.Goals as goal

pub returns-then-not-asks_piece : goal.returns-then-not-asks_piece
returns-then-not-asks_piece t c =
    IfOk-weaker c.pieces.result _ _ (λ r g. pieces_aside c.args.path.now c.args.own.now c.in-Some.older.now c.in-Some.deed.now (search rules) (search rules) r g) (search rules)

pub returns-in_default-piece : goal.returns-in_default-piece
returns-in_default-piece t c = pieces_odd c.args.path.now c.args.own.now c.in-Some.older.now c.in-Some.deed.now (search rules) (search rules) (search rules)

pub returns-then-piece-eq0 : goal.returns-then-piece-eq0
returns-then-piece-eq0 t c =
    pieces_first c.args.path.now c.args.own.now c.in-Some.older.now c.in-Some.deed.now c.in-Some-piece.piece.from c.in-Some-piece.piece.length _ (search rules) (search rules) (search rules)

pub returns-in-Some-2 : goal.returns-in-Some-2
returns-in-Some-2 t c =
    IfOk-weaker c.joined.result _ _ (λ r j. pieces_joined c.args.path.now c.args.own.now c.in-Some.older.now c.in-Some.deed.now c.in-Some-piece.piece.from c.in-Some-piece.piece.length c.in-Some-piece.piece.bytes.now c.in-Some-2.before (search rules) (search rules) (search rules) (search rules) r j) (search rules)
