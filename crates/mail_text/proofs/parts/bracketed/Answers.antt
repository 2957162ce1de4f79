use Rattle.mail_text.specs.Addresses.{is_bracket, closes_bracket}
use Rattle.mail_text.proofs.Marking.{between}
use Rattle.mail_text.proofs.parts.bracketed.Goals as goal

pub returns : goal.returns
returns c =
    between is_bracket closes_bracket c.args.marks.now c.split_at.result.1.now c.behind_one-behind.result.now c.split_at-2.result.0.now c.bracket_place.result c.bracket_end.result
    c.bracket_place.ensures.value c.split_at.ensures.back c.behind_one-behind.ensures c.bracket_end.ensures.value c.split_at-2.ensures.front
