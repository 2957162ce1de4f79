use Rattle.mail_text.specs.Addresses.{opens_comment, closes_comment}
use Rattle.mail_text.proofs.Marking.{between}
use Rattle.mail_text.proofs.parts.first_comment.Goals as goal

pub returns : goal.returns
returns c =
    between opens_comment closes_comment c.args.marks.now c.split_at.result.1.now c.behind_one-behind.result.now c.split_at-2.result.0.now c.comment_place.result c.comment_end.result
    c.comment_place.ensures.value c.split_at.ensures.back c.behind_one-behind.ensures c.comment_end.ensures.value c.split_at-2.ensures.front
