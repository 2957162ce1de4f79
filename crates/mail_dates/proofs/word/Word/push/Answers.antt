use Rattle.mail_dates.proofs.Cutting.{full_kept}
use Rattle.mail_dates.proofs.word.Word.push.Goals as goal

pub returns-else-self-lt13 : goal.returns-else-self-lt13
returns-else-self-lt13 c = full_kept c.self.inside.bytes c.self.inside.len c.args.byte c.self.inside.letters c.is_letter.result c.args.self.now c.self.told c.self.invariant c.if-self-lt13.false c.is_letter.ensures c.self.view_is
