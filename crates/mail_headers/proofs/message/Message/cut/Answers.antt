use Rattle.mail_headers.proofs.Whole.{is_message, is_no_other}
use Rattle.mail_headers.proofs.message.Message.cut.Goals as goal

pub returns-clause-whole : goal.returns-clause-whole
returns-clause-whole c = is_message c.args.bytes.now

pub returns-clause-alone : goal.returns-clause-alone
returns-clause-alone c = is_no_other c.args.bytes.now
