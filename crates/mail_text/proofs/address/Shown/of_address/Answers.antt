use Rattle.std.proofs.Common.{rules}
use Rattle.mail_text.proofs.PartReading.{address_shows, address_alone}
use Rattle.mail_text.proofs.address.Shown.of_address.Goals as goal

pub returns-clause-value : goal.returns-clause-value
returns-clause-value c = search rules

pub returns-clause-pieces : goal.returns-clause-pieces
returns-clause-pieces c = address_shows c.args.value.now _ (returns-clause-value c)

pub returns-clause-alone : goal.returns-clause-alone
returns-clause-alone c = address_alone c.args.value.now _ (returns-clause-value c)
