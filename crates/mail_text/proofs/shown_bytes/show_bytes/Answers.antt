use Rattle.mail_text.proofs.Showing.{shown_pieces, shown_alone}
use Rattle.mail_text.proofs.shown_bytes.show_bytes.Goals as goal

pub returns-clause-pieces : goal.returns-clause-pieces
returns-clause-pieces c = shown_pieces c.args.bytes.now _ c.in_ok-text.ensures

pub returns-clause-alone : goal.returns-clause-alone
returns-clause-alone c = shown_alone c.args.bytes.now _ c.in_ok-text.ensures
