use Rattle.draft_files.proofs.Names.{named}
use Rattle.draft_files.proofs.name.DraftName.new.Goals as goal
use Rattle.mh_base.proofs.EntryNames.{is_made}

pub unwrap-requires : goal.unwrap-requires
unwrap-requires c = is_made c.args.bytes c.new.result c.new.ensures (named c.args.bytes (rw (c.is_draft.ensures, c.as_slice.ensures) at c.if-is_draft.true))
