use Rattle.std.proofs.Common.{rules, ◌≡◌}
use Rattle.folder_files.specs.Named.{original_of}
use Rattle.draft_files.proofs.Names.{original_named}
use Rattle.draft_files.proofs.name.DraftName.original.Goals as goal
use Rattle.mh_base.proofs.EntryNames.{is_made}

pub unwrap-requires : goal.unwrap-requires
unwrap-requires c =
    let same : c.extend-2.new.self ≡ original_of c.self.inside.name = search rules in
    is_made c.extend-2.new.self c.new.result c.new.ensures (rw same (original_named c.self.inside.name c.self.invariant))
