use Rattle.std.proofs.Common.{take, sym, subst, ap, ◌∙◌}
use Rattle.mh_base.specs.Names.{IsName}
use Rattle.mime_tree.specs.declared.part.Part.{out-Part}
use Rattle.part_rows.specs.FileNames.{name_of}
use Rattle.part_rows.proofs.Cleanness.{cut, is_name}
use Rattle.part_rows.proofs.files.file_name.Goals as goal
use Rattle.mh_base.proofs.EntryNames.{is_made}

pub unwrap-requires : goal.unwrap-requires
unwrap-requires c =
    let short = cut c.in_ok-whole.whole c.as_slice.result.now c.in_ok-from_slice.field-0 c.min.result c.len.result c.as_slice.ensures c.len.ensures c.min.ensures (c.in_ok-from_slice.ensures ∙ c.split_at.ensures.front) in
    is_made c.in_ok-from_slice.field-0 c.new.result c.new.ensures
    (subst IsName (sym short) (is_name c.args.number (out-Part c.args.part.now).path (out-Part c.args.part.now).subtype c.in_ok-whole.whole c.in_ok-whole.ensures.value c.in_ok-whole.ensures.clean))

pub returns : goal.returns
unfolding name_of
returns c =
    let short = cut c.in_ok-whole.whole c.as_slice.result.now c.in_ok-from_slice.field-0 c.min.result c.len.result c.as_slice.ensures c.len.ensures c.min.ensures (c.in_ok-from_slice.ensures ∙ c.split_at.ensures.front) in
    let made = rw c.unwrap.ensures at c.new.ensures in
    made.1 ∙ short ∙ ap (take 255) c.in_ok-whole.ensures.value
