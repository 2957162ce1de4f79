use Rattle.std.proofs.Common.{◌≡◌, ◌<◌, ◌^◌, true, subst, sym, ◌∙◌, arith}
use Rattle.std.specs.List.{All, list_all}
use Rattle.std.proofs.lemmas.Grind.{common_steps}
use Rattle.mh_base.specs.Names.{is_name_byte}
use Rattle.mime_tree.specs.declared.part.Part.{out-Part}
use Rattle.part_rows.specs.FileNames.{whole_name}
use Rattle.part_rows.proofs.Cleanness.{clean_name}
use Rattle.part_rows.proofs.files.long_name.Goals as goal

pub returns-clause-clean : goal.returns-clause-clean
returns-clause-clean c =
    let range = c.get.ensures.range in
    let value = c.get.ensures.value in
    let is : c.put_subtype.new.name ≡ whole_name c.args.number (out-Part c.args.part.now).path (out-Part c.args.part.now).subtype = grind (arith, common_steps) in
    subst (λ name. list_all is_name_byte name ≡ true) (sym is)
    (clean_name c.args.number (out-Part c.args.part.now).path (out-Part c.args.part.now).subtype (omega (arith, range.1, value)) (subst (All (λ n. n < 2 ^ 64)) (c.as_slice.ensures ∙ c.numbers.ensures) c.put_dotted.ensures.fit))
