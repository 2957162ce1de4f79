use Rattle.std.proofs.Common.{◌++◌, ◌∙◌, ap}
use Rattle.std.specs.Prelude.{codes}
use Rattle.mhbuild_compose.specs.Heads.{name_text}
use Rattle.mhbuild_compose.proofs.Chains.{four, last}
use Rattle.mhbuild_compose.proofs.head.put_name.Goals as goal

pub returns : goal.returns
unfolding name_text
returns c =
    four c.extend-4.result c.args.out.now (codes "Content-Type: ") c.args.label.now.kind (codes "/") c.args.label.now.subtype c.extend.new.self c.extend-2.new.self c.extend-3.new.self c.extend-4.new.self
    c.in_ok-extend.ensures.ok (c.in_ok-extend-2.ensures.ok ∙ ap (λ t. c.extend.new.self ++ t) c.as_slice.ensures) c.in_ok-extend-3.ensures.ok
    (last c.extend-4.result c.extend-4.new.self c.extend-3.new.self c.as_slice-2.result.now c.args.label.now.subtype c.as_slice-2.ensures c.extend-4.ensures.ok)
