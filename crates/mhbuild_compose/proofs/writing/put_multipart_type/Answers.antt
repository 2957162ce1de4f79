use Rattle.std.proofs.Common.{◌++◌, ◌∙◌, ap}
use Rattle.std.specs.Prelude.{codes}
use Rattle.mhbuild_compose.specs.Boundaries.{boundary_of}
use Rattle.mhbuild_compose.specs.Written.{kind_text, multipart_type}
use Rattle.mhbuild_compose.proofs.Chains.{five}
use Rattle.mhbuild_compose.proofs.writing.put_multipart_type.Goals as goal

pub returns : goal.returns
unfolding multipart_type
returns c =
    five c.extend-4.result c.args.out.now (codes "Content-Type: multipart/") (kind_text c.args.kind) (codes "; boundary=\"") (boundary_of c.args.run c.args.key) (codes "\"\n") c.extend.new.self c.extend-2.new.self c.extend-3.new.self c.put_boundary.new.out c.extend-4.new.self
    c.in_ok-extend.ensures.ok (c.in_ok-extend-2.ensures.ok ∙ ap (λ t. c.extend.new.self ++ t) c.kind_word.ensures) c.in_ok-extend-3.ensures.ok c.in_ok-put_boundary.ensures c.extend-4.ensures.ok
