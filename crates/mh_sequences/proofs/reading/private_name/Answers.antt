use Rattle.std.proofs.Common.{◌≡◌, ◌++◌, ◌∙◌, ap}
use Rattle.std.specs.Prelude.{codes}
use Rattle.mh_sequences.proofs.PrivateNames.{name_between, other_end, front_is, end_is}
use Rattle.mh_sequences.proofs.reading.private_name.Goals as goal

pub returns-in-Some-strip_suffix : goal.returns-in-Some-strip_suffix
returns-in-Some-strip_suffix c =
    let is : c.args.name.now ≡ codes "atr-" ++ c.in-Some.rest.now = front_is c.args.name.now c.as_slice.result.now c.in-Some.rest.now c.in-Some.ensures.cases.0 c.in-Some.ensures.cases.1 ∙ ap (λ p. p ++ c.in-Some.rest.now) c.as_slice.ensures in
    name_between c.args.name.now c.args.ending.now c.in-Some.rest.now c.in-Some-strip_suffix.inner.now is
    (end_is c.in-Some.rest.now c.in-Some-strip_suffix.inner.now c.args.ending.now c.in-Some-strip_suffix.ensures.cases.0 c.in-Some-strip_suffix.ensures.cases.1)

pub returns-in-None : goal.returns-in-None
returns-in-None c =
    let is : c.args.name.now ≡ codes "atr-" ++ c.in-Some.rest.now = front_is c.args.name.now c.as_slice.result.now c.in-Some.rest.now c.in-Some.ensures.cases.0 c.in-Some.ensures.cases.1 ∙ ap (λ p. p ++ c.in-Some.rest.now) c.as_slice.ensures in
    other_end c.args.name.now c.args.ending.now c.in-Some.rest.now is c.in-None.ensures.cases
