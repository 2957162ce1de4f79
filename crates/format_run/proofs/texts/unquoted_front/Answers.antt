use Rattle.std.proofs.Common.{◌∷◌, ap, ◌∙◌}
use Rattle.std.proofs.lemmas.List.{nil_from_length}
use Rattle.format_run.specs.Texts.{unquoted}
use Rattle.format_run.proofs.TextCalls.{backslash_alone, backslash_dropped, other_stays, quote_dropped, unquoted_nothing}
use Rattle.format_run.proofs.texts.unquoted_front.Goals as goal

pub returns-in-None-clause-value : goal.returns-in-None-clause-value
returns-in-None-clause-value c = ap unquoted (nil_from_length c.args.text.now c.in-None.ensures.cases) ∙ unquoted_nothing

pub returns-in-Some-eq34-default-clause-value : goal.returns-in-Some-eq34-default-clause-value
returns-in-Some-eq34-default-clause-value c =
    ap unquoted c.in-Some-eq34-default.ensures.cases.0 ∙ ap (λ q. unquoted (q ∷ c.in-Some-eq34-default.behind.now)) c.in-Some-eq34-default.field-0-0-test
    ∙ quote_dropped c.in-Some-eq34-default.behind.now

pub returns-in-Some-split_first-clause-value : goal.returns-in-Some-split_first-clause-value
returns-in-Some-split_first-clause-value c =
    ap unquoted c.in-Some-eq92-default.ensures.cases.0 ∙ ap (λ q. unquoted (q ∷ c.in-Some-eq92-default.behind.now)) c.in-Some-eq92-default.field-0-0-test
    ∙ ap (λ t. unquoted (92 ∷ t)) c.in-Some-split_first.ensures.cases.0 ∙ backslash_dropped c.in-Some-split_first.c.now c.in-Some-split_first.rest.now

pub returns-in-None-split_first-clause-value : goal.returns-in-None-split_first-clause-value
returns-in-None-split_first-clause-value c =
    ap unquoted c.in-Some-eq92-default.ensures.cases.0 ∙ ap (λ q. unquoted (q ∷ c.in-Some-eq92-default.behind.now)) c.in-Some-eq92-default.field-0-0-test
    ∙ backslash_alone c.in-Some-eq92-default.behind.now c.in-None-split_first.ensures.cases

pub returns-in-Some-clause-value : goal.returns-in-Some-clause-value
returns-in-Some-clause-value c = ap unquoted c.in-Some.ensures.cases.0 ∙ other_stays c.in-Some.c.now c.in-Some.behind.now c.in-Some.c-test.0.1 c.in-Some.c-test.1
