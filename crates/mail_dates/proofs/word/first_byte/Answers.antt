use Rattle.std.proofs.Common.{sym, ◌∙◌, ap}
use Rattle.mail_dates.specs.Words.{is_separator}
use Rattle.mail_dates.proofs.Cutting.{separator_passed, no_words}
use Rattle.mail_dates.proofs.word.first_byte.Goals as goal
use Rattle.mh_base.specs.Characters.{words}

pub loop-byte-preserved : goal.loop-byte-preserved
loop-byte-preserved c = sym (ap (words is_separator) c.in-Some.ensures ∙ separator_passed is_separator c.in-Some.byte _ (sym c.is_separator.ensures ∙ c.if-not-is_separator.false)) ∙ c.loop-byte.invariant

pub returns : goal.returns
returns c = (sym c.loop-byte.invariant ∙ no_words is_separator _ c.in_default.ensures.0, no_words is_separator _ c.in_default.ensures.1)
