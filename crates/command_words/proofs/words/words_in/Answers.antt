use Rattle.std.proofs.Common.{rules, ap, ◌∙◌, map}
use Rattle.std.specs.Prelude.{filter}
use Rattle.std.proofs.lemmas.Iterator.Consumers.{YieldsList-end}
use Rattle.std.proofs.lemmas.Iterator.Splits.{YieldsList-from_slice_split}
use Rattle.mail_text.specs.ShownBytes.{shown}
use Rattle.command_words.proofs.Texts.{shown_more}
use Rattle.command_words.proofs.words.words_in.Goals as goal
use Rattle.mh_base.specs.Characters.{is_blank, is_some_text}

pub loop-part-preserved : goal.loop-part-preserved
loop-part-preserved c = shown_more c.loop-part.yielded c.in-Some.part c.loop-part.words c.push_shown.new.words c.in_ok-push_shown.ensures c.loop-part.invariant

pub returns : goal.returns
returns c =
    let same = c.into_iter-part-iterator.ensures in
    let all = YieldsList-end (YieldsList-from_slice_split _ is_blank c.args.value.now (cc) (cc) (cc) (λ x b q k. search rules)) c.loop-part.yielded _ c.loop-part.yielded_by _ _ c.in-None.is c.next.ensures.steps in
    c.loop-part.invariant ∙ ap (λ l. map shown (filter is_some_text l)) all.0
