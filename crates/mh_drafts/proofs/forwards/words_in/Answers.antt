use Rattle.std.proofs.Common.{rules, ap, ◌∙◌, map}
use Rattle.std.specs.Prelude.{filter}
use Rattle.std.proofs.lemmas.Iterator.Consumers.{YieldsList-end}
use Rattle.std.proofs.lemmas.Iterator.Splits.{YieldsList-from_slice_split}
use Rattle.mail_text.specs.ShownBytes.{shown}
use Rattle.mh_drafts.proofs.Wording.{shown_more}
use Rattle.mh_drafts.proofs.forwards.words_in.Goals as goal
use Rattle.mh_base.specs.Characters.{is_blank, is_some_text}

pub loop-word-preserved : goal.loop-word-preserved
loop-word-preserved c = shown_more c.loop-word.yielded c.in-Some.word c.loop-word.words c.push_shown.new.words c.in_ok-push_shown.ensures c.loop-word.invariant

pub returns : goal.returns
returns c =
    let same = c.into_iter-word-iterator.ensures in
    let all = YieldsList-end (YieldsList-from_slice_split _ is_blank c.args.text.now (cc) (cc) (cc) (λ x b q k. search rules)) c.loop-word.yielded _ c.loop-word.yielded_by _ _ c.in-None.is c.next.ensures.steps in
    c.loop-word.invariant ∙ ap (λ l. map shown (filter is_some_text l)) all.0
