use Rattle.std.proofs.lemmas.List.{nil_from_length}
use Rattle.mail_text.specs.WordView.{word_text}
use Rattle.mail_text.proofs.Wording.{word_put, character_put, ended, shorter}
use Rattle.mail_text.proofs.Words.{decoded_pieces, decoded_alone}
use Rattle.mail_text.proofs.encoded_words.decode_words.Goals as goal

pub loop-c-smaller-in-Some-first : goal.loop-c-smaller-in-Some-first
loop-c-smaller-in-Some-first c = shorter c.loop-c.rest.now c.without_gap-rest.result.now (word_text c.in-Some-first.word) c.in-Some-first.ensures c.without_gap-rest.ensures

pub loop-c-preserved-in-Some-first : goal.loop-c-preserved-in-Some-first
loop-c-preserved-in-Some-first c =
    word_put c.in-Some.c.now c.loop-c.rest.now c.in-Some.behind.now c.without_gap-rest.result.now c.loop-c.line c.put.new.text _ (word_text c.in-Some-first.word) c.in-Some.ensures.cases.0 c.in-Some-first.ensures
    c.without_gap-rest.ensures c.in_ok-put-in-Some-first.ensures c.loop-c.invariant

pub loop-c-preserved : goal.loop-c-preserved
loop-c-preserved c =
    character_put c.in-Some.c.now c.loop-c.rest.now c.in-Some.behind.now c.loop-c.line c.push.new.self _ c.in-Some.ensures.cases.0 c.in-None.ensures c.in_ok-push-in-None.ensures.ok c.loop-c.invariant

pub returns-clause-value : goal.returns-clause-value
returns-clause-value c = ended c.loop-c.rest.now c.loop-c.line _ (nil_from_length c.loop-c.rest.now c.in_default.ensures.cases) c.loop-c.invariant

pub returns-clause-pieces : goal.returns-clause-pieces
returns-clause-pieces c = decoded_pieces c.args.text.now _ (returns-clause-value c)

pub returns-clause-alone : goal.returns-clause-alone
returns-clause-alone c = decoded_alone c.args.text.now _ (returns-clause-value c)
