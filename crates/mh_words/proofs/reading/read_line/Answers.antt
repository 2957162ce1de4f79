use Rattle.std.proofs.lemmas.Result.{err_from_is_err_and}
use Rattle.mh_words.specs.Lines.{words_of}
use Rattle.mh_words.proofs.OneOutcome.{reads_more, fails_more, reads_all, step_fault}
use Rattle.mh_words.proofs.reading.read_line.Goals as goal

pub returns-in_err-taken : goal.returns-in_err-taken
returns-in_err-taken c =
    let p = err_from_is_err_and c.from_residual.result c.from_residual.ensures.1 in
    rw (p.1, p.2) (step_fault c.args.table.now (words_of c.args.line.now) c.loop-word.place c.in_err-taken.field-0.0 c.loop-word.invariant.fails c.in_err-taken.ensures.step)

pub loop-word-preserved : goal.loop-word-preserved
loop-word-preserved c = record {
  reads = reads_more c.args.table.now (words_of c.args.line.now) c.loop-word.place c.in_ok-taken.taken.next c.loop-word.items c.push.new.self c.in_ok-taken.taken.item c.loop-word.invariant.reads c.in_ok-push.ensures.ok c.in_ok-taken.ensures.step;
  fails = fails_more c.args.table.now (words_of c.args.line.now) c.loop-word.place c.in_ok-taken.taken.next c.in_ok-taken.taken.item c.loop-word.invariant.fails c.in_ok-taken.ensures.step;
}

pub returns : goal.returns
returns c = reads_all c.args.table.now (words_of c.args.line.now) c.loop-word.place c.loop-word.items c.loop-word.invariant.reads c.in_default.ensures.word
