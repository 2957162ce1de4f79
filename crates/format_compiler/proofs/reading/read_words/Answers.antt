use Rattle.format_compiler.proofs.StandingWords.{stood}
use Rattle.format_compiler.proofs.reading.read_words.Goals as goal

pub loop-rest-preserved : goal.loop-rest-preserved
loop-rest-preserved c =
    stood c.loop-rest.words c.push.new.self c.in-Ok.word c.args.text.now c.loop-rest.conditionals c.pass.new.self c.loop-rest.rest.now c.in-Ok.behind.now
    c.loop-rest.invariant c.in-Ok.ensures.given c.in_ok-push-in-Ok.ensures.ok c.in_ok-pass-in-Ok.ensures
