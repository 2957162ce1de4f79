use Rattle.format_compiler.proofs.TextPrograms.{program_alone, program_of}
use Rattle.format_compiler.proofs.compiling.program.Goals as goal

pub returns-clause-whole : goal.returns-clause-whole
returns-clause-whole c =
    program_of c.args.characters.now c.in_ok-words.words c.in_ok-instructions.instructions c.new.result c.in_ok-words.ensures.words c.in_ok-instructions.ensures c.new.ensures

pub returns-clause-alone : goal.returns-clause-alone
returns-clause-alone c = λ f d.
    program_alone c.args.characters.now c.in_ok-words.words c.in_ok-instructions.instructions c.new.result f c.in_ok-words.ensures.words c.in_ok-instructions.ensures c.new.ensures d
