-- What is written of new messages, as the code has it.
use Rattle.message_lines.specs.MessageText.{coded, sight_of}
use Rattle.inc_plans.specs.Taking.{standing_for, Telling}
use Rattle.inc_plans.specs.declared.target.Target.{Target}

abbrev pub told_by : Target → Telling
told_by t = record {
  silent = t.silent;
  line = λ first n bytes.
      coded t.look.now.program (sight_of t.look.now)
      (standing_for t.change_cur t.unseen t.sequences.now.cur first n) n bytes;
}
