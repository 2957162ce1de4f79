-- What the words of `scan` and of `inc` ask for, by what the code made of them.
use Rattle.command_plans.specs.Incorporating.{IncAsked}
use Rattle.command_plans.specs.Looking.{ScanAsked}
use Rattle.command_plans.specs.declared.caller.Caller.{Caller}
use Rattle.look_commands.specs.Looks.{telling_said}
use Rattle.look_commands.specs.declared.incorporating.IncLook.{IncLook}
use Rattle.look_commands.specs.declared.scanning.ScanLook.{ScanLook}

abbrev pub asked_of : Caller → ScanLook → ScanAsked
asked_of caller l = record {
  folder = l.words.folder;
  specs = l.words.specs;
  reverse = l.words.reverse;
  telling = telling_said caller l.look;
}

abbrev pub inc_asked_of : Caller → IncLook → IncAsked
inc_asked_of caller l = record {
  folder = l.folder;
  drop = l.drop;
  truncate = l.truncate;
  silent = l.silent;
  change_cur = l.change_cur;
  unseen = l.unseen;
  telling = telling_said caller l.look;
}
