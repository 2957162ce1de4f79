-- How messages are looked at, by what the code found: a program that writes, or the file of the format.
use Rattle.std.specs.Prelude.{◌≡◌, Result, Ok, Err}
use Rattle.step_plans.specs.declared.command_fault.CommandFault.{CommandFault}
use Rattle.command_stages.specs.Values.{IsErrorOf}
use Rattle.message_lines.specs.MessageText.{coded, Sight}
use Rattle.look_words.specs.declared.look.FormatWords.{FormatWords}
use Rattle.command_plans.specs.Looking.{InFile, Known, Telling, telling_by}
use Rattle.command_plans.specs.declared.caller.Caller.{Caller}
use Rattle.look_commands.specs.declared.look.FormatSource.{FormatSource}
use Rattle.look_commands.specs.declared.look.FormatSource.TheVariants as source
use Rattle.look_commands.specs.declared.look.LookSaid.{LookSaid}

-- what is written of messages, by a program or by what its file has
abbrev pub telling_in : Sight → FormatSource → Telling
telling_in sight (source.Known program) = Known (coded program sight)
telling_in sight (source.InFile path) = InFile path sight

abbrev pub telling_said : Caller → LookSaid → Telling
telling_said caller l =
    telling_in (record { width = l.width; moment = caller.clock.moment; user = caller.user }) l.source

-- the code found where the format is that words name; or this is the refusal, or there was not enough memory
abbrev pub IsSource : FormatWords → Result FormatSource CommandFault → Type 0
IsSource words (Ok found) = (sight : Sight) → telling_by sight words ≡ Ok (telling_in sight found)
IsSource words (Err e) = (sight : Sight) → IsErrorOf (telling_by sight words) e
