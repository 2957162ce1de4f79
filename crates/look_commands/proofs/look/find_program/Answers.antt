use Rattle.file_plans.specs.Follows.{by_hand}
use Rattle.message_lines.specs.MessageText.{coded}
use Rattle.look_commands.proofs.Looked.{look_file, look_known}
use Rattle.look_commands.proofs.look.find_program.Goals as goal

pub returns-in-Known : goal.returns-in-Known
returns-in-Known g c = λ h sight. rw c.in-Known.is (look_known c.args.run (coded c.in-Known.program sight) (by_hand h (g.F.Files.state c.args.files.now)))

pub returns-in-InFile : goal.returns-in-InFile
returns-in-InFile g c =
    λ h sight. rw c.in-InFile.is (look_file c.args.run c.in-InFile.path sight (by_hand h (g.F.Files.state c.args.files.now)) (by_hand h (g.F.Files.state c.read_format.new.files)) c.read_format.result (c.read_format.ensures.plan h))
