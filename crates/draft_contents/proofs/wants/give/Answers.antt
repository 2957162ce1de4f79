use Rattle.draft_contents.proofs.wants.give.Goals as goal

pub returns-in-File : goal.returns-in-File
returns-in-File g c = rw (c.in-File.is) (rw c.run.ensures at (c.give_file.ensures c.args.hand.now.kept))
