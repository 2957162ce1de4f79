use Rattle.mh_tools.proofs.lines.say_refusal.Goals as goal

pub returns-in-NoFile : goal.returns-in-NoFile
returns-in-NoFile c = rw (c.in-NoFile.is, ← c.as_slice.ensures) c.say_bytes-in-NoFile.ensures

pub returns-in-DropChanged : goal.returns-in-DropChanged
returns-in-DropChanged c = rw c.in-DropChanged.is c.extend-in-DropChanged.ensures.ok
