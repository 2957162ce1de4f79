use Rattle.mh_tools.proofs.lines.say_word.Goals as goal

pub returns-in-Unknown : goal.returns-in-Unknown
returns-in-Unknown c = rw (c.in-Unknown.is, ← c.bytes_of.ensures) c.say_bytes.ensures

pub returns-in-NoValue : goal.returns-in-NoValue
returns-in-NoValue c = rw (c.in-NoValue.is, ← c.bytes_of-in-NoValue.ensures) c.say_bytes-in-NoValue.ensures

pub returns-in-Missing : goal.returns-in-Missing
returns-in-Missing c = rw c.in-Missing.is c.extend.ensures.ok

pub returns-in-Extra : goal.returns-in-Extra
returns-in-Extra c = rw (c.in-Extra.is, ← c.bytes_of-in-Extra.ensures) c.say_bytes-in-Extra.ensures
