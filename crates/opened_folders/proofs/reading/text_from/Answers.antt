use Rattle.std.proofs.Common.{refl}
use Rattle.file_plans.proofs.Following.{done, refuses}
use Rattle.opened_folders.proofs.reading.text_from.Goals as goal

pub returns-in-Content : goal.returns-in-Content
returns-in-Content c = λ run x. rw c.in-Content.is done

pub returns-in-Long : goal.returns-in-Long
returns-in-Long c = λ run x. rw c.in-Long.is (refuses _ refl)

pub returns-in-Gone : goal.returns-in-Gone
returns-in-Gone c = λ run x. rw (c.in-Gone.is, c.new.ensures) done
