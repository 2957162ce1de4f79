use Rattle.file_plans.proofs.Following.{done}
use Rattle.held_messages.proofs.putting_back.drop_one.Goals as goal

pub returns-in-None : goal.returns-in-None
returns-in-None g c = λ h. rw c.in-None.is done
