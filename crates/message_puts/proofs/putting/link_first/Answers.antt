use Rattle.message_puts.specs.Putting.{linked_first}
use Rattle.message_puts.proofs.putting.link_first.Goals as goal

pub returns-in-Some : goal.returns-in-Some
unfolding linked_first
returns-in-Some g c = λ h. rw c.in-Some.is (c.link_home.ensures h)

pub returns-in-None : goal.returns-in-None
unfolding linked_first
returns-in-None g c = λ h. rw c.in-None.is (c.link_up.ensures h)
