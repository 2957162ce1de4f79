-- What a call promises whose plan keeps the rules of a pledge.
use Rattle.file_plans.specs.Follows.{State}
use Rattle.file_plans.specs.StaysCareful.{StaysCareful}
use Rattle.step_plans.specs.Pledges.{Pledge}
use Rattle.step_plans.specs.Safety.{IsUnused, GoesAsPledged, GoesByBases, StaysSafe, StaysInOrder}

-- its own steps are careful and of its kinds, where they change something as it pledged, and where they commit a text
-- what it makes of the base; where the others are careful no mail is lost; where they are orderly too, and locks
-- honest, its commits are made from the texts that they replace
pub record Promises (w : Pledge) (x y : State) : Type 0 where
  pub careful : IsUnused w.run x.files.story → StaysCareful w.run w.manner x.files y.files
  pub as_pledged : GoesAsPledged w x.files.story y.files.story
  pub by_bases : GoesByBases w x.files.story y.files.story
  pub safe : StaysSafe w.run x.files.story y.files.story
  pub in_order : StaysInOrder w x.files.story y.files.story
