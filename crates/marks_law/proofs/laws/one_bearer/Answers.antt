use Rattle.marks_law.proofs.Bearing.{one_bearer, whole}
use Rattle.marks_law.proofs.laws.one_bearer.Goals as goal

pub returns : goal.returns
returns c = λ start k st committed past l careful none n f g text y z. one_bearer start k n f g text st committed (whole l) careful none y z
