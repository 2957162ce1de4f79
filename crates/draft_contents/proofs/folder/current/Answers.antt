use Rattle.std.proofs.Common.{◌∙◌, ◌∷◌, [], ◌++◌}
use Rattle.std.specs.Str.{chars}
use Rattle.draft_contents.proofs.folder.current.Goals as goal

pub returns : goal.returns
unfolding chars
returns c = c.in_ok-push.ensures.ok ∙ (λ i. c.new-specs.ensures i ++ c.in_ok-from_str.ensures i ∷ [])
