use Rattle.std.specs.String.{string_bytes}
use Rattle.std.proofs.lemmas.Str.{IsUtf8-string_bytes}
use Rattle.mh_base.proofs.Texts.{pushed}
use Rattle.mh_base.proofs.text.Text.push.Goals as goal

pub returns-clause-ok : goal.returns-clause-ok
returns-clause-ok c = pushed (string_bytes c.self.inside.inner) _ c.args.self.now c.args.c c.push.result (IsUtf8-string_bytes c.self.inside.inner) c.ranges.c.0 c.push.ensures.bytes c.self.view_is
