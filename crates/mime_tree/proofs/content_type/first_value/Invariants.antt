use Rattle.std.proofs.Common.{◌≡◌, drop}
use Rattle.mime_tree.specs.ContentTypes.{param_value}
use Rattle.mime_tree.proofs.content_type.first_value.Given as goal

abbrev pub invariant-loop-param : goal.invariant-loop-param
invariant-loop-param l = param_value l.name (drop l.param-index l.params) ≡ param_value l.name l.params
