-- What the code's parameters show.
use Rattle.mail_text.specs.ShownBytes.{shown}
use Rattle.mime_tree.specs.declared.param.Param.{Param}
use Rattle.mime_tree.specs.declared.params.RawParam.{RawParam}
use Rattle.mime_tree.specs.Params.{TakenParam}
use Rattle.mime_tree.specs.Tokens.{unprotected}

abbrev pub param_of : RawParam → Param
param_of p = record { name = shown p.name.now; value = shown (unprotected p.value.now) }

abbrev pub taken_of : RawParam → TakenParam
taken_of p = record { param = param_of p; rest = p.rest.now }
