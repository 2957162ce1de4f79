use Rattle.std.proofs.Common.{◌≡◌, drop}
use Rattle.format_compiler.specs.Functions.{named_among}
use Rattle.format_compiler.proofs.named.among.Given as goal

abbrev pub invariant-loop-function : goal.invariant-loop-function
invariant-loop-function l = named_among (drop l.function-index l.functions) l.name ≡ named_among l.functions l.name
