-- What is left of a text.
use Rattle.std.specs.Prelude.{ℕ, List}
use Rattle.mail_dates.specs.declared.outside.Outside.{Outside}
use Rattle.mail_dates.specs.Words.{outside}

-- without its comments
abbrev pub left : Outside → List ℕ
left o = outside 0 o.rest.now
