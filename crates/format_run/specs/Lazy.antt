-- The state that a lazy one stands for.
use Rattle.std.specs.Prelude.{if◌then◌else◌}
use Rattle.mail_text.specs.Stripping.{stripped}
use Rattle.format_run.specs.declared.lazy.LazyState.{LazyState}
use Rattle.format_run.specs.declared.state.LineState.{LineState}
use Rattle.format_run.specs.Stepping.{with_text}

-- its text is on one line also where that was not made yet
abbrev pub meant : LazyState → LineState
meant l = if l.raw then with_text (stripped l.state.text) l.state else l.state
