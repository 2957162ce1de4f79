-- What formats do to a line's state, part by part.
use Rattle.std.specs.Prelude.{if◌then◌else◌}
use Rattle.format_compiler.specs.Grammar.{Format, Done, Then, Choice}
use Rattle.format_run.specs.declared.state.LineState.{LineState}
use Rattle.format_run.specs.Viewed.{Viewed}
use Rattle.format_run.specs.Stepping.{holds, printed, tested}

-- the state behind a format
abbrev pub done : Viewed → Format → LineState → LineState
done view Done s = s
done view (Then piece f) s = done view f (printed view piece s)
done view (Choice test taken other f) s =
    let after = tested view test s in
    done view f (if holds after then done view taken after else done view other after)
