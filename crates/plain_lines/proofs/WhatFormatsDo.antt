-- What formats do to a line's state, and what they mean.
use Rattle.std.proofs.Common.{◌≡◌, ℕ, Bool, true, false, List, refl, ap, ◌∙◌}
use Rattle.std.specs.Prelude.{if◌then◌else◌}
use Rattle.format_compiler.specs.Grammar.{Format, Done, Then, Choice}
use Rattle.format_run.specs.declared.state.LineState.{LineState}
use Rattle.format_run.specs.Viewed.{Viewed}
use Rattle.format_run.specs.Meaning.{Progress, line_of, meaning, start_of}
use Rattle.format_run.specs.Meaning as meant
use Rattle.format_run.specs.Stepping.{holds, tested}
use Rattle.format_run.specs.Stepping as step
use Rattle.format_run.proofs.FormatLines.{began, shown_at}
use Rattle.format_run.proofs.HeldStates.{at, printed_at, tested_at}
use Rattle.plain_lines.specs.Doing.{done}

-- of a conditional, whichever parts count
choice_at : (view : Viewed) (t : Bool) (taken other f : Format) (p : Progress)
    → ((p : Progress) → done view taken (at p) ≡ at (meaning view taken p))
    → ((p : Progress) → done view other (at p) ≡ at (meaning view other p))
    → (if t then done view taken (at p) else done view other (at p)) ≡ at (if t then meaning view taken p else meaning view other p)
choice_at view true taken other f p of_taken of_other = of_taken p
choice_at view false taken other f p of_taken of_other = of_other p

-- a format does what it means
pub done_at : (view : Viewed) (f : Format) (p : Progress) → done view f (at p) ≡ at (meaning view f p)
done_at view Done p = refl
done_at view (Then piece f) p = ap (done view f) (printed_at view piece p) ∙ done_at view f (meant.printed view piece p)
done_at view (Choice test taken other f) p =
    let after = meant.tested view test p in
    ap (λ s. done view f (if holds s then done view taken s else done view other s)) (tested_at view test p)
    ∙ ap (done view f) (choice_at view (meant.holds after) taken other f after (done_at view taken) (done_at view other))
    ∙ done_at view f (if meant.holds after then meaning view taken after else meaning view other after)

-- the line that is left of all that a format does is the format's
pub line_done : (view : Viewed) (f : Format) (width : ℕ) (text : List ℕ) (first last : LineState)
    → first ≡ step.start_of width → last ≡ done view f first → text ≡ last.row.characters → text ≡ line_of view width f
line_done view f width text first last start did shown =
    shown_at view f width text last (did ∙ ap (done view f) (start ∙ began width) ∙ done_at view f (start_of width)) shown
