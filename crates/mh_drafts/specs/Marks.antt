-- What each line of a draft's body is.
use Rattle.std.specs.Prelude.{ℕ, ◌+◌, ◌-◌, ◌==◌, nat_le, Bool, not, List, [], ◌∷◌, length, drop, if◌then◌else◌}
use Rattle.mail_headers.specs.Lines.{without_end}
use Rattle.mime_tree.specs.BoundaryLines.{lines}
use Rattle.mh_drafts.specs.declared.directive.Directive.{Directive}
use Rattle.mh_drafts.specs.declared.directive.Directive.TheVariants.{Begin, End, Part, Wrong}
use Rattle.mh_drafts.specs.Blanks.{is_led}
use Rattle.mh_drafts.specs.Directives.{directive_in}

-- a line of text, with its end, or a directive
pub data Mark : Type 0 where
  plain : List ℕ → Mark
  order : Directive → Mark

-- what a line is that begins with `#`, by what follows that: where another `#` does, the text from there on
abbrev pub hashed : List ℕ → Mark
hashed rest = if is_led 35 rest then plain rest else order (directive_in (without_end rest))

-- what a line is alone
abbrev pub mark_of : List ℕ → Mark
mark_of line = if is_led 35 line then hashed (drop 1 line) else plain line

-- what a directive is where so many multiparts are open: at most 32 are, and none ends where none is
abbrev pub settled : ℕ → Directive → Directive
settled depth (Begin kind) = if nat_le 32 depth then Wrong else Begin kind
settled depth End = if depth == 0 then Wrong else End
settled depth (Part leaf want) = Part leaf want
settled depth Wrong = Wrong

abbrev pub placed : ℕ → Mark → Mark
placed depth (plain line) = plain line
placed depth (order directive) = order (settled depth directive)

-- how many multiparts are open behind a directive
abbrev pub open_behind : ℕ → Directive → ℕ
open_behind depth (Begin kind) = depth + 1
open_behind depth End = depth - 1
open_behind depth (Part leaf want) = depth
open_behind depth Wrong = depth

abbrev pub open_after : ℕ → Mark → ℕ
open_after depth (plain line) = depth
open_after depth (order directive) = open_behind depth directive

-- what these lines are where so many multiparts are open: a wrong line opens nothing and ends nothing
unfoldable pub marks_from : ℕ → List (List ℕ) → List Mark
marks_from depth [] = []
marks_from depth (line ∷ more) =
    let mark = placed depth (mark_of line) in mark ∷ marks_from (open_after depth mark) more

-- what the lines of a body are
abbrev pub marks_in : List ℕ → List Mark
marks_in body = marks_from 0 (lines body)

-- the line isn't empty
abbrev pub is_said : List ℕ → Bool
is_said line = not (length (without_end line) == 0)
