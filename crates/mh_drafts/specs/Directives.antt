-- What the lines that begin with `#` say.
use Rattle.std.specs.Prelude.{ℕ, ◌==◌, ◌||◌, bytes_eq, codes, List, length, take, drop, Option, Some, None, if◌then◌else◌}
use Rattle.mail_headers.specs.Unfolding.{unfolded}
use Rattle.mh_drafts.specs.declared.directive.Directive.{Directive}
use Rattle.mh_drafts.specs.declared.directive.Directive.TheVariants.{Begin, End, Wrong}
use Rattle.mh_drafts.specs.declared.kind.Kind.{Kind}
use Rattle.mh_drafts.specs.declared.kind.Kind.TheVariants.{Mixed, Alternative, Parallel, Digest}
use Rattle.mh_drafts.specs.Blanks.{word_len}
use Rattle.mh_drafts.specs.Forwards.{messages_in}
use Rattle.mh_drafts.specs.PartLines.{part_in}

-- the kind of multipart that a word names; where there is none, a mixed one
abbrev pub kind_in : List ℕ → Option Kind
kind_in word =
    if length word == 0 || bytes_eq word (codes "mixed") then Some Mixed
    else
    (if bytes_eq word (codes "alternative") then Some Alternative
    else
    (if bytes_eq word (codes "parallel") then Some Parallel
    else (if bytes_eq word (codes "digest") then Some Digest else None)))

abbrev pub begin_by : Option Kind → Directive
begin_by None = Wrong
begin_by (Some kind) = Begin kind

-- `#begin`, perhaps with a kind
abbrev pub begin_in : List ℕ → Directive
begin_in text = begin_by (kind_in (unfolded text))

-- `#end` and nothing else
abbrev pub end_in : List ℕ → Directive
end_in text = if length (unfolded text) == 0 then End else Wrong

-- what a directive with this first word says, and this behind it
abbrev pub directive_by : List ℕ → List ℕ → List ℕ → Directive
directive_by word behind text =
    if bytes_eq word (codes "begin") then begin_in behind
    else
    (if bytes_eq word (codes "end") then end_in behind
    else (if bytes_eq word (codes "forw") then messages_in behind else part_in text))

-- what the text behind a `#` says
unfoldable pub directive_in : List ℕ → Directive
directive_in text = directive_by (take (word_len text) text) (drop (word_len text) text) text
