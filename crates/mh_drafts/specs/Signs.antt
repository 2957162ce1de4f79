-- Which lines are wrong.
use Rattle.std.specs.Prelude.{ℕ, ◌+◌, ◌-◌, ◌==◌, ◌||◌, Bool, true, false, List, [], ◌∷◌, Option, Some, None, option_map, if◌then◌else◌}
use Rattle.mh_drafts.specs.declared.directive.Directive.{Directive}
use Rattle.mh_drafts.specs.declared.directive.Directive.TheVariants.{Begin, End, Part, Wrong}
use Rattle.mh_drafts.specs.declared.sign.Sign.{Sign}
use Rattle.mh_drafts.specs.declared.sign.Sign.TheVariants.{Nothing, Part as part, Begin as begins, End as ends, Wrong as wrong}
use Rattle.mh_drafts.specs.Marks.{Mark, plain, order, is_said}

abbrev pub directive_sign : Directive → Sign
directive_sign (Begin kind) = begins
directive_sign End = ends
directive_sign (Part leaf want) = part
directive_sign Wrong = wrong

-- an empty line makes no part
abbrev pub text_sign : Bool → Sign
text_sign said = if said then part else Nothing

-- what a line is to the multipart around it
abbrev pub sign_of : Mark → Sign
sign_of (plain line) = text_sign (is_said line)
sign_of (order directive) = directive_sign directive

-- how many multiparts that are open before these lines end among them
unfoldable pub ends_in : List Sign → ℕ
ends_in [] = 0
ends_in (Nothing ∷ more) = ends_in more
ends_in (part ∷ more) = ends_in more
ends_in (begins ∷ more) = ends_in more - 1
ends_in (ends ∷ more) = ends_in more + 1
ends_in (wrong ∷ more) = ends_in more

-- no part begins before the next end of a multipart
unfoldable pub is_bare : List Sign → Bool
is_bare [] = true
is_bare (Nothing ∷ more) = is_bare more
is_bare (part ∷ more) = false
is_bare (begins ∷ more) = false
is_bare (ends ∷ more) = true
is_bare (wrong ∷ more) = is_bare more

-- a line is wrong by itself, or it begins a multipart that no line among those behind it ends, or that has no part
abbrev pub is_wrong : Sign → List Sign → Bool
is_wrong wrong more = true
is_wrong begins more = ends_in more == 0 || is_bare more
is_wrong ends more = false
is_wrong part more = false
is_wrong Nothing more = false

-- how many lines stand before the first wrong one
unfoldable pub first_wrong : List Sign → Option ℕ
first_wrong [] = None
first_wrong (sign ∷ more) = if is_wrong sign more then Some 0 else option_map (λ n. n + 1) (first_wrong more)
