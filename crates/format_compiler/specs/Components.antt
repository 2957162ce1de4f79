-- The names of components, as they are written.
use Rattle.std.specs.Prelude.{ℕ, ◌==◌, ◌&&◌, not, Bool, nat_le, List, [], ◌∷◌, take, drop, Ok, Err, if◌then◌else◌}
use Rattle.std.specs.List.{prefix_len}
use Rattle.format_compiler.specs.Reading.{Read}

-- a character of a header field's name (RFC 5322, section 3.6.8) but the brace that ends a component, 125
abbrev pub is_name_character : ℕ → Bool
is_name_character c = nat_le 33 c && nat_le c 126 && not (c == 58) && not (c == 125)

-- a name, and its brace at the front of what stands behind it
abbrev pub braced : List ℕ → List ℕ → List ℕ → Read (List ℕ)
braced whole name [] = Err []
braced whole [] (c ∷ behind) = Err whole
braced whole (n ∷ name) (c ∷ behind) = if c == 125 then Ok (n ∷ name, behind) else Err whole

-- the component's name that stands behind an opening brace; where it is wrong, all of it is, from where it began
abbrev pub component_in : List ℕ → List ℕ → Read (List ℕ)
component_in whole text =
    braced whole (take (prefix_len is_name_character text) text) (drop (prefix_len is_name_character text) text)
