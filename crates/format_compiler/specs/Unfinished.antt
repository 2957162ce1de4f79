-- Texts that end within a function's name, or within a number, that none begins with. 32 is a space, 37 a percent sign,
-- 40 a parenthesis, 48 a zero, 60 an angle bracket and 63 a question mark.
use Rattle.std.specs.Prelude.{◌≡◌, ℕ, ◌&&◌, ◌||◌, not, Bool, true, false, List, [], ◌∷◌, ◌++◌, length, take, drop, is_some, bytes_eq, Ok, if◌then◌else◌}
use Rattle.std.specs.List.{prefix_len}
use Rattle.format_compiler.specs.declared.function.ArgumentKind.TheVariants.{Number as TakesNumber}
use Rattle.format_compiler.specs.declared.function.Function.{Function}
use Rattle.format_compiler.specs.Arguments.{is_literal, number_of}
use Rattle.format_compiler.specs.Calls.{Around, front_in, function_in, is_in_name}
use Rattle.format_compiler.specs.Functions.{every_function, has_result, kind_of, name_of}
use Rattle.mh_base.specs.Characters.{is_digit}

-- all of a text are such characters
abbrev pub IsAll : (ℕ → Bool) → List ℕ → Type 0
IsAll p text = drop (prefix_len p text) text ≡ []

-- this function's name begins so, and in a test it has a result
abbrev pub is_begun_by : Bool → List ℕ → Function → Bool
is_begun_by in_test name f = bytes_eq (take (length name) (name_of f)) name && not (in_test && not (has_result f))

abbrev pub begins_name_among : Bool → List ℕ → List Function → Bool
begins_name_among in_test name [] = false
begins_name_among in_test name (f ∷ fs) = if is_begun_by in_test name f then true else begins_name_among in_test name fs

-- some function's name begins so
abbrev pub begins_name : Bool → List ℕ → Bool
begins_name in_test name = begins_name_among in_test name every_function

-- a number begins so: it is one, or one with a zero behind it
abbrev pub begins_number : List ℕ → Bool
begins_number literal = is_some (number_of literal) || is_some (number_of (literal ++ 48 ∷ []))

-- what stands behind an opening parenthesis ends within a function's name, or a number, that none begins with: of the
-- call, or of a function in it
pub data CallEndsInNone : Bool → List ℕ → Type 0 where
  in_name : {in_test : Bool} {name : List ℕ} → IsAll is_in_name name → begins_name in_test name ≡ false
      → CallEndsInNone in_test name
  in_number : {in_test : Bool} {text literal : List ℕ} {f : Function} → function_in in_test text ≡ Ok (f, 32 ∷ literal)
      → kind_of f ≡ TakesNumber
      → IsAll is_literal literal → begins_number literal ≡ false → CallEndsInNone in_test text
  in_argument : {in_test : Bool} {text whole inner : List ℕ} {f : Function}
      → front_in in_test text ≡ Ok (Around f whole, inner)
      → CallEndsInNone false inner → CallEndsInNone in_test text

-- the text is a word that ends so: behind a percent sign and a width, or behind `%<` or `%?`
pub data WordEndsInNone : List ℕ → Type 0 where
  printed : (digits inner : List ℕ) → IsAll is_digit digits → CallEndsInNone false inner
      → WordEndsInNone (37 ∷ (digits ++ 40 ∷ inner))
  if_test : {inner : List ℕ} → CallEndsInNone true inner → WordEndsInNone (37 ∷ (60 ∷ (40 ∷ inner)))
  else_if_test : {inner : List ℕ} → CallEndsInNone true inner → WordEndsInNone (37 ∷ (63 ∷ (40 ∷ inner)))
