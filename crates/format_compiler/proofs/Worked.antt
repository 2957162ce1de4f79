-- Words of formats, worked out by hand.
use Rattle.std.proofs.Common.{◌≡◌, [], ◌∷◌, true, false, Some, None, Ok, Err, codes, refl}
use Rattle.format_compiler.specs.declared.argument.Argument.TheVariants.{Nothing, Literal, Component}
use Rattle.format_compiler.specs.declared.function.Function.TheVariants.{Msg, Mon, Decode, Friendly, Lit}
use Rattle.format_compiler.specs.declared.one_test.Test.TheVariants.{Component as OfComponent}
use Rattle.format_compiler.specs.declared.piece.Piece.TheVariants.{Component as PrintComponent, Call}
use Rattle.format_compiler.specs.declared.word.Word.TheVariants.{Print, If}
use Rattle.format_compiler.specs.Calls.{call_in}
use Rattle.format_compiler.specs.Functions.{every_function}
use Rattle.format_compiler.specs.Unfinished.{begins_name, begins_number}
use Rattle.format_compiler.specs.Words.{word_in}

-- an unknown name is wrong at its first byte
no_function : word_in [] (codes "%(nofun)") ≡ Err (codes "nofun)")
unfolding word_in call_in every_function
no_function = refl

message_number : word_in [] (codes "%3(msg) x") ≡ Ok (Print (Call (Some (record { columns = 3; zeros = false })) (record { function = Msg; argument = Nothing; around = [] })), codes " x")
unfolding word_in call_in every_function
message_number = refl

month : word_in [] (codes "%02(mon{date})/") ≡ Ok (Print (Call (Some (record { columns = 2; zeros = true })) (record { function = Mon; argument = Component (codes "date"); around = [] })), codes "/")
unfolding word_in call_in every_function
month = refl

sender : word_in [] (codes "%17(decode(friendly{from}))  ") ≡ Ok (Print (Call (Some (record { columns = 17; zeros = false })) (record { function = Friendly; argument = Component (codes "from"); around = Decode ∷ [] })), codes "  ")
unfolding word_in call_in every_function
sender = refl

replied : word_in [] (codes "%<{replied}-") ≡ Ok (If (OfComponent (codes "replied")), codes "-")
unfolding word_in call_in every_function
replied = refl

body : word_in [] (codes "%{body}") ≡ Ok (Print (PrintComponent None (codes "body")), [])
unfolding word_in call_in every_function
body = refl

-- a literal runs to the parenthesis
literal : word_in [] (codes "%(lit {a})") ≡ Ok (Print (Call None (record { function = Lit; argument = Literal (codes "{a}"); around = [] })), [])
unfolding word_in call_in every_function
literal = refl

-- what ends no conditional is wrong
no_end : word_in [] (codes "%>x") ≡ Err (codes "%>x")
unfolding word_in
no_end = refl

-- a text ends inside a word
unfinished : word_in [] (codes "%(ms") ≡ Err []
unfolding word_in call_in every_function
unfinished = refl

-- and so does one within a name that no function's begins with, or within a number that is too large
unbegun : word_in [] (codes "%(nofu") ≡ Err []
unfolding word_in call_in every_function
unbegun = refl

too_large : word_in [] (codes "%(num 9223372036854775808") ≡ Err []
unfolding word_in call_in every_function
too_large = refl

name_begins : begins_name false (codes "voi") ≡ true
unfolding every_function
name_begins = refl

-- no function with a result is named so
no_name_begins : begins_name true (codes "voi") ≡ false
unfolding every_function
no_name_begins = refl

minus_begins : begins_number (codes "-") ≡ true
minus_begins = refl

no_number_begins : begins_number (codes "9223372036854775808") ≡ false
no_number_begins = refl
