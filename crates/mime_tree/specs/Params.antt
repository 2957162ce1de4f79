-- The parameters of a content type (RFC 2045, section 5.1).
use Rattle.std.specs.Prelude.{ℕ, zero, suc, List, [], ◌∷◌, length, Option, Some, None, option_map, option_and_then}
use Rattle.mail_text.specs.ShownBytes.{shown}
use Rattle.mime_tree.specs.declared.param.Param.{Param}
use Rattle.mime_tree.specs.Tokens.{Taken, worth_in, unprotected, with_gap, behind_sign, word_in}

-- a parameter and what follows it
pub record TakenParam : Type 0 where
  pub param : Param
  pub rest : List ℕ

-- the parameter of this name, and with this value in front
abbrev pub param_named : List ℕ → Taken → TakenParam
param_named name value =
    record { param = record { name = shown name; value = shown (unprotected value.value) }; rest = value.rest }

-- a name, an equals sign, and a token or a quoted string
abbrev pub named_in : Taken → Option TakenParam
named_in name =
    option_map (param_named name.value)
    (option_and_then (λ value. option_and_then with_gap (worth_in value)) (behind_sign 61 name.rest))

-- the parameter at the front, with the semicolon before it
abbrev pub param_in : List ℕ → Option TakenParam
param_in text = option_and_then named_in (option_and_then word_in (behind_sign 59 text))

abbrev pub with_param : Option TakenParam → (List ℕ → Option (List Param)) → Option (List Param)
with_param None more = None
with_param (Some t) more = option_map (λ params. t.param ∷ params) (more t.rest)

-- the parameters that a text is, of which there are at most so many
abbrev pub params_up_to : ℕ → List ℕ → Option (List Param)
params_up_to n [] = Some []
params_up_to zero (c ∷ text) = None
params_up_to (suc n) (c ∷ text) = with_param (param_in (c ∷ text)) (params_up_to n)

-- the parameters that a text is, in order; none where one of them is malformed
unfoldable pub params_in : List ℕ → Option (List Param)
params_in text = params_up_to (length text) text
