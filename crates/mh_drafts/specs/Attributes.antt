-- The attributes of a directive's type.
use Rattle.std.specs.Prelude.{ℕ, zero, suc, List, [], ◌∷◌, length, Option, Some, None, option_map, option_and_then, if◌then◌else◌}
use Rattle.mime_tree.specs.Tokens.{Taken, token_in, worth_in, unprotected}
use Rattle.mh_drafts.specs.declared.label.Attribute.{Attribute}
use Rattle.mh_drafts.specs.Blanks.{behind_blanks, behind_byte, behind_word, is_led}

-- an attribute and what follows it
pub record TakenAttribute : Type 0 where
  pub attribute : Attribute
  pub rest : List ℕ

-- attributes and what follows them
pub record TakenAttributes : Type 0 where
  pub attributes : List Attribute
  pub rest : List ℕ

abbrev pub attribute_with : List ℕ → List ℕ → List ℕ → TakenAttribute
attribute_with name value rest = record { attribute = record { name = name; value = unprotected value }; rest = rest }

-- a name and a value, behind which the attribute ends
abbrev pub valued_in : Taken → Taken → Option TakenAttribute
valued_in name value = option_map (attribute_with name.value value.value) (behind_word value.rest)

-- a name, an equals sign, and a token or a quoted string
abbrev pub named_in : Taken → Option TakenAttribute
named_in name = option_and_then (valued_in name) (option_and_then worth_in (behind_byte 61 name.rest))

-- the attribute at the front, with the semicolon before it
abbrev pub attribute_in : List ℕ → Option TakenAttribute
attribute_in text =
    option_and_then named_in (option_and_then (λ rest. token_in (behind_blanks rest)) (behind_byte 59 text))

abbrev pub led : TakenAttribute → TakenAttributes → TakenAttributes
led a more = record { attributes = a.attribute ∷ more.attributes; rest = more.rest }

abbrev pub with_attribute : Option TakenAttribute → (List ℕ → Option TakenAttributes) → Option TakenAttributes
with_attribute None more = None
with_attribute (Some a) more = option_map (led a) (more a.rest)

-- the attributes at the front, of which there are at most so many: none where one of them is malformed
abbrev pub attributes_up_to : ℕ → List ℕ → Option TakenAttributes
attributes_up_to zero text = Some (record { attributes = []; rest = text })
attributes_up_to (suc n) text =
    if is_led 59 text then with_attribute (attribute_in text) (attributes_up_to n)
    else Some (record { attributes = []; rest = text })

-- all attributes at the front, and what follows them
unfoldable pub attributes_in : List ℕ → Option TakenAttributes
attributes_in text = attributes_up_to (length text) text
