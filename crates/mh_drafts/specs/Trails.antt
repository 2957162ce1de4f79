-- What stands before and behind the attributes of a directive.
use Rattle.std.specs.Prelude.{ℕ, List, Option, option_map, option_and_then}
use Rattle.mime_tree.specs.Tokens.{Taken, token_in}
use Rattle.mh_drafts.specs.Blanks.{behind_byte, behind_word}
use Rattle.mh_drafts.specs.Enclosed.{TakenEnclosed, comment_in, enclosed_in}

-- a type and its subtype, and what follows them
pub record TakenHeading : Type 0 where
  pub kind : List ℕ
  pub subtype : List ℕ
  pub rest : List ℕ

abbrev pub heading_with : List ℕ → List ℕ → List ℕ → TakenHeading
heading_with kind subtype rest = record { kind = kind; subtype = subtype; rest = rest }

-- a type and a subtype, which ends here
abbrev pub slashed_in : Taken → Taken → Option TakenHeading
slashed_in kind subtype = option_map (heading_with kind.value subtype.value) (behind_word subtype.rest)

-- the type at the front: a token, a slash and a token
abbrev pub behind_kind : Taken → Option TakenHeading
behind_kind kind = option_and_then (slashed_in kind) (option_and_then token_in (behind_byte 47 kind.rest))

abbrev pub heading_in : List ℕ → Option TakenHeading
heading_in text = option_and_then behind_kind (token_in text)

-- what stands behind the attributes
pub record TakenTrail : Type 0 where
  pub comment : Option (List ℕ)
  pub id : Option (List ℕ)
  pub description : Option (List ℕ)
  pub disposition : Option (List ℕ)
  pub file : List ℕ

abbrev pub trail_with : TakenEnclosed → TakenEnclosed → TakenEnclosed → TakenEnclosed → TakenTrail
trail_with comment id description disposition = record {
  comment = comment.inside;
  id = id.inside;
  description = description.inside;
  disposition = disposition.inside;
  file = disposition.rest;
}

-- `(comment) <id> [description] {disposition} file`, all but the file optional and in this order
abbrev pub trail_in : List ℕ → Option TakenTrail
trail_in text =
    option_and_then
    (λ comment.
    option_and_then
    (λ id.
    option_and_then
    (λ description. option_map (trail_with comment id description) (enclosed_in 123 125 description.rest))
    (enclosed_in 91 93 id.rest))
    (enclosed_in 60 62 comment.rest))
    (comment_in text)
