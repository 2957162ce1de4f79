-- What stands between brackets in a directive.
use Rattle.std.specs.Prelude.{ℕ, ◌+◌, ◌==◌, not, false, nat_lt, List, length, take, drop, Option, Some, None, option_map, if◌then◌else◌}
use Rattle.std.specs.List.{prefix_len}
use Rattle.mh_drafts.specs.Blanks.{behind_blanks, behind_byte}
use Rattle.mh_drafts.specs.Comments.{comment_end}

-- what stands between brackets, where these stand, and what follows them
pub record TakenEnclosed : Type 0 where
  pub inside : Option (List ℕ)
  pub rest : List ℕ

-- the first place of a byte
abbrev pub byte_place : ℕ → List ℕ → Option ℕ
byte_place byte text =
    let len = prefix_len (λ b. not (b == byte)) text in if nat_lt len (length text) then Some len else None

-- behind the bracket that closes, and behind blanks
abbrev pub closed_at : List ℕ → ℕ → TakenEnclosed
closed_at text place = record { inside = Some (take place text); rest = behind_blanks (drop (place + 1) text) }

-- what follows the opening bracket, where one stands, is closed at the place that is found; nothing where none is
abbrev pub opened_in : (List ℕ → Option ℕ) → List ℕ → Option (List ℕ) → Option TakenEnclosed
opened_in find text None = Some (record { inside = None; rest = text })
opened_in find text (Some inside) = option_map (closed_at inside) (find inside)

-- what stands between these brackets at the front: up to the first one that closes
abbrev pub enclosed_in : ℕ → ℕ → List ℕ → Option TakenEnclosed
enclosed_in first last text = opened_in (byte_place last) text (behind_byte first text)

-- the comment at the front
abbrev pub comment_in : List ℕ → Option TakenEnclosed
comment_in text = opened_in (comment_end 0 false) text (behind_byte 40 text)
