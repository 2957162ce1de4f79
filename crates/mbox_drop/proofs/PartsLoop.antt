-- The loop that cuts the parts of a piece.
use Rattle.std.proofs.Common.{◌≡◌, ℕ, List, [], ◌∷◌, ◌++◌, length, take, Option, Some, None, refl, sym, ap, ◌∙◌}
use Rattle.std.specs.Option.{option_or}
use Rattle.std.proofs.lemmas.List.{append-nil}
use Rattle.mbox_drop.specs.Long.{first_long, long_of}
use Rattle.mbox_drop.specs.Readings.{at, read}
use Rattle.mbox_drop.specs.Parting.{opened_reading, IsWhole, IsOpen, AreParts}
use Rattle.mbox_drop.proofs.Counts.{first_long-push, option_or-option_or}
use Rattle.mbox_drop.proofs.Slicing.{after, read-after}
use Rattle.mbox_drop.specs.declared.place.DropState.TheVariants.{Separator}
use Rattle.mbox_drop.specs.declared.parts.Parts.{Parts}

-- the parts so far, and the bytes that are left
pub record IsParting (first : ℕ) (bytes left : List ℕ) (items : List (List ℕ)) (long : Option ℕ) : Type 0 where
  pub given : List (List ℕ)
  pub messages : items ≡ [] ∷ given
  pub long_is : long ≡ option_or (long_of first) (first_long given)
  pub reads : read opened_reading bytes ≡ read (at given [] [] Separator) left

option_or-none : (o : Option ℕ) → o ≡ option_or o None
option_or-none None = refl
option_or-none (Some n) = refl

pub parting_none : (first : ℕ) (bytes : List ℕ) → IsParting first bytes bytes ([] ∷ []) (long_of first)
parting_none first bytes = record { given = []; messages = refl; long_is = option_or-none (long_of first); reads = refl }

-- the rest after messages that were given before
read-given : (given : List (List ℕ)) (left : List ℕ) → read (at given [] [] Separator) left ≡ after given (read opened_reading left)
read-given given left = ap (λ x. read (at x [] [] Separator) left) (sym (append-nil given)) ∙ read-after left given opened_reading

pub parting_more : (first : ℕ) (bytes left : List ℕ) (items : List (List ℕ)) (long : Option ℕ) (message rest : List ℕ) →
    IsParting first bytes left items long → IsWhole left message rest → IsParting first bytes rest (items ++ message ∷ []) (option_or long (long_of (length message)))
parting_more first bytes left items long message rest p w = record {
  given = p.given ++ message ∷ [];
  messages = ap (λ x. x ++ message ∷ []) p.messages;
  long_is = ap (λ o. option_or o (long_of (length message))) p.long_is
      ∙ sym (option_or-option_or (long_of first) (first_long p.given) (long_of (length message)))
      ∙ ap (λ o. option_or (long_of first) o) (sym (first_long-push p.given message));
  reads = p.reads ∙ read-given p.given left ∙ ap (λ s. after p.given s) w.reads ∙ sym (read-after rest p.given (at (message ∷ []) [] [] Separator));
}

pub parting_all : (first : ℕ) (bytes left : List ℕ) (p : Parts) → IsParting first bytes left p.messages.items p.long → IsOpen left p.text.now p.place p.body → AreParts first bytes p
parting_all first bytes left p k w = record {
  given = k.given;
  messages = k.messages;
  long = k.long_is;
  reads = k.reads ∙ read-given k.given left ∙ ap (λ s. after k.given s) w.reads ∙ ap (λ x. at x p.text.now (take p.body p.text.now) p.place) (append-nil k.given);
  inside = w.inside;
}
