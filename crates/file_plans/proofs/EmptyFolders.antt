-- Folders that have no message.
use Rattle.std.proofs.Common.{if◌then◌else◌, Bool, List, None, Option, Some, false, refl, true, ℕ, ◌≡◌}
use Rattle.file_plans.specs.Mailboxes.{is_message_number, numbered}

pub numbered_none : (n : ℕ) (o : Option (List ℕ)) → o ≡ None → numbered n o ≡ None
numbered_none n None e = go (is_message_number n)
  where
    go : (b : Bool) → ◌≡◌ {A = Option (List ℕ)} (if b then None else None) None
    go true = refl
    go false = refl
numbered_none n (Some x) e = cc (e)
