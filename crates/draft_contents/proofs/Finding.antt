-- A part of a plan that only looks: alone it has the value that is said of it, and changes nothing.
use Rattle.std.proofs.Common.{◌≡◌, ℕ, Bool, true, false, List, Option, Some, None, Result, Ok, Err, length, refl, sym, ap, subst}
use Rattle.std.specs.Prelude.{nat_lt, if◌then◌else◌}
use Rattle.folder_files.specs.Steps.{read_file_answer}
use Rattle.folder_files.specs.declared.refusal.Refusal.TheVariants as refusal
use Rattle.folder_files.specs.declared.step.Answer.TheVariants as answer
use Rattle.file_plans.specs.Contents.{Contents}
use Rattle.file_plans.specs.Giving.{Gives}
use Rattle.file_plans.specs.Plan.{Hand, Return, ◌>>=◌}
use Rattle.file_plans.specs.Views.{View, by_view}
use Rattle.file_plans.proofs.Giving.{gives_on}
use Rattle.file_plans.proofs.Onward.{Is}
use Rattle.step_plans.specs.ContextCommit.{LIMIT_BYTES}
use Rattle.step_plans.specs.declared.command_fault.CommandFault.{CommandFault}
use Rattle.step_plans.proofs.Refusals.{IsRefusal}
use Rattle.command_stages.specs.Texts.{Commanded, too_large}
use Rattle.draft_files.specs.Limits.{within_limit}
use Rattle.draft_contents.specs.Found.{and_then, present}

abbrev pub IsRefusing : {A : Type 0} → Result A CommandFault → Type 0
IsRefusing (Ok a) = Unit {0}
IsRefusing (Err e) = IsRefusal e

abbrev pub Numbered : {A : Type 0} → List ℕ → View → Result A CommandFault → Type 0
Numbered ns z (Ok a) = z.numbers ≡ ns
Numbered ns z (Err e) = Unit {0}

pub record Finds {A : Type 0} (ns : List ℕ) (c : Contents) (h : Hand) (text : List ℕ) (v : Result A CommandFault) (z : View) (j : Hand) (left : List ℕ) (r : Result A CommandFault) : Type 0 where
  pub contents : z.contents ≡ c
  pub numbers : Numbered ns z r
  pub hand : j ≡ h
  pub rest : left ≡ text
  pub value : r ≡ v
  pub refused : IsRefusing r

numbered : {A : Type 0} (ns : List ℕ) (z : View) (r : Result A CommandFault) → z.numbers ≡ ns → Numbered ns z r
numbered ns z (Ok a) e = e
numbered ns z (Err x) e = tt

module _ (ns : List ℕ) (c : Contents) (h : Hand) (text : List ℕ) where
  pub found_so : {A : Type 0} (v : Result A CommandFault) (z : View) (r : Result A CommandFault) → Is true ns z c → r ≡ v → IsRefusing r → Finds ns c h text v z h text r
  found_so v z r is value refused = record { contents = is.0 refl; numbers = numbered ns z r is.1; hand = refl; rest = refl; value = value; refused = refused }

  -- one part, and the next by what it found
  pub finds_then : {A B : Type 0} (v : Result A CommandFault) (next : A → Result B CommandFault) (z : View) (p : Commanded A) (k : A → Commanded B) → Gives (by_view true) z h text p (Finds ns c h text v)
      → ((y : View) (a : A) → v ≡ Ok a → Is true ns y c → Gives (by_view true) y h text (k a) (Finds ns c h text (next a))) → Gives (by_view true) z h text (p >>= k) (Finds ns c h text (and_then v next))
  finds_then v next z p k f g =
      gives_on (by_view true) z h text p k (Finds ns c h text v) (Finds ns c h text (and_then v next)) f
      (λ y j left a q. rw (q.hand, q.rest) (subst (λ w. Gives (by_view true) y h text (k a) (Finds ns c h text (and_then w next))) q.value (g y a (sym q.value) ((λ e. q.contents), q.numbers))))
      (λ y j left e q. record { contents = q.contents; numbers = tt; hand = q.hand; rest = q.rest; value = ap (λ w. and_then w next) q.value; refused = q.refused })

  -- a value that is known
  pub finds_value : {A : Type 0} (v : Result A CommandFault) (z : View) → IsRefusing v → Is true ns z c → Gives (by_view true) z h text (Return v) (Finds ns c h text v)
  unfolding Gives
  finds_value v z refused is = found_so v z v is refl refused

-- a text that is within the limit, or refused
pub limit_refuses : (text : List ℕ) → IsRefusing (within_limit text)
limit_refuses text = go (nat_lt LIMIT_BYTES (length text))
  where
    go : (b : Bool) → IsRefusing (if b then Err (too_large (length text)) else Ok text)
    go true = (refusal.TooLarge (length text) LIMIT_BYTES, refl)
    go false = tt

-- what a reading is answered, where the text must be there
pub content_found : (missing : CommandFault) (o : Option (List ℕ)) (b : List ℕ) → answer.Content b ≡ read_file_answer LIMIT_BYTES o → Ok b ≡ present missing o
content_found missing None b e = cc (e)
content_found missing (Some text) b e = go (nat_lt LIMIT_BYTES (length text)) e
  where
    go : (v : Bool) → answer.Content b ≡ (if v then answer.Long (length text) else answer.Content text) → Ok b ≡ (if v then Err (too_large (length text)) else Ok text)
    go true e = cc (e)
    go false e = let same : b ≡ text = cc in ap (λ z. Ok z) same

pub long_found : (missing : CommandFault) (o : Option (List ℕ)) (l : ℕ) → answer.Long l ≡ read_file_answer LIMIT_BYTES o → Err (too_large l) ≡ present missing o
long_found missing None l e = cc (e)
long_found missing (Some text) l e = go (nat_lt LIMIT_BYTES (length text)) e
  where
    go : (v : Bool) → answer.Long l ≡ (if v then answer.Long (length text) else answer.Content text) → Err (too_large l) ≡ (if v then Err (too_large (length text)) else Ok text)
    go true e = let same : l ≡ length text = cc in ap (λ z. Err (too_large z)) same
    go false e = cc (e)

pub gone_found : (missing : CommandFault) (o : Option (List ℕ)) → answer.Gone ≡ read_file_answer LIMIT_BYTES o → Err missing ≡ present missing o
gone_found missing None e = refl
gone_found missing (Some text) e = go (nat_lt LIMIT_BYTES (length text)) e
  where
    go : (v : Bool) → answer.Gone ≡ (if v then answer.Long (length text) else answer.Content text) → Err missing ≡ (if v then Err (too_large (length text)) else Ok text)
    go true e = cc (e)
    go false e = cc (e)
