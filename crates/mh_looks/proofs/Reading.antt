-- A text that is read, by names and bytes: alone what stands there, beside others what stood there at first and was not yet seen.
use Rattle.std.proofs.Common.{◌≡◌, ℕ, Bool, true, false, List, [], Option, Some, None, Result, Ok, Err, length, refl, ap, subst}
use Rattle.std.specs.Prelude.{nat_lt, if◌then◌else◌}
use Rattle.folder_files.specs.Steps.{read_file_answer}
use Rattle.folder_files.specs.declared.place.Place.{Place}
use Rattle.folder_files.specs.declared.step.Step.TheVariants as step
use Rattle.folder_files.specs.declared.step.Answer.{Answer}
use Rattle.folder_files.specs.declared.step.Answer.TheVariants as answer
use Rattle.file_plans.specs.Giving.{Gives}
use Rattle.file_plans.specs.Plan.{Hand, bind, ◌>>=◌}
use Rattle.file_plans.specs.Views.{Unseen, Known, View, with_sight, ReadTells, fits_view, by_view}
use Rattle.file_plans.proofs.Viewing.{read_view}
use Rattle.step_plans.specs.CommandFaults.{of_stop}
use Rattle.step_plans.specs.ContextCommit.{LIMIT_BYTES}
use Rattle.step_plans.specs.declared.command_fault.CommandFault.{CommandFault}
use Rattle.command_stages.specs.Texts.{too_large, text_by, text_read}
use Rattle.command_stages.specs.Works.{readable}

-- after a Read only what was seen has changed
abbrev pub after_read : View → Place → List ℕ → View
after_read v p n = record { contents = v.contents; seen = with_sight v.seen p n Known; numbers = v.numbers; met = v.met }

-- the answer is what stands there
pub tells_text : (alone : Bool) (v : View) (p : Place) (n : List ℕ) (limit : ℕ) (a : Answer) → (alone ≡ false → v.seen.names p n ≡ Unseen) → fits_view alone v (step.Read p n limit) a → a ≡ read_file_answer limit (v.contents.texts p n)
tells_text true v p n limit a unseen f = f.0
tells_text false v p n limit a unseen f = subst (λ s. ReadTells s (v.contents.texts p n) limit a) (unseen refl) f.0

content_reads : (o : Option (List ℕ)) (b : List ℕ) → answer.Content b ≡ read_file_answer LIMIT_BYTES o → Ok b ≡ readable o
content_reads None b e = cc
content_reads (Some text) b e = go (nat_lt LIMIT_BYTES (length text)) e
  where
    go : (v : Bool) → answer.Content b ≡ (if v then answer.Long (length text) else answer.Content text) → Ok b ≡ (if v then Err (too_large (length text)) else Ok text)
    go true e = cc
    go false e = let same : b ≡ text = cc in ap (λ z. Ok z) same

long_reads : (o : Option (List ℕ)) (l : ℕ) → answer.Long l ≡ read_file_answer LIMIT_BYTES o → Err (too_large l) ≡ readable o
long_reads None l e = cc
long_reads (Some text) l e = go (nat_lt LIMIT_BYTES (length text)) e
  where
    go : (v : Bool) → answer.Long l ≡ (if v then answer.Long (length text) else answer.Content text) → Err (too_large l) ≡ (if v then Err (too_large (length text)) else Ok text)
    go true e = let same : l ≡ length text = cc in ap (λ z. Err (too_large z)) same
    go false e = cc

gone_reads : (o : Option (List ℕ)) → answer.Gone ≡ read_file_answer LIMIT_BYTES o → Ok [] ≡ readable o
gone_reads None e = refl
gone_reads (Some text) e = go (nat_lt LIMIT_BYTES (length text)) e
  where
    go : (v : Bool) → answer.Gone ≡ (if v then answer.Long (length text) else answer.Content text) → Ok [] ≡ (if v then Err (too_large (length text)) else Ok text)
    go true e = cc
    go false e = cc

-- what holds after a text was read
pub record TextRead (v : View) (p : Place) (n : List ℕ) (h : Hand) (text : List ℕ) (z : View) (j : Hand) (left : List ℕ) (r : Result (List ℕ) CommandFault) : Type 0 where
  pub view : z ≡ after_read v p n
  pub hand : j ≡ h
  pub rest : left ≡ text
  pub value : r ≡ readable (v.contents.texts p n)

pub text_gives : (alone : Bool) (v : View) (p : Place) (n : List ℕ) (h : Hand) (text : List ℕ) → (alone ≡ false → v.seen.names p n ≡ Unseen) → Gives (by_view alone) v h text (text_read p n) (TextRead v p n h text)
unfolding Gives text_read bind ◌>>=◌
text_gives alone v p n h text unseen =
    read_view alone v of_stop h text (TextRead v p n h text) p n LIMIT_BYTES text_by
    (λ b f. record { view = refl; hand = refl; rest = refl; value = content_reads (v.contents.texts p n) b (tells_text alone v p n LIMIT_BYTES (answer.Content b) unseen f) })
    (λ l f. record { view = refl; hand = refl; rest = refl; value = long_reads (v.contents.texts p n) l (tells_text alone v p n LIMIT_BYTES (answer.Long l) unseen f) })
    (λ f. record { view = refl; hand = refl; rest = refl; value = gone_reads (v.contents.texts p n) (tells_text alone v p n LIMIT_BYTES answer.Gone unseen f) })
