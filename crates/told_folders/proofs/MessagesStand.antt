-- Messages of a folder that stand in its contents, and that words choose only such.
use Rattle.std.proofs.Common.{◌≡◌, ◌∷◌, [], ℕ, Bool, true, false, List, Option, Some, None, Ok, length, refl, ◌∙◌}
use Rattle.std.specs.Prelude.{decimal, is_some, nat_lt, if◌then◌else◌}
use Rattle.mh_base.specs.Entries.{entry_text}
use Rattle.mh_sequences.specs.Runs.{numbers_of}
use Rattle.mh_sequences.specs.Sequences.{Marked}
use Rattle.msg_ranges.specs.Selection.{marks_of}
use Rattle.msg_ranges.proofs.Rising.{lists, first_listed, other_listed}
use Rattle.folder_files.specs.Deeds.{Deed, did}
use Rattle.folder_files.specs.Steps.{read_file_answer}
use Rattle.folder_files.specs.declared.place.Place.{Place}
use Rattle.folder_files.specs.declared.step.Answer.{Answer}
use Rattle.folder_files.specs.declared.step.Answer.TheVariants as answer
use Rattle.folder_files.specs.declared.step.Step.TheVariants as step
use Rattle.file_plans.specs.Contents.{Contents, folder_at}
use Rattle.file_plans.specs.Mailboxes.{is_message_number}
use Rattle.file_plans.specs.Sightings.{has_number}
use Rattle.step_plans.specs.ContextCommit.{LIMIT_BYTES}
use Rattle.command_stages.specs.Chosen.{chosen_in, folder_with}
use Rattle.mh_looks.proofs.Ending.{name_of}
use Rattle.mh_looks.proofs.Folders.{Tells, messages_listed}
use Rattle.opening_plans.proofs.ChosenListed.{has_tested, words_listed}
use Rattle.told_folders.specs.Tasks.{listed_runs}

-- a message that stands in the contents
pub record Stands (c : Contents) (place : Place) (n : ℕ) : Type 0 where
  pub number : is_message_number n ≡ true
  pub text : List ℕ
  pub there : c.texts place (decimal n) ≡ Some text

abbrev pub AllStand : Contents → Place → List ℕ → Type 0
AllStand c place [] = Unit {0}
AllStand c place (n ∷ ns) = Stands c place n × AllStand c place ns

-- so does each that the folder has
stands_of : (c : Contents) (q : Place) (n : ℕ) → is_some ((folder_at c q).messages n) ≡ true → Stands c q n
unfolding entry_text
stands_of c q n e = let w = within (is_message_number n) (c.texts q (decimal n)) e in record { number = w.0; text = w.1.0; there = w.1.1 }
  where
    within : (b : Bool) (o : Option (List ℕ)) → is_some (if b then o else None) ≡ true → (b ≡ true) × ((t : List ℕ) × (o ≡ Some t))
    within true (Some t) e = (refl, (t, refl))
    within true None e = cc (e)
    within false o e = cc (e)

pub all_stand : (c : Contents) (q : Place) (numbers : List ℕ) → ((n : ℕ) → lists numbers n ≡ true → is_some ((folder_at c q).messages n) ≡ true) → AllStand c q numbers
all_stand c q [] f = tt
all_stand c q (n ∷ numbers) f = (stands_of c q n (f n (first_listed n numbers)), all_stand c q numbers (λ k e. f k (other_listed n k numbers e)))

-- and those that words choose of a listing
pub words_stand : (c : Contents) (q : Place) (names : List (List ℕ)) → Tells c q names → (negation : List ℕ) (m : Marked) (words : List (List ℕ)) (numbers : List ℕ) → chosen_in (folder_with negation (numbers_of (listed_runs names)) (marks_of m)) words ≡ Ok numbers
    → AllStand c q numbers
words_stand c q names t negation m words numbers is = all_stand c q numbers (λ n e. messages_listed c q names t n ∙ has_tested (λ k. has_number k names) n (words_listed negation (listed_runs names) m words numbers is n e))

-- what an answer says of a message that is there
abbrev pub Says : List ℕ → Answer → Type 0
Says b (answer.Content bytes) = (bytes ≡ b) × (nat_lt LIMIT_BYTES (length b) ≡ false)
Says b (answer.Long l) = (l ≡ length b) × (nat_lt LIMIT_BYTES (length b) ≡ true)
Says b answer.Gone = ⊥
Says b answer.Done = Unit {0}
Says b (answer.Names names) = Unit {0}
Says b (answer.Piece bytes l) = Unit {0}
Says b answer.Exists = Unit {0}
Says b answer.Busy = Unit {0}
Says b answer.Grown = Unit {0}
Says b answer.Failed = Unit {0}

pub says_it : (b : List ℕ) (a : Answer) → a ≡ read_file_answer LIMIT_BYTES (Some b) → Says b a
says_it b a e = go (nat_lt LIMIT_BYTES (length b)) refl e
  where
    go : (v : Bool) → nat_lt LIMIT_BYTES (length b) ≡ v → a ≡ (if v then answer.Long (length b) else answer.Content b) → Says b a
    go true long is = rw is (refl, long)
    go false short is = rw is (refl, short)

abbrev pub reading : Place → ℕ → Answer → Deed
reading place n a = did (step.Read place (name_of n) LIMIT_BYTES) a
