-- What it gives alone that the rows of messages are said, one message after another.
use Rattle.std.proofs.Common.{◌≡◌, ◌++◌, ◌∷◌, [], ℕ, true, false, List, Option, Some, None, Result, Ok, Err, length, map, refl, sym, ◌∙◌, ap, subst, append_assoc}
use Rattle.std.specs.Prelude.{nat_lt, decimal, option_map}
use Rattle.mh_base.specs.Entries.{entry_text}
use Rattle.mh_base.specs.declared.entry.Entry.TheVariants.{Number}
use Rattle.folder_files.specs.Steps.{read_file_answer}
use Rattle.folder_files.specs.declared.place.Place.{Place}
use Rattle.folder_files.specs.declared.refusal.Refusal.TheVariants as refusal
use Rattle.folder_files.specs.declared.step.Answer.{Answer}
use Rattle.folder_files.specs.declared.step.Answer.TheVariants as answer
use Rattle.folder_files.specs.declared.step.Step.TheVariants as step
use Rattle.file_plans.specs.Contents.{Contents, folder_at}
use Rattle.file_plans.specs.Giving.{Gives}
use Rattle.file_plans.specs.Mailboxes.{is_message_number}
use Rattle.file_plans.specs.Plan.{Hand, bind, lifted, say, ◌>>=◌}
use Rattle.file_plans.specs.Views.{View, by_view, fits_view}
use Rattle.file_plans.proofs.Giving.{gives_more, gives_on}
use Rattle.file_plans.proofs.Onward.{Is}
use Rattle.file_plans.proofs.Viewing.{read_view}
use Rattle.step_plans.specs.CommandFaults.{of_stop}
use Rattle.step_plans.specs.ContextCommit.{LIMIT_BYTES}
use Rattle.step_plans.specs.declared.command_fault.CommandFault.{CommandFault}
use Rattle.step_plans.proofs.Refusals.{IsRefusal}
use Rattle.command_stages.specs.Texts.{too_large}
use Rattle.mh_looks.proofs.Reading.{after_read}
use Rattle.told_folders.proofs.MessagesStand.{AllStand, Stands, Says, says_it}
use Rattle.told_folders.specs.Outcomes.{joined}
use Rattle.told_folders.specs.Plans.{lines_said}
use Rattle.told_folders.specs.Tasks.{AreSome}
use Rattle.part_rows.specs.Choices.{first_missing, listed}
use Rattle.part_rows.specs.PartViews.{PartView, parts_of}
use Rattle.part_rows.specs.Rows.{columns_of_part, header, part_row, row_of, rows_of, without_spaces_behind}
use Rattle.std.specs.Str.{encode_utf8_all}
use Rattle.mhlist_plans.specs.Listing.{all_listed, listed_by, no_part, one_listed, rows_said, said_unless}
use Rattle.mhlist_plans.specs.ListOutcome.{first_of, first_refused, refused_text, rows_among, unless_refused}
use Rattle.mh_looks.specs.Outcomes.{text_of}

-- a line that ends in a line feed says something
pub ends_some : (a : List ℕ) → (a ++ 10 ∷ []) ≡ [] → ⊥
ends_some [] q = cc
ends_some (x ∷ a) q = cc

-- and so each row does
pub some_rows : (n : ℕ) (parts : List PartView) → AreSome (map (part_row n) parts)
some_rows n [] = tt
some_rows n (p ∷ parts) = (ends_some (without_spaces_behind (encode_utf8_all (row_of (columns_of_part n p)))), some_rows n parts)

pub header_some : header ≡ [] → ⊥
unfolding header
header_some e = ends_some _ e

-- lines are said, and the rest is left
abbrev pub Told : View → Hand → List ℕ → View → Hand → List ℕ → Result Unit CommandFault → Type 0
Told v h rest z j left r = (r ≡ Ok tt) × (z ≡ v) × (j ≡ h) × (left ≡ rest)

pub lines_then : (v : View) (h : Hand) (lines : List (List ℕ)) (rest : List ℕ) → AreSome lines → Gives (by_view true) v h (joined lines ++ rest) (lines_said lines) (Told v h rest)
unfolding Gives lines_said say lifted bind ◌>>=◌
lines_then v h [] rest f = (refl, refl, refl, refl)
lines_then v h (l ∷ ls) rest f = (f.0, (joined ls ++ rest, append_assoc l (joined ls) rest, lines_then v h ls rest f.1))

module _ (place : Place) (wanted : List (List ℕ)) (c : Contents) (ns : List ℕ) where
  abbrev pub messages : ℕ → Option (List ℕ)
  messages = (folder_at c place).messages

  message_text : (n : ℕ) (b : List ℕ) → is_message_number n ≡ true → c.texts place (decimal n) ≡ Some b → text_of messages n ≡ b
  unfolding entry_text
  message_text n b ok there = rw (ok, there) refl

  abbrev name_of : ℕ → List ℕ
  name_of n = entry_text (Number n)

  -- a message with this text is listed, and then this is left; or it is refused
  abbrev OneGiven : View → Hand → ℕ → List ℕ → List ℕ → View → Hand → List ℕ → Result Unit CommandFault → Type 0
  OneGiven z j n b rest y i left (Ok u) = (refused_text wanted b ≡ None) × (y ≡ after_read z place (name_of n)) × (i ≡ j) × (left ≡ rest)
  OneGiven z j n b rest y i left (Err e) = (refused_text wanted b ≡ Some e) × IsRefusal e × (y ≡ after_read z place (name_of n)) × (i ≡ j) × (left ≡ [])

  abbrev one_text : ℕ → List ℕ → List ℕ → List ℕ
  one_text n b rest = unless_refused (refused_text wanted b) (joined (rows_of n wanted b) ++ rest)

  short_text : (b : List ℕ) → nat_lt LIMIT_BYTES (length b) ≡ false → refused_text wanted b ≡ option_map no_part (first_missing wanted (parts_of b))
  short_text b short = rw short refl

  long_text : (b : List ℕ) → nat_lt LIMIT_BYTES (length b) ≡ true → refused_text wanted b ≡ Some (too_large (length b))
  long_text b long = rw long refl

  rows_give : (z y : View) (j : Hand) (n : ℕ) (b rest : List ℕ) (missing : Option (List ℕ)) → y ≡ after_read z place (name_of n) → refused_text wanted b ≡ option_map no_part missing
      → Gives (by_view true) y j (unless_refused (option_map no_part missing) (joined (rows_of n wanted b) ++ rest)) (said_unless wanted n b missing) (OneGiven z j n b rest)
  unfolding Gives
  rows_give z y j n b rest None at is =
      gives_more (by_view true) y j (joined (rows_of n wanted b) ++ rest) (lines_said (rows_of n wanted b)) (Told y j rest) (OneGiven z j n b rest) (lines_then y j (rows_of n wanted b) rest (some_rows n (listed wanted (parts_of b))))
      (λ x i left r t. told x i left r t.0 t.1 t.2 t.3)
    where
      told : (x : View) (i : Hand) (left : List ℕ) (r : Result Unit CommandFault) → r ≡ Ok tt → x ≡ y → i ≡ j → left ≡ rest → OneGiven z j n b rest x i left r
      told x i left r good same hand empty = rw good (is, same ∙ at, hand, empty)
  rows_give z y j n b rest (Some path) at is = (is, (refusal.NoPart _, refl), at, refl, refl)

  says_there : (z : View) (n : ℕ) (b : List ℕ) (a : Answer) → z.contents ≡ c → c.texts place (decimal n) ≡ Some b → fits_view true z (step.Read place (name_of n) LIMIT_BYTES) a → Says b a
  unfolding entry_text
  says_there z n b a same there f = says_it b a (f.0 ∙ ap (read_file_answer LIMIT_BYTES) (ap (λ d. d.texts place (decimal n)) same ∙ there))

  one_gives : (z : View) (j : Hand) (n : ℕ) (rest : List ℕ) → z.contents ≡ c → (m : Stands c place n) → Gives (by_view true) z j (one_text n m.text rest) (one_listed wanted place n) (OneGiven z j n m.text rest)
  unfolding Gives one_listed bind ◌>>=◌
  one_gives z j n rest same m =
      read_view true z of_stop j (one_text n m.text rest) (OneGiven z j n m.text rest) place (name_of n) LIMIT_BYTES (listed_by wanted place n)
      (λ bytes f. let s = says_there z n m.text (answer.Content bytes) same m.there f in content bytes s.0 s.1)
      (λ l f. let s = says_there z n m.text (answer.Long l) same m.there f in long l s.0 s.1)
      (λ f. absurd (says_there z n m.text answer.Gone same m.there f))
    where
      content : (bytes : List ℕ) → bytes ≡ m.text → nat_lt LIMIT_BYTES (length m.text) ≡ false → Gives (by_view true) (after_read z place (name_of n)) j (one_text n m.text rest) (rows_said wanted n bytes) (OneGiven z j n m.text rest)
      content bytes is short =
          subst (λ t. Gives (by_view true) (after_read z place (name_of n)) j (one_text n m.text rest) (rows_said wanted n t) (OneGiven z j n m.text rest)) (sym is)
          (subst (λ o. Gives (by_view true) (after_read z place (name_of n)) j (unless_refused o (joined (rows_of n wanted m.text) ++ rest)) (rows_said wanted n m.text) (OneGiven z j n m.text rest)) (sym (short_text m.text short))
          (rows_give z (after_read z place (name_of n)) j n m.text rest (first_missing wanted (parts_of m.text)) refl (short_text m.text short)))

      long : (l : ℕ) → l ≡ length m.text → nat_lt LIMIT_BYTES (length m.text) ≡ true → OneGiven z j n m.text rest (after_read z place (name_of n)) j (one_text n m.text rest) (Err (too_large l))
      long l is big = let w = long_text m.text big in (w ∙ ap (λ k. Some (too_large k)) (sym is), (refusal.TooLarge l LIMIT_BYTES, refl), refl, refl, ap (λ o. unless_refused o (joined (rows_of n wanted m.text) ++ rest)) w)

  -- all are listed, or the first that is refused ends it
  abbrev pub AllGiven : List ℕ → Hand → View → Hand → List ℕ → Result Unit CommandFault → Type 0
  AllGiven numbers j y i left (Ok u) = (first_refused wanted messages numbers ≡ None) × Is true ns y c × (i ≡ j) × (left ≡ [])
  AllGiven numbers j y i left (Err e) = (first_refused wanted messages numbers ≡ Some e) × IsRefusal e × (y.contents ≡ c) × (i ≡ j) × (left ≡ [])

  first_passes : (n : ℕ) (numbers b : List ℕ) → text_of messages n ≡ b → refused_text wanted b ≡ None → first_refused wanted messages (n ∷ numbers) ≡ first_refused wanted messages numbers
  unfolding first_refused
  first_passes n numbers b is none = ap (λ o. first_of o (first_refused wanted messages numbers)) (ap (refused_text wanted) is ∙ none)

  first_stops : (n : ℕ) (numbers b : List ℕ) (e : CommandFault) → text_of messages n ≡ b → refused_text wanted b ≡ Some e → first_refused wanted messages (n ∷ numbers) ≡ Some e
  unfolding first_refused
  first_stops n numbers b e is some = ap (λ o. first_of o (first_refused wanted messages numbers)) (ap (refused_text wanted) is ∙ some)

  rows_first : (n : ℕ) (numbers b : List ℕ) → text_of messages n ≡ b → rows_among wanted messages (n ∷ numbers) ≡ one_text n b (rows_among wanted messages numbers)
  unfolding rows_among
  rows_first n numbers b is = ap (λ t. one_text n t (rows_among wanted messages numbers)) is

  pub all_gives : (numbers : List ℕ) (z : View) (j : Hand) → Is true ns z c → AllStand c place numbers → Gives (by_view true) z j (rows_among wanted messages numbers) (all_listed wanted place numbers) (AllGiven numbers j)
  unfolding Gives all_listed first_refused rows_among
  all_gives [] z j is all = (refl, is, refl, refl)
  all_gives (n ∷ numbers) z j is all =
      subst (λ t. Gives (by_view true) z j t (all_listed wanted place (n ∷ numbers)) (AllGiven (n ∷ numbers) j)) (sym (rows_first n numbers m.text same))
      (gives_on (by_view true) z j (one_text n m.text (rows_among wanted messages numbers)) (one_listed wanted place n) (λ u. all_listed wanted place numbers) (OneGiven z j n m.text (rows_among wanted messages numbers)) (AllGiven (n ∷ numbers) j)
      (one_gives z j n (rows_among wanted messages numbers) (is.0 refl) m)
      (λ y i left u o. rw (o.1, o.2, o.3) (next o.0 (all_gives numbers (after_read z place (name_of n)) j after all.1)))
      (λ y i left e o. (first_stops n numbers m.text e same o.0, o.1, ap (λ v. v.contents) o.2 ∙ is.0 refl, o.3, o.4)))
    where
      m : Stands c place n
      m = all.0

      same : text_of messages n ≡ m.text
      same = message_text n m.text m.number m.there

      after : Is true ns (after_read z place (name_of n)) c
      after = ((λ e. is.0 e), is.1)

      longer : refused_text wanted m.text ≡ None → (y : View) (i : Hand) (left : List ℕ) (r : Result Unit CommandFault) → AllGiven numbers j y i left r → AllGiven (n ∷ numbers) j y i left r
      longer none y i left (Ok u) a = (first_passes n numbers m.text same none ∙ a.0, a.1, a.2, a.3)
      longer none y i left (Err e) a = (first_passes n numbers m.text same none ∙ a.0, a.1, a.2, a.3, a.4)

      next : refused_text wanted m.text ≡ None → Gives (by_view true) (after_read z place (name_of n)) j (rows_among wanted messages numbers) (all_listed wanted place numbers) (AllGiven numbers j)
          → Gives (by_view true) (after_read z place (name_of n)) j (rows_among wanted messages numbers) (all_listed wanted place numbers) (AllGiven (n ∷ numbers) j)
      next none g = gives_more (by_view true) (after_read z place (name_of n)) j (rows_among wanted messages numbers) (all_listed wanted place numbers) (AllGiven numbers j) (AllGiven (n ∷ numbers) j) g (λ y i left r a. longer none y i left r a)
