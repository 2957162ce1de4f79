-- The chosen messages are shown: what is said of them is the lines of the folder's messages.
use Rattle.std.proofs.Common.{◌≡◌, ◌++◌, ℕ, ◌==◌, ◌&&◌, ◌||◌, Bool, true, false, List, [], ◌∷◌, Option, Some, None, Result, Ok, Err, length, refl, sym, ◌∙◌, ap, subst, arith, bytes_eq}
use Rattle.std.specs.Prelude.{nat_lt, decimal, if◌then◌else◌}
use Rattle.std.proofs.lemmas.Bool.Decides.{nat_tests}
use Rattle.mh_base.specs.Entries.{entry_text}
use Rattle.folder_files.specs.Places.{same_place}
use Rattle.folder_files.specs.Steps.{read_file_answer}
use Rattle.folder_files.specs.declared.place.Place.{Place}
use Rattle.folder_files.specs.declared.step.Step.TheVariants as step
use Rattle.folder_files.specs.declared.step.Answer.{Answer}
use Rattle.folder_files.specs.declared.step.Answer.TheVariants as answer
use Rattle.file_plans.specs.Contents.{Contents, folder_at}
use Rattle.file_plans.specs.Giving.{Gives}
use Rattle.file_plans.specs.Mailboxes.{is_message_number}
use Rattle.file_plans.specs.Plan.{Hand, Return, bind, ◌>>=◌}
use Rattle.file_plans.specs.Views.{Listed, View, IsThere, ReadTells, fits_view, by_view}
use Rattle.file_plans.proofs.Framing.{say_view}
use Rattle.file_plans.proofs.Giving.{gives_on, gives_more}
use Rattle.file_plans.proofs.Showing.{number_ok}
use Rattle.file_plans.proofs.Viewing.{read_view}
use Rattle.msg_ranges.proofs.Rising.{lists}
use Rattle.step_plans.specs.CommandFaults.{of_stop, of_sink}
use Rattle.step_plans.specs.ContextCommit.{LIMIT_BYTES}
use Rattle.step_plans.specs.declared.command_fault.CommandFault.{CommandFault}
use Rattle.step_plans.specs.declared.command_fault.CommandFault.TheVariants as fault
use Rattle.command_stages.specs.Texts.{too_large}
use Rattle.message_lines.specs.MessageText.{line_of, Writing}
use Rattle.mh_looks.specs.Outcomes.{text_of, lines_of, too_long_of}
use Rattle.mh_looks.specs.Scan.{shown_by, one_shown, all_shown}
use Rattle.mh_looks.proofs.Apart.{AreApart, names_apart}
use Rattle.mh_looks.proofs.Reading.{after_read}

-- a message of the folder, of which nothing but its name was seen
pub record IsMessage (alone : Bool) (c : Contents) (v : View) (p : Place) (n : ℕ) : Type 0 where
  pub number : is_message_number n ≡ true
  pub text : List ℕ
  pub there : c.texts p (decimal n) ≡ Some text
  pub sight : alone ≡ false → v.seen.names p (decimal n) ≡ Listed

abbrev pub AreMessages : Bool → Contents → View → Place → List ℕ → Type 0
AreMessages alone c v p [] = Unit {0}
AreMessages alone c v p (n ∷ ns) = IsMessage alone c v p n × AreMessages alone c v p ns

pub line_some : (line : List ℕ) → line ++ 10 ∷ [] ≡ [] → ⊥
line_some [] e = cc
line_some (x ∷ line) e = cc

module _ (alone : Bool) (c : Contents) (p : Place) (lined : Writing) where
  abbrev pub messages : ℕ → Option (List ℕ)
  messages = (folder_at c p).messages

  message_text : (n : ℕ) (b : List ℕ) → is_message_number n ≡ true → c.texts p (decimal n) ≡ Some b → text_of messages n ≡ b
  unfolding entry_text
  message_text n b ok there = rw (ok, there) refl

  -- what holds after one message
  abbrev OneShown : View → Hand → ℕ → List ℕ → View → Hand → List ℕ → Result Unit CommandFault → Type 0
  OneShown v h n ns z j left (Ok u) = (z ≡ after_read v p (decimal n)) × (j ≡ h) × (left ≡ lines_of lined messages ns) × (too_long_of messages (n ∷ ns) ≡ too_long_of messages ns)
  OneShown v h n ns z j left (Err (fault.Refused r)) = (l : ℕ) × (fault.Refused r ≡ too_large l) × (too_long_of messages (n ∷ ns) ≡ Some l) × (left ≡ []) × (z.contents ≡ v.contents) × (j ≡ h)
  OneShown v h n ns z j left (Err (fault.Faulted w)) = ⊥
  OneShown v h n ns z j left (Err (fault.Locked q)) = ⊥
  OneShown v h n ns z j left (Err (fault.Meddled q x)) = alone ≡ true → ⊥
  OneShown v h n ns z j left (Err fault.Memory) = ⊥

  short_line : (n : ℕ) (ns b : List ℕ) → text_of messages n ≡ b → nat_lt LIMIT_BYTES (length b) ≡ false → (lines_of lined messages (n ∷ ns) ≡ line_of lined n b ++ lines_of lined messages ns) × (too_long_of messages (n ∷ ns) ≡ too_long_of messages ns)
  unfolding lines_of too_long_of
  short_line n ns b is short = (rw (is, short) refl, rw (is, short) refl)

  long_line : (n : ℕ) (ns b : List ℕ) → text_of messages n ≡ b → nat_lt LIMIT_BYTES (length b) ≡ true → (lines_of lined messages (n ∷ ns) ≡ []) × (too_long_of messages (n ∷ ns) ≡ Some (length b))
  unfolding lines_of too_long_of
  long_line n ns b is long = (rw (is, long) refl, rw (is, long) refl)

  -- what an answer says of a message that is there
  abbrev Says : List ℕ → Answer → Type 0
  Says b (answer.Content bytes) = (bytes ≡ b) × (nat_lt LIMIT_BYTES (length b) ≡ false)
  Says b (answer.Long l) = (l ≡ length b) × (nat_lt LIMIT_BYTES (length b) ≡ true)
  Says b answer.Gone = alone ≡ true → ⊥
  Says b answer.Done = Unit {0}
  Says b (answer.Names names) = Unit {0}
  Says b (answer.Piece bytes l) = Unit {0}
  Says b answer.Exists = Unit {0}
  Says b answer.Busy = Unit {0}
  Says b answer.Grown = Unit {0}
  Says b answer.Failed = Unit {0}

  by_limit : (b : List ℕ) (a : Answer) → a ≡ read_file_answer LIMIT_BYTES (Some b) → Says b a
  by_limit b a e = go (nat_lt LIMIT_BYTES (length b)) refl e
    where
      go : (v : Bool) → nat_lt LIMIT_BYTES (length b) ≡ v → a ≡ (if v then answer.Long (length b) else answer.Content b) → Says b a
      go true long is = rw is (refl, long)
      go false short is = rw is (refl, short)

  if_there : (b : List ℕ) (a : Answer) → alone ≡ false → IsThere (Some b) LIMIT_BYTES a → Says b a
  if_there b (answer.Content bytes) beside f = by_limit b (answer.Content bytes) f
  if_there b (answer.Long l) beside f = by_limit b (answer.Long l) f
  if_there b answer.Gone beside f = λ e. let h : true ≡ false = sym e ∙ beside in cc
  if_there b answer.Done beside f = tt
  if_there b (answer.Names names) beside f = tt
  if_there b (answer.Piece bytes l) beside f = tt
  if_there b answer.Exists beside f = tt
  if_there b answer.Busy beside f = tt
  if_there b answer.Grown beside f = tt
  if_there b answer.Failed beside f = tt

  says_it : (v : View) (n : ℕ) (b : List ℕ) (a : Answer) → v.contents ≡ c → c.texts p (decimal n) ≡ Some b → (alone ≡ false → v.seen.names p (decimal n) ≡ Listed) → fits_view alone v (step.Read p (decimal n) LIMIT_BYTES) a → Says b a
  says_it v n b a same there sight f = go alone refl f
    where
      text : v.contents.texts p (decimal n) ≡ Some b
      text = ap (λ z. z.texts p (decimal n)) same ∙ there

      go : (w : Bool) → alone ≡ w → fits_view w v (step.Read p (decimal n) LIMIT_BYTES) a → Says b a
      go true e f = by_limit b a (f.0 ∙ ap (read_file_answer LIMIT_BYTES) text)
      go false e f = if_there b a e (subst (λ o. IsThere o LIMIT_BYTES a) text (subst (λ s. ReadTells s (v.contents.texts p (decimal n)) LIMIT_BYTES a) (sight e) f.0))

  one_gives : (v : View) (h : Hand) (n : ℕ) (ns : List ℕ) → v.contents ≡ c → IsMessage alone c v p n → Gives (by_view alone) v h (lines_of lined messages (n ∷ ns)) (one_shown lined p n) (OneShown v h n ns)
  unfolding Gives one_shown entry_text bind ◌>>=◌
  one_gives v h n ns same m =
      read_view alone v of_stop h (lines_of lined messages (n ∷ ns)) (OneShown v h n ns) p (decimal n) LIMIT_BYTES (shown_by lined p n)
      (λ bytes f.
      let s = says_it v n m.text (answer.Content bytes) same m.there m.sight f in
      let lines = short_line n ns m.text (message_text n m.text m.number m.there) s.1 in
      let whole : lines_of lined messages (n ∷ ns) ≡ line_of lined n bytes ++ lines_of lined messages ns = lines.0 ∙ ap (λ b. line_of lined n b ++ lines_of lined messages ns) (sym s.0) in
      say_view (by_view alone) (after_read v p (decimal n)) of_sink (line_of lined n bytes) (lines_of lined messages ns) (lines_of lined messages (n ∷ ns)) h (λ told. Return (Ok tt)) (OneShown v h n ns) (line_some (lined n bytes)) whole (refl, refl, refl, lines.1))
      (λ l f.
      let s = says_it v n m.text (answer.Long l) same m.there m.sight f in
      let lines = long_line n ns m.text (message_text n m.text m.number m.there) s.1 in
      (l, refl, lines.1 ∙ ap (λ k. Some k) (sym s.0), lines.0, refl, refl))
      (λ f. says_it v n m.text answer.Gone same m.there m.sight f)

  -- the messages that are left are still to be read
  still : (v : View) (n : ℕ) (ns : List ℕ) → is_message_number n ≡ true → lists ns n ≡ false → AreMessages alone c v p ns → AreMessages alone c (after_read v p (decimal n)) p ns
  still v n [] ok apart all = tt
  still v n (m ∷ ns) ok apart all =
      let both = or_both (m == n) (lists ns n) apart in
      let other : bytes_eq (decimal n) (decimal m) ≡ false = names_apart n m (number_ok n ok) (number_ok m all.0.number) (turned m n both.0) in
      (record { number = all.0.number; text = all.0.text; there = all.0.there; sight = λ e. rw (other, and_false (same_place p p)) (all.0.sight e) }, still v n ns ok both.1 all.1)
    where
      or_both : (a b : Bool) → a || b ≡ false → (a ≡ false) × (b ≡ false)
      or_both true b e = cc
      or_both false b e = (refl, e)

      and_false : (b : Bool) → b && false ≡ false
      and_false true = refl
      and_false false = refl

      turned : (a b : ℕ) → (a == b) ≡ false → (b == a) ≡ false
      turned a b e = let f : (b == a) ≡ (a == b) = grind (arith, nat_tests) in f ∙ e

  -- what holds after all of them
  abbrev pub AllShown : Hand → List ℕ → View → Hand → List ℕ → Result Unit CommandFault → Type 0
  AllShown h ns z j left (Ok u) = (left ≡ []) × (too_long_of messages ns ≡ None) × (z.contents ≡ c) × (j ≡ h)
  AllShown h ns z j left (Err (fault.Refused r)) = (l : ℕ) × (fault.Refused r ≡ too_large l) × (too_long_of messages ns ≡ Some l) × (left ≡ []) × (z.contents ≡ c) × (j ≡ h)
  AllShown h ns z j left (Err (fault.Faulted w)) = ⊥
  AllShown h ns z j left (Err (fault.Locked q)) = ⊥
  AllShown h ns z j left (Err (fault.Meddled q x)) = alone ≡ true → ⊥
  AllShown h ns z j left (Err fault.Memory) = ⊥

  one_failed : (v : View) (h : Hand) (n : ℕ) (ns : List ℕ) (z : View) (j : Hand) (left : List ℕ) (e : CommandFault) → v.contents ≡ c → OneShown v h n ns z j left (Err e) → AllShown h (n ∷ ns) z j left (Err e)
  one_failed v h n ns z j left (fault.Refused r) same o = (o.0, o.1, o.2, o.3, o.4 ∙ same, o.5)
  one_failed v h n ns z j left (fault.Faulted w) same o = o
  one_failed v h n ns z j left (fault.Locked q) same o = o
  one_failed v h n ns z j left (fault.Meddled q x) same o = o
  one_failed v h n ns z j left fault.Memory same o = o

  longer : (h : Hand) (n : ℕ) (ns : List ℕ) (z : View) (j : Hand) (left : List ℕ) (r : Result Unit CommandFault) → too_long_of messages (n ∷ ns) ≡ too_long_of messages ns → AllShown h ns z j left r → AllShown h (n ∷ ns) z j left r
  longer h n ns z j left (Ok u) e o = (o.0, e ∙ o.1, o.2, o.3)
  longer h n ns z j left (Err (fault.Refused r)) e o = (o.0, o.1, e ∙ o.2, o.3, o.4, o.5)
  longer h n ns z j left (Err (fault.Faulted w)) e o = o
  longer h n ns z j left (Err (fault.Locked q)) e o = o
  longer h n ns z j left (Err (fault.Meddled q x)) e o = o
  longer h n ns z j left (Err fault.Memory) e o = o

  pub all_gives : (ns : List ℕ) (v : View) (h : Hand) → v.contents ≡ c → AreMessages alone c v p ns → AreApart ns → Gives (by_view alone) v h (lines_of lined messages ns) (all_shown lined p ns) (AllShown h ns)
  unfolding Gives all_shown lines_of too_long_of
  all_gives [] v h same all apart = (refl, refl, same, refl)
  all_gives (n ∷ ns) v h same all apart =
      gives_on (by_view alone) v h (lines_of lined messages (n ∷ ns)) (one_shown lined p n) (λ u. all_shown lined p ns) (OneShown v h n ns) (AllShown h (n ∷ ns)) (one_gives v h n ns same all.0)
      (λ z j left u o. rw (o.0, o.1, o.2) (more (all_gives ns (after_read v p (decimal n)) h same (still v n ns all.0.number apart.0 all.1) apart.1) o.3))
      (λ z j left e o. one_failed v h n ns z j left e same o)
    where
      more : Gives (by_view alone) (after_read v p (decimal n)) h (lines_of lined messages ns) (all_shown lined p ns) (AllShown h ns) → too_long_of messages (n ∷ ns) ≡ too_long_of messages ns
          → Gives (by_view alone) (after_read v p (decimal n)) h (lines_of lined messages ns) (all_shown lined p ns) (AllShown h (n ∷ ns))
      more g e = gives_more (by_view alone) (after_read v p (decimal n)) h (lines_of lined messages ns) (all_shown lined p ns) (AllShown h ns) (AllShown h (n ∷ ns)) g (λ z j left r o. longer h n ns z j left r e o)
