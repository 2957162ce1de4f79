-- What tests of messages give alone.
use Rattle.std.proofs.Common.{◌≡◌, ◌++◌, ◌∷◌, [], ℕ, Bool, true, false, cond, List, Option, Some, None, Result, Ok, Err, length, refl, sym, ◌∙◌, ap, subst, append_assoc, append-nil}
use Rattle.std.specs.Prelude.{nat_lt, decimal, map}
use Rattle.mh_base.specs.Entries.{entry_text}
use Rattle.folder_files.specs.Steps.{read_file_answer}
use Rattle.folder_files.specs.declared.place.Place.{Place}
use Rattle.folder_files.specs.declared.refusal.Refusal.TheVariants as refusal
use Rattle.folder_files.specs.declared.step.Answer.{Answer}
use Rattle.folder_files.specs.declared.step.Answer.TheVariants as answer
use Rattle.folder_files.specs.declared.step.Step.TheVariants as step
use Rattle.file_plans.specs.Contents.{Contents, folder_at, mailbox_in}
use Rattle.file_plans.specs.Giving.{Gives}
use Rattle.file_plans.specs.Mailboxes.{is_message_number}
use Rattle.file_plans.specs.Plan.{Hand, Plan, Return, bind, ◌>>=◌}
use Rattle.file_plans.specs.Views.{View, by_view, fits_view}
use Rattle.file_plans.proofs.Giving.{gives_more, gives_on}
use Rattle.file_plans.proofs.Onward.{Is}
use Rattle.file_plans.proofs.Viewing.{read_view}
use Rattle.step_plans.specs.CommandFaults.{of_stop}
use Rattle.step_plans.specs.ContextCommit.{LIMIT_BYTES}
use Rattle.step_plans.specs.declared.command_fault.CommandFault.{CommandFault}
use Rattle.step_plans.specs.declared.command_fault.CommandFault.TheVariants as fault
use Rattle.command_stages.specs.Texts.{too_large}
use Rattle.command_stages.specs.Works.{Work, refused_at}
use Rattle.mh_looks.proofs.Reading.{after_read}
use Rattle.mh_looks.proofs.Ending.{name_of}
use Rattle.opening_plans.proofs.WorkGiven.{WorkEnds}
use Rattle.told_folders.specs.Tasks.{AreSome}
use Rattle.told_folders.proofs.FoldersGiven.{Told, lines_give}
use Rattle.told_folders.proofs.MessagesStand.{AllStand, Stands, Says, says_it}
use Rattle.pick_expr.specs.Picks.{picks}
use Rattle.pick_expr.specs.declared.expr.Expr.{Expr}
use Rattle.pick_plans.specs.Lines.{lines_for, number_line}
use Rattle.pick_plans.specs.Outcomes.{found_in, found_work, text_if, too_long_among, unless_long, unless_none as none_work}
use Rattle.pick_plans.specs.Pick.{said_if, some_found, unless_none}
use Rattle.pick_plans.specs.Testing.{all_tested, kept_if, one_tested, tested_by}
use Rattle.pick_plans.specs.declared.job.PickJob.{PickJob}
use Rattle.mh_looks.specs.Outcomes.{text_of}

-- no line is empty
line_some : (n : ℕ) → number_line n ≡ [] → ⊥
unfolding number_line
line_some n e = ends (decimal n) e
  where
    ends : (a : List ℕ) → (a ++ 10 ∷ []) ≡ [] → ⊥
    ends [] q = cc
    ends (x ∷ a) q = cc

some_lines : (ns : List ℕ) → AreSome (map number_line ns)
some_lines [] = tt
some_lines (n ∷ ns) = (line_some n, some_lines ns)

pub some_for : (found : List ℕ) → AreSome (lines_for found)
some_for [] = ((λ e. cc (e)), tt)
some_for (n ∷ ns) = some_lines (n ∷ ns)

pub said_gives : (v : View) (h : Hand) (list : Bool) (lines : List (List ℕ)) → AreSome lines → Gives (by_view true) v h (text_if list lines) (said_if list lines) (Told v h)
unfolding Gives
said_gives v h true lines f = lines_give v h lines f
said_gives v h false lines f = (refl, refl, refl, refl)

module _ (place : Place) (expr : Expr) (c : Contents) (ns : List ℕ) where
  abbrev pub messages : ℕ → Option (List ℕ)
  messages = (folder_at c place).messages

  message_text : (n : ℕ) (b : List ℕ) → is_message_number n ≡ true → c.texts place (decimal n) ≡ Some b → text_of messages n ≡ b
  unfolding entry_text
  message_text n b ok there = rw (ok, there) refl

  -- a message is tested
  abbrev OneGiven : View → Hand → List ℕ → ℕ → List ℕ → View → Hand → List ℕ → Result Bool CommandFault → Type 0
  OneGiven z j text n b y i left (Ok t) = (t ≡ picks expr b) × (nat_lt LIMIT_BYTES (length b) ≡ false) × (y ≡ after_read z place (name_of n)) × (i ≡ j) × (left ≡ text)
  OneGiven z j text n b y i left (Err e) = (e ≡ too_large (length b)) × (nat_lt LIMIT_BYTES (length b) ≡ true) × (y ≡ after_read z place (name_of n)) × (i ≡ j) × (left ≡ text)

  says_there : (z : View) (n : ℕ) (b : List ℕ) (a : Answer) → z.contents ≡ c → c.texts place (decimal n) ≡ Some b → fits_view true z (step.Read place (name_of n) LIMIT_BYTES) a → Says b a
  unfolding entry_text
  says_there z n b a same there f = says_it b a (f.0 ∙ ap (read_file_answer LIMIT_BYTES) (ap (λ d. d.texts place (decimal n)) same ∙ there))

  one_gives : (z : View) (j : Hand) (text : List ℕ) (n : ℕ) → z.contents ≡ c → (m : Stands c place n) → Gives (by_view true) z j text (one_tested place expr n) (OneGiven z j text n m.text)
  unfolding Gives one_tested bind ◌>>=◌
  one_gives z j text n same m =
      read_view true z of_stop j text (OneGiven z j text n m.text) place (name_of n) LIMIT_BYTES (tested_by place expr n)
      (λ bytes f. let s = says_there z n m.text (answer.Content bytes) same m.there f in (ap (picks expr) s.0, s.1, refl, refl, refl))
      (λ l f. let s = says_there z n m.text (answer.Long l) same m.there f in (ap too_large s.0, s.1, refl, refl, refl))
      (λ f. absurd (says_there z n m.text answer.Gone same m.there f))

  -- all are tested, or the first that is too long ends it
  abbrev pub AllGiven : List ℕ → List ℕ → Hand → List ℕ → View → Hand → List ℕ → Result (List ℕ) CommandFault → Type 0
  AllGiven found numbers j text y i left (Ok all) = (all ≡ found ++ found_in messages expr numbers) × (too_long_among messages numbers ≡ None) × Is true ns y c × (i ≡ j) × (left ≡ text)
  AllGiven found numbers j text y i left (Err e) = (l : ℕ) × (e ≡ too_large l) × (too_long_among messages numbers ≡ Some l) × (y.contents ≡ c) × (i ≡ j) × (left ≡ text)

  short_first : (n : ℕ) (numbers b : List ℕ) → text_of messages n ≡ b → nat_lt LIMIT_BYTES (length b) ≡ false → too_long_among messages (n ∷ numbers) ≡ too_long_among messages numbers
  unfolding too_long_among
  short_first n numbers b is short = rw (is, short) refl

  long_first : (n : ℕ) (numbers b : List ℕ) → text_of messages n ≡ b → nat_lt LIMIT_BYTES (length b) ≡ true → too_long_among messages (n ∷ numbers) ≡ Some (length b)
  unfolding too_long_among
  long_first n numbers b is long = rw (is, long) refl

  one_more : (n : ℕ) (rest : List ℕ) (b : Bool) → kept_if b n ++ rest ≡ cond b (n ∷ rest) rest
  one_more n rest true = refl
  one_more n rest false = refl

  more_found : (found : List ℕ) (n : ℕ) (numbers b : List ℕ) → text_of messages n ≡ b → (found ++ kept_if (picks expr b) n) ++ found_in messages expr numbers ≡ found ++ found_in messages expr (n ∷ numbers)
  more_found found n numbers b is =
      append_assoc found (kept_if (picks expr b) n) (found_in messages expr numbers)
      ∙ ap (λ z. found ++ z) (ap (λ t. kept_if (picks expr t) n ++ found_in messages expr numbers) (sym is) ∙ one_more n (found_in messages expr numbers) (picks expr (text_of messages n)))

  pub all_gives : (found numbers : List ℕ) (z : View) (j : Hand) (text : List ℕ) → Is true ns z c → AllStand c place numbers → Gives (by_view true) z j text (all_tested place expr found numbers) (AllGiven found numbers j text)
  unfolding Gives all_tested too_long_among
  all_gives found [] z j text is all = (sym (append-nil found), refl, is, refl, refl)
  all_gives found (n ∷ numbers) z j text is all =
      gives_on (by_view true) z j text (one_tested place expr n) (λ matches. all_tested place expr (found ++ kept_if matches n) numbers) (OneGiven z j text n m.text) (AllGiven found (n ∷ numbers) j text) (one_gives z j text n (is.0 refl) m)
      (λ y i left t o. rw (o.0, o.2, o.3, o.4) (next o.1 (all_gives (found ++ kept_if (picks expr m.text) n) numbers (after_read z place (name_of n)) j text after all.1)))
      (λ y i left e o. (length m.text, o.0, long_first n numbers m.text same o.1, ap (λ v. v.contents) o.2 ∙ is.0 refl, o.3, o.4))
    where
      m : Stands c place n
      m = all.0

      same : text_of messages n ≡ m.text
      same = message_text n m.text m.number m.there

      after : Is true ns (after_read z place (name_of n)) c
      after = ((λ e. is.0 e), is.1)

      longer : nat_lt LIMIT_BYTES (length m.text) ≡ false → (y : View) (i : Hand) (left : List ℕ) (r : Result (List ℕ) CommandFault) → AllGiven (found ++ kept_if (picks expr m.text) n) numbers j text y i left r → AllGiven found (n ∷ numbers) j text y i left r
      longer short y i left (Ok given) a = (a.0 ∙ more_found found n numbers m.text same, short_first n numbers m.text same short ∙ a.1, a.2, a.3, a.4)
      longer short y i left (Err e) a = (a.0, a.1, short_first n numbers m.text same short ∙ a.2, a.3, a.4, a.5)

      next : nat_lt LIMIT_BYTES (length m.text) ≡ false → Gives (by_view true) (after_read z place (name_of n)) j text (all_tested place expr (found ++ kept_if (picks expr m.text) n) numbers) (AllGiven (found ++ kept_if (picks expr m.text) n) numbers j text)
          → Gives (by_view true) (after_read z place (name_of n)) j text (all_tested place expr (found ++ kept_if (picks expr m.text) n) numbers) (AllGiven found (n ∷ numbers) j text)
      next short g =
          gives_more (by_view true) (after_read z place (name_of n)) j text (all_tested place expr (found ++ kept_if (picks expr m.text) n) numbers) (AllGiven (found ++ kept_if (picks expr m.text) n) numbers j text) (AllGiven found (n ∷ numbers) j text) g
          (λ y i left r a. longer short y i left r a)

-- then some are found, or there are none; and the plan goes on with those
module _ (place : Place) (job : PickJob) (c : Contents) (ns : List ℕ) (next : List ℕ → Work CommandFault) (k : List ℕ → Plan (Result Unit CommandFault)) where
  abbrev work : List ℕ → Work CommandFault
  work numbers = found_work job (mailbox_in c) (folder_at c place).messages next numbers

  abbrev SomeGiven : Work CommandFault → Hand → View → Hand → List ℕ → Result (List ℕ) CommandFault → Type 0
  SomeGiven w j y i left (Ok found) = (n : ℕ) × (rest : List ℕ) × (found ≡ n ∷ rest) × (w ≡ next (n ∷ rest)) × Is true ns y c × (i ≡ j) × (left ≡ w.text)
  SomeGiven w j y i left (Err e) = WorkEnds w y i left (Err e)

  abbrev none : Work CommandFault
  none = none_work job (mailbox_in c) next []

  none_gives : (w : Work CommandFault) (y : View) (j : Hand) → w ≡ none → y.contents ≡ c → Gives (by_view true) y j w.text (unless_none job.list []) (SomeGiven w j)
  unfolding Gives unless_none
  none_gives w y j is same =
      subst (λ x. Gives (by_view true) y j x.text (said_if job.list (lines_for []) >>= (λ told. Return (Err (fault.Refused refusal.NoMatch)))) (SomeGiven x j)) (sym is)
      (gives_on (by_view true) y j (text_if job.list (lines_for [])) (said_if job.list (lines_for [])) (λ told. Return (Err (fault.Refused refusal.NoMatch))) (Told y j) (SomeGiven none j) (said_gives y j job.list (lines_for []) (some_for []))
      (λ z i left u t. ends z i left t.1 t.3) (λ z i left e t. absurd (cc (t.0))))
    where
      ends : (z : View) (i : Hand) (left : List ℕ) → z ≡ y → left ≡ [] → Gives (by_view true) z i left (Return (Err (fault.Refused refusal.NoMatch))) (SomeGiven none j)
      ends z i left at empty = (empty, refl, ap (λ v. mailbox_in v.contents) at ∙ ap mailbox_in same)

  some_gives : (w : Work CommandFault) (y : View) (j : Hand) (found : List ℕ) → w ≡ none_work job (mailbox_in c) next found → Is true ns y c → Gives (by_view true) y j w.text (unless_none job.list found) (SomeGiven w j)
  unfolding Gives unless_none
  some_gives w y j [] is at = none_gives w y j is (at.0 refl)
  some_gives w y j (n ∷ rest) is at = (n, rest, refl, is, at, refl, refl)

  found_gives : (numbers : List ℕ) (z : View) (j : Hand) → Is true ns z c → AllStand c place numbers → Gives (by_view true) z j (work numbers).text (some_found place job numbers) (SomeGiven (work numbers) j)
  unfolding some_found
  found_gives numbers z j is all =
      gives_on (by_view true) z j (work numbers).text (all_tested place job.expr [] numbers) (λ found. unless_none job.list found) (AllGiven place job.expr c ns [] numbers j (work numbers).text) (SomeGiven (work numbers) j)
      (all_gives place job.expr c ns [] numbers z j (work numbers).text is all)
      (λ y i left found a. rw (a.3, a.4) (some_gives (work numbers) y j found (work_is found a.0 a.1) a.2))
      (λ y i left e a. long_ends y i left e a.0 a.1 a.2 a.3 a.5)
    where
      work_is : (found : List ℕ) → found ≡ found_in (folder_at c place).messages job.expr numbers → too_long_among (folder_at c place).messages numbers ≡ None → work numbers ≡ none_work job (mailbox_in c) next found
      work_is found is short =
          ap (unless_long job (mailbox_in c) next (found_in (folder_at c place).messages job.expr numbers)) short ∙ ap (none_work job (mailbox_in c) next) (sym is)

      long_ends : (y : View) (i : Hand) (left : List ℕ) (e : CommandFault) (l : ℕ) → e ≡ too_large l → too_long_among (folder_at c place).messages numbers ≡ Some l → y.contents ≡ c → left ≡ (work numbers).text → WorkEnds (work numbers) y i left (Err e)
      long_ends y i left e l is long same rest =
          let w : work numbers ≡ refused_at (mailbox_in c) (too_large l) = ap (unless_long job (mailbox_in c) next (found_in (folder_at c place).messages job.expr numbers)) long in
          rw is (rest ∙ ap (λ x. x.text) w, ap (λ x. x.end) w, ap mailbox_in same ∙ sym (ap (λ x. x.mailbox) w))

  pub found_then : (numbers : List ℕ) (z : View) (j : Hand) → ((n : ℕ) (rest : List ℕ) (y : View) → Is true ns y c → Gives (by_view true) y j (next (n ∷ rest)).text (k (n ∷ rest)) (WorkEnds (next (n ∷ rest)))) → Is true ns z c → AllStand c place numbers
      → Gives (by_view true) z j (work numbers).text (some_found place job numbers >>= k) (WorkEnds (work numbers))
  found_then numbers z j goes is all =
      gives_on (by_view true) z j (work numbers).text (some_found place job numbers) k (SomeGiven (work numbers) j) (WorkEnds (work numbers)) (found_gives numbers z j is all)
      (λ y i left found s. on y i left found s.0 s.1 s.2 s.3 s.4 s.5 s.6) (λ y i left e s. s)
    where
      on : (y : View) (i : Hand) (left found : List ℕ) (n : ℕ) (rest : List ℕ) → found ≡ n ∷ rest → work numbers ≡ next (n ∷ rest) → Is true ns y c → i ≡ j → left ≡ (work numbers).text → Gives (by_view true) y i left (k found) (WorkEnds (work numbers))
      on y i left found n rest is_ w at same text =
          rw (is_, same, text) (subst (λ x. Gives (by_view true) y j x.text (k (n ∷ rest)) (WorkEnds x)) (sym w) (goes n rest y at))
