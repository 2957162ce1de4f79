-- What messages that are taken in make of contents alone: they stand one behind the other above the highest number, and their lines were written.
use Rattle.std.proofs.Common.{◌≡◌, ◌≤◌, ◌<◌, ◌^◌, ◌+◌, ◌++◌, ◌∷◌, ◌==◌, ◌&&◌, [], ℕ, zero, suc, Bool, true, false, List, Some, None, Result, Ok, Err, length, refl, sym, ◌∙◌, ap, subst, arith, append_assoc, append-nil}
use Rattle.std.specs.Prelude.{bytes_eq, decimal, if◌then◌else◌}
use Rattle.std.proofs.lemmas.Bool.Decides.{Decides-eqb}
use Rattle.mh_base.specs.Entries.{kind_of}
use Rattle.mh_base.specs.Numbers.{IsMsgNum, numbers_up}
use Rattle.folder_files.specs.Named.{is_temp}
use Rattle.folder_files.specs.Places.{same_place}
use Rattle.folder_files.specs.declared.place.Place.{Place}
use Rattle.folder_files.specs.declared.place.Place.TheVariants.{Folder}
use Rattle.folder_files.proofs.Names.{is_temp_unnumbered}
use Rattle.folder_files.proofs.Sameness.{place_is}
use Rattle.file_plans.specs.Contents.{Contents, mailbox_in, with_text}
use Rattle.file_plans.specs.Giving.{Gives}
use Rattle.file_plans.specs.MailboxChanges.{folder_with}
use Rattle.file_plans.specs.Plan.{Hand, Return, bind, converted, lifted, ◌>>=◌}
use Rattle.file_plans.specs.Views.{View, by_view}
use Rattle.file_plans.proofs.Framing.{say_view}
use Rattle.file_plans.proofs.Giving.{gives_more, gives_on}
use Rattle.file_plans.proofs.Onward.{Is}
use Rattle.file_plans.proofs.Showing.{context_no_number, foreign, shows_message}
use Rattle.step_plans.specs.CommandFaults.{of_sink}
use Rattle.step_plans.specs.ContextCommit.{context_name}
use Rattle.step_plans.specs.Hands.{temp_name, used}
use Rattle.step_plans.specs.declared.command_fault.CommandFault.{CommandFault}
use Rattle.step_plans.specs.declared.command_fault.CommandFault.TheVariants as fault
use Rattle.step_plans.specs.declared.fault.PlanFault.{PlanFault}
use Rattle.step_plans.proofs.Named.{temp_is}
use Rattle.held_messages.specs.HeldPairs.{with_folder_changed}
use Rattle.message_puts.proofs.StoredGiven.{Stores, stored_gives}
use Rattle.command_stages.specs.Endings.{of_plan}
use Rattle.message_lines.specs.MessageText.{line_of, Writing}
use Rattle.mh_looks.proofs.Apart.{names_apart}
use Rattle.mh_looks.proofs.AllShown.{line_some}
use Rattle.opening_plans.proofs.WorkGiven.{lifted_gives}
use Rattle.inc_plans.specs.IncOutcome.{lines_from, with_messages}
use Rattle.inc_plans.specs.Intake.{all_taken, with_number}
use Rattle.message_puts.specs.Putting.{message_stored}
use Rattle.inc_plans.specs.Taking.{first_of, message_taken, message_told, Telling, told_if}
use Rattle.inc_plans.specs.declared.taken.Taken.{Taken}
use Rattle.held_messages.proofs.Shown.{unchanged, changed_twice}

-- the contents with these messages one behind the other from this number on
unfoldable pub all_put : Contents → Place → ℕ → List (List ℕ) → Contents
all_put c p n [] = c
all_put c p n (message ∷ messages) = all_put (with_text c p (decimal n) (Some message)) p (n + 1) messages

-- what was taken in with these messages
unfoldable pub taken_on : Taken → List (List ℕ) → Taken
taken_on t [] = t
taken_on t (message ∷ messages) = taken_on (with_number (t.highest + 1) t) messages

-- a text that is written, but where nothing is to be
abbrev pub told : Bool → List ℕ → List ℕ
told true text = []
told false text = text

pub told_both : (silent : Bool) (x y text : List ℕ) → told silent (x ++ y) ++ text ≡ told silent x ++ (told silent y ++ text)
told_both true x y text = refl
told_both false x y text = append_assoc x y text

-- after some of the messages the others
pub put_both : (c : Contents) (p : Place) (n : ℕ) (xs ys : List (List ℕ)) → all_put c p n (xs ++ ys) ≡ all_put (all_put c p n xs) p (n + length xs) ys
unfolding all_put
put_both c p n [] ys = let k : n ≡ n + 0 = omega arith in ap (λ m. all_put c p m ys) k
put_both c p n (x ∷ xs) ys =
    let k : n + 1 + length xs ≡ n + length (x ∷ xs) = omega arith in
    put_both (with_text c p (decimal n) (Some x)) p (n + 1) xs ys ∙ ap (λ m. all_put (all_put (with_text c p (decimal n) (Some x)) p (n + 1) xs) p m ys) k

pub on_both : (t : Taken) (xs ys : List (List ℕ)) → taken_on t (xs ++ ys) ≡ taken_on (taken_on t xs) ys
unfolding taken_on
on_both t [] ys = refl
on_both t (x ∷ xs) ys = on_both (with_number (t.highest + 1) t) xs ys

pub lines_both : (line : Writing) (n : ℕ) (xs ys : List (List ℕ)) → lines_from line n (xs ++ ys) ≡ lines_from line n xs ++ lines_from line (n + length xs) ys
unfolding lines_from
lines_both line n [] ys = let k : n ≡ n + 0 = omega arith in ap (λ m. lines_from line m ys) k
lines_both line n (x ∷ xs) ys =
    let k : n + 1 + length xs ≡ n + length (x ∷ xs) = omega arith in
    ap (λ l. line_of line n x ++ l) (lines_both line (n + 1) xs ys ∙ ap (λ m. lines_from line (n + 1) xs ++ lines_from line m ys) k)
    ∙ sym (append_assoc (line_of line n x) (lines_from line (n + 1) xs) (lines_from line (n + length (x ∷ xs)) ys))

pub highest_on : (t : Taken) (ms : List (List ℕ)) → (taken_on t ms).highest ≡ t.highest + length ms
unfolding taken_on
highest_on t [] = omega arith
highest_on t (m ∷ ms) = let e = highest_on (with_number (t.highest + 1) t) ms in e ∙ omega arith

pub numbers_on : (t : Taken) (ms : List (List ℕ)) → (taken_on t ms).numbers ≡ t.numbers ++ numbers_up (t.highest + 1) (length ms)
unfolding taken_on numbers_up
numbers_on t [] = sym (append-nil t.numbers)
numbers_on t (m ∷ ms) = numbers_on (with_number (t.highest + 1) t) ms ∙ append_assoc t.numbers ((t.highest + 1) ∷ []) (numbers_up (t.highest + 1 + 1) (length ms))

pub length_up : (n k : ℕ) → length (numbers_up n k) ≡ k
unfolding numbers_up
length_up n zero = refl
length_up n (suc k) = let e = length_up (n + 1) k in omega (arith, e)

-- a folder that is there, without temporary names, and with nothing above this number
pub record IsRoomy (c : Contents) (p : Place) (top : ℕ) : Type 0 where
  pub there : c.there p ≡ true
  pub free : (x : List ℕ) → is_temp (kind_of x) ≡ true → c.texts p x ≡ None
  pub above : (k : ℕ) → top < k → k ≤ 999999 → c.texts p (decimal k) ≡ None

not_same : (n k : ℕ) → n < k → (n == k) ≡ false
not_same n k lt = go (n == k) (Decides-eqb n k).0
  where
    go : (b : Bool) → (b ≡ true → n ≡ k) → b ≡ false
    go true f = absurd (let e = f refl in omega (arith, e, lt))
    go false f = refl

message_number : (n : ℕ) → 1 ≤ n → n ≤ 999999 → IsMsgNum n
message_number n a b = (a, omega (arith, b))

-- other names of the place lead to what they led to
other_name : (c : Contents) (p : Place) (n : ℕ) (b x : List ℕ) → bytes_eq (decimal n) x ≡ false → (with_text c p (decimal n) (Some b)).texts p x ≡ c.texts p x
other_name c p n b x apart = rw (place_is p, apart) refl

any_place : (c : Contents) (p q : Place) (n : ℕ) (b x : List ℕ) → bytes_eq (decimal n) x ≡ false → (with_text c p (decimal n) (Some b)).texts q x ≡ c.texts q x
any_place c p q n b x apart = go (same_place p q)
  where
    go : (s : Bool) → (if s && bytes_eq (decimal n) x then Some b else c.texts q x) ≡ c.texts q x
    go true = rw apart refl
    go false = refl

pub roomy_next : (c : Contents) (p : Place) (top : ℕ) (b : List ℕ) → top < 999999 → IsRoomy c p top → IsRoomy (with_text c p (decimal (top + 1)) (Some b)) p (top + 1)
roomy_next c p top b low r =
    let ok : IsMsgNum (top + 1) = message_number (top + 1) (omega arith) (omega (arith, low)) in
    record {
      there = r.there;
      free = λ x t. other_name c p (top + 1) b x (foreign (top + 1) ok x (is_temp_unnumbered x t)) ∙ r.free x t;
      above = λ k lt le. other_name c p (top + 1) b (decimal k) (names_apart (top + 1) k ok (message_number k (omega (arith, lt)) le) (not_same (top + 1) k lt)) ∙ r.above k (omega (arith, lt)) le;
    }

pub all_roomy : (ms : List (List ℕ)) (c : Contents) (p : Place) (top : ℕ) → top + length ms ≤ 999999 → IsRoomy c p top → IsRoomy (all_put c p (top + 1) ms) p (top + length ms)
unfolding all_put
all_roomy [] c p top few r = let k : top ≡ top + 0 = omega arith in subst (IsRoomy c p) k r
all_roomy (m ∷ ms) c p top few r =
    let k : top + 1 + length ms ≡ top + length (m ∷ ms) = omega arith in
    subst (IsRoomy (all_put (with_text c p (decimal (top + 1)) (Some m)) p (top + 1 + 1) ms) p) k
    (all_roomy ms (with_text c p (decimal (top + 1)) (Some m)) p (top + 1) (omega (arith, few)) (roomy_next c p top m (omega (arith, few)) r))

pub all_outside : (ms : List (List ℕ)) (c : Contents) (p : Place) (n : ℕ) → (all_put c p n ms).outside ≡ c.outside
unfolding all_put
all_outside [] c p n = refl
all_outside (m ∷ ms) c p n = all_outside ms (with_text c p (decimal n) (Some m)) p (n + 1)

pub all_context : (ms : List (List ℕ)) (c : Contents) (p q : Place) (n : ℕ) → 1 ≤ n → n + length ms ≤ 1000000 → (all_put c p n ms).texts q context_name ≡ c.texts q context_name
unfolding all_put
all_context [] c p q n one few = refl
all_context (m ∷ ms) c p q n one few =
    all_context ms (with_text c p (decimal n) (Some m)) p q (n + 1) (omega arith) (omega (arith, few))
    ∙ any_place c p q n m context_name (foreign n (message_number n one (omega (arith, few))) context_name context_no_number)

pub all_show : (ms : List (List ℕ)) (c : Contents) (path folder : List ℕ) (n : ℕ) → 1 ≤ n → n + length ms ≤ 1000000 → mailbox_in (all_put c (Folder path folder) n ms) ≡ with_folder_changed (mailbox_in c) (Folder path folder) (with_messages n ms)
unfolding all_put with_messages
all_show [] c path folder n one few = unchanged (mailbox_in c) (Folder path folder)
all_show (m ∷ ms) c path folder n one few =
    all_show ms (with_text c (Folder path folder) (decimal n) (Some m)) path folder (n + 1) (omega arith) (omega (arith, few))
    ∙ (ap (λ x. with_folder_changed x (Folder path folder) (with_messages (n + 1) ms)) (shows_message n (message_number n one (omega (arith, few))) c path folder m)
    ∙ changed_twice (mailbox_in c) (Folder path folder) (folder_with n m) (with_messages (n + 1) ms))

-- one number more changes nothing of which is the first
first_more : (numbers : List ℕ) (n m : ℕ) → first_of (numbers ++ n ∷ []) m ≡ first_of numbers n
first_more [] n m = refl
first_more (first ∷ numbers) n m = refl

pub first_on : (t : Taken) (ms : List (List ℕ)) → first_of (taken_on t ms).numbers ((taken_on t ms).highest + 1) ≡ first_of t.numbers (t.highest + 1)
unfolding taken_on
first_on t [] = refl
first_on t (m ∷ ms) = first_on (with_number (t.highest + 1) t) ms ∙ first_more t.numbers (t.highest + 1) (t.highest + 1 + 1)

module _ (run : ℕ) (few : run < 2 ^ 128) (folder : List ℕ) (p : Place) (telling : Telling) (first : ℕ) where
  abbrev silent : Bool
  silent = telling.silent

  -- what is written of the messages, of which the first has this number
  abbrev line : Writing
  line = telling.line first

  module _ (c : Contents) (top : ℕ) (roomy : IsRoomy c p top) (low : top < 999999) (ns : List ℕ) (v : View) (is : Is true ns v c) (h : Hand) (numbers : List ℕ) (begins : first_of numbers (top + 1) ≡ first) where
    abbrev n : ℕ
    n = top + 1

    abbrev later : List ℕ → Contents
    later bytes = with_text c p (decimal n) (Some bytes)

    one_gives : (bytes : List ℕ) → Gives (by_view true) v h [] (message_stored run p top bytes) (Stores c p n bytes h)
    one_gives bytes = stored_gives run few p c roomy.there top low (roomy.above n (omega arith) (omega (arith, low))) bytes ns v h [] is (λ named. roomy.free (temp_name run h.next) (temp_is run h.next few named))

    -- and its line is written
    abbrev TakesOne : List ℕ → List ℕ → View → Hand → List ℕ → Result ℕ CommandFault → Type 0
    TakesOne bytes text z j left (Ok m) = (m ≡ n) × Is true z.numbers z (later bytes) × (j ≡ used h) × (left ≡ text)
    TakesOne bytes text z j left (Err e) = e ≡ fault.Memory

    told_gives : (b : Bool) (bytes text : List ℕ) (z : View) (left : List ℕ) → Is true z.numbers z (later bytes) → left ≡ told b (line_of line n bytes) ++ text → Gives (by_view true) z (used h) left (told_if b (line_of line n bytes) >>= (λ done. Return (Ok n))) (TakesOne bytes text)
    unfolding Gives bind ◌>>=◌
    told_gives true bytes text z left same rest = (refl, same, refl, rest)
    told_gives false bytes text z left same rest =
        say_view (by_view true) z of_sink (line_of line n bytes) text left (used h) (λ done. Return (Ok n)) (TakesOne bytes text) (line_some (line n bytes)) rest (refl, same, refl, refl)

    pub taken_gives : (bytes text : List ℕ) → Gives (by_view true) v h (told silent (line_of line n bytes) ++ text) (message_taken run folder p telling numbers top bytes) (TakesOne bytes text)
    unfolding message_taken
    taken_gives bytes text =
        gives_on (by_view true) v h (told silent (line_of line n bytes) ++ text) (lifted (of_plan folder) (message_stored run p top bytes)) (λ number. message_told telling numbers number bytes >>= (λ done. Return (Ok number)))
        (λ z j left r. (left ≡ told silent (line_of line n bytes) ++ text) × ((q : Result ℕ PlanFault) × (r ≡ converted (of_plan folder) q) × Stores c p n bytes h z j [] q)) (TakesOne bytes text)
        (lifted_gives v h (told silent (line_of line n bytes) ++ text) (of_plan folder) (message_stored run p top bytes) (Stores c p n bytes h) (one_gives bytes))
        (λ z j left m g. good z j left m g.0 g.1.0 g.1.1 g.1.2)
        (λ z j left e g. bad z j left e g.1.0 g.1.1 g.1.2)
      where
        good : (z : View) (j : Hand) (left : List ℕ) (m : ℕ) → left ≡ told silent (line_of line n bytes) ++ text → (q : Result ℕ PlanFault) → Ok m ≡ converted (of_plan folder) q → Stores c p n bytes h z j [] q
            → Gives (by_view true) z j left (message_told telling numbers m bytes >>= (λ done. Return (Ok m))) (TakesOne bytes text)
        good z j left m rest (Ok k) e s =
            let same : k ≡ m = cc (e) in
            subst (λ x. Gives (by_view true) z j left (message_told telling numbers x bytes >>= (λ done. Return (Ok x))) (TakesOne bytes text)) (sym s.0 ∙ same)
            (subst (λ i. Gives (by_view true) z i left (message_told telling numbers n bytes >>= (λ done. Return (Ok n))) (TakesOne bytes text)) (sym s.2)
            (subst (λ f. Gives (by_view true) z (used h) left (told_if silent (line_of (telling.line f) n bytes) >>= (λ done. Return (Ok n))) (TakesOne bytes text)) (sym begins) (told_gives silent bytes text z left s.1 rest)))
        good z j left m rest (Err x) e s = absurd (cc (e))

        bad : (z : View) (j : Hand) (left : List ℕ) (e : CommandFault) (q : Result ℕ PlanFault) → Err e ≡ converted (of_plan folder) q → Stores c p n bytes h z j [] q → e ≡ fault.Memory
        bad z j left e (Ok k) f s = absurd (cc (f))
        bad z j left e (Err x) f s = let same : e ≡ of_plan folder x = cc (f) in same ∙ ap (of_plan folder) s

  -- messages one behind the other
  abbrev pub TakesAll : Contents → Taken → List (List ℕ) → Hand → List ℕ → View → Hand → List ℕ → Result Taken CommandFault → Type 0
  TakesAll c t ms h text z j left (Ok u) = (u ≡ taken_on t ms) × Is true z.numbers z (all_put c p (t.highest + 1) ms) × (j.context ≡ h.context) × (left ≡ text)
  TakesAll c t ms h text z j left (Err e) = e ≡ fault.Memory

  pub all_give : (ms : List (List ℕ)) (c : Contents) (t : Taken) → IsRoomy c p t.highest → t.highest + length ms ≤ 999999 → first_of t.numbers (t.highest + 1) ≡ first → (ns : List ℕ) (v : View) → Is true ns v c → (h : Hand) (text : List ℕ)
      → Gives (by_view true) v h (told silent (lines_from line (t.highest + 1) ms) ++ text) (all_taken run folder p telling t ms) (TakesAll c t ms h text)
  unfolding Gives all_taken all_put taken_on lines_from
  all_give [] c t roomy room begins ns v is h text = (refl, (is.0, refl), refl, none_told silent)
    where
      none_told : (b : Bool) → told b [] ++ text ≡ text
      none_told true = refl
      none_told false = refl
  all_give (m ∷ ms) c t roomy room begins ns v is h text =
      subst (λ x. Gives (by_view true) v h x (message_taken run folder p telling t.numbers t.highest m >>= (λ n. all_taken run folder p telling (with_number n t) ms)) (TakesAll c t (m ∷ ms) h text))
      (sym (told_both silent (line_of line (t.highest + 1) m) (lines_from line (t.highest + 1 + 1) ms) text))
      (gives_on (by_view true) v h (told silent (line_of line (t.highest + 1) m) ++ (told silent (lines_from line (t.highest + 1 + 1) ms) ++ text)) (message_taken run folder p telling t.numbers t.highest m) (λ n. all_taken run folder p telling (with_number n t) ms)
      (TakesOne c t.highest roomy (omega (arith, room)) ns v is h t.numbers begins m (told silent (lines_from line (t.highest + 1 + 1) ms) ++ text)) (TakesAll c t (m ∷ ms) h text)
      (taken_gives c t.highest roomy (omega (arith, room)) ns v is h t.numbers begins m (told silent (lines_from line (t.highest + 1 + 1) ms) ++ text))
      (λ z j left n one.
      subst (λ k. Gives (by_view true) z j left (all_taken run folder p telling (with_number k t) ms) (TakesAll c t (m ∷ ms) h text)) (sym one.0)
      (subst (λ x. Gives (by_view true) z j x (all_taken run folder p telling (with_number (t.highest + 1) t) ms) (TakesAll c t (m ∷ ms) h text)) (sym one.3)
      (gives_more (by_view true) z j (told silent (lines_from line (t.highest + 1 + 1) ms) ++ text) (all_taken run folder p telling (with_number (t.highest + 1) t) ms)
      (TakesAll (with_text c p (decimal (t.highest + 1)) (Some m)) (with_number (t.highest + 1) t) ms j text) (TakesAll c t (m ∷ ms) h text)
      (all_give ms (with_text c p (decimal (t.highest + 1)) (Some m)) (with_number (t.highest + 1) t) (roomy_next c p t.highest m (omega (arith, room)) roomy) (omega (arith, room)) (first_more t.numbers (t.highest + 1) (t.highest + 1 + 1) ∙ begins) z.numbers z one.1 j text)
      (λ y i rest r g. more j one.2 y i rest r g))))
      (λ z j left e f. f))
    where
      more : (j : Hand) → j ≡ used h → (y : View) (i : Hand) (rest : List ℕ) (r : Result Taken CommandFault) → TakesAll (with_text c p (decimal (t.highest + 1)) (Some m)) (with_number (t.highest + 1) t) ms j text y i rest r → TakesAll c t (m ∷ ms) h text y i rest r
      more j same y i rest (Ok u) g = (g.0, g.1, g.2 ∙ ap (λ x. x.context) same, g.3)
      more j same y i rest (Err e) g = g
