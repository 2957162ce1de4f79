-- What is read of messages alone: their bytes, or the length of the first that is too long.
use Rattle.std.proofs.Common.{◌≡◌, ◌++◌, ◌∷◌, [], ℕ, Bool, true, false, List, Some, None, Result, Ok, Err, refl, sym, ◌∙◌, ap, subst, length, map, nat_lt, append-nil, append_assoc}
use Rattle.std.specs.Prelude.{decimal, is_some, if◌then◌else◌}
use Rattle.mh_base.specs.Entries.{entry_text}
use Rattle.mh_base.specs.declared.entry.Entry.TheVariants.{Number}
use Rattle.msg_ranges.proofs.Rising.{lists, first_of, rest_of}
use Rattle.folder_files.specs.Steps.{read_file_answer}
use Rattle.folder_files.specs.declared.place.Place.{Place}
use Rattle.folder_files.specs.declared.step.Answer.{Answer}
use Rattle.folder_files.specs.declared.step.Answer.TheVariants as answer
use Rattle.folder_files.specs.declared.step.Step.TheVariants as step
use Rattle.file_plans.specs.Contents.{Contents, filled}
use Rattle.file_plans.specs.Giving.{Gives}
use Rattle.file_plans.specs.Plan.{Hand, Return}
use Rattle.file_plans.specs.Views.{View, by_view, fits_view, view_after}
use Rattle.file_plans.proofs.Giving.{gives_more, gives_on}
use Rattle.file_plans.proofs.Onward.{Is, fits_at, onward}
use Rattle.file_plans.proofs.Viewing.{read_view}
use Rattle.step_plans.specs.CommandFaults.{of_stop}
use Rattle.step_plans.specs.ContextCommit.{LIMIT_BYTES}
use Rattle.step_plans.specs.declared.command_fault.CommandFault.{CommandFault}
use Rattle.command_stages.specs.Texts.{too_large}
use Rattle.sortm_plans.specs.Keys.{date_key, text_key}
use Rattle.sortm_plans.specs.Ordered.{order_by_dates, order_by_texts}
use Rattle.sortm_plans.specs.Reading.{date_order_read, keys_read, message_by, message_read, order_read, text_order_read}
use Rattle.sortm_plans.specs.SortMoves.{order_by}
use Rattle.sortm_plans.specs.SortOutcome.{first_long}
use Rattle.sortm_plans.specs.declared.job.SortKey.{SortKey}
use Rattle.sortm_plans.specs.declared.job.SortKey.TheVariants as key
use Rattle.refile_plans.proofs.MovedGiven.{some_of}
use Rattle.message_moves.proofs.MoveGiven.{not_gone_read}

content_is : (bytes b : List ℕ) → answer.Content b ≡ read_file_answer LIMIT_BYTES (Some bytes) → (nat_lt LIMIT_BYTES (length bytes) ≡ false) × (b ≡ bytes)
content_is bytes b e = go (nat_lt LIMIT_BYTES (length bytes)) refl e
  where
    go : (v : Bool) → nat_lt LIMIT_BYTES (length bytes) ≡ v → answer.Content b ≡ (if v then answer.Long (length bytes) else answer.Content bytes) → (nat_lt LIMIT_BYTES (length bytes) ≡ false) × (b ≡ bytes)
    go true w f = absurd (cc (f))
    go false w f = (w, (let same : b ≡ bytes = cc (f) in same))

long_is : (bytes : List ℕ) (l : ℕ) → answer.Long l ≡ read_file_answer LIMIT_BYTES (Some bytes) → (nat_lt LIMIT_BYTES (length bytes) ≡ true) × (l ≡ length bytes)
long_is bytes l e = go (nat_lt LIMIT_BYTES (length bytes)) refl e
  where
    go : (v : Bool) → nat_lt LIMIT_BYTES (length bytes) ≡ v → answer.Long l ≡ (if v then answer.Long (length bytes) else answer.Content bytes) → (nat_lt LIMIT_BYTES (length bytes) ≡ true) × (l ≡ length bytes)
    go true w f = (w, (let same : l ≡ length bytes = cc (f) in same))
    go false w f = absurd (cc (f))

number_same : (n : ℕ) → entry_text (Number n) ≡ decimal n
unfolding entry_text
number_same n = refl

module _ (p : Place) (c : Contents) (ns : List ℕ) (h : Hand) where
  abbrev text_at : ℕ → List ℕ
  text_at n = filled (c.texts p (decimal n))

  -- one message that stands there
  abbrev One : List ℕ → List ℕ → View → Hand → List ℕ → Result (List ℕ) CommandFault → Type 0
  One bytes text z j left (Ok b) = ((left ≡ text) × (j ≡ h) × Is true ns z c) × ((nat_lt LIMIT_BYTES (length bytes) ≡ false) × (b ≡ bytes))
  One bytes text z j left (Err e) = ((left ≡ text) × (j ≡ h) × Is true ns z c) × ((nat_lt LIMIT_BYTES (length bytes) ≡ true) × (e ≡ too_large (length bytes)))

  message_gives : (n : ℕ) (bytes : List ℕ) → c.texts p (decimal n) ≡ Some bytes → (v : View) (text : List ℕ) → Is true ns v c → Gives (by_view true) v h text (message_read p n) (One bytes text)
  unfolding Gives message_read
  message_gives n bytes there v text is =
      read_view true v of_stop h text (One bytes text) p (entry_text (Number n)) LIMIT_BYTES (message_by p n)
      (λ b f. let t = content_is bytes b (told (answer.Content b) f) in ((refl, refl, same (answer.Content b)), t))
      (λ l f. let t = long_is bytes l (told (answer.Long l) f) in ((refl, refl, same (answer.Long l)), (t.0, ap too_large t.1)))
      (λ f. absurd (not_gone_read bytes (told answer.Gone f)))
    where
      told : (a : Answer) → fits_view true v (step.Read p (entry_text (Number n)) LIMIT_BYTES) a → a ≡ read_file_answer LIMIT_BYTES (Some bytes)
      told a f = fits_at true ns v c (step.Read p (entry_text (Number n)) LIMIT_BYTES) a is f refl ∙ ap (read_file_answer LIMIT_BYTES) (ap (c.texts p) (number_same n) ∙ there)

      same : (a : Answer) → Is true ns (view_after v (step.Read p (entry_text (Number n)) LIMIT_BYTES) a) c
      same a = onward true ns v c (step.Read p (entry_text (Number n)) LIMIT_BYTES) a is refl

  -- the keys of all
  abbrev texts : List ℕ → List (List ℕ)
  texts numbers = map text_at numbers

  abbrev All : {K : Type 0} → (List ℕ → K) → List K → List ℕ → List ℕ → View → Hand → List ℕ → Result (List K) CommandFault → Type 0
  All key_of before numbers text z j left (Ok keys) = ((left ≡ text) × (j ≡ h) × Is true ns z c) × ((first_long (texts numbers) ≡ None) × (keys ≡ before ++ map key_of (texts numbers)))
  All key_of before numbers text z j left (Err e) = ((left ≡ text) × (j ≡ h) × Is true ns z c) × ((l : ℕ) × (first_long (texts numbers) ≡ Some l) × (e ≡ too_large l))

  first_short : (t : List ℕ) (ts : List (List ℕ)) → nat_lt LIMIT_BYTES (length t) ≡ false → first_long (t ∷ ts) ≡ first_long ts
  first_short t ts e = rw e refl

  first_is_long : (t : List ℕ) (ts : List (List ℕ)) → nat_lt LIMIT_BYTES (length t) ≡ true → first_long (t ∷ ts) ≡ Some (length t)
  first_is_long t ts e = rw e refl

  keys_give : {K : Type 0} (key_of : List ℕ → K) (numbers : List ℕ) → ((n : ℕ) → lists numbers n ≡ true → is_some (c.texts p (decimal n)) ≡ true) → (before : List K) (v : View) (text : List ℕ) → Is true ns v c
      → Gives (by_view true) v h text (keys_read key_of p before numbers) (All key_of before numbers text)
  unfolding Gives keys_read
  keys_give key_of [] stand before v text is = ((refl, refl, is), (refl, sym (append-nil before)))
  keys_give {K = K} key_of (n ∷ numbers) stand before v text is =
      gives_on (by_view true) v h text (message_read p n) (λ bytes. keys_read key_of p (before ++ key_of bytes ∷ []) numbers) (One bytes text) (All key_of before (n ∷ numbers) text) (message_gives n bytes there v text is)
      (λ z j left b f.
      subst (λ i. Gives (by_view true) z i left (keys_read key_of p (before ++ key_of b ∷ []) numbers) (All key_of before (n ∷ numbers) text)) (sym f.0.1)
      (subst (λ t. Gives (by_view true) z h t (keys_read key_of p (before ++ key_of b ∷ []) numbers) (All key_of before (n ∷ numbers) text)) (sym f.0.0)
      (gives_more (by_view true) z h text (keys_read key_of p (before ++ key_of b ∷ []) numbers) (All key_of (before ++ key_of b ∷ []) numbers text) (All key_of before (n ∷ numbers) text)
      (keys_give key_of numbers (rest_of {F = λ m. is_some (c.texts p (decimal m)) ≡ true} n numbers stand) (before ++ key_of b ∷ []) z text f.0.2) (longer b f.1.0 f.1.1))))
      (λ z j left e f. (f.0, (length bytes, first_is_long (text_at n) (texts numbers) (subst (λ t. nat_lt LIMIT_BYTES (length t) ≡ true) (sym here) f.1.0) ∙ ap (λ t. Some (length t)) here, f.1.1)))
    where
      found : (b : List ℕ) × (c.texts p (decimal n) ≡ Some b)
      found = some_of (c.texts p (decimal n)) (first_of {F = λ m. is_some (c.texts p (decimal m)) ≡ true} n numbers stand)

      bytes : List ℕ
      bytes = found.0

      there : c.texts p (decimal n) ≡ Some bytes
      there = found.1

      here : text_at n ≡ bytes
      here = ap filled there

      longer : (b : List ℕ) → nat_lt LIMIT_BYTES (length bytes) ≡ false → b ≡ bytes → (y : View) (i : Hand) (left : List ℕ) (r : Result (List K) CommandFault) → All key_of (before ++ key_of b ∷ []) numbers text y i left r → All key_of before (n ∷ numbers) text y i left r
      longer b short same y i left (Ok keys) g = (
        g.0,
        (
          first_short (text_at n) (texts numbers) (subst (λ t. nat_lt LIMIT_BYTES (length t) ≡ false) (sym here) short) ∙ g.1.0,
          g.1.1 ∙ (append_assoc before (key_of b ∷ []) (map key_of (texts numbers)) ∙ ap (λ t. before ++ key_of t ∷ map key_of (texts numbers)) (same ∙ sym here)),
        ),
      )
      longer b short same y i left (Err e) g = (g.0, (g.1.0, first_short (text_at n) (texts numbers) (subst (λ t. nat_lt LIMIT_BYTES (length t) ≡ false) (sym here) short) ∙ g.1.1, g.1.2))

  -- the numbers in order
  abbrev pub Orders : SortKey → List ℕ → List ℕ → View → Hand → List ℕ → Result (List ℕ) CommandFault → Type 0
  Orders by numbers text z j left (Ok order) = ((left ≡ text) × (j ≡ h) × Is true ns z c) × ((first_long (texts numbers) ≡ None) × (order ≡ order_by by (texts numbers) numbers))
  Orders by numbers text z j left (Err e) = ((left ≡ text) × (j ≡ h) × Is true ns z c) × ((l : ℕ) × (first_long (texts numbers) ≡ Some l) × (e ≡ too_large l))

  pub order_gives : (by : SortKey) (numbers : List ℕ) → ((n : ℕ) → lists numbers n ≡ true → is_some (c.texts p (decimal n)) ≡ true) → (v : View) (text : List ℕ) → Is true ns v c → Gives (by_view true) v h text (order_read p by numbers) (Orders by numbers text)
  unfolding Gives date_order_read text_order_read
  order_gives (key.Date field) numbers stand v text is =
      gives_on (by_view true) v h text (keys_read (date_key field) p [] numbers) (λ dates. Return (Ok (order_by_dates dates numbers))) (All (date_key field) [] numbers text) (Orders (key.Date field) numbers text) (keys_give (date_key field) numbers stand [] v text is)
      (λ z j left dates f. (f.0, (f.1.0, ap (λ l. order_by_dates l numbers) f.1.1))) (λ z j left e f. f)
  order_gives (key.Text field) numbers stand v text is =
      gives_on (by_view true) v h text (keys_read (text_key field) p [] numbers) (λ texts_. Return (Ok (order_by_texts texts_ numbers))) (All (text_key field) [] numbers text) (Orders (key.Text field) numbers text) (keys_give (text_key field) numbers stand [] v text is)
      (λ z j left keys f. (f.0, (f.1.0, ap (λ l. order_by_texts l numbers) f.1.1))) (λ z j left e f. f)
