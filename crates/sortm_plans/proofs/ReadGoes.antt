-- Messages are read as the pledge of `sortm` has it, one after another.
use Rattle.std.proofs.Common.{◌≡◌, ◌++◌, ◌∷◌, [], ℕ, true, List, Ok, refl, sym, ◌∙◌, ap, subst, map, append-nil, append_assoc}
use Rattle.mh_base.specs.Entries.{entry_text}
use Rattle.mh_base.specs.declared.entry.Entry.TheVariants.{Number}
use Rattle.folder_files.specs.Deeds.{Deed, did}
use Rattle.folder_files.specs.declared.place.Place.{Place}
use Rattle.folder_files.specs.declared.step.Answer.TheVariants as answer
use Rattle.folder_files.specs.declared.step.Step.{Step}
use Rattle.folder_files.specs.declared.step.Step.TheVariants as step
use Rattle.file_plans.specs.Asking.{read}
use Rattle.file_plans.specs.Framing.{AsksOnly}
use Rattle.file_plans.specs.Plan.{Hand, Return, ask, bind, lifted, ◌>>=◌}
use Rattle.file_plans.specs.declared.answers.Reading.{Reading}
use Rattle.file_plans.specs.declared.answers.Reading.TheVariants as reading
use Rattle.file_plans.proofs.Framing.{AnyStep, asks_none, asks_then}
use Rattle.step_plans.specs.CommandFaults.{of_stop}
use Rattle.step_plans.specs.ContextCommit.{LIMIT_BYTES}
use Rattle.step_plans.specs.Pledges.{Pledge}
use Rattle.step_plans.specs.declared.command_fault.CommandFault.TheVariants as fault
use Rattle.step_plans.proofs.Going.{Goes, Outcome, goes_then, okay}
use Rattle.step_plans.proofs.Lasting.{KeptBy}
use Rattle.step_plans.proofs.Stepping.{goes_end, goes_read, goes_return}
use Rattle.command_stages.specs.Texts.{too_large}
use Rattle.message_places.specs.Places.{is_in}
use Rattle.message_places.proofs.NumberLists.{in_head, in_tail}
use Rattle.sortm_plans.specs.Keys.{date_key, text_key}
use Rattle.sortm_plans.specs.Ordered.{order_by_dates, order_by_texts}
use Rattle.sortm_plans.specs.Reading.{date_order_read, keys_read, message_by, message_read, order_read, text_order_read}
use Rattle.sortm_plans.specs.SortMoves.{HaveRead, order_by, read_next, read_none, read_on}
use Rattle.sortm_plans.specs.declared.job.SortKey.{SortKey}
use Rattle.sortm_plans.specs.declared.job.SortKey.TheVariants as key
use Rattle.sortm_plans.proofs.Zipped.{map_more}

-- what was read so stays so
pub read_kept : (p : Place) (numbers : List ℕ) (texts : List (List ℕ)) → KeptBy AnyStep (HaveRead p numbers texts)
read_kept p numbers texts own s a any f = read_on f

-- which steps the readings ask for
module _ (P : Step → Type 0) (p : Place) where
  asks_by : (n : ℕ) (r : Reading) → AsksOnly P (message_by p n r)
  asks_by n (reading.Content bytes) = asks_none P _
  asks_by n (reading.Long l) = asks_none P _
  asks_by n reading.Gone = asks_none P _

  asks_one : (n : ℕ) → P (step.Read p (entry_text (Number n)) LIMIT_BYTES) → AsksOnly P (lifted of_stop (read p (entry_text (Number n)) LIMIT_BYTES))
  unfolding AsksOnly read ask bind ◌>>=◌ lifted
  asks_one n f = (f, λ a. tt)

  asks_message : (n : ℕ) → P (step.Read p (entry_text (Number n)) LIMIT_BYTES) → AsksOnly P (message_read p n)
  unfolding message_read
  asks_message n f = asks_then P (lifted of_stop (read p (entry_text (Number n)) LIMIT_BYTES)) (message_by p n) (asks_one n f) (asks_by n)

  asks_keys : {K : Type 0} (key_of : List ℕ → K) (ns : List ℕ) → ((n : ℕ) → is_in n ns ≡ true → P (step.Read p (entry_text (Number n)) LIMIT_BYTES)) → (keys : List K) → AsksOnly P (keys_read key_of p keys ns)
  unfolding keys_read
  asks_keys key_of [] f keys = asks_none P (Ok keys)
  asks_keys key_of (n ∷ ns) f keys =
      asks_then P (message_read p n) (λ bytes. keys_read key_of p (keys ++ key_of bytes ∷ []) ns) (asks_message n (f n (in_head n ns))) (λ bytes. asks_keys key_of ns (λ k e. f k (in_tail n k ns e)) (keys ++ key_of bytes ∷ []))

  pub asks_order : (by : SortKey) (ns : List ℕ) → ((n : ℕ) → is_in n ns ≡ true → P (step.Read p (entry_text (Number n)) LIMIT_BYTES)) → AsksOnly P (order_read p by ns)
  unfolding date_order_read text_order_read
  asks_order (key.Date field) ns f = asks_then P (keys_read (date_key field) p [] ns) (λ dates. Return (Ok (order_by_dates dates ns))) (asks_keys (date_key field) ns f []) (λ dates. asks_none P _)
  asks_order (key.Text field) ns f = asks_then P (keys_read (text_key field) p [] ns) (λ texts. Return (Ok (order_by_texts texts ns))) (asks_keys (text_key field) ns f []) (λ texts. asks_none P _)

module _ (w : Pledge) (p : Place) where
  -- one message
  abbrev Content : ℕ → List Deed → Outcome (List ℕ)
  Content n own later j bytes = later ≡ did (step.Read p (entry_text (Number n)) LIMIT_BYTES) (answer.Content bytes) ∷ own

  message_goes : (n : ℕ) (own : List Deed) (h : Hand) → Goes w own h (message_read p n) (okay (Content n own))
  unfolding message_read
  message_goes n own h =
      goes_read w own h of_stop (okay (Content n own)) p (entry_text (Number n)) LIMIT_BYTES (message_by p n)
      (λ bytes. goes_return w _ h bytes (okay (Content n own)) refl)
      (λ l. goes_end w _ h (too_large l) (Content n own))
      (goes_end w _ h (fault.Meddled p (entry_text (Number n))) (Content n own))

  -- the keys of all that were read, with their bytes
  pub record Keys {K : Type 0} (key_of : List ℕ → K) (numbers : List ℕ) (later : List Deed) (keys : List K) : Type 0 where
    pub texts : List (List ℕ)
    pub read : HaveRead p numbers texts later
    pub are : keys ≡ map key_of texts

  abbrev Reads : {K : Type 0} (key_of : List ℕ → K) (numbers : List ℕ) → Outcome (List K)
  Reads key_of numbers later j keys = Keys key_of numbers later keys

  keys_go : {K : Type 0} (key_of : List ℕ → K) (ns before : List ℕ) (texts : List (List ℕ)) (keys : List K) → keys ≡ map key_of texts → (own : List Deed) (h : Hand) → HaveRead p before texts own
      → Goes w own h (keys_read key_of p keys ns) (okay (Reads key_of (before ++ ns)))
  unfolding keys_read
  keys_go key_of [] before texts keys are own h f = goes_return w own h keys (okay (Reads key_of (before ++ []))) (record { texts = texts; read = subst (λ l. HaveRead p l texts own) (sym (append-nil before)) f; are = are })
  keys_go key_of (n ∷ ns) before texts keys are own h f =
      goes_then w own h (message_read p n) (λ bytes. keys_read key_of p (keys ++ key_of bytes ∷ []) ns) (Content n own) (Reads key_of (before ++ n ∷ ns)) (message_goes n own h)
      (λ later j bytes is.
      subst (λ l. Goes w later j (keys_read key_of p (keys ++ key_of bytes ∷ []) ns) (okay (Reads key_of l))) (append_assoc before (n ∷ []) ns)
      (keys_go key_of ns (before ++ n ∷ []) (texts ++ bytes ∷ []) (keys ++ key_of bytes ∷ []) (ap (λ l. l ++ key_of bytes ∷ []) are ∙ sym (map_more key_of texts bytes)) later j
      (subst (HaveRead p (before ++ n ∷ []) (texts ++ bytes ∷ [])) (sym is) (read_next n (LIMIT_BYTES, refl) f))))

  -- the order by them
  pub record Ordered (by : SortKey) (numbers : List ℕ) (later : List Deed) (order : List ℕ) : Type 0 where
    pub texts : List (List ℕ)
    pub read : HaveRead p numbers texts later
    pub are : order ≡ order_by by texts numbers

  abbrev pub Orders : (by : SortKey) (numbers : List ℕ) → Outcome (List ℕ)
  Orders by numbers later j order = Ordered by numbers later order

  pub order_goes : (by : SortKey) (numbers : List ℕ) (own : List Deed) (h : Hand) → Goes w own h (order_read p by numbers) (okay (Orders by numbers))
  unfolding date_order_read text_order_read
  order_goes (key.Date field) numbers own h =
      goes_then w own h (keys_read (date_key field) p [] numbers) (λ dates. Return (Ok (order_by_dates dates numbers))) (Reads (date_key field) numbers) (Orders (key.Date field) numbers) (keys_go (date_key field) numbers [] [] [] refl own h read_none)
      (λ later j dates f. goes_return w later j (order_by_dates dates numbers) (okay (Orders (key.Date field) numbers)) (record { texts = f.texts; read = f.read; are = ap (λ l. order_by_dates l numbers) f.are }))
  order_goes (key.Text field) numbers own h =
      goes_then w own h (keys_read (text_key field) p [] numbers) (λ texts. Return (Ok (order_by_texts texts numbers))) (Reads (text_key field) numbers) (Orders (key.Text field) numbers) (keys_go (text_key field) numbers [] [] [] refl own h read_none)
      (λ later j texts f. goes_return w later j (order_by_texts texts numbers) (okay (Orders (key.Text field) numbers)) (record { texts = f.texts; read = f.read; are = ap (λ l. order_by_texts l numbers) f.are }))
