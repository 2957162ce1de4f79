-- Parts that leave what the hand knows of the context.
use Rattle.std.proofs.Common.{◌≡◌, ◌^◌, ◌∷◌, ℕ, Bool, true, false, List, Option, Result, Ok, Err, nat_lt, length}
use Rattle.std.specs.Prelude.{if◌then◌else◌}
use Rattle.mh_base.specs.Entries.{entry_text}
use Rattle.mh_base.specs.declared.entry.Entry.TheVariants.{Sequences}
use Rattle.mh_profile.specs.declared.named_value.NamedValue.{NamedValue}
use Rattle.folder_files.specs.Deeds.{Deed, did}
use Rattle.folder_files.specs.declared.place.Place.{Place}
use Rattle.folder_files.specs.declared.step.Answer.{Answer}
use Rattle.folder_files.specs.declared.step.Step.{Step}
use Rattle.file_plans.specs.Asking.{create, entered_of, rename, sync_file, sync_folder, touched_of}
use Rattle.file_plans.specs.Plan.{Ask, Hand, Hear, Note, Plan, Recall, Return, Say, Try, after, ask, bind, lifted, ◌>>=◌}
use Rattle.file_plans.specs.declared.answers.Entered.{Entered}
use Rattle.file_plans.specs.declared.answers.Entered.TheVariants as entered
use Rattle.file_plans.specs.declared.answers.Touched.{Touched}
use Rattle.file_plans.specs.declared.answers.Touched.TheVariants as touched
use Rattle.step_plans.specs.ContextCommit.{LIMIT_BYTES}
use Rattle.step_plans.specs.Hands.{named, named_by}
use Rattle.step_plans.specs.Replacing.{created, entered_once, held_to, made_safe, renamed, replaced, synced, written}
use Rattle.step_plans.specs.declared.fault.PlanFault.TheVariants as fault
use Rattle.step_plans.proofs.Going.{Outcome}
use Rattle.sequence_commits.specs.Committing.{sequences_replaced}
use Rattle.opening_plans.proofs.Meeting.{Meets}

-- with a hand that knows this of the context, the plan notes none that knows another
unfoldable pub KeepsHand : {R : Type 0} → Option (List NamedValue) → Plan R → Type 0
KeepsHand c (Return r) = Unit {0}
KeepsHand c (Ask s next) = (a : Answer) → KeepsHand c (next a)
KeepsHand c (Try s next) = (a : Answer) → KeepsHand c (next a)
KeepsHand c (Say piece next) = KeepsHand c next
KeepsHand c (Hear most next) = (piece : List ℕ) → KeepsHand c (next piece)
KeepsHand c (Recall next) = (h : Hand) → h.context ≡ c → KeepsHand c (next h)
KeepsHand c (Note j next) = (j.context ≡ c) × KeepsHand c next

-- so the hand knows that at its end
pub meets_hand : {R : Type 0} (May A : List Deed → Step → Type 0) (c : Option (List NamedValue)) (own : List Deed) (h : Hand) (p : Plan R) (Q : Outcome R) → h.context ≡ c → KeepsHand c p → Meets May A own h p Q
    → Meets May A own h p (λ later j r. (j.context ≡ c) × Q later j r)
unfolding Meets KeepsHand
meets_hand May A c own h (Return r) Q e k f = (e, f)
meets_hand May A c own h (Ask s next) Q e k f = λ m. ((f m).0, λ a row live. meets_hand May A c (did s a ∷ own) h (next a) Q e (k a) ((f m).1 a row live))
meets_hand May A c own h (Try s next) Q e k f = λ m. ((f m).0, λ a row. meets_hand May A c (did s a ∷ own) h (next a) Q e (k a) ((f m).1 a row))
meets_hand May A c own h (Say piece next) Q e k f = meets_hand May A c own h next Q e k f
meets_hand May A c own h (Hear most next) Q e k f = λ piece short. meets_hand May A c own h (next piece) Q e (k piece) (f piece short)
meets_hand May A c own h (Recall next) Q e k f = meets_hand May A c own h (next h) Q e (k h e) f
meets_hand May A c own h (Note j next) Q e k f = meets_hand May A c own j next Q k.0 k.1 f

module _ (c : Option (List NamedValue)) where
  hand_bind : {S R : Type 0} (p : Plan S) (k : S → Plan R) → KeepsHand c p → ((a : S) → KeepsHand c (k a)) → KeepsHand c (bind p k)
  unfolding KeepsHand bind
  hand_bind (Return r) k f g = g r
  hand_bind (Ask s next) k f g = λ a. hand_bind (next a) k (f a) g
  hand_bind (Try s next) k f g = λ a. hand_bind (next a) k (f a) g
  hand_bind (Say piece next) k f g = hand_bind next k f g
  hand_bind (Hear most next) k f g = λ piece. hand_bind (next piece) k (f piece) g
  hand_bind (Recall next) k f g = λ h e. hand_bind (next h) k (f h e) g
  hand_bind (Note j next) k f g = (f.0, hand_bind next k f.1 g)

  hand_after : {S R E : Type 0} (k : S → Plan (Result R E)) → ((a : S) → KeepsHand c (k a)) → (r : Result S E) → KeepsHand c (after k r)
  unfolding KeepsHand
  hand_after k g (Ok a) = g a
  hand_after k g (Err e) = tt

  hand_then : {S R E : Type 0} (p : Plan (Result S E)) (k : S → Plan (Result R E)) → KeepsHand c p → ((a : S) → KeepsHand c (k a)) → KeepsHand c (p >>= k)
  unfolding ◌>>=◌
  hand_then p k f g = hand_bind p (after k) f (hand_after k g)

  -- one step with the answers of a name that is made, and of one that is there
  entered_keeps : (p : Place) (n : List ℕ) (e : Entered) → KeepsHand c (entered_once p n e)
  unfolding KeepsHand
  entered_keeps p n entered.Done = tt
  entered_keeps p n entered.Exists = tt
  entered_keeps p n entered.Gone = tt

  held_keeps : (p : Place) (n : List ℕ) (t : Touched) → KeepsHand c (held_to p n t)
  unfolding KeepsHand
  held_keeps p n touched.Done = tt
  held_keeps p n touched.Gone = tt

  created_keeps : (p : Place) (n bytes : List ℕ) → KeepsHand c (created p n bytes)
  unfolding KeepsHand created create ask lifted bind ◌>>=◌
  created_keeps p n bytes = λ a. entered_keeps p n (entered_of a)

  safe_keeps : (p : Place) (n : List ℕ) → KeepsHand c (made_safe p n)
  unfolding KeepsHand made_safe sync_file ask lifted bind ◌>>=◌
  safe_keeps p n = λ a. held_keeps p n (touched_of a)

  renamed_keeps : (p : Place) (n to : List ℕ) → KeepsHand c (renamed p n to)
  unfolding KeepsHand renamed rename ask lifted bind ◌>>=◌
  renamed_keeps p n to = λ a. held_keeps p n (touched_of a)

  synced_keeps : (p : Place) (n : List ℕ) → KeepsHand c (synced p n)
  unfolding KeepsHand synced sync_folder ask lifted bind ◌>>=◌
  synced_keeps p n = λ a. held_keeps p n (touched_of a)

  -- a number is used
  named_keeps : (run : ℕ) → KeepsHand c (named run)
  unfolding KeepsHand named
  named_keeps run = λ h e. go h e (nat_lt h.next (2 ^ 64))
    where
      go : (h : Hand) → h.context ≡ c → (b : Bool) → KeepsHand c (named_by run h b)
      go h e true = (e, tt)
      go h e false = tt

  ended_keeps : {R E : Type 0} (r : Result R E) → KeepsHand c (Return r)
  unfolding KeepsHand
  ended_keeps r = tt

  written_keeps : (run : ℕ) (p : Place) (bytes : List ℕ) → KeepsHand c (written run p bytes)
  unfolding written
  written_keeps run p bytes =
      hand_then (named run) (λ temp. created p temp bytes >>= (λ made. made_safe p temp >>= (λ safe. Return (Ok temp)))) (named_keeps run)
      (λ temp. hand_then (created p temp bytes) (λ made. made_safe p temp >>= (λ safe. Return (Ok temp))) (created_keeps p temp bytes)
      (λ made. hand_then (made_safe p temp) (λ safe. Return (Ok temp)) (safe_keeps p temp) (λ safe. ended_keeps (Ok temp))))

  replaced_keeps : (run : ℕ) (p : Place) (name bytes : List ℕ) → KeepsHand c (replaced run p name bytes)
  unfolding replaced
  replaced_keeps run p name bytes =
      hand_then (written run p bytes) (λ temp. renamed p temp name >>= (λ moved. synced p name)) (written_keeps run p bytes)
      (λ temp. hand_then (renamed p temp name) (λ moved. synced p name) (renamed_keeps p temp name) (λ moved. synced_keeps p name))

  -- a folder's text is replaced
  pub text_keeps : (run : ℕ) (p : Place) (text : List ℕ) → KeepsHand c (sequences_replaced run p text)
  unfolding sequences_replaced
  text_keeps run p text = go (nat_lt LIMIT_BYTES (length text))
    where
      go : (b : Bool) → KeepsHand c (if b then Return (Err (fault.TooLarge (length text))) else replaced run p (entry_text Sequences) text)
      go true = ended_keeps (Err (fault.TooLarge (length text)))
      go false = replaced_keeps run p (entry_text Sequences) text
