-- What the moves of a message make of contents alone: under which name it stands, and that nothing else is changed.
use Rattle.std.proofs.Common.{◌≡◌, ◌<◌, ◌^◌, ℕ, Bool, true, false, List, Option, Some, None, Result, Ok, Err, refl, sym, ◌∙◌, ap, bytes_eq, nat_lt, length}
use Rattle.std.specs.Prelude.{is_some, if◌then◌else◌}
use Rattle.mh_base.specs.Entries.{entry_text, kind_of}
use Rattle.mh_base.specs.Numbers.{IsMsgNum}
use Rattle.mh_base.specs.declared.entry.Entry.TheVariants.{Held, Number}
use Rattle.mh_base.proofs.EntryKinds.{kind_of-entry_text}
use Rattle.folder_files.specs.Places.{same_place}
use Rattle.folder_files.specs.Steps.{read_file_answer}
use Rattle.folder_files.specs.declared.place.Place.{Place}
use Rattle.folder_files.specs.declared.step.Answer.{Answer}
use Rattle.folder_files.specs.declared.step.Answer.TheVariants as answer
use Rattle.folder_files.specs.declared.step.Step.TheVariants as step
use Rattle.folder_files.proofs.Names.{bytes_false, bytes_self}
use Rattle.folder_files.proofs.Sameness.{place_is}
use Rattle.file_plans.specs.Contents.{Contents, with_moved, with_text}
use Rattle.file_plans.specs.Giving.{Gives}
use Rattle.file_plans.specs.Plan.{Hand, Return, bind, fresh, ◌>>=◌}
use Rattle.file_plans.specs.Views.{View, by_view, fits_view, view_after}
use Rattle.file_plans.proofs.Existing.{at_name, at_self}
use Rattle.file_plans.proofs.Giving.{gives_more, gives_on}
use Rattle.file_plans.proofs.Onward.{Is, fits_at, onward}
use Rattle.file_plans.proofs.Viewing.{read_view}
use Rattle.step_plans.specs.ContextCommit.{LIMIT_BYTES}
use Rattle.step_plans.specs.Locking.{removed}
use Rattle.step_plans.specs.PlanFaults.{Planned, of_stop}
use Rattle.step_plans.specs.Replacing.{renamed, synced}
use Rattle.step_plans.specs.declared.fault.PlanFault.{PlanFault}
use Rattle.step_plans.specs.declared.fault.PlanFault.TheVariants as fault
use Rattle.step_plans.proofs.Cleared.{removed_gives}
use Rattle.step_plans.proofs.Replaced.{Fails, Leaves, Left, gives_next, left_as, renamed_gives, synced_gives}
use Rattle.message_moves.specs.Moving.{content_by, content_read, held_discarded, number_taken, readable}

-- alone no such part ends in a fault of its plan
abbrev pub Never : PlanFault → Type 0
Never e = ⊥

unfailed : (e : PlanFault) → Fails true fresh e → ⊥
unfailed fault.Faulted f = f
unfailed (fault.Locked p) f = f refl
unfailed (fault.Meddled p n) f = f refl
unfailed fault.Full f = f
unfailed (fault.Absent p) f = f
unfailed (fault.TooLarge l) f = f
unfailed fault.Memory f = cc (f)

never_fails : (ns : List ℕ) (v : View) (c : Contents) (h : Hand) (text : List ℕ) (plan : Planned Unit) → Gives (by_view true) v h text plan (Leaves true ns c h (Fails true fresh)) → Gives (by_view true) v h text plan (Leaves true ns c h Never)
never_fails ns v c h text plan g = gives_more (by_view true) v h text plan (Leaves true ns c h (Fails true fresh)) (Leaves true ns c h Never) g same
  where
    same : (z : View) (j : Hand) (left : List ℕ) (r : Result Unit PlanFault) → Leaves true ns c h (Fails true fresh) z j left r → Leaves true ns c h Never z j left r
    same z j left (Ok u) f = f
    same z j left (Err e) f = unfailed e f

-- the message has the run's held name, and nothing stands at its number
abbrev pub aside : Contents → Place → ℕ → ℕ → List ℕ → Contents
aside c p run n bytes = with_text (with_text c p (entry_text (Number n)) None) p (entry_text (Held run n)) (Some bytes)

-- it was taken: this is its held name
pub record IsTaken (ns : List ℕ) (c : Contents) (p : Place) (run n : ℕ) (bytes : List ℕ) (h : Hand) (z : View) (j : Hand) (held : List ℕ) : Type 0 where
  pub name : held ≡ entry_text (Held run n)
  pub left : Left true ns (aside c p run n bytes) h z j

abbrev pub Takes : List ℕ → Contents → Place → ℕ → ℕ → List ℕ → Hand → View → Hand → List ℕ → Result (List ℕ) PlanFault → Type 0
Takes ns c p run n bytes h z j left (Ok held) = IsTaken ns c p run n bytes h z j held
Takes ns c p run n bytes h z j left (Err e) = ⊥

module _ (run : ℕ) (few : run < 2 ^ 128) (p : Place) (n : ℕ) (ok : IsMsgNum n) (bytes : List ℕ) (c : Contents) (there : c.texts p (entry_text (Number n)) ≡ Some bytes) where
  abbrev number : List ℕ
  number = entry_text (Number n)

  abbrev held : List ℕ
  held = entry_text (Held run n)

  apart : bytes_eq number held ≡ false
  apart = bytes_false number held (λ e. let same : Number n ≡ Held run n = sym (kind_of-entry_text (Number n) ok) ∙ (ap kind_of e ∙ kind_of-entry_text (Held run n) (few, ok)) in cc (same))

  moved_aside : with_moved c p number held ≡ aside c p run n bytes
  moved_aside = rw (apart, there) refl

  -- a message that stands at its number is held aside
  pub take_gives : (ns : List ℕ) (v : View) (h : Hand) (text : List ℕ) → Is true ns v c → Gives (by_view true) v h text (number_taken run p n) (Takes ns c p run n bytes h)
  unfolding Gives number_taken
  take_gives ns v h text is =
      gives_on (by_view true) v h text (renamed p number held) (λ moved. Return (Ok held)) (Leaves true ns (with_moved c p number held) h (Fails true fresh)) (Takes ns c p run n bytes h)
      (renamed_gives true ns p fresh number held v c h text is (λ e. rw there refl))
      (λ z j left u l. record { name = refl; left = left_as true ns (with_moved c p number held) (aside c p run n bytes) h z j (λ e. moved_aside) l })
      (λ z j left e f. unfailed e f)

  -- where the held name stood for nothing, a message that is held aside and then let go leaves its number, and nothing else is changed
  pub aside_left : c.texts p held ≡ None → with_text (aside c p run n bytes) p held None ≡ with_text c p number None
  aside_left free = (λ i. record { there = c.there; texts = λ q x. each q x i; outside = c.outside })
    where
      each : (q : Place) (x : List ℕ) → (with_text (aside c p run n bytes) p held None).texts q x ≡ (with_text c p number None).texts q x
      each =
          at_name p held (λ q x. (with_text (aside c p run n bytes) p held None).texts q x ≡ (with_text c p number None).texts q x)
          (rw (place_is p, bytes_self held, apart) (sym free)) (λ q x e. rw e refl)

  -- while it is held aside it stands under its held name
  pub aside_stands : (aside c p run n bytes).texts p held ≡ Some bytes
  aside_stands = rw (at_self p held) refl

-- what names of different places lead to may be changed in either order
pub places_turned : (c : Contents) (p q : Place) (x y : List ℕ) (s t : Option (List ℕ)) → same_place p q ≡ false → with_text (with_text c p x s) q y t ≡ with_text (with_text c q y t) p x s
places_turned c p q x y s t away = (λ i. record { there = c.there; texts = λ r z. each r z i; outside = c.outside })
  where
    each : (r : Place) (z : List ℕ) → (with_text (with_text c p x s) q y t).texts r z ≡ (with_text (with_text c q y t) p x s).texts r z
    each = at_name q y (λ r z. (with_text (with_text c p x s) q y t).texts r z ≡ (with_text (with_text c q y t) p x s).texts r z) (rw (at_self q y, away) refl) (λ r z e. rw e refl)

-- of two texts under one name the later one stands
pub text_twice : (c : Contents) (p : Place) (x : List ℕ) (s t : Option (List ℕ)) → with_text (with_text c p x s) p x t ≡ with_text c p x t
text_twice c p x s t = (λ i. record { there = c.there; texts = λ r z. each r z i; outside = c.outside })
  where
    each : (r : Place) (z : List ℕ) → (with_text (with_text c p x s) p x t).texts r z ≡ (with_text c p x t).texts r z
    each = at_name p x (λ r z. (with_text (with_text c p x s) p x t).texts r z ≡ (with_text c p x t).texts r z) (rw (at_self p x) refl) (λ r z e. rw e refl)

content_reads : (bytes b : List ℕ) → answer.Content b ≡ read_file_answer LIMIT_BYTES (Some bytes) → Ok b ≡ readable bytes
content_reads bytes b e = go (nat_lt LIMIT_BYTES (length bytes)) e
  where
    go : (v : Bool) → answer.Content b ≡ (if v then answer.Long (length bytes) else answer.Content bytes) → Ok b ≡ (if v then Err (fault.TooLarge (length bytes)) else Ok bytes)
    go true e = cc
    go false e = let same : b ≡ bytes = cc in ap (λ z. Ok z) same

long_reads : (bytes : List ℕ) (l : ℕ) → answer.Long l ≡ read_file_answer LIMIT_BYTES (Some bytes) → Err (fault.TooLarge l) ≡ readable bytes
long_reads bytes l e = go (nat_lt LIMIT_BYTES (length bytes)) e
  where
    go : (v : Bool) → answer.Long l ≡ (if v then answer.Long (length bytes) else answer.Content bytes) → Err (fault.TooLarge l) ≡ (if v then Err (fault.TooLarge (length bytes)) else Ok bytes)
    go true e = let same : l ≡ length bytes = cc in ap (λ z. Err (fault.TooLarge z)) same
    go false e = cc

pub not_gone_read : (bytes : List ℕ) → answer.Gone ≡ read_file_answer LIMIT_BYTES (Some bytes) → ⊥
not_gone_read bytes e = go (nat_lt LIMIT_BYTES (length bytes)) e
  where
    go : (v : Bool) → answer.Gone ≡ (if v then answer.Long (length bytes) else answer.Content bytes) → ⊥
    go true e = cc
    go false e = cc

-- a message was read: these are its bytes, or it is too long; the contents are as they were
pub record Reads (ns : List ℕ) (c : Contents) (bytes : List ℕ) (h : Hand) (z : View) (j : Hand) (left : List ℕ) (r : Result (List ℕ) PlanFault) : Type 0 where
  pub value : r ≡ readable bytes
  pub same : Left true ns c h z j

module _ (p : Place) (name bytes : List ℕ) (c : Contents) (there : c.texts p name ≡ Some bytes) where
  -- of a message that stands under this name the bytes are told
  pub content_gives : (ns : List ℕ) (v : View) (h : Hand) (text : List ℕ) → Is true ns v c → Gives (by_view true) v h text (content_read p name) (Reads ns c bytes h)
  unfolding Gives content_read bind ◌>>=◌
  content_gives ns v h text is =
      read_view true v of_stop h text (Reads ns c bytes h) p name LIMIT_BYTES (content_by p name)
      (λ b f. record { value = content_reads bytes b (told (answer.Content b) f); same = same (answer.Content b) })
      (λ l f. record { value = long_reads bytes l (told (answer.Long l) f); same = same (answer.Long l) })
      (λ f. absurd (not_gone_read bytes (told answer.Gone f)))
    where
      told : (a : Answer) → fits_view true v (step.Read p name LIMIT_BYTES) a → a ≡ read_file_answer LIMIT_BYTES (Some bytes)
      told a f = fits_at true ns v c (step.Read p name LIMIT_BYTES) a is f refl ∙ ap (read_file_answer LIMIT_BYTES) there

      same : (a : Answer) → Left true ns c h (view_after v (step.Read p name LIMIT_BYTES) a) h
      same a = record { is = onward true ns v c (step.Read p name LIMIT_BYTES) a is refl; hand = refl }

module _ (p : Place) (held : List ℕ) (c : Contents) (there : c.there p ≡ true) (some : is_some (c.texts p held) ≡ true) where
  -- a held name that stands for a message is gone
  pub discard_gives : (ns : List ℕ) (v : View) (h : Hand) (text : List ℕ) → Is true ns v c → Gives (by_view true) v h text (held_discarded p held) (Leaves true ns (with_text c p held None) h Never)
  unfolding held_discarded
  discard_gives ns v h text is =
      gives_next true ns (with_text c p held None) h (Fails true fresh) v h text (removed p held) (λ gone. synced p held) (Leaves true ns (with_text c p held None) h Never)
      (removed_gives true ns p fresh held v c h text is (λ e. some))
      (λ z left u now_. never_fails ns z (with_text c p held None) h left (synced p held) (synced_gives true ns p fresh held z (with_text c p held None) h left now_ (λ e. there)))
      (λ z j left e f. unfailed e f)
