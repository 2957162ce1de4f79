-- What a commit of the context makes of contents, alone and beside others.
use Rattle.std.proofs.Common.{◌≡◌, ◌⊎◌, inl, inr, ℕ, ◌<◌, ◌^◌, Bool, true, false, List, [], ◌∷◌, length, Option, Some, None, Result, Ok, Err, refl, sym, ◌∙◌, ap, subst, arith, nat_lt}
use Rattle.std.specs.Prelude.{not, if◌then◌else◌}
use Rattle.mh_profile.specs.declared.named_value.NamedValue.{NamedValue}
use Rattle.mh_profile.specs.Printing.{printed}
use Rattle.mh_profile.specs.Reading.{entries_in, listed, first_of_each}
use Rattle.mh_profile.specs.Validity.{AreEntries}
use Rattle.mh_profile.proofs.FoldedLines.{no_lines}
use Rattle.mh_profile.proofs.EntryLists.{entries_with, entries_filtered}
use Rattle.mh_profile.proofs.PrintedBack.{reads_back}
use Rattle.mh_profile.proofs.ValidEntries.{entries_valid}
use Rattle.mh_profile.specs.Names.{same_entry}
use Rattle.folder_files.specs.Steps.{read_file_answer}
use Rattle.folder_files.specs.declared.place.Place.{Place}
use Rattle.folder_files.specs.declared.place.Place.TheVariants.{Mail}
use Rattle.folder_files.specs.declared.step.Step.TheVariants as step
use Rattle.folder_files.specs.declared.step.Answer.TheVariants as answer
use Rattle.folder_files.proofs.Sameness.{place_is}
use Rattle.file_plans.specs.Contents.{Contents, filled, mailbox_in, with_text, with_folder}
use Rattle.file_plans.specs.Giving.{Gives}
use Rattle.file_plans.specs.MailboxChanges.{with_context_text}
use Rattle.file_plans.specs.Plan.{Hand, Return, bind, ◌>>=◌, converted, lifted}
use Rattle.file_plans.specs.Views.{View, view_after, by_view}
use Rattle.file_plans.proofs.Clearing.{without_temps}
use Rattle.file_plans.proofs.Existing.{at_self}
use Rattle.file_plans.proofs.Framing.{silent}
use Rattle.file_plans.proofs.Giving.{gives_bind, gives_on}
use Rattle.file_plans.proofs.Onward.{Is, IsShort, onward, fits_at, content_is, gone_is}
use Rattle.file_plans.proofs.Showing.{context_is_no_temp, shows_cleared, shows_commit, shows_made}
use Rattle.file_plans.proofs.Viewing.{make_folder_view, read_view}
use Rattle.step_plans.specs.declared.change.ChangeEntry.{ChangeEntry}
use Rattle.step_plans.specs.declared.fault.PlanFault.{PlanFault}
use Rattle.step_plans.specs.declared.fault.PlanFault.TheVariants as fault
use Rattle.step_plans.specs.PlanFaults.{of_stop}
use Rattle.step_plans.specs.ContextCommit.{context_name, LIMIT_BYTES, TRIES, changed_by, changed, IsChangeBy, AreChanges, says, settled, entries_by, context_read, context_replaced, committed, commit_by, commit_context}
use Rattle.step_plans.specs.Hands.{used, knowing, known, temp_name}
use Rattle.step_plans.specs.Locking.{locked, let_go, temps_cleared}
use Rattle.step_plans.specs.Replacing.{replaced}
use Rattle.step_plans.proofs.Cleared.{locked_gives, let_go_gives, temps_gives}
use Rattle.step_plans.proofs.Named.{temp_is}
use Rattle.step_plans.proofs.Replaced.{Left, Fails, gives_next, replaced_gives}

-- the entries of a mail directory's context, and none where it has no context
abbrev pub entries_at : Contents → Place → List NamedValue
entries_at c p = entries_in (filled (c.texts p context_name))

-- the text that the context becomes by these changes
abbrev pub text_after : Contents → Place → List ChangeEntry → List ℕ
text_after c p cs = printed (changed cs (entries_at c p))

-- the mail directory is there without temporary names
abbrev pub opened : Contents → Place → Contents
opened c p = without_temps (with_folder c p) p

-- and the context has its new text
abbrev pub committed_in : Contents → Place → List ChangeEntry → Contents
committed_in c p cs = with_text (opened c p) p context_name (Some (text_after c p cs))

-- the context's text, or the one that it would become, is too long
pub data IsTooLong (c : Contents) (p : Place) (cs : List ChangeEntry) (l : ℕ) : Type 0 where
  old_text : (text : List ℕ) → c.texts p context_name ≡ Some text → nat_lt LIMIT_BYTES (length text) ≡ true → l ≡ length text → IsTooLong c p cs l
  new_text : IsShort LIMIT_BYTES (c.texts p context_name) → nat_lt LIMIT_BYTES (length (text_after c p cs)) ≡ true → l ≡ length (text_after c p cs) → IsTooLong c p cs l

-- such a refusal leaves the context as it was
pub record Refused (alone : Bool) (ns : List ℕ) (c : Contents) (p : Place) (cs : List ChangeEntry) (l : ℕ) (z : View) : Type 0 where
  pub is : Is alone ns z (opened c p)
  pub long : alone ≡ true → IsTooLong c p cs l

-- how a commit ends otherwise
abbrev pub CommitFails : Bool → List ℕ → Contents → Place → List ChangeEntry → Hand → View → PlanFault → Type 0
CommitFails alone ns c p cs h z fault.Faulted = ⊥
CommitFails alone ns c p cs h z (fault.Locked q) = alone ≡ true → ⊥
CommitFails alone ns c p cs h z (fault.Meddled q n) = alone ≡ true → ⊥
CommitFails alone ns c p cs h z fault.Full = ⊥
CommitFails alone ns c p cs h z (fault.Absent q) = ⊥
CommitFails alone ns c p cs h z (fault.TooLarge l) = Refused alone ns c p cs l z
CommitFails alone ns c p cs h z fault.Memory = nat_lt h.next (2 ^ 64) ≡ false

-- what a commit leaves: the context has its new text, the hand knows the new entries, and both texts were short enough
pub record Makes (alone : Bool) (ns : List ℕ) (c : Contents) (p : Place) (cs : List ChangeEntry) (h : Hand) (z : View) (j : Hand) : Type 0 where
  pub is : Is alone ns z (committed_in c p cs)
  pub entries : List NamedValue
  pub hand : j ≡ knowing entries (used h)
  pub same : alone ≡ true → entries ≡ changed cs (entries_at c p)
  pub old_short : alone ≡ true → IsShort LIMIT_BYTES (c.texts p context_name)
  pub new_short : alone ≡ true → nat_lt LIMIT_BYTES (length (text_after c p cs)) ≡ false

-- no step was needed: the hand's entries say so already
pub record Stands (alone : Bool) (ns : List ℕ) (c : Contents) (p : Place) (cs : List ChangeEntry) (h : Hand) (z : View) (j : Hand) : Type 0 where
  pub is : Is alone ns z c
  pub hand : j ≡ h
  pub settled_so : settled cs h.context ≡ true
  pub said : alone ≡ true → says (entries_at c p) cs ≡ true

abbrev pub CommitEnds : Bool → List ℕ → Contents → Place → List ChangeEntry → Hand → View → Hand → List ℕ → Result Unit PlanFault → Type 0
CommitEnds alone ns c p cs h z j left (Ok u) = Stands alone ns c p cs h z j ⊎ ((settled cs h.context ≡ false) × Makes alone ns c p cs h z j)
CommitEnds alone ns c p cs h z j left (Err e) = CommitFails alone ns c p cs h z e

-- alone the hand's entries, where it has some, are those of the context
abbrev pub Knows : Bool → Contents → Place → Hand → Type 0
Knows alone c p h = alone ≡ true → (es : List NamedValue) → h.context ≡ Some es → es ≡ entries_at c p

pub no_entries : entries_in [] ≡ []
unfolding entries_in
no_entries = ap (λ ls. first_of_each (listed ls)) no_lines

-- what a read of the context tells
pub record Entries (alone : Bool) (ns : List ℕ) (c : Contents) (p : Place) (h : Hand) (z : View) (j : Hand) (es : List NamedValue) : Type 0 where
  pub left : Left alone ns c h z j
  pub same : alone ≡ true → es ≡ entries_at c p
  pub short : alone ≡ true → IsShort LIMIT_BYTES (c.texts p context_name)

pub record OldLong (alone : Bool) (ns : List ℕ) (c : Contents) (p : Place) (l : ℕ) (z : View) : Type 0 where
  pub is : Is alone ns z c
  pub long : alone ≡ true → (text : List ℕ) × (c.texts p context_name ≡ Some text) × (nat_lt LIMIT_BYTES (length text) ≡ true) × (l ≡ length text)

abbrev pub ReadFails : Bool → List ℕ → Contents → Place → View → PlanFault → Type 0
ReadFails alone ns c p z fault.Faulted = ⊥
ReadFails alone ns c p z (fault.Locked q) = ⊥
ReadFails alone ns c p z (fault.Meddled q n) = ⊥
ReadFails alone ns c p z fault.Full = ⊥
ReadFails alone ns c p z (fault.Absent q) = ⊥
ReadFails alone ns c p z (fault.TooLarge l) = OldLong alone ns c p l z
ReadFails alone ns c p z fault.Memory = ⊥

abbrev pub ReadEnds : Bool → List ℕ → Contents → Place → Hand → View → Hand → List ℕ → Result (List NamedValue) PlanFault → Type 0
ReadEnds alone ns c p h z j left (Ok es) = Entries alone ns c p h z j es
ReadEnds alone ns c p h z j left (Err e) = ReadFails alone ns c p z e

content_short : (limit : ℕ) (o : Option (List ℕ)) (b : List ℕ) → answer.Content b ≡ read_file_answer limit o → IsShort limit o
content_short limit None b e = tt
content_short limit (Some text) b e = go (nat_lt limit (length text)) e
  where
    go : (v : Bool) → answer.Content b ≡ (if v then answer.Long (length text) else answer.Content text) → v ≡ false
    go true e = absurd (cc (e))
    go false e = refl

gone_short : (limit : ℕ) (o : Option (List ℕ)) → answer.Gone ≡ read_file_answer limit o → IsShort limit o
gone_short limit None e = tt
gone_short limit (Some text) e = go (nat_lt limit (length text)) e
  where
    go : (v : Bool) → answer.Gone ≡ (if v then answer.Long (length text) else answer.Content text) → v ≡ false
    go true e = absurd (cc (e))
    go false e = refl

long_is : (limit : ℕ) (o : Option (List ℕ)) (l : ℕ) → answer.Long l ≡ read_file_answer limit o → (text : List ℕ) × (o ≡ Some text) × (nat_lt limit (length text) ≡ true) × (l ≡ length text)
long_is limit None l e = absurd (cc (e))
long_is limit (Some text) l e = go (nat_lt limit (length text)) refl e
  where
    go : (v : Bool) → nat_lt limit (length text) ≡ v → answer.Long l ≡ (if v then answer.Long (length text) else answer.Content text) → (t : List ℕ) × (Some text ≡ Some t) × (nat_lt limit (length t) ≡ true) × (l ≡ length t)
    go true f e = (text, refl, f, cc (e))
    go false f e = absurd (cc (e))

module _ (alone : Bool) (ns : List ℕ) (p : Place) where
  pub read_gives : (v : View) (c : Contents) (h : Hand) (text : List ℕ) → Is alone ns v c → Gives (by_view alone) v h text (context_read p) (ReadEnds alone ns c p h)
  unfolding Gives context_read bind ◌>>=◌
  read_gives v c h text is =
      read_view alone v of_stop h text (ReadEnds alone ns c p h) p context_name LIMIT_BYTES entries_by
      (λ bytes f. record {
        left = record { is = onward alone ns v c (step.Read p context_name LIMIT_BYTES) (answer.Content bytes) is refl; hand = refl };
        same = λ e. ap entries_in (content_is LIMIT_BYTES (c.texts p context_name) bytes (fits_at alone ns v c (step.Read p context_name LIMIT_BYTES) (answer.Content bytes) is f e));
        short = λ e. content_short LIMIT_BYTES (c.texts p context_name) bytes (fits_at alone ns v c (step.Read p context_name LIMIT_BYTES) (answer.Content bytes) is f e);
      })
      (λ l f. record {
        is = onward alone ns v c (step.Read p context_name LIMIT_BYTES) (answer.Long l) is refl;
        long = λ e. long_is LIMIT_BYTES (c.texts p context_name) l (fits_at alone ns v c (step.Read p context_name LIMIT_BYTES) (answer.Long l) is f e);
      })
      (λ f. record {
        left = record { is = onward alone ns v c (step.Read p context_name LIMIT_BYTES) answer.Gone is refl; hand = refl };
        same = λ e. sym no_entries ∙ ap entries_in (gone_is LIMIT_BYTES (c.texts p context_name) (fits_at alone ns v c (step.Read p context_name LIMIT_BYTES) answer.Gone is f e));
        short = λ e. gone_short LIMIT_BYTES (c.texts p context_name) (fits_at alone ns v c (step.Read p context_name LIMIT_BYTES) answer.Gone is f e);
      })

-- the hand knows what was written
known_gives : (alone : Bool) (ns : List ℕ) (c : Contents) (p : Place) (cs : List ChangeEntry) (h j : Hand) (es : List NamedValue) (z : View) (text : List ℕ) → settled cs h.context ≡ false → j ≡ used h → Makes alone ns c p cs h z (knowing es j)
    → Gives (by_view alone) z j text (known es) (CommitEnds alone ns c p cs h)
unfolding Gives known
known_gives alone ns c p cs h j es z text un is m = inr (un, m)

fail_on : (alone : Bool) (ns : List ℕ) (c : Contents) (p : Place) (cs : List ChangeEntry) (h : Hand) (z : View) (e : PlanFault) → Fails alone h e → CommitFails alone ns c p cs h z e
fail_on alone ns c p cs h z fault.Faulted f = f
fail_on alone ns c p cs h z (fault.Locked q) f = f
fail_on alone ns c p cs h z (fault.Meddled q n) f = f
fail_on alone ns c p cs h z fault.Full f = f
fail_on alone ns c p cs h z (fault.Absent q) f = f
fail_on alone ns c p cs h z (fault.TooLarge l) f = absurd f
fail_on alone ns c p cs h z fault.Memory f = f

module _ (alone : Bool) (ns : List ℕ) (run : ℕ) (few : run < 2 ^ 128) (p : Place) (cs : List ChangeEntry) (c : Contents) (h : Hand) (unsettled : settled cs h.context ≡ false) where
  abbrev Ends : View → Hand → List ℕ → Result Unit PlanFault → Type 0
  Ends = CommitEnds alone ns c p cs h

  context_kept : (opened c p).texts p context_name ≡ c.texts p context_name
  context_kept = rw (place_is p, context_is_no_temp) refl

  there_now : (opened c p).there p ≡ true
  there_now = rw (place_is p) refl

  temp_free : nat_lt h.next (2 ^ 64) ≡ true → (opened c p).texts p (temp_name run h.next) ≡ None
  temp_free low = rw (place_is p, temp_is run h.next few low) refl

  -- the end, where the new text stands
  closing : (es : List NamedValue) (z : View) (left : List ℕ) → (alone ≡ true → es ≡ entries_at c p) → (alone ≡ true → IsShort LIMIT_BYTES (c.texts p context_name)) → nat_lt LIMIT_BYTES (length (printed (changed cs es))) ≡ false
      → Is alone ns z (with_text (opened c p) p context_name (Some (printed (changed cs es)))) → Gives (by_view alone) z (used h) left (let_go p >>= (λ free. known (changed cs es))) Ends
  closing es z left same short new is =
      gives_next alone ns (with_text (opened c p) p context_name (Some (printed (changed cs es)))) (used h) (Fails alone h) z (used h) left (let_go p) (λ free. known (changed cs es)) Ends
      (let_go_gives alone ns p h z (with_text (opened c p) p context_name (Some (printed (changed cs es)))) (used h) left is)
      (λ y rest u at_. known_gives alone ns c p cs h (used h) (changed cs es) y rest unsettled refl (record {
        is = ((λ e. at_.0 e ∙ ap (λ x. with_text (opened c p) p context_name (Some (printed (changed cs x)))) (same e)), at_.1);
        entries = changed cs es;
        hand = refl;
        same = λ e. ap (changed cs) (same e);
        old_short = short;
        new_short = λ e. ap (λ x. nat_lt LIMIT_BYTES (length (printed (changed cs x)))) (sym (same e)) ∙ new;
      }))
      (λ y j rest e f. fail_on alone ns c p cs h y e f)

  -- the text is written, where it is not too long
  writing : (es : List NamedValue) (z : View) (left : List ℕ) → (alone ≡ true → es ≡ entries_at c p) → (alone ≡ true → IsShort LIMIT_BYTES (c.texts p context_name)) → Is alone ns z (opened c p)
      → Gives (by_view alone) z h left (context_replaced run p (printed (changed cs es)) >>= (λ new. let_go p >>= (λ free. known (changed cs es)))) Ends
  unfolding context_replaced Gives bind ◌>>=◌
  writing es z left same short is = go (nat_lt LIMIT_BYTES (length (printed (changed cs es)))) refl
    where
      text : List ℕ
      text = printed (changed cs es)

      refused_ : nat_lt LIMIT_BYTES (length text) ≡ true → Gives (by_view alone) z h left (Return (Err (fault.TooLarge (length text))) >>= (λ (new : Unit {0}). let_go p >>= (λ free. known (changed cs es)))) Ends
      refused_ e = record {
        is = is;
        long = λ a. new_text (short a) (ap (λ x. nat_lt LIMIT_BYTES (length (printed (changed cs x)))) (sym (same a)) ∙ e) (ap (λ x. length (printed (changed cs x))) (same a));
      }

      go : (b : Bool) → nat_lt LIMIT_BYTES (length text) ≡ b
          → Gives (by_view alone) z h left ((if b then Return (Err (fault.TooLarge (length text))) else replaced run p context_name text) >>= (λ new. let_go p >>= (λ free. known (changed cs es)))) Ends
      go true e = refused_ e
      go false e =
          gives_next alone ns (with_text (opened c p) p context_name (Some text)) (used h) (Fails alone h) z h left (replaced run p context_name text) (λ new. let_go p >>= (λ free. known (changed cs es))) Ends
          (replaced_gives alone ns run p few context_name text z (opened c p) h left is (λ low a. (there_now, temp_free low)) context_is_no_temp)
          (λ y rest u at_. closing es y rest same short e at_) (λ y j rest x f. fail_on alone ns c p cs h y x f)

  -- the context is read under the lock
  reading_ : (z : View) (left : List ℕ) → Is alone ns z (opened c p)
      → Gives (by_view alone) z h left (context_read p >>= (λ es. context_replaced run p (printed (changed cs es)) >>= (λ new. let_go p >>= (λ free. known (changed cs es))))) Ends
  reading_ z left is =
      gives_on (by_view alone) z h left (context_read p) (λ es. context_replaced run p (printed (changed cs es)) >>= (λ new. let_go p >>= (λ free. known (changed cs es)))) (ReadEnds alone ns (opened c p) p h) Ends
      (read_gives alone ns p z (opened c p) h left is) goes stops
    where
      goes : (y : View) (j : Hand) (rest : List ℕ) (es : List NamedValue) → Entries alone ns (opened c p) p h y j es
          → Gives (by_view alone) y j rest (context_replaced run p (printed (changed cs es)) >>= (λ new. let_go p >>= (λ free. known (changed cs es)))) Ends
      goes y j rest es r =
          subst (λ i. Gives (by_view alone) y i rest (context_replaced run p (printed (changed cs es)) >>= (λ new. let_go p >>= (λ free. known (changed cs es)))) Ends) (sym r.left.hand)
          (writing es y rest (λ a. r.same a ∙ ap (λ o. entries_in (filled o)) context_kept) (λ a. subst (IsShort LIMIT_BYTES) context_kept (r.short a)) r.left.is)

      stops : (y : View) (j : Hand) (rest : List ℕ) (e : PlanFault) → ReadFails alone ns (opened c p) p y e → CommitFails alone ns c p cs h y e
      stops y j rest fault.Faulted f = f
      stops y j rest (fault.Locked q) f = absurd f
      stops y j rest (fault.Meddled q n) f = absurd f
      stops y j rest fault.Full f = f
      stops y j rest (fault.Absent q) f = f
      stops y j rest (fault.TooLarge l) f = record { is = f.is; long = λ a. let k = f.long a in old_text k.0 (sym context_kept ∙ k.1) k.2 k.3 }
      stops y j rest fault.Memory f = absurd f

  -- the mail directory is locked and cleared
  locking_ : (z : View) (left : List ℕ) → Is alone ns z (with_folder c p)
      → Gives (by_view alone) z h left (locked p TRIES >>= (λ held. temps_cleared p >>= (λ clear. context_read p >>= (λ es. context_replaced run p (printed (changed cs es)) >>= (λ new. let_go p >>= (λ free. known (changed cs es))))))) Ends
  locking_ z left is =
      gives_next alone ns (with_folder c p) h (Fails alone h) z h left (locked p TRIES) _ Ends
      (locked_gives alone ns p h TRIES z (with_folder c p) h left is (λ a. (there_first, omega arith)))
      (λ y rest u at_. gives_next alone ns (opened c p) h (Fails alone h) y h rest (temps_cleared p) _ Ends
      (temps_gives alone ns p h y (with_folder c p) h rest at_ (λ a. there_first)) (λ x more u last. reading_ x more last) (λ x j more e f. fail_on alone ns c p cs h x e f))
      (λ y j rest e f. fail_on alone ns c p cs h y e f)
    where
      there_first : (with_folder c p).there p ≡ true
      there_first = rw (place_is p) refl

  pub made_gives : (v : View) (text : List ℕ) → Is alone ns v c → Gives (by_view alone) v h text (committed run p cs) Ends
  unfolding Gives committed bind ◌>>=◌
  made_gives v text is =
      make_folder_view alone v of_stop h text Ends p _
      (λ f. locking_ (view_after v (step.MakeFolder p) answer.Done) text (onward alone ns v c (step.MakeFolder p) answer.Done is refl))
      (λ f. locking_ (view_after v (step.MakeFolder p) answer.Exists) text (onward alone ns v c (step.MakeFolder p) answer.Exists is refl))

module _ (alone : Bool) (ns : List ℕ) (run : ℕ) (few : run < 2 ^ 128) (p : Place) (cs : List ChangeEntry) where
  -- a commit of the context, alone and beside others
  pub commit_gives : (v : View) (c : Contents) (h : Hand) (text : List ℕ) → Is alone ns v c → Knows alone c p h → Gives (by_view alone) v h text (commit_context run p cs) (CommitEnds alone ns c p cs h)
  unfolding Gives commit_context
  commit_gives v c h text is knows = go (settled cs h.context) refl
    where
      said_so : (o : Option (List NamedValue)) → settled cs o ≡ true → (alone ≡ true → (es : List NamedValue) → o ≡ Some es → es ≡ entries_at c p) → alone ≡ true → says (entries_at c p) cs ≡ true
      said_so None e k a = absurd (cc (e))
      said_so (Some es) e k a = ap (λ x. says x cs) (sym (k a es refl)) ∙ e

      go : (b : Bool) → settled cs h.context ≡ b → Gives (by_view alone) v h text (commit_by run p cs b) (CommitEnds alone ns c p cs h)
      go true e = inl (record { is = is; hand = refl; settled_so = e; said = said_so h.context e knows })
      go false e = made_gives alone ns run few p cs c h e v text is

  -- it says nothing, whatever is still to be said
  pub commit_quiet : (v : View) (c : Contents) (h : Hand) (text : List ℕ) → Is alone ns v c → Knows alone c p h
      → Gives (by_view alone) v h text (commit_context run p cs) (λ z j left r. (left ≡ text) × CommitEnds alone ns c p cs h z j [] r)
  commit_quiet v c h text is knows = silent (by_view alone) v h text (commit_context run p cs) (CommitEnds alone ns c p cs h) (commit_gives v c h [] is knows)

  -- the same with its errors as another layer has them
  pub commit_lifted : {F : Type 0} (from : PlanFault → F) (v : View) (c : Contents) (h : Hand) (text : List ℕ) → Is alone ns v c → Knows alone c p h
      → Gives (by_view alone) v h text (lifted from (commit_context run p cs)) (λ z j left r. (left ≡ text) × ((q : Result Unit PlanFault) × (r ≡ converted from q) × CommitEnds alone ns c p cs h z j [] q))
  unfolding Gives lifted
  commit_lifted from v c h text is knows =
      gives_bind (by_view alone) v h text (commit_context run p cs) (λ r. Return (converted from r)) (λ z j left r. (left ≡ text) × CommitEnds alone ns c p cs h z j [] r)
      (λ z j left r. (left ≡ text) × ((q : Result Unit PlanFault) × (r ≡ converted from q) × CommitEnds alone ns c p cs h z j [] q)) (commit_quiet v c h text is knows) (λ z j left r g. (g.0, (r, refl, g.1)))

-- what a commit shows of the mailbox: the context has its new text, and nothing else changes
pub shows_committed : (c : Contents) (path : List ℕ) (cs : List ChangeEntry) → mailbox_in (committed_in c (Mail path) cs) ≡ with_context_text (mailbox_in c) (Mail path) (text_after c (Mail path) cs)
shows_committed c path cs = shows_commit c path (text_after c (Mail path) cs)

-- a refused commit shows nothing
pub shows_refused : (c : Contents) (path : List ℕ) → mailbox_in (opened c (Mail path)) ≡ mailbox_in c
shows_refused c path = shows_cleared (with_folder c (Mail path)) (Mail path) refl refl ∙ shows_made c path

-- changes keep entries entries
changes_valid : (cs : List ChangeEntry) (es : List NamedValue) → AreChanges cs → AreEntries es → AreEntries (changed cs es)
unfolding changed
changes_valid [] es ok all = all
changes_valid (c ∷ cs) es ok all = changes_valid cs (changed_by c.name c.value es) ok.1 (one c.value ok.0)
  where
    one : (value : Option (List ℕ)) → IsChangeBy c.name value → AreEntries (changed_by c.name value es)
    one None o = entries_filtered (λ e. not (same_entry c.name e.name)) es all
    one (Some value) o = entries_with c.name value es o.0 o.1 all

-- after a commit the hand's entries are still those of the context
pub knows_after : (alone : Bool) (ns : List ℕ) (c : Contents) (p : Place) (cs : List ChangeEntry) (h : Hand) (z : View) (j : Hand) → AreChanges cs → Makes alone ns c p cs h z j → Knows alone (committed_in c p cs) p j
knows_after alone ns c p cs h z j changes m a es is =
    let known_ : Some es ≡ Some m.entries = sym is ∙ ap (λ k. k.context) m.hand in
    let same : es ≡ m.entries = cc in
    let ok = changes_valid cs (entries_at c p) changes (entries_valid (filled (c.texts p context_name))) in
    same ∙ (m.same a ∙ (sym (reads_back (changed cs (entries_at c p)) ok) ∙ ap (λ o. entries_in (filled o)) (sym new_there)))
  where
    new_there : (committed_in c p cs).texts p context_name ≡ Some (text_after c p cs)
    new_there = rw (at_self p context_name) refl
