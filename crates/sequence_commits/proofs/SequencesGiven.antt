-- What a commit of a folder's sequences makes of contents, alone and beside others.
use Rattle.std.proofs.Common.{◌≡◌, ◌⊎◌, inl, inr, ◌<◌, ◌^◌, ◌&&◌, ℕ, Bool, true, false, List, length, Option, Some, None, Result, Ok, Err, refl, sym, ◌∙◌, ap, subst, nat_lt}
use Rattle.std.specs.Prelude.{if◌then◌else◌}
use Rattle.mh_profile.specs.Reading.{entries_in, entries_seen}
use Rattle.mh_profile.specs.declared.named_value.NamedValue.{NamedValue}
use Rattle.mh_sequences.specs.Printing.{private_entries, text_of}
use Rattle.mh_sequences.specs.Reading.{suffix}
use Rattle.mh_sequences.specs.Sequences.{Marked}
use Rattle.folder_files.specs.Places.{same_place}
use Rattle.folder_files.specs.declared.place.Place.{Place}
use Rattle.file_plans.specs.Contents.{Contents, filled, with_text}
use Rattle.file_plans.specs.Giving.{Gives}
use Rattle.file_plans.specs.Plan.{Hand, Return}
use Rattle.file_plans.specs.Views.{View, by_view}
use Rattle.file_plans.proofs.Giving.{gives_more, gives_on}
use Rattle.file_plans.proofs.Onward.{Is}
use Rattle.step_plans.specs.ContextCommit.{LIMIT_BYTES, context_name, commit_by, commit_context, committed, says, settled}
use Rattle.step_plans.specs.Hands.{used, temp_name}
use Rattle.step_plans.specs.Replacing.{replaced}
use Rattle.step_plans.specs.declared.change.ChangeEntry.{ChangeEntry}
use Rattle.step_plans.specs.declared.fault.PlanFault.{PlanFault}
use Rattle.step_plans.specs.declared.fault.PlanFault.TheVariants as fault
use Rattle.step_plans.proofs.Committed.{CommitEnds, Knows, entries_at, made_gives}
use Rattle.step_plans.proofs.Replaced.{Left, Leaves, Fails, replaced_gives}
use Rattle.sequence_commits.specs.Committing.{sequences_replaced, entries_committed, told_committed, committed_unless, changed_sequences}
use Rattle.sequence_commits.specs.PrivateChanges.{changes_to}
use Rattle.sequence_commits.specs.Telling.{same_told}
use Rattle.sequence_commits.proofs.SequencesPledged.{sequences_name}
use Rattle.sequence_commits.proofs.SequencesShown.{sequences_no_temp, context_apart}

-- the folder's text is this one
abbrev pub with_sequences : Contents → Place → List ℕ → Contents
with_sequences c p text = with_text c p sequences_name (Some text)

-- the text is too long, and nothing was done
pub record TooLong (alone : Bool) (ns : List ℕ) (c : Contents) (text : List ℕ) (h : Hand) (z : View) (j : Hand) (e : PlanFault) : Type 0 where
  pub left : Left alone ns c h z j
  pub long : nat_lt LIMIT_BYTES (length text) ≡ true
  pub fault : e ≡ fault.TooLarge (length text)

-- the text is the folder's now, and the hand has used a number
pub record Written (alone : Bool) (ns : List ℕ) (c : Contents) (p : Place) (text : List ℕ) (h : Hand) (z : View) (j : Hand) : Type 0 where
  pub left : Left alone ns (with_sequences c p text) (used h) z j
  pub short : nat_lt LIMIT_BYTES (length text) ≡ false

abbrev pub TextFails : Bool → List ℕ → Contents → List ℕ → Hand → View → Hand → PlanFault → Type 0
TextFails alone ns c text h z j e = Fails alone h e ⊎ TooLong alone ns c text h z j e

abbrev pub TextEnds : Bool → List ℕ → Contents → Place → List ℕ → Hand → View → Hand → List ℕ → Result Unit PlanFault → Type 0
TextEnds alone ns c p text h z j left (Ok u) = Written alone ns c p text h z j
TextEnds alone ns c p text h z j left (Err e) = TextFails alone ns c text h z j e

-- the changes by what a hand knows
abbrev pub changes_by : List ℕ → List NamedValue → Hand → List ChangeEntry
changes_by ending kept h = changes_to ending kept (entries_seen h.context)

-- how a commit of the context ends; where it fails it was needed
abbrev pub EntriesEnd : Bool → List ℕ → Contents → Place → List ChangeEntry → Hand → View → Hand → List ℕ → Result Unit PlanFault → Type 0
EntriesEnd alone ns c mail cs h z j left (Ok u) = CommitEnds alone ns c mail cs h z j left (Ok u)
EntriesEnd alone ns c mail cs h z j left (Err e) = (settled cs h.context ≡ false) × CommitEnds alone ns c mail cs h z j left (Err e)

-- then the context ends as a commit of those changes does, or the text's turn failed
abbrev pub ToldEnds : Bool → List ℕ → Contents → Place → Place → List ℕ → List ℕ → List NamedValue → Hand → View → Hand → List ℕ → Result Unit PlanFault → Type 0
ToldEnds alone ns c p mail ending text kept h z j left (Ok u) = (nat_lt LIMIT_BYTES (length text) ≡ false) × CommitEnds alone ns (with_sequences c p text) mail (changes_by ending kept h) (used h) z j left (Ok u)
ToldEnds alone ns c p mail ending text kept h z j left (Err e) =
    TextFails alone ns c text h z j e ⊎ ((nat_lt LIMIT_BYTES (length text) ≡ false) × EntriesEnd alone ns (with_sequences c p text) mail (changes_by ending kept h) (used h) z j left (Err e))

-- nothing was done, where the same is told
pub record Unchanged (alone : Bool) (ns : List ℕ) (c : Contents) (h : Hand) (z : View) (j : Hand) (r : Result Unit PlanFault) : Type 0 where
  pub left : Left alone ns c h z j
  pub done : r ≡ Ok tt

-- the context's text stays, whatever the folder's is
pub context_kept : (c : Contents) (p mail : Place) (text : List ℕ) → (with_sequences c p text).texts mail context_name ≡ c.texts mail context_name
context_kept c p mail text = ap (λ b. if same_place p mail && b then Some text else c.texts mail context_name) context_apart ∙ none (same_place p mail)
  where
    none : (s : Bool) → (if s && false then Some text else c.texts mail context_name) ≡ c.texts mail context_name
    none true = refl
    none false = refl

knows_still : (alone : Bool) (c : Contents) (p mail : Place) (text : List ℕ) (h : Hand) → Knows alone c mail h → Knows alone (with_sequences c p text) mail (used h)
knows_still alone c p mail text h knows = λ a es is. knows a es is ∙ ap (λ o. entries_in (filled o)) (sym (context_kept c p mail text))

-- a commit of the context, which fails only where it was needed
pub needed_gives : (alone : Bool) (ns : List ℕ) (run : ℕ) → run < 2 ^ 128 → (mail : Place) (cs : List ChangeEntry) (v : View) (c : Contents) (h : Hand) (out : List ℕ) → Is alone ns v c → Knows alone c mail h
    → Gives (by_view alone) v h out (commit_context run mail cs) (EntriesEnd alone ns c mail cs h)
unfolding Gives commit_context
needed_gives alone ns run few mail cs v c h out is knows = go (settled cs h.context) refl
  where
    said_so : (o : Option (List NamedValue)) → settled cs o ≡ true → (alone ≡ true → (es : List NamedValue) → o ≡ Some es → es ≡ entries_at c mail) → alone ≡ true → says (entries_at c mail) cs ≡ true
    said_so None e k a = absurd (cc (e))
    said_so (Some es) e k a = ap (λ x. says x cs) (sym (k a es refl)) ∙ e

    ends : settled cs h.context ≡ false → (z : View) (j : Hand) (left : List ℕ) (r : Result Unit PlanFault) → CommitEnds alone ns c mail cs h z j left r → EntriesEnd alone ns c mail cs h z j left r
    ends e z j left (Ok u) f = f
    ends e z j left (Err x) f = (e, f)

    go : (b : Bool) → settled cs h.context ≡ b → Gives (by_view alone) v h out (commit_by run mail cs b) (EntriesEnd alone ns c mail cs h)
    go true e = inl (record { is = is; hand = refl; settled_so = e; said = said_so h.context e knows })
    go false e = gives_more (by_view alone) v h out (committed run mail cs) (CommitEnds alone ns c mail cs h) (EntriesEnd alone ns c mail cs h) (made_gives alone ns run few mail cs c h e v out is) (ends e)

module _ (alone : Bool) (ns : List ℕ) (run : ℕ) (few : run < 2 ^ 128) (p : Place) where
  -- the folder's text
  pub text_gives : (text : List ℕ) (v : View) (c : Contents) (h : Hand) (out : List ℕ) → Is alone ns v c → (nat_lt h.next (2 ^ 64) ≡ true → alone ≡ true → (c.there p ≡ true) × (c.texts p (temp_name run h.next) ≡ None))
      → Gives (by_view alone) v h out (sequences_replaced run p text) (TextEnds alone ns c p text h)
  unfolding Gives sequences_replaced
  text_gives text v c h out is new = go (nat_lt LIMIT_BYTES (length text)) refl
    where
      ends : nat_lt LIMIT_BYTES (length text) ≡ false → (z : View) (j : Hand) (left : List ℕ) (r : Result Unit PlanFault) → Leaves alone ns (with_sequences c p text) (used h) (Fails alone h) z j left r → TextEnds alone ns c p text h z j left r
      ends e z j left (Ok u) f = record { left = f; short = e }
      ends e z j left (Err x) f = inl f

      go : (b : Bool) → nat_lt LIMIT_BYTES (length text) ≡ b → Gives (by_view alone) v h out (if b then Return (Err (fault.TooLarge (length text))) else replaced run p sequences_name text) (TextEnds alone ns c p text h)
      go true e = inr (record { left = record { is = is; hand = refl }; long = e; fault = refl })
      go false e =
          gives_more (by_view alone) v h out (replaced run p sequences_name text) (Leaves alone ns (with_sequences c p text) (used h) (Fails alone h)) (TextEnds alone ns c p text h)
          (replaced_gives alone ns run p few sequences_name text v c h out is new sequences_no_temp) (ends e)

  module _ (mail : Place) (ending : List ℕ) (kept : List NamedValue) where
    -- the context
    pub entries_give : (v : View) (c : Contents) (h : Hand) (out : List ℕ) → Is alone ns v c → Knows alone c mail h
        → Gives (by_view alone) v h out (entries_committed run mail ending kept) (EntriesEnd alone ns c mail (changes_by ending kept h) h)
    unfolding Gives entries_committed
    entries_give v c h out is knows = needed_gives alone ns run few mail (changes_by ending kept h) v c h out is knows

    -- the text, and then the context
    pub told_gives : (text : List ℕ) (v : View) (c : Contents) (h : Hand) (out : List ℕ) → Is alone ns v c → Knows alone c mail h
        → (nat_lt h.next (2 ^ 64) ≡ true → alone ≡ true → (c.there p ≡ true) × (c.texts p (temp_name run h.next) ≡ None))
        → Gives (by_view alone) v h out (told_committed run p mail ending text kept) (ToldEnds alone ns c p mail ending text kept h)
    unfolding told_committed
    told_gives text v c h out is knows new =
        gives_on (by_view alone) v h out (sequences_replaced run p text) (λ written. entries_committed run mail ending kept) (TextEnds alone ns c p text h) (ToldEnds alone ns c p mail ending text kept h)
        (text_gives text v c h out is new) next (λ z j left e f. inl f)
      where
        ends : nat_lt LIMIT_BYTES (length text) ≡ false → (y : View) (i : Hand) (rest : List ℕ) (r : Result Unit PlanFault) → EntriesEnd alone ns (with_sequences c p text) mail (changes_by ending kept h) (used h) y i rest r → ToldEnds alone ns c p mail ending text kept h y i rest r
        ends e y i rest (Ok u) f = (e, f)
        ends e y i rest (Err x) f = inr (e, f)

        next : (z : View) (j : Hand) (left : List ℕ) (a : Unit {0}) → Written alone ns c p text h z j → Gives (by_view alone) z j left (entries_committed run mail ending kept) (ToldEnds alone ns c p mail ending text kept h)
        next z j left a w =
            subst (λ i. Gives (by_view alone) z i left (entries_committed run mail ending kept) (ToldEnds alone ns c p mail ending text kept h)) (sym w.left.hand)
            (gives_more (by_view alone) z (used h) left (entries_committed run mail ending kept) (EntriesEnd alone ns (with_sequences c p text) mail (changes_by ending kept h) (used h)) (ToldEnds alone ns c p mail ending text kept h)
            (entries_give z (with_sequences c p text) (used h) left w.left.is (knows_still alone c p mail text h knows)) (ends w.short))

  -- a call that commits new sequences in place of others
  pub changed_gives : (mail : Place) (folder : List ℕ) (old new : Marked) (v : View) (c : Contents) (h : Hand) (out : List ℕ) → Is alone ns v c → Knows alone c mail h
      → (nat_lt h.next (2 ^ 64) ≡ true → alone ≡ true → (c.there p ≡ true) × (c.texts p (temp_name run h.next) ≡ None))
      → Gives (by_view alone) v h out (changed_sequences run p mail folder old new)
      (λ z j left r. ((same_told folder old new ≡ true) × Unchanged alone ns c h z j r) ⊎ ((same_told folder old new ≡ false) × ToldEnds alone ns c p mail (suffix folder) (text_of new) (private_entries (suffix folder) new.users) h z j left r))
  unfolding Gives changed_sequences
  changed_gives mail folder old new v c h out is knows free = go (same_told folder old new) refl
    where
      go : (b : Bool) → same_told folder old new ≡ b → Gives (by_view alone) v h out (committed_unless b run p mail folder new)
          (λ z j left r. ((same_told folder old new ≡ true) × Unchanged alone ns c h z j r) ⊎ ((same_told folder old new ≡ false) × ToldEnds alone ns c p mail (suffix folder) (text_of new) (private_entries (suffix folder) new.users) h z j left r))
      go true e = inl (e, record { left = record { is = is; hand = refl }; done = refl })
      go false e =
          gives_more (by_view alone) v h out (told_committed run p mail (suffix folder) (text_of new) (private_entries (suffix folder) new.users)) (ToldEnds alone ns c p mail (suffix folder) (text_of new) (private_entries (suffix folder) new.users) h)
          (λ z j left r. ((same_told folder old new ≡ true) × Unchanged alone ns c h z j r) ⊎ ((same_told folder old new ≡ false) × ToldEnds alone ns c p mail (suffix folder) (text_of new) (private_entries (suffix folder) new.users) h z j left r))
          (told_gives mail (suffix folder) (private_entries (suffix folder) new.users) (text_of new) v c h out is knows free) (λ z j left r f. inr (e, f))
