-- While no sequence marks the messages of a folder that change places, each step of theirs minds all marks.
use Rattle.std.proofs.Common.{◌≡◌, ◌==◌, ◌⊎◌, inl, inr, ◌<◌, ◌^◌, ◌∷◌, ℕ, Bool, true, false, List, refl, sym, ◌∙◌, ap, subst}
use Rattle.std.specs.Prelude.{decimal}
use Rattle.mh_base.specs.Entries.{entry_text, kind_of}
use Rattle.mh_base.specs.Numbers.{IsMsgNum}
use Rattle.mh_base.specs.declared.entry.Entry.TheVariants.{Held, Number, Sequences}
use Rattle.mh_base.proofs.EntryKinds.{kind_of-entry_text}
use Rattle.folder_files.specs.Deeds.{Deed, did}
use Rattle.folder_files.specs.Histories.{Changes}
use Rattle.folder_files.specs.Named.{is_held}
use Rattle.folder_files.specs.declared.place.Place.{Place}
use Rattle.folder_files.specs.declared.place.Place.TheVariants.{Folder, Mail}
use Rattle.folder_files.specs.declared.step.Answer.{Answer}
use Rattle.folder_files.specs.declared.step.Step.{Step}
use Rattle.folder_files.specs.declared.step.Step.TheVariants as step
use Rattle.folder_files.proofs.Names.{is_held_any, not_both, num_itself, num_same}
use Rattle.file_plans.proofs.Showing.{number_kind}
use Rattle.step_plans.specs.Commits.{IsBase}
use Rattle.step_plans.specs.ContextCommit.{context_name}
use Rattle.step_plans.proofs.Facts.{LeavesBase, base_kept}
use Rattle.marks_law.specs.Apart.{by_text}
use Rattle.marks_law.specs.Apart as apart
use Rattle.marks_law.specs.Bearers.{Marking}
use Rattle.marks_law.specs.Minding.{IsUnmarked, Knowing, Minds, Sees, Touches, by_base, plain, takes_unmarked}
use Rattle.marks_law.specs.Minding as minding
use Rattle.message_moves.proofs.MovePledged.{is_held_so, is_taken_so, taking}
use Rattle.sequence_marks.specs.SequenceMarks.{private_marks, public_marks, says_public}
use Rattle.opening_plans.proofs.AllMarks.{MindsAll, drop_minds, look_minds}
use Rattle.opening_plans.proofs.CommitMinds.{one_folder, one_mail, text_name}
use Rattle.sequence_commits.proofs.SequencesPledged.{sequences_name}
use Rattle.message_places.specs.Arranging.{aside_name}
use Rattle.message_places.specs.Places.{is_in}
use Rattle.message_places.proofs.ArrangedPledged.{dropping, giving}
use Rattle.message_places.proofs.AsideNames.{name_there, names_one}

-- The run knows of each number of which this holds that it is not marked; and of each number it knows that it is not marked, or it is there.
pub record Withdrawn (k : Marking) (g : Knowing) (Free : ℕ → Type 0) (own : List Deed) : Type 0 where
  pub free : (n : ℕ) → Free n → g.Unmarks n own
  pub there : (z : List ℕ) (j : ℕ) → kind_of z ≡ Number j → g.Unmarks j own ⊎ Sees k.folder z true own

-- the same of all sequences of a folder, the public and the private ones
pub record AreWithdrawn (run : ℕ) (path name : List ℕ) (Free : ℕ → Type 0) (own : List Deed) : Type 0 where
  pub public : (sequence : List ℕ) → Withdrawn (public_marks path name sequence) (by_base run (public_marks path name sequence)) Free own
  pub private : (sequence : List ℕ) → Withdrawn (private_marks path name sequence) (by_text run (private_marks path name sequence)) Free own

-- so it is where the run knows the folder's text, which marks no such number, and each number that it marks is there
pub known_withdrawn : (run : ℕ) (path name sequence : List ℕ) (Free : ℕ → Type 0) (own : List Deed) (text : List ℕ) → IsBase run (Folder path name) sequences_name text own → ((n : ℕ) → Free n → says_public sequence text n ≡ false)
    → ((z : List ℕ) (j : ℕ) → kind_of z ≡ Number j → says_public sequence text j ≡ true → Sees (Folder path name) z true own)
    → Withdrawn (public_marks path name sequence) (by_base run (public_marks path name sequence)) Free own
known_withdrawn run path name sequence Free own text base silent there = record { free = λ n free. (text, known, silent n free); there = λ z j kind. go z j kind (says_public sequence text j) refl }
  where
    known : IsBase run (Folder path name) (public_marks path name sequence).name text own
    known = rw text_name at base

    go : (z : List ℕ) (j : ℕ) → kind_of z ≡ Number j → (b : Bool) → says_public sequence text j ≡ b
        → IsUnmarked run (public_marks path name sequence) j own ⊎ Sees (Folder path name) z true own
    go z j kind true e = inr (there z j kind e)
    go z j kind false e = inl (text, known, e)

-- A step of the moves of these messages: one is taken, of a free number; or one is given a free number, or is dropped; or the place is made safe.
pub data MovesSo (run : ℕ) (p : Place) (takes : List ℕ) (Free : ℕ → Type 0) : Step → Type 0 where
  by_take : {n : ℕ} → IsMsgNum n → is_in n takes ≡ true → Free n → MovesSo run p takes Free (taking run p n)
  by_give : {n k : ℕ} → IsMsgNum n → is_in n takes ≡ true → IsMsgNum k → Free k → MovesSo run p takes Free (giving run p n k)
  by_drop : {n : ℕ} → IsMsgNum n → is_in n takes ≡ true → MovesSo run p takes Free (dropping run p n)
  by_sync : MovesSo run p takes Free (step.SyncFolder p)

-- This is known of the marks: each such step keeps it, and minds the marks of all sequences where it is known.
pub record LetsMove (Of : List ℕ → Type 0) (run : ℕ) (path name takes : List ℕ) (Free : ℕ → Type 0) (Known : List Deed → Type 0) : Type 0 where
  pub kept : (own : List Deed) (s : Step) (a : Answer) → MovesSo run (Folder path name) takes Free s → Known own → Known (did s a ∷ own)
  pub minds : (own : List Deed) (s : Step) → MovesSo run (Folder path name) takes Free s → Known own → MindsAll Of run own s

same_number : (j n : ℕ) → Number j ≡ Number n → j ≡ n
same_number j n e = cc

number_unheld : (j o n : ℕ) → Number j ≡ Held o n → ⊥
number_unheld j o n e = cc (e)

module _ (run : ℕ) (few : run < 2 ^ 128) (path name takes : List ℕ) (Free : ℕ → Type 0) where
  abbrev p : Place
  p = Folder path name

  abbrev mail : Place
  mail = Mail path

  abbrev Moves : Step → Type 0
  Moves s = MovesSo run p takes Free s

  aside_kind : (n : ℕ) → IsMsgNum n → kind_of (aside_name run n) ≡ Held run n
  aside_kind n one = kind_of-entry_text (Held run n) (few, one)

  aside_other : (n : ℕ) → IsMsgNum n → aside_name run n ≡ sequences_name → ⊥
  aside_other n one e = let same : Held run n ≡ Sequences = sym (aside_kind n one) ∙ (ap kind_of e ∙ kind_of-entry_text Sequences tt) in cc (same)

  -- no number is one of the run's held names
  pub aside_apart : (n : ℕ) → IsMsgNum n → (z : List ℕ) (j : ℕ) → kind_of z ≡ Number j → aside_name run n ≡ z → ⊥
  aside_apart n one z j kind e = number_unheld j run n (sym kind ∙ (ap kind_of (sym e) ∙ aside_kind n one))

  number_held : (x y : List ℕ) (n : ℕ) → kind_of y ≡ Number n → y ≡ x → is_held (kind_of x) ≡ true → ⊥
  number_held x y n kind e held = not_both (is_held (kind_of x)) held (subst (λ z. is_held (kind_of z) ≡ false) e (rw kind refl))

  not_ours : (x : List ℕ) → names_one run takes x ≡ false → (n : ℕ) → is_in n takes ≡ true → aside_name run n ≡ x → ⊥
  not_ours x off n is e = not_both (names_one run takes x) (subst (λ z. names_one run takes z ≡ true) e (name_there run takes n is)) off

  pub texts_left : (s : Step) → Moves s → LeavesBase p sequences_name s
  texts_left _ (by_take {n = n} one is free) = λ same named. aside_other n one named
  texts_left _ (by_give one is other free) = tt
  texts_left _ (by_drop one is) = tt
  texts_left _ by_sync = tt

  pub moves_stay : (s : Step) → Moves s → s ≡ step.Unlock p → ⊥
  moves_stay s m e = (subst (λ z. LeavesBase p sequences_name z) e (texts_left s m)) refl

  -- and no held name but one of theirs
  pub others_untouched : (x : List ℕ) → is_held (kind_of x) ≡ true → names_one run takes x ≡ false → (s : Step) → Moves s → Touches p x s → ⊥
  others_untouched x held off _ (by_take {n = n} one is free) t = by t.1
    where
      by : (entry_text (Number n) ≡ x) ⊎ (aside_name run n ≡ x) → ⊥
      by (inl e) = number_held x (entry_text (Number n)) n (kind_of-entry_text (Number n) one) e held
      by (inr e) = not_ours x off n is e
  others_untouched x held off _ (by_give {k = k} one is other free) t = number_held x (decimal k) k (number_kind k other) t.1 held
  others_untouched x held off _ (by_drop {n = n} one is) t = not_ours x off n is t.1
  others_untouched x held off _ by_sync t = t

  pub others_stay : (x : List ℕ) → names_one run takes x ≡ false → (s : Step) → Moves s → s ≡ step.Unlink p x → ⊥
  others_stay x off _ (by_take one is free) e = cc (e)
  others_stay x off _ (by_give one is other free) e = cc (e)
  others_stay x off _ (by_drop {n = n} one is) e = not_ours x off n is (let same : aside_name run n ≡ x = cc (e) in same)
  others_stay x off _ by_sync e = cc (e)

  pub no_context : (s : Step) → Moves s → (temp x : List ℕ) → s ≡ step.Rename mail temp x → ⊥
  no_context _ (by_take one is free) temp x e = cc (e)
  no_context _ (by_give one is other free) temp x e = cc (e)
  no_context _ (by_drop one is) temp x e = cc (e)
  no_context _ by_sync temp x e = cc (e)

  named_free : (x z : List ℕ) (k j : ℕ) → kind_of x ≡ Number k → kind_of z ≡ Number j → Free k → (Free j) ⊎ (x ≡ z → ⊥)
  named_free x z k j kind other free = go (k == j) refl
    where
      go : (b : Bool) → (k == j) ≡ b → (Free j) ⊎ (x ≡ z → ⊥)
      go true e = inl (subst Free (num_same k j e) free)
      go false e = inr (λ same. not_both (k == j) (subst (λ i. (k == i) ≡ true) (same_number k j (sym kind ∙ (ap kind_of same ∙ other))) (num_itself k)) e)

  -- a number is free, or such a step leaves it alone
  free_or_untouched : (z : List ℕ) (j : ℕ) → kind_of z ≡ Number j → (s : Step) → Moves s → (Free j) ⊎ (Touches p z s → ⊥)
  free_or_untouched z j kind _ (by_take {n = n} one is free) = elim (named_free (entry_text (Number n)) z n j (kind_of-entry_text (Number n) one) kind free) [
    | inl f ↦ inl f
    | inr off ↦ inr (λ t. elim t.1 [ inl e ↦ off e | inr e ↦ aside_apart n one z j kind e ])
  ]
  free_or_untouched z j kind _ (by_give {k = k} one is other free) = elim (named_free (decimal k) z k j (number_kind k other) kind free) [ inl f ↦ inl f | inr off ↦ inr (λ t. off t.1) ]
  free_or_untouched z j kind _ (by_drop {n = n} one is) = inr (λ t. aside_apart n one z j kind t.1)
  free_or_untouched z j kind _ by_sync = inr (λ t. t)

  -- a step of the moves touches no number but a free one
  pub untouched : (z : List ℕ) (j : ℕ) → kind_of z ≡ Number j → (Free j → ⊥) → (s : Step) → Moves s → Touches p z s → ⊥
  untouched z j kind marked s m t = elim (free_or_untouched z j kind s m) [ inl f ↦ marked f | inr off ↦ off t ]

  -- it stays so
  there_kept : (k : Marking) (g : Knowing) → k.folder ≡ p → (own : List Deed) (s : Step) (a : Answer) → Moves s → ((n : ℕ) → g.Unmarks n own → g.Unmarks n (did s a ∷ own)) → Withdrawn k g Free own → Withdrawn k g Free (did s a ∷ own)
  there_kept k g same own s a m keeps f = record {
    free = λ n free. keeps n (f.free n free);
    there = λ z j kind. elim (f.there z j kind) [
      | inl u ↦ inl (keeps j u)
      | inr t ↦ elim (free_or_untouched z j kind s m) [
        | inl free ↦ inl (keeps j (f.free j free))
        | inr off ↦ inr (subst (λ q. Sees q z true (did s a ∷ own)) (sym same) (minding.on (moves_stay s m) off (subst (λ q. Sees q z true own) same t)))
      ]
    ];
  }

  pub public_kept : (sequence : List ℕ) (own : List Deed) (s : Step) (a : Answer) → Moves s → Withdrawn (public_marks path name sequence) (by_base run (public_marks path name sequence)) Free own
      → Withdrawn (public_marks path name sequence) (by_base run (public_marks path name sequence)) Free (did s a ∷ own)
  public_kept sequence own s a m f =
      there_kept (public_marks path name sequence) (by_base run (public_marks path name sequence)) refl own s a m (λ n u. (u.0, base_kept run p (public_marks path name sequence).name u.0 own s a leaves u.1, u.2)) f
    where
      leaves : LeavesBase p (public_marks path name sequence).name s
      leaves = subst (λ z. LeavesBase p z s) text_name (texts_left s m)

  pub private_kept : (sequence : List ℕ) (own : List Deed) (s : Step) (a : Answer) → Moves s → Withdrawn (private_marks path name sequence) (by_text run (private_marks path name sequence)) Free own
      → Withdrawn (private_marks path name sequence) (by_text run (private_marks path name sequence)) Free (did s a ∷ own)
  private_kept sequence own s a m f =
      there_kept (private_marks path name sequence) (by_text run (private_marks path name sequence)) refl own s a m
      (λ n u. (apart.on (moves_stay s m) (λ temp. no_context s m temp context_name) u.0, apart.on (moves_stay s m) (λ temp. no_context s m temp context_name) u.1)) f

  pub withdrawn_kept : (own : List Deed) (s : Step) (a : Answer) → Moves s → AreWithdrawn run path name Free own → AreWithdrawn run path name Free (did s a ∷ own)
  withdrawn_kept own s a m f = record { public = λ sequence. public_kept sequence own s a m (f.public sequence); private = λ sequence. private_kept sequence own s a m (f.private sequence) }

  -- such a step minds the marks of all sequences
  module _ (Of : List ℕ → Type 0) where
    -- what the steps mind of the folder's own sequences, they mind of all
    pub of_folder : (own : List Deed) (s : Step) → ((q : Place) → Changes q s → q ≡ p) → ((other temp : List ℕ) → s ≡ step.Rename (Mail other) temp context_name → ⊥)
        → ((sequence : List ℕ) → Minds run (public_marks path name sequence) (by_base run (public_marks path name sequence)) own s) → ((sequence : List ℕ) → Minds run (private_marks path name sequence) (by_text run (private_marks path name sequence)) own s)
        → MindsAll Of run own s
    of_folder own s here none public_so private_so = record {
      public = λ other_mail other sequence c. let e = here (Folder other_mail other) c in
          subst (λ z. Minds run (public_marks z other sequence) (by_base run (public_marks z other sequence)) own s) (sym (one_mail other_mail other path name e))
          (subst (λ z. Minds run (public_marks path z sequence) (by_base run (public_marks path z sequence)) own s) (sym (one_folder other_mail other path name e)) (public_so sequence));
      private = λ other_mail other sequence is c. elim c [
        | inl f ↦ (let e = here (Folder other_mail other) f in
            subst (λ z. Minds run (private_marks z other sequence) (by_text run (private_marks z other sequence)) own s) (sym (one_mail other_mail other path name e))
            (subst (λ z. Minds run (private_marks path z sequence) (by_text run (private_marks path z sequence)) own s) (sym (one_folder other_mail other path name e)) (private_so sequence)))
        | inr f ↦ absurd (none other_mail f.0 f.1)
      ];
      considerate = λ other_mail other sequence is temp e. absurd (none other_mail temp e);
    }

    take_minds : (own : List Deed) (n : ℕ) → IsMsgNum n → Free n → AreWithdrawn run path name Free own → MindsAll Of run own (taking run p n)
    take_minds own n one free f =
        of_folder own (taking run p n) (λ q c. c) (λ other temp e. cc (e))
        (λ sequence. takes_unmarked (kind_of-entry_text (Number n) one) (is_taken_so run few n one) ((f.public sequence).free n free) (f.public sequence).there)
        (λ sequence. takes_unmarked (kind_of-entry_text (Number n) one) (is_taken_so run few n one) ((f.private sequence).free n free) (f.private sequence).there)

    give_minds : (own : List Deed) (n k : ℕ) → IsMsgNum k → Free k → AreWithdrawn run path name Free own → MindsAll Of run own (giving run p n k)
    give_minds own n k one free f =
        of_folder own (giving run p n k) (λ q c. c) (λ other temp e. cc (e)) (λ sequence. plain (number_kind k one) ((f.public sequence).free k free)) (λ sequence. plain (number_kind k one) ((f.private sequence).free k free))

    pub moves_mind : (own : List Deed) (s : Step) → Moves s → AreWithdrawn run path name Free own → MindsAll Of run own s
    moves_mind own _ (by_take {n = n} one is free) f = take_minds own n one free f
    moves_mind own _ (by_give {n = n} {k = k} one is other free) f = give_minds own n k other free f
    moves_mind own _ (by_drop {n = n} one is) f = drop_minds Of run own p (aside_name run n) (is_held_any run (aside_name run n) (is_held_so run few n one))
    moves_mind own _ by_sync f = look_minds Of run own (step.SyncFolder p) tt

    -- so it is of sequences that mark none of these numbers
    pub withdrawn_lets : LetsMove Of run path name takes Free (AreWithdrawn run path name Free)
    withdrawn_lets = record { kept = withdrawn_kept; minds = moves_mind }
