-- Numbers of a folder of which a run knows that no sequence marks them: a put there minds all marks, and so does a take below them.
use Rattle.std.proofs.Common.{◌≡◌, ◌⊎◌, inl, inr, ◌<◌, ◌∷◌, ℕ, Bool, true, false, List, [], refl, sym, subst}
use Rattle.std.specs.Prelude.{decimal}
use Rattle.mh_base.specs.Entries.{kind_of}
use Rattle.mh_base.specs.Numbers.{IsMsgNum}
use Rattle.mh_base.specs.declared.entry.Entry.TheVariants.{Number}
use Rattle.mh_sequences.specs.Runs.{has}
use Rattle.folder_files.specs.Deeds.{Deed, did}
use Rattle.folder_files.specs.Named.{is_taking}
use Rattle.folder_files.specs.declared.place.Place.{Place}
use Rattle.folder_files.specs.declared.place.Place.TheVariants.{Folder}
use Rattle.folder_files.specs.declared.step.Answer.{Answer}
use Rattle.folder_files.specs.declared.step.Step.{Step}
use Rattle.folder_files.specs.declared.step.Step.TheVariants as step
use Rattle.folder_files.proofs.Names.{not_both}
use Rattle.file_plans.proofs.Showing.{number_kind}
use Rattle.step_plans.proofs.Facts.{LeavesBase, base_kept}
use Rattle.marks_law.specs.Apart.{IsFree, IsSynced, by_text}
use Rattle.marks_law.specs.Apart as apart
use Rattle.marks_law.specs.Minding.{IsUnmarked, Minds, Sees, SeesNoneHeld, by_base, plain, takes_free}
use Rattle.sequence_marks.specs.SequenceMarks.{private_marks, public_marks, says_public}
use Rattle.opening_plans.specs.Opening.{Opened}
use Rattle.opening_plans.proofs.AllMarks.{MindsAll}
use Rattle.opening_plans.proofs.CommitMinds.{one_folder, one_mail, text_name}
use Rattle.opening_plans.proofs.CommitSeen.{NoCommit}
use Rattle.sequence_commits.proofs.SequencesPledged.{sequences_name}
use Rattle.refile_plans.proofs.FoldersMinded.{HasMinded}

-- the run knows of each sequence of the folder that it does not mark the number
abbrev pub IsUnmarkedIn : ℕ → List ℕ → List ℕ → ℕ → List Deed → Type 0
IsUnmarkedIn run path name n own =
    (sequence : List ℕ) → IsUnmarked run (public_marks path name sequence) n own × (IsFree run (private_marks path name sequence) n own × IsSynced (private_marks path name sequence) own)

module _ (run : ℕ) (path name : List ℕ) where
  abbrev p : Place
  p = Folder path name

  -- it stays so while the folder's lock, its text and the context are left alone
  pub unmarked_kept : (n : ℕ) (own : List Deed) (s : Step) (a : Answer) → LeavesBase p sequences_name s → NoCommit path s → IsUnmarkedIn run path name n own → IsUnmarkedIn run path name n (did s a ∷ own)
  unmarked_kept n own s a leaves none f sequence =
      let g = f sequence in ((g.0.0, base_kept run p (public_marks path name sequence).name g.0.0 own s a named g.0.1, g.0.2), (apart.on off none g.1.0, apart.on off none g.1.1))
    where
      named : LeavesBase p (public_marks path name []).name s
      named = subst (λ z. LeavesBase p z s) text_name leaves

      off : s ≡ step.Unlock p → ⊥
      off e = (subst (λ z. LeavesBase p sequences_name z) e leaves) refl

  -- of a folder that was begun no sequence marks a number that was not listed
  pub unmarked_of : (own : List Deed) (o : Opened) → HasMinded run path name own o → (n : ℕ) → has o.listing n ≡ false → IsUnmarkedIn run path name n own
  unmarked_of own o f n unlisted sequence = ((f.old, (rw text_name at f.base), silent (says_public sequence f.old n) refl), (f.frees sequence n unlisted, f.begun.facts.1 sequence))
    where
      silent : (b : Bool) → says_public sequence f.old n ≡ b → b ≡ false
      silent true e = absurd (not_both (has o.listing n) (f.marks sequence n e) unlisted)
      silent false e = refl

  module _ (Of : List ℕ → Type 0) where
    -- a file is put there
    pub put_minds : (own : List Deed) (temp : List ℕ) (n : ℕ) → IsMsgNum n → IsUnmarkedIn run path name n own → MindsAll Of run own (step.Link p temp (decimal n))
    put_minds own temp n one f = record {
      public = λ mail other sequence c.
          subst (λ z. Minds run (public_marks z other sequence) (by_base run (public_marks z other sequence)) own (step.Link p temp (decimal n))) (sym (one_mail mail other path name c))
          (subst (λ z. Minds run (public_marks path z sequence) (by_base run (public_marks path z sequence)) own (step.Link p temp (decimal n))) (sym (one_folder mail other path name c)) (public_so sequence));
      private = λ mail other sequence is c. elim c [
        | inl e ↦
            subst (λ z. Minds run (private_marks z other sequence) (by_text run (private_marks z other sequence)) own (step.Link p temp (decimal n))) (sym (one_mail mail other path name e))
            (subst (λ z. Minds run (private_marks path z sequence) (by_text run (private_marks path z sequence)) own (step.Link p temp (decimal n))) (sym (one_folder mail other path name e)) (private_so sequence))
        | inr e ↦ let same = e.1 in absurd (cc (same))
      ];
      considerate = λ mail other sequence is other_temp e. absurd (cc (e));
    }
      where
        public_so : (sequence : List ℕ) → Minds run (public_marks path name sequence) (by_base run (public_marks path name sequence)) own (step.Link p temp (decimal n))
        public_so sequence = plain (number_kind n one) (f sequence).0

        private_so : (sequence : List ℕ) → Minds run (private_marks path name sequence) (by_text run (private_marks path name sequence)) own (step.Link p temp (decimal n))
        private_so sequence = plain (number_kind n one) (f sequence).1

    -- a message is held aside, while none is, and each number above it is such a one, or is there
    pub take_minds : (own : List Deed) (number held : List ℕ) (n : ℕ) → kind_of number ≡ Number n → is_taking run (kind_of number) (kind_of held) ≡ true → SeesNoneHeld p own
        → ((z : List ℕ) (j : ℕ) → kind_of z ≡ Number j → n < j → IsUnmarkedIn run path name j own ⊎ Sees p z true own) → MindsAll Of run own (step.Rename p number held)
    take_minds own number held n kind taking none above = record {
      public = λ mail other sequence c.
          subst (λ z. Minds run (public_marks z other sequence) (by_base run (public_marks z other sequence)) own (step.Rename p number held)) (sym (one_mail mail other path name c))
          (subst (λ z. Minds run (public_marks path z sequence) (by_base run (public_marks path z sequence)) own (step.Rename p number held)) (sym (one_folder mail other path name c)) (public_so sequence));
      private = λ mail other sequence is c. elim c [
        | inl e ↦
            subst (λ z. Minds run (private_marks z other sequence) (by_text run (private_marks z other sequence)) own (step.Rename p number held)) (sym (one_mail mail other path name e))
            (subst (λ z. Minds run (private_marks path z sequence) (by_text run (private_marks path z sequence)) own (step.Rename p number held)) (sym (one_folder mail other path name e)) (private_so sequence))
        | inr e ↦ let same = e.1 in absurd (cc (same))
      ];
      considerate = λ mail other sequence is other_temp e. absurd (cc (e));
    }
      where
        public_so : (sequence : List ℕ) → Minds run (public_marks path name sequence) (by_base run (public_marks path name sequence)) own (step.Rename p number held)
        public_so sequence = takes_free kind taking none (λ z j is lt. elim (above z j is lt) [ inl u ↦ inl (u sequence).0 | inr t ↦ inr t ])

        private_so : (sequence : List ℕ) → Minds run (private_marks path name sequence) (by_text run (private_marks path name sequence)) own (step.Rename p number held)
        private_so sequence = takes_free kind taking none (λ z j is lt. elim (above z j is lt) [ inl u ↦ inl (u sequence).1 | inr t ↦ inr t ])
