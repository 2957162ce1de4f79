-- What the pledge of a command that gives messages other numbers lets its steps be.
use Rattle.std.proofs.Common.{◌≡◌, inl, inr, ◌<◌, ◌^◌, ℕ, List, [], ◌∷◌, sym, ◌∙◌, ap, subst, arith}
use Rattle.mh_base.specs.Entries.{entry_text, kind_of}
use Rattle.mh_base.specs.Numbers.{IsMsgNum}
use Rattle.mh_base.specs.declared.entry.Entry.TheVariants.{Number}
use Rattle.mh_base.proofs.EntryKinds.{kind_of-entry_text}
use Rattle.mh_sequences.specs.Sequences.{Marked}
use Rattle.mh_sequences.specs.declared.run.Run.{Run}
use Rattle.folder_files.specs.Careful.{WasGivenAway}
use Rattle.folder_files.specs.Commands.{Sorting}
use Rattle.folder_files.specs.Deeds.{Deed, on}
use Rattle.folder_files.specs.declared.place.Place.{Place}
use Rattle.folder_files.specs.declared.place.Place.TheVariants.{Folder}
use Rattle.folder_files.specs.declared.step.Step.{Step}
use Rattle.file_plans.proofs.Framing.{AnyStep}
use Rattle.step_plans.proofs.Lasting.{KeptBy}
use Rattle.message_moves.proofs.MovePledged.{LetsTake, taking}
use Rattle.message_places.specs.declared.moves.Move.{Move}
use Rattle.message_places.proofs.ArrangedPledged.{moved_kept}
use Rattle.message_places.proofs.SortingKinds.{sorting_takes}
use Rattle.opening_plans.specs.FolderPledge.{folder_pledge}
use Rattle.opening_plans.proofs.WorkPledged.{LetsBegin}
use Rattle.refile_plans.specs.RmmPledge.{every_message}
use Rattle.refile_plans.proofs.RmmPledged.{in_up}
use Rattle.sortm_plans.specs.MovePledge.{MovesMarks, MovesSo, Taking, WasWithdrawn}
use Rattle.sortm_plans.specs.MovesDone.{MarksWent}
use Rattle.refile_plans.proofs.RefileLets.{temp_unheld, committed_unheld}

module _ (run : ℕ) (path folder : List ℕ) where
  abbrev p : Place
  p = Folder path folder

  pub lets : (Takes : Taking) → LetsBegin path folder (Sorting path folder every_message) (MovesSo run path folder Takes)
  lets Takes = record {
    kinds = λ own kind s k. inl k;
    makes = λ own q. ((λ number held n e k h. absurd (cc (e))), (λ held e h. absurd (cc (e))), (λ r temp number e is. absurd (cc (e))));
    creates = λ own q name bytes. ((λ number held n e k h. absurd (cc (e))), (λ held e h. absurd (cc (e))), (λ r temp number e is. absurd (cc (e))));
    clears = λ own q temp is. (
      (λ number held n e k h. absurd (cc (e))),
      (λ held e h. absurd (let same : temp ≡ held = cc (e) in temp_unheld temp held is same h)),
      (λ r other number e is_temp_. absurd (cc (e))),
    );
    gives = λ own q held number is. (
      (λ from other n e k h. absurd (cc (e))),
      (λ other e h. absurd (cc (e))),
      (λ r temp other e is_temp_. absurd (let same : temp ≡ held = cc (e) in temp_unheld temp held is_temp_ same is)),
    );
    drops = λ own q held is away. (
      (λ number other n e k h. absurd (cc (e))),
      (λ other e h. let same : q ≡ p = cc (e) in let alike : held ≡ other = cc (e) in subst (λ z. WasGivenAway z other own) same (subst (λ z. WasGivenAway q z own) alike away)),
      (λ r temp number e is_temp_. absurd (cc (e))),
    );
    commits = λ own q temp name is. (
      (λ number held n e k h. absurd (let same : name ≡ held = cc (e) in committed_unheld q name held is same h)),
      (λ held e h. absurd (cc (e))),
      (λ r other number e is_temp_. absurd (cc (e))),
    );
  }

  -- a message is taken that no sequence has any more
  pub taken_number : (n k : ℕ) (number : List ℕ) → IsMsgNum n → entry_text (Number n) ≡ number → kind_of number ≡ Number k → n ≡ k
  taken_number n k number ok from kind = let same : Number n ≡ Number k = sym (kind_of-entry_text (Number n) ok) ∙ (ap kind_of from ∙ kind) in cc (same)

  pub may_take : (Takes : Taking) (n : ℕ) (own : List Deed) → IsMsgNum n → WasWithdrawn run path folder Takes n own → MovesSo run path folder Takes own (taking run p n)
  may_take Takes n own ok freed = (
    (λ number held k e kind h. subst (λ z. WasWithdrawn run path folder Takes z own) (taken_number n k number ok (let from : entry_text (Number n) ≡ number = cc (e) in from) kind) freed),
    (λ held e h. absurd (cc (e))),
    (λ r temp number e is. absurd (cc (e))),
  )

  pub takes_one : (Makes : List Deed → List Run → Marked → Marked → Type 0) (Tells : List Deed → List ℕ → Type 0) (So : List Deed → Step → Type 0) (n : ℕ) (own : List Deed) → IsMsgNum n → So own (taking run p n)
      → LetsTake (folder_pledge run path folder Makes (Sorting path folder every_message) Tells So) p n own
  takes_one Makes Tells So n own ok may = record { makes = sorting_takes path folder every_message run n own ok (in_up 1 999999 n ok.0 (let l = ok.1 in omega (arith, l))); may = may }

  -- what it makes of sequences it makes later too
  pub moves_marks_kept : run < 2 ^ 128 → (takes : List ℕ) (ms : List Move) (m new : Marked) → KeptBy AnyStep (λ own. MovesMarks run p takes ms own m new)
  moves_marks_kept few takes ms m new own s a any (inl same) = inl same
  moves_marks_kept few takes ms m new own s a any (inr (ends, moved, same)) = inr (ends, moved_kept run few p ms ends own s a tt moved, same)

  -- what was done at the end stays so
  pub marks_kept : (m : Marked) (takes : List ℕ) (ms : List Move) (ends : List ℕ) → KeptBy AnyStep (MarksWent folder p m takes ms ends)
  marks_kept m takes [] ends own s a any f = tt
  marks_kept m takes (x ∷ ms) ends own s a any (inl e, inl f) = (inl e, inl f)
  marks_kept m takes (x ∷ ms) ends own s a any (inl e, inr f) = (inl e, inr (on f))
  marks_kept m takes (x ∷ ms) ends own s a any (inr e, inl f) = (inr (on e), inl f)
  marks_kept m takes (x ∷ ms) ends own s a any (inr e, inr f) = (inr (on e), inr (on f))
