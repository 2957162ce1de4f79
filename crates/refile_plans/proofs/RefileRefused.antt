-- Small cases of what the pledge of `refile` lets no step do.
use Rattle.std.proofs.Common.{◌≡◌, ◌⊎◌, inl, inr, ◌++◌, ◌∷◌, [], ℕ, true, false, List, refl, sym, ◌∙◌}
use Rattle.std.specs.Prelude.{Contains}
use Rattle.mh_base.specs.Entries.{kind_of}
use Rattle.mh_base.specs.declared.entry.Entry.TheVariants.{Number}
use Rattle.mh_sequences.specs.Sequences.{Marked}
use Rattle.mh_sequences.specs.declared.run.Run.{Run}
use Rattle.folder_files.specs.Careful.{WasGivenAway}
use Rattle.folder_files.specs.Deeds.{Deed}
use Rattle.folder_files.specs.Named.{is_held, is_temp}
use Rattle.folder_files.specs.declared.place.Place.TheVariants.{Folder}
use Rattle.folder_files.specs.declared.step.Step.TheVariants as step
use Rattle.refile_plans.specs.Refile.{targets_of}
use Rattle.refile_plans.specs.RefilePledge.{LetsGoCopied, PutsChosen, TakesChosen, WasTakenAndCopied, Withdraws, destinations_of, folders_of}
use Rattle.refile_plans.specs.declared.job.RefileJob.{RefileJob}
use Rattle.refile_plans.proofs.FolderNames.{destinations_other, first_or_later, first_there, later_there, none_there}

not_empty : (since : List Deed) (d : Deed) (before : List Deed) → [] ≡ since ++ d ∷ before → ⊥
not_empty [] d before e = absurd (cc (e))
not_empty (x ∷ since) d before e = absurd (cc (e))

module _ (run : ℕ) (path : List ℕ) (job : RefileJob) where
  -- at first no held name of the source goes
  none_goes : (held : List ℕ) → is_held (kind_of held) ≡ true → LetsGoCopied run path job [] (step.Unlink (Folder path job.source) held) → ⊥
  none_goes held is f = by (f held refl is)
    where
      by : WasGivenAway (Folder path job.source) held [] ⊎ ((job.link ≡ false) × WasTakenAndCopied run (Folder path job.source) held (folders_of path (targets_of job)) []) → ⊥
      by (inl away) = elim away [ ]
      by (inr c) = not_empty c.1.copied.since c.1.copied.reading c.1.copied.before c.1.copied.deeds

  -- where messages are copied and stay, none is taken, and none leaves a sequence
  none_taken : job.link ≡ true → (own : List Deed) (number held : List ℕ) (n : ℕ) → kind_of number ≡ Number n → is_held (kind_of held) ≡ true → TakesChosen run path job own (step.Rename (Folder path job.source) number held) → ⊥
  none_taken link own number held n kind is f = absurd (let no : true ≡ false = sym link ∙ (f number held n refl kind is).0 in cc (no))

  none_withdrawn : job.link ≡ true → (own : List Deed) (listing : List Run) (m new : Marked) → Withdraws run path job own listing m new → ⊥
  none_withdrawn link own listing m new f = absurd (let no : true ≡ false = sym link ∙ f.0 in cc (no))

  no_source : (names : List (List ℕ)) → ((name : List ℕ) → Contains names name → name ≡ job.source → ⊥) → Contains (folders_of path names) (Folder path job.source) → ⊥
  no_source [] other c = none_there (Folder path job.source) c
  no_source (n ∷ ns) other c = elim (first_or_later (Folder path n) (folders_of path ns) (Folder path job.source) c) [
    | inl same ↦ other n (first_there n ns) (cc (same))
    | inr there ↦ no_source ns (λ name d. other name (later_there n ns name d)) there
  ]

  -- no new file gets a number in the source
  none_put : (own : List Deed) (temp number : List ℕ) → is_temp (kind_of temp) ≡ true → PutsChosen run path job own (step.Link (Folder path job.source) temp number) → ⊥
  none_put own temp number is f = no_source (destinations_of job) (destinations_other job) (f (Folder path job.source) temp number refl is).0
