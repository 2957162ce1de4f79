-- `refile` keeps a pledge that minds the marks of messages, where none is held aside when it takes one.
use Rattle.std.proofs.Common.{◌≡◌, ◌<◌, ◌^◌, ◌∷◌, [], inl, inr, ℕ, true, List, refl, subst}
use Rattle.std.specs.Prelude.{Contains}
use Rattle.mh_base.specs.Folders.{is_folder_name}
use Rattle.mh_profile.specs.declared.named_value.NamedValue.{NamedValue}
use Rattle.folder_files.specs.Deeds.{Deed}
use Rattle.folder_files.specs.declared.step.Step.{Step}
use Rattle.file_plans.specs.Plan.{Hand}
use Rattle.file_plans.proofs.Acting.{acts}
use Rattle.step_plans.specs.Pledges.{Pledge}
use Rattle.command_stages.proofs.FolderLines.{current_valid}
use Rattle.opening_plans.proofs.AllMarks.{pledge_minds}
use Rattle.opening_plans.proofs.Meeting.{with_step}
use Rattle.refile_plans.specs.Refile.{each_once, names_without, refile, targets_of}
use Rattle.refile_plans.specs.RefileHeld.{TakesUnheld}
use Rattle.refile_plans.specs.RefilePledge.{destinations_of, refile_pledge}
use Rattle.refile_plans.specs.declared.job.RefileJob.{RefileJob}
use Rattle.refile_plans.proofs.FolderNames.{first_or_later, first_there, later_there, left_names, none_there}
use Rattle.refile_plans.proofs.FoldersMinded.{AreToldApart, IsToldAll}
use Rattle.refile_plans.proofs.RefileMinds.{MindsTaking, begun_names, refile_meets}
use Rattle.command_pledges.specs.CommandMarks.{IsTextName}
use Rattle.command_plans.specs.Profile.{path_of}
use Rattle.command_pledges.proofs.Begun.{none_read}
use Rattle.command_plans.proofs.FolderChars.{AreTexts}
use Rattle.command_plans.proofs.FirstReadings.{two_readings}
use Rattle.command_pledges.proofs.ToldApart.{told_by}
use Rattle.command_pledges.proofs.MindingPlans.{minds_all}
use Rattle.command_pledges.proofs.MindingWork.{MindingWork, met_minded}
use Rattle.command_pledges.proofs.Pledging.{refiled_keeps}

-- each of these names is a text
each_text : (names : List (List ℕ)) → AreTexts names → (name : List ℕ) → Contains names name → IsTextName name
each_text [] f name c = absurd (none_there name c)
each_text (n ∷ ns) f name c = elim (first_or_later n ns name c) [
  | inl same ↦ subst (λ z. IsTextName z) same f.0
  | inr there ↦ each_text ns f.1 name there
]

-- what stands among names that are kept once stood among them
once_there : (names : List (List ℕ)) (x : List ℕ) → Contains (each_once names) x → Contains names x
once_there [] x c = c
once_there (n ∷ ns) x c = elim (first_or_later n (names_without n (each_once ns)) x c) [
  | inl same ↦ subst (λ z. Contains (n ∷ ns) z) same (first_there n ns)
  | inr there ↦ later_there n ns x (once_there ns x (left_names n (each_once ns) x there).0)
]

-- the folders that it begins have texts as names, and so are told apart
module _ (job : RefileJob) (source : IsTextName job.source) (targets : AreTexts (job.target ∷ job.others)) where
  begun_text : (name : List ℕ) → Contains (begun_names job) name → IsTextName name
  begun_text name c = elim (first_or_later job.source (destinations_of job) name c) [
    | inl same ↦ subst (λ z. IsTextName z) same source
    | inr there ↦ each_text (job.target ∷ job.others) targets name (once_there (job.target ∷ job.others) name (left_names job.source (targets_of job) name there).0)
  ]

  told_apart : AreToldApart (begun_names job)
  told_apart = λ name c other d. told_by other name (begun_text other d) (begun_text name c)

-- `refile` from a folder
module _ (run : ℕ) (few : run < 2 ^ 128) (profile : List NamedValue) (j : Hand) (job : RefileJob) (real : is_folder_name job.source ≡ true) (text : IsTextName job.source) (targets : AreTexts (job.target ∷ job.others)) where
  abbrev path : List ℕ
  path = path_of profile

  abbrev Minds : List Deed → Step → Type 0
  Minds own s = MindsTaking (λ other. IsToldAll (begun_names job) other) run own s

  abbrev takes_pledge : Pledge
  takes_pledge = with_step (with_step (refile_pledge run path job) Minds) TakesUnheld

  pub refile_minded : MindingWork run profile TakesUnheld j (refile run path job)
  refile_minded =
      met_minded run profile TakesUnheld (refile_pledge run path job) refl j (refile run path job) (refiled_keeps run few profile job j)
      Minds (λ c d sound. refile_meets run few path job (current_valid job.source real) (told_apart job text targets) (acts (two_readings profile c d)) j sound (λ n k. none_read profile n c d))
      (minds_all (begun_names job) takes_pledge (begun_text job text targets) (pledge_minds (λ other. IsToldAll (begun_names job) other) takes_pledge (λ own s may. may.0.1 may.1)))
