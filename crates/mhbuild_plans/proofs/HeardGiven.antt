-- What `mhbuild` gives alone, where this was heard of the input.
use Rattle.std.proofs.Common.{◌≡◌, ◌<◌, ◌^◌, ℕ, true, List, Option, None, Some, Result, refl, sym, ap, subst}
use Rattle.mh_profile.specs.declared.named_value.NamedValue.{NamedValue}
use Rattle.folder_files.specs.declared.place.Place.TheVariants.{Work}
use Rattle.file_plans.specs.Contents.{Contents, mailbox_in}
use Rattle.file_plans.specs.Giving.{Gives}
use Rattle.file_plans.specs.Plan.{Hand, bind, ◌>>=◌}
use Rattle.file_plans.specs.Views.{View, by_view}
use Rattle.file_plans.proofs.Onward.{Is}
use Rattle.step_plans.specs.Hands.{temp_name}
use Rattle.step_plans.specs.declared.command_fault.CommandFault.{CommandFault}
use Rattle.command_stages.specs.Works.{Work as WorkValue}
use Rattle.opening_plans.proofs.WorkGiven.{WorkEnds}
use Rattle.draft_files.specs.Drafts.{draft_text}
use Rattle.mhbuild_plans.specs.BuildAlone.{IsValid}
use Rattle.mhbuild_plans.specs.BuildOutcome.{build_work, named_text, text_found}
use Rattle.mhbuild_plans.specs.Building.{message_done, mhbuild, text_built}
use Rattle.mhbuild_plans.specs.Heard.{Heard as HeardText, TooMuch, Whole}
use Rattle.mhbuild_plans.specs.declared.job.BuildJob.{BuildJob}
use Rattle.mhbuild_plans.proofs.BuildGiven.{HasDraft, text_ends}
use Rattle.mhbuild_plans.proofs.HeardBuild.{mhbuild_given, text_given}
use Rattle.mhbuild_plans.proofs.NamedGiven.{named_gives}

module _ (ns : List ℕ) (c : Contents) (h : Hand) (run : ℕ) (few : run < 2 ^ 128) (path : List ℕ) (job : BuildJob) (entries : List NamedValue) (known : h.context ≡ Some entries) (valid : IsValid job.draft) (there : c.there Work ≡ true)
    (free : c.texts Work (temp_name run h.next) ≡ None) where
  abbrev work_by : Result (List ℕ) CommandFault → WorkValue CommandFault
  work_by text = build_work run path entries job text (mailbox_in c)

  abbrev Given : HeardText → Option (List ℕ) → View → Type 0
  Given heard d z = Gives (by_view true) z h (work_by (text_found heard (mailbox_in c) d)).text (text_given heard d >>= (λ text. text_built run path job text >>= message_done run job.draft)) (WorkEnds (work_by (text_found heard (mailbox_in c) d)))

  input_given : job.draft ≡ None → (heard : HeardText) (z : View) → Is true ns z c → Given heard None z
  unfolding build_work Gives bind ◌>>=◌
  input_given is_input (Whole text) z is = text_ends ns c h run path job entries known few text (subst (λ d. HasDraft ns c h run path job entries known d text) (sym is_input) tt) z is
  input_given is_input (TooMuch l) z is = (refl, refl, ap mailbox_in (is.0 refl))

  named_given : (name : List ℕ) → job.draft ≡ Some name → (heard : HeardText) (z : View) → Is true ns z c → Given heard (Some name) z
  unfolding mhbuild
  named_given name is_named heard z is =
      subst (λ d. Gives (by_view true) z h (work_by (named_text name (mailbox_in c))).text (draft_text d >>= (λ text. text_built run path job text >>= message_done run job.draft)) (WorkEnds (work_by (named_text name (mailbox_in c))))) is_named
      (named_gives ns c h run few path job entries known name is_named (subst IsValid is_named valid) there free z is)

  by_draft : (d : Option (List ℕ)) → job.draft ≡ d → (heard : HeardText) (z : View) → Is true ns z c → Given heard d z
  by_draft None is_input heard z is = input_given is_input heard z is
  by_draft (Some name) is_named heard z is = named_given name is_named heard z is

  pub given_gives : (heard : HeardText) (z : View) → Is true ns z c → Gives (by_view true) z h (work_by (text_found heard (mailbox_in c) job.draft)).text (mhbuild_given heard run path job) (WorkEnds (work_by (text_found heard (mailbox_in c) job.draft)))
  unfolding mhbuild_given
  given_gives heard z is = by_draft job.draft refl heard z is
