-- The pledge of a command that changes nothing but the context.
use Rattle.std.specs.Prelude.{◌≡◌, ℕ, List}
use Rattle.mh_profile.specs.Printing.{printed}
use Rattle.mh_profile.specs.Reading.{entries_in}
use Rattle.folder_files.specs.Commands.{Noting}
use Rattle.folder_files.specs.declared.place.Place.{Place}
use Rattle.folder_files.specs.declared.place.Place.TheVariants.{Mail}
use Rattle.step_plans.specs.ContextCommit.{context_name, changed}
use Rattle.step_plans.specs.Pledges.{Pledge}
use Rattle.step_plans.specs.declared.change.ChangeEntry.{ChangeEntry}

-- what a commit of the context makes of its text
abbrev pub text_by : List ChangeEntry → List ℕ → List ℕ
text_by cs old = printed (changed cs (entries_in old))

-- the name is the context's, and its new text is what these changes make of the old one
abbrev pub MarksContext : List ℕ → List ChangeEntry → Place → List ℕ → List ℕ → List ℕ → Type 0
MarksContext path cs p name old new = (p ≡ Mail path) × (name ≡ context_name) × (new ≡ text_by cs old)

-- a command that keeps the context of this mail directory by these changes, and may say anything
abbrev pub context_pledge : ℕ → List ℕ → List ChangeEntry → Pledge
context_pledge run path cs = record {
  run = run;
  manner = Noting path;
  may_mark = λ own p name old new. MarksContext path cs p name old new;
  may_tell = λ own piece. Unit {0};
  may_step = λ own s. Unit {0};
}
