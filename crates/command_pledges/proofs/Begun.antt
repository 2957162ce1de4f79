-- What lasts from the begin of a call: where its story started, and that its two readings unlinked nothing.
use Rattle.std.proofs.Common.{ℕ, List, Option, Some, None, Result, Ok, Err}
use Rattle.mh_profile.specs.declared.named_value.NamedValue.{NamedValue}
use Rattle.folder_files.specs.Deeds.{now, on}
use Rattle.folder_files.specs.Story.{GrowsBy, Story}
use Rattle.folder_files.specs.declared.place.Place.TheVariants.{Folder}
use Rattle.folder_files.specs.declared.step.Answer.{Answer}
use Rattle.file_plans.specs.Follows.{Follows, State, filed_in}
use Rattle.file_plans.specs.Plan.{Hand, Plan}
use Rattle.file_plans.specs.Rules.{IfOkay}
use Rattle.file_plans.specs.Runs.{Cause, Deed as Done}
use Rattle.file_plans.proofs.Acting.{acts}
use Rattle.step_plans.proofs.Past.{did_step}
use Rattle.sequence_marks.proofs.Sequences.{SameStart}
use Rattle.opening_plans.proofs.BegunSeen.{NoneUnlinked}
use Rattle.command_plans.specs.Profile.{path_of}
use Rattle.command_plans.proofs.FirstReadings.{two_readings}

-- the story that a call makes longer starts where it started
pub start_same : {T E : Type 0} (run : ℕ) (cause : E → Cause) (plan : Plan (Result T E)) (x y : State) (result : Result T E) → Follows run cause plan x y result → SameStart x.files.story y.files.story
start_same run cause plan x y result f = go x.files.story y.files.story f.went.grows
  where
    go : (old new : Option Story) → GrowsBy run old new (filed_in f.went.log) → SameStart old new
    go None None g = tt
    go (Some old) (Some new) g = g.start
    go None (Some new) g = absurd g
    go (Some old) None g = absurd g

-- two readings unlink nothing
pub none_read : (profile : List NamedValue) (folder : List ℕ) (c d : Answer) → NoneUnlinked (Folder (path_of profile) folder) (acts (two_readings profile c d))
none_read profile folder c d x (now e) = let same = did_step e in cc (same)
none_read profile folder c d x (on (now e)) = let same = did_step e in cc (same)
none_read profile folder c d x (on (on z)) = elim z [ ]

-- no more is said of an end
abbrev pub Any : List Done → Hand → Unit {0} → Type 0
Any past h u = Unit {0}

pub any_so : {E : Type 0} (P : List Done → Hand → Unit {0} → Type 0) (past : List Done) (h : Hand) (r : Result Unit E) → IfOkay P past h r → IfOkay Any past h r
any_so P past h (Ok u) f = tt
any_so P past h (Err e) f = tt
