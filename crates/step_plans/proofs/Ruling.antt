-- The rules of file_plans that a pledge stands for.
use Rattle.std.specs.Prelude.{◌≡◌, ◌<◌, ℕ, List, [], ◌∷◌}
use Rattle.mh_base.specs.Entries.{kind_of}
use Rattle.mh_base.specs.declared.entry.Entry.TheVariants.{Temp}
use Rattle.folder_files.specs.Deeds.{Deed}
use Rattle.folder_files.specs.declared.step.Step.{Step}
use Rattle.folder_files.specs.declared.step.Step.TheVariants as step
use Rattle.file_plans.specs.Rules.{Rules}
use Rattle.file_plans.proofs.Acting.{acts}
use Rattle.step_plans.specs.Pledges.{Pledge, MayAsk}

-- a new file has a temporary name of the run with a number below this one
abbrev pub IsNumbered : ℕ → ℕ → Step → Type 0
IsNumbered run next (step.List p) = Unit {0}
IsNumbered run next (step.Read p n limit) = Unit {0}
IsNumbered run next (step.MakeFolder p) = Unit {0}
IsNumbered run next (step.Create p name b) = (k : ℕ) × (kind_of name ≡ Temp run k) × (k < next)
IsNumbered run next (step.SyncFile p n) = Unit {0}
IsNumbered run next (step.SyncFolder p) = Unit {0}
IsNumbered run next (step.Link p a b) = Unit {0}
IsNumbered run next (step.Rename p a b) = Unit {0}
IsNumbered run next (step.Unlink p a) = Unit {0}
IsNumbered run next (step.Lock p) = Unit {0}
IsNumbered run next (step.Unlock p) = Unit {0}
IsNumbered run next (step.ReadFile f limit) = Unit {0}
IsNumbered run next (step.ReadDrop f from most) = Unit {0}
IsNumbered run next (step.CutDrop f length_) = Unit {0}

-- each of these deeds has
abbrev pub AreNumbered : ℕ → ℕ → List Deed → Type 0
AreNumbered run next [] = Unit {0}
AreNumbered run next (d ∷ own) = IsNumbered run next d.step × AreNumbered run next own

-- what a command asks and says is as pledged, and its hand has the number of no name that it made
abbrev pub rules_of : Pledge → Rules
rules_of w = record {
  may_ask = λ past s. MayAsk w (acts past) s;
  may_say = λ past piece. w.may_tell (acts past) piece;
  may_hear = λ past. Unit {0};
  holds = λ past h. AreNumbered w.run h.next (acts past);
}
