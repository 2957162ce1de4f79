-- Small cases of what `refile` begins and where it goes, as facts that compute.
use Rattle.std.proofs.Common.{◌≡◌, ◌∷◌, [], ℕ, true, false, List, None, Some, refl}
use Rattle.refile_plans.specs.Refile.{greatest_of, names_source, names_without, targets_of}
use Rattle.refile_plans.specs.declared.job.RefileJob.{RefileJob}

abbrev inbox : List ℕ
inbox = 105 ∷ []

abbrev a : List ℕ
a = 97 ∷ []

abbrev b : List ℕ
b = 98 ∷ []

abbrev job : List ℕ → List (List ℕ) → RefileJob
job target others = record { source = inbox; set_current = false; specs = []; target = target; others = others; link = false; negation = [] }

-- a folder that is named twice counts once, where it first stands
twice : targets_of (job a (b ∷ a ∷ b ∷ [])) ≡ a ∷ b ∷ []
twice = refl

-- the source isn't begun a second time
not_again : names_without inbox (targets_of (job a (inbox ∷ b ∷ []))) ≡ a ∷ b ∷ []
not_again = refl

-- and it is refused
is_source : names_source (job a (inbox ∷ b ∷ [])) ≡ true
is_source = refl

is_other : names_source (job a (b ∷ [])) ≡ false
is_other = refl

-- the highest number of a folder
none : greatest_of [] ≡ None
none = refl

some : greatest_of (record { from = 1; to = 3 } ∷ record { from = 7; to = 7 } ∷ []) ≡ Some 7
some = refl
