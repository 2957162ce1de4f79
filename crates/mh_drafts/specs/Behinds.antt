-- Steps of the walk over the lines from the last to the first.
use Rattle.std.specs.Prelude.{ℕ, ◌+◌, ◌-◌, ◌==◌, ◌||◌, Bool, true, false}
use Rattle.mh_drafts.specs.declared.sign.Sign.{Sign}
use Rattle.mh_drafts.specs.declared.sign.Sign.TheVariants.{Nothing, Part, Begin, End, Wrong}

abbrev pub ends_behind : Sign → ℕ → ℕ
ends_behind Nothing behind = behind
ends_behind Part behind = behind
ends_behind Begin behind = behind - 1
ends_behind End behind = behind + 1
ends_behind Wrong behind = behind

abbrev pub bare_behind : Sign → Bool → Bool
bare_behind Nothing behind = behind
bare_behind Part behind = false
bare_behind Begin behind = false
bare_behind End behind = true
bare_behind Wrong behind = behind

abbrev pub wrong_by : Sign → ℕ → Bool → Bool
wrong_by Nothing ends bare = false
wrong_by Part ends bare = false
wrong_by Begin ends bare = ends == 0 || bare
wrong_by End ends bare = false
wrong_by Wrong ends bare = true
