-- The names and the folder of the worked histories, and what such a history has no deed of.
use Rattle.std.proofs.Common.{◌≡◌, ℕ, true, ◌⊎◌, inl, inr, List, [], ◌∷◌, refl, codes}
use Rattle.std.specs.Fmt.{digits}
use Rattle.mh_base.specs.Entries.{kind_of}
use Rattle.mh_base.specs.Numbers.{decimal_of, run_of, hex}
use Rattle.mh_base.specs.declared.entry.Entry.TheVariants.{Number, Held, Temp}
use Rattle.folder_files.specs.Deeds.{Deed, HasFailed}
use Rattle.folder_files.specs.Named.{is_number, is_backing_up}
use Rattle.folder_files.specs.declared.event.After.{After}
use Rattle.folder_files.specs.declared.event.Event.{Event}
use Rattle.folder_files.specs.declared.event.Event.TheVariants.{Act}
use Rattle.folder_files.specs.declared.place.Place.{Place}
use Rattle.folder_files.specs.declared.place.Place.TheVariants.{Folder}
use Rattle.folder_files.specs.declared.step.Answer.{Answer}
use Rattle.folder_files.specs.declared.step.Answer.TheVariants.{Done, Failed}
use Rattle.folder_files.specs.declared.step.Step.{Step}
use Rattle.folder_files.specs.declared.step.Step.TheVariants.{Rename, Unlink}
use Rattle.folder_files.specs.declared.world.World.{World}
use Rattle.step_plans.proofs.Past.{once_head, once_none}
use Rattle.step_plans.specs.Leaving.{IsRemoved, backed_up, unlinked, on}

-- folders of the mail directory `m`
abbrev pub inbox : Place
inbox = Folder (codes "m") (codes "inbox")

abbrev pub out : Place
out = Folder (codes "m") (codes "out")

abbrev pub one : List ℕ
one = codes "1"

abbrev pub two : List ℕ
two = codes "2"

abbrev pub three : List ℕ
three = codes "3"

-- the name under which run 5 holds message 2 aside, and the first that it makes
abbrev pub held : List ℕ
held = codes ".mh_held_00000000000000000000000000000005_2"

abbrev pub temp : List ℕ
temp = codes ".mh_temp_00000000000000000000000000000005_0"

pub one_is : kind_of one ≡ Number 1
unfolding kind_of decimal_of digits
one_is = refl

pub two_is : kind_of two ≡ Number 2
unfolding kind_of decimal_of digits
two_is = refl

pub three_is : kind_of three ≡ Number 3
unfolding kind_of decimal_of digits
three_is = refl

pub held_is : kind_of held ≡ Held 5 2
unfolding kind_of decimal_of run_of hex digits
held_is = refl

pub temp_is : kind_of temp ≡ Temp 5 0
unfolding kind_of decimal_of run_of hex digits
temp_is = refl

pub removed_case : {start : World} {p : Place} {f r : ℕ} {s : Step} {a : Answer} {m : After} {past : List Event} → IsRemoved start p f (Act r s a m ∷ past)
    → (((n : List ℕ) × (b : List ℕ) × (s ≡ Rename p n b) × (is_backing_up (kind_of n) (kind_of b) ≡ true)) ⊎ ((n : List ℕ) × (s ≡ Unlink p n) × (is_number (kind_of n) ≡ true))) ⊎ IsRemoved start p f past
removed_case (backed_up {number = n} {backup = b} is t) = inl (inl (n, b, refl, is))
removed_case (unlinked {number = n} is t) = inl (inr (n, refl, is))
removed_case (on z) = inr z

-- no deed was answered Failed
abbrev pub AreUnfailed : List Deed → Type 0
AreUnfailed [] = Unit {0}
AreUnfailed (d ∷ older) = (d.answer ≡ Failed → ⊥) × AreUnfailed older

pub unfailed : (deeds : List Deed) → AreUnfailed deeds → HasFailed deeds → ⊥
unfailed [] u w = once_none w
unfailed (d ∷ older) u w = elim (once_head w) [ inl e ↦ u.0 e | inr z ↦ unfailed older u.1 z ]

pub done_is_no_failure : Done ≡ Failed → ⊥
done_is_no_failure e = cc (e)
