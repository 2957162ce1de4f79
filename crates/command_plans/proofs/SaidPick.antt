-- What the words of `pick` say: a refusal, or a folder that is a folder's name.
use Rattle.std.proofs.Common.{◌≡◌, ℕ, ℤ, List, Ok, Err}
use Rattle.mh_profile.specs.declared.named_value.NamedValue.{NamedValue}
use Rattle.step_plans.proofs.Refusals.{IsRefusal}
use Rattle.folder_words.specs.PickWords.{pick_said}
use Rattle.command_words.specs.declared.ended.Ended.{Ended}
use Rattle.folder_words.specs.declared.pick.PickWords.{PickWords}
use Rattle.command_words.proofs.SaidFolder.{IsValid}
use Rattle.folder_words.proofs.SaidSound.{PickValid, pick_sound}
use Rattle.command_words.proofs.Sound.{said_holds, said_refuses}

module _ (moment offset : ℤ) where
  pub pick_refuses : (profile : List NamedValue) (words : List (List ℕ)) (x : Ended) → pick_said moment offset profile words ≡ Err x → IsRefusal x.fault
  pick_refuses profile words x is = said_refuses PickValid (pick_said moment offset profile words) x (pick_sound moment offset profile words) is

  pub pick_valid : (profile : List NamedValue) (words : List (List ℕ)) (said : PickWords) → pick_said moment offset profile words ≡ Ok said → IsValid said.folder
  pick_valid profile words said is = said_holds PickValid (pick_said moment offset profile words) said (pick_sound moment offset profile words) is
