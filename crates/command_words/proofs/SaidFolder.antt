-- The folder that words name is a folder's name.
use Rattle.std.proofs.Common.{◌≡◌, ℕ, Bool, true, false, List, Option, None, Some, Result, Ok, Err, refl, subst}
use Rattle.std.specs.Prelude.{if◌then◌else◌}
use Rattle.mh_base.specs.Folders.{is_folder_name, without_plus}
use Rattle.folder_files.specs.declared.refusal.Refusal.TheVariants as refusal
use Rattle.step_plans.specs.declared.command_fault.CommandFault.{CommandFault}
use Rattle.step_plans.specs.declared.command_fault.CommandFault.TheVariants as fault
use Rattle.command_words.specs.FolderWords.{named_folder}

-- a folder's name, where there is one
abbrev pub IsValid : Option (List ℕ) → Type 0
IsValid None = Unit {0}
IsValid (Some name) = is_folder_name name ≡ true

pub ok_same : {A E : Type 0} (a b : A) → ◌≡◌ {A = Result A E} (Ok a) (Ok b) → a ≡ b
ok_same a b e = cc

pub no_ok : {A E X : Type 0} (e : E) (a : A) → ◌≡◌ {A = Result A E} (Err e) (Ok a) → X
no_ok e a f = cc

pub named_valid : (word name : List ℕ) → named_folder word ≡ Ok name → is_folder_name name ≡ true
named_valid word name e = go (is_folder_name (without_plus word)) refl e
  where
    go : (b : Bool) → is_folder_name (without_plus word) ≡ b → ◌≡◌ {A = Result (List ℕ) CommandFault} (if b then Ok (without_plus word) else Err (fault.Refused (refusal.BadFolder word))) (Ok name) → is_folder_name name ≡ true
    go true is f = subst (λ z. is_folder_name z ≡ true) (ok_same (without_plus word) name f) is
    go false is f = no_ok (fault.Refused (refusal.BadFolder word)) name f
