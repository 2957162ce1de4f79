-- `mhbuild` locks nothing, so no lock ends it.
use Rattle.std.proofs.Common.{◌≡◌, inl, inr, ℕ, Bool, true, false, List, Ok, Err, sym, subst}
use Rattle.std.specs.Prelude.{if◌then◌else◌}
use Rattle.mh_base.specs.Folders.{is_folder_name, without_plus}
use Rattle.mh_profile.specs.declared.named_value.NamedValue.{NamedValue}
use Rattle.folder_files.specs.Deeds.{Deed}
use Rattle.folder_files.specs.declared.place.FilePath.{FilePath}
use Rattle.folder_files.specs.declared.place.Place.{Place}
use Rattle.folder_files.specs.declared.refusal.Refusal.{Refusal}
use Rattle.folder_files.specs.declared.refusal.Refusal.TheVariants as refusal
use Rattle.step_plans.specs.declared.command_fault.CommandFault.{CommandFault}
use Rattle.step_plans.specs.declared.command_fault.CommandFault.TheVariants as fault
use Rattle.mh_drafts.specs.declared.want.Want.{Want}
use Rattle.mh_drafts.specs.declared.want.Want.TheVariants as want
use Rattle.draft_contents.specs.Forwards.{folder_named, folder_word, specs_or_current}
use Rattle.draft_contents.specs.NotGiven.{FileIsNotGiven, MessagesAreNotGiven, WantIsNotGiven, by_words, long_file, no_folder, not_there, taken_away, too_long}
use Rattle.draft_contents.specs.declared.forwarding.Forwarding.{Forwarding}
use Rattle.mhbuild_plans.specs.BuildAnswers.{NotBuilt, long_draft, long_input, long_message, meddled, no_draft, no_name, not_given, wrong_line}
use Rattle.mhbuild_plans.specs.declared.job.BuildJob.{BuildJob}

-- the fault is no lock
abbrev pub IsUnlocked : CommandFault → Type 0
IsUnlocked (fault.Refused r) = Unit {0}
IsUnlocked (fault.Faulted which) = Unit {0}
IsUnlocked (fault.Locked place) = ⊥
IsUnlocked (fault.Meddled place name) = Unit {0}
IsUnlocked fault.Memory = Unit {0}

pub refused_unlocked : (e : CommandFault) → (r : Refusal) × (e ≡ fault.Refused r) → IsUnlocked e
refused_unlocked e is = subst IsUnlocked (sym is.1) tt

file_unlocked : (file : FilePath) (e : CommandFault) (own : List Deed) → FileIsNotGiven file e own → IsUnlocked e
file_unlocked file _ _ not_there = tt
file_unlocked file _ _ too_long = tt

messages_unlocked : (negation folder : List ℕ) (specs : List (List ℕ)) (entries : List NamedValue) (place : Place) (e : CommandFault) (own : List Deed) → MessagesAreNotGiven negation folder specs entries place e own → IsUnlocked e
messages_unlocked negation folder specs entries place _ _ no_folder = tt
messages_unlocked negation folder specs entries place _ own (by_words f) = tt
messages_unlocked negation folder specs entries place _ _ long_file = tt
messages_unlocked negation folder specs entries place _ _ (taken_away n met) = tt

named_unlocked : (word : List ℕ) (e : CommandFault) → folder_named word ≡ Err e → IsUnlocked e
named_unlocked word e = go (is_folder_name (without_plus word))
  where
    go : (b : Bool) → (if b then Ok (without_plus word) else Err (fault.Refused (refusal.BadFolder word))) ≡ Err e → IsUnlocked e
    go true is = cc (is)
    go false is = let same : fault.Refused (refusal.BadFolder word) ≡ e = cc (is) in subst IsUnlocked same tt

want_unlocked : (path : List ℕ) (f : Forwarding) (entries : List NamedValue) (w : Want) (e : CommandFault) (own : List Deed) → WantIsNotGiven path f entries w e own → IsUnlocked e
want_unlocked path f entries (want.File file) e own s = file_unlocked file e own s
want_unlocked path f entries (want.Messages word specs) e own (inl is) = named_unlocked (folder_word f word) e is
want_unlocked path f entries (want.Messages word specs) e own (inr s) = messages_unlocked f.negation s.0 (specs_or_current specs) entries _ e own s.2

pub not_locked : (run : ℕ) (path : List ℕ) (job : BuildJob) (entries : List NamedValue) (next : ℕ) (e : CommandFault) (own : List Deed) → NotBuilt run path job entries next e own → IsUnlocked e
not_locked run path job entries next _ _ (no_draft name is) = tt
not_locked run path job entries next _ _ (long_draft name is) = tt
not_locked run path job entries next _ own (long_input is big) = tt
not_locked run path job entries next _ own (wrong_line text has is) = tt
not_locked run path job entries next e own (not_given text draft has is s) = want_unlocked path job.forwarding entries s.next e own s.not_given
not_locked run path job entries next _ own (long_message message built big) = tt
not_locked run path job entries next _ own (meddled name is s) = tt
not_locked run path job entries next _ own (no_name few) = tt
