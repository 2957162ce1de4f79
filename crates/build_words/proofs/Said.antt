-- What the words of `mhbuild` say: a refusal; or a draft that has a draft's name.
use Rattle.std.proofs.Common.{◌≡◌, ℕ, Bool, true, false, List, Option, Some, None, Result, Ok, Err, refl, subst}
use Rattle.std.specs.Prelude.{◌++◌, codes, if◌then◌else◌}
use Rattle.std.specs.Str.{encode_utf8_all}
use Rattle.mh_profile.specs.declared.named_value.NamedValue.{NamedValue}
use Rattle.mh_words.specs.Whole.{Wrong}
use Rattle.folder_files.specs.declared.refusal.Refusal.TheVariants as refusal
use Rattle.step_plans.specs.declared.command_fault.CommandFault.TheVariants as fault
use Rattle.step_plans.proofs.Refusals.{IsRefusal}
use Rattle.command_stages.specs.Chosen.{word_at}
use Rattle.command_words.specs.BadValues.{first_of}
use Rattle.command_words.specs.Words.{profile_words}
use Rattle.command_words.specs.declared.ended.Ended.{Ended}
use Rattle.draft_files.specs.DraftNames.{is_draft_name}
use Rattle.build_words.specs.BuildWords.{build_said, by_name, draft_named, extra_in, is_input, named_beside, names_said, none_named, or_wrong, unless_switch}
use Rattle.build_words.specs.Sorts.{places}
use Rattle.build_words.specs.declared.sort.Sort.TheVariants.{Switch, Name}
use Rattle.build_words.specs.declared.words.BuildWords.{BuildWords}

-- a draft's name, where there is one
abbrev pub IsDraft : Option (List ℕ) → Type 0
IsDraft None = Unit {0}
IsDraft (Some name) = is_draft_name name ≡ true

abbrev IsSound : Result BuildWords Ended → Type 0
IsSound (Ok words) = IsDraft words.draft
IsSound (Err x) = IsRefusal x.fault

abbrev ValidIn : Option BuildWords → Type 0
ValidIn None = Unit {0}
ValidIn (Some words) = IsDraft words.draft

name_valid : (word : List ℕ) → ValidIn (by_name word)
name_valid word = go (is_draft_name word) refl
  where
    go : (b : Bool) → is_draft_name word ≡ b → ValidIn (if b then Some (record { draft = Some word }) else None)
    go true is = is
    go false is = tt

draft_valid : (word : List ℕ) → ValidIn (draft_named word)
draft_valid word = go (is_input (encode_utf8_all word))
  where
    go : (b : Bool) → ValidIn (if b then Some (record { draft = None }) else by_name (encode_utf8_all word))
    go true = tt
    go false = name_valid (encode_utf8_all word)

wrong_sound : (words : List (List ℕ)) (wrong : Wrong) → IsSound (or_wrong words (Err wrong))
wrong_sound words wrong = (refusal.BadSwitch wrong.place wrong.why, refl)

beside_sound : (words : List (List ℕ)) (place : ℕ) (said : Option BuildWords) (other : Option ℕ) → ValidIn said → IsSound (or_wrong words (named_beside place said other))
beside_sound words place (Some said) None v = v
beside_sound words place (Some said) (Some other) v = wrong_sound words _
beside_sound words place None None v = wrong_sound words _
beside_sound words place None (Some other) v = wrong_sound words _

none_sound : (words : List (List ℕ)) (other : Option ℕ) → IsSound (or_wrong words (none_named words other))
none_sound words None = wrong_sound words _
none_sound words (Some other) = wrong_sound words _

names_sound : (words : List (List ℕ)) (place : Option ℕ) → IsSound (or_wrong words (names_said words place))
names_sound words (Some place) = beside_sound words place (draft_named (word_at words place)) (extra_in words) (draft_valid (word_at words place))
names_sound words None = none_sound words (extra_in words)

switch_sound : (words : List (List ℕ)) (place : Option ℕ) → IsSound (or_wrong words (unless_switch words place))
switch_sound words (Some place) = wrong_sound words _
switch_sound words None = names_sound words (first_of (places Name 0 words))

said_sound : (profile : List NamedValue) (words : List (List ℕ)) → IsSound (build_said profile words)
said_sound profile words = switch_sound (profile_words (codes "mhbuild") profile ++ words) (first_of (places Switch 0 (profile_words (codes "mhbuild") profile ++ words)))

-- what is no draft is a refusal
pub build_refuses : (profile : List NamedValue) (words : List (List ℕ)) (x : Ended) → build_said profile words ≡ Err x → IsRefusal x.fault
build_refuses profile words x is = subst IsSound is (said_sound profile words)

-- the words name a draft by a draft's name, or the input
pub build_valid : (profile : List NamedValue) (words : List (List ℕ)) (said : BuildWords) → build_said profile words ≡ Ok said → IsDraft said.draft
build_valid profile words said is = subst IsSound is (said_sound profile words)
