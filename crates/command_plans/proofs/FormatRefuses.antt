-- What a format refuses.
use Rattle.std.proofs.Common.{◌≡◌, ◌⊎◌, inl, inr, ℕ, Bool, true, false, List, Option, None, Some, Result, Ok, Err, length, refl, subst}
use Rattle.std.specs.Prelude.{nat_lt, if◌then◌else◌}
use Rattle.std.specs.Str.{encode_utf8_all}
use Rattle.format_compiler.specs.FormatOf.{format_of}
use Rattle.format_compiler.specs.Grammar.{Format}
use Rattle.folder_files.specs.declared.refusal.Refusal.TheVariants as refusal
use Rattle.step_plans.specs.declared.command_fault.CommandFault.{CommandFault}
use Rattle.step_plans.specs.declared.command_fault.CommandFault.TheVariants as fault
use Rattle.message_lines.specs.Finding.{default_text, format_in, format_named, format_within, LIMIT_FORMAT, long_format, wrong_at}
use Rattle.message_lines.specs.MessageText.{Sight}
use Rattle.look_words.specs.declared.look.FormatWords.{FormatWords}
use Rattle.look_words.specs.declared.look.FormatWords.TheVariants.{Default, File, Word}
use Rattle.command_plans.specs.Looking.{Telling, known_by, telling_by}

-- it is wrong from some byte on, or too long
abbrev pub IsFormatRefusal : CommandFault → Type 0
IsFormatRefusal e = ((at : ℕ) × (e ≡ fault.Refused (refusal.BadFormat at))) ⊎ ((l : ℕ) × (e ≡ long_format l))

abbrev Refuses : Result Format CommandFault → Type 0
Refuses (Ok f) = Unit {0}
Refuses (Err e) = IsFormatRefusal e

wrong_refuses : (r : Result Format ℕ) → Refuses (wrong_at r)
wrong_refuses (Ok f) = tt
wrong_refuses (Err at) = inl (at, refl)

within_refuses : (text : List ℕ) → Refuses (format_within text)
within_refuses text = go (nat_lt LIMIT_FORMAT (length text))
  where
    go : (b : Bool) → Refuses (if b then Err (long_format (length text)) else format_in text)
    go true = inr (length text, refl)
    go false = wrong_refuses (format_of text)

named_refuses : (word : Option (List ℕ)) → Refuses (format_named word)
named_refuses None = wrong_refuses (format_of default_text)
named_refuses (Some word) = within_refuses (encode_utf8_all word)

abbrev TellingRefuses : Result Telling CommandFault → Type 0
TellingRefuses (Ok t) = Unit {0}
TellingRefuses (Err e) = IsFormatRefusal e

known_refuses : (sight : Sight) (r : Result Format CommandFault) → Refuses r → TellingRefuses (known_by sight r)
known_refuses sight (Ok f) is = tt
known_refuses sight (Err e) is = is

words_refuse : (sight : Sight) (words : FormatWords) → TellingRefuses (telling_by sight words)
words_refuse sight Default = known_refuses sight (format_named None) (named_refuses None)
words_refuse sight (Word word) = known_refuses sight (format_named (Some word)) (named_refuses (Some word))
words_refuse sight (File path) = tt

-- so is the format that words name
pub format_refuses : (sight : Sight) (words : FormatWords) (e : CommandFault) → telling_by sight words ≡ Err e → IsFormatRefusal e
format_refuses sight words e is = subst TellingRefuses is (words_refuse sight words)
