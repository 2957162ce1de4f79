-- Texts, and the programs of their formats.
use Rattle.std.proofs.Common.{◌≡◌, ℕ, Bool, List, [], Result, Ok, Err, inl, inr, take, ap, ◌∙◌, subst, ◌⊎◌, ◌<◌, ◌-◌, ◌∷◌, ◌++◌, length, arith}
use Rattle.std.specs.Prelude.{◌↔◌, IfErr, IsTrue}
use Rattle.std.specs.Str.{chars, encode_utf8_all, IsUtf8}
use Rattle.std.proofs.Math.Seq.{take-length}
use Rattle.std.proofs.lemmas.Str.{utf8_valid_len-IsUtf8}
use Rattle.format_compiler.specs.declared.fault.FormatFault.{FormatFault}
use Rattle.format_compiler.specs.declared.fault.FormatFault.TheVariants.{Bad, Memory}
use Rattle.format_compiler.specs.declared.instruction.Instruction.{Instruction}
use Rattle.format_compiler.specs.declared.word.Word.{Word}
use Rattle.format_compiler.specs.Code.{code_of, IsCodeOf}
use Rattle.format_compiler.specs.Formats.{AreCutOff, AreRefused, AreRefusedAt, AreWrongAt, BeginsNone, Denote, Denotes, DenotesNone, IsProgramOf, IsRefused, IsRefusedAt, Stand}
use Rattle.format_compiler.specs.Grammar.{Format, IsFormat}
use Rattle.format_compiler.specs.Texts.{characters_in, place_of, without_feed}
use Rattle.format_compiler.proofs.WholeTexts.{some_format}
use Rattle.format_compiler.proofs.StandingWords.{words_alone, wrong_none}
use Rattle.format_compiler.proofs.SteadyWords.{hopeless}

-- of a text that is UTF-8 all characters count
pub all_characters : (text : List ℕ) → IsUtf8 text → characters_in text ≡ chars text
all_characters text utf8 = ap (λ n. chars (take n text)) (utf8_valid_len-IsUtf8 text utf8) ∙ ap chars (take-length text)

pub program_of : (characters : List ℕ) (words : List Word) (code program : List Instruction) → Stand words [] characters [] [] → ((f : Format) → IsFormat words f → code ≡ code_of f)
    → program ≡ code → IsProgramOf characters program
program_of characters words code program stand linked same =
    let some = some_format words characters stand in
    record { format = some.format; denoted = (words, stand, some.is); code = same ∙ linked some.format some.is }

pub program_alone : (characters : List ℕ) (words : List Word) (code program : List Instruction) (f : Format) → Stand words [] characters [] [] → ((f : Format) → IsFormat words f → code ≡ code_of f)
    → program ≡ code → Denote characters f → IsCodeOf program f
program_alone characters words code program f stand linked same (others, stand_too, is) =
    same ∙ linked f (subst (λ (z : List Word). IsFormat z f) (words_alone others words [] characters stand_too stand) is)

refused_at : (text characters : List ℕ) (at : ℕ) (utf8 : Bool) → characters ≡ characters_in (without_feed text) → IsTrue utf8 ↔ IsUtf8 (without_feed text)
    → AreRefusedAt (IsTrue utf8) characters at → IsRefusedAt text at
refused_at text characters at utf8 are whether r =
    subst (λ (z : List ℕ). AreRefusedAt (IsUtf8 (without_feed text)) z at) are (record { left = r.left; place = r.place; wrong = wrong r.wrong })
  where
    wrong : AreWrongAt characters r.left ⊎ AreCutOff (IsTrue utf8) characters r.left → AreWrongAt characters r.left ⊎ AreCutOff (IsUtf8 (without_feed text)) characters r.left
    wrong (inl w) = inl w
    wrong (inr cut) = inr (record { other = (λ h. cut.other (whether.1 h)); format = cut.format; denoted = cut.denoted; nothing = cut.nothing })

pub refused : {A : Type 0} (text characters : List ℕ) (utf8 : Bool) (r : Result A FormatFault) → characters ≡ characters_in (without_feed text) → IsTrue utf8 ↔ IsUtf8 (without_feed text)
    → IfErr r (AreRefused (IsTrue utf8) characters) → IfErr r (IsRefused text)
refused text characters utf8 (Ok p) are whether h = tt
refused text characters utf8 (Err (Bad at)) are whether h = refused_at text characters at utf8 are whether h
refused text characters utf8 (Err Memory) are whether h = tt

denotes_none : (text : List ℕ) (at : ℕ) → IsRefusedAt text at → (f : Format) → Denotes text f → ⊥
denotes_none text at r f (utf8, (words, stand, is)) = choose r.wrong
  where
    choose : AreWrongAt (characters_in (without_feed text)) r.left ⊎ AreCutOff (IsUtf8 (without_feed text)) (characters_in (without_feed text)) r.left → ⊥
    choose (inl w) = wrong_none (characters_in (without_feed text)) r.left words w stand
    choose (inr cut) = cut.other utf8

pub none : {A : Type 0} (text : List ℕ) (r : Result A FormatFault) → IfErr r (IsRefused text) → IfErr r (DenotesNone text)
none text (Ok p) h = tt
none text (Err (Bad at)) h = denotes_none text at h
none text (Err Memory) h = tt

-- where nothing is left the place is that of the end
no_place : (characters : List ℕ) (at : ℕ) → at ≡ place_of characters [] → at < length (encode_utf8_all characters) → ⊥
no_place characters at is lt =
    let n : length characters - 0 ≡ length characters = omega arith in
    let all : place_of characters [] ≡ length (encode_utf8_all characters) =
    ap (λ z. length (encode_utf8_all (take z characters))) n ∙ ap (λ z. length (encode_utf8_all z)) (take-length characters) in
    omega (arith, is, all, lt)

begins_none : (characters left : List ℕ) (at : ℕ) → at ≡ place_of characters left → AreWrongAt characters left → at < length (encode_utf8_all characters)
    → (more : List ℕ) (f : Format) → Denote (characters ++ more) f → ⊥
begins_none characters [] at is wrong before = absurd (no_place characters at is before)
begins_none characters (c ∷ left) at is wrong before = hopeless characters (c ∷ left) wrong (λ e. cc)

beyond_place : (text : List ℕ) (at : ℕ) → IsRefusedAt text at → at < length (encode_utf8_all (characters_in (without_feed text)))
    → (more : List ℕ) (f : Format) → Denote (characters_in (without_feed text) ++ more) f → ⊥
beyond_place text at r before = choose r.wrong
  where
    choose : AreWrongAt (characters_in (without_feed text)) r.left ⊎ AreCutOff (IsUtf8 (without_feed text)) (characters_in (without_feed text)) r.left → (more : List ℕ) (f : Format) → Denote (characters_in (without_feed text) ++ more) f → ⊥
    choose (inl w) = begins_none (characters_in (without_feed text)) r.left at r.place w before
    choose (inr cut) = absurd (no_place (characters_in (without_feed text)) at (r.place ∙ ap (place_of (characters_in (without_feed text))) cut.nothing) before)

pub beyond : {A : Type 0} (text : List ℕ) (r : Result A FormatFault) → IfErr r (IsRefused text) → IfErr r (BeginsNone text)
beyond text (Ok p) h = tt
beyond text (Err (Bad at)) h = beyond_place text at h
beyond text (Err Memory) h = tt
