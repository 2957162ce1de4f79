-- The format of a text is the one that the text denotes, and a text that is refused is refused where its format is wrong.
use Rattle.std.proofs.Common.{◌≡◌, ℕ, zero, suc, ◌≤◌, ◌==◌, Bool, true, false, List, [], ◌∷◌, length, Result, Ok, Err, inl, inr, ◌⊎◌, refl, sym, ap, ◌∙◌, subst, arith}
use Rattle.std.specs.Prelude.{◌↔◌, IfErr, IfOk, IsTrue}
use Rattle.std.specs.Str.{is_utf8, IsUtf8}
use Rattle.std.proofs.lemmas.Str.{is_utf8-from_IsUtf8, IsUtf8-from_is_utf8}
use Rattle.format_compiler.specs.declared.fault.FormatFault.{FormatFault}
use Rattle.format_compiler.specs.declared.fault.FormatFault.TheVariants.{Bad, Memory}
use Rattle.format_compiler.specs.declared.instruction.Instruction.{Instruction}
use Rattle.format_compiler.specs.declared.one_test.Test.{Test}
use Rattle.format_compiler.specs.declared.word.Word.{Word}
use Rattle.format_compiler.specs.declared.word.Word.TheVariants.{Nothing, Print, If, ElseIf, Else, End}
use Rattle.format_compiler.specs.Code.{code_of, IsCodeOf}
use Rattle.format_compiler.specs.FormatOf.{before, format_by, format_of, IsRead, Items, items_of, Ways, words_of, words_within}
use Rattle.format_compiler.specs.Formats.{AreCutOff, AreWrongAt, Denote, Denotes, IsCompiledTo, IsProgramOf, IsRefused, IsRefusedAt, IsStuck, Stand}
use Rattle.format_compiler.specs.Grammar.{AreItems, AreOthers, AreOver, Choice, Done, Format, IsFormat, over, nothing, print, choice, end, otherwise, otherwise_if}
use Rattle.format_compiler.specs.Reading.{Read, ◌>>=◌}
use Rattle.format_compiler.specs.Texts.{characters_in, place_of, without_feed}
use Rattle.format_compiler.specs.Words.{behind_word, is_inside, Open, word_in}
use Rattle.format_compiler.proofs.Shorter.{Leaves, word_leaves}
use Rattle.format_compiler.proofs.StandingWords.{nothing_stands}

-- the words of a format are its items
abbrev pub with_here : Format → Items → Items
with_here f s = record { here = f; around = s.around }

abbrev pub with_ways : Format → Items → Items
with_ways other s = record { here = Done; around = record { other = other; behind = s.here } ∷ s.around }

over_here : (rest : List Word) → AreOver rest → items_of rest ≡ with_here Done (items_of rest)
over_here [] h = refl
over_here (Nothing ∷ words) h = absurd h
over_here (Print piece ∷ words) h = absurd h
over_here (If test ∷ words) h = absurd h
over_here (ElseIf test ∷ words) h = refl
over_here (Else ∷ words) h = refl
over_here (End ∷ words) h = refl

choice_here : (test : Test) (taken other f : Format) (s t : Items) → s ≡ with_here f t
    → before (If test) (with_here taken (with_ways other s)) ≡ with_here (Choice test taken other f) t
choice_here test taken other f s t is = ap (λ z. before (If test) (with_here taken (with_ways other z))) is

mutual
  items_here : {words rest : List Word} {f : Format} → AreItems words rest f → items_of words ≡ with_here f (items_of rest)
  items_here (over {rest = rest} h) = over_here rest h
  items_here (nothing d) = items_here d
  items_here (print {piece = piece} d) = ap (before (Print piece)) (items_here d)
  items_here (choice {behind = behind} {rest = rest} {test = test} {taken = taken} {other = other} {f = f} d e g) =
      ap (before (If test)) (items_here d ∙ ap (with_here taken) (others_here e)) ∙ choice_here test taken other f (items_of behind) (items_of rest) (items_here g)

  others_here : {words rest : List Word} {other : Format} → AreOthers words rest other → items_of words ≡ with_ways other (items_of rest)
  others_here (end) = refl
  others_here (otherwise d) = ap (before Else) (items_here d)
  others_here (otherwise_if {test = test} {taken = taken} d e) = ap (before (ElseIf test)) (items_here d ∙ ap (with_here taken) (others_here e))

pub format_here : (words : List Word) (f : Format) → IsFormat words f → (items_of words).here ≡ f
format_here words f d = ap (λ s. s.here) (items_here d)

-- words that stand in all of a text are its words
shorter : {A : Type 0} (n : ℕ) (x : A) (left : List ℕ) (read : Read A) → read ≡ Ok (x, left) → Leaves n read → length left ≤ n
shorter n x left read is h = subst (Leaves n) is h

too_long : (c : ℕ) (text : List ℕ) → length (c ∷ text) ≤ 0 → ⊥
too_long c text h = omega (arith, h)

pub words_stand : (most : ℕ) (words : List Word) (o : Open) (text : List ℕ) → length text ≤ most → Stand words o text [] [] → words_within most o text ≡ Ok (words, [])
unfolding words_within
words_stand most [] o text short h =
    ap (words_within most o) h.1 ∙ ap (λ z. words_within most z []) h.0
words_stand most (w ∷ words) o [] short (b, is, h) = absurd (nothing_stands o w [] b refl is)
words_stand zero (w ∷ words) o (c ∷ text) short (b, is, h) = absurd (too_long c text short)
words_stand (suc most) (w ∷ words) o (c ∷ text) short (b, is, h) =
    let less = shorter (length text) w b (word_in o (c ∷ text)) is (word_leaves o c text) in
    let rest = words_stand most words (behind_word w o) b (omega (arith, short, less)) h in
    ap (λ (r : Read Word). r >>= λ word behind. words_within most (behind_word word o) behind >>= λ ws left. Ok (word ∷ ws, left)) is
    ∙ ap (λ (r : Read (List Word)). r >>= λ ws left. Ok (w ∷ ws, left)) rest

-- where words are wrong, so are those of the text
stuck_at : (most : ℕ) (o : Open) (text left : List ℕ) → length text ≤ most → IsStuck o text left → words_within most o text ≡ Err left
unfolding words_within
stuck_at most [] [] left short h = absurd (h.0 refl)
stuck_at most (passed ∷ o) [] left short h = ap (λ (z : List ℕ). let r : Read (List Word) = Err z in r) (sym h.1)
stuck_at zero o (c ∷ text) left short h = absurd (too_long c text short)
stuck_at (suc most) o (c ∷ text) left short h =
    ap (λ (r : Read Word). r >>= λ word behind. words_within most (behind_word word o) behind >>= λ ws rest. Ok (word ∷ ws, rest)) h

wrong_at : (most : ℕ) (words : List Word) (o after : Open) (whole text left : List ℕ) → length whole ≤ most → Stand words o whole after text → IsStuck after text left
    → words_within most o whole ≡ Err left
unfolding words_within
wrong_at most [] o after whole text left short h stuck =
    let fits : length text ≤ most = subst (λ (z : List ℕ). length z ≤ most) h.1 short in
    ap (words_within most o) h.1 ∙ ap (λ z. words_within most z text) h.0 ∙ stuck_at most after text left fits stuck
wrong_at most (w ∷ words) o after [] text left short (b, is, h) stuck = absurd (nothing_stands o w [] b refl is)
wrong_at zero (w ∷ words) o after (c ∷ whole) text left short (b, is, h) stuck = absurd (too_long c whole short)
wrong_at (suc most) (w ∷ words) o after (c ∷ whole) text left short (b, is, h) stuck =
    let less = shorter (length whole) w b (word_in o (c ∷ whole)) is (word_leaves o c whole) in
    let rest = wrong_at most words (behind_word w o) after b text left (omega (arith, short, less)) h stuck in
    ap (λ (r : Read Word). r >>= λ word behind. words_within most (behind_word word o) behind >>= λ ws left_of. Ok (word ∷ ws, left_of)) is
    ∙ ap (λ (r : Read (List Word)). r >>= λ ws left_of. Ok (w ∷ ws, left_of)) rest

-- the format that a text denotes is its format
pub denoted_read : (text : List ℕ) (f : Format) → Denotes text f → format_of text ≡ Ok f
denoted_read text f (utf8, (words, stand, is)) =
    let characters = characters_in (without_feed text) in
    let same : length characters ≤ length characters = omega arith in
    ap (λ (b : Bool). format_by characters b (words_of characters)) (is_utf8-from_IsUtf8 (without_feed text) utf8)
    ∙ ap (format_by characters true) (words_stand (length characters) words [] characters same stand)
    ∙ ap (λ (g : Format). let r : Result Format ℕ = Ok g in r) (format_here words f is)

wrong_read : (characters left : List ℕ) (b : Bool) → AreWrongAt characters left → format_by characters b (words_of characters) ≡ Err (place_of characters left)
wrong_read characters left b w =
    let same : length characters ≤ length characters = omega arith in
    ap (format_by characters b) (wrong_at (length characters) w.words [] w.after characters w.text left same w.stand w.stuck) ∙ at b
  where
    at : (b : Bool) → format_by characters b (Err left) ≡ Err (place_of characters left)
    at true = refl
    at false = refl

cut_read : (text : List ℕ) (f : Format) (words : List Word) (b : Bool) → is_utf8 (without_feed text) ≡ b → (IsUtf8 (without_feed text) → ⊥)
    → Stand words [] (characters_in (without_feed text)) [] [] → format_of text ≡ Err (place_of (characters_in (without_feed text)) [])
cut_read text f words true is other stand = absurd (other (IsUtf8-from_is_utf8 (without_feed text) is))
cut_read text f words false is other stand =
    let characters = characters_in (without_feed text) in
    let same : length characters ≤ length characters = omega arith in
    ap (λ (b : Bool). format_by characters b (words_of characters)) is ∙ ap (format_by characters false) (words_stand (length characters) words [] characters same stand)

-- a text that is refused at a place is wrong there
pub refused_read : (text : List ℕ) (at : ℕ) → IsRefusedAt text at → format_of text ≡ Err at
refused_read text at r = choose r.wrong ∙ ap (λ (n : ℕ). let e : Result Format ℕ = Err n in e) (sym r.place)
  where
    choose : AreWrongAt (characters_in (without_feed text)) r.left ⊎ AreCutOff (IsUtf8 (without_feed text)) (characters_in (without_feed text)) r.left
        → format_of text ≡ Err (place_of (characters_in (without_feed text)) r.left)
    choose (inl w) = wrong_read (characters_in (without_feed text)) r.left (is_utf8 (without_feed text)) w
    choose (inr cut) =
        cut_read text cut.format cut.denoted.0 (is_utf8 (without_feed text)) refl cut.other cut.denoted.1
        ∙ ap (λ (z : List ℕ). let e : Result Format ℕ = Err (place_of (characters_in (without_feed text)) z) in e) (sym cut.nothing)

-- a program of all of a text's characters is compiled from the text
pub compiled : {A : Type 0} (text characters : List ℕ) (utf8 : Bool) (r : Result (List Instruction) A) → characters ≡ characters_in (without_feed text)
    → IsTrue utf8 ↔ IsUtf8 (without_feed text) → IfOk r (λ _. IsTrue utf8) → IfOk r (IsProgramOf characters) → IfOk r (IsCompiledTo text)
compiled text characters utf8 (Ok p) are whether true_ h =
    record { format = h.format; denoted = (whether.0 true_, subst (λ (z : List ℕ). Denote z h.format) are h.denoted); code = h.code }
compiled text characters utf8 (Err e) are whether true_ h = tt

-- what the code answers is what is read
pub is_read : (text : List ℕ) (r : Result (List Instruction) FormatFault) → IfOk r (IsCompiledTo text) → IfErr r (IsRefused text) → IsRead (format_of text) r
is_read text (Ok p) h k = subst (λ (v : Result Format ℕ). IsRead v (Ok p)) (sym (denoted_read text h.format h.denoted)) h.code
is_read text (Err (Bad at)) h k = subst (λ (v : Result Format ℕ). IsRead v (Err (Bad at))) (sym (refused_read text at k)) refl
is_read text (Err Memory) h k = no_memory (format_of text)
  where
    no_memory : (v : Result Format ℕ) → IsRead v (Err Memory)
    no_memory (Ok f) = tt
    no_memory (Err at) = tt
