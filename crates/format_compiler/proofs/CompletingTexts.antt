-- Texts, up to where they are wrong: their words, what closes the conditionals, and the place.
use Rattle.std.proofs.Common.{◌≡◌, ◌⊎◌, inl, inr, ℕ, ◌-◌, ◌==◌, Bool, true, false, List, [], ◌∷◌, ◌++◌, length, take, Result, Ok, Err, refl, sym, ap, ◌∙◌, subst, arith, append-nil, length-append}
use Rattle.std.specs.Prelude.{if◌then◌else◌, IfErr}
use Rattle.std.specs.Str.{encode_utf8_all, IsUtf8}
use Rattle.std.proofs.Math.Seq.{take-append_seam}
use Rattle.std.proofs.lemmas.List.{append_assoc}
use Rattle.format_compiler.specs.declared.fault.FormatFault.{FormatFault}
use Rattle.format_compiler.specs.declared.fault.FormatFault.TheVariants.{Bad, Memory}
use Rattle.format_compiler.specs.declared.piece.Piece.TheVariants.{Character}
use Rattle.format_compiler.specs.declared.word.Word.{Word}
use Rattle.format_compiler.specs.declared.word.Word.TheVariants.{Print, End}
use Rattle.format_compiler.specs.Formats.{AreCutOff, AreWrongAt, BeginSome, Denote, EndInNone, FrontBegins, FrontBeginsSome, IsRefused, IsRefusedAt, IsStuck, Stand}
use Rattle.format_compiler.specs.Reading.{Read}
use Rattle.format_compiler.specs.Texts.{characters_in, place_of, without_feed}
use Rattle.format_compiler.specs.Unfinished.{WordEndsInNone}
use Rattle.format_compiler.specs.Words.{behind_word, escape_in, Open, percent_in, word_in}
use Rattle.format_compiler.proofs.Completing.{carried, Carries, equal, Mends, mends_behind, Reads, Taken, taken_behind}
use Rattle.format_compiler.proofs.CompletingTests.{BadWord}
use Rattle.format_compiler.proofs.CompletingWords.{LongSeen, percent_read, percent_seen, word_read}
use Rattle.format_compiler.proofs.WholeTexts.{some_format}
use Rattle.format_compiler.proofs.NoneBegins.{never_format}
use Rattle.format_compiler.proofs.StandingWords.{nothing_stands, stand_more}

behind_sign : (o : Open) (c : ℕ) (text : List ℕ) → (c == 37) ≡ true → Carries (λ x. x) (percent_read o) (word_read o) (c ∷ []) → (here : Read Word) → LongSeen (BadWord (c ∷ text) (37 ∷ text)) (percent_read o) text here
    → LongSeen (BadWord (c ∷ text) (c ∷ text)) (word_read o) (c ∷ text) here
behind_sign o c text is carries (Ok x) (inl t) = inl (taken_behind (λ x. x) (percent_read o) (word_read o) (c ∷ []) text x.0 x.1 carries t)
behind_sign o c text is carries (Ok x) (inr e) = inr (e.0, carried (λ x. x) (percent_read o) (word_read o) (c ∷ []) (text ++ 10 ∷ []) x.0 carries e.1)
behind_sign o c text is carries (Err left) (inl m) = inl (mends_behind (λ x. x) (percent_read o) (word_read o) (c ∷ []) text left carries m)
behind_sign o c text is carries (Err left) (inr (inl e)) = inr (inl e)
behind_sign o c text is carries (Err left) (inr (inr n)) = inr (inr (n.0, subst (λ (z : ℕ). WordEndsInNone (z ∷ text)) (sym (equal c 37 is)) n.1))

escape_seen : (o : Open) (c : ℕ) (text : List ℕ) → ((whole t : List ℕ) → word_in o (c ∷ t) ≡ escape_in t) → LongSeen (BadWord (c ∷ text) (c ∷ text)) (word_read o) (c ∷ text) (escape_in text)
escape_seen o c [] is = inl (record { front = c ∷ []; parts = refl; more = 97 ∷ []; value = Print (Character 97); reads = λ whole rest. is whole (97 ∷ rest) })
escape_seen o c (d ∷ text) is = inl (record { front = c ∷ (d ∷ []); parts = refl; reads = λ whole rest. is whole (d ∷ rest) })

-- a word is read, or can be completed up to where it is wrong, or is wrong from its beginning, or ends within a name or a
-- number that none begins with
pub word_seen : (o : Open) (text : List ℕ) → LongSeen (BadWord text text) (word_read o) text (word_in o text)
unfolding word_in
word_seen o [] = inr (inl refl)
word_seen o (c ∷ text) = sign (c == 37) refl
  where
    backslash : (b : Bool) → (c == 37) ≡ false → (c == 92) ≡ b → LongSeen (BadWord (c ∷ text) (c ∷ text)) (word_read o) (c ∷ text) (if b then escape_in text else Ok (Print (Character c), text))
    backslash true other e =
        escape_seen o c text
        (λ whole t.
        ap (λ b. if b then percent_in o (c ∷ t) t else (if c == 92 then escape_in t else Ok (Print (Character c), t))) other
        ∙ ap (λ b. if b then escape_in t else Ok (Print (Character c), t)) e)
    backslash false other e = inl (record {
      front = c ∷ [];
      parts = refl;
      reads = λ whole rest.
          ap (λ b. if b then percent_in o (c ∷ rest) rest else (if c == 92 then escape_in rest else Ok (Print (Character c), rest))) other
          ∙ ap (λ b. if b then escape_in rest else Ok (Print (Character c), rest)) e;
    })

    sign : (b : Bool) → (c == 37) ≡ b
        → LongSeen (BadWord (c ∷ text) (c ∷ text)) (word_read o) (c ∷ text) (if b then percent_in o (c ∷ text) text else (if c == 92 then escape_in text else Ok (Print (Character c), text)))
    sign true e =
        behind_sign o c text e
        (λ whole t x behind h.
        ap (λ b. if b then percent_in o (c ∷ t) t else (if c == 92 then escape_in t else Ok (Print (Character c), t))) e ∙ h (c ∷ t))
        (percent_in o (c ∷ text) text) (percent_seen o (c ∷ text) text)
    sign false e = backslash (c == 92) e refl

-- words stand at a front, whatever stands behind it; at all of a text perhaps only with a line feed that ends a comment
pub record Fronted (words : List Word) (o : Open) (text : List ℕ) (after : Open) (left : List ℕ) : Type 0 where
  pub front : List ℕ
  pub parts : front ++ left ≡ text
  pub feed : List ℕ
  pub needed : (feed ≡ []) ⊎ (left ≡ [])
  pub stand : (rest : List ℕ) → Stand words o (front ++ (feed ++ rest)) after rest

with_word : (word : Word) (words : List Word) (o : Open) (text behind : List ℕ) (after : Open) (left : List ℕ) → Fronted words (behind_word word o) behind after left → Taken (word_read o) text word behind
    → Fronted (word ∷ words) o text after left
with_word word words o text behind after left on t = record {
  front = t.front ++ on.front;
  parts = append_assoc t.front on.front left ∙ ap (λ z. t.front ++ z) on.parts ∙ t.parts;
  feed = on.feed;
  needed = on.needed;
  stand = λ rest.
      (on.front ++ (on.feed ++ rest), ap (word_in o) (append_assoc t.front on.front (on.feed ++ rest)) ∙ t.reads [] (on.front ++ (on.feed ++ rest)), on.stand rest);
}

-- the last word is a comment that a line feed ends
with_comment : (word : Word) (words : List Word) (o : Open) (text behind : List ℕ) (after : Open) (left : List ℕ) → Stand words (behind_word word o) behind after left → behind ≡ [] → Reads (word_read o) (text ++ 10 ∷ []) word
    → Fronted (word ∷ words) o text after left
with_comment word [] o text behind after left h none reads =
    let nothing : left ≡ [] = sym h.1 ∙ none in
    record {
      front = text;
      parts = ap (λ z. text ++ z) nothing ∙ append-nil text;
      feed = 10 ∷ [];
      needed = inr nothing;
      stand = λ rest. (rest, ap (word_in o) (sym (append_assoc text (10 ∷ []) rest)) ∙ reads [] rest, (h.0, refl));
    }
with_comment word (v ∷ words) o text behind after left (b, is, h) none reads = absurd (nothing_stands (behind_word word o) v behind b none is)

fronted : (words : List Word) (o : Open) (text : List ℕ) (after : Open) (left : List ℕ) → Stand words o text after left → Fronted words o text after left
fronted [] o text after left h = record { front = []; parts = sym h.1; feed = []; needed = inl refl; stand = λ rest. (h.0, refl) }
fronted (w ∷ words) o text after left (b, is, h) =
    choose (subst (λ (z : Read Word). LongSeen (BadWord text text) (word_read o) text z) is (word_seen o text)) (fronted words (behind_word w o) b after left h)
  where
    choose : Taken (word_read o) text w b ⊎ ((b ≡ []) × Reads (word_read o) (text ++ 10 ∷ []) w) → Fronted words (behind_word w o) b after left → Fronted (w ∷ words) o text after left
    choose (inl t) on = with_word w words o text b after left on t
    choose (inr c) on = with_comment w words o text b after left h c.0 c.1

-- what ends the conditionals that are open
abbrev pub closing : Open → List ℕ
closing [] = []
closing (passed ∷ around) = 37 ∷ (62 ∷ closing around)

abbrev pub ends_of : Open → List Word
ends_of [] = []
ends_of (passed ∷ around) = End ∷ ends_of around

ends_stand : (o : Open) → Stand (ends_of o) o (closing o) [] []
unfolding word_in
ends_stand [] = (refl, refl)
ends_stand (passed ∷ around) = (closing around, refl, ends_stand around)

stand_on : (words others : List Word) (o : Open) (text : List ℕ) (after : Open) (left : List ℕ) → Stand words o text after left → Stand others after left [] [] → Stand (words ++ others) o text [] []
stand_on [] others o text after left h k = subst (λ (z : List ℕ). Stand others o z [] []) (sym h.1) (subst (λ (z : Open). Stand others z left [] []) (sym h.0) k)
stand_on (w ∷ words) others o text after left (b, is, h) k = (b, is, stand_on words others (behind_word w o) b after left h k)

-- a front where words stand and something behind it that ends what they leave open are a format
completed : (front more : List ℕ) (words : List Word) (after : Open) → Stand words [] (front ++ (more ++ closing after)) after (closing after) → BeginSome front
completed front more words after stand =
    let text = front ++ (more ++ closing after) in
    let all = stand_on words (ends_of after) [] text after (closing after) stand (ends_stand after) in
    let some = some_format (words ++ ends_of after) text all in
    record { more = more ++ closing after; format = some.format; denoted = (words ++ ends_of after, all, some.is) }

-- characters before what is left, which begin a format, or end within a name or a number that none begins with
pub record Before (characters left : List ℕ) : Type 0 where
  pub front : List ℕ
  pub parts : front ++ left ≡ characters
  pub begins : BeginSome front ⊎ EndInNone characters left

words_before : (words : List Word) (characters : List ℕ) (after : Open) (text : List ℕ) → Fronted words [] characters after text → Before characters text
words_before words characters after text s = record { front = s.front; parts = s.parts; begins = inl (completed s.front s.feed words after (s.stand (closing after))) }

no_feed : (words : List Word) (characters : List ℕ) (after : Open) (c : ℕ) (text : List ℕ) (s : Fronted words [] characters after (c ∷ text)) → s.feed ≡ []
no_feed words characters after c text s = choose s.needed
  where
    choose : (s.feed ≡ []) ⊎ (c ∷ text ≡ []) → s.feed ≡ []
    choose (inl e) = e
    choose (inr e) = cc

word_before : (words : List Word) (characters : List ℕ) (after : Open) (c : ℕ) (text left : List ℕ) → Fronted words [] characters after (c ∷ text) → Mends (word_read after) (c ∷ text) left
    → Before characters left
word_before words characters after c text left s m = record {
  front = s.front ++ m.front;
  parts = append_assoc s.front m.front left ∙ ap (λ z. s.front ++ z) m.parts ∙ s.parts;
  begins = inl (completed (s.front ++ m.front) m.more (words ++ m.value ∷ []) now (subst (λ (z : List ℕ). Stand (words ++ m.value ∷ []) [] z now (closing now)) same
      (stand_more words m.value [] (s.front ++ (s.feed ++ ((m.front ++ m.more) ++ closing now))) after ((m.front ++ m.more) ++ closing now) (closing now) (s.stand ((m.front ++ m.more) ++ closing now)) (m.reads [] (closing now)))));
}
  where
    now : Open
    now = behind_word m.value after

    same : s.front ++ (s.feed ++ ((m.front ++ m.more) ++ closing (behind_word m.value after))) ≡ (s.front ++ m.front) ++ (m.more ++ closing (behind_word m.value after))
    same =
        let rest = closing (behind_word m.value after) in
        ap (λ z. s.front ++ (z ++ ((m.front ++ m.more) ++ rest))) (no_feed words characters after c text s) ∙ ap (λ z. s.front ++ z) (append_assoc m.front m.more rest)
        ∙ sym (append_assoc s.front m.front (m.more ++ rest))

wrong_before : (words : List Word) (characters : List ℕ) (after : Open) (text left : List ℕ) → Stand words [] characters after text → IsStuck after text left → Before characters left
wrong_before words characters after [] left stand stuck =
    subst (λ (z : List ℕ). Before characters z) (sym stuck.1) (words_before words characters after [] (fronted words [] characters after [] stand))
wrong_before words characters after (c ∷ text) left stand stuck =
    choose (subst (λ (z : Read Word). LongSeen (BadWord (c ∷ text) (c ∷ text)) (word_read after) (c ∷ text) z) stuck (word_seen after (c ∷ text)))
  where
    choose : Mends (word_read after) (c ∷ text) left ⊎ BadWord (c ∷ text) (c ∷ text) left → Before characters left
    choose (inl m) = word_before words characters after c text left (fronted words [] characters after (c ∷ text) stand) m
    choose (inr (inl e)) = subst (λ (z : List ℕ). Before characters z) (sym e) (words_before words characters after (c ∷ text) (fronted words [] characters after (c ∷ text) stand))
    choose (inr (inr n)) = record {
      front = characters;
      parts = ap (λ z. characters ++ z) n.0 ∙ append-nil characters;
      begins = inr (record { words = words; after = after; text = c ∷ text; stand = stand; ends = n.1; none = never_format words characters after c text stand n.1; nothing = n.0 });
    }

cut_before : (Utf8 : Type 0) (characters left : List ℕ) → AreCutOff Utf8 characters left → Before characters left
cut_before Utf8 characters left cut = record {
  front = characters;
  parts = ap (λ z. characters ++ z) cut.nothing ∙ append-nil characters;
  begins = inl (record { more = []; format = cut.format; denoted = subst (λ (z : List ℕ). Denote z cut.format) (sym (append-nil characters)) cut.denoted });
}

-- the place of what is left is where it begins
place_before : (front left : List ℕ) → place_of (front ++ left) left ≡ length (encode_utf8_all front)
place_before front left =
    let n : length (front ++ left) - length left ≡ length front = omega (arith, length-append front left) in
    ap (λ z. length (encode_utf8_all (take z (front ++ left)))) n ∙ ap (λ z. length (encode_utf8_all z)) (take-append_seam front left)

front_at : (text : List ℕ) (at : ℕ) → IsRefusedAt text at → FrontBegins (characters_in (without_feed text)) at
front_at text at r = found (choose r.wrong)
  where
    choose : AreWrongAt (characters_in (without_feed text)) r.left ⊎ AreCutOff (IsUtf8 (without_feed text)) (characters_in (without_feed text)) r.left → Before (characters_in (without_feed text)) r.left
    choose (inl w) = wrong_before w.words (characters_in (without_feed text)) w.after w.text r.left w.stand w.stuck
    choose (inr cut) = cut_before (IsUtf8 (without_feed text)) (characters_in (without_feed text)) r.left cut

    found : Before (characters_in (without_feed text)) r.left → FrontBegins (characters_in (without_feed text)) at
    found b = record {
      front = b.front;
      left = r.left;
      parts = b.parts;
      place = r.place ∙ ap (λ z. place_of z r.left) (sym b.parts) ∙ place_before b.front r.left;
      begins = b.begins;
    }

pub front_begins : {A : Type 0} (text : List ℕ) (r : Result A FormatFault) → IfErr r (IsRefused text) → IfErr r (FrontBeginsSome text)
front_begins text (Ok p) h = tt
front_begins text (Err (Bad at)) h = front_at text at h
front_begins text (Err Memory) h = tt
