-- One line of a text, character by character, is its words with single spaces.
use Rattle.std.proofs.Common.{◌≡◌, ℕ, Bool, true, false, List, [], ◌∷◌, ◌++◌, refl, sym, ap, ◌∙◌, append_assoc, append-nil}
use Rattle.std.specs.Prelude.{if◌then◌else◌}
use Rattle.mail_text.specs.declared.stripping.Spot.{Spot}
use Rattle.mail_text.specs.declared.stripping.Spot.TheVariants.{Front, Word, Gap}
use Rattle.mail_text.specs.Stripping.{is_gap, spaced, joined, stripped}
use Rattle.mail_text.specs.OneLine.{has_space, line_from, spot_from, spot_behind, written}
use Rattle.mh_base.specs.Characters.{ends_word, longer, words}

pub line_none : (spot : Spot) → line_from spot [] ≡ []
unfolding line_from
line_none spot = refl

line_more : (spot : Spot) (c : ℕ) (rest : List ℕ) → line_from spot (c ∷ rest) ≡ written spot c ++ line_from (spot_behind spot c) rest
unfolding line_from
line_more spot c rest = refl

pub spot_none : (spot : Spot) → spot_from spot [] ≡ spot
unfolding spot_from
spot_none spot = refl

spot_more : (spot : Spot) (c : ℕ) (rest : List ℕ) → spot_from spot (c ∷ rest) ≡ spot_from (spot_behind spot c) rest
unfolding spot_from
spot_more spot c rest = refl

pub spot_last : (spot : Spot) (text : List ℕ) (c : ℕ) → spot_from spot (text ++ c ∷ []) ≡ spot_behind (spot_from spot text) c
spot_last spot [] c = spot_more spot c [] ∙ spot_none _ ∙ ap (λ s. spot_behind s c) (sym (spot_none spot))
spot_last spot (b ∷ text) c = spot_more spot b (text ++ c ∷ []) ∙ spot_last (spot_behind spot b) text c ∙ ap (λ s. spot_behind s c) (sym (spot_more spot b text))

pub line_last : (spot : Spot) (text : List ℕ) (c : ℕ) → line_from spot (text ++ c ∷ []) ≡ line_from spot text ++ written (spot_from spot text) c
line_last spot [] c =
    line_more spot c [] ∙ ap (λ l. written spot c ++ l) (line_none _) ∙ append-nil _ ∙ ap (λ s. written s c) (sym (spot_none spot)) ∙ ap (λ l. l ++ written (spot_from spot []) c) (sym (line_none spot))
line_last spot (b ∷ text) c =
    line_more spot b (text ++ c ∷ []) ∙ ap (λ l. written spot b ++ l) (line_last (spot_behind spot b) text c)
    ∙ sym (append_assoc (written spot b) (line_from (spot_behind spot b) text) _)
    ∙ ap (λ s. (written spot b ++ line_from (spot_behind spot b) text) ++ written s c) (sym (spot_more spot b text))
    ∙ ap (λ l. l ++ written (spot_from spot (b ∷ text)) c) (sym (line_more spot b text))

pub line_both : (spot : Spot) (text more : List ℕ) → line_from spot (text ++ more) ≡ line_from spot text ++ line_from (spot_from spot text) more
line_both spot [] more = ap (λ s. line_from s more) (sym (spot_none spot)) ∙ ap (λ l. l ++ line_from (spot_from spot []) more) (sym (line_none spot))
line_both spot (b ∷ text) more =
    line_more spot b (text ++ more) ∙ ap (λ l. written spot b ++ l) (line_both (spot_behind spot b) text more)
    ∙ sym (append_assoc (written spot b) (line_from (spot_behind spot b) text) _)
    ∙ ap (λ s. (written spot b ++ line_from (spot_behind spot b) text) ++ line_from s more) (sym (spot_more spot b text))
    ∙ ap (λ l. l ++ line_from (spot_from spot (b ∷ text)) more) (sym (line_more spot b text))

-- what is left of the words of a text that stands at this spot
abbrev left : Spot → List ℕ → List ℕ
left Front text = joined (words is_gap text)
left Gap text = spaced (words is_gap text)
left Word text = if ends_word is_gap text then spaced (words is_gap text) else joined (words is_gap text)

gap_passed : (c : ℕ) (rest : List ℕ) → is_gap c ≡ true → words is_gap (c ∷ rest) ≡ words is_gap rest
unfolding words
gap_passed c rest e = rw e refl

one_ended : (c : ℕ) (rest : List ℕ) → is_gap c ≡ false → ends_word is_gap rest ≡ true → words is_gap (c ∷ rest) ≡ (c ∷ []) ∷ words is_gap rest
unfolding words
one_ended c rest e end = rw (e, end) refl

one_longer : (c : ℕ) (rest : List ℕ) → is_gap c ≡ false → ends_word is_gap rest ≡ false → words is_gap (c ∷ rest) ≡ longer c (words is_gap rest)
unfolding words
one_longer c rest e goes = rw (e, goes) refl

longer_joined : (c : ℕ) (ws : List (List ℕ)) → joined (longer c ws) ≡ c ∷ joined ws
longer_joined c [] = refl
longer_joined c (w ∷ ws) = refl

longer_spaced : (c : ℕ) (ws : List (List ℕ)) → spaced (longer c ws) ≡ 32 ∷ c ∷ joined ws
longer_spaced c [] = refl
longer_spaced c (w ∷ ws) = refl

word_by : (t : Bool) (c : ℕ) (rest : List ℕ) → is_gap c ≡ false → ends_word is_gap rest ≡ t →
    (joined (words is_gap (c ∷ rest)) ≡ c ∷ left Word rest) × (spaced (words is_gap (c ∷ rest)) ≡ 32 ∷ c ∷ left Word rest)
word_by true c rest e end = rw (one_ended c rest e end, end) (refl, refl)
word_by false c rest e goes = rw (one_longer c rest e goes, goes) (longer_joined c (words is_gap rest), longer_spaced c (words is_gap rest))

pub gap_written : (spot : Spot) (c : ℕ) → is_gap c ≡ true → written spot c ≡ []
gap_written spot c e = rw e refl

pub spaced_written : (spot : Spot) (c : ℕ) → is_gap c ≡ false → has_space spot ≡ true → written spot c ≡ 32 ∷ c ∷ []
spaced_written spot c e h = rw (e, h) refl

pub plain_written : (spot : Spot) (c : ℕ) → is_gap c ≡ false → has_space spot ≡ false → written spot c ≡ c ∷ []
plain_written spot c e h = rw (e, h) refl

line_gap : (spot : Spot) (c : ℕ) (rest : List ℕ) → is_gap c ≡ true → ((s : Spot) → line_from s rest ≡ left s rest) → line_from spot (c ∷ rest) ≡ left spot (c ∷ rest)
line_gap Front c rest e more = line_more Front c rest ∙ rw (e, gap_passed c rest e) (more Front)
line_gap Word c rest e more = line_more Word c rest ∙ rw (e, gap_passed c rest e) (more Gap)
line_gap Gap c rest e more = line_more Gap c rest ∙ rw (e, gap_passed c rest e) (more Gap)

line_word : (spot : Spot) (c : ℕ) (rest : List ℕ) → is_gap c ≡ false → line_from Word rest ≡ left Word rest → line_from spot (c ∷ rest) ≡ left spot (c ∷ rest)
line_word Front c rest e more = line_more Front c rest ∙ rw e (ap (λ l. c ∷ l) more) ∙ sym (word_by _ c rest e refl).0
line_word Word c rest e more = line_more Word c rest ∙ rw e (ap (λ l. c ∷ l) more ∙ sym (word_by _ c rest e refl).0)
line_word Gap c rest e more = line_more Gap c rest ∙ rw e (ap (λ l. 32 ∷ c ∷ l) more) ∙ sym (word_by _ c rest e refl).1

line_by : (t : Bool) (spot : Spot) (c : ℕ) (rest : List ℕ) → is_gap c ≡ t → ((s : Spot) → line_from s rest ≡ left s rest) → line_from spot (c ∷ rest) ≡ left spot (c ∷ rest)
line_by true spot c rest e more = line_gap spot c rest e more
line_by false spot c rest e more = line_word spot c rest e (more Word)

nothing_left : (spot : Spot) → left spot [] ≡ []
unfolding words
nothing_left Front = refl
nothing_left Word = refl
nothing_left Gap = refl

line_left : (text : List ℕ) (spot : Spot) → line_from spot text ≡ left spot text
line_left [] spot = line_none spot ∙ sym (nothing_left spot)
line_left (c ∷ rest) spot = line_by (is_gap c) spot c rest refl (line_left rest)

pub line_stripped : (text : List ℕ) → line_from Front text ≡ stripped text
line_stripped text = line_left text Front
