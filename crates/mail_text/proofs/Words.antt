-- A text and the pieces of which it is made.
use Rattle.std.proofs.Common.{◌≡◌, ℕ, zero, suc, ◌≤◌, Option, Some, None, List, [], ◌∷◌, ◌++◌, length, take, drop, refl, sym, ap, ◌∙◌, arith, inl, inr}
use Rattle.std.specs.Prelude.{is_some, if◌then◌else◌}
use Rattle.std.specs.List.{prefix_len, flat_map}
use Rattle.std.proofs.Math.Seq.{drop-append_seam}
use Rattle.std.proofs.lemmas.List.{take-append-drop}
use Rattle.mail_text.specs.EncodedWords.{WordText, first_word, characters_of, without_gap, decoded_by, decoded}
use Rattle.mail_text.specs.WordPieces.{BeginsWithNone, IsGapBefore, GoesOnAt, Piece, shown_of, ArePieces, IsDecodedAs, AsNoOther}
use Rattle.mail_text.specs.WordPieces.Piece.{Plain, Word}
use Rattle.mail_text.proofs.Spelling.{word_first, first_begins, prefix_exact, prefix_passes}
use Rattle.mail_text.proofs.Wording.{step, none_left, first_len, gap_len}
use Rattle.mh_base.specs.Characters.{is_blank}

none_by : (o : Option WordText) (text : List ℕ) → first_word text ≡ o → BeginsWithNone text → o ≡ None
none_by None text e none = refl
none_by (Some w) text e none = absurd (none w (first_begins w text e))

none_first : (text : List ℕ) → BeginsWithNone text → first_word text ≡ None
none_first text none = none_by (first_word text) text refl none

first_none : (text : List ℕ) → first_word text ≡ None → BeginsWithNone text
first_none text e w b = let some = word_first w text b in cc (e, some)

-- behind blanks stands another word
gap_front : (w : WordText) (gap rest behind : List ℕ) → IsGapBefore w gap rest behind → drop (prefix_len is_blank behind) behind ≡ rest
gap_front w gap rest behind g =
    let word = g.word.spelled in
    let same : behind ≡ gap ++ rest = g.parts in
    let size : prefix_len is_blank behind ≡ length gap =
    ap (prefix_len is_blank) (same ∙ ap (λ x. gap ++ x) word) ∙ prefix_exact is_blank gap _ 61 g.blank refl in
    ap (λ n. drop n behind) size ∙ ap (drop (length gap)) same ∙ drop-append_seam gap rest

gap_passed : (w : WordText) (gap rest behind : List ℕ) → IsGapBefore w gap rest behind → without_gap behind ≡ rest
gap_passed w gap rest behind g =
    let front = gap_front w gap rest behind g in
    let here : first_word (drop (prefix_len is_blank behind) behind) ≡ Some w = ap first_word front ∙ word_first w rest g.word in
    rw here front

at_once_by : (o : Option WordText) (front behind : List ℕ) → first_word front ≡ o → (o ≡ None) → (if is_some o then front else behind) ≡ behind
at_once_by None front behind e none = refl
at_once_by (Some w) front behind e none = cc none

goes_on : (rest behind : List ℕ) → GoesOnAt rest behind → rest ≡ without_gap behind
goes_on rest behind (inl (w, gap, g)) = sym (gap_passed w gap rest behind g)
goes_on rest behind (inr (same, none)) =
    let n = prefix_len is_blank behind in
    let no_word : BeginsWithNone (drop n behind) = λ w b. none w (take n behind) (drop n behind) record { parts = sym (take-append-drop n behind); blank = prefix_passes is_blank behind; word = b } in
    same ∙ sym (at_once_by (first_word (drop n behind)) (drop n behind) behind refl (none_first (drop n behind) no_word))

goes_on_by : (o : Option WordText) (behind : List ℕ) → first_word (drop (prefix_len is_blank behind) behind) ≡ o → GoesOnAt (if is_some o then drop (prefix_len is_blank behind) behind else behind) behind
goes_on_by None behind e =
    inr (refl, λ w gap more g. let front = gap_front w gap more behind g in let here : first_word more ≡ Some w = word_first w more g.word in let same = ap first_word front in cc (e, here, same))
goes_on_by (Some w) behind e =
    let n = prefix_len is_blank behind in
    inl (w, take n behind, record { parts = sym (take-append-drop n behind); blank = prefix_passes is_blank behind; word = first_begins w (drop n behind) e })

goes_on_at : (behind : List ℕ) → GoesOnAt (without_gap behind) behind
goes_on_at behind = goes_on_by (first_word (drop (prefix_len is_blank behind) behind)) behind refl

-- every reading is the one of the definition

plain_step : (c : ℕ) (rest : List ℕ) → first_word (c ∷ rest) ≡ None → decoded (c ∷ rest) ≡ c ∷ decoded rest
plain_step c rest e = step c rest ∙ ap (λ o. decoded_by o c rest decoded) e

word_step : (w : WordText) (text : List ℕ) → first_word text ≡ Some w → decoded text ≡ characters_of w ++ decoded (without_gap w.behind)
word_step w [] e = let none = first_len [] w e in absurd (omega (arith, none))
word_step w (c ∷ rest) e = step c rest ∙ ap (λ o. decoded_by o c rest decoded) e

read_alone : (ps : List Piece) (text : List ℕ) → ArePieces ps text → flat_map shown_of ps ≡ decoded text
read_alone [] text e = sym (ap decoded e ∙ none_left)
read_alone (Plain c ∷ ps) text (rest, e, none, are) =
    ap (λ x. c ∷ x) (read_alone ps rest are) ∙ sym (ap decoded e ∙ plain_step c rest (ap first_word (sym e) ∙ none_first text none))
read_alone (Word w ∷ ps) text (rest, begins, on, are) =
    ap (λ x. characters_of w ++ x) (read_alone ps rest are ∙ ap decoded (goes_on rest w.behind on)) ∙ sym (word_step w text (word_first w text begins))

-- and that is one

read_by : (o : Option WordText) (n c : ℕ) (rest : List ℕ) → first_word (c ∷ rest) ≡ o → length rest ≤ n → ((text : List ℕ) → length text ≤ n → (ps : List Piece) × ArePieces ps text) → (ps : List Piece) × ArePieces ps (c ∷ rest)
read_by None n c rest e le more =
    let ps = more rest le in
    (Plain c ∷ ps.0, (rest, refl, first_none (c ∷ rest) e, ps.1))
read_by (Some w) n c rest e le more =
    let word = first_len (c ∷ rest) w e in
    let gap = gap_len w.behind in
    let ps = more (without_gap w.behind) (omega (arith, word, gap, le)) in
    (Word w ∷ ps.0, (without_gap w.behind, first_begins w (c ∷ rest) e, goes_on_at w.behind, ps.1))

read_within : (n : ℕ) (text : List ℕ) → length text ≤ n → (ps : List Piece) × ArePieces ps text
read_within n [] le = ([], refl)
read_within zero (c ∷ rest) le = absurd (omega arith)
read_within (suc n) (c ∷ rest) le = read_by (first_word (c ∷ rest)) n c rest refl (omega arith) (λ text less. read_within n text less)

pub decoded_pieces : (text line : List ℕ) → line ≡ decoded text → IsDecodedAs text line
decoded_pieces text line e =
    let ps = read_within (length text) text (omega arith) in
    (ps.0, ps.1, e ∙ sym (read_alone ps.0 text ps.1))

pub decoded_alone : (text line : List ℕ) → line ≡ decoded text → AsNoOther text line
decoded_alone text line e other (ps, are, is) = is ∙ read_alone ps text are ∙ sym e
