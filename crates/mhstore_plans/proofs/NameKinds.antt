-- The name of a part's file begins with a digit and has a dot, so that it is no name of the mailbox's own kinds.
use Rattle.std.proofs.Common.{◌≡◌, ◌<◌, ◌^◌, ◌++◌, ◌∷◌, [], ℕ, zero, suc, true, false, None, List, length, take, get_or, refl, sym, ◌∙◌, ap, subst, append_assoc, arith}
use Rattle.std.specs.Prelude.{decimal, map}
use Rattle.std.specs.Char.{digit_value}
use Rattle.std.specs.Str.{encode_utf8_all}
use Rattle.std.specs.Str.Parse.{AllDigits}
use Rattle.std.proofs.lemmas.Fmt.{decimal_is_IsNumeral, first_decimal, length-decimal-le}
use Rattle.mh_base.specs.Entries.{IsKind, entry_text, kind_of}
use Rattle.mh_base.specs.Numbers.{IsMsgNum, number_of}
use Rattle.mh_base.specs.declared.entry.Entry.{Entry}
use Rattle.mh_base.specs.declared.entry.Entry.TheVariants.{Backup, Held, LockFile, Number, Other, Sequences, Temp}
use Rattle.mh_base.proofs.Decimals.{decimal_of_none}
use Rattle.mh_base.proofs.EntryKinds.{kind_is}
use Rattle.folder_files.specs.Named.{is_other, is_temp}
use Rattle.part_rows.specs.FileNames.{name_byte, name_of, whole_name}
use Rattle.part_rows.specs.PathTexts.{dotted}

-- no digits have a dot among them
no_dot : (ds rest : List ℕ) → AllDigits 10 (ds ++ 46 ∷ rest) → ⊥
no_dot [] rest all = let h : digit_value 46 < 10 = all.0 in omega arith
no_dot (d ∷ ds) rest all = no_dot ds rest all.1

first_more : (ds rest : List ℕ) → 48 < get_or ds 0 0 → 48 < get_or (ds ++ rest) 0 0
first_more [] rest lt = absurd (omega (arith, lt))
first_more (d ∷ ds) rest lt = lt

-- a dot comes behind the path's numbers, or before the first of them
dot_first : (path rest : List ℕ) → (more : List ℕ) × (dotted path ++ 46 ∷ rest ≡ 46 ∷ more)
dot_first [] rest = (rest, refl)
dot_first (k ∷ path) rest = ((decimal k ++ dotted path) ++ 46 ∷ rest, refl)

-- what is cut stays with its front, where that is short
take_front : (ds : List ℕ) (k c : ℕ) (rest : List ℕ) → length ds < k → (more : List ℕ) × (take k (ds ++ c ∷ rest) ≡ ds ++ c ∷ more)
take_front [] zero c rest lt = absurd (omega (arith, lt))
take_front [] (suc k) c rest lt = (take k rest, refl)
take_front (d ∷ ds) zero c rest lt = absurd (omega (arith, lt))
take_front (d ∷ ds) (suc k) c rest lt = let r = take_front ds k c rest (omega (arith, lt)) in (r.0, ap (λ l. d ∷ l) r.1)

module _ (n : ℕ) (is : IsMsgNum n) where
  small : n < 2 ^ 64
  small = omega (arith, is.1)

  short : length (decimal n) < 255
  short = let l = length-decimal-le 6 n (omega arith) (omega (arith, is.1)) small in omega (arith, l)

  name_front : (path subtype : List ℕ) → (more : List ℕ) × (name_of n path subtype ≡ decimal n ++ 46 ∷ more)
  unfolding name_of
  name_front path subtype =
      let tail = map name_byte (encode_utf8_all subtype) in
      let d = dot_first path tail in
      let whole : whole_name n path subtype ≡ decimal n ++ 46 ∷ d.0 = append_assoc (decimal n) (dotted path) (46 ∷ tail) ∙ ap (λ l. decimal n ++ l) d.1 in
      let t = take_front (decimal n) 255 46 d.0 short in
      (t.0, ap (take 255) whole ∙ t.1)

  module _ (name more : List ℕ) (front : name ≡ decimal n ++ 46 ∷ more) where
    no_decimal : (v : ℕ) → v < 2 ^ 64 → name ≡ decimal v → ⊥
    no_decimal v lt same = no_dot (decimal n) more (subst (AllDigits 10) (sym same ∙ front) (decimal_is_IsNumeral v lt).0.1)

    above : 48 < get_or name 0 0
    above = subst (λ l. 48 < get_or l 0 0) (sym front) (first_more (decimal n) (46 ∷ more) (first_decimal n (omega (arith, is.0)) small))

    not_first : (c : ℕ) (rest : List ℕ) → c < 49 → name ≡ c ∷ rest → ⊥
    not_first c rest low same = let h : 48 < c = subst (λ l. 48 < get_or l 0 0) same above in omega (arith, h, low)

    kind_by : (k : Entry) → IsKind name k → k ≡ Other
    unfolding entry_text
    kind_by (Number v) (ok, same) = absurd (no_decimal v (omega (arith, ok.1)) same)
    kind_by (Backup v) (ok, same) = absurd (not_first 44 (decimal v) (omega arith) same)
    kind_by (Held run v) (ok, same) = absurd (not_first 46 _ (omega arith) same)
    kind_by (Temp run v) (ok, same) = absurd (not_first 46 _ (omega arith) same)
    kind_by Sequences same = absurd (not_first 46 _ (omega arith) same)
    kind_by LockFile same = absurd (not_first 46 _ (omega arith) same)
    kind_by Other same = refl

    no_number : number_of name ≡ None
    no_number = rw (decimal_of_none name no_decimal) refl

  pub file_kind : (path subtype : List ℕ) → kind_of (name_of n path subtype) ≡ Other
  file_kind path subtype = let f = name_front path subtype in kind_by (name_of n path subtype) f.0 f.1 (kind_of (name_of n path subtype)) (kind_is (name_of n path subtype))

  pub file_unnumbered : (path subtype : List ℕ) → number_of (name_of n path subtype) ≡ None
  file_unnumbered path subtype = let f = name_front path subtype in no_number (name_of n path subtype) f.0 f.1

  pub file_lasting : (path subtype : List ℕ) → is_temp (kind_of (name_of n path subtype)) ≡ false
  file_lasting path subtype = rw (file_kind path subtype) refl

  pub file_other : (path subtype : List ℕ) → is_other (kind_of (name_of n path subtype)) ≡ true
  file_other path subtype = rw (file_kind path subtype) refl
