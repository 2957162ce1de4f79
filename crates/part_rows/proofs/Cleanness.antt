-- Names of files are names.
use Rattle.std.proofs.Common.{◌≡◌, ◌≤◌, ◌<◌, ◌^◌, ◌&&◌, ℕ, zero, suc, Bool, true, false, List, [], ◌∷◌, ◌++◌, length, take, map, refl, ap, ◌∙◌, arith, min, length-append, length-take}
use Rattle.std.specs.Prelude.{not, nat_eq, decimal, if◌then◌else◌}
use Rattle.std.specs.Char.{digit_value}
use Rattle.std.specs.List.{All, list_all}
use Rattle.std.specs.Str.Parse.{AllDigits}
use Rattle.std.specs.Str.{encode_utf8_all}
use Rattle.std.proofs.lemmas.Bool.Decides.{Decides-eqb}
use Rattle.std.proofs.lemmas.List.{take_min}
use Rattle.std.proofs.lemmas.List.Folds.{list_all-append}
use Rattle.std.proofs.lemmas.List.Concat.{flat_map-cons}
use Rattle.mh_base.specs.Names.{IsName, is_name_byte}
use Rattle.part_rows.specs.FileNames.{name_byte, stays, whole_name}
use Rattle.part_rows.specs.PathTexts.{dotted}
use Rattle.mh_base.proofs.EntryNames.{differs, clean_decimal}

clean_by : (c : ℕ) → (c ≡ 0 → ⊥) → (c ≡ 47 → ⊥) → is_name_byte c ≡ true
clean_by c zero_ slash =
    let a : not (nat_eq c 0) ≡ true = differs (nat_eq c 0) c 0 ((Decides-eqb c 0).0) zero_ in
    let b : not (nat_eq c 47) ≡ true = differs (nat_eq c 47) c 47 ((Decides-eqb c 47).0) slash in
    rw (a, b) refl

digits_clean : (ds : List ℕ) → AllDigits 10 ds → list_all is_name_byte ds ≡ true
digits_clean [] all = refl
digits_clean (c ∷ cs) all =
    let here : is_name_byte c ≡ true =
    clean_by c (λ e. let h : digit_value 0 < 10 = rw e at all.0 in omega arith) (λ e. let h : digit_value 47 < 10 = rw e at all.0 in omega arith) in
    let rest : list_all is_name_byte cs ≡ true = digits_clean cs all.1 in
    rw (here, rest) refl

both : (s t : List ℕ) → list_all is_name_byte s ≡ true → list_all is_name_byte t ≡ true → list_all is_name_byte (s ++ t) ≡ true
both s t p q = list_all-append is_name_byte s t ∙ rw (p, q) refl

clean_path : (path : List ℕ) → All (λ n. n < 2 ^ 64) path → list_all is_name_byte (dotted path) ≡ true
clean_path [] fit = refl
clean_path (n ∷ path) fit =
    ap (list_all is_name_byte) (flat_map-cons (λ n. 46 ∷ decimal n) n path)
    ∙ both (46 ∷ decimal n) (dotted path) (clean_decimal n (fit 0 0 (omega arith))) (clean_path path (λ k d lt. fit (suc k) d (omega (arith, lt))))

stays_clean : (b : ℕ) → stays b ≡ true → is_name_byte b ≡ true
stays_clean b e = clean_by b (λ z. let h : stays 0 ≡ true = rw z at e in cc h) (λ s. let h : stays 47 ≡ true = rw s at e in cc h)

byte_by : (t : Bool) (b : ℕ) → stays b ≡ t → is_name_byte (if t then b else 95) ≡ true
byte_by true b e = stays_clean b e
byte_by false b e = refl

clean_byte : (b : ℕ) → is_name_byte (name_byte b) ≡ true
clean_byte b = byte_by (stays b) b refl

clean_subtype : (bs : List ℕ) → list_all is_name_byte (map name_byte bs) ≡ true
clean_subtype [] = refl
clean_subtype (b ∷ bs) = rw (clean_byte b, clean_subtype bs) refl

-- a name has no zero and no slash
pub clean_name : (number : ℕ) (path subtype : List ℕ) → number < 2 ^ 64 → All (λ n. n < 2 ^ 64) path → list_all is_name_byte (whole_name number path subtype) ≡ true
clean_name number path subtype small fit =
    both (decimal number ++ dotted path) (46 ∷ map name_byte (encode_utf8_all subtype)) (both (decimal number) (dotted path) (clean_decimal number small) (clean_path path fit))
    (clean_subtype (encode_utf8_all subtype))

take_by : (t : Bool) (n : ℕ) (bs : List ℕ) → (list_all is_name_byte bs ≡ true → list_all is_name_byte (take n bs) ≡ true) → t && list_all is_name_byte bs ≡ true → t && list_all is_name_byte (take n bs) ≡ true
take_by true n bs more e = more e
take_by false n bs more e = absurd (cc e)

clean_take : (n : ℕ) (bs : List ℕ) → list_all is_name_byte bs ≡ true → list_all is_name_byte (take n bs) ≡ true
clean_take zero bs e = refl
clean_take (suc n) [] e = refl
clean_take (suc n) (b ∷ bs) e = take_by (is_name_byte b) n bs (clean_take n bs) e

-- and in 255 bytes at most it is one
pub is_name : (number : ℕ) (path subtype name : List ℕ) → name ≡ whole_name number path subtype → list_all is_name_byte name ≡ true → IsName (take 255 name)
is_name number path subtype name e clean =
    let long : 1 ≤ length name = omega (arith, ap length e, length-append (decimal number ++ dotted path) (46 ∷ map name_byte (encode_utf8_all subtype))) in
    record {
      some = omega (arith, length-take 255 name);
      short = omega (arith, length-take 255 name);
      clean = clean_take 255 name clean;
    }

-- the first 255 bytes
pub cut : (whole text front : List ℕ) (n long : ℕ) → text ≡ whole → long ≡ length whole → n ≡ min 255 long → front ≡ take n text → front ≡ take 255 whole
cut whole text front n long same is limit e =
    e ∙ ap (take n) same ∙ ap (λ k. take k whole) (limit ∙ ap (min 255) is) ∙ take_min 255 whole
