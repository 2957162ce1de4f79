-- What a text and a context say of a folder's sequences is their one reading.
use Rattle.std.proofs.Common.{◌≡◌, ℕ, ◌+◌, ◌-◌, ◌≤◌, Bool, true, List, [], ◌∷◌, ◌++◌, length, map, take, refl, sym, ◌∙◌, ap, subst, arith, length-append, ⊎_elim}
use Rattle.std.specs.Prelude.{◌&&◌, bytes_eq, codes}
use Rattle.std.specs.List.{list_any}
use Rattle.std.proofs.lemmas.Bool.{and_parts, or_cases, or_left, or_right}
use Rattle.std.proofs.lemmas.List.{take_at}
use Rattle.std.proofs.lemmas.List.Folds.{list_any-append}
use Rattle.mail_headers.specs.Fields.{FieldText, fields_of}
use Rattle.mail_headers.specs.Unfolding.{unfolded}
use Rattle.mh_profile.specs.declared.named_value.NamedValue.{NamedValue}
use Rattle.mh_sequences.specs.Lists.{lists}
use Rattle.mh_sequences.specs.Names.{is_seq_name}
use Rattle.mh_sequences.specs.Reading.{attribute, has_field, lists_private, lists_public, suffix, IsReading}
use Rattle.mh_sequences.specs.Sequences.{AreSequences, Marked}
use Rattle.mh_sequences.proofs.NamePlaces.{same_is, same_self}
use Rattle.mh_sequences.proofs.Same.{one_reading}
use Rattle.sequence_commits.specs.Reading.{inner_name, names_in, lists_either, sequences_in}
use Rattle.sequence_commits.proofs.Gathering.{is_named, sequences_valid, numbers_together, public_together}
use Rattle.sequence_commits.proofs.ListedNumbers.{listed_in_range}

-- a name that one of them gives
pub found_named : {X : Type 0} (f : X → List ℕ) (p : X → Bool) (t : List ℕ) → is_seq_name t ≡ true → ((x : X) → p x ≡ true → f x ≡ t) → (xs : List X) → list_any p xs ≡ true → is_named (map f xs) t ≡ true
found_named f p t valid gives [] e = cc
found_named f p t valid gives (x ∷ xs) e =
    ⊎_elim
    (λ h. or_left (is_seq_name (f x) && bytes_eq t (f x)) (is_named (map f xs) t) (subst (λ y. is_seq_name y && bytes_eq t y ≡ true) (sym (gives x h)) (λ i. valid i && same_self t i)))
    (λ h. or_right (is_seq_name (f x) && bytes_eq t (f x)) (is_named (map f xs) t) (found_named f p t valid gives xs h))
    (or_cases (p x) (list_any p xs) e)

inner_is : (ending t : List ℕ) → inner_name (length ending) (attribute ending t) ≡ t
inner_is ending t =
    let n = length-append (codes "atr-") (t ++ ending) in
    let m = length-append t ending in
    let k : length (attribute ending t) - (4 + length ending) ≡ length t = omega arith in
    ap (λ j. take j (t ++ ending)) k ∙ take_at t ending (length t) refl

module _ (fields : List FieldText) (context : List NamedValue) (ending : List ℕ) where
  covered : (t : List ℕ) (n : ℕ) → is_seq_name t ≡ true → lists_either fields context ending t n ≡ true → is_named (names_in fields context ending) t ≡ true
  covered t n valid e =
      let inner : NamedValue → List ℕ = λ e. inner_name (length ending) e.name in
      list_any-append (λ name. is_seq_name name && bytes_eq t name) (map (λ f. f.name) fields) (map inner context)
      ∙ ⊎_elim
      (λ h. or_left (is_named (map (λ f. f.name) fields) t) (is_named (map inner context) t)
      (found_named (λ f. f.name) (λ f. bytes_eq f.name t && lists (unfolded f.value) n) t valid (λ f is. same_is f.name t (and_parts (bytes_eq f.name t) (lists (unfolded f.value) n) is).0) fields h))
      (λ h. or_right (is_named (map (λ f. f.name) fields) t) (is_named (map inner context) t)
      (found_named inner (λ e. bytes_eq e.name (attribute ending t) && lists e.value n) t valid
      (λ e is. ap (inner_name (length ending)) (same_is e.name (attribute ending t) (and_parts (bytes_eq e.name (attribute ending t)) (lists e.value n) is).0) ∙ inner_is ending t) context h))
      (or_cases (lists_public fields t n) (lists_private context ending t n) e)

  public_ranged : (fs : List FieldText) (t : List ℕ) (n : ℕ) → lists_public fs t n ≡ true → (1 ≤ n) × (n ≤ 999999)
  public_ranged [] t n e = cc
  public_ranged (f ∷ fs) t n e =
      ⊎_elim (λ h. listed_in_range (unfolded f.value) n (and_parts (bytes_eq f.name t) (lists (unfolded f.value) n) h).1) (public_ranged fs t n)
      (or_cases (bytes_eq f.name t && lists (unfolded f.value) n) (lists_public fs t n) e)

  private_ranged : (es : List NamedValue) (t : List ℕ) (n : ℕ) → lists_private es ending t n ≡ true → (1 ≤ n) × (n ≤ 999999)
  private_ranged [] t n e = cc
  private_ranged (x ∷ xs) t n e =
      ⊎_elim (λ h. listed_in_range x.value n (and_parts (bytes_eq x.name (attribute ending t)) (lists x.value n) h).1) (private_ranged xs t n)
      (or_cases (bytes_eq x.name (attribute ending t) && lists x.value n) (lists_private xs ending t n) e)

  within : (t : List ℕ) (n : ℕ) → is_seq_name t ≡ true → lists_either fields context ending t n ≡ true → (1 ≤ n) × (n ≤ 999999)
  within t n valid e = ⊎_elim (public_ranged fields t n) (private_ranged context t n) (or_cases (lists_public fields t n) (lists_private context ending t n) e)

-- they are sequences
pub read_valid : (text : List ℕ) (context : List NamedValue) (folder : List ℕ) → AreSequences (sequences_in text context folder).users
unfolding sequences_in
read_valid text context folder =
    let fields = fields_of text in let ending = suffix folder in sequences_valid (lists_either fields context ending) (has_field fields) (names_in fields context ending)

-- and the reading
pub read_is : (text : List ℕ) (context : List NamedValue) (folder : List ℕ) → IsReading text context folder (sequences_in text context folder)
unfolding sequences_in
read_is text context folder =
    let fields = fields_of text in
    let ending = suffix folder in
    record {
      numbers = λ t n. numbers_together (lists_either fields context ending) (has_field fields) (names_in fields context ending) (covered fields context ending) (within fields context ending) t n;
      public = λ t n m. public_together (lists_either fields context ending) (has_field fields) (names_in fields context ending) t n m;
      cur = refl;
    }

-- the one reading
pub reads : (text : List ℕ) (context : List NamedValue) (folder : List ℕ) (s : Marked) → AreSequences s.users → IsReading text context folder s → s ≡ sequences_in text context folder
reads text context folder s valid is = one_reading text context folder s (sequences_in text context folder) valid (read_valid text context folder) is (read_is text context folder)
