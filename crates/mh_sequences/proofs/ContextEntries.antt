-- Entries of sequences in a context.
use Rattle.std.proofs.Common.{◌≡◌, ℕ, zero, suc, ◌<◌, ◌≤◌, Bool, true, false, Some, Option, List, [], ◌∷◌, ◌++◌, length, map, filter, refl, sym, ◌∙◌, ap, subst, arith, ⊎_elim}
use Rattle.std.specs.Prelude.{bytes_eq, ◌&&◌, ◌||◌, IfSome, codes, slice_index_or}
use Rattle.std.specs.List.{All, Contains, list_all, list_any}
use Rattle.std.proofs.lemmas.Bool.{and_from, and_parts, or_left}
use Rattle.mh_base.specs.Numbers.{IsMsgNum}
use Rattle.mail_headers.specs.Fields.{fields_of}
use Rattle.mail_headers.specs.Lines.{is_name_byte}
use Rattle.mh_profile.specs.declared.named_value.NamedValue.{NamedValue}
use Rattle.mh_profile.specs.Validity.{IsEntry}
use Rattle.mh_sequences.specs.Names.{is_seq_name}
use Rattle.mh_sequences.specs.Lists.{lists}
use Rattle.mh_sequences.specs.Printing.{is_private, private_entries, private_entry, text_of, HasJust}
use Rattle.mh_sequences.specs.Reading.{attribute, lists_private, lists_public, suffix, IsReading}
use Rattle.mh_sequences.specs.Sequences.{AreSequences, IsSequence, Marked, Sequence}
use Rattle.mh_sequences.proofs.Bools.{same_test}
use Rattle.mh_sequences.proofs.FieldsBack.{field_name}
use Rattle.mh_sequences.proofs.ListText.{list_unfolded}
use Rattle.mh_sequences.proofs.NamePlaces.{same_is}
use Rattle.mh_sequences.proofs.ReadBack.{reads_back}

found : (p : NamedValue → Bool) (es : List NamedValue) → list_any p es ≡ true → (e : NamedValue) × Contains es e × (p e ≡ true)
found p [] h = cc
found p (x ∷ xs) h = by (p x) refl h (found p xs)
  where
    by : (b : Bool) → p x ≡ b → b || list_any p xs ≡ true → (list_any p xs ≡ true → (e : NamedValue) × Contains xs e × (p e ≡ true)) → (e : NamedValue) × Contains (x ∷ xs) e × (p e ≡ true)
    by true t h more = (x, (0, omega arith, refl), t)
    by false f h more = let one = more h in (one.0, (suc one.1.0, (let lt = one.1.1 in omega arith), one.1.2), one.2)

passes : (p : NamedValue → Bool) (es : List NamedValue) (e : NamedValue) (k : ℕ) → k < length es → slice_index_or es k e ≡ e → p e ≡ true → list_any p es ≡ true
passes p [] e k lt is t = absurd (omega arith)
passes p (x ∷ xs) e zero lt is t = or_left (p x) (list_any p xs) (ap p is ∙ t)
passes p (x ∷ xs) e (suc k) lt is t = behind (p x) (list_any p xs) (passes p xs e k (omega arith) is t)
  where
    behind : (a b : Bool) → b ≡ true → a || b ≡ true
    behind true b h = refl
    behind false b h = h

lists_same : (ending : List ℕ) (entries context : List NamedValue) → HasJust ending entries context → (name : List ℕ) (n : ℕ) → is_seq_name name ≡ true → lists_private entries ending name n ≡ lists_private context ending name n
lists_same ending entries context just name n named =
    let test : NamedValue → Bool = λ e. bytes_eq e.name (attribute ending name) && lists e.value n in
    same_test (list_any test entries) (list_any test context)
    (λ h. let one = found test entries h in
    let there = (just one.0 (name, named, same_is one.0.name (attribute ending name) (and_parts (bytes_eq one.0.name (attribute ending name)) (lists one.0.value n) one.2).0)).1 one.1 in
    passes test context one.0 there.0 there.1 there.2 one.2)
    (λ h. let one = found test context h in
    let there = (just one.0 (name, named, same_is one.0.name (attribute ending name) (and_parts (bytes_eq one.0.name (attribute ending name)) (lists one.0.value n) one.2).0)).0 one.1 in
    passes test entries one.0 there.0 there.1 there.2 one.2)

-- a text reads back with every context that has just the entries
pub reads_with : (m : Marked) → AreSequences m.users → IfSome m.cur IsMsgNum → (folder : List ℕ) (context : List NamedValue) → HasJust (suffix folder) (private_entries (suffix folder) m.users) context → IsReading (text_of m) context folder m
reads_with m h k folder context just =
    let alone = reads_back m h k folder in
    record {
      numbers = λ name n. alone.numbers name n ∙ by name n (is_seq_name name) refl;
      public = λ name n is. alone.public name n is;
      cur = alone.cur;
    }
  where
    by : (name : List ℕ) (n : ℕ) (v : Bool) → is_seq_name name ≡ v → v && (lists_public (fields_of (text_of m)) name n || lists_private (private_entries (suffix folder) m.users) (suffix folder) name n) ≡ v && (lists_public (fields_of (text_of m)) name n || lists_private context (suffix folder) name n)
    by name n true named = ap (λ b. lists_public (fields_of (text_of m)) name n || b) (lists_same (suffix folder) (private_entries (suffix folder) m.users) context just name n named)
    by name n false bad = refl

pub clean_both : (xs ys : List ℕ) → list_all is_name_byte xs ≡ true → list_all is_name_byte ys ≡ true → list_all is_name_byte (xs ++ ys) ≡ true
clean_both [] ys a b = b
clean_both (x ∷ xs) ys a b = let parts = and_parts (is_name_byte x) (list_all is_name_byte xs) a in and_from (is_name_byte x) (list_all is_name_byte (xs ++ ys)) parts.0 (clean_both xs ys parts.1 b)

pub clean_more : (old now more : List ℕ) → now ≡ old ++ more → list_all is_name_byte more ≡ true → list_all is_name_byte old ≡ true → list_all is_name_byte now ≡ true
clean_more old now more e b a = ap (list_all is_name_byte) e ∙ clean_both old more a b

valid_entry : (ending : List ℕ) (s : Sequence) → list_all is_name_byte ending ≡ true → IsSequence s → IsEntry (private_entry ending s)
valid_entry ending s clean is = record {
  name = record { some = omega arith; clean = clean_both (codes "atr-") (s.name ++ ending) refl (clean_both s.name ending (field_name s.name is.name).clean clean) };
  value = list_unfolded s.runs is.runs is.some;
}

all_front : (e : NamedValue) (es : List NamedValue) → IsEntry e → All IsEntry es → All IsEntry (e ∷ es)
all_front e es first others zero d lt = first
all_front e es first others (suc k) d lt = others k d (omega arith)

-- what the context is given of sequences are entries
pub valid_entries : (ending : List ℕ) (ss : List Sequence) → list_all is_name_byte ending ≡ true → AreSequences ss → All IsEntry (private_entries ending ss)
valid_entries ending [] clean h = λ k d lt. absurd (omega arith)
valid_entries ending (s ∷ ss) clean h = by (is_private s) (valid_entries ending ss clean h.2)
  where
    by : (b : Bool) → All IsEntry (private_entries ending ss) → All IsEntry (map (private_entry ending) (Rattle.std.proofs.Common.cond b (s ∷ filter is_private ss) (filter is_private ss)))
    by true others = all_front (private_entry ending s) (private_entries ending ss) (valid_entry ending s clean h.0) others
    by false others = others
