-- What is printed reads back.
use Rattle.std.proofs.Common.{◌≡◌, ℕ, zero, suc, ◌+◌, ◌<◌, ◌≤◌, Bool, true, false, Option, Some, None, List, [], ◌∷◌, ◌++◌, length, map, filter, refl, sym, ◌∙◌, ap, subst, arith, append-nil}
use Rattle.std.specs.Prelude.{bytes_eq, is_some, ◌&&◌, ◌||◌, not, codes, decimal, IfSome, if◌then◌else◌}
use Rattle.std.specs.List.{list_any, find}
use Rattle.std.specs.declared.cmp.Ordering.TheVariants.{Less}
use Rattle.std.proofs.lemmas.Bool.{and_parts, both_ways}
use Rattle.std.proofs.lemmas.List.Folds.{list_any-append}
use Rattle.mail_headers.specs.Fields.{fields_of}
use Rattle.mail_headers.specs.Unfolding.{unfolded}
use Rattle.mh_base.specs.Numbers.{IsMsgNum}
use Rattle.mh_profile.specs.declared.named_value.NamedValue.{NamedValue}
use Rattle.mh_profile.proofs.OneLineValues.{value_read}
use Rattle.mh_sequences.specs.Names.{is_seq_name, is_reserved}
use Rattle.mh_sequences.specs.Runs.{has}
use Rattle.mh_sequences.specs.Lists.{items, is_listed, lists}
use Rattle.mh_sequences.specs.Printing.{is_shown, is_private, is_before_cur, entry_of, private_entry, cur_entry, public_entries, private_entries, text_of}
use Rattle.mh_sequences.specs.Reading.{attribute, suffix, lists_public, lists_private, has_field, cur_in, first_or, IsReading}
use Rattle.mh_sequences.specs.Sequences.{Sequence, Precedes, AreSequences, Marked, runs_of, public_of, member}
use Rattle.mh_sequences.proofs.Bools.{or_nothing}
use Rattle.mh_sequences.proofs.PrivateNames.{name_between}
use Rattle.mh_sequences.proofs.FieldsBack.{AllEntries, shown, fields_printed, lists_shown, names_shown, field_name}
use Rattle.mh_sequences.proofs.ListText.{lists_back, list_unfolded, number_unfolded, number_item, number_read, number_run}
use Rattle.mh_sequences.proofs.AsciiNames.{name_free}
use Rattle.mh_sequences.proofs.NamePlaces.{same_is, same_by}
use Rattle.mh_sequences.proofs.Mentioning.{same_turned}

-- no sequence is named as the current message is
not_cur : (name : List ℕ) → is_seq_name name ≡ true → bytes_eq name (codes "cur") ≡ false
not_cur name h = by (bytes_eq name (codes "cur")) refl
  where
    by : (b : Bool) → bytes_eq name (codes "cur") ≡ b → b ≡ false
    by false e = refl
    by true e = absurd (both_ways (not (is_reserved name)) (ap (λ x. not (is_reserved x)) (same_is name (codes "cur") e)) (name_free name h))

-- the test on one sequence
abbrev hit : List ℕ → ℕ → Sequence → Bool
hit t n s = bytes_eq s.name t && has s.runs n

module _ (t : List ℕ) (n : ℕ) where
  hit_none : (ss : List Sequence) → Precedes t ss → list_any (hit t n) ss ≡ false
  hit_none [] h = refl
  hit_none (s ∷ ss) h = (λ i. ((same_turned s.name t ∙ same_by t s.name Less h.0) i && has s.runs n) || hit_none ss h.1 i)

  -- a member is a hit
  members : (ss : List Sequence) → AreSequences ss → member ss t n ≡ list_any (hit t n) ss
  members [] h = refl
  members (s ∷ ss) h = by (members ss h.2) (bytes_eq t s.name) refl
    where
      by : member ss t n ≡ list_any (hit t n) ss → (b : Bool) → bytes_eq t s.name ≡ b → has (if b then s.runs else runs_of ss t) n ≡ list_any (hit t n) (s ∷ ss)
      by ih true e =
          let same : t ≡ s.name = same_is t s.name e in
          let others = hit_none ss (subst (λ x. Precedes x ss) (sym same) h.1) in
          sym ((λ i. ((same_turned s.name t ∙ e) i && has s.runs n) || others i) ∙ or_nothing (has s.runs n))
      by ih false e = ih ∙ sym (λ i. ((same_turned s.name t ∙ e) i && has s.runs n) || list_any (hit t n) ss)

  -- where the name is none there is no hit
  nothing_named : (ss : List Sequence) → AreSequences ss → is_seq_name t ≡ false → list_any (hit t n) ss ≡ false
  nothing_named [] h bad = refl
  nothing_named (s ∷ ss) h bad = by (nothing_named ss h.2 bad) (bytes_eq s.name t) refl
    where
      by : list_any (hit t n) ss ≡ false → (b : Bool) → bytes_eq s.name t ≡ b → (b && has s.runs n) || list_any (hit t n) ss ≡ false
      by ih true e = absurd (both_ways (is_seq_name t) bad (ap is_seq_name (sym (same_is s.name t e)) ∙ h.0.name))
      by ih false e = ih

  -- what the entries of some sequences list
  listed : (p : Sequence → Bool) (ss : List Sequence) → AreSequences ss → list_any (λ e. bytes_eq e.name t && lists e.value n) (map entry_of (filter p ss)) ≡ list_any (λ s. p s && hit t n s) ss
  listed p [] h = refl
  listed p (s ∷ ss) h = by (listed p ss h.2) (p s)
    where
      by : list_any (λ e. bytes_eq e.name t && lists e.value n) (map entry_of (filter p ss)) ≡ list_any (λ s. p s && hit t n s) ss → (b : Bool) → list_any (λ e. bytes_eq e.name t && lists e.value n) (map entry_of (Rattle.std.proofs.Common.cond b (s ∷ filter p ss) (filter p ss))) ≡ (b && hit t n s) || list_any (λ s. p s && hit t n s) ss
      by ih true = λ i. (bytes_eq s.name t && lists_back s.runs h.0.runs h.0.some n i) || ih i
      by ih false = ih

  listed_private : (ending : List ℕ) (ss : List Sequence) → AreSequences ss → lists_private (private_entries ending ss) ending t n ≡ list_any (λ s. is_private s && hit t n s) ss
  listed_private ending [] h = refl
  listed_private ending (s ∷ ss) h = by (listed_private ending ss h.2) (is_private s)
    where
      by : lists_private (private_entries ending ss) ending t n ≡ list_any (λ s. is_private s && hit t n s) ss → (b : Bool) → lists_private (map (private_entry ending) (Rattle.std.proofs.Common.cond b (s ∷ filter is_private ss) (filter is_private ss))) ending t n ≡ (b && hit t n s) || list_any (λ s. is_private s && hit t n s) ss
      by ih true = λ i. (name_between (attribute ending s.name) ending (s.name ++ ending) s.name refl refl t i && lists_back s.runs h.0.runs h.0.some n i) || ih i
      by ih false = ih

three : (p b m x y z : Bool) → (((p && b) && m) || x) || (((p && not b) && m) || y) || ((not p && m) || z) ≡ m || ((x || y) || z)
three true true true x y z = refl
three true false true true y z = refl
three true false true false y z = refl
three false b true true y z = refl
three false b true false true z = refl
three false b true false false z = refl
three true true false x y z = refl
three true false false x y z = refl
three false b false x y z = refl

-- all together are all hits
together : (q : Sequence → Bool) (ss : List Sequence) → (list_any (λ s. is_shown true s && q s) ss || list_any (λ s. is_shown false s && q s) ss) || list_any (λ s. is_private s && q s) ss ≡ list_any q ss
together q [] = refl
together q (s ∷ ss) =
    three s.public (is_before_cur s.name) (q s) (list_any (λ s. is_shown true s && q s) ss) (list_any (λ s. is_shown false s && q s) ss) (list_any (λ s. is_private s && q s) ss)
    ∙ ap (λ r. q s || r) (together q ss)

two : (p b m x y : Bool) → (((p && b) && m) || x) || (((p && not b) && m) || y) ≡ (p && m) || (x || y)
two true true true x y = refl
two true false true true y = refl
two true false true false y = refl
two true true false x y = refl
two true false false x y = refl
two false b m x y = refl

public_together : (q : Sequence → Bool) (ss : List Sequence) → list_any (λ s. is_shown true s && q s) ss || list_any (λ s. is_shown false s && q s) ss ≡ list_any (λ s. s.public && q s) ss
public_together q [] = refl
public_together q (s ∷ ss) =
    two s.public (is_before_cur s.name) (q s) (list_any (λ s. is_shown true s && q s) ss) (list_any (λ s. is_shown false s && q s) ss)
    ∙ ap (λ r. (s.public && q s) || r) (public_together q ss)

valid_sequences : (p : Sequence → Bool) (ss : List Sequence) → AreSequences ss → AllEntries (map entry_of (filter p ss))
valid_sequences p [] h = tt
valid_sequences p (s ∷ ss) h = by (valid_sequences p ss h.2) (p s)
  where
    by : AllEntries (map entry_of (filter p ss)) → (b : Bool) → AllEntries (map entry_of (Rattle.std.proofs.Common.cond b (s ∷ filter p ss) (filter p ss)))
    by ih true = (record { name = field_name s.name h.0.name; value = list_unfolded s.runs h.0.runs h.0.some }, ih)
    by ih false = ih

valid_append : (xs ys : List NamedValue) → AllEntries xs → AllEntries ys → AllEntries (xs ++ ys)
valid_append [] ys h k = k
valid_append (x ∷ xs) ys h k = (h.0, valid_append xs ys h.1 k)

valid_cur : (cur : Option ℕ) → IfSome cur IsMsgNum → AllEntries (cur_entry cur)
valid_cur None h = tt
valid_cur (Some n) h = (record { name = record { some = omega arith; clean = refl }; value = number_unfolded n h.1 }, tt)

valid_all : (m : Marked) → AreSequences m.users → IfSome m.cur IsMsgNum → AllEntries (public_entries m)
valid_all m h k = valid_append (map entry_of (filter (is_shown true) m.users)) (cur_entry m.cur ++ map entry_of (filter (is_shown false) m.users)) (valid_sequences (is_shown true) m.users h) (valid_append (cur_entry m.cur) (map entry_of (filter (is_shown false) m.users)) (valid_cur m.cur k) (valid_sequences (is_shown false) m.users h))

cur_apart : (t : List ℕ) → is_seq_name t ≡ true → bytes_eq (codes "cur") t ≡ false
cur_apart t h = same_turned (codes "cur") t ∙ not_cur t h

no_cur : (cur : Option ℕ) (p : NamedValue → Bool) → ((e : NamedValue) → e.name ≡ codes "cur" → p e ≡ false) → list_any p (cur_entry cur) ≡ false
no_cur None p h = refl
no_cur (Some n) p h = ap (λ b. b || false) (h (record { name = codes "cur"; value = decimal n }) refl)

skip : (x y z : Bool) → y ≡ false → x || (y || z) ≡ x || z
skip x y z e = ap (λ b. x || (b || z)) e

-- what the text lists under a name
public_part : (m : Marked) → AreSequences m.users → IfSome m.cur IsMsgNum → (t : List ℕ) (n : ℕ) → is_seq_name t ≡ true → lists_public (fields_of (text_of m)) t n ≡ list_any (λ s. is_shown true s && hit t n s) m.users || list_any (λ s. is_shown false s && hit t n s) m.users
public_part m h k t n named =
    let test : NamedValue → Bool = λ e. bytes_eq e.name t && lists e.value n in
    ap (λ fs. lists_public fs t n) (fields_printed (public_entries m) (valid_all m h k))
    ∙ lists_shown (public_entries m) (valid_all m h k) t n
    ∙ list_any-append test (map entry_of (filter (is_shown true) m.users)) (cur_entry m.cur ++ map entry_of (filter (is_shown false) m.users))
    ∙ ap (λ b. list_any test (map entry_of (filter (is_shown true) m.users)) || b) (list_any-append test (cur_entry m.cur) (map entry_of (filter (is_shown false) m.users)))
    ∙ skip (list_any test (map entry_of (filter (is_shown true) m.users))) (list_any test (cur_entry m.cur)) (list_any test (map entry_of (filter (is_shown false) m.users))) (no_cur m.cur test (λ e is. ap (λ x. bytes_eq x t && lists e.value n) is ∙ ap (λ b. b && lists e.value n) (cur_apart t named)))
    ∙ (λ i. listed t n (is_shown true) m.users h i || listed t n (is_shown false) m.users h i)

numbers_back : (m : Marked) → AreSequences m.users → IfSome m.cur IsMsgNum → (ending t : List ℕ) (n : ℕ) (v : Bool) → is_seq_name t ≡ v → member m.users t n ≡ v && (lists_public (fields_of (text_of m)) t n || lists_private (private_entries ending m.users) ending t n)
numbers_back m h k ending t n true named =
    members t n m.users h
    ∙ sym (together (hit t n) m.users)
    ∙ (λ i. sym (public_part m h k t n named) i || sym (listed_private t n ending m.users h) i)
numbers_back m h k ending t n false bad = members t n m.users h ∙ nothing_named t n m.users h bad

named_entries : (t : List ℕ) (p : Sequence → Bool) (ss : List Sequence) → list_any (λ e. bytes_eq e.name t) (map entry_of (filter p ss)) ≡ list_any (λ s. p s && bytes_eq s.name t) ss
named_entries t p [] = refl
named_entries t p (s ∷ ss) = by (named_entries t p ss) (p s)
  where
    by : list_any (λ e. bytes_eq e.name t) (map entry_of (filter p ss)) ≡ list_any (λ s. p s && bytes_eq s.name t) ss → (b : Bool) → list_any (λ e. bytes_eq e.name t) (map entry_of (Rattle.std.proofs.Common.cond b (s ∷ filter p ss) (filter p ss))) ≡ (b && bytes_eq s.name t) || list_any (λ s. p s && bytes_eq s.name t) ss
    by ih true = ap (λ r. bytes_eq s.name t || r) ih
    by ih false = ih

unnamed : (t : List ℕ) (ss : List Sequence) → Precedes t ss → list_any (λ s. s.public && bytes_eq s.name t) ss ≡ false
unnamed t [] h = refl
unnamed t (s ∷ ss) h = (λ i. (s.public && (same_turned s.name t ∙ same_by t s.name Less h.0) i) || unnamed t ss h.1 i) ∙ nothing s.public
  where
    nothing : (b : Bool) → (b && false) || false ≡ false
    nothing true = refl
    nothing false = refl

public_named : (t : List ℕ) (n : ℕ) (ss : List Sequence) → AreSequences ss → member ss t n ≡ true → public_of ss t ≡ list_any (λ s. s.public && bytes_eq s.name t) ss
public_named t n [] h m = cc
public_named t n (s ∷ ss) h m = by (bytes_eq t s.name) refl m (public_named t n ss h.2)
  where
    by : (b : Bool) → bytes_eq t s.name ≡ b → has (if b then s.runs else runs_of ss t) n ≡ true → (member ss t n ≡ true → public_of ss t ≡ list_any (λ s. s.public && bytes_eq s.name t) ss) → (if b then s.public else public_of ss t) ≡ list_any (λ s. s.public && bytes_eq s.name t) (s ∷ ss)
    by true e k ih =
        let same : t ≡ s.name = same_is t s.name e in
        sym ((λ i. (s.public && (same_turned s.name t ∙ e) i) || unnamed t ss (subst (λ x. Precedes x ss) (sym same) h.1) i) ∙ one s.public)
      where
        one : (b : Bool) → (b && true) || false ≡ b
        one true = refl
        one false = refl
    by false e k ih = ih k ∙ sym ((λ i. (s.public && (same_turned s.name t ∙ e) i) || list_any (λ s. s.public && bytes_eq s.name t) ss) ∙ none s.public (list_any (λ s. s.public && bytes_eq s.name t) ss))
      where
        none : (b c : Bool) → (b && false) || c ≡ c
        none true c = refl
        none false c = refl

public_back : (m : Marked) → AreSequences m.users → IfSome m.cur IsMsgNum → (t : List ℕ) (n : ℕ) → is_seq_name t ≡ true → member m.users t n ≡ true → public_of m.users t ≡ has_field (fields_of (text_of m)) t
public_back m h k t n named is =
    let test : NamedValue → Bool = λ e. bytes_eq e.name t in
    public_named t n m.users h is
    ∙ sym (ap (λ fs. has_field fs t) (fields_printed (public_entries m) (valid_all m h k))
    ∙ names_shown (public_entries m) t
    ∙ list_any-append test (map entry_of (filter (is_shown true) m.users)) (cur_entry m.cur ++ map entry_of (filter (is_shown false) m.users))
    ∙ ap (λ b. list_any test (map entry_of (filter (is_shown true) m.users)) || b) (list_any-append test (cur_entry m.cur) (map entry_of (filter (is_shown false) m.users)))
    ∙ skip (list_any test (map entry_of (filter (is_shown true) m.users))) (list_any test (cur_entry m.cur)) (list_any test (map entry_of (filter (is_shown false) m.users))) (no_cur m.cur test (λ e is. ap (λ x. bytes_eq x t) is ∙ cur_apart t named))
    ∙ (λ i. named_entries t (is_shown true) m.users i || named_entries t (is_shown false) m.users i)
    ∙ public_together (λ s. bytes_eq s.name t) m.users)

cur_past : (p : Sequence → Bool) (ss : List Sequence) (rest : List NamedValue) → AreSequences ss → cur_in (map shown (map entry_of (filter p ss) ++ rest)) ≡ cur_in (map shown rest)
cur_past p [] rest h = refl
cur_past p (s ∷ ss) rest h = by (cur_past p ss rest h.2) (p s)
  where
    by : cur_in (map shown (map entry_of (filter p ss) ++ rest)) ≡ cur_in (map shown rest) → (b : Bool) → cur_in (map shown (map entry_of (Rattle.std.proofs.Common.cond b (s ∷ filter p ss) (filter p ss)) ++ rest)) ≡ cur_in (map shown rest)
    by ih true = ap (λ b. if b then first_or (find is_listed (items (unfolded (shown (entry_of s)).value))) (cur_in (map shown (map entry_of (filter p ss) ++ rest))) else cur_in (map shown (map entry_of (filter p ss) ++ rest))) (not_cur s.name h.0.name) ∙ ih
    by ih false = ih

cur_here : (cur : Option ℕ) (ss : List Sequence) → AreSequences ss → IfSome cur IsMsgNum → cur_in (map shown (cur_entry cur ++ map entry_of (filter (is_shown false) ss))) ≡ cur
cur_here None ss h k = ap (λ l. cur_in (map shown l)) (sym (append-nil (map entry_of (filter (is_shown false) ss)))) ∙ cur_past (is_shown false) ss [] h
cur_here (Some n) ss h k =
    let later : Option ℕ = cur_in (map shown (map entry_of (filter (is_shown false) ss))) in
    ap (λ v. first_or (find is_listed (items v)) later) (value_read (decimal n) (number_unfolded n k.1))
    ∙ ap (λ is. first_or (find is_listed is) later) (number_item n k.1)
    ∙ ap (λ o. first_or (Rattle.std.proofs.Common.cond (is_some o) (Some (decimal n)) None) later) (number_run n k)
    ∙ number_read n k

pub reads_back : (m : Marked) → AreSequences m.users → IfSome m.cur IsMsgNum → (folder : List ℕ) → IsReading (text_of m) (private_entries (suffix folder) m.users) folder m
reads_back m h k folder = record {
  numbers = λ name n. numbers_back m h k (suffix folder) name n (is_seq_name name) refl;
  public = λ name n is. public_back m h k name n (and_parts (is_seq_name name) (lists_public (fields_of (text_of m)) name n || lists_private (private_entries (suffix folder) m.users) (suffix folder) name n) (sym (numbers_back m h k (suffix folder) name n (is_seq_name name) refl) ∙ is)).0 is;
  cur = sym (ap cur_in (fields_printed (public_entries m) (valid_all m h k)) ∙ cur_past (is_shown true) m.users (cur_entry m.cur ++ map entry_of (filter (is_shown false) m.users)) h ∙ cur_here m.cur m.users h k);
}
