-- Lists, item by item.
use Rattle.std.proofs.Common.{◌≡◌, ℕ, suc, ◌+◌, ◌<◌, ◌≤◌, Bool, true, false, Some, None, List, [], ◌∷◌, ◌++◌, length, get_or, drop, refl, sym, ◌∙◌, ap, arith, add-one, append_assoc, append-nil}
use Rattle.std.specs.Prelude.{◌||◌}
use Rattle.std.specs.List.{list_any}
use Rattle.std.proofs.Math.Seq.{drop-cons}
use Rattle.std.proofs.lemmas.List.{drop_all}
use Rattle.mh_drafts.specs.declared.item.Item.{Item}
use Rattle.mh_drafts.specs.declared.label.Attribute.{Attribute}
use Rattle.mh_drafts.proofs.Joining.{or_assoc}
use Rattle.mhbuild_compose.specs.declared.node.Node.{Node}
use Rattle.mhbuild_compose.specs.Encodings.{column_behind, fits_line, fits_with}
use Rattle.mhbuild_compose.specs.Heads.{attribute_text, attributes_text, protected_byte, protected_text}
use Rattle.mhbuild_compose.specs.Keys.{begins_in, is_begin}
use Rattle.mhbuild_compose.specs.Roots.{depth_behind, is_top, tops}

pub cut : {A : Type 0} (xs : List A) (i : ℕ) (x d : A) → i < length xs → x ≡ get_or xs i d → drop i xs ≡ x ∷ drop (i + 1) xs
cut xs i x d lt is = rw (add-one, drop-cons xs i d) (ap (λ y. y ∷ drop (suc i) xs) (sym is))

one_byte : (column b : ℕ) (rest : List ℕ) → fits_line column (b ∷ rest) ≡ fits_with (column_behind column b) (λ next. fits_line next rest)
unfolding fits_line
one_byte column b rest = refl

pub fits_on : (text : List ℕ) (column next i b : ℕ) (all : Bool) → i < length text → b ≡ get_or text i 0 → column_behind column b ≡ Some next → fits_line column (drop i text) ≡ all → fits_line next (drop (i + 1) text) ≡ all
fits_on text column next i b all lt is on e =
    sym (ap (fits_line column) (cut text i b 0 lt is) ∙ one_byte column b (drop (i + 1) text) ∙ ap (λ o. fits_with o (λ n. fits_line n (drop (i + 1) text))) on) ∙ e

pub fits_not : (text : List ℕ) (column i b : ℕ) (all : Bool) → i < length text → b ≡ get_or text i 0 → column_behind column b ≡ None → fits_line column (drop i text) ≡ all → false ≡ all
fits_not text column i b all lt is on e =
    sym (ap (fits_line column) (cut text i b 0 lt is) ∙ one_byte column b (drop (i + 1) text) ∙ ap (λ o. fits_with o (λ n. fits_line n (drop (i + 1) text))) on) ∙ e

pub fits_end : (text : List ℕ) (column i : ℕ) (all : Bool) → length text ≤ i → fits_line column (drop i text) ≡ all → true ≡ all
unfolding fits_line
fits_end text column i all le e = sym (rw (drop_all i text le) refl) ∙ e

one_protected : (b : ℕ) (rest : List ℕ) → protected_text (b ∷ rest) ≡ protected_byte b ++ protected_text rest
unfolding protected_text
one_protected b rest = refl

none_protected : protected_text [] ≡ []
unfolding protected_text
none_protected = refl

pub protected_more : (text old new all : List ℕ) (i b : ℕ) → i < length text → b ≡ get_or text i 0 → new ≡ old ++ protected_byte b → old ++ protected_text (drop i text) ≡ all → new ++ protected_text (drop (i + 1) text) ≡ all
protected_more text old new all i b lt is put e =
    ap (λ l. l ++ protected_text (drop (i + 1) text)) put ∙ append_assoc old (protected_byte b) (protected_text (drop (i + 1) text))
    ∙ ap (λ l. old ++ l) (sym (ap protected_text (cut text i b 0 lt is) ∙ one_protected b (drop (i + 1) text))) ∙ e

pub protected_end : (text out all : List ℕ) (i : ℕ) → length text ≤ i → out ++ protected_text (drop i text) ≡ all → out ≡ all
protected_end text out all i le e = sym (append-nil out) ∙ ap (λ l. out ++ l) (sym (ap protected_text (drop_all i text le) ∙ none_protected)) ∙ e

one_attribute : (a : Attribute) (more : List Attribute) → attributes_text (a ∷ more) ≡ attribute_text a ++ attributes_text more
unfolding attributes_text
one_attribute a more = refl

none_attribute : attributes_text [] ≡ []
unfolding attributes_text
none_attribute = refl

pub attributes_more : (xs : List Attribute) (old new all : List ℕ) (i : ℕ) (a d : Attribute) → i < length xs → a ≡ get_or xs i d → new ≡ old ++ attribute_text a → old ++ attributes_text (drop i xs) ≡ all → new ++ attributes_text (drop (i + 1) xs) ≡ all
attributes_more xs old new all i a d lt is put e =
    ap (λ l. l ++ attributes_text (drop (i + 1) xs)) put ∙ append_assoc old (attribute_text a) (attributes_text (drop (i + 1) xs))
    ∙ ap (λ l. old ++ l) (sym (ap attributes_text (cut xs i a d lt is) ∙ one_attribute a (drop (i + 1) xs))) ∙ e

pub attributes_end : (xs : List Attribute) (out all : List ℕ) (i : ℕ) → length xs ≤ i → out ++ attributes_text (drop i xs) ≡ all → out ≡ all
attributes_end xs out all i le e = sym (append-nil out) ∙ ap (λ l. out ++ l) (sym (ap attributes_text (drop_all i xs le) ∙ none_attribute)) ∙ e

one_begin : (n : Node) (ns : List Node) → begins_in (n ∷ ns) ≡ is_begin n + begins_in ns
unfolding begins_in
one_begin n ns = refl

none_begins : begins_in [] ≡ 0
unfolding begins_in
none_begins = refl

pub begins_more : (ns : List Node) (count i one : ℕ) (n d : Node) → i < length ns → n ≡ get_or ns i d → one ≡ is_begin n → count + begins_in (drop i ns) ≡ begins_in ns → count + one + begins_in (drop (i + 1) ns) ≡ begins_in ns
begins_more ns count i one n d lt is o e =
    let step : begins_in (drop i ns) ≡ is_begin n + begins_in (drop (i + 1) ns) = ap begins_in (cut ns i n d lt is) ∙ one_begin n (drop (i + 1) ns) in
    omega arith

pub begins_end : (ns : List Node) (count i : ℕ) → length ns ≤ i → count + begins_in (drop i ns) ≡ begins_in ns → count ≡ begins_in ns
begins_end ns count i le e = let none : begins_in (drop i ns) ≡ 0 = ap begins_in (drop_all i ns le) ∙ none_begins in omega arith

one_top : (depth : ℕ) (n : Item) (ns : List Item) → tops depth (n ∷ ns) ≡ is_top depth n + tops (depth_behind depth n) ns
unfolding tops
one_top depth n ns = refl

none_top : (depth : ℕ) → tops depth [] ≡ 0
unfolding tops
none_top depth = refl

pub tops_more : (ns : List Item) (count depth i one next : ℕ) (n d : Item) → i < length ns → n ≡ get_or ns i d → one ≡ is_top depth n → next ≡ depth_behind depth n → count + tops depth (drop i ns) ≡ tops 0 ns → count + one + tops next (drop (i + 1) ns) ≡ tops 0 ns
tops_more ns count depth i one next n d lt is o x e =
    let step : tops depth (drop i ns) ≡ is_top depth n + tops (depth_behind depth n) (drop (i + 1) ns) = ap (tops depth) (cut ns i n d lt is) ∙ one_top depth n (drop (i + 1) ns) in
    let same : tops next (drop (i + 1) ns) ≡ tops (depth_behind depth n) (drop (i + 1) ns) = ap (λ m. tops m (drop (i + 1) ns)) x in
    omega arith

pub tops_end : (ns : List Item) (count depth i : ℕ) → length ns ≤ i → count + tops depth (drop i ns) ≡ tops 0 ns → count ≡ tops 0 ns
tops_end ns count depth i le e = let none : tops depth (drop i ns) ≡ 0 = ap (tops depth) (drop_all i ns le) ∙ none_top depth in omega arith

pub any_more : {A : Type 0} (p : A → Bool) (xs : List A) (i : ℕ) (x d : A) (old new all : Bool) → i < length xs → x ≡ get_or xs i d → new ≡ old || p x → old || list_any p (drop i xs) ≡ all → new || list_any p (drop (i + 1) xs) ≡ all
any_more p xs i x d old new all lt is put e =
    ap (λ b. b || list_any p (drop (i + 1) xs)) put ∙ or_assoc old (p x) (list_any p (drop (i + 1) xs)) ∙ ap (λ l. old || list_any p l) (sym (cut xs i x d lt is)) ∙ e

or_false : (b : Bool) → b || false ≡ b
or_false true = refl
or_false false = refl

pub any_end : {A : Type 0} (p : A → Bool) (xs : List A) (i : ℕ) (old all : Bool) → length xs ≤ i → old || list_any p (drop i xs) ≡ all → old ≡ all
any_end p xs i old all le e = sym (or_false old) ∙ ap (λ l. old || list_any p l) (sym (drop_all i xs le)) ∙ e

-- the same from the front: the first of these, and the others
pub any_step : {A : Type 0} (p : A → Bool) (xs more : List A) (x : A) (old new all : Bool) → xs ≡ x ∷ more → new ≡ old || p x → old || list_any p xs ≡ all → new || list_any p more ≡ all
any_step p xs more x old new all is put e = ap (λ b. b || list_any p more) put ∙ or_assoc old (p x) (list_any p more) ∙ ap (λ l. old || list_any p l) (sym is) ∙ e

pub any_none : {A : Type 0} (p : A → Bool) (xs : List A) (old all : Bool) → xs ≡ [] → old || list_any p xs ≡ all → old ≡ all
any_none p xs old all is e = sym (or_false old) ∙ ap (λ l. old || list_any p l) (sym is) ∙ e
