-- Attributes, one behind the other.
use Rattle.std.proofs.Common.{◌≡◌, ℕ, zero, suc, ◌<◌, ◌≤◌, Bool, true, false, Option, Some, None, List, [], ◌∷◌, ◌++◌, length, refl, sym, ◌∙◌, ap, arith, length-drop, append_assoc, append-nil}
use Rattle.std.specs.Prelude.{◌==◌, ◌||◌, option_map, option_and_then, if◌then◌else◌}
use Rattle.std.specs.List.{prefix_len}
use Rattle.mime_tree.specs.Tokens.{Taken, token_in, worth_in}
use Rattle.mime_tree.proofs.Shortening.{map_is, then_is, token_le, worth_le}
use Rattle.mh_drafts.specs.declared.label.Attribute.{Attribute}
use Rattle.mh_drafts.specs.Attributes.{TakenAttribute, TakenAttributes, attribute_with, valued_in, named_in, attribute_in, led, with_attribute, attributes_up_to, attributes_in}
use Rattle.mh_drafts.specs.Blanks.{behind_blanks, behind_byte, behind_word, is_led}
use Rattle.mh_base.specs.Characters.{is_blank}

blanks_le : (text : List ℕ) → length (behind_blanks text) ≤ length text
blanks_le text = omega (arith, length-drop (prefix_len is_blank text) text)

word_le : (text r : List ℕ) → behind_word text ≡ Some r → length r ≤ length text
word_le [] r e = cc
word_le (b ∷ rest) r e = choose (is_blank b || b == 59) e
  where
    choose : (t : Bool) → (if t then Some (behind_blanks (b ∷ rest)) else None) ≡ Some r → length r ≤ length (b ∷ rest)
    choose true e = let same : behind_blanks (b ∷ rest) ≡ r = cc in rw (← same) (blanks_le (b ∷ rest))
    choose false e = cc

byte_lt : (byte : ℕ) (text r : List ℕ) → behind_byte byte text ≡ Some r → length r < length text
byte_lt byte [] r e = cc
byte_lt byte (b ∷ rest) r e = choose (b == byte) e
  where
    choose : (t : Bool) → (if t then Some rest else None) ≡ Some r → length r < length (b ∷ rest)
    choose true e = let same : rest ≡ r = cc in rw (← same) (omega arith)
    choose false e = cc

valued_le : (name value : Taken) (a : TakenAttribute) → valued_in name value ≡ Some a → length a.rest ≤ length value.rest
valued_le name value a e =
    let m = map_is (attribute_with name.value value.value) (behind_word value.rest) a e in
    let h = word_le value.rest m.0 m.1 in
    rw (← m.2) h

named_le : (name : Taken) (a : TakenAttribute) → named_in name ≡ Some a → length a.rest ≤ length name.rest
named_le name a e =
    let m = then_is (valued_in name) (option_and_then worth_in (behind_byte 61 name.rest)) a e in
    let w = then_is worth_in (behind_byte 61 name.rest) m.0 m.1 in
    let x = byte_lt 61 name.rest w.0 w.1 in
    let y = worth_le w.0 m.0 w.2 in
    let z = valued_le name m.0 a m.2 in
    omega arith

-- an attribute is some bytes
attribute_lt : (text : List ℕ) (a : TakenAttribute) → attribute_in text ≡ Some a → length a.rest < length text
attribute_lt text a e =
    let m = then_is named_in (option_and_then (λ rest. token_in (behind_blanks rest)) (behind_byte 59 text)) a e in
    let w = then_is (λ rest. token_in (behind_blanks rest)) (behind_byte 59 text) m.0 m.1 in
    let x = byte_lt 59 text w.0 w.1 in
    let u = blanks_le w.0 in
    let y = token_le (behind_blanks w.0) m.0 w.2 in
    let z = named_le m.0 a m.2 in
    omega arith

-- more than enough attributes are no other attributes
enough : (n m : ℕ) (text : List ℕ) → length text ≤ n → length text ≤ m → attributes_up_to n text ≡ attributes_up_to m text
enough zero zero text p q = refl
enough zero (suc m) [] p q = refl
enough zero (suc m) (c ∷ text) p q = absurd (omega arith)
enough (suc n) zero [] p q = refl
enough (suc n) zero (c ∷ text) p q = absurd (omega arith)
enough (suc n) (suc m) text p q = choose (is_led 59 text) (attribute_in text) refl (enough n m)
  where
    choose : (t : Bool) (o : Option TakenAttribute) → attribute_in text ≡ o → ((rest : List ℕ) → length rest ≤ n → length rest ≤ m → attributes_up_to n rest ≡ attributes_up_to m rest)
        → (if t then with_attribute o (attributes_up_to n) else Some (record { attributes = []; rest = text }))
        ≡ (if t then with_attribute o (attributes_up_to m) else Some (record { attributes = []; rest = text }))
    choose true None e more = refl
    choose true (Some a) e more = let lt = attribute_lt text a e in ap (option_map (led a)) (more a.rest (omega arith) (omega arith))
    choose false o e more = refl

abbrev front : List Attribute → TakenAttributes → TakenAttributes
front list t = record { attributes = list ++ t.attributes; rest = t.rest }

-- attributes before those of a text
abbrev pub fronted : List Attribute → Option TakenAttributes → Option TakenAttributes
fronted list o = option_map (front list) o

none_led : (text : List ℕ) → is_led 59 text ≡ false → attributes_in text ≡ Some (record { attributes = []; rest = text })
unfolding attributes_in
none_led [] e = refl
none_led (c ∷ text) e = rw e refl

by_test : (n : ℕ) (text : List ℕ) (t : Bool) (o : Option TakenAttribute) → is_led 59 text ≡ t → attribute_in text ≡ o
    → attributes_up_to (suc n) text ≡ (if t then with_attribute o (attributes_up_to n) else Some (record { attributes = []; rest = text }))
by_test n text t o e is = λ i. if e i then with_attribute (is i) (attributes_up_to n) else Some (record { attributes = []; rest = text })

bad_led : (text : List ℕ) → is_led 59 text ≡ true → attribute_in text ≡ None → attributes_in text ≡ None
unfolding attributes_in
bad_led [] e is = cc
bad_led (c ∷ text) e is = by_test (length text) (c ∷ text) true None e is

one_led : (text : List ℕ) (a : TakenAttribute) → is_led 59 text ≡ true → attribute_in text ≡ Some a → attributes_in text ≡ option_map (led a) (attributes_in a.rest)
unfolding attributes_in
one_led [] a e is = cc
one_led (c ∷ text) a e is =
    let lt = attribute_lt (c ∷ text) a is in
    by_test (length text) (c ∷ text) true (Some a) e is ∙ ap (option_map (led a)) (enough (length text) (length a.rest) a.rest (omega arith) (omega arith))

no_front : (o : Option TakenAttributes) → fronted [] o ≡ o
no_front None = refl
no_front (Some t) = refl

pub attributes_start : (list : List Attribute) (o : Option TakenAttributes) → list ≡ [] → fronted list o ≡ o
attributes_start list o e = rw e (no_front o)

pub attributes_fail : (text : List ℕ) (list : List Attribute) (all : Option TakenAttributes) → is_led 59 text ≡ true → attribute_in text ≡ None → fronted list (attributes_in text) ≡ all → all ≡ None
attributes_fail text list all e is inv = sym inv ∙ ap (fronted list) (bad_led text e is)

regroup : (list : List Attribute) (a : TakenAttribute) (o : Option TakenAttributes) → fronted (list ++ a.attribute ∷ []) o ≡ fronted list (option_map (led a) o)
regroup list a None = refl
regroup list a (Some t) = ap (λ l. Some (record { attributes = l; rest = t.rest })) (append_assoc list (a.attribute ∷ []) t.attributes)

pub attributes_go : (text : List ℕ) (list new : List Attribute) (a : TakenAttribute) (one : Attribute) (all : Option TakenAttributes) → is_led 59 text ≡ true → attribute_in text ≡ Some a → one ≡ a.attribute
    → new ≡ list ++ one ∷ [] → fronted list (attributes_in text) ≡ all → fronted new (attributes_in a.rest) ≡ all
attributes_go text list new a one all e is same pushed inv =
    rw (pushed, same) (regroup list a (attributes_in a.rest)) ∙ ap (fronted list) (sym (one_led text a e is)) ∙ inv

pub attributes_end : (text : List ℕ) (list : List Attribute) (all : Option TakenAttributes) → is_led 59 text ≡ false → fronted list (attributes_in text) ≡ all → all ≡ Some (record { attributes = list; rest = text })
attributes_end text list all e inv = sym inv ∙ ap (fronted list) (none_led text e) ∙ ap (λ l. Some (record { attributes = l; rest = text })) (append-nil list)
