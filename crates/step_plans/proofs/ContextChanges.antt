-- Changes of the context's entries, made and said.
use Rattle.std.proofs.Common.{◌≡◌, ◌<◌, ◌≤◌, ◌+◌, ℕ, zero, suc, List, [], ◌∷◌, ◌++◌, Option, Some, None, Bool, true, false, refl, sym, ◌∙◌, ap, drop, get_or, length}
use Rattle.std.specs.Prelude.{◌&&◌, is_some}
use Rattle.std.proofs.lemmas.List.{drop_all, drop-drop}
use Rattle.mh_profile.specs.Changes.{value_of, without, without_all}
use Rattle.mh_profile.specs.declared.named_value.NamedValue.{NamedValue}
use Rattle.step_plans.specs.ContextCommit.{IsChangeBy, AreChanges, changed, changed_by, same_value, says}
use Rattle.step_plans.specs.declared.change.ChangeEntry.{ChangeEntry}
use Rattle.step_plans.proofs.Rounds.{next}

are_rest : (cs : List ChangeEntry) (i : ℕ) (c : ChangeEntry) → i < length cs → c ≡ get_or cs i c → AreChanges (drop i cs) → IsChangeBy c.name c.value × AreChanges (drop (i + 1) cs)
are_rest cs i c h is a = rw (next cs i c h is) at a

-- the next change is one
pub is_change : (cs : List ChangeEntry) (i : ℕ) (c : ChangeEntry) → i < length cs → c ≡ get_or cs i c → AreChanges (drop i cs) → IsChangeBy c.name c.value
is_change cs i c h is a = (are_rest cs i c h is a).0

one_change : (cs : List ChangeEntry) (i : ℕ) (c : ChangeEntry) (es : List NamedValue) → i < length cs → c ≡ get_or cs i c → changed (drop i cs) es ≡ changed (drop (i + 1) cs) (changed_by c.name c.value es)
unfolding changed
one_change cs i c es h is = ap (λ z. changed z es) (next cs i c h is)

-- the next change is made
pub more_changed : (cs : List ChangeEntry) (i : ℕ) (c : ChangeEntry) (es new all : List NamedValue) → i < length cs → c ≡ get_or cs i c → new ≡ changed_by c.name c.value es →
    (changed (drop i cs) es ≡ all) × AreChanges (drop i cs) → (changed (drop (i + 1) cs) new ≡ all) × AreChanges (drop (i + 1) cs)
more_changed cs i c es new all h is e a = (ap (λ z. changed (drop (i + 1) cs) z) e ∙ sym (one_change cs i c es h is) ∙ a.0, (are_rest cs i c h is a.1).1)

without_last : (names : List (List ℕ)) (n : List ℕ) (es : List NamedValue) → without_all (names ++ n ∷ []) es ≡ without n (without_all names es)
without_last [] n es = refl
without_last (m ∷ ms) n es = without_last ms n (without m es)

gone_by : (value : Option (List ℕ)) (name : List ℕ) (es : List NamedValue) → is_some value ≡ false → changed_by name value es ≡ without name es
gone_by None name es e = refl
gone_by (Some v) name es e = cc

-- the next change takes an entry away too
pub one_gone : (cs : List ChangeEntry) (i : ℕ) (c : ChangeEntry) (names : List (List ℕ)) → i < length cs → c ≡ get_or cs i c → is_some c.value ≡ false →
    ((es : List NamedValue) → changed cs es ≡ changed (drop i cs) (without_all names es)) → (es : List NamedValue) → changed cs es ≡ changed (drop (i + 1) cs) (without_all (names ++ c.name ∷ []) es)
one_gone cs i c names h is none all es =
    all es ∙ one_change cs i c (without_all names es) h is
    ∙ ap (changed (drop (i + 1) cs)) (gone_by c.value c.name (without_all names es) none ∙ sym (without_last names c.name es))

-- the first change is made
pub first_changed : (cs : List ChangeEntry) (c : ChangeEntry) (es new : List NamedValue) → 1 ≤ length cs → c ≡ get_or cs 0 c → new ≡ changed_by c.name c.value es → changed cs es ≡ changed (drop 1 cs) new
first_changed cs c es new h is e = one_change cs 0 c es h is ∙ ap (changed (drop 1 cs)) (sym e)

pub changes_left : (cs : List ChangeEntry) (n : ℕ) → AreChanges cs → AreChanges (drop n cs)
changes_left cs zero a = a
changes_left [] (suc n) a = a
changes_left (c ∷ cs) (suc n) a = changes_left cs n a.1

dropped : {A : Type 0} (l : List A) (i n : ℕ) → drop n (drop i l) ≡ drop (i + n) l
dropped l i n = drop-drop n i l

-- some more changes are made
pub some_changed : (cs : List ChangeEntry) (i n : ℕ) (es new all : List NamedValue) → changed (drop i cs) es ≡ changed (drop n (drop i cs)) new → changed (drop i cs) es ≡ all → changed (drop (i + n) cs) new ≡ all
some_changed cs i n es new all e before = ap (λ l. changed l new) (sym (dropped cs i n)) ∙ sym e ∙ before

-- no change is left
pub no_change : (cs : List ChangeEntry) (i : ℕ) (es : List NamedValue) → length cs ≤ i → changed (drop i cs) es ≡ es
unfolding changed
no_change cs i es h = rw (drop_all i cs h) refl

one_said : (es : List NamedValue) (cs : List ChangeEntry) (i : ℕ) (c : ChangeEntry) → i < length cs → c ≡ get_or cs i c → says es (drop i cs) ≡ (same_value (value_of c.name es) c.value && says es (drop (i + 1) cs))
unfolding says
one_said es cs i c h is = ap (says es) (next cs i c h is)

-- the next change is said
pub said_so : (es : List NamedValue) (cs : List ChangeEntry) (i : ℕ) (c : ChangeEntry) (b all : Bool) → i < length cs → c ≡ get_or cs i c → b ≡ same_value (value_of c.name es) c.value → b ≡ true →
    says es (drop i cs) ≡ all → says es (drop (i + 1) cs) ≡ all
said_so es cs i c b all h is e t a = sym (one_said es cs i c h is ∙ ap (λ z. z && says es (drop (i + 1) cs)) (sym e ∙ t)) ∙ a

-- the next change is not said
pub not_said : (es : List NamedValue) (cs : List ChangeEntry) (i : ℕ) (c : ChangeEntry) (b all : Bool) → i < length cs → c ≡ get_or cs i c → b ≡ same_value (value_of c.name es) c.value → b ≡ false →
    says es (drop i cs) ≡ all → false ≡ all
not_said es cs i c b all h is e t a = sym (one_said es cs i c h is ∙ ap (λ z. z && says es (drop (i + 1) cs)) (sym e ∙ t)) ∙ a

-- every change was said
pub all_said : (es : List NamedValue) (cs : List ChangeEntry) (i : ℕ) (all : Bool) → length cs ≤ i → says es (drop i cs) ≡ all → true ≡ all
unfolding says
all_said es cs i all h a = sym (ap (says es) (drop_all i cs h)) ∙ a
