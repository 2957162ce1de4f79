-- Nodes, from the last to the first.
use Rattle.std.proofs.Common.{◌≡◌, ℕ, ◌+◌, ◌<◌, ◌≤◌, Bool, List, [], ◌∷◌, length, get_or, drop, refl, sym, ◌∙◌, ap, arith}
use Rattle.std.proofs.lemmas.List.{drop_all}
use Rattle.mhbuild_compose.specs.declared.node.Node.{Node}
use Rattle.mhbuild_compose.specs.Eights.{eights_of, eights_with, flags_of, flags_with}
use Rattle.mhbuild_compose.proofs.Walking.{cut}

one_eight : (n : Node) (ns : List Node) → eights_of (n ∷ ns) ≡ eights_with n (eights_of ns)
unfolding eights_of
one_eight n ns = refl

one_flag : (n : Node) (ns : List Node) → flags_of (n ∷ ns) ≡ flags_with n (eights_of ns) (flags_of ns)
unfolding flags_of
one_flag n ns = refl

none_eight : eights_of [] ≡ []
unfolding eights_of
none_eight = refl

none_flag : flags_of [] ≡ []
unfolding flags_of
none_flag = refl

pub starts_eight : (ns : List Node) (place : ℕ) (e : List Bool) → place ≡ length ns → e ≡ [] → e ≡ eights_of (drop place ns)
starts_eight ns place e at is = let le : length ns ≤ place = omega arith in is ∙ sym (ap eights_of (drop_all place ns le) ∙ none_eight)

pub starts_flag : (ns : List Node) (place : ℕ) (e : List Bool) → place ≡ length ns → e ≡ [] → e ≡ flags_of (drop place ns)
starts_flag ns place e at is = let le : length ns ≤ place = omega arith in is ∙ sym (ap flags_of (drop_all place ns le) ∙ none_flag)

back : (ns : List Node) (place before : ℕ) (n d : Node) → place ≡ before + 1 → place ≤ length ns → n ≡ get_or ns before d → drop before ns ≡ n ∷ drop place ns
back ns place before n d at le is = let lt : before < length ns = omega arith in cut ns before n d lt is ∙ ap (λ p. n ∷ drop p ns) (sym at)

pub passes_eight : (ns : List Node) (place before : ℕ) (n d : Node) (old new : List Bool) → place ≡ before + 1 → place ≤ length ns → n ≡ get_or ns before d → new ≡ eights_with n old → old ≡ eights_of (drop place ns) → new ≡ eights_of (drop before ns)
passes_eight ns place before n d old new at le is put e = put ∙ ap (eights_with n) e ∙ sym (ap eights_of (back ns place before n d at le is) ∙ one_eight n (drop place ns))

pub passes_flag : (ns : List Node) (place before : ℕ) (n d : Node) (eights old new : List Bool) → place ≡ before + 1 → place ≤ length ns → n ≡ get_or ns before d → new ≡ flags_with n eights old → eights ≡ eights_of (drop place ns) → old ≡ flags_of (drop place ns) → new ≡ flags_of (drop before ns)
passes_flag ns place before n d eights old new at le is put e f = put ∙ (λ i. flags_with n (e i) (f i)) ∙ sym (ap flags_of (back ns place before n d at le is) ∙ one_flag n (drop place ns))

pub all_flags : (ns : List Node) (place : ℕ) (flags : List Bool) → place ≤ 0 → flags ≡ flags_of (drop place ns) → flags ≡ flags_of ns
all_flags ns place flags le e = let zero : place ≡ 0 = omega arith in e ∙ ap (λ p. flags_of (drop p ns)) zero
