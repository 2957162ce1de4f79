-- A message written, node by node.
use Rattle.std.proofs.Common.{◌≡◌, ℕ, ◌+◌, ◌<◌, ◌≤◌, Bool, List, [], ◌∷◌, ◌++◌, length, get_or, drop, refl, sym, ◌∙◌, ap, append_assoc, append-nil}
use Rattle.std.proofs.lemmas.List.{drop_all}
use Rattle.mhbuild_compose.specs.declared.node.Node.{Node}
use Rattle.mhbuild_compose.specs.Written.{flags_behind, keys_behind, levels_behind, node_text, written}
use Rattle.mhbuild_compose.proofs.Walking.{cut}

one_node : (run : ℕ) (levels : List ℕ) (flags : List Bool) (keys : List ℕ) (n : Node) (ns : List Node)
    → written run levels flags keys (n ∷ ns) ≡ node_text run levels flags keys n ++ written run (levels_behind levels keys n) (flags_behind flags n) (keys_behind keys n) ns
unfolding written
one_node run levels flags keys n ns = refl

no_node : (run : ℕ) (levels : List ℕ) (flags : List Bool) (keys : List ℕ) → written run levels flags keys [] ≡ []
unfolding written
no_node run levels flags keys = refl

pub writes_more : (ns : List Node) (i : ℕ) (n d : Node) (run old_run : ℕ) (old new all levels new_levels keys new_keys : List ℕ) (flags new_flags : List Bool) → i < length ns → n ≡ get_or ns i d → old_run ≡ run
    → new ≡ old ++ node_text old_run levels flags keys n → new_levels ≡ levels_behind levels keys n → new_flags ≡ flags_behind flags n → new_keys ≡ keys_behind keys n
    → old ++ written run levels flags keys (drop i ns) ≡ all → new ++ written run new_levels new_flags new_keys (drop (i + 1) ns) ≡ all
writes_more ns i n d run old_run old new all levels new_levels keys new_keys flags new_flags lt is r put l f k e =
    (λ j. (put ∙ ap (λ x. old ++ node_text x levels flags keys n) r) j ++ written run (l j) (f j) (k j) (drop (i + 1) ns))
    ∙ append_assoc old (node_text run levels flags keys n) (written run (levels_behind levels keys n) (flags_behind flags n) (keys_behind keys n) (drop (i + 1) ns))
    ∙ ap (λ t. old ++ t) (sym (ap (written run levels flags keys) (cut ns i n d lt is) ∙ one_node run levels flags keys n (drop (i + 1) ns)))
    ∙ e

pub writes_end : (ns : List Node) (i run : ℕ) (out all levels keys : List ℕ) (flags : List Bool) → length ns ≤ i → out ++ written run levels flags keys (drop i ns) ≡ all → out ≡ all
writes_end ns i run out all levels keys flags le e =
    sym (append-nil out) ∙ ap (λ t. out ++ t) (sym (ap (written run levels flags keys) (drop_all i ns le) ∙ no_node run levels flags keys)) ∙ e
