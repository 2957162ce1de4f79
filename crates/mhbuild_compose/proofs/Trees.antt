-- Nodes of trees, and what they write.
use Rattle.std.proofs.Common.{◌≡◌, ℕ, zero, suc, ◌+◌, ◌-◌, Bool, true, false, Some, None, List, [], ◌∷◌, ◌++◌, map, refl, sym, ◌∙◌, ap, arith, append_assoc, append-nil}
use Rattle.std.specs.Prelude.{◌||◌, ◌==◌, nat_le}
use Rattle.std.proofs.lemmas.Bool.Decides.{nat_tests}
use Rattle.mh_drafts.specs.declared.item.Item.{Item}
use Rattle.mh_drafts.specs.declared.item.Item.TheVariants.{Leaf as leaf_item, Begin as begin_item, End as end_item}
use Rattle.mh_drafts.specs.declared.item.Leaf.{Leaf}
use Rattle.mh_drafts.specs.declared.item.Leaf.TheVariants.{Text as text_leaf, Messages as messages_leaf, File as file_leaf}
use Rattle.mh_drafts.specs.declared.kind.Kind.{Kind}
use Rattle.mh_drafts.specs.declared.kind.Kind.TheVariants.{Mixed, Digest}
use Rattle.mh_drafts.specs.Drafts.{Parts, none, leaf, multipart, written as items_written}
use Rattle.mhbuild_compose.specs.declared.given.Given.{Given}
use Rattle.mhbuild_compose.specs.declared.node.Node.{Node}
use Rattle.mhbuild_compose.specs.declared.node.Node.TheVariants.{Leaf as leaf_node, Begin as begin_node, End as end_node}
use Rattle.mhbuild_compose.specs.Eights.{top, below, eights_of, eights_with, flags_of}
use Rattle.mhbuild_compose.specs.Nodes.{behind_given, file_in, message_leaf, message_nodes, messages_in, nodes_of}
use Rattle.mhbuild_compose.specs.Pieces.{piece_of, text_label}
use Rattle.mhbuild_compose.specs.Roots.{all_nodes, is_top, root_back, root_front, tops}
use Rattle.mhbuild_compose.specs.Trees.{Tree, nothing, piece, several, behind_leaf, forwarded, has_eight, keys_after, left_behind, message_trees, root, tree_of, tree_text, with_leaf}
use Rattle.mhbuild_compose.specs.Written.{closing_of, first_key, inner, keys_left, lead_by, leaf_text, multipart_head, trail_by, written}

-- the nodes of a tree
nodes_in : Tree → List Node
nodes_in nothing = []
nodes_in (piece p more) = leaf_node p ∷ nodes_in more
nodes_in (several kind parts more) = begin_node kind ∷ (nodes_in parts ++ end_node ∷ nodes_in more)

messages_nodes : (ms : List (List ℕ)) → nodes_in (message_trees ms) ≡ map message_leaf ms
unfolding nodes_in message_trees
messages_nodes [] = refl
messages_nodes (m ∷ ms) = ap (λ l. message_leaf m ∷ l) (messages_nodes ms)

forward_nodes : (ms : List (List ℕ)) (t : Tree) → nodes_in (forwarded ms t) ≡ message_nodes ms ++ nodes_in t
unfolding nodes_in
forward_nodes [] t = refl
forward_nodes (m ∷ []) t = refl
forward_nodes (m ∷ n ∷ ms) t =
    ap (λ l. begin_node Digest ∷ (l ++ end_node ∷ nodes_in t)) (messages_nodes (m ∷ n ∷ ms))
    ∙ ap (λ l. begin_node Digest ∷ l) (sym (append_assoc (map message_leaf (m ∷ n ∷ ms)) (end_node ∷ []) (nodes_in t)))

-- the items of parts become the nodes of their tree
parts_nodes : (ps : Parts) (gs : List Given) (rest : List Item) → nodes_of (items_written ps ++ rest) gs ≡ nodes_in (tree_of ps gs) ++ nodes_of rest (left_behind ps gs)
unfolding items_written nodes_of nodes_in tree_of left_behind
parts_nodes none gs rest = refl
parts_nodes (leaf (text_leaf t) more) gs rest = ap (λ l. leaf_node (piece_of text_label t) ∷ l) (parts_nodes more gs rest)
parts_nodes (leaf (file_leaf l) more) gs rest = ap (λ x. leaf_node (piece_of l (file_in gs)) ∷ x) (parts_nodes more (behind_given gs) rest)
parts_nodes (leaf messages_leaf more) gs rest =
    ap (λ x. message_nodes (messages_in gs) ++ x) (parts_nodes more (behind_given gs) rest)
    ∙ sym (append_assoc (message_nodes (messages_in gs)) (nodes_in (tree_of more (behind_given gs))) (nodes_of rest (left_behind more (behind_given gs))))
    ∙ ap (λ x. x ++ nodes_of rest (left_behind more (behind_given gs))) (sym (forward_nodes (messages_in gs) (tree_of more (behind_given gs))))
parts_nodes (multipart kind ps more) gs rest =
    ap (λ x. begin_node kind ∷ nodes_of x gs) (append_assoc (items_written ps) (end_item ∷ items_written more) rest)
    ∙ ap (λ x. begin_node kind ∷ x) (parts_nodes ps gs (end_item ∷ (items_written more ++ rest)))
    ∙ ap (λ x. begin_node kind ∷ (nodes_in (tree_of ps gs) ++ end_node ∷ x)) (parts_nodes more (left_behind ps gs) rest)
    ∙ ap (λ x. begin_node kind ∷ x) (sym (append_assoc (nodes_in (tree_of ps gs)) (end_node ∷ nodes_in (tree_of more (left_behind ps gs))) (nodes_of rest (left_behind more (left_behind ps gs)))))

-- how many parts stand one behind the other
size : Tree → ℕ
size nothing = zero
size (piece p more) = suc (size more)
size (several kind parts more) = suc (size more)

not_zero : (n : ℕ) → suc n == 0 ≡ false
not_zero n = grind (arith, nat_tests)

not_one : (n : ℕ) → suc (suc n) == 1 ≡ false
not_one n = grind (arith, nat_tests)

above_one : (n : ℕ) → nat_le (suc (suc n)) 1 ≡ false
above_one n = grind (arith, nat_tests)

deep_leaf : (d : ℕ) (l : Leaf) → is_top (suc d) (leaf_item l) ≡ 0
deep_leaf d l = rw (not_zero d) refl

deep_begin : (d : ℕ) (kind : Kind) → is_top (suc d) (begin_item kind) ≡ 0
deep_begin d kind = rw (not_zero d) refl

deep_tops : (ps : Parts) (d : ℕ) (rest : List Item) → tops (suc d) (items_written ps ++ rest) ≡ tops (suc d) rest
unfolding items_written tops
deep_tops none d rest = refl
deep_tops (leaf l more) d rest = let h = deep_tops more d rest in let z = deep_leaf d l in omega arith
deep_tops (multipart kind ps more) d rest =
    let z = deep_begin d kind in
    let one : suc d + 1 ≡ suc (suc d) = omega arith in
    let back : suc (suc d) - 1 ≡ suc d = omega arith in
    let joined = ap (tops (suc (suc d))) (append_assoc (items_written ps) (end_item ∷ items_written more) rest) in
    let a = deep_tops ps (suc d) (end_item ∷ (items_written more ++ rest)) in
    let b = deep_tops more d rest in
    let c = ap (λ n. tops n (items_written more ++ rest)) back in
    let e = ap (λ n. tops n ((items_written ps ++ end_item ∷ items_written more) ++ rest)) one in
    omega arith

forward_size : (ms : List (List ℕ)) (t : Tree) → size (forwarded ms t) ≡ suc (size t)
unfolding size
forward_size [] t = refl
forward_size (m ∷ []) t = refl
forward_size (m ∷ n ∷ ms) t = refl

leaf_size : (l : Leaf) (gs : List Given) (t : Tree) → size (with_leaf l gs t) ≡ suc (size t)
unfolding size
leaf_size (text_leaf x) gs t = refl
leaf_size (file_leaf x) gs t = refl
leaf_size messages_leaf gs t = forward_size (messages_in gs) t

all_tops : (ps : Parts) (gs : List Given) → tops 0 (items_written ps) ≡ size (tree_of ps gs)
unfolding items_written tops tree_of size
all_tops none gs = refl
all_tops (leaf l more) gs = let h = all_tops more (behind_leaf l gs) in let s = leaf_size l gs (tree_of more (behind_leaf l gs)) in omega arith
all_tops (multipart kind ps more) gs =
    let a = deep_tops ps zero (end_item ∷ items_written more) in
    let h = all_tops more (left_behind ps gs) in
    omega arith

many_front : (n : ℕ) → root_front (suc (suc n)) ≡ begin_node Mixed ∷ []
many_front n = rw (not_zero (suc n), not_one n) refl

many_back : (n : ℕ) → root_back (suc (suc n)) ≡ end_node ∷ []
many_back n = rw (above_one n) refl

-- the root's nodes
root_nodes : (t : Tree) → root_front (size t) ++ (nodes_in t ++ root_back (size t)) ≡ nodes_in (root t)
unfolding nodes_in root size
root_nodes nothing = refl
root_nodes (piece p nothing) = refl
root_nodes (piece p (piece q more)) = λ i. many_front (size more) i ++ (nodes_in (piece p (piece q more)) ++ many_back (size more) i)
root_nodes (piece p (several kind parts more)) = λ i. many_front (size more) i ++ (nodes_in (piece p (several kind parts more)) ++ many_back (size more) i)
root_nodes (several kind parts nothing) = ap (λ l. begin_node kind ∷ l) (append-nil (nodes_in parts ++ end_node ∷ []))
root_nodes (several kind parts (piece q more)) = λ i. many_front (size more) i ++ (nodes_in (several kind parts (piece q more)) ++ many_back (size more) i)
root_nodes (several kind parts (several other within more)) = λ i. many_front (size more) i ++ (nodes_in (several kind parts (several other within more)) ++ many_back (size more) i)

no_nodes : (gs : List Given) → nodes_of [] gs ≡ []
unfolding nodes_of
no_nodes gs = refl

plain_nodes : (ps : Parts) (gs : List Given) → nodes_of (items_written ps) gs ≡ nodes_in (tree_of ps gs)
plain_nodes ps gs =
    ap (λ l. nodes_of l gs) (sym (append-nil (items_written ps))) ∙ parts_nodes ps gs [] ∙ ap (λ l. nodes_in (tree_of ps gs) ++ l) (no_nodes (left_behind ps gs))
    ∙ append-nil (nodes_in (tree_of ps gs))

draft_nodes : (items : List Item) (gs : List Given) (ps : Parts) → items ≡ items_written ps → all_nodes items gs ≡ nodes_in (root (tree_of ps gs))
draft_nodes items gs ps e =
    ap (λ l. all_nodes l gs) e
    ∙ (λ i. root_front (all_tops ps gs i) ++ (plain_nodes ps gs i ++ root_back (all_tops ps gs i)))
    ∙ root_nodes (tree_of ps gs)

-- of the multiparts of a tree, in order, whether one of their parts has bytes above 127 as they are
tree_flags : Tree → List Bool
tree_flags nothing = []
tree_flags (piece p more) = tree_flags more
tree_flags (several kind parts more) = has_eight parts ∷ (tree_flags parts ++ tree_flags more)

or_group : (a b c : Bool) → a || (b || c) ≡ (a || b) || c
or_group true b c = refl
or_group false b c = refl

or_false : (b : Bool) → b || false ≡ b
or_false true = refl
or_false false = refl

one_eight : (n : Node) (ns : List Node) → eights_of (n ∷ ns) ≡ eights_with n (eights_of ns)
unfolding eights_of
one_eight n ns = refl

record Eights (t : Tree) (rest : List Node) : Type 0 where
  pub top_is : top (eights_of (nodes_in t ++ rest)) ≡ has_eight t || top (eights_of rest)
  pub below_is : below (eights_of (nodes_in t ++ rest)) ≡ below (eights_of rest)

tree_eights : (t : Tree) (rest : List Node) → Eights t rest
unfolding nodes_in has_eight
tree_eights nothing rest = record { top_is = refl; below_is = refl }
tree_eights (piece p more) rest =
    let h = tree_eights more rest in
    let one = one_eight (leaf_node p) (nodes_in more ++ rest) in
    record {
      top_is = ap top one ∙ ap (λ b. p.eight || b) h.top_is ∙ or_group p.eight (has_eight more) (top (eights_of rest));
      below_is = ap below one ∙ h.below_is;
    }
tree_eights (several kind parts more) rest =
    let behind = nodes_in more ++ rest in
    let h = tree_eights more rest in
    let k = tree_eights parts (end_node ∷ behind) in
    let joined = ap (λ l. eights_of (begin_node kind ∷ l)) (append_assoc (nodes_in parts) (end_node ∷ nodes_in more) rest) in
    let one = joined ∙ one_eight (begin_node kind) (nodes_in parts ++ end_node ∷ behind) in
    let ended = one_eight end_node behind in
    let mine : top (eights_of (nodes_in parts ++ end_node ∷ behind)) ≡ has_eight parts = k.top_is ∙ ap (λ l. has_eight parts || top l) ended ∙ or_false (has_eight parts) in
    let others : below (eights_of (nodes_in parts ++ end_node ∷ behind)) ≡ eights_of behind = k.below_is ∙ ap below ended in
    record {
      top_is = ap top one ∙ (λ i. mine i || top (others i)) ∙ ap (λ b. has_eight parts || b) h.top_is ∙ or_group (has_eight parts) (has_eight more) (top (eights_of rest));
      below_is = ap below one ∙ ap below others ∙ h.below_is;
    }

flags_leaf : (p : _) (ns : List Node) → flags_of (leaf_node p ∷ ns) ≡ flags_of ns
unfolding flags_of
flags_leaf p ns = refl

flags_end : (ns : List Node) → flags_of (end_node ∷ ns) ≡ flags_of ns
unfolding flags_of
flags_end ns = refl

flags_begin : (kind : _) (ns : List Node) → flags_of (begin_node kind ∷ ns) ≡ top (eights_of ns) ∷ flags_of ns
unfolding flags_of
flags_begin kind ns = refl

flags_are : (t : Tree) (rest : List Node) → flags_of (nodes_in t ++ rest) ≡ tree_flags t ++ flags_of rest
unfolding nodes_in tree_flags
flags_are nothing rest = refl
flags_are (piece p more) rest = flags_leaf p (nodes_in more ++ rest) ∙ flags_are more rest
flags_are (several kind parts more) rest =
    let behind = nodes_in more ++ rest in
    let k = tree_eights parts (end_node ∷ behind) in
    let mine : top (eights_of (nodes_in parts ++ end_node ∷ behind)) ≡ has_eight parts = k.top_is ∙ ap (λ l. has_eight parts || top l) (one_eight end_node behind) ∙ or_false (has_eight parts) in
    ap (λ l. flags_of (begin_node kind ∷ l)) (append_assoc (nodes_in parts) (end_node ∷ nodes_in more) rest)
    ∙ flags_begin kind (nodes_in parts ++ end_node ∷ behind)
    ∙ (λ i. mine i ∷ flags_are parts (end_node ∷ behind) i)
    ∙ ap (λ l. has_eight parts ∷ (tree_flags parts ++ l)) (flags_end behind ∙ flags_are more rest)
    ∙ ap (λ l. has_eight parts ∷ l) (sym (append_assoc (tree_flags parts) (tree_flags more) (flags_of rest)))

regroup_leaf : (a b c d e : List ℕ) → (a ++ (b ++ c)) ++ (d ++ e) ≡ (a ++ (b ++ (c ++ d))) ++ e
regroup_leaf a b c d e =
    let right : (a ++ (b ++ (c ++ d))) ++ e ≡ a ++ (b ++ (c ++ (d ++ e))) = simp append_assoc in
    let left : (a ++ (b ++ c)) ++ (d ++ e) ≡ a ++ (b ++ (c ++ (d ++ e))) = simp append_assoc in
    left ∙ sym right

regroup : (a b c d e f g : List ℕ) → (a ++ b) ++ (c ++ ((d ++ e) ++ (f ++ g))) ≡ (a ++ (b ++ (c ++ (d ++ (e ++ f))))) ++ g
regroup a b c d e f g =
    let right : (a ++ (b ++ (c ++ (d ++ (e ++ f))))) ++ g ≡ a ++ (b ++ (c ++ (d ++ (e ++ (f ++ g))))) = simp append_assoc in
    let left : (a ++ b) ++ (c ++ ((d ++ e) ++ (f ++ g))) ≡ a ++ (b ++ (c ++ (d ++ (e ++ (f ++ g))))) = simp append_assoc in
    left ∙ sym right

-- nodes of a tree write its text
tree_writes : (t : Tree) (run : ℕ) (levels : List ℕ) (flags : List Bool) (keys : List ℕ) (rest : List Node)
    → written run levels (tree_flags t ++ flags) keys (nodes_in t ++ rest) ≡ tree_text run (inner levels) t keys ++ written run levels flags (keys_after t keys) rest
unfolding nodes_in tree_flags written tree_text keys_after
tree_writes nothing run levels flags keys rest = refl
tree_writes (piece p more) run levels flags keys rest =
    let lead = lead_by run (inner levels) in
    let trail = trail_by (inner levels) in
    ap (λ l. (lead ++ (leaf_text p ++ trail)) ++ l) (tree_writes more run levels flags keys rest)
    ∙ regroup_leaf lead (leaf_text p) trail (tree_text run (inner levels) more keys) (written run levels flags (keys_after more keys) rest)
tree_writes (several kind parts more) run levels flags keys rest =
    let key = first_key keys in
    let left = keys_left keys in
    let after = keys_after parts left in
    let head = multipart_head run kind (has_eight parts) key in
    let within = tree_text run (Some key) parts left in
    let others = tree_text run (inner levels) more after in
    let behind = written run levels flags (keys_after more after) rest in
    (λ i. (lead_by run (inner levels) ++ head) ++ written run (key ∷ levels) (append_assoc (tree_flags parts) (tree_flags more) flags i) left (append_assoc (nodes_in parts) (end_node ∷ nodes_in more) rest i))
    ∙ ap (λ l. (lead_by run (inner levels) ++ head) ++ l) (tree_writes parts run (key ∷ levels) (tree_flags more ++ flags) left (end_node ∷ (nodes_in more ++ rest)))
    ∙ ap (λ l. (lead_by run (inner levels) ++ head) ++ (within ++ ((closing_of run key ++ trail_by (inner levels)) ++ l))) (tree_writes more run levels flags after rest)
    ∙ regroup (lead_by run (inner levels)) head within (closing_of run key) (trail_by (inner levels)) others behind

no_flags : flags_of [] ≡ []
unfolding flags_of
no_flags = refl

no_text : (run : ℕ) (levels : List ℕ) (flags : List Bool) (keys : List ℕ) → written run levels flags keys [] ≡ []
unfolding written
no_text run levels flags keys = refl

whole_text : (t : Tree) (run : ℕ) (keys : List ℕ) → written run [] (flags_of (nodes_in t)) keys (nodes_in t) ≡ tree_text run None t keys
whole_text t run keys =
    let flags : flags_of (nodes_in t) ≡ tree_flags t ++ [] = ap flags_of (sym (append-nil (nodes_in t))) ∙ flags_are t [] ∙ ap (λ l. tree_flags t ++ l) no_flags in
    (λ i. written run [] (flags i) keys (sym (append-nil (nodes_in t)) i))
    ∙ tree_writes t run [] [] keys []
    ∙ ap (λ l. tree_text run None t keys ++ l) (no_text run [] [] (keys_after t keys))
    ∙ append-nil (tree_text run None t keys)

-- the nodes of a draft's items write the text of its parts
pub draft_text : (items : List Item) (gs : List Given) (run : ℕ) (keys : List ℕ) (ps : Parts) → items ≡ items_written ps → written run [] (flags_of (all_nodes items gs)) keys (all_nodes items gs) ≡ tree_text run None (root (tree_of ps gs)) keys
draft_text items gs run keys ps e =
    (λ i. written run [] (flags_of (draft_nodes items gs ps e i)) keys (draft_nodes items gs ps e i)) ∙ whole_text (root (tree_of ps gs)) run keys
