-- Nodes of items, one behind the other.
use Rattle.std.proofs.Common.{◌≡◌, ℕ, ◌+◌, ◌<◌, ◌≤◌, List, [], ◌∷◌, ◌++◌, length, get_or, drop, refl, sym, ◌∙◌, ap, append_assoc, append-nil}
use Rattle.std.specs.Prelude.{Result, Ok, Err, OnOk}
use Rattle.std.proofs.lemmas.List.{drop_all}
use Rattle.mh_drafts.specs.declared.item.Item.{Item}
use Rattle.mh_drafts.specs.declared.item.Item.TheVariants.{Leaf as leaf_item, Begin as begin_item, End as end_item}
use Rattle.mh_drafts.specs.declared.item.Leaf.{Leaf}
use Rattle.mh_drafts.specs.declared.item.Leaf.TheVariants.{Text as text_leaf, Messages as messages_leaf, File as file_leaf}
use Rattle.mh_drafts.specs.declared.label.Label.{Label}
use Rattle.mhbuild_compose.specs.declared.given.Given.{Given}
use Rattle.mhbuild_compose.specs.declared.node.Node.{Node}
use Rattle.mhbuild_compose.specs.declared.node.Node.TheVariants.{Leaf as leaf_node, Begin as begin_node, End as end_node}
use Rattle.mhbuild_compose.specs.Nodes.{behind_given, file_in, message_nodes, messages_in, nodes_of}
use Rattle.mhbuild_compose.specs.Pieces.{piece_of, text_label}
use Rattle.mhbuild_compose.specs.Roots.{all_nodes, root_back, root_front, tops}
use Rattle.mhbuild_compose.proofs.Walking.{cut}

one_text : (t : List ℕ) (items : List Item) (gs : List Given) → nodes_of (leaf_item (text_leaf t) ∷ items) gs ≡ leaf_node (piece_of text_label t) ∷ nodes_of items gs
unfolding nodes_of
one_text t items gs = refl

one_file : (l : Label) (items : List Item) (gs : List Given) → nodes_of (leaf_item (file_leaf l) ∷ items) gs ≡ leaf_node (piece_of l (file_in gs)) ∷ nodes_of items (behind_given gs)
unfolding nodes_of
one_file l items gs = refl

one_forward : (items : List Item) (gs : List Given) → nodes_of (leaf_item messages_leaf ∷ items) gs ≡ message_nodes (messages_in gs) ++ nodes_of items (behind_given gs)
unfolding nodes_of
one_forward items gs = refl

one_begin : (k : _) (items : List Item) (gs : List Given) → nodes_of (begin_item k ∷ items) gs ≡ begin_node k ∷ nodes_of items gs
unfolding nodes_of
one_begin k items gs = refl

one_end : (items : List Item) (gs : List Given) → nodes_of (end_item ∷ items) gs ≡ end_node ∷ nodes_of items gs
unfolding nodes_of
one_end items gs = refl

pub adds_text : {E : Type 0} (r : Result (Unit {0}) E) (old new : List Node) (leaf : Leaf) (l : Label) (t text : List ℕ) (gs : List Given) → leaf ≡ text_leaf t → text ≡ t → l ≡ text_label → OnOk r (new ≡ old ++ leaf_node (piece_of l text) ∷ [])
    → OnOk r ((items : List Item) → new ++ nodes_of items gs ≡ old ++ nodes_of (leaf_item leaf ∷ items) gs)
adds_text (Err e) old new leaf l t text gs var same is put = tt
adds_text (Ok u) old new leaf l t text gs var same is put = λ items.
    ap (λ x. x ++ nodes_of items gs) (put ∙ (λ i. old ++ leaf_node (piece_of (is i) (same i)) ∷ [])) ∙ append_assoc old (leaf_node (piece_of text_label t) ∷ []) (nodes_of items gs)
    ∙ ap (λ x. old ++ x) (sym (ap (λ x. nodes_of (leaf_item x ∷ items) gs) var ∙ one_text t items gs))

pub adds_file : (old new : List Node) (leaf : Leaf) (l : Label) (text : List ℕ) (gs left : List Given) → leaf ≡ file_leaf l → text ≡ file_in gs → left ≡ behind_given gs → new ≡ old ++ leaf_node (piece_of l text) ∷ []
    → (items : List Item) → new ++ nodes_of items left ≡ old ++ nodes_of (leaf_item leaf ∷ items) gs
adds_file old new leaf l text gs left var t is put items =
    (λ i. (put ∙ ap (λ x. old ++ leaf_node (piece_of l x) ∷ []) t) i ++ nodes_of items (is i)) ∙ append_assoc old (leaf_node (piece_of l (file_in gs)) ∷ []) (nodes_of items (behind_given gs)) ∙ ap (λ x. old ++ x) (sym (ap (λ x. nodes_of (leaf_item x ∷ items) gs) var ∙ one_file l items gs))

pub adds_forward : (old new : List Node) (leaf : Leaf) (messages : List (List ℕ)) (gs left : List Given) → leaf ≡ messages_leaf → messages ≡ messages_in gs → left ≡ behind_given gs → new ≡ old ++ message_nodes messages
    → (items : List Item) → new ++ nodes_of items left ≡ old ++ nodes_of (leaf_item leaf ∷ items) gs
adds_forward old new leaf messages gs left var t is put items =
    (λ i. (put ∙ ap (λ x. old ++ message_nodes x) t) i ++ nodes_of items (is i)) ∙ append_assoc old (message_nodes (messages_in gs)) (nodes_of items (behind_given gs)) ∙ ap (λ x. old ++ x) (sym (ap (λ x. nodes_of (leaf_item x ∷ items) gs) var ∙ one_forward items gs))

pub adds_begin : (k : _) (item : Item) (old new : List Node) (gs : List Given) → item ≡ begin_item k → new ≡ old ++ begin_node k ∷ [] → (items : List Item) → new ++ nodes_of items gs ≡ old ++ nodes_of (item ∷ items) gs
adds_begin k item old new gs var put items = ap (λ x. x ++ nodes_of items gs) put ∙ append_assoc old (begin_node k ∷ []) (nodes_of items gs) ∙ ap (λ x. old ++ x) (sym (ap (λ x. nodes_of (x ∷ items) gs) var ∙ one_begin k items gs))

pub adds_end : (item : Item) (old new : List Node) (gs : List Given) → item ≡ end_item → new ≡ old ++ end_node ∷ [] → (items : List Item) → new ++ nodes_of items gs ≡ old ++ nodes_of (item ∷ items) gs
adds_end item old new gs var put items = ap (λ x. x ++ nodes_of items gs) put ∙ append_assoc old (end_node ∷ []) (nodes_of items gs) ∙ ap (λ x. old ++ x) (sym (ap (λ x. nodes_of (x ∷ items) gs) var ∙ one_end items gs))

no_nodes : (gs : List Given) → nodes_of [] gs ≡ []
unfolding nodes_of
no_nodes gs = refl

pub nodes_start : (old front : List Node) (items : List Item) (gs : List Given) → old ≡ [] ++ front → old ++ nodes_of items gs ≡ front ++ nodes_of items gs
nodes_start old front items gs e = ap (λ x. x ++ nodes_of items gs) e

pub nodes_more : (items : List Item) (i : ℕ) (n d : Item) (old new all : List Node) (gs left : List Given) → i < length items → n ≡ get_or items i d
    → ((more : List Item) → new ++ nodes_of more left ≡ old ++ nodes_of (n ∷ more) gs) → old ++ nodes_of (drop i items) gs ≡ all → new ++ nodes_of (drop (i + 1) items) left ≡ all
nodes_more items i n d old new all gs left lt is step e = step (drop (i + 1) items) ∙ ap (λ m. old ++ nodes_of m gs) (sym (cut items i n d lt is)) ∙ e

pub nodes_end : (items : List Item) (i count : ℕ) (list new : List Node) (gs left : List Given) → length items ≤ i → count ≡ tops 0 items → new ≡ list ++ root_back count → list ++ nodes_of (drop i items) left ≡ root_front count ++ nodes_of items gs
    → new ≡ all_nodes items gs
nodes_end items i count list new gs left le c put e =
    let all : list ≡ root_front count ++ nodes_of items gs = sym (append-nil list) ∙ ap (λ x. list ++ x) (sym (ap (λ m. nodes_of m left) (drop_all i items le) ∙ no_nodes left)) ∙ e in
    put ∙ ap (λ x. x ++ root_back count) all ∙ append_assoc (root_front count) (nodes_of items gs) (root_back count) ∙ ap (λ n. root_front n ++ (nodes_of items gs ++ root_back n)) c
