-- The message that a draft becomes.
use Rattle.std.proofs.Common.{◌≡◌, ℕ, Bool, List, [], ◌++◌, length, Result, Ok, Err, ◌∙◌, ap, subst}
use Rattle.std.specs.Prelude.{IfOk}
use Rattle.mh_drafts.specs.declared.item.Item.{Item}
use Rattle.mhbuild_compose.specs.declared.given.Given.{Given}
use Rattle.mhbuild_compose.specs.declared.node.Node.{Node}
use Rattle.mhbuild_compose.specs.Eights.{flags_of}
use Rattle.mhbuild_compose.specs.Keys.{AreKeys, begins_in, takes_any}
use Rattle.mhbuild_compose.specs.Messages.{IsComposed, opened}
use Rattle.mhbuild_compose.specs.Roots.{all_nodes}
use Rattle.mhbuild_compose.specs.Written.{written}
use Rattle.mhbuild_compose.proofs.Trees.{draft_text}

pub composed : {E : Type 0} (r : Result (List ℕ) E) (fields : List ℕ) (items : List Item) (givens : List Given) (run : ℕ) (nodes nodes_seen nodes_read : List Node) (flags : List Bool) (keys out : List ℕ)
    → nodes ≡ all_nodes items givens → nodes_seen ≡ all_nodes items givens → nodes_read ≡ all_nodes items givens → flags ≡ flags_of nodes_seen → AreKeys (takes_any run nodes_read) 0 keys → length keys ≡ begins_in nodes_read → out ≡ opened fields
    → IfOk r (λ m. m ≡ out ++ written run [] flags keys nodes) → IfOk r (λ m. IsComposed fields items givens run m)
composed (Err e) fields items givens run nodes seen read flags keys out n s d f k c o w = tt
composed (Ok m) fields items givens run nodes seen read flags keys out n s d f k c o w =
    let whole : m ≡ opened fields ++ written run [] (flags_of (all_nodes items givens)) keys (all_nodes items givens) = w ∙ (λ i. o i ++ written run [] ((f ∙ ap flags_of s) i) keys (n i)) in
    record {
      keys = keys;
      are_keys = subst (λ (x : List Node). AreKeys (takes_any run x) 0 keys) d k;
      are_all = c ∙ ap begins_in d;
      is_tree = λ parts e. whole ∙ ap (λ t. opened fields ++ t) (draft_text items givens run keys parts e);
      is_written = whole;
    }
