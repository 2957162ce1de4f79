-- Comments, byte by byte.
use Rattle.std.proofs.Common.{◌≡◌, ℕ, ◌+◌, ◌<◌, ◌≤◌, Bool, true, false, Option, Some, None, List, ◌∷◌, length, get_or, drop, refl, sym, ◌∙◌, ap, arith}
use Rattle.std.specs.Prelude.{option_map}
use Rattle.std.proofs.lemmas.List.{drop_all}
use Rattle.mail_headers.proofs.Folding.{cut_at}
use Rattle.mh_drafts.specs.Comments.{closes, comment_end, depth_behind, protects}
use Rattle.mime_tree.proofs.Quoting.{moved}

ends_here : (depth : ℕ) (protected : Bool) (c : ℕ) (rest : List ℕ) → closes depth protected c ≡ true → comment_end depth protected (c ∷ rest) ≡ Some 0
unfolding comment_end
ends_here depth protected c rest e = rw e refl

goes_on : (depth : ℕ) (protected : Bool) (c : ℕ) (rest : List ℕ) → closes depth protected c ≡ false →
    comment_end depth protected (c ∷ rest) ≡ option_map (λ n. n + 1) (comment_end (depth_behind depth protected c) (protects protected c) rest)
unfolding comment_end
goes_on depth protected c rest e = rw e refl

pub comment_ends : (text : List ℕ) (depth : ℕ) (protected : Bool) (i c : ℕ) (r : Option ℕ) → i < length text → c ≡ get_or text i 0 → closes depth protected c ≡ true →
    option_map (λ n. n + i) (comment_end depth protected (drop i text)) ≡ r → Some i ≡ r
comment_ends text depth protected i c r lt is test e =
    let found : comment_end depth protected (drop i text) ≡ Some 0 = ap (comment_end depth protected) (cut_at text i c lt is) ∙ ends_here depth protected c (drop (i + 1) text) test in
    let zero_on : 0 + i ≡ i = omega arith in
    ap Some (sym zero_on) ∙ ap (option_map (λ n. n + i)) (sym found) ∙ e

pub comment_goes : (text : List ℕ) (depth : ℕ) (protected : Bool) (i c : ℕ) (r : Option ℕ) → i < length text → c ≡ get_or text i 0 → closes depth protected c ≡ false →
    option_map (λ n. n + i) (comment_end depth protected (drop i text)) ≡ r →
    option_map (λ n. n + (i + 1)) (comment_end (depth_behind depth protected c) (protects protected c) (drop (i + 1) text)) ≡ r
comment_goes text depth protected i c r lt is test e =
    let step = ap (comment_end depth protected) (cut_at text i c lt is) ∙ goes_on depth protected c (drop (i + 1) text) test in
    sym (ap (option_map (λ n. n + i)) step ∙ moved i (comment_end (depth_behind depth protected c) (protects protected c) (drop (i + 1) text))) ∙ e

pub comment_open : (text : List ℕ) (depth : ℕ) (protected : Bool) (i : ℕ) (r : Option ℕ) → length text ≤ i → option_map (λ n. n + i) (comment_end depth protected (drop i text)) ≡ r → None ≡ r
unfolding comment_end
comment_open text depth protected i r le e = sym (rw (drop_all i text le) refl) ∙ e

pub comment_starts : (o : Option ℕ) → option_map (λ n. n + 0) o ≡ o
comment_starts None = refl
comment_starts (Some n) = let e : n + 0 ≡ n = omega arith in ap Some e
