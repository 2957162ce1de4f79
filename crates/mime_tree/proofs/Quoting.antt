-- Quoted strings, byte by byte.
use Rattle.std.proofs.Common.{◌≡◌, ℕ, ◌+◌, ◌<◌, ◌≤◌, Bool, true, false, Option, Some, None, List, ◌∷◌, ◌++◌, length, get_or, drop, refl, sym, ◌∙◌, ap, arith, append-nil}
use Rattle.std.specs.Prelude.{◌==◌, ◌&&◌, not, option_map}
use Rattle.std.proofs.lemmas.List.{drop_all}
use Rattle.mail_headers.proofs.Folding.{cut_at}
use Rattle.mime_tree.specs.Tokens.{closing, unprotected_at}

pub closes : (protected : Bool) (c : ℕ) (rest : List ℕ) → (not protected && c == 34) ≡ true → closing protected (c ∷ rest) ≡ Some 0
unfolding closing
closes protected c rest e = rw e refl

pub stays_open : (protected : Bool) (c : ℕ) (rest : List ℕ) → (not protected && c == 34) ≡ false → closing protected (c ∷ rest) ≡ option_map (λ n. n + 1) (closing (not protected && c == 92) rest)
unfolding closing
stays_open protected c rest e = rw e refl

pub moved : (i : ℕ) (o : Option ℕ) → option_map (λ n. n + i) (option_map (λ n. n + 1) o) ≡ option_map (λ n. n + (i + 1)) o
moved i None = refl
moved i (Some n) = let e : n + 1 + i ≡ n + (i + 1) = omega arith in ap Some e

pub closing_here : (text : List ℕ) (protected : Bool) (i c : ℕ) (r : Option ℕ) → i < length text → c ≡ get_or text i 0 → (not protected && c == 34) ≡ true →
    option_map (λ n. n + i) (closing protected (drop i text)) ≡ r → r ≡ Some i
closing_here text protected i c r lt is test e =
    let found : closing protected (drop i text) ≡ Some 0 = ap (closing protected) (cut_at text i c lt is) ∙ closes protected c (drop (i + 1) text) test in
    let zero_on : 0 + i ≡ i = omega arith in
    sym e ∙ ap (option_map (λ n. n + i)) found ∙ ap Some zero_on

pub closing_later : (text : List ℕ) (protected : Bool) (i c : ℕ) (r : Option ℕ) → i < length text → c ≡ get_or text i 0 → (not protected && c == 34) ≡ false →
    option_map (λ n. n + i) (closing protected (drop i text)) ≡ r → option_map (λ n. n + (i + 1)) (closing (not protected && c == 92) (drop (i + 1) text)) ≡ r
closing_later text protected i c r lt is test e =
    let step = ap (closing protected) (cut_at text i c lt is) ∙ stays_open protected c (drop (i + 1) text) test in
    sym (ap (option_map (λ n. n + i)) step ∙ moved i (closing (not protected && c == 92) (drop (i + 1) text))) ∙ e

pub never_closed : (text : List ℕ) (protected : Bool) (i : ℕ) (r : Option ℕ) → length text ≤ i → option_map (λ n. n + i) (closing protected (drop i text)) ≡ r → r ≡ None
unfolding closing
never_closed text protected i r le e = sym e ∙ rw (drop_all i text le) refl

pub closing_starts : (o : Option ℕ) → option_map (λ n. n + 0) o ≡ o
closing_starts None = refl
closing_starts (Some n) = let e : n + 0 ≡ n = omega arith in ap Some e

pub kept : (text old new : List ℕ) (i c : ℕ) (protected protects : Bool) (all : List ℕ) → i < length text → c ≡ get_or text i 0 →
    ((rest : List ℕ) → new ++ unprotected_at protects rest ≡ old ++ unprotected_at protected (c ∷ rest)) →
    old ++ unprotected_at protected (drop i text) ≡ all → new ++ unprotected_at protects (drop (i + 1) text) ≡ all
kept text old new i c protected protects all lt is step e =
    step (drop (i + 1) text) ∙ ap (λ r. old ++ unprotected_at protected r) (sym (cut_at text i c lt is)) ∙ e

pub all_kept : (text bytes : List ℕ) (protected : Bool) (i : ℕ) (all : List ℕ) → length text ≤ i → bytes ++ unprotected_at protected (drop i text) ≡ all → bytes ≡ all
unfolding unprotected_at
all_kept text bytes protected i all le e = sym (append-nil bytes) ∙ rw (drop_all i text le) at e
