-- Blanks and comments, byte by byte.
use Rattle.std.proofs.Common.{◌≡◌, ℕ, ◌+◌, ◌<◌, ◌≤◌, true, false, Option, Some, None, List, [], ◌∷◌, length, get_or, drop, refl, sym, ◌∙◌, ap, arith}
use Rattle.std.proofs.lemmas.List.{drop_all}
use Rattle.mail_headers.proofs.Folding.{cut_at}
use Rattle.mime_tree.specs.declared.gap.Nesting.{Nesting}
use Rattle.mime_tree.specs.declared.gap.Nesting.TheVariants.{Between, Inside, Protected}
use Rattle.mime_tree.specs.Depths.{depth_of, is_between}
use Rattle.mime_tree.specs.Gaps.{place_behind, at_end, begun, behind_gap_at}

pub step_in : (place : Nesting) (c : ℕ) (rest : List ℕ) (o : Option Nesting) → place_behind place c ≡ o → behind_gap_at place (c ∷ rest) ≡ begun (c ∷ rest) o (λ next. behind_gap_at next rest)
unfolding behind_gap_at
step_in place c rest o e = rw e refl

pub gap_goes : (text : List ℕ) (place next : Nesting) (i c : ℕ) (r : Option (List ℕ)) → i < length text → c ≡ get_or text i 0 → place_behind place c ≡ Some next →
    behind_gap_at place (drop i text) ≡ r → behind_gap_at next (drop (i + 1) text) ≡ r
gap_goes text place next i c r lt is on e = sym (ap (behind_gap_at place) (cut_at text i c lt is) ∙ step_in place c (drop (i + 1) text) (Some next) on) ∙ e

pub gap_stops : (text : List ℕ) (place : Nesting) (i c : ℕ) (r : Option (List ℕ)) → i < length text → c ≡ get_or text i 0 → place_behind place c ≡ None →
    behind_gap_at place (drop i text) ≡ r → r ≡ Some (drop i text)
gap_stops text place i c r lt is on e =
    sym e ∙ ap (behind_gap_at place) (cut_at text i c lt is) ∙ step_in place c (drop (i + 1) text) None on ∙ ap Some (sym (cut_at text i c lt is))

pub gap_ends : (text : List ℕ) (place : Nesting) (i : ℕ) (r : Option (List ℕ)) → length text ≤ i → behind_gap_at place (drop i text) ≡ r → r ≡ at_end place
unfolding behind_gap_at
gap_ends text place i r le e = sym e ∙ rw (drop_all i text le) refl

deeper : (place next : Nesting) (c : ℕ) → place_behind place c ≡ Some next → depth_of next ≤ depth_of place + 1
deeper Between next c e = grind (arith, e)
deeper (Inside depth) next c e = grind (arith, e)
deeper (Protected depth) next c e = grind (arith, e)

pub depth_goes : (place next : Nesting) (c i : ℕ) → place_behind place c ≡ Some next → depth_of place ≤ i → depth_of next ≤ i + 1
depth_goes place next c i e le = omega (arith, deeper place next c e)

pub between_end : (place : Nesting) → is_between place ≡ true → at_end place ≡ Some []
between_end Between e = refl
between_end (Inside depth) e = cc
between_end (Protected depth) e = cc

pub inside_end : (place : Nesting) → is_between place ≡ false → at_end place ≡ None
inside_end Between e = cc
inside_end (Inside depth) e = refl
inside_end (Protected depth) e = refl
