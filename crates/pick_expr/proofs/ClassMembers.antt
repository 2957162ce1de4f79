-- The members of a class, one after another.
use Rattle.std.proofs.Common.{◌≡◌, ℕ, ◌+◌, ◌<◌, ◌≤◌, ◌==◌, ◌&&◌, not, Bool, true, false, List, [], ◌∷◌, ◌++◌, Option, Some, None, length, drop, get_or, refl, sym, ap, ◌∙◌, arith, append_assoc, append-nil, length-drop}
use Rattle.std.specs.Prelude.{if◌then◌else◌}
use Rattle.std.proofs.lemmas.Bool.{ne_eqb}
use Rattle.std.proofs.lemmas.List.{drop_more, drop_all, drop-drop}
use Rattle.pick_expr.specs.declared.member.Member.{Member}
use Rattle.pick_expr.specs.declared.member.Member.TheVariants.{Single, Range}
use Rattle.pick_expr.specs.Reading.{Members, members_in, with_member, closes, closed}
use Rattle.pick_expr.specs.Taking.{first_member, member_len}

-- these members before those
abbrev pub joined : List Member → Option Members → Option Members
joined front None = None
joined front (Some ms) = Some (record { members = front ++ ms.members; behind = ms.behind })

joined_more : (front : List Member) (m : Member) (ms : Option Members) → joined front (with_member m ms) ≡ joined (front ++ m ∷ []) ms
joined_more front m None = refl
joined_more front m (Some ms) = ap (λ z. Some (record { members = z; behind = ms.behind })) (sym (append_assoc front (m ∷ []) ms.members))

joined_none : (ms : Option Members) → joined [] ms ≡ ms
joined_none None = refl
joined_none (Some ms) = refl

pub some_len : (m : Member) → 1 ≤ member_len m
some_len (Single b) = omega arith
some_len (Range low high) = omega arith

pub member_fits : (b : ℕ) (behind : List ℕ) → member_len (first_member b behind) ≤ length behind + 1
member_fits b [] = omega arith
member_fits b (c ∷ []) = omega arith
member_fits b (c ∷ (d ∷ bytes)) = choose (c == 45 && not (d == 93))
  where
    choose : (t : Bool) → member_len (if t then Range b d else Single b) ≤ length (c ∷ (d ∷ bytes)) + 1
    choose true = omega arith
    choose false = omega arith

class_closes : (at_start : Bool) (b : ℕ) (behind : List ℕ) → closes at_start b ≡ true → members_in at_start (b ∷ behind) ≡ closed behind
class_closes at_start b [] h = rw h refl
class_closes at_start b (c ∷ []) h = rw h refl
class_closes at_start b (c ∷ (d ∷ bytes)) h = rw h refl

one_member : (at_start : Bool) (b : ℕ) (behind : List ℕ) → closes at_start b ≡ false
    → members_in at_start (b ∷ behind) ≡ with_member (first_member b behind) (members_in false (drop (member_len (first_member b behind)) (b ∷ behind)))
one_member at_start b [] h = rw h refl
one_member at_start b (c ∷ []) h = rw h refl
one_member at_start b (c ∷ (d ∷ bytes)) h = rw h (choose (c == 45 && not (d == 93)))
  where
    choose : (t : Bool) → (if t then with_member (Range b d) (members_in false bytes) else with_member (Single b) (members_in false (c ∷ (d ∷ bytes))))
        ≡ with_member (if t then Range b d else Single b) (members_in false (drop (member_len (if t then Range b d else Single b)) (b ∷ (c ∷ (d ∷ bytes)))))
    choose true = refl
    choose false = refl

-- whatever completes the rest completes the whole
pub record AreRead (text : List ℕ) (at : ℕ) (front : List Member) : Type 0 where
  pub inside : at ≤ length text
  pub rest : members_in true text ≡ joined front (members_in (at == 0) (drop at text))

pub first_read : (text : List ℕ) → AreRead text 0 []
first_read text = record { inside = omega arith; rest = sym (joined_none (members_in true text)) }

pub more_read : (text : List ℕ) (at b : ℕ) (behind : List ℕ) (front new : List Member) (m : Member) (len : ℕ) → AreRead text at front → at < length text → b ≡ get_or text at 0
    → behind ≡ drop (at + 1) text → closes (at == 0) b ≡ false → m ≡ first_member b behind → len ≡ member_len m → new ≡ front ++ m ∷ [] → AreRead text (at + len) new
more_read text at b behind front new m len now within is_b is_behind goes_on is_m is_len is_new =
    let split : drop at text ≡ b ∷ behind = drop_more text at 0 within ∙ (λ i. sym is_b i ∷ sym is_behind i) in
    let len_is : len ≡ member_len (first_member b behind) = is_len ∙ ap member_len is_m in
    let fits : member_len (first_member b behind) ≤ length (drop (at + 1) text) + 1 = rw (← is_behind) (member_fits b behind) in
    let some : 1 ≤ member_len m = some_len m in
    let later : (at + len == 0) ≡ false = ne_eqb (at + len) 0 (λ e. absurd (omega arith)) in
    let left : drop (member_len (first_member b behind)) (b ∷ behind) ≡ drop (at + len) text = (λ i. drop (sym len_is i) (sym split i)) ∙ drop-drop len at text in
    record {
      inside = omega (arith, length-drop (at + 1) text);
      rest = now.rest ∙ ap (λ z. joined front (members_in (at == 0) z)) split ∙ ap (joined front) (one_member (at == 0) b behind goes_on)
          ∙ joined_more front (first_member b behind) (members_in false (drop (member_len (first_member b behind)) (b ∷ behind)))
          ∙ (λ i. joined (((λ j. front ++ sym is_m j ∷ []) ∙ sym is_new) i) (members_in (sym later i) (left i)));
    }

pub all_read : (text : List ℕ) (at b : ℕ) (front : List Member) → AreRead text at front → at < length text → b ≡ get_or text at 0 → closes (at == 0) b ≡ true
    → (members_in true text ≡ Some (record { members = front; behind = drop (at + 1) text })) × (at + 1 ≤ length text)
all_read text at b front now within is_b close =
    let split : drop at text ≡ b ∷ drop (at + 1) text = drop_more text at 0 within ∙ (λ i. sym is_b i ∷ drop (at + 1) text) in (
      now.rest ∙ ap (λ z. joined front (members_in (at == 0) z)) split ∙ ap (joined front) (class_closes (at == 0) b (drop (at + 1) text) close)
          ∙ ap (λ z. Some (record { members = z; behind = drop (at + 1) text })) (append-nil front),
      omega arith,
    )

pub none_read : (text : List ℕ) (at : ℕ) (front : List Member) → AreRead text at front → length text ≤ at → members_in true text ≡ None
none_read text at front now over = now.rest ∙ ap (λ z. joined front (members_in (at == 0) z)) (drop_all at text over)
