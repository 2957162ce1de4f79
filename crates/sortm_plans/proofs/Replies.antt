-- What stands behind the marks of replies.
use Rattle.std.proofs.Common.{◌≡◌, ◌≤◌, ℕ, zero, suc, true, List, [], ◌∷◌, length, drop, refl, ◌∙◌, arith, length-drop}
use Rattle.std.specs.List.{prefix_len}
use Rattle.message_order.specs.Texts.{IsBehindReplies, begins_reply, behind_mark}
use Rattle.message_order.specs.Texts.IsBehindReplies.{none, one}
use Rattle.sortm_plans.specs.Keys.{behind_replies, behind_up_to}
use Rattle.mh_base.specs.Characters.{is_blank}

shorter : (text : List ℕ) (n : ℕ) → begins_reply text ≡ true → length text ≤ suc n → length (behind_mark text) ≤ n
shorter [] n e h = absurd (cc e)
shorter (b ∷ text) n e h =
    let last = length-drop (prefix_len is_blank (drop 3 (b ∷ text))) (drop 3 (b ∷ text)) in
    let front = length-drop 3 (b ∷ text) in
    omega (arith, h, last, front)

none_begins : (text : List ℕ) → begins_reply text ≡ true → length text ≤ 0 → ⊥
none_begins [] e h = cc e
none_begins (b ∷ text) e h = omega (arith, h)

behind_by : (n : ℕ) (text rest : List ℕ) → length text ≤ n → IsBehindReplies text rest → rest ≡ behind_up_to n text
behind_by zero _ _ h (none {text = text} e) = refl
behind_by zero _ _ h (one {text = text} e is) = absurd (none_begins text e h)
behind_by (suc n) _ _ h (none {text = text} e) = rw e refl
behind_by (suc n) _ _ h (one {text = text} {rest = rest} e is) = behind_by n (behind_mark text) rest (shorter text n e h) is ∙ rw e refl

same_length : (n : ℕ) → n ≤ n
same_length n = omega arith

-- nothing else stands behind them
pub behind_is : (text rest : List ℕ) → IsBehindReplies text rest → rest ≡ behind_replies text
unfolding behind_replies
behind_is text rest is = behind_by (length text) text rest (same_length (length text)) is
