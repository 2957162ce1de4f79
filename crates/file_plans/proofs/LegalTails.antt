-- What is legal is legal up to any event that is no crash.
use Rattle.std.proofs.Common.{◌≡◌, ℕ, List, [], ◌∷◌, ◌++◌, subst}
use Rattle.folder_files.specs.Histories.{IsLegal, begins, answers, fails, is_dead, delivers, crashes, crashes_within, stops}
use Rattle.folder_files.specs.declared.event.Event.{Event}
use Rattle.folder_files.specs.declared.event.Event.TheVariants.{Act, Deliver, Crash, End}
use Rattle.folder_files.specs.declared.world.World.{World}

-- these are all steps of this run
abbrev pub AreActs : ℕ → List Event → Type 0
AreActs run [] = Unit {0}
AreActs run (Act r s a m ∷ es) = (r ≡ run) × AreActs run es
AreActs run (Deliver path piece ∷ es) = ⊥
AreActs run (Crash v ∷ es) = ⊥
AreActs run (End r ∷ es) = ⊥

abbrev pub NotCrash : Event → Type 0
NotCrash (Act r s a m) = Unit {0}
NotCrash (Deliver path piece) = Unit {0}
NotCrash (Crash v) = ⊥
NotCrash (End r) = Unit {0}

tail_same : (x y : Event) (xs ys : List Event) → x ∷ xs ≡ y ∷ ys → xs ≡ ys
tail_same x y xs ys e = cc

crash_not : (v : World) (e : Event) (xs ys : List Event) → Crash v ∷ xs ≡ e ∷ ys → NotCrash e → ⊥
crash_not v e xs ys is no_crash = let same : Crash v ≡ e = cc in rw (← same) at no_crash

none_more : (x : Event) (xs : List Event) → [] ≡ x ∷ xs → ⊥
none_more x xs e = cc

-- what is legal is legal up to any event that is no crash
pub legal_tail : (start : World) (h : List Event) → IsLegal start h → (xs : List Event) (e : Event) (past : List Event) → h ≡ xs ++ e ∷ past → NotCrash e → IsLegal start (e ∷ past)
legal_tail start h l [] e past is not_crash = subst (λ z. IsLegal start z) is l
legal_tail start _ begins (x ∷ xs) e past is not_crash = absurd (none_more x (xs ++ e ∷ past) is)
legal_tail start _ (answers r s a {past = p} l live fits) (x ∷ xs) e past is not_crash = legal_tail start p l xs e past (tail_same _ x p (xs ++ e ∷ past) is) not_crash
legal_tail start _ (fails r s m {past = p} l live may) (x ∷ xs) e past is not_crash = legal_tail start p l xs e past (tail_same _ x p (xs ++ e ∷ past) is) not_crash
legal_tail start _ (is_dead r s {past = p} l dead) (x ∷ xs) e past is not_crash = legal_tail start p l xs e past (tail_same _ x p (xs ++ e ∷ past) is) not_crash
legal_tail start _ (delivers path piece {past = p} l) (x ∷ xs) e past is not_crash = legal_tail start p l xs e past (tail_same _ x p (xs ++ e ∷ past) is) not_crash
legal_tail start _ (crashes v {past = p} l image) (x ∷ xs) e past is not_crash = legal_tail start p l xs e past (tail_same _ x p (xs ++ e ∷ past) is) not_crash
legal_tail start _ (stops r {past = p} l) (x ∷ xs) e past is not_crash = legal_tail start p l xs e past (tail_same _ x p (xs ++ e ∷ past) is) not_crash
legal_tail start _ (crashes_within v r s {past = p} l live image) (x ∷ []) e past is not_crash = absurd (crash_not v e p past (tail_same _ x (Crash v ∷ p) (e ∷ past) is) not_crash)
legal_tail start _ (crashes_within v r s {past = p} l live image) (x ∷ (y ∷ xs)) e past is not_crash =
    legal_tail start p l xs e past (tail_same (Crash v) y p (xs ++ e ∷ past) (tail_same _ x (Crash v ∷ p) (y ∷ (xs ++ e ∷ past)) is)) not_crash
