-- The set of changes that a crash keeps is the least closed one that has those that are asked for.
use Rattle.std.proofs.lemmas.List.{reverse-append}
use Rattle.std.proofs.Common.{◌≡◌, Option, reverse, ◌<◌, ◌++◌, ◌==◌, ◌||◌, ℕ, suc, Bool, true, false, List, [], ◌∷◌, length, bytes_eq, refl, sym, ◌∙◌, ap, subst, arith, ◌⊎◌, inl, inr}
use Rattle.std.proofs.lemmas.Bool.Decides.{Decides-eqb}
use Rattle.std.proofs.lemmas.Slice.Eq.{bytes_eq-Decides}
use Rattle.std.proofs.lemmas.List.Folds.{list_any-append}
use Rattle.std.specs.Prelude.{if◌then◌else◌}
use Rattle.std.specs.List.{list_any}
use Rattle.folder_files.specs.Directory.{Slots, touches, after_change, kept_lead, AllKept, IsClosed}
use Rattle.folder_files.specs.declared.world.Change.{Change}
use Rattle.folder_files.specs.declared.world.Change.TheVariants.{Set, Gone, Moved}
use Rattle.mh_base.proofs.NumberTests.{or_right}
use Rattle.folder_room.specs.Closing.{names_of, touches_any, is_kept, touched_by, kept_set}
use Rattle.folder_room.specs.Crashing.{HasAsked, IsLeastClosed}

either : (a b : Bool) → a || b ≡ true → (a ≡ true) ⊎ (b ≡ true)
either true b e = inl refl
either false b e = inr e

or_left : (a b : Bool) → a ≡ true → a || b ≡ true
or_left a b e = ap (λ x. x || b) e

self : (n : ℕ) → (n == n) ≡ true
self n = (Decides-eqb n n).1 refl

apart : (n i : ℕ) → i < n → (n == i) ≡ false
apart n i l = go (n == i) ((Decides-eqb n i).0)
  where
    go : (b : Bool) → (b ≡ true → n ≡ i) → b ≡ false
    go true e = absurd (let h = e refl in omega arith)
    go false e = refl

abbrev Agree : List Change → (ℕ → Bool) → (ℕ → Bool) → Type 0
Agree cs k l = (i : ℕ) → i < length cs → k i ≡ l i

agree_less : (c : Change) (cs : List Change) (k l : ℕ → Bool) → Agree (c ∷ cs) k l → Agree cs k l
agree_less c cs k l a = λ i h. a i (omega arith)

lead_agrees : (s : Slots) (cs : List Change) (k l : ℕ → Bool) (x : List ℕ) → Agree cs k l → kept_lead s cs k x ≡ kept_lead s cs l x
lead_agrees s [] k l x a = refl
lead_agrees s (c ∷ cs) k l x a =
    let rest : (y : List ℕ) → kept_lead s cs k y ≡ kept_lead s cs l y = λ y. lead_agrees s cs k l y (agree_less c cs k l a) in
    λ i. if a (length cs) (omega arith) i then after_change c (λ y. rest y i) x else rest x i

kept_agrees : (x : List ℕ) (cs : List Change) (k l : ℕ → Bool) → Agree cs k l → AllKept x cs k → AllKept x cs l
kept_agrees x [] k l a h = tt
kept_agrees x (c ∷ cs) k l a h = (λ t. sym (a (length cs) (omega arith)) ∙ h.0 t, kept_agrees x cs k l (agree_less c cs k l a) h.1)

closed_agrees : (cs : List Change) (k l : ℕ → Bool) → Agree cs k l → IsClosed cs k → IsClosed cs l
closed_agrees [] k l a h = tt
closed_agrees (c ∷ cs) k l a h =
    (λ e x t. kept_agrees x cs k l (agree_less c cs k l a) (h.0 (a (length cs) (omega arith) ∙ e) x t), closed_agrees cs k l (agree_less c cs k l a) h.1)

abbrev In : List ℕ → List (List ℕ) → Type 0
In x names = list_any (λ n. bytes_eq n x) names ≡ true

touched_names : (c : Change) (x : List ℕ) → touches c x ≡ true → In x (names_of c)
touched_names (Set n f) x t = or_left (bytes_eq n x) false t
touched_names (Gone n) x t = or_left (bytes_eq n x) false t
touched_names (Moved a b) x t = go (bytes_eq a x) (bytes_eq b x) t
  where
    go : (u v : Bool) → u || v ≡ true → u || (v || false) ≡ true
    go true v e = refl
    go false v e = or_left v false e

names_touched : (c : Change) (x : List ℕ) → In x (names_of c) → touches c x ≡ true
names_touched (Set n f) x t = go (bytes_eq n x) t
  where
    go : (u : Bool) → u || false ≡ true → u ≡ true
    go true e = refl
    go false e = e
names_touched (Gone n) x t = go (bytes_eq n x) t
  where
    go : (u : Bool) → u || false ≡ true → u ≡ true
    go true e = refl
    go false e = e
names_touched (Moved a b) x t = go (bytes_eq a x) (bytes_eq b x) t
  where
    go : (u v : Bool) → u || (v || false) ≡ true → u || v ≡ true
    go true v e = refl
    go false true e = refl
    go false false e = e

any_touched : (c : Change) (x : List ℕ) (names : List (List ℕ)) → In x names → touches c x ≡ true → touches_any c names ≡ true
any_touched c x [] i t = absurd (cc (i))
any_touched c x (n ∷ names) i t = go (λ e. any_touched c x names e t) (either (bytes_eq n x) (list_any (λ m. bytes_eq m x) names) i)
  where
    go : (In x names → touches_any c names ≡ true) → (bytes_eq n x ≡ true) ⊎ (list_any (λ m. bytes_eq m x) names ≡ true) → touches c n || touches_any c names ≡ true
    go more (inl e) = or_left (touches c n) (touches_any c names) (ap (touches c) ((bytes_eq-Decides n x).0 e) ∙ t)
    go more (inr e) = or_right (touches c n) (touches_any c names) (more e)

touched_any : (c : Change) (names : List (List ℕ)) → touches_any c names ≡ true → (x : List ℕ) × (In x names × (touches c x ≡ true))
touched_any c [] e = absurd (cc (e))
touched_any c (n ∷ names) e = go (touched_any c names) (either (touches c n) (touches_any c names) e)
  where
    go : (touches_any c names ≡ true → (x : List ℕ) × (In x names × (touches c x ≡ true))) → (touches c n ≡ true) ⊎ (touches_any c names ≡ true) → (x : List ℕ) × (In x (n ∷ names) × (touches c x ≡ true))
    go more (inl t) = (n, (or_left (bytes_eq n n) (list_any (λ m. bytes_eq m n) names) ((bytes_eq-Decides n n).1 refl), t))
    go more (inr t) = let r = more t in (r.0, (or_right (bytes_eq n r.0) (list_any (λ m. bytes_eq m r.0) names) r.1.0, r.1.1))

in_front : (x : List ℕ) (a b : List (List ℕ)) → In x a → In x (a ++ b)
in_front x a b i = list_any-append (λ n. bytes_eq n x) a b ∙ or_left (list_any (λ n. bytes_eq n x) a) (list_any (λ n. bytes_eq n x) b) i

in_back : (x : List ℕ) (a b : List (List ℕ)) → In x b → In x (a ++ b)
in_back x a b i = list_any-append (λ n. bytes_eq n x) a b ∙ or_right (list_any (λ n. bytes_eq n x) a) (list_any (λ n. bytes_eq n x) b) i

in_parts : (x : List ℕ) (a b : List (List ℕ)) → In x (a ++ b) → In x a ⊎ In x b
in_parts x a b i = either (list_any (λ n. bytes_eq n x) a) (list_any (λ n. bytes_eq n x) b) (sym (list_any-append (λ n. bytes_eq n x) a b) ∙ i)

stays_in : (x : List ℕ) (kept : Bool) (c : Change) (names : List (List ℕ)) → In x names → In x (touched_by kept c names)
stays_in x true c names i = in_front x names (names_of c) i
stays_in x false c names i = i

-- the set of the older changes is that of all there
older_agree : (c : Change) (cs : List Change) (a : ℕ → Bool) (names : List (List ℕ)) → Agree cs (kept_set cs a (touched_by (is_kept c cs a names) c names)) (kept_set (c ∷ cs) a names)
older_agree c cs a names i l = ap (λ b. if b then is_kept c cs a names else kept_set cs a (touched_by (is_kept c cs a names) c names) i) (sym (apart (length cs) i l))

newest_is : (c : Change) (cs : List Change) (a : ℕ → Bool) (names : List (List ℕ)) → kept_set (c ∷ cs) a names (length cs) ≡ is_kept c cs a names
newest_is c cs a names = ap (λ b. if b then is_kept c cs a names else kept_set cs a (touched_by (is_kept c cs a names) c names) (length cs)) (self (length cs))

all_kept : (x : List ℕ) (cs : List Change) (a : ℕ → Bool) (names : List (List ℕ)) → In x names → AllKept x cs (kept_set cs a names)
all_kept x [] a names i = tt
all_kept x (c ∷ cs) a names i = (
  λ t. newest_is c cs a names ∙ or_right (a (length cs)) (touches_any c names) (any_touched c x names i t),
  kept_agrees x cs (kept_set cs a (touched_by (is_kept c cs a names) c names)) (kept_set (c ∷ cs) a names) (older_agree c cs a names) (all_kept x cs a (touched_by (is_kept c cs a names) c names) (stays_in x (is_kept c cs a names) c names i)),
)

set_closed : (cs : List Change) (a : ℕ → Bool) (names : List (List ℕ)) → IsClosed cs (kept_set cs a names)
set_closed [] a names = tt
set_closed (c ∷ cs) a names = (
  λ e x t. kept_agrees x cs (kept_set cs a (touched_by (is_kept c cs a names) c names)) (kept_set (c ∷ cs) a names) (older_agree c cs a names)
      (all_kept x cs a (touched_by (is_kept c cs a names) c names) (subst (λ b. In x (touched_by b c names)) (sym (sym (newest_is c cs a names) ∙ e)) (in_back x names (names_of c) (touched_names c x t)))),
  closed_agrees cs (kept_set cs a (touched_by (is_kept c cs a names) c names)) (kept_set (c ∷ cs) a names) (older_agree c cs a names) (set_closed cs a (touched_by (is_kept c cs a names) c names)),
)

below_or_last : (i n : ℕ) → i < suc n → (i ≡ n) ⊎ (i < n)
below_or_last i n l = go (n == i) ((Decides-eqb n i).0) ((Decides-eqb n i).1)
  where
    go : (b : Bool) → (b ≡ true → n ≡ i) → (n ≡ i → b ≡ true) → (i ≡ n) ⊎ (i < n)
    go true e f = inl (sym (e refl))
    go false e f = inr (let h : n ≡ i → ⊥ = λ q. cc (f q) in omega arith)

set_has : (cs : List Change) (a : ℕ → Bool) (names : List (List ℕ)) → HasAsked cs a (kept_set cs a names)
set_has [] a names i l e = absurd (omega arith)
set_has (c ∷ cs) a names i l e = go (set_has cs a (touched_by (is_kept c cs a names) c names)) (below_or_last i (length cs) l)
  where
    go : HasAsked cs a (kept_set cs a (touched_by (is_kept c cs a names) c names)) → (i ≡ length cs) ⊎ (i < length cs) → kept_set (c ∷ cs) a names i ≡ true
    go more (inl q) = subst (λ j. kept_set (c ∷ cs) a names j ≡ true) (sym q) (newest_is c cs a names ∙ or_left (a (length cs)) (touches_any c names) (subst (λ j. a j ≡ true) q e))
    go more (inr h) = sym (older_agree c cs a names i h) ∙ more i h e

set_least : (cs : List Change) (a : ℕ → Bool) (names : List (List ℕ)) (other : ℕ → Bool) → IsClosed cs other → HasAsked cs a other → ((x : List ℕ) → In x names → AllKept x cs other) → HasAsked cs (kept_set cs a names) other
set_least [] a names other closed has all i l e = absurd (omega arith)
set_least (c ∷ cs) a names other closed has all i l e = go (set_least cs a (touched_by (is_kept c cs a names) c names) other closed.1 (λ j m f. has j (omega arith) f)) (below_or_last i (length cs) l)
  where
    newest : is_kept c cs a names ≡ true → other (length cs) ≡ true
    newest k = from (either (a (length cs)) (touches_any c names) k)
      where
        from : (a (length cs) ≡ true) ⊎ (touches_any c names ≡ true) → other (length cs) ≡ true
        from (inl q) = has (length cs) (omega arith) q
        from (inr q) = let r = touched_any c names q in (all r.0 r.1.0).0 r.1.1

    rest : (kept : Bool) → (kept ≡ true → other (length cs) ≡ true) → (x : List ℕ) → In x (touched_by kept c names) → AllKept x cs other
    rest true k x m = by (in_parts x names (names_of c) m)
      where
        by : In x names ⊎ In x (names_of c) → AllKept x cs other
        by (inl q) = (all x q).1
        by (inr q) = closed.0 (k refl) x (names_touched c x q)
    rest false k x m = (all x m).1

    go : (((x : List ℕ) → In x (touched_by (is_kept c cs a names) c names) → AllKept x cs other) → HasAsked cs (kept_set cs a (touched_by (is_kept c cs a names) c names)) other) → (i ≡ length cs) ⊎ (i < length cs) → other i ≡ true
    go more (inl q) = subst (λ j. other j ≡ true) (sym q) (newest (sym (newest_is c cs a names) ∙ subst (λ j. kept_set (c ∷ cs) a names j ≡ true) q e))
    go more (inr h) = more (rest (is_kept c cs a names) newest) i h (older_agree c cs a names i h ∙ e)

pub least_set : (cs : List Change) (a : ℕ → Bool) → IsLeastClosed cs a (kept_set cs a [])
least_set cs a = record { closed = set_closed cs a []; has = set_has cs a []; least = λ other closed has. set_least cs a [] other closed has (λ x i. absurd (cc (i))) }

-- what is kept of a list with a newest change
pub kept_newest : (s : Slots) (c : Change) (cs : List Change) (a : ℕ → Bool) (names : List (List ℕ)) (x : List ℕ) → is_kept c cs a names ≡ true
    → after_change c (λ y. kept_lead s cs (kept_set cs a (names ++ names_of c)) y) x ≡ kept_lead s (c ∷ cs) (kept_set (c ∷ cs) a names) x
kept_newest s c cs a names x k =
    (λ i. after_change c (λ y. same y i) x) ∙ (λ i. if (sym (newest_is c cs a names ∙ k)) i then after_change c (λ y. kept_lead s cs (kept_set (c ∷ cs) a names) y) x else kept_lead s cs (kept_set (c ∷ cs) a names) x)
  where
    same : (y : List ℕ) → kept_lead s cs (kept_set cs a (names ++ names_of c)) y ≡ kept_lead s cs (kept_set (c ∷ cs) a names) y
    same y = lead_agrees s cs (kept_set cs a (names ++ names_of c)) (kept_set (c ∷ cs) a names) y (λ j l. ap (λ b. kept_set cs a (touched_by b c names) j) (sym k) ∙ older_agree c cs a names j l)

pub left_newest : (s : Slots) (c : Change) (cs : List Change) (a : ℕ → Bool) (names : List (List ℕ)) (x : List ℕ) → is_kept c cs a names ≡ false
    → kept_lead s cs (kept_set cs a names) x ≡ kept_lead s (c ∷ cs) (kept_set (c ∷ cs) a names) x
left_newest s c cs a names x k =
    lead_agrees s cs (kept_set cs a names) (kept_set (c ∷ cs) a names) x (λ j l. ap (λ b. kept_set cs a (touched_by b c names) j) (sym k) ∙ older_agree c cs a names j l)
    ∙ (λ i. if (sym (newest_is c cs a names ∙ k)) i then after_change c (λ y. kept_lead s cs (kept_set (c ∷ cs) a names) y) x else kept_lead s cs (kept_set (c ∷ cs) a names) x)

newest_first : (pending older : List Change) (c : Change) → pending ≡ older ++ c ∷ [] → c ∷ reverse older ≡ reverse pending
newest_first pending older c e = sym (ap reverse e ∙ reverse-append older (c ∷ []))

-- a newest change that isn't kept
pub left_step : (s : Slots) (pending older : List Change) (c : Change) (a : ℕ → Bool) (names given : List (List ℕ)) (x : List ℕ) (r : Option ℕ) → pending ≡ older ++ c ∷ [] → given ≡ names → false ≡ is_kept c (reverse older) a given
    → r ≡ kept_lead s (reverse older) (kept_set (reverse older) a names) x → r ≡ kept_lead s (reverse pending) (kept_set (reverse pending) a names) x
left_step s pending older c a names given x r e g k h =
    h ∙ left_newest s c (reverse older) a names x (ap (is_kept c (reverse older) a) (sym g) ∙ sym k) ∙ ap (λ cs. kept_lead s cs (kept_set cs a names) x) (newest_first pending older c e)

-- a newest change that is kept
pub kept_step : (s f : Slots) (pending older : List Change) (c : Change) (a : ℕ → Bool) (names given after : List (List ℕ)) (x : List ℕ) (r : Option ℕ) → pending ≡ older ++ c ∷ [] → given ≡ names → true ≡ is_kept c (reverse older) a given
    → after ≡ names ++ names_of c → ((y : List ℕ) → f y ≡ kept_lead s (reverse older) (kept_set (reverse older) a after) y) → r ≡ after_change c f x → r ≡ kept_lead s (reverse pending) (kept_set (reverse pending) a names) x
kept_step s f pending older c a names given after x r e g k t h q =
    q ∙ (λ i. after_change c (λ y. (h y ∙ ap (λ ns. kept_lead s (reverse older) (kept_set (reverse older) a ns) y) t) i) x)
    ∙ kept_newest s c (reverse older) a names x (ap (is_kept c (reverse older) a) (sym g) ∙ sym k) ∙ ap (λ cs. kept_lead s cs (kept_set cs a names) x) (newest_first pending older c e)
