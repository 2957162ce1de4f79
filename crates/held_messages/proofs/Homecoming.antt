-- What the whole of settling makes of contents, alone and beside other runs.
use Rattle.std.proofs.Common.{◌≡◌, inl, inr, ◌||◌, ℕ, ◌+◌, ◌≤◌, ◌<◌, ◌==◌, Bool, true, false, List, [], ◌∷◌, ◌++◌, Option, Some, None, Result, Ok, Err, refl, sym, ◌∙◌, ap, subst, arith, nat_lt, max, append-nil, append_assoc}
use Rattle.std.specs.Prelude.{is_some, decimal, if◌then◌else◌}
use Rattle.std.proofs.lemmas.Bool.Decides.{Decides-ltb, Decides-eqb}
use Rattle.mh_base.specs.Numbers.{IsMsgNum}
use Rattle.folder_files.specs.declared.place.Place.{Place}
use Rattle.folder_files.specs.declared.step.Step.TheVariants as step
use Rattle.folder_files.specs.declared.step.Answer.TheVariants as answer
use Rattle.file_plans.specs.Giving.{Gives}
use Rattle.file_plans.specs.Plan.{Hand, Return, bind, ◌>>=◌}
use Rattle.folder_files.proofs.Names.{or_case}
use Rattle.file_plans.specs.Contents.{Contents, is_at, with_text}
use Rattle.file_plans.specs.Views.{View, view_after, by_view}
use Rattle.step_plans.specs.Locking.{removed}
use Rattle.step_plans.specs.PlanFaults.{of_stop, Planned}
use Rattle.step_plans.specs.Replacing.{held_to, synced}
use Rattle.step_plans.specs.declared.fault.PlanFault.{PlanFault}
use Rattle.folder_files.proofs.Sameness.{place_is}
use Rattle.file_plans.proofs.Giving.{gives_on, gives_more}
use Rattle.file_plans.proofs.Onward.{fits_at, not_gone, not_gone_there}
use Rattle.file_plans.proofs.Viewing.{unlink_view, sync_folder_view}
use Rattle.held_messages.specs.declared.held.HeldPair.{HeldPair}
use Rattle.held_messages.specs.HeldPairs.{held_name, home_of, top_after, is_end, homes, numbers_in}
use Rattle.held_messages.specs.Settle.{homed, all_homed, dropped_one, dropped, or_before, last_put, synced_at, dropped_for_good, dropped_safely, settled_by, settle, given_in, linked_in, dropped_of, dropped_in, settled_in}
use Rattle.held_messages.proofs.ListedPairs.{IsPair, ArePairs, IsApart, AreApart}
use Rattle.held_messages.proofs.Linking.{Quits, number_apart, held_apart, same_decimal, AreListed, AreUnread, SeesOthers, IsEnd, with_end, WentHome, Homed, Has, homed_gives}

-- one end for each pair, each a number of messages where it is one
abbrev pub AreEnds : List HeldPair → List (Option ℕ) → Type 0
AreEnds [] [] = Unit {0}
AreEnds [] (end ∷ ends) = ⊥
AreEnds (h ∷ hs) [] = ⊥
AreEnds (h ∷ hs) (end ∷ ends) = IsEnd end × AreEnds hs ends

abbrev pub AllThere : Contents → Place → List HeldPair → Type 0
AllThere c p [] = Unit {0}
AllThere c p (h ∷ hs) = (is_some (c.texts p (held_name h)) ≡ true) × AllThere c p hs

-- which numbers have a message, and none above the highest
pub record AreTaken (c : Contents) (p : Place) (taken : ℕ → Bool) (top : ℕ) : Type 0 where
  pub told : (k : ℕ) → IsMsgNum k → taken k ≡ is_some (c.texts p (decimal k))
  pub below : (k : ℕ) → IsMsgNum k → taken k ≡ true → k ≤ top

pub numbers_more : (end : Option ℕ) (ends : List (Option ℕ)) (later : List ℕ) → with_end end (numbers_in ends later) ≡ numbers_in (end ∷ ends) later
unfolding numbers_in
numbers_more None ends later = refl
numbers_more (Some m) ends later = refl

none_at : (o : Option (List ℕ)) → is_some o ≡ false → o ≡ None
none_at None e = refl
none_at (Some t) e = cc

top_small : (end : Option ℕ) (top : ℕ) → IsEnd end → top ≤ 999999 → top_after end top ≤ 999999
top_small None top ok small = omega arith
top_small (Some m) top ok small = let l : m ≤ 999999 = ok.1 in omega (arith, l, small)

-- the number is taken from then on
given_taken : (c : Contents) (p : Place) (h : HeldPair) (taken : ℕ → Bool) (top : ℕ) (end : Option ℕ) → is_some (c.texts p (held_name h)) ≡ true → IsEnd end → AreTaken c p taken top → AreTaken (given_in c p h end) p (λ k. is_end k end || taken k) (top_after end top)
given_taken c p h taken top None some ok t = record { told = t.told; below = λ k good e. good.1 }
given_taken c p h taken top (Some m) some ok t = record { told = told; below = below }
  where
    told : (k : ℕ) → IsMsgNum k → (m == k) || taken k ≡ is_some (if is_at p (decimal m) p (decimal k) then c.texts p (held_name h) else c.texts p (decimal k))
    told k good = rw (place_is p, same_decimal m k ok good) (go (m == k))
      where
        go : (b : Bool) → b || taken k ≡ is_some (if b then c.texts p (held_name h) else c.texts p (decimal k))
        go true = sym some
        go false = t.told k good

    below : (k : ℕ) → IsMsgNum k → (m == k) || taken k ≡ true → k ≤ max m top
    below k good e = elim (or_case (m == k) (taken k) e) [
      | inl f ↦ (let same : m ≡ k = (Decides-eqb m k).0 f in omega (arith, same))
      | inr f ↦ (let l : k ≤ top = t.below k good f in omega (arith, l))
    ]

given_there : (c : Contents) (p : Place) (h k : HeldPair) (end : Option ℕ) → IsEnd end → IsPair k → (given_in c p h end).texts p (held_name k) ≡ c.texts p (held_name k)
given_there c p h k None ok is = refl
given_there c p h k (Some m) ok is = rw (place_is p, number_apart m ok k is) refl

pub all_given : (c : Contents) (p : Place) (h : HeldPair) (end : Option ℕ) → IsEnd end → (hs : List HeldPair) → ArePairs hs → AllThere c p hs → AllThere (given_in c p h end) p hs
all_given c p h end ok [] pairs all = tt
all_given c p h end ok (k ∷ hs) pairs all = (ap is_some (given_there c p h k end ok pairs.0) ∙ all.0, all_given c p h end ok hs pairs.1 all.1)

pub linked_held : (c : Contents) (p : Place) (hs : List HeldPair) (ends : List (Option ℕ)) → AreEnds hs ends → (k : HeldPair) → IsPair k → (linked_in c p hs ends).texts p (held_name k) ≡ c.texts p (held_name k)
unfolding linked_in
linked_held c p [] ends ok k is = refl
linked_held c p (h ∷ hs) [] ok k is = refl
linked_held c p (h ∷ hs) (end ∷ ends) ok k is = linked_held (given_in c p h end) p hs ends ok.1 k is ∙ given_there c p h k end ok.0 is

linked_all : (c : Contents) (p : Place) (ks : List HeldPair) (ends : List (Option ℕ)) → AreEnds ks ends → (hs : List HeldPair) → ArePairs hs → AllThere c p hs → AllThere (linked_in c p ks ends) p hs
linked_all c p ks ends ok [] pairs all = tt
linked_all c p ks ends ok (h ∷ hs) pairs all = (ap is_some (linked_held c p ks ends ok h pairs.0) ∙ all.0, linked_all c p ks ends ok hs pairs.1 all.1)

pub linked_place : (c : Contents) (p : Place) (hs : List HeldPair) (ends : List (Option ℕ)) → (linked_in c p hs ends).there ≡ c.there
unfolding linked_in
linked_place c p [] ends = refl
linked_place c p (h ∷ hs) [] = refl
linked_place c p (h ∷ hs) (None ∷ ends) = linked_place c p hs ends
linked_place c p (h ∷ hs) (Some m ∷ ends) = linked_place (given_in c p h (Some m)) p hs ends

pub dropped_place : (c : Contents) (p : Place) (hs : List HeldPair) (ends : List (Option ℕ)) → (dropped_in c p hs ends).there ≡ c.there
unfolding dropped_in
dropped_place c p [] ends = refl
dropped_place c p (h ∷ hs) [] = refl
dropped_place c p (h ∷ hs) (None ∷ ends) = dropped_place c p hs ends
dropped_place c p (h ∷ hs) (Some m ∷ ends) = dropped_place (with_text c p (held_name h) None) p hs ends

some_put : (ends : List (Option ℕ)) (m : ℕ) → last_put ends (Some m) ≡ None → ⊥
unfolding last_put
some_put [] m e = cc
some_put (None ∷ ends) m e = some_put ends m e
some_put (Some k ∷ ends) m e = some_put ends k e

none_dropped : (c : Contents) (p : Place) (hs : List HeldPair) (ends : List (Option ℕ)) → last_put ends None ≡ None → dropped_in c p hs ends ≡ c
unfolding dropped_in last_put
none_dropped c p [] ends e = refl
none_dropped c p (h ∷ hs) [] e = refl
none_dropped c p (h ∷ hs) (None ∷ ends) e = none_dropped c p hs ends e
none_dropped c p (h ∷ hs) (Some m ∷ ends) e = absurd (some_put ends m e)

-- all that were held went where they went
pub record WentAll (alone : Bool) (ns : List ℕ) (p : Place) (hs : List HeldPair) (c after : Contents) (v : View) (taken : ℕ → Bool) (top : ℕ) (ends : List (Option ℕ)) (z : View) : Type 0 where
  pub numbers : ns ≡ numbers_in ends z.numbers
  pub ends_so : AreEnds hs ends
  pub contents : z.contents ≡ after
  pub wanted : alone ≡ true → ends ≡ homes taken top hs
  pub listed : AreListed p z
  pub met : z.met ≡ v.met

-- behind the ends of those before
pub record WentOn (alone : Bool) (ns : List ℕ) (p : Place) (hs : List HeldPair) (c : Contents) (v : View) (taken : ℕ → Bool) (top : ℕ) (before all : List (Option ℕ)) (z : View) : Type 0 where
  pub ends : List (Option ℕ)
  pub all_so : all ≡ before ++ ends
  pub went : WentAll alone ns p hs c (linked_in c p hs ends) v taken top ends z

abbrev pub AllHomed : Bool → List ℕ → Place → List HeldPair → Contents → View → (ℕ → Bool) → ℕ → List (Option ℕ) → View → Hand → List ℕ → Result (List (Option ℕ)) PlanFault → Type 0
AllHomed alone ns p hs c v taken top before z j left (Ok all) = WentOn alone ns p hs c v taken top before all z
AllHomed alone ns p hs c v taken top before z j left (Err e) = Quits alone e

still_unread : (p : Place) (h : HeldPair) (v z : View) → SeesOthers p h v z → (hs : List HeldPair) → ArePairs hs → IsApart h hs → AreUnread p hs v → AreUnread p hs z
still_unread p h v z same [] pairs apart u = tt
still_unread p h v z same (k ∷ hs) pairs apart u = (same k pairs.0 apart.0 ∙ u.0, still_unread p h v z same hs pairs.1 apart.1 u.1)

module _ (alone : Bool) (p : Place) where
  abbrev AllGo : List HeldPair → Type 0
  AllGo hs = (ns : List ℕ) (top : ℕ) (taken : ℕ → Bool) (v : View) (c : Contents) (before : List (Option ℕ)) (j : Hand) (text : List ℕ) → Has ns v c → AreUnread p hs v → AreListed p v → top ≤ 999999
      → (alone ≡ true → AllThere c p hs × AreTaken c p taken top) → Gives (by_view alone) v j text (all_homed p hs top before) (AllHomed alone ns p hs c v taken top before)

  pub all_gives : (hs : List HeldPair) → ArePairs hs → AreApart hs → AllGo hs
  unfolding Gives all_homed linked_in homes numbers_in
  all_gives [] pairs apart ns top taken v c before j text has unread all small may = record {
    ends = [];
    all_so = sym (append-nil before);
    went = record { numbers = sym has.1; ends_so = tt; contents = has.0; wanted = λ e. refl; listed = all; met = refl };
  }
  all_gives (h ∷ hs) pairs apart ns top taken v c before j text has unread all small may =
      gives_on (by_view alone) v j text (homed p h top) (λ end. all_homed p hs (top_after end top) (before ++ end ∷ [])) (Homed alone ns p h c v want) (AllHomed alone ns p (h ∷ hs) c v taken top before)
      (homed_gives alone p h pairs.0 ns top (taken h.number) v c j text has unread.0 all small (λ e. ((may e).0.0, (may e).1.told h.number pairs.0.1, (may e).1.below h.number pairs.0.1, free e))) (after_one (all_gives hs pairs.1 apart.1)) (λ z i left e f. f)
    where
      want : Option ℕ
      want = home_of (taken h.number) top h.number

      free : alone ≡ true → nat_lt top 999999 ≡ true → c.texts p (decimal (top + 1)) ≡ None
      free e lt = none_at (c.texts p (decimal (top + 1))) (sym (t.told (top + 1) good) ∙ by (taken (top + 1)) refl)
        where
          t : AreTaken c p taken top
          t = (may e).1

          good : IsMsgNum (top + 1)
          good = (omega arith, (let l : top < 999999 = (Decides-ltb top 999999).0 lt in omega (arith, l)))

          by : (b : Bool) → taken (top + 1) ≡ b → b ≡ false
          by true f = (let l : top + 1 ≤ top = t.below (top + 1) good f in absurd (omega (arith, l)))
          by false f = refl

      after_one : AllGo hs → (z : View) (i : Hand) (left : List ℕ) (end : Option ℕ) → WentHome alone ns p h c v want end z → Gives (by_view alone) z i left (all_homed p hs (top_after end top) (before ++ end ∷ [])) (AllHomed alone ns p (h ∷ hs) c v taken top before)
      after_one more z i left end w =
          gives_more (by_view alone) z i left (all_homed p hs (top_after end top) (before ++ end ∷ [])) (AllHomed alone z.numbers p hs (given_in c p h end) z (λ k. is_end k end || taken k) (top_after end top) (before ++ end ∷ [])) (AllHomed alone ns p (h ∷ hs) c v taken top before)
          (more z.numbers (top_after end top) (λ k. is_end k end || taken k) z (given_in c p h end) (before ++ end ∷ []) i left (w.contents, refl) (still_unread p h v z w.others hs pairs.1 apart.0 unread.1) w.listed (top_small end top w.is_end small)
          (λ e. (all_given c p h end w.is_end hs pairs.1 (may e).0.1, given_taken c p h taken top end (may e).0.0 w.is_end (may e).1)))
          weaker
        where
          weaker : (y : View) (k : Hand) (rest : List ℕ) (r : Result (List (Option ℕ)) PlanFault) → AllHomed alone z.numbers p hs (given_in c p h end) z (λ k. is_end k end || taken k) (top_after end top) (before ++ end ∷ []) y k rest r → AllHomed alone ns p (h ∷ hs) c v taken top before y k rest r
          weaker y k rest (Ok all) g = record {
            ends = end ∷ g.ends;
            all_so = g.all_so ∙ append_assoc before (end ∷ []) g.ends;
            went = record {
              numbers = w.numbers ∙ (ap (with_end end) g.went.numbers ∙ numbers_more end g.ends y.numbers);
              ends_so = (w.is_end, g.went.ends_so);
              contents = g.went.contents;
              wanted = λ e. ap (λ x. end ∷ x) (g.went.wanted e) ∙ ap (λ x. x ∷ homes (λ k. is_end k x || taken k) (top_after x top) hs) (w.wanted e);
              listed = g.went.listed;
              met = g.went.met ∙ w.met;
            };
          }
          weaker y k rest (Err e) g = g

  -- the next view is this
  abbrev pub Steps : View → View → Hand → List ℕ → Result Unit PlanFault → Type 0
  Steps w z j left (Ok u) = z ≡ w
  Steps w z j left (Err e) = Quits alone e

  pub removed_is : (n : List ℕ) (v : View) (j : Hand) (text : List ℕ) → (alone ≡ true → is_some (v.contents.texts p n) ≡ true) → Gives (by_view alone) v j text (removed p n) (Steps (view_after v (step.Unlink p n) answer.Done))
  unfolding Gives removed
  removed_is n v j text there =
      unlink_view alone v of_stop j text (Steps (view_after v (step.Unlink p n) answer.Done)) p n (held_to p n) (λ f. refl)
      (λ f e. not_gone (v.contents.texts p n) (there e) (fits_at alone v.numbers v v.contents (step.Unlink p n) answer.Gone ((λ e. refl), refl) f e))

  pub synced_is : (m : ℕ) (v : View) (j : Hand) (text : List ℕ) → (alone ≡ true → v.contents.there p ≡ true) → Gives (by_view alone) v j text (synced_at p m) (Steps v)
  unfolding Gives synced
  synced_is m v j text there =
      sync_folder_view alone v of_stop j text (Steps v) p (held_to p (decimal m)) (λ f. refl)
      (λ f e. not_gone_there (v.contents.there p) (there e) (fits_at alone v.numbers v v.contents (step.SyncFolder p) answer.Gone ((λ e. refl), refl) f e))

  unlinked_listed : (h : HeldPair) → IsPair h → (v : View) → AreListed p v → AreListed p (view_after v (step.Unlink p (held_name h)) answer.Done)
  unlinked_listed h pair v all k good some = rw (place_is p, held_apart k good h pair) (all k good (rw (place_is p, held_apart k good h pair) at some))

  still_held : (c : Contents) (h : HeldPair) (hs : List HeldPair) → IsApart h hs → AllThere c p hs → AllThere (with_text c p (held_name h) None) p hs
  still_held c h [] apart all = tt
  still_held c h (k ∷ hs) apart all = (rw (place_is p, apart.0) all.0, still_held c h hs apart.1 all.1)

  abbrev pub Dropped : List ℕ → Contents → View → View → Hand → List ℕ → Result Unit PlanFault → Type 0
  Dropped ns after v z j left (Ok u) = Has ns z after × AreListed p z × (z.met ≡ v.met)
  Dropped ns after v z j left (Err e) = Quits alone e

  pub dropped_gives : (hs : List HeldPair) → ArePairs hs → AreApart hs → (ends : List (Option ℕ)) (v : View) (j : Hand) (text : List ℕ) → AreListed p v → (alone ≡ true → AllThere v.contents p hs)
      → Gives (by_view alone) v j text (dropped p hs ends) (Dropped v.numbers (dropped_in v.contents p hs ends) v)
  unfolding Gives dropped dropped_in bind ◌>>=◌
  dropped_gives [] pairs apart ends v j text all may = ((refl, refl), all, refl)
  dropped_gives (h ∷ hs) pairs apart [] v j text all may = ((refl, refl), all, refl)
  dropped_gives (h ∷ hs) pairs apart (None ∷ ends) v j text all may = dropped_gives hs pairs.1 apart.1 ends v j text all (λ e. (may e).1)
  dropped_gives (h ∷ hs) pairs apart (Some m ∷ ends) v j text all may =
      gives_on (by_view alone) v j text (removed p (held_name h)) (λ u. dropped p hs ends) (Steps w) (Dropped v.numbers (dropped_in w.contents p hs ends) v)
      (removed_is (held_name h) v j text (λ e. (may e).0))
      (λ z i left u is. subst (λ x. Gives (by_view alone) x i left (dropped p hs ends) (Dropped v.numbers (dropped_in w.contents p hs ends) v)) (sym is)
      (dropped_gives hs pairs.1 apart.1 ends w i left (unlinked_listed h pairs.0 v all) (λ e. still_held v.contents h hs apart.0 (may e).1)))
      (λ z i left e f. f)
    where
      w : View
      w = view_after v (step.Unlink p (held_name h)) answer.Done

  abbrev pub Settled : List ℕ → List HeldPair → Contents → View → (ℕ → Bool) → ℕ → View → Hand → List ℕ → Result (List (Option ℕ)) PlanFault → Type 0
  Settled ns hs c v taken top z j left (Ok ends) = WentAll alone ns p hs c (settled_in c p hs ends) v taken top ends z
  Settled ns hs c v taken top z j left (Err e) = Quits alone e

  module _ (hs : List HeldPair) (pairs : ArePairs hs) (apart : AreApart hs) (ns : List ℕ) (top : ℕ) (taken : ℕ → Bool) (v : View) (c : Contents) (may : alone ≡ true → (c.there p ≡ true) × AllThere c p hs) where
    module _ (z : View) (i : Hand) (left : List ℕ) (ends : List (Option ℕ)) (w : WentAll alone ns p hs c (linked_in c p hs ends) v taken top ends z) where
      there : alone ≡ true → z.contents.there p ≡ true
      there e = ap (λ (d : Contents). d.there p) w.contents ∙ ((λ x. linked_place c p hs ends x p) ∙ (may e).0)

      settled_there : (y : View) → y.contents ≡ dropped_in z.contents p hs ends → alone ≡ true → y.contents.there p ≡ true
      settled_there y same e = ap (λ (d : Contents). d.there p) same ∙ ((λ x. dropped_place z.contents p hs ends x p) ∙ there e)

      ended : (x : View) → Has z.numbers x (dropped_in z.contents p hs ends) × AreListed p x × (x.met ≡ z.met) → WentAll alone ns p hs c (settled_in c p hs ends) v taken top ends x
      ended x g = record { numbers = w.numbers ∙ ap (numbers_in ends) (sym g.0.1); ends_so = w.ends_so; contents = g.0.0 ∙ ap (λ d. dropped_in d p hs ends) w.contents; wanted = w.wanted; listed = g.1; met = g.2 ∙ w.met }

      module _ (m : ℕ) where
        abbrev Gone : View → Hand → List ℕ → Result Unit PlanFault → Type 0
        Gone x l more (Ok u) = WentAll alone ns p hs c (settled_in c p hs ends) v taken top ends x
        Gone x l more (Err e) = Quits alone e

        for_good : (k : Hand) (rest : List ℕ) → Gives (by_view alone) z k rest (dropped_for_good p hs ends m) Gone
        unfolding dropped_for_good
        for_good k rest =
            gives_on (by_view alone) z k rest (dropped p hs ends) (λ u. synced_at p m) (Dropped z.numbers (dropped_in z.contents p hs ends) z) Gone
            (dropped_gives hs pairs apart ends z k rest w.listed (λ e. subst (λ d. AllThere d p hs) (sym w.contents) (linked_all c p hs ends w.ends_so hs pairs (may e).1)))
            (λ x l more u g. gives_more (by_view alone) x l more (synced_at p m) (Steps x) Gone (synced_is m x l more (settled_there x g.0.0)) (kept x g))
            (λ x l more e f. f)
          where
            kept : (x : View) → Has z.numbers x (dropped_in z.contents p hs ends) × AreListed p x × (x.met ≡ z.met) → (q : View) (n : Hand) (last : List ℕ) (r : Result Unit PlanFault) → Steps x q n last r → Gone q n last r
            kept x g q n last (Ok u) same = subst (λ o. WentAll alone ns p hs c (settled_in c p hs ends) v taken top ends o) (sym same) (ended x g)
            kept x g q n last (Err e) f = f

        safely : Gives (by_view alone) z i left (dropped_safely p hs ends m) (Settled ns hs c v taken top)
        unfolding Gives dropped_safely
        safely =
            gives_on (by_view alone) z i left (synced_at p m) (λ u. dropped_for_good p hs ends m >>= (λ u. Return (Ok ends))) (Steps z) (Settled ns hs c v taken top) (synced_is m z i left there)
            (λ y k rest u is. subst (λ x. Gives (by_view alone) x k rest (dropped_for_good p hs ends m >>= (λ u. Return (Ok ends))) (Settled ns hs c v taken top)) (sym is)
            (gives_on (by_view alone) z k rest (dropped_for_good p hs ends m) (λ u. Return (Ok ends)) Gone (Settled ns hs c v taken top) (for_good k rest) (λ x l more u g. g) (λ x l more e f. f)))
            (λ y k rest e f. f)

      by : (o : Option ℕ) → last_put ends None ≡ o → Gives (by_view alone) z i left (settled_by p hs ends o) (Settled ns hs c v taken top)
      unfolding Gives
      by (Some m) e = safely m
      by None e = record { numbers = w.numbers; ends_so = w.ends_so; contents = w.contents ∙ sym (none_dropped (linked_in c p hs ends) p hs ends e); wanted = w.wanted; listed = w.listed; met = w.met }

    -- alone and beside other runs: what is held aside went where the answers say, alone where it goes alone
    pub settle_gives : (j : Hand) (text : List ℕ) → Has ns v c → AreUnread p hs v → AreListed p v → top ≤ 999999 → (alone ≡ true → AreTaken c p taken top) → Gives (by_view alone) v j text (settle p hs top) (Settled ns hs c v taken top)
    unfolding settle
    settle_gives j text has unread all small told =
        gives_on (by_view alone) v j text (all_homed p hs top []) (λ ends. settled_by p hs ends (last_put ends None)) (AllHomed alone ns p hs c v taken top []) (Settled ns hs c v taken top)
        (all_gives hs pairs apart ns top taken v c [] j text has unread all small (λ e. ((may e).1, told e)))
        (λ z i left all w. subst (λ ends. Gives (by_view alone) z i left (settled_by p hs ends (last_put ends None)) (Settled ns hs c v taken top)) (sym w.all_so) (by z i left w.ends w.went (last_put w.ends None) refl)) (λ z i left e f. f)
