-- What it makes of contents, alone and beside others, that messages change places.
use Rattle.std.proofs.Common.{◌≡◌, ◌<◌, ◌≤◌, ◌^◌, ◌++◌, ℕ, Bool, true, List, [], ◌∷◌, Option, Some, None, Result, Ok, Err, refl, sym, ◌∙◌, ap, subst}
use Rattle.std.specs.Prelude.{is_some}
use Rattle.std.specs.List.{last_or}
use Rattle.folder_files.specs.declared.place.Place.{Place}
use Rattle.file_plans.specs.Contents.{Contents}
use Rattle.file_plans.specs.Giving.{Gives}
use Rattle.file_plans.specs.Plan.{Hand, Return, ◌>>=◌}
use Rattle.file_plans.specs.Views.{View, by_view}
use Rattle.file_plans.proofs.Giving.{gives_more, gives_on}
use Rattle.step_plans.specs.Locking.{removed}
use Rattle.step_plans.specs.declared.fault.PlanFault.{PlanFault}
use Rattle.held_messages.specs.Settle.{dropped, dropped_in, linked_in, settled_in, synced_at}
use Rattle.held_messages.specs.declared.held.HeldPair.{HeldPair}
use Rattle.held_messages.proofs.Homecoming.{AllThere, AreEnds, Dropped, Steps, dropped_gives, dropped_place, linked_held, linked_place, synced_is}
use Rattle.held_messages.proofs.Linking.{AreListed, AreUnread, Has}
use Rattle.held_messages.proofs.ListedPairs.{ArePairs}
use Rattle.message_places.specs.Arranging.{all_dropped, all_given, all_taken, arranged, aside_name, dropped_for_good, dropped_safely, let_go_after, let_go_by}
use Rattle.message_places.specs.Places.{AreDistinct, AreMsgNums, froms, is_in, slots}
use Rattle.message_places.specs.declared.moves.Move.{Move}
use Rattle.message_places.proofs.AsideNames.{asides, asides_apart, asides_are, somes}
use Rattle.message_places.proofs.NumberLists.{in_head, in_tail}
use Rattle.message_places.proofs.SlotsGiven.{AllFree, AllGiven, Halts, SlotsEnd, quits_halts, slots_give}
use Rattle.message_places.proofs.TakenGiven.{AllStand, aside_held, aside_in, aside_listed, aside_seen, aside_there, stood_one, takes_give, took_all, took_contents, took_met, took_numbers}

-- the contents then
abbrev pub arranged_in : Contents → Place → ℕ → List ℕ → List Move → List ℕ → Contents
arranged_in c p run takes ms ends = settled_in (aside_in c p run takes) p (asides run (froms ms)) (somes ends)

last_some : (n : ℕ) (ns : List ℕ) → last_or (Some n) ns ≡ None → ⊥
last_some n [] e = cc
last_some n (m ∷ ns) e = last_some m ns e

pub last_none : (ns : List ℕ) → last_or None ns ≡ None → ns ≡ []
last_none [] e = refl
last_none (n ∷ ns) e = absurd (last_some n ns e)

none_dropped : (c : Contents) (p : Place) (hs : List HeldPair) (ends : List ℕ) → ends ≡ [] → dropped_in c p hs (somes ends) ≡ c
unfolding dropped_in
none_dropped c p [] ends e = refl
none_dropped c p (h ∷ hs) [] e = refl
none_dropped c p (h ∷ hs) (n ∷ ends) e = cc

-- what is linked stays under its held name
all_linked : (c : Contents) (p : Place) (ks : List HeldPair) (ends : List (Option ℕ)) → AreEnds ks ends → (hs : List HeldPair) → ArePairs hs → AllThere c p hs → AllThere (linked_in c p ks ends) p hs
all_linked c p ks ends are [] pairs all = tt
all_linked c p ks ends are (h ∷ hs) pairs all = (ap is_some (linked_held c p ks ends are h pairs.0) ∙ all.0, all_linked c p ks ends are hs pairs.1 all.1)

-- where each has an end, each held name is dropped
dropped_same : (run : ℕ) (p : Place) (ms : List Move) (ends : List ℕ) → AreEnds (asides run (froms ms)) (somes ends) → dropped p (asides run (froms ms)) (somes ends) ≡ all_dropped run p ms
unfolding dropped all_dropped
dropped_same run p [] [] are = refl
dropped_same run p [] (n ∷ ends) are = absurd are
dropped_same run p (m ∷ ms) [] are = absurd are
dropped_same run p (m ∷ ms) (n ∷ ends) are = λ i. removed p (aside_name run m.from) >>= (λ u. dropped_same run p ms ends are.1 i)

-- The folder, the numbers that are taken, each with a message, and the moves, each of a number that is taken; what is seen, and what stands there.
module _ (alone : Bool) (p : Place) (run : ℕ) (few : run < 2 ^ 128) (takes : List ℕ) (ok : AreMsgNums takes) (distinct : AreDistinct takes) (ms : List Move) (fs : AreMsgNums (froms ms)) (fd : AreDistinct (froms ms)) (ss : AreMsgNums (slots ms))
    (among : (k : ℕ) → is_in k (froms ms) ≡ true → is_in k takes ≡ true) (ns : List ℕ) (v : View) (c : Contents) (has : Has ns v c) (all : AreListed p v) (stand : AllStand c p takes) where
  abbrev hs : List HeldPair
  hs = asides run (froms ms)

  abbrev c1 : Contents
  c1 = aside_in c p run takes

  abbrev v1 : View
  v1 = took_all v p run takes

  pairs_are : (ks : List ℕ) → AreMsgNums ks → ((k : ℕ) → is_in k ks ≡ true → is_in k takes ≡ true) → AreUnread p (asides run ks) v1 × AllThere c1 p (asides run ks)
  pairs_are [] good sub = (tt, tt)
  pairs_are (n ∷ ks) good sub =
      let more = pairs_are ks good.1 (λ k e. sub k (in_tail n k ks e)) in
      let taken : is_in n takes ≡ true = sub n (in_head n ks) in
      ((aside_seen p run few takes ok distinct v all (subst (λ d. AllStand d p takes) (sym has.0) stand) n good.0 taken, more.0), (ap is_some (aside_held p run few takes ok distinct c n good.0 taken) ∙ stood_one c p takes stand n taken, more.1))

  has1 : Has ns v1 c1
  has1 = (took_contents p run takes v ∙ ap (λ d. aside_in d p run takes) has.0, took_numbers p run takes v ∙ has.1)

  -- what stands at the end: just that depends on where the moves ended, alone and beside others; and alone they end at their slots
  pub record ArrangedAt (ends : List ℕ) (z : View) : Type 0 where
    pub numbers : ns ≡ ends ++ z.numbers
    pub are : AreEnds hs (somes ends)
    pub contents : z.contents ≡ arranged_in c p run takes ms ends
    pub at_slots : alone ≡ true → ends ≡ slots ms
    pub listed : AreListed p z
    pub met : z.met ≡ v.met

  abbrev pub Arranged : View → Hand → List ℕ → Result (List ℕ) PlanFault → Type 0
  Arranged z j left (Ok ends) = ArrangedAt ends z
  Arranged z j left (Err e) = Halts alone e

  module _ (may : alone ≡ true → (c.there p ≡ true) × AllFree c1 p (slots ms) × AreDistinct (slots ms)) where
    -- once all were given a number
    module _ (ends : List ℕ) (z : View) (g : SlotsEnd alone p run few ns ms c1 v1 ends z) where
      there_now : alone ≡ true → z.contents.there p ≡ true
      there_now e = ap (λ (d : Contents). d.there p) g.contents ∙ ((λ i. linked_place c1 p hs (somes ends) i p) ∙ ((λ i. aside_there p run few takes ok c i p) ∙ (may e).0))

      abbrev gone_in : Contents
      gone_in = dropped_in z.contents p hs (somes ends)

      abbrev Gone : View → Type 0
      Gone x = Has z.numbers x gone_in × AreListed p x × (x.met ≡ z.met)

      ended : (x : View) → Gone x → ArrangedAt ends x
      ended x f = record {
        numbers = g.numbers ∙ ap (λ ms. ends ++ ms) (sym f.0.1);
        are = g.are;
        contents = f.0.0 ∙ ap (λ d. dropped_in d p hs (somes ends)) g.contents;
        at_slots = g.at_slots;
        listed = f.1;
        met = f.2 ∙ (g.met ∙ took_met p run takes v);
      }

      abbrev Left : View → Hand → List ℕ → Result Unit PlanFault → Type 0
      Left x j left (Ok u) = ArrangedAt ends x
      Left x j left (Err e) = Halts alone e

      drops_give : (j : Hand) (text : List ℕ) → Gives (by_view alone) z j text (all_dropped run p ms) (Dropped alone p z.numbers gone_in z)
      drops_give j text =
          subst (λ q. Gives (by_view alone) z j text q (Dropped alone p z.numbers gone_in z)) (dropped_same run p ms ends g.are)
          (dropped_gives alone p hs (asides_are run few (froms ms) fs) (asides_apart run few (froms ms) fs fd) (somes ends) z j text g.listed
          (λ e. subst (λ d. AllThere d p hs) (sym g.contents) (all_linked c1 p hs (somes ends) g.are hs (asides_are run few (froms ms) fs) (pairs_are (froms ms) fs among).1)))

      for_good : (n : ℕ) (j : Hand) (text : List ℕ) → Gives (by_view alone) z j text (dropped_for_good run p ms n) Left
      unfolding dropped_for_good
      for_good n j text =
          gives_on (by_view alone) z j text (all_dropped run p ms) (λ u. synced_at p n) (Dropped alone p z.numbers gone_in z) Left (drops_give j text)
          (λ x i rest u f. gives_more (by_view alone) x i rest (synced_at p n) (Steps alone p x) Left (synced_is alone p n x i rest (there_still x f.0.0)) (kept x f))
          (λ x i rest e f. quits_halts alone e f)
        where
          there_still : (x : View) → x.contents ≡ gone_in → alone ≡ true → x.contents.there p ≡ true
          there_still x same e = ap (λ (d : Contents). d.there p) same ∙ ((λ i. dropped_place z.contents p hs (somes ends) i p) ∙ there_now e)

          kept : (x : View) → Gone x → (y : View) (k : Hand) (last : List ℕ) (r : Result Unit PlanFault) → Steps alone p x y k last r → Left y k last r
          kept x f y k last (Ok u) same = subst (λ o. ArrangedAt ends o) (sym same) (ended x f)
          kept x f y k last (Err e) q = quits_halts alone e q

      safely : (n : ℕ) (j : Hand) (text : List ℕ) → Gives (by_view alone) z j text (dropped_safely run p ms n) Left
      unfolding dropped_safely
      safely n j text =
          gives_on (by_view alone) z j text (synced_at p n) (λ u. dropped_for_good run p ms n) (Steps alone p z) Left (synced_is alone p n z j text there_now)
          (λ y i rest u is. subst (λ x. Gives (by_view alone) x i rest (dropped_for_good run p ms n) Left) (sym is) (for_good n i rest)) (λ y i rest e f. quits_halts alone e f)

      let_go_gives : (o : Option ℕ) → last_or None ends ≡ o → (j : Hand) (text : List ℕ) → Gives (by_view alone) z j text (let_go_by run p ms o) Left
      unfolding Gives
      let_go_gives (Some n) e j text = safely n j text
      let_go_gives None e j text = ended z ((sym (none_dropped z.contents p hs ends (last_none ends e)), refl), g.listed, refl)

    -- alone and beside others: the moves end where the answers say, alone at their slots
    pub arranged_gives : (top : ℕ) → top ≤ 999999 → (j : Hand) (text : List ℕ) → Gives (by_view alone) v j text (arranged run p takes ms top) Arranged
    unfolding Gives arranged
    arranged_gives top small j text =
        gives_on (by_view alone) v j text (all_taken run p takes) (λ u. all_given run p ms top [] >>= (λ ends. let_go_after run p ms ends >>= (λ u. Return (Ok ends)))) (Steps alone p v1) Arranged
        (takes_give p run few alone takes ok distinct v j text (subst (λ d. AllStand d p takes) (sym has.0) stand))
        (λ z i left u is. subst (λ x. Gives (by_view alone) x i left (all_given run p ms top [] >>= (λ ends. let_go_after run p ms ends >>= (λ u. Return (Ok ends)))) Arranged) (sym is)
        (gives_on (by_view alone) v1 i left (all_given run p ms top []) (λ ends. let_go_after run p ms ends >>= (λ u. Return (Ok ends))) (AllGiven alone p run few ns ms c1 v1 []) Arranged
        (slots_give alone p run few ms fs ss fd ns top v1 c1 [] i left has1 (pairs_are (froms ms) fs among).0 (aside_listed p run few takes ok v all) small (λ e. ((pairs_are (froms ms) fs among).1, (may e).1, (may e).2)))
        (λ y k rest ends f.
        subst (λ es. Gives (by_view alone) y k rest (let_go_after run p ms es >>= (λ u. Return (Ok es))) Arranged) (sym f.all_so)
        (gives_on (by_view alone) y k rest (let_go_after run p ms f.ends) (λ u. Return (Ok f.ends)) (Left f.ends y f.gave) Arranged (let_go_gives f.ends y f.gave (last_or None f.ends) refl k rest) (λ x l more u q. q) (λ x l more e q. q)))
        (λ y k rest e f. f)))
        (λ z i left e f. quits_halts alone e f)
