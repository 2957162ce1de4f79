-- What it makes of contents, alone and beside others, that messages which are held aside are given their slots.
use Rattle.std.proofs.Common.{◌≡◌, ◌+◌, ◌-◌, ◌<◌, ◌≤◌, ◌^◌, ◌==◌, ◌++◌, max, ℕ, Bool, true, false, List, [], ◌∷◌, Option, Some, None, Result, Ok, Err, refl, sym, ◌∙◌, ap, arith, append-nil, append_assoc}
use Rattle.std.specs.Prelude.{decimal, is_some}
use Rattle.mh_base.specs.Numbers.{IsMsgNum}
use Rattle.folder_files.specs.declared.place.Place.{Place}
use Rattle.folder_files.specs.declared.step.Answer.TheVariants as answer
use Rattle.folder_files.specs.declared.step.Step.TheVariants as step
use Rattle.folder_files.proofs.Names.{or_false}
use Rattle.folder_files.proofs.Sameness.{place_is}
use Rattle.file_plans.specs.Asking.{link}
use Rattle.file_plans.specs.Contents.{Contents}
use Rattle.file_plans.specs.Giving.{Gives}
use Rattle.file_plans.specs.Plan.{Hand, ask, bind, lifted, ◌>>=◌}
use Rattle.file_plans.specs.Views.{Listed, View, by_view, fits_view, view_after}
use Rattle.file_plans.proofs.Giving.{gives_more, gives_on}
use Rattle.file_plans.proofs.Onward.{fits_at, not_linked_gone}
use Rattle.file_plans.proofs.Viewing.{link_view}
use Rattle.step_plans.specs.PlanFaults.{of_stop}
use Rattle.step_plans.specs.declared.fault.PlanFault.{PlanFault}
use Rattle.step_plans.specs.declared.fault.PlanFault.TheVariants as fault
use Rattle.held_messages.specs.HeldPairs.{held_name}
use Rattle.held_messages.specs.Settle.{given_at, given_from, given_in, given_up, homed_name, linked_in}
use Rattle.held_messages.specs.declared.held.HeldPair.{HeldPair}
use Rattle.held_messages.proofs.Homecoming.{AllThere, AreEnds, all_given}
use Rattle.held_messages.proofs.Linking.{AreListed, AreUnread, Has, Homed, Quits, SeesOthers, WentHome, is_so, not_linked_exists, number_apart, same_decimal, up_gives}
use Rattle.held_messages.proofs.ListedPairs.{ArePairs, IsApart, IsPair}
use Rattle.message_puts.specs.Putting.{number_got}
use Rattle.message_places.specs.Arranging as plan
use Rattle.message_places.specs.Places.{AreDistinct, AreMsgNums, froms, is_in, slots}
use Rattle.message_places.specs.declared.moves.Move.{Move}
use Rattle.message_places.proofs.AsideNames.{apart_from, aside_of, asides, asides_are, somes}
use Rattle.message_places.proofs.NumberLists.{num_turned}

-- a part ends early only where a name was taken away meanwhile, or no number is free: so never alone
abbrev pub Halts : Bool → PlanFault → Type 0
Halts alone fault.Faulted = ⊥
Halts alone (fault.Locked p) = ⊥
Halts alone (fault.Meddled p n) = alone ≡ true → ⊥
Halts alone fault.Full = alone ≡ true → ⊥
Halts alone (fault.Absent p) = ⊥
Halts alone (fault.TooLarge l) = ⊥
Halts alone fault.Memory = ⊥

pub quits_halts : (alone : Bool) (e : PlanFault) → Quits alone e → Halts alone e
quits_halts alone fault.Faulted f = f
quits_halts alone (fault.Locked p) f = f
quits_halts alone (fault.Meddled p n) f = f
quits_halts alone fault.Full f = absurd f
quits_halts alone (fault.Absent p) f = f
quits_halts alone (fault.TooLarge l) f = f
quits_halts alone fault.Memory f = f

-- one held message, and a slot that alone is free
module _ (alone : Bool) (p : Place) (h : HeldPair) (pair : IsPair h) (slot : ℕ) (ok : IsMsgNum slot) (ns : List ℕ) (v : View) (c : Contents) (has : Has ns v c) (unread : v.seen.names p (held_name h) ≡ Listed) (all : AreListed p v)
    (may : alone ≡ true → (is_some (c.texts p (held_name h)) ≡ true) × (c.texts p (decimal slot) ≡ None)) where
  abbrev held : List ℕ
  held = held_name h

  abbrev met : View
  met = view_after v (step.Link p held (decimal slot)) answer.Exists

  one_try : (j : Hand) (text : List ℕ) → Gives (by_view alone) v j text (given_up p held slot 1) (Homed alone ns p h c v (Some slot))
  one_try j text = up_gives alone p h pair ns 1 slot v c (Some slot) j text (ok.0, (let l = ok.1 in omega (arith, l))) has unread all (λ e. ((may e).0, (refl, (may e).1)))

  linked_there : (j : Hand) (text : List ℕ) → fits_view alone v (step.Link p held (decimal slot)) answer.Done → WentHome alone ns p h c v (Some slot) (Some slot) (view_after v (step.Link p held (decimal slot)) answer.Done)
  unfolding Gives given_up link ask lifted bind ◌>>=◌
  linked_there j text f = one_try j text answer.Done tt (λ e. cc (e)) f

  met_there : (j : Hand) (text : List ℕ) → fits_view alone v (step.Link p held (decimal slot)) answer.Exists → WentHome alone ns p h c v (Some slot) None met
  unfolding Gives given_up link ask lifted bind ◌>>=◌
  met_there j text f = one_try j text answer.Exists tt (λ e. cc (e)) f

  free : fits_view alone v (step.Link p held (decimal slot)) answer.Exists → alone ≡ true → ⊥
  free f e = not_linked_exists (c.texts p held) (c.texts p (decimal slot)) (may e).1 (fits_at alone ns v c (step.Link p held (decimal slot)) answer.Exists (is_so alone ns v c has) f e)

  -- what was seen before and after a number that was met
  since_met : WentHome alone ns p h c v (Some slot) None met → (z : View) (j : Hand) (left : List ℕ) (r : Result (Option ℕ) PlanFault) → Homed alone ns p h c met (Some slot) z j left r → Homed alone ns p h c v (Some slot) z j left r
  since_met w z j left (Ok end) g = record { numbers = g.numbers; is_end = g.is_end; contents = g.contents; wanted = g.wanted; listed = g.listed; others = λ k good off. g.others k good off ∙ w.others k good off; met = g.met ∙ w.met }
  since_met w z j left (Err e) g = g

  still_unread : met.seen.names p held ≡ Listed
  still_unread = rw (number_apart slot ok h pair, place_is p) unread

  slot_gives : (top : ℕ) → top ≤ 999999 → (j : Hand) (text : List ℕ) → Gives (by_view alone) v j text (homed_name p held slot top) (Homed alone ns p h c v (Some slot))
  unfolding Gives
  slot_gives top small j text =
      link_view alone v of_stop j text (Homed alone ns p h c v (Some slot)) p held (decimal slot) (λ a. given_at p held slot a (given_from p held (max slot top + 1)))
      (λ f. linked_there j text f)
      (λ f. let w = met_there j text f in
      gives_more (by_view alone) met j text (given_from p held (max slot top + 1)) (Homed alone ns p h c met (Some slot)) (Homed alone ns p h c v (Some slot))
      (up_gives alone p h pair ns (1000000 - (max slot top + 1)) (max slot top + 1) met c (Some slot) j text (omega arith, (let l = ok.1 in omega (arith, l, small))) (w.contents, sym w.numbers) still_unread w.listed (λ e. absurd (free f e)))
      (since_met w))
      (λ f e. not_linked_gone (c.texts p held) (c.texts p (decimal slot)) (may e).0 (fits_at alone ns v c (step.Link p held (decimal slot)) answer.Gone (is_so alone ns v c has) f e))

-- alone it ends at its slot
abbrev pub EndsAt : Bool → List ℕ → Place → HeldPair → Contents → View → ℕ → View → Hand → List ℕ → Result ℕ PlanFault → Type 0
EndsAt alone ns p h c v slot z j left (Ok m) = WentHome alone ns p h c v (Some slot) (Some m) z
EndsAt alone ns p h c v slot z j left (Err e) = Halts alone e

none_some : (n : ℕ) → None ≡ Some n → ⊥
none_some n e = cc (e)

some_same : (n m : ℕ) → Some n ≡ Some m → n ≡ m
some_same n m e = cc

-- these numbers are free
abbrev pub AllFree : Contents → Place → List ℕ → Type 0
AllFree c p [] = Unit {0}
AllFree c p (s ∷ ss) = (c.texts p (decimal s) ≡ None) × AllFree c p ss

module _ (alone : Bool) (p : Place) (run : ℕ) (few : run < 2 ^ 128) where
  given_gives : (m : Move) → IsMsgNum m.from → IsMsgNum m.slot → (ns : List ℕ) (v : View) (c : Contents) → Has ns v c → v.seen.names p (plan.aside_name run m.from) ≡ Listed → AreListed p v
      → (alone ≡ true → (is_some (c.texts p (plan.aside_name run m.from)) ≡ true) × (c.texts p (decimal m.slot) ≡ None))
      → (top : ℕ) → top ≤ 999999 → (j : Hand) (text : List ℕ) → Gives (by_view alone) v j text (plan.given run p m top) (EndsAt alone ns p (aside_of run m.from) c v m.slot)
  unfolding Gives plan.given
  given_gives m one slot ns v c has unread all may top small j text =
      gives_on (by_view alone) v j text (homed_name p (held_name h) m.slot top) number_got (Homed alone ns p h c v (Some m.slot)) (EndsAt alone ns p h c v m.slot)
      (slot_gives alone p h (few, one) m.slot slot ns v c has unread all may top small j text) ended (λ z i left e f. quits_halts alone e f)
    where
      h : HeldPair
      h = aside_of run m.from

      ended : (z : View) (i : Hand) (left : List ℕ) (end : Option ℕ) → WentHome alone ns p h c v (Some m.slot) end z → Gives (by_view alone) z i left (number_got end) (EndsAt alone ns p h c v m.slot)
      ended z i left None g = λ e. none_some m.slot (g.wanted e)
      ended z i left (Some k) g = g

  -- each went to a number, alone to its slot; and nothing else is changed
  pub record SlotsEnd (ns : List ℕ) (ms : List Move) (c : Contents) (v : View) (ends : List ℕ) (z : View) : Type 0 where
    pub numbers : ns ≡ ends ++ z.numbers
    pub are : AreEnds (asides run (froms ms)) (somes ends)
    pub contents : z.contents ≡ linked_in c p (asides run (froms ms)) (somes ends)
    pub at_slots : alone ≡ true → ends ≡ slots ms
    pub listed : AreListed p z
    pub met : z.met ≡ v.met

  -- behind those before
  pub record GaveOn (ns : List ℕ) (ms : List Move) (c : Contents) (v : View) (before all : List ℕ) (z : View) : Type 0 where
    pub ends : List ℕ
    pub all_so : all ≡ before ++ ends
    pub gave : SlotsEnd ns ms c v ends z

  abbrev pub AllGiven : List ℕ → List Move → Contents → View → List ℕ → View → Hand → List ℕ → Result (List ℕ) PlanFault → Type 0
  AllGiven ns ms c v before z j left (Ok all) = GaveOn ns ms c v before all z
  AllGiven ns ms c v before z j left (Err e) = Halts alone e

  unread_still : (h : HeldPair) (v z : View) → SeesOthers p h v z → (hs : List HeldPair) → ArePairs hs → IsApart h hs → AreUnread p hs v → AreUnread p hs z
  unread_still h v z same [] pairs off u = tt
  unread_still h v z same (k ∷ hs) pairs off u = (same k pairs.0 off.0 ∙ u.0, unread_still h v z same hs pairs.1 off.1 u.1)

  still_free : (c : Contents) (h : HeldPair) (m : ℕ) → IsMsgNum m → (ss : List ℕ) → AreMsgNums ss → is_in m ss ≡ false → AllFree c p ss → AllFree (given_in c p h (Some m)) p ss
  still_free c h m ok [] good e free = tt
  still_free c h m ok (s ∷ ss) good e free = let o = or_false (s == m) (is_in m ss) e in (rw (place_is p, same_decimal m s ok good.0, num_turned s m o.0) free.0, still_free c h m ok ss good.1 o.1 free.1)

  -- alone their held names are there, and their slots are free, each another
  abbrev pub Ready : List Move → Contents → Type 0
  Ready ms c = AllThere c p (asides run (froms ms)) × AllFree c p (slots ms) × AreDistinct (slots ms)

  ready_next : (m : Move) (ms : List Move) → AreMsgNums (froms ms) → AreMsgNums (slots ms) → (c : Contents) (n : ℕ) → IsMsgNum n → n ≡ m.slot → Ready (m ∷ ms) c → Ready ms (given_in c p (aside_of run m.from) (Some n))
  ready_next m ms fs ss c n ok same r =
      (all_given c p (aside_of run m.from) (Some n) ok (asides run (froms ms)) (asides_are run few (froms ms) fs) r.0.1, still_free c (aside_of run m.from) n ok (slots ms) ss (ap (λ x. is_in x (slots ms)) same ∙ r.2.0) r.1.1, r.2.1)

  pub slots_give : (ms : List Move) → AreMsgNums (froms ms) → AreMsgNums (slots ms) → AreDistinct (froms ms) → (ns : List ℕ) (top : ℕ) (v : View) (c : Contents) (before : List ℕ) (j : Hand) (text : List ℕ)
      → Has ns v c → AreUnread p (asides run (froms ms)) v → AreListed p v → top ≤ 999999 → (alone ≡ true → Ready ms c) → Gives (by_view alone) v j text (plan.all_given run p ms top before) (AllGiven ns ms c v before)
  unfolding Gives plan.all_given linked_in
  slots_give [] fs ss d ns top v c before j text has unread all small may = record {
    ends = [];
    all_so = sym (append-nil before);
    gave = record { numbers = sym has.1; are = tt; contents = has.0; at_slots = λ e. refl; listed = all; met = refl };
  }
  slots_give (m ∷ ms) fs ss d ns top v c before j text has unread all small may =
      gives_on (by_view alone) v j text (plan.given run p m top) (λ end. plan.all_given run p ms (max end top) (before ++ end ∷ [])) (EndsAt alone ns p h c v m.slot) (AllGiven ns (m ∷ ms) c v before)
      (given_gives m fs.0 ss.0 ns v c has unread.0 all (λ e. ((may e).0.0, (may e).1.0)) top small j text)
      (λ z i left n g.
      gives_more (by_view alone) z i left (plan.all_given run p ms (max n top) (before ++ n ∷ [])) (AllGiven z.numbers ms (given_in c p h (Some n)) z (before ++ n ∷ [])) (AllGiven ns (m ∷ ms) c v before)
      (slots_give ms fs.1 ss.1 d.1 z.numbers (max n top) z (given_in c p h (Some n)) (before ++ n ∷ []) i left (g.contents, refl)
      (unread_still h v z g.others (asides run (froms ms)) (asides_are run few (froms ms) fs.1) (apart_from run few m.from fs.0 (froms ms) fs.1 d.0) unread.1) g.listed (let l = g.is_end.1 in omega (arith, l, small))
      (λ e. ready_next m ms fs.1 ss.1 c n g.is_end (some_same n m.slot (g.wanted e)) (may e)))
      (longer n z g))
      (λ z i left e f. f)
    where
      h : HeldPair
      h = aside_of run m.from

      longer : (n : ℕ) (z : View) → WentHome alone ns p h c v (Some m.slot) (Some n) z → (y : View) (k : Hand) (rest : List ℕ) (r : Result (List ℕ) PlanFault) → AllGiven z.numbers ms (given_in c p h (Some n)) z (before ++ n ∷ []) y k rest r → AllGiven ns (m ∷ ms) c v before y k rest r
      longer n z g y k rest (Ok all_) f = record {
        ends = n ∷ f.ends;
        all_so = f.all_so ∙ append_assoc before (n ∷ []) f.ends;
        gave = record {
          numbers = g.numbers ∙ ap (λ x. n ∷ x) f.gave.numbers;
          are = (g.is_end, f.gave.are);
          contents = f.gave.contents;
          at_slots = λ e. ap (λ x. x ∷ f.ends) (some_same n m.slot (g.wanted e)) ∙ ap (λ x. m.slot ∷ x) (f.gave.at_slots e);
          listed = f.gave.listed;
          met = f.gave.met ∙ g.met;
        };
      }
      longer n z g y k rest (Err e) f = f
