-- What it gives alone that messages come to stand at other numbers.
use Rattle.std.proofs.Common.{◌≡◌, ◌<◌, ◌≤◌, ◌^◌, ℕ, Bool, true, false, List, [], ◌∷◌, Some, None, Result, Ok, Err, refl, sym, ◌∙◌, ap, subst, bytes_eq}
use Rattle.std.specs.Prelude.{decimal, is_some}
use Rattle.mh_base.specs.Entries.{kind_of}
use Rattle.folder_files.specs.Named.{is_held, is_number, is_temp}
use Rattle.folder_files.specs.declared.place.Place.{Place}
use Rattle.folder_files.specs.declared.place.Place.TheVariants.{Folder, Mail}
use Rattle.folder_files.proofs.Names.{bytes_true, is_temp_unheld, is_temp_unnumbered, not_both}
use Rattle.folder_files.proofs.Sameness.{place_is}
use Rattle.file_plans.specs.Contents.{Contents, mailbox_in, with_text}
use Rattle.file_plans.specs.Giving.{Gives}
use Rattle.file_plans.specs.Mailboxes.{Folder as FolderValue}
use Rattle.file_plans.specs.Plan.{Hand}
use Rattle.file_plans.specs.Views.{Hidden, Listed, Seen, View, by_view}
use Rattle.file_plans.proofs.Giving.{gives_more}
use Rattle.file_plans.proofs.Onward.{Is}
use Rattle.file_plans.proofs.Showing.{foreign}
use Rattle.step_plans.specs.ContextCommit.{context_name}
use Rattle.step_plans.specs.declared.fault.PlanFault.{PlanFault}
use Rattle.step_plans.specs.declared.fault.PlanFault.TheVariants as fault
use Rattle.held_messages.specs.HeldPairs.{held_name, with_folder_changed}
use Rattle.held_messages.specs.Settle.{dropped_in, given_in, linked_in, settled_in}
use Rattle.held_messages.specs.declared.held.HeldPair.{HeldPair}
use Rattle.held_messages.proofs.Homecoming.{AreEnds, dropped_place, linked_place}
use Rattle.held_messages.proofs.ListedPairs.{ArePairs, IsPair, held_kind}
use Rattle.opening_plans.proofs.KeptGiven.{IsClear}
use Rattle.message_places.specs.Arranging.{arranged}
use Rattle.message_places.specs.Places.{AreDistinct, AreMsgNums, froms, is_in, rearranged, slots}
use Rattle.message_places.specs.declared.moves.Move.{Move}
use Rattle.message_places.proofs.ArrangedGiven as giving
use Rattle.message_places.proofs.ArrangedGiven.{arranged_gives, arranged_in}
use Rattle.message_places.proofs.ArrangedShown.{shows_arranged, slots_free}
use Rattle.message_places.proofs.AsideNames.{aside_of, asides, asides_are, names_one, somes}
use Rattle.message_places.proofs.NumberLists.{in_head, in_tail}
use Rattle.message_places.proofs.SlotsGiven.{Halts}
use Rattle.message_places.proofs.TakenGiven.{AllStand, aside_foreign, aside_in, aside_there}
use Rattle.refile_plans.proofs.ViewsAlike.{gives_alike}
use Rattle.sortm_plans.proofs.Cleared.{aside_cleared, cleared, cleared_free, shows_cleared, unheld}
use Rattle.sortm_plans.proofs.HandSame.{arranged_same}
use Rattle.held_messages.proofs.Shown.{changed_twice}

-- other names of the folder stay as they are
linked_foreign : (p : Place) (hs : List HeldPair) (ends : List ℕ) → AreEnds hs (somes ends) → (c : Contents) (x : List ℕ) → is_number (kind_of x) ≡ false → (linked_in c p hs (somes ends)).texts p x ≡ c.texts p x
unfolding linked_in
linked_foreign p [] ends e c x other = refl
linked_foreign p (h ∷ hs) [] e c x other = absurd e
linked_foreign p (h ∷ hs) (y ∷ ends) e c x other = linked_foreign p hs ends e.1 (given_in c p h (Some y)) x other ∙ rw (place_is p, foreign y e.0 x other) refl

unheld_name : (h : HeldPair) → IsPair h → (x : List ℕ) → is_held (kind_of x) ≡ false → bytes_eq (held_name h) x ≡ false
unheld_name h ok x other = go (bytes_eq (held_name h) x) refl
  where
    go : (b : Bool) → bytes_eq (held_name h) x ≡ b → b ≡ false
    go true e = absurd (not_both (is_held (kind_of x)) (subst (λ z. is_held (kind_of z) ≡ true) (bytes_true (held_name h) x e) (rw (held_kind h ok) refl)) other)
    go false e = refl

dropped_other : (p : Place) (hs : List HeldPair) → ArePairs hs → (ends : List ℕ) → AreEnds hs (somes ends) → (c : Contents) (x : List ℕ) → is_held (kind_of x) ≡ false → (dropped_in c p hs (somes ends)).texts p x ≡ c.texts p x
unfolding dropped_in
dropped_other p [] pairs ends e c x other = refl
dropped_other p (h ∷ hs) pairs [] e c x other = absurd e
dropped_other p (h ∷ hs) pairs (y ∷ ends) e c x other = dropped_other p hs pairs.1 ends e.1 (with_text c p (held_name h) None) x other ∙ rw (place_is p, unheld_name h pairs.0 x other) refl

all_stand : (c : Contents) (p : Place) (ns : List ℕ) → ((k : ℕ) → is_in k ns ≡ true → is_some (c.texts p (decimal k)) ≡ true) → AllStand c p ns
all_stand c p [] f = tt
all_stand c p (n ∷ ns) f = (f n (in_head n ns), all_stand c p ns (λ k e. f k (in_tail n k ns e)))

-- a view that has seen of each name that it is there
abbrev all_listed : Seen
all_listed = record { names = λ q x. Listed; places = λ q. false; files = λ f. Hidden }

-- moves of different messages of a folder, to different numbers; these numbers are taken, and the folder is so then
module _ (run : ℕ) (few : run < 2 ^ 128) (path folder : List ℕ) (takes : List ℕ) (good_takes : AreMsgNums takes) (takes_distinct : AreDistinct takes) (ms : List Move) (good_froms : AreMsgNums (froms ms)) (froms_distinct : AreDistinct (froms ms))
    (good_slots : AreMsgNums (slots ms)) (slots_distinct : AreDistinct (slots ms)) (just : (k : ℕ) → is_in k (froms ms) ≡ is_in k takes) (moves : FolderValue → FolderValue)
    (alike_moves : (f : FolderValue) → rearranged ms (slots ms) (unheld run takes f) ≡ moves f) where
  abbrev p : Place
  p = Folder path folder

  abbrev moved : Contents → Contents
  moved c = arranged_in c p run takes ms (slots ms)

  module _ (c : Contents) (are : AreEnds (asides run (froms ms)) (somes (slots ms))) where
    shows_moved : mailbox_in (moved c) ≡ with_folder_changed (mailbox_in c) p moves
    shows_moved =
        ap (λ d. mailbox_in (settled_in d p (asides run (froms ms)) (somes (slots ms)))) (sym (aside_cleared run few path folder takes good_takes takes_distinct c))
        ∙ (shows_arranged path folder run few takes good_takes takes_distinct ms good_froms just (cleared c p run takes) (cleared_free run few path folder takes good_takes c) (slots ms) are
        ∙ (ap (λ m. with_folder_changed m p (rearranged ms (slots ms))) (shows_cleared run few path folder takes good_takes c)
        ∙ (changed_twice (mailbox_in c) p (unheld run takes) (rearranged ms (slots ms)) ∙ (λ i. with_folder_changed (mailbox_in c) p (λ f. alike_moves f i)))))

    moved_there : (moved c).there ≡ c.there
    moved_there = dropped_place (linked_in (aside_in c p run takes) p (asides run (froms ms)) (somes (slots ms))) p (asides run (froms ms)) (somes (slots ms))
        ∙ (linked_place (aside_in c p run takes) p (asides run (froms ms)) (somes (slots ms)) ∙ aside_there p run few takes good_takes c)

    unnamed : (l : List ℕ) → AreMsgNums l → (x : List ℕ) → is_held (kind_of x) ≡ false → names_one run l x ≡ false
    unnamed [] ok x other = refl
    unnamed (n ∷ l) ok x other = rw (unheld_name (aside_of run n) (few, ok.0) x other) (unnamed l ok.1 x other)

    moved_temp : (x : List ℕ) → is_temp (kind_of x) ≡ true → (moved c).texts p x ≡ c.texts p x
    moved_temp x t =
        dropped_other p (asides run (froms ms)) (asides_are run few (froms ms) good_froms) (slots ms) are (linked_in (aside_in c p run takes) p (asides run (froms ms)) (somes (slots ms))) x (is_temp_unheld x t)
        ∙ (linked_foreign p (asides run (froms ms)) (slots ms) are (aside_in c p run takes) x (is_temp_unnumbered x t)
        ∙ aside_foreign p run few takes good_takes c x (is_temp_unnumbered x t) (unnamed takes good_takes x (is_temp_unheld x t)))

    pub moved_clear : IsClear c p → IsClear (moved c) p
    moved_clear clear = record { there = ap (λ t. t p) moved_there ∙ clear.there; free = λ x t. moved_temp x t ∙ clear.free x t }

    moved_context : (moved c).texts (Mail path) context_name ≡ c.texts (Mail path) context_name
    unfolding mailbox_in
    moved_context = ap (λ m. m.context (Mail path)) shows_moved

  -- how it ends: the messages stand at their slots
  pub record StandsSo (c : Contents) (h j : Hand) (z : View) (ends : List ℕ) : Type 0 where
    pub at_slots : ends ≡ slots ms
    pub contents : Contents
    pub is : z.contents ≡ contents
    pub hand : j ≡ h
    pub shows : mailbox_in contents ≡ with_folder_changed (mailbox_in c) p moves
    pub clear : IsClear c p → IsClear contents p
    pub context : contents.texts (Mail path) context_name ≡ c.texts (Mail path) context_name

  abbrev pub Stands : Contents → Hand → View → Hand → List ℕ → Result (List ℕ) PlanFault → Type 0
  Stands c h z j left (Ok ends) = StandsSo c h j z ends
  Stands c h z j left (Err e) = ⊥

  never_halts : (e : PlanFault) → Halts true e → ⊥
  never_halts fault.Faulted f = f
  never_halts (fault.Locked q) f = f
  never_halts (fault.Meddled q x) f = f refl
  never_halts fault.Full f = f refl
  never_halts (fault.Absent q) f = f
  never_halts (fault.TooLarge l) f = f
  never_halts fault.Memory f = f

  -- alone they come to stand so
  module _ (c : Contents) (clear : IsClear c p) (stand : (k : ℕ) → is_in k takes ≡ true → is_some (c.texts p (decimal k)) ≡ true) (free : (k : ℕ) → is_in k (slots ms) ≡ true → is_in k takes ≡ false → c.texts p (decimal k) ≡ None) (top : ℕ) (small : top ≤ 999999) where
    abbrev like : View → View
    like v = record { contents = c; seen = all_listed; numbers = v.numbers; met = v.met }

    abbrev Arranged : View → View → Hand → List ℕ → Result (List ℕ) PlanFault → Type 0
    Arranged v z j left r = giving.Arranged true p run few takes good_takes takes_distinct ms good_froms froms_distinct good_slots (λ k e. sym (just k) ∙ e) v.numbers (like v) c (refl, refl) (λ k ok some. refl) (all_stand c p takes stand) z j left r

    so : (v : View) (h : Hand) (z : View) (j : Hand) (left : List ℕ) (r : Result (List ℕ) PlanFault) → (j ≡ h) × Arranged v z j left r → Stands c h z j left r
    so v h z j left (Ok ends) g = by ends (g.1.at_slots refl) g.1.are g.1.contents
      where
        by : (l : List ℕ) → l ≡ slots ms → AreEnds (asides run (froms ms)) (somes l) → z.contents ≡ arranged_in c p run takes ms l → StandsSo c h j z l
        by l at are is =
            let here : AreEnds (asides run (froms ms)) (somes (slots ms)) = subst (λ x. AreEnds (asides run (froms ms)) (somes x)) at are in
            record {
              at_slots = at;
              contents = moved c;
              is = is ∙ ap (λ x. arranged_in c p run takes ms x) at;
              hand = g.0;
              shows = shows_moved c here;
              clear = moved_clear c here;
              context = moved_context c here;
            }
    so v h z j left (Err e) g = never_halts e g.1

    alike : (h : Hand) (z y : View) → z.contents ≡ y.contents → z.numbers ≡ y.numbers → (j : Hand) (left : List ℕ) (r : Result (List ℕ) PlanFault) → Stands c h y j left r → Stands c h z j left r
    alike h z y e f j left (Ok ends) g = record { at_slots = g.at_slots; contents = g.contents; is = e ∙ g.is; hand = g.hand; shows = g.shows; clear = g.clear; context = g.context }
    alike h z y e f j left (Err x) g = g

    pub stands_give : (ns : List ℕ) (v : View) (h : Hand) (text : List ℕ) → Is true ns v c → Gives (by_view true) v h text (arranged run p takes ms top) (Stands c h)
    stands_give ns v h text is =
        gives_alike (Stands c h) (alike h) v (like v) (is.0 refl) refl h text (arranged run p takes ms top)
        (gives_more (by_view true) (like v) h text (arranged run p takes ms top) (λ z j left r. (j ≡ h) × Arranged v z j left r) (Stands c h)
        (arranged_same run p (by_view true) (like v) h text takes ms top (Arranged v)
        (arranged_gives true p run few takes good_takes takes_distinct ms good_froms froms_distinct good_slots (λ k e. sym (just k) ∙ e) v.numbers (like v) c (refl, refl) (λ k ok some. refl) (all_stand c p takes stand)
        (λ e. (clear.there, slots_free p run few takes good_takes c (slots ms) good_slots free, slots_distinct)) top small h text))
        (so v h))
