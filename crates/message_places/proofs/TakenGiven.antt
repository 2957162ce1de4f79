-- What it makes of contents, alone and beside others, that all messages are held aside.
use Rattle.std.proofs.Common.{◌≡◌, ◌||◌, ◌<◌, ◌^◌, ◌==◌, ℕ, Bool, true, false, List, [], ◌∷◌, None, Result, Ok, Err, refl, sym, ◌∙◌, ap, subst, bytes_eq}
use Rattle.std.specs.Prelude.{decimal, is_some, if◌then◌else◌}
use Rattle.mh_base.specs.Entries.{entry_text, kind_of}
use Rattle.mh_base.specs.Numbers.{IsMsgNum}
use Rattle.folder_files.specs.Named.{is_number}
use Rattle.folder_files.specs.Places.{same_place}
use Rattle.folder_files.specs.declared.place.Place.{Place}
use Rattle.folder_files.specs.declared.step.Answer.TheVariants as answer
use Rattle.folder_files.specs.declared.step.Step.TheVariants as step
use Rattle.folder_files.proofs.Names.{bytes_self, not_both, num_same, or_false}
use Rattle.folder_files.proofs.Sameness.{place_is}
use Rattle.file_plans.specs.Contents.{Contents, with_moved}
use Rattle.file_plans.specs.Giving.{Gives}
use Rattle.file_plans.specs.Plan.{Hand, Return}
use Rattle.file_plans.specs.Views.{Known, Listed, View, by_view, view_after}
use Rattle.file_plans.proofs.Existing.{at_self}
use Rattle.file_plans.proofs.Giving.{gives_on}
use Rattle.file_plans.proofs.Onward.{fits_at, not_gone}
use Rattle.file_plans.proofs.Showing.{foreign}
use Rattle.file_plans.proofs.Viewing.{rename_view}
use Rattle.step_plans.specs.PlanFaults.{of_stop}
use Rattle.step_plans.specs.Replacing.{held_to, renamed}
use Rattle.step_plans.specs.declared.fault.PlanFault.{PlanFault}
use Rattle.message_moves.specs.Moving.{number_taken}
use Rattle.held_messages.proofs.Homecoming.{Steps}
use Rattle.held_messages.proofs.Linking.{AreListed, Quits, held_apart, held_unnumbered, number_apart, same_decimal}
use Rattle.held_messages.proofs.ListedPairs.{IsPair}
use Rattle.message_places.specs.Arranging.{all_taken, aside_name}
use Rattle.message_places.specs.Places.{AreDistinct, AreMsgNums, is_in}
use Rattle.message_places.proofs.AsideNames.{aside_of, names_differ, names_none, names_one}
use Rattle.message_places.proofs.NumberLists.{in_cases, num_turned}

-- the contents once this message is held aside, and once all of these are
abbrev pub one_aside : Contents → Place → ℕ → ℕ → Contents
one_aside c p run n = with_moved c p (decimal n) (aside_name run n)

unfoldable pub aside_in : Contents → Place → ℕ → List ℕ → Contents
aside_in c p run [] = c
aside_in c p run (n ∷ ns) = aside_in (one_aside c p run n) p run ns

-- and the views
abbrev pub took : View → Place → ℕ → ℕ → View
took v p run n = view_after v (step.Rename p (decimal n) (aside_name run n)) answer.Done

unfoldable pub took_all : View → Place → ℕ → List ℕ → View
took_all v p run [] = v
took_all v p run (n ∷ ns) = took_all (took v p run n) p run ns

-- each has a message
abbrev pub AllStand : Contents → Place → List ℕ → Type 0
AllStand c p [] = Unit {0}
AllStand c p (n ∷ ns) = (is_some (c.texts p (decimal n)) ≡ true) × AllStand c p ns

pub stood_one : (c : Contents) (p : Place) (ns : List ℕ) → AllStand c p ns → (k : ℕ) → is_in k ns ≡ true → is_some (c.texts p (decimal k)) ≡ true
stood_one c p [] all k e = absurd (cc (e))
stood_one c p (n ∷ ns) all k e = in_cases (λ z. is_some (c.texts p (decimal z)) ≡ true) n k ns e all.0 (stood_one c p ns all.1 k)

module _ (p : Place) (run : ℕ) where
  pub took_numbers : (ns : List ℕ) (v : View) → (took_all v p run ns).numbers ≡ v.numbers
  unfolding took_all
  took_numbers [] v = refl
  took_numbers (n ∷ ns) v = took_numbers ns (took v p run n)

  pub took_met : (ns : List ℕ) (v : View) → (took_all v p run ns).met ≡ v.met
  unfolding took_all
  took_met [] v = refl
  took_met (n ∷ ns) v = took_met ns (took v p run n)

  pub took_contents : (ns : List ℕ) (v : View) → (took_all v p run ns).contents ≡ aside_in v.contents p run ns
  unfolding took_all aside_in
  took_contents [] v = refl
  took_contents (n ∷ ns) v = took_contents ns (took v p run n)

-- one message
module _ (p : Place) (run : ℕ) (few : run < 2 ^ 128) (n : ℕ) (one : IsMsgNum n) where
  abbrev num : List ℕ
  num = decimal n

  abbrev held : List ℕ
  held = aside_name run n

  pair : IsPair (aside_of run n)
  pair = (few, one)

  apart : bytes_eq num held ≡ false
  apart = number_apart n one (aside_of run n) pair

  moved_number : (c : Contents) (k : ℕ) → IsMsgNum k → (one_aside c p run n).texts p (decimal k) ≡ (if n == k then None else c.texts p (decimal k))
  moved_number c k ok = rw (apart, place_is p, held_apart k ok (aside_of run n) pair, same_decimal n k one ok) refl

  moved_held : (c : Contents) → (one_aside c p run n).texts p held ≡ c.texts p num
  moved_held c = rw (apart, at_self p held) refl

  moved_else : (c : Contents) (x : List ℕ) → bytes_eq num x ≡ false → bytes_eq held x ≡ false → (one_aside c p run n).texts p x ≡ c.texts p x
  moved_else c x e f = rw (apart, place_is p, e, f) refl

  moved_there : (c : Contents) → (one_aside c p run n).there ≡ c.there
  moved_there c = rw apart refl

  moved_outside : (c : Contents) → (one_aside c p run n).outside ≡ c.outside
  moved_outside c = rw apart refl

  moved_elsewhere : (c : Contents) (q : Place) (x : List ℕ) → same_place p q ≡ false → (one_aside c p run n).texts q x ≡ c.texts q x
  moved_elsewhere c q x off = rw (apart, off) refl

  took_listed : (v : View) → AreListed p v → AreListed p (took v p run n)
  took_listed v all k ok some = go (n == k) refl
    where
      sight_is : (took v p run n).seen.names p (decimal k) ≡ (if bytes_eq num (decimal k) then Known else v.seen.names p (decimal k))
      sight_is = rw (apart, place_is p, held_apart k ok (aside_of run n) pair) refl

      go : (b : Bool) → (n == k) ≡ b → (took v p run n).seen.names p (decimal k) ≡ Listed
      go true e = absurd (not_both (is_some ((one_aside v.contents p run n).texts p (decimal k))) some (ap is_some (moved_number v.contents k ok) ∙ rw e refl))
      go false e = sight_is ∙ rw (same_decimal n k one ok, e) (all k ok (sym (ap is_some (moved_number v.contents k ok ∙ rw e refl)) ∙ some))

  took_held : (v : View) → v.seen.names p num ≡ Listed → (took v p run n).seen.names p held ≡ Listed
  took_held v e = rw (apart, place_is p, apart, bytes_self held) e

  took_other : (v : View) (m : ℕ) → IsMsgNum m → (n == m) ≡ false → (took v p run n).seen.names p (aside_name run m) ≡ v.seen.names p (aside_name run m)
  took_other v m other off = rw (apart, place_is p, number_apart n one (aside_of run m) (few, other), names_differ run few n m one other off) refl

  still_standing : (c : Contents) (ns : List ℕ) → AreMsgNums ns → is_in n ns ≡ false → AllStand c p ns → AllStand (one_aside c p run n) p ns
  still_standing c [] ok e all = tt
  still_standing c (m ∷ ns) ok e all = let o = or_false (m == n) (is_in n ns) e in (ap is_some (moved_number c m ok.0 ∙ rw (num_turned m n o.0) refl) ∙ all.0, still_standing c ns ok.1 o.1 all.1)

  -- it is held aside: alone always
  module _ (alone : Bool) where
    abbrev Took : View → View → Hand → List ℕ → Result (List ℕ) PlanFault → Type 0
    Took w z j left (Ok name) = z ≡ w
    Took w z j left (Err e) = Quits alone e

    took_is : (v : View) (j : Hand) (text : List ℕ) → is_some (v.contents.texts p num) ≡ true → Gives (by_view alone) v j text (number_taken run p n) (Took (took v p run n))
    unfolding Gives number_taken renamed entry_text
    took_is v j text some =
        gives_on (by_view alone) v j text (renamed p num held) (λ moved. Return (Ok held)) (Steps alone p (took v p run n)) (Took (took v p run n))
        (rename_view alone v of_stop j text (Steps alone p (took v p run n)) p num held (held_to p num) (λ f. refl)
        (λ f e. not_gone (v.contents.texts p num) some (fits_at alone v.numbers v v.contents (step.Rename p num held) answer.Gone ((λ e. refl), refl) f e)))
        (λ z i rest u is. is) (λ z i rest e f. f)

-- all of these
module _ (p : Place) (run : ℕ) (few : run < 2 ^ 128) where
  pub aside_there : (ns : List ℕ) → AreMsgNums ns → (c : Contents) → (aside_in c p run ns).there ≡ c.there
  unfolding aside_in
  aside_there [] ok c = refl
  aside_there (n ∷ ns) ok c = aside_there ns ok.1 (one_aside c p run n) ∙ moved_there p run few n ok.0 c

  pub aside_outside : (ns : List ℕ) → AreMsgNums ns → (c : Contents) → (aside_in c p run ns).outside ≡ c.outside
  unfolding aside_in
  aside_outside [] ok c = refl
  aside_outside (n ∷ ns) ok c = aside_outside ns ok.1 (one_aside c p run n) ∙ moved_outside p run few n ok.0 c

  pub aside_elsewhere : (ns : List ℕ) → AreMsgNums ns → (c : Contents) (q : Place) (x : List ℕ) → same_place p q ≡ false → (aside_in c p run ns).texts q x ≡ c.texts q x
  unfolding aside_in
  aside_elsewhere [] ok c q x off = refl
  aside_elsewhere (n ∷ ns) ok c q x off = aside_elsewhere ns ok.1 (one_aside c p run n) q x off ∙ moved_elsewhere p run few n ok.0 c q x off

  -- what no take touches
  pub aside_foreign : (ns : List ℕ) → AreMsgNums ns → (c : Contents) (x : List ℕ) → is_number (kind_of x) ≡ false → names_one run ns x ≡ false → (aside_in c p run ns).texts p x ≡ c.texts p x
  unfolding aside_in
  aside_foreign [] ok c x other e = refl
  aside_foreign (n ∷ ns) ok c x other e =
      let o = or_false (bytes_eq (aside_name run n) x) (names_one run ns x) e in
      aside_foreign ns ok.1 (one_aside c p run n) x other o.1 ∙ moved_else p run few n ok.0 c x (foreign n ok.0 x other) o.0

  pub aside_number : (ns : List ℕ) → AreMsgNums ns → (c : Contents) (k : ℕ) → IsMsgNum k → (aside_in c p run ns).texts p (decimal k) ≡ (if is_in k ns then None else c.texts p (decimal k))
  unfolding aside_in
  aside_number [] ok c k good = refl
  aside_number (n ∷ ns) ok c k good = aside_number ns ok.1 (one_aside c p run n) k good ∙ (ap (λ z. if is_in k ns then None else z) (moved_number p run few n ok.0 c k good) ∙ go (n == k) (is_in k ns))
    where
      go : (a b : Bool) → (if b then None else (if a then None else c.texts p (decimal k))) ≡ (if a || b then None else c.texts p (decimal k))
      go true true = refl
      go true false = refl
      go false b = refl

  -- each stands under its held name
  pub aside_held : (ns : List ℕ) → AreMsgNums ns → AreDistinct ns → (c : Contents) (k : ℕ) → IsMsgNum k → is_in k ns ≡ true → (aside_in c p run ns).texts p (aside_name run k) ≡ c.texts p (decimal k)
  unfolding aside_in
  aside_held [] ok d c k good e = absurd (cc (e))
  aside_held (n ∷ ns) ok d c k good e = go (n == k) refl (aside_held ns ok.1 d.1 (one_aside c p run n) k good)
    where
      here : (aside_in (one_aside c p run n) p run ns).texts p (aside_name run n) ≡ c.texts p (decimal n)
      here = aside_foreign ns ok.1 (one_aside c p run n) (aside_name run n) (held_unnumbered (aside_of run n) (few, ok.0)) (names_none run few n ok.0 ns ok.1 d.0) ∙ moved_held p run few n ok.0 c

      go : (b : Bool) → (n == k) ≡ b → (is_in k ns ≡ true → (aside_in (one_aside c p run n) p run ns).texts p (aside_name run k) ≡ (one_aside c p run n).texts p (decimal k))
          → (aside_in (one_aside c p run n) p run ns).texts p (aside_name run k) ≡ c.texts p (decimal k)
      go true f more = subst (λ z. (aside_in (one_aside c p run n) p run ns).texts p (aside_name run z) ≡ c.texts p (decimal z)) (num_same n k f) here
      go false f more = more (sym (ap (λ z. z || is_in k ns) f) ∙ e) ∙ (moved_number p run few n ok.0 c k good ∙ rw f refl)

  -- what was seen
  pub aside_listed : (ns : List ℕ) → AreMsgNums ns → (v : View) → AreListed p v → AreListed p (took_all v p run ns)
  unfolding took_all
  aside_listed [] ok v all = all
  aside_listed (n ∷ ns) ok v all = aside_listed ns ok.1 (took v p run n) (took_listed p run few n ok.0 v all)

  seen_other : (ns : List ℕ) → AreMsgNums ns → (v : View) (k : ℕ) → IsMsgNum k → is_in k ns ≡ false → (took_all v p run ns).seen.names p (aside_name run k) ≡ v.seen.names p (aside_name run k)
  unfolding took_all
  seen_other [] ok v k good e = refl
  seen_other (n ∷ ns) ok v k good e = let o = or_false (n == k) (is_in k ns) e in seen_other ns ok.1 (took v p run n) k good o.1 ∙ took_other p run few n ok.0 v k good o.0

  pub aside_seen : (ns : List ℕ) → AreMsgNums ns → AreDistinct ns → (v : View) → AreListed p v → AllStand v.contents p ns → (k : ℕ) → IsMsgNum k → is_in k ns ≡ true → (took_all v p run ns).seen.names p (aside_name run k) ≡ Listed
  unfolding took_all
  aside_seen [] ok d v all stand k good e = absurd (cc (e))
  aside_seen (n ∷ ns) ok d v all stand k good e =
      in_cases (λ z. (took_all (took v p run n) p run ns).seen.names p (aside_name run z) ≡ Listed) n k ns e (seen_other ns ok.1 (took v p run n) n ok.0 d.0 ∙ took_held p run few n ok.0 v (all n ok.0 stand.0))
      (aside_seen ns ok.1 d.1 (took v p run n) (took_listed p run few n ok.0 v all) (still_standing p run few n ok.0 v.contents ns ok.1 d.0 stand.1) k good)

  -- the plan of the takes ends in just that view
  pub takes_give : (alone : Bool) (ns : List ℕ) → AreMsgNums ns → AreDistinct ns → (v : View) (j : Hand) (text : List ℕ) → AllStand v.contents p ns → Gives (by_view alone) v j text (all_taken run p ns) (Steps alone p (took_all v p run ns))
  unfolding Gives all_taken took_all
  takes_give alone [] ok d v j text stand = refl
  takes_give alone (n ∷ ns) ok d v j text stand =
      gives_on (by_view alone) v j text (number_taken run p n) (λ held. all_taken run p ns) (Took p run few n ok.0 alone (took v p run n)) (Steps alone p (took_all (took v p run n) p run ns)) (took_is p run few n ok.0 alone v j text stand.0)
      (λ z i rest name is. subst (λ x. Gives (by_view alone) x i rest (all_taken run p ns) (Steps alone p (took_all (took v p run n) p run ns))) (sym is)
      (takes_give alone ns ok.1 d.1 (took v p run n) i rest (still_standing p run few n ok.0 v.contents ns ok.1 d.0 stand.1)))
      (λ z i rest e f. f)
