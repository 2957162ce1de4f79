-- What messages that change places show of a mailbox, alone and beside others.
use Rattle.std.proofs.Common.{◌≡◌, ◌||◌, ◌==◌, ◌<◌, ◌≤◌, ◌^◌, ℕ, suc, Bool, true, false, List, [], ◌∷◌, Option, Some, None, Result, Ok, Err, refl, sym, ◌∙◌, ap, subst, bytes_eq, length}
use Rattle.std.specs.Prelude.{decimal, is_some, if◌then◌else◌}
use Rattle.mh_base.specs.Entries.{entry_text, kind_of}
use Rattle.mh_base.specs.Numbers.{IsMsgNum}
use Rattle.mh_base.specs.declared.entry.Entry.TheVariants.{Backup, Held, Sequences}
use Rattle.mh_base.proofs.EntryKinds.{kind_of-entry_text}
use Rattle.folder_files.specs.Named.{is_number}
use Rattle.folder_files.specs.Places.{same_place}
use Rattle.folder_files.specs.declared.place.Place.{Place}
use Rattle.folder_files.specs.declared.place.Place.TheVariants.{Folder}
use Rattle.folder_files.proofs.Names.{not_both}
use Rattle.folder_files.proofs.Sameness.{place_is}
use Rattle.file_plans.specs.Contents.{Contents, folder_at, mailbox_in, with_text}
use Rattle.file_plans.specs.Giving.{Gives}
use Rattle.file_plans.specs.Mailboxes.{is_message_number, numbered}
use Rattle.file_plans.specs.Plan.{Hand}
use Rattle.file_plans.specs.Views.{View, by_view}
use Rattle.file_plans.proofs.Giving.{gives_more}
use Rattle.file_plans.proofs.Showing.{context_no_number, foreign, held_same, is_number_of, number_ok, numbered_same}
use Rattle.step_plans.specs.ContextCommit.{context_name}
use Rattle.step_plans.specs.declared.fault.PlanFault.{PlanFault}
use Rattle.held_messages.specs.HeldPairs.{held_name, with_folder_changed}
use Rattle.held_messages.specs.Settle.{dropped_in, given_in, linked_in, or_before}
use Rattle.held_messages.specs.declared.held.HeldPair.{HeldPair}
use Rattle.held_messages.proofs.Homecoming.{AreEnds, dropped_place, linked_place}
use Rattle.held_messages.proofs.Linking.{AreListed, Has, held_apart, number_apart, same_decimal}
use Rattle.held_messages.proofs.Shown.{shows_folder}
use Rattle.message_places.specs.Arranging.{arranged, aside_name}
use Rattle.message_places.specs.Places.{AreDistinct, AreMsgNums, froms, is_in, rearranged, slots, source_of, stood_at}
use Rattle.message_places.specs.Rearranged.{Rearranges}
use Rattle.message_places.specs.declared.moves.Move.{Move}
use Rattle.message_places.proofs.ArrangedGiven.{Arranged, arranged_gives, arranged_in}
use Rattle.message_places.proofs.AsideNames.{aside_of, asides, name_found, name_there, names_one, somes}
use Rattle.message_places.proofs.NumberLists.{in_good, in_head, in_tail}
use Rattle.message_places.proofs.SlotsGiven.{AllFree, Halts}
use Rattle.message_places.proofs.Sources.{source_end, source_in, stood_same}
use Rattle.message_places.proofs.TakenGiven.{AllStand, aside_elsewhere, aside_foreign, aside_held, aside_in, aside_number, aside_outside, aside_there}

ends_good : (hs : List HeldPair) (ends : List ℕ) → AreEnds hs (somes ends) → AreMsgNums ends
ends_good [] [] e = tt
ends_good [] (n ∷ ends) e = absurd e
ends_good (h ∷ hs) [] e = absurd e
ends_good (h ∷ hs) (n ∷ ends) e = (e.0, ends_good hs ends e.1)

ends_count : (run : ℕ) (ms : List Move) (ends : List ℕ) → AreEnds (asides run (froms ms)) (somes ends) → length ends ≡ length ms
ends_count run [] [] e = refl
ends_count run [] (n ∷ ends) e = absurd e
ends_count run (m ∷ ms) [] e = absurd e
ends_count run (m ∷ ms) (n ∷ ends) e = ap suc (ends_count run ms ends e.1)

number_unnamed : (run : ℕ) → run < 2 ^ 128 → (ns : List ℕ) → AreMsgNums ns → (k : ℕ) → IsMsgNum k → names_one run ns (decimal k) ≡ false
number_unnamed run few [] ok k good = refl
number_unnamed run few (n ∷ ns) ok k good = rw (held_apart k good (aside_of run n) (few, ok.0)) (number_unnamed run few ns ok.1 k good)

module _ (p : Place) (run : ℕ) (few : run < 2 ^ 128) where
  -- what stands at a number after the gives
  linked_number : (ms : List Move) → AreMsgNums (froms ms) → (ends : List ℕ) → AreEnds (asides run (froms ms)) (somes ends) → (c : Contents) (k : ℕ) → IsMsgNum k
      → (linked_in c p (asides run (froms ms)) (somes ends)).texts p (decimal k) ≡ stood_at (λ n. c.texts p (aside_name run n)) (source_of ms ends k) (c.texts p (decimal k))
  unfolding linked_in
  linked_number [] fs [] e c k ok = refl
  linked_number [] fs (x ∷ ends) e c k ok = absurd e
  linked_number (m ∷ ms) fs [] e c k ok = absurd e
  linked_number (m ∷ ms) fs (x ∷ ends) e c k ok =
      linked_number ms fs.1 ends e.1 c' k ok ∙ (ap (stood_at (λ n. c'.texts p (aside_name run n)) (source_of ms ends k)) number_is
      ∙ (stood_same (λ n. c'.texts p (aside_name run n)) (λ n. c.texts p (aside_name run n)) ms ends k (if x == k then c.texts p (aside_name run m.from) else c.texts p (decimal k)) held_is ∙ go (source_of ms ends k) (x == k)))
    where
      c' : Contents
      c' = given_in c p (aside_of run m.from) (Some x)

      held_is : (n : ℕ) → is_in n (froms ms) ≡ true → c'.texts p (aside_name run n) ≡ c.texts p (aside_name run n)
      held_is n i = rw (place_is p, number_apart x e.0 (aside_of run n) (few, in_good (froms ms) fs.1 n i)) refl

      number_is : c'.texts p (decimal k) ≡ (if x == k then c.texts p (aside_name run m.from) else c.texts p (decimal k))
      number_is = rw (place_is p, same_decimal x k e.0 ok) refl

      go : (o : Option ℕ) (b : Bool) → stood_at (λ n. c.texts p (aside_name run n)) o (if b then c.texts p (aside_name run m.from) else c.texts p (decimal k))
          ≡ stood_at (λ n. c.texts p (aside_name run n)) (or_before o (if b then Some m.from else None)) (c.texts p (decimal k))
      go (Some y) b = refl
      go None true = refl
      go None false = refl

  linked_foreign : (hs : List HeldPair) (ends : List ℕ) → AreEnds hs (somes ends) → (c : Contents) (x : List ℕ) → is_number (kind_of x) ≡ false → (linked_in c p hs (somes ends)).texts p x ≡ c.texts p x
  unfolding linked_in
  linked_foreign [] ends e c x other = refl
  linked_foreign (h ∷ hs) [] e c x other = absurd e
  linked_foreign (h ∷ hs) (y ∷ ends) e c x other = linked_foreign hs ends e.1 (given_in c p h (Some y)) x other ∙ rw (place_is p, foreign y e.0 x other) refl

  dropped_texts : (ks ends : List ℕ) → AreEnds (asides run ks) (somes ends) → (c : Contents) (x : List ℕ) → (dropped_in c p (asides run ks) (somes ends)).texts p x ≡ (if names_one run ks x then None else c.texts p x)
  unfolding dropped_in
  dropped_texts [] ends e c x = refl
  dropped_texts (n ∷ ks) [] e c x = absurd e
  dropped_texts (n ∷ ks) (y ∷ ends) e c x = dropped_texts ks ends e.1 (with_text c p (aside_name run n) None) x ∙ rw (place_is p) (go (names_one run ks x) (bytes_eq (aside_name run n) x))
    where
      go : (a b : Bool) → (if a then None else (if b then None else c.texts p x)) ≡ (if b || a then None else c.texts p x)
      go true true = refl
      go true false = refl
      go false true = refl
      go false false = refl

  -- other places, and outside files
  linked_elsewhere : (hs : List HeldPair) (ends : List ℕ) (c : Contents) (q : Place) (x : List ℕ) → same_place p q ≡ false → (linked_in c p hs (somes ends)).texts q x ≡ c.texts q x
  unfolding linked_in
  linked_elsewhere [] ends c q x off = refl
  linked_elsewhere (h ∷ hs) [] c q x off = refl
  linked_elsewhere (h ∷ hs) (n ∷ ends) c q x off = linked_elsewhere hs ends (given_in c p h (Some n)) q x off ∙ rw off refl

  dropped_elsewhere : (hs : List HeldPair) (ends : List ℕ) (c : Contents) (q : Place) (x : List ℕ) → same_place p q ≡ false → (dropped_in c p hs (somes ends)).texts q x ≡ c.texts q x
  unfolding dropped_in
  dropped_elsewhere [] ends c q x off = refl
  dropped_elsewhere (h ∷ hs) [] c q x off = refl
  dropped_elsewhere (h ∷ hs) (n ∷ ends) c q x off = dropped_elsewhere hs ends (with_text c p (held_name h) None) q x off ∙ rw off refl

  linked_outside : (hs : List HeldPair) (ends : List ℕ) (c : Contents) → (linked_in c p hs (somes ends)).outside ≡ c.outside
  unfolding linked_in
  linked_outside [] ends c = refl
  linked_outside (h ∷ hs) [] c = refl
  linked_outside (h ∷ hs) (n ∷ ends) c = linked_outside hs ends (given_in c p h (Some n))

  dropped_outside : (hs : List HeldPair) (ends : List ℕ) (c : Contents) → (dropped_in c p hs (somes ends)).outside ≡ c.outside
  unfolding dropped_in
  dropped_outside [] ends c = refl
  dropped_outside (h ∷ hs) [] c = refl
  dropped_outside (h ∷ hs) (n ∷ ends) c = dropped_outside hs ends (with_text c p (held_name h) None)

-- A folder, the numbers that are taken, which are just those of the moves, and where these ended; nothing was held under their held names.
module _ (path name : List ℕ) (run : ℕ) (few : run < 2 ^ 128) (takes : List ℕ) (ok : AreMsgNums takes) (distinct : AreDistinct takes) (ms : List Move) (fs : AreMsgNums (froms ms)) (same : (k : ℕ) → is_in k (froms ms) ≡ is_in k takes) (c : Contents)
    (fresh : (n : ℕ) → is_in n takes ≡ true → c.texts (Folder path name) (aside_name run n) ≡ None) (ends : List ℕ) (are : AreEnds (asides run (froms ms)) (somes ends)) where
  abbrev p : Place
  p = Folder path name

  abbrev hs : List HeldPair
  hs = asides run (froms ms)

  abbrev c1 : Contents
  c1 = aside_in c p run takes

  abbrev c2 : Contents
  c2 = linked_in c1 p hs (somes ends)

  abbrev d : Contents
  d = arranged_in c p run takes ms ends

  -- at a number
  arranged_number : (k : ℕ) → IsMsgNum k → d.texts p (decimal k) ≡ stood_at (λ n. c.texts p (decimal n)) (source_of ms ends k) (if is_in k (froms ms) then None else c.texts p (decimal k))
  arranged_number k good =
      dropped_texts p run few (froms ms) ends are c2 (decimal k) ∙ (rw (number_unnamed run few (froms ms) fs k good) (linked_number p run few ms fs ends are c1 k good)
      ∙ (ap (stood_at (λ n. c1.texts p (aside_name run n)) (source_of ms ends k)) number_is ∙ stood_same (λ n. c1.texts p (aside_name run n)) (λ n. c.texts p (decimal n)) ms ends k (if is_in k (froms ms) then None else c.texts p (decimal k)) held_is))
    where
      number_is : c1.texts p (decimal k) ≡ (if is_in k (froms ms) then None else c.texts p (decimal k))
      number_is = aside_number p run few takes ok c k good ∙ ap (λ b. if b then None else c.texts p (decimal k)) (sym (same k))

      held_is : (n : ℕ) → is_in n (froms ms) ≡ true → c1.texts p (aside_name run n) ≡ c.texts p (decimal n)
      held_is n i = aside_held p run few takes ok distinct c n (in_good (froms ms) fs n i) (sym (same n) ∙ i)

  -- at any other name
  arranged_foreign : (x : List ℕ) → is_number (kind_of x) ≡ false → d.texts p x ≡ c.texts p x
  arranged_foreign x other = dropped_texts p run few (froms ms) ends are c2 x ∙ go (names_one run (froms ms) x) refl
    where
      named : names_one run takes x ≡ true → names_one run (froms ms) x ≡ true
      named f = (let w = name_found run takes x f in subst (λ z. names_one run (froms ms) z ≡ true) w.2 (name_there run (froms ms) w.0 (same w.0 ∙ w.1)))

      unnamed : names_one run (froms ms) x ≡ false → (b : Bool) → names_one run takes x ≡ b → b ≡ false
      unnamed e true f = absurd (not_both (names_one run (froms ms) x) (named f) e)
      unnamed e false f = refl

      go : (b : Bool) → names_one run (froms ms) x ≡ b → (if b then None else c2.texts p x) ≡ c.texts p x
      go true e = let w = name_found run (froms ms) x e in sym (subst (λ z. c.texts p z ≡ None) w.2 (fresh w.0 (sym (same w.0) ∙ w.1)))
      go false e = linked_foreign p run few hs ends are c1 x other ∙ aside_foreign p run few takes ok c x other (unnamed e (names_one run takes x) refl)

  messages_at : (k : ℕ) → numbered k (d.texts p (decimal k)) ≡ stood_at (λ n. numbered n (c.texts p (decimal n))) (source_of ms ends k) (if is_in k (froms ms) then None else numbered k (c.texts p (decimal k)))
  messages_at k = go (is_message_number k) refl
    where
      good : (o : Option ℕ) → source_of ms ends k ≡ o → (b : Bool)
          → stood_at (λ n. c.texts p (decimal n)) o (if b then None else c.texts p (decimal k)) ≡ stood_at (λ n. numbered n (c.texts p (decimal n))) o (if b then None else (if true then c.texts p (decimal k) else None))
      good None f true = refl
      good None f false = refl
      good (Some n) f b = rw (is_number_of n (in_good (froms ms) fs n (source_in ms ends k n f))) refl

      bad : is_message_number k ≡ false → (o : Option ℕ) → source_of ms ends k ≡ o → (b : Bool) → None ≡ stood_at (λ n. numbered n (c.texts p (decimal n))) o (if b then None else None)
      bad e None f true = refl
      bad e None f false = refl
      bad e (Some n) f b = absurd (not_both (is_message_number k) (is_number_of k (in_good ends (ends_good hs ends are) k (source_end ms ends k (ap is_some f)))) e)

      go : (b : Bool) → is_message_number k ≡ b → (if b then d.texts p (decimal k) else None) ≡ stood_at (λ n. numbered n (c.texts p (decimal n))) (source_of ms ends k) (if is_in k (froms ms) then None else (if b then c.texts p (decimal k) else None))
      go true e = arranged_number k (number_ok k e) ∙ good (source_of ms ends k) refl (is_in k (froms ms))
      go false e = bad e (source_of ms ends k) refl (is_in k (froms ms))

  folder_is : folder_at d p ≡ rearranged ms ends (folder_at c p)
  unfolding entry_text
  folder_is = λ i. record {
    messages = λ k. messages_at k i;
    removed = λ k. numbered_same k (d.texts p (entry_text (Backup k))) (c.texts p (entry_text (Backup k))) (λ good. arranged_foreign (entry_text (Backup k)) (rw (kind_of-entry_text (Backup k) good) refl)) i;
    held = λ r k. held_same r k (d.texts p (entry_text (Held r k))) (c.texts p (entry_text (Held r k))) (λ l good. arranged_foreign (entry_text (Held r k)) (rw (kind_of-entry_text (Held r k) (l, good)) refl)) i;
    sequences = arranged_foreign (entry_text Sequences) (rw (kind_of-entry_text Sequences tt) refl) i;
  }

  -- the moves show as the rearranged folder, and nothing else
  pub shows_arranged : mailbox_in d ≡ with_folder_changed (mailbox_in c) p (rearranged ms ends)
  shows_arranged =
      shows_folder c d path name (rearranged ms ends)
      (λ q. (λ i. dropped_place c2 p hs (somes ends) i q) ∙ ((λ i. linked_place c1 p hs (somes ends) i q) ∙ (λ i. aside_there p run few takes ok c i q)))
      folder_is
      (λ q x e. dropped_elsewhere p run few hs ends c2 q x e ∙ (linked_elsewhere p run few hs ends c1 q x e ∙ aside_elsewhere p run few takes ok c q x e))
      (arranged_foreign context_name context_no_number)
      (dropped_outside p run few hs ends c2 ∙ (linked_outside p run few hs ends c1 ∙ aside_outside p run few takes ok c))

-- where the slots are old numbers or free ones, all are free once the messages are held aside
pub slots_free : (p : Place) (run : ℕ) → run < 2 ^ 128 → (takes : List ℕ) → AreMsgNums takes → (c : Contents) (ss : List ℕ) → AreMsgNums ss → ((k : ℕ) → is_in k ss ≡ true → is_in k takes ≡ false → c.texts p (decimal k) ≡ None) → AllFree (aside_in c p run takes) p ss
slots_free p run few takes ok c [] good free = tt
slots_free p run few takes ok c (s ∷ ss) good free = (aside_number p run few takes ok c s good.0 ∙ go (is_in s takes) refl, slots_free p run few takes ok c ss good.1 (λ k e. free k (in_tail s k ss e)))
  where
    go : (b : Bool) → is_in s takes ≡ b → (if b then None else c.texts p (decimal s)) ≡ None
    go true e = refl
    go false e = free s (in_head s ss) e

-- the plan's end in the mailbox's words; it halts only beside others
abbrev pub Rearranged : Bool → Contents → Place → List Move → List ℕ → View → Hand → List ℕ → Result (List ℕ) PlanFault → Type 0
Rearranged alone c p ms ns z j left (Ok ends) = Rearranges alone (mailbox_in c) p ms ends ns z.numbers (mailbox_in z.contents)
Rearranged alone c p ms ns z j left (Err e) = Halts alone e

-- alone the folder is there, each slot is another, and has no message but one that is taken
pub record MayArrange (c : Contents) (p : Place) (takes : List ℕ) (ms : List Move) : Type 0 where
  pub there : c.there p ≡ true
  pub distinct : AreDistinct (slots ms)
  pub free : (k : ℕ) → is_in k (slots ms) ≡ true → is_in k takes ≡ false → c.texts p (decimal k) ≡ None

-- alone and beside others messages of a folder change places: each message stands where its move ended
pub places_give : (alone : Bool) (path name : List ℕ) (run : ℕ) → run < 2 ^ 128 → (takes : List ℕ) → AreMsgNums takes → AreDistinct takes → (ms : List Move) → AreMsgNums (froms ms) → AreDistinct (froms ms) → AreMsgNums (slots ms)
    → ((k : ℕ) → is_in k (froms ms) ≡ is_in k takes) → (ns : List ℕ) (v : View) (c : Contents) → Has ns v c → AreListed (Folder path name) v → AllStand c (Folder path name) takes
    → ((n : ℕ) → is_in n takes ≡ true → c.texts (Folder path name) (aside_name run n) ≡ None) → (alone ≡ true → MayArrange c (Folder path name) takes ms)
    → (top : ℕ) → top ≤ 999999 → (j : Hand) (text : List ℕ) → Gives (by_view alone) v j text (arranged run (Folder path name) takes ms top) (Rearranged alone c (Folder path name) ms ns)
places_give alone path name run few takes ok distinct ms fs fd ss same ns v c has all stand fresh may top small j text =
    gives_more (by_view alone) v j text (arranged run p takes ms top) (Arranged alone p run few takes ok distinct ms fs fd ss among ns v c has all stand) (Rearranged alone c p ms ns)
    (arranged_gives alone p run few takes ok distinct ms fs fd ss among ns v c has all stand (λ e. let m = may e in (m.there, slots_free p run few takes ok c (slots ms) ss m.free, m.distinct)) top small j text) ended
  where
    p : Place
    p = Folder path name

    among : (k : ℕ) → is_in k (froms ms) ≡ true → is_in k takes ≡ true
    among k e = sym (same k) ∙ e

    ended : (z : View) (i : Hand) (left : List ℕ) (r : Result (List ℕ) PlanFault) → Arranged alone p run few takes ok distinct ms fs fd ss among ns v c has all stand z i left r → Rearranged alone c p ms ns z i left r
    ended z i left (Ok ends) g = record {
      count = ends_count run ms ends g.are;
      valid = ends_good (asides run (froms ms)) ends g.are;
      at_slots = g.at_slots;
      numbers = g.numbers;
      mailbox = ap mailbox_in g.contents ∙ shows_arranged path name run few takes ok distinct ms fs same c fresh ends g.are;
    }
    ended z i left (Err e) g = g
