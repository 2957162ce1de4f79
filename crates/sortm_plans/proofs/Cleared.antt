-- What is held aside under the run's names of messages that change places counts for nothing: it is as if nothing had been held there.
use Rattle.std.proofs.Common.{◌≡◌, ◌&&◌, ◌||◌, ◌==◌, ◌<◌, ◌^◌, ℕ, Bool, true, false, List, [], ◌∷◌, Option, None, refl, sym, ◌∙◌, ap, subst, bytes_eq, nat_lt}
use Rattle.std.specs.Prelude.{decimal, if◌then◌else◌}
use Rattle.std.proofs.lemmas.Bool.Decides.{Decides-ltb}
use Rattle.mh_base.specs.Entries.{entry_text}
use Rattle.mh_base.specs.Numbers.{IsMsgNum}
use Rattle.mh_base.specs.declared.entry.Entry.TheVariants.{Backup, Held, Sequences}
use Rattle.folder_files.specs.Places.{same_place}
use Rattle.folder_files.specs.declared.place.Place.{Place}
use Rattle.folder_files.specs.declared.place.Place.TheVariants.{Folder}
use Rattle.folder_files.proofs.Names.{bytes_true, not_both}
use Rattle.folder_files.proofs.Sameness.{place_is}
use Rattle.file_plans.specs.Contents.{Contents, folder_at, mailbox_in}
use Rattle.file_plans.specs.Mailboxes.{Folder as FolderValue, is_message_number}
use Rattle.file_plans.proofs.Showing.{number_ok, numbered_same}
use Rattle.step_plans.specs.ContextCommit.{context_name}
use Rattle.held_messages.specs.HeldPairs.{with_folder_changed}
use Rattle.held_messages.proofs.Linking.{held_apart, number_apart}
use Rattle.held_messages.proofs.ListedPairs.{same_name}
use Rattle.held_messages.proofs.Shown.{shows_folder}
use Rattle.message_places.specs.Arranging.{aside_name}
use Rattle.message_places.specs.Places.{AreDistinct, AreMsgNums, is_in}
use Rattle.message_places.proofs.AsideNames.{aside_of, name_there, names_none, names_one}
use Rattle.message_places.proofs.TakenGiven.{aside_in, one_aside}

-- nothing is held under these names
abbrev pub cleared : Contents → Place → ℕ → List ℕ → Contents
cleared c p run ns = record { there = c.there; texts = λ q x. if same_place p q && names_one run ns x then None else c.texts q x; outside = c.outside }

-- the folder with none of these held aside by the run
abbrev pub unheld : ℕ → List ℕ → FolderValue → FolderValue
unheld run ns f = record { messages = f.messages; removed = f.removed; held = λ r k. if (run == r) && is_in k ns then None else f.held r k; sequences = f.sequences }

module _ (run : ℕ) (few : run < 2 ^ 128) (path name : List ℕ) where
  abbrev p : Place
  p = Folder path name

  -- a number is none of the held names
  number_unnamed : (ns : List ℕ) → AreMsgNums ns → (k : ℕ) → IsMsgNum k → names_one run ns (decimal k) ≡ false
  number_unnamed [] ok k good = refl
  number_unnamed (n ∷ ns) ok k good = rw (held_apart k good (aside_of run n) (few, ok.0)) (number_unnamed ns ok.1 k good)

  -- a message that is held aside takes the place of what was held there
  module _ (n : ℕ) (one : IsMsgNum n) (ns : List ℕ) (good : AreMsgNums ns) (off : is_in n ns ≡ false) (c : Contents) where
    abbrev held : List ℕ
    held = aside_name run n

    abbrev num : List ℕ
    num = decimal n

    apart : bytes_eq num held ≡ false
    apart = number_apart n one (aside_of run n) (few, one)

    apart_back : bytes_eq held num ≡ false
    apart_back = held_apart n one (aside_of run n) (few, one)

    moved_is : (d : Contents) (q : Place) (x : List ℕ) → (one_aside d p run n).texts q x ≡ (if same_place p q && bytes_eq held x then d.texts p num else (if same_place p q && bytes_eq num x then None else d.texts q x))
    moved_is d q x = rw apart refl

    unnamed_self : names_one run ns held ≡ false
    unnamed_self = names_none run few n one ns good off

    text_kept : (cleared c p run (n ∷ ns)).texts p num ≡ c.texts p num
    text_kept = rw (place_is p, apart_back, number_unnamed ns good n one) refl

    each : (q : Place) (x : List ℕ) → (one_aside (cleared c p run (n ∷ ns)) p run n).texts q x ≡ (cleared (one_aside c p run n) p run ns).texts q x
    each q x =
        moved_is (cleared c p run (n ∷ ns)) q x
        ∙ (ap (λ t. if same_place p q && bytes_eq held x then t else (if same_place p q && bytes_eq num x then None else (if same_place p q && (bytes_eq held x || names_one run ns x) then None else c.texts q x))) text_kept
        ∙ (go (same_place p q) (bytes_eq held x) refl (bytes_eq num x) (names_one run ns x) refl ∙ ap (λ t. if same_place p q && names_one run ns x then None else t) (sym (moved_is c q x))))
      where
        same_held : bytes_eq held x ≡ true → names_one run ns x ≡ false
        same_held e = subst (λ z. names_one run ns z ≡ false) (held_is e) unnamed_self
          where
            held_is : bytes_eq held x ≡ true → held ≡ x
            held_is e = bytes_true held x e

        go : (s h : Bool) → bytes_eq held x ≡ h → (u m : Bool) → names_one run ns x ≡ m
            → (if s && h then c.texts p num else (if s && u then None else (if s && (h || m) then None else c.texts q x))) ≡ (if s && m then None else (if s && h then c.texts p num else (if s && u then None else c.texts q x)))
        go false h e u m f = refl
        go true true e u true f = absurd (not_both (names_one run ns x) f (same_held e))
        go true true e u false f = refl
        go true false e true true f = refl
        go true false e true false f = refl
        go true false e false true f = refl
        go true false e false false f = refl

    there_same : (one_aside (cleared c p run (n ∷ ns)) p run n).there ≡ c.there
    there_same = rw apart refl

    outside_same : (one_aside (cleared c p run (n ∷ ns)) p run n).outside ≡ c.outside
    outside_same = rw apart refl

    there_one : (one_aside c p run n).there ≡ c.there
    there_one = rw apart refl

    outside_one : (one_aside c p run n).outside ≡ c.outside
    outside_one = rw apart refl

    one_cleared : one_aside (cleared c p run (n ∷ ns)) p run n ≡ cleared (one_aside c p run n) p run ns
    one_cleared = λ i. record { there = (there_same ∙ sym there_one) i; texts = λ q x. each q x i; outside = (outside_same ∙ sym outside_one) i }

  -- so it is of all
  pub aside_cleared : (ns : List ℕ) → AreMsgNums ns → AreDistinct ns → (c : Contents) → aside_in (cleared c p run ns) p run ns ≡ aside_in c p run ns
  unfolding aside_in
  aside_cleared [] good d c = none_cleared
    where
      none : (b : Bool) (o : Option (List ℕ)) → (if b && false then None else o) ≡ o
      none true o = refl
      none false o = refl

      none_cleared : cleared c p run [] ≡ c
      none_cleared = λ i. record { there = c.there; texts = λ q x. none (same_place p q) (c.texts q x) i; outside = c.outside }
  aside_cleared (n ∷ ns) good d c = ap (λ e. aside_in e p run ns) (one_cleared n good.0 ns good.1 d.0 c) ∙ aside_cleared ns good.1 d.1 (one_aside c p run n)

  -- what it shows
  module _ (ns : List ℕ) (good : AreMsgNums ns) (c : Contents) where
    abbrev d : Contents
    d = cleared c p run ns

    text_is : (x : List ℕ) → d.texts p x ≡ (if names_one run ns x then None else c.texts p x)
    text_is x = rw (place_is p) refl

    pub cleared_free : (n : ℕ) → is_in n ns ≡ true → d.texts p (aside_name run n) ≡ None
    cleared_free n i = text_is (aside_name run n) ∙ rw (name_there run ns n i) refl

    pub cleared_other : (x : List ℕ) → names_one run ns x ≡ false → d.texts p x ≡ c.texts p x
    cleared_other x e = text_is x ∙ rw e refl

    named_held : (r k : ℕ) → r < 2 ^ 128 → IsMsgNum k → names_one run ns (entry_text (Held r k)) ≡ (run == r) && is_in k ns
    named_held r k small one = all ns good
      where
        first : (b e f : Bool) → (b && e) || (b && f) ≡ b && (e || f)
        first true e f = refl
        first false e f = refl

        none : (b : Bool) → false ≡ b && false
        none true = refl
        none false = refl

        all : (l : List ℕ) → AreMsgNums l → names_one run l (entry_text (Held r k)) ≡ (run == r) && is_in k l
        all [] ok = none (run == r)
        all (n ∷ l) ok = (λ i. same_name (aside_of run n) (few, ok.0) r k small one i || all l ok.1 i) ∙ first (run == r) (n == k) (is_in k l)

    held_at : (r k : ℕ) → (if nat_lt r (2 ^ 128) then (if is_message_number k then d.texts p (entry_text (Held r k)) else None) else None)
        ≡ (if (run == r) && is_in k ns then None else (if nat_lt r (2 ^ 128) then (if is_message_number k then c.texts p (entry_text (Held r k)) else None) else None))
    held_at r k = go (nat_lt r (2 ^ 128)) refl (is_message_number k) refl ((run == r) && is_in k ns) refl
      where
        go : (u : Bool) → nat_lt r (2 ^ 128) ≡ u → (v : Bool) → is_message_number k ≡ v → (b : Bool) → (run == r) && is_in k ns ≡ b
            → (if u then (if v then d.texts p (entry_text (Held r k)) else None) else None) ≡ (if b then None else (if u then (if v then c.texts p (entry_text (Held r k)) else None) else None))
        go true e true f true g = text_is (entry_text (Held r k)) ∙ rw (named_held r k ((Decides-ltb r (2 ^ 128)).0 e) (number_ok k f) ∙ g) refl
        go true e true f false g = text_is (entry_text (Held r k)) ∙ rw (named_held r k ((Decides-ltb r (2 ^ 128)).0 e) (number_ok k f) ∙ g) refl
        go true e false f true g = refl
        go true e false f false g = refl
        go false e v f true g = refl
        go false e v f false g = refl

    backup_unnamed : (l : List ℕ) (k : ℕ) → names_one run l (entry_text (Backup k)) ≡ false
    unfolding entry_text
    backup_unnamed [] k = refl
    backup_unnamed (n ∷ l) k = backup_unnamed l k

    sequences_unnamed : (l : List ℕ) → names_one run l (entry_text Sequences) ≡ false
    unfolding entry_text
    sequences_unnamed [] = refl
    sequences_unnamed (n ∷ l) = sequences_unnamed l

    context_unnamed : (l : List ℕ) → names_one run l context_name ≡ false
    unfolding entry_text
    context_unnamed [] = refl
    context_unnamed (n ∷ l) = context_unnamed l

    folder_cleared : folder_at d p ≡ unheld run ns (folder_at c p)
    unfolding entry_text
    folder_cleared = λ i. record {
      messages = λ k. numbered_same k (d.texts p (decimal k)) (c.texts p (decimal k)) (λ ok. cleared_other (decimal k) (number_unnamed ns good k ok)) i;
      removed = λ k. numbered_same k (d.texts p (entry_text (Backup k))) (c.texts p (entry_text (Backup k))) (λ ok. cleared_other (entry_text (Backup k)) (backup_unnamed ns k)) i;
      held = λ r k. held_at r k i;
      sequences = cleared_other (entry_text Sequences) (sequences_unnamed ns) i;
    }

    elsewhere : (q : Place) (x : List ℕ) → same_place p q ≡ false → d.texts q x ≡ c.texts q x
    elsewhere q x e = rw e refl

    pub shows_cleared : mailbox_in d ≡ with_folder_changed (mailbox_in c) p (unheld run ns)
    shows_cleared = shows_folder c d path name (unheld run ns) (λ q. refl) folder_cleared elsewhere (cleared_other context_name (context_unnamed ns)) refl
