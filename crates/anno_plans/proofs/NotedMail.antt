-- What messages that get lines give alone, one after another.
use Rattle.std.proofs.Common.{◌≡◌, ◌⊎◌, inl, inr, ◌<◌, ◌≤◌, ◌^◌, ◌+◌, ◌++◌, ◌∷◌, ◌&&◌, [], ℕ, Bool, true, false, List, Option, Some, None, Result, Ok, Err, max, refl, sym, ◌∙◌, ap, subst, arith, nat_lt, length, bytes_eq}
use Rattle.std.specs.Prelude.{decimal, is_some, if◌then◌else◌}
use Rattle.mh_base.specs.Entries.{entry_text}
use Rattle.mh_base.specs.Numbers.{IsMsgNum}
use Rattle.mh_base.specs.declared.entry.Entry.TheVariants.{Held, Number}
use Rattle.msg_ranges.proofs.Rising.{Rise, lists, first_of, rest_of}
use Rattle.folder_files.specs.Places.{same_place}
use Rattle.folder_files.specs.declared.place.Place.{Place}
use Rattle.folder_files.specs.declared.place.Place.TheVariants.{Folder}
use Rattle.folder_files.proofs.Names.{is_temp_unheld, is_temp_unnumbered}
use Rattle.file_plans.specs.Contents.{Contents, is_at, mailbox_in, with_text}
use Rattle.file_plans.specs.Giving.{Gives}
use Rattle.file_plans.specs.MailboxChanges.{with_message}
use Rattle.file_plans.specs.Plan.{Hand, ◌>>=◌}
use Rattle.file_plans.specs.Views.{View, by_view}
use Rattle.file_plans.proofs.Giving.{gives_more, gives_on}
use Rattle.file_plans.proofs.Onward.{Is}
use Rattle.file_plans.proofs.Showing.{foreign, shows_message}
use Rattle.mh_looks.proofs.Apart.{names_apart}
use Rattle.held_messages.specs.HeldPairs.{with_folder_changed}
use Rattle.held_messages.proofs.Shown.{with_text_turned}
use Rattle.step_plans.specs.ContextCommit.{LIMIT_BYTES}
use Rattle.step_plans.specs.Hands.{temp_name}
use Rattle.step_plans.specs.declared.fault.PlanFault.{PlanFault}
use Rattle.step_plans.specs.declared.fault.PlanFault.TheVariants as fault
use Rattle.step_plans.proofs.Named.{temp_is}
use Rattle.opening_plans.specs.Kept.{Commits, Kept, kept_of}
use Rattle.opening_plans.proofs.KeptGiven.{IsClear}
use Rattle.message_moves.specs.Moving.{readable}
use Rattle.message_moves.proofs.MoveGiven.{aside}
use Rattle.message_notes.specs.NotedAlone.{noted_in}
use Rattle.message_notes.specs.Noting.{message_noted, messages_noted}
use Rattle.message_notes.proofs.NotedGiven.{Noted, noted_gives}
use Rattle.refile_plans.specs.MailMoved.{message_of, where_message, with_aside}
use Rattle.refile_plans.proofs.MovedGiven.{AreQuiet, not_below, number_among, some_of}
use Rattle.refile_plans.proofs.MovedShown.{held_number, held_other, message_shown, shows_aside}
use Rattle.refile_plans.proofs.Roomy.{not_same}
use Rattle.anno_plans.specs.AnnoOutcome.{held_long, mail_noted, with_noted}
use Rattle.anno_plans.proofs.AnnoEntries.{by_length}
use Rattle.mh_base.proofs.NumberTests.{AreNumbers}

-- a reading that is too long
read_long : (l : List ℕ) (e : PlanFault) → readable l ≡ Err e → (nat_lt LIMIT_BYTES (length l) ≡ true) × (e ≡ fault.TooLarge (length l))
read_long l e is = go (nat_lt LIMIT_BYTES (length l)) refl is
  where
    go : (v : Bool) → nat_lt LIMIT_BYTES (length l) ≡ v → (if v then Err (fault.TooLarge (length l)) else Ok l) ≡ Err e → (nat_lt LIMIT_BYTES (length l) ≡ true) × (e ≡ fault.TooLarge (length l))
    go true long f = (long, (let same : e ≡ fault.TooLarge (length l) = cc (f) in same))
    go false short f = absurd (cc (f))

-- how messages got lines: all did, and these are the contents; or one was too long; or memory was wanting
abbrev pub Went : Commits → Contents → Hand → View → Hand → List ℕ → Result Unit PlanFault → Type 0
Went w c h z j left (Ok u) = (w.long ≡ None) × ((d : Contents) × Is true z.numbers z d × (mailbox_in d ≡ w.kept.mailbox) × AreQuiet c d × (j.context ≡ h.context))
Went w c h z j left (Err e) = (e ≡ fault.Memory) ⊎ ((l : ℕ) × (w.long ≡ Some l) × (e ≡ fault.TooLarge l) × (mailbox_in z.contents ≡ w.kept.mailbox))

went_on : (w : Commits) (c d : Contents) (h i : Hand) → AreQuiet c d → i.context ≡ h.context → (z : View) (j : Hand) (left : List ℕ) (r : Result Unit PlanFault) → Went w d i z j left r → Went w c h z j left r
went_on w c d h i quiet same z j left (Ok u) f =
    (f.0, (f.1.0, f.1.1, f.1.2, record { there = λ q. f.1.3.there q ∙ quiet.there q; names = λ q x isnt nor. f.1.3.names q x isnt nor ∙ quiet.names q x isnt nor }, f.1.4 ∙ same))
went_on w c d h i quiet same z j left (Err e) f = f

module _ (run : ℕ) (few : run < 2 ^ 128) (path folder lines : List ℕ) where
  abbrev p : Place
  p = Folder path folder

  module _ (n : ℕ) (ns : List ℕ) (c : Contents) (rise : Rise (n + 1) ns) (all : AreNumbers (n ∷ ns)) (clear : IsClear c p) (stand : (m : ℕ) → lists (n ∷ ns) m ≡ true → is_some (c.texts p (decimal m)) ≡ true) (k : Kept) (shows : mailbox_in c ≡ k.mailbox) where
    ok : IsMsgNum n
    ok = all.0

    -- the first of them stands there, and by the mailbox
    first_text : (b : List ℕ) × (c.texts p (decimal n) ≡ Some b)
    first_text = some_of (c.texts p (decimal n)) (first_of {F = λ m. is_some (c.texts p (decimal m)) ≡ true} n ns stand)

    abbrev bytes : List ℕ
    bytes = first_text.0

    told : message_of (k.mailbox.folders p) n ≡ Some bytes
    told = ap (λ m. message_of (m.folders p) n) (sym shows) ∙ (message_shown c path folder n clear.there ok ∙ first_text.1)

    abbrev number : List ℕ
    number = entry_text (Number n)

    abbrev held : List ℕ
    held = entry_text (Held run n)

    abbrev new : List ℕ
    new = lines ++ bytes

    -- once it has the lines
    abbrev noted : Contents
    noted = noted_in c p run lines n bytes

    abbrev emptied : Contents
    emptied = with_text (with_text c p number None) p held None

    twice : (b : Bool) (o u : Option (List ℕ)) → (if b then o else (if b then None else u)) ≡ (if b then o else u)
    twice true o u = refl
    twice false o u = refl

    set_twice : with_text (with_text c p number None) p number (Some new) ≡ with_text c p number (Some new)
    set_twice = λ i. record { there = c.there; texts = λ q x. twice (is_at p number q x) (Some new) (c.texts q x) i; outside = c.outside }

    held_apart : bytes_eq held number ≡ false
    unfolding entry_text
    held_apart = held_number run few path folder n ok None c n ok

    -- it is as if it had first gone, and then been put
    noted_turned : noted ≡ with_text emptied p number (Some new)
    noted_turned = ap (λ d. with_text d p held None) (sym set_twice) ∙ sym (with_text_turned (with_text c p number None) p held number None (Some new) held_apart)

    number_is : with_text emptied p number (Some new) ≡ with_text emptied p (decimal n) (Some new)
    unfolding entry_text
    number_is = refl

    shows_noted : mailbox_in noted ≡ with_noted run p n new k.mailbox
    shows_noted =
        ap mailbox_in (noted_turned ∙ number_is)
        ∙ (shows_message n ok emptied path folder new ∙ ap (λ m. with_message m p n new) (shows_aside run few path folder n ok None c ∙ ap (λ m. with_folder_changed m p (with_aside run n None)) shows))

    shows_held : mailbox_in (aside c p run n bytes) ≡ with_folder_changed k.mailbox p (with_aside run n (Some bytes))
    shows_held = shows_aside run few path folder n ok (Some bytes) c ∙ ap (λ m. with_folder_changed m p (with_aside run n (Some bytes))) shows

    -- other names lead to what they led to
    noted_decimal : noted ≡ with_text (with_text c p (decimal n) (Some new)) p held None
    unfolding entry_text
    noted_decimal = refl

    other : (q : Place) (x : List ℕ) → bytes_eq held x ≡ false → bytes_eq (decimal n) x ≡ false → noted.texts q x ≡ c.texts q x
    other q x e f = ap (λ d. d.texts q x) noted_decimal ∙ go (same_place p q)
      where
        go : (b : Bool) → (if b && bytes_eq held x then None else (if b && bytes_eq (decimal n) x then Some new else c.texts q x)) ≡ c.texts q x
        go true = rw (e, f) refl
        go false = refl

    quiet : AreQuiet c noted
    quiet = record { there = λ q. refl; names = λ q x isnt nor. other q x (held_other run few path folder n ok None c x nor) (foreign n ok x isnt) }

    clear_then : IsClear noted p
    clear_then = record { there = clear.there; free = λ x t. quiet.names p x (is_temp_unnumbered x t) (is_temp_unheld x t) ∙ clear.free x t }

    others_above : (m : ℕ) → lists ns m ≡ true → n < m
    others_above m e = let l : n + 1 ≤ m = not_below (n + 1) ns rise m e in omega (arith, l)

    stand_then : (m : ℕ) → lists ns m ≡ true → is_some (noted.texts p (decimal m)) ≡ true
    stand_then m e =
        let good : IsMsgNum m = number_among ns all.1 m e in
        ap is_some (other p (decimal m) (held_number run few path folder n ok None c m good) (names_apart n m ok good (not_same path n m (others_above m e))))
        ∙ rest_of {F = λ i. is_some (c.texts p (decimal i)) ≡ true} n ns stand m e

    -- its length decides
    abbrev all_ : Commits
    all_ = mail_noted run p lines (n ∷ ns) k

    abbrev goes_on : Commits
    goes_on = mail_noted run p lines ns (kept_of (with_noted run p n new k.mailbox) k.entries)

    by_one : all_ ≡ by_length run p lines n ns k bytes
    unfolding mail_noted
    by_one = ap (λ o. where_message o (mail_noted run p lines ns k) (by_length run p lines n ns k)) told

    where_short : nat_lt LIMIT_BYTES (length bytes) ≡ false → nat_lt LIMIT_BYTES (length new) ≡ false → all_ ≡ goes_on
    where_short short fits = by_one ∙ rw (short, fits) refl

    where_long : nat_lt LIMIT_BYTES (length bytes) ≡ true → all_ ≡ held_long run p n bytes (length bytes) k
    where_long long = by_one ∙ rw long refl

    where_longer : nat_lt LIMIT_BYTES (length bytes) ≡ false → nat_lt LIMIT_BYTES (length new) ≡ true → all_ ≡ held_long run p n bytes (length new) k
    where_longer short long = by_one ∙ rw (short, long) refl

    abbrev One : ℕ → List ℕ → Hand → View → Hand → List ℕ → Result ℕ PlanFault → Type 0
    One top ms h = Noted run few p lines n ok bytes c clear.there first_text.1 top ms h

    too_long_ends : (z : View) (j : Hand) (left : List ℕ) (h : Hand) (l : List ℕ) (e : PlanFault) → readable l ≡ Err e → ((l ≡ bytes) ⊎ ((nat_lt LIMIT_BYTES (length bytes) ≡ false) × (l ≡ new))) → z.contents ≡ aside c p run n bytes → Went all_ c h z j left (Err e)
    too_long_ends z j left h l e is (inl same) at =
        let r = read_long bytes e (ap readable (sym same) ∙ is) in
        let w = where_long r.0 in inr (length bytes, ap (λ x. x.long) w, r.1, ap mailbox_in at ∙ (shows_held ∙ sym (ap (λ x. x.kept.mailbox) w)))
    too_long_ends z j left h l e is (inr (short, same)) at =
        let r = read_long new e (ap readable (sym same) ∙ is) in
        let w = where_longer short r.0 in inr (length new, ap (λ x. x.long) w, r.1, ap mailbox_in at ∙ (shows_held ∙ sym (ap (λ x. x.kept.mailbox) w)))

    -- one message gets the lines, and the others after it
    noted_then : ((z : View) (j : Hand) (left : List ℕ) (most : ℕ) → Is true z.numbers z noted → Gives (by_view true) z j left (messages_noted run p lines ns most) (Went goes_on noted j))
        → (ms : List ℕ) (v : View) (h : Hand) (text : List ℕ) (top : ℕ) → Is true ms v c → Gives (by_view true) v h text (message_noted run p lines n top >>= (λ m. messages_noted run p lines ns (max top m))) (Went all_ c h)
    noted_then next ms v h text top is =
        gives_on (by_view true) v h text (message_noted run p lines n top) (λ m. messages_noted run p lines ns (max top m)) (One top ms h) (Went all_ c h)
        (noted_gives run few p lines n ok bytes c clear.there first_text.1 top ms h (λ named. clear.free (temp_name run h.next) (temp_is run h.next few named)) v text is)
        good bad
      where
        good : (z : View) (j : Hand) (left : List ℕ) (m : ℕ) → One top ms h z j left (Ok m) → Gives (by_view true) z j left (messages_noted run p lines ns (max top m)) (Went all_ c h)
        good z j left m g =
            subst (λ w. Gives (by_view true) z j left (messages_noted run p lines ns (max top m)) (Went w c h)) (sym (where_short g.0 g.1))
            (gives_more (by_view true) z j left (messages_noted run p lines ns (max top m)) (Went goes_on noted j) (Went goes_on c h) (next z j left (max top m) ((λ e. g.3), refl))
            (went_on goes_on c noted h j quiet (ap (λ x. x.context) g.5)))

        bad : (z : View) (j : Hand) (left : List ℕ) (e : PlanFault) → One top ms h z j left (Err e) → Went all_ c h z j left (Err e)
        bad z j left e (inl f) = inl f
        bad z j left e (inr f) = too_long_ends z j left h f.0 e f.1 f.2 f.3

  -- the messages get the lines
  pub all_noted : (ns : List ℕ) (low : ℕ) → Rise low ns → AreNumbers ns → (c : Contents) → IsClear c p → ((m : ℕ) → lists ns m ≡ true → is_some (c.texts p (decimal m)) ≡ true) → (k : Kept) → mailbox_in c ≡ k.mailbox
      → (ms : List ℕ) (v : View) (h : Hand) (text : List ℕ) (top : ℕ) → Is true ms v c → Gives (by_view true) v h text (messages_noted run p lines ns top) (Went (mail_noted run p lines ns k) c h)
  unfolding Gives messages_noted mail_noted
  all_noted [] low rise all c clear stand k shows ms v h text top is = (refl, (c, (is.0, refl), shows, record { there = λ q. refl; names = λ q x e f. refl }, refl))
  all_noted (n ∷ ns) low rise all c clear stand k shows ms v h text top is =
      noted_then n ns c rise.1 all clear stand k shows
      (λ z j left most at.
      all_noted ns (n + 1) rise.1 all.1 (noted n ns c rise.1 all clear stand k shows) (clear_then n ns c rise.1 all clear stand k shows) (stand_then n ns c rise.1 all clear stand k shows)
      (kept_of (with_noted run p n (new n ns c rise.1 all clear stand k shows) k.mailbox) k.entries) (shows_noted n ns c rise.1 all clear stand k shows) z.numbers z j left most at)
      ms v h text top is
