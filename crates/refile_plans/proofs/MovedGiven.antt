-- What messages that go to other folders give alone, one after another.
use Rattle.std.proofs.Common.{◌≡◌, ◌⊎◌, inl, inr, ◌<◌, ◌≤◌, ◌^◌, ◌+◌, ◌||◌, ◌==◌, ◌∷◌, [], ℕ, Bool, true, false, List, Option, Some, None, Result, Ok, Err, refl, sym, ◌∙◌, ap, subst, arith, nat_le, nat_lt, length, map}
use Rattle.std.specs.Prelude.{decimal, is_some, if◌then◌else◌}
use Rattle.std.proofs.lemmas.Bool.Decides.{Decides-eqb, nat_tests}
use Rattle.mh_base.specs.Entries.{entry_text, kind_of}
use Rattle.mh_base.specs.Numbers.{IsMsgNum}
use Rattle.mh_base.specs.declared.entry.Entry.TheVariants.{Held, Number}
use Rattle.msg_ranges.proofs.Rising.{Rise, lists, none_below, first_of, rest_of}
use Rattle.folder_files.specs.Named.{is_held, is_number}
use Rattle.folder_files.specs.declared.place.Place.{Place}
use Rattle.folder_files.specs.declared.place.Place.TheVariants.{Folder}
use Rattle.folder_files.proofs.Names.{not_both}
use Rattle.file_plans.specs.Contents.{Contents, mailbox_in, with_text}
use Rattle.file_plans.specs.Giving.{Gives}
use Rattle.file_plans.specs.Plan.{Hand, after, converted, ◌>>=◌}
use Rattle.file_plans.specs.Views.{View, by_view}
use Rattle.file_plans.proofs.Giving.{gives_more, gives_on, gives_then}
use Rattle.file_plans.proofs.Onward.{Is}
use Rattle.file_plans.proofs.Showing.{foreign}
use Rattle.mh_looks.proofs.Apart.{names_apart}
use Rattle.held_messages.specs.HeldPairs.{with_folder_changed}
use Rattle.step_plans.specs.ContextCommit.{LIMIT_BYTES}
use Rattle.step_plans.specs.declared.command_fault.CommandFault.{CommandFault}
use Rattle.step_plans.specs.declared.command_fault.CommandFault.TheVariants as command
use Rattle.step_plans.specs.declared.fault.PlanFault.{PlanFault}
use Rattle.step_plans.specs.declared.fault.PlanFault.TheVariants as fault
use Rattle.step_plans.proofs.Replaced.{Left}
use Rattle.command_stages.specs.Endings.{of_plan}
use Rattle.command_stages.specs.Texts.{too_large}
use Rattle.opening_plans.specs.Kept.{Commits, Kept, kept_of, too_long}
use Rattle.message_moves.specs.Copying.{copied_to_all, message_copied, messages_copied}
use Rattle.message_moves.specs.Moving.{content_read}
use Rattle.message_moves.specs.RefiledAlone.{copied_in, raised, refiled_in}
use Rattle.message_moves.specs.Refiling.{message_refiled, messages_refiled}
use Rattle.message_moves.specs.declared.destination.Destination.{Destination}
use Rattle.message_moves.proofs.MoveGiven.{Reads, aside, content_gives}
use Rattle.message_moves.proofs.RefiledGiven.{Copies, HaveRoom, IsElsewhere, Refiled, copied_elsewhere, copied_there, copies_give, message_gives}
use Rattle.refile_plans.specs.MailMoved.{Moves, copied_from, with_aside, gone_from, mail_moved, message_of, where_message}
use Rattle.refile_plans.proofs.MovedShown.{aside_other, held_number, held_other, message_shown, shows_aside, shows_copies}
use Rattle.refile_plans.proofs.Roomy.{AreRoomy, all_kept, copied_quiet, copied_roomy, have_room, not_same, raised_elsewhere}
use Rattle.mh_base.proofs.NumberTests.{AreNumbers}

-- numbers that rise from one on are not below it
pub not_below : (low : ℕ) (numbers : List ℕ) → Rise low numbers → (k : ℕ) → lists numbers k ≡ true → low ≤ k
not_below low numbers rise k e = go (nat_le low k) refl
  where
    go : (b : Bool) → nat_le low k ≡ b → low ≤ k
    go true f = grind (arith, nat_tests, f)
    go false f = absurd (not_both (lists numbers k) e (none_below low numbers rise k (below f)))
      where
        below : nat_le low k ≡ false → k < low
        below g = grind (arith, nat_tests, g)

-- of message numbers each is one
pub number_among : (numbers : List ℕ) → AreNumbers numbers → (k : ℕ) → lists numbers k ≡ true → IsMsgNum k
number_among [] ok k e = cc (e)
number_among (n ∷ numbers) ok k e = go (n == k) refl (λ f. number_among numbers ok.1 k f) e
  where
    go : (b : Bool) → (n == k) ≡ b → (lists numbers k ≡ true → IsMsgNum k) → b || lists numbers k ≡ true → IsMsgNum k
    go true f more g = subst IsMsgNum ((Decides-eqb n k).0 f) ok.0
    go false f more g = more g

-- what is there is something
pub some_of : (o : Option (List ℕ)) → is_some o ≡ true → (b : List ℕ) × (o ≡ Some b)
some_of None e = cc (e)
some_of (Some b) e = (b, refl)

-- the directories that are there, and what names lead to that are neither numbers nor of messages held aside, are as they were
pub record AreQuiet (c d : Contents) : Type 0 where
  pub there : (q : Place) → d.there q ≡ c.there q
  pub names : (q : Place) (x : List ℕ) → is_number (kind_of x) ≡ false → is_held (kind_of x) ≡ false → d.texts q x ≡ c.texts q x

-- nothing was changed
quiet_self : (c : Contents) → AreQuiet c c
quiet_self c = record { there = λ q. refl; names = λ q x e f. refl }

-- one after another
quiet_both : (c d e : Contents) → AreQuiet c d → AreQuiet d e → AreQuiet c e
quiet_both c d e f g = record { there = λ q. g.there q ∙ f.there q; names = λ q x isnt nor. g.names q x isnt nor ∙ f.names q x isnt nor }

-- how messages went: all did, and these are the contents; or one was too long; or memory was wanting
abbrev pub Moved : Commits → Contents → Hand → View → Hand → List ℕ → Result (List Destination) CommandFault → Type 0
Moved w c h z j left (Ok es) = (w.long ≡ None) × ((d : Contents) × Is true z.numbers z d × (mailbox_in d ≡ w.kept.mailbox) × AreQuiet c d × (j.context ≡ h.context))
Moved w c h z j left (Err e) = (e ≡ command.Memory) ⊎ ((l : ℕ) × (w.long ≡ Some l) × (e ≡ too_large l) × (mailbox_in z.contents ≡ w.kept.mailbox))

-- later ones went too
moved_on : (w : Commits) (c d : Contents) (h i : Hand) → AreQuiet c d → i.context ≡ h.context → (z : View) (j : Hand) (left : List ℕ) (r : Result (List Destination) CommandFault) → Moved w d i z j left r → Moved w c h z j left r
moved_on w c d h i quiet same z j left (Ok es) f = (f.0, (f.1.0, f.1.1, f.1.2, quiet_both c d f.1.0 quiet f.1.3, f.1.4 ∙ same))
moved_on w c d h i quiet same z j left (Err e) f = f

-- what the definitions come to
module _ (moves : Moves) (p : Place) (n : ℕ) (ns : List ℕ) (to : List Destination) (k : Kept) (bytes : List ℕ) (there : message_of (k.mailbox.folders p) n ≡ Some bytes) where
  -- a message that goes, and the others after it
  abbrev goes_on : Commits
  goes_on = mail_moved moves p ns (map raised to) (kept_of (moves.goes n bytes to k.mailbox) k.entries)

  -- a message that is too long
  abbrev ends_here : Commits
  ends_here = too_long (kept_of (moves.stays n bytes k.mailbox) k.entries) (length bytes)

  -- its length decides
  moved_by : mail_moved moves p (n ∷ ns) to k ≡ (if nat_lt LIMIT_BYTES (length bytes) then ends_here else goes_on)
  unfolding mail_moved
  moved_by =
      ap (λ o. where_message o (mail_moved moves p ns to k) (λ b. if nat_lt LIMIT_BYTES (length b) then too_long (kept_of (moves.stays n b k.mailbox) k.entries) (length b) else mail_moved moves p ns (map raised to) (kept_of (moves.goes n b to k.mailbox) k.entries))) there

  -- where it is not too long
  moved_short : nat_lt LIMIT_BYTES (length bytes) ≡ false → mail_moved moves p (n ∷ ns) to k ≡ goes_on
  moved_short short = moved_by ∙ ap (λ b. if b then ends_here else goes_on) short

  -- where it is
  moved_long : nat_lt LIMIT_BYTES (length bytes) ≡ true → mail_moved moves p (n ∷ ns) to k ≡ ends_here
  moved_long long = moved_by ∙ ap (λ b. if b then ends_here else goes_on) long

module _ (run : ℕ) (few : run < 2 ^ 128) (path source : List ℕ) where
  abbrev p : Place
  p = Folder path source

  -- the messages of these numbers stand in the source, and each destination has room for as many
  pub record AreReady (c : Contents) (to : List Destination) (ns : List ℕ) : Type 0 where
    pub there : c.there p ≡ true
    pub off : IsElsewhere p to
    pub rooms : AreRoomy path c to (length ns)
    pub stand : (n : ℕ) → lists ns n ≡ true → is_some (c.texts p (decimal n)) ≡ true

  module _ (n : ℕ) (ns : List ℕ) (c : Contents) (rise : Rise (n + 1) ns) (all : AreNumbers (n ∷ ns)) (to : List Destination) (ready : AreReady c to (n ∷ ns)) (k : Kept) (shows : mailbox_in c ≡ k.mailbox) where
    ok : IsMsgNum n
    ok = all.0

    -- the first of them stands there
    first_text : (b : List ℕ) × (c.texts p (decimal n) ≡ Some b)
    first_text = some_of (c.texts p (decimal n)) (first_of {F = λ m. is_some (c.texts p (decimal m)) ≡ true} n ns ready.stand)

    abbrev bytes : List ℕ
    bytes = first_text.0

    -- so it does under its name
    stands : c.texts p (entry_text (Number n)) ≡ Some bytes
    unfolding entry_text
    stands = first_text.1

    -- and by the mailbox
    told : message_of (k.mailbox.folders p) n ≡ Some bytes
    told = ap (λ m. message_of (m.folders p) n) (sym shows) ∙ (message_shown c path source n ready.there ok ∙ first_text.1)

    -- the others are message numbers above it
    others_number : (m : ℕ) → lists ns m ≡ true → IsMsgNum m
    others_number m e = number_among ns all.1 m e

    others_above : (m : ℕ) → lists ns m ≡ true → n < m
    others_above m e = let l : n + 1 ≤ m = not_below (n + 1) ns rise m e in omega (arith, l)

    -- each destination has room for it
    room : HaveRoom c to
    room = have_room path c to (length ns) ready.rooms

    -- once it was copied
    abbrev copied : Contents
    copied = copied_in c bytes to

    -- the others are ready then
    copied_ready : AreReady copied (map raised to) ns
    copied_ready = record {
      there = copied_there bytes to c p ∙ ready.there;
      off = raised_elsewhere path bytes p to ready.off;
      rooms = copied_roomy path bytes to c (length ns) ready.rooms;
      stand = λ m e. ap is_some (copied_elsewhere bytes to c p (decimal m) ready.off) ∙ rest_of {F = λ i. is_some (c.texts p (decimal i)) ≡ true} n ns ready.stand m e;
    }

    -- nothing else is changed
    quiet_copied : AreQuiet c copied
    quiet_copied = record { there = λ q. copied_there bytes to c q; names = λ q x isnt nor. copied_quiet path bytes to c (length ns) ready.rooms q x isnt }

    -- so it shows
    shows_copied : mailbox_in copied ≡ (copied_from).goes n bytes to k.mailbox
    shows_copied = shows_copies path bytes to c (length ns) ready.rooms ∙ ap (λ m. (copied_from).goes n bytes to m) shows

    -- once it is gone
    abbrev gone : Contents
    gone = refiled_in c p run n bytes to

    -- nothing else is changed
    quiet_gone : AreQuiet c gone
    quiet_gone = record {
      there = λ q. copied_there bytes to c q;
      names = λ q x isnt nor. aside_other run few path source n ok None copied q x (held_other run few path source n ok None copied x nor) (foreign n ok x isnt) ∙ copied_quiet path bytes to c (length ns) ready.rooms q x isnt;
    }

    -- the others stand where they stood
    still_number : (m : ℕ) → lists ns m ≡ true → gone.texts p (decimal m) ≡ copied.texts p (decimal m)
    still_number m e =
        aside_other run few path source n ok None copied p (decimal m) (held_number run few path source n ok None copied m (others_number m e))
        (names_apart n m ok (others_number m e) (not_same path n m (others_above m e)))

    -- they are ready then
    gone_ready : AreReady gone (map raised to) ns
    gone_ready = record {
      there = copied_ready.there;
      off = copied_ready.off;
      rooms =
          all_kept path (with_text copied p (entry_text (Number n)) None) p (entry_text (Held run n)) None (map raised to) (length ns) copied_ready.off
          (all_kept path copied p (entry_text (Number n)) None (map raised to) (length ns) copied_ready.off copied_ready.rooms);
      stand = λ m e. ap is_some (still_number m e) ∙ copied_ready.stand m e;
    }

    -- so it shows
    shows_left : mailbox_in gone ≡ (gone_from run p).goes n bytes to k.mailbox
    shows_left = shows_aside run few path source n ok None copied ∙ ap (λ m. with_folder_changed m p (with_aside run n None)) shows_copied

    -- so one shows that is held aside
    shows_held : mailbox_in (aside c p run n bytes) ≡ (gone_from run p).stays n bytes k.mailbox
    shows_held = shows_aside run few path source n ok (Some bytes) c ∙ ap (λ m. (gone_from run p).stays n bytes m) shows

    -- a message that is copied, where it is not too long
    abbrev Copied : Hand → View → Hand → List ℕ → Result (List Destination) CommandFault → Type 0
    Copied h z j left (Ok es) = (nat_lt LIMIT_BYTES (length bytes) ≡ false) × (es ≡ map raised to) × Is true z.numbers z copied × (j.context ≡ h.context)
    Copied h z j left (Err e) = (e ≡ command.Memory) ⊎ ((nat_lt LIMIT_BYTES (length bytes) ≡ true) × (e ≡ too_large (length bytes)) × Is true z.numbers z c)

    -- once it was read
    copied_by : (h : Hand) (ms : List ℕ) (y : View) (i : Hand) (rest : List ℕ) (b : Bool) → nat_lt LIMIT_BYTES (length bytes) ≡ b → (r : Result (List ℕ) PlanFault) → r ≡ (if b then Err (fault.TooLarge (length bytes)) else Ok bytes) → Left true ms c h y i
        → Gives (by_view true) y i rest (after (λ x. copied_to_all run x to []) (converted (of_plan source) r)) (Copied h)
    unfolding Gives
    copied_by h ms y i rest true long r is l = subst (λ q. Gives (by_view true) y i rest (after (λ x. copied_to_all run x to []) (converted (of_plan source) q)) (Copied h)) (sym is) (inr (long, refl, (l.is.0, refl)))
    copied_by h ms y i rest false short r is l =
        subst (λ q. Gives (by_view true) y i rest (after (λ x. copied_to_all run x to []) (converted (of_plan source) q)) (Copied h)) (sym is)
        (gives_more (by_view true) y i rest (copied_to_all run bytes to []) (Copies run few bytes c to [] i) (Copied h) (copies_give run few bytes to [] c room ms y i rest l.is) ended)
      where
        ended : (z : View) (j : Hand) (left : List ℕ) (q : Result (List Destination) CommandFault) → Copies run few bytes c to [] i z j left q → Copied h z j left q
        ended z j left (Ok es) f = (short, f.0, f.1, f.2 ∙ ap (λ x. x.context) l.hand)
        ended z j left (Err e) f = inl f

    -- one message is copied
    one_copied : (ms : List ℕ) (v : View) (h : Hand) (text : List ℕ) → Is true ms v c → Gives (by_view true) v h text (message_copied run source p n to) (Copied h)
    unfolding message_copied
    one_copied ms v h text is =
        gives_then (by_view true) v h text (of_plan source) (content_read p (entry_text (Number n))) (λ b. copied_to_all run b to []) (Reads ms c bytes h) (Copied h)
        (content_gives p (entry_text (Number n)) bytes c stands ms v h text is)
        (λ y i rest r f. copied_by h ms y i rest (nat_lt LIMIT_BYTES (length bytes)) refl r f.value f.same)

    -- and then the others
    copied_then : ((z : View) (j : Hand) (left : List ℕ) → Is true z.numbers z copied
        → Gives (by_view true) z j left (messages_copied run source p ns (map raised to)) (Moved (mail_moved copied_from p ns (map raised to) (kept_of ((copied_from).goes n bytes to k.mailbox) k.entries)) copied j))
        → (ms : List ℕ) (v : View) (h : Hand) (text : List ℕ) → Is true ms v c → Gives (by_view true) v h text (message_copied run source p n to >>= (λ later. messages_copied run source p ns later)) (Moved (mail_moved copied_from p (n ∷ ns) to k) c h)
    copied_then next ms v h text is =
        gives_on (by_view true) v h text (message_copied run source p n to) (λ later. messages_copied run source p ns later) (Copied h) (Moved (mail_moved copied_from p (n ∷ ns) to k) c h)
        (one_copied ms v h text is)
        (λ z j left es g. good z j left es g.0 g.1 g.2 g.3)
        bad
      where
        good : (z : View) (j : Hand) (left : List ℕ) (es : List Destination) → nat_lt LIMIT_BYTES (length bytes) ≡ false → es ≡ map raised to → Is true z.numbers z copied → j.context ≡ h.context
            → Gives (by_view true) z j left (messages_copied run source p ns es) (Moved (mail_moved copied_from p (n ∷ ns) to k) c h)
        good z j left es short same at context =
            subst (λ x. Gives (by_view true) z j left (messages_copied run source p ns x) (Moved (mail_moved copied_from p (n ∷ ns) to k) c h)) (sym same)
            (subst (λ w. Gives (by_view true) z j left (messages_copied run source p ns (map raised to)) (Moved w c h)) (sym (moved_short copied_from p n ns to k bytes told short))
            (gives_more (by_view true) z j left (messages_copied run source p ns (map raised to)) (Moved (mail_moved copied_from p ns (map raised to) (kept_of ((copied_from).goes n bytes to k.mailbox) k.entries)) copied j)
            (Moved (mail_moved copied_from p ns (map raised to) (kept_of ((copied_from).goes n bytes to k.mailbox) k.entries)) c h)
            (next z j left at)
            (moved_on (mail_moved copied_from p ns (map raised to) (kept_of ((copied_from).goes n bytes to k.mailbox) k.entries)) c copied h j quiet_copied context)))

        bad : (z : View) (j : Hand) (left : List ℕ) (e : CommandFault) → Copied h z j left (Err e) → Moved (mail_moved copied_from p (n ∷ ns) to k) c h z j left (Err e)
        bad z j left e (inl f) = inl f
        bad z j left e (inr f) =
            let w = moved_long copied_from p n ns to k bytes told f.0 in
            inr (length bytes, ap (λ x. x.long) w, f.1, ap mailbox_in (f.2.0 refl) ∙ (shows ∙ sym (ap (λ x. x.kept.mailbox) w)))

  -- the messages are copied
  pub copies_go : (ns : List ℕ) (low : ℕ) → Rise low ns → AreNumbers ns → (to : List Destination) (c : Contents) → AreReady c to ns → (k : Kept) → mailbox_in c ≡ k.mailbox → (ms : List ℕ) (v : View) (h : Hand) (text : List ℕ) → Is true ms v c
      → Gives (by_view true) v h text (messages_copied run source p ns to) (Moved (mail_moved copied_from p ns to k) c h)
  unfolding Gives messages_copied mail_moved
  copies_go [] low rise all to c ready k shows ms v h text is = (refl, (c, (is.0, refl), shows, quiet_self c, refl))
  copies_go (n ∷ ns) low rise all to c ready k shows ms v h text is =
      copied_then n ns c rise.1 all to ready k shows
      (λ z j left at.
      copies_go ns (n + 1) rise.1 all.1 (map raised to) (copied n ns c rise.1 all to ready k shows) (copied_ready n ns c rise.1 all to ready k shows)
      (kept_of ((copied_from).goes n (bytes n ns c rise.1 all to ready k shows) to k.mailbox) k.entries) (shows_copied n ns c rise.1 all to ready k shows) z.numbers z j left at)
      ms v h text is

  -- one goes, and then the others
  module _ (n : ℕ) (ns : List ℕ) (c : Contents) (rise : Rise (n + 1) ns) (all : AreNumbers (n ∷ ns)) (d : Destination) (ds : List Destination) (ready : AreReady c (d ∷ ds) (n ∷ ns)) (k : Kept) (shows : mailbox_in c ≡ k.mailbox) where
    abbrev to : List Destination
    to = d ∷ ds

    abbrev b : List ℕ
    b = bytes n ns c rise all to ready k shows

    abbrev left_contents : Contents
    left_contents = refiled_in c p run n b to

    abbrev goes_on_ : Commits
    goes_on_ = mail_moved (gone_from run p) p ns (map raised to) (kept_of ((gone_from run p).goes n b to k.mailbox) k.entries)

    abbrev all_ : Commits
    all_ = mail_moved (gone_from run p) p (n ∷ ns) to k

    -- one message goes
    abbrev One : Hand → View → Hand → List ℕ → Result (List Destination) CommandFault → Type 0
    One h = Refiled run few source p n all.0 b c ready.there (stands n ns c rise all to ready k shows) d ds ready.off (room n ns c rise all to ready k shows) h

    -- and the others go after it
    gone_then : ((z : View) (j : Hand) (left : List ℕ) → Is true z.numbers z left_contents → Gives (by_view true) z j left (messages_refiled run source p ns (map raised to)) (Moved goes_on_ left_contents j))
        → (ms : List ℕ) (v : View) (h : Hand) (text : List ℕ) → Is true ms v c → Gives (by_view true) v h text (message_refiled run source p n to >>= (λ later. messages_refiled run source p ns later)) (Moved all_ c h)
    gone_then next ms v h text is =
        gives_on (by_view true) v h text (message_refiled run source p n to) (λ later. messages_refiled run source p ns later) (One h) (Moved all_ c h)
        (message_gives run few source p n all.0 b c ready.there (stands n ns c rise all to ready k shows) d ds ready.off (room n ns c rise all to ready k shows) ms v h text is)
        (λ z j left es g. good z j left es g.0 g.1 g.2 g.3)
        bad
      where
        good : (z : View) (j : Hand) (left : List ℕ) (es : List Destination) → nat_lt LIMIT_BYTES (length b) ≡ false → es ≡ map raised to → Is true z.numbers z left_contents → j.context ≡ h.context
            → Gives (by_view true) z j left (messages_refiled run source p ns es) (Moved all_ c h)
        good z j left es short same at context =
            subst (λ x. Gives (by_view true) z j left (messages_refiled run source p ns x) (Moved all_ c h)) (sym same)
            (subst (λ w. Gives (by_view true) z j left (messages_refiled run source p ns (map raised to)) (Moved w c h)) (sym (moved_short (gone_from run p) p n ns to k b (told n ns c rise all to ready k shows) short))
            (gives_more (by_view true) z j left (messages_refiled run source p ns (map raised to)) (Moved goes_on_ left_contents j) (Moved goes_on_ c h) (next z j left at)
            (moved_on goes_on_ c left_contents h j (quiet_gone n ns c rise all to ready k shows) context)))

        bad : (z : View) (j : Hand) (left : List ℕ) (e : CommandFault) → One h z j left (Err e) → Moved all_ c h z j left (Err e)
        bad z j left e (inl f) = inl f
        bad z j left e (inr f) =
            let w = moved_long (gone_from run p) p n ns to k b (told n ns c rise all to ready k shows) f.0 in
            inr (length b, ap (λ x. x.long) w, f.1, ap mailbox_in (f.2.0 refl) ∙ (shows_held n ns c rise all to ready k shows ∙ sym (ap (λ x. x.kept.mailbox) w)))

  -- the messages leave for the other folders, of which there is one at least
  pub messages_go : (ns : List ℕ) (low : ℕ) → Rise low ns → AreNumbers ns → (d : Destination) (ds : List Destination) (c : Contents) → AreReady c (d ∷ ds) ns → (k : Kept) → mailbox_in c ≡ k.mailbox → (ms : List ℕ) (v : View) (h : Hand) (text : List ℕ) → Is true ms v c
      → Gives (by_view true) v h text (messages_refiled run source p ns (d ∷ ds)) (Moved (mail_moved (gone_from run p) p ns (d ∷ ds) k) c h)
  unfolding Gives messages_refiled mail_moved
  messages_go [] low rise all d ds c ready k shows ms v h text is = (refl, (c, (is.0, refl), shows, quiet_self c, refl))
  messages_go (n ∷ ns) low rise all d ds c ready k shows ms v h text is =
      gone_then n ns c rise.1 all d ds ready k shows
      (λ z j left at.
      messages_go ns (n + 1) rise.1 all.1 (raised d) (map raised ds) (left_contents n ns c rise.1 all d ds ready k shows) (gone_ready n ns c rise.1 all (d ∷ ds) ready k shows)
      (kept_of ((gone_from run p).goes n (bytes n ns c rise.1 all (d ∷ ds) ready k shows) (d ∷ ds) k.mailbox) k.entries) (shows_left n ns c rise.1 all (d ∷ ds) ready k shows) z.numbers z j left at)
      ms v h text is
