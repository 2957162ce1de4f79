-- What changes of contents show of a mailbox.
use Rattle.std.proofs.Common.{◌≡◌, ◌&&◌, ℕ, ◌==◌, ◌<◌, ◌^◌, Bool, true, false, List, [], Option, Some, None, refl, sym, ◌∙◌, ap, arith, bytes_eq}
use Rattle.std.specs.Prelude.{option_map, nat_le, nat_lt, decimal, codes, if◌then◌else◌}
use Rattle.std.proofs.lemmas.Bool.Decides.{nat_tests, Decides-eqb, Decides-ltb}
use Rattle.std.proofs.lemmas.Slice.Eq.{bytes_eq-Decides}
use Rattle.mh_base.specs.Entries.{IsEntry, kind_of, entry_text}
use Rattle.std.specs.Fmt.{digits}
use Rattle.mh_base.specs.Numbers.{IsMsgNum, number_of, decimal_of}
use Rattle.mh_base.specs.declared.entry.Entry.{Entry}
use Rattle.mh_base.specs.declared.entry.Entry.TheVariants.{Number, Backup, Held, Temp, Sequences, LockFile, Other}
use Rattle.mh_base.proofs.EntryKinds.{kind_of-entry_text}
use Rattle.folder_files.specs.Named.{is_number, is_temp, is_held}
use Rattle.folder_files.specs.Places.{same_place, is_folder, is_mail, is_parent}
use Rattle.folder_files.specs.declared.place.Place.{Place}
use Rattle.folder_files.specs.declared.place.Place.TheVariants.{Home, Work, Mail, Folder}
use Rattle.folder_files.proofs.Names.{bytes_true, bytes_self, not_both, or_false, is_committed_quiet, is_committed_unown}
use Rattle.folder_files.proofs.Sameness.{at_all, place_is}
use Rattle.file_plans.specs.Contents.{Contents, mailbox_in, folder_at, with_text, with_folder}
use Rattle.file_plans.specs.MailboxChanges.{folder_with, with_message, with_context_text}
use Rattle.file_plans.specs.Mailboxes.{numbered, is_message_number, where_folder, where_mail}
use Rattle.file_plans.proofs.Clearing.{without_temps}
use Rattle.file_plans.proofs.NumberTexts.{number_back, number_below}

abbrev context_name : List ℕ
context_name = codes "context"

pub number_ok : (k : ℕ) → is_message_number k ≡ true → IsMsgNum k
number_ok k e = let b = number_below k e in (b.0, (let l : k < 1000000 = b.1 in omega (arith, l)))

pub is_number_of : (n : ℕ) → IsMsgNum n → is_message_number n ≡ true
is_number_of n ok =
    let low : nat_le 1 n ≡ true = grind (arith, nat_tests, ok.0) in
    let high : nat_le n 999999 ≡ true = grind (arith, nat_tests, ok.1) in
    rw (low, high) refl

pub number_kind : (n : ℕ) → IsMsgNum n → kind_of (decimal n) ≡ Number n
unfolding entry_text
number_kind n ok = kind_of-entry_text (Number n) ok

-- what shows of a folder by number, and by run and number
pub numbered_same : (k : ℕ) (o u : Option (List ℕ)) → (IsMsgNum k → o ≡ u) → numbered k o ≡ numbered k u
numbered_same k o u f = go (is_message_number k) refl
  where
    go : (v : Bool) → is_message_number k ≡ v → (if v then o else None) ≡ (if v then u else None)
    go true e = f (number_ok k e)
    go false e = refl

pub held_same : (r k : ℕ) (o u : Option (List ℕ)) → (r < 2 ^ 128 → IsMsgNum k → o ≡ u)
    → (if nat_lt r (2 ^ 128) then numbered k o else None) ≡ (if nat_lt r (2 ^ 128) then numbered k u else None)
held_same r k o u f = go (nat_lt r (2 ^ 128)) refl
  where
    go : (v : Bool) → nat_lt r (2 ^ 128) ≡ v → (if v then numbered k o else None) ≡ (if v then numbered k u else None)
    go true e = numbered_same k o u (f ((Decides-ltb r (2 ^ 128)).0 e))
    go false e = refl

-- the kinds of names that show of a folder
abbrev pub is_shown : Entry → Bool
is_shown (Number n) = true
is_shown (Backup n) = true
is_shown (Held r n) = true
is_shown (Temp r k) = false
is_shown Sequences = true
is_shown LockFile = false
is_shown Other = false

unshown_temp : (e : Entry) → is_shown e ≡ true → is_temp e ≡ false
unshown_temp (Temp r k) h = absurd (cc (h))
unshown_temp (Number n) h = refl
unshown_temp (Backup n) h = refl
unshown_temp (Held r n) h = refl
unshown_temp Sequences h = refl
unshown_temp LockFile h = refl
unshown_temp Other h = refl

context_unshown : is_shown (kind_of context_name) ≡ false
unfolding kind_of decimal_of digits
context_unshown = refl

pub context_is_no_temp : is_temp (kind_of context_name) ≡ false
context_is_no_temp = (or_false (is_temp (kind_of context_name)) (is_held (kind_of context_name)) (is_committed_unown (Mail []) context_name (bytes_self context_name))).0

pub context_no_number : is_number (kind_of context_name) ≡ false
context_no_number = (or_false (is_number (kind_of context_name)) (is_held (kind_of context_name)) (is_committed_quiet (Mail []) context_name (bytes_self context_name))).0

context_apart : (x : List ℕ) → is_shown (kind_of x) ≡ true → bytes_eq context_name x ≡ false
context_apart x s = go (bytes_eq context_name x) refl
  where
    go : (v : Bool) → bytes_eq context_name x ≡ v → v ≡ false
    go true e = absurd (not_both (is_shown (kind_of context_name)) (ap (λ z. is_shown (kind_of z)) (bytes_true context_name x e) ∙ s) context_unshown)
    go false e = refl

-- a folder where the names that show lead to the same
module _ (c d : Contents) (q : Place) (same : (x : List ℕ) → is_shown (kind_of x) ≡ true → d.texts q x ≡ c.texts q x) where
  named_same : (e : Entry) → IsEntry e → is_shown e ≡ true → d.texts q (entry_text e) ≡ c.texts q (entry_text e)
  named_same e ok s = same (entry_text e) (rw (kind_of-entry_text e ok) s)

  pub folder_same : folder_at d q ≡ folder_at c q
  folder_same = λ i. record {
    messages = λ k. numbered_same k (d.texts q (entry_text (Number k))) (c.texts q (entry_text (Number k))) (λ ok. named_same (Number k) ok refl) i;
    removed = λ k. numbered_same k (d.texts q (entry_text (Backup k))) (c.texts q (entry_text (Backup k))) (λ ok. named_same (Backup k) ok refl) i;
    held = λ r k. held_same r k (d.texts q (entry_text (Held r k))) (c.texts q (entry_text (Held r k))) (λ l ok. named_same (Held r k) (l, ok) refl) i;
    sequences = named_same Sequences tt refl i;
  }

-- contents that show the same: of folders the names that show, of mail directories the context, all of the home and the
-- current directory
pub record ShowSame (c d : Contents) : Type 0 where
  pub there : (q : Place) → is_folder q ≡ true → d.there q ≡ c.there q
  pub names : (q : Place) (x : List ℕ) → is_shown (kind_of x) ≡ true → d.texts q x ≡ c.texts q x
  pub home : (x : List ℕ) → d.texts Home x ≡ c.texts Home x
  pub work : (x : List ℕ) → d.texts Work x ≡ c.texts Work x
  pub context : (q : Place) → is_mail q ≡ true → d.texts q context_name ≡ c.texts q context_name
  pub outside : d.outside ≡ c.outside

module _ (c d : Contents) (same : ShowSame c d) where
  folders_same : (q : Place) → where_folder q (if d.there q then Some (folder_at d q) else None) ≡ where_folder q (if c.there q then Some (folder_at c q) else None)
  folders_same q = go (is_folder q) refl
    where
      go : (v : Bool) → is_folder q ≡ v → (if v then (if d.there q then Some (folder_at d q) else None) else None) ≡ (if v then (if c.there q then Some (folder_at c q) else None) else None)
      go true e = λ i. if same.there q e i then Some (folder_same c d q (same.names q) i) else None
      go false e = refl

  context_same : (q : Place) → where_mail q (d.texts q context_name) ≡ where_mail q (c.texts q context_name)
  context_same q = go (is_mail q) refl
    where
      go : (v : Bool) → is_mail q ≡ v → (if v then d.texts q context_name else None) ≡ (if v then c.texts q context_name else None)
      go true e = same.context q e
      go false e = refl

  pub shows_same : mailbox_in d ≡ mailbox_in c
  unfolding mailbox_in
  shows_same = λ i. record {
    folders = λ q. folders_same q i;
    home = λ x. same.home x i;
    work = λ x. same.work x i;
    context = λ q. context_same q i;
    outside = same.outside i;
  }

-- a new text under a number is a new message
module _ (n : ℕ) (ok : IsMsgNum n) where
  pub foreign : (x : List ℕ) → is_number (kind_of x) ≡ false → bytes_eq (decimal n) x ≡ false
  foreign x isnt = go (bytes_eq (decimal n) x) refl
    where
      go : (v : Bool) → bytes_eq (decimal n) x ≡ v → v ≡ false
      go true e = absurd (not_both (is_number (kind_of x)) (ap (λ z. is_number (kind_of z)) (sym (bytes_true (decimal n) x e)) ∙ rw (number_kind n ok) refl) isnt)
      go false e = refl

  same_number : (k : ℕ) → is_message_number k ≡ true → bytes_eq (decimal n) (decimal k) ≡ (n == k)
  same_number k may = go (bytes_eq (decimal n) (decimal k)) (n == k) refl refl
    where
      go : (v w : Bool) → bytes_eq (decimal n) (decimal k) ≡ v → (n == k) ≡ w → v ≡ w
      go true true e f = refl
      go true false e f =
          let back : Some n ≡ Some k = sym (number_back n (is_number_of n ok)) ∙ (ap number_of (bytes_true (decimal n) (decimal k) e) ∙ number_back k may) in
          let same : n ≡ k = cc in
          sym ((Decides-eqb n k).1 same) ∙ f
      go false true e f = let same : n ≡ k = (Decides-eqb n k).0 f in sym e ∙ (bytes_eq-Decides (decimal n) (decimal k)).1 (ap decimal same)
      go false false e f = refl

  pub message_at : (k : ℕ) (t o : Option (List ℕ)) → numbered k (if bytes_eq (decimal n) (decimal k) then t else o) ≡ (if n == k then t else numbered k o)
  message_at k t o = go (is_message_number k) (bytes_eq (decimal n) (decimal k)) (n == k) refl (same_number k) (λ e. ap is_message_number (sym ((Decides-eqb n k).0 e)) ∙ is_number_of n ok)
    where
      go : (m v w : Bool) → is_message_number k ≡ m → (is_message_number k ≡ true → v ≡ w) → (w ≡ true → is_message_number k ≡ true) → (if m then (if v then t else o) else None) ≡ (if w then t else (if m then o else None))
      go true v w e same may = rw (same e) refl
      go false v true e same may = absurd (not_both (is_message_number k) (may refl) e)
      go false v false e same may = refl

  module _ (c : Contents) (path name b : List ℕ) where
    abbrev p : Place
    p = Folder path name

    abbrev new : Contents
    new = with_text c p (decimal n) (Some b)

    apart : (q : Place) (x : List ℕ) → is_number (kind_of x) ≡ false → new.texts q x ≡ c.texts q x
    apart q x isnt = go (same_place p q)
      where
        go : (s : Bool) → (if s && bytes_eq (decimal n) x then Some b else c.texts q x) ≡ c.texts q x
        go true = rw (foreign x isnt) refl
        go false = refl

    same_place_folder : (q : Place) → same_place p q ≡ true → folder_at new q ≡ folder_with n b (folder_at c q)
    unfolding entry_text
    same_place_folder q s = λ i. record {
      messages = λ k. messages_at k i;
      removed = λ k. numbered_same k (new.texts q (entry_text (Backup k))) (c.texts q (entry_text (Backup k))) (λ o. apart q (entry_text (Backup k)) (rw (kind_of-entry_text (Backup k) o) refl)) i;
      held = λ r k. held_same r k (new.texts q (entry_text (Held r k))) (c.texts q (entry_text (Held r k))) (λ l o. apart q (entry_text (Held r k)) (rw (kind_of-entry_text (Held r k) (l, o)) refl)) i;
      sequences = apart q (entry_text Sequences) (rw (kind_of-entry_text Sequences tt) refl) i;
    }
      where
        messages_at : (k : ℕ) → numbered k (new.texts q (decimal k)) ≡ (if n == k then Some b else numbered k (c.texts q (decimal k)))
        messages_at k = rw s (message_at k (Some b) (c.texts q (decimal k)))

    other_folder : (q : Place) → same_place p q ≡ false → folder_at new q ≡ folder_at c q
    other_folder q s = folder_same c new q (λ x is. rw s refl)

    each_folder : (q : Place) (f v s : Bool) → same_place p q ≡ s
        → (if f then (if v then Some (folder_at new q) else None) else None)
        ≡ (if s then option_map (folder_with n b) (if f then (if v then Some (folder_at c q) else None) else None) else (if f then (if v then Some (folder_at c q) else None) else None))
    each_folder q true true true e = ap Some (same_place_folder q e)
    each_folder q true true false e = ap Some (other_folder q e)
    each_folder q true false true e = refl
    each_folder q true false false e = refl
    each_folder q false v true e = refl
    each_folder q false v false e = refl

    pub shows_message : mailbox_in new ≡ with_message (mailbox_in c) p n b
    unfolding mailbox_in
    shows_message = λ i. record {
      folders = λ q. each_folder q (is_folder q) (c.there q) (same_place p q) refl i;
      home = λ x. c.texts Home x;
      work = λ x. c.texts Work x;
      context = λ q. where_mail q (apart q context_name context_no_number i);
      outside = c.outside;
    }

no_parent : (q : Place) (path : List ℕ) → is_parent q (Mail path) ≡ false
no_parent Home path = refl
no_parent Work path = refl
no_parent (Mail other) path = refl
no_parent (Folder other name) path = refl

-- that the mail directory was made shows nothing
pub shows_made : (c : Contents) (path : List ℕ) → mailbox_in (with_folder c (Mail path)) ≡ mailbox_in c
shows_made c path = shows_same c (with_folder c (Mail path)) (record { there = there_kept; names = λ q x s. refl; home = λ x. refl; work = λ x. refl; context = λ q s. refl; outside = refl })
  where
    there_kept : (q : Place) → is_folder q ≡ true → (with_folder c (Mail path)).there q ≡ c.there q
    there_kept Home s = absurd (cc (s))
    there_kept Work s = absurd (cc (s))
    there_kept (Mail other) s = absurd (cc (s))
    there_kept (Folder other name) s = refl

-- that no temporary names are left in a folder or a mail directory shows nothing
pub shows_cleared : (c : Contents) (p : Place) → same_place p Home ≡ false → same_place p Work ≡ false → mailbox_in (without_temps c p) ≡ mailbox_in c
shows_cleared c p home work = shows_same c (without_temps c p) (record {
  there = λ q s. refl;
  names = λ q x s. kept q x (unshown_temp (kind_of x) s);
  home = λ x. rw home refl;
  work = λ x. rw work refl;
  context = λ q s. kept q context_name context_is_no_temp;
  outside = refl;
})
  where
    kept : (q : Place) (x : List ℕ) → is_temp (kind_of x) ≡ false → (without_temps c p).texts q x ≡ c.texts q x
    kept q x f = go (same_place p q)
      where
        go : (s : Bool) → (if s && is_temp (kind_of x) then None else c.texts q x) ≡ c.texts q x
        go true = rw f refl
        go false = refl

-- a new text of the context shows as that, and nothing else changes
module _ (c : Contents) (path text : List ℕ) where
  abbrev mail : Place
  mail = Mail path

  abbrev written : Contents
  written = with_text c mail context_name (Some text)

  untouched : (q : Place) (x : List ℕ) → is_shown (kind_of x) ≡ true → written.texts q x ≡ c.texts q x
  untouched q x s = go (same_place mail q)
    where
      go : (v : Bool) → (if v && bytes_eq context_name x then Some text else c.texts q x) ≡ c.texts q x
      go true = rw (context_apart x s) refl
      go false = refl

  context_new : (q : Place) → where_mail q (written.texts q context_name) ≡ (if same_place mail q then Some text else where_mail q (c.texts q context_name))
  context_new = at_all mail (λ q. where_mail q (written.texts q context_name) ≡ (if same_place mail q then Some text else where_mail q (c.texts q context_name)))
      (rw (place_is mail) refl) (λ q f. rw f refl)

  pub shows_context : mailbox_in written ≡ with_context_text (mailbox_in c) mail text
  unfolding mailbox_in
  shows_context = λ i. record {
    folders = λ q. where_folder q (if c.there q then Some (folder_same c written q (untouched q) i) else None);
    home = λ x. c.texts Home x;
    work = λ x. c.texts Work x;
    context = λ q. context_new q i;
    outside = c.outside;
  }

-- a commit of the context shows its new text and nothing else
pub shows_commit : (c : Contents) (path text : List ℕ) → mailbox_in (with_text (without_temps (with_folder c (Mail path)) (Mail path)) (Mail path) context_name (Some text)) ≡ with_context_text (mailbox_in c) (Mail path) text
shows_commit c path text =
    shows_context (without_temps (with_folder c (Mail path)) (Mail path)) path text
    ∙ ap (λ m. with_context_text m (Mail path) text) (shows_cleared (with_folder c (Mail path)) (Mail path) refl refl ∙ shows_made c path)
