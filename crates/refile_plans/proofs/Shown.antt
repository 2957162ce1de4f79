-- What messages that leave a folder make of contents, and of the mailbox.
use Rattle.std.proofs.Common.{◌≡◌, ℕ, ◌+◌, ◌<◌, ◌==◌, Bool, true, false, List, [], ◌∷◌, None, refl, sym, ◌∙◌, ap, subst, bytes_eq, arith}
use Rattle.std.specs.Prelude.{◌&&◌, ◌||◌, decimal, if◌then◌else◌}
use Rattle.std.proofs.lemmas.Bool.Decides.{Decides-eqb}
use Rattle.mh_base.specs.Entries.{entry_text, kind_of}
use Rattle.mh_base.specs.Numbers.{IsMsgNum}
use Rattle.mh_base.specs.declared.entry.Entry.TheVariants.{Backup, Held, Number, Sequences}
use Rattle.mh_base.proofs.EntryKinds.{kind_of-entry_text}
use Rattle.msg_ranges.proofs.Rising.{Rise, none_below}
use Rattle.folder_files.specs.Named.{is_temp}
use Rattle.folder_files.specs.Places.{same_place}
use Rattle.folder_files.specs.declared.place.Place.{Place}
use Rattle.folder_files.specs.declared.place.Place.TheVariants.{Folder}
use Rattle.folder_files.proofs.Names.{bytes_true, not_both}
use Rattle.folder_files.proofs.Sameness.{place_is}
use Rattle.file_plans.specs.Contents.{Contents, folder_at, mailbox_in, with_moved, with_text}
use Rattle.file_plans.specs.Mailboxes.{Folder as FolderValue, numbered}
use Rattle.file_plans.proofs.Existing.{bytes_turned}
use Rattle.file_plans.proofs.Showing.{context_no_number, foreign, held_same, is_number_of, message_at, number_kind, numbered_same}
use Rattle.step_plans.specs.ContextCommit.{context_name}
use Rattle.held_messages.specs.HeldPairs.{with_folder_changed}
use Rattle.held_messages.proofs.Shown.{shows_folder, twice_changed, unchanged}
use Rattle.refile_plans.specs.RmmOutcome.{is_among, without}
use Rattle.mh_base.proofs.NumberTests.{AreNumbers}

-- one message leaves
abbrev pub removed_at : Bool → Contents → Place → ℕ → Contents
removed_at true c p n = with_moved c p (entry_text (Number n)) (entry_text (Backup n))
removed_at false c p n = with_text c p (entry_text (Number n)) None

-- these messages leave, one after another
unfoldable pub all_at : Bool → Contents → Place → List ℕ → Contents
all_at backup c p [] = c
all_at backup c p (n ∷ ns) = all_at backup (removed_at backup c p n) p ns

abbrev pub without_one : Bool → ℕ → FolderValue → FolderValue
without_one backup n f = record {
  messages = λ k. if n == k then None else f.messages k;
  removed = λ k. if backup && (n == k) then f.messages n else f.removed k;
  held = f.held;
  sequences = f.sequences;
}

module _ (path name : List ℕ) where
  abbrev p : Place
  p = Folder path name

  module _ (c : Contents) (n : ℕ) (ok : IsMsgNum n) where
    abbrev old_name : List ℕ
    old_name = entry_text (Backup n)

    abbrev gone : Contents
    gone = with_text c p (decimal n) None

    abbrev backed : Contents
    backed = with_text gone p old_name (c.texts p (decimal n))

    no_backup : (k : ℕ) → IsMsgNum k → bytes_eq (decimal n) (entry_text (Backup k)) ≡ false
    no_backup k good = foreign n ok (entry_text (Backup k)) (rw (kind_of-entry_text (Backup k) good) refl)

    pub moved_is : with_moved c p (entry_text (Number n)) old_name ≡ backed
    unfolding entry_text
    moved_is = rw (no_backup n ok) refl

    gone_is : with_text c p (entry_text (Number n)) None ≡ gone
    unfolding entry_text
    gone_is = refl

    backed_at : (x : List ℕ) → backed.texts p x ≡ (if bytes_eq old_name x then c.texts p (decimal n) else (if bytes_eq (decimal n) x then None else c.texts p x))
    backed_at x = rw (place_is p) refl

    gone_at : (x : List ℕ) → gone.texts p x ≡ (if bytes_eq (decimal n) x then None else c.texts p x)
    gone_at x = rw (place_is p) refl

    old_number : (k : ℕ) → IsMsgNum k → bytes_eq old_name (decimal k) ≡ false
    old_number k good = bytes_turned (decimal k) old_name (foreign k good old_name (rw (kind_of-entry_text (Backup n) ok) refl))

    numbered_text : c.texts p (decimal n) ≡ numbered n (c.texts p (decimal n))
    numbered_text = rw (is_number_of n ok) refl

    backed_messages : (k : ℕ) → numbered k (backed.texts p (decimal k)) ≡ (if n == k then None else numbered k (c.texts p (decimal k)))
    backed_messages k =
        numbered_same k (backed.texts p (decimal k)) (if bytes_eq (decimal n) (decimal k) then None else c.texts p (decimal k)) (λ good. backed_at (decimal k) ∙ rw (old_number k good) refl)
        ∙ message_at n ok k None (c.texts p (decimal k))

    backed_removed : (k : ℕ) → numbered k (backed.texts p (entry_text (Backup k))) ≡ (if n == k then numbered n (c.texts p (decimal n)) else numbered k (c.texts p (entry_text (Backup k))))
    unfolding entry_text
    backed_removed k =
        numbered_same k (backed.texts p (entry_text (Backup k))) (if bytes_eq (decimal n) (decimal k) then c.texts p (decimal n) else c.texts p (entry_text (Backup k)))
        (λ good. backed_at (entry_text (Backup k)) ∙ rw (no_backup k good) refl)
        ∙ (message_at n ok k (c.texts p (decimal n)) (c.texts p (entry_text (Backup k))) ∙ ap (λ t. if n == k then t else numbered k (c.texts p (entry_text (Backup k)))) numbered_text)

    old_held : (r k : ℕ) → bytes_eq old_name (entry_text (Held r k)) ≡ false
    unfolding entry_text
    old_held r k = refl

    old_sequences : bytes_eq old_name (entry_text Sequences) ≡ false
    unfolding entry_text
    old_sequences = refl

    old_context : bytes_eq old_name context_name ≡ false
    unfolding entry_text
    old_context = refl

    backed_other : (x : List ℕ) → bytes_eq old_name x ≡ false → bytes_eq (decimal n) x ≡ false → backed.texts p x ≡ c.texts p x
    backed_other x e f = backed_at x ∙ rw (e, f) refl

    gone_other : (x : List ℕ) → bytes_eq (decimal n) x ≡ false → gone.texts p x ≡ c.texts p x
    gone_other x f = gone_at x ∙ rw f refl

    no_sequences : bytes_eq (decimal n) (entry_text Sequences) ≡ false
    no_sequences = foreign n ok (entry_text Sequences) (rw (kind_of-entry_text Sequences tt) refl)

    folder_backed : folder_at backed p ≡ without_one true n (folder_at c p)
    unfolding entry_text
    folder_backed = λ i. record {
      messages = λ k. backed_messages k i;
      removed = λ k. backed_removed k i;
      held = λ r k. held_same r k (backed.texts p (entry_text (Held r k))) (c.texts p (entry_text (Held r k))) (λ l good. backed_other (entry_text (Held r k)) (old_held r k) (foreign n ok (entry_text (Held r k)) (rw (kind_of-entry_text (Held r k) (l, good)) refl))) i;
      sequences = backed_other (entry_text Sequences) old_sequences no_sequences i;
    }

    folder_gone : folder_at gone p ≡ without_one false n (folder_at c p)
    unfolding entry_text
    folder_gone = λ i. record {
      messages = λ k. (numbered_same k (gone.texts p (decimal k)) (if bytes_eq (decimal n) (decimal k) then None else c.texts p (decimal k)) (λ good. gone_at (decimal k)) ∙ message_at n ok k None (c.texts p (decimal k))) i;
      removed = λ k. numbered_same k (gone.texts p (entry_text (Backup k))) (c.texts p (entry_text (Backup k))) (λ good. gone_other (entry_text (Backup k)) (no_backup k good)) i;
      held = λ r k. held_same r k (gone.texts p (entry_text (Held r k))) (c.texts p (entry_text (Held r k))) (λ l good. gone_other (entry_text (Held r k)) (foreign n ok (entry_text (Held r k)) (rw (kind_of-entry_text (Held r k) (l, good)) refl))) i;
      sequences = gone_other (entry_text Sequences) no_sequences i;
    }

    pub shows_one : (backup : Bool) → mailbox_in (removed_at backup c p n) ≡ with_folder_changed (mailbox_in c) p (without_one backup n)
    shows_one true = ap mailbox_in moved_is ∙ shows_folder c backed path name (without_one true n) (λ q. refl) folder_backed (λ q x e. rw e refl) (backed_other context_name old_context (foreign n ok context_name context_no_number)) refl
    shows_one false = ap mailbox_in gone_is ∙ shows_folder c gone path name (without_one false n) (λ q. refl) folder_gone (λ q x e. rw e refl) (gone_other context_name (foreign n ok context_name context_no_number)) refl

    -- which directories are there, and other names, stay
    pub there_one : (backup : Bool) → (removed_at backup c p n).there ≡ c.there
    there_one true = ap (λ d. d.there) moved_is
    there_one false = refl

    pub other_one : (backup : Bool) (q : Place) (x : List ℕ) → bytes_eq (decimal n) x ≡ false → bytes_eq old_name x ≡ false → (removed_at backup c p n).texts q x ≡ c.texts q x
    other_one true q x e f = ap (λ d. d.texts q x) moved_is ∙ go (same_place p q)
      where
        go : (s : Bool) → (if s && bytes_eq old_name x then c.texts p (decimal n) else (if s && bytes_eq (decimal n) x then None else c.texts q x)) ≡ c.texts q x
        go true = rw (e, f) refl
        go false = refl
    other_one false q x e f = ap (λ d. d.texts q x) gone_is ∙ go (same_place p q)
      where
        go : (s : Bool) → (if s && bytes_eq (decimal n) x then None else c.texts q x) ≡ c.texts q x
        go true = rw e refl
        go false = refl

    -- another message stays
    pub still_one : (backup : Bool) (m : ℕ) → IsMsgNum m → n < m → (removed_at backup c p n).texts p (decimal m) ≡ c.texts p (decimal m)
    still_one backup m good above = other_one backup p (decimal m) (go (bytes_eq (decimal n) (decimal m)) refl) (old_number m good)
      where
        go : (b : Bool) → bytes_eq (decimal n) (decimal m) ≡ b → b ≡ false
        go true e =
            let same : Number n ≡ Number m = sym (number_kind n ok) ∙ (ap kind_of (bytes_true (decimal n) (decimal m) e) ∙ number_kind m good) in
            let is : n ≡ m = cc (same) in
            absurd (let l : n < n = subst (λ k. n < k) (sym is) above in omega (arith, l))
        go false e = refl

    -- a temporary name stays
    pub temp_one : (backup : Bool) (x : List ℕ) → is_temp (kind_of x) ≡ true → (removed_at backup c p n).texts p x ≡ c.texts p x
    temp_one backup x is = other_one backup p x (go (bytes_eq (decimal n) x) refl) (back (bytes_eq old_name x) refl)
      where
        go : (b : Bool) → bytes_eq (decimal n) x ≡ b → b ≡ false
        go true e = absurd (not_both (is_temp (kind_of x)) is (ap (λ z. is_temp (kind_of z)) (sym (bytes_true (decimal n) x e)) ∙ rw (number_kind n ok) refl))
        go false e = refl

        back : (b : Bool) → bytes_eq old_name x ≡ b → b ≡ false
        back true e = absurd (not_both (is_temp (kind_of x)) is (ap (λ z. is_temp (kind_of z)) (sym (bytes_true old_name x e)) ∙ rw (kind_of-entry_text (Backup n) ok) refl))
        back false e = refl

    pub context_one : (backup : Bool) (q : Place) → (removed_at backup c p n).texts q context_name ≡ c.texts q context_name
    context_one backup q = other_one backup q context_name (foreign n ok context_name context_no_number) old_context

  -- one message and then others
  one_then : (backup : Bool) (n : ℕ) (ns : List ℕ) (f : FolderValue) → is_among n ns ≡ false → without backup ns (without_one backup n f) ≡ without backup (n ∷ ns) f
  one_then backup n ns f apart = λ i. record { messages = λ k. messages_at k i; removed = λ k. removed_at_ k i; held = f.held; sequences = f.sequences }
    where
      messages_at : (k : ℕ) → (if is_among k ns then None else (if n == k then None else f.messages k)) ≡ (if (n == k) || is_among k ns then None else f.messages k)
      messages_at k = go (is_among k ns) (n == k)
        where
          go : (u v : Bool) → (if u then None else (if v then None else f.messages k)) ≡ (if v || u then None else f.messages k)
          go true true = refl
          go true false = refl
          go false true = refl
          go false false = refl

      removed_at_ : (k : ℕ) → (if backup && is_among k ns then (if n == k then None else f.messages k) else (if backup && (n == k) then f.messages n else f.removed k)) ≡ (if backup && ((n == k) || is_among k ns) then f.messages k else f.removed k)
      removed_at_ k = by_backup backup
        where
          go : (u v : Bool) → is_among k ns ≡ u → (n == k) ≡ v → (if u then (if v then None else f.messages k) else (if v then f.messages n else f.removed k)) ≡ (if v || u then f.messages k else f.removed k)
          go true true e g =
              let same : n ≡ k = (Decides-eqb n k).0 g in
              absurd (not_both (is_among n ns) (ap (λ m. is_among m ns) same ∙ e) apart)
          go true false e g = refl
          go false true e g = ap f.messages ((Decides-eqb n k).0 g)
          go false false e g = refl

          by_backup : (b : Bool) → (if b && is_among k ns then (if n == k then None else f.messages k) else (if b && (n == k) then f.messages n else f.removed k)) ≡ (if b && ((n == k) || is_among k ns) then f.messages k else f.removed k)
          by_backup true = go (is_among k ns) (n == k) refl refl
          by_backup false = refl

  none_then : (backup : Bool) (f : FolderValue) → f ≡ without backup [] f
  none_then true f = refl
  none_then false f = refl

  pub shows_all : (backup : Bool) (c : Contents) (low : ℕ) (ns : List ℕ) → Rise low ns → AreNumbers ns → mailbox_in (all_at backup c p ns) ≡ with_folder_changed (mailbox_in c) p (without backup ns)
  unfolding all_at
  shows_all backup c low [] rise ok = unchanged (mailbox_in c) p ∙ ap (λ g. with_folder_changed (mailbox_in c) p g) (λ i f. none_then backup f i)
  shows_all backup c low (n ∷ ns) rise ok =
      shows_all backup (removed_at backup c p n) (n + 1) ns rise.1 ok.1
      ∙ (ap (λ m. with_folder_changed m p (without backup ns)) (shows_one c n ok.0 backup)
      ∙ (twice_changed (mailbox_in c) p (without_one backup n) (without backup ns)
      ∙ ap (λ g. with_folder_changed (mailbox_in c) p g) (λ i f. one_then backup n ns f (none_below (n + 1) ns rise.1 n (omega arith)) i)))

  pub there_all : (backup : Bool) (c : Contents) (ns : List ℕ) → AreNumbers ns → (all_at backup c p ns).there ≡ c.there
  unfolding all_at
  there_all backup c [] ok = refl
  there_all backup c (n ∷ ns) ok = there_all backup (removed_at backup c p n) ns ok.1 ∙ there_one c n ok.0 backup

  pub temp_all : (backup : Bool) (c : Contents) (ns : List ℕ) → AreNumbers ns → (x : List ℕ) → is_temp (kind_of x) ≡ true → (all_at backup c p ns).texts p x ≡ c.texts p x
  unfolding all_at
  temp_all backup c [] ok x is = refl
  temp_all backup c (n ∷ ns) ok x is = temp_all backup (removed_at backup c p n) ns ok.1 x is ∙ temp_one c n ok.0 backup x is

  pub context_all : (backup : Bool) (c : Contents) (ns : List ℕ) → AreNumbers ns → (q : Place) → (all_at backup c p ns).texts q context_name ≡ c.texts q context_name
  unfolding all_at
  context_all backup c [] ok q = refl
  context_all backup c (n ∷ ns) ok q = context_all backup (removed_at backup c p n) ns ok.1 q ∙ context_one c n ok.0 backup q
