-- What settling shows of a mailbox.
use Rattle.std.proofs.Common.{◌≡◌, ℕ, ◌==◌, Bool, true, false, List, [], ◌∷◌, Option, Some, None, ◌^◌, ◌<◌, refl, sym, ◌∙◌, ap, bytes_eq, nat_lt}
use Rattle.std.specs.Prelude.{option_map, decimal, if◌then◌else◌}
use Rattle.std.proofs.lemmas.Bool.Decides.{Decides-ltb}
use Rattle.mh_base.specs.Entries.{entry_text}
use Rattle.mh_base.specs.Numbers.{IsMsgNum}
use Rattle.mh_base.specs.declared.entry.Entry.TheVariants.{Number, Backup, Held, Sequences}
use Rattle.folder_files.specs.Places.{same_place}
use Rattle.folder_files.specs.declared.place.Place.{Place}
use Rattle.folder_files.specs.declared.place.Place.TheVariants.{Home, Work, Folder}
use Rattle.file_plans.specs.Mailboxes.{Folder as FolderOf, Mailbox, numbered, is_message_number, where_folder, where_mail}
use Rattle.folder_files.proofs.Sameness.{at_all, place_is}
use Rattle.file_plans.specs.Contents.{Contents, mailbox_in, folder_at, is_at, with_text}
use Rattle.step_plans.specs.ContextCommit.{context_name}
use Rattle.file_plans.proofs.Existing.{at_name, at_self, bytes_turned}
use Rattle.mh_base.proofs.EntryKinds.{kind_of-entry_text}
use Rattle.file_plans.proofs.Showing.{is_number_of, number_ok, numbered_same, foreign, message_at, context_no_number}
use Rattle.held_messages.specs.declared.held.HeldPair.{HeldPair}
use Rattle.held_messages.specs.HeldPairs.{held_name, is_pair, given_home, settled, with_folder_changed}
use Rattle.held_messages.specs.Settle.{given_in, linked_in, dropped_in, settled_in}
use Rattle.held_messages.proofs.ListedPairs.{IsPair, ArePairs, IsApart, AreApart, same_name}
use Rattle.held_messages.proofs.Linking.{IsEnd, number_apart, held_apart}
use Rattle.held_messages.proofs.Homecoming.{AreEnds}

-- two names are set in either order
pub with_text_turned : (c : Contents) (p : Place) (a b : List ℕ) (s t : Option (List ℕ)) → bytes_eq a b ≡ false → with_text (with_text c p a s) p b t ≡ with_text (with_text c p b t) p a s
with_text_turned c p a b s t apart = λ i. record { there = c.there; texts = λ q x. each q x i; outside = c.outside }
  where
    each : (q : Place) (x : List ℕ) → (if is_at p b q x then t else (if is_at p a q x then s else c.texts q x)) ≡ (if is_at p a q x then s else (if is_at p b q x then t else c.texts q x))
    each = at_name p a (λ q x. (if is_at p b q x then t else (if is_at p a q x then s else c.texts q x)) ≡ (if is_at p a q x then s else (if is_at p b q x then t else c.texts q x))) (rw (at_self p a, place_is p, bytes_turned a b apart) refl) (λ q x e. rw e refl)

-- one held message, linked and unlinked at once
abbrev pub moved_home : Contents → Place → HeldPair → ℕ → Contents
moved_home c p h m = with_text (with_text c p (decimal m) (c.texts p (held_name h))) p (held_name h) None

given_dropped : (c : Contents) (p : Place) (h k : HeldPair) (end : Option ℕ) → IsPair h → IsEnd end → bytes_eq (held_name h) (held_name k) ≡ false → with_text (given_in c p k end) p (held_name h) None ≡ given_in (with_text c p (held_name h) None) p k end
given_dropped c p h k None is ok apart = refl
given_dropped c p h k (Some m) is ok apart = with_text_turned c p (decimal m) (held_name h) (c.texts p (held_name k)) None (number_apart m ok h is) ∙ ap (λ t. with_text (with_text c p (held_name h) None) p (decimal m) t) same
  where
    same : c.texts p (held_name k) ≡ (with_text c p (held_name h) None).texts p (held_name k)
    same = rw (place_is p, apart) refl

linked_dropped : (c : Contents) (p : Place) (h : HeldPair) → IsPair h → (hs : List HeldPair) (ends : List (Option ℕ)) → AreEnds hs ends → IsApart h hs → with_text (linked_in c p hs ends) p (held_name h) None ≡ linked_in (with_text c p (held_name h) None) p hs ends
unfolding linked_in
linked_dropped c p h is [] ends ok apart = refl
linked_dropped c p h is (k ∷ hs) [] ok apart = refl
linked_dropped c p h is (k ∷ hs) (end ∷ ends) ok apart =
    linked_dropped (given_in c p k end) p h is hs ends ok.1 apart.1 ∙ ap (λ d. linked_in d p hs ends) (given_dropped c p h k end is ok.0 apart.0)

-- all links and then all unlinks are as one after another
one_by_one : (c : Contents) (p : Place) (h : HeldPair) (m : ℕ) → IsPair h → (hs : List HeldPair) (ends : List (Option ℕ)) → AreEnds hs ends → IsApart h hs → settled_in c p (h ∷ hs) (Some m ∷ ends) ≡ settled_in (moved_home c p h m) p hs ends
unfolding linked_in dropped_in
one_by_one c p h m is hs ends ok apart = ap (λ d. dropped_in d p hs ends) (linked_dropped (with_text c p (decimal m) (c.texts p (held_name h))) p h is hs ends ok apart)

numbered_if : (k : ℕ) (b : Bool) (o : Option (List ℕ)) → numbered k (if b then None else o) ≡ (if b then None else numbered k o)
numbered_if k b o = go (is_message_number k) b
  where
    go : (v b : Bool) → (if v then (if b then None else o) else None) ≡ (if b then None else (if v then o else None))
    go true b = refl
    go false true = refl
    go false false = refl

-- the mailbox of contents that differ in one folder
module _ (c d : Contents) (path name : List ℕ) (g : FolderOf → FolderOf) (there : (q : Place) → d.there q ≡ c.there q) (here : folder_at d (Folder path name) ≡ g (folder_at c (Folder path name)))
    (elsewhere : (q : Place) (x : List ℕ) → same_place (Folder path name) q ≡ false → d.texts q x ≡ c.texts q x) (context : d.texts (Folder path name) context_name ≡ c.texts (Folder path name) context_name) (outside : d.outside ≡ c.outside) where
  abbrev changed_place : Place
  changed_place = Folder path name

  folder_there : (q : Place) → same_place changed_place q ≡ false → folder_at d q ≡ folder_at c q
  folder_there q e = λ i. record {
    messages = λ k. numbered k (elsewhere q (entry_text (Number k)) e i);
    removed = λ k. numbered k (elsewhere q (entry_text (Backup k)) e i);
    held = λ r k. if nat_lt r (2 ^ 128) then numbered k (elsewhere q (entry_text (Held r k)) e i) else None;
    sequences = elsewhere q (entry_text Sequences) e i;
  }

  abbrev shown_in : Contents → Place → Option FolderOf
  shown_in e q = where_folder q (if e.there q then Some (folder_at e q) else None)

  each_folder : (q : Place) → shown_in d q ≡ (if same_place changed_place q then option_map g (shown_in c q) else shown_in c q)
  each_folder q =
      (λ i. where_folder q (if there q i then Some (folder_at d q) else None))
      ∙ at_all changed_place (λ q. where_folder q (if c.there q then Some (folder_at d q) else None) ≡ (if same_place changed_place q then option_map g (shown_in c q) else shown_in c q))
      (rw (place_is changed_place) (at_here (c.there changed_place))) (λ q e. rw e (λ i. where_folder q (if c.there q then Some (folder_there q e i) else None))) q
    where
      at_here : (v : Bool) → (if v then Some (folder_at d changed_place) else None) ≡ option_map g (if v then Some (folder_at c changed_place) else None)
      at_here true = ap Some here
      at_here false = refl

  context_same : (q : Place) → d.texts q context_name ≡ c.texts q context_name
  context_same = at_all changed_place (λ q. d.texts q context_name ≡ c.texts q context_name) context (λ q e. elsewhere q context_name e)

  pub shows_folder : mailbox_in d ≡ with_folder_changed (mailbox_in c) changed_place g
  unfolding mailbox_in
  shows_folder = λ i. record {
    folders = λ q. each_folder q i;
    home = λ x. elsewhere Home x refl i;
    work = λ x. elsewhere Work x refl i;
    context = λ q. where_mail q (context_same q i);
    outside = outside i;
  }

held_no_backup : (h : HeldPair) (k : ℕ) → bytes_eq (held_name h) (entry_text (Backup k)) ≡ false
unfolding entry_text
held_no_backup h k = refl

held_no_sequences : (h : HeldPair) → bytes_eq (held_name h) (entry_text Sequences) ≡ false
unfolding entry_text
held_no_sequences h = refl

held_no_context : (h : HeldPair) → bytes_eq (held_name h) context_name ≡ false
unfolding entry_text
held_no_context h = refl

module _ (c : Contents) (path name : List ℕ) (h : HeldPair) (is : IsPair h) (m : ℕ) (ok : IsMsgNum m) where
  abbrev home_place : Place
  home_place = Folder path name

  abbrev new : Contents
  new = moved_home c home_place h m

  text_at : (x : List ℕ) → new.texts home_place x ≡ (if bytes_eq (held_name h) x then None else (if bytes_eq (decimal m) x then c.texts home_place (held_name h) else c.texts home_place x))
  text_at x = rw (place_is home_place) refl

  held_text : c.texts home_place (held_name h) ≡ (if nat_lt h.run (2 ^ 128) then numbered h.number (c.texts home_place (held_name h)) else None)
  held_text = rw ((Decides-ltb h.run (2 ^ 128)).1 is.0, is_number_of h.number is.1) refl

  messages_at : (k : ℕ) → numbered k (new.texts home_place (decimal k)) ≡ (if m == k then (if nat_lt h.run (2 ^ 128) then numbered h.number (c.texts home_place (held_name h)) else None) else numbered k (c.texts home_place (decimal k)))
  messages_at k =
      numbered_same k (new.texts home_place (decimal k)) (if bytes_eq (decimal m) (decimal k) then c.texts home_place (held_name h) else c.texts home_place (decimal k)) (λ good. text_at (decimal k) ∙ rw (held_apart k good h is) refl)
      ∙ (message_at m ok k (c.texts home_place (held_name h)) (c.texts home_place (decimal k)) ∙ ap (λ t. if m == k then t else numbered k (c.texts home_place (decimal k))) held_text)

  other_at : (x : List ℕ) → bytes_eq (held_name h) x ≡ false → bytes_eq (decimal m) x ≡ false → new.texts home_place x ≡ c.texts home_place x
  other_at x e f = text_at x ∙ rw (e, f) refl

  held_at : (r k : ℕ) → (if nat_lt r (2 ^ 128) then numbered k (new.texts home_place (entry_text (Held r k))) else None) ≡ (if is_pair r k h then None else (if nat_lt r (2 ^ 128) then numbered k (c.texts home_place (entry_text (Held r k))) else None))
  held_at r k = go (nat_lt r (2 ^ 128)) refl (is_message_number k) refl
    where
      no_text : Option (List ℕ)
      no_text = None

      nothing : (b : Bool) → no_text ≡ (if b then no_text else no_text)
      nothing true = refl
      nothing false = refl

      go : (u : Bool) → nat_lt r (2 ^ 128) ≡ u → (v : Bool) → is_message_number k ≡ v
          → (if u then (if v then new.texts home_place (entry_text (Held r k)) else None) else None) ≡ (if is_pair r k h then None else (if u then (if v then c.texts home_place (entry_text (Held r k)) else None) else None))
      go true e true f =
          text_at (entry_text (Held r k))
          ∙ (rw (foreign m ok (entry_text (Held r k)) (rw (kind_of-entry_text (Held r k) ((Decides-ltb r (2 ^ 128)).0 e, number_ok k f)) refl)) refl ∙ ap (λ b. if b then None else c.texts home_place (entry_text (Held r k))) (same_name h is r k ((Decides-ltb r (2 ^ 128)).0 e) (number_ok k f)))
      go true e false f = nothing (is_pair r k h)
      go false e v f = nothing (is_pair r k h)

  folder_home : folder_at new home_place ≡ given_home h m (folder_at c home_place)
  unfolding entry_text
  folder_home = λ i. record {
    messages = λ k. messages_at k i;
    removed = λ k. numbered_same k (new.texts home_place (entry_text (Backup k))) (c.texts home_place (entry_text (Backup k))) (λ good. other_at (entry_text (Backup k)) (held_no_backup h k) (foreign m ok (entry_text (Backup k)) (rw (kind_of-entry_text (Backup k) good) refl))) i;
    held = λ r k. held_at r k i;
    sequences = other_at (entry_text Sequences) (held_no_sequences h) (foreign m ok (entry_text Sequences) (rw (kind_of-entry_text Sequences tt) refl)) i;
  }

  pub shows_home : mailbox_in new ≡ with_folder_changed (mailbox_in c) home_place (given_home h m)
  shows_home = shows_folder c new path name (given_home h m) (λ q. refl) folder_home (λ q x e. rw e refl) (other_at context_name (held_no_context h) (foreign m ok context_name context_no_number)) refl

-- changes of one folder, one after another
pub unchanged : (m : Mailbox) (p : Place) → m ≡ with_folder_changed m p (λ f. f)
unchanged m p = λ i. record { folders = λ q. each (same_place p q) (m.folders q) i; home = m.home; work = m.work; context = m.context; outside = m.outside }
  where
    same : (o : Option FolderOf) → o ≡ option_map (λ f. f) o
    same None = refl
    same (Some f) = refl

    each : (b : Bool) (o : Option FolderOf) → o ≡ (if b then option_map (λ f. f) o else o)
    each true o = same o
    each false o = refl

pub twice_changed : (m : Mailbox) (p : Place) (f g : FolderOf → FolderOf) → with_folder_changed (with_folder_changed m p f) p g ≡ with_folder_changed m p (λ x. g (f x))
twice_changed m p f g = λ i. record { folders = λ q. each (same_place p q) (m.folders q) i; home = m.home; work = m.work; context = m.context; outside = m.outside }
  where
    both_maps : (o : Option FolderOf) → option_map g (option_map f o) ≡ option_map (λ x. g (f x)) o
    both_maps None = refl
    both_maps (Some x) = refl

    each : (b : Bool) (o : Option FolderOf) → (if b then option_map g (if b then option_map f o else o) else (if b then option_map f o else o)) ≡ (if b then option_map (λ x. g (f x)) o else o)
    each true o = both_maps o
    each false o = refl

-- settling shows as the settled folder, and nothing else
pub shows_settled : (path name : List ℕ) (hs : List HeldPair) → ArePairs hs → AreApart hs → (ends : List (Option ℕ)) → AreEnds hs ends → (c : Contents) → mailbox_in (settled_in c (Folder path name) hs ends) ≡ with_folder_changed (mailbox_in c) (Folder path name) (λ f. settled f hs ends)
unfolding settled linked_in dropped_in
shows_settled path name [] pairs apart ends ok c = unchanged (mailbox_in c) (Folder path name)
shows_settled path name (h ∷ hs) pairs apart [] ok c = absurd ok
shows_settled path name (h ∷ hs) pairs apart (None ∷ ends) ok c = shows_settled path name hs pairs.1 apart.1 ends ok.1 c
shows_settled path name (h ∷ hs) pairs apart (Some m ∷ ends) ok c =
    ap mailbox_in (one_by_one c (Folder path name) h m pairs.0 hs ends ok.1 apart.0) ∙ (shows_settled path name hs pairs.1 apart.1 ends ok.1 (moved_home c (Folder path name) h m)
    ∙ (ap (λ o. with_folder_changed o (Folder path name) (λ f. settled f hs ends)) (shows_home c path name h pairs.0 m ok.0) ∙ twice_changed (mailbox_in c) (Folder path name) (given_home h m) (λ f. settled f hs ends)))

-- changes one after another
pub changed_twice : (m : Mailbox) (p : Place) (f g : FolderOf → FolderOf) → with_folder_changed (with_folder_changed m p f) p g ≡ with_folder_changed m p (λ x. g (f x))
changed_twice m p f g = λ i. record { folders = λ q. at (same_place p q) (m.folders q) i; home = m.home; work = m.work; context = m.context; outside = m.outside }
  where
    at : (b : Bool) (o : Option FolderOf) → (if b then option_map g (if b then option_map f o else o) else (if b then option_map f o else o)) ≡ (if b then option_map (λ x. g (f x)) o else o)
    at true None = refl
    at true (Some x) = refl
    at false o = refl
