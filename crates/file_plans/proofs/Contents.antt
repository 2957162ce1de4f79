-- What names lead to is enough: it tells the answers of steps, and what steps make of it.
use Rattle.std.proofs.Common.{◌≡◌, ◌≢◌, ◌&&◌, ◌||◌, ℕ, ◌<◌, Bool, true, false, List, Option, Some, None, refl, sym, ◌∙◌, ap, bytes_eq}
use Rattle.std.specs.Prelude.{is_none, is_some, option_map, if◌then◌else◌}
use Rattle.folder_files.specs.Directory.{DirectoryMap, now_in}
use Rattle.folder_files.specs.Histories.{HeldByNoOther}
use Rattle.folder_files.specs.Places.{same_place, is_parent}
use Rattle.folder_files.specs.Steps as steps
use Rattle.folder_files.specs.Steps.{Fits, made, made_by, read_answer, read_file_answer, there_answer, directory_after, file_after, changed, changed_if, is_created, with_created, linked, with_linked, with_renamed, with_unlinked, with_made, synced}
use Rattle.folder_files.specs.Worlds.{WorldMap}
use Rattle.folder_files.specs.declared.place.Place.{Place}
use Rattle.folder_files.specs.declared.step.Step.{Step}
use Rattle.folder_files.specs.declared.step.Step.TheVariants as step
use Rattle.folder_files.specs.declared.step.Answer.{Answer}
use Rattle.folder_files.specs.declared.step.Answer.TheVariants.{Done, Names, Content, Piece, Long, Gone, Exists, Busy, Grown, Failed}
use Rattle.folder_files.specs.declared.world.Change.TheVariants as change
use Rattle.file_plans.specs.Mailboxes.{mailbox_of, text_in}
use Rattle.folder_files.proofs.Changes.{IsBelow, now_below, file_keeps}
use Rattle.folder_files.proofs.Sameness.{at_all, place_is}
use Rattle.folder_files.proofs.Names.{not_both, num_itself}
use Rattle.file_plans.specs.Contents.{Contents, contents_of, mailbox_in, is_at, with_text, with_moved, with_folder, where_done, changed_by, name_answer, link_answer, IsListedIn, FitsIn}

-- the mailbox of a world is that of what its names lead to
pub mailbox_is : (w : WorldMap) → mailbox_of w ≡ mailbox_in (contents_of w)
unfolding mailbox_of mailbox_in
mailbox_is w = refl

-- answers
map_some : (g : ℕ → List ℕ) (o : Option ℕ) → is_some o ≡ is_some (option_map g o)
map_some g None = refl
map_some g (Some f) = refl

map_none : (g : ℕ → List ℕ) (o : Option ℕ) → is_none o ≡ is_none (option_map g o)
map_none g None = refl
map_none g (Some f) = refl

pub map_read : (w : WorldMap) (limit : ℕ) (o : Option ℕ) → read_answer w limit o ≡ read_file_answer limit (option_map (λ f. (w.files f).bytes) o)
map_read w limit None = refl
map_read w limit (Some f) = refl

map_name : (g : ℕ → List ℕ) (o : Option ℕ) → steps.name_answer o ≡ name_answer (option_map g o)
map_name g None = refl
map_name g (Some f) = refl

map_link : (g : ℕ → List ℕ) (u v : Option ℕ) → steps.link_answer u v ≡ link_answer (option_map g u) (option_map g v)
map_link g None v = refl
map_link g (Some f) None = refl
map_link g (Some f) (Some h) = refl

map_create : (g : ℕ → List ℕ) (t : Bool) (o : Option ℕ) → (if t then (if is_none o then Done else Exists) else Gone) ≡ (if t then (if is_none (option_map g o) then Done else Exists) else Gone)
map_create g t None = refl
map_create g t (Some f) = refl

listed_in : (w : WorldMap) (p : Place) (a : Answer) → steps.IsListed (w.directories p) a → IsListedIn (contents_of w) p a
listed_in w p (Names names) f = (f.0, record { ascending = f.1.ascending; all = λ x. f.1.all x ∙ map_some (λ f. (w.files f).bytes) (now_in (w.directories p) x) })
listed_in w p Gone f = f
listed_in w p Done f = f
listed_in w p (Content b) f = f
listed_in w p (Piece b l) f = f
listed_in w p (Long l) f = f
listed_in w p Exists f = f
listed_in w p Busy f = f
listed_in w p Grown f = f
listed_in w p Failed f = f

locked_in : (w : WorldMap) (run : ℕ) (p : Place) (a : Answer) → HeldByNoOther w p run → steps.IsLocked w run p a → a ≡ there_answer (w.directories p).there
locked_in w run p Done free f = rw f refl
locked_in w run p Gone free f = rw f refl
locked_in w run p Busy free f = absurd (not_both (w.holds p f.1.0) f.1.2 (free f.1.0 f.1.1))
locked_in w run p (Names names) free f = absurd f
locked_in w run p (Content b) free f = absurd f
locked_in w run p (Piece b l) free f = absurd f
locked_in w run p (Long l) free f = absurd f
locked_in w run p Exists free f = absurd f
locked_in w run p Grown free f = absurd f
locked_in w run p Failed free f = absurd f

pub fits_in : (w : WorldMap) (run : ℕ) (s : Step) (a : Answer) → ((p : Place) → HeldByNoOther w p run) → Fits w run s a → FitsIn (contents_of w) s a
fits_in w run (step.List p) a free f = listed_in w p a f
fits_in w run (step.Read p n limit) a free f = f ∙ map_read w limit (now_in (w.directories p) n)
fits_in w run (step.MakeFolder p) a free f = f
fits_in w run (step.Create p n b) a free f = f ∙ map_create (λ f. (w.files f).bytes) (w.directories p).there (now_in (w.directories p) n)
fits_in w run (step.SyncFile p n) a free f = f ∙ map_name (λ f. (w.files f).bytes) (now_in (w.directories p) n)
fits_in w run (step.SyncFolder p) a free f = f
fits_in w run (step.Link p n m) a free f = f ∙ map_link (λ f. (w.files f).bytes) (now_in (w.directories p) n) (now_in (w.directories p) m)
fits_in w run (step.Rename p n m) a free f = f ∙ map_name (λ f. (w.files f).bytes) (now_in (w.directories p) n)
fits_in w run (step.Unlink p n) a free f = f ∙ map_name (λ f. (w.files f).bytes) (now_in (w.directories p) n)
fits_in w run (step.Lock p) a free f = locked_in w run p a (free p) f
fits_in w run (step.Unlock p) a free f = f
fits_in w run (step.ReadFile path limit) a free f = f
fits_in w run (step.ReadDrop path from most) a free f = f
fits_in w run (step.CutDrop path n) a free f = f

-- each name leads to a file that is there
abbrev pub AreBelow : WorldMap → Type 0
AreBelow w = (p : Place) → IsBelow w.next_file (w.directories p)

-- files that are there keep their bytes
map_kept : (w : WorldMap) (s : Step) (o : Option ℕ) → ((f : ℕ) → o ≡ Some f → f < w.next_file) → option_map (λ f. (file_after w s f).bytes) o ≡ option_map (λ f. (w.files f).bytes) o
map_kept w s None below = refl
map_kept w s (Some f) below = ap Some (file_keeps w s f (below f refl)).0

kept_text : (w : WorldMap) (s : Step) (p : Place) (x : List ℕ) → AreBelow w → option_map (λ f. (file_after w s f).bytes) (now_in (w.directories p) x) ≡ text_in w (w.directories p) x
kept_text w s p x below = map_kept w s (now_in (w.directories p) x) (λ f e. now_below w.next_file (w.directories p) (below p) x f e)

-- where names lead after a step, and which directories are there
abbrev texts_after : WorldMap → Step → Place → List ℕ → Option (List ℕ)
texts_after w s p x = option_map (λ f. (file_after w s f).bytes) (now_in (directory_after w s p) x)

record IsMade (w : WorldMap) (s : Step) (c : Contents) : Type 0 where
  there : (p : Place) → (directory_after w s p).there ≡ c.there p
  texts : (p : Place) (x : List ℕ) → texts_after w s p x ≡ c.texts p x
  outside : steps.outside_after w s ≡ c.outside

made_is : (w : WorldMap) (run : ℕ) (s : Step) (c : Contents) → IsMade w s c → contents_of (made w run s) ≡ c
unfolding made
made_is w run s c m = λ i. record { there = λ p. m.there p i; texts = λ p x. m.texts p x i; outside = m.outside i }

stays_there : (v : Bool) (d e : DirectoryMap) → e.there ≡ d.there → (if v then e else d).there ≡ d.there
stays_there true d e same = same
stays_there false d e same = refl

-- a step by which names lead where they led
same_names : (w : WorldMap) (s : Step) (p : Place) (x : List ℕ) → AreBelow w → now_in (directory_after w s p) x ≡ now_in (w.directories p) x → texts_after w s p x ≡ text_in w (w.directories p) x
same_names w s p x below e = ap (option_map (λ f. (file_after w s f).bytes)) e ∙ kept_text w s p x below

made_opened : (v : Bool) (d : DirectoryMap) → (if v then with_made d else d).there ≡ v || d.there
made_opened true d = refl
made_opened false d = refl

opened_names : (v : Bool) (d : DirectoryMap) (x : List ℕ) → now_in (if v then with_made d else d) x ≡ now_in d x
opened_names true d x = refl
opened_names false d x = refl

synced_names : (v : Bool) (d : DirectoryMap) (x : List ℕ) → now_in (if v then synced d else d) x ≡ now_in d x
synced_names true d x = refl
synced_names false d x = refl

-- a directory that one step changes
module _ (w : WorldMap) (s : Step) (q : Place) (h : DirectoryMap → DirectoryMap) (below : AreBelow w) (is : (p : Place) → directory_after w s p ≡ (if same_place q p then h (w.directories p) else w.directories p)) where
  -- there
  there_at : (e : (h (w.directories q)).there ≡ (w.directories q).there) (p : Place) → (directory_after w s p).there ≡ (w.directories p).there
  there_at e p = ap (λ d. d.there) (is p) ∙ at_all q (λ p. (if same_place q p then h (w.directories p) else w.directories p).there ≡ (w.directories p).there) (rw (place_is q) e) (λ p f. rw f refl) p

  -- the texts of the place, where they are known, are all that differ
  texts_at : (t : Place → List ℕ → Option (List ℕ)) → ((x : List ℕ) → option_map (λ f. (file_after w s f).bytes) (now_in (h (w.directories q)) x) ≡ t q x)
      → ((p : Place) (x : List ℕ) → same_place q p ≡ false → t p x ≡ text_in w (w.directories p) x) → (p : Place) (x : List ℕ) → texts_after w s p x ≡ t p x
  texts_at t here elsewhere p x =
      ap (λ d. option_map (λ f. (file_after w s f).bytes) (now_in d x)) (is p)
      ∙ at_all q (λ p. (x : List ℕ) → option_map (λ f. (file_after w s f).bytes) (now_in (if same_place q p then h (w.directories p) else w.directories p) x) ≡ t p x) (λ x. rw (place_is q) (here x)) (λ p f x. rw f (kept_text w s p x below ∙ sym (elsewhere p x f))) p x

  unchanged_at : h (w.directories q) ≡ w.directories q → steps.outside_after w s ≡ w.outside → IsMade w s (contents_of w)
  unchanged_at e out = record {
    there = there_at (ap (λ d. d.there) e);
    texts = texts_at (λ p x. text_in w (w.directories p) x) (λ x. ap (λ d. option_map (λ f. (file_after w s f).bytes) (now_in d x)) e ∙ kept_text w s q x below) (λ p x f. refl);
    outside = out;
  }

  set_made : (n : List ℕ) (o : Option ℕ) (t : Option (List ℕ)) → (h (w.directories q)).there ≡ (w.directories q).there
      → ((x : List ℕ) → now_in (h (w.directories q)) x ≡ (if bytes_eq n x then o else now_in (w.directories q) x)) → option_map (λ f. (file_after w s f).bytes) o ≡ t → steps.outside_after w s ≡ w.outside
      → IsMade w s (with_text (contents_of w) q n t)
  set_made n o t there names value out = record {
    there = there_at there;
    texts = texts_at (λ p x. if is_at q n p x then t else text_in w (w.directories p) x) here (λ p x f. rw f refl);
    outside = out;
  }
    where
      by : (v : Bool) (x : List ℕ) → option_map (λ f. (file_after w s f).bytes) (if v then o else now_in (w.directories q) x) ≡ (if v then t else text_in w (w.directories q) x)
      by true x = value
      by false x = kept_text w s q x below

      here : (x : List ℕ) → option_map (λ f. (file_after w s f).bytes) (now_in (h (w.directories q)) x) ≡ (if is_at q n q x then t else text_in w (w.directories q) x)
      here x = rw (place_is q) (ap (option_map (λ f. (file_after w s f).bytes)) (names x) ∙ by (bytes_eq n x) x)

create_made : (w : WorldMap) (q : Place) (n b : List ℕ) → AreBelow w → (v : Bool) → is_created (w.directories q) n ≡ v → IsMade w (step.Create q n b) (if v then with_text (contents_of w) q n (Some b) else contents_of w)
create_made w q n b below true e =
    set_made w (step.Create q n b) q (λ d. with_created d n w.next_file) below (λ p. refl) n (Some w.next_file) (Some b) (λ i. (if e i then changed (w.directories q) (change.Set n w.next_file) else w.directories q).there)
    (λ x i. now_in (if e i then changed (w.directories q) (change.Set n w.next_file) else w.directories q) x) (ap Some (rw (e, num_itself w.next_file) refl)) refl
create_made w q n b below false e =
    unchanged_at w (step.Create q n b) q (λ d. with_created d n w.next_file) below (λ p. refl) (λ i. if e i then changed (w.directories q) (change.Set n w.next_file) else w.directories q) refl

link_made : (w : WorldMap) (q : Place) (a b : List ℕ) → AreBelow w → (u v : Option ℕ) → now_in (w.directories q) a ≡ u → now_in (w.directories q) b ≡ v
    → IsMade w (step.Link q a b) (where_done (steps.link_answer u v) (with_text (contents_of w) q b (text_in w (w.directories q) a)) (contents_of w))
link_made w q a b below (Some f) None e k =
    set_made w (step.Link q a b) q (λ d. with_linked d a b) below (λ p. refl) b (Some f) (text_in w (w.directories q) a) (λ i. (linked (w.directories q) b (e i) (k i)).there)
    (λ x i. now_in (linked (w.directories q) b (e i) (k i)) x) (ap (option_map (λ f. (file_after w (step.Link q a b) f).bytes)) (sym e) ∙ kept_text w (step.Link q a b) q a below) refl
link_made w q a b below (Some f) (Some g) e k = unchanged_at w (step.Link q a b) q (λ d. with_linked d a b) below (λ p. refl) (λ i. linked (w.directories q) b (e i) (k i)) refl
link_made w q a b below None v e k = unchanged_at w (step.Link q a b) q (λ d. with_linked d a b) below (λ p. refl) (λ i. linked (w.directories q) b (e i) (now_in (w.directories q) b)) refl

unlink_made : (w : WorldMap) (q : Place) (a : List ℕ) → AreBelow w → (u : Option ℕ) → now_in (w.directories q) a ≡ u → IsMade w (step.Unlink q a) (where_done (steps.name_answer u) (with_text (contents_of w) q a None) (contents_of w))
unlink_made w q a below (Some f) e =
    set_made w (step.Unlink q a) q (λ d. with_unlinked d a) below (λ p. refl) a None None (λ i. (changed_if (w.directories q) (change.Gone a) (e i)).there) (λ x i. now_in (changed_if (w.directories q) (change.Gone a) (e i)) x) refl refl
unlink_made w q a below None e = unchanged_at w (step.Unlink q a) q (λ d. with_unlinked d a) below (λ p. refl) (λ i. changed_if (w.directories q) (change.Gone a) (e i)) refl

rename_made : (w : WorldMap) (q : Place) (a b : List ℕ) → AreBelow w → (v : Bool) (u : Option ℕ) → bytes_eq a b ≡ v → now_in (w.directories q) a ≡ u
    → IsMade w (step.Rename q a b) (where_done (steps.name_answer u) (if v then contents_of w else with_text (with_text (contents_of w) q a None) q b (text_in w (w.directories q) a)) (contents_of w))
rename_made w q a b below true (Some f) t e = unchanged_at w (step.Rename q a b) q (λ d. with_renamed d a b) below (λ p. refl) (λ i. if t i then w.directories q else changed_if (w.directories q) (change.Moved a b) (now_in (w.directories q) a)) refl
rename_made w q a b below true None t e = unchanged_at w (step.Rename q a b) q (λ d. with_renamed d a b) below (λ p. refl) (λ i. if t i then w.directories q else changed_if (w.directories q) (change.Moved a b) (now_in (w.directories q) a)) refl
rename_made w q a b below false None t e = unchanged_at w (step.Rename q a b) q (λ d. with_renamed d a b) below (λ p. refl) (λ i. if t i then w.directories q else changed_if (w.directories q) (change.Moved a b) (e i)) refl
rename_made w q a b below false (Some f) t e = record {
  there = there_at w (step.Rename q a b) q (λ d. with_renamed d a b) below (λ p. refl) (λ i. (moved i).there);
  texts = texts_at w (step.Rename q a b) q (λ d. with_renamed d a b) below (λ p. refl) (λ p x. if is_at q b p x then text_in w (w.directories q) a else (if is_at q a p x then None else text_in w (w.directories p) x)) here (λ p x f. rw f refl);
  outside = refl;
}
  where
    moved : with_renamed (w.directories q) a b ≡ changed (w.directories q) (change.Moved a b)
    moved = λ i. if t i then w.directories q else changed_if (w.directories q) (change.Moved a b) (e i)

    by : (x : List ℕ) (v u : Bool) → option_map (λ f. (file_after w (step.Rename q a b) f).bytes) (if v then now_in (w.directories q) a else (if u then None else now_in (w.directories q) x))
        ≡ (if v then text_in w (w.directories q) a else (if u then None else text_in w (w.directories q) x))
    by x true u = kept_text w (step.Rename q a b) q a below
    by x false true = refl
    by x false false = kept_text w (step.Rename q a b) q x below

    here : (x : List ℕ) → option_map (λ f. (file_after w (step.Rename q a b) f).bytes) (now_in (with_renamed (w.directories q) a b) x)
        ≡ (if is_at q b q x then text_in w (w.directories q) a else (if is_at q a q x then None else text_in w (w.directories q) x))
    here x = rw (place_is q) (ap (λ d. option_map (λ f. (file_after w (step.Rename q a b) f).bytes) (now_in d x)) moved ∙ by x (bytes_eq b x) (bytes_eq a x))

done_if : {A : Type 0} (t v : Bool) (a : Answer) (x y : A) → a ≡ (if t then (if v then Done else Exists) else Gone) → (if t && v then x else y) ≡ where_done a x y
done_if true true a x y e = rw e refl
done_if true false a x y e = rw e refl
done_if false v a x y e = rw e refl

-- what others' worlds and files say of a step that only looks
looked : (w : WorldMap) (run : ℕ) (s : Step) → AreBelow w → ((p : Place) → (directory_after w s p).there ≡ (w.directories p).there) → ((p : Place) (x : List ℕ) → now_in (directory_after w s p) x ≡ now_in (w.directories p) x)
    → steps.outside_after w s ≡ w.outside → contents_of (made w run s) ≡ contents_of w
looked w run s below there names out = made_is w run s (contents_of w) (record { there = there; texts = λ p x. same_names w s p x below (names p x); outside = out })

made_in_all : (w : WorldMap) (run : ℕ) (s : Step) (a : Answer) → AreBelow w → Fits w run s a → contents_of (made w run s) ≡ changed_by (contents_of w) s a
made_in_all w run (step.List p) a below f = looked w run (step.List p) below (λ p. refl) (λ p x. refl) refl
made_in_all w run (step.Read p n limit) a below f = looked w run (step.Read p n limit) below (λ p. refl) (λ p x. refl) refl
made_in_all w run (step.MakeFolder q) a below f =
    made_is w run (step.MakeFolder q) (with_folder (contents_of w) q) (record {
      there = λ p. made_opened (same_place q p || is_parent p q) (w.directories p);
      texts = λ p x. same_names w (step.MakeFolder q) p x below (opened_names (same_place q p || is_parent p q) (w.directories p) x);
      outside = refl;
    })
made_in_all w run (step.Create q n b) a below f =
    made_is w run (step.Create q n b) _ (create_made w q n b below (is_created (w.directories q) n) refl)
    ∙ done_if (w.directories q).there (is_none (now_in (w.directories q) n)) a (with_text (contents_of w) q n (Some b)) (contents_of w) f
made_in_all w run (step.SyncFile q n) a below f = looked w run (step.SyncFile q n) below (λ p. refl) (λ p x. refl) refl
made_in_all w run (step.SyncFolder q) a below f =
    looked w run (step.SyncFolder q) below (λ p. stays_there (same_place q p) (w.directories p) (synced (w.directories p)) refl) (λ p x. synced_names (same_place q p) (w.directories p) x) refl
made_in_all w run (step.Link q n m) a below f =
    made_is w run (step.Link q n m) _ (link_made w q n m below (now_in (w.directories q) n) (now_in (w.directories q) m) refl refl)
    ∙ ap (λ z. where_done z (with_text (contents_of w) q m (text_in w (w.directories q) n)) (contents_of w)) (sym f)
made_in_all w run (step.Rename q n m) a below f =
    made_is w run (step.Rename q n m) _ (rename_made w q n m below (bytes_eq n m) (now_in (w.directories q) n) refl refl)
    ∙ ap (λ z. where_done z (with_moved (contents_of w) q n m) (contents_of w)) (sym f)
made_in_all w run (step.Unlink q n) a below f =
    made_is w run (step.Unlink q n) _ (unlink_made w q n below (now_in (w.directories q) n) refl) ∙ ap (λ z. where_done z (with_text (contents_of w) q n None) (contents_of w)) (sym f)
made_in_all w run (step.Lock p) a below f = looked w run (step.Lock p) below (λ p. refl) (λ p x. refl) refl
made_in_all w run (step.Unlock p) a below f = looked w run (step.Unlock p) below (λ p. refl) (λ p x. refl) refl
made_in_all w run (step.ReadFile path limit) a below f = looked w run (step.ReadFile path limit) below (λ p. refl) (λ p x. refl) refl
made_in_all w run (step.ReadDrop path from most) a below f = looked w run (step.ReadDrop path from most) below (λ p. refl) (λ p x. refl) refl
made_in_all w run (step.CutDrop path n) a below f =
    made_is w run (step.CutDrop path n) _ (record { there = λ p. refl; texts = λ p x. same_names w (step.CutDrop path n) p x below refl; outside = refl })

made_not_busy : (w : WorldMap) (run : ℕ) (s : Step) (a : Answer) → a ≢ Busy → made_by w run s a ≡ made w run s
made_not_busy w run s Busy never = absurd (never refl)
made_not_busy w run s Done never = refl
made_not_busy w run s (Names names) never = refl
made_not_busy w run s (Content b) never = refl
made_not_busy w run s (Piece b l) never = refl
made_not_busy w run s (Long l) never = refl
made_not_busy w run s Gone never = refl
made_not_busy w run s Exists never = refl
made_not_busy w run s Grown never = refl
made_not_busy w run s Failed never = refl

-- what a step with its answer leaves
pub made_in : (w : WorldMap) (run : ℕ) (s : Step) (a : Answer) → AreBelow w → Fits w run s a → a ≢ Busy → contents_of (made_by w run s a) ≡ changed_by (contents_of w) s a
made_in w run s a below f never = ap contents_of (made_not_busy w run s a never) ∙ made_in_all w run s a below f
