-- What names lead to, as bytes: all that decides the answers of steps, and nothing of files, of what is safe, or of
-- locks.
use Rattle.std.specs.Prelude.{◌≡◌, ◌&&◌, ◌||◌, ◌^◌, ℕ, nat_lt, Bool, true, false, bytes_eq, List, [], Option, Some, None, is_none, is_some, codes, if◌then◌else◌}
use Rattle.mh_base.specs.Entries.{entry_text}
use Rattle.mh_base.specs.declared.entry.Entry.TheVariants.{Number, Backup, Held, Sequences}
use Rattle.folder_files.specs.Places.{same_place, same_path, is_parent}
use Rattle.folder_files.specs.Steps.{IsAscending, has_text, read_file_answer, piece_answer, cut_answer, cut_at, there_answer}
use Rattle.folder_files.specs.Worlds.{WorldMap}
use Rattle.folder_files.specs.declared.place.Place.{Place}
use Rattle.folder_files.specs.declared.place.Place.TheVariants.{Home, Work}
use Rattle.folder_files.specs.declared.place.FilePath.{FilePath}
use Rattle.folder_files.specs.declared.step.Step.{Step}
use Rattle.folder_files.specs.declared.step.Step.TheVariants as step
use Rattle.folder_files.specs.declared.step.Answer.{Answer}
use Rattle.folder_files.specs.declared.step.Answer.TheVariants.{Done, Names, Gone, Exists}
use Rattle.file_plans.specs.Giving.{Table}
use Rattle.file_plans.specs.Mailboxes.{Folder, Mailbox, numbered, text_in, where_folder, where_mail}

-- which directories are there, the text to which each name leads, and the outside files
pub record Contents : Type 0 where
  pub there : Place → Bool
  pub texts : Place → List ℕ → Option (List ℕ)
  pub outside : FilePath → Option (List ℕ)

abbrev pub contents_of : WorldMap → Contents
contents_of w =
    record { there = λ p. (w.directories p).there; texts = λ p x. text_in w (w.directories p) x; outside = w.outside }

abbrev pub folder_at : Contents → Place → Folder
folder_at c p = record {
  messages = λ n. numbered n (c.texts p (entry_text (Number n)));
  removed = λ n. numbered n (c.texts p (entry_text (Backup n)));
  held = λ run n. if nat_lt run (2 ^ 128) then numbered n (c.texts p (entry_text (Held run n))) else None;
  sequences = c.texts p (entry_text Sequences);
}

-- the mailbox that these are
unfoldable pub mailbox_in : Contents → Mailbox
mailbox_in c = record {
  folders = λ p. where_folder p (if c.there p then Some (folder_at c p) else None);
  home = λ name. c.texts Home name;
  work = λ name. c.texts Work name;
  context = λ p. where_mail p (c.texts p (codes "context"));
  outside = c.outside;
}

-- this name of this place
abbrev pub is_at : Place → List ℕ → Place → List ℕ → Bool
is_at q n p x = same_place q p && bytes_eq n x

-- the name leads to this text, or to nothing
abbrev pub with_text : Contents → Place → List ℕ → Option (List ℕ) → Contents
with_text c q n text =
    record { there = c.there; texts = λ p x. if is_at q n p x then text else c.texts p x; outside = c.outside }

-- the first name leads to nothing, and the second to what the first led to
abbrev pub with_moved : Contents → Place → List ℕ → List ℕ → Contents
with_moved c q a b = if bytes_eq a b then c else with_text (with_text c q a None) q b (c.texts q a)

-- the directory and its parents are there
abbrev pub with_folder : Contents → Place → Contents
with_folder c q =
    record { there = λ p. (same_place q p || is_parent p q) || c.there p; texts = c.texts; outside = c.outside }

abbrev pub with_cut : Contents → FilePath → ℕ → Contents
with_cut c path n =
    record {
      there = c.there;
      texts = c.texts;
      outside = λ f. if same_path path f then cut_at n (c.outside f)
          else c.outside f;
    }

abbrev pub where_done : {A : Type 0} → Answer → A → A → A
where_done Done x y = x
where_done other x y = y

-- what a step with its answer makes of them
abbrev pub changed_by : Contents → Step → Answer → Contents
changed_by c (step.MakeFolder p) a = with_folder c p
changed_by c (step.Create p n b) a = where_done a (with_text c p n (Some b)) c
changed_by c (step.Link p n m) a = where_done a (with_text c p m (c.texts p n)) c
changed_by c (step.Rename p n m) a = where_done a (with_moved c p n m) c
changed_by c (step.Unlink p n) a = where_done a (with_text c p n None) c
changed_by c (step.CutDrop path n) a = with_cut c path n
changed_by c s a = c

abbrev pub name_answer : Option (List ℕ) → Answer
name_answer None = Gone
name_answer (Some text) = Done

abbrev pub link_answer : Option (List ℕ) → Option (List ℕ) → Answer
link_answer None b = Gone
link_answer (Some text) None = Done
link_answer (Some text) (Some other) = Exists

-- a text, and the empty one where there is none
abbrev pub filled : Option (List ℕ) → List ℕ
filled None = []
filled (Some text) = text

-- the names of a directory, ascending
pub record IsListingIn (c : Contents) (p : Place) (names : List (List ℕ)) : Type 0 where
  pub ascending : IsAscending names
  pub all : (x : List ℕ) → has_text x names ≡ is_some (c.texts p x)

abbrev pub IsListedIn : Contents → Place → Answer → Type 0
IsListedIn c p (Names names) = (c.there p ≡ true) × IsListingIn c p names
IsListedIn c p Gone = c.there p ≡ false
IsListedIn c p other = ⊥

-- the answer that a step has there, where no other run has a lock
abbrev pub FitsIn : Contents → Step → Answer → Type 0
FitsIn c (step.List p) a = IsListedIn c p a
FitsIn c (step.Read p n limit) a = a ≡ read_file_answer limit (c.texts p n)
FitsIn c (step.MakeFolder p) a = a ≡ (if c.there p then Exists else Done)
FitsIn c (step.Create p n b) a = a ≡ (if c.there p then (if is_none (c.texts p n) then Done else Exists) else Gone)
FitsIn c (step.SyncFile p n) a = a ≡ name_answer (c.texts p n)
FitsIn c (step.SyncFolder p) a = a ≡ there_answer (c.there p)
FitsIn c (step.Link p n m) a = a ≡ link_answer (c.texts p n) (c.texts p m)
FitsIn c (step.Rename p n m) a = a ≡ name_answer (c.texts p n)
FitsIn c (step.Unlink p n) a = a ≡ name_answer (c.texts p n)
FitsIn c (step.Lock p) a = a ≡ there_answer (c.there p)
FitsIn c (step.Unlock p) a = a ≡ Done
FitsIn c (step.ReadFile path limit) a = a ≡ read_file_answer limit (c.outside path)
FitsIn c (step.ReadDrop path from most) a = a ≡ piece_answer from most (c.outside path)
FitsIn c (step.CutDrop path n) a = a ≡ cut_answer n (c.outside path)

-- the table of a call that runs alone
abbrev pub by_contents : Table Contents
by_contents = record { fits = FitsIn; after = changed_by }
