-- What a call has seen so far of what stood there when it came, and what that makes of the answers to its steps: alone
-- exactly those of its contents, beside other runs those that agree with the contents wherever a name still leads to
-- what stood there and wasn't yet seen.
use Rattle.std.specs.Prelude.{◌≡◌, ◌&&◌, ◌||◌, ◌==◌, ◌+◌, ◌-◌, ℕ, Bool, true, false, bytes_eq, List, [], ◌∷◌, length, take, drop, Option, Some, None, is_some, if◌then◌else◌}
use Rattle.mh_base.specs.Entries.{kind_of}
use Rattle.mh_base.specs.Numbers.{number_of}
use Rattle.folder_files.specs.Named.{is_temp, is_held}
use Rattle.folder_files.specs.Places.{same_place, same_path, is_parent}
use Rattle.folder_files.specs.Steps.{has_text, read_file_answer, piece_answer}
use Rattle.folder_files.specs.declared.place.Place.{Place}
use Rattle.folder_files.specs.declared.place.FilePath.{FilePath}
use Rattle.folder_files.specs.declared.step.Step.{Step}
use Rattle.folder_files.specs.declared.step.Step.TheVariants as step
use Rattle.folder_files.specs.declared.step.Answer.{Answer}
use Rattle.folder_files.specs.declared.step.Answer.TheVariants.{Done, Names, Content, Piece, Long, Gone, Exists, Busy, Grown, Failed}
use Rattle.file_plans.specs.Giving.{Table}
use Rattle.folder_files.specs.Standing.{is_standing}
use Rattle.file_plans.specs.Contents.{Contents, filled, is_at, where_done, FitsIn, changed_by}

-- of a name: it leads to what stood there at first, of which nothing was seen; or of which it was seen that something
-- stands there; or no more is to be learnt of what stood there
pub data Sight : Type 0 where
  Unseen : Sight
  Listed : Sight
  Known : Sight

-- of an outside file: nothing was seen of it; or that its length was this, and its bytes up to there; or no more is to
-- be learnt of what stood there
pub data Spied : Type 0 where
  Hidden : Spied
  Upto : (whole told : ℕ) → Spied
  Spent : Spied

-- what was seen so far: of names, of whether directories are there, and of outside files
pub record Seen : Type 0 where
  pub names : Place → List ℕ → Sight
  pub places : Place → Bool
  pub files : FilePath → Spied

abbrev pub nothing_seen : Seen
nothing_seen = record { names = λ p x. Unseen; places = λ p. false; files = λ f. Hidden }

-- something stands there
abbrev pub noticed : Sight → Sight
noticed Unseen = Listed
noticed Listed = Listed
noticed Known = Known

-- a listing tells of a standing name whether it is there
abbrev pub in_listing : Bool → Sight → Sight
in_listing true Unseen = Listed
in_listing false Unseen = Known
in_listing b Listed = Listed
in_listing b Known = Known

abbrev pub sight_listed : Bool → Bool → Sight → Sight
sight_listed true b s = in_listing b s
sight_listed false b s = s

abbrev pub with_sight : Seen → Place → List ℕ → Sight → Seen
with_sight k q n s =
    record { names = λ p x. if is_at q n p x then s else k.names p x; places = k.places; files = k.files }

-- the second name leads to what the first led to, and what was not yet seen of it is now to be seen there
abbrev pub sight_moved : Seen → Place → List ℕ → List ℕ → Seen
sight_moved k q a b = with_sight (with_sight k q b (k.names q a)) q a Known

-- beside the names that are listed, those that an own Link meets later count as there
abbrev pub with_listing : (Place → List ℕ → Bool) → Seen → Place → List (List ℕ) → Seen
with_listing met k q names =
    record {
      names = λ p x.
          sight_listed (same_place q p && is_standing x) (has_text x names || met p x) (k.names p x);
      places = k.places;
      files = k.files;
    }

abbrev pub with_place : Seen → Place → Seen
with_place k q = record { names = k.names; places = λ p. same_place q p || k.places p; files = k.files }

abbrev pub after_list : (Place → List ℕ → Bool) → Seen → Place → Answer → Seen
after_list met k p (Names names) = with_listing met (with_place k p) p names
after_list met k p Gone = with_place k p
after_list met k p other = k

abbrev pub after_link : Seen → Place → List ℕ → List ℕ → Answer → Seen
after_link k p a b Done = sight_moved k p a b
after_link k p a b Exists = with_sight k p b (noticed (k.names p b))
after_link k p a b other = k

abbrev pub by_piece : {A : Type 0} → Answer → (List ℕ → ℕ → A) → A → A → A
by_piece (Piece b l) f g x = f b l
by_piece Gone f g x = g
by_piece other f g x = x

-- the first piece tells the length, and each that begins where the one before it ended tells more of so many bytes
abbrev pub spied_by : Spied → ℕ → Answer → Spied
spied_by Hidden from a = by_piece a (λ b l. if from == 0 then Upto l (length b) else Hidden) Spent Hidden
spied_by (Upto whole told) from a =
    by_piece a (λ b l. if from == told then Upto whole (told + length (take (whole - told) b)) else Upto whole told)
    (Upto whole told) (Upto whole told)
spied_by Spent from a = Spent

-- what is seen by a step with its answer
abbrev pub seen_by : (Place → List ℕ → Bool) → Seen → Step → Answer → Seen
seen_by met k (step.List p) a = after_list met k p a
seen_by met k (step.Read p n limit) a = with_sight k p n Known
seen_by met k (step.MakeFolder p) a =
    record { names = k.names; places = λ q. (same_place p q || is_parent q p) || k.places q; files = k.files }
seen_by met k (step.Create p n b) a = where_done a (with_sight k p n Known) k
seen_by met k (step.SyncFile p n) a = k
seen_by met k (step.SyncFolder p) a = k
seen_by met k (step.Link p a b) answer = after_link k p a b answer
seen_by met k (step.Rename p a b) answer = where_done answer (if bytes_eq a b then k else sight_moved k p a b) k
seen_by met k (step.Unlink p n) a = where_done a (with_sight k p n Known) k
seen_by met k (step.Lock p) a = with_place k p
seen_by met k (step.Unlock p) a = k
seen_by met k (step.ReadFile path limit) a =
    record { names = k.names; places = k.places; files = λ f. if same_path path f then Spent else k.files f }
seen_by met k (step.ReadDrop path from most) a =
    record {
      names = k.names;
      places = k.places;
      files = λ f. if same_path path f then spied_by (k.files f) from a
          else k.files f;
    }
seen_by met k (step.CutDrop path n) a =
    record { names = k.names; places = k.places; files = λ f. if same_path path f then Spent else k.files f }

-- a Read of a name: of what was not yet seen it tells; but what was seen to be there may have been taken away meanwhile
abbrev pub IsThere : Option (List ℕ) → ℕ → Answer → Type 0
IsThere o limit Gone = Unit {0}
IsThere o limit Done = Done ≡ read_file_answer limit o
IsThere o limit (Names names) = Names names ≡ read_file_answer limit o
IsThere o limit (Content b) = Content b ≡ read_file_answer limit o
IsThere o limit (Piece b l) = Piece b l ≡ read_file_answer limit o
IsThere o limit (Long l) = Long l ≡ read_file_answer limit o
IsThere o limit Exists = Exists ≡ read_file_answer limit o
IsThere o limit Busy = Busy ≡ read_file_answer limit o
IsThere o limit Grown = Grown ≡ read_file_answer limit o
IsThere o limit Failed = Failed ≡ read_file_answer limit o

abbrev pub ReadTells : Sight → Option (List ℕ) → ℕ → Answer → Type 0
ReadTells Unseen o limit a = a ≡ read_file_answer limit o
ReadTells Listed o limit a = IsThere o limit a
ReadTells Known o limit a = Unit {0}

abbrev pub ListingTells : Sight → Option (List ℕ) → Bool → Type 0
ListingTells Unseen o b = is_some o ≡ b
ListingTells Listed o b = Unit {0}
ListingTells Known o b = Unit {0}

-- whether the directory is there, where that was not yet seen
abbrev pub PlaceTells : Bool → Bool → Bool → Type 0
PlaceTells true there b = Unit {0}
PlaceTells false there b = there ≡ b

abbrev pub ListTells : (Place → List ℕ → Bool) → Contents → Seen → Place → Answer → Type 0
ListTells met c k p (Names names) =
    PlaceTells (k.places p) (c.there p) true
    × ((x : List ℕ) → is_standing x ≡ true → ListingTells (k.names p x) (c.texts p x) (has_text x names || met p x))
ListTells met c k p Gone = PlaceTells (k.places p) (c.there p) false
ListTells met c k p other = Unit {0}

-- a Link tells whether its new name was there
abbrev pub LinkTells : Sight → Option (List ℕ) → Answer → Type 0
LinkTells s o Done = ListingTells s o false
LinkTells s o Exists = ListingTells s o true
LinkTells s o other = Unit {0}

abbrev pub is_gone : Answer → Bool
is_gone Gone = true
is_gone other = false

abbrev pub is_exists : Answer → Bool
is_exists Exists = true
is_exists other = false

abbrev pub FileTells : Spied → Option (List ℕ) → ℕ → Answer → Type 0
FileTells Hidden o limit a = a ≡ read_file_answer limit o
FileTells (Upto whole told) o limit a = Unit {0}
FileTells Spent o limit a = Unit {0}

-- a piece tells of the bytes that come next
abbrev pub DropTells : Spied → Option (List ℕ) → ℕ → ℕ → Answer → Type 0
DropTells Hidden o from most a =
    (((b : List ℕ) (l : ℕ) → a ≡ Piece b l → from ≡ 0 → a ≡ piece_answer from most o)) × (a ≡ Gone → o ≡ None)
DropTells (Upto whole told) o from most a =
    (b : List ℕ) (l : ℕ) → a ≡ Piece b l → from ≡ told
    → take (length (take (whole - told) b)) (drop told (filled o)) ≡ take (whole - told) b
DropTells Spent o from most a = Unit {0}

-- what an answer tells of the contents beside other runs
abbrev pub Tells : (Place → List ℕ → Bool) → Contents → Seen → Step → Answer → Type 0
Tells met c k (step.List p) a = ListTells met c k p a
Tells met c k (step.Read p n limit) a = ReadTells (k.names p n) (c.texts p n) limit a
Tells met c k (step.MakeFolder p) a = PlaceTells (k.places p) (c.there p) (is_exists a)
Tells met c k (step.Link p n m) a = LinkTells (k.names p m) (c.texts p m) a
Tells met c k (step.Lock p) a = PlaceTells (k.places p) (c.there p) (if is_gone a then false else true)
Tells met c k (step.ReadFile path limit) a = FileTells (k.files path) (c.outside path) limit a
Tells met c k (step.ReadDrop path from most) a = DropTells (k.files path) (c.outside path) from most a
Tells met c k s a = Unit {0}

-- the number that a put or a give gets by a step with this answer: a Temp or a Held name was linked to it
abbrev pub number_put : Step → Answer → Option ℕ
number_put (step.Link p a b) x =
    where_done x (if is_temp (kind_of a) || is_held (kind_of a) then number_of b else None) None
number_put s x = None

-- these are the numbers of all puts that are still to come, and that step's is the next of them
abbrev pub IsNextOf : Option ℕ → List ℕ → Type 0
IsNextOf None ns = Unit {0}
IsNextOf (Some n) [] = ⊥
IsNextOf (Some n) (m ∷ ns) = m ≡ n

abbrev pub left_of : Option ℕ → List ℕ → List ℕ
left_of None ns = ns
left_of (Some n) [] = []
left_of (Some n) (m ∷ ns) = ns

-- the contents as the call's own steps have made them from those that it met, what it has seen of these, the numbers of
-- its puts to come, and the names that its Links meet
pub record View : Type 0 where
  pub contents : Contents
  pub seen : Seen
  pub numbers : List ℕ
  pub met : Place → List ℕ → Bool

abbrev pub first_view : Contents → List ℕ → (Place → List ℕ → Bool) → View
first_view c ns met = record { contents = c; seen = nothing_seen; numbers = ns; met = met }

abbrev pub view_after : View → Step → Answer → View
view_after v s a =
    record {
      contents = changed_by v.contents s a;
      seen = seen_by v.met v.seen s a;
      numbers = left_of (number_put s a) v.numbers;
      met = v.met;
    }

-- alone, or beside other runs
abbrev pub fits_view : Bool → View → Step → Answer → Type 0
fits_view true v s a = FitsIn v.contents s a × IsNextOf (number_put s a) v.numbers
fits_view false v s a = Tells v.met v.contents v.seen s a × IsNextOf (number_put s a) v.numbers

abbrev pub by_view : Bool → Table View
by_view alone = record { fits = fits_view alone; after = view_after }
