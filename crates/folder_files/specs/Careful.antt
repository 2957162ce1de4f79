-- Careful steps, by kinds: a rule on a run's own steps and their answers, the newest first.
use Rattle.std.specs.Prelude.{◌≡◌, ◌≢◌, ◌++◌, ◌⊎◌, ℕ, true, List, [], ◌∷◌, length, reverse}
use Rattle.mbox_drop.specs.Drops.{is_drop, messages}
use Rattle.mh_base.specs.Entries.{kind_of}
use Rattle.folder_files.specs.Annotations.{Annotates}
use Rattle.folder_files.specs.Deeds.{Deed, did, Once, Since, Everywhere, WasDone, HasFailed}
use Rattle.folder_files.specs.Named.{is_temp, is_temp_of, is_number, is_held, is_held_of, is_other, is_taking, is_backing_up, is_committed, is_work, original_of}
use Rattle.folder_files.specs.Places.{is_folder}
use Rattle.folder_files.specs.declared.place.Place.{Place}
use Rattle.folder_files.specs.declared.place.FilePath.{FilePath}
use Rattle.folder_files.specs.declared.step.Step.{Step}
use Rattle.folder_files.specs.declared.step.Step.TheVariants as step
use Rattle.folder_files.specs.declared.step.Answer.TheVariants.{Done, Content, Piece, Gone}

-- the name was made, with whatever bytes
abbrev pub WasMade : Place → List ℕ → List Deed → Type 0
WasMade p temp own = Once (λ d older. (bytes : List ℕ) × (d ≡ did (step.Create p temp bytes) Done)) own

-- the name was made, and then its file was synced
abbrev pub WasSynced : Place → List ℕ → List Deed → Type 0
WasSynced p temp own = Once (λ d older. (d ≡ did (step.SyncFile p temp) Done) × WasMade p temp older) own

-- the same with these bytes
abbrev pub WasReady : Place → List ℕ → List ℕ → List Deed → Type 0
WasReady p temp bytes own =
    Once (λ d older. (d ≡ did (step.SyncFile p temp) Done) × WasDone (step.Create p temp bytes) older) own

-- a file that this run made is ready to be seen
abbrev pub IsReady : ℕ → Place → List ℕ → List Deed → Type 0
IsReady run p temp own = (is_temp_of run (kind_of temp) ≡ true) × WasSynced p temp own

-- the run gave a number of a folder to a file that it was making
abbrev pub IsPutLink : ℕ → Place → List ℕ → Deed → Type 0
IsPutLink run q temp d =
    (number : List ℕ) × (d ≡ did (step.Link q temp number) Done) × (is_temp_of run (kind_of temp) ≡ true)
    × (is_number (kind_of number) ≡ true)
    × (is_folder q ≡ true)

-- a message with these bytes was put into a folder
abbrev pub IsPut : ℕ → Place → List ℕ → Deed → List Deed → Type 0
IsPut run q bytes d older = (temp : List ℕ) × IsPutLink run q temp d × WasReady q temp bytes older

-- the file that the run made under this name was put
abbrev pub WasPutFrom : ℕ → Place → List ℕ → List Deed → Type 0
WasPutFrom run q temp own = Once (λ d older. IsPutLink run q temp d) own

-- a message with these bytes was put into a folder, as a file that was not put before
abbrev pub IsFirstPut : ℕ → Place → List ℕ → Deed → List Deed → Type 0
IsFirstPut run q bytes d older =
    (temp : List ℕ) × IsPutLink run q temp d × WasReady q temp bytes older × (WasPutFrom run q temp older → ⊥)

-- the run renamed a number to its held name of that number
abbrev pub WasTaken : ℕ → Place → List ℕ → List Deed → Type 0
WasTaken run p held own =
    Once
    (λ d older. (number : List ℕ) × (d ≡ did (step.Rename p number held) Done)
    × (is_taking run (kind_of number) (kind_of held) ≡ true)) own

-- the held file was given a number
abbrev pub WasGiven : Place → List ℕ → List Deed → Type 0
WasGiven p held own =
    Once
    (λ d older. (number : List ℕ) × (d ≡ did (step.Link p held number) Done)
    × (is_number (kind_of number) ≡ true)) own

-- and then the folder was synced
abbrev pub WasGivenAway : Place → List ℕ → List Deed → Type 0
WasGivenAway p held own = Once (λ d older. (d ≡ did (step.SyncFolder p) Done) × WasGiven p held older) own

-- the file of this name was read, and had these bytes
abbrev pub IsRead : Place → List ℕ → List ℕ → Deed → Type 0
IsRead p n bytes d = (limit : ℕ) × (d ≡ did (step.Read p n limit) (Content bytes))

-- a file was made with the bytes, or with lines before them
abbrev pub WasCopied : Place → List ℕ → List ℕ → List Deed → Type 0
WasCopied q temp bytes own =
    Once (λ d older. (copy : List ℕ) × (d ≡ did (step.Create q temp copy) Done) × Annotates bytes copy) own

-- such a file was put into a folder
abbrev pub IsCopyPut : ℕ → List ℕ → Deed → List Deed → Type 0
IsCopyPut run bytes d older = (q : Place) × (temp : List ℕ) × IsPutLink run q temp d × WasCopied q temp bytes older

-- the held file was read, and the copy is what was read, or lines and then that
abbrev pub WasReadAs : Place → List ℕ → List ℕ → List Deed → Type 0
WasReadAs p held copy own = Once (λ d older. (bytes : List ℕ) × IsRead p held bytes d × Annotates bytes copy) own

-- after such a reading a file was made with the copy
abbrev pub WasCopiedFrom : Place → List ℕ → Place → List ℕ → List Deed → Type 0
WasCopiedFrom p held q temp own =
    Once (λ d older. (copy : List ℕ) × (d ≡ did (step.Create q temp copy) Done) × WasReadAs p held copy older) own

-- a successor of the held file was put into the folder q
abbrev pub IsSuccessorPut : ℕ → Place → List ℕ → Place → Deed → List Deed → Type 0
IsSuccessorPut run p held q d older = (temp : List ℕ) × IsPutLink run q temp d × WasCopiedFrom p held q temp older

-- where the deed is a reading of the held file, a copy was put after it
abbrev pub IsSucceeded : ℕ → Place → List ℕ → List Deed → Deed → Type 0
IsSucceeded run p held newer d = (bytes : List ℕ) → IsRead p held bytes d → Once (IsCopyPut run bytes) newer

-- where the deed puts a successor, its folder was synced after it
abbrev pub IsSuccessorSynced : ℕ → Place → List ℕ → List Deed → Deed → List Deed → Type 0
IsSuccessorSynced run p held newer d older =
    (q : Place) → IsSuccessorPut run p held q d older → WasDone (step.SyncFolder q) newer

-- the run took the message and then read it
abbrev pub WasTakenAndRead : ℕ → Place → List ℕ → List Deed → Type 0
WasTakenAndRead run p held own =
    Once (λ d older. ((bytes : List ℕ) × IsRead p held bytes d) × WasTaken run p held older) own

-- a message that the run took and read stands elsewhere: after each reading a copy was put, and after each such put its
-- folder was synced
pub record MayDiscard (run : ℕ) (p : Place) (held : List ℕ) (own : List Deed) : Type 0 where
  pub not_given_away : WasGivenAway p held own → ⊥
  pub taken_and_read : WasTakenAndRead run p held own
  pub succeeded : Everywhere (λ newer d older. IsSucceeded run p held newer d) own
  pub synced : Everywhere (IsSuccessorSynced run p held) own

-- the run has the lock: it was taken, and not let go since
abbrev pub HasLock : Place → List Deed → Type 0
HasLock p own = Since (λ d older. d ≡ did (step.Lock p) Done) (λ d. d.step ≡ step.Unlock p) own

-- what the name holds is known: it was read, or found missing, or replaced by the run itself
abbrev pub IsKnown : ℕ → Place → List ℕ → Deed → Type 0
IsKnown run p name d =
    ((bytes : List ℕ) × IsRead p name bytes d)
    ⊎ (((limit : ℕ) × (d ≡ did (step.Read p name limit) Gone))
    ⊎ ((temp : List ℕ) × (d ≡ did (step.Rename p temp name) Done) × (is_temp_of run (kind_of temp) ≡ true)))

-- the run has the lock, and since it got it knows what the name holds
abbrev pub HasBase : ℕ → Place → List ℕ → List Deed → Type 0
HasBase run p name own = Since (λ d older. IsKnown run p name d × HasLock p older) (λ d. d.step ≡ step.Unlock p) own

-- a piece of an outside file from this place on
abbrev pub IsPiece : FilePath → ℕ → List ℕ → ℕ → Deed → Type 0
IsPiece f from bytes length_ d = (most : ℕ) × (d ≡ did (step.ReadDrop f from most) (Piece bytes length_))

-- no piece of this file was asked for
abbrev pub IsNoPiece : FilePath → Deed → Type 0
IsNoPiece f d = (from most : ℕ) → d.step ≢ step.ReadDrop f from most

-- the bytes that the pieces give since the last from place 0, one after another without a gap
pub data HasPieces (f : FilePath) : List ℕ → List Deed → Type 0 where
  first : {d : Deed} {own : List Deed} {bytes : List ℕ} {length_ : ℕ} → IsPiece f 0 bytes length_ d
      → HasPieces f bytes (d ∷ own)
  more : {d : Deed} {own : List Deed} {bytes piece : List ℕ} {length_ : ℕ} → length bytes ≢ 0
      → IsPiece f (length bytes) piece length_ d → HasPieces f bytes own
      → HasPieces f (bytes ++ piece) (d ∷ own)
  on : {d : Deed} {own : List Deed} {bytes : List ℕ} → IsNoPiece f d → HasPieces f bytes own
      → HasPieces f bytes (d ∷ own)

-- no piece from place 0 was asked for
abbrev pub IsNoFirst : FilePath → Deed → Type 0
IsNoFirst f d = (most : ℕ) → d.step ≢ step.ReadDrop f 0 most

-- these messages, the last first, were put one after another since the last piece from place 0, each as a file of its
-- own, and each one's folder was synced after it
pub data HasStored (run : ℕ) (f : FilePath) : List Deed → List (List ℕ) → List Deed → Type 0 where
  all : {newer own : List Deed} → HasStored run f newer [] own
  put : {newer own : List Deed} {d : Deed} (q : Place) {message : List ℕ} {messages : List (List ℕ)}
      → IsFirstPut run q message d own → WasDone (step.SyncFolder q) newer
      → HasStored run f (newer ++ d ∷ []) messages own → HasStored run f newer (message ∷ messages) (d ∷ own)
  on : {newer own : List Deed} {d : Deed} {messages : List (List ℕ)} → IsNoFirst f d
      → HasStored run f (newer ++ d ∷ []) messages own → HasStored run f newer messages (d ∷ own)

-- the whole drop was read, and each of its messages stored
pub record MayCut (run : ℕ) (f : FilePath) (length_ : ℕ) (own : List Deed) : Type 0 where
  pub drop : List ℕ
  pub pieces : HasPieces f drop own
  pub whole : length drop ≡ length_
  pub told : Once (λ d older. (piece : List ℕ) × IsPiece f 0 piece length_ d) own
  pub is_one : is_drop drop ≡ true
  pub stored : HasStored run f [] (reverse (messages drop)) own

abbrev pub MayCreate : ℕ → Place → List ℕ → List Deed → Type 0
MayCreate run p temp own = (is_temp_of run (kind_of temp) ≡ true) × (WasMade p temp own → ⊥)

abbrev pub MayPut : ℕ → Place → List ℕ → List ℕ → List Deed → Type 0
MayPut run p temp number own = (is_folder p ≡ true) × (is_number (kind_of number) ≡ true) × IsReady run p temp own

abbrev pub MayGive : Place → List ℕ → List ℕ → Type 0
MayGive p held number = (is_folder p ≡ true) × (is_held (kind_of held) ≡ true) × (is_number (kind_of number) ≡ true)

abbrev pub MayTake : ℕ → Place → List ℕ → List ℕ → List Deed → Type 0
MayTake run p number held own =
    (is_folder p ≡ true) × (is_taking run (kind_of number) (kind_of held) ≡ true)
    × (WasDone (step.Rename p number held) own → ⊥)

abbrev pub MayBackUp : Place → List ℕ → List ℕ → Type 0
MayBackUp p number backup = (is_folder p ≡ true) × (is_backing_up (kind_of number) (kind_of backup) ≡ true)

abbrev pub MayRemove : Place → List ℕ → Type 0
MayRemove p number = (is_folder p ≡ true) × (is_number (kind_of number) ≡ true)

abbrev pub MayDrop : Place → List ℕ → List Deed → Type 0
MayDrop p held own = (is_folder p ≡ true) × (is_held (kind_of held) ≡ true) × WasGivenAway p held own

abbrev pub MayUnhold : ℕ → Place → List ℕ → List Deed → Type 0
MayUnhold run p held own = (is_folder p ≡ true) × (is_held_of run (kind_of held) ≡ true) × MayDiscard run p held own

abbrev pub MayCommit : ℕ → Place → List ℕ → List ℕ → List Deed → Type 0
MayCommit run p temp name own = (is_committed p name ≡ true) × IsReady run p temp own × HasBase run p name own

abbrev pub MayStore : ℕ → Place → List ℕ → List ℕ → List Deed → Type 0
MayStore run p temp name own = (is_work p ≡ true) × (is_other (kind_of name) ≡ true) × IsReady run p temp own

abbrev pub MaySetAside : Place → List ℕ → List ℕ → Type 0
MaySetAside p name old = (is_work p ≡ true) × (is_other (kind_of name) ≡ true) × (old ≡ original_of name)

-- the kinds of careful steps that change something
pub data Kind : Type 0 where
  Makes : Kind
  Creates : Kind
  Puts : Kind
  Gives : Kind
  Takes : Kind
  Removes : Kind
  Drops : Kind
  Discards : Kind
  Commits : Kind
  Clears : Kind
  Cuts : Kind
  Stores : Kind

-- a step of this kind that keeps the discipline after this run's deeds
pub data Keeps (run : ℕ) (own : List Deed) : Kind → Step → Type 0 where
  makes : (p : Place) → Keeps run own Makes (step.MakeFolder p)
  creates : (p : Place) (temp bytes : List ℕ) → MayCreate run p temp own
      → Keeps run own Creates (step.Create p temp bytes)
  puts : (p : Place) (temp number : List ℕ) → MayPut run p temp number own
      → Keeps run own Puts (step.Link p temp number)
  gives : (p : Place) (held number : List ℕ) → MayGive p held number → Keeps run own Gives (step.Link p held number)
  takes : (p : Place) (number held : List ℕ) → MayTake run p number held own
      → Keeps run own Takes (step.Rename p number held)
  backs_up : (p : Place) (number backup : List ℕ) → MayBackUp p number backup
      → Keeps run own Removes (step.Rename p number backup)
  removes : (p : Place) (number : List ℕ) → MayRemove p number → Keeps run own Removes (step.Unlink p number)
  drops : (p : Place) (held : List ℕ) → MayDrop p held own → Keeps run own Drops (step.Unlink p held)
  discards : (p : Place) (held : List ℕ) → MayUnhold run p held own → Keeps run own Discards (step.Unlink p held)
  commits : (p : Place) (temp name : List ℕ) → MayCommit run p temp name own
      → Keeps run own Commits (step.Rename p temp name)
  clears : (p : Place) (temp : List ℕ) → is_temp (kind_of temp) ≡ true → Keeps run own Clears (step.Unlink p temp)
  cuts : (f : FilePath) (length_ : ℕ) → MayCut run f length_ own → Keeps run own Cuts (step.CutDrop f length_)
  links : (p : Place) (temp name : List ℕ) → MayStore run p temp name own → Keeps run own Stores (step.Link p temp name)
  replaces : (p : Place) (temp name : List ℕ) → MayStore run p temp name own
      → Keeps run own Stores (step.Rename p temp name)
  sets_aside : (p : Place) (name old : List ℕ) → MaySetAside p name old → Keeps run own Stores (step.Rename p name old)

-- a step that looks, makes things safe, or has to do with a lock
abbrev pub IsLook : Step → Type 0
IsLook (step.List p) = Unit {0}
IsLook (step.Read p n limit) = Unit {0}
IsLook (step.MakeFolder p) = ⊥
IsLook (step.Create p n b) = ⊥
IsLook (step.SyncFile p n) = Unit {0}
IsLook (step.SyncFolder p) = Unit {0}
IsLook (step.Link p a b) = ⊥
IsLook (step.Rename p a b) = ⊥
IsLook (step.Unlink p a) = ⊥
IsLook (step.Lock p) = Unit {0}
IsLook (step.Unlock p) = Unit {0}
IsLook (step.ReadFile f limit) = Unit {0}
IsLook (step.ReadDrop f from most) = Unit {0}
IsLook (step.CutDrop f length_) = ⊥

-- a careful step: it looks, or no deed before it failed and it keeps the discipline in one of the kinds
pub data IsCareful (run : ℕ) (own : List Deed) (s : Step) : Type 0 where
  looks : IsLook s → IsCareful run own s
  changes : (HasFailed own → ⊥) → (kind : Kind) → Keeps run own kind s → IsCareful run own s
