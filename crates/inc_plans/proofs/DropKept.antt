-- What a cut of a drop rests on, over further steps: the pieces that were read of it, and its messages stored one after another.
use Rattle.std.proofs.Common.{◌≡◌, ◌≢◌, ◌⊎◌, inl, inr, ◌++◌, ◌∷◌, [], ℕ, true, List, refl, subst}
use Rattle.std.specs.Prelude.{decimal}
use Rattle.mh_base.specs.Entries.{kind_of}
use Rattle.folder_files.specs.Careful.{HasPieces, HasStored, WasPutFrom, WasReady, all, put, on}
use Rattle.folder_files.specs.Deeds.{Deed, did, WasDone, now, on}
use Rattle.folder_files.specs.Named.{is_number, is_temp_of}
use Rattle.folder_files.specs.Places.{is_folder}
use Rattle.folder_files.specs.declared.place.FilePath.{FilePath}
use Rattle.folder_files.specs.declared.place.Place.{Place}
use Rattle.folder_files.specs.declared.step.Answer.TheVariants as answer
use Rattle.folder_files.specs.declared.step.Step.{Step}
use Rattle.folder_files.specs.declared.step.Step.TheVariants as step
use Rattle.step_plans.proofs.Lasting.{KeptBy}

-- a step that reads no piece of this drop
abbrev pub LeavesDrop : FilePath → Step → Type 0
LeavesDrop f (step.List p) = Unit {0}
LeavesDrop f (step.Read p n limit) = Unit {0}
LeavesDrop f (step.MakeFolder p) = Unit {0}
LeavesDrop f (step.Create p n b) = Unit {0}
LeavesDrop f (step.SyncFile p n) = Unit {0}
LeavesDrop f (step.SyncFolder p) = Unit {0}
LeavesDrop f (step.Link p a b) = Unit {0}
LeavesDrop f (step.Rename p a b) = Unit {0}
LeavesDrop f (step.Unlink p a) = Unit {0}
LeavesDrop f (step.Lock p) = Unit {0}
LeavesDrop f (step.Unlock p) = Unit {0}
LeavesDrop f (step.ReadFile g limit) = Unit {0}
LeavesDrop f (step.ReadDrop g from most) = g ≢ f
LeavesDrop f (step.CutDrop g length_) = Unit {0}

-- a step that doesn't begin to read this drop anew
abbrev pub LeavesFirst : FilePath → Step → Type 0
LeavesFirst f s = (most : ℕ) → s ≢ step.ReadDrop f 0 most

no_piece : (f : FilePath) (s : Step) (from most : ℕ) → LeavesDrop f s → s ≡ step.ReadDrop f from most → ⊥
no_piece f s from most leaves e = (subst (λ z. LeavesDrop f z) e leaves) refl

pub leaves_first : (f : FilePath) (s : Step) → LeavesDrop f s → LeavesFirst f s
leaves_first f s leaves most e = no_piece f s 0 most leaves e

pub pieces_kept : (f : FilePath) (drop : List ℕ) → KeptBy (LeavesDrop f) (HasPieces f drop)
pieces_kept f drop own s a leaves w = on (λ from most e. no_piece f s from most leaves e) w

done_case : (s : Step) (a b : List Deed) → WasDone s (a ++ b) → WasDone s a ⊎ WasDone s b
done_case s [] b w = inr w
done_case s (d ∷ a) b (now e) = inl (now e)
done_case s (d ∷ a) b (on w) = elim (done_case s a b w) [ inl z ↦ inl (on z) | inr z ↦ inr z ]

done_left : (s : Step) (a b : List Deed) → WasDone s a → WasDone s (a ++ b)
done_left s (d ∷ a) b (now e) = now e
done_left s (d ∷ a) b (on w) = on (done_left s a b w)
done_left s [] b w = elim w [ ]

done_right : (s : Step) (a b : List Deed) → WasDone s b → WasDone s (a ++ b)
done_right s [] b w = w
done_right s (d ∷ a) b w = on (done_right s a b w)

abbrev SyncsMore : List Deed → List Deed → Type 0
SyncsMore newer later = (q : Place) → WasDone (step.SyncFolder q) newer → WasDone (step.SyncFolder q) later

syncs_on : (newer later : List Deed) (d : Deed) → SyncsMore newer later → SyncsMore (newer ++ d ∷ []) (later ++ d ∷ [])
syncs_on newer later d f q w = elim (done_case (step.SyncFolder q) newer (d ∷ []) w) [
  | inl z ↦ done_left (step.SyncFolder q) later (d ∷ []) (f q z)
  | inr z ↦ done_right (step.SyncFolder q) later (d ∷ []) z
]

stored_more : (run : ℕ) (f : FilePath) (newer later : List Deed) (ms : List (List ℕ)) (own : List Deed) → SyncsMore newer later → HasStored run f newer ms own → HasStored run f later ms own
stored_more run f newer later _ own syncs all = all
stored_more run f newer later _ _ syncs (put {own = own} {d = d} q {messages = ms} is done rest) = put q is (syncs q done) (stored_more run f (newer ++ d ∷ []) (later ++ d ∷ []) ms own (syncs_on newer later d syncs) rest)
stored_more run f newer later ms _ syncs (on {own = own} {d = d} no_first rest) = on no_first (stored_more run f (newer ++ d ∷ []) (later ++ d ∷ []) ms own (syncs_on newer later d syncs) rest)

none_more : (later : List Deed) → SyncsMore [] later
none_more later q w = elim w [ ]

-- what is stored stays so until the drop is read anew
pub stored_kept : (run : ℕ) (f : FilePath) (ms : List (List ℕ)) → KeptBy (LeavesFirst f) (HasStored run f [] ms)
stored_kept run f ms own s a leaves w = on (λ most e. leaves most e) (stored_more run f [] (did s a ∷ []) ms own (none_more (did s a ∷ [])) w)

-- one more message is stored
pub stored_taken : (run : ℕ) (f : FilePath) (p : Place) (temp bytes : List ℕ) (m : ℕ) (ms : List (List ℕ)) (older : List Deed)
    → is_temp_of run (kind_of temp) ≡ true → is_number (kind_of (decimal m)) ≡ true → is_folder p ≡ true → WasReady p temp bytes older → (WasPutFrom run p temp older → ⊥) → HasStored run f [] ms older
    → HasStored run f [] (bytes ∷ ms) (did (step.SyncFolder p) answer.Done ∷ (did (step.Unlink p temp) answer.Done ∷ (did (step.Link p temp (decimal m)) answer.Done ∷ older)))
stored_taken run f p temp bytes m ms older is_own at folder ready first before =
    on (λ most e. cc (e)) (on (λ most e. cc (e))
    (put p (temp, (decimal m, refl, is_own, at, folder), ready, first) (now refl)
    (stored_more run f [] (did (step.SyncFolder p) answer.Done ∷ (did (step.Unlink p temp) answer.Done ∷ (did (step.Link p temp (decimal m)) answer.Done ∷ []))) ms older (none_more _) before)))
