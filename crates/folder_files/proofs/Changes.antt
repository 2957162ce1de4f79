-- What a step does to a directory and to files, whatever the step.
use Rattle.std.proofs.Common.{◌≡◌, ℕ, ◌+◌, ◌<◌, ◌≤◌, Bool, true, false, ◌==◌, ◌&&◌, ◌||◌, ◌⊎◌, inl, inr, List, [], ◌∷◌, length, Option, Some, None, refl, sym, ◌∙◌, ap, subst, arith, bytes_eq, if◌then◌else◌}
use Rattle.folder_files.specs.Directory.{Slots, DirectoryMap, touches, after_change, lead, kept_lead, now_in, IsUntouched}
use Rattle.folder_files.specs.Places.{same_place, is_parent}
use Rattle.folder_files.specs.Steps.{changed, changed_if, is_created, with_created, linked, with_linked, with_renamed, with_unlinked, synced, with_made, directory_after, is_led, file_after, next_after}
use Rattle.folder_files.specs.Worlds.{FileState, WorldMap}
use Rattle.folder_files.specs.declared.place.Place.{Place}
use Rattle.folder_files.specs.declared.step.Step.{Step}
use Rattle.folder_files.specs.declared.step.Step.TheVariants as step
use Rattle.folder_files.specs.declared.world.Change.{Change}
use Rattle.folder_files.specs.declared.world.Change.TheVariants.{Set, Gone, Moved}
use Rattle.folder_files.proofs.Sameness.{place_same}
use Rattle.folder_files.proofs.Names.{num_same, both, bytes_true, or_false}

-- a change leaves what it doesn't touch
pub untouched_change : (c : Change) (s : Slots) (x : List ℕ) → touches c x ≡ false → after_change c s x ≡ s x
untouched_change (Set n f) s x h = rw h refl
untouched_change (Gone n) s x h = rw h refl
untouched_change (Moved a b) s x h = let p = or_false (bytes_eq a x) (bytes_eq b x) h in rw (p.1, p.0) refl

pub untouched_lead : (s : Slots) (cs : List Change) (x : List ℕ) → IsUntouched x cs → lead s cs x ≡ s x
untouched_lead s [] x u = refl
untouched_lead s (c ∷ cs) x u = untouched_change c (lead s cs) x u.0 ∙ untouched_lead s cs x u.1

-- the step makes x lead to something in p
abbrev pub IsTarget : Step → Place → List ℕ → Type 0
IsTarget (step.Create q n b) p x = (q ≡ p) × (n ≡ x)
IsTarget (step.Link q a b) p x = (q ≡ p) × (b ≡ x)
IsTarget (step.Rename q a b) p x = (q ≡ p) × (b ≡ x)
IsTarget _ p x = ⊥

-- the directory has no trace of the name
abbrev pub IsUnseen : DirectoryMap → List ℕ → Type 0
IsUnseen d x = (d.safe x ≡ None) × IsUntouched x d.pending

pub unseen_leads : (d : DirectoryMap) (x : List ℕ) → IsUnseen d x → now_in d x ≡ None
unseen_leads d x u = untouched_lead d.safe d.pending x u.1 ∙ u.0

-- a change after which x leads to a file: the same as before, or x is where the change leads
abbrev pub LeadsTo : Change → List ℕ → Type 0
LeadsTo (Set n f) x = n ≡ x
LeadsTo (Gone n) x = ⊥
LeadsTo (Moved a b) x = b ≡ x

change_arrives : (c : Change) (s : Slots) (x : List ℕ) (f : ℕ) → after_change c s x ≡ Some f → (s x ≡ Some f) ⊎ LeadsTo c x
change_arrives (Set n g) s x f h = go (bytes_eq n x) refl h
  where
    go : (v : Bool) → bytes_eq n x ≡ v → (if v then Some g else s x) ≡ Some f → (s x ≡ Some f) ⊎ (n ≡ x)
    go true e k = inr (bytes_true n x e)
    go false e k = inl k
change_arrives (Gone n) s x f h = go (bytes_eq n x) h
  where
    go : (v : Bool) → (if v then None else s x) ≡ Some f → (s x ≡ Some f) ⊎ ⊥
    go true k = absurd (cc (k))
    go false k = inl k
change_arrives (Moved a b) s x f h = go (bytes_eq b x) (bytes_eq a x) refl h
  where
    go : (v u : Bool) → bytes_eq b x ≡ v → (if v then s a else (if u then None else s x)) ≡ Some f → (s x ≡ Some f) ⊎ (b ≡ x)
    go true u e k = inr (bytes_true b x e)
    go false true e k = absurd (cc (k))
    go false false e k = inl k

-- how a directory may change by a step whose target, where it has one, is t; k is the next file before it, and j after it
pub data Goes (k j : ℕ) (t : List ℕ → Type 0) (d : DirectoryMap) : DirectoryMap → Type 0 where
  stays : Goes k j t d d
  opens : Goes k j t d (with_made d)
  takes_on : (c : Change) → ((x : List ℕ) → LeadsTo c x → t x) → ((x : List ℕ) → (now_in d x ≡ None) → touches c x ≡ true → t x)
      → ((n : List ℕ) (f : ℕ) → c ≡ Set n f → ((f ≡ k) × (k < j)) ⊎ ((a : List ℕ) × (now_in d a ≡ Some f))) → Goes k j t d (changed d c)
  settles : Goes k j t d (synced d)

pub weaken : (k j : ℕ) (t u : List ℕ → Type 0) (d : DirectoryMap) {e : DirectoryMap} → ((x : List ℕ) → t x → u x) → Goes k j t d e → Goes k j u d e
weaken k j t u d m stays = stays
weaken k j t u d m opens = opens
weaken k j t u d m (takes_on c l h b) = takes_on c (λ x z. m x (l x z)) (λ x n z. m x (h x n z)) b
weaken k j t u d m settles = settles

create_goes : (d : DirectoryMap) (n : List ℕ) (k : ℕ) → Goes k (if is_created d n then k + 1 else k) (λ x. n ≡ x) d (with_created d n k)
create_goes d n k = go (is_created d n)
  where
    go : (v : Bool) → Goes k (if v then k + 1 else k) (λ x. n ≡ x) d (if v then changed d (Set n k) else d)
    go true = takes_on (Set n k) (λ x h. h) (λ x h t. bytes_true n x t) (λ m f e. inl (cc (e), omega arith))
    go false = stays

link_goes : (d : DirectoryMap) (a b : List ℕ) (k j : ℕ) → Goes k j (λ x. b ≡ x) d (with_linked d a b)
link_goes d a b k j = go (now_in d a) (now_in d b) refl
  where
    go : (u v : Option ℕ) → now_in d a ≡ u → Goes k j (λ x. b ≡ x) d (linked d b u v)
    go (Some f) None e = takes_on (Set b f) (λ x h. h) (λ x h t. bytes_true b x t) (λ m g k. inr (a, cc (e, k)))
    go (Some f) (Some g) e = stays
    go None v e = stays

rename_goes : (d : DirectoryMap) (a b : List ℕ) (k j : ℕ) → Goes k j (λ x. b ≡ x) d (with_renamed d a b)
rename_goes d a b k j = go (bytes_eq a b) (now_in d a) refl
  where
    touched : (f : ℕ) → now_in d a ≡ Some f → (x : List ℕ) → now_in d x ≡ None → (bytes_eq a x || bytes_eq b x) ≡ true → b ≡ x
    touched f e x none t = case (bytes_eq a x) refl t
      where
        case : (v : Bool) → bytes_eq a x ≡ v → (v || bytes_eq b x) ≡ true → b ≡ x
        case true s t = absurd (cc (e, none, ap (λ y. now_in d y) (bytes_true a x s)))
        case false s t = bytes_true b x t

    go : (v : Bool) (u : Option ℕ) → now_in d a ≡ u → Goes k j (λ x. b ≡ x) d (if v then d else changed_if d (Moved a b) u)
    go true u e = stays
    go false (Some f) e = takes_on (Moved a b) (λ x h. h) (touched f e) (λ m g k. absurd (cc (k)))
    go false None e = stays

unlink_goes : (d : DirectoryMap) (a : List ℕ) (k j : ℕ) → Goes k j (λ x. ⊥) d (with_unlinked d a)
unlink_goes d a k j = go (now_in d a) refl
  where
    go : (u : Option ℕ) → now_in d a ≡ u → Goes k j (λ x. ⊥) d (changed_if d (Gone a) u)
    go (Some f) e = takes_on (Gone a) (λ x h. h) (λ x none t. cc (e, none, ap (λ y. now_in d y) (bytes_true a x t))) (λ m g k. absurd (cc (k)))
    go None e = stays

at_place : (k j : ℕ) (p q : Place) (t u : List ℕ → Type 0) (d e : DirectoryMap) → ((q ≡ p) → (x : List ℕ) → t x → u x) → Goes k j t d e → Goes k j u d (if same_place q p then e else d)
at_place k j p q t u d e m g = go (same_place q p) refl
  where
    go : (v : Bool) → same_place q p ≡ v → Goes k j u d (if v then e else d)
    go true h = weaken k j t u d (m (place_same q p h)) g
    go false h = stays

pub step_goes : (w : WorldMap) (s : Step) (p : Place) → Goes w.next_file (next_after w s) (λ x. IsTarget s p x) (w.directories p) (directory_after w s p)
step_goes w (step.MakeFolder q) p = go (same_place q p || is_parent p q)
  where
    go : (v : Bool) → Goes w.next_file w.next_file (λ x. ⊥) (w.directories p) (if v then with_made (w.directories p) else w.directories p)
    go true = opens
    go false = stays
step_goes w (step.Create q n b) p = go (same_place q p) refl
  where
    go : (v : Bool) → same_place q p ≡ v → Goes w.next_file (if is_created (w.directories q) n then w.next_file + 1 else w.next_file) (λ x. (q ≡ p) × (n ≡ x)) (w.directories p)
        (if v then with_created (w.directories p) n w.next_file else w.directories p)
    go true e = subst (λ (z : Place). Goes w.next_file (if is_created (w.directories z) n then w.next_file + 1 else w.next_file) (λ x. (q ≡ p) × (n ≡ x)) (w.directories p) (with_created (w.directories p) n w.next_file))
        (sym (place_same q p e)) (weaken w.next_file _ (λ x. n ≡ x) (λ x. (q ≡ p) × (n ≡ x)) (w.directories p) (λ x z. (place_same q p e, z)) (create_goes (w.directories p) n w.next_file))
    go false e = stays
step_goes w (step.SyncFolder q) p = at_place w.next_file w.next_file p q (λ x. ⊥) (λ x. ⊥) (w.directories p) _ (λ e x z. z) settles
step_goes w (step.Link q a b) p = at_place w.next_file w.next_file p q (λ x. b ≡ x) (λ x. (q ≡ p) × (b ≡ x)) (w.directories p) _ (λ e x z. (e, z)) (link_goes (w.directories p) a b w.next_file w.next_file)
step_goes w (step.Rename q a b) p = at_place w.next_file w.next_file p q (λ x. b ≡ x) (λ x. (q ≡ p) × (b ≡ x)) (w.directories p) _ (λ e x z. (e, z)) (rename_goes (w.directories p) a b w.next_file w.next_file)
step_goes w (step.Unlink q a) p = at_place w.next_file w.next_file p q (λ x. ⊥) (λ x. ⊥) (w.directories p) _ (λ e x z. z) (unlink_goes (w.directories p) a w.next_file w.next_file)
step_goes w _ p = stays

-- a name that leads to a file did so before, or the step made it so
pub arrives : (k j : ℕ) (t : List ℕ → Type 0) (d : DirectoryMap) {e : DirectoryMap} (x : List ℕ) (f : ℕ) → Goes k j t d e → now_in e x ≡ Some f → (now_in d x ≡ Some f) ⊎ t x
arrives k j t d x f stays h = inl h
arrives k j t d x f opens h = inl h
arrives k j t d x f (takes_on c l n b) h = elim (change_arrives c (lead d.safe d.pending) x f h) [ inl z ↦ inl z | inr z ↦ inr (l x z) ]
arrives k j t d x f settles h = inl h

-- a name of which the directory has no trace, and which the step doesn't make
pub unseen_stays : (k j : ℕ) (t : List ℕ → Type 0) (d : DirectoryMap) {e : DirectoryMap} (x : List ℕ) → Goes k j t d e → (t x → ⊥) → IsUnseen d x → IsUnseen e x
unseen_stays k j t d x stays never u = u
unseen_stays k j t d x opens never u = u
unseen_stays k j t d x (takes_on c l n b) never u = go (touches c x) refl
  where
    go : (v : Bool) → touches c x ≡ v → (d.safe x ≡ None) × ((touches c x ≡ false) × IsUntouched x d.pending)
    go true e = absurd (never (n x (unseen_leads d x u) e))
    go false e = (u.0, (e, u.1))
unseen_stays k j t d x settles never u = (unseen_leads d x u, tt)

-- all files that a directory mentions are below k
abbrev pub AllBelow : ℕ → List Change → Type 0
AllBelow k [] = Unit {0}
AllBelow k (c ∷ cs) = ((n : List ℕ) (f : ℕ) → c ≡ Set n f → f < k) × AllBelow k cs

pub record IsBelow (k : ℕ) (d : DirectoryMap) : Type 0 where
  pub safe : (n : List ℕ) (f : ℕ) → d.safe n ≡ Some f → f < k
  pub pending : AllBelow k d.pending

change_below : (k : ℕ) (c : Change) (s : Slots) → ((n : List ℕ) (f : ℕ) → s n ≡ Some f → f < k) → ((n : List ℕ) (f : ℕ) → c ≡ Set n f → f < k)
    → (n : List ℕ) (f : ℕ) → after_change c s n ≡ Some f → f < k
change_below k (Set m g) s below new n f h = go (bytes_eq m n) h
  where
    go : (v : Bool) → (if v then Some g else s n) ≡ Some f → f < k
    go true e = let z : g ≡ f = cc (e) in subst (λ y. y < k) z (new m g refl)
    go false e = below n f e
change_below k (Gone m) s below new n f h = go (bytes_eq m n) h
  where
    go : (v : Bool) → (if v then None else s n) ≡ Some f → f < k
    go true e = absurd (cc (e))
    go false e = below n f e
change_below k (Moved a b) s below new n f h = go (bytes_eq b n) (bytes_eq a n) h
  where
    go : (v u : Bool) → (if v then s a else (if u then None else s n)) ≡ Some f → f < k
    go true u e = below a f e
    go false true e = absurd (cc (e))
    go false false e = below n f e

pub lead_below : (k : ℕ) (s : Slots) (cs : List Change) → ((n : List ℕ) (f : ℕ) → s n ≡ Some f → f < k) → AllBelow k cs → (n : List ℕ) (f : ℕ) → lead s cs n ≡ Some f → f < k
lead_below k s [] below all n f h = below n f h
lead_below k s (c ∷ cs) below all n f h = change_below k c (lead s cs) (lead_below k s cs below all.1) all.0 n f h

pub now_below : (k : ℕ) (d : DirectoryMap) → IsBelow k d → (n : List ℕ) (f : ℕ) → now_in d n ≡ Some f → f < k
now_below k d b n f h = lead_below k d.safe d.pending b.safe b.pending n f h

pub kept_below : (k : ℕ) (s : Slots) (cs : List Change) (keep : ℕ → Bool) → ((n : List ℕ) (f : ℕ) → s n ≡ Some f → f < k) → AllBelow k cs
    → (n : List ℕ) (f : ℕ) → kept_lead s cs keep n ≡ Some f → f < k
kept_below k s [] keep below all n f h = below n f h
kept_below k s (c ∷ cs) keep below all n f h = go (keep (length cs)) (kept_below k s cs keep below all.1) h
  where
    go : (v : Bool) → ((n : List ℕ) (f : ℕ) → kept_lead s cs keep n ≡ Some f → f < k) → (if v then after_change c (kept_lead s cs keep) n else kept_lead s cs keep n) ≡ Some f → f < k
    go true rest e = change_below k c (kept_lead s cs keep) rest all.0 n f e
    go false rest e = rest n f e

all_more : (k j : ℕ) (cs : List Change) → k ≤ j → AllBelow k cs → AllBelow j cs
all_more k j [] le all = tt
all_more k j (c ∷ cs) le all = (λ n f e. let z = all.0 n f e in omega arith, all_more k j cs le all.1)

below_more : (k j : ℕ) (d : DirectoryMap) → k ≤ j → IsBelow k d → IsBelow j d
below_more k j d le b = record { safe = λ n f e. let z = b.safe n f e in omega arith; pending = all_more k j d.pending le b.pending }

pub goes_below : (k j : ℕ) (t : List ℕ → Type 0) (d : DirectoryMap) {e : DirectoryMap} → k ≤ j → Goes k j t d e → IsBelow k d → IsBelow j e
goes_below k j t d le stays b = below_more k j d le b
goes_below k j t d le opens b = record { safe = (below_more k j d le b).safe; pending = (below_more k j d le b).pending }
goes_below k j t d le (takes_on c l n new) b = record { safe = (below_more k j d le b).safe; pending = (mentions, (below_more k j d le b).pending) }
  where
    mentions : (n : List ℕ) (f : ℕ) → c ≡ Set n f → f < j
    mentions n f e = elim (new n f e) [ inl z ↦ (let e : f ≡ k = z.0 in let l : k < j = z.1 in omega arith) | inr z ↦ (let l = now_below k d b z.0 f z.1 in omega arith) ]
goes_below k j t d le settles b = record { safe = λ n f e. let z = now_below k d b n f e in omega arith; pending = tt }

-- files keep their bytes, and stay safe
pub file_keeps : (w : WorldMap) (s : Step) (f : ℕ) → f < w.next_file → ((file_after w s f).bytes ≡ (w.files f).bytes) × ((w.files f).safe ≡ true → (file_after w s f).safe ≡ true)
file_keeps w (step.Create q n b) f l = go (is_created (w.directories q) n && w.next_file == f) refl
  where
    new : FileState
    new = record { bytes = b; safe = false }

    go : (v : Bool) → (is_created (w.directories q) n && w.next_file == f) ≡ v → ((if v then new else w.files f).bytes ≡ (w.files f).bytes) × ((w.files f).safe ≡ true → (if v then new else w.files f).safe ≡ true)
    go true e = absurd (let z : w.next_file ≡ f = num_same w.next_file f (both (is_created (w.directories q) n) (w.next_file == f) e).1 in omega arith)
    go false e = (refl, λ h. h)
file_keeps w (step.SyncFile q n) f l = go (is_led (now_in (w.directories q) n) f)
  where
    new : FileState
    new = record { bytes = (w.files f).bytes; safe = true }

    go : (v : Bool) → ((if v then new else w.files f).bytes ≡ (w.files f).bytes) × ((w.files f).safe ≡ true → (if v then new else w.files f).safe ≡ true)
    go true = (refl, λ h. refl)
    go false = (refl, λ h. h)
file_keeps w _ f l = (refl, λ h. h)

pub next_grows : (w : WorldMap) (s : Step) → w.next_file ≤ next_after w s
next_grows w (step.Create q n b) = go (is_created (w.directories q) n)
  where
    go : (v : Bool) → w.next_file ≤ (if v then w.next_file + 1 else w.next_file)
    go true = omega arith
    go false = omega arith
next_grows w _ = omega arith
