-- How the storing of a file ends, and what shows it.
use Rattle.std.proofs.Common.{◌≡◌, ◌⊎◌, inl, inr, ◌<◌, ◌^◌, ◌++◌, ◌∷◌, [], ℕ, Bool, true, false, List, Result, Ok, Err, refl, sym, ◌∙◌, ap, subst, nat_lt, arith}
use Rattle.std.proofs.lemmas.Bool.Decides.{Decides-ltb, nat_tests}
use Rattle.mh_base.specs.Entries.{kind_of}
use Rattle.mh_base.specs.declared.entry.Entry.TheVariants.{Temp}
use Rattle.mh_base.proofs.EntryKinds.{kind_of-entry_text}
use Rattle.folder_files.specs.Careful.{WasMade, WasReady}
use Rattle.folder_files.specs.Deeds.{Deed, did, last, now, on}
use Rattle.folder_files.specs.Named.{is_temp_of, is_work}
use Rattle.folder_files.specs.Places.{same_place}
use Rattle.folder_files.specs.declared.place.Place.{Place}
use Rattle.folder_files.specs.declared.place.Place.TheVariants.{Folder, Home, Mail, Work}
use Rattle.folder_files.specs.declared.step.Answer.{Answer}
use Rattle.folder_files.specs.declared.step.Answer.TheVariants as answer
use Rattle.folder_files.specs.declared.step.Step.{Step}
use Rattle.folder_files.specs.declared.step.Step.TheVariants as step
use Rattle.file_plans.specs.Asking.{entered_of, link}
use Rattle.file_plans.specs.Plan.{Hand, Return, ask, bind, lifted, ◌>>=◌}
use Rattle.file_plans.specs.declared.answers.Entered.{Entered}
use Rattle.file_plans.specs.declared.answers.Entered.TheVariants as entered
use Rattle.step_plans.specs.Endings.{HasMet}
use Rattle.step_plans.specs.Hands.{named, named_by, temp_name, used}
use Rattle.step_plans.specs.Locking.{removed}
use Rattle.step_plans.specs.PlanFaults.{Planned, of_stop}
use Rattle.step_plans.specs.Replacing.{created, entered_once, held_to, made_safe, renamed, replaced, synced, written}
use Rattle.step_plans.specs.declared.fault.PlanFault.{PlanFault}
use Rattle.step_plans.specs.declared.fault.PlanFault.TheVariants as fault
use Rattle.step_plans.proofs.Coming.{Comes, comes_create, comes_more, comes_rename, comes_sync_file, comes_sync_folder, comes_then, comes_to, comes_unlink}
use Rattle.step_plans.proofs.Going.{Outcome, all_numbered}
use Rattle.step_plans.proofs.Stepping.{on_new}
use Rattle.opening_plans.specs.Endings.{HasMetIn, IsLastName, last_gone, met_gone as met_gone_in}
use Rattle.opening_plans.proofs.CleanRuns.{Clean, clean_more, never_made}
use Rattle.opening_plans.proofs.NamesKept.{IsTaking, last_kept, met_in_kept, met_kept, putting}
use Rattle.part_rows.specs.FileNames.{StoredFile}
use Rattle.mhstore_plans.specs.Files.{file_added, file_replaced, file_stored, if_free, linked, linked_by}
use Rattle.mhstore_plans.specs.StoreAnswers.{IsMeddledHere, fresh_taken, met_gone}
use Rattle.mhstore_plans.specs.StorePledge.{HasStoredAs}
use Rattle.mhstore_plans.proofs.FilePledged.{made_ready}

-- what shows each fault of a plan in the current directory
abbrev pub ShowsHere : ℕ → PlanFault → List Deed → Type 0
ShowsHere run fault.Faulted own = ⊥
ShowsHere run (fault.Locked q) own = ⊥
ShowsHere run (fault.Meddled q x) own = (q ≡ Work) × IsMeddledHere run x own
ShowsHere run fault.Full own = ⊥
ShowsHere run (fault.Absent q) own = ⊥
ShowsHere run (fault.TooLarge l) own = ⊥
ShowsHere run fault.Memory own = Unit {0}

-- a part is Ok so, or this shows its fault
abbrev pub So : {A : Type 0} → ℕ → Outcome A → Outcome (Result A PlanFault)
So run P later j (Ok a) = P later j a
So run P later j (Err e) = ShowsHere run e later

at : {A : Type 0} (own now_ : List Deed) (j i : Hand) (q : Planned A) (Q : Outcome (Result A PlanFault)) → own ≡ now_ → j ≡ i → Comes now_ i q Q → Comes own j q Q
at own now_ j i q Q e f g = rw (e, f) g

is_temp_by : (run k : ℕ) (temp : List ℕ) → kind_of temp ≡ Temp run k → is_temp_of run (kind_of temp) ≡ true
is_temp_by run k temp e = rw e (grind (arith, nat_tests))

-- the step is made in the current directory
abbrev is_here : Step → Bool
is_here (step.List p) = is_work p
is_here (step.Read p n limit) = is_work p
is_here (step.MakeFolder p) = is_work p
is_here (step.Create p n b) = is_work p
is_here (step.SyncFile p n) = is_work p
is_here (step.SyncFolder p) = is_work p
is_here (step.Link p a b) = is_work p
is_here (step.Rename p a b) = is_work p
is_here (step.Unlink p a) = is_work p
is_here (step.Lock p) = is_work p
is_here (step.Unlock p) = is_work p
is_here (step.ReadFile f limit) = false
is_here (step.ReadDrop f from most) = false
is_here (step.CutDrop f n) = false

not_here : (p q : Place) → q ≡ p → is_work q ≡ true → same_place Work p ≡ false → ⊥
not_here p q same here other = go q here (subst (λ z. same_place Work z ≡ false) (sym same) other)
  where
    go : (r : Place) → is_work r ≡ true → same_place Work r ≡ false → ⊥
    go Home e f = cc (e)
    go Work e f = cc (f)
    go (Mail path) e f = cc (e)
    go (Folder path name) e f = cc (e)

here_takes : (q : Place) (s : Step) → is_here s ≡ true → same_place Work q ≡ false → IsTaking q s → ⊥
here_takes q (step.List p) here other t = t
here_takes q (step.Read p n limit) here other t = t
here_takes q (step.MakeFolder p) here other t = t
here_takes q (step.Create p n b) here other t = t
here_takes q (step.SyncFile p n) here other t = t
here_takes q (step.SyncFolder p) here other t = t
here_takes q (step.Link p a b) here other t = t
here_takes q (step.Rename p a b) here other t = not_here q p t here other
here_takes q (step.Unlink p a) here other t = not_here q p t here other
here_takes q (step.Lock p) here other t = t
here_takes q (step.Unlock p) here other t = t
here_takes q (step.ReadFile f limit) here other t = t
here_takes q (step.ReadDrop f from most) here other t = t
here_takes q (step.CutDrop f n) here other t = t

-- what the run met elsewhere stays so
other_kept : (q : Place) (x : List ℕ) (s : Step) (a : Answer) (own : List Deed) → same_place Work q ≡ false → is_here s ≡ true → HasMet q x own → HasMet q x (did s a ∷ own)
other_kept q x s a own other here met = met_kept q x s a own (here_takes q s here other) met

module _ (run : ℕ) (few : run < 2 ^ 128) where
  -- the run's next name
  abbrev Names : List Deed → Hand → Outcome (List ℕ)
  Names own h later j temp = (later ≡ own) × (j ≡ used h) × (temp ≡ temp_name run h.next) × (h.next < 2 ^ 64)

  named_comes : (own : List Deed) (h : Hand) → Comes own h (named run) (So run (Names own h))
  unfolding Comes named
  named_comes own h = go (nat_lt h.next (2 ^ 64)) refl
    where
      go : (b : Bool) → nat_lt h.next (2 ^ 64) ≡ b → Comes own h (named_by run h b) (So run (Names own h))
      go true e = (refl, refl, refl, (Decides-ltb h.next (2 ^ 64)).0 e)
      go false e = tt

  -- one deed more
  abbrev Next : Deed → List Deed → Hand → Outcome Unit
  Next d own j later i u = (later ≡ d ∷ own) × (i ≡ j)

  created_comes : (own : List Deed) (h j : Hand) (temp bytes : List ℕ) → temp ≡ temp_name run h.next → Clean run own h → Comes own j (created Work temp bytes) (So run (Next (did (step.Create Work temp bytes) answer.Done) own j))
  unfolding created
  created_comes own h j temp bytes is clean =
      comes_create own j of_stop (So run N) Work temp bytes (entered_once Work temp) (comes_to _ j (Ok tt) (So run N) (refl, refl)) (comes_to _ j (Err (fault.Meddled Work temp)) (So run N) (refl, taken answer.Exists (inl refl)))
      (comes_to _ j (Err (fault.Meddled Work temp)) (So run N) (refl, taken answer.Gone (inr refl)))
    where
      N : Outcome Unit
      N = Next (did (step.Create Work temp bytes) answer.Done) own j

      taken : (a : Answer) → (a ≡ answer.Exists) ⊎ (a ≡ answer.Gone) → IsMeddledHere run temp (did (step.Create Work temp bytes) a ∷ own)
      taken a e = fresh_taken h.next is (λ w. never_made run h.next Work own clean.few clean.numbered (subst (λ z. WasMade Work z own) is w)) e

  safe_comes : (own : List Deed) (j : Hand) (temp bytes : List ℕ) → Comes (did (step.Create Work temp bytes) answer.Done ∷ own) j (made_safe Work temp) (So run (λ later i u. (later ≡ made_ready temp bytes own) × (i ≡ j)))
  unfolding made_safe
  safe_comes own j temp bytes =
      comes_sync_file _ j of_stop (So run N) Work temp (held_to Work temp) (comes_to _ j (Ok tt) (So run N) (refl, refl))
      (comes_to _ j (Err (fault.Meddled Work temp)) (So run N) (refl, met_gone (met_gone_in (inl (inr (inl refl))) (last (inl (inl (bytes, refl)))))))
    where
      N : Outcome Unit
      N later i u = (later ≡ made_ready temp bytes own) × (i ≡ j)

  abbrev Writes : List ℕ → List Deed → Hand → Outcome (List ℕ)
  Writes bytes own h later j temp = (later ≡ made_ready temp bytes own) × (j ≡ used h) × (temp ≡ temp_name run h.next) × (h.next < 2 ^ 64)

  written_comes : (own : List Deed) (h : Hand) (bytes : List ℕ) → Clean run own h → Comes own h (written run Work bytes) (So run (Writes bytes own h))
  unfolding written
  written_comes own h bytes clean =
      comes_then own h (named run) (λ temp. created Work temp bytes >>= (λ made. made_safe Work temp >>= (λ safe. Return (Ok temp)))) (So run (Names own h)) (So run (Writes bytes own h)) (named_comes own h)
      (λ later j temp n. at later own j j _ (So run (Writes bytes own h)) n.0 refl
      (comes_then own j (created Work temp bytes) (λ made. made_safe Work temp >>= (λ safe. Return (Ok temp))) (So run (Next (did (step.Create Work temp bytes) answer.Done) own j)) (So run (Writes bytes own h)) (created_comes own h j temp bytes n.2 clean)
      (λ mid i u m. at mid (did (step.Create Work temp bytes) answer.Done ∷ own) i j _ (So run (Writes bytes own h)) m.0 m.1
      (comes_then (did (step.Create Work temp bytes) answer.Done ∷ own) j (made_safe Work temp) (λ safe. Return (Ok temp)) (So run (λ end k v. (end ≡ made_ready temp bytes own) × (k ≡ j))) (So run (Writes bytes own h)) (safe_comes own j temp bytes)
      (λ end k v s. comes_to end k (Ok temp) (So run (Writes bytes own h)) (s.0, s.1 ∙ n.1, n.2, n.3)) (λ end k e s. s)))
      (λ mid i e m. m)))
      (λ later j e n. n)

  -- the run is clean after it
  written_clean : (own : List Deed) (h : Hand) (bytes : List ℕ) → h.next < 2 ^ 64 → Clean run own h → Clean run (made_ready (temp_name run h.next) bytes own) (used h)
  written_clean own h bytes lt c =
      clean_more run _ (used h) (step.SyncFile Work (temp_name run h.next)) answer.Done (λ e. cc (e)) tt
      (clean_more run own (used h) (step.Create Work (temp_name run h.next) bytes) answer.Done (λ e. cc (e)) (h.next, kind_of-entry_text (Temp run h.next) (few, lt), omega arith) raised)
    where
      raised : Clean run own (used h)
      raised = record { numbered = all_numbered run h.next (used h).next own (omega arith) c.numbered; unfailed = c.unfailed; few = omega (arith, lt) }

  -- a link
  comes_link : {B : Type 0} (own : List Deed) (h : Hand) (Q : Outcome (Result B PlanFault)) (a b : List ℕ) (k : Entered → Planned B) → Comes (did (step.Link Work a b) answer.Done ∷ own) h (k entered.Done) Q
      → Comes (did (step.Link Work a b) answer.Exists ∷ own) h (k entered.Exists) Q → Comes (did (step.Link Work a b) answer.Gone ∷ own) h (k entered.Gone) Q → Comes own h (lifted of_stop (link Work a b) >>= k) Q
  unfolding Comes link ask lifted bind ◌>>=◌
  comes_link own h Q a b k d e g = on_new (λ x. Comes (did (step.Link Work a b) x ∷ own) h (k (entered_of x)) Q) d e g

  removed_comes : (own : List Deed) (j : Hand) (temp : List ℕ) → HasMetIn Work temp own → Comes own j (removed Work temp) (So run (Next (did (step.Unlink Work temp) answer.Done) own j))
  unfolding removed
  removed_comes own j temp met =
      comes_unlink own j of_stop (So run N) Work temp (held_to Work temp) (comes_to _ j (Ok tt) (So run N) (refl, refl)) (comes_to _ j (Err (fault.Meddled Work temp)) (So run N) (refl, met_gone (met_gone_in (inl (inr (inr (inl refl)))) met)))
    where
      N : Outcome Unit
      N = Next (did (step.Unlink Work temp) answer.Done) own j

  synced_comes : (own : List Deed) (j : Hand) (name : List ℕ) → IsLastName Work name own → Comes own j (synced Work name) (So run (Next (did (step.SyncFolder Work) answer.Done) own j))
  unfolding synced
  synced_comes own j name is_last =
      comes_sync_folder own j of_stop (So run N) Work (held_to Work name) (comes_to _ j (Ok tt) (So run N) (refl, refl)) (comes_to _ j (Err (fault.Meddled Work name)) (So run N) (refl, met_gone (last_gone is_last)))
    where
      N : Outcome Unit
      N = Next (did (step.SyncFolder Work) answer.Done) own j

  renamed_comes : (own : List Deed) (j : Hand) (temp name : List ℕ) → HasMetIn Work temp own → Comes own j (renamed Work temp name) (So run (Next (did (step.Rename Work temp name) answer.Done) own j))
  unfolding renamed
  renamed_comes own j temp name met =
      comes_rename own j of_stop (So run N) Work temp name (held_to Work temp) (comes_to _ j (Ok tt) (So run N) (refl, refl)) (comes_to _ j (Err (fault.Meddled Work temp)) (So run N) (refl, met_gone (met_gone_in (inl (inr (inr (inr (name, refl))))) met)))
    where
      N : Outcome Unit
      N = Next (did (step.Rename Work temp name) answer.Done) own j

  module _ (f : StoredFile) where
    -- it was stored by these deeds
    pub record Filed (own later : List Deed) : Type 0 where
      pub newer : List Deed
      pub is : later ≡ newer ++ own
      pub stored : (base : List Deed) → HasStoredAs run f.name f.content (newer ++ base)
      pub apart : (q : Place) (x : List ℕ) (base : List Deed) → same_place Work q ≡ false → HasMet q x base → HasMet q x (newer ++ base)

    -- one of its name was met by these
    pub record Met (own later : List Deed) : Type 0 where
      pub temp : List ℕ
      pub newer : List Deed
      pub is : later ≡ did (step.Unlink Work temp) answer.Done ∷ did (step.Link Work temp f.name) answer.Exists ∷ (newer ++ own)

    abbrev pub Stores : Bool → List Deed → Outcome Bool
    Stores clobber own later j true = Clean run later j × Filed own later
    Stores clobber own later j false = Clean run later j × (clobber ≡ false) × Met own later

    module _ (own : List Deed) (h : Hand) (clean : Clean run own h) where
      module _ (low : h.next < 2 ^ 64) (j : Hand) (hand : j ≡ used h) where
        abbrev temp : List ℕ
        temp = temp_name run h.next

        abbrev base : List Deed
        base = made_ready temp f.content own

        temp_own : is_temp_of run (kind_of temp) ≡ true
        temp_own = is_temp_by run h.next temp (kind_of-entry_text (Temp run h.next) (few, low))

        base_clean : Clean run base j
        base_clean = subst (λ i. Clean run base i) (sym hand) (written_clean own h f.content low clean)

        ready : (older : List Deed) → WasReady Work temp f.content (made_ready temp f.content older)
        ready older = now (refl, now refl)

        temp_met : HasMetIn Work temp base
        temp_met = met_in_kept Work temp (step.SyncFile Work temp) answer.Done (did (step.Create Work temp f.content) answer.Done ∷ own) (λ t. t) (last (inl (inl (f.content, refl))))

        abbrev linked_to : List Deed
        linked_to = did (step.Link Work temp f.name) answer.Done ∷ base

        abbrev met_there : List Deed
        met_there = did (step.Link Work temp f.name) answer.Exists ∷ base

        abbrev Links : Outcome Bool
        Links later i true = (later ≡ linked_to) × (i ≡ j)
        Links later i false = (later ≡ met_there) × (i ≡ j)

        links_come : Comes base j (linked temp f.name) (So run Links)
        unfolding linked
        links_come =
            comes_link base j (So run Links) temp f.name (linked_by temp) (comes_to _ j (Ok true) (So run Links) (refl, refl)) (comes_to _ j (Ok false) (So run Links) (refl, refl))
            (comes_to _ j (Err (fault.Meddled Work temp)) (So run Links) (refl, met_gone (met_gone_in (inr (f.name, refl)) temp_met)))

        -- a link takes nothing away
        met_on : (a : Answer) → HasMetIn Work temp (did (step.Link Work temp f.name) a ∷ base)
        met_on a = met_in_kept Work temp (step.Link Work temp f.name) a base (λ t. t) temp_met

        abbrev unlinked : List Deed
        unlinked = did (step.Unlink Work temp) answer.Done ∷ linked_to

        last_linked : IsLastName Work f.name unlinked
        last_linked = last_kept Work f.name (step.Unlink Work temp) answer.Done linked_to (λ y w. putting Work y (step.Unlink Work temp) answer.Done w) (last (inr (inl (temp, refl))))

        unlinked_clean : Clean run unlinked j
        unlinked_clean = clean_more run linked_to j (step.Unlink Work temp) answer.Done (λ e. cc (e)) tt (clean_more run base j (step.Link Work temp f.name) answer.Done (λ e. cc (e)) tt base_clean)

        abbrev S : Outcome Bool
        S = Stores false own

        added : (later : List Deed) (i : Hand) → later ≡ did (step.SyncFolder Work) answer.Done ∷ unlinked → i ≡ j → S later i true
        added later i is same = (
          subst (λ k. Clean run later k) (sym same) (subst (λ o. Clean run o j) (sym is) (clean_more run unlinked j (step.SyncFolder Work) answer.Done (λ e. cc (e)) tt unlinked_clean)),
          record {
            newer = did (step.SyncFolder Work) answer.Done ∷ did (step.Unlink Work temp) answer.Done ∷ did (step.Link Work temp f.name) answer.Done ∷ did (step.SyncFile Work temp) answer.Done ∷ did (step.Create Work temp f.content) answer.Done ∷ [];
            is = is;
            stored = λ older. now (refl, on (now (record { temp = temp; is_own = temp_own; gave = inl refl; ready = ready older })));
            apart = λ q x older other met.
                other_kept q x (step.SyncFolder Work) answer.Done _ other refl
                (other_kept q x (step.Unlink Work temp) answer.Done _ other refl
                (other_kept q x (step.Link Work temp f.name) answer.Done _ other refl
                (other_kept q x (step.SyncFile Work temp) answer.Done _ other refl (other_kept q x (step.Create Work temp f.content) answer.Done older other refl met))));
          },
        )

        passed : (later : List Deed) (i : Hand) → later ≡ did (step.Unlink Work temp) answer.Done ∷ met_there → i ≡ j → S later i false
        passed later i is same = (
          subst (λ k. Clean run later k) (sym same)
              (subst (λ o. Clean run o j) (sym is) (clean_more run met_there j (step.Unlink Work temp) answer.Done (λ e. cc (e)) tt (clean_more run base j (step.Link Work temp f.name) answer.Exists (λ e. cc (e)) tt base_clean))),
          refl,
          record { temp = temp; newer = did (step.SyncFile Work temp) answer.Done ∷ did (step.Create Work temp f.content) answer.Done ∷ []; is = is },
        )

        unlinked_come : (free : Bool) (later : List Deed) (i : Hand) → Links later i free → Comes later i (removed Work temp >>= (λ gone. if_free f.name free)) (So run S)
        unlinked_come true later i l =
            at later linked_to i j _ (So run S) l.0 l.1
            (comes_then linked_to j (removed Work temp) (λ gone. if_free f.name true) (So run (Next (did (step.Unlink Work temp) answer.Done) linked_to j)) (So run S) (removed_comes linked_to j temp (met_on answer.Done))
            (λ mid k u m. at mid unlinked k j _ (So run S) m.0 m.1
            (comes_then unlinked j (synced Work f.name) (λ safe. Return (Ok true)) (So run (Next (did (step.SyncFolder Work) answer.Done) unlinked j)) (So run S) (synced_comes unlinked j f.name last_linked)
            (λ end x w s. comes_to end x (Ok true) (So run S) (added end x s.0 s.1)) (λ end x e s. s)))
            (λ mid k e m. m))
        unlinked_come false later i l =
            at later met_there i j _ (So run S) l.0 l.1
            (comes_then met_there j (removed Work temp) (λ gone. if_free f.name false) (So run (Next (did (step.Unlink Work temp) answer.Done) met_there j)) (So run S) (removed_comes met_there j temp (met_on answer.Exists))
            (λ mid k u m. comes_to mid k (Ok false) (So run S) (passed mid k m.0 m.1)) (λ mid k e m. m))

        then_linked : Comes base j (linked temp f.name >>= (λ free. removed Work temp >>= (λ gone. if_free f.name free))) (So run S)
        then_linked = comes_then base j (linked temp f.name) (λ free. removed Work temp >>= (λ gone. if_free f.name free)) (So run Links) (So run S) links_come (λ later i free l. unlinked_come free later i l) (λ later i e s. s)

        -- in the place of one that stands there
        abbrev moved_to : List Deed
        moved_to = did (step.Rename Work temp f.name) answer.Done ∷ base

        last_moved : IsLastName Work f.name moved_to
        last_moved = last (inr (inr (temp, refl)))

        moved_clean : Clean run moved_to j
        moved_clean = clean_more run base j (step.Rename Work temp f.name) answer.Done (λ e. cc (e)) tt base_clean

        abbrev R : Outcome Unit
        R later i u = Clean run later i × Filed own later

        in_place : (later : List Deed) (i : Hand) → later ≡ did (step.SyncFolder Work) answer.Done ∷ moved_to → i ≡ j → R later i tt
        in_place later i is same = (
          subst (λ k. Clean run later k) (sym same) (subst (λ o. Clean run o j) (sym is) (clean_more run moved_to j (step.SyncFolder Work) answer.Done (λ e. cc (e)) tt moved_clean)),
          record {
            newer = did (step.SyncFolder Work) answer.Done ∷ did (step.Rename Work temp f.name) answer.Done ∷ did (step.SyncFile Work temp) answer.Done ∷ did (step.Create Work temp f.content) answer.Done ∷ [];
            is = is;
            stored = λ older. now (refl, now (record { temp = temp; is_own = temp_own; gave = inr refl; ready = ready older }));
            apart = λ q x older other met.
                other_kept q x (step.SyncFolder Work) answer.Done _ other refl
                (other_kept q x (step.Rename Work temp f.name) answer.Done _ other refl
                (other_kept q x (step.SyncFile Work temp) answer.Done _ other refl (other_kept q x (step.Create Work temp f.content) answer.Done older other refl met)));
          },
        )

        then_moved : Comes base j (renamed Work temp f.name >>= (λ moved. synced Work f.name)) (So run R)
        then_moved =
            comes_then base j (renamed Work temp f.name) (λ moved. synced Work f.name) (So run (Next (did (step.Rename Work temp f.name) answer.Done) base j)) (So run R) (renamed_comes base j temp f.name temp_met)
            (λ mid k u m. at mid moved_to k j _ (So run R) m.0 m.1 (comes_more moved_to j (synced Work f.name) (So run (Next (did (step.SyncFolder Work) answer.Done) moved_to j)) (So run R) closing (synced_comes moved_to j f.name last_moved)))
            (λ mid k e m. m)
          where
            closing : (later : List Deed) (i : Hand) (r : Result Unit PlanFault) → So run (Next (did (step.SyncFolder Work) answer.Done) moved_to j) later i r → So run R later i r
            closing later i (Ok u) s = in_place later i s.0 s.1
            closing later i (Err e) s = s

      adds_come : Comes own h (file_added run f.name f.content) (So run (Stores false own))
      unfolding file_added
      adds_come =
          comes_then own h (written run Work f.content) (λ t. linked t f.name >>= (λ free. removed Work t >>= (λ gone. if_free f.name free))) (So run (Writes f.content own h)) (So run (Stores false own)) (written_comes own h f.content clean)
          (λ later j t q. subst (λ x. Comes later j (linked x f.name >>= (λ free. removed Work x >>= (λ gone. if_free f.name free))) (So run (Stores false own))) (sym q.2)
          (at later (made_ready (temp_name run h.next) f.content own) j j _ (So run (Stores false own)) (q.0 ∙ ap (λ x. made_ready x f.content own) q.2) refl (then_linked q.3 j q.1)))
          (λ later j e q. q)

      replaces_come : Comes own h (file_replaced run f.name f.content) (So run (Stores true own))
      unfolding file_replaced replaced
      replaces_come =
          comes_then own h (written run Work f.content >>= (λ t. renamed Work t f.name >>= (λ moved. synced Work f.name))) (λ done. Return (Ok true)) (So run (λ later i u. Clean run later i × Filed own later)) (So run (Stores true own))
          (comes_then own h (written run Work f.content) (λ t. renamed Work t f.name >>= (λ moved. synced Work f.name)) (So run (Writes f.content own h)) (So run (λ later i u. Clean run later i × Filed own later)) (written_comes own h f.content clean)
          (λ later j t q. subst (λ x. Comes later j (renamed Work x f.name >>= (λ moved. synced Work f.name)) (So run (λ end i u. Clean run end i × Filed own end))) (sym q.2)
          (at later (made_ready (temp_name run h.next) f.content own) j j _ (So run (λ end i u. Clean run end i × Filed own end)) (q.0 ∙ ap (λ x. made_ready x f.content own) q.2) refl (then_moved q.3 j q.1)))
          (λ later j e q. q))
          (λ later j u s. comes_to later j (Ok true) (So run (Stores true own)) s) (λ later j e s. s)

      pub stores_come : (clobber : Bool) → Comes own h (file_stored run clobber f.name f.content) (So run (Stores clobber own))
      stores_come true = replaces_come
      stores_come false = adds_come
