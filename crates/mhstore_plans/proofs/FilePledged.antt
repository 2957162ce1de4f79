-- A file goes into the current directory as its command pledges: it is made safe under a temporary name before another name leads to it.
use Rattle.std.proofs.Common.{◌≡◌, inl, inr, ◌<◌, ◌^◌, ◌++◌, ◌∷◌, [], ℕ, Bool, true, false, List, Ok, refl, sym, ◌∙◌, ap, subst, append_assoc, arith}
use Rattle.std.proofs.lemmas.Bool.Decides.{nat_tests}
use Rattle.mh_base.specs.Entries.{kind_of}
use Rattle.mh_base.specs.declared.entry.Entry.TheVariants as entry
use Rattle.folder_files.specs.Careful.{Clears, Creates, Stores, WasReady, WasSynced, clears, creates, links, replaces}
use Rattle.folder_files.specs.Deeds.{Deed, Once, did, now, on}
use Rattle.folder_files.specs.Histories.{IsLockable}
use Rattle.folder_files.specs.Named.{is_other, is_temp, is_temp_of}
use Rattle.folder_files.specs.declared.place.Place.{Place}
use Rattle.folder_files.specs.declared.place.Place.TheVariants.{Mail, Work}
use Rattle.folder_files.specs.declared.step.Answer.{Answer}
use Rattle.folder_files.specs.declared.step.Answer.TheVariants as answer
use Rattle.folder_files.specs.declared.step.Step.{Step}
use Rattle.folder_files.specs.declared.step.Step.TheVariants as step
use Rattle.file_plans.specs.Plan.{Hand, Return, ◌>>=◌}
use Rattle.file_plans.specs.StaysCareful.{careful}
use Rattle.step_plans.specs.Hands.{used}
use Rattle.step_plans.specs.Locking.{removed}
use Rattle.step_plans.specs.Pledges.{Pledge}
use Rattle.step_plans.specs.PlanFaults.{of_stop}
use Rattle.step_plans.specs.Replacing.{created, entered_once, held_to, made_safe, renamed, replaced, synced, written}
use Rattle.step_plans.specs.Settled.{AreSettled}
use Rattle.step_plans.specs.declared.fault.PlanFault.TheVariants as fault
use Rattle.step_plans.proofs.Facts.{never_made, settled_kept}
use Rattle.step_plans.proofs.Going.{Goes, Outcome, goes_more, goes_then, okay, okay_more}
use Rattle.step_plans.proofs.Past.{once_map}
use Rattle.step_plans.proofs.Pledged.{synced_goes}
use Rattle.step_plans.proofs.Ruling.{AreNumbered}
use Rattle.step_plans.proofs.Stepping.{goes_create, goes_end, goes_link, goes_rename, goes_return, goes_sync_file, goes_unlink}
use Rattle.step_plans.proofs.Written.{Adds, Serves, goes_at, goes_named}
use Rattle.part_rows.specs.FileNames.{StoredFile}
use Rattle.message_puts.proofs.PutPledged.{is_temp_any}
use Rattle.mhstore_plans.specs.Files.{file_added, file_replaced, file_stored, if_free, linked, linked_by}
use Rattle.mhstore_plans.specs.StorePledge.{HasStoredAs, IsPartRead, IsReadyPart, IsStoredAs, store_pledge}
use Rattle.mhstore_plans.specs.declared.job.StoreJob.{StoreJob}

-- these deeds came after those, and what was settled of commits stays so
pub record After (own later : List Deed) : Type 0 where
  pub newer : List Deed
  pub is : later ≡ newer ++ own
  pub settled : AreSettled own → AreSettled later

pub none_after : (own : List Deed) → After own own
none_after own = record { newer = []; is = refl; settled = λ f. f }

pub more_after : (own later last : List Deed) → After own later → After later last → After own last
more_after own later last f g = record { newer = g.newer ++ f.newer; is = g.is ∙ (ap (λ z. g.newer ++ z) f.is ∙ sym (append_assoc g.newer f.newer own)); settled = λ x. g.settled (f.settled x) }

-- what happened once, happened once later too
pub once_after : (P : Deed → List Deed → Type 0) (own later : List Deed) → After own later → Once P own → Once P later
once_after P own later f w = subst (Once P) (sym f.is) (behind f.newer w)
  where
    behind : (newer : List Deed) → Once P own → Once P (newer ++ own)
    behind [] z = z
    behind (d ∷ newer) z = on (behind newer z)

pub part_after : (path : List ℕ) (job : StoreJob) (f : StoredFile) (own later : List Deed) → After own later → IsPartRead path job f own → IsPartRead path job f later
part_after path job f own later a p = record { number = p.number; message = p.message; read = once_after _ own later a p.read; among = p.among }

-- a file with these bytes was made in the current directory and made safe
abbrev pub made_ready : List ℕ → List ℕ → List Deed → List Deed
made_ready temp bytes own = did (step.SyncFile Work temp) answer.Done ∷ (did (step.Create Work temp bytes) answer.Done ∷ own)

ready_after : (temp bytes : List ℕ) (own : List Deed) → After own (made_ready temp bytes own)
ready_after temp bytes own = record {
  newer = did (step.SyncFile Work temp) answer.Done ∷ (did (step.Create Work temp bytes) answer.Done ∷ []);
  is = refl;
  settled = λ s. settled_kept (did (step.Create Work temp bytes) answer.Done ∷ own) (step.SyncFile Work temp) answer.Done tt (settled_kept own (step.Create Work temp bytes) answer.Done tt s);
}

was_ready : (temp bytes : List ℕ) (own : List Deed) → WasReady Work temp bytes (made_ready temp bytes own)
was_ready temp bytes own = now (refl, now refl)

was_synced : (temp bytes : List ℕ) (own : List Deed) → WasReady Work temp bytes own → WasSynced Work temp own
was_synced temp bytes own w = once_map (λ d older f. (f.0, once_map (λ x old e. (bytes, e)) f.1)) w

is_temp_by : (run n : ℕ) (temp : List ℕ) → kind_of temp ≡ entry.Temp run n → is_temp_of run (kind_of temp) ≡ true
is_temp_by run n temp e = rw e (grind (arith, nat_tests))

-- no lock is needed in the current directory
unlocked : (own : List Deed) (q : Place) → IsLockable q → q ≡ Work → ⊥
unlocked own q l e = subst IsLockable e l

-- whatever it may tell
module _ (run : ℕ) (few : run < 2 ^ 128) (path : List ℕ) (job : StoreJob) (tells : List Deed → List ℕ → Type 0) where
  abbrev pub v : Pledge
  v = record (store_pledge run path job) { may_tell = tells }

  pub serves_context : Serves v (Mail path)
  serves_context = record { serves = λ own kind s k m. inl (k, m); make = λ own. tt; create = λ own temp bytes is. tt; clear = λ own temp is. tt }

  abbrev Written : List Deed → List ℕ → Outcome (List ℕ)
  Written own bytes later j temp = (later ≡ made_ready temp bytes own) × (is_temp_of run (kind_of temp) ≡ true)

  created_goes : (own : List Deed) (h : Hand) (temp bytes : List ℕ) (n : ℕ) → kind_of temp ≡ entry.Temp run n → n < h.next → AreNumbered run n own
      → Goes v own h (created Work temp bytes) (okay (Adds own (did (step.Create Work temp bytes) answer.Done)))
  unfolding created
  created_goes own h temp bytes n kind low numbered =
      goes_create v own h of_stop (okay (Adds own (did (step.Create Work temp bytes) answer.Done))) Work temp bytes (entered_once Work temp)
      (λ s. (
        record {
          is_own = careful s.unfailed Creates (creates Work temp bytes (is_temp_by run n temp kind, never_made run n Work temp own kind numbered)) (inr (refl, refl)) (λ q l e. absurd (unlocked own q l e));
          marks = tt;
          steps = λ no. tt;
        },
        (n, kind, low),
      ))
      (goes_return v _ h tt (okay (Adds own (did (step.Create Work temp bytes) answer.Done))) refl)
      (goes_end v _ h (fault.Meddled Work temp) (Adds own (did (step.Create Work temp bytes) answer.Done)))
      (goes_end v _ h (fault.Meddled Work temp) (Adds own (did (step.Create Work temp bytes) answer.Done)))

  safe_goes : (own : List Deed) (h : Hand) (n : List ℕ) → Goes v own h (made_safe Work n) (okay (Adds own (did (step.SyncFile Work n) answer.Done)))
  unfolding made_safe
  safe_goes own h n =
      goes_sync_file v own h of_stop (okay (Adds own (did (step.SyncFile Work n) answer.Done))) Work n (held_to Work n)
      (goes_return v _ h tt (okay (Adds own (did (step.SyncFile Work n) answer.Done))) refl) (goes_end v _ h (fault.Meddled Work n) (Adds own (did (step.SyncFile Work n) answer.Done)))

  written_goes : (own : List Deed) (h : Hand) (bytes : List ℕ) → Goes v own h (written run Work bytes) (okay (Written own bytes))
  unfolding written
  written_goes own h bytes =
      goes_named v few (Mail path) serves_context own h _ (Written own bytes)
      (λ temp kind numbered.
      goes_then v own (used h) (created Work temp bytes) _ (Adds own (did (step.Create Work temp bytes) answer.Done)) (Written own bytes)
      (created_goes own (used h) temp bytes h.next kind (omega arith) numbered)
      (λ later j u e. goes_at v later _ j _ (okay (Written own bytes)) e
      (goes_then v (did (step.Create Work temp bytes) answer.Done ∷ own) j (made_safe Work temp) _ (Adds _ (did (step.SyncFile Work temp) answer.Done)) (Written own bytes) (safe_goes _ j temp)
      (λ last i w k. goes_return v last i temp (okay (Written own bytes)) (k, is_temp_by run h.next temp kind)))))

  removed_goes : (own : List Deed) (h : Hand) (n : List ℕ) → is_temp (kind_of n) ≡ true → Goes v own h (removed Work n) (okay (Adds own (did (step.Unlink Work n) answer.Done)))
  unfolding removed
  removed_goes own h n is =
      goes_unlink v own h of_stop (okay (Adds own (did (step.Unlink Work n) answer.Done))) Work n (held_to Work n)
      (λ s. (record { is_own = careful s.unfailed Clears (clears Work n is) (inr (refl, refl)) (λ q l e. absurd (unlocked own q l e)); marks = tt; steps = λ no. tt }, tt))
      (goes_return v _ h tt (okay (Adds own (did (step.Unlink Work n) answer.Done))) refl)
      (goes_end v _ h (fault.Meddled Work n) (Adds own (did (step.Unlink Work n) answer.Done)))

  -- a file of a part
  module _ (f : StoredFile) (other : is_other (kind_of f.name) ≡ true) where
    -- it was stored; or one of its name stood there
    abbrev pub Stored : List Deed → Outcome Bool
    Stored own later j true = After own later × HasStoredAs run f.name f.content later
    Stored own later j false = After own later

    module _ (own : List Deed) (h : Hand) (part : IsPartRead path job f own) where
      -- the file is ready
      module _ (temp : List ℕ) (is_own : is_temp_of run (kind_of temp) ≡ true) where
        abbrev base : List Deed
        base = made_ready temp f.content own

        ready_part : IsReadyPart path job temp f.name base
        ready_part = record { file = f; part = part_after path job f own base (ready_after temp f.content own) part; named = refl; ready = was_ready temp f.content own }

        -- a name leads to it
        abbrev linked_to : List Deed
        linked_to = did (step.Link Work temp f.name) answer.Done ∷ base

        abbrev met_there : List Deed
        met_there = did (step.Link Work temp f.name) answer.Exists ∷ base

        abbrev moved_to : List Deed
        moved_to = did (step.Rename Work temp f.name) answer.Done ∷ base

        given : Once (IsStoredAs run f.name f.content) linked_to
        given = now (record { temp = temp; is_own = is_own; gave = inl refl; ready = was_ready temp f.content own })

        replaced_there : Once (IsStoredAs run f.name f.content) moved_to
        replaced_there = now (record { temp = temp; is_own = is_own; gave = inr refl; ready = was_ready temp f.content own })

        abbrev Links : Outcome Bool
        Links later j true = later ≡ linked_to
        Links later j false = later ≡ met_there

        links_go : (j : Hand) → Goes v base j (linked temp f.name) (okay Links)
        unfolding linked
        links_go j =
            goes_link v base j of_stop (okay Links) Work temp f.name (linked_by temp)
            (λ s. (
              record {
                is_own = careful s.unfailed Stores (links Work temp f.name (refl, other, (is_own, was_synced temp f.content base (was_ready temp f.content own)))) (inr (refl, refl)) (λ q l e. absurd (unlocked base q l e));
                marks = tt;
                steps = λ no. ready_part;
              },
              tt,
            ))
            (goes_return v _ j true (okay Links) refl) (goes_return v _ j false (okay Links) refl) (goes_end v _ j (fault.Meddled Work temp) Links)

        -- one deed more
        next_after : (later : List Deed) (s : Step) (a : Answer) → After own later → (AreSettled later → AreSettled (did s a ∷ later)) → After own (did s a ∷ later)
        next_after later s a g k = record { newer = did s a ∷ g.newer; is = ap (λ z. did s a ∷ z) g.is; settled = λ x. k (g.settled x) }

        link_after : After own linked_to
        link_after = next_after base (step.Link Work temp f.name) answer.Done (ready_after temp f.content own) (settled_kept base (step.Link Work temp f.name) answer.Done tt)

        met_after : After own met_there
        met_after = next_after base (step.Link Work temp f.name) answer.Exists (ready_after temp f.content own) (settled_kept base (step.Link Work temp f.name) answer.Exists tt)

        moved_after : After own moved_to
        moved_after = next_after base (step.Rename Work temp f.name) answer.Done (ready_after temp f.content own) (settled_kept base (step.Rename Work temp f.name) answer.Done refl)

        -- the directory is made safe
        safe_then : (later : List Deed) (j : Hand) → After own later → Once (IsStoredAs run f.name f.content) later → Goes v later j (synced Work f.name >>= (λ safe. Return (Ok true))) (okay (Stored own))
        safe_then later j a stored =
            goes_then v later j (synced Work f.name) (λ safe. Return (Ok true)) (Adds later (did (step.SyncFolder Work) answer.Done)) (Stored own) (synced_goes v later j Work f.name)
            (λ last i u e. goes_at v last (did (step.SyncFolder Work) answer.Done ∷ later) i (Return (Ok true)) (okay (Stored own)) e
            (goes_return v _ i true (okay (Stored own)) (next_after later (step.SyncFolder Work) answer.Done a (settled_kept later (step.SyncFolder Work) answer.Done tt), now (refl, stored))))

        -- the temporary name goes
        unlinked_go : (free : Bool) (later : List Deed) (j : Hand) → Links later j free → Goes v later j (removed Work temp >>= (λ gone. if_free f.name free)) (okay (Stored own))
        unlinked_go true later j e =
            goes_at v later linked_to j _ (okay (Stored own)) e
            (goes_then v linked_to j (removed Work temp) (λ gone. if_free f.name true) (Adds linked_to (did (step.Unlink Work temp) answer.Done)) (Stored own) (removed_goes linked_to j temp (is_temp_any run (kind_of temp) is_own))
            (λ last i u k. goes_at v last (did (step.Unlink Work temp) answer.Done ∷ linked_to) i (if_free f.name true) (okay (Stored own)) k
            (safe_then (did (step.Unlink Work temp) answer.Done ∷ linked_to) i (next_after linked_to (step.Unlink Work temp) answer.Done link_after (settled_kept linked_to (step.Unlink Work temp) answer.Done tt)) (on given))))
        unlinked_go false later j e =
            goes_at v later met_there j _ (okay (Stored own)) e
            (goes_then v met_there j (removed Work temp) (λ gone. if_free f.name false) (Adds met_there (did (step.Unlink Work temp) answer.Done)) (Stored own) (removed_goes met_there j temp (is_temp_any run (kind_of temp) is_own))
            (λ last i u k. goes_at v last (did (step.Unlink Work temp) answer.Done ∷ met_there) i (if_free f.name false) (okay (Stored own)) k
            (goes_return v _ i false (okay (Stored own)) (next_after met_there (step.Unlink Work temp) answer.Done met_after (settled_kept met_there (step.Unlink Work temp) answer.Done tt)))))

        then_linked : (j : Hand) → Goes v base j (linked temp f.name >>= (λ free. removed Work temp >>= (λ gone. if_free f.name free))) (okay (Stored own))
        then_linked j = goes_then v base j (linked temp f.name) (λ free. removed Work temp >>= (λ gone. if_free f.name free)) Links (Stored own) (links_go j) (λ later i free e. unlinked_go free later i e)

        -- it takes the name's place
        renamed_goes : job.clobber ≡ true → (j : Hand) → Goes v base j (renamed Work temp f.name) (okay (Adds base (did (step.Rename Work temp f.name) answer.Done)))
        unfolding renamed
        renamed_goes clobbers j =
            goes_rename v base j of_stop (okay (Adds base (did (step.Rename Work temp f.name) answer.Done))) Work temp f.name (held_to Work temp)
            (λ s. (
              record {
                is_own = careful s.unfailed Stores (replaces Work temp f.name (refl, other, (is_own, was_synced temp f.content base (was_ready temp f.content own)))) (inr (refl, refl)) (λ q l e. absurd (unlocked base q l e));
                marks = λ e. absurd (cc (e));
                steps = λ no at. (clobbers, ready_part);
              },
              tt,
            ))
            (goes_return v _ j tt (okay (Adds base (did (step.Rename Work temp f.name) answer.Done))) refl) (goes_end v _ j (fault.Meddled Work temp) (Adds base (did (step.Rename Work temp f.name) answer.Done)))

      adds_goes : Goes v own h (file_added run f.name f.content) (okay (Stored own))
      unfolding file_added
      adds_goes =
          goes_then v own h (written run Work f.content) _ (Written own f.content) (Stored own) (written_goes own h f.content)
          (λ later j temp q. goes_at v later (made_ready temp f.content own) j _ (okay (Stored own)) q.0 (then_linked temp q.1 j))

      -- in its place
      in_place : job.clobber ≡ true → Goes v own h (replaced run Work f.name f.content) (okay (λ later j u. After own later × HasStoredAs run f.name f.content later))
      unfolding replaced
      in_place clobbers =
          goes_then v own h (written run Work f.content) _ (Written own f.content) Safe (written_goes own h f.content)
          (λ later j temp q. goes_at v later (made_ready temp f.content own) j _ (okay Safe) q.0
          (goes_then v (made_ready temp f.content own) j (renamed Work temp f.name) (λ moved. synced Work f.name) (Adds (made_ready temp f.content own) (did (step.Rename Work temp f.name) answer.Done)) Safe (renamed_goes temp q.1 clobbers j)
          (λ last i u e. goes_at v last (moved_to temp q.1) i (synced Work f.name) (okay Safe) e (then_safe temp q.1 i))))
        where
          Safe : Outcome Unit
          Safe later j u = After own later × HasStoredAs run f.name f.content later

          then_safe : (temp : List ℕ) (is_own : is_temp_of run (kind_of temp) ≡ true) (i : Hand) → Goes v (moved_to temp is_own) i (synced Work f.name) (okay Safe)
          then_safe temp is_own i =
              goes_more v (moved_to temp is_own) i (synced Work f.name) (okay (Adds (moved_to temp is_own) (did (step.SyncFolder Work) answer.Done))) (okay Safe)
              (okay_more (Adds (moved_to temp is_own) (did (step.SyncFolder Work) answer.Done)) Safe
              (λ last j u e. subst (λ o. After own o × HasStoredAs run f.name f.content o) (sym e)
              (next_after temp is_own (moved_to temp is_own) (step.SyncFolder Work) answer.Done (moved_after temp is_own) (settled_kept (moved_to temp is_own) (step.SyncFolder Work) answer.Done tt), now (refl, replaced_there temp is_own))))
              (synced_goes v (moved_to temp is_own) i Work f.name)

      replaces_goes : job.clobber ≡ true → Goes v own h (file_replaced run f.name f.content) (okay (Stored own))
      unfolding file_replaced
      replaces_goes clobbers =
          goes_then v own h (replaced run Work f.name f.content) (λ done. Return (Ok true)) (λ later j u. After own later × HasStoredAs run f.name f.content later) (Stored own) (in_place clobbers)
          (λ later j u s. goes_return v later j true (okay (Stored own)) s)

      stored_by : (b : Bool) → job.clobber ≡ b → Goes v own h (file_stored run b f.name f.content) (okay (Stored own))
      stored_by true is = replaces_goes is
      stored_by false is = adds_goes

      pub stored_goes : Goes v own h (file_stored run job.clobber f.name f.content) (okay (Stored own))
      stored_goes = stored_by job.clobber refl
