-- Copies of a message go to other folders as their command pledges: each step is careful under the locks of the folders.
use Rattle.std.proofs.Common.{◌≡◌, ◌<◌, ◌≤◌, ◌^◌, ◌++◌, ◌∷◌, [], ℕ, true, List, Option, Some, None, Ok, refl, sym, ◌∙◌, ap, subst, inl, inr, ◌⊎◌, append_assoc, append-nil, arith, zero, suc}
use Rattle.std.specs.Prelude.{Contains}
use Rattle.std.proofs.lemmas.List.Elements.{Contains-append_cases}
use Rattle.mh_base.specs.Numbers.{IsMsgNum}
use Rattle.folder_files.specs.Careful.{HasLock}
use Rattle.folder_files.specs.Deeds.{Deed, on}
use Rattle.folder_files.specs.Places.{is_folder}
use Rattle.folder_files.specs.declared.place.Place.{Place}
use Rattle.folder_files.specs.declared.step.Step.{Step}
use Rattle.folder_files.specs.declared.step.Step.TheVariants as step
use Rattle.file_plans.specs.Plan.{Hand, Return, lifted}
use Rattle.file_plans.proofs.Framing.{AnyStep}
use Rattle.step_plans.specs.Pledges.{Pledge}
use Rattle.step_plans.proofs.Facts.{LeavesLock, lock_kept}
use Rattle.step_plans.proofs.Going.{Goes, Outcome, goes_lifted, goes_then, okay}
use Rattle.step_plans.proofs.Lasting.{KeptBy, goes_lasting}
use Rattle.step_plans.proofs.Stepping.{goes_return}
use Rattle.message_puts.specs.Putting.{message_stored}
use Rattle.message_puts.specs.Stored.{HasStoredAt}
use Rattle.message_puts.proofs.PutPledged.{AsksPut, PutsMessages}
use Rattle.message_puts.proofs.StoredPledged.{HasStored, IsStoredBy, stored_goes, stored_keeps}
use Rattle.command_stages.specs.Endings.{of_plan}
use Rattle.held_messages.proofs.Linking.{IsEnd}
use Rattle.message_moves.specs.Copying.{copied_to, copied_to_all, highest_of}
use Rattle.message_moves.specs.declared.destination.Destination.{Destination}

-- where the destinations are
abbrev pub places : List Destination → List Place
places [] = []
places (d ∷ ds) = d.place ∷ places ds

places_behind : (ds : List Destination) (d : Destination) → places (ds ++ d ∷ []) ≡ places ds ++ d.place ∷ []
places_behind [] d = refl
places_behind (e ∷ ds) d = ap (λ z. e.place ∷ z) (places_behind ds d)

highest_small : (highest : Option ℕ) → IsEnd highest → highest_of highest ≤ 999999
highest_small None ok = omega arith
highest_small (Some n) ok = ok.1

-- a message with these bytes was stored in each of these folders
abbrev pub AreStored : ℕ → List ℕ → List Place → List Deed → Type 0
AreStored run bytes qs own = (q : Place) → Contains qs q → (m : ℕ) × HasStoredAt run q m bytes own

pub are_stored_kept : (run : ℕ) (bytes : List ℕ) (qs : List Place) → KeptBy AnyStep (AreStored run bytes qs)
are_stored_kept run bytes qs own s a any f q c = let one = f q c in (one.0, on one.1)

none_stored : (run : ℕ) (bytes : List ℕ) (own : List Deed) → AreStored run bytes [] own
none_stored run bytes own q c = absurd (let low = c.1 in omega (arith, low))

stored_behind : (run : ℕ) (bytes : List ℕ) (qs : List Place) (q : Place) (m : ℕ) (own : List Deed) → AreStored run bytes qs own → HasStoredAt run q m bytes own → AreStored run bytes (qs ++ q ∷ []) own
stored_behind run bytes qs q m own all one r c = by (Contains-append_cases qs (q ∷ []) r c)
  where
    by : Contains qs r ⊎ Contains (q ∷ []) r → (k : ℕ) × HasStoredAt run r k bytes own
    by (inl i) = all r i
    by (inr i) = (m, subst (λ z. HasStoredAt run z m bytes own) (is i) one)
      where
        is : Contains (q ∷ []) r → q ≡ r
        is (zero, low, e) = e
        is (suc k, low, e) = absurd (omega (arith, low))

-- what the steps of a put in this folder leave alone
leave_locks : (q r : Place) → AsksPut (LeavesLock q) r
leave_locks q r = record { create = λ temp bytes. tt; sync = λ temp. tt; link = λ temp number. tt; unlink = λ temp. tt }

leave_any : (r : Place) → AsksPut AnyStep r
leave_any r = record { create = λ temp bytes. tt; sync = λ temp. tt; link = λ temp number. tt; unlink = λ temp. tt }

-- the folder that messages leave or are copied from; those of which the run has the locks; what is known of numbers; what is so once a message
-- was read; and what steps keep that make no put in that folder
module _ (w : Pledge) (few : w.run < 2 ^ 128) (p : Place) (In : Place → Type 0) (Known : Place → ℕ → List Deed → Type 0) (Now : List ℕ → List Deed → Type 0) (keeps : (bytes : List ℕ) → KeptBy AnyStep (Now bytes)) where
  -- messages may be put into this other folder, under its lock
  pub record IsOpenTo (q : Place) : Type 0 where
    pub is_there : is_folder q ≡ true
    pub is_in : In q
    pub apart : q ≡ p → ⊥
    pub lets : (bytes : List ℕ) → PutsMessages w q bytes (Known q) None (Now bytes)

  pub record IsDestination (d : Destination) (own : List Deed) : Type 0 where
    pub open_to : IsOpenTo d.place
    pub number : IsEnd d.highest
    pub known : Known d.place (highest_of d.highest) own

  abbrev pub AreDestinations : List Destination → List Deed → Type 0
  AreDestinations [] own = Unit {0}
  AreDestinations (d ∷ ds) own = IsDestination d own × AreDestinations ds own

  pub destinations_kept : (ds : List Destination) → KeptBy AnyStep (AreDestinations ds)
  destinations_kept [] own s a any f = tt
  destinations_kept (d ∷ ds) own s a any f = (record { open_to = f.0.open_to; number = f.0.number; known = (f.0.open_to.lets []).kept (highest_of d.highest) own s a any f.0.known }, destinations_kept ds own s a any f.1)

  destinations_behind : (ds : List Destination) (d : Destination) (own : List Deed) → AreDestinations ds own → IsDestination d own → AreDestinations (ds ++ d ∷ []) own
  destinations_behind [] d own all one = (one, tt)
  destinations_behind (e ∷ ds) d own all one = (all.0, destinations_behind ds d own all.1 one)

  abbrev pub Locks : List Deed → Type 0
  Locks own = (q : Place) → In q → HasLock q own

  -- The bytes of a message; what is so of the deeds, where this is so of those since it was read; and what puts elsewhere leave alone.
  module _ (bytes : List ℕ) (Open : (List Deed → Type 0) → List Deed → Type 0) (P : Step → Type 0) (Rest : List Deed → Type 0) where
    -- besides, a message with these bytes is stored in this folder
    abbrev pub Copied : Place → (List Deed → Type 0) → ℕ → List Deed → Type 0
    Copied q G m part = G part × HasStoredAt w.run q m bytes part

    pub record Opens : Type 1 where
      pub stored : (q : Place) → is_folder q ≡ true → (G : List Deed → Type 0) → KeptBy AnyStep G → (own later : List Deed) (m : ℕ) → IsMsgNum m → IsStoredBy w.run q bytes own m later → Open G own → Open (Copied q G m) later
      pub less : (G H : List Deed → Type 0) → ((part : List Deed) → G part → H part) → (own : List Deed) → Open G own → Open H own
      pub rest : KeptBy P Rest
      pub elsewhere : (q : Place) → (q ≡ p → ⊥) → AsksPut P q
      pub safe : (q : Place) → P (step.SyncFolder q)

    pub record Going (G : List Deed → Type 0) (own : List Deed) : Type 0 where
      pub locks : Locks own
      pub open_ : Open G own
      pub current : Now bytes own
      pub others : Rest own

    module _ (opens : Opens) where
      abbrev One : Destination → (List Deed → Type 0) → Outcome Destination
      One d G later j e = (e.place ≡ d.place) × IsDestination e later × ((m : ℕ) × Going (Copied d.place G m) later)

      copied_goes : (d : Destination) (G : List Deed → Type 0) → KeptBy AnyStep G → (own : List Deed) (h : Hand) → IsDestination d own → Going G own → Goes w own h (copied_to w.run bytes d) (okay (One d G))
      unfolding copied_to
      copied_goes d G kept own h is g =
          goes_then w own h (lifted (of_plan d.folder) (message_stored w.run d.place (highest_of d.highest) bytes)) (λ number. Return (Ok (now_at number))) Stored (One d G)
          (goes_lifted w own h (of_plan d.folder) (message_stored w.run d.place (highest_of d.highest) bytes) Stored
          (stored_goes w few d.place bytes (Known d.place) (Now bytes) (is.open_to.lets bytes) is.open_to.is_there (highest_of d.highest) (highest_small d.highest is.number) own h is.known g.current (g.locks d.place is.open_to.is_in)))
          (λ later j m f. goes_return w later j (now_at m) (okay (One d G)) (refl, record { open_to = is.open_to; number = f.1; known = f.4 }, (m, going later m f.1 f.3)))
        where
          now_at : ℕ → Destination
          now_at m = record { folder = d.folder; place = d.place; highest = Some m }

          Stored : Outcome ℕ
          Stored = HasStored w few d.place bytes (Known d.place) (Now bytes) (is.open_to.lets bytes) is.open_to.is_there own

          going : (later : List Deed) (m : ℕ) → IsMsgNum m → IsStoredBy w.run d.place bytes own m later → Going (Copied d.place G m) later
          going later m ok by = record {
            locks = λ q i. stored_keeps (LeavesLock q) (HasLock q) (lock_kept q) w.run d.place (leave_locks q d.place) tt bytes own m later by (g.locks q i);
            open_ = opens.stored d.place is.open_to.is_there G kept own later m ok by g.open_;
            current = stored_keeps AnyStep (Now bytes) (keeps bytes) w.run d.place (leave_any d.place) tt bytes own m later by g.current;
            others = stored_keeps P Rest opens.rest w.run d.place (opens.elsewhere d.place is.open_to.apart) (opens.safe d.place) bytes own m later by g.others;
          }

      -- a message with these bytes is stored in each of these folders
      abbrev pub AllCopied : List Place → Outcome (List Destination)
      AllCopied qs later j es = (places es ≡ qs) × AreDestinations es later × Going (AreStored w.run bytes qs) later

      going_less : (G H : List Deed → Type 0) → ((part : List Deed) → G part → H part) → (own : List Deed) → Going G own → Going H own
      going_less G H less own g = record { locks = g.locks; open_ = opens.less G H less own g.open_; current = g.current; others = g.others }

      pub all_copied_goes : (ds before : List Destination) (own : List Deed) (h : Hand) → AreDestinations ds own → AreDestinations before own → Going (AreStored w.run bytes (places before)) own
          → Goes w own h (copied_to_all w.run bytes ds before) (okay (AllCopied (places before ++ places ds)))
      unfolding copied_to_all
      all_copied_goes [] before own h are done g =
          goes_return w own h before (okay (AllCopied (places before ++ []))) (sym (append-nil (places before)), done, subst (λ qs. Going (AreStored w.run bytes qs) own) (sym (append-nil (places before))) g)
      all_copied_goes (d ∷ ds) before own h are done g =
          goes_lasting w (λ later. AreDestinations ds later × AreDestinations before later) (λ o s a any f. (destinations_kept ds o s a any f.0, destinations_kept before o s a any f.1)) own h (copied_to w.run bytes d) (λ e. copied_to_all w.run bytes ds (before ++ e ∷ []))
          (One d (AreStored w.run bytes (places before))) (AllCopied (places before ++ places (d ∷ ds))) (are.1, done)
          (copied_goes d (AreStored w.run bytes (places before)) (are_stored_kept w.run bytes (places before)) own h are.0 g)
          (λ later j e rest f.
          subst (λ qs. Goes w later j (copied_to_all w.run bytes ds (before ++ e ∷ [])) (okay (AllCopied qs))) (same e f.0)
          (all_copied_goes ds (before ++ e ∷ []) later j rest.0 (destinations_behind before e later rest.1 f.1) (going_less (Copied d.place (AreStored w.run bytes (places before)) f.2.0) (AreStored w.run bytes (places (before ++ e ∷ []))) (grown e f.0 f.2.0) later f.2.1)))
        where
          behind : (e : Destination) → e.place ≡ d.place → places (before ++ e ∷ []) ≡ places before ++ d.place ∷ []
          behind e is = places_behind before e ∙ ap (λ z. places before ++ z ∷ []) is

          same : (e : Destination) → e.place ≡ d.place → places (before ++ e ∷ []) ++ places ds ≡ places before ++ places (d ∷ ds)
          same e is = ap (λ z. z ++ places ds) (behind e is) ∙ append_assoc (places before) (d.place ∷ []) (places ds)

          grown : (e : Destination) → e.place ≡ d.place → (m : ℕ) (part : List Deed) → Copied d.place (AreStored w.run bytes (places before)) m part → AreStored w.run bytes (places (before ++ e ∷ [])) part
          grown e is m part c = subst (λ qs. AreStored w.run bytes qs part) (sym (behind e is)) (stored_behind w.run bytes (places before) d.place m part c.0 c.1)

      pub copies_go : (ds : List Destination) (own : List Deed) (h : Hand) → AreDestinations ds own → (G : List Deed → Type 0) → Going G own → Goes w own h (copied_to_all w.run bytes ds []) (okay (AllCopied (places ds)))
      copies_go ds own h are G g = all_copied_goes ds [] own h are tt (going_less G (AreStored w.run bytes []) (λ part x. none_stored w.run bytes part) own g)
