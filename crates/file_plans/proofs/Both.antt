-- Alone and beside other runs: one statement on a plan serves for both.
use Rattle.std.proofs.Common.{◌||◌, ◌≡◌, inl, inr, ℕ, ◌+◌, Bool, true, false, List, [], ◌∷◌, length, Option, Some, None, refl, sym, ◌∙◌, ap, subst}
use Rattle.std.specs.Prelude.{is_some, if◌then◌else◌}
use Rattle.folder_files.specs.Deeds as deeds
use Rattle.folder_files.specs.Deeds.{did}
use Rattle.folder_files.specs.Histories.{own, past_of}
use Rattle.folder_files.specs.Steps.{has_text, read_file_answer, there_answer}
use Rattle.folder_files.specs.Story.{Story, Moment, Grows, IsPossible}
use Rattle.folder_files.specs.declared.place.Place.{Place}
use Rattle.folder_files.specs.declared.step.Step.{Step}
use Rattle.folder_files.specs.declared.step.Step.TheVariants as step
use Rattle.folder_files.specs.declared.step.Answer.{Answer}
use Rattle.folder_files.specs.declared.step.Answer.TheVariants.{Done, Names, Content, Piece, Long, Gone, Exists, Busy, Grown, Failed}
use Rattle.file_plans.specs.Alone.{world_at, first_of}
use Rattle.file_plans.specs.Giving as giving
use Rattle.file_plans.specs.Giving.{Gives, FitAll}
use Rattle.file_plans.specs.Plan.{Hand, Plan}
use Rattle.file_plans.specs.Runs.{Exit, Deed, Did, Said, Heard, Runs}
use Rattle.file_plans.specs.Sightings.{events_since}
use Rattle.file_plans.specs.Text.{said_of}
use Rattle.file_plans.proofs.Acting.{acts, acts_over}
use Rattle.file_plans.proofs.Soundness.{IsSound, AllSound}
use Rattle.file_plans.proofs.Failing.{sound_since}
use Rattle.file_plans.proofs.Giving.{run_gives}
use Rattle.file_plans.specs.Agreeing.{FitPast, AgreesWith, MailboxAgrees, numbers_put, is_first_met}
use Rattle.file_plans.specs.Mailboxes.{Mailbox}
use Rattle.file_plans.specs.Contents.{Contents, contents_of, mailbox_in, FitsIn, changed_by, IsListedIn, link_answer, by_contents}
use Rattle.file_plans.specs.Views.{Sight, Unseen, Listed, Known, Seen, nothing_seen, ReadTells, ListingTells, PlaceTells, ListTells, LinkTells, is_gone, is_exists, Tells, number_put, left_of, seen_by, View, view_after, first_view, by_view}
use Rattle.file_plans.proofs.Beside.{IsChange, fit_acts, acts_fit}
use Rattle.file_plans.proofs.Spying.{drop_tells, file_tells}
use Rattle.file_plans.proofs.Existing as existing
use Rattle.file_plans.proofs.Existing.{there_by, puts_in, next_is, left_is, AreSound, some_contents, world_sound, failed_sound}

-- a call alone, with what it sees
pub alone_fit : (met : Place → List ℕ → Bool) (ds : List Deed) (c z : Contents) (k : Seen) → FitAll by_contents c ds z → (y : View) × (y.contents ≡ z) × FitAll (by_view true) (record { contents = c; seen = k; numbers = puts_in ds; met = met }) ds y
alone_fit met [] c z k f = (record { contents = c; seen = k; numbers = []; met = met }, sym f, refl)
alone_fit met (Did s a ∷ ds) c z k f =
    let r = alone_fit met ds _ z (seen_by met k s a) f.1 in
    (r.0, r.1, ((λ live. (f.0 live, next_is (number_put s a) (puts_in ds))), subst (λ ns. FitAll (by_view true) (record { contents = changed_by c s a; seen = seen_by met k s a; numbers = ns; met = met }) ds r.0) (sym (left_is (number_put s a) (puts_in ds))) r.2))
alone_fit met (Said piece ∷ ds) c z k f = alone_fit met ds c z k f
alone_fit met (Heard piece ∷ ds) c z k f = alone_fit met ds c z k f

-- what the contents answer, they tell
place_tells : (b there v : Bool) → there ≡ v → PlaceTells b there v
place_tells true there v e = tt
place_tells false there v e = e

listing_tells : (s : Sight) (o : Option (List ℕ)) (b : Bool) → is_some o ≡ b → ListingTells s o b
listing_tells Unseen o b e = e
listing_tells Listed o b e = tt
listing_tells Known o b e = tt

read_tells : (s : Sight) (o : Option (List ℕ)) (limit : ℕ) (a : Answer) → a ≡ read_file_answer limit o → ReadTells s o limit a
read_tells Unseen o limit a e = e
read_tells Listed o limit a e = there_by o limit a e
read_tells Known o limit a e = tt

or_none : (b d : Bool) → d ≡ false → b ≡ b || d
or_none true d e = refl
or_none false d e = sym e

list_tells : (met : Place → List ℕ → Bool) (c : Contents) (k : Seen) (p : Place) (a : Answer) → ((q : Place) (x : List ℕ) → met q x ≡ false) → IsListedIn c p a → ListTells met c k p a
list_tells met c k p (Names names) none f = (place_tells (k.places p) (c.there p) true f.0, λ x standing. listing_tells (k.names p x) (c.texts p x) (has_text x names || met p x) (sym (f.1.all x) ∙ or_none (has_text x names) (met p x) (none p x)))
list_tells met c k p Gone none f = place_tells (k.places p) (c.there p) false f
list_tells met c k p Done none f = tt
list_tells met c k p (Content b) none f = tt
list_tells met c k p (Piece b l) none f = tt
list_tells met c k p (Long l) none f = tt
list_tells met c k p Exists none f = tt
list_tells met c k p Busy none f = tt
list_tells met c k p Grown none f = tt
list_tells met c k p Failed none f = tt

link_tells : (s : Sight) (o u : Option (List ℕ)) → LinkTells s u (link_answer o u)
link_tells s None u = tt
link_tells s (Some t) None = listing_tells s None false refl
link_tells s (Some t) (Some w) = listing_tells s (Some w) true refl

made_tells : (b there : Bool) → PlaceTells b there (is_exists (if there then Exists else Done))
made_tells b true = place_tells b true true refl
made_tells b false = place_tells b false false refl

lock_tells : (b there : Bool) → PlaceTells b there (if is_gone (there_answer there) then false else true)
lock_tells b true = place_tells b true true refl
lock_tells b false = place_tells b false false refl

pub alone_tells : (met : Place → List ℕ → Bool) (c : Contents) (k : Seen) (s : Step) (a : Answer) → ((q : Place) (x : List ℕ) → met q x ≡ false) → FitsIn c s a → Tells met c k s a
alone_tells met c k (step.List p) a none f = list_tells met c k p a none f
alone_tells met c k (step.Read p n limit) a none f = read_tells (k.names p n) (c.texts p n) limit a f
alone_tells met c k (step.MakeFolder p) a none f = rw f (made_tells (k.places p) (c.there p))
alone_tells met c k (step.Create p n b) a none f = tt
alone_tells met c k (step.SyncFile p n) a none f = tt
alone_tells met c k (step.SyncFolder p) a none f = tt
alone_tells met c k (step.Link p n m) a none f = rw f (link_tells (k.names p m) (c.texts p n) (c.texts p m))
alone_tells met c k (step.Rename p n m) a none f = tt
alone_tells met c k (step.Unlink p n) a none f = tt
alone_tells met c k (step.Lock p) a none f = rw f (lock_tells (k.places p) (c.there p))
alone_tells met c k (step.Unlock p) a none f = tt
alone_tells met c k (step.ReadFile path limit) a none f = file_tells (k.files path) (c.outside path) limit a f
alone_tells met c k (step.ReadDrop path from most) a none f = drop_tells (k.files path) (c.outside path) from most a f
alone_tells met c k (step.CutDrop path n) a none f = tt

-- so the contents of a call alone agree with what it was answered, where its Links met nothing
pub alone_agrees : (ds : List Deed) (v z : View) → ((q : Place) (x : List ℕ) → v.met q x ≡ false) → FitAll (by_view true) v ds z → FitAll (by_view false) v ds z
alone_agrees [] v z none f = f
alone_agrees (Did s a ∷ ds) v z none f = ((λ live. (alone_tells v.met v.contents v.seen s a none (f.0 live).0, (f.0 live).1)), alone_agrees ds _ z none f.1)
alone_agrees (Said piece ∷ ds) v z none f = alone_agrees ds v z none f
alone_agrees (Heard piece ∷ ds) v z none f = alone_agrees ds v z none f

-- at the end no put is still to come
pub all_put : (b : Bool) (ds : List Deed) (v z : View) → FitAll (by_view b) v ds z → v.numbers ≡ puts_in ds → z.numbers ≡ []
all_put b [] v z f e = ap (λ y. y.numbers) f ∙ e
all_put b (Did s a ∷ ds) v z f e = all_put b ds (view_after v s a) z f.1 (ap (left_of (number_put s a)) e ∙ left_is (number_put s a) (puts_in ds))
all_put b (Said piece ∷ ds) v z f e = all_put b ds v z f e
all_put b (Heard piece ∷ ds) v z f e = all_put b ds v z f e

-- what a plan gave where it ran alone: its end holds of the contents that it left
pub record GaveAlone {R : Type 0} (left : Contents) (j : Hand) (text said : List ℕ) (exit : Exit R) (Q : View → Hand → List ℕ → R → Type 0) : Type 0 where
  pub view : View
  pub contents : view.contents ≡ left
  pub numbers : view.numbers ≡ []
  pub gave : giving.Gave view j text said exit Q

pub alone_gave : {R : Type 0} (met : Place → List ℕ → Bool) (run : ℕ) (old new : Story) (added : List ℕ) (plan : Plan R) (h j : Hand) (ds : List Deed) (exit : Exit R) (text : List ℕ) (Q : View → Hand → List ℕ → R → Type 0) →
    IsChange run old new added → own run (past_of (events_since old new)) ≡ acts ds → Runs plan h ds j exit
    → Gives (by_view true) (first_view (contents_of (world_at new (first_of (length old.history) added))) (puts_in ds) met) h text plan Q
    → GaveAlone (contents_of (world_at new (first_of (length old.history) added + length added))) j text (said_of ds) exit Q
alone_gave met run old new added plan h j ds exit text Q change is runs gives =
    let c = contents_of (world_at new (first_of (length old.history) added)) in
    let z = contents_of (world_at new (first_of (length old.history) added + length added)) in
    let f : FitAll by_contents c ds z = fit_acts by_contents c z ds (subst (λ own_. FitPast by_contents c own_ z) is change) in
    let y = alone_fit met ds c z nothing_seen f in
    record { view = y.0; contents = y.1; numbers = all_put true ds (first_view c (puts_in ds) met) y.0 y.2 refl; gave = run_gives (by_view true) (first_view c (puts_in ds) met) y.0 h j text plan ds exit Q gives y.2 runs }

-- the numbers of the puts, told either way
numbers_over : (past : List deeds.Deed) (ds : List Deed) → numbers_put (acts_over past ds) [] ≡ numbers_put past (puts_in ds)
numbers_over past [] = refl
numbers_over past (Did s a ∷ ds) = numbers_over (did s a ∷ past) ds
numbers_over past (Said piece ∷ ds) = numbers_over past ds
numbers_over past (Heard piece ∷ ds) = numbers_over past ds

pub numbers_are : (ds : List Deed) → numbers_put (acts ds) [] ≡ puts_in ds
numbers_are ds = numbers_over [] ds

-- what it gave by contents that agree
pub record GaveSeen {R : Type 0} (j : Hand) (text said : List ℕ) (exit : Exit R) (Q : View → Hand → List ℕ → R → Type 0) : Type 0 where
  pub view : View
  pub numbers : view.numbers ≡ []
  pub gave : giving.Gave view j text said exit Q

pub seen_gave : {R : Type 0} (plan : Plan R) (h j : Hand) (ds : List Deed) (exit : Exit R) (text : List ℕ) (Q : View → Hand → List ℕ → R → Type 0) (c : Contents) → (agrees : AgreesWith c (acts ds)) → Runs plan h ds j exit
    → Gives (by_view false) (first_view c (numbers_put (acts ds) []) (is_first_met (acts ds))) h text plan Q → GaveSeen j text (said_of ds) exit Q
seen_gave plan h j ds exit text Q c agrees runs gives =
    let v = first_view c (numbers_put (acts ds) []) (is_first_met (acts ds)) in
    let f = fit_acts (by_view false) v agrees.0 ds agrees.1 in
    record { view = agrees.0; numbers = all_put false ds v agrees.0 f (numbers_are ds); gave = run_gives (by_view false) v agrees.0 h j text plan ds exit Q gives f runs }

-- there are contents that agree
sound_deed : (run : ℕ) (d : deeds.Deed) → IsSound run d → existing.IsSound d.step d.answer
sound_deed run d (inl e) = rw e (failed_sound d.step)
sound_deed run d (inr f) = world_sound f.0 run d.step d.answer f.1

sound_over : (run : ℕ) (past : List deeds.Deed) (ds : List Deed) → AllSound run (acts_over past ds) → AllSound run past × AreSound ds
sound_over run past [] f = (f, tt)
sound_over run past (Did s a ∷ ds) f = let r = sound_over run (did s a ∷ past) ds f in (r.0.1, (sound_deed run (did s a) r.0.0, r.1))
sound_over run past (Said piece ∷ ds) f = sound_over run past ds f
sound_over run past (Heard piece ∷ ds) f = sound_over run past ds f

pub some_agree : (run : ℕ) (ds : List Deed) → AllSound run (acts ds) → (c : Contents) × AgreesWith c (acts ds)
some_agree run ds f = let r = some_contents (is_first_met (acts ds)) ds (sound_over run [] ds f).1 in (r.0, (r.1, subst (λ ns. FitPast (by_view false) (first_view r.0 ns (is_first_met (acts ds))) (acts ds) r.1) (sym (numbers_are ds)) (acts_fit (by_view false) (first_view r.0 (puts_in ds) (is_first_met (acts ds))) r.1 ds r.2)))

-- some mailbox agrees
pub some_mailbox : (run : ℕ) (ds : List Deed) → AllSound run (acts ds) → (m : Mailbox) × MailboxAgrees m (acts ds)
some_mailbox run ds f = let r = some_agree run ds f in (mailbox_in r.0, record { contents = r.0; shown = refl; agrees = r.1 })

-- so one does with the answers in each possible story
pub possible_agrees : (run : ℕ) (old new : Story) (log : List Moment) (ds : List Deed) → Grows run old new log → IsPossible old → own run (past_of (events_since old new)) ≡ acts ds → (m : Mailbox) × MailboxAgrees m (acts ds)
possible_agrees run old new log ds g possible made = some_mailbox run ds (subst (AllSound run) made (sound_since run old new log g possible))
