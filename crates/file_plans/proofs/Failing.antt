-- Steps that failed, and what a run said.
use Rattle.std.proofs.Common.{◌≡◌, ◌⊎◌, inl, inr, ◌++◌, ◌∷◌, [], List, ℕ, refl, sym, ◌∙◌, ap, subst}
use Rattle.std.specs.Prelude.{reverse}
use Rattle.std.proofs.lemmas.List.{reverse-append}
use Rattle.folder_files.specs.Deeds as deeds
use Rattle.folder_files.specs.Deeds.{did}
use Rattle.folder_files.specs.Histories.{own, past_of}
use Rattle.folder_files.specs.Story.{Story, Moment, Mine, Theirs, Grows, IsPossible}
use Rattle.file_plans.specs.Follows.{Turn, Filed, Spoke, Took, said_in, deeds_in}
use Rattle.file_plans.specs.Plan.{Hand, Plan, Return, Ask, Try, Say, Hear, Recall, Note}
use Rattle.file_plans.specs.Runs.{Exit, Returned, FilesFailed, InFailed, OutFailed, NoMemory, Deed, Did, Said, Heard, Runs, AnyFailed}
use Rattle.file_plans.specs.Sightings.{Made, events_since, IsFailed}
use Rattle.file_plans.specs.Text.{said_of}
use Rattle.file_plans.proofs.Acting.{acts, acts_over, own_append, since_is}
use Rattle.file_plans.proofs.Soundness.{AllSound, legal_sound, sound_front}
use Rattle.file_plans.proofs.Giving.{Same}

pub said_are : (ts : List Turn) → said_in ts ≡ said_of (deeds_in ts)
said_are [] = refl
said_are (Filed (Mine s a f) ∷ ts) = said_are ts
said_are (Filed (Theirs e) ∷ ts) = said_are ts
said_are (Spoke piece ∷ ts) = ap (λ t. piece ++ t) (said_are ts)
said_are (Took piece ∷ ts) = said_are ts

kept_past : (past : List deeds.Deed) (ds : List Deed) → Made IsFailed past → Made IsFailed (acts_over past ds)
kept_past past [] m = m
kept_past past (Did s a ∷ ds) m = kept_past (did s a ∷ past) ds (inr m)
kept_past past (Said piece ∷ ds) m = kept_past past ds m
kept_past past (Heard piece ∷ ds) m = kept_past past ds m

failed_over : (past : List deeds.Deed) (ds : List Deed) → AnyFailed ds → Made IsFailed (acts_over past ds)
failed_over past [] f = absurd f
failed_over past (Did s a ∷ ds) (inl e) = kept_past (did s a ∷ past) ds (inl e)
failed_over past (Did s a ∷ ds) (inr f) = failed_over (did s a ∷ past) ds f
failed_over past (Said piece ∷ ds) f = failed_over past ds f
failed_over past (Heard piece ∷ ds) f = failed_over past ds f

pub failed_made : (ds : List Deed) → AnyFailed ds → Made IsFailed (acts ds)
failed_made ds f = failed_over [] ds f

made_over : (past : List deeds.Deed) (ds : List Deed) → Made IsFailed (acts_over past ds) → Made IsFailed past ⊎ AnyFailed ds
made_over past [] m = inl m
made_over past (Did s a ∷ ds) m = more (made_over (did s a ∷ past) ds m)
  where
    more : Made IsFailed (did s a ∷ past) ⊎ AnyFailed ds → Made IsFailed past ⊎ AnyFailed (Did s a ∷ ds)
    more (inl (inl e)) = inr (inl e)
    more (inl (inr n)) = inl n
    more (inr f) = inr (inr f)
made_over past (Said piece ∷ ds) m = made_over past ds m
made_over past (Heard piece ∷ ds) m = made_over past ds m

pub made_failed : (ds : List Deed) → Made IsFailed (acts ds) → AnyFailed ds
made_failed ds m = elim (made_over [] ds m) [ inl n ↦ absurd n | inr f ↦ f ]

memory : {R : Type 0} (exit : Exit R) → exit ≡ NoMemory → exit ≡ FilesFailed → ⊥
memory {R = R} exit e q = let both : Same {R = R} NoMemory FilesFailed = sym e ∙ q in cc

output : {R : Type 0} (exit : Exit R) → exit ≡ OutFailed → exit ≡ FilesFailed → ⊥
output {R = R} exit e q = let both : Same {R = R} OutFailed FilesFailed = sym e ∙ q in cc

input : {R : Type 0} (exit : Exit R) → exit ≡ InFailed → exit ≡ FilesFailed → ⊥
input {R = R} exit e q = let both : Same {R = R} InFailed FilesFailed = sym e ∙ q in cc

-- a call ends by a fault of the files only where a step of it failed
pub run_failed : {R : Type 0} (p : Plan R) (h : Hand) (ds : List Deed) (k : Hand) (exit : Exit R) → Runs p h ds k exit → exit ≡ FilesFailed → AnyFailed ds
unfolding Runs
run_failed (Return r) h [] k exit (same, inl e) q = absurd (let both : Returned r ≡ FilesFailed = sym e ∙ q in cc)
run_failed (Return r) h [] k exit (same, inr e) q = absurd (memory exit e q)
run_failed (Return r) h (d ∷ ds) k exit f q = absurd f
run_failed (Ask step next) h [] k exit f q = absurd (memory exit f.1 q)
run_failed (Ask step next) h (Did s a ∷ ds) k exit (is, row, inl e) q = inl e.0
run_failed (Ask step next) h (Did s a ∷ ds) k exit (is, row, inr (live, f)) q = inr (run_failed (next a) h ds k exit f q)
run_failed (Ask step next) h (Said piece ∷ ds) k exit f q = absurd f
run_failed (Ask step next) h (Heard piece ∷ ds) k exit f q = absurd f
run_failed (Try step next) h [] k exit f q = absurd (memory exit f.1 q)
run_failed (Try step next) h (Did s a ∷ ds) k exit (is, row, f) q = inr (run_failed (next a) h ds k exit f q)
run_failed (Try step next) h (Said piece ∷ ds) k exit f q = absurd f
run_failed (Try step next) h (Heard piece ∷ ds) k exit f q = absurd f
run_failed (Say piece next) h [] k exit f q = absurd (memory exit f.1 q)
run_failed (Say piece next) h (Did s a ∷ ds) k exit f q = absurd f
run_failed (Say piece next) h (Said part ∷ ds) k exit (inl e) q = absurd (output exit e.3 q)
run_failed (Say piece next) h (Said part ∷ ds) k exit (inr (is, f)) q = run_failed next h ds k exit f q
run_failed (Say piece next) h (Heard part ∷ ds) k exit f q = absurd f
run_failed (Hear most next) h [] k exit (same, inl e) q = absurd (input exit e q)
run_failed (Hear most next) h [] k exit (same, inr e) q = absurd (memory exit e q)
run_failed (Hear most next) h (Did s a ∷ ds) k exit f q = absurd f
run_failed (Hear most next) h (Said part ∷ ds) k exit f q = absurd f
run_failed (Hear most next) h (Heard piece ∷ ds) k exit (short, f) q = run_failed (next piece) h ds k exit f q
run_failed (Recall next) h ds k exit f q = run_failed (next h) h ds k exit f q
run_failed (Note hand next) h ds k exit (inl e) q = absurd (memory exit e.2 q)
run_failed (Note hand next) h ds k exit (inr f) q = run_failed next hand ds k exit f q

-- the answers to a call's steps are those of some world, where the story may have happened
pub sound_since : (run : ℕ) (old new : Story) (log : List Moment) → Grows run old new log → IsPossible old → AllSound run (own run (past_of (events_since old new)))
sound_since run old new log g possible =
    let parts : reverse new.history ≡ reverse (events_since old new) ++ reverse old.history = ap reverse (g.history ∙ ap (λ t. old.history ++ t) (sym (since_is run old new log g))) ∙ reverse-append old.history (events_since old new) in
    sound_front run (own run (reverse (events_since old new))) (own run (reverse old.history)) (subst (AllSound run) (ap (own run) parts ∙ own_append run (reverse (events_since old new)) (reverse old.history)) (legal_sound run new.start (reverse new.history) (g.possible possible)))
