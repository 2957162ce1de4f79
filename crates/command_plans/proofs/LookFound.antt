-- The part of a command that finds what is written of messages: at most it reads the file of a format.
use Rattle.std.proofs.Common.{◌≡◌, ◌≢◌, ◌++◌, ◌∷◌, [], ℕ, List, Result, Ok, Err, refl, sym, ap, subst}
use Rattle.format_compiler.specs.FormatOf.{format_of}
use Rattle.format_compiler.specs.Grammar.{Format}
use Rattle.folder_files.specs.Deeds as deeds
use Rattle.folder_files.specs.Deeds.{HasFailed, did, now, on}
use Rattle.folder_files.specs.declared.place.FilePath.{FilePath}
use Rattle.folder_files.specs.declared.place.Place.{Place}
use Rattle.folder_files.specs.declared.refusal.Refusal.{Refusal}
use Rattle.folder_files.specs.declared.refusal.Refusal.TheVariants as refusal
use Rattle.folder_files.specs.declared.step.Answer.{Answer}
use Rattle.folder_files.specs.declared.step.Answer.TheVariants as answer
use Rattle.folder_files.specs.declared.step.Step.{Step}
use Rattle.folder_files.specs.declared.step.Step.TheVariants as step
use Rattle.file_plans.specs.Asking.{read_file, reading_of}
use Rattle.file_plans.specs.Plan.{Hand, Return, after, ask, bind, lifted, ◌>>=◌}
use Rattle.file_plans.specs.Rules.{IfOkay, Keeps}
use Rattle.file_plans.specs.Runs.{Deed, Did}
use Rattle.file_plans.specs.StaysCareful.{only_looks}
use Rattle.file_plans.specs.declared.answers.Reading.{Reading}
use Rattle.file_plans.specs.declared.answers.Reading.TheVariants as reading
use Rattle.file_plans.proofs.Acting.{acts, acts_append}
use Rattle.file_plans.proofs.Framing.{AnyStep}
use Rattle.step_plans.specs.Finished.{OnlyLooked}
use Rattle.step_plans.specs.Pledges.{MayAsk, Pledge}
use Rattle.step_plans.specs.Settled.{AreSettled}
use Rattle.step_plans.specs.declared.command_fault.CommandFault.{CommandFault}
use Rattle.step_plans.specs.declared.command_fault.CommandFault.TheVariants as fault
use Rattle.step_plans.proofs.Coming.{Comes}
use Rattle.step_plans.proofs.Facts.{settled_kept}
use Rattle.step_plans.proofs.Going.{Outcome, Sound}
use Rattle.step_plans.proofs.Lasting.{KeptBy}
use Rattle.step_plans.proofs.Ruling.{AreNumbered, rules_of}
use Rattle.command_stages.specs.Texts.{Commanded}
use Rattle.message_lines.specs.Finding.{LIMIT_FORMAT, file_read, format_by, wrong_at}
use Rattle.message_lines.specs.MessageText.{Writing, formed}
use Rattle.message_lines.specs.declared.standing.Standing.{Standing}
use Rattle.message_puts.proofs.FirstPuts.{AreOnce, once_asked}
use Rattle.opening_plans.proofs.BegunSeen.{NoneUnlinked, still_none}
use Rattle.opening_plans.proofs.Speaking.{silence}
use Rattle.command_plans.specs.Looking.{InFile, Known, Telling, WritesAs, look_found, written_by, written_with}

abbrev pub file_step : FilePath → Step
file_step path = step.ReadFile path LIMIT_FORMAT

-- the deeds after it
abbrev pub look_deeds : Telling → Answer → List deeds.Deed → List deeds.Deed
look_deeds (Known spoken) a own = own
look_deeds (InFile path sight) a own = did (file_step path) a ∷ own

abbrev pub look_done : Telling → Answer → List Deed → List Deed
look_done (Known spoken) a past = past
look_done (InFile path sight) a past = past ++ Did (file_step path) a ∷ []

pub acts_looked : (t : Telling) (a : Answer) (past : List Deed) → acts (look_done t a past) ≡ look_deeds t a (acts past)
acts_looked (Known spoken) a past = refl
acts_looked (InFile path sight) a past = acts_append [] past (Did (file_step path) a ∷ [])

pub look_behind : (t : Telling) (a : Answer) (own : List deeds.Deed) → (newer : List deeds.Deed) × (look_deeds t a own ≡ newer ++ own)
look_behind (Known spoken) a own = ([], refl)
look_behind (InFile path sight) a own = (did (file_step path) a ∷ [], refl)

-- what is written is known from then on
written_same : (known spoken : Standing → Writing) → ◌≡◌ {A = Result (Standing → Writing) CommandFault} (Ok known) (Ok spoken) → known ≡ spoken
written_same known spoken is = cc

pub look_writes : (t : Telling) (a : Answer) (own : List deeds.Deed) (spoken : Standing → Writing) → written_by t a ≡ Ok spoken → WritesAs t spoken (look_deeds t a own)
look_writes (Known known) a own spoken is = sym (written_same known spoken is)
look_writes (InFile path sight) a own spoken is = (a, now refl, is)

pub writes_kept : (t : Telling) (spoken : Standing → Writing) → KeptBy AnyStep (WritesAs t spoken)
writes_kept (Known known) spoken own s x any f = f
writes_kept (InFile path sight) spoken own s x any f = (f.0, on f.1, f.2)

-- how it ends
abbrev pub Looked : Telling → List deeds.Deed → Hand → Outcome (Result (Standing → Writing) CommandFault)
Looked t own h later j (Ok spoken) = (a : Answer) × (later ≡ look_deeds t a own) × (j ≡ h) × (written_by t a ≡ Ok spoken)
Looked t own h later j (Err e) = (a : Answer) × (later ≡ look_deeds t a own) × (written_by t a ≡ Err e)

pub look_comes : (t : Telling) (own : List deeds.Deed) (h : Hand) → Comes own h (look_found t) (Looked t own h)
unfolding Comes look_found file_read read_file ask lifted bind ◌>>=◌
look_comes (Known spoken) own h = (answer.Done, refl, refl, refl)
look_comes (InFile path sight) own h = λ a row live. by a (format_by path (reading_of a)) refl
  where
    by : (a : Answer) (value : Result Format CommandFault) → format_by path (reading_of a) ≡ value
        → Comes (did (file_step path) a ∷ own) h (after (λ f. Return (Ok (formed f sight))) value) (Looked (InFile path sight) own h)
    by a (Ok f) is = (a, refl, refl, ap (written_with sight) is)
    by a (Err e) is = (a, refl, ap (written_with sight) is)

-- it says nothing
pub look_silent : (past : List Deed) (h : Hand) (t : Telling) → Keeps silence past h (look_found t) (λ later j r. Unit {0})
unfolding Keeps look_found file_read read_file ask lifted bind ◌>>=◌
look_silent past h (Known spoken) = (tt, tt)
look_silent past h (InFile path sight) = (tt, tt, tt, λ a row live. by a (format_by path (reading_of a)))
  where
    by : (a : Answer) (value : Result Format CommandFault) → Keeps silence (past ++ Did (file_step path) a ∷ []) h (after (λ f. Return (Ok (formed f sight))) value) (λ later j r. Unit {0})
    by a (Ok f) = (tt, tt)
    by a (Err e) = (tt, tt)

-- what it leaves
no_unlink : (path : FilePath) (p : Place) (x : List ℕ) → file_step path ≡ step.Unlink p x → ⊥
no_unlink path p x e = cc

pub looked_unlinked : (t : Telling) (a : Answer) (p : Place) (past : List Deed) → NoneUnlinked p (acts past) → NoneUnlinked p (acts (look_done t a past))
looked_unlinked (Known spoken) a p past f = f
looked_unlinked (InFile path sight) a p past f = subst (NoneUnlinked p) (sym (acts_looked (InFile path sight) a past)) (still_none p (acts past) (file_step path) a (λ x e. no_unlink path p x e) f)

pub looked_settled : (t : Telling) (a : Answer) (past : List Deed) → AreSettled (acts past) → AreSettled (acts (look_done t a past))
looked_settled (Known spoken) a past f = f
looked_settled (InFile path sight) a past f = subst AreSettled (sym (acts_looked (InFile path sight) a past)) (settled_kept (acts past) (file_step path) a tt f)

pub looked_only : (t : Telling) (a : Answer) (past : List Deed) → OnlyLooked (acts past) → OnlyLooked (acts (look_done t a past))
looked_only (Known spoken) a past f = f
looked_only (InFile path sight) a past f = subst OnlyLooked (sym (acts_looked (InFile path sight) a past)) (tt, f)

-- the file of a format may be read at any time
pub may_look : (w : Pledge) (own : List deeds.Deed) (path : FilePath) → MayAsk w own (file_step path)
may_look w own path = record { is_own = only_looks tt; marks = tt; steps = λ no. absurd (no tt) }

pub looked_once : (w : Pledge) (t : Telling) (a : Answer) (past : List Deed) → AreOnce w.run (acts past) → AreOnce w.run (acts (look_done t a past))
looked_once w (Known spoken) a past f = f
looked_once w (InFile path sight) a past f =
    subst (λ o. AreOnce w.run o) (sym (acts_looked (InFile path sight) a past)) (once_asked w (acts past) (file_step path) a (may_look w (acts past) path) f)

-- and the work that comes after it keeps the rules
module _ {A : Type 0} (w : Pledge) (past : List Deed) (h : Hand) (P : List Deed → Hand → A → Type 0) (sound : Sound w (acts past) h) where
  module _ (path : FilePath) where
    acts_file : (a : Answer) → acts (past ++ Did (file_step path) a ∷ []) ≡ did (file_step path) a ∷ acts past
    acts_file a = acts_append [] past (Did (file_step path) a ∷ [])

    numbered_file : (a : Answer) → AreNumbered w.run h.next (acts (past ++ Did (file_step path) a ∷ []))
    numbered_file a = subst (AreNumbered w.run h.next) (sym (acts_file a)) (tt, sound.numbered)

    unfailed_more : (a : Answer) → a ≢ answer.Failed → HasFailed (did (file_step path) a ∷ acts past) → ⊥
    unfailed_more a live (now e) = live e
    unfailed_more a live (on z) = sound.unfailed z

    sound_file : (a : Answer) → a ≢ answer.Failed → Sound w (acts (past ++ Did (file_step path) a ∷ [])) h
    sound_file a live = record { numbered = numbered_file a; unfailed = λ f. unfailed_more a live (subst HasFailed (acts_file a) f) }

  pub look_keeps : (t : Telling) (act : (Standing → Writing) → Commanded A)
      → ((a : Answer) (spoken : Standing → Writing) → written_by t a ≡ Ok spoken → Sound w (acts (look_done t a past)) h → Keeps (rules_of w) (look_done t a past) h (act spoken) (IfOkay P))
      → Keeps (rules_of w) past h (look_found t >>= act) (IfOkay P)
  unfolding Keeps look_found file_read read_file ask lifted bind ◌>>=◌
  look_keeps (Known spoken) act f = f answer.Done spoken refl sound
  look_keeps (InFile path sight) act f = (sound.numbered, may_look w (acts past) path, numbered_file path answer.Failed, λ a row live. by a live (format_by path (reading_of a)) refl)
    where
      by : (a : Answer) → a ≢ answer.Failed → (value : Result Format CommandFault) → format_by path (reading_of a) ≡ value
          → Keeps (rules_of w) (past ++ Did (file_step path) a ∷ []) h (bind (after (λ g. Return (Ok (formed g sight))) value) (after act)) (IfOkay P)
      by a live (Ok g) is = f a (formed g sight) (ap (written_with sight) is) (sound_file path a live)
      by a live (Err e) is = (numbered_file path a, tt)

-- a format is refused by a refusal
pub file_refuses : (path : FilePath) (r : Reading) (e : CommandFault) → format_by path r ≡ Err e → (x : Refusal) × (e ≡ fault.Refused x)
file_refuses path (reading.Content text) e is = by (format_of text) is
  where
    by : (value : Result Format ℕ) → wrong_at value ≡ Err e → (x : Refusal) × (e ≡ fault.Refused x)
    by (Ok f) same = absurd (cc (same))
    by (Err at) same = (refusal.BadFormat at, cc (same))
file_refuses path (reading.Long l) e is = (refusal.TooLarge l LIMIT_FORMAT, cc (is))
file_refuses path reading.Gone e is = (refusal.NoFile path, cc (is))
