-- What a command says that only looks: nothing while it lists and reads, and nothing where it is refused then.
use Rattle.std.proofs.Common.{◌≡◌, ◌<◌, ◌^◌, ◌++◌, ◌∷◌, [], ℕ, List, Result, Ok, Err, inl, inr, refl, sym, ◌∙◌, ap, subst}
use Rattle.mh_base.specs.Entries.{entry_text}
use Rattle.mh_base.specs.declared.entry.Entry.TheVariants.{Sequences}
use Rattle.mh_profile.specs.declared.named_value.NamedValue.{NamedValue}
use Rattle.folder_files.specs.Deeds as deeds
use Rattle.folder_files.specs.Deeds.{Once, on}
use Rattle.folder_files.specs.declared.place.Place.{Place}
use Rattle.folder_files.specs.declared.place.Place.TheVariants.{Folder}
use Rattle.folder_files.specs.declared.step.Answer.{Answer}
use Rattle.folder_files.specs.declared.step.Answer.TheVariants as answer
use Rattle.folder_files.specs.declared.step.Step.TheVariants as step
use Rattle.file_plans.specs.Asking.{list, listing_of}
use Rattle.file_plans.specs.Plan.{Hand, Plan, after, ask, bind, lifted, ◌>>=◌}
use Rattle.file_plans.specs.Rules.{Keeps}
use Rattle.file_plans.specs.Runs.{Deed, Did}
use Rattle.file_plans.specs.Text.{said_of}
use Rattle.file_plans.specs.declared.answers.Listing.{Listing as Listed}
use Rattle.file_plans.specs.declared.answers.Listing.TheVariants as listing
use Rattle.file_plans.proofs.Acting.{acts}
use Rattle.file_plans.proofs.Framing.{AnyStep}
use Rattle.file_plans.proofs.Keeping.{keeps_bind}
use Rattle.step_plans.specs.declared.command_fault.CommandFault.{CommandFault}
use Rattle.step_plans.specs.Pledges.{Pledge}
use Rattle.step_plans.proofs.Coming.{NoneFailed, OfActs, anything, comes_keeps}
use Rattle.step_plans.proofs.Going.{ByActs, Sound, Soundly, goes_keeps, okay}
use Rattle.step_plans.proofs.Lasting.{KeptBy}
use Rattle.step_plans.proofs.Ruling.{rules_of}
use Rattle.command_stages.specs.Current.{made_current}
use Rattle.command_stages.specs.Listed.{folder_listed, names_by}
use Rattle.command_stages.specs.Texts.{text_read}
use Rattle.mh_looks.specs.ScanPledge.{HasListed}
use Rattle.opening_plans.specs.Endings.{IsToldBy}
use Rattle.opening_plans.specs.Reads.{TellsText}
use Rattle.opening_plans.proofs.EndedKept.{keeps_more}
use Rattle.opening_plans.proofs.Speaking.{Quiet, keeps_both, quietly, silence, silent_told, speaking, text_silent}
use Rattle.told_folders.specs.Tasks.{Task}
use Rattle.told_folders.proofs.ChangesPledged.{StillBy, noted_goes, notes_pledge}
use Rattle.told_folders.proofs.Front.{looks, then_decided, then_read}
use Rattle.told_folders.proofs.FrontComes.{Listing, Reading, after_both, after_list, list_comes, reading, text_comes}
use Rattle.mh_profile.specs.Reading.{entries_seen}

-- a listing is asked for in silence
pub listed_silent : (past : List Deed) (h : Hand) (p : Place) (folder : List ℕ) → Keeps silence past h (folder_listed p folder) (λ later j r. Unit {0})
unfolding Keeps folder_listed list ask lifted bind ◌>>=◌
listed_silent past h p folder = (tt, tt, tt, λ a row live. by a (listing_of a))
  where
    by : (a : Answer) (r : Listed) → Keeps silence (past ++ Did (step.List p) a ∷ []) h (names_by folder r) (λ later j s. Unit {0})
    by a (listing.Names names) = (tt, tt)
    by a listing.Gone = (tt, tt)

-- what happened once, happened once later too
pub behind : (P : deeds.Deed → List deeds.Deed → Type 0) (newer own : List deeds.Deed) → Once P own → Once P (newer ++ own)
behind P [] own f = f
behind P (d ∷ newer) own f = on (behind P newer own f)

-- the listing and the reading didn't fail
pub both_clean : (path folder : List ℕ) (h : Hand) (names : List (List ℕ)) (a : Answer) (own : List deeds.Deed) → (a ≡ answer.Failed → ⊥) → NoneFailed own → NoneFailed (after_both path folder h names a own)
both_clean path folder h names a own live clean (inl e) = live e
both_clean path folder h names a own live clean (inr (inl e)) = cc (e)
both_clean path folder h names a own live clean (inr (inr w)) = clean w

-- where these texts may be told, and whatever holds where all is done
module _ (T : List ℕ → List deeds.Deed → Type 0) (told_kept : (text : List ℕ) → KeptBy AnyStep (T text)) (Ends : List Deed → Hand → Result Unit CommandFault → Type 0) (ends : (later : List Deed) (j : Hand) (e : CommandFault) → Ends later j (Err e)) where
  abbrev Told : List Deed → Type 0
  Told past = IsToldBy T (said_of past) (acts past)

  pub stops : {A : Type 0} (later : List Deed) (j : Hand) (e : CommandFault) (k : A → Plan (Result Unit CommandFault)) → Told later → Keeps (speaking T) later j (after k (Err e)) Ends
  unfolding Keeps
  stops later j e k told = (told, ends later j e)

  -- the folder becomes the current one in silence, and what lasts still holds
  module _ (run : ℕ) (few : run < 2 ^ 128) (path : List ℕ) (task : Task) (S : List deeds.Deed → Type 0) (S_kept : KeptBy AnyStep S) where
    abbrev no_piece : List deeds.Deed → List ℕ → Type 0
    no_piece own piece = ⊥

    abbrev v : Pledge
    v = notes_pledge run few path task no_piece

    quiet : (past : List Deed) (piece : List ℕ) → (rules_of v).may_say past piece → ⊥
    quiet past piece f = f

    pub current_says : (past : List Deed) (h : Hand) → Sound v (acts past) h → Told past → HasListed (Folder path task.folder) (acts past) → S (acts past)
        → ((last : List Deed) (j : Hand) → said_of last ≡ said_of past → S (acts last) → Ends last j (Ok tt)) → Keeps (speaking T) past h (made_current run path task.folder) Ends
    current_says past h sound told listed s done =
        keeps_more (speaking T) past h (made_current run path task.folder) _ Ends go
        (quietly T told_kept (rules_of v) quiet S S_kept past h (made_current run path task.folder) P told
        (goes_keeps v past (acts past) h (made_current run path task.folder) (okay (StillBy run few path task no_piece (acts past))) refl sound (noted_goes run few path task no_piece (acts past) h listed)))
      where
        P : List Deed → Hand → Result Unit CommandFault → Type 0
        P last j r = ByActs (Soundly v (okay (StillBy run few path task no_piece (acts past)))) last j r

        go : (last : List Deed) (j : Hand) (r : Result Unit CommandFault) → Quiet T told_kept (rules_of v) quiet S S_kept P past last j r → Ends last j r
        go last j (Ok u) q = done last j q.0 (q.1 s)
        go last j (Err e) q = ends last j e

  -- the listing and the reading, where F lasts besides
  module _ (F : List deeds.Deed → Type 0) (lasts : KeptBy AnyStep F) (path folder : List ℕ) (h : Hand) (A : Type 0) (seen : List (List ℕ) → List ℕ → List NamedValue → Result A CommandFault)
      (next : List (List ℕ) → A → Plan (Result Unit CommandFault)) (past : List Deed) where
    abbrev place : Place
    place = Folder path folder

    abbrev decision : List (List ℕ) → List ℕ → Result A CommandFault
    decision names text = seen names text (entries_seen h.context)

    -- what the command goes on to say
    abbrev pub GoesOn : Type 0
    GoesOn =
        (names : List (List ℕ)) (text : List ℕ) (a : Answer) → TellsText place (entry_text Sequences) text (reading path folder h a) → (a ≡ answer.Failed → ⊥) → (later : List Deed) → acts later ≡ after_both path folder h names a (acts past) → F (acts later)
        → said_of later ≡ [] → Told later → (x : A) → decision names text ≡ Ok x → Keeps (speaking T) later h (next names x) Ends

    module _ (silent : said_of past ≡ []) (f : F (acts past)) (goes : GoesOn) where
      abbrev Silent : {R : Type 0} → List Deed → List Deed → Hand → R → Type 0
      Silent before last j r = Quiet T told_kept silence (λ now_ piece no. no) F lasts (λ end i s. Unit {0}) before last j r

      decided_says : (names : List (List ℕ)) (text : List ℕ) (a : Answer) → TellsText place (entry_text Sequences) text (reading path folder h a) → (a ≡ answer.Failed → ⊥) → (later : List Deed) → acts later ≡ after_both path folder h names a (acts past) → F (acts later)
          → said_of later ≡ [] → Told later → Keeps (speaking T) later h (then_decided path folder A seen next names text) Ends
      unfolding Keeps bind ◌>>=◌
      decided_says names text a told live later is g none t = go (decision names text) refl
        where
          go : (r : Result A CommandFault) → decision names text ≡ r → Keeps (speaking T) later h (after (next names) r) Ends
          go (Ok x) so = goes names text a told live later is g none t x so
          go (Err e) so = stops later h e (next names) t

      read_says : (names : List (List ℕ)) (later : List Deed) → acts later ≡ after_list path folder h names (acts past) → F (acts later) → said_of later ≡ [] → Told later → Keeps (speaking T) later h (then_read path folder A seen next names) Ends
      unfolding ◌>>=◌
      read_says names later is g none t =
          keeps_bind (speaking T) later h (text_read place (entry_text Sequences)) (after (λ text. then_decided path folder A seen next names text)) _ Ends
          (keeps_both (speaking T) anything later h (text_read place (entry_text Sequences)) (Silent later) (OfActs (Reading path folder h (acts later)))
          (quietly T told_kept silence (λ now_ piece no. no) F lasts later h (text_read place (entry_text Sequences)) (λ last j r. Unit {0}) t (text_silent later h place (entry_text Sequences)))
          (comes_keeps later (acts later) h (text_read place (entry_text Sequences)) (Reading path folder h (acts later)) refl (text_comes path folder h (acts later))))
          go
        where
          go : (last : List Deed) (j : Hand) (r : Result (List ℕ) CommandFault) → Silent later last j r × OfActs (Reading path folder h (acts later)) last j r → Keeps (speaking T) last j (after (λ text. then_decided path folder A seen next names text) r) Ends
          go last j (Err e) q = stops last j e (λ text. then_decided path folder A seen next names text) q.0.2
          go last j (Ok text) q =
              let r = q.1 in
              subst (λ i. Keeps (speaking T) last i (then_decided path folder A seen next names text) Ends) (sym r.2)
              (decided_says names text r.0 r.3 r.4 last (r.1 ∙ ap (λ z. reading path folder h r.0 ∷ z) is) (q.0.1 g) (q.0.0 ∙ none) q.0.2)

      pub front_says : Keeps (speaking T) past h (looks path folder A seen next) Ends
      unfolding ◌>>=◌
      front_says =
          keeps_bind (speaking T) past h (folder_listed place folder) (after (λ names. then_read path folder A seen next names)) _ Ends
          (keeps_both (speaking T) anything past h (folder_listed place folder) (Silent past) (OfActs (Listing path folder h (acts past)))
          (quietly T told_kept silence (λ now_ piece no. no) F lasts past h (folder_listed place folder) (λ last j r. Unit {0}) (silent_told T told_kept past silent) (listed_silent past h place folder))
          (comes_keeps past (acts past) h (folder_listed place folder) (Listing path folder h (acts past)) refl (list_comes path folder h (acts past))))
          go
        where
          go : (last : List Deed) (j : Hand) (r : Result (List (List ℕ)) CommandFault) → Silent past last j r × OfActs (Listing path folder h (acts past)) last j r → Keeps (speaking T) last j (after (λ names. then_read path folder A seen next names) r) Ends
          go last j (Err e) q = stops last j e (λ names. then_read path folder A seen next names) q.0.2
          go last j (Ok names) q = subst (λ i. Keeps (speaking T) last i (then_read path folder A seen next names) Ends) (sym q.1.1) (read_says names last q.1.0 (q.0.1 f) (q.0.0 ∙ silent) q.0.2)
