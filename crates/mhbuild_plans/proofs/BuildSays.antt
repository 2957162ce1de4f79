-- What `mhbuild` says: the message of a draft that was the input, once it has read all, and nothing of another.
use Rattle.std.proofs.Common.{◌≡◌, inl, inr, ◌<◌, ◌^◌, ◌++◌, ◌∷◌, [], ℕ, zero, suc, Bool, true, false, List, Option, None, Some, Result, Ok, Err, length, refl, sym, ◌∙◌, ap, subst, nat_lt, append-nil}
use Rattle.std.specs.Prelude.{if◌then◌else◌}
use Rattle.folder_files.specs.Deeds as deeds
use Rattle.folder_files.specs.Deeds.{did, on}
use Rattle.folder_files.specs.declared.step.Step.{Step}
use Rattle.folder_files.specs.declared.step.Answer.{Answer}
use Rattle.file_plans.specs.Plan.{Hand, Plan, Return, after, bind, hear, lifted, say, ◌>>=◌}
use Rattle.file_plans.specs.Rules.{Keeps}
use Rattle.file_plans.specs.Runs.{Deed, Heard, Said}
use Rattle.file_plans.specs.Text.{said_of}
use Rattle.file_plans.proofs.Acting.{acts, acts_append}
use Rattle.file_plans.proofs.Framing.{AnyStep, asks_any}
use Rattle.file_plans.proofs.Keeping.{keeps_bind}
use Rattle.opening_plans.specs.Endings.{IsToldBy}
use Rattle.opening_plans.proofs.EndedKept.{keeps_more}
use Rattle.opening_plans.proofs.Speaking.{keeps_both, said_more, silence, silently, speaking}
use Rattle.step_plans.proofs.Coming.{Comes, OfActs, anything, comes_framed, comes_keeps}
use Rattle.step_plans.proofs.Going.{Outcome}
use Rattle.step_plans.proofs.Lasting.{KeptBy}
use Rattle.step_plans.specs.ContextCommit.{LIMIT_BYTES}
use Rattle.step_plans.specs.declared.command_fault.CommandFault.{CommandFault}
use Rattle.command_stages.specs.Texts.{Commanded, too_large}
use Rattle.draft_contents.proofs.Shown.{are_behind}
use Rattle.draft_files.specs.Drafts.{draft_text}
use Rattle.draft_files.specs.Hearing.{all_heard, heard_behind, heard_by, piece_heard}
use Rattle.draft_files.specs.Replacing.{draft_replaced}
use Rattle.mhbuild_plans.specs.BuildAlone.{IsValid}
use Rattle.mhbuild_plans.specs.BuildPledge.{HasText, IsBuilt}
use Rattle.mhbuild_plans.specs.Building.{message_done, mhbuild, text_built}
use Rattle.mhbuild_plans.specs.declared.job.BuildJob.{BuildJob}
use Rattle.mhbuild_plans.proofs.BuildEnds as ends
use Rattle.mhbuild_plans.proofs.BuildGiven.{message_some}
use Rattle.mhbuild_plans.proofs.Heeding.{plain_silent}
use Rattle.mhbuild_plans.proofs.PlainBuild.{plain_built, plain_draft_read, plain_replaced}

-- the input is heard in silence
heard_silent : (k : ℕ) (bytes : List ℕ) (past : List Deed) (h : Hand) → Keeps silence past h (heard_behind k bytes) (λ later j r. Unit {0})
unfolding Keeps heard_behind piece_heard hear lifted bind ◌>>=◌
heard_silent zero bytes past h = (tt, tt)
heard_silent (suc k) bytes past h = (tt, tt, λ piece short. by piece (λ more. heard_silent k more (past ++ Heard piece ∷ []) h) piece)
  where
    limited : (p : List ℕ) → ((more : List ℕ) → Keeps silence (past ++ Heard p ∷ []) h (heard_behind k more) (λ later j r. Unit {0})) → (more : List ℕ) (b : Bool)
        → Keeps silence (past ++ Heard p ∷ []) h (after (λ t. heard_behind k t) (if b then Err (too_large (length more)) else Ok more)) (λ later j r. Unit {0})
    limited p next more true = (tt, tt)
    limited p next more false = next more

    by : (p : List ℕ) → ((more : List ℕ) → Keeps silence (past ++ Heard p ∷ []) h (heard_behind k more) (λ later j r. Unit {0})) → (piece : List ℕ)
        → Keeps silence (past ++ Heard p ∷ []) h (heard_by (λ more. heard_behind k more) bytes piece) (λ later j r. Unit {0})
    by p next [] = (tt, tt)
    by p next (c ∷ piece) = limited p next (bytes ++ c ∷ piece) (nat_lt LIMIT_BYTES (length (bytes ++ c ∷ piece)))

text_silent : (d : Option (List ℕ)) (past : List Deed) (h : Hand) → Keeps silence past h (draft_text d) (λ later j r. Unit {0})
unfolding all_heard
text_silent None past h = heard_silent 67108866 [] past h
text_silent (Some name) past h = plain_silent _ (plain_draft_read name) past h

module _ (run : ℕ) (few : run < 2 ^ 128) (path : List ℕ) (job : BuildJob) (valid : IsValid job.draft) (h : Hand) (F : List deeds.Deed → Type 0) (kept : KeptBy AnyStep F) where
  -- the draft was the input, and this is its message
  abbrev pub Tells : List ℕ → List deeds.Deed → Type 0
  Tells text own = F own × (job.draft ≡ None) × IsBuilt run path job text own

  text_more : (d : Option (List ℕ)) (text : List ℕ) (own : List deeds.Deed) (s : Step) (a : Answer) → HasText d text own → HasText d text (did s a ∷ own)
  text_more None text own s a f = tt
  text_more (Some name) text own s a f = on f

  built_more : (text : List ℕ) (own : List deeds.Deed) (s : Step) (a : Answer) → IsBuilt run path job text own → IsBuilt run path job text (did s a ∷ own)
  built_more text own s a b = record {
    text = b.text;
    draft = b.draft;
    givens = b.givens;
    has_text = text_more job.draft b.text own s a b.has_text;
    is_draft = b.is_draft;
    are_given = are_behind path job.forwarding b.draft.wants b.givens (did s a ∷ []) own b.are_given;
    is_message = b.is_message;
  }

  pub lasts : (text : List ℕ) → KeptBy AnyStep (Tells text)
  lasts text own s a any t = (kept own s a any t.0, t.1, built_more text own s a t.2)

  abbrev Told : List Deed → Type 0
  Told past = IsToldBy Tells (said_of past) (acts past)

  -- what was said at the end
  abbrev pub SaysSo : Option (List ℕ) → List Deed → Hand → Result Unit CommandFault → Type 0
  SaysSo None later j (Ok u) = IsBuilt run path job (said_of later) (acts later)
  SaysSo (Some name) later j (Ok u) = said_of later ≡ []
  SaysSo d later j (Err e) = Unit {0}

  stopped_so : (d : Option (List ℕ)) (later : List Deed) (j : Hand) (e : CommandFault) → SaysSo d later j (Err e)
  stopped_so None later j e = tt
  stopped_so (Some name) later j e = tt

  replaced_so : (name : List ℕ) (later : List Deed) (j : Hand) (r : Result Unit CommandFault) → said_of later ≡ [] → SaysSo (Some name) later j r
  replaced_so name later j (Ok u) e = e
  replaced_so name later j (Err x) e = tt

  none_more : (said part rest message : List ℕ) → said ≡ [] → part ++ rest ≡ message → (said ++ part) ++ rest ≡ message
  none_more said part rest message none is = ap (λ z. (z ++ part) ++ rest) none ∙ is

  message_says : (d : Option (List ℕ)) → job.draft ≡ d → (past : List Deed) (j : Hand) (message : List ℕ) → F (acts past) → said_of past ≡ [] → IsBuilt run path job message (acts past) → Keeps (speaking Tells) past j (message_done run d message) (SaysSo d)
  unfolding Keeps say lifted bind
  message_says None is past j message fact none built = (
    inl none,
    (message, (fact, is, built), (λ e. message_some run built.draft built.givens (sym built.is_message ∙ e)), ([], none_more (said_of past) message [] message none (append-nil message))),
    (λ part rest e. inr (message, told part, (rest, ap (λ z. z ++ rest) (said_at part) ∙ e))),
    (inr (message, told message, ([], append-nil _ ∙ said_at message)), subst (λ z. IsBuilt run path job z (acts (past ++ Said message ∷ []))) (sym (said_at message)) (told message).2),
  )
    where
      said_at : (part : List ℕ) → said_of (past ++ Said part ∷ []) ≡ part
      said_at part = said_more past part ∙ ap (λ z. z ++ part) none

      told : (part : List ℕ) → Tells message (acts (past ++ Said part ∷ []))
      told part = subst (Tells message) (sym (acts_append [] past (Said part ∷ []))) (fact, is, built)
  message_says (Some name) is past j message fact none built =
      keeps_more (speaking Tells) past j (draft_replaced run name message) (λ later i r. (said_of later ≡ said_of past) × Told later) (SaysSo (Some name)) (λ later i r q. replaced_so name later i r (q.0 ∙ none))
      (silently Tells lasts past j (draft_replaced run name message) (inl none) (plain_silent _ (plain_replaced run name message) past j))

  -- a part that is silent, and what it comes to
  Quietly : {A : Type 0} → Outcome A → List Deed → Hand → A → Type 0
  Quietly Q later j r = (said_of later ≡ []) × F (acts later) × Q (acts later) j r

  quiet : {A : Type 0} (p : Plan A) (past : List Deed) (i : Hand) (Q : Outcome A) → said_of past ≡ [] → F (acts past) → Keeps silence past i p (λ later j r. Unit {0}) → Comes (acts past) i p Q → Keeps (speaking Tells) past i p (Quietly Q)
  unfolding Quietly
  quiet p past i Q none fact silent comes =
      keeps_more (speaking Tells) past i p (λ later j r. ((said_of later ≡ said_of past) × Told later) × OfActs (λ own k s. F own × Q own k s) later j r) (λ later j r. (said_of later ≡ []) × F (acts later) × Q (acts later) j r)
      (λ later j r q. (q.0.0 ∙ none, q.1.0, q.1.1))
      (keeps_both (speaking Tells) anything past i p (λ later j r. (said_of later ≡ said_of past) × Told later) (OfActs (λ own k s. F own × Q own k s)) (silently Tells lasts past i p (inl none) silent)
      (comes_keeps past (acts past) i p (λ own k s. F own × Q own k s) refl (comes_framed AnyStep F kept (acts past) i p Q (asks_any p) fact comes)))

  stops : (later : List Deed) (j : Hand) (e : CommandFault) → said_of later ≡ [] → Keeps (speaking Tells) later j (Return (Err e)) (SaysSo job.draft)
  unfolding Keeps
  stops later j e none = (inl none, stopped_so job.draft later j e)

  abbrev rest_plan : List ℕ → Commanded Unit
  rest_plan text = text_built run path job text >>= message_done run job.draft

  built_says : (past : List Deed) (text : List ℕ) → said_of past ≡ [] → F (acts past) → HasText job.draft text (acts past) → ends.IsUnmade run few path job valid h (acts past) → Keeps (speaking Tells) past h (rest_plan text) (SaysSo job.draft)
  unfolding ◌>>=◌ Quietly
  built_says past text none fact has unmade =
      keeps_bind (speaking Tells) past h (text_built run path job text) (after (message_done run job.draft)) (Quietly (ends.Builds run few path job valid h text)) (SaysSo job.draft)
      (quiet (text_built run path job text) past h (ends.Builds run few path job valid h text) none fact (plain_silent _ (plain_built run path job text) past h) (ends.built_comes run few path job valid h text (acts past) has unmade))
      go
    where
      go : (later : List Deed) (j : Hand) (r : Result (List ℕ) CommandFault) → Quietly (ends.Builds run few path job valid h text) later j r → Keeps (speaking Tells) later j (after (message_done run job.draft) r) (SaysSo job.draft)
      go later j (Ok message) q = message_says job.draft refl later j message q.1 q.0 q.2.0
      go later j (Err e) q = stops later j e q.0

  pub build_says : (past : List Deed) → said_of past ≡ [] → F (acts past) → ends.IsUnmade run few path job valid h (acts past) → Keeps (speaking Tells) past h (mhbuild run path job) (SaysSo job.draft)
  unfolding mhbuild ◌>>=◌ Quietly
  build_says past none fact unmade =
      keeps_bind (speaking Tells) past h (draft_text job.draft) (after rest_plan) (Quietly (ends.Reads run few path job valid h job.draft)) (SaysSo job.draft)
      (quiet (draft_text job.draft) past h (ends.Reads run few path job valid h job.draft) none fact (text_silent job.draft past h) (ends.text_ends run few path job valid h (acts past) unmade job.draft refl)) go
    where
      go : (later : List Deed) (j : Hand) (r : Result (List ℕ) CommandFault) → Quietly (ends.Reads run few path job valid h job.draft) later j r → Keeps (speaking Tells) later j (after rest_plan r) (SaysSo job.draft)
      go later j (Ok text) q = subst (λ i. Keeps (speaking Tells) later i (rest_plan text) (SaysSo job.draft)) (sym q.2.2) (built_says later text q.0 q.1 q.2.0 q.2.1)
      go later j (Err e) q = stops later j e q.0
