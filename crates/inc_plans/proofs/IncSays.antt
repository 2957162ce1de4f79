-- What `inc` says: the heading, and lines of messages that it has stored.
use Rattle.std.proofs.Common.{◌≡◌, ◌≢◌, ◌++◌, ◌∷◌, [], ℕ, List, inl, inr, sym, ◌∙◌, ap, subst, append_assoc, append-nil}
use Rattle.folder_files.specs.Deeds as deeds
use Rattle.folder_files.specs.Deeds.{did, on}
use Rattle.folder_files.specs.declared.step.Answer.{Answer}
use Rattle.folder_files.specs.declared.step.Answer.TheVariants.{Failed}
use Rattle.folder_files.specs.declared.step.Step.{Step}
use Rattle.file_plans.specs.Plan.{Ask, Hand, Hear, Note, Plan, Recall, Return, Say, Try}
use Rattle.file_plans.specs.Rules.{Keeps}
use Rattle.file_plans.specs.Runs.{Deed, Did, Heard, Said}
use Rattle.file_plans.specs.Text.{said_of}
use Rattle.file_plans.proofs.Acting.{acts, acts_append}
use Rattle.file_plans.proofs.Framing.{AnyStep}
use Rattle.step_plans.proofs.Lasting.{KeptBy}
use Rattle.step_plans.proofs.Ruling.{rules_of}
use Rattle.opening_plans.specs.Endings.{IsToldBy}
use Rattle.opening_plans.proofs.Speaking.{said_did, said_heard, said_more, speaking}
use Rattle.inc_plans.specs.Inc.{heading}
use Rattle.inc_plans.specs.IncAnswers.{IsTextOfNew, nothing, piece as one_more}
use Rattle.inc_plans.specs.IncPledge.{TellsNew, inc_pledge, new_line}
use Rattle.inc_plans.specs.IncJob.{IncJob}

line_some : (line : List ℕ) → line ++ 10 ∷ [] ≢ []
line_some [] e = cc
line_some (x ∷ line) e = cc

heading_some : (folder : List ℕ) → heading folder ≢ []
unfolding heading
heading_some folder e = cc (e)

module _ (run : ℕ) (path : List ℕ) (job : IncJob) where
  -- what may be said is some text, and may be said later too
  tells_some : (own : List deeds.Deed) (more : List ℕ) → TellsNew run path job own more → more ≢ []
  tells_some own more (loud, inl e) none = heading_some job.folder (sym e ∙ none)
  tells_some own more (loud, inr l) none = line_some (new_line job l.kind l.number l.message) (sym l.line ∙ none)

  tells_kept : (more : List ℕ) → KeptBy AnyStep (λ own. TellsNew run path job own more)
  tells_kept more own s a any (loud, inl e) = (loud, inl e)
  tells_kept more own s a any (loud, inr l) = (loud, inr (record { number = l.number; message = l.message; kind = l.kind; line = l.line; stored = on l.stored }))

  text_kept : (own : List deeds.Deed) (s : Step) (a : Answer) (text : List ℕ) → IsTextOfNew run path job own text → IsTextOfNew run path job (did s a ∷ own) text
  text_kept own s a _ nothing = nothing
  text_kept own s a _ (one_more {text = text} {more = more} t m) = one_more (text_kept own s a text t) (tells_kept more own s a tt m)

  -- beside a fact that lasts
  module _ (F : List deeds.Deed → Type 0) (kept : KeptBy AnyStep F) where
    abbrev pub TellsSo : List ℕ → List deeds.Deed → Type 0
    TellsSo text own = F own × IsTextOfNew run path job own text

    abbrev pub HasTold : List Deed → Type 0
    HasTold past = TellsSo (said_of past) (acts past)

    did_more : (past : List Deed) (s : Step) (a : Answer) → HasTold past → HasTold (past ++ Did s a ∷ [])
    did_more past s a t =
        subst (λ own. TellsSo (said_of (past ++ Did s a ∷ [])) own) (sym (acts_append [] past (Did s a ∷ [])))
        (subst (λ text. TellsSo text (did s a ∷ acts past)) (sym (said_did past s a)) (kept (acts past) s a tt t.0, text_kept (acts past) s a (said_of past) t.1))

    heard_more : (past : List Deed) (more : List ℕ) → HasTold past → HasTold (past ++ Heard more ∷ [])
    heard_more past more t =
        subst (λ own. TellsSo (said_of (past ++ Heard more ∷ [])) own) (sym (acts_append [] past (Heard more ∷ [])))
        (subst (λ text. TellsSo text (acts past)) (sym (said_heard past more)) t)

    said_now : (past : List Deed) (more : List ℕ) → HasTold past → TellsNew run path job (acts past) more → TellsSo (said_of past ++ more) (acts past)
    said_now past more t m = (t.0, one_more t.1 m)

    said_all : (past : List Deed) (more : List ℕ) → HasTold past → TellsNew run path job (acts past) more → HasTold (past ++ Said more ∷ [])
    said_all past more t m =
        subst (λ own. TellsSo (said_of (past ++ Said more ∷ [])) own) (sym (acts_append [] past (Said more ∷ [])))
        (subst (λ text. TellsSo text (acts past)) (sym (said_more past more)) (said_now past more t m))

    told : (past : List Deed) → HasTold past → IsToldBy TellsSo (said_of past) (acts past)
    told past t = inr (said_of past, t, ([], append-nil (said_of past)))

    said_part : (past : List Deed) (part rest more : List ℕ) → part ++ rest ≡ more → HasTold past → TellsNew run path job (acts past) more → IsToldBy TellsSo (said_of (past ++ Said part ∷ [])) (acts (past ++ Said part ∷ []))
    said_part past part rest more is t m =
        inr (
          said_of past ++ more,
          subst (λ own. TellsSo (said_of past ++ more) own) (sym (acts_append [] past (Said part ∷ []))) (said_now past more t m),
          (rest, ap (λ z. z ++ rest) (said_more past part) ∙ (append_assoc (said_of past) part rest ∙ ap (λ z. said_of past ++ z) is)),
        )

    -- a plan that says what is pledged
    pub says : {R : Type 0} (past : List Deed) (h : Hand) (p : Plan R) (P : List Deed → Hand → R → Type 0) → HasTold past → Keeps (rules_of (inc_pledge run path job)) past h p P → Keeps (speaking TellsSo) past h p (λ later j r. HasTold later × P later j r)
    unfolding Keeps
    says past h (Return r) P t f = (told past t, (t, f.1))
    says past h (Ask s next) P t f = (told past t, tt, told (past ++ Did s Failed ∷ []) (did_more past s Failed t), λ a row live. says (past ++ Did s a ∷ []) h (next a) P (did_more past s a t) (f.3 a row live))
    says past h (Try s next) P t f = (told past t, tt, λ a row. says (past ++ Did s a ∷ []) h (next a) P (did_more past s a t) (f.2 a row))
    says past h (Say more next) P t f = (
      told past t,
      (said_of past ++ more, said_now past more t f.1, tells_some (acts past) more f.1, ([], append-nil (said_of past ++ more))),
      (λ part rest is. said_part past part rest more is t f.1),
      says (past ++ Said more ∷ []) h next P (said_all past more t f.1) f.3,
    )
    says past h (Hear most next) P t f = (told past t, tt, λ more short. says (past ++ Heard more ∷ []) h (next more) P (heard_more past more t) (f.2 more short))
    says past h (Recall next) P t f = says past h (next h) P t f
    says past h (Note j next) P t f = (told past t, says past j next P t f.1)
