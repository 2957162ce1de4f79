-- A plan that keeps a pledge keeps it where more may be told.
use Rattle.std.proofs.Common.{◌++◌, ◌∷◌, [], ℕ, List, sym, subst}
use Rattle.folder_files.specs.Deeds as deeds
use Rattle.folder_files.specs.declared.step.Answer.{Answer}
use Rattle.folder_files.specs.declared.step.Step.{Step}
use Rattle.folder_files.specs.declared.step.Step.TheVariants as step
use Rattle.file_plans.specs.Plan.{Ask, Hand, Hear, Note, Plan, Recall, Return, Say, Try}
use Rattle.file_plans.specs.Rules.{Keeps}
use Rattle.file_plans.specs.Runs.{Deed, Did, Heard, Said}
use Rattle.file_plans.proofs.Acting.{acts, acts_append}
use Rattle.file_plans.proofs.Framing.{AnyStep}
use Rattle.step_plans.specs.Pledges.{Marks, MayAsk, Pledge}
use Rattle.step_plans.proofs.Lasting.{KeptBy}
use Rattle.step_plans.proofs.Ruling.{rules_of}
use Rattle.command_pledges.specs.CommandPledge.{telling}

-- with the same pledge but for what may be said, where more lets it be said
module _ (w : Pledge) (T : List deeds.Deed → List ℕ → Type 0) where
  marked_told : (own : List deeds.Deed) (s : Step) → Marks w own s → Marks (telling w T) own s
  marked_told own (step.Rename p temp name) m = λ is. let k = m is in record { old = k.old; new = k.new; is_base = k.is_base; created = k.created; made = k.made }
  marked_told own s m = tt

  may_told : (own : List deeds.Deed) (s : Step) → MayAsk w own s → MayAsk (telling w T) own s
  may_told own s m = record { is_own = m.is_own; marks = marked_told own s m.marks; steps = m.steps }

  module _ (F : List deeds.Deed → Type 0) (kept : KeptBy AnyStep F) (so : (own : List deeds.Deed) (piece : List ℕ) → F own → w.may_tell own piece → T own piece) where
    fact_did : (past : List Deed) (s : Step) (a : Answer) → F (acts past) → F (acts (past ++ Did s a ∷ []))
    fact_did past s a f = subst F (sym (acts_append [] past (Did s a ∷ []))) (kept (acts past) s a tt f)

    fact_said : (past : List Deed) (piece : List ℕ) → F (acts past) → F (acts (past ++ Said piece ∷ []))
    fact_said past piece f = subst F (sym (acts_append [] past (Said piece ∷ []))) f

    fact_heard : (past : List Deed) (piece : List ℕ) → F (acts past) → F (acts (past ++ Heard piece ∷ []))
    fact_heard past piece f = subst F (sym (acts_append [] past (Heard piece ∷ []))) f

    pub keeps_telling : {R : Type 0} (past : List Deed) (h : Hand) (p : Plan R) (Q : List Deed → Hand → R → Type 0) → F (acts past) → Keeps (rules_of w) past h p Q → Keeps (rules_of (telling w T)) past h p Q
    unfolding Keeps
    keeps_telling past h (Return r) Q t f = f
    keeps_telling past h (Ask s next) Q t f = (f.0, may_told (acts past) s f.1, f.2, λ a row live. keeps_telling (past ++ Did s a ∷ []) h (next a) Q (fact_did past s a t) (f.3 a row live))
    keeps_telling past h (Try s next) Q t f = (f.0, may_told (acts past) s f.1, λ a row. keeps_telling (past ++ Did s a ∷ []) h (next a) Q (fact_did past s a t) (f.2 a row))
    keeps_telling past h (Say piece next) Q t f = (f.0, so (acts past) piece t f.1, f.2, keeps_telling (past ++ Said piece ∷ []) h next Q (fact_said past piece t) f.3)
    keeps_telling past h (Hear most next) Q t f = (f.0, f.1, λ piece short. keeps_telling (past ++ Heard piece ∷ []) h (next piece) Q (fact_heard past piece t) (f.2 piece short))
    keeps_telling past h (Recall next) Q t f = keeps_telling past h (next h) Q t f
    keeps_telling past h (Note j next) Q t f = (f.0, keeps_telling past j next Q t f.1)
