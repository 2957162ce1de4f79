-- How `mhbuild` ends, and what shows it.
use Rattle.std.proofs.Common.{◌≡◌, ◌+◌, ◌<◌, ◌^◌, ◌++◌, ◌∷◌, [], ℕ, zero, suc, Bool, true, false, List, Option, None, Some, Result, Ok, Err, length, refl, sym, ap, subst, nat_lt, arith}
use Rattle.std.specs.Prelude.{if◌then◌else◌}
use Rattle.std.proofs.lemmas.Bool.Decides.{nat_tests}
use Rattle.std.proofs.lemmas.List.{length-append}
use Rattle.mh_profile.specs.declared.named_value.NamedValue.{NamedValue}
use Rattle.folder_files.specs.Careful.{WasMade}
use Rattle.folder_files.specs.Deeds.{Deed, now}
use Rattle.folder_files.specs.declared.place.Place.TheVariants.{Work}
use Rattle.folder_files.specs.declared.refusal.Refusal.TheVariants as refusal
use Rattle.folder_files.specs.declared.step.Answer.TheVariants as answer
use Rattle.folder_files.specs.declared.step.Step.TheVariants as step
use Rattle.file_plans.specs.Plan.{Hand, Return, after, bind, hear, lifted, say, ◌>>=◌}
use Rattle.step_plans.specs.CommandFaults.{of_sink, of_stop}
use Rattle.step_plans.specs.ContextCommit.{LIMIT_BYTES}
use Rattle.step_plans.specs.Hands.{temp_name}
use Rattle.step_plans.specs.declared.command_fault.CommandFault.{CommandFault}
use Rattle.step_plans.specs.declared.command_fault.CommandFault.TheVariants as fault
use Rattle.step_plans.specs.declared.fault.PlanFault.{PlanFault}
use Rattle.step_plans.specs.declared.fault.PlanFault.TheVariants as plan
use Rattle.step_plans.proofs.Coming.{Comes, comes_lifted, comes_on, comes_read, comes_stop, comes_then, comes_to}
use Rattle.step_plans.proofs.Ending.{unmade_more}
use Rattle.step_plans.proofs.Going.{Outcome}
use Rattle.command_stages.specs.Texts.{too_large}
use Rattle.mh_looks.proofs.Ending.{comes_at}
use Rattle.mh_drafts.specs.Drafted.{Drafted}
use Rattle.mh_drafts.specs.Drafts.{first_wrong_line}
use Rattle.draft_contents.specs.Wants.{all_given}
use Rattle.draft_contents.specs.Shown.{AreGiven}
use Rattle.draft_contents.proofs.NotGiven.{Wants, wants_come}
use Rattle.draft_contents.proofs.Shown.{Onto, once_onto}
use Rattle.draft_files.specs.Drafts.{draft_by, draft_read, draft_text, in_work, no_file}
use Rattle.draft_files.specs.Hearing.{all_heard, heard_behind, heard_by, piece_heard}
use Rattle.draft_files.specs.Limits.{within_limit}
use Rattle.draft_files.specs.Replacing.{draft_replaced, of_work, set_in_place}
use Rattle.mhbuild_plans.specs.BuildAlone.{IsValid}
use Rattle.mhbuild_plans.specs.BuildAnswers.{NotBuilt, long_draft, long_input, long_message, meddled, no_draft, no_name, not_given, wrong_line}
use Rattle.mhbuild_plans.specs.BuildPledge.{HasText, IsBuilt}
use Rattle.mhbuild_plans.specs.Building.{message_done, mhbuild, text_built}
use Rattle.mhbuild_plans.specs.Composed.{composed}
use Rattle.mhbuild_plans.specs.Parsed.{drafted, parsed, unless_wrong}
use Rattle.mhbuild_plans.specs.declared.job.BuildJob.{BuildJob}
use Rattle.mhbuild_plans.proofs.PlacedEnds.{ShowsPlaced, set_comes}
use Rattle.mh_profile.specs.Reading.{entries_seen}

text_onto : (d : Option (List ℕ)) (text : List ℕ) (own later : List Deed) → Onto own later → HasText d text own → HasText d text later
text_onto None text own later o f = tt
text_onto (Some name) text own later o f = once_onto _ own later o f

module _ (run : ℕ) (few : run < 2 ^ 128) (path : List ℕ) (job : BuildJob) (valid : IsValid job.draft) (h : Hand) where
  abbrev pub entries : List NamedValue
  entries = entries_seen h.context

  -- what shows each fault
  abbrev pub Shows : CommandFault → List Deed → Type 0
  Shows e own = NotBuilt run path job entries h.next e own

  abbrev pub Built : {A : Type 0} → Outcome (Result A CommandFault)
  Built later j (Ok a) = Unit {0}
  Built later j (Err e) = Shows e later

  abbrev pub IsUnmade : List Deed → Type 0
  IsUnmade own = WasMade Work (temp_name run h.next) own → ⊥

  -- the draft's text
  abbrev pub Reads : Option (List ℕ) → Outcome (Result (List ℕ) CommandFault)
  Reads d later j (Ok text) = HasText d text later × IsUnmade later × (j ≡ h)
  Reads d later j (Err e) = Shows e later

  module _ (is_input : job.draft ≡ None) (own : List Deed) (unmade : IsUnmade own) where
    heard_ends : (k : ℕ) (bytes : List ℕ) → LIMIT_BYTES < length bytes + k → Comes own h (heard_behind k bytes) (Reads None)
    unfolding Comes heard_behind piece_heard hear lifted bind ◌>>=◌
    heard_ends zero bytes long = long_input is_input (grind (arith, nat_tests, long))
    heard_ends (suc k) bytes long = λ piece short. by (λ more l. heard_ends k more l) piece
      where
        with_piece : ((more : List ℕ) → LIMIT_BYTES < length more + k → Comes own h (heard_behind k more) (Reads None)) → (more : List ℕ) (b : Bool) → nat_lt LIMIT_BYTES (length more) ≡ b → LIMIT_BYTES < length more + k → Comes own h (after (λ t. heard_behind k t) (if b then Err (too_large (length more)) else Ok more)) (Reads None)
        with_piece next more true e l = long_input is_input e
        with_piece next more false e l = next more l

        by : ((more : List ℕ) → LIMIT_BYTES < length more + k → Comes own h (heard_behind k more) (Reads None)) → (piece : List ℕ) → Comes own h (heard_by (λ more. heard_behind k more) bytes piece) (Reads None)
        by next [] = (tt, unmade, refl)
        by next (c ∷ piece) =
            let size = length-append bytes (c ∷ piece) in
            with_piece next (bytes ++ c ∷ piece) (nat_lt LIMIT_BYTES (length (bytes ++ c ∷ piece))) refl (omega (arith, size, long))

  pub text_ends : (own : List Deed) → IsUnmade own → (d : Option (List ℕ)) → job.draft ≡ d → Comes own h (draft_text d) (Reads d)
  unfolding all_heard draft_read
  text_ends own unmade None is = heard_ends is own unmade 67108866 [] (omega arith)
  text_ends own unmade (Some name) is =
      comes_read own h of_stop (Reads (Some name)) Work name LIMIT_BYTES (draft_by name)
      (λ bytes. comes_to _ h (Ok bytes) (Reads (Some name)) (now refl, unmade_more Work (temp_name run h.next) (step.Read Work name LIMIT_BYTES) (answer.Content bytes) own (λ b e. cc (e)) unmade, refl))
      (λ l. comes_to _ h (Err (too_large l)) (Reads (Some name)) (long_draft name is)) (comes_to _ h (Err (no_file (in_work name))) (Reads (Some name)) (no_draft name is))

  -- the message of a text
  module _ (text : List ℕ) where
    abbrev pub Builds : Outcome (Result (List ℕ) CommandFault)
    Builds later j (Ok message) = IsBuilt run path job message later × HasText job.draft text later × IsUnmade later × (j ≡ h)
    Builds later j (Err e) = Shows e later

    module _ (draft : Drafted) (is : parsed text ≡ Ok draft) where
      abbrev limited : List ℕ → Bool → Result (List ℕ) CommandFault
      limited message b = if b then Err (too_large (length message)) else Ok message

      limit_comes : (later : List Deed) (message : List ℕ) → IsBuilt run path job message later → HasText job.draft text later → IsUnmade later → (b : Bool) → nat_lt LIMIT_BYTES (length message) ≡ b
          → Comes later h (Return (limited message b)) Builds
      limit_comes later message built has unmade true e = comes_to later h (Err (too_large (length message))) Builds (long_message message built e)
      limit_comes later message built has unmade false e = comes_to later h (Ok message) Builds (built, has, unmade, refl)

      wants_built : (own : List Deed) → HasText job.draft text own → IsUnmade own → Comes own h (all_given path job.forwarding [] draft.wants >>= (λ givens. Return (within_limit (composed run draft givens)))) Builds
      wants_built own has unmade =
          comes_then own h (all_given path job.forwarding [] draft.wants) (λ givens. Return (within_limit (composed run draft givens))) (Wants path job.forwarding h [] draft.wants own) Builds (wants_come path job.forwarding h [] draft.wants own)
          (λ later j givens q. comes_at later later j h (Return (within_limit (composed run draft givens))) Builds refl q.2
          (limit_comes later (composed run draft givens)
          (record {
            text = text;
            draft = draft;
            givens = givens;
            has_text = text_onto job.draft text own later q.1.onto has;
            is_draft = is;
            are_given = subst (λ g. AreGiven path job.forwarding draft.wants g later) (sym q.0.are) q.0.given;
            is_message = refl;
          })
          (text_onto job.draft text own later q.1.onto has) (q.1.unmade Work (temp_name run h.next) unmade) (nat_lt LIMIT_BYTES (length (composed run draft givens))) refl))
          (λ later j e q. not_given text draft (text_onto job.draft text own later q.0 has) is q.1)

    pub built_comes : (own : List Deed) → HasText job.draft text own → IsUnmade own → Comes own h (text_built run path job text) Builds
    unfolding text_built
    built_comes own has unmade = go (first_wrong_line text) refl
      where
        go : (wrong : Option ℕ) → first_wrong_line text ≡ wrong
            → Comes own h (Return (unless_wrong text wrong) >>= (λ draft. all_given path job.forwarding [] draft.wants >>= (λ givens. Return (within_limit (composed run draft givens))))) Builds
        go None e = comes_on own h (drafted text) _ Builds (wants_built (drafted text) (ap (λ w. unless_wrong text w) e) own has unmade)
        go (Some line) e = comes_stop own h (fault.Refused (refusal.BadDraft line)) _ Builds (wrong_line text has e)

    -- it is said, or takes the draft's place
    of_works : (name : List ℕ) → job.draft ≡ Some name → (e : PlanFault) (own : List Deed) → ShowsPlaced run name h.next e own → Shows (of_work name e) own
    of_works name is plan.Faulted own s = absurd s
    of_works name is (plan.Locked q) own s = absurd s
    of_works name is (plan.Meddled q x) own s = subst (λ p. Shows (fault.Meddled p x) own) (sym s.0) (meddled name is s.1)
    of_works name is plan.Full own s = absurd s
    of_works name is (plan.Absent q) own s = absurd s
    of_works name is (plan.TooLarge l) own s = absurd s
    of_works name is plan.Memory own s = no_name s

    replaced_comes : (name : List ℕ) → job.draft ≡ Some name → (own : List Deed) (message : List ℕ) → HasText (Some name) text own → IsUnmade own → Comes own h (draft_replaced run name message) Built
    unfolding draft_replaced
    replaced_comes name is own message has unmade =
        comes_then own h (lifted (of_work name) (set_in_place run name message)) (λ set. Return (Ok tt)) Built Built
        (comes_lifted own h (of_work name) (set_in_place run name message) _ Built (set_comes run few name (subst IsValid is valid) text h own message has unmade) (λ later j u q. tt) (λ later j e q. of_works name is e later q))
        (λ later j u q. comes_to later j (Ok tt) Built tt) (λ later j e q. q)

    said_comes : (own : List Deed) (message : List ℕ) → Comes own h (lifted of_sink (say message)) Built
    unfolding Comes say lifted bind
    said_comes own message = tt

    done_comes : (d : Option (List ℕ)) → job.draft ≡ d → (own : List Deed) (message : List ℕ) → HasText d text own → IsUnmade own → Comes own h (message_done run d message) Built
    done_comes None is own message has unmade = said_comes own message
    done_comes (Some name) is own message has unmade = replaced_comes name is own message has unmade

    rest_comes : (own : List Deed) → HasText job.draft text own → IsUnmade own → Comes own h (text_built run path job text >>= (λ message. message_done run job.draft message)) Built
    rest_comes own has unmade =
        comes_then own h (text_built run path job text) (λ message. message_done run job.draft message) Builds Built (built_comes own has unmade)
        (λ later j message q. comes_at later later j h (message_done run job.draft message) Built refl q.3 (done_comes job.draft refl later message q.1 q.2)) (λ later j e q. q)

  -- from whatever was done before, where the run's next name was not made
  pub build_ends : (own : List Deed) → IsUnmade own → Comes own h (mhbuild run path job) Built
  unfolding mhbuild
  build_ends own unmade =
      comes_then own h (draft_text job.draft) (λ text. text_built run path job text >>= (λ message. message_done run job.draft message)) (Reads job.draft) Built (text_ends own unmade job.draft refl)
      (λ later j text q. ends_at later j text q) (λ later j e q. q)
    where
      ends_at : (later : List Deed) (j : Hand) (text : List ℕ) → Reads job.draft later j (Ok text) → Comes later j (text_built run path job text >>= (λ message. message_done run job.draft message)) Built
      ends_at later j text q =
          subst (λ i. Comes later i (text_built run path job text >>= (λ message. message_done run job.draft message)) Built) (sym q.2) (rest_comes text later q.0 q.1)
