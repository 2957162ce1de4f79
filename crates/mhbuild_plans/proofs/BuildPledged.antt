-- `mhbuild` goes as it pledges.
use Rattle.std.proofs.Common.{◌≡◌, inl, inr, ◌<◌, ◌^◌, ◌++◌, ◌∷◌, [], ℕ, zero, suc, Bool, true, false, List, Option, None, Some, Result, Ok, Err, length, refl, sym, subst, nat_lt, arith}
use Rattle.std.specs.Prelude.{if◌then◌else◌}
use Rattle.std.proofs.lemmas.Bool.Decides.{Decides-ltb, nat_tests}
use Rattle.mh_base.specs.Entries.{kind_of}
use Rattle.mh_base.specs.declared.entry.Entry.TheVariants.{Temp}
use Rattle.folder_files.specs.Careful.{Creates, HasLock, Stores, WasReady, creates, replaces, sets_aside}
use Rattle.folder_files.specs.Deeds.{Deed, HasFailed, did, now, on}
use Rattle.folder_files.specs.Histories.{IsLockable}
use Rattle.folder_files.specs.Named.{is_temp_of, original_of}
use Rattle.folder_files.specs.declared.place.Place.{Place}
use Rattle.folder_files.specs.declared.place.Place.TheVariants.{Work}
use Rattle.folder_files.specs.declared.step.Answer.TheVariants as answer
use Rattle.folder_files.specs.declared.step.Step.TheVariants as step
use Rattle.file_plans.specs.Follows.{Follows, State}
use Rattle.file_plans.specs.Plan.{Hand, Return, after, bind, hear, lifted, say, ◌>>=◌}
use Rattle.file_plans.specs.Rules.{IfOkay, Keeps}
use Rattle.file_plans.specs.Runs.{Deed as Done}
use Rattle.file_plans.specs.StaysCareful.{careful}
use Rattle.file_plans.proofs.Acting.{acts}
use Rattle.step_plans.specs.CommandFaults.{command_cause, of_sink, of_stop as of_command_stop}
use Rattle.step_plans.specs.ContextCommit.{LIMIT_BYTES}
use Rattle.step_plans.specs.Hands.{named, named_by, temp_name, used}
use Rattle.step_plans.specs.PlanFaults.{Planned, of_stop}
use Rattle.step_plans.specs.Pledges.{Pledge}
use Rattle.step_plans.specs.Promises.{Promises}
use Rattle.step_plans.specs.Settled.{AreSettled}
use Rattle.step_plans.specs.Replacing.{created, entered_once, held_to, made_safe, renamed, synced, written}
use Rattle.step_plans.specs.declared.command_fault.CommandFault.{CommandFault}
use Rattle.step_plans.specs.declared.fault.PlanFault.TheVariants as plan
use Rattle.step_plans.proofs.Facts.{never_made, settled_kept}
use Rattle.step_plans.proofs.Going.{ByActs, Goes, Outcome, Sound, Soundly, goes_keeps, goes_lifted, goes_more, goes_then, okay, okay_more}
use Rattle.step_plans.proofs.Named.{temp_kind}
use Rattle.step_plans.proofs.Promising.{goes_promises}
use Rattle.step_plans.proofs.Ruling.{AreNumbered, rules_of}
use Rattle.step_plans.proofs.Stepping.{goes_create, goes_end, goes_read, goes_rename, goes_return, goes_sync_file, goes_sync_folder}
use Rattle.command_stages.specs.Texts.{too_large}
use Rattle.draft_contents.specs.Shown.{AreGiven}
use Rattle.draft_contents.specs.Wants.{all_given}
use Rattle.draft_contents.proofs.Shown.{Gave, Onto, all_go, are_onto, once_onto, onto_more, onto_none, onto_one}
use Rattle.draft_files.specs.DraftNames.{is_draft_name}
use Rattle.draft_files.specs.Drafts.{draft_by, draft_read, draft_text, in_work, no_file}
use Rattle.draft_files.specs.Hearing.{all_heard, heard_behind, heard_by, piece_heard}
use Rattle.draft_files.specs.Limits.{within_limit}
use Rattle.draft_files.specs.Replacing.{draft_replaced, of_work, set_in_place}
use Rattle.draft_files.proofs.Names.{parts_of}
use Rattle.opening_plans.proofs.EndedKept.{keeps_more}
use Rattle.mhbuild_plans.specs.BuildAlone.{IsValid}
use Rattle.mhbuild_plans.specs.BuildDone.{HasBuilt, HasPlaced, PlacedBy}
use Rattle.mhbuild_plans.specs.BuildPledge.{HasText, IsBuilt, build_pledge}
use Rattle.mhbuild_plans.specs.Building.{message_done, mhbuild, text_built}
use Rattle.mhbuild_plans.specs.Composed.{composed}
use Rattle.mhbuild_plans.specs.Parsed.{parsed}
use Rattle.mhbuild_plans.specs.declared.job.BuildJob.{BuildJob}

text_onto : (d : Option (List ℕ)) (text : List ℕ) (own later : List Deed) → Onto own later → HasText d text own → HasText d text later
text_onto None text own later o f = tt
text_onto (Some name) text own later o f = once_onto _ own later o f

module _ (run : ℕ) (few : run < 2 ^ 128) (path : List ℕ) (job : BuildJob) (valid : IsValid job.draft) where
  abbrev w : Pledge
  w = build_pledge run path job

  built_onto : (message : List ℕ) (own later : List Deed) → Onto own later → IsBuilt run path job message own → IsBuilt run path job message later
  built_onto message own later o b = record {
    text = b.text;
    draft = b.draft;
    givens = b.givens;
    has_text = text_onto job.draft b.text own later o b.has_text;
    is_draft = b.is_draft;
    are_given = are_onto path job.forwarding b.draft.wants b.givens own later o b.are_given;
    is_message = b.is_message;
  }

  -- the draft's text
  abbrev Reads : Option (List ℕ) → List Deed → Outcome (List ℕ)
  Reads d own later j text = Onto own later × HasText d text later

  heard_goes : (k : ℕ) (bytes : List ℕ) (own : List Deed) (h : Hand) → Goes w own h (heard_behind k bytes) (okay (λ later j text. later ≡ own))
  unfolding Goes heard_behind piece_heard hear lifted bind ◌>>=◌
  heard_goes zero bytes own h = tt
  heard_goes (suc k) bytes own h = λ piece short. by piece (λ more. heard_goes k more own h)
    where
      with_piece : (b : Bool) (more : List ℕ) → Goes w own h (heard_behind k more) (okay (λ later j text. later ≡ own))
          → Goes w own h (after (λ t. heard_behind k t) (if b then Err (too_large (length more)) else Ok more)) (okay (λ later j text. later ≡ own))
      with_piece true more f = tt
      with_piece false more f = f

      by : (piece : List ℕ) → ((more : List ℕ) → Goes w own h (heard_behind k more) (okay (λ later j text. later ≡ own))) → Goes w own h (heard_by (λ more. heard_behind k more) bytes piece) (okay (λ later j text. later ≡ own))
      by [] f = refl
      by (c ∷ piece) f = with_piece (nat_lt LIMIT_BYTES (length (bytes ++ c ∷ piece))) (bytes ++ c ∷ piece) (f (bytes ++ c ∷ piece))

  draft_goes : (own : List Deed) (h : Hand) (d : Option (List ℕ)) → Goes w own h (draft_text d) (okay (Reads d own))
  unfolding all_heard draft_read
  draft_goes own h None =
      goes_more w own h all_heard (okay (λ later j text. later ≡ own)) (okay (Reads None own)) (okay_more (λ later j text. later ≡ own) (Reads None own) (λ later j text e. (subst (λ o. Onto o later) e (onto_none later), tt)))
      (heard_goes 67108866 [] own h)
  draft_goes own h (Some name) =
      goes_read w own h of_command_stop (okay (Reads (Some name) own)) Work name LIMIT_BYTES (draft_by name)
      (λ bytes. goes_return w _ h bytes (okay (Reads (Some name) own)) (onto_one own _ _ tt, now refl)) (λ l. goes_end w _ h (too_large l) (Reads (Some name) own)) (goes_end w _ h (no_file (in_work name)) (Reads (Some name) own))

  -- the message
  abbrev Builds : List Deed → Outcome (List ℕ)
  Builds own later j message = Onto own later × IsBuilt run path job message later

  value_goes : {A : Type 0} (own : List Deed) (h : Hand) (v : Result A CommandFault) → Goes w own h (Return v) (okay (λ later j a. (later ≡ own) × (v ≡ Ok a)))
  value_goes own h (Ok a) = goes_return w own h a (okay (λ later j b. (later ≡ own) × (Ok a ≡ Ok b))) (refl, refl)
  value_goes own h (Err e) = goes_end w own h e (λ later j a. (later ≡ own) × (Err e ≡ Ok a))

  limit_is : (text message : List ℕ) → within_limit text ≡ Ok message → message ≡ text
  limit_is text message e = go (nat_lt LIMIT_BYTES (length text)) e
    where
      go : (b : Bool) → (if b then Err (too_large (length text)) else Ok text) ≡ Ok message → message ≡ text
      go true f = cc (f)
      go false f = cc (f)

  text_goes : (own : List Deed) (h : Hand) (text : List ℕ) → HasText job.draft text own → Goes w own h (text_built run path job text) (okay (Builds own))
  unfolding text_built
  text_goes own h text has =
      goes_then w own h (Return (parsed text)) _ (λ later j d. (later ≡ own) × (parsed text ≡ Ok d)) (Builds own) (value_goes own h (parsed text)) (λ later j d k.
      goes_then w later j (all_given path job.forwarding [] d.wants) (λ givens. Return (within_limit (composed run d givens))) (λ last i all. Gave path job.forwarding [] d.wants later last all) (Builds own) (all_go w path job.forwarding later j [] d.wants) (λ last i givens r.
      goes_more w last i (Return (within_limit (composed run d givens))) (okay (λ end z message. (end ≡ last) × (within_limit (composed run d givens) ≡ Ok message))) (okay (Builds own))
      (okay_more (λ end z message. (end ≡ last) × (within_limit (composed run d givens) ≡ Ok message)) (Builds own)
      (λ end z message e. subst (λ l. Onto own l × IsBuilt run path job message l) (sym e.0) (
        subst (λ o. Onto o last) k.0 r.onto,
        record {
          text = text;
          draft = d;
          givens = givens;
          has_text = text_onto job.draft text later last r.onto (subst (λ l. HasText job.draft text l) (sym k.0) has);
          is_draft = k.1;
          are_given = subst (λ g. AreGiven path job.forwarding d.wants g last) (sym r.are) r.given;
          is_message = limit_is (composed run d givens) message e.1;
        },
      ))) (value_goes last i (within_limit (composed run d givens)))))

  -- it is said
  said_goes : (own : List Deed) (h : Hand) (message : List ℕ) → job.draft ≡ None → IsBuilt run path job message own → Goes w own h (lifted of_sink (say message)) (okay (λ later j u. Unit {0} × (AreSettled own → AreSettled later)))
  unfolding Goes say lifted bind
  said_goes own h message is b = ((λ s. (is, b)), (tt, λ f. f))

  -- or it takes the draft's place
  never_lockable : (own : List Deed) (q : Place) → IsLockable q → q ≡ Work → HasLock q own
  never_lockable own q l e = absurd (subst IsLockable e l)

  temp_by : (n : ℕ) (temp : List ℕ) → kind_of temp ≡ Temp run n → is_temp_of run (kind_of temp) ≡ true
  temp_by n temp e = rw e (grind (arith, nat_tests))

  abbrev Adds : {A : Type 0} → List Deed → Deed → Outcome A
  Adds own d later j u = later ≡ d ∷ own

  created_goes : (own : List Deed) (h : Hand) (temp bytes : List ℕ) (n : ℕ) → kind_of temp ≡ Temp run n → n < h.next → AreNumbered run n own → IsBuilt run path job bytes own
      → Goes w own h (created Work temp bytes) (okay (Adds own (did (step.Create Work temp bytes) answer.Done)))
  unfolding created
  created_goes own h temp bytes n kind low numbered b =
      goes_create w own h of_stop (okay (Adds own (did (step.Create Work temp bytes) answer.Done))) Work temp bytes (entered_once Work temp)
      (λ s. (
        record {
          is_own = careful s.unfailed Creates (creates Work temp bytes (temp_by n temp kind, never_made run n Work temp own kind numbered)) (refl, refl) (never_lockable own);
          marks = tt;
          steps = λ no. (refl, b);
        },
        (n, kind, low),
      ))
      (goes_return w _ h tt (okay (Adds own (did (step.Create Work temp bytes) answer.Done))) refl)
      (goes_end w _ h (plan.Meddled Work temp) (Adds own (did (step.Create Work temp bytes) answer.Done)))
      (goes_end w _ h (plan.Meddled Work temp) (Adds own (did (step.Create Work temp bytes) answer.Done)))

  safe_goes : (own : List Deed) (h : Hand) (n : List ℕ) → Goes w own h (made_safe Work n) (okay (Adds own (did (step.SyncFile Work n) answer.Done)))
  unfolding made_safe
  safe_goes own h n =
      goes_sync_file w own h of_stop (okay (Adds own (did (step.SyncFile Work n) answer.Done))) Work n (held_to Work n)
      (goes_return w _ h tt (okay (Adds own (did (step.SyncFile Work n) answer.Done))) refl) (goes_end w _ h (plan.Meddled Work n) (Adds own (did (step.SyncFile Work n) answer.Done)))

  goes_named : {B : Type 0} (own : List Deed) (h : Hand) (k : List ℕ → Planned B) (Q : Outcome B)
      → ((temp : List ℕ) → kind_of temp ≡ Temp run h.next → AreNumbered run h.next own → Goes w own (used h) (k temp) (okay Q)) → Goes w own h (named run >>= k) (okay Q)
  unfolding Goes named bind ◌>>=◌
  goes_named {B = B} own h k Q f = λ s. go (nat_lt h.next (2 ^ 64)) refl s
    where
      go : (b : Bool) → nat_lt h.next (2 ^ 64) ≡ b → Sound w own h → Goes w own h (bind (named_by run h b) (after k)) (okay Q)
      go true e s = (omega arith, f (temp_name run h.next) (temp_kind run h.next few ((Decides-ltb h.next (2 ^ 64)).0 e)) s.numbered)
      go false e s = tt

  -- the message was made and made safe
  abbrev made : List ℕ → List ℕ → List Deed → List Deed
  made temp message own = did (step.SyncFile Work temp) answer.Done ∷ (did (step.Create Work temp message) answer.Done ∷ own)

  abbrev Writes : List ℕ → List Deed → Outcome (List ℕ)
  Writes message own later j temp = (later ≡ made temp message own) × (is_temp_of run (kind_of temp) ≡ true)

  written_goes : (own : List Deed) (h : Hand) (message : List ℕ) → IsBuilt run path job message own → Goes w own h (written run Work message) (okay (Writes message own))
  unfolding written
  written_goes own h message b =
      goes_named own h _ (Writes message own)
      (λ temp kind numbered.
      goes_then w own (used h) (created Work temp message) _ (Adds own (did (step.Create Work temp message) answer.Done)) (Writes message own)
      (created_goes own (used h) temp message h.next kind (omega arith) numbered b)
      (λ later j u e. subst (λ l. Goes w l j (made_safe Work temp >>= (λ safe. Return (Ok temp))) (okay (Writes message own))) (sym e)
      (goes_then w (did (step.Create Work temp message) answer.Done ∷ own) j (made_safe Work temp) (λ safe. Return (Ok temp)) (Adds _ (did (step.SyncFile Work temp) answer.Done)) (Writes message own) (safe_goes _ j temp)
      (λ last i v k. goes_return w last i temp (okay (Writes message own)) (k, temp_by h.next temp kind)))))

  made_ready : (temp message : List ℕ) (own : List Deed) → WasReady Work temp message (made temp message own)
  made_ready temp message own = now (refl, now refl)

  made_onto : (temp message : List ℕ) (own : List Deed) → Onto own (made temp message own)
  made_onto temp message own = onto_more own (did (step.Create Work temp message) answer.Done ∷ own) (made temp message own) (onto_one own (step.Create Work temp message) answer.Done tt) (onto_one (did (step.Create Work temp message) answer.Done ∷ own) (step.SyncFile Work temp) answer.Done tt)

  module _ (name : List ℕ) (is_named : job.draft ≡ Some name) (ok : is_draft_name name ≡ true) where
    abbrev original : List ℕ
    original = original_of name

    abbrev aside_deed : Deed
    aside_deed = did (step.Rename Work name original) answer.Done

    aside_goes : (own : List Deed) (h : Hand) (temp message : List ℕ) → IsBuilt run path job message own
        → Goes w (made temp message own) h (renamed Work name original) (okay (Adds (made temp message own) aside_deed))
    unfolding renamed
    aside_goes own h temp message b =
        goes_rename w (made temp message own) h of_stop (okay (Adds (made temp message own) aside_deed)) Work name original (held_to Work name)
        (λ s. (
          record {
            is_own = careful s.unfailed Stores (sets_aside Work name original (refl, (parts_of name ok).other, refl)) (refl, refl) (never_lockable (made temp message own));
            marks = λ e. absurd (cc (e));
            steps = λ no. (refl, inl (record { is_draft = is_named; is_original = refl; temp = temp; safe = record { message = message; ready = made_ready temp message own; built = built_onto message own (made temp message own) (made_onto temp message own) b } }));
          },
          tt,
        ))
        (goes_return w _ h tt (okay (Adds (made temp message own) aside_deed)) refl) (goes_end w _ h (plan.Meddled Work name) (Adds (made temp message own) aside_deed))

    abbrev set_aside : List ℕ → List ℕ → List Deed → List Deed
    set_aside temp message own = aside_deed ∷ made temp message own

    abbrev set_onto : (temp message : List ℕ) (own : List Deed) → Onto own (set_aside temp message own)
    set_onto temp message own = onto_more own (made temp message own) (set_aside temp message own) (made_onto temp message own) (onto_one (made temp message own) (step.Rename Work name original) answer.Done refl)

    abbrev taken_deed : List ℕ → Deed
    taken_deed temp = did (step.Rename Work temp name) answer.Done

    taken_goes : (own : List Deed) (h : Hand) (temp message : List ℕ) → is_temp_of run (kind_of temp) ≡ true → IsBuilt run path job message own
        → Goes w (set_aside temp message own) h (renamed Work temp name) (okay (Adds (set_aside temp message own) (taken_deed temp)))
    unfolding renamed
    taken_goes own h temp message is b =
        goes_rename w (set_aside temp message own) h of_stop (okay (Adds (set_aside temp message own) (taken_deed temp))) Work temp name (held_to Work temp)
        (λ s. (
          record {
            is_own = careful s.unfailed Stores (replaces Work temp name (refl, (parts_of name ok).other, (is, on (now (refl, now (message, refl)))))) (refl, refl) (never_lockable (set_aside temp message own));
            marks = λ e. absurd (cc (e));
            steps = λ no. (
              refl,
              inr (record {
                is_draft = is_named;
                aside = now refl;
                safe = record { message = message; ready = on (made_ready temp message own); built = built_onto message own (set_aside temp message own) (set_onto temp message own) b };
              }),
            );
          },
          tt,
        ))
        (goes_return w _ h tt (okay (Adds (set_aside temp message own) (taken_deed temp))) refl) (goes_end w _ h (plan.Meddled Work temp) (Adds (set_aside temp message own) (taken_deed temp)))

    synced_goes : (own : List Deed) (h : Hand) (n : List ℕ) → Goes w own h (synced Work n) (okay (Adds own (did (step.SyncFolder Work) answer.Done)))
    unfolding synced
    synced_goes own h n =
        goes_sync_folder w own h of_stop (okay (Adds own (did (step.SyncFolder Work) answer.Done))) Work (held_to Work n) (goes_return w _ h tt (okay (Adds own (did (step.SyncFolder Work) answer.Done))) refl)
        (goes_end w _ h (plan.Meddled Work n) (Adds own (did (step.SyncFolder Work) answer.Done)))

    -- the message has the draft's name, and that is safe
    abbrev Places : List Deed → Outcome Unit
    Places own later j u = HasPlaced run path job name later × (AreSettled own → AreSettled later)

    set_goes : (own : List Deed) (h : Hand) (message : List ℕ) → IsBuilt run path job message own → Goes w own h (set_in_place run name message) (okay (Places own))
    unfolding set_in_place
    set_goes own h message b =
        goes_then w own h (written run Work message) _ (Writes message own) (Places own) (written_goes own h message b) (λ later j temp k.
        subst (λ l. Goes w l j (renamed Work name original >>= (λ aside. renamed Work temp name >>= (λ moved. synced Work name))) (okay (Places own))) (sym k.0)
        (goes_then w (made temp message own) j (renamed Work name original) _ (Adds (made temp message own) aside_deed) (Places own) (aside_goes own j temp message b) (λ next i u e.
        subst (λ l. Goes w l i (renamed Work temp name >>= (λ moved. synced Work name)) (okay (Places own))) (sym e)
        (goes_then w (set_aside temp message own) i (renamed Work temp name) _ (Adds (set_aside temp message own) (taken_deed temp)) (Places own) (taken_goes own i temp message k.1 b) (λ last z v t.
        subst (λ l. Goes w l z (synced Work name) (okay (Places own))) (sym t)
        (goes_more w (taken_deed temp ∷ set_aside temp message own) z (synced Work name) (okay (Adds (taken_deed temp ∷ set_aside temp message own) (did (step.SyncFolder Work) answer.Done))) (okay (Places own))
        (okay_more (Adds (taken_deed temp ∷ set_aside temp message own) (did (step.SyncFolder Work) answer.Done)) (Places own)
        (λ end y x q. (record { temp = temp; message = message; older = own; is = q; built = b }, λ f. subst AreSettled (sym q) (all_settled temp message own f))))
        (synced_goes (taken_deed temp ∷ set_aside temp message own) z name)))))))
      where
        all_settled : (temp message : List ℕ) (own : List Deed) → AreSettled own → AreSettled (did (step.SyncFolder Work) answer.Done ∷ (taken_deed temp ∷ set_aside temp message own))
        all_settled temp message own f =
            settled_kept (taken_deed temp ∷ set_aside temp message own) (step.SyncFolder Work) answer.Done tt
            (settled_kept (set_aside temp message own) (step.Rename Work temp name) answer.Done refl ((set_onto temp message own).settled f))

    replaced_goes : (own : List Deed) (h : Hand) (message : List ℕ) → IsBuilt run path job message own → Goes w own h (draft_replaced run name message) (okay (Places own))
    unfolding draft_replaced
    replaced_goes own h message b =
        goes_then w own h (lifted (of_work name) (set_in_place run name message)) (λ set. Return (Ok tt)) (Places own) (Places own)
        (goes_lifted w own h (of_work name) (set_in_place run name message) (Places own) (set_goes own h message b)) (λ later j u t. goes_return w later j tt (okay (Places own)) t)

  -- what is done at the end
  abbrev pub Builds_ : List Deed → Outcome Unit
  Builds_ own later j u = HasBuilt run path job own later

  abbrev DoneBy : Option (List ℕ) → List Deed → Outcome Unit
  DoneBy d own later j u = PlacedBy run path job d later × (AreSettled own → AreSettled later)

  done_goes : (d : Option (List ℕ)) → job.draft ≡ d → (own : List Deed) (h : Hand) (message : List ℕ) → IsBuilt run path job message own → Goes w own h (message_done run d message) (okay (DoneBy d own))
  done_goes None is own h message b = said_goes own h message is b
  done_goes (Some name) is own h message b = replaced_goes name is (subst IsValid is valid) own h message b

  build_goes : (own : List Deed) (h : Hand) → Goes w own h (mhbuild run path job) (okay (Builds_ own))
  unfolding mhbuild
  build_goes own h =
      goes_then w own h (draft_text job.draft) _ (Reads job.draft own) (Builds_ own) (draft_goes own h job.draft) (λ later j text k.
      goes_then w later j (text_built run path job text) _ (Builds later) (Builds_ own) (text_goes later j text k.1) (λ last i message b.
      goes_more w last i (message_done run job.draft message) (okay (DoneBy job.draft last)) (okay (Builds_ own))
      (okay_more (DoneBy job.draft last) (Builds_ own) (λ end z u f. record { placed = f.0; settled = λ x. f.1 (b.0.settled (k.0.settled x)) })) (done_goes job.draft refl last i message b.1)))

  built_so : (own : List Deed) (past : List Done) (h : Hand) (r : Result Unit CommandFault) → Sound w (acts past) h → okay (Builds_ own) (acts past) h r → IfOkay (λ later i u. HasBuilt run path job own (acts later) × (HasFailed (acts later) → ⊥)) past h r
  built_so own past h (Ok u) s f = (f, s.unfailed)
  built_so own past h (Err e) s f = tt

  -- from whatever was done before
  pub build_keeps : (past : List Done) (h : Hand) → Sound w (acts past) h → Keeps (rules_of w) past h (mhbuild run path job) (IfOkay (λ later i u. HasBuilt run path job (acts past) (acts later) × (HasFailed (acts later) → ⊥)))
  build_keeps past h sound =
      keeps_more (rules_of w) past h (mhbuild run path job) (ByActs (Soundly w (okay (Builds_ (acts past))))) (IfOkay (λ later i u. HasBuilt run path job (acts past) (acts later) × (HasFailed (acts later) → ⊥))) (λ later j r q. built_so (acts past) later j r q.0 q.1)
      (goes_keeps w past (acts past) h (mhbuild run path job) (okay (Builds_ (acts past))) refl sound (build_goes (acts past) h))

  pub build_promises : (x y : State) (result : Result Unit CommandFault) → Follows run command_cause (mhbuild run path job) x y result → Promises w x y
  build_promises x y result f = goes_promises w command_cause (mhbuild run path job) x y result (okay (Builds_ [])) (build_goes [] x.hand) f
