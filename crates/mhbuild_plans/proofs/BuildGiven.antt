-- What `mhbuild` gives alone, once the draft's text is known.
use Rattle.std.proofs.Common.{◌≡◌, ◌<◌, ◌^◌, ◌++◌, ◌∷◌, [], ℕ, Bool, true, false, List, Option, Some, None, Result, Ok, Err, length, refl, sym, ◌∙◌, ap, subst, nat_lt, append-nil}
use Rattle.std.specs.Prelude.{codes, if◌then◌else◌}
use Rattle.mh_profile.specs.declared.named_value.NamedValue.{NamedValue}
use Rattle.folder_files.specs.declared.place.Place.TheVariants.{Work}
use Rattle.folder_files.specs.declared.refusal.Refusal.TheVariants as refusal
use Rattle.file_plans.specs.Contents.{Contents, mailbox_in}
use Rattle.file_plans.specs.Giving.{Gives}
use Rattle.file_plans.specs.Mailboxes.{Mailbox}
use Rattle.file_plans.specs.Plan.{Hand, Return, after, bind, converted, lifted, say, ◌>>=◌}
use Rattle.file_plans.specs.Views.{View, by_view}
use Rattle.file_plans.proofs.Framing.{silent}
use Rattle.file_plans.proofs.Giving.{gives_on, gives_then}
use Rattle.file_plans.proofs.Onward.{Is}
use Rattle.step_plans.specs.CommandFaults.{of_sink}
use Rattle.step_plans.specs.Hands.{temp_name, used}
use Rattle.step_plans.specs.declared.command_fault.CommandFault.{CommandFault}
use Rattle.step_plans.specs.declared.fault.PlanFault.{PlanFault}
use Rattle.step_plans.specs.declared.fault.PlanFault.TheVariants as plan
use Rattle.step_plans.proofs.Replaced.{Fails, Leaves}
use Rattle.step_plans.specs.ContextCommit.{LIMIT_BYTES}
use Rattle.step_plans.proofs.Refusals.{IsRefusal}
use Rattle.command_stages.specs.Texts.{too_large}
use Rattle.command_stages.specs.Works.{Work as WorkValue, refused_at}
use Rattle.opening_plans.proofs.WorkGiven.{WorkEnds}
use Rattle.mh_drafts.specs.Drafted.{Drafted}
use Rattle.mh_drafts.specs.Drafts.{first_wrong_line}
use Rattle.mhbuild_compose.specs.declared.given.Given.{Given}
use Rattle.mhbuild_compose.specs.Messages.{ended}
use Rattle.draft_contents.specs.Found.{all_found, and_then}
use Rattle.draft_contents.specs.Wants.{all_given}
use Rattle.draft_contents.proofs.Finding.{Finds, IsRefusing, finds_then, finds_value, limit_refuses}
use Rattle.draft_contents.proofs.WantsFound.{all_find}
use Rattle.draft_files.specs.DraftNames.{is_draft_name}
use Rattle.draft_files.specs.Limits.{within_limit}
use Rattle.draft_files.specs.Replacing.{draft_replaced, of_work, set_in_place}
use Rattle.mhbuild_plans.specs.Building.{message_done, text_built}
use Rattle.mhbuild_plans.specs.BuildOutcome.{built, ended_work}
use Rattle.mhbuild_plans.specs.Composed.{composed}
use Rattle.mhbuild_plans.specs.Parsed.{parsed, unless_wrong}
use Rattle.mhbuild_plans.specs.declared.job.BuildJob.{BuildJob}
use Rattle.mhbuild_plans.proofs.ReplacedGiven.{placed, placed_shown, set_gives}

parsed_refuses : (text : List ℕ) → IsRefusing (parsed text)
parsed_refuses text = go (first_wrong_line text)
  where
    go : (o : Option ℕ) → IsRefusing (unless_wrong text o)
    go None = tt
    go (Some line) = (refusal.BadDraft line, refl)

-- a message is some text
front_some : (a b : List ℕ) → (a ++ codes "MIME-Version: 1.0\n") ++ b ≡ [] → ⊥
front_some [] b e = cc (e)
front_some (x ∷ a) b e = cc (e)

pub message_some : (run : ℕ) (d : Drafted) (givens : List Given) → composed run d givens ≡ [] → ⊥
unfolding composed
message_some run d givens e = front_some (ended d.fields) _ e

module _ (ns : List ℕ) (c : Contents) (h : Hand) (run : ℕ) (path : List ℕ) (job : BuildJob) (entries : List NamedValue) (known : h.context ≡ Some entries) where
  abbrev m : Mailbox
  m = mailbox_in c

  abbrev message_of : List ℕ → Result (List ℕ) CommandFault
  message_of text = built run path entries job m text

  -- the message is what the mailbox makes it
  built_finds : (z : View) (left text : List ℕ) → Is true ns z c → Gives (by_view true) z h left (text_built run path job text) (Finds ns c h left (message_of text))
  unfolding text_built
  built_finds z left text is =
      finds_then ns c h left (parsed text) (λ draft. and_then (all_found path job.forwarding entries m [] draft.wants) (λ givens. within_limit (composed run draft givens))) z (Return (parsed text)) _
      (finds_value ns c h left (parsed text) z (parsed_refuses text) is)
      (λ y draft e later.
      finds_then ns c h left (all_found path job.forwarding entries m [] draft.wants) (λ givens. within_limit (composed run draft givens)) y (all_given path job.forwarding [] draft.wants) (λ givens. Return (within_limit (composed run draft givens)))
      (all_find ns c h left path job.forwarding entries known [] draft.wants y later)
      (λ x givens k last. finds_value ns c h left (within_limit (composed run draft givens)) x (limit_refuses (composed run draft givens)) last))

  -- it is said
  said_ends : (z : View) (message : List ℕ) → Is true ns z c → (message ≡ [] → ⊥) → Gives (by_view true) z h message (lifted of_sink (say message)) (WorkEnds (ended_work m None [] (Ok message)))
  unfolding Gives say lifted bind
  said_ends z message is some = (some, ([], sym (append-nil message), (refl, refl, ap mailbox_in (is.0 refl))))

  module _ (few : run < 2 ^ 128) (name draft message : List ℕ) (valid : is_draft_name name ≡ true) (there : c.there Work ≡ true) (free : c.texts Work (temp_name run h.next) ≡ None) (old : c.texts Work name ≡ Some draft) where
    abbrev Placed : WorkValue CommandFault
    Placed = ended_work m (Some name) draft (Ok message)

    failed : (z : View) (j : Hand) (left : List ℕ) (e : PlanFault) → Fails true h e → WorkEnds Placed z j left (Err (of_work name e))
    failed z j left plan.Faulted f = absurd f
    failed z j left (plan.Locked p) f = absurd (f refl)
    failed z j left (plan.Meddled p n) f = absurd (f refl)
    failed z j left plan.Full f = absurd f
    failed z j left (plan.Absent p) f = absurd f
    failed z j left (plan.TooLarge l) f = absurd f
    failed z j left plan.Memory f = tt

    -- it takes the draft's place
    replaced_ends : (z : View) → Is true ns z c → Gives (by_view true) z h [] (draft_replaced run name message) (WorkEnds Placed)
    unfolding draft_replaced Gives
    replaced_ends z is =
        gives_then (by_view true) z h [] (of_work name) (set_in_place run name message) (λ set. Return (Ok tt)) (λ y j left r. (left ≡ []) × Leaves true ns (placed c name draft message) (used h) (Fails true h) y j [] r) (WorkEnds Placed)
        (silent (by_view true) z h [] (set_in_place run name message) (Leaves true ns (placed c name draft message) (used h) (Fails true h)) (set_gives ns run few name valid c h draft message there free old z [] is))
        (λ y j left r f. ends y j left r f.0 f.1)
      where
        ends : (y : View) (j : Hand) (left : List ℕ) (r : Result Unit PlanFault) → left ≡ [] → Leaves true ns (placed c name draft message) (used h) (Fails true h) y j [] r
            → Gives (by_view true) y j left (after (λ set. Return (Ok tt)) (converted (of_work name) r)) (WorkEnds Placed)
        ends y j left (Ok u) none l = (none, refl, ap mailbox_in (l.is.0 refl) ∙ placed_shown c name draft message)
        ends y j left (Err e) none f = failed y j left e f

  -- what holds of the draft in the mailbox, where it has a name
  abbrev pub HasDraft : Option (List ℕ) → List ℕ → Type 0
  HasDraft None text = Unit {0}
  HasDraft (Some name) text = (is_draft_name name ≡ true) × (c.there Work ≡ true) × (c.texts Work (temp_name run h.next) ≡ None) × (c.texts Work name ≡ Some text)

  limited_is : (text message : List ℕ) → within_limit text ≡ Ok message → message ≡ text
  limited_is text message e = go (nat_lt LIMIT_BYTES (length text)) e
    where
      go : (b : Bool) → (if b then Err (too_large (length text)) else Ok text) ≡ Ok message → message ≡ text
      go true f = cc (f)
      go false f = cc (f)

  built_some : (text message : List ℕ) → message_of text ≡ Ok message → message ≡ [] → ⊥
  built_some text message is = by_draft (parsed text) is
    where
      by_givens : (draft : Drafted) (r : Result (List Given) CommandFault) → and_then r (λ givens. within_limit (composed run draft givens)) ≡ Ok message → message ≡ [] → ⊥
      by_givens draft (Ok givens) e none = message_some run draft givens (sym (limited_is (composed run draft givens) message e) ∙ none)
      by_givens draft (Err x) e none = cc (e)

      by_draft : (r : Result Drafted CommandFault) → and_then r (λ draft. and_then (all_found path job.forwarding entries m [] draft.wants) (λ givens. within_limit (composed run draft givens))) ≡ Ok message → message ≡ [] → ⊥
      by_draft (Ok draft) e none = by_givens draft (all_found path job.forwarding entries m [] draft.wants) e none
      by_draft (Err x) e none = cc (e)

  refused_work : (d : Option (List ℕ)) (text : List ℕ) (e : CommandFault) → ended_work m d text (Err e) ≡ refused_at m e
  refused_work None text e = refl
  refused_work (Some name) text e = refl

  module _ (few : run < 2 ^ 128) (text : List ℕ) (has : HasDraft job.draft text) where
    abbrev worked : Option (List ℕ) → Result (List ℕ) CommandFault → WorkValue CommandFault
    worked d r = ended_work m d text r

    abbrev pub whole : WorkValue CommandFault
    whole = worked job.draft (message_of text)

    by_draft : (d : Option (List ℕ)) (z : View) (message : List ℕ) → HasDraft d text → Is true ns z c → (message ≡ [] → ⊥)
        → Gives (by_view true) z h (worked d (Ok message)).text (message_done run d message) (WorkEnds (worked d (Ok message)))
    by_draft None z message has is some = said_ends z message is some
    by_draft (Some name) z message has is some = replaced_ends few name text message has.0 has.1 has.2 has.3 z is

    at_message : (z : View) (message : List ℕ) → message_of text ≡ Ok message → Is true ns z c → Gives (by_view true) z h whole.text (message_done run job.draft message) (WorkEnds whole)
    at_message z message e is =
        subst (λ r. Gives (by_view true) z h (worked job.draft r).text (message_done run job.draft message) (WorkEnds (worked job.draft r))) (sym e)
        (by_draft job.draft z message has is (built_some text message e))

    at_error : (z : View) (j : Hand) (left : List ℕ) (e : CommandFault) → message_of text ≡ Err e → IsRefusal e → z.contents ≡ c → left ≡ whole.text → WorkEnds whole z j left (Err e)
    at_error z j left e is refused stays rest =
        let same : whole ≡ refused_at m e = ap (worked job.draft) is ∙ refused_work job.draft text e in
        subst (λ w. WorkEnds w z j left (Err e)) (sym same)
        (subst (λ x. WorkEnds (refused_at m x) z j left (Err x)) (sym refused.1) (rest ∙ ap (λ (w : WorkValue CommandFault). w.text) same, refl, ap mailbox_in stays))

    -- the message of the text, and then what becomes of it
    pub text_ends : (z : View) → Is true ns z c → Gives (by_view true) z h whole.text (text_built run path job text >>= message_done run job.draft) (WorkEnds whole)
    text_ends z is =
        gives_on (by_view true) z h whole.text (text_built run path job text) (message_done run job.draft) (Finds ns c h whole.text (message_of text)) (WorkEnds whole) (built_finds z whole.text text is)
        (λ y j left message q. rw (q.hand, q.rest) (at_message y message (sym q.value) ((λ e. q.contents), q.numbers)))
        (λ y j left e q. at_error y j left e (sym q.value) q.refused q.contents q.rest)
