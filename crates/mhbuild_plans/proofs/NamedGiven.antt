-- What `mhbuild` gives alone of a draft that has a name.
use Rattle.std.proofs.Common.{◌≡◌, ◌<◌, ◌^◌, ℕ, Bool, true, false, List, Option, Some, None, Result, Ok, Err, length, refl, sym, ◌∙◌, ap, subst, nat_lt}
use Rattle.std.specs.Prelude.{if◌then◌else◌}
use Rattle.mh_profile.specs.declared.named_value.NamedValue.{NamedValue}
use Rattle.folder_files.specs.Steps.{read_file_answer}
use Rattle.folder_files.specs.declared.place.Place.TheVariants.{Work}
use Rattle.folder_files.specs.declared.refusal.Refusal.TheVariants as refusal
use Rattle.folder_files.specs.declared.step.Answer.{Answer}
use Rattle.folder_files.specs.declared.step.Answer.TheVariants as answer
use Rattle.folder_files.specs.declared.step.Step.TheVariants as step
use Rattle.file_plans.specs.Contents.{Contents, mailbox_in}
use Rattle.file_plans.specs.Giving.{Gives}
use Rattle.file_plans.specs.Plan.{Hand, Plan, ◌>>=◌}
use Rattle.file_plans.specs.Views.{View, by_view, fits_view, view_after}
use Rattle.file_plans.proofs.Giving.{gives_on}
use Rattle.file_plans.proofs.Onward.{Is, onward}
use Rattle.file_plans.proofs.Viewing.{read_view}
use Rattle.step_plans.specs.CommandFaults.{of_stop}
use Rattle.step_plans.specs.ContextCommit.{LIMIT_BYTES}
use Rattle.step_plans.specs.Hands.{temp_name}
use Rattle.step_plans.specs.declared.command_fault.CommandFault.{CommandFault}
use Rattle.step_plans.proofs.Refusals.{IsRefusal}
use Rattle.command_stages.specs.Texts.{too_large}
use Rattle.command_stages.specs.Works.{Work as WorkValue, refused_at}
use Rattle.opening_plans.proofs.WorkGiven.{WorkEnds}
use Rattle.draft_contents.specs.Found.{present}
use Rattle.draft_contents.proofs.Finding.{Finds, content_found, found_so, gone_found, long_found}
use Rattle.draft_files.specs.DraftNames.{is_draft_name}
use Rattle.draft_files.specs.Drafts.{draft_by, draft_read, draft_text, in_work, no_file}
use Rattle.mhbuild_plans.specs.Building.{message_done, mhbuild, text_built}
use Rattle.mhbuild_plans.specs.BuildOutcome.{build_work, built, ended_work, named_text}
use Rattle.mhbuild_plans.specs.declared.job.BuildJob.{BuildJob}
use Rattle.mhbuild_plans.proofs.BuildGiven.{HasDraft, text_ends}

present_is : (missing : CommandFault) (o : Option (List ℕ)) (text : List ℕ) → present missing o ≡ Ok text → o ≡ Some text
present_is missing None text e = cc (e)
present_is missing (Some old) text e = go (nat_lt LIMIT_BYTES (length old)) e
  where
    go : (b : Bool) → (if b then Err (too_large (length old)) else Ok old) ≡ Ok text → Some old ≡ Some text
    go true f = cc (f)
    go false f = let same : old ≡ text = cc (f) in ap (λ t. Some t) same

module _ (ns : List ℕ) (c : Contents) (h : Hand) (left : List ℕ) (z : View) (is : Is true ns z c) (name : List ℕ) where
  answered : (a : Answer) → fits_view true z (step.Read Work name LIMIT_BYTES) a → a ≡ read_file_answer LIMIT_BYTES (c.texts Work name)
  answered a f = f.0 ∙ ap (λ d. read_file_answer LIMIT_BYTES (d.texts Work name)) (is.0 refl)

  later : (a : Answer) → Is true ns (view_after z (step.Read Work name LIMIT_BYTES) a) c
  later a = onward true ns z c (step.Read Work name LIMIT_BYTES) a is refl

  draft_finds : Gives (by_view true) z h left (draft_read name) (Finds ns c h left (named_text name (mailbox_in c)))
  unfolding Gives draft_read mailbox_in
  draft_finds =
      read_view true z of_stop h left (Finds ns c h left (named_text name (mailbox_in c))) Work name LIMIT_BYTES (draft_by name)
      (λ bytes f. found_so ns c h left (named_text name (mailbox_in c)) _ _ (later (answer.Content bytes)) (content_found (no_file (in_work name)) (c.texts Work name) bytes (answered (answer.Content bytes) f)) tt)
      (λ l f. found_so ns c h left (named_text name (mailbox_in c)) _ _ (later (answer.Long l)) (long_found (no_file (in_work name)) (c.texts Work name) l (answered (answer.Long l) f)) (refusal.TooLarge l LIMIT_BYTES, refl))
      (λ f. found_so ns c h left (named_text name (mailbox_in c)) _ _ (later answer.Gone) (gone_found (no_file (in_work name)) (c.texts Work name) (answered answer.Gone f)) (refusal.NoFile (in_work name), refl))

module _ (ns : List ℕ) (c : Contents) (h : Hand) (run : ℕ) (few : run < 2 ^ 128) (path : List ℕ) (job : BuildJob) (entries : List NamedValue) (known : h.context ≡ Some entries)
    (name : List ℕ) (is_named : job.draft ≡ Some name) (valid : is_draft_name name ≡ true) (there : c.there Work ≡ true) (free : c.texts Work (temp_name run h.next) ≡ None) where
  abbrev work_by : Result (List ℕ) CommandFault → WorkValue CommandFault
  work_by text = build_work run path entries job text (mailbox_in c)

  abbrev pub named_work : WorkValue CommandFault
  named_work = work_by (named_text name (mailbox_in c))

  abbrev then_built : List ℕ → Plan (Result Unit CommandFault)
  then_built text = text_built run path job text >>= message_done run job.draft

  abbrev after_text : List ℕ → WorkValue CommandFault
  after_text text = ended_work (mailbox_in c) job.draft text (built run path entries job (mailbox_in c) text)

  work_after : (text : List ℕ) → work_by (Ok text) ≡ after_text text
  unfolding build_work
  work_after text = refl

  work_refused : (e : CommandFault) → work_by (Err e) ≡ refused_at (mailbox_in c) e
  unfolding build_work
  work_refused e = refl

  has_draft : (text : List ℕ) → named_text name (mailbox_in c) ≡ Ok text → HasDraft ns c h run path job entries known job.draft text
  unfolding mailbox_in
  has_draft text e = subst (λ d. HasDraft ns c h run path job entries known d text) (sym is_named) (valid, there, free, present_is (no_file (in_work name)) (c.texts Work name) text e)

  at_text : (z : View) (text : List ℕ) → named_text name (mailbox_in c) ≡ Ok text → Is true ns z c → Gives (by_view true) z h named_work.text (then_built text) (WorkEnds named_work)
  at_text z text e is =
      subst (λ w. Gives (by_view true) z h w.text (then_built text) (WorkEnds w)) (sym (ap work_by e ∙ work_after text)) (text_ends ns c h run path job entries known few text (has_draft text e) z is)

  at_error : (z : View) (j : Hand) (left : List ℕ) (e : CommandFault) → named_text name (mailbox_in c) ≡ Err e → IsRefusal e → z.contents ≡ c → left ≡ named_work.text → WorkEnds named_work z j left (Err e)
  at_error z j left e is refused stays rest =
      let same : named_work ≡ refused_at (mailbox_in c) e = ap work_by is ∙ work_refused e in
      subst (λ w. WorkEnds w z j left (Err e)) (sym same)
      (subst (λ x. WorkEnds (refused_at (mailbox_in c) x) z j left (Err x)) (sym refused.1) (rest ∙ ap (λ (w : WorkValue CommandFault). w.text) same, refl, ap mailbox_in stays))

  pub named_gives : (z : View) → Is true ns z c → Gives (by_view true) z h named_work.text (mhbuild run path job) (WorkEnds named_work)
  unfolding mhbuild
  named_gives z is =
      subst (λ d. Gives (by_view true) z h named_work.text (draft_text d >>= then_built) (WorkEnds named_work)) (sym is_named)
      (gives_on (by_view true) z h named_work.text (draft_read name) then_built (Finds ns c h named_work.text (named_text name (mailbox_in c))) (WorkEnds named_work) (draft_finds ns c h named_work.text z is name)
      (λ y j left text q. rw (q.hand, q.rest) (at_text y text (sym q.value) ((λ e. q.contents), q.numbers)))
      (λ y j left e q. at_error y j left e (sym q.value) q.refused q.contents q.rest))
