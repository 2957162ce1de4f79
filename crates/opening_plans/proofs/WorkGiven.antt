-- What a command gives alone that begins a folder: what it comes to on the mailbox that it finds.
use Rattle.std.proofs.Common.{◌≡◌, ◌⊎◌, inl, inr, ◌<◌, ◌≤◌, ◌^◌, [], ℕ, true, List, Option, Some, None, Result, Ok, Err, refl, sym, ◌∙◌, ap, subst, arith}
use Rattle.std.specs.Prelude.{is_some}
use Rattle.std.specs.List.{list_all}
use Rattle.mail_headers.specs.Lines.{is_name_byte}
use Rattle.mh_base.specs.Folders.{is_folder_name}
use Rattle.mh_profile.specs.declared.named_value.NamedValue.{NamedValue}
use Rattle.mh_sequences.specs.Printing.{private_entries}
use Rattle.mh_sequences.specs.Reading.{suffix}
use Rattle.mh_sequences.specs.Runs.{AreRuns, has}
use Rattle.mh_sequences.specs.Sequences.{AreSequences, Marked}
use Rattle.mh_sequences.specs.declared.run.Run.{Run}
use Rattle.mh_sequences.proofs.ContextEntries.{valid_entries}
use Rattle.folder_files.specs.declared.place.Place.{Place}
use Rattle.folder_files.specs.declared.place.Place.TheVariants.{Folder, Mail}
use Rattle.folder_files.specs.declared.refusal.Refusal.{Refusal}
use Rattle.folder_files.specs.declared.refusal.Refusal.TheVariants as refusal
use Rattle.file_plans.specs.Asking.{attempt_unlock, unlock}
use Rattle.file_plans.specs.Contents.{Contents, folder_at, mailbox_in}
use Rattle.file_plans.specs.Giving.{Gives}
use Rattle.file_plans.specs.Mailboxes.{Folder as FolderValue}
use Rattle.file_plans.specs.Plan.{Hand, Plan, Return, ask, attempt, bind, converted, lifted, ◌>>=◌}
use Rattle.file_plans.specs.Views.{View, by_view}
use Rattle.file_plans.proofs.Framing.{silent}
use Rattle.file_plans.proofs.Giving.{gives_bind, gives_on}
use Rattle.file_plans.proofs.Onward.{Is, IsShort}
use Rattle.step_plans.specs.ContextCommit.{LIMIT_BYTES, commit_context, context_name}
use Rattle.step_plans.specs.declared.command_fault.CommandFault.{CommandFault}
use Rattle.step_plans.specs.declared.command_fault.CommandFault.TheVariants as fault
use Rattle.step_plans.specs.declared.fault.PlanFault.{PlanFault}
use Rattle.step_plans.specs.declared.fault.PlanFault.TheVariants as plan
use Rattle.step_plans.proofs.Committed.{entries_at}
use Rattle.held_messages.specs.HeldPairs.{homes}
use Rattle.held_messages.specs.Highest.{IsTop}
use Rattle.held_messages.proofs.Unique.{held_once}
use Rattle.sequence_commits.specs.Committing.{changed_sequences}
use Rattle.sequence_commits.proofs.ChangesTo.{are_changes}
use Rattle.command_stages.specs.Current.{current_change, made_current}
use Rattle.command_stages.specs.Endings.{of_plan}
use Rattle.command_stages.specs.Texts.{too_large}
use Rattle.command_stages.specs.Works.{Work, refused_at}
use Rattle.command_stages.proofs.FolderLines.{current_valid}
use Rattle.opening_plans.specs.BegunWork.{AreHomes, AreHomesAt, Homes, after_commits, begun_work, current_work, end_by}
use Rattle.opening_plans.specs.Ending.{ended, finished, given_up}
use Rattle.opening_plans.specs.Kept.{Commits, Kept, context_kept, sequences_kept}
use Rattle.opening_plans.specs.Opening.{Opened, begun}
use Rattle.opening_plans.proofs.BegunWorks.{IsBegunAs, absent_work, begun_as, clear_context, clear_text, homes_are, homes_in, long_work}
use Rattle.opening_plans.proofs.FolderGiven.{BeginEnds, BeginErrs, IsBegunIn, IsUntouched, begun_gives}
use Rattle.opening_plans.proofs.KeptGiven.{Ends, Holds, IsClear, context_ends, sequences_end}
use Rattle.opening_plans.proofs.KeptMessages.{message_at}
use Rattle.opening_plans.proofs.SettledShown.{there_shown}

-- alone a command ends as its work says, and the mailbox is then what it says; for want of numbers for names nothing is said
abbrev pub WorkEnds : Work CommandFault → View → Hand → List ℕ → Result Unit CommandFault → Type 0
WorkEnds w z j left (Ok u) = (left ≡ []) × (w.end ≡ Ok tt) × (mailbox_in z.contents ≡ w.mailbox)
WorkEnds w z j left (Err (fault.Refused r)) = (left ≡ []) × (w.end ≡ Err (fault.Refused r)) × (mailbox_in z.contents ≡ w.mailbox)
WorkEnds w z j left (Err (fault.Faulted which)) = ⊥
WorkEnds w z j left (Err (fault.Locked q)) = ⊥
WorkEnds w z j left (Err (fault.Meddled q x)) = ⊥
WorkEnds w z j left (Err fault.Memory) = Unit {0}

-- the folder's lock falls at the end, and nothing else changes
finished_gives : (w : Work CommandFault) (p : Place) (z : View) (j : Hand) (left : List ℕ) → WorkEnds w z j left (Ok tt) → Gives (by_view true) z j left (finished p) (WorkEnds w)
unfolding Gives finished unlock ask lifted bind ◌>>=◌
finished_gives w p z j left f = λ a row live fits. f

given_up_gives : (w : Work CommandFault) (p : Place) (z : View) (j : Hand) (left : List ℕ) (r : Refusal) → WorkEnds w z j left (Err (fault.Refused r)) → Gives (by_view true) z j left (given_up p (fault.Refused r)) (WorkEnds w)
unfolding Gives given_up attempt_unlock attempt lifted bind ◌>>=◌
given_up_gives w p z j left r f = λ a row fits. f

pub ended_gives : (w : Work CommandFault) (p : Place) (z : View) (j : Hand) (left : List ℕ) (r : Result Unit CommandFault) → WorkEnds w z j left r → Gives (by_view true) z j left (ended p r) (WorkEnds w)
unfolding Gives
ended_gives w p z j left (Ok u) f = finished_gives w p z j left f
ended_gives w p z j left (Err (fault.Refused r)) f = given_up_gives w p z j left r f
ended_gives w p z j left (Err (fault.Faulted which)) f = f
ended_gives w p z j left (Err (fault.Locked q)) f = absurd f
ended_gives w p z j left (Err (fault.Meddled q x)) f = f
ended_gives w p z j left (Err fault.Memory) f = f

-- a plan with its errors as another layer has them
pub lifted_gives : {A E F : Type 0} (v : View) (h : Hand) (text : List ℕ) (from : E → F) (p : Plan (Result A E)) (Q : View → Hand → List ℕ → Result A E → Type 0) → Gives (by_view true) v h [] p Q
    → Gives (by_view true) v h text (lifted from p) (λ z j left r. (left ≡ text) × ((q : Result A E) × (r ≡ converted from q) × Q z j [] q))
unfolding Gives lifted
lifted_gives {A = A} {E = E} v h text from p Q f =
    gives_bind (by_view true) v h text p (λ r. Return (converted from r)) (λ z j left r. (left ≡ text) × Q z j [] r) (λ z j left r. (left ≡ text) × ((q : Result A E) × (r ≡ converted from q) × Q z j [] q))
    (silent (by_view true) v h text p Q f) (λ z j left r g. (g.0, (r, refl, g.1)))

-- a folder that was begun: its numbers are those that have messages, its sequences are in order, and these contents are there
pub record IsOpen (path folder : List ℕ) (o : Opened) (z : View) (j : Hand) : Type 0 where
  pub place : o.place ≡ Folder path folder
  pub name : o.folder ≡ folder
  pub valid : AreSequences o.sequences.users
  pub runs : AreRuns o.listing
  pub kept : Kept
  pub contents : Contents
  pub later : List ℕ
  pub is : Is true later z contents
  pub holds : Holds (λ e. IsClear e (Folder path folder)) path kept contents j
  pub stands : (n : ℕ) → is_some (message_at kept.mailbox (Folder path folder) n) ≡ has o.listing n

module _ (run : ℕ) (few : run < 2 ^ 128) (path folder : List ℕ) where
  abbrev p : Place
  p = Folder path folder

  abbrev mail : Place
  mail = Mail path

  pub weaker : (F : Contents → Type 0) (k : Kept) (c : Contents) (h : Hand) → Holds F path k c h → Holds (λ d. Unit {0}) path k c h
  weaker F k c h f = record { shows = f.shows; entries = f.entries; known = f.known; short = f.short; still = tt }

  -- the folder becomes the current one
  current_ends : (ns : List ℕ) (written : List ℕ) (k : Kept) (z : View) (j : Hand) (left : List ℕ) (q : Result Unit PlanFault) → left ≡ [] → Ends (λ d. Unit {0}) path ns (context_kept path (current_change folder) k) z j q
      → WorkEnds (current_work path folder written k) z j left (converted (of_plan folder) q)
  current_ends ns written k z j left (Ok u) none e = (none, ap end_by e.0, ap mailbox_in (e.1.1.0 refl) ∙ e.1.2.shows)
  current_ends ns written k z j left (Err plan.Faulted) none e = e
  current_ends ns written k z j left (Err (plan.Locked q)) none e = absurd e
  current_ends ns written k z j left (Err (plan.Meddled q x)) none e = e
  current_ends ns written k z j left (Err plan.Full) none e = absurd e
  current_ends ns written k z j left (Err (plan.Absent q)) none e = absurd e
  current_ends ns written k z j left (Err (plan.TooLarge l)) none e = (none, ap end_by e.0, e.1)
  current_ends ns written k z j left (Err plan.Memory) none e = tt

  pub current_gives : is_folder_name folder ≡ true → (ns : List ℕ) (written : List ℕ) (k : Kept) (c : Contents) (z : View) (j : Hand) → Is true ns z c → Holds (λ d. Unit {0}) path k c j
      → Gives (by_view true) z j [] (made_current run path folder) (WorkEnds (current_work path folder written k))
  unfolding Gives made_current
  current_gives valid ns written k c z j is holds =
      gives_on (by_view true) z j [] (lifted (of_plan folder) (commit_context run mail (current_change folder))) (λ done. Return (Ok tt))
      (λ y i left r. (left ≡ []) × ((q : Result Unit PlanFault) × (r ≡ converted (of_plan folder) q) × Ends (λ d. Unit {0}) path ns (context_kept path (current_change folder) k) y i q))
      (WorkEnds (current_work path folder written k))
      (lifted_gives z j [] (of_plan folder) (commit_context run mail (current_change folder)) (λ y i left r. Ends (λ d. Unit {0}) path ns (context_kept path (current_change folder) k) y i r)
      (context_ends (λ d. Unit {0}) path ns (λ d cs f. tt) run few (current_change folder) (current_valid folder valid) k c z j [] is holds))
      (λ y i left u g. subst (λ r. WorkEnds (current_work path folder written k) y i left r) (sym g.1.1) (current_ends ns written k y i left g.1.0 g.0 g.1.2))
      (λ y i left e g. subst (λ r. WorkEnds (current_work path folder written k) y i left r) (sym g.1.1) (current_ends ns written k y i left g.1.0 g.0 g.1.2))

  -- the folder's sequences are committed
  pub sequences_give : list_all is_name_byte (suffix folder) ≡ true → (old new : Marked) → AreSequences new.users → (ns : List ℕ) (k : Kept) (c : Contents) (z : View) (j : Hand) → Is true ns z c → Holds (λ d. IsClear d p) path k c j → (out : List ℕ)
      → Gives (by_view true) z j out (changed_sequences run p mail folder old new) (λ y i left r. Ends (λ d. IsClear d p) path ns (sequences_kept path folder old new k) y i r)
  sequences_give clean old new users ns k c z j is holds out =
      sequences_end (λ d. IsClear d p) path ns (clear_context path folder) run few folder old new
      (λ es. are_changes (suffix folder) (private_entries (suffix folder) new.users) es (valid_entries (suffix folder) new.users clean users)) (clear_text path folder) k c j holds z is holds.still out

  -- a part that commits, and the work goes on where that is done
  module _ (commits : Commits) (part : Plan (Result Unit PlanFault)) (next : Kept → Work CommandFault) (act : Plan (Result Unit CommandFault)) (ns : List ℕ) (z : View) (j : Hand)
      (gives : Gives (by_view true) z j [] part (λ y i left r. Ends (λ d. IsClear d p) path ns commits y i r)) where
    abbrev work_then : Work CommandFault
    work_then = after_commits commits next

    work_made : commits.long ≡ None → work_then ≡ next commits.kept
    work_made none = rw none refl

    work_long : (l : ℕ) → commits.long ≡ Some l → work_then ≡ refused_at commits.kept.mailbox (too_large l)
    work_long l some = rw some refl

    refused_then : (y : View) (i : Hand) (left : List ℕ) (e : PlanFault) → left ≡ work_then.text → Ends (λ d. IsClear d p) path ns commits y i (Err e) → WorkEnds work_then y i left (Err (of_plan folder e))
    refused_then y i left plan.Faulted same f = f
    refused_then y i left (plan.Locked q) same f = absurd f
    refused_then y i left (plan.Meddled q x) same f = f
    refused_then y i left plan.Full same f = absurd f
    refused_then y i left (plan.Absent q) same f = absurd f
    refused_then y i left (plan.TooLarge l) same f =
        let w = work_long l f.0 in
        (same ∙ ap (λ x. x.text) w, ap (λ x. x.end) w, f.1 ∙ sym (ap (λ x. x.mailbox) w))
    refused_then y i left plan.Memory same f = tt

    module _ (acts : (d : Contents) (y : View) (i : Hand) → Is true ns y d → Holds (λ e. IsClear e p) path commits.kept d i → Gives (by_view true) y i (next commits.kept).text act (WorkEnds (next commits.kept))) where
      good : (y : View) (i : Hand) (left : List ℕ) (q : Result Unit PlanFault) → left ≡ work_then.text → Ok tt ≡ converted (of_plan folder) q → Ends (λ d. IsClear d p) path ns commits y i q → Gives (by_view true) y i left act (WorkEnds work_then)
      good y i left (Ok u) same r e =
          let w = work_made e.0 in
          subst (λ t. Gives (by_view true) y i t act (WorkEnds work_then)) (sym same)
          (subst (λ x. Gives (by_view true) y i x.text act (WorkEnds x)) (sym w) (acts e.1.0 y i e.1.1 e.1.2))
      good y i left (Err x) same r e = absurd (cc (r))

      bad : (y : View) (i : Hand) (left : List ℕ) (e : CommandFault) (q : Result Unit PlanFault) → left ≡ work_then.text → Err e ≡ converted (of_plan folder) q → Ends (λ d. IsClear d p) path ns commits y i q → WorkEnds work_then y i left (Err e)
      bad y i left e (Ok u) same r f = absurd (cc (r))
      bad y i left e (Err x) same r f = let is_ : e ≡ of_plan folder x = cc (r) in subst (λ q. WorkEnds work_then y i left (Err q)) (sym is_) (refused_then y i left x same f)

      pub then_gives : Gives (by_view true) z j work_then.text (lifted (of_plan folder) part >>= (λ done. act)) (WorkEnds work_then)
      then_gives =
          gives_on (by_view true) z j work_then.text (lifted (of_plan folder) part) (λ done. act)
          (λ y i left r. (left ≡ work_then.text) × ((q : Result Unit PlanFault) × (r ≡ converted (of_plan folder) q) × Ends (λ d. IsClear d p) path ns commits y i q)) (WorkEnds work_then)
          (lifted_gives z j work_then.text (of_plan folder) part (λ y i left r. Ends (λ d. IsClear d p) path ns commits y i r) gives)
          (λ y i left u g. good y i left g.1.0 g.0 g.1.1 g.1.2)
          (λ y i left e g. bad y i left e g.1.0 g.0 g.1.1 g.1.2)

-- two highest numbers of one folder are the same
pub one_top : (f : FolderValue) (s t : ℕ) → IsTop f s → IsTop f t → s ≡ t
one_top f s t a b = same s t (below s t a.attained b.above) (below t s b.attained a.above)
  where
    below : (s t : ℕ) → (s ≡ 0) ⊎ (is_some (f.messages s) ≡ true) → ((k : ℕ) → is_some (f.messages k) ≡ true → k ≤ t) → s ≤ t
    below s t (inl e) above = rw e (omega arith)
    below s t (inr e) above = above s e

    same : (s t : ℕ) → s ≤ t → t ≤ s → s ≡ t
    same s t f g = omega (arith, f, g)

-- a folder's held messages go to one place each
pub one_home : (run : ℕ) (f : FolderValue) (h g : Homes) → AreHomes run f h → AreHomes run f g → h ≡ g
one_home run f h g a b =
    let pairs : h.pairs ≡ g.pairs = held_once run f h.pairs g.pairs a.held b.held in
    let ends : h.ends ≡ g.ends = a.ends ∙ ((λ i. homes (λ k. is_some (f.messages k)) (one_top f a.highest b.highest a.top b.top i) (pairs i)) ∙ sym b.ends) in
    λ i. record { pairs = pairs i; ends = ends i }

pub homes_there : (run : ℕ) (f : FolderValue) (o : Option FolderValue) (h : Homes) → o ≡ Some f → AreHomesAt run o h → AreHomes run f h
homes_there run f None h e a = cc (e)
homes_there run f (Some g) h e a = let same : g ≡ f = cc in subst (λ x. AreHomes run x h) same a

-- the whole, where the context has these entries and its text is not too long
module _ (run : ℕ) (few : run < 2 ^ 128) (path folder : List ℕ) (clean : list_all is_name_byte (suffix folder) ≡ true)
    (c : Contents) (entries : List NamedValue) (entries_are : entries ≡ entries_at c (Mail path)) (short : IsShort LIMIT_BYTES (c.texts (Mail path) context_name)) where
  abbrev at : Place
  at = Folder path folder

  module _ (h : Homes) (are : AreHomesAt run ((mailbox_in c).folders at) h) (ns : List ℕ) (v : View) (hand : Hand) (untouched : IsUntouched ns at c hand v hand)
      (next : List Run → Marked → Kept → Work CommandFault) (act : Opened → Plan (Result Unit CommandFault))
      (acts : (o : Opened) (z : View) (j : Hand) (f : IsOpen path folder o z j) → Gives (by_view true) z j (next o.listing o.sequences f.kept).text (act o) (WorkEnds (next o.listing o.sequences f.kept))) where
    abbrev work : Work CommandFault
    work = begun_work path folder entries h (mailbox_in c) next

    abbrev Begun : View → Hand → List ℕ → Result Opened CommandFault → Type 0
    Begun z j left r = (left ≡ work.text) × ((q : Result Opened PlanFault) × (r ≡ converted (of_plan folder) q) × BeginEnds true ns run few path folder c z j [] q)

    home : (f : Homes) → c.there at ≡ true → AreHomes run (folder_at c at) f → f ≡ h
    unfolding mailbox_in
    home f there is = one_home run (folder_at c at) f h is (homes_there run (folder_at c at) ((mailbox_in c).folders at) h (there_shown c at (c.there at) there) are)

    refused_as : (z : View) (j : Hand) (left : List ℕ) (r : Refusal) → left ≡ work.text → work ≡ refused_at (mailbox_in z.contents) (fault.Refused r) → WorkEnds work z j left (Err (fault.Refused r))
    refused_as z j left r same w = (same ∙ ap (λ x. x.text) w, ap (λ x. x.end) w, sym (ap (λ x. x.mailbox) w))

    pub not_begun : (z : View) (j : Hand) (left : List ℕ) (e : PlanFault) → left ≡ work.text → BeginErrs true ns run few path folder c z e → WorkEnds work z j left (Err (of_plan folder e))
    not_begun z j left plan.Faulted same f = f
    not_begun z j left (plan.Locked q) same f = f refl
    not_begun z j left (plan.Meddled q x) same f = f refl
    not_begun z j left plan.Full same f = absurd f
    not_begun z j left (plan.Absent q) same f =
        let g = f refl in
        refused_as z j left (refusal.NoFolder folder) same ((absent_work run few path folder ns c entries entries_are short clean h next g.0 ∙ ap (λ m. refused_at m (fault.Refused (refusal.NoFolder folder))) (sym (ap mailbox_in g.1))))
    not_begun z j left (plan.TooLarge l) same f =
        let b = f refl in
        let is = home (homes_in run few path folder ns c entries entries_are short clean b.settled) b.there (homes_are run few path folder ns c entries entries_are short clean b.settled b.there b.listing b.holds b.ends_so b.homes_so) in
        refused_as z j left (refusal.TooLarge l LIMIT_BYTES) same
        (subst (λ x. begun_work path folder entries x (mailbox_in c) next ≡ refused_at (mailbox_in z.contents) (too_large l)) is
        (long_work run few path folder ns c entries entries_are short clean b.settled b.there b.listing b.holds b.ends_so b.homes_so next l z.contents b.long))
    not_begun z j left plan.Memory same f = tt

    -- the folder was begun, and the work goes on
    pub begun_gives_on : (z : View) (j : Hand) (left : List ℕ) (o : Opened) → left ≡ work.text → IsBegunIn true ns run few path folder c z j [] o
        → Gives (by_view true) z j left (bind (act o) (ended at)) (WorkEnds work)
    begun_gives_on z j left o same b =
        subst (λ t. Gives (by_view true) z j t (bind (act o) (ended at)) (WorkEnds work)) (sym same)
        (subst (λ w. Gives (by_view true) z j w.text (bind (act o) (ended at)) (WorkEnds w)) (sym w_is)
        (gives_bind (by_view true) z j (next o.listing o.sequences g.1.kept).text (act o) (ended at) (WorkEnds (next o.listing o.sequences g.1.kept)) (WorkEnds (next o.listing o.sequences g.1.kept))
        (acts o z j (record { place = g.1.place; name = g.1.name; valid = g.1.valid; runs = g.1.runs; kept = g.1.kept; contents = g.1.contents; later = g.1.later; is = g.1.is; holds = g.1.holds; stands = g.1.stands }))
        (λ y i rest r e. ended_gives (next o.listing o.sequences g.1.kept) at y i rest r e)))
      where
        g : AreHomes run (folder_at c at) (homes_in run few path folder ns c entries entries_are short clean b.settled) × IsBegunAs run few path folder ns c entries entries_are short clean (homes_in run few path folder ns c entries entries_are short clean b.settled) next o z j
        g = begun_as run few path folder ns c entries entries_are short clean z j [] o b next

        w_is : work ≡ next o.listing o.sequences g.1.kept
        w_is = (ap (λ x. begun_work path folder entries x (mailbox_in c) next) (sym (home (homes_in run few path folder ns c entries entries_are short clean b.settled) (b.there refl) g.0)) ∙ g.1.work)

    pub changes_give : Gives (by_view true) v hand work.text (lifted (of_plan folder) (begun run at (Mail path) folder) >>= (λ o. bind (act o) (ended at))) (WorkEnds work)
    changes_give =
        gives_on (by_view true) v hand work.text (lifted (of_plan folder) (begun run at (Mail path) folder)) (λ o. bind (act o) (ended at)) Begun (WorkEnds work)
        (lifted_gives v hand work.text (of_plan folder) (begun run at (Mail path) folder) (BeginEnds true ns run few path folder c) (begun_gives true ns run few path folder c v hand [] untouched))
        (λ z j left o g. good z j left o g.0 g.1.0 g.1.1 g.1.2)
        (λ z j left e g. bad z j left e g.0 g.1.0 g.1.1 g.1.2)
      where
        good : (z : View) (j : Hand) (left : List ℕ) (o : Opened) → left ≡ work.text → (q : Result Opened PlanFault) → Ok o ≡ converted (of_plan folder) q → BeginEnds true ns run few path folder c z j [] q
            → Gives (by_view true) z j left (bind (act o) (ended at)) (WorkEnds work)
        good z j left o same (Ok u) r e = let is : u ≡ o = cc (r) in begun_gives_on z j left o same (subst (λ x. IsBegunIn true ns run few path folder c z j [] x) is e)
        good z j left o same (Err x) r e = absurd (cc (r))

        bad : (z : View) (j : Hand) (left : List ℕ) (e : CommandFault) → left ≡ work.text → (q : Result Opened PlanFault) → Err e ≡ converted (of_plan folder) q → BeginEnds true ns run few path folder c z j [] q
            → WorkEnds work z j left (Err e)
        bad z j left e same (Ok u) r f = absurd (cc (r))
        bad z j left e same (Err x) r f = let is : e ≡ of_plan folder x = cc (r) in subst (λ q. WorkEnds work z j left (Err q)) (sym is) (not_begun z j left x same f)
