-- What a command gives alone that lists a folder, reads its sequences, and decides by both and by the context: it goes on with what was decided, and refuses else.
use Rattle.std.proofs.Common.{◌≡◌, ℕ, true, false, List, Some, Result, Ok, Err, refl, sym, ◌∙◌, ap, subst}
use Rattle.mh_base.specs.Entries.{entry_text}
use Rattle.mh_base.specs.declared.entry.Entry.TheVariants.{Sequences}
use Rattle.mh_profile.specs.declared.named_value.NamedValue.{NamedValue}
use Rattle.folder_files.specs.declared.place.Place.{Place}
use Rattle.folder_files.specs.declared.place.Place.TheVariants.{Folder}
use Rattle.folder_files.specs.declared.refusal.Refusal.{Refusal}
use Rattle.folder_files.specs.declared.refusal.Refusal.TheVariants as refusal
use Rattle.folder_files.specs.declared.step.Answer.TheVariants as answer
use Rattle.folder_files.specs.declared.step.Step.TheVariants as step
use Rattle.file_plans.specs.Contents.{Contents, folder_at, mailbox_in}
use Rattle.file_plans.specs.Giving.{Gives}
use Rattle.file_plans.specs.Mailboxes.{Folder as FolderValue}
use Rattle.file_plans.specs.Plan.{Hand, Plan, after, bind, ◌>>=◌}
use Rattle.file_plans.specs.Views.{View, by_view, view_after}
use Rattle.file_plans.proofs.Giving.{gives_on}
use Rattle.file_plans.proofs.Onward.{Is}
use Rattle.step_plans.specs.ContextCommit.{LIMIT_BYTES}
use Rattle.step_plans.specs.declared.command_fault.CommandFault.{CommandFault}
use Rattle.step_plans.specs.declared.command_fault.CommandFault.TheVariants as fault
use Rattle.sequence_commits.specs.RunsOfAll.{runs_of_all}
use Rattle.command_stages.specs.Listed.{folder_listed}
use Rattle.command_stages.specs.Texts.{text_read}
use Rattle.command_stages.specs.Works.{Work, readable, refused_at}
use Rattle.mh_looks.proofs.Folders.{FolderListed, IsAbsent, IsListed, Tells, folder_gives, messages_listed}
use Rattle.mh_looks.proofs.Reading.{TextRead, after_read, text_gives}
use Rattle.mh_looks.proofs.Scanning.{unreadable}
use Rattle.opening_plans.specs.BegunWork.{runs_in}
use Rattle.opening_plans.proofs.WorkGiven.{WorkEnds}
use Rattle.told_folders.specs.Tasks.{listed_runs}
use Rattle.told_folders.proofs.Front.{looks, then_decided, then_read}
use Rattle.mh_profile.specs.Reading.{entries_seen}

-- the runs of a folder's messages are those of its listing
pub same_runs : (c : Contents) (p : Place) (names : List (List ℕ)) → Tells c p names → runs_in (folder_at c p) ≡ listed_runs names
same_runs c p names t = λ i. runs_of_all (λ n. messages_listed c p names t n i)

module _ (path folder : List ℕ) (c : Contents) (entries : List NamedValue) (ns : List ℕ) (hand : Hand) (A : Type 0) (seen : List (List ℕ) → List ℕ → List NamedValue → Result A CommandFault)
    (next : List (List ℕ) → A → Plan (Result Unit CommandFault)) where
  abbrev at : Place
  at = Folder path folder

  abbrev old : FolderValue
  old = folder_at c at

  -- its work: what it comes to by the text that was read, and by what was decided of it
  pub record IsWork (looked : Work CommandFault) (read : Result (List ℕ) CommandFault → Work CommandFault) (decided : List (List ℕ) → Result A CommandFault → Work CommandFault) : Type 0 where
    pub absent : c.there at ≡ false → looked ≡ refused_at (mailbox_in c) (fault.Refused (refusal.NoFolder folder))
    pub there : c.there at ≡ true → looked ≡ read (readable old.sequences)
    pub unread : (e : CommandFault) → read (Err e) ≡ refused_at (mailbox_in c) e
    pub by_text : (names : List (List ℕ)) (text : List ℕ) → runs_in old ≡ listed_runs names → read (Ok text) ≡ decided names (seen names text entries)
    pub stops : (names : List (List ℕ)) (e : CommandFault) → decided names (Err e) ≡ refused_at (mailbox_in c) e
    pub refuses : (names : List (List ℕ)) (text : List ℕ) (e : CommandFault) → seen names text entries ≡ Err e → (r : Refusal) × (e ≡ fault.Refused r)
    pub gives : (names : List (List ℕ)) (text : List ℕ) (a : A) (z : View) → Tells c at names → seen names text entries ≡ Ok a → Is true ns z c → Gives (by_view true) z hand (decided names (Ok a)).text (next names a) (WorkEnds (decided names (Ok a)))

  module _ (v : View) (same : v.contents ≡ c) (nums : v.numbers ≡ ns) (known : hand.context ≡ Some entries) (looked : Work CommandFault) (read : Result (List ℕ) CommandFault → Work CommandFault)
      (decided : List (List ℕ) → Result A CommandFault → Work CommandFault) (is_work : IsWork looked read decided) where
    abbrev Aim : View → Hand → List ℕ → Plan (Result Unit CommandFault) → Type 0
    Aim z j left p = Gives (by_view true) z j left p (WorkEnds looked)

    refused_ends : (w : Work CommandFault) (e : CommandFault) (r : Refusal) (z : View) (j : Hand) (left : List ℕ) → w ≡ refused_at (mailbox_in c) e → e ≡ fault.Refused r → left ≡ w.text → z.contents ≡ c → WorkEnds w z j left (Err e)
    refused_ends w e r z j left is what none stays =
        subst (λ x. WorkEnds w z j left (Err x)) (sym what) (none ∙ ap (λ x. x.text) is, ap (λ x. x.end) is ∙ ap (λ x. Err x) what, ap mailbox_in stays ∙ sym (ap (λ x. x.mailbox) is))

    abbrev chosen_then : List (List ℕ) → List ℕ → Plan (Result Unit CommandFault)
    chosen_then names text = then_decided path folder A seen next names text

    by_value : (names : List (List ℕ)) (text : List ℕ) (value : Result A CommandFault) (z : View) → z.contents ≡ c → z.numbers ≡ ns → Tells c at names → seen names text entries ≡ value
        → Gives (by_view true) z hand (decided names value).text (after (next names) value) (WorkEnds (decided names value))
    unfolding Gives
    by_value names text (Ok a) z is is_ns t so = is_work.gives names text a z t so ((λ e. is), is_ns)
    by_value names text (Err e) z is is_ns t so =
        let r = is_work.refuses names text e so in
        let w = is_work.stops names e in
        refused_ends (decided names (Err e)) e r.0 z hand (decided names (Err e)).text w r.1 refl is

    after_text : (z : View) (names : List (List ℕ)) (text : List ℕ) → z.contents ≡ c → z.numbers ≡ ns → Tells c at names → readable old.sequences ≡ Ok text → Aim z hand looked.text (chosen_then names text)
    unfolding Gives bind ◌>>=◌
    after_text z names text is is_ns t reads =
        let w : looked ≡ decided names (seen names text entries) = is_work.there t.there ∙ (ap read reads ∙ is_work.by_text names text (same_runs c at names t)) in
        subst (λ o. Aim z hand looked.text (after (next names) (seen names text (entries_seen o)))) (sym known)
        (subst (λ x. Gives (by_view true) z hand x.text (after (next names) (seen names text entries)) (WorkEnds x)) (sym w) (by_value names text (seen names text entries) z is is_ns t refl))

    after_names : (z : View) (names : List (List ℕ)) → z.contents ≡ c → z.numbers ≡ ns → Tells c at names → Aim z hand looked.text (then_read path folder A seen next names)
    after_names z names is is_ns t =
        gives_on (by_view true) z hand looked.text (text_read at (entry_text Sequences)) (λ text. chosen_then names text) (TextRead z at (entry_text Sequences) hand looked.text) (WorkEnds looked)
        (text_gives true z at (entry_text Sequences) hand looked.text (λ e. absurd (cc (e))))
        (λ y j left text r. on y j left text r) (λ y j left e r. off y j left e r)
      where
        text_at : z.contents.texts at (entry_text Sequences) ≡ old.sequences
        text_at = ap (λ d. d.texts at (entry_text Sequences)) is

        on : (y : View) (j : Hand) (left text : List ℕ) → TextRead z at (entry_text Sequences) hand looked.text y j left (Ok text) → Aim y j left (chosen_then names text)
        on y j left text r = rw (r.view, r.hand, r.rest) (after_text (after_read z at (entry_text Sequences)) names text is is_ns t (sym (r.value ∙ ap readable text_at)))

        off : (y : View) (j : Hand) (left : List ℕ) (e : CommandFault) → TextRead z at (entry_text Sequences) hand looked.text y j left (Err e) → WorkEnds looked y j left (Err e)
        off y j left e r =
            let unread : Err e ≡ readable old.sequences = r.value ∙ ap readable text_at in
            let what = unreadable old.sequences e unread in
            let w : looked ≡ refused_at (mailbox_in c) e = is_work.there t.there ∙ (ap read (sym unread) ∙ is_work.unread e) in
            refused_ends looked e (refusal.TooLarge what.0 LIMIT_BYTES) y j left w what.1 r.rest (ap (λ x. x.contents) r.view ∙ is)

    pub front_gives : Aim v hand looked.text (looks path folder A seen next)
    front_gives =
        gives_on (by_view true) v hand looked.text (folder_listed at folder) (λ names. then_read path folder A seen next names) (FolderListed v at folder hand looked.text) (WorkEnds looked)
        (folder_gives true v at folder hand looked.text (λ e. absurd (cc (e))))
        (λ z j left names l. on z j left names l) (λ z j left e a. off z j left e a)
      where
        on : (z : View) (j : Hand) (left : List ℕ) (names : List (List ℕ)) → IsListed v at hand looked.text names z j left → Aim z j left (then_read path folder A seen next names)
        on z j left names l = rw (l.view, l.hand, l.rest) (after_names (view_after v (step.List at) (answer.Names names)) names same nums (subst (λ d. Tells d at names) same l.tells))

        off : (z : View) (j : Hand) (left : List ℕ) (e : CommandFault) → IsAbsent v at folder hand looked.text e z j left → WorkEnds looked z j left (Err e)
        off z j left e a =
            let none : c.there at ≡ false = ap (λ d. d.there at) (sym same) ∙ a.none in
            let w : looked ≡ refused_at (mailbox_in c) e = is_work.absent none ∙ ap (refused_at (mailbox_in c)) (sym a.fault) in
            refused_ends looked e (refusal.NoFolder folder) z j left w a.fault a.rest (a.contents ∙ same)
