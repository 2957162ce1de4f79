-- What a command gives, alone and beside others: what it comes to on the mailbox that it finds.
use Rattle.std.proofs.Common.{◌≡◌, ◌⊎◌, inl, inr, ◌<◌, ◌^◌, ℕ, Bool, true, false, List, [], ◌∷◌, Option, Some, None, Result, Ok, Err, length, refl, sym, ◌∙◌, ap, subst, arith}
use Rattle.std.specs.Prelude.{nat_lt, map, if◌then◌else◌}
use Rattle.std.specs.Str.{chars}
use Rattle.mh_base.specs.Entries.{entry_text}
use Rattle.mh_base.specs.Folders.{is_folder_name}
use Rattle.mh_base.specs.declared.entry.Entry.TheVariants.{Sequences}
use Rattle.mh_profile.specs.Reading.{entries_in, entries_seen}
use Rattle.mh_profile.specs.declared.named_value.NamedValue.{NamedValue}
use Rattle.mh_sequences.proofs.Suffixes.{suffix_clean}
use Rattle.folder_files.specs.declared.place.FilePath.{FilePath}
use Rattle.folder_files.specs.declared.place.Place.{Place}
use Rattle.folder_files.specs.declared.place.Place.TheVariants.{Home, Mail, Folder}
use Rattle.folder_files.specs.declared.refusal.Refusal.{Refusal}
use Rattle.folder_files.specs.declared.refusal.Refusal.TheVariants as refusal
use Rattle.file_plans.specs.Contents.{Contents, filled, mailbox_in, with_folder}
use Rattle.file_plans.specs.Giving.{Gives}
use Rattle.file_plans.specs.Mailboxes.{Mailbox}
use Rattle.file_plans.specs.Plan.{Hand, Return, Recall, after, ◌>>=◌, converted, lifted, fresh}
use Rattle.file_plans.specs.Views.{Hidden, Unseen, View, nothing_seen, by_view}
use Rattle.file_plans.proofs.Giving.{gives_bind, gives_then, gives_on}
use Rattle.file_plans.proofs.Onward.{IsShort}
use Rattle.step_plans.specs.ContextCommit.{LIMIT_BYTES, context_name}
use Rattle.step_plans.specs.Hands.{knowing}
use Rattle.step_plans.specs.declared.command_fault.CommandFault.{CommandFault}
use Rattle.step_plans.specs.declared.command_fault.CommandFault.TheVariants as fault
use Rattle.step_plans.proofs.Committed.{entries_at}
use Rattle.step_plans.proofs.Refusals.{IsRefusal}
use Rattle.command_stages.specs.Texts.{Commanded, too_large, text_read}
use Rattle.command_stages.specs.Works.{Work, refused_at, readable}
use Rattle.mh_looks.specs.Outcomes.{scan_work}
use Rattle.mh_looks.specs.Scan.{scan}
use Rattle.mh_looks.proofs.Folders.{IsFresh}
use Rattle.mh_looks.proofs.Reading.{after_read, TextRead, text_gives}
use Rattle.mh_looks.proofs.Scanning.{IsLate, Decides, ScanEnds, scan_gives}
use Rattle.opening_plans.specs.BegunWork.{AreHomesAt}
use Rattle.opening_plans.specs.HomesOf.{homes_at}
use Rattle.opening_plans.specs.Making.{IsBare}
use Rattle.opening_plans.proofs.FolderGiven.{IsUntouched}
use Rattle.opening_plans.proofs.HomesFound.{homes_there}
use Rattle.inc_plans.specs.Inc.{inc}
use Rattle.inc_plans.specs.IncOutcome.{inc_work}
use Rattle.inc_plans.proofs.IncGiven.{inc_gives}
use Rattle.mark_command.specs.Mark.{mark}
use Rattle.opening_plans.proofs.WorkGiven.{WorkEnds}
use Rattle.mark_command.proofs.MarkAlone.{mark_gives}
use Rattle.pick_plans.specs.Pick.{pick}
use Rattle.pick_plans.proofs.PickGiven.{pick_gives}
use Rattle.folder_command.specs.Folder.{folder as tell}
use Rattle.folder_command.proofs.FolderAlone.{folder_gives}
use Rattle.pack_plans.specs.Pack.{pack}
use Rattle.pack_plans.proofs.PackGiven.{pack_gives}
use Rattle.refile_plans.specs.Refile.{refile}
use Rattle.refile_plans.specs.RefileOutcome.{homes_of_all}
use Rattle.refile_plans.specs.Rmm.{rmm}
use Rattle.refile_plans.proofs.AllHomesFound.{all_homes_found}
use Rattle.refile_plans.proofs.RefileGiven.{refile_gives}
use Rattle.refile_plans.proofs.RmmGiven.{rmm_gives}
use Rattle.command_words.specs.Ended.{plain}
use Rattle.look_words.specs.IncWords.{inc_said}
use Rattle.folder_words.specs.MarkWords.{mark_said}
use Rattle.folder_words.specs.RefileWords.{refile_said}
use Rattle.folder_words.specs.RmmWords.{rmm_said}
use Rattle.look_words.specs.ScanWords.{scan_said}
use Rattle.folder_words.specs.TellWords.{tell_said}
use Rattle.command_words.specs.declared.ended.Ended.{Ended}
use Rattle.folder_words.specs.declared.folder.FolderWords.{FolderWords}
use Rattle.sort_words.specs.SortWords.{sort_said}
use Rattle.command_plans.specs.Looking.{ScanAsked, look_found, scan_asked}
use Rattle.command_words.proofs.SaidFolder.{IsValid}
use Rattle.anno_plans.specs.Anno.{anno}
use Rattle.sortm_plans.specs.Sort.{sortm}
use Rattle.anno_plans.proofs.AnnoGiven.{anno_gives}
use Rattle.sortm_plans.proofs.SortGiven.{sortm_gives}
use Rattle.anno_words.proofs.Said.{anno_refuses, anno_valid}
use Rattle.sort_words.proofs.Said.{sort_refuses, sort_valid}
use Rattle.mhlist_plans.specs.Listing.{mhlist}
use Rattle.mhlist_plans.proofs.ListGiven.{list_works}
use Rattle.list_words.specs.ListWords.{list_said}
use Rattle.list_words.proofs.Said.{list_refuses, list_valid}
use Rattle.mhstore_plans.specs.ClearWork.{HasClearWork}
use Rattle.mhstore_plans.specs.Storing.{mhstore}
use Rattle.mhstore_plans.proofs.WholeGiven.{store_gives}
use Rattle.build_words.specs.BuildWords.{build_said}
use Rattle.build_words.specs.declared.words.BuildWords.{BuildWords}
use Rattle.build_words.proofs.Said.{IsDraft, build_refuses, build_valid}
use Rattle.mhbuild_plans.specs.Heard.{Heard}
use Rattle.mhbuild_plans.proofs.HeardBuild.{mhbuild_given}
use Rattle.mhbuild_plans.proofs.HeardGiven.{given_gives}
use Rattle.store_words.specs.StoreWords.{store_said}
use Rattle.store_words.proofs.Said.{store_refuses, store_valid}
use Rattle.command_plans.specs.Command.{anno_begun, anno_job, annotated_by, build_job, by_words, context_entered, context_seen, folder_begun, folder_found, inc_begun, job_of, list_begun, list_job, mark_begun, mark_job, pack_begun, pack_job, pick_begun, pick_job, picked_by, refile_begun, refile_job, rmm_begun, rmm_job, scan_begun, sort_begun, sort_job, store_begun, store_job, task_begun, tell_begun, tell_job}
use Rattle.command_plans.specs.CommandNames.{begins_folders, command_of, makes_folders, named, stores_files}
use Rattle.command_plans.specs.Incorporating.{IncAsked, job_by, job_writing}
use Rattle.command_outcomes.specs.Outcomes.{Meeting, homes_in, words_work, annos, FolderWork, incs, plainly, of_stage, in_folder, with_context, scans, on_folder, marks, picks, refiles, rmms, word_work, named_work, with_profile, work_by, work_of, alone_meeting, builds, packs, tasks, tells, lists, sorts, stores}
use Rattle.command_plans.specs.Profile.{folder_of, path_of, profile_name}
use Rattle.command_plans.specs.declared.name.CommandName.{CommandName}
use Rattle.command_plans.specs.declared.name.CommandName.TheVariants.{Anno, Folder as FolderCommand, Inc, Mark, Mhbuild, Mhlist, Mhstore, Pick, Refile, Rmm, Scan, Sortm}
use Rattle.command_plans.specs.declared.caller.Caller.{Caller}
use Rattle.command_plans.proofs.Refusals.{folder_refuses, job_refuses, mark_refuses, refile_refuses, rmm_refuses, asked_refuses, tell_refuses}
use Rattle.command_outcomes.proofs.HeardCommand.{build_given, command_given, given_by, word_given}
use Rattle.command_outcomes.proofs.LookGives.{fresh_alike, look_gives}
use Rattle.command_plans.proofs.SaidInc.{job_valid}
use Rattle.command_plans.proofs.SaidFolder.{acted_valid, mark_valid, refile_words_valid, rmm_words_valid, tell_words_valid}
use Rattle.command_plans.proofs.SaidPick.{pick_refuses, pick_valid}
use Rattle.opening_plans.specs.MadeFolder.{with_folder_made}
use Rattle.opening_plans.proofs.FolderMade.{shows_folder_made}

-- an end that the last commit alone decides
abbrev pub IsLateEnd : Result Unit Ended → Type 0
IsLateEnd r = (r ≡ Ok tt) ⊎ ((l : ℕ) × (r ≡ Err (plain (too_large l))))

-- the end is that of the work, and alone so is the mailbox; beside others the context may have changed under the commit
abbrev pub DecidesEnd : Bool → Work Ended → View → Result Unit Ended → Type 0
DecidesEnd alone w z r = ((w.end ≡ r) × (alone ≡ true → mailbox_in z.contents ≡ w.mailbox)) ⊎ ((alone ≡ false) × (IsLateEnd w.end × IsLateEnd r))

abbrev pub ByFault : Bool → Work Ended → View → List ℕ → Ended → CommandFault → Type 0
ByFault alone w z left e (fault.Refused r) = (left ≡ []) × DecidesEnd alone w z (Err e)
ByFault alone w z left e (fault.Faulted which) = ⊥
ByFault alone w z left e (fault.Locked q) = alone ≡ true → ⊥
ByFault alone w z left e (fault.Meddled q x) = alone ≡ true → ⊥
ByFault alone w z left e fault.Memory = Unit {0}

abbrev pub CommandEnds : Bool → Work Ended → View → Hand → List ℕ → Result Unit Ended → Type 0
CommandEnds alone w z j left (Ok u) = (left ≡ []) × DecidesEnd alone w z (Ok tt)
CommandEnds alone w z j left (Err e) = ByFault alone w z left e e.fault

-- the stage's end is the command's
late_end : (r : Result Unit CommandFault) → IsLate r → IsLateEnd (plainly r)
late_end r (inl is) = inl (ap plainly is)
late_end r (inr is) = inr (is.0, ap plainly is.1)

decided : (alone : Bool) (w : Work CommandFault) (z : View) (r : Result Unit CommandFault) → Decides alone w z r → DecidesEnd alone (of_stage w) z (plainly r)
decided alone w z r (inl is) = inl (ap plainly is.0, is.1)
decided alone w z r (inr late) = inr (late.0, (late_end w.end late.1.0, late_end r late.1.1))

stage_ends : (alone : Bool) (w : Work CommandFault) (z : View) (j : Hand) (left : List ℕ) (r : Result Unit CommandFault) → ScanEnds alone w z j left r → CommandEnds alone (of_stage w) z j left (converted plain r)
stage_ends alone w z j left (Ok tt) e = (e.0, decided alone w z (Ok tt) e.1)
stage_ends alone w z j left (Err (fault.Refused r)) e = (e.0, decided alone w z (Err (fault.Refused r)) e.1)
stage_ends alone w z j left (Err (fault.Faulted which)) e = e
stage_ends alone w z j left (Err (fault.Locked q)) e = e
stage_ends alone w z j left (Err (fault.Meddled q x)) e = e
stage_ends alone w z j left (Err fault.Memory) e = tt

-- so is that of a stage that runs alone
mark_ends : (w : Work CommandFault) (z : View) (j : Hand) (left : List ℕ) (r : Result Unit CommandFault) → WorkEnds w z j left r → CommandEnds true (of_stage w) z j left (converted plain r)
mark_ends w z j left (Ok tt) e = (e.0, inl (ap plainly e.1, λ a. e.2))
mark_ends w z j left (Err (fault.Refused r)) e = (e.0, inl (ap plainly e.1, λ a. e.2))
mark_ends w z j left (Err (fault.Faulted which)) e = e
mark_ends w z j left (Err (fault.Locked q)) e = absurd e
mark_ends w z j left (Err (fault.Meddled q x)) e = absurd e
mark_ends w z j left (Err fault.Memory) e = tt

-- a refusal that the work has too, where the contents are as they were
stage_refused : (alone : Bool) (c : Contents) (e : CommandFault) (r : Refusal) (z : View) (j : Hand) (left : List ℕ) → e ≡ fault.Refused r → left ≡ [] → z.contents ≡ c → ScanEnds alone (refused_at (mailbox_in c) e) z j left (Err e)
stage_refused alone c e r z j left is none same = subst (λ f. ScanEnds alone (refused_at (mailbox_in c) f) z j left (Err f)) (sym is) (none, inl (refl, λ a. ap mailbox_in same))

-- and alone
mark_refused : (c : Contents) (e : CommandFault) (r : Refusal) (z : View) (j : Hand) (left : List ℕ) → e ≡ fault.Refused r → left ≡ [] → z.contents ≡ c → WorkEnds (refused_at (mailbox_in c) e) z j left (Err e)
mark_refused c e r z j left is none same = subst (λ f. WorkEnds (refused_at (mailbox_in c) f) z j left (Err f)) (sym is) (none, refl, ap mailbox_in same)

plain_refused : (alone : Bool) (c : Contents) (e : Ended) (r : Refusal) (z : View) (j : Hand) (left : List ℕ) → e.fault ≡ fault.Refused r → left ≡ [] → z.contents ≡ c → CommandEnds alone (refused_at (mailbox_in c) e) z j left (Err e)
plain_refused alone c e r z j left is none same = subst (λ f. ByFault alone (refused_at (mailbox_in c) e) z left e f) (sym is) (none, inl (refl, λ a. ap mailbox_in same))

-- a text that is too long
unreadable : (o : Option (List ℕ)) (e : CommandFault) → readable o ≡ Err e → (l : ℕ) × (e ≡ too_large l)
unreadable None e is = cc
unreadable (Some text) e is = go (nat_lt LIMIT_BYTES (length text)) is
  where
    go : (b : Bool) → (if b then Err (too_large (length text)) else Ok text) ≡ Err e → (l : ℕ) × (e ≡ too_large l)
    go true is = (length text, cc (is))
    go false is = cc

read_short : (o : Option (List ℕ)) (text : List ℕ) → readable o ≡ Ok text → IsShort LIMIT_BYTES o × (text ≡ filled o)
read_short None text is = (tt, cc (is))
read_short (Some other) text is = go (nat_lt LIMIT_BYTES (length other)) refl is
  where
    go : (b : Bool) → nat_lt LIMIT_BYTES (length other) ≡ b → (if b then Err (too_large (length other)) else Ok other) ≡ Ok text → (nat_lt LIMIT_BYTES (length other) ≡ false) × (text ≡ other)
    go true short is = cc
    go false short is = (short, let same : other ≡ text = cc in sym same)

-- of the mail directories' contexts, of folders and of outside files nothing was seen yet
pub record IsBegun (v : View) : Type 0 where
  pub context : (path : List ℕ) → v.seen.names (Mail path) context_name ≡ Unseen
  pub fresh : (path name : List ℕ) → IsFresh v (Folder path name)
  pub names : (path name x : List ℕ) → v.seen.names (Folder path name) x ≡ Unseen
  pub files : (f : FilePath) → v.seen.files f ≡ Hidden

-- nothing was seen yet, and no Link meets a name
pub record IsFirst (v : View) : Type 0 where
  pub seen : v.seen ≡ nothing_seen
  pub unmet : (p : Place) (x : List ℕ) → v.met p x ≡ false

begun_first : (v : View) → IsFirst v → IsBegun (after_read v Home profile_name)
begun_first v f =
    record {
      context = λ path. ap (λ s. s.names (Mail path) context_name) f.seen;
      fresh = λ path name. record { place = ap (λ s. s.places (Folder path name)) f.seen; names = λ x standing. ap (λ s. s.names (Folder path name) x) f.seen; unmet = λ x. f.unmet (Folder path name) x };
      names = λ path name x. ap (λ s. s.names (Folder path name) x) f.seen;
      files = λ path. ap (λ s. s.files path) f.seen;
    }

fresh_after : (v : View) (path name : List ℕ) → IsBegun v → IsFresh (after_read v (Mail path) context_name) (Folder path name)
fresh_after v path name b = let f = b.fresh path name in record { place = f.place; names = λ x standing. f.names x standing; unmet = f.unmet }

-- where what other runs hold aside in the folders goes
abbrev pub AreAllHomes : ℕ → Contents → Type 0
AreAllHomes run c = (p : Place) → AreHomesAt run ((mailbox_in c).folders p) (homes_at run ((mailbox_in c).folders p))

-- how the end of a part of the work fits what the work comes to
abbrev Ends : Type 0 → Type 1
Ends B = Work CommandFault → View → Hand → List ℕ → Result B CommandFault → Type 0

-- it does where the work is refused, and the contents are as they were
abbrev RefusedEnds : {B : Type 0} → Contents → Ends B → Type 0
RefusedEnds c Q = (e : CommandFault) (r : Refusal) (z : View) (j : Hand) (left : List ℕ) → e ≡ fault.Refused r → left ≡ [] → z.contents ≡ c → Q (refused_at (mailbox_in c) e) z j left (Err e)

-- the context is read, and the work goes on by it
module _ (alone : Bool) (c : Contents) (path : List ℕ) (v : View) (h : Hand) (same : v.contents ≡ c) (begun : alone ≡ false → IsBegun v) where
  abbrev mail : Place
  mail = Mail path

  abbrev old_context : Option (List ℕ)
  old_context = c.texts mail context_name

  abbrev seen_view : View
  seen_view = after_read v mail context_name

  -- the run knows the entries, or the context is too long
  abbrev Entered : List ℕ → View → Hand → List ℕ → Result Unit CommandFault → Type 0
  Entered out z j left (Ok u) = (text : List ℕ) × (readable old_context ≡ Ok text) × (z ≡ seen_view) × (j ≡ knowing (entries_in text) h) × (left ≡ out)
  Entered out z j left (Err e) = (readable old_context ≡ Err e) × (z.contents ≡ c) × (left ≡ out)

  text_there : readable (v.contents.texts mail context_name) ≡ readable old_context
  text_there = ap (λ d. readable (d.texts mail context_name)) same

  enter_gives : (out : List ℕ) → Gives (by_view alone) v h out (context_entered mail) (Entered out)
  unfolding context_entered context_seen Gives
  enter_gives out =
      gives_on (by_view alone) v h out (text_read mail context_name) (λ text. context_seen (entries_in text)) (TextRead v mail context_name h out) (Entered out)
      (text_gives alone v mail context_name h out (λ beside. (begun beside).context path))
      (λ z j left text r. (text, sym text_there ∙ sym r.value, r.view, ap (knowing (entries_in text)) r.hand, r.rest))
      (λ z j left e r. (sym text_there ∙ sym r.value, ap (λ y. y.contents) r.view ∙ same, r.rest))

  module _ {B : Type 0} (works : Result (List ℕ) CommandFault → Work CommandFault) (refuses : (e : CommandFault) → works (Err e) ≡ refused_at (mailbox_in c) e) (Q : Ends B) (refused : RefusedEnds c Q) (act : Commanded B)
      (acts : (text : List ℕ) → readable old_context ≡ Ok text → Gives (by_view alone) seen_view (knowing (entries_in text) h) (works (Ok text)).text act (Q (works (Ok text)))) where
    abbrev whole : Work CommandFault
    whole = works (readable ((mailbox_in c).context mail))

    pub entered_gives : Gives (by_view alone) v h whole.text (context_entered mail >>= (λ entered. act)) (Q whole)
    unfolding mailbox_in
    entered_gives =
        gives_on (by_view alone) v h whole.text (context_entered mail) (λ entered. act) (Entered whole.text) (Q whole) (enter_gives whole.text) (λ z j left u r. on z j left r.0 r.1 r.2 r.3 r.4) (λ z j left e r. off z j left e r.0 r.1 r.2)
      where
        on : (z : View) (j : Hand) (left text : List ℕ) → readable old_context ≡ Ok text → z ≡ seen_view → j ≡ knowing (entries_in text) h → left ≡ whole.text → Gives (by_view alone) z j left act (Q whole)
        on z j left text reads view hand rest =
            rw (view, hand, rest) (subst (λ x. Gives (by_view alone) seen_view (knowing (entries_in text) h) x.text act (Q x)) (sym (ap works reads)) (acts text reads))

        off : (z : View) (j : Hand) (left : List ℕ) (e : CommandFault) → readable old_context ≡ Err e → z.contents ≡ c → left ≡ whole.text → Q whole z j left (Err e)
        off z j left e reads is rest =
            let w = ap works reads ∙ refuses e in
            let l = unreadable old_context e reads in
            subst (λ x. Q x z j left (Err e)) (sym w) (refused e (refusal.TooLarge l.0 LIMIT_BYTES) z j left l.1 (rest ∙ ap (λ x. x.text) w) is)

-- the folder that is acted on is named, and the work on it goes on
module _ (alone : Bool) (c : Contents) (profile : List NamedValue) (said : Option (List ℕ)) (v : View) (h : Hand) (same : v.contents ≡ c) (begun : alone ≡ false → IsBegun v) (work : FolderWork) (Q : Ends Unit) (refused : RefusedEnds c Q)
    (act : List ℕ → Commanded Unit)
    (acts : (text folder : List ℕ) → readable (c.texts (Mail (path_of profile)) context_name) ≡ Ok text → folder_of said (entries_in text) profile ≡ Ok folder
    → Gives (by_view alone) (after_read v (Mail (path_of profile)) context_name) (knowing (entries_in text) h) (work (entries_in text) folder).text (act folder) (Q (work (entries_in text) folder))) where
  abbrev on_it : Work CommandFault
  on_it = on_folder (mailbox_in c) profile said work

  abbrev by_value : List ℕ → Result (List ℕ) CommandFault → Work CommandFault
  by_value text value = in_folder (mailbox_in c) (entries_in text) work value

  -- what follows the folder's name fits the work
  abbrev Follows : Ends (List ℕ)
  Follows w z j left value = Gives (by_view alone) z j left (after act value) (Q w)

  value_gives : (text : List ℕ) → readable (c.texts (Mail (path_of profile)) context_name) ≡ Ok text → (value : Result (List ℕ) CommandFault) → folder_of said (entries_in text) profile ≡ value
      → Follows (by_value text value) (after_read v (Mail (path_of profile)) context_name) (knowing (entries_in text) h) (by_value text value).text value
  unfolding Gives
  value_gives text reads (Ok folder) is = acts text folder reads is
  value_gives text reads (Err e) is = let r = folder_refuses said (entries_in text) profile e is in refused e r.0 (after_read v (Mail (path_of profile)) context_name) (knowing (entries_in text) h) [] r.1 refl same

  pub folder_gives_work : Gives (by_view alone) v h on_it.text (folder_found profile said >>= act) (Q on_it)
  unfolding folder_found Gives ◌>>=◌
  folder_gives_work =
      gives_bind (by_view alone) v h on_it.text (folder_found profile said) (after act) (Follows on_it) (Q on_it)
      (entered_gives alone c (path_of profile) v h same begun (with_context (mailbox_in c) profile said work) (λ e. refl) Follows (λ e r z j left is none at. refused e r z j left is none at)
      (Recall (λ i. Return (folder_of said (entries_seen i.context) profile))) (λ text reads. value_gives text reads (folder_of said (entries_in text) profile) refl))
      (λ z j left value f. f)

module _ (alone : Bool) (run : ℕ) (c : Contents) (few : run < 2 ^ 128) (homes : alone ≡ true → AreAllHomes run c) where
  abbrev box : Mailbox
  box = mailbox_in c

  abbrev met : Meeting
  met = alone_meeting run

  -- once the profile was read
  module _ (profile : List NamedValue) (z : View) (same : z.contents ≡ c) (unmet : (p : Place) (x : List ℕ) → z.met p x ≡ false) (begun : IsBegun z) where
    abbrev path : List ℕ
    path = path_of profile

    abbrev at : List ℕ → Place
    at folder = Folder path folder

    -- and then the context
    abbrev seen : View
    seen = after_read z (Mail path) context_name

    abbrev known : List ℕ → Hand
    known text = knowing (entries_in text) fresh

    -- the plan gives what the words come to
    abbrev GivesWords : {W : Type 0} → Bool → (W → Commanded Unit) → (W → Work CommandFault) → Result W Ended → Type 0
    GivesWords b starts works value = Gives (by_view b) z fresh (words_work box works value).text (by_words starts value) (CommandEnds b (words_work box works value))

    words_give : {W : Type 0} (b : Bool) (Q : Ends Unit) (ends : (w : Work CommandFault) (y : View) (j : Hand) (left : List ℕ) (r : Result Unit CommandFault) → Q w y j left r → CommandEnds b (of_stage w) y j left (converted plain r))
        → (starts : W → Commanded Unit) (works : W → Work CommandFault) (value : Result W Ended)
        → ((words : W) → value ≡ Ok words → Gives (by_view b) z fresh (works words).text (starts words) (Q (works words))) → ((e : Ended) → value ≡ Err e → IsRefusal e.fault) → GivesWords b starts works value
    unfolding Gives lifted
    words_give b Q ends starts works (Ok words) gives refuses =
        gives_bind (by_view b) z fresh (works words).text (starts words) (λ r. Return (converted plain r)) (Q (works words)) (CommandEnds b (of_stage (works words))) (gives words refl) (λ y j left r e. ends (works words) y j left r e)
    words_give b Q ends starts works (Err e) gives refuses = let is = refuses e refl in plain_refused b c e is.0 z fresh [] is.1 refl same

    -- so those of a command that runs alone
    alone_give : {W : Type 0} → alone ≡ true → (starts : W → Commanded Unit) (works : W → Work CommandFault) (value : Result W Ended)
        → ((words : W) → value ≡ Ok words → Gives (by_view true) z fresh (works words).text (starts words) (WorkEnds (works words))) → ((e : Ended) → value ≡ Err e → IsRefusal e.fault) → GivesWords alone starts works value
    alone_give only starts works value gives refuses = subst (λ b. GivesWords b starts works value) (sym only) (words_give true WorkEnds mark_ends starts works value gives refuses)

    -- the context has this text, by which this is the folder that is acted on
    record IsOn (text folder : List ℕ) : Type 0 where
      entries : entries_in text ≡ entries_at c (Mail path)
      short : IsShort LIMIT_BYTES (c.texts (Mail path) context_name)
      named : is_folder_name folder ≡ true
      untouched : IsUntouched z.numbers (at folder) c (known text) seen (known text)

    -- a plan that begins by naming the folder gives the work on it
    on_folder_gives : (work : FolderWork) (said : Option (List ℕ)) → IsValid said → (act : List ℕ → Commanded Unit)
        → ((text folder : List ℕ) → IsOn text folder → Gives (by_view true) seen (known text) (work (entries_in text) folder).text (act folder) (WorkEnds (work (entries_in text) folder)))
        → Gives (by_view true) z fresh (on_folder box profile said work).text (folder_found profile said >>= act) (WorkEnds (on_folder box profile said work))
    on_folder_gives work said valid act acts =
        folder_gives_work true c profile said z fresh same (λ beside. begun) work WorkEnds (mark_refused c) act (λ text folder reads named.
        let short = read_short (c.texts (Mail path) context_name) text reads in
        acts text folder (record {
          entries = ap entries_in short.1;
          short = short.0;
          named = acted_valid said (entries_in text) profile folder valid named;
          untouched = record { has = (same, refl); fresh = λ x. begun.names path folder x; unmet = λ x is_held. unmet (at folder) x; hand = refl };
        }))

    -- and so the words of a command on a folder
    folder_words_give : {W : Type 0} → alone ≡ true → (works : W → FolderWork) (said : W → Option (List ℕ)) (act : W → List ℕ → Commanded Unit) (value : Result W Ended)
        → ((words : W) → value ≡ Ok words → IsValid (said words)) → ((e : Ended) → value ≡ Err e → IsRefusal e.fault)
        → ((words : W) (text folder : List ℕ) → IsOn text folder → Gives (by_view true) seen (known text) (works words (entries_in text) folder).text (act words folder) (WorkEnds (works words (entries_in text) folder)))
        → GivesWords alone (λ words. folder_found profile (said words) >>= act words) (λ words. on_folder box profile (said words) (works words)) value
    folder_words_give only works said act value valid refuses acts =
        alone_give only (λ words. folder_found profile (said words) >>= act words) (λ words. on_folder box profile (said words) (works words)) value (λ words is. on_folder_gives (works words) (said words) (valid words is) (act words) (acts words)) refuses

    -- `scan`, once the context is read
    scan_gives_work : (said : ScanAsked) → Gives (by_view alone) z fresh (on_folder box profile said.folder (scans box profile said)).text (scan_begun run profile said) (ScanEnds alone (on_folder box profile said.folder (scans box profile said)))
    unfolding scan_begun
    scan_gives_work said =
        folder_gives_work alone c profile said.folder z fresh same (λ beside. begun) (scans box profile said) (ScanEnds alone) (stage_refused alone c) (λ folder. look_found said.telling >>= (λ spoken. scan run path (job_of folder said profile spoken)))
        (λ text folder reads named.
        let short = read_short (c.texts (Mail path) context_name) text reads in
        look_gives alone c seen (known text) same (λ beside file. begun.files file) (λ spoken. scan_work path (entries_in text) (job_of folder said profile spoken) box) (λ spoken. scan run path (job_of folder said profile spoken)) (ScanEnds alone) (stage_refused alone c)
        (λ spoken y alike.
        scan_gives alone run path (job_of folder said profile spoken) c (entries_in text) few (λ a. ap entries_in short.1) (λ a. short.0) y (known text) (alike.contents ∙ same) refl refl
        (λ beside. fresh_alike seen y (at folder) alike (fresh_after z path folder begun))
        (λ beside. ap (λ g. g (at folder) (entry_text Sequences)) alike.names ∙ begun.names path folder (entry_text Sequences))) said.telling)

    -- the commands
    module _ (heard : Heard) (caller : Caller) (word : List ℕ) (words : List (List ℕ)) where
      abbrev GivesNamed : Option CommandName → Type 0
      GivesNamed name = Gives (by_view alone) z fresh (word_work met heard box caller profile word words name).text (word_given heard run caller profile word words name) (CommandEnds alone (word_work met heard box caller profile word words name))

      gives_scan : GivesNamed (Some Scan)
      gives_scan =
          words_give alone (ScanEnds alone) (stage_ends alone) (scan_begun run profile) (λ said. on_folder box profile said.folder (scans box profile said)) (scan_asked caller (scan_said profile (map chars words))) (λ said is. scan_gives_work said)
          (asked_refuses caller profile (map chars words))

      gives_mark : alone ≡ true → GivesNamed (Some Mark)
      unfolding mark_begun
      gives_mark only =
          folder_words_give only (marks met box profile) (λ said. said.folder) (λ said folder. mark run path (mark_job folder said profile)) (mark_said profile (map chars words)) (mark_valid profile (map chars words)) (mark_refuses profile (map chars words))
          (λ said text folder on. mark_gives run path (mark_job folder said profile) few on.named c (entries_in text) on.entries on.short (homes_in met box profile folder) (homes only (at folder)) z.numbers seen (known text) on.untouched same refl refl)

      gives_pick : alone ≡ true → GivesNamed (Some Pick)
      unfolding pick_begun
      gives_pick only =
          folder_words_give only (picks met box profile) (λ said. said.folder) (λ said folder. pick run path (pick_job folder said profile)) (picked_by caller profile (map chars words)) (pick_valid caller.clock.moment caller.clock.offset profile (map chars words))
          (pick_refuses caller.clock.moment caller.clock.offset profile (map chars words))
          (λ said text folder on. pick_gives run few path (pick_job folder said profile) on.named (suffix_clean folder) c (entries_in text) on.entries on.short (homes_in met box profile folder) (homes only (at folder)) z.numbers seen (known text) on.untouched same refl refl)

      gives_refile : alone ≡ true → IsBare c → GivesNamed (Some Refile)
      unfolding refile_begun
      gives_refile only bare =
          folder_words_give only (refiles met box profile) (λ said. said.source) (λ said folder. refile run path (refile_job folder said profile)) (refile_said profile (map chars words)) (λ said is. (refile_words_valid profile (map chars words) said is).0) (refile_refuses profile (map chars words))
          (λ said text folder on. refile_gives run few path (refile_job folder said profile) on.named c bare (entries_in text) on.entries on.short (homes_of_all run path box) (all_homes_found run path c bare) seen same (known text))

      gives_rmm : alone ≡ true → GivesNamed (Some Rmm)
      unfolding rmm_begun
      gives_rmm only =
          folder_words_give only (rmms met box profile) (λ said. said.folder) (λ said folder. rmm run path (rmm_job folder said profile)) (rmm_said profile (map chars words)) (rmm_words_valid profile (map chars words)) (rmm_refuses profile (map chars words))
          (λ said text folder on. rmm_gives run few path (rmm_job folder said profile) on.named (suffix_clean folder) c (entries_in text) on.entries on.short (homes_in met box profile folder) (homes only (at folder)) z.numbers seen (known text) on.untouched)

      -- `folder`, whose messages are numbered anew, or which is told of
      gives_tell : alone ≡ true → GivesNamed (Some FolderCommand)
      unfolding task_begun pack_begun tell_begun
      gives_tell only =
          alone_give only (folder_begun run profile) (λ said. on_folder box profile said.folder (tasks met box profile said said.pack)) (tell_said profile (map chars words)) (λ said is. by_task said (tell_words_valid profile (map chars words) said is) said.pack)
          (tell_refuses profile (map chars words))
        where
          by_task : (said : FolderWords) → IsValid said.folder → (b : Bool) → Gives (by_view true) z fresh (on_folder box profile said.folder (tasks met box profile said b)).text (task_begun run profile said b) (WorkEnds (on_folder box profile said.folder (tasks met box profile said b)))
          by_task said valid true =
              on_folder_gives (packs met box profile) said.folder valid (λ folder. pack run path (pack_job folder))
              (λ text folder on. pack_gives run few path (pack_job folder) on.named (suffix_clean folder) c (entries_in text) on.entries on.short (homes_in met box profile folder) (homes only (at folder)) z.numbers seen (known text) on.untouched)
          by_task said valid false =
              on_folder_gives (tells met box profile said) said.folder valid (λ folder. tell run path (tell_job folder said profile))
              (λ text folder on. folder_gives run path (tell_job folder said profile) few on.named c (entries_in text) on.entries on.short (homes_in met box profile folder) (homes only (at folder)) z.numbers seen (known text) on.untouched same refl refl)

      gives_anno : alone ≡ true → GivesNamed (Some Anno)
      unfolding anno_begun
      gives_anno only =
          folder_words_give only (annos met box profile) (λ said. said.folder) (λ said folder. anno run path (anno_job folder said profile)) (annotated_by caller profile (map chars words)) (anno_valid caller.clock.moment caller.clock.offset profile (map chars words))
          (anno_refuses caller.clock.moment caller.clock.offset profile (map chars words))
          (λ said text folder on. anno_gives run few path (anno_job folder said profile) on.named (suffix_clean folder) c (entries_in text) on.entries on.short (homes_in met box profile folder) (homes only (at folder)) z.numbers seen (known text) on.untouched)

      gives_sort : alone ≡ true → GivesNamed (Some Sortm)
      unfolding sort_begun
      gives_sort only =
          folder_words_give only (sorts met box profile) (λ said. said.folder) (λ said folder. sortm run path (sort_job folder said profile)) (sort_said profile (map chars words)) (sort_valid profile (map chars words)) (sort_refuses profile (map chars words))
          (λ said text folder on. sortm_gives run few path (sort_job folder said profile) on.named (suffix_clean folder) c (entries_in text) on.entries on.short (homes_in met box profile folder) (homes only (at folder)) z.numbers seen (known text) on.untouched)

      gives_list : alone ≡ true → GivesNamed (Some Mhlist)
      unfolding list_begun
      gives_list only =
          folder_words_give only (lists box profile) (λ said. said.folder) (λ said folder. mhlist run path (list_job folder said profile)) (list_said profile (map chars words)) (list_valid profile (map chars words)) (list_refuses profile (map chars words))
          (λ said text folder on. list_works run path (list_job folder said profile) few on.named c (entries_in text) on.entries on.short (homes_in met box profile folder) (homes only (at folder)) z.numbers seen (known text) on.untouched same refl refl)

      gives_store : alone ≡ true → HasClearWork run c → GivesNamed (Some Mhstore)
      unfolding store_begun
      gives_store only clear =
          folder_words_give only (stores box profile) (λ said. said.folder) (λ said folder. mhstore run path (store_job folder said profile)) (store_said profile (map chars words)) (store_valid profile (map chars words)) (store_refuses profile (map chars words))
          (λ said text folder on. store_gives run few path (store_job folder said profile) on.named c (entries_in text) on.entries on.short z.numbers seen (known text) same refl refl clear.there (λ x from below. clear.free x below))

      -- `mhbuild`, where this is heard of the input
      gives_build : alone ≡ true → HasClearWork run c → GivesNamed (Some Mhbuild)
      unfolding build_given Gives
      gives_build only clear =
          alone_give only (build_given heard run profile) (λ said. builds run heard box profile said (readable (box.context (Mail path)))) (build_said profile (map chars words))
          (λ said is. entered_gives true c path z fresh same (λ beside. begun) (builds run heard box profile said) (λ e. refl) WorkEnds (mark_refused c) (Recall (λ i. mhbuild_given heard run path (build_job said (entries_seen i.context) profile)))
          (λ text reads. built said (build_valid profile (map chars words) said is) text))
          (build_refuses profile (map chars words))
        where
          built : (said : BuildWords) → IsDraft said.draft → (text : List ℕ) → Gives (by_view true) seen (known text) (builds run heard box profile said (Ok text)).text (Recall (λ i. mhbuild_given heard run path (build_job said (entries_seen i.context) profile))) (WorkEnds (builds run heard box profile said (Ok text)))
          built said valid text =
              given_gives z.numbers c (known text) run few path (build_job said (entries_in text) profile) (entries_in text) refl valid clear.there (clear.free 0 (omega arith)) heard seen ((λ e. same), refl)

      -- `inc`
      gives_inc : alone ≡ true → IsBare c → GivesNamed (Some Inc)
      unfolding inc_begun
      gives_inc only bare =
          alone_give only (inc_begun run path) (λ asked. incs met box profile asked (readable (box.context (Mail path)))) (job_by caller profile (inc_said profile (map chars words)))
          (λ asked is. entered_gives true c path z fresh same (λ beside. begun) (incs met box profile asked) (λ e. refl) WorkEnds (mark_refused c) (look_found asked.telling >>= (λ spoken. inc run path (job_writing asked spoken)))
          (λ text reads. taken asked (job_valid caller profile (map chars words) asked is) text reads))
          (job_refuses caller profile (map chars words))
        where
          taken : (asked : IncAsked) → is_folder_name asked.folder ≡ true → (text : List ℕ) → readable (c.texts (Mail path) context_name) ≡ Ok text
              → Gives (by_view true) seen (known text) (incs met box profile asked (Ok text)).text (look_found asked.telling >>= (λ spoken. inc run path (job_writing asked spoken))) (WorkEnds (incs met box profile asked (Ok text)))
          taken asked valid text reads =
              let short = read_short (c.texts (Mail path) context_name) text reads in
              let into = at asked.folder in
              let there = homes_in met (with_folder_made box into) profile asked.folder in
              look_gives true c seen (known text) same (λ beside file. begun.files file) (λ spoken. inc_work path (entries_in text) there (job_writing asked spoken) box) (λ spoken. inc run path (job_writing asked spoken)) WorkEnds (mark_refused c)
              (λ spoken y alike.
              inc_gives run few path (job_writing asked spoken) valid (suffix_clean asked.folder) c bare (entries_in text) (ap entries_in short.1) short.0 there
              (subst (λ m. AreHomesAt run ((mailbox_in (with_folder c into)).folders into) (homes_at run (m.folders into))) (shows_folder_made c into (λ q is no. bare q no)) (homes_there run (with_folder c into) into)) y.numbers y (known text)
              (record {
                has = (alike.contents ∙ same, refl);
                fresh = λ x. ap (λ g. g into x) alike.names ∙ begun.names path asked.folder x;
                unmet = λ x is_held. ap (λ g. g into x) alike.met ∙ unmet into x;
                hand = refl;
              })) asked.telling

      by_word : (name : Option CommandName) → (begins_folders name ≡ true → alone ≡ true) → (makes_folders name ≡ true → IsBare c) → (stores_files name ≡ true → HasClearWork run c) → GivesNamed name
      unfolding Gives
      by_word None only bare clear = (refl, inl (refl, λ a. ap mailbox_in same))
      by_word (Some Inc) only bare clear = gives_inc (only refl) (bare refl)
      by_word (Some Scan) only bare clear = gives_scan
      by_word (Some Mark) only bare clear = gives_mark (only refl)
      by_word (Some Pick) only bare clear = gives_pick (only refl)
      by_word (Some Refile) only bare clear = gives_refile (only refl) (bare refl)
      by_word (Some Rmm) only bare clear = gives_rmm (only refl)
      by_word (Some FolderCommand) only bare clear = gives_tell (only refl)
      by_word (Some Anno) only bare clear = gives_anno (only refl)
      by_word (Some Sortm) only bare clear = gives_sort (only refl)
      by_word (Some Mhlist) only bare clear = gives_list (only refl)
      by_word (Some Mhstore) only bare clear = gives_store (only refl) (clear refl)
      by_word (Some Mhbuild) only bare clear = gives_build (only refl) (clear refl)

    by_name : (heard : Heard) (caller : Caller) (words : List (List ℕ)) → (begins_folders (command_of words) ≡ true → alone ≡ true) → (makes_folders (command_of words) ≡ true → IsBare c) → (stores_files (command_of words) ≡ true → HasClearWork run c)
        → Gives (by_view alone) z fresh (named_work met heard box caller profile words).text (given_by heard run caller profile words) (CommandEnds alone (named_work met heard box caller profile words))
    unfolding Gives
    by_name heard caller [] only bare clear = (refl, inl (refl, λ a. ap mailbox_in same))
    by_name heard caller (word ∷ words) only bare clear = by_word heard caller word words (named word) only bare clear

  -- the whole; beside others, of commands that look
  module _ (heard : Heard) (caller : Caller) (words : List (List ℕ)) (only : begins_folders (command_of words) ≡ true → alone ≡ true) (bare : makes_folders (command_of words) ≡ true → IsBare c) (clear : stores_files (command_of words) ≡ true → HasClearWork run c) where
    abbrev pub whole_work : Work Ended
    whole_work = work_of run caller words heard box

    module _ (v : View) (same : v.contents ≡ c) (first : IsFirst v) where
      profile_at : (o : Result (List ℕ) CommandFault) → o ≡ readable (v.contents.texts Home profile_name) → readable (c.texts Home profile_name) ≡ o
      profile_at o is = ap (λ d. readable (d.texts Home profile_name)) (sym same) ∙ sym is

      works_by : (o : Result (List ℕ) CommandFault) → readable (c.texts Home profile_name) ≡ o → whole_work ≡ with_profile (alone_meeting run) heard box caller words o
      unfolding work_by mailbox_in
      works_by o is = ap (with_profile (alone_meeting run) heard box caller words) is

      after_profile : (z : View) (j : Hand) (left : List ℕ) (r : Result (List ℕ) CommandFault) → TextRead v Home profile_name fresh whole_work.text z j left r → Gives (by_view alone) z j left (after (λ text. given_by heard run caller (entries_in text) words) (converted plain r)) (CommandEnds alone whole_work)
      unfolding Gives
      after_profile z j left (Ok text) t =
          let w = works_by (Ok text) (profile_at (Ok text) t.value) in
          rw (t.view, t.hand, t.rest) (subst (λ x. Gives (by_view alone) (after_read v Home profile_name) fresh x.text (given_by heard run caller (entries_in text) words) (CommandEnds alone x)) (sym w)
          (by_name (entries_in text) (after_read v Home profile_name) same (λ p x. first.unmet p x) (begun_first v first) heard caller words only bare clear))
      after_profile z j left (Err e) t =
          let is = profile_at (Err e) t.value in
          let w = works_by (Err e) is in
          let l = unreadable (c.texts Home profile_name) e is in
          subst (λ x. CommandEnds alone x z j left (Err (plain e))) (sym w) (plain_refused alone c (plain e) (refusal.TooLarge l.0 LIMIT_BYTES) z j left l.1 (t.rest ∙ ap (λ x. x.text) w) (ap (λ y. y.contents) t.view ∙ same))

      pub command_gives : Gives (by_view alone) v fresh whole_work.text (command_given heard run caller words) (CommandEnds alone whole_work)
      unfolding command_given
      command_gives =
          gives_then (by_view alone) v fresh whole_work.text plain (text_read Home profile_name) (λ text. given_by heard run caller (entries_in text) words) (TextRead v Home profile_name fresh whole_work.text) (CommandEnds alone whole_work)
          (text_gives alone v Home profile_name fresh whole_work.text (λ beside. ap (λ s. s.names Home profile_name) first.seen)) after_profile
