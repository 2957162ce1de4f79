-- A command that looks links nothing, so no own Link ever met a name.
use Rattle.std.proofs.Common.{◌≡◌, inl, inr, ◌&&◌, ◌||◌, ℕ, false, List, [], ◌∷◌, Some, None, Result, Ok, Err, refl, ◌∙◌, ap, Option}
use Rattle.std.specs.Prelude.{map, not}
use Rattle.std.specs.Str.{chars}
use Rattle.mh_base.specs.Entries.{entry_text}
use Rattle.mh_base.specs.declared.entry.Entry.TheVariants.{Number, Sequences}
use Rattle.mh_profile.specs.Reading.{entries_in, entries_seen}
use Rattle.mh_profile.specs.declared.named_value.NamedValue.{NamedValue}
use Rattle.folder_files.specs.Deeds as deeds
use Rattle.folder_files.specs.Deeds.{did}
use Rattle.folder_files.specs.declared.place.Place.{Place}
use Rattle.folder_files.specs.declared.place.Place.TheVariants.{Home, Mail, Folder}
use Rattle.folder_files.specs.declared.step.Step.{Step}
use Rattle.folder_files.specs.declared.step.Step.TheVariants as step
use Rattle.folder_files.specs.declared.step.Answer.{Answer}
use Rattle.file_plans.specs.Agreeing.{met_by, is_made, is_first_met}
use Rattle.file_plans.specs.Asking.{list, read, read_file, reading_of}
use Rattle.file_plans.specs.Contents.{Contents}
use Rattle.file_plans.specs.Framing.{AsksOnly}
use Rattle.file_plans.specs.Plan.{Hand, Plan, after, Return, Ask, Try, Say, Hear, Recall, Note, bind, ask, lifted, say, ◌>>=◌}
use Rattle.file_plans.specs.Runs.{Exit, Deed, Did, Said, Heard, Runs}
use Rattle.file_plans.specs.Views.{first_view}
use Rattle.file_plans.specs.declared.answers.Listing.{Listing}
use Rattle.file_plans.specs.declared.answers.Listing.TheVariants as listing
use Rattle.file_plans.specs.declared.answers.Reading.{Reading}
use Rattle.file_plans.specs.declared.answers.Reading.TheVariants as reading
use Rattle.file_plans.proofs.Acting.{acts, acts_over}
use Rattle.file_plans.proofs.Framing.{asks_then, asks_none, asks_lifted}
use Rattle.step_plans.specs.CommandFaults.{of_stop}
use Rattle.step_plans.specs.ContextCommit.{LIMIT_BYTES, context_name, commit_context}
use Rattle.step_plans.proofs.Asks.{Commits, asks_commit}
use Rattle.command_stages.specs.Endings.{of_plan}
use Rattle.command_stages.specs.Listed.{names_by, folder_listed}
use Rattle.command_stages.specs.Texts.{text_by, text_read}
use Rattle.command_stages.specs.Current.{current_change, made_current}
use Rattle.format_compiler.specs.Grammar.{Format}
use Rattle.step_plans.specs.declared.command_fault.CommandFault.{CommandFault}
use Rattle.message_lines.specs.Finding.{file_read, format_by}
use Rattle.message_lines.specs.MessageText.{Writing, formed}
use Rattle.mh_looks.specs.Scan.{shown_by, one_shown, all_shown, ordered, chosen_by, lined_by, scan}
use Rattle.mh_looks.specs.ScanJob.{ScanJob}
use Rattle.command_plans.specs.Command.{by_words, command, command_by, context_entered, context_seen, folder_found, job_of, no_command, scan_begun, word_by}
use Rattle.command_plans.specs.CommandNames.{begins_folders, command_of, named}
use Rattle.command_plans.specs.Profile.{folder_of, path_of, profile_name}
use Rattle.command_plans.specs.declared.name.CommandName.{CommandName}
use Rattle.command_plans.specs.declared.name.CommandName.TheVariants.{Scan}
use Rattle.command_plans.specs.declared.caller.Caller.{Caller}
use Rattle.command_words.specs.Ended.{plain}
use Rattle.look_words.specs.ScanWords.{scan_said}
use Rattle.command_words.specs.declared.ended.Ended.{Ended}
use Rattle.command_plans.specs.Looking.{InFile, Known, ScanAsked, Telling, look_found, scan_asked}
use Rattle.command_outcomes.proofs.Giving.{IsFirst}

-- any step but a Link
abbrev pub IsUnlinked : Step → Type 0
IsUnlinked (step.List p) = Unit {0}
IsUnlinked (step.Read p n limit) = Unit {0}
IsUnlinked (step.MakeFolder p) = Unit {0}
IsUnlinked (step.Create p n b) = Unit {0}
IsUnlinked (step.SyncFile p n) = Unit {0}
IsUnlinked (step.SyncFolder p) = Unit {0}
IsUnlinked (step.Link p a b) = ⊥
IsUnlinked (step.Rename p a b) = Unit {0}
IsUnlinked (step.Unlink p a) = Unit {0}
IsUnlinked (step.Lock p) = Unit {0}
IsUnlinked (step.Unlock p) = Unit {0}
IsUnlinked (step.ReadFile f limit) = Unit {0}
IsUnlinked (step.ReadDrop f from most) = Unit {0}
IsUnlinked (step.CutDrop f n) = Unit {0}

abbrev LinksNothing : {A : Type 0} → Plan A → Type 0
LinksNothing p = AsksOnly IsUnlinked p

reads : (p : Place) (n : List ℕ) (limit : ℕ) → LinksNothing (read p n limit)
unfolding AsksOnly read ask bind ◌>>=◌
reads p n limit = (tt, λ a. tt)

lists : (p : Place) → LinksNothing (list p)
unfolding AsksOnly list ask bind ◌>>=◌
lists p = (tt, λ a. tt)

text_by_nothing : (r : Reading) → LinksNothing (text_by r)
unfolding AsksOnly
text_by_nothing (reading.Content bytes) = tt
text_by_nothing (reading.Long l) = tt
text_by_nothing reading.Gone = tt

text_nothing : (p : Place) (n : List ℕ) → LinksNothing (text_read p n)
unfolding text_read
text_nothing p n = asks_then IsUnlinked (lifted of_stop (read p n LIMIT_BYTES)) text_by (asks_lifted IsUnlinked of_stop (read p n LIMIT_BYTES) (reads p n LIMIT_BYTES)) text_by_nothing

names_nothing : (folder : List ℕ) (l : Listing) → LinksNothing (names_by folder l)
unfolding AsksOnly
names_nothing folder (listing.Names names) = tt
names_nothing folder listing.Gone = tt

folder_nothing : (p : Place) (folder : List ℕ) → LinksNothing (folder_listed p folder)
unfolding folder_listed
folder_nothing p folder = asks_then IsUnlinked (lifted of_stop (list p)) (names_by folder) (asks_lifted IsUnlinked of_stop (list p) (lists p)) (names_nothing folder)

shown_nothing : (lined : Writing) (p : Place) (n : ℕ) (r : Reading) → LinksNothing (shown_by lined p n r)
unfolding AsksOnly say lifted bind ◌>>=◌
shown_nothing lined p n (reading.Content bytes) = tt
shown_nothing lined p n (reading.Long l) = tt
shown_nothing lined p n reading.Gone = tt

one_nothing : (lined : Writing) (p : Place) (n : ℕ) → LinksNothing (one_shown lined p n)
unfolding one_shown
one_nothing lined p n = asks_then IsUnlinked (lifted of_stop (read p (entry_text (Number n)) LIMIT_BYTES)) (shown_by lined p n) (asks_lifted IsUnlinked of_stop (read p (entry_text (Number n)) LIMIT_BYTES) (reads p (entry_text (Number n)) LIMIT_BYTES)) (shown_nothing lined p n)

all_nothing : (lined : Writing) (p : Place) (ns : List ℕ) → LinksNothing (all_shown lined p ns)
unfolding all_shown
all_nothing lined p [] = asks_none IsUnlinked (Ok tt)
all_nothing lined p (n ∷ ns) = asks_then IsUnlinked (one_shown lined p n) (λ u. all_shown lined p ns) (one_nothing lined p n) (λ u. all_nothing lined p ns)

commits_nothing : (p : Place) → Commits IsUnlinked p context_name
commits_nothing p = record { make = tt; lock = tt; list = tt; clear = λ temp is. tt; read = tt; create = λ temp bytes. tt; sync_file = λ temp. tt; rename = λ temp. tt; sync = tt; unlock = tt }

current_nothing : (run : ℕ) (mail folder : List ℕ) → LinksNothing (made_current run mail folder)
unfolding made_current
current_nothing run mail folder =
    asks_then IsUnlinked (lifted (of_plan folder) (commit_context run (Mail mail) (current_change folder))) (λ u. Return (Ok tt))
    (asks_lifted IsUnlinked (of_plan folder) (commit_context run (Mail mail) (current_change folder)) (asks_commit IsUnlinked run (Mail mail) (current_change folder) (commits_nothing (Mail mail)))) (λ u. asks_none IsUnlinked (Ok tt))

value_nothing : {A : Type 0} (value : Hand → A) → LinksNothing (Recall (λ h. Return (value h)))
unfolding AsksOnly
value_nothing value = λ h. tt

recalls_nothing : {A : Type 0} (next : Hand → Plan A) → ((h : Hand) → LinksNothing (next h)) → LinksNothing (Recall next)
unfolding AsksOnly
recalls_nothing next f = f

scan_nothing : (run : ℕ) (mail : List ℕ) (job : ScanJob) → LinksNothing (scan run mail job)
unfolding scan
scan_nothing run mail job =
    asks_then IsUnlinked (folder_listed (Folder mail job.folder) job.folder) _ (folder_nothing (Folder mail job.folder) job.folder) (λ names.
    asks_then IsUnlinked (text_read (Folder mail job.folder) (entry_text Sequences)) _ (text_nothing (Folder mail job.folder) (entry_text Sequences)) (λ text.
    asks_then IsUnlinked (Recall (λ h. Return (chosen_by job names text (entries_seen h.context)))) _ (value_nothing (λ h. chosen_by job names text (entries_seen h.context))) (λ numbers.
    asks_then IsUnlinked (Recall (λ h. all_shown (lined_by job text (entries_seen h.context)) (Folder mail job.folder) (ordered job.reverse numbers))) _
    (recalls_nothing (λ h. all_shown (lined_by job text (entries_seen h.context)) (Folder mail job.folder) (ordered job.reverse numbers)) (λ h. all_nothing (lined_by job text (entries_seen h.context)) (Folder mail job.folder) (ordered job.reverse numbers))) (λ u. current_nothing run mail job.folder))))

seen_nothing : (es : List NamedValue) → LinksNothing (context_seen es)
unfolding AsksOnly context_seen
seen_nothing es = λ h. tt

entered_nothing : (p : Place) → LinksNothing (context_entered p)
unfolding context_entered
entered_nothing p = asks_then IsUnlinked (text_read p context_name) (λ text. context_seen (entries_in text)) (text_nothing p context_name) (λ text. seen_nothing (entries_in text))

found_nothing : (profile : List NamedValue) (said : Option (List ℕ)) → LinksNothing (folder_found profile said)
unfolding folder_found
found_nothing profile said =
    asks_then IsUnlinked (context_entered (Mail (path_of profile))) _ (entered_nothing (Mail (path_of profile))) (λ u. value_nothing (λ h. folder_of said (entries_seen h.context) profile))

look_nothing : (t : Telling) → LinksNothing (look_found t)
unfolding AsksOnly look_found file_read read_file ask lifted bind ◌>>=◌
look_nothing (Known spoken) = tt
look_nothing (InFile path sight) = (tt, λ a. by (format_by path (reading_of a)))
  where
    by : (value : Result Format CommandFault) → LinksNothing (after (λ f. Return (Ok (formed f sight))) value)
    by (Ok f) = tt
    by (Err e) = tt

begun_nothing : (run : ℕ) (profile : List NamedValue) (words : ScanAsked) → LinksNothing (scan_begun run profile words)
unfolding scan_begun
begun_nothing run profile words = asks_then IsUnlinked (folder_found profile words.folder) _ (found_nothing profile words.folder) (λ folder.
    asks_then IsUnlinked (look_found words.telling) _ (look_nothing words.telling) (λ spoken. scan_nothing run (path_of profile) (job_of folder words profile spoken)))

by_nothing : (run : ℕ) (profile : List NamedValue) (value : Result ScanAsked Ended) → LinksNothing (by_words (scan_begun run profile) value)
by_nothing run profile (Ok words) = asks_lifted IsUnlinked plain (scan_begun run profile words) (begun_nothing run profile words)
by_nothing run profile (Err e) = asks_none IsUnlinked (Err e)

word_nothing : (run : ℕ) (caller : Caller) (profile : List NamedValue) (word : List ℕ) (words : List (List ℕ)) (name : Option CommandName) → (begins_folders name ≡ false) → LinksNothing (word_by run caller profile word words name)
word_nothing run caller profile word words None other = asks_none IsUnlinked (Err (no_command (Some word)))
word_nothing run caller profile word words (Some Scan) other = by_nothing run profile (scan_asked caller (scan_said profile (map chars words)))
word_nothing run caller profile word words name other = cc (other)

named_nothing : (run : ℕ) (caller : Caller) (profile : List NamedValue) (words : List (List ℕ)) → (begins_folders (command_of words) ≡ false) → LinksNothing (command_by run caller profile words)
named_nothing run caller profile [] other = asks_none IsUnlinked (Err (no_command None))
named_nothing run caller profile (word ∷ words) other = word_nothing run caller profile word words (named word) other

pub command_nothing : (run : ℕ) (caller : Caller) (words : List (List ℕ)) → (begins_folders (command_of words) ≡ false) → LinksNothing (command run caller words)
unfolding command
command_nothing run caller words other =
    asks_then IsUnlinked (lifted plain (text_read Home profile_name)) (λ text. command_by run caller (entries_in text) words) (asks_lifted IsUnlinked plain (text_read Home profile_name) (text_nothing Home profile_name)) (λ text. named_nothing run caller (entries_in text) words other)

-- so is each step of each run of it
abbrev AreUnlinked : List Deed → Type 0
AreUnlinked [] = Unit {0}
AreUnlinked (Did s a ∷ ds) = IsUnlinked s × AreUnlinked ds
AreUnlinked (Said piece ∷ ds) = AreUnlinked ds
AreUnlinked (Heard piece ∷ ds) = AreUnlinked ds

unlinked_at : (s made : Step) → made ≡ s → IsUnlinked s → IsUnlinked made
unlinked_at s made is f = rw is f

run_unlinked : {R : Type 0} (p : Plan R) (h j : Hand) (ds : List Deed) (exit : Exit R) → LinksNothing p → Runs p h ds j exit → AreUnlinked ds
unfolding AsksOnly Runs
run_unlinked (Return r) h j [] exit f g = tt
run_unlinked (Return r) h j (d ∷ ds) exit f g = absurd g
run_unlinked (Ask s next) h j [] exit f g = tt
run_unlinked (Ask s next) h j (Did made a ∷ ds) exit f (is, row, inl e) = (unlinked_at s made is f.0, rw e.1 tt)
run_unlinked (Ask s next) h j (Did made a ∷ ds) exit f (is, row, inr (live, g)) = (unlinked_at s made is f.0, run_unlinked (next a) h j ds exit (f.1 a) g)
run_unlinked (Ask s next) h j (Said piece ∷ ds) exit f g = absurd g
run_unlinked (Ask s next) h j (Heard piece ∷ ds) exit f g = absurd g
run_unlinked (Try s next) h j [] exit f g = tt
run_unlinked (Try s next) h j (Did made a ∷ ds) exit f (is, row, g) = (unlinked_at s made is f.0, run_unlinked (next a) h j ds exit (f.1 a) g)
run_unlinked (Try s next) h j (Said piece ∷ ds) exit f g = absurd g
run_unlinked (Try s next) h j (Heard piece ∷ ds) exit f g = absurd g
run_unlinked (Say piece next) h j [] exit f g = tt
run_unlinked (Say piece next) h j (Did made a ∷ ds) exit f g = absurd g
run_unlinked (Say piece next) h j (Said part ∷ ds) exit f (inl e) = rw e.1 tt
run_unlinked (Say piece next) h j (Said part ∷ ds) exit f (inr (is, g)) = run_unlinked next h j ds exit f g
run_unlinked (Say piece next) h j (Heard part ∷ ds) exit f g = absurd g
run_unlinked (Hear most next) h j [] exit f g = tt
run_unlinked (Hear most next) h j (Did made a ∷ ds) exit f g = absurd g
run_unlinked (Hear most next) h j (Said part ∷ ds) exit f g = absurd g
run_unlinked (Hear most next) h j (Heard piece ∷ ds) exit f (short, g) = run_unlinked (next piece) h j ds exit (f piece) g
run_unlinked (Recall next) h j ds exit f g = run_unlinked (next h) h j ds exit (f h) g
run_unlinked (Note hand next) h j ds exit f (inl e) = rw e.0 tt
run_unlinked (Note hand next) h j ds exit f (inr g) = run_unlinked next hand j ds exit f g

-- and no name is met by a Link
unmet_one : (s : Step) (a : Answer) (p : Place) (x : List ℕ) → IsUnlinked s → met_by s a p x ≡ false
unmet_one (step.List q) a p x f = refl
unmet_one (step.Read q n limit) a p x f = refl
unmet_one (step.MakeFolder q) a p x f = refl
unmet_one (step.Create q n b) a p x f = refl
unmet_one (step.SyncFile q n) a p x f = refl
unmet_one (step.SyncFolder q) a p x f = refl
unmet_one (step.Link q n m) a p x f = absurd f
unmet_one (step.Rename q n m) a p x f = refl
unmet_one (step.Unlink q n) a p x f = refl
unmet_one (step.Lock q) a p x f = refl
unmet_one (step.Unlock q) a p x f = refl
unmet_one (step.ReadFile path limit) a p x f = refl
unmet_one (step.ReadDrop path from most) a p x f = refl
unmet_one (step.CutDrop path n) a p x f = refl

unmet_over : (past : List deeds.Deed) (ds : List Deed) (p : Place) (x : List ℕ) → is_first_met past p x ≡ false → AreUnlinked ds → is_first_met (acts_over past ds) p x ≡ false
unmet_over past [] p x none f = none
unmet_over past (Did s a ∷ ds) p x none f =
    unmet_over (did s a ∷ past) ds p x (ap (λ b. (b && not (is_made past p x)) || is_first_met past p x) (unmet_one s a p x f.0) ∙ none) f.1
unmet_over past (Said piece ∷ ds) p x none f = unmet_over past ds p x none f
unmet_over past (Heard piece ∷ ds) p x none f = unmet_over past ds p x none f

-- a call that follows a command meets its contents as they are
pub command_first : (run : ℕ) (caller : Caller) (words : List (List ℕ)) → (begins_folders (command_of words) ≡ false) → (c : Contents) (ns : List ℕ) (h j : Hand) (ds : List Deed) (exit : Exit (Result Unit Ended)) → Runs (command run caller words) h ds j exit → IsFirst (first_view c ns (is_first_met (acts ds)))
command_first run caller words other c ns h j ds exit runs = record { seen = refl; unmet = λ p x. unmet_over [] ds p x refl (run_unlinked (command run caller words) h j ds exit (command_nothing run caller words other) runs) }
