-- How a command begins that may begin a folder: it reads the profile, and then the context.
use Rattle.std.proofs.Common.{◌≡◌, ◌++◌, ◌^◌, ◌∷◌, [], ℕ, Bool, true, false, List, Option, Some, None, Result, Ok, Err, nat_lt, refl, sym, ◌∙◌, ap, subst, arith}
use Rattle.std.specs.Prelude.{if◌then◌else◌}
use Rattle.mh_base.specs.Folders.{is_folder_name, without_plus}
use Rattle.mh_base.specs.Entries.{kind_of}
use Rattle.mh_profile.specs.declared.named_value.NamedValue.{NamedValue}
use Rattle.mh_profile.specs.Reading.{entries_in, entries_seen}
use Rattle.folder_files.specs.Careful.{WasMade}
use Rattle.folder_files.specs.Deeds.{Deed, Once, did, now, on}
use Rattle.folder_files.specs.Named.{is_number}
use Rattle.folder_files.specs.declared.place.FilePath.{FilePath}
use Rattle.folder_files.specs.declared.place.Place.{Place}
use Rattle.folder_files.specs.declared.place.Place.TheVariants.{Folder, Home, Mail}
use Rattle.folder_files.specs.declared.refusal.Refusal.TheVariants as refusal
use Rattle.folder_files.specs.declared.step.Answer.{Answer}
use Rattle.folder_files.specs.declared.step.Answer.TheVariants as answer
use Rattle.folder_files.specs.declared.step.Step.TheVariants as step
use Rattle.file_plans.specs.Asking.{reading_of}
use Rattle.file_plans.specs.Text.{said_of}
use Rattle.file_plans.specs.Plan.{Hand, Recall, Return, after, converted, fresh, lifted, ◌>>=◌}
use Rattle.file_plans.specs.Rules.{Keeps}
use Rattle.file_plans.specs.Runs as runs
use Rattle.file_plans.proofs.Acting.{acts}
use Rattle.file_plans.proofs.Framing.{AnyStep, asks_any}
use Rattle.file_plans.proofs.Keeping.{keeps_bind}
use Rattle.step_plans.specs.CommandFaults.{of_stop}
use Rattle.step_plans.specs.ContextCommit.{LIMIT_BYTES, context_name}
use Rattle.step_plans.specs.Endings.{IsTakenAway}
use Rattle.step_plans.specs.Hands.{knowing}
use Rattle.step_plans.specs.Pledges.{Pledge}
use Rattle.step_plans.specs.declared.command_fault.CommandFault.{CommandFault}
use Rattle.step_plans.specs.declared.command_fault.CommandFault.TheVariants as fault
use Rattle.step_plans.proofs.Coming.{Comes, NoneFailed, OfActs, anything, comes_clean, comes_framed, comes_keeps, comes_lifted, comes_read, comes_then, comes_to}
use Rattle.step_plans.proofs.Going.{Outcome}
use Rattle.step_plans.proofs.Lasting.{KeptBy}
use Rattle.step_plans.proofs.Past.{did_step}
use Rattle.step_plans.proofs.Ruling.{rules_of}
use Rattle.command_stages.specs.Texts.{Commanded, text_by, text_read, too_large}
use Rattle.opening_plans.specs.Endings.{IsEndedBy, IsShownBy, PutsNone, at_once, let_go}
use Rattle.opening_plans.proofs.CleanRuns.{Clean, unfailed_by}
use Rattle.opening_plans.proofs.EndedKept.{keeps_more}
use Rattle.opening_plans.proofs.NamesKept.{putting, taking}
use Rattle.opening_plans.proofs.Speaking.{Quiet, keeps_both, quietly, silence, silent_told, speaking, speaks_more, text_silent}
use Rattle.refile_plans.proofs.RefileMoved.{HasHeldNone}
use Rattle.command_words.specs.Ended.{plain}
use Rattle.command_words.specs.declared.ended.Ended.{Ended}
use Rattle.command_words.specs.FolderWords.{named_folder}
use Rattle.command_ends.specs.BegunCauses.{ShowsEarly, long_entries, wrong_stored}
use Rattle.command_ends.specs.Causes.{ShowsLongEntries, long_context, long_profile}
use Rattle.command_plans.specs.Command.{context_entered, context_seen, folder_found}
use Rattle.command_plans.specs.Looking.{InFile, Known, Telling}
use Rattle.command_plans.specs.Profile.{entries_by, folder_of, path_by, path_of, profile_name, stored_of, text_of}
use Rattle.command_plans.proofs.LookFound.{file_step, look_deeds}

-- where less is asked of what shows an end
pub shown_more : (S T : List Deed → Type 0) → ((own : List Deed) → S own → T own) → (own : List Deed) → IsShownBy S own → IsShownBy T own
shown_more S T f _ (at_once {own = own} s clean) = at_once (f own s) clean
shown_more S T f _ (let_go {own = own} s clean lock) = let_go (f own s) clean lock

pub ended_more : (S T : CommandFault → List Deed → Type 0) → ((e : CommandFault) (own : List Deed) → S e own → T e own) → (e : CommandFault) (own : List Deed) → IsEndedBy S e own → IsEndedBy T e own
ended_more S T f (fault.Refused r) own s = shown_more (S (fault.Refused r)) (T (fault.Refused r)) (f (fault.Refused r)) own s
ended_more S T f (fault.Faulted which) own s = s
ended_more S T f (fault.Locked q) own s = shown_more (S (fault.Locked q)) (T (fault.Locked q)) (f (fault.Locked q)) own s
ended_more S T f (fault.Meddled q x) own s = (f (fault.Meddled q x) own s.0, s.1)
ended_more S T f fault.Memory own s = s

-- the deeds after the profile was read, and after the context was
abbrev pub after_profile : Answer → List Deed
after_profile a = did (step.Read Home profile_name LIMIT_BYTES) a ∷ []

abbrev pub after_context : List ℕ → Answer → Answer → List Deed
after_context path a b = did (step.Read (Mail path) context_name LIMIT_BYTES) b ∷ after_profile a

-- a text that is read, as its answer tells it
abbrev pub Tells : Place → List ℕ → List Deed → Hand → Outcome (Result (List ℕ) CommandFault)
Tells p x own h later j (Ok text) = (a : Answer) × (later ≡ did (step.Read p x LIMIT_BYTES) a ∷ own) × (j ≡ h) × (text ≡ text_of (reading_of a))
Tells p x own h later j (Err e) = (l : ℕ) × (e ≡ too_large l) × (later ≡ did (step.Read p x LIMIT_BYTES) (answer.Long l) ∷ own)

pub told_comes : (p : Place) (x : List ℕ) (own : List Deed) (h : Hand) → Comes own h (text_read p x) (Tells p x own h)
unfolding text_read
told_comes p x own h =
    comes_read own h of_stop (Tells p x own h) p x LIMIT_BYTES text_by (λ bytes. comes_to _ h (Ok bytes) (Tells p x own h) (answer.Content bytes, refl, refl, refl))
    (λ l. comes_to _ h (Err (too_large l)) (Tells p x own h) (l, refl, refl)) (comes_to _ h (Ok []) (Tells p x own h) (answer.Gone, refl, refl, refl))

-- two readings put no name anywhere, and take none away
pub none_put : (p : Place) (path : List ℕ) (a b : Answer) → PutsNone p (after_context path a b)
none_put p path a b (now w) = putting p w.0 (step.Read (Mail path) context_name LIMIT_BYTES) b w.1
none_put p path a b (on (now w)) = putting p w.0 (step.Read Home profile_name LIMIT_BYTES) a w.1
none_put p path a b (on (on z)) = elim z [ ]

-- so is it where the file of a format was read besides
pub none_put_looked : (p : Place) (path : List ℕ) (a b : Answer) (t : Telling) (c : Answer) → PutsNone p (look_deeds t c (after_context path a b))
none_put_looked p path a b (Known spoken) c = none_put p path a b
none_put_looked p path a b (InFile file sight) c = on_file
  where
    on_file : PutsNone p (did (file_step file) c ∷ after_context path a b)
    on_file (now w) = putting p w.0 (file_step file) c w.1
    on_file (on z) = none_put p path a b z

pub none_taken : (p : Place) (path : List ℕ) (a b : Answer) (x : List ℕ) → is_number (kind_of x) ≡ true → Once (λ d older. IsTakenAway p x d) (after_context path a b) → ⊥
none_taken p path a b x n (now t) = taking p x (step.Read (Mail path) context_name LIMIT_BYTES) b t
none_taken p path a b x n (on (now t)) = taking p x (step.Read Home profile_name LIMIT_BYTES) a t
none_taken p path a b x n (on (on z)) = elim z [ ]

pub none_taken_looked : (p : Place) (path : List ℕ) (a b : Answer) (t : Telling) (c : Answer) (x : List ℕ) → is_number (kind_of x) ≡ true → Once (λ d older. IsTakenAway p x d) (look_deeds t c (after_context path a b)) → ⊥
none_taken_looked p path a b (Known spoken) c x n f = none_taken p path a b x n f
none_taken_looked p path a b (InFile file sight) c x n (now t) = taking p x (file_step file) c t
none_taken_looked p path a b (InFile file sight) c x n (on z) = none_taken p path a b x n z

not_created : (p q : Place) (x y bytes : List ℕ) (limit : ℕ) (a : Answer) → did (step.Read q y limit) a ≡ did (step.Create p x bytes) answer.Done → ⊥
not_created p q x y bytes limit a e = let same : step.Read q y limit ≡ step.Create p x bytes = did_step e in cc

pub none_made : (p : Place) (x path : List ℕ) (a b : Answer) → WasMade p x (after_context path a b) → ⊥
none_made p x path a b (now w) = not_created p (Mail path) x context_name w.0 LIMIT_BYTES b w.1
none_made p x path a b (on (now w)) = not_created p Home x profile_name w.0 LIMIT_BYTES a w.1
none_made p x path a b (on (on z)) = elim z [ ]

file_created : (p : Place) (file : FilePath) (x bytes : List ℕ) (a : Answer) → did (file_step file) a ≡ did (step.Create p x bytes) answer.Done → ⊥
file_created p file x bytes a e = let same : file_step file ≡ step.Create p x bytes = did_step e in cc

pub none_made_looked : (p : Place) (x path : List ℕ) (a b : Answer) (t : Telling) (c : Answer) → WasMade p x (look_deeds t c (after_context path a b)) → ⊥
none_made_looked p x path a b (Known spoken) c f = none_made p x path a b f
none_made_looked p x path a b (InFile file sight) c (now w) = file_created p file x w.0 c w.1
none_made_looked p x path a b (InFile file sight) c (on z) = none_made p x path a b z

-- readings say nothing
lifted_silent : (past : List runs.Deed) (h : Hand) (q : Commanded (List ℕ)) → Keeps silence past h q (λ later j r. Unit {0}) → Keeps silence past h (lifted plain q) (λ later j r. Unit {0})
unfolding lifted Keeps
lifted_silent past h q f = keeps_bind silence past h q (λ r. Return (converted plain r)) (λ later j r. Unit {0}) (λ later j r. Unit {0}) f (λ later j r u. (tt, tt))

pub profile_silent : (past : List runs.Deed) (h : Hand) → Keeps silence past h (lifted plain (text_read Home profile_name)) (λ later j r. Unit {0})
profile_silent past h = lifted_silent past h (text_read Home profile_name) (text_silent past h Home profile_name)

pub entered_silent : (past : List runs.Deed) (h : Hand) (mail : Place) → Keeps silence past h (context_entered mail) (λ later j r. Unit {0})
unfolding Keeps context_entered context_seen ◌>>=◌
entered_silent past h mail = keeps_bind silence past h (text_read mail context_name) (after (λ text. context_seen (entries_in text))) (λ later j r. Unit {0}) (λ later j r. Unit {0}) (text_silent past h mail context_name) go
  where
    go : (later : List runs.Deed) (j : Hand) (r : Result (List ℕ) CommandFault) → Unit {0} → Keeps silence later j (after (λ text. context_seen (entries_in text)) r) (λ last i s. Unit {0})
    go later j (Ok text) u = (tt, (tt, tt))
    go later j (Err e) u = (tt, tt)

pub found_silent : (past : List runs.Deed) (h : Hand) (profile : List NamedValue) (said : Option (List ℕ)) → Keeps silence past h (folder_found profile said) (λ later j r. Unit {0})
unfolding Keeps folder_found ◌>>=◌
found_silent past h profile said =
    keeps_bind silence past h (context_entered (Mail (path_of profile))) (after (λ entered. Recall (λ i. Return (folder_of said (entries_seen i.context) profile)))) (λ later j r. Unit {0}) (λ later j r. Unit {0})
    (entered_silent past h (Mail (path_of profile))) go
  where
    go : (later : List runs.Deed) (j : Hand) (r : Result Unit CommandFault) → Unit {0} → Keeps silence later j (after (λ entered. Recall (λ i. Return (folder_of said (entries_seen i.context) profile))) r) (λ last i s. Unit {0})
    go later j (Ok entered) u = (tt, tt)
    go later j (Err e) u = (tt, tt)

long_there : (a : Answer) (later : List Deed) (l : ℕ) (e : CommandFault) → e ≡ too_large l → later ≡ did (step.Read (Mail (path_by a)) context_name LIMIT_BYTES) (answer.Long l) ∷ after_profile a → ShowsLongEntries e later
long_there a later l e is at = rw (is, at) (long_context {a = a})

long_first : (later : List Deed) (l : ℕ) (e : CommandFault) → e ≡ too_large l → later ≡ did (step.Read Home profile_name LIMIT_BYTES) (answer.Long l) ∷ [] → ShowsLongEntries e later
long_first later l e is at = rw (is, at) long_profile

-- the profile
abbrev pub Profile : Outcome (Result (List ℕ) Ended)
Profile later j (Ok text) = (a : Answer) × (later ≡ after_profile a) × (j ≡ fresh) × (text ≡ text_of (reading_of a))
Profile later j (Err x) = ShowsLongEntries x.fault later

pub profile_comes : Comes [] fresh (lifted plain (text_read Home profile_name)) Profile
profile_comes =
    comes_lifted [] fresh plain (text_read Home profile_name) (Tells Home profile_name [] fresh) Profile (told_comes Home profile_name [] fresh) (λ later j text q. q) (λ later j e q. long_first later q.0 e q.1 q.2)

-- where nothing was told
abbrev pub none_told : List ℕ → List Deed → Type 0
none_told text own = ⊥

pub none_lasts : (text : List ℕ) → KeptBy AnyStep (none_told text)
none_lasts text own s x any f = f

-- the profile was read
module _ (a : Answer) where
  abbrev pub profile : List NamedValue
  profile = entries_by a

  abbrev pub path : List ℕ
  path = path_of profile

  -- the folder that is acted on
  abbrev pub Found : Option (List ℕ) → Outcome (Result (List ℕ) CommandFault)
  Found said later j (Ok folder) = (b : Answer) × (later ≡ after_context path a b) × (j ≡ knowing (entries_by b) fresh) × (folder_of said (entries_by b) profile ≡ Ok folder)
  Found said later j (Err e) = ShowsEarly e later

  abbrev pub Enters : Outcome (Result Unit CommandFault)
  Enters later j (Ok u) = (b : Answer) × (later ≡ after_context path a b) × (j ≡ knowing (entries_by b) fresh)
  Enters later j (Err e) = ShowsLongEntries e later

  seen_comes : (b : Answer) (es : List NamedValue) → es ≡ entries_by b → Comes (after_context path a b) fresh (context_seen es) Enters
  unfolding Comes context_seen
  seen_comes b es is = (b, refl, ap (λ z. knowing z fresh) is)

  at : {A : Type 0} (own now_ : List Deed) (j i : Hand) (q : Commanded A) (Q : Outcome (Result A CommandFault)) → own ≡ now_ → j ≡ i → Comes now_ i q Q → Comes own j q Q
  at own now_ j i q Q e f g = rw (e, f) g

  pub entered_comes : Comes (after_profile a) fresh (context_entered (Mail path)) Enters
  unfolding context_entered
  entered_comes =
      comes_then (after_profile a) fresh (text_read (Mail path) context_name) (λ text. context_seen (entries_in text)) (Tells (Mail path) context_name (after_profile a) fresh) Enters (told_comes (Mail path) context_name (after_profile a) fresh)
      (λ later j text q. at later (after_context path a q.0) j fresh (context_seen (entries_in text)) Enters q.1 q.2 (seen_comes q.0 (entries_in text) (ap entries_in q.3)))
      (λ later j e q. long_there a later q.0 e q.1 q.2)

  refused_comes : (said : Option (List ℕ)) (b : Answer) (j : Hand) → j ≡ knowing (entries_by b) fresh → Comes (after_context path a b) j (Recall (λ h. Return (folder_of said (entries_seen h.context) profile))) (Found said)
  unfolding Comes
  refused_comes said b j is = rw is (go said)
    where
      stored : List ℕ
      stored = stored_of (entries_by b) profile

      by_name : (c : Bool) → is_folder_name (without_plus stored) ≡ c → (if c then Ok (without_plus stored) else Err (fault.Refused (refusal.BadFolder stored))) ≡ named_folder stored
          → Found None (after_context path a b) (knowing (entries_by b) fresh) (if c then Ok (without_plus stored) else Err (fault.Refused (refusal.BadFolder stored)))
      by_name true is same = (b, refl, refl, sym same)
      by_name false is same = wrong_stored (record { profile = a; context = b; reads = refl; stored = refl; wrong = is })

      go : (said : Option (List ℕ)) → Found said (after_context path a b) (knowing (entries_by b) fresh) (folder_of said (entries_by b) profile)
      go (Some name) = (b, refl, refl, refl)
      go None = by_name (is_folder_name (without_plus stored)) refl refl

  pub found_comes : (said : Option (List ℕ)) → Comes (after_profile a) fresh (folder_found profile said) (Found said)
  unfolding folder_found
  found_comes said =
      comes_then (after_profile a) fresh (context_entered (Mail path)) (λ entered. Recall (λ h. Return (folder_of said (entries_seen h.context) profile))) Enters (Found said) entered_comes
      (λ later j u q. at later (after_context path a q.0) j j _ (Found said) q.1 refl (refused_comes said q.0 j q.2)) (λ later j e q. long_entries q)

  -- and then the context; and what follows
  abbrev pub Behind : Answer → List Deed → Type 0
  Behind b own = (newer : List Deed) × (own ≡ newer ++ after_context path a b)

  pub behind_kept : (b : Answer) → KeptBy AnyStep (Behind b)
  behind_kept b own s x any f = (did s x ∷ f.0, ap (λ t. did s x ∷ t) f.1)

  -- so a plan ends of which no step fails
  abbrev pub Later : Answer → Outcome (Result Unit CommandFault) → Outcome (Result Unit CommandFault)
  Later b Q own j r = NoneFailed own × (Behind b own × Q own j r)

  pub clean_there : (run : ℕ) (b : Answer) (own : List Deed) (j : Hand) → own ≡ after_context path a b → j ≡ knowing (entries_by b) fresh → NoneFailed own → Clean run own j
  clean_there run b own j is first clean = record {
    numbered = rw is (tt, (tt, tt));
    unfailed = unfailed_by own clean;
    few = rw first (omega arith);
  }

  pub clean_looked : (run : ℕ) (b : Answer) (t : Telling) (c : Answer) (own : List Deed) (j : Hand) → own ≡ look_deeds t c (after_context path a b) → j ≡ knowing (entries_by b) fresh → NoneFailed own → Clean run own j
  clean_looked run b (Known spoken) c own j is first clean = clean_there run b own j is first clean
  clean_looked run b (InFile file sight) c own j is first clean = record {
    numbered = rw is (tt, (tt, (tt, tt)));
    unfailed = unfailed_by own clean;
    few = rw first (omega arith);
  }

  pub numbered_there : (b : Answer) (j : Hand) → j ≡ knowing (entries_by b) fresh → nat_lt j.next (2 ^ 64) ≡ true
  numbered_there b j first = rw first refl

-- two readings use no held name of a folder
pub none_held : (run : ℕ) (path folder : List ℕ) (a b : Answer) → HasHeldNone run (Folder path folder) (after_context path a b)
none_held run path folder a b = λ n ok. ((λ e f. cc (e)), ((λ e f. cc (e)), tt))

-- both were read, and nothing else was done
module _ (run : ℕ) (a b : Answer) (past : List runs.Deed) (is : acts past ≡ after_context (path a) a b) (clean : NoneFailed (acts past)) where
  abbrev known : Hand
  known = knowing (entries_by b) fresh

  pub begun_clean : Clean run (acts past) known
  begun_clean = clean_there a run b (acts past) known is refl clean

  pub put_none : (p : Place) → PutsNone p (acts past)
  put_none p = subst (PutsNone p) (sym is) (none_put p (path a) a b)

  pub taken_none : (p : Place) (x : List ℕ) → is_number (kind_of x) ≡ true → Once (λ d older. IsTakenAway p x d) (acts past) → ⊥
  taken_none p x n t = none_taken p (path a) a b x n (subst (λ o. Once (λ d older. IsTakenAway p x d) o) is t)

  pub made_none : (p : Place) (x : List ℕ) → WasMade p x (acts past) → ⊥
  made_none p x w = none_made p x (path a) a b (subst (λ o. WasMade p x o) is w)

  pub held_none : (folder : List ℕ) → HasHeldNone run (Folder (path a) folder) (acts past)
  held_none folder = subst (HasHeldNone run (Folder (path a) folder)) (sym is) (none_held run (path a) folder a b)

  pub later_keeps : (q : Commanded Unit) (Q : Outcome (Result Unit CommandFault)) → Comes (acts past) known q Q → Keeps anything past known q (OfActs (Later a b Q))
  later_keeps q Q f =
      comes_keeps past (acts past) known q (Later a b Q) refl
      (comes_clean (acts past) known q (λ own i r. Behind a b own × Q own i r) clean (comes_framed AnyStep (Behind a b) (behind_kept a b) (acts past) known q Q (asks_any q) ([], is) f))

  -- so a plan that may say nothing says nothing
  pub quietly_keeps : (Spoken : List ℕ → List Deed → Type 0) (w : Pledge) → ((now_ : List runs.Deed) (piece : List ℕ) → (rules_of w).may_say now_ piece → ⊥) → said_of past ≡ []
      → (q : Commanded Unit) (P S Q : List runs.Deed → Hand → Result Unit CommandFault → Type 0) → Keeps (rules_of w) past known q P → Keeps anything past known q S
      → ((later : List runs.Deed) (i : Hand) (r : Result Unit CommandFault) → said_of later ≡ [] → P later i r → S later i r → Q later i r) → Keeps (speaking Spoken) past known q Q
  quietly_keeps Spoken w unsaid silent q P S Q f g so =
      keeps_more (speaking Spoken) past known q (λ later i r. Silent later i r × S later i r) Q (λ later i r s. so later i r (s.0.0 ∙ silent) s.0.3 s.1)
      (keeps_both (speaking Spoken) anything past known q Silent S
      (speaks_more none_told Spoken (λ text own t. absurd t) past known q Silent (quietly none_told none_lasts (rules_of w) unsaid (Behind a b) (behind_kept a b) past known q P (silent_told none_told none_lasts past silent) f)) g)
    where
      Silent : List runs.Deed → Hand → Result Unit CommandFault → Type 0
      Silent later i r = Quiet none_told none_lasts (rules_of w) unsaid (Behind a b) (behind_kept a b) P past later i r
