-- What `inc` gives alone: what it comes to on the mailbox that it finds.
use Rattle.std.proofs.Common.{◌≡◌, ◌≤◌, ◌<◌, ◌^◌, ◌+◌, ◌++◌, ◌∷◌, ◌==◌, ◌||◌, [], ℕ, Bool, true, false, List, Option, Some, None, Result, Ok, Err, length, nat_le, nat_lt, refl, sym, ◌∙◌, ap, subst, arith, append_assoc}
use Rattle.std.specs.Prelude.{decimal, is_some, max, codes, ◌&&◌, if◌then◌else◌}
use Rattle.std.specs.List.{list_all}
use Rattle.std.proofs.lemmas.Bool.Decides.{nat_tests}
use Rattle.mail_headers.specs.Lines.{is_name_byte}
use Rattle.mh_base.specs.Entries.{entry_text}
use Rattle.mh_base.specs.Folders.{is_folder_name}
use Rattle.mh_base.proofs.NumberTests.{over_max, under_max}
use Rattle.mbox_drop.specs.Drops.{is_drop, messages}
use Rattle.mbox_drop.specs.Long.{first_long}
use Rattle.mh_profile.specs.Reading.{entries_in}
use Rattle.mh_profile.specs.declared.named_value.NamedValue.{NamedValue}
use Rattle.mh_profile.specs.Printing.{printed}
use Rattle.mh_sequences.specs.Printing.{text_of}
use Rattle.mh_sequences.specs.Reading.{suffix}
use Rattle.mh_sequences.specs.Runs.{has}
use Rattle.mh_sequences.specs.Sequences.{AreSequences, Marked}
use Rattle.mh_sequences.specs.declared.run.Run.{Run}
use Rattle.folder_files.specs.Places.{same_path}
use Rattle.folder_files.specs.Steps.{cut_answer, cut_at}
use Rattle.folder_files.specs.declared.place.FilePath.{FilePath}
use Rattle.folder_files.specs.declared.place.Place.{Place}
use Rattle.folder_files.specs.declared.place.Place.TheVariants.{Folder, Home, Mail, Work as WorkPlace}
use Rattle.folder_files.specs.declared.refusal.Refusal.{Refusal}
use Rattle.folder_files.specs.declared.refusal.Refusal.TheVariants as refusal
use Rattle.folder_files.specs.declared.step.Answer.TheVariants as answer
use Rattle.folder_files.specs.declared.step.Step.TheVariants as step
use Rattle.folder_files.proofs.Sameness.{path_same}
use Rattle.file_plans.specs.Asking.{cut_drop, drop_cut_of}
use Rattle.file_plans.specs.Contents.{Contents, filled, folder_at, mailbox_in, with_cut, with_folder}
use Rattle.file_plans.specs.Giving.{Gives}
use Rattle.file_plans.specs.Mailboxes.{Mailbox, is_message_number, where_folder, where_mail}
use Rattle.file_plans.specs.Plan.{Hand, Plan, Return, after, ask, bind, lifted, ◌>>=◌}
use Rattle.file_plans.specs.Views.{View, by_view, view_after}
use Rattle.file_plans.proofs.Framing.{say_view}
use Rattle.file_plans.proofs.Giving.{gives_more, gives_on}
use Rattle.file_plans.specs.MailboxChanges.{with_context_text}
use Rattle.file_plans.proofs.Showing.{is_number_of}
use Rattle.file_plans.proofs.Onward.{Is, IsShort, fits_at, onward}
use Rattle.step_plans.specs.CommandFaults.{of_sink}
use Rattle.step_plans.specs.ContextCommit.{LIMIT_BYTES, changed, commit_context, context_name, says}
use Rattle.step_plans.specs.declared.change.ChangeEntry.{ChangeEntry}
use Rattle.step_plans.specs.declared.command_fault.CommandFault.{CommandFault}
use Rattle.step_plans.specs.declared.command_fault.CommandFault.TheVariants as fault
use Rattle.step_plans.proofs.Committed.{entries_at}
use Rattle.held_messages.specs.HeldPairs.{with_folder_changed}
use Rattle.sequence_commits.specs.Committing.{changed_sequences}
use Rattle.sequence_commits.specs.Marking.{marked_by_all}
use Rattle.sequence_commits.specs.PrivateChanges.{private_changes}
use Rattle.sequence_commits.specs.SequencesChanged.{with_sequences_text}
use Rattle.sequence_commits.specs.Telling.{same_told}
use Rattle.sequence_commits.proofs.MarkedOnce.{all_valid}
use Rattle.command_stages.specs.Current.{current_change, made_current}
use Rattle.command_stages.specs.Endings.{of_plan}
use Rattle.command_stages.specs.Works.{Work, refused_at}
use Rattle.command_stages.proofs.FolderLines.{current_valid}
use Rattle.opening_plans.specs.BegunWork.{AreHomesAt, Homes, after_commits, begun_work}
use Rattle.opening_plans.specs.Ending.{ended}
use Rattle.opening_plans.specs.Making.{IsBare, made_begun}
use Rattle.opening_plans.specs.Kept.{Commits, Kept, all_made, context_kept, kept_of, sequences_kept, too_long}
use Rattle.opening_plans.specs.Opening.{Opened, opened_of}
use Rattle.opening_plans.proofs.BegunWorks.{clear_context}
use Rattle.opening_plans.proofs.FolderGiven.{IsUntouched}
use Rattle.opening_plans.proofs.KeptGiven.{Holds, IsClear, context_ends}
use Rattle.opening_plans.proofs.KeptMessages.{message_at, message_of}
use Rattle.opening_plans.proofs.MadeGiven.{made_give}
use Rattle.opening_plans.proofs.WorkGiven.{IsOpen, WorkEnds, sequences_give, then_gives}
use Rattle.inc_plans.specs.Inc.{cut_by, cut_if, drop_ended, heading, heading_told, inc, new_marked, new_marks, opened_incorporated, room_counted, telling_of, told_taken, top_of}
use Rattle.inc_plans.specs.Counting.{LIMIT, LONGEST, size_if}
use Rattle.inc_plans.specs.DropTaken.{drop_taken, where_of}
use Rattle.inc_plans.specs.Taking.{Telling}
use Rattle.inc_plans.specs.IncOutcome.{cut_work, drop_work, emptied, file_work, inc_work, room_work, short_work, lines_from, marked_work, opened_work, stored_in, taken_work, text_unless, with_drop_cut, with_messages}
use Rattle.inc_plans.specs.declared.size.DropSize.{DropSize}
use Rattle.inc_plans.specs.declared.taken.Taken.{Taken}
use Rattle.inc_plans.specs.IncJob.{IncJob}
use Rattle.inc_plans.proofs.DropGiven.{comes_on, counted_of, empty_read, long_read, room_comes, room_of, room_size, room_value}
use Rattle.inc_plans.proofs.PassGiven.{TakesDrop, drop_gives}
use Rattle.inc_plans.proofs.TakenGiven.{IsRoomy, all_context, all_outside, all_put, all_roomy, all_show, told}
use Rattle.inc_plans.proofs.Tests.{alike}
use Rattle.mh_base.specs.Numbers.{numbers_up}
use Rattle.opening_plans.proofs.FolderMade.{shows_folder_made}
use Rattle.file_plans.proofs.Following.{bind_both}

then_both : {A B C E : Type 0} (p : Plan (Result A E)) (f : A → Plan (Result B E)) (g : B → Plan (Result C E)) → (p >>= f) >>= g ≡ p >>= (λ a. f a >>= g)
unfolding ◌>>=◌ bind
then_both {A = A} {E = E} p f g = bind_both p (after f) (after g) ∙ (λ i. bind p (λ r. each r i))
  where
    each : (r : Result A E) → bind (after f r) (after g) ≡ after (λ a. bind (f a) (after g)) r
    each (Ok a) = refl
    each (Err e) = refl

listed_low : (runs : List Run) (n : ℕ) → has runs n ≡ true → n ≤ top_of runs
listed_low [] n e = cc (e)
listed_low (r ∷ runs) n e = go (nat_le r.from n) (nat_le n r.to) refl e (λ f. listed_low runs n f)
  where
    go : (a b : Bool) → nat_le n r.to ≡ b → (a && b) || has runs n ≡ true → (has runs n ≡ true → n ≤ top_of runs) → n ≤ max r.to (top_of runs)
    go true true f g more = under_max n r.to (top_of runs) (grind (arith, nat_tests, f))
    go true false f g more = over_max n r.to (top_of runs) (more g)
    go false b f g more = over_max n r.to (top_of runs) (more g)

listed_not : (runs : List Run) (n : ℕ) → top_of runs < n → has runs n ≡ false
listed_not runs n lt = go (has runs n) refl
  where
    go : (b : Bool) → has runs n ≡ b → b ≡ false
    go true e = absurd (let le = listed_low runs n e in omega (arith, le, lt))
    go false e = refl

-- a message that isn't there by the mailbox isn't there
none_stands : (c : Contents) (path folder : List ℕ) (n : ℕ) → c.there (Folder path folder) ≡ true → is_message_number n ≡ true → is_some (message_at (mailbox_in c) (Folder path folder) n) ≡ false → c.texts (Folder path folder) (decimal n) ≡ None
unfolding mailbox_in entry_text
none_stands c path folder n there ok e = go (c.there (Folder path folder)) there e
  where
    go : (b : Bool) → b ≡ true → is_some (message_of (if b then Some (folder_at c (Folder path folder)) else None) n) ≡ false → c.texts (Folder path folder) (decimal n) ≡ None
    go false t e = cc (t)
    go true t e = within (is_message_number n) (c.texts (Folder path folder) (decimal n)) ok e
      where
        within : (b : Bool) (o : Option (List ℕ)) → b ≡ true → is_some (if b then o else None) ≡ false → o ≡ None
        within true None t e = refl
        within true (Some x) t e = cc (e)
        within false o t e = cc (t)

-- commits leave outside files as they are
outside_context : (path : List ℕ) (cs : List ChangeEntry) (k : Kept) → (context_kept path cs k).kept.mailbox.outside ≡ k.mailbox.outside
unfolding context_kept
outside_context path cs k = go (says k.entries cs) (nat_lt LIMIT_BYTES (length (printed (changed cs k.entries))))
  where
    go : (a b : Bool)
        → (if a then all_made k else (if b then too_long k (length (printed (changed cs k.entries))) else all_made (kept_of (with_context_text k.mailbox (Mail path) (printed (changed cs k.entries))) (changed cs k.entries)))).kept.mailbox.outside
        ≡ k.mailbox.outside
    go true b = refl
    go false true = refl
    go false false = refl

outside_sequences : (path folder : List ℕ) (old new : Marked) (k : Kept) → (sequences_kept path folder old new k).kept.mailbox.outside ≡ k.mailbox.outside
unfolding sequences_kept
outside_sequences path folder old new k = go (same_told folder old new) (nat_lt LIMIT_BYTES (length (text_of new)))
  where
    next : Kept
    next = kept_of (with_sequences_text k.mailbox (Folder path folder) (text_of new)) k.entries

    go : (a b : Bool)
        → (if a then all_made k else (if b then too_long k (length (text_of new)) else context_kept path (private_changes folder new.users k.entries) next)).kept.mailbox.outside
        ≡ k.mailbox.outside
    go true b = refl
    go false true = refl
    go false false = outside_context path (private_changes folder new.users k.entries) next

outside_shown : (c : Contents) (m : Mailbox) → mailbox_in c ≡ m → c.outside ≡ m.outside
unfolding mailbox_in
outside_shown c m e = ap (λ x. x.outside) e

module _ (run : ℕ) (few : run < 2 ^ 128) (path : List ℕ) (job : IncJob) (valid : is_folder_name job.folder ≡ true) (clean : list_all is_name_byte (suffix job.folder) ≡ true) where
  abbrev p : Place
  p = Folder path job.folder

  abbrev mail : Place
  mail = Mail path

  abbrev Clear : Contents → Type 0
  Clear c = IsClear c p

  -- a drop that was read whole is cut to nothing
  cut_shows : (c : Contents) (d : List ℕ) → c.outside job.drop ≡ Some d → mailbox_in (with_cut c job.drop (length d)) ≡ with_drop_cut true job.drop (mailbox_in c)
  unfolding mailbox_in
  cut_shows c d there = λ i. record {
    folders = λ q. where_folder q (if c.there q then Some (folder_at c q) else None);
    home = λ x. c.texts Home x;
    work = λ x. c.texts WorkPlace x;
    context = λ q. where_mail q (c.texts q (codes "context"));
    outside = λ f. each f (same_path job.drop f) refl i;
  }
    where
      cut_whole : (o : Option (List ℕ)) → o ≡ Some d → cut_at (length d) o ≡ emptied o
      cut_whole None e = cc (e)
      cut_whole (Some x) e =
          let same : x ≡ d = cc (e) in
          subst (λ y. cut_at (length d) (Some y) ≡ emptied (Some y)) (sym same) (by_test (length d == length d) (alike (length d) (length d) refl))
        where
          by_test : (b : Bool) → b ≡ true → ◌≡◌ {A = Option (List ℕ)} (if b then Some [] else Some d) (Some [])
          by_test true e = refl
          by_test false e = cc (e)

      each : (f : FilePath) (b : Bool) → same_path job.drop f ≡ b → (if b then cut_at (length d) (c.outside f) else c.outside f) ≡ (if b then emptied (c.outside f) else c.outside f)
      each f true e = cut_whole (c.outside f) (ap c.outside (sym (path_same job.drop f e)) ∙ there)
      each f false e = refl

  cut_gives : (b : Bool) → job.truncate ≡ b → (ns : List ℕ) (c : Contents) (d : List ℕ) → c.outside job.drop ≡ Some d → (k : Kept) → mailbox_in c ≡ k.mailbox → (z : View) (j : Hand) → Is true ns z c
      → Gives (by_view true) z j [] (cut_if b job.drop (length d)) (WorkEnds (cut_work job k))
  unfolding Gives drop_ended cut_drop lifted bind ask ◌>>=◌
  cut_gives true t ns c d there k shows z j is = λ a row live f.
      let whole : a ≡ answer.Done = fits_at true ns z c (step.CutDrop job.drop (length d)) a is f refl ∙ (ap (cut_answer (length d)) there ∙ done (length d == length d) (alike (length d) (length d) refl)) in
      subst (λ x. Gives (by_view true) (view_after z (step.CutDrop job.drop (length d)) x) j [] (cut_by (drop_cut_of x)) (WorkEnds (cut_work job k))) (sym whole)
      (refl, refl, ap mailbox_in ((onward true ns z c (step.CutDrop job.drop (length d)) answer.Done is refl).0 refl) ∙ (cut_shows c d there ∙ (λ i. with_drop_cut (sym t i) job.drop (shows i))))
    where
      done : (b : Bool) → b ≡ true → (if b then answer.Done else answer.Grown) ≡ answer.Done
      done true e = refl
      done false e = cc (e)
  cut_gives false t ns c d there k shows z j is = (refl, refl, ap mailbox_in (is.0 refl) ∙ (λ i. with_drop_cut (sym t i) job.drop (shows i)))

  -- the new messages are marked, the folder becomes the current one, and the drop is cut
  module _ (m : Marked) (users : AreSequences m.users) (numbers : List ℕ) (ns : List ℕ) (k : Kept) (c : Contents) (z : View) (j : Hand) (is : Is true ns z c) (holds : Holds Clear path k c j) (d : List ℕ) (there : c.outside job.drop ≡ Some d) where
    abbrev new : Marked
    new = marked_by_all (new_marks job numbers) m

    abbrev first : Commits
    first = sequences_kept path job.folder m new k

    abbrev second : Kept → Commits
    second l = context_kept path (current_change job.folder) l

    abbrev cut_last : Plan (Result Unit CommandFault)
    cut_last = cut_if job.truncate job.drop (length d)

    abbrev done_now : Plan (Result (Unit {0}) CommandFault)
    done_now = Return (Ok tt)

    abbrev cut_then : Plan (Result Unit CommandFault)
    cut_then = done_now >>= (λ marked. cut_last)

    there_still : (e : Contents) (l : Kept) (i : Hand) → Holds Clear path l e i → l.mailbox.outside ≡ k.mailbox.outside → e.outside job.drop ≡ Some d
    there_still e l i f same = ap (λ o. o job.drop) (outside_shown e l.mailbox f.shows ∙ (same ∙ sym (outside_shown c k.mailbox holds.shows))) ∙ there

    current_gives : (e : Contents) (y : View) (i : Hand) → Is true ns y e → Holds Clear path first.kept e i
        → Gives (by_view true) y i (after_commits (second first.kept) (cut_work job)).text (made_current run path job.folder >>= (λ marked. cut_last)) (WorkEnds (after_commits (second first.kept) (cut_work job)))
    unfolding made_current bind ◌>>=◌
    current_gives e y i same f =
        subst (λ q. Gives (by_view true) y i (after_commits (second first.kept) (cut_work job)).text q (WorkEnds (after_commits (second first.kept) (cut_work job))))
        (sym (then_both (lifted (of_plan job.folder) (commit_context run mail (current_change job.folder))) (λ done. Return (Ok tt)) (λ marked. cut_last)))
        (then_gives run few path job.folder (second first.kept) (commit_context run mail (current_change job.folder)) (cut_work job) cut_then ns y i
        (context_ends Clear path ns (clear_context path job.folder) run few (current_change job.folder) (current_valid job.folder valid) first.kept e y i [] same f)
        (λ g x l at have. cut_now g x l at have))
      where
        cut_now : (g : Contents) (x : View) (l : Hand) → Is true ns x g → Holds Clear path (second first.kept).kept g l
            → Gives (by_view true) x l (cut_work job (second first.kept).kept).text cut_then (WorkEnds (cut_work job (second first.kept).kept))
        cut_now g x l at have =
            cut_gives job.truncate refl ns g d (there_still g (second first.kept).kept l have (outside_context path (current_change job.folder) first.kept ∙ outside_sequences path job.folder m new k)) (second first.kept).kept have.shows x l at

    pub marked_gives : Gives (by_view true) z j (marked_work path job m numbers k).text
        ((lifted (of_plan job.folder) (changed_sequences run p mail job.folder m new) >>= (λ marked. made_current run path job.folder)) >>= (λ marked. cut_last)) (WorkEnds (marked_work path job m numbers k))
    marked_gives =
        subst (λ q. Gives (by_view true) z j (marked_work path job m numbers k).text q (WorkEnds (marked_work path job m numbers k)))
        (sym (then_both (lifted (of_plan job.folder) (changed_sequences run p mail job.folder m new)) (λ marked. made_current run path job.folder) (λ marked. cut_last)))
        (then_gives run few path job.folder first (changed_sequences run p mail job.folder m new) (λ l. after_commits (second l) (cut_work job)) (made_current run path job.folder >>= (λ marked. cut_last)) ns z j
        (sequences_give run few path job.folder clean m new (all_valid (new_marks job numbers) m users) ns k c z j is holds [])
        (λ e y i same f. current_gives e y i same f))

  -- the work on a folder that was begun
  module _ (listing : List Run) (m : Marked) (users : AreSequences m.users) (k : Kept) (c : Contents) (j : Hand) (holds : Holds Clear path k c j)
      (stands : (n : ℕ) → is_some (message_at k.mailbox p n) ≡ has listing n) where
    abbrev top : ℕ
    top = top_of listing

    roomy : IsRoomy c p top
    roomy = record {
      there = holds.still.there;
      free = holds.still.free;
      above = λ n lt le. none_stands c path job.folder n holds.still.there (is_number_of n (omega (arith, lt), omega (arith, le))) (ap (λ x. is_some (message_at x p n)) holds.shows ∙ (stands n ∙ listed_not listing n lt));
    }

    -- what the first pass finds decides
    record IsGood (o : Option (List ℕ)) (size : DropSize) (w : Work CommandFault) : Type 0 where
      pub bytes : List ℕ
      pub there : o ≡ Some bytes
      pub is_one : is_drop bytes ≡ true
      pub short : first_long (messages bytes) ≡ None
      pub size_is : size ≡ record { length = length bytes; messages = length (messages bytes) }
      pub room : top + length (messages bytes) ≤ 999999
      pub work : w ≡ taken_work path job (top + 1) (messages bytes) m k

    record IsRefused (e : CommandFault) (w : Work CommandFault) : Type 0 where
      pub refusal_ : Refusal
      pub is_refusal : e ≡ fault.Refused refusal_
      pub work : w ≡ refused_at k.mailbox e

    abbrev DecidesWork : Option (List ℕ) → Result DropSize CommandFault → Work CommandFault → Type 0
    DecidesWork o (Ok size) w = IsGood o size w
    DecidesWork o (Err e) w = IsRefused e w

    refuse : (r : Refusal) → IsRefused (fault.Refused r) (refused_at k.mailbox (fault.Refused r))
    refuse r = record { refusal_ = r; is_refusal = refl; work = refl }

    by_room : (d : List ℕ) → is_drop d ≡ true → first_long (messages d) ≡ None → (b : Bool) → nat_le (top + length (messages d)) 999999 ≡ b
        → DecidesWork (Some d) (room_size b job.folder (record { length = length d; messages = length (messages d) })) (room_work b path job top (messages d) m k)
    by_room d one short true e = record { bytes = d; there = refl; is_one = one; short = short; size_is = refl; room = grind (arith, nat_tests, e); work = refl }
    by_room d one short false e = refuse (refusal.Full job.folder)

    by_short : (d : List ℕ) → is_drop d ≡ true → (o : Option ℕ) → first_long (messages d) ≡ o → DecidesWork (Some d) (room_of job.folder top (size_if true o d)) (short_work o path job top (messages d) m k)
    by_short d one None e = by_room d one e (nat_le (top + length (messages d)) 999999) refl
    by_short d one (Some l) e = refuse (refusal.TooLarge l LIMIT)

    by_drop : (d : List ℕ) (b : Bool) → is_drop d ≡ b → DecidesWork (Some d) (room_of job.folder top (size_if b (first_long (messages d)) d)) (drop_work b path job top (messages d) m k)
    by_drop d true e = by_short d e (first_long (messages d)) refl
    by_drop d false e = refuse refusal.NotADrop

    by_length : (d : List ℕ) (b : Bool)
        → DecidesWork (Some d) (room_of job.folder top (counted_of (long_read b d))) (if b then refused_at k.mailbox (fault.Refused (refusal.TooLarge (length d) LONGEST)) else drop_work (is_drop d) path job top (messages d) m k)
    by_length d true = refuse (refusal.TooLarge (length d) LONGEST)
    by_length d false = by_drop d (is_drop d) refl

    by_bytes : (d : List ℕ) (b : Bool)
        → DecidesWork (Some d) (room_of job.folder top (counted_of (empty_read b d)))
        (if b then refused_at k.mailbox (fault.Refused refusal.NoMail) else (if nat_lt LONGEST (length d) then refused_at k.mailbox (fault.Refused (refusal.TooLarge (length d) LONGEST)) else drop_work (is_drop d) path job top (messages d) m k))
    by_bytes d true = refuse refusal.NoMail
    by_bytes d false = by_length d (nat_lt LONGEST (length d))

    by_file : (o : Option (List ℕ)) → DecidesWork o (room_value job.folder top o) (file_work path job top o m k)
    by_file None = refuse refusal.NoMail
    by_file (Some d) = by_bytes d (length d == 0)

    abbrev telling : Telling
    telling = telling_of job m.cur

    abbrev whole : Work CommandFault
    whole = opened_work path job listing m k

    drop_is : k.mailbox.outside job.drop ≡ c.outside job.drop
    drop_is = ap (λ o. o job.drop) (sym (outside_shown c k.mailbox holds.shows))

    decided : DecidesWork (c.outside job.drop) (room_value job.folder top (c.outside job.drop)) whole
    decided = subst (λ o. DecidesWork (c.outside job.drop) (room_value job.folder top (c.outside job.drop)) (file_work path job top o m k)) (sym drop_is) (by_file (c.outside job.drop))

    -- the drop's messages are taken in, and marked
    module _ (ns : List ℕ) (z : View) (is : Is true ns z c) (d : List ℕ) (there : c.outside job.drop ≡ Some d) (is_one : is_drop d ≡ true) (short : first_long (messages d) ≡ None) (room : top + length (messages d) ≤ 999999) where
      abbrev numbers : List ℕ
      numbers = numbers_up (top + 1) (length (messages d))

      abbrev later_kept : Kept
      later_kept = stored_in path job (top + 1) (messages d) k

      abbrev later_contents : Contents
      later_contents = all_put c p (top + 1) (messages d)

      abbrev last_work : Work CommandFault
      last_work = marked_work path job m numbers later_kept

      abbrev taken : Work CommandFault
      taken = taken_work path job (top + 1) (messages d) m k

      few_numbers : top + 1 + length (messages d) ≤ 1000000
      few_numbers = omega (arith, room)

      context_stays : later_contents.texts mail context_name ≡ c.texts mail context_name
      context_stays = all_context (messages d) c p mail (top + 1) (omega arith) few_numbers

      later_roomy : IsRoomy later_contents p (top + length (messages d))
      later_roomy = all_roomy (messages d) c p top room roomy

      holds_then : (i : Hand) → i.context ≡ j.context → Holds Clear path later_kept later_contents i
      holds_then i same = record {
        shows = all_show (messages d) c path job.folder (top + 1) (omega arith) few_numbers ∙ ap (λ x. with_folder_changed x p (with_messages (top + 1) (messages d))) holds.shows;
        entries = holds.entries ∙ sym (ap (λ t. entries_in (filled t)) context_stays);
        known = same ∙ holds.known;
        short = subst (IsShort LIMIT_BYTES) (sym context_stays) holds.short;
        still = record { there = later_roomy.there; free = later_roomy.free };
      }

      abbrev Takes : View → Hand → List ℕ → Result Taken CommandFault → Type 0
      Takes = TakesDrop run few job.folder p telling job.drop d is_one short c there top roomy room j last_work.text

      heading_some : heading job.folder ≡ [] → ⊥
      unfolding heading
      heading_some e = cc (e)

      told_gives : (b : Bool) → job.silent ≡ b
          → Gives (by_view true) z j (text_unless b job.folder (telling.line (top + 1)) (top + 1) (messages d) ++ last_work.text)
          (heading_told b job.folder >>= (λ done. drop_taken (where_of run job.folder p telling) job.drop (length d) (length (messages d)) top)) Takes
      unfolding bind ◌>>=◌
      told_gives true e = subst (λ s. Gives (by_view true) z j (told s (lines_from (telling.line (top + 1)) (top + 1) (messages d)) ++ last_work.text) (drop_taken (where_of run job.folder p telling) job.drop (length d) (length (messages d)) top) Takes) e passes
        where
          passes : Gives (by_view true) z j (told telling.silent (lines_from (telling.line (top + 1)) (top + 1) (messages d)) ++ last_work.text) (drop_taken (where_of run job.folder p telling) job.drop (length d) (length (messages d)) top) Takes
          passes = drop_gives run few job.folder p telling job.drop d is_one short c there top roomy room j last_work.text ns z is
      told_gives false e =
          say_view (by_view true) z of_sink (heading job.folder) (lines_from (telling.line (top + 1)) (top + 1) (messages d) ++ last_work.text) ((heading job.folder ++ lines_from (telling.line (top + 1)) (top + 1) (messages d)) ++ last_work.text) j
          (λ done. drop_taken (where_of run job.folder p telling) job.drop (length d) (length (messages d)) top) Takes heading_some
          (append_assoc (heading job.folder) (lines_from (telling.line (top + 1)) (top + 1) (messages d)) last_work.text)
          (subst (λ s. Gives (by_view true) z j (told s (lines_from (telling.line (top + 1)) (top + 1) (messages d)) ++ last_work.text) (drop_taken (where_of run job.folder p telling) job.drop (length d) (length (messages d)) top) Takes) e
          (drop_gives run few job.folder p telling job.drop d is_one short c there top roomy room j last_work.text ns z is))

      behind_ends : (y : View) (i : Hand) (left : List ℕ) (r : Result Unit CommandFault) → WorkEnds last_work y i left r → WorkEnds taken y i left r
      behind_ends y i left (Ok u) e = e
      behind_ends y i left (Err (fault.Refused r)) e = e
      behind_ends y i left (Err (fault.Faulted which)) e = e
      behind_ends y i left (Err (fault.Locked q)) e = e
      behind_ends y i left (Err (fault.Meddled q x)) e = e
      behind_ends y i left (Err fault.Memory) e = e

      abbrev then_marked : List ℕ → Plan (Result Unit CommandFault)
      then_marked found = (lifted (of_plan job.folder) (changed_sequences run p mail job.folder m (marked_by_all (new_marks job found) m)) >>= (λ marked. made_current run path job.folder)) >>= (λ marked. cut_if job.truncate job.drop (length d))

      pub taken_gives : Gives (by_view true) z j taken.text
          ((heading_told job.silent job.folder >>= (λ done. drop_taken (where_of run job.folder p telling) job.drop (length d) (length (messages d)) top)) >>= (λ t. then_marked t.numbers)) (WorkEnds taken)
      taken_gives =
          gives_on (by_view true) z j taken.text (heading_told job.silent job.folder >>= (λ done. drop_taken (where_of run job.folder p telling) job.drop (length d) (length (messages d)) top)) (λ t. then_marked t.numbers) Takes (WorkEnds taken)
          (told_gives job.silent refl)
          (λ y i left t g.
          subst (λ found. Gives (by_view true) y i left (then_marked found) (WorkEnds taken)) (sym g.numbers)
          (subst (λ x. Gives (by_view true) y i x (then_marked numbers) (WorkEnds taken)) (sym g.rest)
          (gives_more (by_view true) y i last_work.text (then_marked numbers) (WorkEnds last_work) (WorkEnds taken)
          (marked_gives m users numbers y.numbers later_kept later_contents y i g.is (holds_then i g.context) d (ap (λ o. o job.drop) (all_outside (messages d) c p (top + 1)) ∙ there))
          behind_ends)))
          (λ y i left e f. subst (λ x. WorkEnds taken y i left (Err x)) (sym f) tt)

    abbrev then_told : DropSize → Plan (Result Unit CommandFault)
    then_told size =
        (heading_told job.silent job.folder >>= (λ done. drop_taken (where_of run job.folder p telling) job.drop size.length size.messages top))
        >>= (λ t. (lifted (of_plan job.folder) (changed_sequences run p mail job.folder m (marked_by_all (new_marks job t.numbers) m)) >>= (λ marked. made_current run path job.folder)) >>= (λ marked. cut_if job.truncate job.drop size.length))

    pub opened_gives : (ns : List ℕ) (z : View) → Is true ns z c → Gives (by_view true) z j whole.text (room_counted job.folder job.drop top >>= then_told) (WorkEnds whole)
    opened_gives ns z is =
        comes_on ns c j whole.text z (room_counted job.folder job.drop top) then_told (room_value job.folder top (c.outside job.drop)) (WorkEnds whole)
        (room_comes ns c job.drop j whole.text job.folder top z is)
        (λ y size same at. good y size at (subst (λ v. DecidesWork (c.outside job.drop) v whole) same decided))
        (λ y e same at. bad y e at (subst (λ v. DecidesWork (c.outside job.drop) v whole) same decided))
      where
        good : (y : View) (size : DropSize) → Is true ns y c → IsGood (c.outside job.drop) size whole → Gives (by_view true) y j whole.text (then_told size) (WorkEnds whole)
        good y size at g =
            subst (λ s. Gives (by_view true) y j whole.text (then_told s) (WorkEnds whole)) (sym g.size_is)
            (subst (λ w. Gives (by_view true) y j w.text (then_told (record { length = length g.bytes; messages = length (messages g.bytes) })) (WorkEnds w)) (sym g.work)
            (taken_gives ns y at g.bytes g.there g.is_one g.short g.room))

        bad : (y : View) (e : CommandFault) → Is true ns y c → IsRefused e whole → WorkEnds whole y j whole.text (Err e)
        bad y e at g =
            subst (λ x. WorkEnds whole y j whole.text (Err x)) (sym g.is_refusal)
            (ap (λ w. w.text) g.work, ap (λ w. w.end) g.work ∙ ap Err g.is_refusal, ap mailbox_in (at.0 refl) ∙ (holds.shows ∙ sym (ap (λ w. w.mailbox) g.work)))

  pub opened_at : (o : Opened) (z : View) (j : Hand) (f : IsOpen path job.folder o z j) → Gives (by_view true) z j (opened_work path job o.listing o.sequences f.kept).text (opened_incorporated run path job o) (WorkEnds (opened_work path job o.listing o.sequences f.kept))
  unfolding opened_incorporated told_taken new_marked
  opened_at o z j f =
      subst (λ x. Gives (by_view true) z j (opened_work path job o.listing o.sequences f.kept).text (opened_incorporated run path job x) (WorkEnds (opened_work path job o.listing o.sequences f.kept))) (sym same)
      (opened_gives o.listing o.sequences f.valid f.kept f.contents j f.holds f.stands f.later z f.is)
    where
      same : o ≡ opened_of p job.folder o.listing o.sequences o.ends
      same = λ i. record { place = f.place i; folder = f.name i; listing = o.listing; sequences = o.sequences; ends = o.ends }

  -- the whole, where the context has these entries and its text is not too long
  module _ (c : Contents) (bare : IsBare c) (entries : List NamedValue) (entries_are : entries ≡ entries_at c mail) (short : IsShort LIMIT_BYTES (c.texts mail context_name)) where
    pub inc_gives : (h : Homes) → AreHomesAt run ((mailbox_in (with_folder c p)).folders p) h → (ns : List ℕ) (v : View) (hand : Hand) → IsUntouched ns p c hand v hand
        → Gives (by_view true) v hand (inc_work path entries h job (mailbox_in c)).text (inc run path job) (WorkEnds (inc_work path entries h job (mailbox_in c)))
    unfolding inc inc_work
    inc_gives h are ns v hand untouched =
        subst (λ m. Gives (by_view true) v hand (begun_work path job.folder entries h m (opened_work path job)).text
        (lifted (of_plan job.folder) (made_begun run p mail job.folder) >>= (λ o. bind (opened_incorporated run path job o) (ended p))) (WorkEnds (begun_work path job.folder entries h m (opened_work path job))))
        (shows_folder_made c p (λ q is no. bare q no))
        (made_give run few path job.folder clean c entries entries_are short h are ns v hand untouched (opened_work path job) (opened_incorporated run path job) opened_at)
