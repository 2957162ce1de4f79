-- What `folder -pack` gives alone: what it comes to on the mailbox that it finds.
use Rattle.std.proofs.Common.{◌≡◌, ◌<◌, ◌^◌, ℕ, true, false, List, [], ◌∷◌, Option, Some, None, Result, Ok, Err, refl, sym, ◌∙◌, ap, subst, append-nil}
use Rattle.std.specs.Prelude.{decimal, is_some}
use Rattle.std.specs.List.{list_all}
use Rattle.std.specs.Str.{encode_utf8_all}
use Rattle.mail_headers.specs.Lines.{is_name_byte}
use Rattle.mh_base.specs.Folders.{is_folder_name}
use Rattle.mh_base.specs.Numbers.{IsMsgNum}
use Rattle.mh_profile.specs.declared.named_value.NamedValue.{NamedValue}
use Rattle.mh_sequences.specs.Reading.{suffix}
use Rattle.mh_sequences.specs.Runs.{has, numbers_of}
use Rattle.mh_sequences.specs.Sequences.{Marked}
use Rattle.msg_ranges.proofs.Rising.{lists_numbers}
use Rattle.folder_files.specs.declared.place.Place.{Place}
use Rattle.folder_files.specs.declared.place.Place.TheVariants.{Folder, Mail}
use Rattle.file_plans.specs.Contents.{Contents, mailbox_in}
use Rattle.file_plans.specs.Giving.{Gives}
use Rattle.file_plans.specs.Mailboxes.{Folder as FolderValue}
use Rattle.file_plans.specs.Plan.{Hand, Plan, bind, converted, lifted, say, ◌>>=◌}
use Rattle.file_plans.specs.Views.{View, by_view}
use Rattle.file_plans.proofs.Giving.{gives_on}
use Rattle.file_plans.proofs.Onward.{Is, IsShort}
use Rattle.step_plans.specs.ContextCommit.{LIMIT_BYTES, context_name}
use Rattle.step_plans.specs.declared.command_fault.CommandFault.{CommandFault}
use Rattle.step_plans.specs.declared.fault.PlanFault.{PlanFault}
use Rattle.step_plans.specs.declared.fault.PlanFault.TheVariants as plan
use Rattle.step_plans.proofs.Committed.{entries_at}
use Rattle.command_stages.specs.Current.{made_current}
use Rattle.command_stages.specs.Endings.{of_plan}
use Rattle.command_stages.specs.Works.{Work}
use Rattle.message_places.specs.Places.{AreMsgNums, froms, is_in, slots}
use Rattle.message_places.specs.declared.moves.Move.{Move}
use Rattle.message_places.proofs.InOrder.{slot_unlisted}
use Rattle.message_places.proofs.NumberLists.{in_good}
use Rattle.opening_plans.specs.BegunWork.{AreHomesAt, Homes, current_work}
use Rattle.opening_plans.specs.Kept.{Commits, Kept, sequences_kept}
use Rattle.opening_plans.specs.Opening.{Opened, opened_of}
use Rattle.opening_plans.proofs.FolderGiven.{IsUntouched}
use Rattle.opening_plans.proofs.KeptGiven.{Holds, IsClear}
use Rattle.opening_plans.proofs.KeptMessages.{message_at, message_of, sequences_messages}
use Rattle.opening_plans.proofs.WorkGiven.{IsOpen, WorkEnds, changes_give, current_gives, lifted_gives, weaker}
use Rattle.told_folders.specs.Plans.{lines_said}
use Rattle.folder_command.proofs.Orderly.{summary_some}
use Rattle.refile_plans.specs.MailMoved as mail_moved
use Rattle.refile_plans.proofs.MovedShown.{message_shown}
use Rattle.sortm_plans.specs.Moving.{sequences_after}
use Rattle.sortm_plans.proofs.MarkedGiven as stage
use Rattle.sortm_plans.proofs.MarkedGiven.{EndsAt}
use Rattle.pack_plans.specs.Pack.{line_after, line_told, opened_packed, pack, renumbered}
use Rattle.pack_plans.specs.PackOutcome.{mail_packed, moved_at, opened_work, pack_work}
use Rattle.pack_plans.specs.Places.{listing_moves, packed_listing, places_of}
use Rattle.pack_plans.specs.declared.job.PackJob.{PackJob}
use Rattle.pack_plans.proofs.PackMoves.{meant_distinct, meant_good, moving_distinct, moving_good, moving_listed, places_distinct, places_many}
use Rattle.refile_plans.specs.Rmm.{withdrawn}
use Rattle.refile_plans.proofs.RefiledOpened.{after_all, after_long}
use Rattle.told_folders.proofs.FoldersGiven.{Told}

-- one message, as two layers have it
same_message : (o : Option FolderValue) (n : ℕ) → message_of o n ≡ mail_moved.message_of o n
same_message None n = refl
same_message (Some f) n = refl

is_none : {A : Type 0} (o : Option A) → is_some o ≡ false → o ≡ None
is_none None e = refl
is_none (Some a) e = cc (e)

line_gives : (v : View) (h : Hand) (line : List ℕ) → (line ≡ [] → ⊥) → Gives (by_view true) v h line (lines_said (line ∷ [])) (Told v h)
unfolding Gives lines_said say lifted bind ◌>>=◌
line_gives v h line some = (some, ([], sym (append-nil line), (refl, refl, refl, refl)))

module _ (run : ℕ) (few : run < 2 ^ 128) (path : List ℕ) (job : PackJob) (valid : is_folder_name job.folder ≡ true) (clean : list_all is_name_byte (suffix job.folder) ≡ true) where
  abbrev p : Place
  p = Folder path job.folder

  abbrev mail : Place
  mail = Mail path

  abbrev Clear : Contents → Type 0
  Clear c = IsClear c p

  -- how commits ended decides; messages that moved ended at their slots
  abbrev EndsHere : List Move → Commits → View → Hand → Result (List ℕ) PlanFault → Type 0
  EndsHere ms commits y i r = EndsAt run few path job.folder clean ms commits y i r

  -- the work on a folder that was begun
  module _ (o : Opened) (z : View) (j : Hand) (f : IsOpen path job.folder o z j) where
    abbrev k : Kept
    k = f.kept

    abbrev m : Marked
    m = o.sequences

    abbrev opened : Opened
    opened = opened_of p job.folder o.listing m o.ends

    -- a message stands at each number that is listed, and at no other
    shown : (d : Contents) (l : Kept) → mailbox_in d ≡ l.mailbox → d.there p ≡ true → ((n : ℕ) → message_at l.mailbox p n ≡ message_at k.mailbox p n) → (n : ℕ) → IsMsgNum n → is_some (d.texts p (decimal n)) ≡ has o.listing n
    shown d l shows there same n ok =
        ap is_some (sym (message_shown d path job.folder n there ok)) ∙ (ap is_some (sym (same_message ((mailbox_in d).folders p) n)) ∙ (ap (λ x. is_some (message_at x p n)) shows ∙ (ap is_some (same n) ∙ f.stands n)))

    -- the messages that move
    abbrev all_moves : List Move
    all_moves = listing_moves o.listing

    abbrev takes : List ℕ
    takes = froms all_moves

    abbrev first : Commits
    first = sequences_kept path job.folder m (withdrawn takes m) k

    first_same : (n : ℕ) → message_at first.kept.mailbox p n ≡ message_at k.mailbox p n
    first_same n = sequences_messages path job.folder m (withdrawn takes m) k p n

    good_takes : AreMsgNums takes
    good_takes = moving_good o.listing f.runs

    good_slots : AreMsgNums (slots all_moves)
    good_slots = meant_good o.listing f.runs

    -- each stands there still, once the sequences are without it, and its slot is free or one of theirs
    stand_then : (d : Contents) → mailbox_in d ≡ first.kept.mailbox → d.there p ≡ true → (n : ℕ) → is_in n takes ≡ true → is_some (d.texts p (decimal n)) ≡ true
    stand_then d shows there n e = shown d first.kept shows there first_same n (in_good takes good_takes n e) ∙ moving_listed o.listing f.runs n e

    free_then : (d : Contents) → mailbox_in d ≡ first.kept.mailbox → d.there p ≡ true → (n : ℕ) → is_in n (slots all_moves) ≡ true → is_in n takes ≡ false → d.texts p (decimal n) ≡ None
    free_then d shows there n e off =
        is_none (d.texts p (decimal n)) (shown d first.kept shows there first_same n (in_good (slots all_moves) good_slots n e)
        ∙ (sym (lists_numbers o.listing n) ∙ slot_unlisted (numbers_of o.listing) (places_of (numbers_of o.listing)) (sym (places_many (numbers_of o.listing))) (places_distinct (numbers_of o.listing)) n e off))

    abbrev commits : Commits
    commits = mail_packed run path job.folder m all_moves k

    -- they come to stand at their slots, and the sequences have them again
    moved_gives : Gives (by_view true) z j [] (renumbered run mail opened all_moves) (λ y i left r. EndsHere all_moves commits y i r)
    moved_gives =
        stage.moved_gives run few path job.folder clean o z j f takes good_takes (moving_distinct o.listing f.runs) all_moves good_takes (moving_distinct o.listing f.runs) good_slots (meant_distinct o.listing f.runs) (λ n. refl) (moved_at run all_moves) (λ g. refl)
        stand_then free_then all_moves refl

    abbrev line : List ℕ
    line = line_after job o.listing m (slots all_moves)

    abbrev next : Kept → Work CommandFault
    next = current_work path job.folder line

    abbrev work : Work CommandFault
    work = opened_work run path job o.listing m k

    line_some : line ≡ [] → ⊥
    line_some e = summary_some (encode_utf8_all job.folder) (numbers_of (packed_listing o.listing (slots all_moves))) (sequences_after all_moves (slots all_moves) m).cur e

    -- then the line is said, and the folder becomes the current one
    said_gives : (y : View) (i : Hand) → commits.long ≡ None → (d : Contents) → Is true y.numbers y d → Holds Clear path commits.kept d i
        → Gives (by_view true) y i work.text (lines_said (line ∷ []) >>= (λ told. made_current run path job.folder)) (WorkEnds work)
    said_gives y i none d at holds =
        subst (λ x. Gives (by_view true) y i x.text (lines_said (line ∷ []) >>= (λ told. made_current run path job.folder)) (WorkEnds x)) (sym (after_all commits next none))
        (gives_on (by_view true) y i line (lines_said (line ∷ [])) (λ told. made_current run path job.folder) (Told y i) (WorkEnds (next commits.kept)) (line_gives y i line line_some)
        (λ w h left u g. rw (g.1, g.2, g.3) (current_gives run few path job.folder valid y.numbers line commits.kept d y i at (weaker run few path job.folder Clear commits.kept d i holds)))
        (λ w h left e g. absurd (cc (g.0))))

    refused_then : (y : View) (i : Hand) (left : List ℕ) (e : PlanFault) → left ≡ work.text → EndsHere all_moves commits y i (Err e) → WorkEnds work y i left (Err (of_plan job.folder e))
    refused_then y i left plan.Faulted same g = g
    refused_then y i left (plan.Locked q) same g = absurd g
    refused_then y i left (plan.Meddled q x) same g = g
    refused_then y i left plan.Full same g = absurd g
    refused_then y i left (plan.Absent q) same g = absurd g
    refused_then y i left (plan.TooLarge l) same g =
        let w = after_long commits next l g.0 in
        (same ∙ ap (λ x. x.text) w, ap (λ x. x.end) w, g.1 ∙ sym (ap (λ x. x.mailbox) w))
    refused_then y i left plan.Memory same g = tt

    abbrev then_said : List ℕ → Plan (Result Unit CommandFault)
    then_said ends = lines_said (line_after job o.listing m ends ∷ []) >>= (λ told. made_current run path job.folder)

    good : (y : View) (i : Hand) (left ends : List ℕ) (q : Result (List ℕ) PlanFault) → left ≡ work.text → Ok ends ≡ converted (of_plan job.folder) q → EndsHere all_moves commits y i q → Gives (by_view true) y i left (then_said ends) (WorkEnds work)
    good y i left ends (Ok es) same r g =
        let is : es ≡ ends = cc (r) in
        subst (λ t. Gives (by_view true) y i t (then_said ends) (WorkEnds work)) (sym same)
        (subst (λ t. Gives (by_view true) y i work.text (then_said t) (WorkEnds work)) (sym g.0 ∙ is) (said_gives y i g.1.0 g.1.1.0 g.1.1.1 g.1.1.2))
    good y i left ends (Err x) same r g = absurd (cc (r))

    bad : (y : View) (i : Hand) (left : List ℕ) (e : CommandFault) (q : Result (List ℕ) PlanFault) → left ≡ work.text → Err e ≡ converted (of_plan job.folder) q → EndsHere all_moves commits y i q → WorkEnds work y i left (Err e)
    bad y i left e (Ok u) same r g = absurd (cc (r))
    bad y i left e (Err x) same r g = let is : e ≡ of_plan job.folder x = cc (r) in subst (λ q. WorkEnds work y i left (Err q)) (sym is) (refused_then y i left x same g)

    same_opened : o ≡ opened
    same_opened = λ i. opened_of (f.place i) (f.name i) o.listing o.sequences o.ends

    at_opened : Gives (by_view true) z j work.text (opened_packed run path job opened) (WorkEnds work)
    unfolding opened_packed line_told
    at_opened =
        gives_on (by_view true) z j work.text (lifted (of_plan job.folder) (renumbered run mail opened all_moves)) then_said
        (λ y i left r. (left ≡ work.text) × ((q : Result (List ℕ) PlanFault) × (r ≡ converted (of_plan job.folder) q) × EndsHere all_moves commits y i q)) (WorkEnds work)
        (lifted_gives z j work.text (of_plan job.folder) (renumbered run mail opened all_moves) (λ y i left r. EndsHere all_moves commits y i r) moved_gives)
        (λ y i left ends g. good y i left ends g.1.0 g.0 g.1.1 g.1.2)
        (λ y i left e g. bad y i left e g.1.0 g.0 g.1.1 g.1.2)

    pub opened_gives : Gives (by_view true) z j work.text (opened_packed run path job o) (WorkEnds work)
    opened_gives = subst (λ x. Gives (by_view true) z j work.text (opened_packed run path job x) (WorkEnds work)) (sym same_opened) at_opened

-- the whole, where the context has these entries and its text is not too long
pub pack_gives : (run : ℕ) → run < 2 ^ 128 → (path : List ℕ) (job : PackJob) → is_folder_name job.folder ≡ true → list_all is_name_byte (suffix job.folder) ≡ true → (c : Contents) (entries : List NamedValue) → entries ≡ entries_at c (Mail path) → IsShort LIMIT_BYTES (c.texts (Mail path) context_name)
    → (h : Homes) → AreHomesAt run ((mailbox_in c).folders (Folder path job.folder)) h → (ns : List ℕ) (v : View) (hand : Hand) → IsUntouched ns (Folder path job.folder) c hand v hand
    → Gives (by_view true) v hand (pack_work run path entries h job (mailbox_in c)).text (pack run path job) (WorkEnds (pack_work run path entries h job (mailbox_in c)))
unfolding pack pack_work
pack_gives run few path job valid clean c entries entries_are short h are ns v hand untouched =
    changes_give run few path job.folder clean c entries entries_are short h are ns v hand untouched (opened_work run path job) (opened_packed run path job) (λ o z j f. opened_gives run few path job valid clean o z j f)
