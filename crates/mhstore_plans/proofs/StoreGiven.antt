-- What `mhstore` gives alone: its parts become files, and it comes to its work.
use Rattle.std.proofs.Common.{◌≡◌, ◌≢◌, ◌<◌, ◌^◌, ◌++◌, ◌∷◌, [], ℕ, Bool, true, false, List, Option, Some, None, Result, Ok, Err, map, length, refl, sym, ◌∙◌, ap, subst, arith, nat_lt}
use Rattle.std.specs.Prelude.{codes, decimal, is_some}
use Rattle.std.proofs.lemmas.Bool.Decides.{Decides-ltb}
use Rattle.mh_base.specs.Entries.{entry_text, kind_of}
use Rattle.mh_base.specs.Numbers.{IsMsgNum, number_of}
use Rattle.mh_base.specs.declared.entry.Entry.TheVariants.{Number}
use Rattle.mh_profile.specs.declared.named_value.NamedValue.{NamedValue}
use Rattle.folder_files.specs.Named.{is_other, is_temp}
use Rattle.folder_files.specs.Steps.{read_file_answer}
use Rattle.folder_files.specs.declared.place.Place.{Place}
use Rattle.folder_files.specs.declared.place.Place.TheVariants as place
use Rattle.folder_files.specs.declared.refusal.Refusal.TheVariants as refusal
use Rattle.folder_files.specs.declared.step.Answer.{Answer}
use Rattle.folder_files.specs.declared.step.Answer.TheVariants as answer
use Rattle.folder_files.specs.declared.step.Step.TheVariants as step
use Rattle.file_plans.specs.Contents.{Contents, folder_at, mailbox_in, with_text}
use Rattle.file_plans.specs.Giving.{Gives}
use Rattle.file_plans.specs.Mailboxes.{Mailbox, is_message_number}
use Rattle.file_plans.specs.Plan.{Hand, bind, converted, lifted, say, ◌>>=◌}
use Rattle.file_plans.specs.Views.{View, by_view, fits_view}
use Rattle.file_plans.proofs.Existing.{bytes_turned}
use Rattle.file_plans.proofs.Giving.{gives_on}
use Rattle.file_plans.proofs.Onward.{Is, temp_apart}
use Rattle.file_plans.proofs.Showing.{number_ok}
use Rattle.file_plans.proofs.Viewing.{read_view}
use Rattle.step_plans.specs.CommandFaults.{of_stop}
use Rattle.step_plans.specs.ContextCommit.{LIMIT_BYTES}
use Rattle.step_plans.specs.Hands.{temp_name, used}
use Rattle.step_plans.specs.declared.command_fault.CommandFault.{CommandFault}
use Rattle.step_plans.specs.declared.command_fault.CommandFault.TheVariants as fault
use Rattle.step_plans.specs.declared.fault.PlanFault.{PlanFault}
use Rattle.step_plans.specs.declared.fault.PlanFault.TheVariants as plan
use Rattle.step_plans.proofs.Named.{temp_is}
use Rattle.step_plans.proofs.Replaced.{Fails}
use Rattle.command_stages.specs.Endings.{of_plan}
use Rattle.command_stages.specs.Texts.{too_large}
use Rattle.command_stages.specs.Works.{Work}
use Rattle.mh_looks.proofs.Reading.{after_read}
use Rattle.opening_plans.proofs.WorkGiven.{WorkEnds, lifted_gives}
use Rattle.told_folders.specs.Plans.{lines_said}
use Rattle.part_rows.specs.Choices.{first_missing, stored}
use Rattle.part_rows.specs.FileNames.{StoredFile, file_of, files_of, line_for}
use Rattle.part_rows.specs.PartViews.{PartView, parts_of}
use Rattle.part_rows.specs.PathTexts.{path_text}
use Rattle.told_folders.proofs.MessagesStand.{AllStand, Stands, Says, says_it}
use Rattle.mhstore_plans.specs.Files.{file_stored}
use Rattle.mhstore_plans.specs.StoreOutcome.{file_work, files_work, message_work, messages_work, parts_work, stored_work, unless_there, with_file}
use Rattle.mhstore_plans.specs.Storing.{all_filed, all_stored, filed_unless, one_filed, one_stored, parts_filed, stored_by, told_by}
use Rattle.mhstore_plans.specs.declared.job.StoreJob.{StoreJob}
use Rattle.mhstore_plans.proofs.FileGiven.{Stores, stores_give}
use Rattle.mhstore_plans.proofs.NameKinds.{file_lasting, file_other, file_unnumbered}
use Rattle.mhstore_plans.proofs.PartsGiven.{At, PartEnds, PartGives, text_then, then_gives}
use Rattle.mh_looks.specs.Outcomes.{text_of}

-- a new file in the current directory is one in the mailbox
shows_file : (d : Contents) (name b : List ℕ) → mailbox_in (with_text d place.Work name (Some b)) ≡ with_file name b (mailbox_in d)
unfolding mailbox_in
shows_file d name b = λ i. record { folders = λ p. folders_same p i; home = λ x. d.texts place.Home x; work = λ x. if_same x i; context = λ p. context_same p i; outside = d.outside }
  where
    new : Contents
    new = with_text d place.Work name (Some b)

    folders_same : (p : Place) → (mailbox_in new).folders p ≡ (mailbox_in d).folders p
    folders_same place.Home = refl
    folders_same place.Work = refl
    folders_same (place.Mail path) = refl
    folders_same (place.Folder path folder) = refl

    if_same : (x : List ℕ) → (mailbox_in new).work x ≡ (with_file name b (mailbox_in d)).work x
    if_same x = refl

    context_same : (p : Place) → (mailbox_in new).context p ≡ (mailbox_in d).context p
    context_same place.Home = refl
    context_same place.Work = refl
    context_same (place.Mail path) = refl
    context_same (place.Folder path folder) = refl

line_some : (a : List ℕ) → (a ++ 10 ∷ []) ≡ [] → ⊥
line_some [] e = cc
line_some (x ∷ a) e = cc

-- a file whose name is none of the mailbox's own kinds, and whose line says something
pub record IsFine (f : StoredFile) : Type 0 where
  pub lasting : is_temp (kind_of f.name) ≡ false
  pub other : is_other (kind_of f.name) ≡ true
  pub unnumbered : number_of f.name ≡ None
  pub some : f.line ≢ []

abbrev pub AreFine : List StoredFile → Type 0
AreFine [] = Unit {0}
AreFine (f ∷ fs) = IsFine f × AreFine fs

pub fine_parts : (n : ℕ) → IsMsgNum n → (parts : List PartView) → AreFine (map (file_of n) parts)
unfolding line_for
fine_parts n is [] = tt
fine_parts n is (p ∷ parts) = (record { lasting = file_lasting n is p.path p.subtype; other = file_other n is p.path p.subtype; unnumbered = file_unnumbered n is p.path p.subtype; some = line_is (file_of n p).name }, fine_parts n is parts)
  where
    line_is : (name : List ℕ) → line_for n p.path name ≢ []
    line_is name e = line_some (codes "storing message " ++ decimal n ++ codes " part " ++ path_text p.path ++ codes " as file " ++ name) e

module _ (run : ℕ) (few : run < 2 ^ 128) (job : StoreJob) (c : Contents) (known : Option (List NamedValue)) (ns : List ℕ) where
  -- one file
  module _ (f : StoredFile) (fine : IsFine f) (d : Contents) (m : Mailbox) (z : View) (h : Hand) (is : Is true ns z d) (at : At run c known d m h) (rest : List ℕ) where
    abbrev w : Work CommandFault
    w = file_work job.clobber f m

    abbrev new : Contents
    new = with_text d place.Work f.name (Some f.content)

    work_at : (x : List ℕ) → m.work x ≡ d.texts place.Work x
    unfolding mailbox_in
    work_at x = sym (ap (λ (b : Mailbox). b.work x) at.shows)

    is_stored : (b : Bool) → job.clobber ≡ b → (b ≡ false → d.texts place.Work f.name ≡ None) → file_work b f m ≡ stored_work f m
    is_stored true same free = refl
    is_stored false same free = ap (unless_there f m) (work_at f.name ∙ free refl)

    is_refused : (b : Bool) (o : Option (List ℕ)) → b ≡ false → m.work f.name ≡ o → is_some o ≡ true → file_work b f m ≡ record { text = []; end = Err (fault.Refused (refusal.WouldReplace f.name)); mailbox = m }
    is_refused true o same is_ some = absurd (cc (same))
    is_refused false None same is_ some = absurd (cc (some))
    is_refused false (Some t) same is_ some = ap (unless_there f m) is_

    at_new : At run c known new (with_file f.name f.content m) (used h)
    at_new = record {
      shows = shows_file d f.name f.content ∙ ap (with_file f.name f.content) at.shows;
      same = λ q x apart. rw apart (at.same q x apart);
      there = at.there;
      free = λ k le low. rw (bytes_turned (temp_name run k) f.name (temp_apart (temp_name run k) (temp_is run k few ((Decides-ltb k (2 ^ 64)).1 low)) f.name fine.lasting)) (at.free k (omega (arith, le)) low);
      context = at.context;
    }

    says_line : (y : View) (i : Hand) → w ≡ stored_work f m → Is true ns y new → i ≡ used h → Gives (by_view true) y i (text_then w rest) (told_by f.name f.line true) (PartEnds run c known ns w rest)
    unfolding Gives lines_said say lifted bind ◌>>=◌
    says_line y i same here hand =
        subst (λ x. Gives (by_view true) y i (text_then x rest) (told_by f.name f.line true) (PartEnds run c known ns x rest)) (sym same)
        (fine.some, (rest, refl, (refl, refl, (new, here, subst (At run c known new (with_file f.name f.content m)) (sym hand) at_new))))

    refuses : (y : View) (i : Hand) → job.clobber ≡ false → is_some (d.texts place.Work f.name) ≡ true → Is true ns y d → PartEnds run c known ns w rest y i (text_then w rest) (Err (fault.Refused (refusal.WouldReplace f.name)))
    refuses y i never some here =
        subst (λ x. PartEnds run c known ns x rest y i (text_then x rest) (Err (fault.Refused (refusal.WouldReplace f.name)))) (sym (is_refused job.clobber (d.texts place.Work f.name) never (work_at f.name) some))
        (refl, refl, ap mailbox_in (here.0 refl) ∙ at.shows)

    abbrev Stored : View → Hand → List ℕ → Result Bool PlanFault → Type 0
    Stored y i left r = Stores run few d at.there f.name f.content fine.lasting fine.unnumbered ns h (λ low. at.free h.next (omega arith) ((Decides-ltb h.next (2 ^ 64)).0 low)) job.clobber y i left r

    told : (y : View) (i : Hand) (left : List ℕ) (free : Bool) → left ≡ text_then w rest → Stored y i [] (Ok free) → Gives (by_view true) y i left (told_by f.name f.line free) (PartEnds run c known ns w rest)
    unfolding Gives
    told y i left true same s = subst (λ t. Gives (by_view true) y i t (told_by f.name f.line true) (PartEnds run c known ns w rest)) (sym same) (says_line y i (is_stored job.clobber refl s.0) s.1.is s.1.hand)
    told y i left false same s = subst (λ t. PartEnds run c known ns w rest y i t (Err (fault.Refused (refusal.WouldReplace f.name)))) (sym same) (refuses y i s.0 s.1 s.2.is)

    failed : (y : View) (i : Hand) (left : List ℕ) (x : PlanFault) → Fails true h x → WorkEnds w y i left (Err (of_plan job.folder x))
    failed y i left plan.Faulted s = s
    failed y i left (plan.Locked q) s = absurd (s refl)
    failed y i left (plan.Meddled q n) s = absurd (s refl)
    failed y i left plan.Full s = absurd s
    failed y i left (plan.Absent q) s = absurd s
    failed y i left (plan.TooLarge l) s = absurd s
    failed y i left plan.Memory s = tt

    pub file_gives : Gives (by_view true) z h (text_then w rest) (one_filed run job f) (PartEnds run c known ns w rest)
    unfolding one_filed
    file_gives =
        gives_on (by_view true) z h (text_then w rest) (lifted (of_plan job.folder) (file_stored run job.clobber f.name f.content)) (λ free. told_by f.name f.line free)
        (λ y i left r. (left ≡ text_then w rest) × ((q : Result Bool PlanFault) × (r ≡ converted (of_plan job.folder) q) × Stored y i [] q)) (PartEnds run c known ns w rest)
        (lifted_gives z h (text_then w rest) (of_plan job.folder) (file_stored run job.clobber f.name f.content) Stored
        (stores_give run few d at.there f.name f.content fine.lasting fine.unnumbered ns h (λ low. at.free h.next (omega arith) ((Decides-ltb h.next (2 ^ 64)).0 low)) job.clobber z [] is))
        (λ y i left free g. on y i left free g.0 g.1.0 g.1.1 g.1.2) (λ y i left e g. off y i left e g.1.0 g.1.1 g.1.2)
      where
        on : (y : View) (i : Hand) (left : List ℕ) (free : Bool) → left ≡ text_then w rest → (q : Result Bool PlanFault) → Ok free ≡ converted (of_plan job.folder) q → Stored y i [] q → Gives (by_view true) y i left (told_by f.name f.line free) (PartEnds run c known ns w rest)
        on y i left free same (Ok b) r s = let e : b ≡ free = cc (r) in told y i left free same (subst (λ k. Stored y i [] (Ok k)) e s)
        on y i left free same (Err x) r s = absurd (cc (r))

        off : (y : View) (i : Hand) (left : List ℕ) (e : CommandFault) (q : Result Bool PlanFault) → Err e ≡ converted (of_plan job.folder) q → Stored y i [] q → WorkEnds w y i left (Err e)
        off y i left e (Ok b) r s = absurd (cc (r))
        off y i left e (Err x) r s = let k : e ≡ of_plan job.folder x = cc (r) in subst (λ t. WorkEnds w y i left (Err t)) (sym k) (failed y i left x s)

  -- these files
  files_give : (fs : List StoredFile) → AreFine fs → PartGives run c known ns (all_filed run job fs) (files_work job.clobber fs)
  unfolding Gives all_filed files_work
  files_give [] fine d m z h is at rest = (refl, refl, (d, is, at))
  files_give (f ∷ fs) fine d m z h is at rest =
      then_gives run c known ns (one_filed run job f) (all_filed run job fs) (file_work job.clobber f) (files_work job.clobber fs) (λ d_ m_ z_ h_ is_ at_ rest_. file_gives f fine.0 d_ m_ z_ h_ is_ at_ rest_) (files_give fs fine.1) d m z h is at rest

  module _ (path : List ℕ) where
    abbrev folder : Place
    folder = place.Folder path job.folder

    abbrev name_of : ℕ → List ℕ
    name_of n = entry_text (Number n)

    -- the parts of a message
    parts_give : (n : ℕ) (text : List ℕ) (missing : Option (List ℕ)) → IsMsgNum n → PartGives run c known ns (filed_unless run job n text missing) (λ m. parts_work job n text m missing)
    unfolding Gives
    parts_give n text None ok d m z h is at rest = files_give (files_of n job.parts text) (fine_parts n ok (stored job.parts (parts_of text))) d m z h is at rest
    parts_give n text (Some part) ok d m z h is at rest = (refl, refl, ap mailbox_in (is.0 refl) ∙ at.shows)

    -- a message
    module _ (n : ℕ) (s : Stands c folder n) (d : Contents) (m : Mailbox) (z : View) (h : Hand) (is : Is true ns z d) (at : At run c known d m h) (rest : List ℕ) where
      abbrev one : Work CommandFault
      one = message_work job n s.text m

      short_work : nat_lt LIMIT_BYTES (length s.text) ≡ false → one ≡ parts_work job n s.text m (first_missing job.parts (parts_of s.text))
      short_work short = rw short refl

      long_work : nat_lt LIMIT_BYTES (length s.text) ≡ true → one ≡ record { text = []; end = Err (too_large (length s.text)); mailbox = m }
      long_work long = rw long refl

      says_there : (a : Answer) → fits_view true z (step.Read folder (name_of n) LIMIT_BYTES) a → Says s.text a
      unfolding entry_text
      says_there a f = says_it s.text a (f.0 ∙ ap (read_file_answer LIMIT_BYTES) (ap (λ b. b.texts folder (decimal n)) (is.0 refl) ∙ (at.same folder (decimal n) refl ∙ s.there)))

      after : Is true ns (after_read z folder (name_of n)) d
      after = ((λ e. is.0 e), is.1)

      content : (bytes : List ℕ) → bytes ≡ s.text → nat_lt LIMIT_BYTES (length s.text) ≡ false → Gives (by_view true) (after_read z folder (name_of n)) h (text_then one rest) (parts_filed run job n bytes) (PartEnds run c known ns one rest)
      content bytes same short =
          subst (λ t. Gives (by_view true) (after_read z folder (name_of n)) h (text_then one rest) (parts_filed run job n t) (PartEnds run c known ns one rest)) (sym same)
          (subst (λ x. Gives (by_view true) (after_read z folder (name_of n)) h (text_then x rest) (parts_filed run job n s.text) (PartEnds run c known ns x rest)) (sym (short_work short))
          (parts_give n s.text (first_missing job.parts (parts_of s.text)) (number_ok n s.number) d m (after_read z folder (name_of n)) h after at rest))

      long : (l : ℕ) → l ≡ length s.text → nat_lt LIMIT_BYTES (length s.text) ≡ true → PartEnds run c known ns one rest (after_read z folder (name_of n)) h (text_then one rest) (Err (too_large l))
      long l same big =
          subst (λ k. PartEnds run c known ns one rest (after_read z folder (name_of n)) h (text_then one rest) (Err (too_large k))) (sym same)
          (subst (λ x. PartEnds run c known ns x rest (after_read z folder (name_of n)) h (text_then x rest) (Err (too_large (length s.text)))) (sym (long_work big)) (refl, refl, ap mailbox_in (is.0 refl) ∙ at.shows))

      pub message_gives : Gives (by_view true) z h (text_then one rest) (one_stored run job folder n) (PartEnds run c known ns one rest)
      unfolding Gives one_stored bind ◌>>=◌
      message_gives =
          read_view true z of_stop h (text_then one rest) (PartEnds run c known ns one rest) folder (name_of n) LIMIT_BYTES (stored_by run job folder n)
          (λ bytes f. let k = says_there (answer.Content bytes) f in content bytes k.0 k.1)
          (λ l f. let k = says_there (answer.Long l) f in long l k.0 k.1)
          (λ f. absurd (says_there answer.Gone f))

    abbrev pub messages : ℕ → Option (List ℕ)
    messages = (folder_at c folder).messages

    message_text : (n : ℕ) (b : List ℕ) → is_message_number n ≡ true → c.texts folder (decimal n) ≡ Some b → text_of messages n ≡ b
    unfolding entry_text
    message_text n b ok there = rw (ok, there) refl

    -- these messages
    pub messages_give : (numbers : List ℕ) → AllStand c folder numbers → PartGives run c known ns (all_stored run job folder numbers) (messages_work job messages numbers)
    unfolding Gives all_stored messages_work
    messages_give [] all d m z h is at rest = (refl, refl, (d, is, at))
    messages_give (n ∷ numbers) all d m z h is at rest =
        then_gives run c known ns (one_stored run job folder n) (all_stored run job folder numbers) (λ b. message_work job n (text_of messages n) b) (messages_work job messages numbers)
        (λ d_ m_ z_ h_ is_ at_ rest_.
        subst (λ t. Gives (by_view true) z_ h_ (text_then (message_work job n t m_) rest_) (one_stored run job folder n) (PartEnds run c known ns (message_work job n t m_) rest_)) (sym (message_text n all.0.text all.0.number all.0.there))
        (message_gives n all.0 d_ m_ z_ h_ is_ at_ rest_)) (messages_give numbers all.1) d m z h is at rest
