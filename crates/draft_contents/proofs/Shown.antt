-- What a draft wants is read by steps that look, and what they were answered shows what was given.
use Rattle.std.proofs.Common.{◌≡◌, ◌∷◌, ◌++◌, [], ℕ, List, Result, Ok, Err, refl, sym, ◌∙◌, ap, subst, append_assoc, append-nil}
use Rattle.mh_base.specs.Entries.{entry_text}
use Rattle.mh_base.specs.declared.entry.Entry.TheVariants.{Number, Sequences}
use Rattle.folder_files.specs.Deeds.{Deed, Once, did, now, on}
use Rattle.folder_files.specs.declared.place.FilePath.{FilePath}
use Rattle.folder_files.specs.declared.place.Place.{Place}
use Rattle.folder_files.specs.declared.place.Place.TheVariants.{Folder}
use Rattle.folder_files.specs.declared.refusal.Refusal.TheVariants as refusal
use Rattle.folder_files.specs.declared.step.Answer.{Answer}
use Rattle.folder_files.specs.declared.step.Step.{Step}
use Rattle.folder_files.specs.declared.step.Step.TheVariants as step
use Rattle.file_plans.specs.Asking.{read_file, reading_of}
use Rattle.file_plans.specs.Plan.{Hand, Return, ask, bind, lifted, ◌>>=◌}
use Rattle.file_plans.specs.StaysCareful.{only_looks}
use Rattle.step_plans.specs.CommandFaults.{of_stop}
use Rattle.step_plans.specs.ContextCommit.{LIMIT_BYTES}
use Rattle.step_plans.specs.Pledges.{Pledge}
use Rattle.step_plans.specs.Settled.{AreSettled}
use Rattle.step_plans.specs.declared.command_fault.CommandFault.{CommandFault}
use Rattle.step_plans.specs.declared.command_fault.CommandFault.TheVariants as fault
use Rattle.step_plans.proofs.Facts.{LeavesSettled, settled_kept}
use Rattle.step_plans.proofs.Going.{Goes, Outcome, goes_more, goes_then, okay, okay_more}
use Rattle.step_plans.proofs.Stepping.{goes_end, goes_list, goes_read, goes_return, on_read}
use Rattle.command_stages.specs.Listed.{folder_listed, names_by}
use Rattle.command_stages.specs.Texts.{text_by, text_read, too_large}
use Rattle.mh_looks.proofs.LooksLeave.{goes_chosen}
use Rattle.mh_drafts.specs.declared.want.Want.{Want}
use Rattle.mh_drafts.specs.declared.want.Want.TheVariants as want
use Rattle.mhbuild_compose.specs.declared.given.Given.{Given}
use Rattle.mhbuild_compose.specs.declared.given.Given.TheVariants as given
use Rattle.draft_contents.specs.Files.{file_by, file_read}
use Rattle.draft_contents.specs.Forwards.{chosen_seen, folder_named, folder_word, specs_or_current}
use Rattle.draft_contents.specs.Messages.{message_by, message_read, messages_given, messages_read}
use Rattle.draft_contents.specs.Shown.{AreGiven, HasReadFile, HasReadMessage, HasReadMessages, WasGiven}
use Rattle.draft_contents.specs.Wants.{all_given, file_given, forward_given, want_given}
use Rattle.draft_contents.specs.declared.forwarding.Forwarding.{Forwarding}
use Rattle.mh_profile.specs.Reading.{entries_seen}

-- these deeds, and others after them that leave no commit without its sync
pub record Onto (own later : List Deed) : Type 0 where
  pub front : List Deed
  pub is : later ≡ front ++ own
  pub settled : AreSettled own → AreSettled later

pub onto_none : (own : List Deed) → Onto own own
onto_none own = record { front = []; is = refl; settled = λ f. f }

pub onto_one : (own : List Deed) (s : Step) (a : Answer) → LeavesSettled s → Onto own (did s a ∷ own)
onto_one own s a leaves = record { front = did s a ∷ []; is = refl; settled = settled_kept own s a leaves }

pub onto_more : (own later last : List Deed) → Onto own later → Onto later last → Onto own last
onto_more own later last f g = record { front = g.front ++ f.front; is = g.is ∙ (ap (λ l. g.front ++ l) f.is ∙ sym (append_assoc g.front f.front own)); settled = λ x. g.settled (f.settled x) }

once_behind : (P : Deed → List Deed → Type 0) (front own : List Deed) → Once P own → Once P (front ++ own)
once_behind P [] own f = f
once_behind P (d ∷ front) own f = on (once_behind P front own f)

-- what once was so stays so
pub once_onto : (P : Deed → List Deed → Type 0) (own later : List Deed) → Onto own later → Once P own → Once P later
once_onto P own later o f = subst (λ l. Once P l) (sym o.is) (once_behind P o.front own f)

messages_behind : (place : Place) (messages : List (List ℕ)) (front own : List Deed) → HasReadMessages place messages own → HasReadMessages place messages (front ++ own)
messages_behind place [] front own f = tt
messages_behind place (message ∷ messages) front own f = ((f.0.0, once_behind _ front own f.0.1), messages_behind place messages front own f.1)

was_behind : (path : List ℕ) (f : Forwarding) (w : Want) (g : Given) (front own : List Deed) → WasGiven path f w g own → WasGiven path f w g (front ++ own)
was_behind path f (want.File file) (given.File bytes) front own k = once_behind _ front own k
was_behind path f (want.File file) (given.Messages messages) front own k = k
was_behind path f (want.Messages word specs) (given.File bytes) front own k = k
was_behind path f (want.Messages word specs) (given.Messages messages) front own k = (k.0, k.1, messages_behind (Folder path k.0) messages front own k.2)

-- what was given before other deeds was given
pub are_behind : (path : List ℕ) (f : Forwarding) (wants : List Want) (givens : List Given) (front own : List Deed) → AreGiven path f wants givens own → AreGiven path f wants givens (front ++ own)
are_behind path f [] [] front own k = tt
are_behind path f [] (g ∷ givens) front own k = k
are_behind path f (w ∷ wants) [] front own k = k
are_behind path f (w ∷ wants) (g ∷ givens) front own k = (was_behind path f w g front own k.0, are_behind path f wants givens front own k.1)

pub was_onto : (path : List ℕ) (f : Forwarding) (w : Want) (g : Given) (own later : List Deed) → Onto own later → WasGiven path f w g own → WasGiven path f w g later
was_onto path f w g own later o k = subst (λ l. WasGiven path f w g l) (sym o.is) (was_behind path f w g o.front own k)

pub are_onto : (path : List ℕ) (f : Forwarding) (wants : List Want) (givens : List Given) (own later : List Deed) → Onto own later → AreGiven path f wants givens own → AreGiven path f wants givens later
are_onto path f wants givens own later o k = subst (λ l. AreGiven path f wants givens l) (sym o.is) (are_behind path f wants givens o.front own k)

-- messages of this folder were read, behind those of before
pub record Reads (place : Place) (before : List (List ℕ)) (own later : List Deed) (all : List (List ℕ)) : Type 0 where
  pub onto : Onto own later
  pub more : List (List ℕ)
  pub are : all ≡ before ++ more
  pub read : HasReadMessages place more later

-- what is wanted was given, behind what was given before
pub record Gave (path : List ℕ) (f : Forwarding) (before : List Given) (wants : List Want) (own later : List Deed) (all : List Given) : Type 0 where
  pub onto : Onto own later
  pub more : List Given
  pub are : all ≡ before ++ more
  pub given : AreGiven path f wants more later

module _ (w : Pledge) where
  -- a part that looks
  abbrev Adds : {A : Type 0} → List Deed → Outcome A
  Adds own later j a = Onto own later

  -- a file is read
  abbrev ReadsFile : FilePath → List Deed → Outcome (List ℕ)
  ReadsFile path own later j bytes = Onto own later × HasReadFile path bytes later

  file_goes : (own : List Deed) (h : Hand) (path : FilePath) → Goes w own h (file_read path) (okay (ReadsFile path own))
  unfolding Goes file_read read_file ask lifted bind ◌>>=◌
  file_goes own h path = (
    (λ s. (record { is_own = only_looks tt; marks = tt; steps = λ no. absurd (no tt) }, tt)),
    on_read (λ a. Goes w (did (step.ReadFile path LIMIT_BYTES) a ∷ own) h (file_by path (reading_of a)) (okay (ReadsFile path own)))
        (λ bytes. (onto_one own _ _ tt, now refl)) (λ l. tt) tt,
  )

  -- a folder is listed, and a text read
  listed_goes : (own : List Deed) (h : Hand) (place : Place) (folder : List ℕ) → Goes w own h (folder_listed place folder) (okay (Adds own))
  unfolding folder_listed
  listed_goes own h place folder =
      goes_list w own h of_stop (okay (Adds own)) place (names_by folder) (λ names. goes_return w _ h names (okay (Adds own)) (onto_one own _ _ tt)) (goes_end w _ h (fault.Refused (refusal.NoFolder folder)) (Adds own))

  text_goes : (own : List Deed) (h : Hand) (place : Place) (name : List ℕ) → Goes w own h (text_read place name) (okay (Adds own))
  unfolding text_read
  text_goes own h place name =
      goes_read w own h of_stop (okay (Adds own)) place name LIMIT_BYTES text_by (λ bytes. goes_return w _ h bytes (okay (Adds own)) (onto_one own _ _ tt)) (λ l. goes_end w _ h (too_large l) (Adds own)) (goes_return w _ h [] (okay (Adds own)) (onto_one own _ _ tt))

  -- messages are read
  abbrev ReadsMessage : Place → List Deed → Outcome (List ℕ)
  ReadsMessage place own later j message = Onto own later × HasReadMessage place message later

  message_goes : (own : List Deed) (h : Hand) (place : Place) (n : ℕ) → Goes w own h (message_read place n) (okay (ReadsMessage place own))
  unfolding message_read
  message_goes own h place n =
      goes_read w own h of_stop (okay (ReadsMessage place own)) place (entry_text (Number n)) LIMIT_BYTES (message_by place n)
      (λ bytes. goes_return w _ h bytes (okay (ReadsMessage place own)) (onto_one own _ _ tt, (n, now refl))) (λ l. goes_end w _ h (too_large l) (ReadsMessage place own))
      (goes_end w _ h (fault.Meddled place (entry_text (Number n))) (ReadsMessage place own))

  messages_go : (own : List Deed) (h : Hand) (place : Place) (before : List (List ℕ)) (ns : List ℕ) → Goes w own h (messages_read place before ns) (okay (λ later j all. Reads place before own later all))
  unfolding messages_read
  messages_go own h place before [] = goes_return w own h before (okay (λ later j all. Reads place before own later all)) (record { onto = onto_none own; more = []; are = sym (append-nil before); read = tt })
  messages_go own h place before (n ∷ ns) =
      goes_then w own h (message_read place n) (λ message. messages_read place (before ++ message ∷ []) ns) (ReadsMessage place own) (λ later j all. Reads place before own later all) (message_goes own h place n)
      (λ later j message f.
      goes_more w later j (messages_read place (before ++ message ∷ []) ns) (okay (λ last i all. Reads place (before ++ message ∷ []) later last all)) (okay (λ last i all. Reads place before own last all))
      (okay_more (λ last i all. Reads place (before ++ message ∷ []) later last all) (λ last i all. Reads place before own last all)
      (λ last i all r. record {
        onto = onto_more own later last f.0 r.onto;
        more = message ∷ r.more;
        are = r.are ∙ append_assoc before (message ∷ []) r.more;
        read = ((f.1.0, once_onto _ later last r.onto f.1.1), r.read);
      }))
      (messages_go later j place (before ++ message ∷ []) ns))

  -- the messages of a folder
  abbrev ReadsAll : Place → List Deed → Outcome (List (List ℕ))
  ReadsAll place own later j messages = Onto own later × HasReadMessages place messages later

  folder_goes : (own : List Deed) (h : Hand) (path : List ℕ) (f : Forwarding) (folder : List ℕ) (specs : List (List ℕ)) → Goes w own h (messages_given path f folder specs) (okay (ReadsAll (Folder path folder) own))
  unfolding messages_given
  folder_goes own h path f folder specs =
      goes_then w own h (folder_listed at folder) _ (Adds own) (ReadsAll at own) (listed_goes own h at folder) (λ later j names o.
      goes_then w later j (text_read at (entry_text Sequences)) _ (Adds later) (ReadsAll at own) (text_goes later j at (entry_text Sequences)) (λ next i text p.
      goes_chosen w next i (λ k. chosen_seen f.negation folder specs names text (entries_seen k.context)) _ (ReadsAll at own) (λ numbers is.
      goes_more w next i (messages_read at [] numbers) (okay (λ last k all. Reads at [] next last all)) (okay (ReadsAll at own))
      (okay_more (λ last k all. Reads at [] next last all) (ReadsAll at own)
      (λ last k all r. (onto_more own next last (onto_more own later next o p) r.onto, subst (λ l. HasReadMessages at l last) (sym r.are) r.read))) (messages_go next i at [] numbers))))
    where
      at : Place
      at = Folder path folder

  module _ (path : List ℕ) (f : Forwarding) where
    abbrev Gives : Want → List Deed → Outcome Given
    Gives want_ own later j g = Onto own later × WasGiven path f want_ g later

    want_goes : (own : List Deed) (h : Hand) (want_ : Want) → Goes w own h (want_given path f want_) (okay (Gives want_ own))
    unfolding file_given forward_given
    want_goes own h (want.File file) =
        goes_then w own h (file_read file) (λ bytes. Return (Ok (given.File bytes))) (ReadsFile file own) (Gives (want.File file) own) (file_goes own h file) (λ later j bytes k. goes_return w later j (given.File bytes) (okay (Gives (want.File file) own)) k)
    want_goes own h (want.Messages word specs) =
        goes_then w own h (Return (folder_named (folder_word f word))) _ (λ later j folder. (later ≡ own) × (folder_named (folder_word f word) ≡ Ok folder)) (Gives (want.Messages word specs) own) (named_goes (folder_named (folder_word f word)) refl)
        (λ later j folder k.
        goes_then w later j (messages_given path f folder (specs_or_current specs)) (λ messages. Return (Ok (given.Messages messages))) (ReadsAll (Folder path folder) later) (Gives (want.Messages word specs) own) (folder_goes later j path f folder (specs_or_current specs))
        (λ last i messages r. goes_return w last i (given.Messages messages) (okay (Gives (want.Messages word specs) own)) (subst (λ o. Onto o last) k.0 r.0, (folder, k.1, r.1))))
      where
        named_goes : (r : Result (List ℕ) CommandFault) → folder_named (folder_word f word) ≡ r → Goes w own h (Return r) (okay (λ later j folder. (later ≡ own) × (folder_named (folder_word f word) ≡ Ok folder)))
        named_goes (Ok folder) is = goes_return w own h folder (okay (λ later j name. (later ≡ own) × (folder_named (folder_word f word) ≡ Ok name))) (refl, is)
        named_goes (Err e) is = goes_end w own h e (λ later j folder. (later ≡ own) × (folder_named (folder_word f word) ≡ Ok folder))

    -- all that is wanted
    pub all_go : (own : List Deed) (h : Hand) (before : List Given) (wants : List Want) → Goes w own h (all_given path f before wants) (okay (λ later j all. Gave path f before wants own later all))
    unfolding all_given
    all_go own h before [] = goes_return w own h before (okay (λ later j all. Gave path f before [] own later all)) (record { onto = onto_none own; more = []; are = sym (append-nil before); given = tt })
    all_go own h before (want_ ∷ wants) =
        goes_then w own h (want_given path f want_) (λ g. all_given path f (before ++ g ∷ []) wants) (Gives want_ own) (λ later j all. Gave path f before (want_ ∷ wants) own later all) (want_goes own h want_)
        (λ later j g k.
        goes_more w later j (all_given path f (before ++ g ∷ []) wants) (okay (λ last i all. Gave path f (before ++ g ∷ []) wants later last all)) (okay (λ last i all. Gave path f before (want_ ∷ wants) own last all))
        (okay_more (λ last i all. Gave path f (before ++ g ∷ []) wants later last all) (λ last i all. Gave path f before (want_ ∷ wants) own last all)
        (λ last i all r. record {
          onto = onto_more own later last k.0 r.onto;
          more = g ∷ r.more;
          are = r.are ∙ append_assoc before (g ∷ []) r.more;
          given = (was_onto path f want_ g later last r.onto k.1, r.given);
        }))
        (all_go later j (before ++ g ∷ []) wants))
