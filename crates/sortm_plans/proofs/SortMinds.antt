-- Each step of `sortm` minds the marks of all sequences.
use Rattle.std.proofs.Common.{◌≡◌, inl, ◌<◌, ◌+◌, ◌^◌, ◌++◌, ◌∷◌, [], ℕ, suc, List, Option, Ok, length, map, refl, sym, ◌∙◌, ap, subst, arith}
use Rattle.std.proofs.lemmas.List.{length_push}
use Rattle.mh_base.specs.Entries.{entry_text, kind_of}
use Rattle.mh_base.specs.Numbers.{IsMsgNum}
use Rattle.mh_base.specs.declared.entry.Entry.TheVariants.{Number, Sequences}
use Rattle.mh_base.proofs.EntryKinds.{kind_of-entry_text}
use Rattle.mh_sequences.specs.Runs.{AreRuns}
use Rattle.mh_sequences.specs.Sequences.{Marked}
use Rattle.mh_sequences.specs.declared.run.Run.{Run}
use Rattle.folder_files.specs.Deeds.{Deed, did}
use Rattle.folder_files.specs.declared.place.Place.{Place}
use Rattle.folder_files.specs.declared.place.Place.TheVariants.{Folder, Mail}
use Rattle.folder_files.specs.declared.step.Answer.{Answer}
use Rattle.folder_files.specs.declared.step.Answer.TheVariants as answer
use Rattle.folder_files.specs.declared.step.Step.{Step}
use Rattle.folder_files.specs.declared.step.Step.TheVariants as step
use Rattle.file_plans.specs.Plan.{Hand, Plan, Return, lifted, ◌>>=◌}
use Rattle.step_plans.specs.CommandFaults.{of_stop}
use Rattle.step_plans.specs.ContextCommit.{AreChanges, LIMIT_BYTES}
use Rattle.step_plans.specs.Pledges.{MayAsk, Pledge}
use Rattle.step_plans.specs.declared.command_fault.CommandFault.TheVariants as fault
use Rattle.step_plans.proofs.Facts.{base_kept}
use Rattle.step_plans.proofs.Going.{Outcome, okay}
use Rattle.marks_law.specs.Apart as apart
use Rattle.message_places.specs.Order.{moves_of}
use Rattle.message_places.specs.Places.{AreDistinct, AreMsgNums, froms, is_in, slots}
use Rattle.message_places.specs.declared.moves.Move.{Move}
use Rattle.command_stages.specs.Current.{current_change, made_current}
use Rattle.command_stages.specs.Endings.{of_plan}
use Rattle.command_stages.specs.Texts.{too_large}
use Rattle.opening_plans.specs.FolderPledge.{told_within}
use Rattle.opening_plans.specs.Opening.{Opened, opened_of}
use Rattle.opening_plans.proofs.AllMarks.{MindsAll, look_minds}
use Rattle.opening_plans.proofs.BegunSeen.{NoneUnlinked}
use Rattle.opening_plans.proofs.CommitMinds.{Facts, IsTold}
use Rattle.opening_plans.proofs.FolderSeen.{quiet_seen}
use Rattle.opening_plans.proofs.Meeting.{Meets, meets_end, meets_lifted, meets_okay, meets_read, meets_return, meets_then}
use Rattle.opening_plans.proofs.ToldMarks.{InListing}
use Rattle.opening_plans.proofs.WorkMinds.{Anyhow, current_meets}
use Rattle.refile_plans.proofs.Meetings.{meets_value}
use Rattle.sortm_plans.specs.Keys.{date_key, text_key}
use Rattle.sortm_plans.specs.Ordered.{order_by_dates, order_by_texts}
use Rattle.sortm_plans.specs.Reading.{date_order_read, keys_read, message_by, message_read, order_read, text_order_read}
use Rattle.sortm_plans.specs.Sort.{chosen_from, chosen_sorted, opened_sorted, places_changed, sortm}
use Rattle.sortm_plans.specs.SortMoves.{moves_by, order_by}
use Rattle.sortm_plans.specs.SortPledge.{sortm_pledge}
use Rattle.sortm_plans.specs.declared.job.SortJob.{SortJob}
use Rattle.sortm_plans.specs.declared.job.SortKey.{SortKey}
use Rattle.sortm_plans.specs.declared.job.SortKey.TheVariants as key
use Rattle.sortm_plans.proofs.KnownMinds.{work_meets}
use Rattle.sortm_plans.proofs.Listed.{sort_distinct, sort_good}
use Rattle.sortm_plans.proofs.MovesMind as moves
use Rattle.sortm_plans.proofs.MarksKnown.{KnowsMarks, outside_kept, read_kept}
use Rattle.sortm_plans.proofs.OrderMoves.{moving_good, moving_taken, takes_good}
use Rattle.sortm_plans.proofs.Zipped.{map_more}

number_no_text : (n : ℕ) → IsMsgNum n → entry_text (Number n) ≡ entry_text Sequences → ⊥
number_no_text n one e = let same : Number n ≡ Sequences = sym (kind_of-entry_text (Number n) one) ∙ (ap kind_of e ∙ kind_of-entry_text Sequences tt) in cc (same)

module _ (w : Pledge) (few : w.run < 2 ^ 128) (path : List ℕ) (job : SortJob) (ok : AreChanges (current_change job.folder)) where
  abbrev Of : List ℕ → Type 0
  Of other = IsTold job.folder other

  abbrev p : Place
  p = Folder path job.folder

  abbrev mail : Place
  mail = Mail path

  abbrev A : List Deed → Step → Type 0
  A own s = MindsAll Of w.run own s

  abbrev M : {R : Type 0} → List Deed → Hand → Plan R → Outcome R → Type 0
  M own h plan Q = Meets (MayAsk w) A own h plan Q

  -- the work on a folder that was begun
  module _ (names : List (List ℕ)) (listing : List Run) (runs : AreRuns listing) (text context : List ℕ) (ends_ : List (Option ℕ)) where
    abbrev told : Marked
    told = told_within listing text context job.folder

    abbrev opened : Opened
    opened = opened_of p job.folder listing told ends_

    -- each listed number is there, and no other is marked
    abbrev Known : List Deed → Hand → Type 0
    Known own h = Facts w path job.folder names (InListing listing) own × KnowsMarks w path job.folder told own h

    -- messages are read
    abbrev reading : ℕ → Step
    reading n = step.Read p (entry_text (Number n)) LIMIT_BYTES

    read_known : (n : ℕ) → IsMsgNum n → (own : List Deed) (h : Hand) (a : Answer) → MayAsk w own (reading n) → Known own h → Known (did (reading n) a ∷ own) h
    read_known n one own h a may f = (
      (quiet_seen w p names (InListing listing) own (reading n) a may tt f.0.0, (λ sequence. apart.on (λ e. cc (e)) (λ temp e. cc (e)) (f.0.1 sequence))),
      record {
        hand = record { context = f.1.hand.context; hand = f.1.hand.hand; read = read_kept w path job.folder f.1.hand.context own (reading n) a (λ e. cc (e)) (λ temp e. cc (e)) f.1.hand.read };
        text = f.1.text;
        base = base_kept w.run p (entry_text Sequences) f.1.text own (reading n) a (λ same named. number_no_text n one named) f.1.base;
        marks = f.1.marks;
        frees = outside_kept w path job.folder told own (reading n) a (λ e. cc (e)) (λ temp e. cc (e)) f.1.frees;
      },
    )

    message_meets : (n : ℕ) → IsMsgNum n → (own : List Deed) (h : Hand) → Known own h → M own h (message_read p n) (okay (λ later j (bytes : List ℕ). Known later j))
    unfolding message_read
    message_meets n one own h f =
        meets_read (MayAsk w) A own h of_stop (okay (λ later j (bytes : List ℕ). Known later j)) p (entry_text (Number n)) LIMIT_BYTES (message_by p n)
        (λ may. (
          look_minds Of w.run own (reading n) tt,
          (λ bytes. meets_return (MayAsk w) A (did (reading n) (answer.Content bytes) ∷ own) h bytes (okay (λ later j (bytes : List ℕ). Known later j)) (read_known n one own h (answer.Content bytes) may f)),
          (λ l. meets_end (MayAsk w) A (did (reading n) (answer.Long l) ∷ own) h (too_large l) (λ later j (bytes : List ℕ). Known later j)),
          meets_end (MayAsk w) A (did (reading n) answer.Gone ∷ own) h (fault.Meddled p (entry_text (Number n))) (λ later j (bytes : List ℕ). Known later j),
        ))

    module _ {K : Type 0} (key_of : List ℕ → K) where
      -- the keys are those of so many texts
      abbrev Keys : ℕ → Outcome (List K)
      Keys many later j keys = Known later j × ((texts : List (List ℕ)) × (keys ≡ map key_of texts) × (length texts ≡ many))

      keys_meet : (ns : List ℕ) → AreMsgNums ns → (texts : List (List ℕ)) (keys : List K) → keys ≡ map key_of texts → (own : List Deed) (h : Hand) → Known own h → M own h (keys_read key_of p keys ns) (okay (Keys (length texts + length ns)))
      unfolding keys_read
      keys_meet [] good texts keys is own h f = meets_return (MayAsk w) A own h keys (okay (Keys (length texts + 0))) (f, (texts, is, omega arith))
      keys_meet (n ∷ ns) good texts keys is own h f =
          meets_then (MayAsk w) A own h (message_read p n) (λ bytes. keys_read key_of p (keys ++ key_of bytes ∷ []) ns) (λ later j (bytes : List ℕ). Known later j) (Keys (length texts + suc (length ns))) (message_meets n good.0 own h f)
          (λ later j bytes g.
          meets_okay (MayAsk w) A later j (keys_read key_of p (keys ++ key_of bytes ∷ []) ns) (Keys (length (texts ++ bytes ∷ []) + length ns)) (Keys (length texts + suc (length ns)))
          (λ last i all q. (q.0, (q.1.0, q.1.1, (let more = length_push texts bytes in let many = q.1.2 in omega (arith, more, many)))))
          (keys_meet ns good.1 (texts ++ bytes ∷ []) (keys ++ key_of bytes ∷ []) (ap (λ l. l ++ key_of bytes ∷ []) is ∙ sym (map_more key_of texts bytes)) later j g))

    -- and put in order
    abbrev Ordered : List ℕ → Outcome (List ℕ)
    Ordered ns later j order = Known later j × ((texts : List (List ℕ)) × (length texts ≡ length ns) × (order ≡ order_by job.key texts ns))

    order_meets : (ns : List ℕ) → AreMsgNums ns → (own : List Deed) (h : Hand) → Known own h → M own h (order_read p job.key ns) (okay (Ordered ns))
    unfolding date_order_read text_order_read
    order_meets ns good own h f = go job.key
      where
        By : SortKey → Outcome (List ℕ)
        By by later j order = Known later j × ((texts : List (List ℕ)) × (length texts ≡ length ns) × (order ≡ order_by by texts ns))

        go : (by : SortKey) → M own h (order_read p by ns) (okay (By by))
        go (key.Date field) =
            meets_then (MayAsk w) A own h (keys_read (date_key field) p [] ns) (λ dates. Return (Ok (order_by_dates dates ns))) (Keys (date_key field) (0 + length ns)) (By (key.Date field)) (keys_meet (date_key field) ns good [] [] refl own h f)
            (λ later j dates g. meets_return (MayAsk w) A later j (order_by_dates dates ns) (okay (By (key.Date field))) (g.0, (g.1.0, (let many = g.1.2 in omega (arith, many)), ap (λ l. order_by_dates l ns) g.1.1)))
        go (key.Text field) =
            meets_then (MayAsk w) A own h (keys_read (text_key field) p [] ns) (λ texts. Return (Ok (order_by_texts texts ns))) (Keys (text_key field) (0 + length ns)) (By (key.Text field)) (keys_meet (text_key field) ns good [] [] refl own h f)
            (λ later j texts g. meets_return (MayAsk w) A later j (order_by_texts texts ns) (okay (By (key.Text field))) (g.0, (g.1.0, (let many = g.1.2 in omega (arith, many)), ap (λ l. order_by_texts l ns) g.1.1)))

    abbrev None_ : List ℕ → Type 0
    None_ z = ⊥

    -- what is left once messages may have changed places
    abbrev Ready : Outcome (List ℕ)
    Ready later j ends = Facts w path job.folder names None_ later

    -- these messages change places
    moved_meets : (ms : List Move) → AreMsgNums (froms ms) → AreMsgNums (slots ms) → ((k : ℕ) → is_in k (froms ms) ≡ is_in k (slots ms)) → (own : List Deed) (h : Hand) → Known own h
        → M own h (places_changed w.run mail opened ms) (okay Ready)
    moved_meets ms fs ss same own h f = moves.moved_meets w few path job.folder names listing runs text context ms (slots ms) ss fs ss same (λ k e. inl e) ends_ own h f

    sorted_meets : (numbers : List ℕ) → chosen_from job listing told ≡ Ok numbers → (own : List Deed) (h : Hand) → Known own h
        → M own h (order_read p job.key numbers >>= (λ order. lifted (of_plan job.folder) (places_changed w.run mail opened (moves_of order numbers)))) (okay Ready)
    sorted_meets numbers is own h f =
        meets_then (MayAsk w) A own h (order_read p job.key numbers) (λ order. lifted (of_plan job.folder) (places_changed w.run mail opened (moves_of order numbers))) (Ordered numbers) Ready (order_meets numbers good own h f)
        (λ later j order g.
        meets_lifted (MayAsk w) A later j (of_plan job.folder) (places_changed w.run mail opened (moves_of order numbers)) Ready
        (subst (λ l. M later j (places_changed w.run mail opened (moves_of l numbers)) (okay Ready)) (sym g.1.2)
        (moved_meets (moves_by job.key g.1.0 numbers) (moving_good job.key g.1.0 numbers g.1.1 good distinct) (takes_good job.key g.1.0 numbers g.1.1 good distinct) (moving_taken job.key g.1.0 numbers g.1.1 good distinct) later j g.0)))
      where
        good : AreMsgNums numbers
        good = sort_good job listing told numbers is runs

        distinct : AreDistinct numbers
        distinct = sort_distinct job listing told numbers is

    opened_okay : (own : List Deed) (h : Hand) → Known own h → M own h (opened_sorted w.run path job opened) (okay (λ later j u. Unit {0}))
    unfolding opened_sorted chosen_sorted
    opened_okay own h f =
        meets_then (MayAsk w) A own h (Return (chosen_from job listing told) >>= (λ numbers. order_read p job.key numbers >>= (λ order. lifted (of_plan job.folder) (places_changed w.run mail opened (moves_of order numbers))))) (λ moved. made_current w.run path job.folder) Ready (λ later j u. Unit {0})
        (meets_value (MayAsk w) A own h (chosen_from job listing told) (λ numbers. order_read p job.key numbers >>= (λ order. lifted (of_plan job.folder) (places_changed w.run mail opened (moves_of order numbers)))) Ready (λ numbers is. sorted_meets numbers is own h f))
        (λ later j ends g.
        meets_okay (MayAsk w) A later j (made_current w.run path job.folder) (λ last i v. Facts w path job.folder names None_ last) (λ last i v. Unit {0}) (λ last i v k. tt) (current_meets w path job.folder names None_ ok later j g))

  -- each step of `sortm` minds all marks
  pub sortm_minds : (own : List Deed) (h : Hand) → NoneUnlinked p own → M own h (sortm w.run path job) Anyhow
  unfolding sortm
  sortm_minds own h none = work_meets w path job.folder (opened_sorted w.run path job) opened_okay own h none

-- so of a call as it is pledged
pub sortm_meets : (run : ℕ) → run < 2 ^ 128 → (path : List ℕ) (job : SortJob) → AreChanges (current_change job.folder) → (own : List Deed) (h : Hand) → NoneUnlinked (Folder path job.folder) own
    → Meets (MayAsk (sortm_pledge run path job)) (MindsAll (IsTold job.folder) run) own h (sortm run path job) Anyhow
sortm_meets run few path job ok own h none = sortm_minds (sortm_pledge run path job) few path job ok own h none
