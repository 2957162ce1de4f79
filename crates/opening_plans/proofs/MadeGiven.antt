-- What a command gives alone whose folder is made where it is missing: what it comes to on the mailbox with that folder.
use Rattle.std.proofs.Common.{◌≡◌, ◌<◌, ◌^◌, [], ℕ, true, List, Result, Ok, Err, refl, ◌∙◌, ap, subst, sym}
use Rattle.std.specs.List.{list_all}
use Rattle.mail_headers.specs.Lines.{is_name_byte}
use Rattle.mh_profile.specs.declared.named_value.NamedValue.{NamedValue}
use Rattle.mh_sequences.specs.Reading.{suffix}
use Rattle.mh_sequences.specs.Sequences.{Marked}
use Rattle.mh_sequences.specs.declared.run.Run.{Run}
use Rattle.folder_files.specs.declared.place.Place.{Place}
use Rattle.folder_files.specs.declared.place.Place.TheVariants.{Folder, Mail}
use Rattle.folder_files.specs.declared.step.Answer.{Answer}
use Rattle.folder_files.specs.declared.step.Answer.TheVariants as answer
use Rattle.folder_files.specs.declared.step.Step.TheVariants as step
use Rattle.folder_files.proofs.Names.{not_both}
use Rattle.folder_files.proofs.Sameness.{place_is}
use Rattle.file_plans.specs.Contents.{Contents, mailbox_in, with_folder}
use Rattle.file_plans.specs.Giving.{Gives}
use Rattle.file_plans.specs.Plan.{Hand, Plan, bind, converted, lifted, ◌>>=◌}
use Rattle.file_plans.specs.Views.{View, by_view, view_after}
use Rattle.file_plans.proofs.Giving.{gives_on}
use Rattle.file_plans.proofs.Onward.{IsShort}
use Rattle.file_plans.proofs.Viewing.{make_folder_view}
use Rattle.step_plans.specs.ContextCommit.{LIMIT_BYTES, context_name}
use Rattle.step_plans.specs.PlanFaults.{of_stop}
use Rattle.step_plans.specs.declared.command_fault.CommandFault.{CommandFault}
use Rattle.step_plans.specs.declared.fault.PlanFault.{PlanFault}
use Rattle.step_plans.specs.declared.fault.PlanFault.TheVariants as plan
use Rattle.step_plans.proofs.Committed.{entries_at}
use Rattle.command_stages.specs.Endings.{of_plan}
use Rattle.command_stages.specs.Works.{Work}
use Rattle.opening_plans.specs.BegunWork.{AreHomesAt, Homes, begun_work}
use Rattle.opening_plans.specs.Ending.{ended}
use Rattle.opening_plans.specs.Kept.{Kept}
use Rattle.opening_plans.specs.Making.{made_begun, once_made}
use Rattle.opening_plans.specs.Opening.{Opened, begun}
use Rattle.opening_plans.proofs.FolderGiven.{BeginEnds, BeginErrs, IsUntouched, begun_gives}
use Rattle.opening_plans.proofs.WorkGiven.{IsOpen, WorkEnds, begun_gives_on, lifted_gives, not_begun}

module _ (run : ℕ) (few : run < 2 ^ 128) (path folder : List ℕ) (clean : list_all is_name_byte (suffix folder) ≡ true)
    (c : Contents) (entries : List NamedValue) (entries_are : entries ≡ entries_at c (Mail path)) (short : IsShort LIMIT_BYTES (c.texts (Mail path) context_name)) where
  abbrev at : Place
  at = Folder path folder

  -- the contents with the folder
  abbrev pub made : Contents
  made = with_folder c at

  made_there : made.there at ≡ true
  made_there = rw (place_is at) refl

  module _ (h : Homes) (are : AreHomesAt run ((mailbox_in made).folders at) h) (ns : List ℕ) (v : View) (hand : Hand) (untouched : IsUntouched ns at c hand v hand)
      (next : List Run → Marked → Kept → Work CommandFault) (act : Opened → Plan (Result Unit CommandFault))
      (acts : (o : Opened) (z : View) (j : Hand) (f : IsOpen path folder o z j) → Gives (by_view true) z j (next o.listing o.sequences f.kept).text (act o) (WorkEnds (next o.listing o.sequences f.kept))) where
    abbrev work : Work CommandFault
    work = begun_work path folder entries h (mailbox_in made) next

    then_untouched : (a : Answer) → IsUntouched ns at made hand (view_after v (step.MakeFolder at) a) hand
    then_untouched a = record { has = (ap (λ x. with_folder x at) untouched.has.0, untouched.has.1); fresh = untouched.fresh; unmet = untouched.unmet; hand = refl }

    -- it was begun, or not, and errors are told as of a folder that was made
    abbrev Makes : View → Hand → List ℕ → Result Opened PlanFault → Type 0
    Makes z j left r = (left ≡ []) × ((q : Result Opened PlanFault) × (r ≡ converted once_made q) × BeginEnds true ns run few path folder made z j [] q)

    makes_give : Gives (by_view true) v hand [] (made_begun run at (Mail path) folder) Makes
    unfolding made_begun
    makes_give = make_folder_view true v of_stop hand [] Makes at (λ m. lifted once_made (begun run at (Mail path) folder)) (λ f. next_gives answer.Done) (λ f. next_gives answer.Exists)
      where
        next_gives : (a : Answer) → Gives (by_view true) (view_after v (step.MakeFolder at) a) hand [] (lifted once_made (begun run at (Mail path) folder)) Makes
        next_gives a =
            lifted_gives (view_after v (step.MakeFolder at) a) hand [] once_made (begun run at (Mail path) folder) (BeginEnds true ns run few path folder made)
            (begun_gives true ns run few path folder made (view_after v (step.MakeFolder at) a) hand [] (then_untouched a))

    -- a folder that was made is there
    as_plan : (z : View) (e : PlanFault) → BeginErrs true ns run few path folder made z e → of_plan folder (once_made e) ≡ of_plan folder e
    as_plan z plan.Faulted f = refl
    as_plan z (plan.Locked q) f = refl
    as_plan z (plan.Meddled q x) f = refl
    as_plan z plan.Full f = refl
    as_plan z (plan.Absent q) f = absurd (not_both (made.there at) made_there (f refl).0)
    as_plan z (plan.TooLarge l) f = refl
    as_plan z plan.Memory f = refl

    good : (z : View) (j : Hand) (left : List ℕ) (o : Opened) (r : Result Opened PlanFault) → left ≡ work.text → Ok o ≡ converted (of_plan folder) r → (q : Result Opened PlanFault) → r ≡ converted once_made q → BeginEnds true ns run few path folder made z j [] q
        → Gives (by_view true) z j left (bind (act o) (ended at)) (WorkEnds work)
    good z j left o r same e (Ok u) f b =
        let both : Ok o ≡ converted (of_plan folder) (Ok u) = e ∙ ap (converted (of_plan folder)) f in
        let is : u ≡ o = cc (both) in
        begun_gives_on run few path folder clean made entries entries_are short h are ns (view_after v (step.MakeFolder at) answer.Done) hand (then_untouched answer.Done) next act acts z j left o same
        (subst (λ x. BeginEnds true ns run few path folder made z j [] (Ok x)) is b)
    good z j left o r same e (Err x) f b = absurd (let both : Ok o ≡ Err (of_plan folder (once_made x)) = e ∙ ap (converted (of_plan folder)) f in cc (both))

    bad : (z : View) (j : Hand) (left : List ℕ) (x : CommandFault) (r : Result Opened PlanFault) → left ≡ work.text → Err x ≡ converted (of_plan folder) r → (q : Result Opened PlanFault) → r ≡ converted once_made q → BeginEnds true ns run few path folder made z j [] q
        → WorkEnds work z j left (Err x)
    bad z j left x r same e (Ok u) f b = absurd (let both : Err x ≡ Ok u = e ∙ ap (converted (of_plan folder)) f in cc (both))
    bad z j left x r same e (Err y) f b =
        let both : Err x ≡ converted (of_plan folder) (Err (once_made y)) = e ∙ ap (converted (of_plan folder)) f in
        let is : x ≡ of_plan folder (once_made y) = cc (both) in
        subst (λ k. WorkEnds work z j left (Err k)) (sym (is ∙ as_plan z y b))
        (not_begun run few path folder clean made entries entries_are short h are ns (view_after v (step.MakeFolder at) answer.Done) hand (then_untouched answer.Done) next act acts z j left y same b)

    pub made_give : Gives (by_view true) v hand work.text (lifted (of_plan folder) (made_begun run at (Mail path) folder) >>= (λ o. bind (act o) (ended at))) (WorkEnds work)
    made_give =
        gives_on (by_view true) v hand work.text (lifted (of_plan folder) (made_begun run at (Mail path) folder)) (λ o. bind (act o) (ended at))
        (λ z j left r. (left ≡ work.text) × ((q : Result Opened PlanFault) × (r ≡ converted (of_plan folder) q) × Makes z j [] q)) (WorkEnds work)
        (lifted_gives v hand work.text (of_plan folder) (made_begun run at (Mail path) folder) Makes makes_give)
        (λ z j left o g. good z j left o g.1.0 g.0 g.1.1 g.1.2.1.0 g.1.2.1.1 g.1.2.1.2)
        (λ z j left e g. bad z j left e g.1.0 g.0 g.1.1 g.1.2.1.0 g.1.2.1.1 g.1.2.1.2)
