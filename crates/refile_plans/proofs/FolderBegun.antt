-- One folder is begun, alone: the work goes on with it, and other folders are left as they were.
use Rattle.std.proofs.Common.{◌≡◌, ◌<◌, ◌^◌, [], ℕ, true, false, List, Result, Ok, Err, refl, sym, ◌∙◌, ap, subst}
use Rattle.mh_profile.specs.declared.named_value.NamedValue.{NamedValue}
use Rattle.mh_sequences.specs.Sequences.{Marked}
use Rattle.mh_sequences.specs.declared.run.Run.{Run}
use Rattle.mh_sequences.proofs.Suffixes.{suffix_clean}
use Rattle.folder_files.specs.declared.place.Place.{Place}
use Rattle.folder_files.specs.declared.place.Place.TheVariants.{Folder, Mail}
use Rattle.folder_files.specs.declared.step.Answer.{Answer}
use Rattle.folder_files.specs.declared.step.Answer.TheVariants as answer
use Rattle.folder_files.specs.declared.step.Step.TheVariants as step
use Rattle.folder_files.proofs.Names.{not_both}
use Rattle.folder_files.proofs.Sameness.{place_is}
use Rattle.file_plans.specs.Contents.{Contents, folder_at, mailbox_in, with_folder}
use Rattle.file_plans.specs.Giving.{Gives}
use Rattle.file_plans.specs.Plan.{Hand, Plan, Return, converted, lifted}
use Rattle.file_plans.specs.Views.{View, by_view, first_view, view_after}
use Rattle.file_plans.proofs.Framing.{framed, silent}
use Rattle.file_plans.proofs.Giving.{gives_more}
use Rattle.file_plans.proofs.Onward.{IsShort}
use Rattle.file_plans.proofs.Viewing.{make_folder_view}
use Rattle.step_plans.specs.ContextCommit.{LIMIT_BYTES, context_name}
use Rattle.step_plans.specs.PlanFaults.{of_stop}
use Rattle.step_plans.specs.declared.command_fault.CommandFault.{CommandFault}
use Rattle.step_plans.specs.declared.command_fault.CommandFault.TheVariants as command
use Rattle.step_plans.specs.declared.fault.PlanFault.{PlanFault}
use Rattle.step_plans.specs.declared.fault.PlanFault.TheVariants as plan
use Rattle.step_plans.proofs.Committed.{entries_at}
use Rattle.command_stages.specs.Endings.{of_plan}
use Rattle.command_stages.specs.Works.{Work}
use Rattle.opening_plans.specs.BegunWork.{AreHomes, AreHomesAt, Homes, begun_work}
use Rattle.opening_plans.specs.Kept.{Kept}
use Rattle.opening_plans.specs.Making.{made_begun, once_made}
use Rattle.opening_plans.specs.Opening.{Opened, begun}
use Rattle.opening_plans.proofs.BegunWorks.{begun_as, homes_in}
use Rattle.opening_plans.proofs.FolderGiven.{BeginEnds, BeginErrs, IsBegunIn, IsUntouched, begun_gives}
use Rattle.opening_plans.proofs.SettledShown.{there_shown}
use Rattle.opening_plans.proofs.WorkGiven.{IsOpen, WorkEnds, homes_there, lifted_gives, not_begun, one_home}
use Rattle.refile_plans.proofs.BegunAsks.{IsIn, OneOf, asks_begun}
use Rattle.refile_plans.proofs.BegunBeside.{IsBeside, beside_self, kept_beside}
use Rattle.refile_plans.proofs.ViewsAlike.{gives_alike}

-- how a command ended, by views in which the same stands
pub ends_alike : (w : Work CommandFault) (z y : View) → z.contents ≡ y.contents → (j : Hand) (left : List ℕ) (r : Result Unit CommandFault) → WorkEnds w y j left r → WorkEnds w z j left r
ends_alike w z y same j left (Ok u) f = (f.0, f.1, ap mailbox_in same ∙ f.2)
ends_alike w z y same j left (Err (command.Refused r)) f = (f.0, f.1, ap mailbox_in same ∙ f.2)
ends_alike w z y same j left (Err (command.Faulted which)) f = f
ends_alike w z y same j left (Err (command.Locked q)) f = f
ends_alike w z y same j left (Err (command.Meddled q x)) f = f
ends_alike w z y same j left (Err command.Memory) f = f

-- an error comes with nothing left to write
err_end : (w : Work CommandFault) (z : View) (j : Hand) (left rest : List ℕ) (e : CommandFault) → rest ≡ [] → WorkEnds w z j left (Err e) → WorkEnds w z j rest (Err e)
err_end w z j left rest (command.Refused r) none f = (none, f.1, f.2)
err_end w z j left rest (command.Faulted which) none f = f
err_end w z j left rest (command.Locked q) none f = f
err_end w z j left rest (command.Meddled q x) none f = f
err_end w z j left rest command.Memory none f = f

module _ (run : ℕ) (few : run < 2 ^ 128) (path folder : List ℕ) where
  abbrev at : Place
  at = Folder path folder

  abbrev mail : Place
  mail = Mail path

  module _ (c : Contents) (entries : List NamedValue) (entries_are : entries ≡ entries_at c mail) (short : IsShort LIMIT_BYTES (c.texts mail context_name)) (h : Homes) (are : AreHomesAt run ((mailbox_in c).folders at) h)
      (next : List Run → Marked → Kept → Work CommandFault) where
    -- what the command comes to
    abbrev whole : Work CommandFault
    whole = begun_work path folder entries h (mailbox_in c) next

    -- it was begun where these contents were: the work goes on with it
    pub record IsBegunOn (o : Opened) (z : View) (j : Hand) : Type 0 where
      pub is_open : IsOpen path folder o z j
      pub beside : IsBeside at mail c is_open.contents
      pub work : begun_work path folder entries h (mailbox_in c) next ≡ next o.listing o.sequences is_open.kept

    -- it was begun, or the command ended as its work has it; no folder that is there is absent
    abbrev Begins : View → Hand → List ℕ → Result Opened PlanFault → Type 0
    Begins z j left (Ok o) = (left ≡ []) × IsBegunOn o z j
    Begins z j left (Err e) = (c.there at ≡ true → (q : Place) → e ≡ plan.Absent q → ⊥) × WorkEnds whole z j left (Err (of_plan folder e))

    -- so by views in which the same stands
    begins_alike : (z y : View) → z.contents ≡ y.contents → z.numbers ≡ y.numbers → (j : Hand) (left : List ℕ) (r : Result Opened PlanFault) → Begins y j left r → Begins z j left r
    begins_alike z y same numbers j left (Ok o) f =
        let g = f.1.is_open in (
          f.0,
          record {
            is_open = record { place = g.place; name = g.name; valid = g.valid; runs = g.runs; kept = g.kept; contents = g.contents; later = g.later; is = ((λ e. same ∙ g.is.0 e), numbers ∙ g.is.1); holds = g.holds; stands = g.stands };
            beside = f.1.beside;
            work = f.1.work;
          },
        )
    begins_alike z y same numbers j left (Err e) f = (f.0, ends_alike whole z y same j left (Err (of_plan folder e)) f.1)

    -- where what is held aside goes is known
    home : (f : Homes) → c.there at ≡ true → AreHomes run (folder_at c at) f → f ≡ h
    unfolding mailbox_in
    home f there is = one_home run (folder_at c at) f h is (homes_there run (folder_at c at) ((mailbox_in c).folders at) h (there_shown c at (c.there at) there) are)

    module _ (ns : List ℕ) where
      -- a view in which nothing was seen
      abbrev blank : View
      blank = first_view c ns (λ q x. false)

      -- nothing was looked at yet
      untouched : (hand : Hand) → IsUntouched ns at c hand blank hand
      untouched hand = record { has = (refl, refl); fresh = λ x. refl; unmet = λ x e. refl; hand = refl }

      -- a folder that was begun
      as_begun : (z : View) (j : Hand) (o : Opened) → IsBeside at mail c z.contents → IsBegunIn true ns run few path folder c z j [] o → IsBegunOn o z j
      as_begun z j o beside b =
          let g = begun_as run few path folder ns c entries entries_are short (suffix_clean folder) z j [] o b next in
          let same = home (homes_in run few path folder ns c entries entries_are short (suffix_clean folder) b.settled) (b.there refl) g.0 in
          record {
            is_open = record { place = g.1.place; name = g.1.name; valid = g.1.valid; runs = g.1.runs; kept = g.1.kept; contents = g.1.contents; later = g.1.later; is = g.1.is; holds = g.1.holds; stands = g.1.stands };
            beside = subst (λ d. IsBeside at mail c d) (g.1.is.0 refl) beside;
            work = ap (λ x. begun_work path folder entries x (mailbox_in c) next) (sym same) ∙ g.1.work;
          }

      -- an act that says nothing of the work
      no_act : Opened → Plan (Result Unit CommandFault)
      no_act o = Return (Err command.Memory)

      none_acts : (o : Opened) (z : View) (j : Hand) (f : IsOpen path folder o z j) → Gives (by_view true) z j (next o.listing o.sequences f.kept).text (no_act o) (WorkEnds (next o.listing o.sequences f.kept))
      unfolding Gives no_act
      none_acts o z j f = tt

      -- a folder that is there is not absent
      not_absent : (z : View) (e : PlanFault) → BeginErrs true ns run few path folder c z e → c.there at ≡ true → (q : Place) → e ≡ plan.Absent q → ⊥
      not_absent z plan.Faulted f there q e = cc (e)
      not_absent z (plan.Locked p) f there q e = cc (e)
      not_absent z (plan.Meddled p x) f there q e = cc (e)
      not_absent z plan.Full f there q e = cc (e)
      not_absent z (plan.Absent p) f there q e = not_both (c.there at) there (f refl).0
      not_absent z (plan.TooLarge l) f there q e = cc (e)
      not_absent z plan.Memory f there q e = cc (e)

      -- as the plan has it, with what is left of other places
      abbrev Raw : View → Hand → List ℕ → Result Opened PlanFault → Type 0
      Raw z j left r = (left ≡ []) × (BeginEnds true ns run few path folder c z j [] r × IsBeside at mail c z.contents)

      -- so it begins
      as_begins : (hand : Hand) (z : View) (j : Hand) (left : List ℕ) (r : Result Opened PlanFault) → Raw z j left r → Begins z j left r
      as_begins hand z j left (Ok o) f = (f.0, as_begun z j o f.1.1 f.1.0)
      as_begins hand z j left (Err e) f = (
        not_absent z e f.1.0,
        err_end whole z j whole.text left (of_plan folder e) f.0
            (not_begun run few path folder (suffix_clean folder) c entries entries_are short h are ns blank hand (untouched hand) next no_act none_acts z j whole.text e refl f.1.0),
      )

      -- where nothing was seen
      blank_gives : (hand : Hand) → Gives (by_view true) blank hand [] (begun run at mail folder) Begins
      blank_gives hand =
          gives_more (by_view true) blank hand [] (begun run at mail folder) Raw Begins
          (silent (by_view true) blank hand [] (begun run at mail folder) (λ z j left r. BeginEnds true ns run few path folder c z j left r × IsBeside at mail c z.contents)
          (framed (by_view true) (λ z. IsBeside at mail c z.contents) (IsIn (OneOf at mail)) (λ z s a one f. kept_beside at mail c z s a one f) blank hand [] (begun run at mail folder) (BeginEnds true ns run few path folder c)
          (begun_gives true ns run few path folder c blank hand [] (untouched hand)) (asks_begun run at mail folder) (beside_self at mail c)))
          (as_begins hand)

    -- by any view in which these contents stand
    pub begins_give : (v : View) → v.contents ≡ c → (hand : Hand) → Gives (by_view true) v hand [] (begun run at mail folder) Begins
    begins_give v same hand = gives_alike Begins begins_alike v (blank v.numbers) same refl hand [] (begun run at mail folder) (blank_gives v.numbers hand)

    -- with its errors as the command has them
    abbrev pub BeginsIn : View → Hand → List ℕ → Result Opened CommandFault → Type 0
    BeginsIn z j left (Ok o) = (left ≡ []) × IsBegunOn o z j
    BeginsIn z j left (Err e) = WorkEnds whole z j left (Err e)

    -- its errors are the command's
    begins_in : (z : View) (j : Hand) (left : List ℕ) (q : Result Opened PlanFault) → left ≡ [] → Begins z j [] q → BeginsIn z j left (converted (of_plan folder) q)
    begins_in z j left (Ok o) none f = (none, f.1)
    begins_in z j left (Err e) none f = err_end whole z j [] left (of_plan folder e) none f.1

    -- by any view in which these contents stand
    pub opens_give : (v : View) → v.contents ≡ c → (hand : Hand) → Gives (by_view true) v hand [] (lifted (of_plan folder) (begun run at mail folder)) BeginsIn
    opens_give v same hand =
        gives_more (by_view true) v hand [] (lifted (of_plan folder) (begun run at mail folder)) (λ z j left r. (left ≡ []) × ((q : Result Opened PlanFault) × (r ≡ converted (of_plan folder) q) × Begins z j [] q)) BeginsIn
        (lifted_gives v hand [] (of_plan folder) (begun run at mail folder) Begins (begins_give v same hand))
        (λ z j left r g. subst (λ x. BeginsIn z j left x) (sym g.1.1) (begins_in z j left g.1.0 g.0 g.1.2))

  -- a folder that is made where it is missing
  module _ (c : Contents) (entries : List NamedValue) (entries_are : entries ≡ entries_at c mail) (short : IsShort LIMIT_BYTES (c.texts mail context_name)) (h : Homes) (are : AreHomes run (folder_at c at) h)
      (next : List Run → Marked → Kept → Work CommandFault) where
    -- the contents with the folder
    abbrev pub made : Contents
    made = with_folder c at

    -- where it is there
    made_there : made.there at ≡ true
    made_there = rw (place_is at) refl

    -- and what is held aside goes so
    pub made_homes : AreHomesAt run ((mailbox_in made).folders at) h
    unfolding mailbox_in
    made_homes = subst (λ o. AreHomesAt run o h) (sym (there_shown made at (made.there at) made_there)) are

    -- it was made and begun, or the command ended as its work has it
    abbrev pub MakesIn : View → Hand → List ℕ → Result Opened CommandFault → Type 0
    MakesIn = BeginsIn made entries entries_are short h made_homes next

    abbrev Inner : View → Hand → List ℕ → Result Opened PlanFault → Type 0
    Inner = Begins made entries entries_are short h made_homes next

    -- as the plan has it
    abbrev Makes : View → Hand → List ℕ → Result Opened PlanFault → Type 0
    Makes z j left r = (left ≡ []) × ((q : Result Opened PlanFault) × (r ≡ converted once_made q) × Inner z j [] q)

    -- it is made, and begun
    makes_give : (v : View) → v.contents ≡ c → (hand : Hand) → Gives (by_view true) v hand [] (made_begun run at mail folder) Makes
    unfolding made_begun
    makes_give v same hand = make_folder_view true v of_stop hand [] Makes at (λ m. lifted once_made (begun run at mail folder)) (λ f. then_begun answer.Done) (λ f. then_begun answer.Exists)
      where
        then_begun : (a : Answer) → Gives (by_view true) (view_after v (step.MakeFolder at) a) hand [] (lifted once_made (begun run at mail folder)) Makes
        then_begun a =
            lifted_gives (view_after v (step.MakeFolder at) a) hand [] once_made (begun run at mail folder) Inner
            (begins_give made entries entries_are short h made_homes next (view_after v (step.MakeFolder at) a) (ap (λ d. with_folder d at) same) hand)

    -- a folder that was made is not absent
    as_plan : (e : PlanFault) → ((q : Place) → e ≡ plan.Absent q → ⊥) → of_plan folder (once_made e) ≡ of_plan folder e
    as_plan plan.Faulted f = refl
    as_plan (plan.Locked q) f = refl
    as_plan (plan.Meddled q x) f = refl
    as_plan plan.Full f = refl
    as_plan (plan.Absent q) f = absurd (f q refl)
    as_plan (plan.TooLarge l) f = refl
    as_plan plan.Memory f = refl

    -- its errors are the command's
    makes_in : (z : View) (j : Hand) (left : List ℕ) (q : Result Opened PlanFault) → left ≡ [] → Inner z j [] q → MakesIn z j left (converted (of_plan folder) (converted once_made q))
    makes_in z j left (Ok o) none f = (none, f.1)
    makes_in z j left (Err e) none f =
        subst (λ x. MakesIn z j left (Err x)) (sym (as_plan e (f.0 made_there)))
        (err_end (begun_work path folder entries h (mailbox_in made) next) z j [] left (of_plan folder e) none f.1)

    -- by any view in which these contents stand
    pub made_opens : (v : View) → v.contents ≡ c → (hand : Hand) → Gives (by_view true) v hand [] (lifted (of_plan folder) (made_begun run at mail folder)) MakesIn
    made_opens v same hand =
        gives_more (by_view true) v hand [] (lifted (of_plan folder) (made_begun run at mail folder)) (λ z j left r. (left ≡ []) × ((q : Result Opened PlanFault) × (r ≡ converted (of_plan folder) q) × Makes z j [] q)) MakesIn
        (lifted_gives v hand [] (of_plan folder) (made_begun run at mail folder) Makes (makes_give v same hand))
        (λ z j left r g.
        subst (λ x. MakesIn z j left x) (sym (g.1.1 ∙ ap (converted (of_plan folder)) g.1.2.1.1)) (makes_in z j left g.1.2.1.0 g.0 g.1.2.1.2))
