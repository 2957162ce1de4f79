-- What `refile` gives alone: what it comes to on the mailbox that it finds.
use Rattle.std.proofs.Common.{◌≡◌, ◌<◌, ◌^◌, ◌∷◌, [], ℕ, true, List, Option, Some, None, Result, Ok, Err, refl, sym, ◌∙◌, ap, subst, map}
use Rattle.std.specs.Prelude.{decimal, is_some}
use Rattle.mh_base.specs.Folders.{is_folder_name}
use Rattle.mh_profile.specs.declared.named_value.NamedValue.{NamedValue}
use Rattle.mh_sequences.specs.Runs.{has}
use Rattle.folder_files.specs.declared.place.Place.{Place}
use Rattle.folder_files.specs.declared.place.Place.TheVariants.{Folder, Mail}
use Rattle.file_plans.specs.Contents.{Contents, mailbox_in}
use Rattle.file_plans.specs.Giving.{Gives}
use Rattle.file_plans.specs.Mailboxes.{Folder as FolderValue}
use Rattle.file_plans.specs.Plan.{Hand, Return, bind, lifted, ◌>>=◌}
use Rattle.file_plans.specs.Views.{View, by_view}
use Rattle.file_plans.proofs.Giving.{gives_bind, gives_on}
use Rattle.file_plans.proofs.Onward.{IsShort}
use Rattle.step_plans.specs.ContextCommit.{LIMIT_BYTES, context_name}
use Rattle.step_plans.specs.declared.command_fault.CommandFault.{CommandFault}
use Rattle.step_plans.proofs.Committed.{entries_at}
use Rattle.command_stages.specs.Endings.{of_plan}
use Rattle.command_stages.specs.Works.{Work}
use Rattle.opening_plans.specs.BegunWork.{AreHomesAt, Homes}
use Rattle.opening_plans.specs.Kept.{Kept}
use Rattle.opening_plans.specs.Making.{IsBare}
use Rattle.opening_plans.specs.Opening.{Opened, begun, opened_of}
use Rattle.opening_plans.proofs.KeptGiven.{IsClear}
use Rattle.opening_plans.proofs.KeptMessages as shown
use Rattle.opening_plans.proofs.WorkGiven.{IsOpen, WorkEnds, weaker}
use Rattle.message_moves.specs.declared.destination.Destination.{Destination}
use Rattle.refile_plans.specs.Gathering.{all_begun, all_ended}
use Rattle.opening_plans.specs.MadeFolder.{or_empty}
use Rattle.refile_plans.specs.Refile.{current_if, destination_of, gathered_refiled, names_without, opened_refiled, places_of, refile, refile_chosen, said_refiled, targets_of}
use Rattle.refile_plans.specs.RefileOutcome.{AreHomesOfAll, HomesOfAll, refile_work, said_work, source_work, targets_work}
use Rattle.refile_plans.specs.declared.job.RefileJob.{RefileJob}
use Rattle.refile_plans.proofs.EndedAll.{all_end}
use Rattle.refile_plans.proofs.FolderBegun.{BeginsIn, opens_give}
use Rattle.opening_plans.proofs.FolderMade.{AreBare, folder_or_empty}
use Rattle.refile_plans.proofs.MovedShown.{message_shown}
use Rattle.refile_plans.proofs.RefileSilent.{refile_silent}
use Rattle.refile_plans.proofs.RefileChosen.{chosen_give}
use Rattle.refile_plans.proofs.Selected.{in_runs}
use Rattle.refile_plans.proofs.TargetNames.{none_without, targets_any, targets_distinct}
use Rattle.refile_plans.proofs.Distinct.{IsAny}
use Rattle.refile_plans.proofs.TargetsGiven.{AllBegun, AreBegun, AreHomesLeft, Between, Gathers, bare_kept, homes_kept, none_yet, same_message, targets_give}

-- in a folder that is there
homes_at_some : (run : ℕ) (o : Option FolderValue) (h : Homes) → AreHomesAt run (or_empty o) h → AreHomesAt run o h
homes_at_some run None h f = tt
homes_at_some run (Some v) h f = f

module _ (run : ℕ) (few : run < 2 ^ 128) (path : List ℕ) (job : RefileJob) (valid : is_folder_name job.source ≡ true) where
  abbrev p : Place
  p = Folder path job.source

  abbrev mail : Place
  mail = Mail path

  abbrev names : List (List ℕ)
  names = names_without job.source (targets_of job)

  module _ (c : Contents) (bare : IsBare c) (entries : List NamedValue) (entries_are : entries ≡ entries_at c mail) (short : IsShort LIMIT_BYTES (c.texts mail context_name)) (homes : HomesOfAll) (are : AreHomesOfAll run path (mailbox_in c) homes) where
    -- what it comes to
    abbrev w : Work CommandFault
    w = refile_work run path entries homes job (mailbox_in c)

    -- so no name of a missing folder leads anywhere
    all_bare : AreBare c
    all_bare q is off x = bare q off x

    -- what is held aside in the source goes so
    source_homes : AreHomesAt run ((mailbox_in c).folders p) (homes job.source)
    source_homes = homes_at_some run ((mailbox_in c).folders p) (homes job.source) (are job.source)

    -- and in the others
    all_homes : (xs : List (List ℕ)) → AreHomesLeft run few path job.source homes c xs
    all_homes [] = tt
    all_homes (x ∷ xs) = (subst (λ o. AreHomesAt run o (homes x)) (folder_or_empty c path x all_bare) (are x), all_homes xs)

    -- the source was begun, or the command has ended
    abbrev Opens : View → Hand → List ℕ → Result Opened CommandFault → Type 0
    Opens = BeginsIn run few path job.source c entries entries_are short (homes job.source) source_homes (source_work run path homes job)

    -- once the source was begun
    module _ (o : Opened) (z : View) (j : Hand) (f : Opens z j [] (Ok o)) where
      abbrev g : IsOpen path job.source o z j
      g = f.1.is_open

      abbrev start : Contents
      start = g.contents

      -- what comes once all were begun
      abbrev last_work : List Destination → Kept → Work CommandFault
      last_work to l = said_work run path job o.sequences to l (refile_chosen job o.listing o.sequences)

      -- what is left then
      abbrev then_work : Work CommandFault
      then_work = targets_work path homes names [] g.kept last_work

      -- that is what it comes to
      work_is : w ≡ then_work
      unfolding refile_work
      work_is = f.1.work

      -- no other was begun yet
      first_between : Between run few path job.source homes [] [] names start g.kept start j
      first_between = record {
        holds = weaker run few path job.source (λ e. IsClear e p) g.kept start j g.holds;
        same = refl;
        rooms = tt;
        off = none_yet run few path job.source homes names;
        homes_left = homes_kept run few path job.source homes job.source c start f.1.beside names (none_without job.source (targets_of job)) (all_homes names);
        bare = bare_kept run few path job.source homes job.source c start f.1.beside all_bare g.holds.still.there;
        there = g.holds.still.there;
        texts = λ x. refl;
        away = tt;
      }

      -- the listed messages stand there
      start_stands : (n : ℕ) → has o.listing n ≡ true → is_some (start.texts p (decimal n)) ≡ true
      start_stands n e =
          ap is_some (sym (message_shown start path job.source n g.holds.still.there (in_runs o.listing g.runs n e)))
          ∙ (ap is_some (sym (same_message ((mailbox_in start).folders p) n)) ∙ (ap (λ m. is_some (shown.message_at m p n)) g.holds.shows ∙ (g.stands n ∙ e)))

      -- what was begun
      opened_is : o ≡ opened_of p job.source o.listing o.sequences o.ends
      opened_is = λ i. record { place = g.place i; folder = g.name i; listing = o.listing; sequences = o.sequences; ends = o.ends }

      -- and all the others
      module _ (opened : List Opened) (y : View) (i : Hand) (b : AreBegun run few path job.source homes start last_work then_work (IsAny names []) opened y i) where
        -- the source is as it was
        clear : IsClear b.contents p
        clear = record { there = b.between.there; free = λ x t. b.between.texts x ∙ g.holds.still.free x t }

        still_stands : (n : ℕ) → has o.listing n ≡ true → is_some (b.contents.texts p (decimal n)) ≡ true
        still_stands n e = ap is_some (b.between.texts (decimal n)) ∙ start_stands n e

        -- the work on all of them
        opened_gives : Gives (by_view true) y i [] (opened_refiled run path job o opened) (WorkEnds w)
        unfolding opened_refiled
        opened_gives =
            subst (λ v. Gives (by_view true) y i [] (said_refiled run path job o (map destination_of opened) >>= (λ moved. current_if job.set_current run path job.source)) (WorkEnds v)) (sym (work_is ∙ b.work))
            (subst (λ to. Gives (by_view true) y i [] (said_refiled run path job o to >>= (λ moved. current_if job.set_current run path job.source)) (WorkEnds (last_work b.to b.kept))) (sym b.between.same)
            (subst (λ x. Gives (by_view true) y i [] (said_refiled run path job x b.to >>= (λ moved. current_if job.set_current run path job.source)) (WorkEnds (last_work b.to b.kept))) (sym opened_is)
            (chosen_give run few path job o.ends o.listing g.runs o.sequences b.kept b.contents i b.between.holds clear still_stands b.to b.between.away b.between.rooms (λ apart. b.some (targets_any job apart)) valid y b.is)))

      -- the work ends, and the locks fall
      ended_by : (ps : List Place) (opened : List Opened) (end : Result Unit CommandFault) (y : View) (i : Hand) (left : List ℕ) → AllBegun run few path job.source homes start last_work then_work (IsAny names []) y i left opened end
          → Gives (by_view true) y i left (bind (Return end >>= (λ all. opened_refiled run path job o opened)) (all_ended ps)) (WorkEnds w)
      unfolding bind ◌>>=◌
      ended_by ps opened (Ok u) y i left q =
          subst (λ t. Gives (by_view true) y i t (bind (opened_refiled run path job o opened) (all_ended ps)) (WorkEnds w)) (sym q.0)
          (gives_bind (by_view true) y i [] (opened_refiled run path job o opened) (all_ended ps) (WorkEnds w) (WorkEnds w) (opened_gives opened y i q.1) (λ x k rest r e. all_end w ps x k rest r e))
      ended_by ps opened (Err e) y i left q = all_end w ps y i left (Err e) (subst (λ x. WorkEnds x y i left (Err e)) (sym work_is) q)

      -- the rest, once the source was begun
      source_gives : Gives (by_view true) z j [] (bind (all_begun run path names []) (λ x. bind (gathered_refiled run path job o x) (all_ended (places_of o x)))) (WorkEnds w)
      source_gives =
          gives_bind (by_view true) z j [] (all_begun run path names []) (λ x. bind (gathered_refiled run path job o x) (all_ended (places_of o x))) (Gathers run few path job.source homes start last_work then_work (IsAny names [])) (WorkEnds w)
          (targets_give run few path job.source homes start last_work names (targets_distinct job) (none_without job.source (targets_of job)) [] [] g.kept start j first_between z (g.is.0 refl))
          (λ y i left x q. ended_by (places_of o x) x.opened x.end y i left q)

    -- it has ended where the source could not be begun
    not_opened : (z : View) (j : Hand) (left : List ℕ) (e : CommandFault) → Opens z j left (Err e) → WorkEnds w z j left (Err e)
    unfolding refile_work
    not_opened z j left e f = f

    -- the whole, where the context has these entries and its text is not too long
    pub refile_gives : (v : View) → v.contents ≡ c → (hand : Hand) → Gives (by_view true) v hand w.text (refile run path job) (WorkEnds w)
    unfolding refile
    refile_gives v same hand =
        subst (λ text. Gives (by_view true) v hand text (refile run path job) (WorkEnds w)) (sym (refile_silent run path entries homes job (mailbox_in c)))
        (gives_on (by_view true) v hand [] (lifted (of_plan job.source) (begun run p mail job.source)) (λ o. bind (all_begun run path names []) (λ x. bind (gathered_refiled run path job o x) (all_ended (places_of o x)))) Opens (WorkEnds w)
        (opens_give run few path job.source c entries entries_are short (homes job.source) source_homes (source_work run path homes job) v same hand)
        (λ z j left o f. subst (λ t. Gives (by_view true) z j t (bind (all_begun run path names []) (λ x. bind (gathered_refiled run path job o x) (all_ended (places_of o x)))) (WorkEnds w)) (sym f.0) (source_gives o z j (refl, f.1)))
        not_opened)
