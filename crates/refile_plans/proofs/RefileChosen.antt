-- What `refile` does alone with the messages that its words choose, once all folders were begun.
use Rattle.std.proofs.Common.{◌≡◌, ◌<◌, ◌^◌, ◌+◌, ◌∷◌, [], ℕ, Bool, true, false, List, Option, Some, None, Result, Ok, Err, refl, sym, subst, arith, length, nat_le}
use Rattle.std.specs.Prelude.{decimal, is_some, if◌then◌else◌}
use Rattle.std.proofs.lemmas.Bool.Decides.{nat_tests}
use Rattle.mh_base.specs.Folders.{is_folder_name}
use Rattle.mh_sequences.specs.Runs.{AreRuns, has, numbers_of}
use Rattle.mh_sequences.specs.Sequences.{Marked}
use Rattle.mh_sequences.specs.declared.run.Run.{Run}
use Rattle.msg_ranges.specs.Selection.{marks_of}
use Rattle.folder_files.specs.declared.place.Place.{Place}
use Rattle.folder_files.specs.declared.place.Place.TheVariants.{Folder}
use Rattle.folder_files.specs.declared.refusal.Refusal.{Refusal}
use Rattle.folder_files.specs.declared.refusal.Refusal.TheVariants as refusal
use Rattle.file_plans.specs.Contents.{Contents}
use Rattle.file_plans.specs.Giving.{Gives}
use Rattle.file_plans.specs.Plan.{Hand, Return, bind, ◌>>=◌}
use Rattle.file_plans.specs.Views.{View, by_view}
use Rattle.file_plans.proofs.Onward.{Is}
use Rattle.step_plans.specs.declared.command_fault.CommandFault.{CommandFault}
use Rattle.step_plans.specs.declared.command_fault.CommandFault.TheVariants as command
use Rattle.command_stages.specs.Chosen.{folder_with}
use Rattle.command_stages.specs.Works.{Work, refused_at}
use Rattle.mh_looks.proofs.Scanning.{refuses}
use Rattle.opening_plans.specs.Kept.{Kept}
use Rattle.opening_plans.specs.Opening.{Opened, opened_of}
use Rattle.opening_plans.proofs.KeptGiven.{Holds, IsClear}
use Rattle.opening_plans.proofs.WorkGiven.{WorkEnds}
use Rattle.message_moves.specs.Copying.{highest_of}
use Rattle.message_moves.specs.declared.destination.Destination.{Destination}
use Rattle.message_moves.proofs.RefiledGiven.{IsElsewhere}
use Rattle.refile_plans.specs.Refile.{current_if, messages_left, messages_stay, moved_by, names_source, refile_chosen, room_in, said_refiled, unless_source}
use Rattle.refile_plans.specs.RefileOutcome.{apart_work, first_full, moved_work, room_work, said_work, set_work}
use Rattle.refile_plans.specs.declared.job.RefileJob.{RefileJob}
use Rattle.refile_plans.specs.declared.job.RmmJob.{RmmJob}
use Rattle.refile_plans.proofs.Roomy.{AreRoomy}
use Rattle.refile_plans.proofs.Selected.{chosen_listed, chosen_numbers, chosen_rise}
use Rattle.refile_plans.proofs.Distinct.{IsFilled}
use Rattle.refile_plans.proofs.RefiledOpened.{Leads, leads_on, leave_gives, refused_so, stay_gives}
use Rattle.command_stages.specs.Endings.{if_room}

-- whether the destinations have room
abbrev room_end : Option (List ℕ) → Result Unit CommandFault
room_end None = Ok tt
room_end (Some folder) = Err (command.Refused (refusal.Full folder))

-- the plan says the first that has none
room_is : (to : List Destination) (count : ℕ) → room_in to count ≡ Return (room_end (first_full to count))
unfolding room_in first_full bind ◌>>=◌
room_is [] count = refl
room_is (t ∷ to) count = one (nat_le (highest_of t.highest + count) 999999) (room_is to count)
  where
    one : (b : Bool) → room_in to count ≡ Return (room_end (first_full to count)) → (if_room b t.folder >>= (λ room. room_in to count)) ≡ Return (room_end (if b then first_full to count else Some t.folder))
    one true f = f
    one false f = refl

-- where none is full each has room for so many
rooms_for : (path : List ℕ) (to : List Destination) (count : ℕ) (c : Contents) → first_full to count ≡ None → AreRoomy path c to 0 → AreRoomy path c to count
unfolding first_full
rooms_for path [] count c full r = tt
rooms_for path (t ∷ to) count c full r = go (nat_le (highest_of t.highest + count) 999999) refl full (λ f. rooms_for path to count c f r.2)
  where
    go : (b : Bool) → nat_le (highest_of t.highest + count) 999999 ≡ b → (if b then first_full to count else Some t.folder) ≡ None → (first_full to count ≡ None → AreRoomy path c to count) → AreRoomy path c (t ∷ to) count
    go true e f more = (record { place = r.0.place; there = r.0.there; free = r.0.free; room = grind (arith, nat_tests, e); above = r.0.above }, r.1, more f)
    go false e f more = cc (f)

-- the words choose, and the chosen messages go
module _ (run : ℕ) (few : run < 2 ^ 128) (path : List ℕ) (job : RefileJob) where
  abbrev source : List ℕ
  source = job.source

  abbrev at : Place
  at = Folder path source

  abbrev last_work : Kept → Work CommandFault
  last_work = set_work job.set_current path source

  -- the same words as a job of `rmm`
  abbrev as_rmm : RmmJob
  as_rmm = record { folder = job.source; specs = job.specs; unlink = false; negation = job.negation }

  module _ (ends : List (Option ℕ)) (listing : List Run) (runs : AreRuns listing) (m : Marked) (k : Kept) (c : Contents) (h : Hand) (holds : Holds (λ e. Unit {0}) path k c h) (clear : IsClear c at)
      (stands : (n : ℕ) → has listing n ≡ true → is_some (c.texts at (decimal n)) ≡ true) (to : List Destination) (away : IsElsewhere at to) (rooms : AreRoomy path c to 0) (filled : names_source job ≡ false → IsFilled to) where
    abbrev o : Opened
    o = opened_of at source listing m ends

    abbrev So : Work CommandFault → View → Hand → List ℕ → Result Unit CommandFault → Type 0
    So w = Leads run few path source w last_work

    -- they go, or are copied
    moves_give : (numbers : List ℕ) → refile_chosen job listing m ≡ Ok numbers → AreRoomy path c to (length numbers) → IsFilled to → (b : Bool) (z : View) → Is true z.numbers z c → Gives (by_view true) z h [] (moved_by b run path job o to numbers) (So (moved_work b run path job m numbers to k))
    unfolding messages_stay messages_left
    moves_give numbers is room some true z at_ =
        stay_gives run few path source k c h holds clear to away numbers (chosen_rise as_rmm listing m numbers is) (chosen_numbers as_rmm listing m numbers is runs) (λ n e. stands n (chosen_listed as_rmm listing m numbers is n e)) room last_work z at_
    moves_give numbers is room some false z at_ =
        leave_gives run few path source k c h holds clear to some away numbers (chosen_rise as_rmm listing m numbers is) (chosen_numbers as_rmm listing m numbers is runs) (λ n e. stands n (chosen_listed as_rmm listing m numbers is n e)) room m last_work z at_

    -- a refusal
    refuses_so : (r : Refusal) (w : Work CommandFault) → w ≡ refused_at k.mailbox (command.Refused r) → (z : View) → Is true z.numbers z c → So w z h [] (Err (command.Refused r))
    refuses_so r w is z at_ = refused_so run few path source w last_work r k c z h is holds.shows at_

    -- where each has room
    by_room : (numbers : List ℕ) → refile_chosen job listing m ≡ Ok numbers → names_source job ≡ false → (full : Option (List ℕ)) → first_full to (length numbers) ≡ full → (z : View) → Is true z.numbers z c
        → Gives (by_view true) z h [] (Return (room_end full) >>= (λ room. moved_by job.link run path job o to numbers)) (So (room_work full run path job m numbers to k))
    unfolding Gives bind ◌>>=◌
    by_room numbers is apart None full z at_ = moves_give numbers is (rooms_for path to (length numbers) c full rooms) (filled apart) job.link z at_
    by_room numbers is apart (Some folder) full z at_ = refuses_so (refusal.Full folder) (refused_at k.mailbox (command.Refused (refusal.Full folder))) refl z at_

    -- where none is the source
    by_source : (numbers : List ℕ) → refile_chosen job listing m ≡ Ok numbers → (b : Bool) → names_source job ≡ b → (z : View) → Is true z.numbers z c
        → Gives (by_view true) z h [] (unless_source b job.source >>= (λ apart. room_in to (length numbers) >>= (λ room. moved_by job.link run path job o to numbers))) (So (apart_work b run path job m numbers to k))
    unfolding Gives bind ◌>>=◌
    by_source numbers is true apart z at_ = refuses_so (refusal.SameFolder job.source) (refused_at k.mailbox (command.Refused (refusal.SameFolder job.source))) refl z at_
    by_source numbers is false apart z at_ =
        subst (λ q. Gives (by_view true) z h [] (q >>= (λ room. moved_by job.link run path job o to numbers)) (So (apart_work false run path job m numbers to k))) (sym (room_is to (length numbers)))
        (by_room numbers is apart (first_full to (length numbers)) refl z at_)

    -- where the words choose
    by_words : (value : Result (List ℕ) CommandFault) → refile_chosen job listing m ≡ value → (z : View) → Is true z.numbers z c
        → Gives (by_view true) z h [] (Return value >>= (λ numbers. unless_source (names_source job) job.source >>= (λ apart. room_in to (length numbers) >>= (λ room. moved_by job.link run path job o to numbers)))) (So (said_work run path job m to k value))
    unfolding Gives bind ◌>>=◌
    by_words (Ok numbers) is z at_ = by_source numbers is (names_source job) refl z at_
    by_words (Err e) is z at_ =
        let r = refuses (folder_with job.negation (numbers_of listing) (marks_of m)) job.specs e is in
        subst (λ x. So (refused_at k.mailbox x) z h [] (Err x)) (sym r.1) (refuses_so r.0 (refused_at k.mailbox (command.Refused r.0)) refl z at_)

    -- what it comes to
    abbrev said : Work CommandFault
    said = said_work run path job m to k (refile_chosen job listing m)

    -- so it is
    said_gives : (z : View) → Is true z.numbers z c → Gives (by_view true) z h [] (said_refiled run path job o to) (So said)
    unfolding said_refiled
    said_gives z at_ = by_words (refile_chosen job listing m) refl z at_

    -- and then the source becomes the current folder, where it is to
    pub chosen_give : is_folder_name job.source ≡ true → (z : View) → Is true z.numbers z c → Gives (by_view true) z h [] (said_refiled run path job o to >>= (λ moved. current_if job.set_current run path job.source)) (WorkEnds said)
    chosen_give valid z at_ = leads_on run few path source valid job.set_current said (said_refiled run path job o to) z h (said_gives z at_)
