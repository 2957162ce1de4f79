-- What it gives alone that messages of a folder get other numbers and their marks go along.
use Rattle.std.proofs.Common.{◌≡◌, ◌<◌, ◌^◌, ℕ, true, false, List, [], ◌∷◌, Some, None, Result, Ok, Err, refl, sym, ◌∙◌, ap, subst}
use Rattle.std.specs.Prelude.{decimal, is_some}
use Rattle.std.specs.List.{list_all}
use Rattle.mail_headers.specs.Lines.{is_name_byte}
use Rattle.mh_profile.specs.Reading.{entries_in}
use Rattle.mh_sequences.specs.Reading.{suffix}
use Rattle.mh_sequences.specs.Sequences.{Marked}
use Rattle.folder_files.specs.declared.place.Place.{Place}
use Rattle.folder_files.specs.declared.place.Place.TheVariants.{Folder, Mail}
use Rattle.file_plans.specs.Contents.{Contents, filled, mailbox_in}
use Rattle.file_plans.specs.Giving.{Gives}
use Rattle.file_plans.specs.Mailboxes.{Folder as FolderValue}
use Rattle.file_plans.specs.Plan.{Hand, Return, ◌>>=◌}
use Rattle.file_plans.specs.Views.{View, by_view}
use Rattle.file_plans.proofs.Framing.{gives_quietly}
use Rattle.file_plans.proofs.Onward.{IsShort}
use Rattle.step_plans.specs.ContextCommit.{LIMIT_BYTES}
use Rattle.step_plans.specs.declared.fault.PlanFault.{PlanFault}
use Rattle.step_plans.specs.declared.fault.PlanFault.TheVariants as plan
use Rattle.held_messages.specs.HeldPairs.{with_folder_changed}
use Rattle.sequence_commits.specs.Committing.{changed_sequences}
use Rattle.sequence_commits.proofs.MarkedOnce.{marked_valid}
use Rattle.message_places.specs.Arranging.{arranged}
use Rattle.message_places.specs.Places.{AreDistinct, AreMsgNums, froms, is_in, rearranged, slots}
use Rattle.message_places.specs.declared.moves.Move.{Move}
use Rattle.opening_plans.specs.Kept.{Commits, Kept, kept_of, sequences_kept}
use Rattle.opening_plans.specs.Opening.{Opened, opened_of}
use Rattle.opening_plans.proofs.KeptGiven.{Ends, Holds, IsClear}
use Rattle.opening_plans.proofs.WorkGiven.{IsOpen, sequences_give}
use Rattle.sortm_plans.specs.Marking.{gone_along}
use Rattle.sortm_plans.specs.MarksAlong.{marks_along, then_commits}
use Rattle.sortm_plans.specs.Moving.{marked_moved, moved_if}
use Rattle.mh_sequences.specs.Runs.{last_in}
use Rattle.sortm_plans.proofs.Cleared.{unheld}
use Rattle.sortm_plans.proofs.PlacesGiven.{Stands, StandsSo, stands_give}
use Rattle.refile_plans.proofs.Lasts.{last_small}
use Rattle.refile_plans.specs.Rmm.{withdrawn}

then_all : (c : Commits) (next : Kept → Commits) → c.long ≡ None → then_commits c next ≡ next c.kept
then_all c next none = rw none refl

module _ (run : ℕ) (few : run < 2 ^ 128) (path folder : List ℕ) (clean : list_all is_name_byte (suffix folder) ≡ true) where
  abbrev p : Place
  p = Folder path folder

  abbrev mail : Place
  mail = Mail path

  abbrev Clear : Contents → Type 0
  Clear c = IsClear c p

  -- how commits ended decides; messages that moved ended at their slots
  abbrev pub EndsAt : List Move → Commits → View → Hand → Result (List ℕ) PlanFault → Type 0
  EndsAt ms commits y i (Ok ends) = (ends ≡ slots ms) × Ends Clear path y.numbers commits y i (Ok tt)
  EndsAt ms commits y i (Err e) = Ends Clear path y.numbers commits y i (Err e)

  err_here : (ns : List ℕ) (ms : List Move) (commits : Commits) (y : View) (i : Hand) (e : PlanFault) → Ends Clear path ns commits y i (Err e) → EndsAt ms commits y i (Err e)
  err_here ns ms commits y i plan.Faulted e = e
  err_here ns ms commits y i (plan.Locked q) e = e
  err_here ns ms commits y i (plan.Meddled q x) e = e
  err_here ns ms commits y i plan.Full e = e
  err_here ns ms commits y i (plan.Absent q) e = e
  err_here ns ms commits y i (plan.TooLarge l) e = e
  err_here ns ms commits y i plan.Memory e = e

  -- a text of the first that is too long ends both
  first_ends : (ns : List ℕ) (ms : List Move) (c : Commits) (more : Kept → Commits) (y : View) (i : Hand) (e : PlanFault) → Ends Clear path ns c y i (Err e) → EndsAt ms (then_commits c more) y i (Err e)
  first_ends ns ms c more y i plan.Faulted e = e
  first_ends ns ms c more y i (plan.Locked q) e = e
  first_ends ns ms c more y i (plan.Meddled q x) e = e
  first_ends ns ms c more y i plan.Full e = e
  first_ends ns ms c more y i (plan.Absent q) e = e
  first_ends ns ms c more y i (plan.TooLarge l) e = let w = after l e.0 in (ap (λ x. x.long) w, e.1 ∙ sym (ap (λ x. x.kept.mailbox) w))
    where
      after : (l : ℕ) → c.long ≡ Some l → then_commits c more ≡ record { kept = c.kept; long = Some l }
      after l some = rw some refl
  first_ends ns ms c more y i plan.Memory e = e

  -- a folder that was begun, and these messages move, which makes this of the folder
  module _ (o : Opened) (z : View) (j : Hand) (f : IsOpen path folder o z j) (takes : List ℕ) (good_takes : AreMsgNums takes) (takes_distinct : AreDistinct takes) (ms : List Move) (good_froms : AreMsgNums (froms ms)) (froms_distinct : AreDistinct (froms ms))
      (good_slots : AreMsgNums (slots ms)) (slots_distinct : AreDistinct (slots ms)) (just : (k : ℕ) → is_in k (froms ms) ≡ is_in k takes) (moves : FolderValue → FolderValue)
      (alike : (g : FolderValue) → rearranged ms (slots ms) (unheld run takes g) ≡ moves g) where
    abbrev m : Marked
    m = o.sequences

    abbrev opened : Opened
    opened = opened_of p folder o.listing m o.ends

    abbrev freed : Marked
    freed = withdrawn takes m

    abbrev new : Marked
    new = gone_along ms (slots ms) m

    abbrev first : Commits
    first = sequences_kept path folder m freed f.kept

    abbrev pub with_moves : Kept → Kept
    with_moves l = kept_of (with_folder_changed l.mailbox p moves) l.entries

    abbrev second : Kept → Commits
    second y = sequences_kept path folder freed new (with_moves y)

    -- each stands there still, once the sequences are without it, and its slot is free or one of theirs
    module _ (stand : (d : Contents) → mailbox_in d ≡ first.kept.mailbox → d.there p ≡ true → (n : ℕ) → is_in n takes ≡ true → is_some (d.texts p (decimal n)) ≡ true)
        (free : (d : Contents) → mailbox_in d ≡ first.kept.mailbox → d.there p ≡ true → (n : ℕ) → is_in n (slots ms) ≡ true → is_in n takes ≡ false → d.texts p (decimal n) ≡ None) where
      abbrev SoStands : Contents → Hand → Hand → View → List ℕ → Type 0
      SoStands d i h y ends = StandsSo run few path folder takes good_takes takes_distinct ms good_froms froms_distinct good_slots slots_distinct just moves alike d i h y ends

      -- they stand at their slots, and the sequences have them again
      holds_then : (d : Contents) (i h : Hand) (y : View) (ends : List ℕ) → Holds Clear path first.kept d i → (s : SoStands d i h y ends) → Holds Clear path (with_moves first.kept) s.contents h
      holds_then d i h y ends holds s = record {
        shows = s.shows ∙ ap (λ b. with_folder_changed b p moves) holds.shows;
        entries = holds.entries ∙ sym (ap (λ t. entries_in (filled t)) s.context);
        known = ap (λ b. b.context) s.hand ∙ holds.known;
        short = subst (IsShort LIMIT_BYTES) (sym s.context) holds.short;
        still = s.clear holds.still;
      }

      abbrev Ended : View → Hand → List ℕ → Result (List ℕ) PlanFault → Type 0
      Ended y i left r = EndsAt ms (then_commits first second) y i r

      restored_gives : (d : Contents) (i h : Hand) (y : View) (ends : List ℕ) → first.long ≡ None → Holds Clear path first.kept d i → SoStands d i h y ends
          → Gives (by_view true) y h [] (changed_sequences run p mail folder freed (gone_along ms ends m) >>= (λ back. Return (Ok ends))) Ended
      unfolding Gives
      restored_gives d i h y ends short holds s =
          subst (λ es. Gives (by_view true) y h [] (changed_sequences run p mail folder freed (gone_along ms es m) >>= (λ back. Return (Ok es))) Ended) (sym s.at_slots)
          (gives_quietly (by_view true) y h [] (changed_sequences run p mail folder freed new) (λ back. Return (Ok (slots ms))) (λ w b left r. Ends Clear path y.numbers (second first.kept) w b r) Ended
          (sequences_give run few path folder clean freed new (marked_valid _ m) y.numbers (with_moves first.kept) s.contents y h ((λ e. s.is), refl) (holds_then d i h y ends holds s) [])
          (λ w b u e. subst (λ q. EndsAt ms q w b (Ok (slots ms))) (sym (then_all first second short)) (refl, (e.0, (e.1.0, (e.1.1.0, refl), e.1.2))))
          (λ w b e g. subst (λ q. EndsAt ms q w b (Err e)) (sym (then_all first second short)) (err_here y.numbers ms (second first.kept) w b e g)))

      marked_gives : Gives (by_view true) z j [] (marked_moved run mail opened takes ms) Ended
      unfolding marked_moved
      marked_gives =
          gives_quietly (by_view true) z j [] (changed_sequences run p mail folder m freed)
          (λ free_. arranged run p takes ms (last_in o.listing) >>= (λ ends. changed_sequences run p mail folder freed (gone_along ms ends m) >>= (λ back. Return (Ok ends))))
          (λ y i left r. Ends Clear path f.later first y i r) Ended (sequences_give run few path folder clean m freed (marked_valid _ m) f.later f.kept f.contents z j f.is f.holds [])
          (λ y i u e.
          gives_quietly (by_view true) y i [] (arranged run p takes ms (last_in o.listing)) (λ ends. changed_sequences run p mail folder freed (gone_along ms ends m) >>= (λ back. Return (Ok ends))) (Rearranged e.1.0 i) Ended
          (stands_give run few path folder takes good_takes takes_distinct ms good_froms froms_distinct good_slots slots_distinct just moves alike
          e.1.0 e.1.2.still (stand e.1.0 e.1.2.shows e.1.2.still.there) (free e.1.0 e.1.2.shows e.1.2.still.there) (last_in o.listing) (last_small o.listing f.runs) f.later y i [] e.1.1)
          (λ w h ends s. restored_gives e.1.0 i h w ends e.0 e.1.2 s) (λ w h x s. absurd s))
          (λ y i e g. first_ends f.later ms first second y i e g)
        where
          Rearranged : Contents → Hand → View → Hand → List ℕ → Result (List ℕ) PlanFault → Type 0
          Rearranged d i y h left r = Stands run few path folder takes good_takes takes_distinct ms good_froms froms_distinct good_slots slots_distinct just moves alike d i y h left r

      -- where none moves nothing is done
      pub moved_gives : (l : List Move) → ms ≡ l → Gives (by_view true) z j [] (moved_if run mail opened takes l) (λ y i left r. EndsAt l (marks_along path folder m takes l with_moves f.kept) y i r)
      unfolding Gives
      moved_gives [] are = (refl, (refl, (f.contents, (f.is.0, refl), f.holds)))
      moved_gives (x ∷ l) are =
          subst (λ t. Gives (by_view true) z j [] (marked_moved run mail opened takes t) (λ y i left r. EndsAt t (then_commits first (λ q. sequences_kept path folder freed (gone_along t (slots t) m) (with_moves q))) y i r)) are marked_gives
