-- Folders that are made where they are missing and begun, one after another, alone: what was begun before stays as it was.
use Rattle.std.proofs.Common.{◌≡◌, ◌<◌, ◌≤◌, ◌^◌, ◌++◌, ◌∷◌, ◌||◌, [], ℕ, Bool, true, false, List, Option, Some, None, Result, Ok, Err, refl, sym, ◌∙◌, ap, subst, arith, map}
use Rattle.std.specs.Prelude.{decimal, is_some}
use Rattle.std.proofs.lemmas.List.{map-append}
use Rattle.mh_sequences.specs.Sequences.{Marked}
use Rattle.mh_sequences.specs.declared.run.Run.{Run}
use Rattle.folder_files.specs.Places.{is_folder, is_parent, same_place}
use Rattle.folder_files.specs.declared.place.Place.{Place}
use Rattle.folder_files.specs.declared.place.Place.TheVariants.{Folder, Home, Mail, Work as WorkPlace}
use Rattle.folder_files.proofs.Names.{not_both, or_last}
use Rattle.folder_files.proofs.Sameness.{place_same}
use Rattle.file_plans.specs.Contents.{Contents, folder_at, mailbox_in, with_folder}
use Rattle.file_plans.specs.Giving.{Gives}
use Rattle.file_plans.specs.Mailboxes.{Folder as FolderValue}
use Rattle.file_plans.specs.Plan.{Hand, bind, lifted}
use Rattle.file_plans.specs.Views.{View, by_view}
use Rattle.file_plans.proofs.Giving.{gives_bind, gives_more}
use Rattle.file_plans.proofs.Onward.{Is}
use Rattle.file_plans.proofs.Showing.{folder_same}
use Rattle.step_plans.specs.declared.command_fault.CommandFault.{CommandFault}
use Rattle.command_stages.specs.Endings.{of_plan}
use Rattle.command_stages.specs.Works.{Work}
use Rattle.opening_plans.specs.BegunWork.{AreHomes, begun_work}
use Rattle.opening_plans.specs.Kept.{Kept}
use Rattle.opening_plans.specs.Making.{made_begun}
use Rattle.opening_plans.specs.Opening.{Opened}
use Rattle.opening_plans.proofs.KeptGiven.{Holds, IsClear}
use Rattle.opening_plans.proofs.KeptMessages as shown
use Rattle.opening_plans.proofs.WorkGiven.{IsOpen, WorkEnds, weaker}
use Rattle.message_moves.specs.Copying.{highest_of}
use Rattle.message_moves.specs.declared.destination.Destination.{Destination}
use Rattle.message_moves.proofs.RefiledGiven.{IsElsewhere, place_apart}
use Rattle.refile_plans.specs.Gathering.{Gathered, after_one, all_begun}
use Rattle.opening_plans.specs.MadeFolder.{with_folder_made}
use Rattle.refile_plans.specs.MailMoved.{message_of}
use Rattle.refile_plans.specs.Refile.{destination_of, greatest_of}
use Rattle.refile_plans.specs.RefileOutcome.{HomesOfAll, target_of, targets_work}
use Rattle.refile_plans.proofs.BegunBeside.{IsBeside}
use Rattle.refile_plans.proofs.Distinct.{AreDistinct, IsAny, IsFilled, NotAmong, any_behind, elsewhere_behind, roomy_behind}
use Rattle.refile_plans.proofs.Greatest.{greatest_low, unlisted}
use Rattle.refile_plans.proofs.FolderBegun.{MakesIn, made_opens}
use Rattle.opening_plans.proofs.FolderMade.{AreBare, shows_folder_made}
use Rattle.refile_plans.proofs.MovedShown.{message_shown}
use Rattle.refile_plans.proofs.Roomy.{AreRoomy, IsRoomy, roomy_alike}

-- what is not there is none
none_of : (o : Option (List ℕ)) → is_some o ≡ false → o ≡ None
none_of None e = refl
none_of (Some b) e = cc (e)

-- a message of a folder
pub same_message : (o : Option FolderValue) (n : ℕ) → shown.message_of o n ≡ message_of o n
same_message None n = refl
same_message (Some f) n = refl

-- a place has one name
name_same : (path a b : List ℕ) → Folder path a ≡ Folder path b → a ≡ b
name_same path a b e = cc (e)

module _ (run : ℕ) (few : run < 2 ^ 128) (path source : List ℕ) (homes : HomesOfAll) where
  abbrev p : Place
  p = Folder path source

  abbrev mail : Place
  mail = Mail path

  -- messages go to no folder of these names yet
  abbrev AllElsewhere : List (List ℕ) → List Destination → Type 0
  AllElsewhere [] to = Unit {0}
  AllElsewhere (name ∷ names) to = IsElsewhere (Folder path name) to × AllElsewhere names to

  -- what is held aside in the folders of these names goes so
  abbrev pub AreHomesLeft : Contents → List (List ℕ) → Type 0
  AreHomesLeft c [] = Unit {0}
  AreHomesLeft c (name ∷ names) = AreHomes run (folder_at c (Folder path name)) (homes name) × AreHomesLeft c names

  -- no name is that one
  all_elsewhere_behind : (name : List ℕ) (names : List (List ℕ)) (to : List Destination) (t : Destination) → t.place ≡ Folder path name → NotAmong name names → AllElsewhere names to → AllElsewhere names (to ++ t ∷ [])
  all_elsewhere_behind name [] to t is other off = tt
  all_elsewhere_behind name (x ∷ names) to t is other off =
      (elsewhere_behind (Folder path x) to t off.0 (λ e. other.0 (name_same path x name (e ∙ is))), all_elsewhere_behind name names to t is other.1 off.1)

  -- where none was begun yet
  pub none_yet : (names : List (List ℕ)) → AllElsewhere names []
  none_yet [] = tt
  none_yet (name ∷ names) = (tt, none_yet names)

  -- what the beginning of one folder leaves
  module _ (name : List ℕ) (c d : Contents) (beside : IsBeside (Folder path name) mail c d) where
    -- other folders lead to what they led to
    other_texts : (x : List ℕ) → (x ≡ name → ⊥) → (y : List ℕ) → d.texts (Folder path x) y ≡ c.texts (Folder path x) y
    other_texts x other y = beside.texts (Folder path x) (place_apart (Folder path name) (Folder path x) (λ e. other (sym (name_same path name x e)))) refl y

    -- so what is held aside there goes where it went
    pub homes_kept : (names : List (List ℕ)) → NotAmong name names → AreHomesLeft c names → AreHomesLeft d names
    homes_kept [] other f = tt
    homes_kept (x ∷ names) other f =
        (subst (λ v. AreHomes run v (homes x)) (sym (folder_same c d (Folder path x) (λ y shown. other_texts x other.0 y))) f.0, homes_kept names other.1 f.1)

    -- those that have room have it still
    rooms_kept : (to : List Destination) → IsElsewhere (Folder path name) to → AreRoomy path c to 0 → AreRoomy path d to 0
    rooms_kept [] off r = tt
    rooms_kept (t ∷ to) off r =
        (roomy_alike path c d t 0 (beside.there t.place r.0.there) (λ x. beside.texts t.place (place_apart (Folder path name) t.place off.0) (not_mail t.place t.folder r.0.place) x) r.0, r.1, rooms_kept to off.1 r.2)
      where
        not_mail : (q : Place) (f : List ℕ) → q ≡ Folder path f → same_place mail q ≡ false
        not_mail q f e = ap (same_place mail) e

    -- no name of a missing folder leads anywhere
    pub bare_kept : AreBare c → d.there (Folder path name) ≡ true → AreBare d
    bare_kept bare there q is none x = go (same_place (Folder path name) q) refl
      where
        was : (b : Bool) → c.there q ≡ b → b ≡ false
        was true e = absurd (not_both (d.there q) (beside.there q e) none)
        was false e = refl

        not_mail : (q : Place) → is_folder q ≡ true → same_place mail q ≡ false
        not_mail (Folder a b) e = refl
        not_mail (Mail a) e = cc (e)
        not_mail Home e = refl
        not_mail WorkPlace e = refl

        go : (b : Bool) → same_place (Folder path name) q ≡ b → d.texts q x ≡ None
        go true e = absurd (not_both (d.there q) (ap d.there (sym (place_same (Folder path name) q e)) ∙ there) none)
        go false e = beside.texts q e (not_mail q is) x ∙ bare q is (was (c.there q) refl) x

  -- Some folders were begun, to which messages go. Those of these names are still to be; the source is as it was.
  pub record Between (before : List Opened) (to : List Destination) (names : List (List ℕ)) (start : Contents) (k : Kept) (c : Contents) (j : Hand) : Type 0 where
    pub holds : Holds (λ d. Unit {0}) path k c j
    pub same : map destination_of before ≡ to
    pub rooms : AreRoomy path c to 0
    pub off : AllElsewhere names to
    pub homes_left : AreHomesLeft c names
    pub bare : AreBare c
    pub there : c.there p ≡ true
    pub texts : (x : List ℕ) → c.texts p x ≡ start.texts p x
    pub away : IsElsewhere p to

  module _ (start : Contents) (next : List Destination → Kept → Work CommandFault) where
    -- all were begun, and the work goes on with them
    pub record AreBegun (w : Work CommandFault) (Any : Type 0) (opened : List Opened) (z : View) (j : Hand) : Type 0 where
      pub to : List Destination
      pub kept : Kept
      pub contents : Contents
      pub is : Is true z.numbers z contents
      pub work : w ≡ next to kept
      pub between : Between opened to [] start kept contents j
      pub some : Any → IsFilled to

    -- or the command has ended
    abbrev pub AllBegun : Work CommandFault → Type 0 → View → Hand → List ℕ → List Opened → Result Unit CommandFault → Type 0
    AllBegun w Any z j left opened (Ok u) = (left ≡ []) × AreBegun w Any opened z j
    AllBegun w Any z j left opened (Err e) = WorkEnds w z j left (Err e)

    -- so of what was gathered
    abbrev pub Gathers : Work CommandFault → Type 0 → View → Hand → List ℕ → Gathered → Type 0
    Gathers w Any z j left g = AllBegun w Any z j left g.opened g.end

    -- as of the work that goes on with it
    gathers_on : (u w : Work CommandFault) (A B : Type 0) → u ≡ w → (B → A) → (z : View) (j : Hand) (left : List ℕ) (opened : List Opened) (end : Result Unit CommandFault) → AllBegun u A z j left opened end → AllBegun w B z j left opened end
    gathers_on u w A B same more z j left opened (Ok t) f =
        (f.0, record { to = f.1.to; kept = f.1.kept; contents = f.1.contents; is = f.1.is; work = sym same ∙ f.1.work; between = f.1.between; some = λ b. f.1.some (more b) })
    gathers_on u w A B same more z j left opened (Err e) f = subst (λ x. WorkEnds x z j left (Err e)) same f

    -- one is begun
    module _ (name : List ℕ) (names : List (List ℕ)) (before : List Opened) (to : List Destination) (k : Kept) (c : Contents) (j : Hand) (other : NotAmong name names) (not_source : name ≡ source → ⊥) (b : Between before to (name ∷ names) start k c j) where
      abbrev at : Place
      at = Folder path name

      -- the work on what is left
      abbrev then_work : List Run → Marked → Kept → Work CommandFault
      then_work listing m l = targets_work path homes names (to ++ target_of path name listing ∷ []) l next

      -- the work
      abbrev all_work : Work CommandFault
      all_work = targets_work path homes (name ∷ names) to k next

      -- it was begun, or the command has ended
      abbrev Begun : View → Hand → List ℕ → Result Opened CommandFault → Type 0
      Begun = MakesIn run few path name c k.entries b.holds.entries b.holds.short (homes name) b.homes_left.0 then_work

      -- that is the work
      work_same : begun_work path name k.entries (homes name) (mailbox_in (with_folder c at)) then_work ≡ all_work
      unfolding targets_work
      work_same = ap (λ m. begun_work path name k.entries (homes name) m then_work) (shows_folder_made c at b.bare ∙ ap (λ m. with_folder_made m at) b.holds.shows)

      module _ (o : Opened) (z : View) (i : Hand) (f : Begun z i [] (Ok o)) where
        abbrev g : IsOpen path name o z i
        g = f.1.is_open

        abbrev t : Destination
        t = target_of path name o.listing

        abbrev d : Contents
        d = g.contents

        -- other folders are as they were
        beside : IsBeside at mail c d
        beside = record { there = λ q e. f.1.beside.there q (or_last (same_place at q || is_parent q at) (c.there q) e); texts = λ q off away x. f.1.beside.texts q off away x }

        -- above its greatest number nothing stands
        none_above : (m : ℕ) → highest_of t.highest < m → m ≤ 999999 → d.texts at (decimal m) ≡ None
        none_above m lt le =
            none_of (d.texts at (decimal m))
            (ap is_some (sym (message_shown d path name m g.holds.still.there (omega (arith, lt), le))) ∙ (ap is_some (sym (same_message ((mailbox_in d).folders at) m)) ∙ (ap (λ x. is_some (shown.message_at x at m)) g.holds.shows ∙ (g.stands m ∙ unlisted o.listing m lt))))

        -- so it has room
        one_roomy : IsRoomy path d t 0
        one_roomy = record {
          place = refl;
          there = g.holds.still.there;
          free = g.holds.still.free;
          room = let low = greatest_low 1 o.listing g.runs in omega (arith, low);
          above = none_above;
        }

        -- messages go there
        target_same : destination_of o ≡ t
        target_same = λ x. record { folder = g.name x; place = g.place x; highest = greatest_of o.listing }

        -- the others are still to be begun
        pub then_between : Between (before ++ o ∷ []) (to ++ t ∷ []) names start g.kept d i
        then_between = record {
          holds = weaker run few path name (λ e. IsClear e at) g.kept d i g.holds;
          same = map-append destination_of before (o ∷ []) ∙ (λ x. b.same x ++ target_same x ∷ []);
          rooms = roomy_behind path d to t 0 (rooms_kept name c d beside to b.off.0 b.rooms) b.off.0 one_roomy;
          off = all_elsewhere_behind name names to t refl other b.off.1;
          homes_left = homes_kept name c d beside names other b.homes_left.1;
          bare = bare_kept name c d beside b.bare g.holds.still.there;
          there = beside.there p b.there;
          texts = λ x. other_texts name c d beside source (λ e. not_source (sym e)) x ∙ b.texts x;
          away = elsewhere_behind p to t b.away (λ e. not_source (sym (name_same path source name e)));
        }

        -- the work goes on so
        pub then_same : then_work o.listing o.sequences g.kept ≡ all_work
        then_same = sym f.1.work ∙ work_same

      -- and then the others
      module _ (rec : (o : Opened) (z : View) (i : Hand) (f : Begun z i [] (Ok o))
          → Gives (by_view true) z i [] (all_begun run path names (before ++ o ∷ [])) (Gathers (then_work o.listing o.sequences (g o z i f).kept) (IsAny names (to ++ t o z i f ∷ [])))) where
        -- where it was begun the others follow
        one_then : (z : View) (i : Hand) (left : List ℕ) (r : Result Opened CommandFault) → Begun z i left r
            → Gives (by_view true) z i left (after_one before r (λ now. all_begun run path names now)) (Gathers all_work (IsAny (name ∷ names) to))
        unfolding Gives
        one_then z i left (Ok o) f =
            subst (λ x. Gives (by_view true) z i x (all_begun run path names (before ++ o ∷ [])) (Gathers all_work (IsAny (name ∷ names) to))) (sym f.0)
            (gives_more (by_view true) z i [] (all_begun run path names (before ++ o ∷ [])) (Gathers (then_work o.listing o.sequences (g o z i (refl, f.1)).kept) (IsAny names (to ++ t o z i (refl, f.1) ∷ []))) (Gathers all_work (IsAny (name ∷ names) to))
            (rec o z i (refl, f.1))
            (λ y l rest x q. gathers_on (then_work o.listing o.sequences (g o z i (refl, f.1)).kept) all_work (IsAny names (to ++ t o z i (refl, f.1) ∷ [])) (IsAny (name ∷ names) to) (then_same o z i (refl, f.1)) (λ u. any_behind names to (t o z i (refl, f.1))) y l rest x.opened x.end q))
        one_then z i left (Err e) f = subst (λ x. WorkEnds x z i left (Err e)) work_same f

        -- it is begun, and the others after it
        one_gives : (v : View) → v.contents ≡ c
            → Gives (by_view true) v j [] (bind (lifted (of_plan name) (made_begun run at mail name)) (λ r. after_one before r (λ now. all_begun run path names now))) (Gathers all_work (IsAny (name ∷ names) to))
        one_gives v same =
            gives_bind (by_view true) v j [] (lifted (of_plan name) (made_begun run at mail name)) (λ r. after_one before r (λ now. all_begun run path names now)) Begun (Gathers all_work (IsAny (name ∷ names) to))
            (made_opens run few path name c k.entries b.holds.entries b.holds.short (homes name) b.homes_left.0 then_work v same j) one_then

    -- all of them
    pub targets_give : (names : List (List ℕ)) → AreDistinct names → NotAmong source names → (before : List Opened) (to : List Destination) (k : Kept) (c : Contents) (j : Hand) → Between before to names start k c j → (v : View) → v.contents ≡ c
        → Gives (by_view true) v j [] (all_begun run path names before) (Gathers (targets_work path homes names to k next) (IsAny names to))
    unfolding Gives all_begun targets_work
    targets_give [] distinct other before to k c j b v same = (refl, record { to = to; kept = k; contents = c; is = ((λ e. same), refl); work = refl; between = b; some = λ f. f })
    targets_give (name ∷ names) distinct other before to k c j b v same =
        one_gives name names before to k c j distinct.0 other.0 b
        (λ o z i f.
        targets_give names distinct.1 other.1 (before ++ o ∷ []) (to ++ t name names before to k c j distinct.0 other.0 b o z i f ∷ []) (g name names before to k c j distinct.0 other.0 b o z i f).kept
        (g name names before to k c j distinct.0 other.0 b o z i f).contents i (then_between name names before to k c j distinct.0 other.0 b o z i f) z ((g name names before to k c j distinct.0 other.0 b o z i f).is.0 refl))
        v same
