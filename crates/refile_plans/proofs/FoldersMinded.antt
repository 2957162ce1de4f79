-- What a run knows of the folders that it has begun, and what the begin of another leaves of it.
use Rattle.std.proofs.Common.{◌≡◌, inl, inr, ◌++◌, ◌∷◌, [], ℕ, true, false, List, sym, bytes_eq}
use Rattle.std.specs.Prelude.{Contains}
use Rattle.mh_sequences.specs.Reading.{suffix}
use Rattle.mh_sequences.specs.Runs.{has}
use Rattle.folder_files.specs.Deeds.{Deed}
use Rattle.folder_files.specs.declared.place.Place.{Place}
use Rattle.folder_files.specs.declared.place.Place.TheVariants.{Folder, Mail}
use Rattle.folder_files.specs.declared.step.Step.{Step}
use Rattle.folder_files.specs.declared.step.Step.TheVariants as step
use Rattle.file_plans.specs.Plan.{Hand}
use Rattle.file_plans.proofs.Framing.{AnyStep, asks_any}
use Rattle.step_plans.specs.Commits.{IsBase}
use Rattle.step_plans.specs.Pledges.{MayAsk, Pledge}
use Rattle.step_plans.proofs.Facts.{LeavesBase, base_kept}
use Rattle.step_plans.proofs.Going.{Outcome, okay}
use Rattle.sequence_marks.specs.SequenceMarks.{says_public}
use Rattle.sequence_commits.proofs.SequencesPledged.{sequences_name}
use Rattle.opening_plans.specs.Making.{made_begun}
use Rattle.opening_plans.specs.Opening.{Opened, begun}
use Rattle.opening_plans.proofs.AllMarks.{MindsAll}
use Rattle.opening_plans.proofs.BegunSeen.{HasSeenBegun, NoneUnlinked, still_none}
use Rattle.opening_plans.proofs.CommitMinds.{IsTold}
use Rattle.opening_plans.proofs.FreeMarks.{FreesOthers}
use Rattle.opening_plans.proofs.MadeMinds.{Made}
use Rattle.opening_plans.proofs.Meeting.{Meets, meets_keeping, meets_okay, meets_quietly}
use Rattle.opening_plans.proofs.ToldMarks.{InListing}
use Rattle.refile_plans.proofs.BeginsAsks.{Begins, asks_begun, asks_made_begun}
use Rattle.refile_plans.proofs.FolderNames.{first_there, later_there}
use Rattle.refile_plans.proofs.Meetings.{AnyAsk, meets_okay_both}
use Rattle.refile_plans.proofs.OtherKept.{KeptOf, made_kept}

-- a folder that was begun: what was seen of it, the base of its text, and that neither that nor the context marks a number that was not listed
pub record HasMinded (run : ℕ) (path name : List ℕ) (own : List Deed) (o : Opened) : Type 0 where
  pub begun : HasSeenBegun path name own o
  pub frees : FreesOthers run path name o.listing own
  pub old : List ℕ
  pub base : IsBase run (Folder path name) sequences_name old own
  pub marks : (sequence : List ℕ) (n : ℕ) → says_public sequence old n ≡ true → has o.listing n ≡ true

-- of several folders, by their names
abbrev pub AllMinded : ℕ → List ℕ → List (List ℕ) → List Opened → List Deed → Type 0
AllMinded run path [] [] own = Unit {0}
AllMinded run path [] (o ∷ os) own = ⊥
AllMinded run path (n ∷ ns) [] own = ⊥
AllMinded run path (n ∷ ns) (o ∷ os) own = HasMinded run path n own o × AllMinded run path ns os own

pub minded_behind : (run : ℕ) (path : List ℕ) (own : List Deed) (ns : List (List ℕ)) (os : List Opened) (n : List ℕ) (o : Opened) → AllMinded run path ns os own → HasMinded run path n own o → AllMinded run path (ns ++ n ∷ []) (os ++ o ∷ []) own
minded_behind run path own [] [] n o all one = (one, tt)
minded_behind run path own [] (x ∷ os) n o all one = absurd all
minded_behind run path own (m ∷ ns) [] n o all one = absurd all
minded_behind run path own (m ∷ ns) (x ∷ os) n o all one = (all.0, minded_behind run path own ns os n o all.1 one)

-- a folder is told apart from each of these, or is that one
abbrev pub IsToldAll : List (List ℕ) → List ℕ → Type 0
IsToldAll names other = (name : List ℕ) → Contains names name → IsTold name other

-- no two of these have entries of one ending
abbrev pub AreToldApart : List (List ℕ) → Type 0
AreToldApart names = (name : List ℕ) → Contains names name → IsToldAll names name

-- what minds the marks of more folders minds those of fewer
pub minds_fewer : (More Fewer : List ℕ → Type 0) → ((other : List ℕ) → Fewer other → More other) → (run : ℕ) (own : List Deed) (s : Step) → MindsAll More run own s → MindsAll Fewer run own s
minds_fewer More Fewer within run own s f = record {
  public = f.public;
  private = λ mail folder sequence is. f.private mail folder sequence (within folder is);
  considerate = λ mail folder sequence is. f.considerate mail folder sequence (within folder is);
}

pub of_made : (w : Pledge) (path name : List ℕ) (own later : List Deed) (j : Hand) (o : Opened) → Made w path name own later j o → HasMinded w.run path name later o
of_made w path name own later j o f = record { begun = f.1.0; frees = f.1.1; old = f.0.base.0; base = f.0.base.1; marks = f.0.marks }

-- one name of these folders is unlinked by no such step
abbrev NotUnlinked : List ℕ → List (List ℕ) → Step → Type 0
NotUnlinked path names s = (n : List ℕ) → Contains names n → (x : List ℕ) → s ≡ step.Unlink (Folder path n) x → ⊥

abbrev pub NoneUnlinkedIn : List ℕ → List (List ℕ) → List Deed → Type 0
NoneUnlinkedIn path names own = (n : List ℕ) → Contains names n → NoneUnlinked (Folder path n) own

-- The pledge; the mail directory; and the folder that is begun.
module _ (w : Pledge) (path other : List ℕ) where
  abbrev q : Place
  q = Folder path other

  abbrev mail : Place
  mail = Mail path

  abbrev M : (own : List Deed) (h : Hand) → Outcome Opened → Type 0
  M own h Q = Meets (MayAsk w) AnyAsk own h (made_begun w.run q mail other) (okay Q)

  one_name : (name : List ℕ) → (other ≡ name → ⊥) → Folder path other ≡ Folder path name → ⊥
  one_name name off e = off (cc (e))

  base_begins : (name : List ℕ) → (other ≡ name → ⊥) → Begins (LeavesBase (Folder path name) sequences_name) w.run q mail
  base_begins name off = record {
    text = record {
      make = tt;
      lock = tt;
      list = tt;
      clear = λ temp is. tt;
      read = λ same named. one_name name off same;
      create = λ temp bytes. tt;
      sync_file = λ temp. tt;
      rename = λ temp same named. one_name name off same;
      sync = tt;
      unlock = one_name name off;
    };
    context = record {
      make = tt;
      lock = tt;
      list = tt;
      clear = λ temp is. tt;
      read = λ same named. cc (same);
      create = λ temp bytes. tt;
      sync_file = λ temp. tt;
      rename = λ temp same named. cc (same);
      sync = tt;
      unlock = λ e. cc (e);
    };
    give = λ h number pair others. tt;
    drop = λ x. tt;
  }

  apart_told : (name : List ℕ) → (other ≡ name → ⊥) → IsTold other name → bytes_eq (suffix name) (suffix other) ≡ false
  apart_told name off (inl e) = absurd (off (sym e))
  apart_told name off (inr f) = f

  -- what is known of a folder that was begun stays so
  minded_kept : (name : List ℕ) (o : Opened) → (other ≡ name → ⊥) → IsTold other name → (own : List Deed) (h : Hand) → HasMinded w.run path name own o → M own h (λ later j x. HasMinded w.run path name later o)
  minded_kept name o off told own h f =
      meets_okay (MayAsk w) AnyAsk own h (made_begun w.run q mail other) (λ later j x. IsBase w.run (Folder path name) sequences_name f.old later × Kept later) (λ later j x. HasMinded w.run path name later o)
      (λ later j x g. record {
        begun = record { place = f.begun.place; name = f.begun.name; names = f.begun.names; facts = g.1.0; runs = f.begun.runs; text = f.begun.text; context = f.begun.context; sequences = f.begun.sequences };
        frees = g.1.1;
        old = f.old;
        base = g.0;
        marks = f.marks;
      })
      (meets_keeping (MayAsk w) AnyAsk (LeavesBase (Folder path name) sequences_name) (IsBase w.run (Folder path name) sequences_name f.old) (λ before s a may leaves g. base_kept w.run (Folder path name) sequences_name f.old before s a leaves g) own h
      (made_begun w.run q mail other) (λ later j x. Kept later) (asks_made_begun (LeavesBase (Folder path name) sequences_name) w.run q mail (base_begins name off) other) f.base
      (made_kept w path name f.begun.names (InListing o.listing) o.listing other (one_name name off) (apart_told name off told) own h (f.begun.facts, f.frees)))
    where
      Kept : List Deed → Type 0
      Kept later = KeptOf w path name f.begun.names (InListing o.listing) o.listing other (one_name name off) (apart_told name off told) later

  -- of all of them
  pub all_kept : (ns : List (List ℕ)) (os : List Opened) → ((n : List ℕ) → Contains ns n → other ≡ n → ⊥) → ((n : List ℕ) → Contains ns n → IsTold other n) → (own : List Deed) (h : Hand) → AllMinded w.run path ns os own
      → M own h (λ later j x. AllMinded w.run path ns os later)
  all_kept [] [] off told own h f = meets_quietly (MayAsk w) AnyAsk AnyStep (λ later. Unit {0}) (λ before s a may any g. tt) (λ before s may any g. tt) own h (made_begun w.run q mail other) (asks_any (made_begun w.run q mail other)) tt
  all_kept [] (o ∷ os) off told own h f = absurd f
  all_kept (n ∷ ns) [] off told own h f = absurd f
  all_kept (n ∷ ns) (o ∷ os) off told own h f =
      meets_okay_both (MayAsk w) AnyAsk AnyAsk own h (made_begun w.run q mail other) (λ later j x. HasMinded w.run path n later o) (λ later j x. AllMinded w.run path ns os later)
      (minded_kept n o (off n (first_there n ns)) (told n (first_there n ns)) own h f.0) (all_kept ns os (λ m c. off m (later_there n ns m c)) (λ m c. told m (later_there n ns m c)) own h f.1)

  -- and nothing is unlinked in others
  none_begins : (names : List (List ℕ)) → ((n : List ℕ) → Contains names n → other ≡ n → ⊥) → Begins (NotUnlinked path names) w.run q mail
  none_begins names off = record {
    text = record {
      make = λ n c x e. cc (e);
      lock = λ n c x e. cc (e);
      list = λ n c x e. cc (e);
      clear = λ temp is n c x e. off n c (cc (e));
      read = λ n c x e. cc (e);
      create = λ temp bytes n c x e. cc (e);
      sync_file = λ temp n c x e. cc (e);
      rename = λ temp n c x e. cc (e);
      sync = λ n c x e. cc (e);
      unlock = λ n c x e. cc (e);
    };
    context = record {
      make = λ n c x e. cc (e);
      lock = λ n c x e. cc (e);
      list = λ n c x e. cc (e);
      clear = λ temp is n c x e. cc (e);
      read = λ n c x e. cc (e);
      create = λ temp bytes n c x e. cc (e);
      sync_file = λ temp n c x e. cc (e);
      rename = λ temp n c x e. cc (e);
      sync = λ n c x e. cc (e);
      unlock = λ n c x e. cc (e);
    };
    give = λ h number pair others n c x e. cc (e);
    drop = λ name n c x e. off n c (cc (e));
  }

  pub none_kept : (names : List (List ℕ)) → ((n : List ℕ) → Contains names n → other ≡ n → ⊥) → (own : List Deed) (h : Hand) → NoneUnlinkedIn path names own → M own h (λ later j x. NoneUnlinkedIn path names later)
  none_kept names off own h f =
      meets_quietly (MayAsk w) AnyAsk (NotUnlinked path names) (NoneUnlinkedIn path names) (λ before s a may is g n c. still_none (Folder path n) before s a (is n c) (g n c)) (λ before s may is g. tt) own h (made_begun w.run q mail other)
      (asks_made_begun (NotUnlinked path names) w.run q mail (none_begins names off) other) f

  -- also where it isn't made before that
  pub none_kept_begun : (names : List (List ℕ)) → ((n : List ℕ) → Contains names n → other ≡ n → ⊥) → (own : List Deed) (h : Hand) → NoneUnlinkedIn path names own
      → Meets (MayAsk w) AnyAsk own h (begun w.run q mail other) (okay (λ later j x. NoneUnlinkedIn path names later))
  none_kept_begun names off own h f =
      meets_quietly (MayAsk w) AnyAsk (NotUnlinked path names) (NoneUnlinkedIn path names) (λ before s a may is g n c. still_none (Folder path n) before s a (is n c) (g n c)) (λ before s may is g. tt) own h (begun w.run q mail other)
      (asks_begun (NotUnlinked path names) w.run q mail (none_begins names off) other) f
