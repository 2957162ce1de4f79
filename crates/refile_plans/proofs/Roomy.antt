-- Destinations with room for so many messages, and what copies there make of contents.
use Rattle.std.proofs.Common.{◌≡◌, ◌≤◌, ◌<◌, ◌+◌, ◌∷◌, ◌==◌, ◌&&◌, [], ℕ, suc, Bool, true, false, List, Option, Some, None, refl, ◌∙◌, arith, bytes_eq}
use Rattle.std.specs.Prelude.{decimal, map, if◌then◌else◌}
use Rattle.std.proofs.lemmas.Bool.Decides.{Decides-eqb}
use Rattle.mh_base.specs.Entries.{kind_of}
use Rattle.mh_base.specs.Numbers.{IsMsgNum}
use Rattle.folder_files.specs.Named.{is_number, is_temp}
use Rattle.folder_files.specs.Places.{same_place}
use Rattle.folder_files.specs.declared.place.Place.{Place}
use Rattle.folder_files.specs.declared.place.Place.TheVariants.{Folder}
use Rattle.folder_files.proofs.Names.{is_temp_unnumbered}
use Rattle.folder_files.proofs.Sameness.{place_is}
use Rattle.file_plans.specs.Contents.{Contents, with_text}
use Rattle.file_plans.proofs.Showing.{foreign}
use Rattle.mh_looks.proofs.Apart.{names_apart}
use Rattle.message_moves.specs.Copying.{highest_of}
use Rattle.message_moves.specs.RefiledAlone.{copied_in, next_of, raised}
use Rattle.message_moves.specs.declared.destination.Destination.{Destination}
use Rattle.message_moves.proofs.RefiledGiven.{HasRoom, HaveRoom, IsElsewhere, copied_elsewhere, copied_there, other_place}

module _ (path : List ℕ) where
  -- the folder of this name is there, without temporary names, and so many numbers are free above its highest
  pub record IsRoomy (c : Contents) (to : Destination) (count : ℕ) : Type 0 where
    pub place : to.place ≡ Folder path to.folder
    pub there : c.there to.place ≡ true
    pub free : (x : List ℕ) → is_temp (kind_of x) ≡ true → c.texts to.place x ≡ None
    pub room : highest_of to.highest + count ≤ 999999
    pub above : (m : ℕ) → highest_of to.highest < m → m ≤ 999999 → c.texts to.place (decimal m) ≡ None

  -- so of each, and each stands for itself
  abbrev pub AreRoomy : Contents → List Destination → ℕ → Type 0
  AreRoomy c [] count = Unit {0}
  AreRoomy c (to ∷ others) count = IsRoomy c to count × IsElsewhere to.place others × AreRoomy c others count

  -- room for one
  has_room : (c : Contents) (to : Destination) (count : ℕ) → IsRoomy c to (suc count) → HasRoom c to
  has_room c to count r = let room = r.room in record { there = r.there; free = r.free; low = omega (arith, room); next = r.above (next_of to) (omega arith) (omega (arith, room)) }

  -- room for one in each
  pub have_room : (c : Contents) (to : List Destination) (count : ℕ) → AreRoomy c to (suc count) → HaveRoom c to
  have_room c [] count r = tt
  have_room c (to ∷ others) count r = (has_room c to count r.0, r.1, have_room c others count r.2)

  -- the next number is a message number
  pub next_number : (c : Contents) (to : Destination) (count : ℕ) → IsRoomy c to (suc count) → IsMsgNum (next_of to)
  next_number c to count r = let room = r.room in (omega arith, omega (arith, room))

  -- contents in which the folder is the same
  pub roomy_alike : (c d : Contents) (to : Destination) (count : ℕ) → d.there to.place ≡ true → ((x : List ℕ) → d.texts to.place x ≡ c.texts to.place x) → IsRoomy c to count → IsRoomy d to count
  roomy_alike c d to count there same r = record { place = r.place; there = there; free = λ x t. same x ∙ r.free x t; room = r.room; above = λ m lt le. same (decimal m) ∙ r.above m lt le }

  -- what a name of another place leads to
  pub all_kept : (c : Contents) (p : Place) (x : List ℕ) (s : Option (List ℕ)) (to : List Destination) (count : ℕ) → IsElsewhere p to → AreRoomy c to count → AreRoomy (with_text c p x s) to count
  all_kept c p x s [] count off r = tt
  all_kept c p x s (to ∷ others) count off r =
      (roomy_alike c (with_text c p x s) to count r.0.there (λ y. other_place c p to.place x y s off.0) r.0, r.1, all_kept c p x s others count off.1 r.2)

  -- a number above another is another
  pub not_same : (n k : ℕ) → n < k → (n == k) ≡ false
  not_same n k lt = go (n == k) (Decides-eqb n k).0
    where
      go : (b : Bool) → (b ≡ true → n ≡ k) → b ≡ false
      go true f = absurd (let e = f refl in omega (arith, e, lt))
      go false f = refl

  -- other names of the place, and any name of any place that is another
  same_here : (c : Contents) (p : Place) (n : ℕ) (b x : List ℕ) → bytes_eq (decimal n) x ≡ false → (with_text c p (decimal n) (Some b)).texts p x ≡ c.texts p x
  same_here c p n b x apart = rw (place_is p, apart) refl

  pub same_name : (c : Contents) (p q : Place) (n : ℕ) (s : Option (List ℕ)) (x : List ℕ) → bytes_eq (decimal n) x ≡ false → (with_text c p (decimal n) s).texts q x ≡ c.texts q x
  same_name c p q n s x apart = go (same_place p q)
    where
      go : (b : Bool) → (if b && bytes_eq (decimal n) x then s else c.texts q x) ≡ c.texts q x
      go true = rw apart refl
      go false = refl

  module _ (bytes : List ℕ) where
    -- one copy
    raised_roomy : (c : Contents) (to : Destination) (count : ℕ) → IsRoomy c to (suc count) → IsRoomy (with_text c to.place (decimal (next_of to)) (Some bytes)) (raised to) count
    raised_roomy c to count r =
        let room = r.room in
        let ok : IsMsgNum (next_of to) = next_number c to count r in
        record {
          place = r.place;
          there = r.there;
          free = λ x t. same_here c to.place (next_of to) bytes x (foreign (next_of to) ok x (is_temp_unnumbered x t)) ∙ r.free x t;
          room = omega (arith, room);
          above = λ m lt le. same_here c to.place (next_of to) bytes (decimal m) (names_apart (next_of to) m ok (omega (arith, lt), le) (not_same (next_of to) m lt)) ∙ r.above m (omega (arith, lt)) le;
        }

    -- they are the same folders
    pub raised_elsewhere : (p : Place) (to : List Destination) → IsElsewhere p to → IsElsewhere p (map raised to)
    raised_elsewhere p [] off = tt
    raised_elsewhere p (to ∷ others) off = (off.0, raised_elsewhere p others off.1)

    -- a copy in each: each has room for one less
    pub copied_roomy : (to : List Destination) (c : Contents) (count : ℕ) → AreRoomy c to (suc count) → AreRoomy (copied_in c bytes to) (map raised to) count
    unfolding copied_in
    copied_roomy [] c count r = tt
    copied_roomy (to ∷ others) c count r = (
      roomy_alike later (copied_in later bytes others) (raised to) count (copied_there bytes others later to.place ∙ r.0.there) (λ x. copied_elsewhere bytes others later to.place x r.1) (raised_roomy c to count r.0),
      raised_elsewhere to.place others r.1,
      copied_roomy others later count (all_kept c to.place (decimal (next_of to)) (Some bytes) others (suc count) r.1 r.2),
    )
      where
        later : Contents
        later = with_text c to.place (decimal (next_of to)) (Some bytes)

    -- a name that is no number's leads to what it led to
    pub copied_quiet : (to : List Destination) (c : Contents) (count : ℕ) → AreRoomy c to (suc count) → (q : Place) (x : List ℕ) → is_number (kind_of x) ≡ false → (copied_in c bytes to).texts q x ≡ c.texts q x
    unfolding copied_in
    copied_quiet [] c count r q x isnt = refl
    copied_quiet (to ∷ others) c count r q x isnt =
        copied_quiet others (with_text c to.place (decimal (next_of to)) (Some bytes)) count (all_kept c to.place (decimal (next_of to)) (Some bytes) others (suc count) r.1 r.2) q x isnt
        ∙ same_name c to.place q (next_of to) (Some bytes) x (foreign (next_of to) (next_number c to count r.0) x isnt)
