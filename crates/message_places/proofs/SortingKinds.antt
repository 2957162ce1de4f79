-- Steps of messages that change places are of the kinds that the manner of a sorting has.
use Rattle.std.proofs.Common.{inl, inr, ℕ, List, refl}
use Rattle.std.specs.Prelude.{Contains}
use Rattle.mh_base.specs.Entries.{entry_text}
use Rattle.mh_base.specs.Numbers.{IsMsgNum}
use Rattle.mh_base.specs.declared.entry.Entry.TheVariants.{Held, Number}
use Rattle.mh_base.proofs.EntryKinds.{kind_of-entry_text}
use Rattle.folder_files.specs.Careful.{Drops, Gives, Takes}
use Rattle.folder_files.specs.Commands.{MakesStep, Sorting}
use Rattle.folder_files.specs.Deeds.{Deed}
use Rattle.folder_files.specs.declared.place.Place.{Place}
use Rattle.folder_files.specs.declared.place.Place.TheVariants.{Folder}
use Rattle.message_moves.proofs.MovePledged.{taking}
use Rattle.message_places.proofs.ArrangedPledged.{dropping, giving}

module _ (mail folder : List ℕ) (chosen : List ℕ) where
  abbrev p : Place
  p = Folder mail folder

  pub sorting_takes : (run n : ℕ) (own : List Deed) → IsMsgNum n → Contains chosen n → MakesStep (Sorting mail folder chosen) own Takes (taking run p n)
  sorting_takes run n own ok is = inr (refl, entry_text (Number n), (n, kind_of-entry_text (Number n) ok, is), entry_text (Held run n), refl)

  pub sorting_gives : (run n k : ℕ) (own : List Deed) → MakesStep (Sorting mail folder chosen) own Gives (giving run p n k)
  sorting_gives run n k own = inl (inl (refl, refl))

  pub sorting_drops : (run n : ℕ) (own : List Deed) → MakesStep (Sorting mail folder chosen) own Drops (dropping run p n)
  sorting_drops run n own = inl (inl (refl, refl))
