-- Steps of a refiling are of the kinds that its manner has, and so are those of copies that leave their message where it is.
use Rattle.std.proofs.Common.{◌<◌, ◌^◌, inl, inr, ℕ, List, refl}
use Rattle.std.specs.Prelude.{Contains}
use Rattle.mh_base.specs.Entries.{entry_text}
use Rattle.mh_base.specs.Numbers.{IsMsgNum}
use Rattle.mh_base.specs.declared.entry.Entry.TheVariants.{Held, Number}
use Rattle.mh_base.proofs.EntryKinds.{kind_of-entry_text}
use Rattle.folder_files.specs.Careful.{Discards, Puts, Takes, WasReady}
use Rattle.folder_files.specs.Commands.{HasReadChosen, HasReadHeld, Linking, MakesStep, Refiling}
use Rattle.folder_files.specs.Deeds.{Deed, now, on}
use Rattle.folder_files.specs.declared.place.Place.{Place}
use Rattle.folder_files.specs.declared.place.Place.TheVariants.{Folder}
use Rattle.folder_files.specs.declared.step.Step.TheVariants as step
use Rattle.folder_files.proofs.Names.{is_held_any}
use Rattle.file_plans.proofs.Framing.{AnyStep}
use Rattle.step_plans.specs.ContextCommit.{LIMIT_BYTES}
use Rattle.step_plans.proofs.Lasting.{KeptBy}
use Rattle.message_moves.proofs.MovePledged.{after_content, is_held_so, taking}

module _ (mail source : List ℕ) (chosen : List ℕ) (targets : List (List ℕ)) where
  abbrev p : Place
  p = Folder mail source

  pub takes_chosen : (run n : ℕ) (own : List Deed) → IsMsgNum n → Contains chosen n → MakesStep (Refiling mail source chosen targets) own Takes (taking run p n)
  takes_chosen run n own ok is = inr (inr (inl (refl, entry_text (Number n), (n, kind_of-entry_text (Number n) ok, is), entry_text (Held run n), refl)))

  pub puts_held : (target bytes temp number : List ℕ) (own : List Deed) → Contains targets target → HasReadHeld p bytes own → WasReady (Folder mail target) temp bytes own → MakesStep (Refiling mail source chosen targets) own Puts (step.Link (Folder mail target) temp number)
  puts_held target bytes temp number own is read ready = inr (inr (inr (inl (target, is, bytes, read, (refl, temp, number, refl, ready)))))

  pub discards_held : (held : List ℕ) (own : List Deed) → MakesStep (Refiling mail source chosen targets) own Discards (step.Unlink p held)
  discards_held held own = inr (inr (inr (inr (refl, refl))))

  pub puts_chosen : (target bytes temp number : List ℕ) (own : List Deed) → Contains targets target → HasReadChosen p chosen bytes own → WasReady (Folder mail target) temp bytes own → MakesStep (Linking mail source chosen targets) own Puts (step.Link (Folder mail target) temp number)
  puts_chosen target bytes temp number own is read ready = inr (inr (target, is, bytes, read, (refl, temp, number, refl, ready)))

  -- what was read under a held name or a chosen number, was so read from then on
  pub held_read : (run : ℕ) → run < 2 ^ 128 → (n : ℕ) → IsMsgNum n → (bytes : List ℕ) (own : List Deed) → HasReadHeld p bytes (after_content p (entry_text (Held run n)) bytes own)
  held_read run few n ok bytes own = now (entry_text (Held run n), is_held_any run (entry_text (Held run n)) (is_held_so run few n ok), (LIMIT_BYTES, refl))

  pub held_read_kept : (bytes : List ℕ) → KeptBy AnyStep (HasReadHeld p bytes)
  held_read_kept bytes own s a any f = on f

  pub chosen_read : (n : ℕ) → IsMsgNum n → Contains chosen n → (bytes : List ℕ) (own : List Deed) → HasReadChosen p chosen bytes (after_content p (entry_text (Number n)) bytes own)
  chosen_read n ok is bytes own = now (entry_text (Number n), (n, kind_of-entry_text (Number n) ok, is), (LIMIT_BYTES, refl))

  pub chosen_read_kept : (bytes : List ℕ) → KeptBy AnyStep (HasReadChosen p chosen bytes)
  chosen_read_kept bytes own s a any f = on f
