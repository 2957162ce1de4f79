-- While a folder is begun and read, and its sequences are committed, the run uses none of its own held names.
use Rattle.std.proofs.Common.{◌≡◌, ◌<◌, ◌^◌, ◌∷◌, [], ℕ, true, false, List, sym, ◌∙◌, ap}
use Rattle.std.proofs.lemmas.Bool.Decides.{Decides-eqb}
use Rattle.mh_base.specs.Entries.{entry_text, kind_of}
use Rattle.mh_base.specs.Numbers.{IsMsgNum}
use Rattle.mh_base.specs.declared.entry.Entry.TheVariants.{Held, Number, Sequences}
use Rattle.mh_base.proofs.EntryKinds.{kind_of-entry_text}
use Rattle.folder_files.specs.Deeds.{Deed}
use Rattle.folder_files.specs.declared.place.Place.{Place}
use Rattle.folder_files.specs.declared.place.Place.TheVariants.{Folder, Mail}
use Rattle.folder_files.specs.declared.step.Step.{Step}
use Rattle.folder_files.specs.declared.step.Step.TheVariants as step
use Rattle.step_plans.specs.ContextCommit.{LIMIT_BYTES}
use Rattle.step_plans.proofs.Lasting.{KeptBy}
use Rattle.held_messages.specs.HeldPairs.{held_name}
use Rattle.held_messages.specs.declared.held.HeldPair.{HeldPair}
use Rattle.held_messages.proofs.ListedPairs.{IsPair, held_kind}
use Rattle.sequence_commits.proofs.SequencesPledged.{sequences_name}
use Rattle.message_moves.proofs.MoveCopied.{SparesHeld}
use Rattle.message_moves.proofs.RefilePledged.{AllSpared}
use Rattle.message_places.specs.Places.{AreMsgNums}
use Rattle.refile_plans.proofs.BeginsAsks.{Begins, IsOthers}
use Rattle.refile_plans.proofs.RefileMoved.{HasHeldNone}

pub spared_of : (run : ℕ) (q : Place) (own : List Deed) → HasHeldNone run q own → (ns : List ℕ) → AreMsgNums ns → AllSpared run q ns own
spared_of run q own f [] good = tt
spared_of run q own f (n ∷ ns) good = (f n good.0, spared_of run q own f ns good.1)

module _ (run : ℕ) (few : run < 2 ^ 128) (path folder : List ℕ) where
  abbrev p : Place
  p = Folder path folder

  abbrev mail : Place
  mail = Mail path

  -- a step that uses none of them
  abbrev pub Spares : Step → Type 0
  Spares s = (n : ℕ) → IsMsgNum n → SparesHeld p (entry_text (Held run n)) s

  pub none_kept : KeptBy Spares (HasHeldNone run p)
  none_kept own s a leaves f n ok = (leaves n ok, f n ok)

  apart : mail ≡ p → ⊥
  apart e = cc (e)

  no_sequences : (n : ℕ) → IsMsgNum n → sequences_name ≡ entry_text (Held run n) → ⊥
  no_sequences n ok e = absurd (let same : Sequences ≡ Held run n = sym (kind_of-entry_text Sequences tt) ∙ (ap kind_of e ∙ kind_of-entry_text (Held run n) (few, ok)) in cc (same))

  not_own : (h : HeldPair) → IsPair h → IsOthers run h → (n : ℕ) → IsMsgNum n → held_name h ≡ entry_text (Held run n) → ⊥
  not_own h pair others n ok e =
      let same : Held h.run h.number ≡ Held run n = sym (held_kind h pair) ∙ (ap kind_of e ∙ kind_of-entry_text (Held run n) (few, ok)) in
      let alike : h.run ≡ run = cc (same) in absurd (let no : true ≡ false = sym ((Decides-eqb h.run run).1 alike) ∙ others in cc (no))

  pub begins_sparing : Begins Spares run p mail
  begins_sparing = record {
    text = record {
      make = λ n ok. tt;
      lock = λ n ok. tt;
      list = λ n ok. tt;
      clear = λ temp is. λ n ok. tt;
      read = λ n ok same named. no_sequences n ok named;
      create = λ temp bytes. λ n ok. tt;
      sync_file = λ temp. λ n ok. tt;
      rename = λ temp. λ n ok same named. no_sequences n ok named;
      sync = λ n ok. tt;
      unlock = λ n ok. tt;
    };
    context = record {
      make = λ n ok. tt;
      lock = λ n ok. tt;
      list = λ n ok. tt;
      clear = λ temp is. λ n ok. tt;
      read = λ n ok same named. apart same;
      create = λ temp bytes. λ n ok. tt;
      sync_file = λ temp. λ n ok. tt;
      rename = λ temp. λ n ok same named. apart same;
      sync = λ n ok. tt;
      unlock = λ n ok. tt;
    };
    give = λ h number pair others n ok same named. not_own h pair others n ok named;
    drop = λ x n ok. tt;
  }

  -- nor where a message is read
  held_other : (k n : ℕ) → Number k ≡ Held run n → ⊥
  held_other k n e = cc (e)

  pub reads_spare : (k : ℕ) → IsMsgNum k → Spares (step.Read p (entry_text (Number k)) LIMIT_BYTES)
  reads_spare k good n ok same named = held_other k n (sym (kind_of-entry_text (Number k) good) ∙ (ap kind_of named ∙ kind_of-entry_text (Held run n) (few, ok)))
