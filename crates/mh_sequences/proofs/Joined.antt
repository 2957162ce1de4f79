-- A set joined to a sequence.
use Rattle.std.proofs.Common.{◌≡◌, ℕ, Bool, true, false, Option, List, [], refl, sym, ◌∙◌, ap}
use Rattle.std.specs.Prelude.{bytes_eq, if◌then◌else◌}
use Rattle.mh_sequences.specs.declared.run.Run.{Run}
use Rattle.mh_sequences.specs.declared.join.Join.{Join}
use Rattle.mh_sequences.specs.Runs.{has}
use Rattle.mh_sequences.specs.Joins.{joins}
use Rattle.mh_sequences.specs.Marks.{set_to}
use Rattle.mh_sequences.specs.Sequences.{Sequence, AreSequences, marked_of, runs_of, public_of, member}
use Rattle.mh_sequences.specs.Placing.{placed}
use Rattle.mh_sequences.specs.Changes.{IsJoined}
use Rattle.mh_sequences.proofs.NamePlaces.{same_is}
use Rattle.mh_sequences.proofs.Placing.{tells, told_placed, runs_alone, public_alone}

module _ (name : List ℕ) (numbers : List Run) (how : Join) (public : Option Bool) (p : Bool) (runs : List Run) (old new : List Sequence) (cur : Option ℕ) (h : AreSequences old) (set : (n : ℕ) → has runs n ≡ joins how (member old name n) (has numbers n)) (state : p ≡ set_to public (public_of old name)) (e : new ≡ placed name p runs old) where
  members : (s : List ℕ) (n : ℕ) (b : Bool) → (b ≡ true → s ≡ name) → has (if b then tells (λ x. x.runs) [] name p runs else runs_of old s) n ≡ (if b then joins how (member old s n) (has numbers n) else member old s n)
  members s n true same = ap (λ rs. has rs n) (runs_alone name p runs) ∙ set n ∙ ap (λ t. joins how (member old t n) (has numbers n)) (sym (same refl))
  members s n false same = refl

  states : (s : List ℕ) (n : ℕ) (b : Bool) → (b ≡ true → s ≡ name) → has (if b then tells (λ x. x.runs) [] name p runs else runs_of old s) n ≡ true → (if b then tells (λ x. x.public) true name p runs else public_of old s) ≡ (if b then set_to public (public_of old s) else public_of old s)
  states s n true same m = public_alone name p runs n (sym (ap (λ rs. has rs n) (runs_alone name p runs)) ∙ m) ∙ state ∙ ap (λ t. set_to public (public_of old t)) (sym (same refl))
  states s n false same m = refl

  shown : (s : List ℕ) (n : ℕ) → member new s n ≡ has (if bytes_eq s name then tells (λ x. x.runs) [] name p runs else runs_of old s) n
  shown s n = ap (λ l. member l s n) e ∙ ap (λ rs. has rs n) (told_placed (λ x. x.runs) [] name p runs old h s)

  pub is_joined : IsJoined name numbers how public (marked_of old cur) (marked_of new cur)
  is_joined = record {
    members = λ s n. shown s n ∙ members s n (bytes_eq s name) (same_is s name);
    state = λ s n m. ap (λ l. public_of l s) e ∙ told_placed (λ x. x.public) true name p runs old h s ∙ states s n (bytes_eq s name) (same_is s name) (sym (shown s n) ∙ m);
    cur = refl;
  }
