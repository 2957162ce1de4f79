-- Mentions, one after another.
use Rattle.std.proofs.Common.{◌≡◌, ℕ, zero, suc, ◌+◌, ◌<◌, ◌≤◌, Bool, true, false, Some, List, [], ◌∷◌, ◌++◌, length, get_or, drop, refl, sym, ◌∙◌, ap, subst, arith, add-one, drop-cons, ⊎_elim}
use Rattle.std.specs.Prelude.{bytes_eq, slice_get, ◌&&◌, ◌||◌}
use Rattle.std.specs.List.{All}
use Rattle.std.proofs.lemmas.Bool.{both_ways}
use Rattle.std.proofs.lemmas.List.Elements.{All-push}
use Rattle.std.proofs.lemmas.List.Folds.{list_any-append}
use Rattle.mail_headers.specs.Fields.{FieldText}
use Rattle.mail_headers.specs.Unfolding.{unfolded}
use Rattle.mh_profile.specs.declared.named_value.NamedValue.{NamedValue}
use Rattle.mh_sequences.specs.declared.run.Run.{Run}
use Rattle.mh_sequences.specs.declared.mention.Mention.{Mention}
use Rattle.mh_sequences.specs.Names.{is_seq_name}
use Rattle.mh_sequences.specs.Lists.{lists}
use Rattle.mh_sequences.specs.Runs.{AreRuns, inside, has}
use Rattle.mh_sequences.specs.Mentions.{given, AreNoted, IsMention, IsMentioned}
use Rattle.mh_sequences.specs.Reading.{attribute, lists_public, lists_private, IsContextNoted, IsPlaceNoted, IsPublicPart}
use Rattle.mh_sequences.proofs.Bools.{or_nothing, same_test}
use Rattle.mh_sequences.proofs.NamePlaces.{same_is, same_self}
use Rattle.mh_sequences.proofs.Piling.{each_run, run_here, past}

pub same_turned : (a b : List ℕ) → bytes_eq a b ≡ bytes_eq b a
same_turned a b =
    same_test (bytes_eq a b) (bytes_eq b a)
    (λ h. ap (λ x. bytes_eq b x) (same_is a b h) ∙ same_self b)
    (λ h. ap (λ x. bytes_eq a x) (same_is b a h) ∙ same_self a)

regroup : (m v x r : Bool) → (m || (v && x)) || (v && r) ≡ m || (v && (x || r))
regroup true v x r = refl
regroup false true x r = refl
regroup false false x r = refl

nothing_left : (v m : Bool) → m || (v && false) ≡ m
nothing_left true m = or_nothing m
nothing_left false m = or_nothing m

given_pushed : (ms : List Mention) (m : Mention) (s : List ℕ) (n : ℕ) → given (ms ++ m ∷ []) s n ≡ given ms s n || (bytes_eq m.name.now s && inside m.run n)
given_pushed ms m s n = list_any-append (λ x. bytes_eq x.name.now s && inside x.run n) ms (m ∷ []) ∙ ap (λ b. given ms s n || b) (or_nothing (bytes_eq m.name.now s && inside m.run n))

-- the runs that are left complete those that were noted
pub record AreNotedSoFar (name : List ℕ) (runs rest : List Run) (old now : List Mention) : Type 0 where
  pub valid : All IsMention now
  pub given : (s : List ℕ) (n : ℕ) → given now s n || (bytes_eq name s && has rest n) ≡ given old s n || (bytes_eq name s && has runs n)

pub run_noted : (m : Mention) (runs : List Run) (i : ℕ) (old now next : List Mention) → AreRuns runs → is_seq_name m.name.now ≡ true → i < length runs → m.run ≡ get_or runs i m.run → next ≡ now ++ m ∷ [] → AreNotedSoFar m.name.now runs (drop i runs) old now → AreNotedSoFar m.name.now runs (drop (i + 1) runs) old next
run_noted m runs i old now next h named lt is e before =
    let at : drop i runs ≡ m.run ∷ drop (suc i) runs = drop-cons runs i m.run lt ∙ ap (λ x. x ∷ drop (suc i) runs) (sym is) in
    rw (add-one i, e) (record {
      valid = All-push IsMention now m before.valid (record { name = named; run = run_here runs i m.run (each_run runs h) lt is });
      given = λ s n.
          ap (λ b. b || (bytes_eq m.name.now s && has (drop (suc i) runs) n)) (given_pushed now m s n)
          ∙ regroup (given now s n) (bytes_eq m.name.now s) (inside m.run n) (has (drop (suc i) runs) n)
          ∙ ap (λ l. given now s n || (bytes_eq m.name.now s && has l n)) (sym at)
          ∙ before.given s n;
    })

pub all_noted : (name : List ℕ) (runs : List Run) (i : ℕ) (old now : List Mention) → length runs ≤ i → AreNotedSoFar name runs (drop i runs) old now → AreNoted name runs old now
all_noted name runs i old now le is = record {
  valid = is.valid;
  given = λ s n. sym (ap (λ l. given now s n || (bytes_eq name s && has l n)) (past runs i le) ∙ nothing_left (bytes_eq name s) (given now s n)) ∙ is.given s n;
}

with_name : (b v x y : Bool) → (b ≡ true → v ≡ true) → x ≡ y → b && x ≡ v && (b && y)
with_name true v x y named e = (λ i. sym (named refl) i && e i)
with_name false true x y named e = refl
with_name false false x y named e = refl

without_name : (b v x : Bool) → (b ≡ true → v ≡ false) → v && (b && x) ≡ false
without_name true true x never = absurd (both_ways true (never refl) refl)
without_name true false x never = refl
without_name false true x never = refl
without_name false false x never = refl

-- the runs of a list under a sequence's name
pub mentioned : (name list : List ℕ) (runs : List Run) (old new : List Mention) → is_seq_name name ≡ true → ((n : ℕ) → has runs n ≡ lists list n) → AreNoted name runs old new → IsMentioned name list old new
mentioned name list runs old new named same is = record {
  valid = is.valid;
  given = λ s n. is.given s n ∙ ap (λ b. given old s n || b) (with_name (bytes_eq name s) (is_seq_name s) (has runs n) (lists list n) (λ e. ap is_seq_name (sym (same_is name s e)) ∙ named) (same n));
}

-- and under another name
pub unmentioned : (name list : List ℕ) (old : List Mention) → is_seq_name name ≡ false → All IsMention old → IsMentioned name list old old
unmentioned name list old bad valid = record {
  valid = valid;
  given = λ s n. sym (ap (λ b. given old s n || b) (without_name (bytes_eq name s) (is_seq_name s) (lists list n) (λ e. ap is_seq_name (sym (same_is name s e)) ∙ bad)) ∙ or_nothing (given old s n));
}

-- the fields that are left complete them
pub record IsPublicSoFar (all rest : List FieldText) (now : List Mention) : Type 0 where
  pub valid : All IsMention now
  pub given : (s : List ℕ) (n : ℕ) → given now s n || (is_seq_name s && lists_public rest s n) ≡ is_seq_name s && lists_public all s n

pub public_begun : (all : List FieldText) (now : List Mention) → now ≡ [] → IsPublicSoFar all all now
public_begun all now e = rw e (record { valid = λ k d lt. absurd (omega arith); given = λ s n. refl })

pub public_more : (all rest : List FieldText) (f : FieldText) (old new : List Mention) → IsMentioned f.name (unfolded f.value) old new → IsPublicSoFar all (f ∷ rest) old → IsPublicSoFar all rest new
public_more all rest f old new is before = record {
  valid = is.valid;
  given = λ s n.
      ap (λ b. b || (is_seq_name s && lists_public rest s n)) (is.given s n)
      ∙ regroup (given old s n) (is_seq_name s) (bytes_eq f.name s && lists (unfolded f.value) n) (lists_public rest s n)
      ∙ before.given s n;
}

pub public_done : (all : List FieldText) (now : List Mention) → IsPublicSoFar all [] now → IsPublicPart all now
public_done all now is = record { valid = is.valid; given = λ s n. sym (nothing_left (is_seq_name s) (given now s n)) ∙ is.given s n }

-- the entries that are left complete them
pub record IsContextSoFar (all rest : List NamedValue) (ending : List ℕ) (old now : List Mention) : Type 0 where
  pub valid : All IsMention now
  pub given : (s : List ℕ) (n : ℕ) → given now s n || (is_seq_name s && lists_private rest ending s n) ≡ given old s n || (is_seq_name s && lists_private all ending s n)

pub context_begun : (all : List NamedValue) (ending : List ℕ) (old : List Mention) → All IsMention old → IsContextSoFar all all ending old old
context_begun all ending old valid = record { valid = valid; given = λ s n. refl }

found_drop : (es : List NamedValue) (i : ℕ) (e : NamedValue) → slice_get es i ≡ Some e → drop i es ≡ e ∷ drop (suc i) es
found_drop [] i e at = cc
found_drop (x ∷ xs) zero e at = let same : x ≡ e = cc in ap (λ y. y ∷ xs) same
found_drop (x ∷ xs) (suc i) e at = found_drop xs i e at

entry_more : (all rest : List NamedValue) (ending : List ℕ) (e : NamedValue) (x : List ℕ) (old now next : List Mention) → ((s : List ℕ) → bytes_eq e.name (attribute ending s) ≡ bytes_eq x s) → IsMentioned x e.value now next → IsContextSoFar all (e ∷ rest) ending old now → IsContextSoFar all rest ending old next
entry_more all rest ending e x old now next named is before = record {
  valid = is.valid;
  given = λ s n.
      ap (λ b. b || (is_seq_name s && lists_private rest ending s n)) (is.given s n)
      ∙ regroup (given now s n) (is_seq_name s) (bytes_eq x s && lists e.value n) (lists_private rest ending s n)
      ∙ ap (λ b. given now s n || (is_seq_name s && ((b && lists e.value n) || lists_private rest ending s n))) (sym (named s))
      ∙ before.given s n;
}

entry_same : (all rest : List NamedValue) (ending : List ℕ) (e : NamedValue) (old now : List Mention) → ((s : List ℕ) → bytes_eq e.name (attribute ending s) ≡ false) → IsContextSoFar all (e ∷ rest) ending old now → IsContextSoFar all rest ending old now
entry_same all rest ending e old now never before = record {
  valid = before.valid;
  given = λ s n. ap (λ b. given now s n || (is_seq_name s && ((b && lists e.value n) || lists_private rest ending s n))) (sym (never s)) ∙ before.given s n;
}

pub place_more : (all : List NamedValue) (i : ℕ) (ending : List ℕ) (old now next : List Mention) → IsPlaceNoted all i ending now next → IsContextSoFar all (drop i all) ending old now → IsContextSoFar all (drop (i + 1) all) ending old next
place_more all i ending old now next is before =
    let here : IsContextSoFar all (is.0 ∷ drop (suc i) all) ending old now = subst (λ l. IsContextSoFar all l ending old now) (found_drop all i is.0 is.1) before in
    subst (λ j. IsContextSoFar all (drop j all) ending old next) (sym (add-one i))
    (⊎_elim
    (λ n. entry_more all (drop (suc i) all) ending is.0 n.0 old now next n.1 n.2 here)
    (λ n. subst (λ s. IsContextSoFar all (drop (suc i) all) ending old s) (sym n.1) (entry_same all (drop (suc i) all) ending is.0 old now n.0 here))
    is.2)

pub places_done : (all : List NamedValue) (i : ℕ) (ending : List ℕ) (old now : List Mention) → length all ≤ i → IsContextSoFar all (drop i all) ending old now → IsContextNoted all ending old now
places_done all i ending old now le is = record {
  valid = is.valid;
  given = λ s n. sym (ap (λ l. given now s n || (is_seq_name s && lists_private l ending s n)) (behind all i le) ∙ nothing_left (is_seq_name s) (given now s n)) ∙ is.given s n;
}
  where
    behind : (es : List NamedValue) (i : ℕ) → length es ≤ i → drop i es ≡ []
    behind [] zero le = refl
    behind [] (suc i) le = refl
    behind (x ∷ xs) zero le = absurd (omega arith)
    behind (x ∷ xs) (suc i) le = behind xs i (omega arith)
