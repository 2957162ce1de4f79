-- Stories that grow one after another.
use Rattle.std.proofs.Common.{◌≡◌, ◌++◌, ◌∷◌, [], List, ℕ, ◌+◌, Option, Some, None, length, refl, sym, ◌∙◌, append_assoc, append-nil, length-append, arith}
use Rattle.std.proofs.lemmas.List.{map-append, length-map}
use Rattle.folder_files.specs.Story.{Story, Moment, Mine, Theirs, Grows, GrowsBy, places, AreOthers}

places-append : (n : ℕ) (a b : List Moment) → places n (a ++ b) ≡ places n a ++ places (n + length a) b
places-append n [] b = grind arith
places-append n (Mine s x f ∷ a) b = grind (arith, places-append (n + 1) a b)
places-append n (Theirs e ∷ a) b = grind (arith, places-append (n + 1) a b)

AreOthers-append : (run : ℕ) (a b : List Moment) → AreOthers run a → AreOthers run b → AreOthers run (a ++ b)
AreOthers-append run [] b p q = q
AreOthers-append run (Mine s x f ∷ a) b p q = AreOthers-append run a b p q
AreOthers-append run (Theirs e ∷ a) b p q = (p.0, AreOthers-append run a b p.1 q)

Grows-trans : (run : ℕ) (a b c : Story) (l m : List Moment) → Grows run a b l → Grows run b c m → Grows run a c (l ++ m)
Grows-trans run a b c l m p q =
    let long : length b.history ≡ length a.history + length l = simp (p.history, length-append, length-map) in
    let spread = places-append (length a.history) l m in
    record {
      start = q.start ∙ p.start;
      history = simp (q.history, p.history, map-append, append_assoc);
      asked = simp (q.asked, p.asked, long, spread, append_assoc);
      others = AreOthers-append run l m p.others q.others;
      possible = λ old. q.possible (p.possible old);
    }

pub GrowsBy-trans : (run : ℕ) (a b c : Option Story) (l m : List Moment) → GrowsBy run a b l → GrowsBy run b c m
    → GrowsBy run a c (l ++ m)
GrowsBy-trans run None None None l m p q = tt
GrowsBy-trans run (Some a) (Some b) (Some c) l m p q = Grows-trans run a b c l m p q
GrowsBy-trans run None (Some b) c l m p q = absurd p
GrowsBy-trans run (Some a) None c l m p q = absurd p
GrowsBy-trans run None None (Some c) l m p q = absurd q
GrowsBy-trans run (Some a) (Some b) None l m p q = absurd q

Grows-none : (run : ℕ) (a : Story) → Grows run a a []
Grows-none run a =
    record {
      start = refl;
      history = sym (append-nil a.history);
      asked = sym (append-nil a.asked);
      others = tt;
      possible = λ old. old;
    }

pub GrowsBy-none : (run : ℕ) (a : Option Story) → GrowsBy run a a []
GrowsBy-none run None = tt
GrowsBy-none run (Some a) = Grows-none run a
