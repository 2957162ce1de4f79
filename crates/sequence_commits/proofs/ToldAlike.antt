-- Sequences of which the same is told are the same.
use Rattle.std.proofs.Common.{◌≡◌, ℕ, true, List, subst}
use Rattle.std.specs.Prelude.{◌&&◌, ◌↔◌, bytes_eq, IfSome, IsTrue}
use Rattle.std.proofs.lemmas.Bool.{and_parts}
use Rattle.mh_base.specs.Numbers.{IsMsgNum}
use Rattle.mh_sequences.specs.Printing.{private_entries, text_of}
use Rattle.mh_sequences.specs.Reading.{suffix, IsReading}
use Rattle.mh_sequences.specs.Sequences.{AreSequences, Marked}
use Rattle.mh_sequences.proofs.NamePlaces.{same_is, same_self}
use Rattle.mh_sequences.proofs.ReadBack.{reads_back}
use Rattle.mh_sequences.proofs.Same.{one_reading}
use Rattle.sequence_commits.specs.Telling.{same_entries, same_told}
use Rattle.sequence_commits.proofs.EntriesAlike.{alike_same, self_alike}

pub told_same : (folder : List ℕ) (a b : Marked) → AreSequences a.users → AreSequences b.users → IfSome a.cur IsMsgNum → IfSome b.cur IsMsgNum → same_told folder a b ≡ true → a ≡ b
told_same folder a b h k x y e =
    let parts = and_parts (bytes_eq (text_of a) (text_of b)) (same_entries (private_entries (suffix folder) a.users) (private_entries (suffix folder) b.users)) e in
    let text : text_of a ≡ text_of b = same_is (text_of a) (text_of b) parts.0 in
    let entries : private_entries (suffix folder) a.users ≡ private_entries (suffix folder) b.users = alike_same (private_entries (suffix folder) a.users) (private_entries (suffix folder) b.users) parts.1 in
    let one : IsReading (text_of b) (private_entries (suffix folder) b.users) folder a =
    subst (λ es. IsReading (text_of b) es folder a) entries (subst (λ t. IsReading t (private_entries (suffix folder) a.users) folder a) text (reads_back a h x folder)) in
    one_reading (text_of b) (private_entries (suffix folder) b.users) folder a b h k one (reads_back b k y folder)

self_told : (folder : List ℕ) (a : Marked) → same_told folder a a ≡ true
self_told folder a = λ i. same_self (text_of a) i && self_alike (private_entries (suffix folder) a.users) i

-- and the other way round
pub told_alike : (folder : List ℕ) (a b : Marked) → AreSequences a.users → AreSequences b.users → IfSome a.cur IsMsgNum → IfSome b.cur IsMsgNum → IsTrue (same_told folder a b) ↔ (a ≡ b)
told_alike folder a b h k x y = (told_same folder a b h k x y, λ e. subst (λ m. same_told folder a m ≡ true) e (self_told folder a))
