-- Sequences with the same members are the same.
use Rattle.std.proofs.Common.{◌≡◌, ℕ, List}
use Rattle.std.specs.Prelude.{IsTrue}
use Rattle.mh_sequences.specs.Sequences.{AreSequences, Marked, member, public_of}
use Rattle.mh_sequences.proofs.Same.{same_sequences}

pub told_all : (a b : Marked) → AreSequences a.users → AreSequences b.users → ((name : List ℕ) (n : ℕ) → member a.users name n ≡ member b.users name n)
    → ((name : List ℕ) (n : ℕ) → IsTrue (member a.users name n) → public_of a.users name ≡ public_of b.users name) → a.cur ≡ b.cur → a ≡ b
told_all a b h k numbers public cur =
    let users = same_sequences a.users b.users h k numbers public in λ i. record { users = users i; cur = cur i }
