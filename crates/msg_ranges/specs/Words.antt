-- Words that name messages: how each is written (after nmh's manual page mh-sequence).
use Rattle.std.specs.Prelude.{◌≡◌, ℕ, Bool, true, false, nat_eq, IsTrue, codes, decimal, List, [], ◌∷◌, ◌++◌}
use Rattle.std.specs.List.{starts_with}
use Rattle.mh_base.specs.Numbers.{IsMsgNum}
use Rattle.mh_sequences.specs.Names.{is_seq_name}
use Rattle.msg_ranges.specs.declared.spec.Base.{Base}
use Rattle.msg_ranges.specs.declared.spec.Base.TheVariants.{Number, First, Last, Cur, Prev, Next}
use Rattle.msg_ranges.specs.declared.spec.Way.{Way}
use Rattle.msg_ranges.specs.declared.spec.Way.TheVariants.{Unsigned, Plus, Minus}
use Rattle.msg_ranges.specs.declared.spec.Spot.{Spot}
use Rattle.msg_ranges.specs.declared.spec.Spot.TheVariants.{First as FirstSpot, Last as LastSpot, Next as NextSpot, Prev as PrevSpot}
use Rattle.msg_ranges.specs.declared.spec.Spec.{Spec}
use Rattle.msg_ranges.specs.declared.spec.Spec.TheVariants.{One, Range, Count, All, Sequence, SequenceCount, SequenceSpot, Negated}

-- a name: a number, or one of five words
abbrev pub name_text : Base → List ℕ
name_text (Number n) = decimal n
name_text First = codes "first"
name_text Last = codes "last"
name_text Cur = codes "cur"
name_text Prev = codes "prev"
name_text Next = codes "next"

-- a count: a sign or none, and a number; 43 is a plus sign and 45 a minus sign
abbrev pub count_text : Way → ℕ → List ℕ
count_text Unsigned n = decimal n
count_text Plus n = 43 ∷ decimal n
count_text Minus n = 45 ∷ decimal n

-- one member of a sequence
abbrev pub spot_text : Spot → List ℕ
spot_text FirstSpot = codes "first"
spot_text LastSpot = codes "last"
spot_text NextSpot = codes "next"
spot_text PrevSpot = codes "prev"

-- the eight forms, where this is the prefix of negation; 45 is a dash and 58 a colon
abbrev pub text_of : List ℕ → Spec → List ℕ
text_of prefix (One a) = name_text a
text_of prefix (Range a b) = name_text a ++ (45 ∷ name_text b)
text_of prefix (Count a way n) = name_text a ++ (58 ∷ count_text way n)
text_of prefix All = codes "all"
text_of prefix (Sequence s) = s
text_of prefix (SequenceCount s way n) = s ++ (58 ∷ count_text way n)
text_of prefix (SequenceSpot s spot) = s ++ (58 ∷ spot_text spot)
text_of prefix (Negated s) = prefix ++ s

-- a number among the names is a message number
abbrev pub IsName : Base → Type 0
IsName (Number n) = IsMsgNum n
IsName First = Unit {0}
IsName Last = Unit {0}
IsName Cur = Unit {0}
IsName Prev = Unit {0}
IsName Next = Unit {0}

-- numbers and counts are from 1 to 999,999, and names of sequences are those of user's sequences
abbrev pub IsSpec : Spec → Type 0
IsSpec (One a) = IsName a
IsSpec (Range a b) = IsName a × IsName b
IsSpec (Count a way n) = IsName a × IsMsgNum n
IsSpec All = Unit {0}
IsSpec (Sequence s) = IsTrue (is_seq_name s)
IsSpec (SequenceCount s way n) = IsTrue (is_seq_name s) × IsMsgNum n
IsSpec (SequenceSpot s spot) = IsTrue (is_seq_name s)
IsSpec (Negated s) = IsTrue (is_seq_name s)

-- a name, two names with a dash between, a name with a count, or `all`
abbrev pub has_no_sequence : Spec → Bool
has_no_sequence (One a) = true
has_no_sequence (Range a b) = true
has_no_sequence (Count a way n) = true
has_no_sequence All = true
has_no_sequence (Sequence s) = false
has_no_sequence (SequenceCount s way n) = false
has_no_sequence (SequenceSpot s spot) = false
has_no_sequence (Negated s) = false

-- there is a prefix of negation, and the word begins with it
abbrev pub negates : List ℕ → List ℕ → Bool
negates [] word = false
negates (b ∷ prefix) word = starts_with nat_eq word (b ∷ prefix)

-- the word has none of the forms without a sequence
abbrev pub HasSequence : List ℕ → Type 0
HasSequence word = (other : Spec) → IsTrue (has_no_sequence other) → IsSpec other → word ≡ text_of [] other → ⊥

-- a word that begins with the prefix is negated, if it has none of the forms without a sequence
abbrev pub IsAllowed : List ℕ → List ℕ → Spec → Type 0
IsAllowed prefix word (One a) = Unit {0}
IsAllowed prefix word (Range a b) = Unit {0}
IsAllowed prefix word (Count a way n) = Unit {0}
IsAllowed prefix word All = Unit {0}
IsAllowed prefix word (Sequence s) = negates prefix word ≡ false
IsAllowed prefix word (SequenceCount s way n) = negates prefix word ≡ false
IsAllowed prefix word (SequenceSpot s spot) = negates prefix word ≡ false
IsAllowed prefix word (Negated s) = IsTrue (negates prefix word) × HasSequence word

-- the word, in bytes, is read so: as it is written, where that is allowed
pub record Reads (prefix word : List ℕ) (spec : Spec) : Type 0 where
  pub written : word ≡ text_of prefix spec
  pub proper : IsSpec spec
  pub allowed : IsAllowed prefix word spec
