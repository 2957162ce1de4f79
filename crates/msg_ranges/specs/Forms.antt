-- The forms of words, read from the front.
use Rattle.std.specs.Prelude.{ℕ, ◌==◌, bytes_eq, Option, Some, None, codes, List, [], ◌∷◌, length, drop, if◌then◌else◌}
use Rattle.mh_base.specs.Numbers.{number_of}
use Rattle.mh_sequences.specs.Names.{is_seq_name}
use Rattle.msg_ranges.specs.declared.counts.Counted.{Counted}
use Rattle.msg_ranges.specs.declared.spec.Base.{Base}
use Rattle.msg_ranges.specs.declared.spec.Base.TheVariants.{Number, First, Last, Cur, Prev, Next}
use Rattle.msg_ranges.specs.declared.spec.Way.{Way}
use Rattle.msg_ranges.specs.declared.spec.Way.TheVariants.{Unsigned, Plus, Minus}
use Rattle.msg_ranges.specs.declared.spec.Spot.{Spot}
use Rattle.msg_ranges.specs.declared.spec.Spot.TheVariants.{First as FirstSpot, Last as LastSpot, Next as NextSpot, Prev as PrevSpot}
use Rattle.msg_ranges.specs.declared.spec.Spec.{Spec}
use Rattle.msg_ranges.specs.declared.spec.Spec.TheVariants.{One, Range, Count, All, Sequence, SequenceCount, SequenceSpot, Negated}
use Rattle.msg_ranges.specs.Words.{negates}

-- what stands before and behind a byte
pub record Halves : Type 0 where
  pub front : List ℕ
  pub back : List ℕ

abbrev pub longer : ℕ → Option Halves → Option Halves
longer b None = None
longer b (Some h) = Some (record { front = b ∷ h.front; back = h.back })

-- what stands before and behind the first such byte
abbrev pub halves : ℕ → List ℕ → Option Halves
halves mark [] = None
halves mark (b ∷ bytes) = if b == mark then Some (record { front = []; back = bytes }) else longer b (halves mark bytes)

abbrev pub number_name : Option ℕ → Option Base
number_name None = None
number_name (Some n) = Some (Number n)

-- the name that this is
abbrev pub name_in : List ℕ → Option Base
name_in text =
    if bytes_eq text (codes "first") then Some First
    else (if bytes_eq text (codes "last") then Some Last
    else (if bytes_eq text (codes "cur") then Some Cur
    else (if bytes_eq text (codes "prev") then Some Prev
    else (if bytes_eq text (codes "next") then Some Next
    else number_name (number_of text)))))

abbrev pub signed : Way → Option ℕ → Option Counted
signed way None = None
signed way (Some n) = Some (record { way = way; number = n })

-- the count that this is: 43 is a plus sign and 45 a minus sign
abbrev pub count_in : List ℕ → Option Counted
count_in [] = None
count_in (b ∷ digits) =
    if b == 43 then signed Plus (number_of digits)
    else (if b == 45 then signed Minus (number_of digits) else signed Unsigned (number_of (b ∷ digits)))

-- the place in a sequence that this names
abbrev pub spot_in : List ℕ → Option Spot
spot_in text =
    if bytes_eq text (codes "first") then Some FirstSpot
    else (if bytes_eq text (codes "last") then Some LastSpot
    else (if bytes_eq text (codes "next") then Some NextSpot
    else (if bytes_eq text (codes "prev") then Some PrevSpot else None)))

abbrev pub one_form : Option Base → Option Spec
one_form None = None
one_form (Some a) = Some (One a)

abbrev pub range_form : Option Base → Option Base → Option Spec
range_form None b = None
range_form (Some a) None = None
range_form (Some a) (Some b) = Some (Range a b)

abbrev pub count_form : Option Base → Option Counted → Option Spec
count_form None c = None
count_form (Some a) None = None
count_form (Some a) (Some c) = Some (Count a c.way c.number)

abbrev pub single_form : List ℕ → Option Spec
single_form word = if bytes_eq word (codes "all") then Some All else one_form (name_in word)

abbrev pub cut_form : List ℕ → Option Halves → Option Halves → Option Spec
cut_form word (Some c) d = count_form (name_in c.front) (count_in c.back)
cut_form word None (Some d) = range_form (name_in d.front) (name_in d.back)
cut_form word None None = single_form word

-- the form without a sequence that the word has
abbrev pub plain_form : List ℕ → Option Spec
plain_form word = cut_form word (halves 58 word) (halves 45 word)

abbrev pub part_form : List ℕ → Option Spot → Option Counted → Option Spec
part_form s (Some spot) c = Some (SequenceSpot s spot)
part_form s None (Some c) = Some (SequenceCount s c.way c.number)
part_form s None None = None

abbrev pub cut_sequence_form : List ℕ → Option Halves → Option Spec
cut_sequence_form word None = if is_seq_name word then Some (Sequence word) else None
cut_sequence_form word (Some h) =
    if is_seq_name h.front then part_form h.front (spot_in h.back) (count_in h.back) else None

-- the form with a sequence that it has
abbrev pub sequence_form : List ℕ → Option Spec
sequence_form word = cut_sequence_form word (halves 58 word)

-- the sequence that is negated by what stands behind the prefix
abbrev pub negated_form : List ℕ → Option Spec
negated_form s = if is_seq_name s then Some (Negated s) else None

abbrev pub form_with_sequence : List ℕ → List ℕ → Option Spec
form_with_sequence prefix word =
    if negates prefix word then negated_form (drop (length prefix) word) else sequence_form word

abbrev pub first_of : Option Spec → Option Spec → Option Spec
first_of None other = other
first_of (Some spec) other = Some spec

-- the form that the word has
abbrev pub form_of : List ℕ → List ℕ → Option Spec
form_of prefix word = first_of (plain_form word) (form_with_sequence prefix word)
