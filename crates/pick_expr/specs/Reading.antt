-- How patterns are written. 36 is a dollar sign, 42 a star, 45 a dash, 46 a dot, 91 and 93 are brackets, 92 is a
-- backslash and 94 a caret.
use Rattle.std.specs.Prelude.{ℕ, zero, suc, ◌==◌, ◌&&◌, Bool, true, false, not, nat_lt, List, [], ◌∷◌, filter, Option, Some, None, if◌then◌else◌}
use Rattle.std.specs.List.{list_all}
use Rattle.pick_expr.specs.declared.atom.Atom.{Atom}
use Rattle.pick_expr.specs.declared.atom.Atom.TheVariants.{Any, Byte, Class}
use Rattle.pick_expr.specs.declared.element.Element.{Element}
use Rattle.pick_expr.specs.declared.element.Element.TheVariants.{Once, AnyNumber}
use Rattle.pick_expr.specs.declared.member.Member.{Member}
use Rattle.pick_expr.specs.declared.member.Member.TheVariants.{Single, Range}
use Rattle.pick_expr.specs.Atoms.{in_members}
use Rattle.pick_expr.specs.Fitting.{Shape}
use Rattle.pick_expr.specs.Places.{every_byte}

-- the members of a class, and what stands behind its closing bracket
pub record Members : Type 0 where
  pub members : List Member
  pub behind : List ℕ

abbrev pub with_member : Member → Option Members → Option Members
with_member m None = None
with_member m (Some ms) = Some (record { members = m ∷ ms.members; behind = ms.behind })

-- a bracket closes the class, but not right at its start, where it is a member
abbrev pub closes : Bool → ℕ → Bool
closes at_start b = not at_start && b == 93

abbrev pub closed : List ℕ → Option Members
closed behind = Some (record { members = []; behind = behind })

-- the members with which these bytes begin: a byte, a dash and a byte that doesn't close the class are a range, and any
-- other byte is a member by itself
abbrev pub members_in : Bool → List ℕ → Option Members
members_in at_start [] = None
members_in at_start (b ∷ []) = if closes at_start b then closed [] else None
members_in at_start (b ∷ (c ∷ [])) = if closes at_start b then closed (c ∷ [])
    else with_member (Single b) (members_in false (c ∷ []))
members_in at_start (b ∷ (c ∷ (d ∷ bytes))) =
    if closes at_start b then closed (c ∷ (d ∷ bytes))
    else (if c == 45 && not (d == 93) then with_member (Range b d) (members_in false bytes)
    else with_member (Single b) (members_in false (c ∷ (d ∷ bytes))))

-- a range that has no byte
abbrev pub is_void : Member → Bool
is_void (Single b) = false
is_void (Range low high) = nat_lt high low

-- an atom, and what stands behind it
pub record AtomText : Type 0 where
  pub atom : Atom
  pub behind : List ℕ

-- a class has a byte
abbrev pub class_of : Bool → Option Members → Option AtomText
class_of negated None = None
class_of negated (Some ms) =
    if list_all is_void ms.members then None
    else Some (record { atom = Class negated (filter (in_members ms.members) every_byte); behind = ms.behind })

-- the class that stands behind an opening bracket
abbrev pub class_in : List ℕ → Option AtomText
class_in [] = None
class_in (b ∷ bytes) = if b == 94 then class_of true (members_in true bytes)
    else class_of false (members_in true (b ∷ bytes))

-- a backslash and the byte behind it; a last backslash is a byte
abbrev pub escaped : List ℕ → AtomText
escaped [] = record { atom = Byte 92; behind = [] }
escaped (b ∷ bytes) = record { atom = Byte b; behind = bytes }

-- the atom that begins with this byte, before these
abbrev pub atom_in : ℕ → List ℕ → Option AtomText
atom_in b bytes =
    if b == 46 then Some (record { atom = Any; behind = bytes })
    else (if b == 91 then class_in bytes
    else (if b == 92 then Some (escaped bytes)
    else Some (record { atom = Byte b; behind = bytes })))

-- an atom with its star, and what stands behind both
pub record ElementText : Type 0 where
  pub element : Element
  pub behind : List ℕ

abbrev pub starred_by : Atom → List ℕ → ElementText
starred_by a [] = record { element = Once a; behind = [] }
starred_by a (b ∷ bytes) = if b == 42 then record { element = AnyNumber a; behind = bytes }
    else record { element = Once a; behind = b ∷ bytes }

abbrev pub with_star : Option AtomText → Option ElementText
with_star None = None
with_star (Some t) = Some (starred_by t.atom t.behind)

-- the element that begins with this byte: a star in the place of an atom is a byte by itself
abbrev pub element_in : ℕ → List ℕ → Option ElementText
element_in b bytes = if b == 42 then Some (record { element = Once (Byte 42); behind = bytes })
    else with_star (atom_in b bytes)

-- elements, and whether a dollar sign stands behind them
pub record Elements : Type 0 where
  pub elements : List Element
  pub to_end : Bool

abbrev pub with_element : Element → Option Elements → Option Elements
with_element e None = None
with_element e (Some es) = Some (record { elements = e ∷ es.elements; to_end = es.to_end })

abbrev pub with_next : (List ℕ → Option Elements) → Option ElementText → Option Elements
with_next rest None = None
with_next rest (Some t) = with_element t.element (rest t.behind)

abbrev pub is_last : List ℕ → Bool
is_last [] = true
is_last (b ∷ bytes) = false

-- these bytes as at most so many elements; a dollar sign at the very end is none
unfoldable pub elements_in : ℕ → List ℕ → Option Elements
elements_in n [] = Some (record { elements = []; to_end = false })
elements_in zero (b ∷ bytes) = if b == 36 && is_last bytes then Some (record { elements = []; to_end = true }) else None
elements_in (suc n) (b ∷ bytes) =
    if b == 36 && is_last bytes then Some (record { elements = []; to_end = true })
    else with_next (elements_in n) (element_in b bytes)

abbrev pub shaped : Bool → Option Elements → Option Shape
shaped from_start None = None
shaped from_start (Some es) = Some (record { elements = es.elements; from_start = from_start; to_end = es.to_end })

-- the pattern that these bytes denote, if they denote one: perhaps a caret, at most 127 elements, and perhaps a
-- dollar sign
abbrev pub pattern_in : List ℕ → Option Shape
pattern_in [] = shaped false (elements_in 127 [])
pattern_in (b ∷ bytes) = if b == 94 then shaped true (elements_in 127 bytes)
    else shaped false (elements_in 127 (b ∷ bytes))
