-- What was read of a pattern's text, with its length.
use Rattle.std.specs.Prelude.{◌≡◌, ℕ, ◌≤◌, ◌==◌, ◌&&◌, not, Bool, true, false, filter, List, [], ◌∷◌, length, drop, Option, Some, None, if◌then◌else◌}
use Rattle.std.specs.List.{list_all}
use Rattle.pick_expr.specs.declared.atom.Atom.TheVariants.{Class}
use Rattle.pick_expr.specs.declared.class.ReadMembers.{ReadMembers}
use Rattle.pick_expr.specs.declared.class.ReadAtom.{ReadAtom}
use Rattle.pick_expr.specs.declared.elements.ReadElement.{ReadElement}
use Rattle.pick_expr.specs.declared.elements.ReadElements.{ReadElements}
use Rattle.pick_expr.specs.declared.member.Member.{Member}
use Rattle.pick_expr.specs.declared.member.Member.TheVariants.{Single, Range}
use Rattle.pick_expr.specs.Reading.{AtomText, ElementText, Elements, is_void, members_in}
use Rattle.pick_expr.specs.Atoms.{in_members}
use Rattle.pick_expr.specs.Places.{every_byte}

-- the member that begins with this byte
abbrev pub first_member : ℕ → List ℕ → Member
first_member b [] = Single b
first_member b (c ∷ []) = Single b
first_member b (c ∷ (d ∷ bytes)) = if c == 45 && not (d == 93) then Range b d else Single b

abbrev pub member_len : Member → ℕ
member_len (Single b) = 1
member_len (Range low high) = 3

abbrev pub AreMembers : List ℕ → Option ReadMembers → Type 0
AreMembers text None = members_in true text ≡ None
AreMembers text (Some m) =
    (members_in true text ≡ Some (record { members = m.members.items; behind = drop m.len text }))
    × (m.len ≤ length text)

-- this atom was read at the beginning of the text, or there is none
abbrev pub IsAtomOf : Option AtomText → List ℕ → Option ReadAtom → Type 0
IsAtomOf there text None = there ≡ None
IsAtomOf there text (Some a) = (there ≡ Some (record { atom = a.atom; behind = drop a.len text }))
    × (a.len ≤ length text)

abbrev pub IsElementOf : Option ElementText → List ℕ → Option ReadElement → Type 0
IsElementOf there text None = there ≡ None
IsElementOf there text (Some e) = (there ≡ Some (record { element = e.element; behind = drop e.len text }))
    × (e.len ≤ length text)

abbrev pub AreElements : Option Elements → Option ReadElements → Type 0
AreElements there None = there ≡ None
AreElements there (Some es) = there ≡ Some (record { elements = es.elements; to_end = es.to_end })

-- the class of these members, if it has a byte
abbrev pub IsClass : Bool → ReadMembers → Option ReadAtom → Type 0
IsClass negated m None = list_all is_void m.members.items ≡ true
IsClass negated m (Some a) =
    (list_all is_void m.members.items ≡ false)
    × (a.atom ≡ Class negated (filter (in_members m.members.items) every_byte)) × (a.len ≡ m.len)
