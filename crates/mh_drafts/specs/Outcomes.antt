-- What reading a draft gives.
use Rattle.std.specs.Prelude.{◌≡◌, ℕ, List, map, Some, None}
use Rattle.mh_drafts.specs.declared.fault.DraftFault.{DraftFault}
use Rattle.mh_drafts.specs.declared.fault.DraftFault.TheVariants.{Bad, Memory}
use Rattle.mh_drafts.specs.declared.item.Item.{Item}
use Rattle.mh_drafts.specs.declared.want.Want.{Want}
use Rattle.mh_drafts.specs.Drafts.{Parts, AreSound, first_wrong_line, wrong_from, written}
use Rattle.mh_drafts.specs.Headers.{line_at}
use Rattle.mh_drafts.specs.Items.{items_of, wants_of}
use Rattle.mh_drafts.specs.Marks.{marks_in}
use Rattle.mh_drafts.specs.Signs.{first_wrong, sign_of}

-- the draft's first wrong line, or want of memory
abbrev pub IsRefused : List ℕ → DraftFault → Type 0
IsRefused bytes (Bad line) = first_wrong_line bytes ≡ Some line
IsRefused bytes Memory = Unit {0}

-- the items write parts, and no others: each multipart has a part, and at most 32 multiparts stand in one another
pub record HasParts (items : List Item) : Type 0 where
  pub parts : Parts
  pub are_written : items ≡ written parts
  pub are_sound : AreSound 32 parts
  pub are_alone : (others : Parts) → items ≡ written others → others ≡ parts

-- the body's first wrong line, or want of memory
abbrev pub IsWrongBody : List ℕ → List ℕ → DraftFault → Type 0
IsWrongBody bytes body (Bad line) = wrong_from (line_at bytes body) body ≡ Some line
IsWrongBody bytes body Memory = Unit {0}

-- no line of the body is wrong, and these are its items and wants
pub record IsBodyOf (body : List ℕ) (items : List Item) (wants : List Want) : Type 0 where
  pub right : first_wrong (map sign_of (marks_in body)) ≡ None
  pub items_are : items ≡ items_of (marks_in body)
  pub wants_are : wants ≡ wants_of (marks_in body)
