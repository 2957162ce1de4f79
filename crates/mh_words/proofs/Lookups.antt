-- What was found in the first switches of a table.
use Rattle.std.proofs.Common.{◌≡◌, ◌≢◌, ◌<◌, ◌≤◌, ◌+◌, ℕ, List, [], length, append-nil, sym, ◌∙◌, ap, subst, inl, inr, refl, below_more, arith}
use Rattle.std.proofs.lemmas.Option.{same_Some, slice_get_within}
use Rattle.mh_words.specs.declared.table.Kind.{Kind}
use Rattle.mh_words.specs.declared.table.Switch.{Switch}
use Rattle.mh_words.specs.declared.lookup.Found.{Found}
use Rattle.mh_words.specs.declared.lookup.Found.TheVariants.{Nothing, One, Several}
use Rattle.mh_words.specs.Switches.{IsAt, BeginsWith}
use Rattle.mh_words.specs.Lookups.{Finds, one_more}

-- the name of the one switch so far begins with the text, and no other one's so far does
pub record IsOneSoFar (switches : List Switch) (text : List ℕ) (seen index : ℕ) (kind : Kind) : Type 0 where
  pub name : List ℕ
  pub inside : index < seen
  pub there : IsAt switches index (record { name = name; kind = kind })
  pub begins : BeginsWith name text
  pub only : (other : ℕ) → other < seen → (switch : Switch) → IsAt switches other switch → BeginsWith switch.name text → other ≡ index

-- the names of two switches begin with the text
pub record AreTwo (switches : List Switch) (text : List ℕ) : Type 0 where
  pub index : ℕ
  pub other : ℕ
  pub apart : index < other
  pub one : Switch
  pub two : Switch
  pub one_there : IsAt switches index one
  pub two_there : IsAt switches other two
  pub one_begins : BeginsWith one.name text
  pub two_begins : BeginsWith two.name text

-- what was found in the first switches, of which none has the text as its full name
abbrev pub IsSoFar : List Switch → List ℕ → ℕ → Found → Type 0
IsSoFar switches text seen Nothing = (index : ℕ) → index < seen → (switch : Switch) → IsAt switches index switch → ¬ (BeginsWith switch.name text)
IsSoFar switches text seen (One index kind) = IsOneSoFar switches text seen index kind
IsSoFar switches text seen Several = AreTwo switches text

abbrev pub NoneIsFull : List Switch → List ℕ → ℕ → Type 0
NoneIsFull switches text seen = (index : ℕ) → index < seen → (switch : Switch) → IsAt switches index switch → switch.name ≢ text

pub same_switch : (switches : List Switch) (index : ℕ) (one two : Switch) → IsAt switches index one → IsAt switches index two → one ≡ two
same_switch switches index one two a b = same_Some one two (sym a ∙ b)

pub begins_itself_at : (name text : List ℕ) → name ≡ text → BeginsWith name text
begins_itself_at name text e = ([], e ∙ sym (append-nil text))

-- one more switch that has another name
pub none_more : (switches : List Switch) (text : List ℕ) (seen : ℕ) (next : Switch) → NoneIsFull switches text seen → IsAt switches seen next → next.name ≢ text → NoneIsFull switches text (seen + 1)
none_more switches text seen next none at apart =
    below_more (λ k. (switch : Switch) → IsAt switches k switch → switch.name ≢ text) seen none
    (λ switch there e. apart (ap (λ s. s.name) (same_switch switches seen next switch at there) ∙ e))

-- one more switch whose name begins with the text
pub longer_more : (switches : List Switch) (text : List ℕ) (seen : ℕ) (next : Switch) (found : Found) → IsSoFar switches text seen found → IsAt switches seen next → BeginsWith next.name text
    → IsSoFar switches text (seen + 1) (one_more found seen next.kind)
longer_more switches text seen next Nothing none at begins = record {
  name = next.name;
  inside = omega arith;
  there = at;
  begins = begins;
  only = below_more (λ k. (switch : Switch) → IsAt switches k switch → BeginsWith switch.name text → k ≡ seen) seen
      (λ k below switch there starts. absurd (none k below switch there starts)) (λ switch there starts. refl);
}
longer_more switches text seen next (One index kind) one at begins = record {
  index = index;
  other = seen;
  apart = one.inside;
  one = record { name = one.name; kind = kind };
  two = next;
  one_there = one.there;
  two_there = at;
  one_begins = one.begins;
  two_begins = begins;
}
longer_more switches text seen next Several two at begins = two

-- one more switch whose name does not begin with the text
pub unlike_more : (switches : List Switch) (text : List ℕ) (seen : ℕ) (next : Switch) (found : Found) → IsSoFar switches text seen found → IsAt switches seen next → ¬ (BeginsWith next.name text)
    → IsSoFar switches text (seen + 1) found
unlike_more switches text seen next Nothing none at lacks =
    below_more (λ k. (switch : Switch) → IsAt switches k switch → ¬ (BeginsWith switch.name text)) seen none
    (λ switch there. subst (λ (s : Switch). ¬ (BeginsWith s.name text)) (same_switch switches seen next switch at there) lacks)
unlike_more switches text seen next (One index kind) one at lacks = record {
  name = one.name;
  inside = let h = one.inside in omega arith;
  there = one.there;
  begins = one.begins;
  only = below_more (λ k. (switch : Switch) → IsAt switches k switch → BeginsWith switch.name text → k ≡ index) seen one.only
      (λ switch there starts. absurd (lacks (subst (λ (s : Switch). BeginsWith s.name text) (same_switch switches seen switch next there at) starts)));
}
unlike_more switches text seen next Several two at lacks = two

-- the switch of the full name
pub found_full : (switches : List Switch) (text : List ℕ) (seen : ℕ) (next : Switch) → NoneIsFull switches text seen → IsAt switches seen next → next.name ≡ text → Finds switches text (One seen next.kind)
found_full switches text seen next none at same = inl (record {
  there = subst (λ (n : List ℕ). IsAt switches seen (record { name = n; kind = next.kind })) same at;
  first = λ other switch below there. none other below switch there;
})

-- what was found in all of them
pub found_all : (switches : List Switch) (text : List ℕ) (seen : ℕ) (found : Found) → length switches ≤ seen → NoneIsFull switches text seen → IsSoFar switches text seen found → Finds switches text found
found_all switches text seen Nothing all none so_far = λ index switch there.
    so_far index (let h : index < length switches = slice_get_within switches index switch there in omega arith) switch there
found_all switches text seen (One index kind) all none one = inr (record {
  name = one.name;
  there = one.there;
  begins = one.begins;
  only = λ other switch there. one.only other (let h : other < length switches = slice_get_within switches other switch there in omega arith) switch there;
})
found_all switches text seen Several all none two = record {
  no_full = λ index switch there. none index (let h : index < length switches = slice_get_within switches index switch there in omega arith) switch there;
  index = two.index;
  other = two.other;
  apart = two.apart;
  one = two.one;
  two = two.two;
  one_there = two.one_there;
  two_there = two.two_there;
  one_begins = two.one_begins;
  two_begins = two.two_begins;
}
