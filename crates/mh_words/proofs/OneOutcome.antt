-- The result of a reading is the only one.
use Rattle.std.proofs.Common.{◌≡◌, ◌++◌, ◌∷◌, [], ℕ, List, drop, append-nil, append_assoc, subst, sym, ◌∙◌, ap}
use Rattle.std.specs.Prelude.{Err}
use Rattle.mh_base.specs.declared.word.WordWhy.{WordWhy}
use Rattle.mh_words.specs.declared.fault.WordFault.{WordFault}
use Rattle.mh_words.specs.declared.fault.WordFault.TheVariants.{Bad, Memory}
use Rattle.mh_words.specs.declared.item.Item.{Item}
use Rattle.mh_words.specs.declared.table.SwitchTable.{SwitchTable}
use Rattle.mh_words.specs.Outcomes.{IsFault, IsReadAs, IsRefusedAs}
use Rattle.mh_words.specs.Readings.{Takes, Reads, Fails, reads_none, reads_next, fails_first, fails_later}
use Rattle.mh_words.specs.Steps.{IsStep}
use Rattle.mh_words.proofs.OneReading.{reads_fails, fails_same}

-- what is left to read, with what was read before
abbrev pub CompletesReads : SwitchTable → List (List ℕ) → ℕ → List Item → Type 0
CompletesReads table words place items = (more : List Item) → Reads table place (drop place words) more → Reads table 0 words (items ++ more)

-- what is wrong with the rest is wrong with the whole
abbrev pub CompletesFails : SwitchTable → List (List ℕ) → ℕ → Type 0
CompletesFails table words place = (bad : ℕ) (why : WordWhy) → Fails table place (drop place words) bad why → Fails table 0 words bad why

module _ (table : SwitchTable) (words : List (List ℕ)) where
  pub fault_admits : (fault : WordFault) (items : List Item) → IsFault table words fault → Reads table 0 words items → IsReadAs items (Err fault)
  fault_admits (Bad bad why) items fails reads = reads_fails table reads fails
  fault_admits Memory items fails reads = tt

  pub fault_fails : (fault : WordFault) (bad : ℕ) (why : WordWhy) → IsFault table words fault → Fails table 0 words bad why → IsRefusedAs bad why (Err fault)
  fault_fails (Bad bad' why') bad why this fails = let same = fails_same table this fails in (same.bads, same.whys)
  fault_fails Memory bad why this fails = tt

  -- one more item
  pub reads_more : (place after : ℕ) (items new : List Item) (item : Item) → CompletesReads table words place items → new ≡ items ++ item ∷ []
      → Takes table place (drop place words) item (drop after words) after → CompletesReads table words after new
  reads_more place after items new item so_far pushed step more rest =
      subst (λ xs. Reads table 0 words xs) (sym (ap (λ xs. xs ++ more) pushed ∙ append_assoc items (item ∷ []) more)) (so_far (item ∷ more) (reads_next step rest))

  pub fails_more : (place after : ℕ) (item : Item) → CompletesFails table words place → Takes table place (drop place words) item (drop after words) after → CompletesFails table words after
  fails_more place after item so_far step bad why rest = so_far bad why (fails_later step rest)

  -- the end of the words
  pub reads_all : (place : ℕ) (items : List Item) → CompletesReads table words place items → drop place words ≡ [] → Reads table 0 words items
  reads_all place items so_far done =
      subst (λ xs. Reads table 0 words xs) (append-nil items) (so_far [] (subst (λ ws. Reads table place ws []) (sym done) reads_none))

  -- a wrong word
  pub step_fault : (place : ℕ) (fault : WordFault) → CompletesFails table words place → IsStep table words place (Err fault) → IsFault table words fault
  step_fault place (Bad bad why) so_far (at_place, wrong) = so_far bad why (subst (λ k. Fails table place (drop place words) k why) (sym at_place) (fails_first wrong))
  step_fault place Memory so_far step = tt
