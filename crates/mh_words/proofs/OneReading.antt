-- Words are read in one way at most, or refused for one reason.
use Rattle.std.proofs.Common.{◌≡◌, ℕ, List, [], sym, subst, refl}
use Rattle.mh_base.specs.declared.word.WordWhy.{WordWhy}
use Rattle.mh_words.specs.declared.item.Item.{Item}
use Rattle.mh_words.specs.declared.table.Kind.{Kind}
use Rattle.mh_words.specs.declared.table.Kind.TheVariants.{Flag, Value}
use Rattle.mh_words.specs.declared.table.SwitchTable.{SwitchTable}
use Rattle.mh_words.specs.Forms.{IsSwitchWord}
use Rattle.mh_words.specs.Switches.{IsSwitch, IsUnknown, IsAmbiguous}
use Rattle.mh_words.specs.Readings.{Takes, takes_folder, takes_message, takes_flag, takes_value, takes_component, IsWrong, is_lone_dash, is_unknown, is_ambiguous, lacks_value, lacks_component_value, Reads, reads_none, reads_next, Fails, fails_first, fails_later}
use Rattle.mh_words.proofs.OneForm.{folder_message, folder_switch, folder_component, message_switch, message_component, switch_component, folder_dash, message_dash, switch_dash, component_dash, switch_name, component_name}
use Rattle.mh_words.proofs.OneSwitch.{IsSame, switch_same, switch_unknown, switch_ambiguous, unknown_ambiguous}

-- two steps are one
pub record IsSameStep (item item' : Item) (left left' : List (List ℕ)) (after after' : ℕ) : Type 0 where
  pub items : item ≡ item'
  pub lefts : left ≡ left'
  pub afters : after ≡ after'

same : {item : Item} {left : List (List ℕ)} {after : ℕ} → IsSameStep item item left left after after
same = record { items = refl; lefts = refl; afters = refl }

flag_apart : Flag ≡ Value → ⊥
flag_apart e = cc (e)

module _ (table : SwitchTable) where
  -- one word names one switch
  one_switch : {word name other : List ℕ} {index index' : ℕ} {kind kind' : Kind} → IsSwitchWord table.components word name → IsSwitch table.switches name index kind
      → IsSwitchWord table.components word other → IsSwitch table.switches other index' kind' → IsSame index index' kind kind'
  one_switch {name = name} {other = other} {index = index} {index' = index'} {kind = kind} {kind' = kind'} w s v t =
      switch_same table.switches name index index' kind kind' s (subst (λ n. IsSwitch table.switches n index' kind') (sym (switch_name w v)) t)

  flag_value : {word name other : List ℕ} {index index' : ℕ} → IsSwitchWord table.components word name → IsSwitch table.switches name index Flag
      → IsSwitchWord table.components word other → IsSwitch table.switches other index' Value → ⊥
  flag_value w s v t = let both = one_switch w s v t in flag_apart both.kind_same

  known_unknown : {word name other : List ℕ} {index : ℕ} {kind : Kind} → IsSwitchWord table.components word name → IsSwitch table.switches name index kind
      → IsSwitchWord table.components word other → IsUnknown table.switches other → ⊥
  known_unknown {name = name} {index = index} {kind = kind} w s v t = switch_unknown table.switches name index kind s (subst (λ n. IsUnknown table.switches n) (sym (switch_name w v)) t)

  known_ambiguous : {word name other : List ℕ} {index : ℕ} {kind : Kind} → IsSwitchWord table.components word name → IsSwitch table.switches name index kind
      → IsSwitchWord table.components word other → IsAmbiguous table.switches other → ⊥
  known_ambiguous {name = name} {index = index} {kind = kind} w s v t = switch_ambiguous table.switches name index kind s (subst (λ n. IsAmbiguous table.switches n) (sym (switch_name w v)) t)

  none_several : {word name other : List ℕ} → IsSwitchWord table.components word name → IsUnknown table.switches name
      → IsSwitchWord table.components word other → IsAmbiguous table.switches other → ⊥
  none_several {name = name} w s v t = unknown_ambiguous table.switches name s (subst (λ n. IsAmbiguous table.switches n) (sym (switch_name w v)) t)

  -- the first word says one thing
  pub takes_same : {place : ℕ} {words left left' : List (List ℕ)} {item item' : Item} {after after' : ℕ} → Takes table place words item left after → Takes table place words item' left' after' → IsSameStep item item' left left' after after'
  takes_same (takes_folder f) (takes_folder g) = same
  takes_same (takes_folder f) (takes_message g) = absurd (folder_message f g)
  takes_same (takes_folder f) (takes_flag g s) = absurd (folder_switch f g)
  takes_same (takes_folder f) (takes_value g s) = absurd (folder_switch f g)
  takes_same (takes_folder f) (takes_component g) = absurd (folder_component f g)
  takes_same (takes_message f) (takes_folder g) = absurd (folder_message g f)
  takes_same (takes_message f) (takes_message g) = same
  takes_same (takes_message f) (takes_flag g s) = absurd (message_switch f g)
  takes_same (takes_message f) (takes_value g s) = absurd (message_switch f g)
  takes_same (takes_message f) (takes_component g) = absurd (message_component f g)
  takes_same (takes_flag f s) (takes_folder g) = absurd (folder_switch g f)
  takes_same (takes_flag f s) (takes_message g) = absurd (message_switch g f)
  takes_same (takes_flag f s) (takes_flag g t) = let both = one_switch f s g t in record { items = cc (both.index_same); lefts = refl; afters = refl }
  takes_same (takes_flag f s) (takes_value g t) = absurd (flag_value f s g t)
  takes_same (takes_flag f s) (takes_component g) = absurd (switch_component f g)
  takes_same (takes_value f s) (takes_folder g) = absurd (folder_switch g f)
  takes_same (takes_value f s) (takes_message g) = absurd (message_switch g f)
  takes_same (takes_value f s) (takes_flag g t) = absurd (flag_value g t f s)
  takes_same (takes_value f s) (takes_value g t) = let both = one_switch f s g t in record { items = cc (both.index_same); lefts = refl; afters = refl }
  takes_same (takes_value f s) (takes_component g) = absurd (switch_component f g)
  takes_same (takes_component f) (takes_folder g) = absurd (folder_component g f)
  takes_same (takes_component f) (takes_message g) = absurd (message_component g f)
  takes_same (takes_component f) (takes_flag g s) = absurd (switch_component g f)
  takes_same (takes_component f) (takes_value g s) = absurd (switch_component g f)
  takes_same (takes_component f) (takes_component g) = record { items = cc (component_name f g); lefts = refl; afters = refl }

  -- a word that says something is not wrong
  pub takes_wrong : {place : ℕ} {words left : List (List ℕ)} {item : Item} {after : ℕ} {why : WordWhy} → Takes table place words item left after → IsWrong table words why → ⊥
  takes_wrong (takes_folder f) (is_lone_dash d) = folder_dash f d
  takes_wrong (takes_folder f) (is_unknown g s) = folder_switch f g
  takes_wrong (takes_folder f) (is_ambiguous g s) = folder_switch f g
  takes_wrong (takes_folder f) (lacks_value g s) = folder_switch f g
  takes_wrong (takes_folder f) (lacks_component_value g) = folder_component f g
  takes_wrong (takes_message f) (is_lone_dash d) = message_dash f d
  takes_wrong (takes_message f) (is_unknown g s) = message_switch f g
  takes_wrong (takes_message f) (is_ambiguous g s) = message_switch f g
  takes_wrong (takes_message f) (lacks_value g s) = message_switch f g
  takes_wrong (takes_message f) (lacks_component_value g) = message_component f g
  takes_wrong (takes_flag f s) (is_lone_dash d) = switch_dash f d
  takes_wrong (takes_flag f s) (is_unknown g t) = known_unknown f s g t
  takes_wrong (takes_flag f s) (is_ambiguous g t) = known_ambiguous f s g t
  takes_wrong (takes_flag f s) (lacks_value g t) = flag_value f s g t
  takes_wrong (takes_flag f s) (lacks_component_value g) = switch_component f g
  takes_wrong (takes_value f s) (is_lone_dash d) = switch_dash f d
  takes_wrong (takes_value f s) (is_unknown g t) = known_unknown f s g t
  takes_wrong (takes_value f s) (is_ambiguous g t) = known_ambiguous f s g t
  takes_wrong (takes_component f) (is_lone_dash d) = component_dash f d
  takes_wrong (takes_component f) (is_unknown g t) = switch_component g f
  takes_wrong (takes_component f) (is_ambiguous g t) = switch_component g f

  -- a word is wrong for one reason
  pub wrong_same : {words : List (List ℕ)} {why why' : WordWhy} → IsWrong table words why → IsWrong table words why' → why ≡ why'
  wrong_same (is_lone_dash d) (is_lone_dash e) = refl
  wrong_same (is_lone_dash d) (is_unknown g t) = refl
  wrong_same (is_lone_dash d) (is_ambiguous g t) = absurd (switch_dash g d)
  wrong_same (is_lone_dash d) (lacks_value g t) = absurd (switch_dash g d)
  wrong_same (is_lone_dash d) (lacks_component_value g) = absurd (component_dash g d)
  wrong_same (is_unknown f s) (is_lone_dash d) = refl
  wrong_same (is_unknown f s) (is_unknown g t) = refl
  wrong_same (is_unknown f s) (is_ambiguous g t) = absurd (none_several f s g t)
  wrong_same (is_unknown f s) (lacks_value g t) = absurd (known_unknown g t f s)
  wrong_same (is_unknown f s) (lacks_component_value g) = absurd (switch_component f g)
  wrong_same (is_ambiguous f s) (is_lone_dash d) = absurd (switch_dash f d)
  wrong_same (is_ambiguous f s) (is_unknown g t) = absurd (none_several g t f s)
  wrong_same (is_ambiguous f s) (is_ambiguous g t) = refl
  wrong_same (is_ambiguous f s) (lacks_value g t) = absurd (known_ambiguous g t f s)
  wrong_same (is_ambiguous f s) (lacks_component_value g) = absurd (switch_component f g)
  wrong_same (lacks_value f s) (is_lone_dash d) = absurd (switch_dash f d)
  wrong_same (lacks_value f s) (is_unknown g t) = absurd (known_unknown f s g t)
  wrong_same (lacks_value f s) (is_ambiguous g t) = absurd (known_ambiguous f s g t)
  wrong_same (lacks_value f s) (lacks_value g t) = refl
  wrong_same (lacks_value f s) (lacks_component_value g) = refl
  wrong_same (lacks_component_value f) (is_lone_dash d) = absurd (component_dash f d)
  wrong_same (lacks_component_value f) (is_unknown g t) = absurd (switch_component g f)
  wrong_same (lacks_component_value f) (is_ambiguous g t) = absurd (switch_component g f)
  wrong_same (lacks_component_value f) (lacks_value g t) = refl
  wrong_same (lacks_component_value f) (lacks_component_value g) = refl

  no_take : {place : ℕ} {left : List (List ℕ)} {item : Item} {after : ℕ} → Takes table place [] item left after → ⊥
  no_take h = elim h [ ]

  no_wrong : {why : WordWhy} → IsWrong table [] why → ⊥
  no_wrong h = elim h [ ]

  reads_from : {left left' : List (List ℕ)} {after after' : ℕ} {items : List Item} → left ≡ left' → after ≡ after' → Reads table after' left' items → Reads table after left items
  reads_from {left = left} {after' = after'} {items = items} e f r = subst (λ k. Reads table k left items) (sym f) (subst (λ ws. Reads table after' ws items) (sym e) r)

  fails_from : {left left' : List (List ℕ)} {after after' bad : ℕ} {why : WordWhy} → left ≡ left' → after ≡ after' → Fails table after' left' bad why → Fails table after left bad why
  fails_from {left = left} {after' = after'} {bad = bad} {why = why} e f r = subst (λ k. Fails table k left bad why) (sym f) (subst (λ ws. Fails table after' ws bad why) (sym e) r)

  -- words are read as one list of items
  pub reads_same : {place : ℕ} {words : List (List ℕ)} {items items' : List Item} → Reads table place words items → Reads table place words items' → items ≡ items'
  reads_same reads_none reads_none = refl
  reads_same reads_none (reads_next t r) = absurd (no_take t)
  reads_same (reads_next t r) reads_none = absurd (no_take t)
  reads_same (reads_next t r) (reads_next u s) =
      let step = takes_same t u in
      let more = reads_same r (reads_from step.lefts step.afters s) in
      cc (step.items, more)

  -- words that are read are not refused
  pub reads_fails : {place bad : ℕ} {words : List (List ℕ)} {items : List Item} {why : WordWhy} → Reads table place words items → Fails table place words bad why → ⊥
  reads_fails reads_none (fails_first w) = no_wrong w
  reads_fails reads_none (fails_later t f) = no_take t
  reads_fails (reads_next t r) (fails_first w) = takes_wrong t w
  reads_fails (reads_next t r) (fails_later u f) = let step = takes_same t u in reads_fails r (fails_from step.lefts step.afters f)

  -- the same fault
  pub record IsSameFault (bad bad' : ℕ) (why why' : WordWhy) : Type 0 where
    pub bads : bad ≡ bad'
    pub whys : why ≡ why'

  -- words are refused at one place, for one reason
  pub fails_same : {place bad bad' : ℕ} {words : List (List ℕ)} {why why' : WordWhy} → Fails table place words bad why → Fails table place words bad' why' → IsSameFault bad bad' why why'
  fails_same (fails_first w) (fails_first v) = record { bads = refl; whys = wrong_same w v }
  fails_same (fails_first w) (fails_later t f) = absurd (takes_wrong t w)
  fails_same (fails_later t f) (fails_first w) = absurd (takes_wrong t w)
  fails_same (fails_later t f) (fails_later u g) = let step = takes_same t u in fails_same f (fails_from step.lefts step.afters g)
