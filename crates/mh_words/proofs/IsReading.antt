-- The one value of a reading is a reading.
use Rattle.std.proofs.Common.{◌≡◌, ◌≢◌, ◌≤◌, ◌+◌, ◌==◌, ◌&&◌, ℕ, zero, suc, Bool, true, false, List, [], ◌∷◌, length, drop, refl, sym, ap, arith, add-one, bytes_eq}
use Rattle.std.specs.Prelude.{Some, Result, Ok, Err, nat_eq, if◌then◌else◌}
use Rattle.std.specs.List.{starts_with}
use Rattle.std.proofs.lemmas.Bool.Decides.{Decides-eqb}
use Rattle.std.proofs.lemmas.Slice.Eq.{starts_is, bytes_eq-Decides}
use Rattle.mh_base.specs.declared.word.WordWhy.{WordWhy}
use Rattle.mh_base.specs.declared.word.WordWhy.TheVariants.{Unknown, NoValue}
use Rattle.mh_words.specs.declared.fault.WordFault.{WordFault}
use Rattle.mh_words.specs.declared.fault.WordFault.TheVariants.{Bad, Memory}
use Rattle.mh_words.specs.declared.item.Item.{Item}
use Rattle.mh_words.specs.declared.item.Item.TheVariants.{Folder, Message, Component}
use Rattle.mh_words.specs.declared.item.Words.{Words}
use Rattle.mh_words.specs.declared.lookup.Found.{Found}
use Rattle.mh_words.specs.declared.lookup.Found.TheVariants.{Nothing, One, Several}
use Rattle.mh_words.specs.declared.table.Kind.TheVariants.{Flag, Value}
use Rattle.mh_words.specs.declared.table.Switch.{Switch as SwitchType}
use Rattle.mh_words.specs.declared.table.SwitchTable.{SwitchTable}
use Rattle.mh_words.specs.Forms.{IsSwitchWord, IsComponent}
use Rattle.mh_words.specs.Lookups.{Finds, one_more}
use Rattle.mh_words.specs.Outcomes.{IsReadAs, IsRefusedAs}
use Rattle.mh_words.specs.Readings.{Takes, takes_folder, takes_message, takes_flag, takes_value, takes_component, IsWrong, is_lone_dash, is_unknown, is_ambiguous, lacks_value, lacks_component_value, Reads, reads_none, reads_next, Fails, fails_first, fails_later}
use Rattle.mh_words.specs.Switches.{IsAt, BeginsWith}
use Rattle.mh_words.specs.Whole.{Wrong, found_from, FirstWord, Alone, Valued, IsBad, named, dashed, first_word, before, last_read, next_read, read_in, IsWhole}
use Rattle.mh_words.proofs.OneReading.{reads_same, reads_fails}
use Rattle.mh_words.proofs.Lookups.{NoneIsFull, IsSoFar, none_more, longer_more, unlike_more, found_full, found_all}

not_both : {X : Type 0} (b : Bool) → b ≡ true → b ≡ false → X
not_both true t f = cc
not_both false t f = cc

head_is : (a b : ℕ) (x y : List ℕ) → a ∷ x ≡ b ∷ y → a ≡ b
head_is a b x y e = cc (e)

begins_true : (name text : List ℕ) → starts_with nat_eq name text ≡ true → BeginsWith name text
begins_true name text e = (drop (length text) name, (starts_is Decides-eqb name text (starts_with nat_eq name text) refl).0 e)

begins_false : (name text : List ℕ) → starts_with nat_eq name text ≡ false → ¬ (BeginsWith name text)
begins_false name text e (rest, is) = not_both (starts_with nat_eq name text) ((starts_is Decides-eqb name text (starts_with nat_eq name text) refl).1 rest is) e

at_drop : (all : List SwitchType) (i : ℕ) (s : SwitchType) (ss : List SwitchType) → drop i all ≡ s ∷ ss → (IsAt all i s) × (drop (suc i) all ≡ ss)
at_drop [] zero s ss e = cc
at_drop [] (suc i) s ss e = cc
at_drop (x ∷ xs) zero s ss e = let h : x ≡ s = cc in let t : xs ≡ ss = cc in (ap (λ z. Some z) h, t)
at_drop (x ∷ xs) (suc i) s ss e = at_drop xs i s ss e

end_drop : (all : List SwitchType) (i : ℕ) → drop i all ≡ [] → length all ≤ i
end_drop [] i e = omega arith
end_drop (x ∷ xs) zero e = cc
end_drop (x ∷ xs) (suc i) e = let h = end_drop xs i e in omega (arith, h)

found_sound : (all : List SwitchType) (ss : List SwitchType) (text : List ℕ) (i : ℕ) (found : Found) → drop i all ≡ ss → NoneIsFull all text i → IsSoFar all text i found → Finds all text (found_from ss text i found)
unfolding found_from
found_sound all [] text i found e none so_far = found_all all text i found (end_drop all i e) none so_far
found_sound all (s ∷ ss) text i found e none so_far =
    let at = at_drop all i s ss e in
    by_full (bytes_eq s.name text) refl at.0
    (λ apart. by_start (starts_with nat_eq s.name text) refl at.0 apart (λ more none_ so_far_. found_sound all ss text (i + 1) more (rw (add-one i) at.1) none_ so_far_))
  where
    by_start : (b : Bool) → starts_with nat_eq s.name text ≡ b → IsAt all i s → s.name ≢ text
        → ((more : Found) → NoneIsFull all text (i + 1) → IsSoFar all text (i + 1) more → Finds all text (found_from ss text (i + 1) more))
        → Finds all text (found_from ss text (i + 1) (if b then one_more found i s.kind else found))
    by_start true t at apart go = go (one_more found i s.kind) (none_more all text i s none at apart) (longer_more all text i s found so_far at (begins_true s.name text t))
    by_start false t at apart go = go found (none_more all text i s none at apart) (unlike_more all text i s found so_far at (begins_false s.name text t))

    by_full : (b : Bool) → bytes_eq s.name text ≡ b → IsAt all i s
        → (s.name ≢ text → Finds all text (found_from ss text (i + 1) (if starts_with nat_eq s.name text then one_more found i s.kind else found)))
        → Finds all text (if b then One i s.kind else found_from ss text (i + 1) (if starts_with nat_eq s.name text then one_more found i s.kind else found))
    by_full true t at rest = found_full all text i s none at ((bytes_eq-Decides s.name text).0 t)
    by_full false t at rest = rest (λ same. not_both (bytes_eq s.name text) ((bytes_eq-Decides s.name text).1 same) t)

-- what is found in a table
found_in : (switches : List SwitchType) (text : List ℕ) → Finds switches text (found_from switches text 0 Nothing)
found_in switches text = found_sound switches switches text 0 Nothing refl (λ index below. absurd (omega (arith, below))) (λ index below. absurd (omega (arith, below)))

module _ (table : SwitchTable) where
  -- what is said of the first word is so, whatever follows
  abbrev IsFirst : ℕ → List ℕ → FirstWord → Type 0
  IsFirst place word (Alone item) = (left : List (List ℕ)) → Takes table place (word ∷ left) item left (place + 1)
  IsFirst place word (Valued item) = ((value : List ℕ) (left : List (List ℕ)) → Takes table place (word ∷ (value ∷ left)) (item value) left (place + 2)) × IsWrong table (word ∷ []) NoValue
  IsFirst place word (IsBad why) = (left : List (List ℕ)) → IsWrong table (word ∷ left) why

  named_is : (place : ℕ) (word name : List ℕ) (found : Found) → IsSwitchWord table.components word name → Finds table.switches name found → IsFirst place word (named found place)
  named_is place word name Nothing w f = λ left. is_unknown w f
  named_is place word name (One index Flag) w f = λ left. takes_flag w f
  named_is place word name (One index Value) w f = (λ value left. takes_value w f, lacks_value w f)
  named_is place word name Several w f = λ left. is_ambiguous w f

  eqb_true : (a b : ℕ) → (a == b) ≡ true → a ≡ b
  eqb_true a b e = (Decides-eqb a b).0 e

  eqb_is : (a b : ℕ) → a ≡ b → (a == b) ≡ true
  eqb_is a b e = (Decides-eqb a b).1 e

  and_true : (a b : Bool) → a && b ≡ true → (a ≡ true) × (b ≡ true)
  and_true true true e = (refl, refl)
  and_true true false e = cc
  and_true false b e = cc

  both_true : (a b : Bool) → a ≡ true → b ≡ true → a && b ≡ true
  both_true true true e f = refl
  both_true true false e f = cc
  both_true false b e f = cc

  dashed_is : (place : ℕ) (c : ℕ) (rest : List ℕ) → c ≡ 45 → IsFirst place (c ∷ rest) (dashed table place rest)
  dashed_is place c [] e = λ left. is_unknown_dash left
    where
      is_unknown_dash : (left : List (List ℕ)) → IsWrong table ((c ∷ []) ∷ left) Unknown
      is_unknown_dash left = is_lone_dash (ap (λ z. z ∷ []) e)
  dashed_is place c (d ∷ name) e = go (table.components && (d == 45)) refl
    where
      go : (b : Bool) → table.components && (d == 45) ≡ b → IsFirst place (c ∷ (d ∷ name)) (if b then Valued (λ value. Component name value place) else named (found_from table.switches (d ∷ name) 0 Nothing) place)
      go true t =
          let both = and_true table.components (d == 45) t in
          let second : d ≡ 45 = eqb_true d 45 both.1 in
          let k : IsComponent table.components (c ∷ (d ∷ name)) name = record { allowed = both.0; spelled = (λ i. e i ∷ (second i ∷ name)) } in
          (λ value left. takes_component k, lacks_component_value k)
      go false t = named_is place (c ∷ (d ∷ name)) (d ∷ name) (found_from table.switches (d ∷ name) 0 Nothing)
          (record { spelled = ap (λ z. z ∷ (d ∷ name)) e; named = (λ none. cc (none)); no_component = (λ other k. not_both (table.components && (d == 45)) (both_true table.components (d == 45) k.allowed (eqb_is d 45 (cc (k.spelled)))) t) })
          (found_in table.switches (d ∷ name))

  first_is : (place : ℕ) (word : List ℕ) → IsFirst place word (first_word table place word)
  first_is place [] = λ left. takes_message (record { no_plus = (λ name e. cc (e)); no_dash = (λ name e. cc (e)) })
  first_is place (c ∷ rest) = by_plus (c == 43) refl
    where
      by_dash : (b : Bool) → (c == 45) ≡ b → (c == 43) ≡ false → IsFirst place (c ∷ rest) (if b then dashed table place rest else Alone (Message (c ∷ rest) place))
      by_dash true t f = dashed_is place c rest (eqb_true c 45 t)
      by_dash false t f = λ left. takes_message (record {
        no_plus = λ name e. not_both (c == 43) (eqb_is c 43 (head_is c 43 rest name e)) f;
        no_dash = λ name e. not_both (c == 45) (eqb_is c 45 (head_is c 45 rest name e)) t;
      })

      by_plus : (b : Bool) → (c == 43) ≡ b → IsFirst place (c ∷ rest) (if b then Alone (Folder (c ∷ rest) place) else (if c == 45 then dashed table place rest else Alone (Message (c ∷ rest) place)))
      by_plus true t = λ left. takes_folder (rest, ap (λ z. z ∷ rest) (eqb_true c 43 t))
      by_plus false t = by_dash (c == 45) refl t

  -- the value is a reading, or a failure
  abbrev IsSound : ℕ → List (List ℕ) → Result (List Item) Wrong → Type 0
  IsSound place words (Ok items) = Reads table place words items
  IsSound place words (Err wrong) = Fails table place words wrong.place wrong.why

  last_sound : (place : ℕ) (word : List ℕ) (first : FirstWord) → IsFirst place word first → IsSound place (word ∷ []) (last_read first place)
  last_sound place word (Alone item) f = reads_next (f []) reads_none
  last_sound place word (Valued item) f = fails_first f.1
  last_sound place word (IsBad why) f = fails_first (f [])

  before_sound : (place after : ℕ) (words left : List (List ℕ)) (item : Item) (r : Result (List Item) Wrong) → Takes table place words item left after → IsSound after left r → IsSound place words (before item r)
  before_sound place after words left item (Ok items) t s = reads_next t s
  before_sound place after words left item (Err wrong) t s = fails_later t s

  next_sound : (place : ℕ) (word next : List ℕ) (left : List (List ℕ)) (first : FirstWord) (one both : Result (List Item) Wrong) → IsFirst place word first → IsSound (place + 1) (next ∷ left) one → IsSound (place + 2) left both
      → IsSound place (word ∷ (next ∷ left)) (next_read first place next one both)
  next_sound place word next left (Alone item) one both f s t = before_sound place (place + 1) (word ∷ (next ∷ left)) (next ∷ left) item one (f (next ∷ left)) s
  next_sound place word next left (Valued item) one both f s t = before_sound place (place + 2) (word ∷ (next ∷ left)) left (item next) both (f.0 next left) t
  next_sound place word next left (IsBad why) one both f s t = fails_first (f (next ∷ left))

  read_sound : (place : ℕ) (words : List (List ℕ)) → IsSound place words (read_in table place words)
  unfolding read_in
  read_sound place [] = reads_none
  read_sound place (word ∷ []) = last_sound place word (first_word table place word) (first_is place word)
  read_sound place (word ∷ (next ∷ left)) =
      next_sound place word next left (first_word table place word) (read_in table (place + 1) (next ∷ left)) (read_in table (place + 2) left) (first_is place word)
      (read_sound (place + 1) (next ∷ left)) (read_sound (place + 2) left)

  -- a result that has what the relation admits has the one value
  pub whole_is : (words : List (List ℕ)) (result : Result Words WordFault) → ((items : List Item) → Reads table 0 words items → IsReadAs items result) → ((bad : ℕ) (why : WordWhy) → Fails table 0 words bad why → IsRefusedAs bad why result) → IsWhole (read_in table 0 words) result
  whole_is words result admits fails = by_value (read_in table 0 words) (read_sound 0 words) result admits fails
    where
      by_value : (r : Result (List Item) Wrong) → IsSound 0 words r → (result : Result Words WordFault) → ((items : List Item) → Reads table 0 words items → IsReadAs items result)
          → ((bad : ℕ) (why : WordWhy) → Fails table 0 words bad why → IsRefusedAs bad why result) → IsWhole r result
      by_value (Ok items) s (Ok read) admits fails = ap (λ z. Ok z) (sym (admits items s))
      by_value (Ok items) s (Err (Bad bad why)) admits fails = absurd (admits items s)
      by_value (Ok items) s (Err Memory) admits fails = tt
      by_value (Err wrong) s (Ok read) admits fails = absurd (fails wrong.place wrong.why s)
      by_value (Err wrong) s (Err (Bad bad why)) admits fails = let e = fails wrong.place wrong.why s in (λ i. Err (record { place = sym e.0 i; why = sym e.1 i }))
      by_value (Err wrong) s (Err Memory) admits fails = tt

  -- words that are read have the one value
  pub whole_read : (words : List (List ℕ)) (items : List Item) → Reads table 0 words items → read_in table 0 words ≡ Ok items
  whole_read words items reads = by_value (read_in table 0 words) (read_sound 0 words)
    where
      by_value : (r : Result (List Item) Wrong) → IsSound 0 words r → r ≡ Ok items
      by_value (Ok others) s = ap (λ z. Ok z) (reads_same table s reads)
      by_value (Err wrong) s = absurd (reads_fails table reads s)
