-- What words designate are messages of the folder.
use Rattle.std.proofs.Common.{◌≡◌, ℕ, zero, suc, ◌-◌, ◌||◌, ◌&&◌, ◌==◌, Bool, true, false, Option, Some, None, List, [], ◌∷◌, length, take, drop, refl, sym, ◌∙◌, ap}
use Rattle.std.specs.Prelude.{Result, Ok, Err, filter}
use Rattle.std.specs.List.{list_any}
use Rattle.mh_sequences.specs.Runs.{numbers_of}
use Rattle.msg_ranges.specs.declared.fault.SelectFault.{SelectFault}
use Rattle.msg_ranges.specs.declared.fault.SelectFault.TheVariants.{Memory}
use Rattle.msg_ranges.specs.declared.spec.Way.{Way}
use Rattle.msg_ranges.specs.declared.spec.Way.TheVariants.{Unsigned, Plus, Minus}
use Rattle.msg_ranges.specs.declared.spec.Spot.{Spot}
use Rattle.msg_ranges.specs.declared.spec.Spot.TheVariants.{First as FirstSpot, Last as LastSpot, Next as NextSpot, Prev as PrevSpot}
use Rattle.msg_ranges.specs.declared.spec.Spec.{Spec}
use Rattle.msg_ranges.specs.declared.spec.Spec.TheVariants.{One, Range, Count, All, Sequence, SequenceCount, SequenceSpot, Negated}
use Rattle.msg_ranges.specs.Forms.{form_of}
use Rattle.msg_ranges.specs.Selected.{formed, coming, with_first, designated, every_number, united, all_united, selected}
use Rattle.msg_ranges.specs.Selecting.{Folder}
use Rattle.msg_ranges.specs.Selection.{Marks, from, up_to, take_last, named, some_or, one, between, goes_up, counted, is_end, unless_void, members, others, counted_members, spotted, current, chosen}
use Rattle.msg_ranges.proofs.Rising.{lists, lists_filter}

-- each number of the one list is in the other
abbrev pub IsPart : List ℕ → List ℕ → Type 0
IsPart ys xs = (n : ℕ) → lists ys n ≡ true → lists xs n ≡ true

left_true : (a b : Bool) → a && b ≡ true → a ≡ true
left_true true b e = refl
left_true false b e = cc

right_true : (a b : Bool) → a && b ≡ true → b ≡ true
right_true true b e = e
right_true false b e = cc

either_true : (a b c d : Bool) → (a ≡ true → c ≡ true) → (b ≡ true → d ≡ true) → a || b ≡ true → c || d ≡ true
either_true true b c d f g e = rw (f refl) refl
either_true false b true d f g e = refl
either_true false b false d f g e = g e

later_true : (a b : Bool) → b ≡ true → a || b ≡ true
later_true true b e = refl
later_true false b e = e

all_part : (xs : List ℕ) → IsPart xs xs
all_part xs n e = e

part_on : (zs ys xs : List ℕ) → IsPart zs ys → IsPart ys xs → IsPart zs xs
part_on zs ys xs f g n e = g n (f n e)

part_filter : (p : ℕ → Bool) (xs : List ℕ) → IsPart (filter p xs) xs
part_filter p xs n e = left_true (lists xs n) (p n) (sym (lists_filter p xs n) ∙ e)

part_take : (k : ℕ) (xs : List ℕ) → IsPart (take k xs) xs
part_take zero [] n e = e
part_take zero (x ∷ xs) n e = cc
part_take (suc k) [] n e = e
part_take (suc k) (x ∷ xs) n e = either_true (x == n) (lists (take k xs) n) (x == n) (lists xs n) (λ t. t) (part_take k xs n) e

part_drop : (k : ℕ) (xs : List ℕ) → IsPart (drop k xs) xs
part_drop zero [] n e = e
part_drop zero (x ∷ xs) n e = e
part_drop (suc k) [] n e = e
part_drop (suc k) (x ∷ xs) n e = later_true (x == n) (lists xs n) (part_drop k xs n e)

part_last : (k : ℕ) (xs : List ℕ) → IsPart (take_last k xs) xs
part_last k xs = part_drop (length xs - k) xs

-- what is answered is a part of the list, or a refusal
abbrev Gives : List ℕ → Result (List ℕ) SelectFault → Type 0
Gives xs (Ok ys) = IsPart ys xs
Gives xs (Err e) = e ≡ Memory → ⊥

gives_some : (fault : SelectFault) (zs xs : List ℕ) → (fault ≡ Memory → ⊥) → IsPart zs xs → Gives xs (some_or fault zs)
gives_some fault [] xs n f = n
gives_some fault (z ∷ zs) xs n f = f

gives_unless : (k : ℕ) (end : Bool) (xs : List ℕ) (r : Result (List ℕ) SelectFault) → Gives xs r → Gives xs (unless_void k end xs r)
gives_unless k true [] r f = λ e. cc (e)
gives_unless k true (x ∷ xs) r f = f
gives_unless k false xs r f = f

gives_one : (k : ℕ) (xs : List ℕ) (o : Option ℕ) → Gives xs (one k xs o)
gives_one k xs None = λ e. cc (e)
gives_one k xs (Some n) = gives_some _ (filter (λ x. x == n) xs) xs (λ e. cc (e)) (part_filter (λ x. x == n) xs)

gives_between : (k : ℕ) (xs : List ℕ) (a b : Option ℕ) → Gives xs (between k xs a b)
gives_between k xs None b = λ e. cc (e)
gives_between k xs (Some a) None = λ e. cc (e)
gives_between k xs (Some a) (Some b) = gives_some _ (from a (up_to b xs)) xs (λ e. cc (e)) (part_on (from a (up_to b xs)) (up_to b xs) xs (part_filter _ (up_to b xs)) (part_filter _ xs))

gives_counted : (k : ℕ) (xs : List ℕ) (a : Option ℕ) (up : Bool) (n : ℕ) → Gives xs (counted k xs a up n)
gives_counted k xs None up n = λ e. cc (e)
gives_counted k xs (Some a) true n = gives_some _ (take n (from a xs)) xs (λ e. cc (e)) (part_on (take n (from a xs)) (from a xs) xs (part_take n (from a xs)) (part_filter _ xs))
gives_counted k xs (Some a) false n = gives_some _ (take_last n (up_to a xs)) xs (λ e. cc (e)) (part_on (take_last n (up_to a xs)) (up_to a xs) xs (part_last n (up_to a xs)) (part_filter _ xs))

part_counted : (way : Way) (n : ℕ) (xs : List ℕ) → IsPart (counted_members way n xs) xs
part_counted Unsigned n xs = part_take n xs
part_counted Plus n xs = part_take n xs
part_counted Minus n xs = part_last n xs

part_spotted : (cur : ℕ) (spot : Spot) (xs : List ℕ) → IsPart (spotted cur spot xs) xs
part_spotted cur FirstSpot xs = part_take 1 xs
part_spotted cur LastSpot xs = part_last 1 xs
part_spotted cur NextSpot xs = part_on (spotted cur NextSpot xs) _ xs (part_take 1 _) (part_filter _ xs)
part_spotted cur PrevSpot xs = part_on (spotted cur PrevSpot xs) _ xs (part_last 1 _) (part_filter _ xs)

gives_chosen : (k : ℕ) (xs : List ℕ) (marks : Marks) (spec : Spec) → Gives xs (chosen k xs marks spec)
gives_chosen k xs marks (One a) = gives_unless k (is_end a) xs _ (gives_one k xs (named xs marks.cur a))
gives_chosen k xs marks (Range a b) = gives_unless k (is_end a || is_end b) xs _ (gives_between k xs (named xs marks.cur a) (named xs marks.cur b))
gives_chosen k xs marks (Count a way n) = gives_unless k (is_end a) xs _ (gives_counted k xs (named xs marks.cur a) (goes_up a way) n)
gives_chosen k xs marks All = gives_some _ xs xs (λ e. cc (e)) (all_part xs)
gives_chosen k xs marks (Sequence s) = gives_some _ (members xs marks s) xs (λ e. cc (e)) (part_filter _ xs)
gives_chosen k xs marks (SequenceCount s way n) = gives_some _ (counted_members way n (members xs marks s)) xs (λ e. cc (e)) (part_on _ (members xs marks s) xs (part_counted way n (members xs marks s)) (part_filter _ xs))
gives_chosen k xs marks (SequenceSpot s spot) = gives_some _ (spotted (current marks.cur) spot (members xs marks s)) xs (λ e. cc (e)) (part_on _ (members xs marks s) xs (part_spotted (current marks.cur) spot (members xs marks s)) (part_filter _ xs))
gives_chosen k xs marks (Negated s) = gives_some _ (others xs marks s) xs (λ e. cc (e)) (part_filter _ xs)

gives_formed : (f : Folder) (k : ℕ) (o : Option Spec) → Gives f.numbers (formed f k o)
gives_formed f k None = λ e. cc (e)
gives_formed f k (Some spec) = gives_chosen k f.numbers f.marks spec

-- of many lists
abbrev AreParts : List ℕ → Result (List (List ℕ)) SelectFault → Type 0
AreParts xs (Ok sets) = (n : ℕ) → list_any (λ ys. lists ys n) sets ≡ true → lists xs n ≡ true
AreParts xs (Err e) = e ≡ Memory → ⊥

either : (a b c : Bool) → (a ≡ true → c ≡ true) → (b ≡ true → c ≡ true) → a || b ≡ true → c ≡ true
either true b c f g e = f refl
either false b c f g e = g e

parts_first : (xs : List ℕ) (r : Result (List ℕ) SelectFault) (rest : Result (List (List ℕ)) SelectFault) → Gives xs r → AreParts xs rest → AreParts xs (with_first r rest)
parts_first xs (Err e) rest f g = f
parts_first xs (Ok ys) (Err e) f g = g
parts_first xs (Ok ys) (Ok sets) f g = λ n e. either (lists ys n) (list_any (λ zs. lists zs n) sets) (lists xs n) (f n) (g n) e

designated_parts : (f : Folder) (k : ℕ) (words : List (List ℕ)) → AreParts f.numbers (designated f k words)
unfolding designated
designated_parts f k [] = λ n e. cc (e)
designated_parts f k (word ∷ words) = parts_first f.numbers (coming f k word) (designated f (suc k) words) (gives_formed f k (form_of f.prefix word)) (designated_parts f (suc k) words)

-- what words select is in the folder
pub selected_within : (f : Folder) (words : List (List ℕ)) (numbers : List ℕ) → selected f words ≡ Ok numbers → (n : ℕ) → lists numbers n ≡ true → lists f.numbers n ≡ true
selected_within f words numbers is n e = go (designated f 0 words) (designated_parts f 0 words) is
  where
    go : (r : Result (List (List ℕ)) SelectFault) → AreParts f.numbers r → all_united r ≡ Ok numbers → lists f.numbers n ≡ true
    go (Ok sets) parts is =
        let same : united sets ≡ numbers = cc in
        parts n (right_true (lists (numbers_of every_number) n) (list_any (λ xs. list_any (λ x. x == n) xs) sets) (sym (lists_filter (λ n. list_any (λ xs. list_any (λ x. x == n) xs) sets) (numbers_of every_number) n) ∙ ap (λ l. lists l n) same ∙ e))
    go (Err fault) parts is = cc

-- no word is refused for want of memory
pub never_memory : (f : Folder) (words : List (List ℕ)) → selected f words ≡ Err Memory → ⊥
never_memory f words is = go (designated f 0 words) (designated_parts f 0 words) is
  where
    go : (r : Result (List (List ℕ)) SelectFault) → AreParts f.numbers r → all_united r ≡ Err Memory → ⊥
    go (Ok sets) parts is = cc (is)
    go (Err fault) never is = never (let same : fault ≡ Memory = cc in same)
