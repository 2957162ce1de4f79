-- What is said of words that were read.
use Rattle.std.proofs.Common.{◌≡◌, ℕ, List, Option, None, Some, Result, Ok, Err, sym, ap, subst}
use Rattle.std.specs.Prelude.{option_map}
use Rattle.std.specs.Borrow.{Bor}
use Rattle.mh_words.specs.Whole.{Wrong, read_in}
use Rattle.mh_words.specs.declared.item.Item.{Item}
use Rattle.mh_words.specs.declared.table.SwitchTable.{SwitchTable}
use Rattle.command_words.specs.Ended.{wrong_at, items_or_wrong}
use Rattle.command_words.specs.Results.{IsOneFolder, IsSaid}
use Rattle.command_words.specs.Saying.{said_unless_wrong, words_said}
use Rattle.command_words.specs.declared.ended.Ended.{Ended}

ok_same : (a b : List Item) → ◌≡◌ {A = Result (List Item) Ended} (Ok a) (Ok b) → a ≡ b
ok_same a b same = cc

apart : {X : Type 0} (e : Ended) (a : List Item) → ◌≡◌ {A = Result (List Item) Ended} (Err e) (Ok a) → X
apart e a same = cc

items_read : (words : List (List ℕ)) (read : Result (List Item) Wrong) (items : List Item) →
    items_or_wrong words read ≡ Ok items → read ≡ Ok items
items_read words (Ok all) items same = ap Ok (ok_same all items same)
items_read words (Err wrong) items same = apart (wrong_at words wrong) items same

-- what a command says of its words, which were read by its table
pub read_on : {W : Type 0} (said : List (List ℕ) → List Item → Result W Ended) (all line : List (List ℕ)) (table given : SwitchTable) (items : List Item) (result : Result W Ended) → given ≡ table → all ≡ line →
    items_or_wrong all (read_in given 0 all) ≡ Ok items → IsSaid (said all items) result → IsSaid (words_said said table line) result
read_on said all line table given items result tabled whole read is =
    let at_items = sym (items_read all (read_in given 0 all) items read) in
    subst (λ a. IsSaid (words_said said table a) result) whole
    (subst (λ t. IsSaid (words_said said t all) result) tabled
    (subst (λ r. IsSaid (said_unless_wrong (said all) all r) result) at_items is))

-- the word of the one folder
pub word_is : (value : Result (Option (List ℕ)) Wrong) (word : Option (Bor (List ℕ))) → IsOneFolder value (Ok word) → value ≡ Ok (option_map (λ w. w.now) word)
word_is value None e = e
word_is value (Some word) e = e
