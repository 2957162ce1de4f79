-- A folder's name stands on one line, and so can be an entry's value.
use Rattle.std.proofs.Common.{◌≡◌, ℕ, ◌-◌, ◌<◌, ◌≤◌, Bool, true, false, List, [], ◌∷◌, length, get_or, refl, ◌∙◌, arith}
use Rattle.std.specs.Prelude.{◌==◌, ◌&&◌, ◌||◌, not, nat_le, slice_index}
use Rattle.std.specs.List.{list_all, prefix_len, suffix_len}
use Rattle.std.specs.Str.{encode_utf8_all}
use Rattle.std.proofs.lemmas.Bool.{and_parts, and_from, not-true}
use Rattle.std.proofs.lemmas.Bool.Decides.{nat_tests}
use Rattle.std.proofs.lemmas.List.Folds.{list_all_at}
use Rattle.std.proofs.lemmas.List.Sums.{suffix_len_is}
use Rattle.mail_headers.specs.Unfolding.{is_edge}
use Rattle.mh_base.specs.Folders.{is_folder_name, is_folder_text, is_folder_byte, has_folder_length, has_good_ends, is_no_context, is_segment, segments}
use Rattle.mh_profile.specs.Names.{IsFieldName}
use Rattle.mh_profile.specs.Values.{IsUnfolded, is_no_feed}
use Rattle.mh_profile.proofs.OneLineValues.{bare_value}
use Rattle.step_plans.specs.ContextCommit.{AreChanges}
use Rattle.command_stages.specs.Current.{current_name, current_change}

no : {X : Type 0} (b : Bool) → b ≡ true → b ≡ false → X
no true t f = cc
no false t f = cc

byte_no_feed : (b : ℕ) → is_folder_byte b ≡ true → is_no_feed b ≡ true
byte_no_feed b h = let e : not (b == 10) ≡ true = grind (arith, nat_tests, h) in e

byte_no_edge : (b : ℕ) → is_folder_byte b ≡ true → (b == 32) ≡ false → is_edge b ≡ false
byte_no_edge b h s = let e : ((b == 32) || (b == 9)) || (b == 13) ≡ false = grind (arith, nat_tests, h, s) in e

all_no_feed : (xs : List ℕ) → list_all is_folder_byte xs ≡ true → list_all is_no_feed xs ≡ true
all_no_feed [] h = refl
all_no_feed (x ∷ xs) h = let parts = and_parts (is_folder_byte x) (list_all is_folder_byte xs) h in and_from (is_no_feed x) (list_all is_no_feed xs) (byte_no_feed x parts.0) (all_no_feed xs parts.1)

byte_at : (xs : List ℕ) (i : ℕ) → i < length xs → list_all is_folder_byte xs ≡ true → is_folder_byte (get_or xs i 0) ≡ true
byte_at xs i lt h = go (is_folder_byte (get_or xs i 0)) refl
  where
    go : (b : Bool) → is_folder_byte (get_or xs i 0) ≡ b → b ≡ true
    go true e = refl
    go false e = no (list_all is_folder_byte xs) h (list_all_at is_folder_byte xs i 0 lt e)

first_edge : (xs : List ℕ) → list_all is_folder_byte xs ≡ true → (slice_index xs 0 == 32) ≡ false → prefix_len is_edge xs ≡ 0
first_edge [] h s = refl
first_edge (x ∷ xs) h s = rw (byte_no_edge x (and_parts (is_folder_byte x) (list_all is_folder_byte xs) h).0 s) refl

last_edge : (xs : List ℕ) → list_all is_folder_byte xs ≡ true → 1 ≤ length xs → (slice_index xs (length xs - 1) == 32) ≡ false → suffix_len is_edge xs ≡ 0
last_edge xs h some s =
    let inside : length xs - 1 < length xs = omega (arith, some) in
    let none = suffix_len_is is_edge xs (length xs) 0 (omega arith) (λ k from below. absurd (omega arith)) (λ some_. byte_no_edge (get_or xs (length xs - 1) 0) (byte_at xs (length xs - 1) inside h) s) in
    none ∙ omega arith

text_line : (bytes : List ℕ) → is_folder_text bytes ≡ true → IsUnfolded bytes
text_line bytes h =
    let a = and_parts (((has_folder_length bytes && has_good_ends bytes) && list_all is_folder_byte bytes) && is_no_context bytes) (list_all is_segment (segments bytes)) h in
    let b = and_parts ((has_folder_length bytes && has_good_ends bytes) && list_all is_folder_byte bytes) (is_no_context bytes) a.0 in
    let c = and_parts (has_folder_length bytes && has_good_ends bytes) (list_all is_folder_byte bytes) b.0 in
    let d = and_parts (has_folder_length bytes) (has_good_ends bytes) c.0 in
    let ends = and_parts (not (slice_index bytes 0 == 43) && not (slice_index bytes 0 == 32)) (not (slice_index bytes (length bytes - 1) == 32)) d.1 in
    let both = and_parts (not (slice_index bytes 0 == 43)) (not (slice_index bytes 0 == 32)) ends.0 in
    let long = and_parts (nat_le 1 (length bytes)) (nat_le (length bytes) 200) d.0 in
    let some : 1 ≤ length bytes = grind (arith, nat_tests, long.0) in
    bare_value bytes (all_no_feed bytes c.1) (first_edge bytes c.1 (not-true (slice_index bytes 0 == 32) both.1)) (last_edge bytes c.1 some (not-true (slice_index bytes (length bytes - 1) == 32) ends.1))

pub folder_line : (name : List ℕ) → is_folder_name name ≡ true → IsUnfolded (encode_utf8_all name)
unfolding is_folder_name
folder_line name h = text_line (encode_utf8_all name) h

current_field : IsFieldName current_name
current_field = record { some = omega arith; clean = refl }

-- the current folder's entry is one that a context may have
pub current_valid : (name : List ℕ) → is_folder_name name ≡ true → AreChanges (current_change name)
current_valid name h = ((current_field, folder_line name h), tt)
