-- Paths, number by number.
use Rattle.std.proofs.Common.{◌≡◌, ℕ, suc, ◌+◌, ◌-◌, ◌<◌, ◌≤◌, Option, Some, None, List, [], ◌∷◌, ◌++◌, length, take, drop, refl, sym, ◌∙◌, ap, arith, append_assoc}
use Rattle.std.specs.Prelude.{option_map, option_and_then}
use Rattle.mime_tree.specs.Paths.{step_of, word_len, path_with, path_up_to}

no_numbers : (o : Option (List ℕ)) → option_map (λ ns. [] ++ ns) o ≡ o
no_numbers None = refl
no_numbers (Some ns) = refl

pub starts : (text numbers : List ℕ) → numbers ≡ [] → option_map (λ ns. numbers ++ ns) (path_up_to (64 - 0) text) ≡ path_up_to 64 text
starts text numbers e = rw e (no_numbers (path_up_to 64 text))

first_step : (m : ℕ) (text : List ℕ) → path_up_to (suc m) text ≡ option_and_then (λ number. path_with number (drop (word_len text) text) (path_up_to m)) (step_of (take (word_len text) text))
unfolding path_up_to
first_step m text = refl

at_step : (i len : ℕ) (rest word : List ℕ) (o : Option ℕ) → i < 64 → len ≡ word_len rest → word ≡ take len rest → step_of word ≡ o →
    path_up_to (64 - i) rest ≡ option_and_then (λ number. path_with number (drop len rest) (path_up_to (64 - (i + 1)))) o
at_step i len rest word o lt is front e =
    let left : 64 - i ≡ suc (64 - (i + 1)) = omega arith in
    ap (λ n. path_up_to n rest) left ∙ first_step (64 - (i + 1)) rest ∙ rw (← is, ← front, e) refl

pub stops : (rest word numbers : List ℕ) (r : Option (List ℕ)) (i : ℕ) {len : ℕ} → i < 64 → len ≡ word_len rest → word ≡ take len rest → step_of word ≡ None →
    option_map (λ ns. numbers ++ ns) (path_up_to (64 - i) rest) ≡ r → None ≡ r
stops rest word numbers r i {len} lt is front e inv = ap (option_map (λ ns. numbers ++ ns)) (sym (at_step i len rest word None lt is front e)) ∙ inv

nothing : (behind : List ℕ) → length behind ≡ 0 → behind ≡ []
nothing [] e = refl
nothing (b ∷ bs) e = absurd (omega arith)

pub ends : (rest word behind numbers new : List ℕ) (n : ℕ) (r : Option (List ℕ)) (i : ℕ) {len : ℕ} → i < 64 → len ≡ word_len rest → word ≡ take len rest → behind ≡ drop len rest → step_of word ≡ Some n →
    new ≡ numbers ++ n ∷ [] → length behind ≡ 0 → option_map (λ ns. numbers ++ ns) (path_up_to (64 - i) rest) ≡ r → Some new ≡ r
ends rest word behind numbers new n r i {len} lt is front back e pushed none inv =
    let here : path_up_to (64 - i) rest ≡ Some (n ∷ []) =
    at_step i len rest word (Some n) lt is front e ∙ ap (λ b. path_with n b (path_up_to (64 - (i + 1)))) (sym back ∙ nothing behind none) in
    ap Some pushed ∙ ap (option_map (λ ns. numbers ++ ns)) (sym here) ∙ inv

regroup : (numbers : List ℕ) (n : ℕ) (o : Option (List ℕ)) → option_map (λ ns. (numbers ++ n ∷ []) ++ ns) o ≡ option_map (λ ns. numbers ++ ns) (option_map (λ ns. n ∷ ns) o)
regroup numbers n None = refl
regroup numbers n (Some ns) = ap Some (append_assoc numbers (n ∷ []) ns)

pub goes : (rest word behind more numbers new : List ℕ) (n dot : ℕ) (r : Option (List ℕ)) (i : ℕ) {len : ℕ} → i < 64 → len ≡ word_len rest → word ≡ take len rest → behind ≡ drop len rest → step_of word ≡ Some n →
    new ≡ numbers ++ n ∷ [] → behind ≡ dot ∷ more → option_map (λ ns. numbers ++ ns) (path_up_to (64 - i) rest) ≡ r → option_map (λ ns. new ++ ns) (path_up_to (64 - (i + 1)) more) ≡ r
goes rest word behind more numbers new n dot r i {len} lt is front back e pushed split inv =
    let here : path_up_to (64 - i) rest ≡ option_map (λ ns. n ∷ ns) (path_up_to (64 - (i + 1)) more) =
    at_step i len rest word (Some n) lt is front e ∙ ap (λ b. path_with n b (path_up_to (64 - (i + 1)))) (sym back ∙ split) in
    rw pushed (regroup numbers n (path_up_to (64 - (i + 1)) more)) ∙ ap (option_map (λ ns. numbers ++ ns)) (sym here) ∙ inv

no_path : (text : List ℕ) → path_up_to 0 text ≡ None
unfolding path_up_to
no_path text = refl

pub too_long : (rest numbers : List ℕ) (r : Option (List ℕ)) (i : ℕ) → 64 ≤ i → option_map (λ ns. numbers ++ ns) (path_up_to (64 - i) rest) ≡ r → None ≡ r
too_long rest numbers r i le inv =
    let none : 64 - i ≡ 0 = omega arith in
    ap (option_map (λ ns. numbers ++ ns)) (sym (ap (λ n. path_up_to n rest) none ∙ no_path rest)) ∙ inv
