-- Outside files that are read in pieces: some file agrees with whatever was told of it.
use Rattle.std.proofs.Common.{◌≡◌, ◌≢◌, ◌++◌, ◌+◌, ◌-◌, ◌==◌, ◌≤◌, ℕ, min, Bool, true, false, List, [], ◌∷◌, length, take, Option, Some, None, refl, sym, ◌∙◌, ap, subst, arith, length-append, append-nil, drop-drop, append_assoc, bytes_eq}
use Rattle.std.specs.Prelude.{drop, nat_lt, if◌then◌else◌}
use Rattle.std.proofs.Math.ListN.{replicate, drop_of_length-le}
use Rattle.std.proofs.Math.Seq.{take-append_seam, drop-append_seam}
use Rattle.std.proofs.lemmas.Bool.Decides.{nat_tests, Decides-eqb}
use Rattle.std.proofs.lemmas.List.{length-replicate, length-drop, length-take, take_all, take_at, take-append-drop}
use Rattle.folder_files.specs.Places.{same_path, same_flag}
use Rattle.folder_files.specs.Steps.{piece_answer, read_file_answer}
use Rattle.folder_files.specs.declared.place.FilePath.{FilePath}
use Rattle.folder_files.proofs.Names.{both, bytes_true, bytes_self}
use Rattle.folder_files.specs.declared.step.Answer.{Answer}
use Rattle.folder_files.specs.declared.step.Answer.TheVariants.{Done, Names, Content, Piece, Long, Gone, Exists, Busy, Grown, Failed}
use Rattle.file_plans.specs.Contents.{filled}
use Rattle.file_plans.specs.Views.{Spied, Hidden, Upto, Spent, spied_by, DropTells, FileTells}

-- a text of this length
abbrev pub padded : ℕ → List ℕ → List ℕ
padded l text = take l (text ++ replicate l 0)

pub padded_length : (l : ℕ) (text : List ℕ) → length (padded l text) ≡ l
padded_length l text = length-take l (text ++ replicate l 0) ∙ (ap (min l) (length-append text (replicate l 0) ∙ ap (λ n. length text + n) (length-replicate l 0)) ∙ grind (arith, nat_tests))

-- the file is that one, as far as it is still to be seen
abbrev pub FileAgrees : Spied → Option (List ℕ) → Option (List ℕ) → Type 0
FileAgrees Hidden o u = o ≡ u
FileAgrees (Upto whole told) o u = (w : List ℕ) × (o ≡ Some w) × (length w ≡ whole) × (drop told w ≡ drop told (padded whole (filled u)))
FileAgrees Spent o u = Unit {0}

abbrev pub IsDropSound : ℕ → ℕ → Answer → Type 0
IsDropSound from most a = (o : Option (List ℕ)) × (a ≢ Failed → a ≡ piece_answer from most o)

pub record DropBack (s : Spied) (from most : ℕ) (a : Answer) (u : Option (List ℕ)) : Type 0 where
  pub now : Option (List ℕ)
  pub tells : (x : Option (List ℕ)) → FileAgrees s x now → DropTells s x from most a
  pub agrees : (x : Option (List ℕ)) → FileAgrees s x now → FileAgrees (spied_by s from a) x u

-- a piece of some file
record IsPieceOf (b : List ℕ) (l from most : ℕ) : Type 0 where
  file : List ℕ
  bytes : b ≡ take most (drop from file)
  whole : l ≡ length file

piece_of : (b : List ℕ) (l from most : ℕ) → IsDropSound from most (Piece b l) → IsPieceOf b l from most
piece_of b l from most (o, s) = go o (s (λ e. cc))
  where
    go : (o : Option (List ℕ)) → Piece b l ≡ piece_answer from most o → IsPieceOf b l from most
    go None e = cc
    go (Some w) e = record { file = w; bytes = cc; whole = cc }

piece_below : (b : List ℕ) (l from most : ℕ) → IsPieceOf b l from most → (length b ≤ most) × (length b ≤ l)
piece_below b l from most p =
    let e : length b ≡ min most (length p.file - from) = ap length p.bytes ∙ (length-take most (drop from p.file) ∙ ap (min most) (length-drop from p.file)) in
    let w = p.whole in
    (grind (arith, nat_tests, e), grind (arith, nat_tests, e, w))

-- the first piece, with more after it up to the whole length
first_text : (b : List ℕ) (l most : ℕ) (pad : List ℕ) → IsPieceOf b l 0 most → length pad ≡ l → (length (b ++ drop (length b) pad) ≡ l) × (take most (b ++ drop (length b) pad) ≡ b)
first_text b l most pad p long = (total, front)
  where
    below : (length b ≤ most) × (length b ≤ l)
    below = piece_below b l 0 most p

    total : length (b ++ drop (length b) pad) ≡ l
    total = let a = below.1 in let k = length-append b (drop (length b) pad) ∙ ap (λ n. length b + n) (length-drop (length b) pad) in omega (arith, a, k, long)

    full : length b ≡ min most l
    full = ap length p.bytes ∙ (length-take most p.file ∙ ap (min most) (sym p.whole))

    front : take most (b ++ drop (length b) pad) ≡ b
    front = go (nat_lt (length b) l) refl
      where
        go : (v : Bool) → nat_lt (length b) l ≡ v → take most (b ++ drop (length b) pad) ≡ b
        go true e = take_at b (drop (length b) pad) most (let f = full in grind (arith, nat_tests, e, f))
        go false e =
            let all : length pad ≤ length b = grind (arith, nat_tests, e, long) in
            let none : drop (length b) pad ≡ [] = drop_of_length-le pad all in
            let short : length (b ++ []) ≤ most = (let k = length-append b [] in let m = below.0 in omega (arith, k, m)) in
            ap (λ t. take most (b ++ t)) none ∙ (take_all most (b ++ []) short ∙ append-nil b)

-- the next piece, between what was told and what is still to be told
next_text : (whole told : ℕ) (part pad : List ℕ) → length part ≤ whole - told → length pad ≡ whole
    → (length (take told pad ++ (part ++ drop (told + length part) pad)) ≡ whole) × (drop told (take told pad ++ (part ++ drop (told + length part) pad)) ≡ part ++ drop (told + length part) pad)
next_text whole told part pad fits long = (total, tail)
  where
    rest : List ℕ
    rest = part ++ drop (told + length part) pad

    front : length (take told pad) ≡ min told whole
    front = length-take told pad ∙ ap (min told) long

    rest_length : length rest ≡ length part + (whole - (told + length part))
    rest_length = length-append part (drop (told + length part) pad) ∙ ap (λ n. length part + n) (length-drop (told + length part) pad ∙ ap (λ n. n - (told + length part)) long)

    total : length (take told pad ++ rest) ≡ whole
    total = let k = length-append (take told pad) rest in let a = front in let b = rest_length in grind (arith, nat_tests, k, a, b, fits)

    tail : drop told (take told pad ++ rest) ≡ rest
    tail = go (nat_lt whole told) refl
      where
        go : (v : Bool) → nat_lt whole told ≡ v → drop told (take told pad ++ rest) ≡ rest
        go true e =
            let none : length rest ≡ 0 = (let b = rest_length in grind (arith, nat_tests, b, e, fits)) in
            let all : length (take told pad ++ rest) ≤ told = (let t = total in grind (arith, nat_tests, t, e)) in
            drop_of_length-le (take told pad ++ rest) all ∙ sym (empty rest none)
          where
            empty : (r : List ℕ) → length r ≡ 0 → r ≡ []
            empty [] e = refl
            empty (b ∷ r) e = absurd (omega (arith, e))
        go false e =
            let at_ : length (take told pad) ≡ told = (let a = front in grind (arith, nat_tests, a, e)) in
            ap (λ n. drop n (take told pad ++ rest)) (sym at_) ∙ drop-append_seam (take told pad) rest

same_back : (s : Spied) (from most : ℕ) (a : Answer) (u : Option (List ℕ)) → spied_by s from a ≡ s → ((x : Option (List ℕ)) → DropTells s x from most a) → DropBack s from most a u
same_back s from most a u same told = record { now = u; tells = λ x g. told x; agrees = λ x g. subst (λ z. FileAgrees z x u) (sym same) g }

not_piece : (a : Answer) → ((b : List ℕ) (l : ℕ) → a ≡ Piece b l → ⊥) → (a ≡ Gone → ⊥) → (x : Option (List ℕ)) (from most : ℕ) → DropTells Hidden x from most a
not_piece a never gone x from most = ((λ b l e z. absurd (never b l e)), λ e. absurd (gone e))

hidden_back : (from most : ℕ) (a : Answer) (u : Option (List ℕ)) → IsDropSound from most a → DropBack Hidden from most a u
hidden_back from most (Piece b l) u s = go (from == 0) refl
  where
    p : IsPieceOf b l from most
    p = piece_of b l from most s

    at_first : from ≡ 0 → (length (b ++ drop (length b) (padded l (filled u))) ≡ l) × (take most (b ++ drop (length b) (padded l (filled u))) ≡ b)
    at_first z = first_text b l most (padded l (filled u)) (subst (λ n. IsPieceOf b l n most) z p) (padded_length l (filled u))

    told : (z : from ≡ 0) → Piece b l ≡ piece_answer from most (Some (b ++ drop (length b) (padded l (filled u))))
    told z = (λ i. Piece (sym (at_first z).1 i) (sym (at_first z).0 i)) ∙ ap (λ n. piece_answer n most (Some (b ++ drop (length b) (padded l (filled u))))) (sym z)

    go : (v : Bool) → (from == 0) ≡ v → DropBack Hidden from most (Piece b l) u
    go true e =
        let z : from ≡ 0 = (Decides-eqb from 0).0 e in
        record {
          now = Some (b ++ drop (length b) (padded l (filled u)));
          tells = λ x g. ((λ c k same zero_. told z ∙ ap (piece_answer from most) (sym g)), λ same. cc);
          agrees = λ x g. subst (λ (v : Bool). FileAgrees (if v then Upto l (length b) else Hidden) x u) (sym e)
              (b ++ drop (length b) (padded l (filled u)), g, (at_first z).0, drop-append_seam b (drop (length b) (padded l (filled u))));
        }
    go false e = record {
      now = u;
      tells = λ x g. ((λ c k same z. absurd (not_zero z)), λ same. cc);
      agrees = λ x g. subst (λ (v : Bool). FileAgrees (if v then Upto l (length b) else Hidden) x u) (sym e) g;
    }
      where
        not_zero : from ≡ 0 → ⊥
        not_zero z = let t : (from == 0) ≡ true = (Decides-eqb from 0).1 z in cc (t, e)
hidden_back from most Gone u s = record { now = None; tells = λ x g. ((λ b l same. cc), λ same. g); agrees = λ x g. tt }
hidden_back from most Done u s = same_back Hidden from most Done u refl (λ x. not_piece Done (λ b l e. cc) (λ e. cc) x from most)
hidden_back from most (Names names) u s = same_back Hidden from most (Names names) u refl (λ x. not_piece (Names names) (λ b l e. cc) (λ e. cc) x from most)
hidden_back from most (Content c) u s = same_back Hidden from most (Content c) u refl (λ x. not_piece (Content c) (λ b l e. cc) (λ e. cc) x from most)
hidden_back from most (Long k) u s = same_back Hidden from most (Long k) u refl (λ x. not_piece (Long k) (λ b l e. cc) (λ e. cc) x from most)
hidden_back from most Exists u s = same_back Hidden from most Exists u refl (λ x. not_piece Exists (λ b l e. cc) (λ e. cc) x from most)
hidden_back from most Busy u s = same_back Hidden from most Busy u refl (λ x. not_piece Busy (λ b l e. cc) (λ e. cc) x from most)
hidden_back from most Grown u s = same_back Hidden from most Grown u refl (λ x. not_piece Grown (λ b l e. cc) (λ e. cc) x from most)
hidden_back from most Failed u s = same_back Hidden from most Failed u refl (λ x. not_piece Failed (λ b l e. cc) (λ e. cc) x from most)

take_short : (n : ℕ) (b : List ℕ) → length (take n b) ≤ n
take_short n b = let e = length-take n b in grind (arith, nat_tests, e)

told_back : (whole told from most : ℕ) (a : Answer) (u : Option (List ℕ)) → DropBack (Upto whole told) from most a u
told_back whole told from most (Piece b l) u = go (from == told) refl
  where
    part : List ℕ
    part = take (whole - told) b

    pad : List ℕ
    pad = padded whole (filled u)

    text : List ℕ
    text = take told pad ++ (part ++ drop (told + length part) pad)

    facts : (length text ≡ whole) × (drop told text ≡ part ++ drop (told + length part) pad)
    facts = next_text whole told part pad (take_short (whole - told) b) (padded_length whole (filled u))

    itself : padded whole text ≡ text
    itself = take_at text (replicate whole 0) whole facts.0

    -- what agrees has this part next, and then what is still to be told
    next_is : (x : Option (List ℕ)) → FileAgrees (Upto whole told) x (Some text) → drop told (filled x) ≡ part ++ drop (told + length part) pad
    next_is x (w, is, long, same) = ap (λ o. drop told (filled o)) is ∙ (same ∙ (ap (drop told) itself ∙ facts.1))

    go : (v : Bool) → (from == told) ≡ v → DropBack (Upto whole told) from most (Piece b l) u
    go true e = record {
      now = Some text;
      tells = λ x g c k same z. tells_ c x g (cc (same));
      agrees = λ x g. subst (λ (v : Bool). FileAgrees (if v then Upto whole (told + length part) else Upto whole told) x u) (sym e) (later x g);
    }
      where
        tells_ : (c : List ℕ) (x : Option (List ℕ)) → FileAgrees (Upto whole told) x (Some text) → b ≡ c → take (length (take (whole - told) c)) (drop told (filled x)) ≡ take (whole - told) c
        tells_ c x g same = subst (λ d. take (length (take (whole - told) d)) (drop told (filled x)) ≡ take (whole - told) d) same (ap (take (length part)) (next_is x g) ∙ take-append_seam part (drop (told + length part) pad))

        later : (x : Option (List ℕ)) → FileAgrees (Upto whole told) x (Some text) → FileAgrees (Upto whole (told + length part)) x u
        later x (w, is, long, same) =
            (w, is, long, sym (drop-drop (length part) told w) ∙ (ap (drop (length part)) (same ∙ (ap (drop told) itself ∙ facts.1)) ∙ drop-append_seam part (drop (told + length part) pad)))
    go false e = record {
      now = u;
      tells = λ x g c k same z. absurd (not_there z);
      agrees = λ x g. subst (λ (v : Bool). FileAgrees (if v then Upto whole (told + length part) else Upto whole told) x u) (sym e) g;
    }
      where
        not_there : from ≡ told → ⊥
        not_there z = let t : (from == told) ≡ true = (Decides-eqb from told).1 z in cc (t, e)
told_back whole told from most Gone u = same_back (Upto whole told) from most Gone u refl (λ x b l same. cc)
told_back whole told from most Done u = same_back (Upto whole told) from most Done u refl (λ x b l same. cc)
told_back whole told from most (Names names) u = same_back (Upto whole told) from most (Names names) u refl (λ x b l same. cc)
told_back whole told from most (Content c) u = same_back (Upto whole told) from most (Content c) u refl (λ x b l same. cc)
told_back whole told from most (Long k) u = same_back (Upto whole told) from most (Long k) u refl (λ x b l same. cc)
told_back whole told from most Exists u = same_back (Upto whole told) from most Exists u refl (λ x b l same. cc)
told_back whole told from most Busy u = same_back (Upto whole told) from most Busy u refl (λ x b l same. cc)
told_back whole told from most Grown u = same_back (Upto whole told) from most Grown u refl (λ x b l same. cc)
told_back whole told from most Failed u = same_back (Upto whole told) from most Failed u refl (λ x b l same. cc)

pub drop_back : (s : Spied) (from most : ℕ) (a : Answer) (u : Option (List ℕ)) → IsDropSound from most a → DropBack s from most a u
drop_back Hidden from most a u sound = hidden_back from most a u sound
drop_back (Upto whole told) from most a u sound = told_back whole told from most a u
drop_back Spent from most a u sound = record { now = u; tells = λ x g. tt; agrees = λ x g. tt }

-- what a file answers it tells
gone_is : (from most : ℕ) (o : Option (List ℕ)) → Gone ≡ piece_answer from most o → o ≡ None
gone_is from most None e = refl
gone_is from most (Some w) e = cc

piece_is : (b : List ℕ) (l from most : ℕ) (o : Option (List ℕ)) → Piece b l ≡ piece_answer from most o → b ≡ take most (drop from (filled o))
piece_is b l from most None e = cc
piece_is b l from most (Some w) e = cc

prefix : (n m : ℕ) (ys : List ℕ) → take (length (take n (take m ys))) ys ≡ take n (take m ys)
prefix n m ys =
    let whole : take n (take m ys) ++ (drop n (take m ys) ++ drop m ys) ≡ ys = sym (append_assoc (take n (take m ys)) (drop n (take m ys)) (drop m ys)) ∙ (ap (λ t. t ++ drop m ys) (take-append-drop n (take m ys)) ∙ take-append-drop m ys) in
    ap (take (length (take n (take m ys)))) (sym whole) ∙ take-append_seam (take n (take m ys)) (drop n (take m ys) ++ drop m ys)

pub drop_tells : (s : Spied) (o : Option (List ℕ)) (from most : ℕ) (a : Answer) → a ≡ piece_answer from most o → DropTells s o from most a
drop_tells Hidden o from most a e = ((λ b l same z. e), λ same. gone_is from most o (sym same ∙ e))
drop_tells (Upto whole told) o from most a e = λ b l same z. by b (piece_is b l from most o (sym same ∙ e) ∙ ap (λ n. take most (drop n (filled o))) z)
  where
    by : (b : List ℕ) → b ≡ take most (drop told (filled o)) → take (length (take (whole - told) b)) (drop told (filled o)) ≡ take (whole - told) b
    by b is = rw is (prefix (whole - told) most (drop told (filled o)))
drop_tells Spent o from most a e = tt

pub file_told : (s : Spied) (x o : Option (List ℕ)) (limit : ℕ) (a : Answer) → FileAgrees s x o → a ≡ read_file_answer limit o → FileTells s x limit a
file_told Hidden x o limit a g e = e ∙ ap (read_file_answer limit) (sym g)
file_told (Upto whole told) x o limit a g e = tt
file_told Spent x o limit a g e = tt

pub file_tells : (s : Spied) (o : Option (List ℕ)) (limit : ℕ) (a : Answer) → a ≡ read_file_answer limit o → FileTells s o limit a
file_tells Hidden o limit a e = e
file_tells (Upto whole told) o limit a e = tt
file_tells Spent o limit a e = tt

-- one path and all others
flag_is : (b c : Bool) → same_flag b c ≡ true → b ≡ c
flag_is true true e = refl
flag_is true false e = cc
flag_is false true e = cc
flag_is false false e = refl

flag_self : (b : Bool) → same_flag b b ≡ true
flag_self true = refl
flag_self false = refl

pub path_self : (path : FilePath) → same_path path path ≡ true
path_self path = rw (flag_self path.home, bytes_self path.text) refl

path_is : (path f : FilePath) → same_path path f ≡ true → path ≡ f
path_is path f e = let z = both (same_flag path.home f.home) (bytes_eq path.text f.text) e in λ i. record { home = flag_is path.home f.home z.0 i; text = bytes_true path.text f.text z.1 i }

pub at_path : (path : FilePath) (P : FilePath → Type 0) → P path → ((f : FilePath) → same_path path f ≡ false → P f) → (f : FilePath) → P f
at_path path P here elsewhere f = go (same_path path f) refl
  where
    go : (v : Bool) → same_path path f ≡ v → P f
    go true e = subst P (path_is path f e) here
    go false e = elsewhere f e
