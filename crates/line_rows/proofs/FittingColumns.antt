-- What fits into columns.
use Rattle.std.proofs.Common.{◌≡◌, take, length, get_or, ◌≤◌, ◌<◌, ◌+◌, ◌-◌, ℕ, Bool, true, false, List, [], ◌∷◌, ◌++◌, refl, sym, ap, ◌∙◌, arith, append_assoc}
use Rattle.std.specs.Prelude.{nat_le, not, replicate, Result, Ok, Err, OnOk}
use Rattle.std.proofs.lemmas.Bool.Decides.{nat_tests}
use Rattle.std.proofs.lemmas.List.{append-nil, take_more, replicate_more}
use Rattle.std.proofs.lemmas.List.Sums.{sum_by-cons, sum_by-append}
use Rattle.line_rows.specs.Columns.{Kept, columns_in, columns_of, empty_line, fit, free, with_more}

le_yes : (a b : ℕ) → a ≤ b → nat_le a b ≡ true
le_yes a b h = grind (arith, nat_tests)

le_no : (a b : ℕ) → b < a → nat_le a b ≡ false
le_no a b h = grind (arith, nat_tests)

pub fit_yes : (c : ℕ) (text : List ℕ) (room : ℕ) → columns_in c ≤ room → fit room (c ∷ text) ≡ c ∷ fit (room - columns_in c) text
unfolding fit
fit_yes c text room h = rw (le_yes (columns_in c) room h) refl

pub fit_no : (c : ℕ) (text : List ℕ) (room : ℕ) → room < columns_in c → fit room (c ∷ text) ≡ []
unfolding fit
fit_no c text room h = rw (le_no (columns_in c) room h) refl

pub fit_none : (room : ℕ) → fit room [] ≡ []
unfolding fit
fit_none room = refl

pub columns_cons : (c : ℕ) (text : List ℕ) → columns_of (c ∷ text) ≡ columns_in c + columns_of text
columns_cons c text = sum_by-cons columns_in c text

pub columns_append : (a b : List ℕ) → columns_of (a ++ b) ≡ columns_of a + columns_of b
columns_append a b = sum_by-append columns_in a b

pub columns_one : (c : ℕ) → columns_of (c ∷ []) ≡ columns_in c
columns_one c = columns_cons c [] ∙ omega arith

-- behind a text that fits the room goes on
fit_behind : (a b : List ℕ) (room : ℕ) → columns_of a ≤ room → fit room (a ++ b) ≡ a ++ fit (room - columns_of a) b
fit_behind [] b room h = ap (λ r. fit r b) (omega arith)
fit_behind (c ∷ a) b room h =
    let parts = columns_cons c a in
    let first : columns_in c ≤ room = omega arith in
    let rest : columns_of a ≤ room - columns_in c = omega arith in
    let same : (room - columns_in c) - columns_of a ≡ room - columns_of (c ∷ a) = omega arith in
    fit_yes c (a ++ b) room first ∙ ap (λ t. c ∷ t) (fit_behind a b (room - columns_in c) rest ∙ ap (λ r. a ++ fit r b) same)

pub fit_all : (a : List ℕ) (room : ℕ) → columns_of a ≤ room → fit room a ≡ a
fit_all a room h = ap (fit room) (sym (append-nil a)) ∙ fit_behind a [] room h ∙ ap (λ t. a ++ t) (fit_none (room - columns_of a)) ∙ append-nil a

fit_beyond_by : (t : Bool) (c : ℕ) (a b : List ℕ) (room : ℕ) → nat_le (columns_in c) room ≡ t
    → (columns_in c ≤ room → fit (room - columns_in c) (a ++ b) ≡ fit (room - columns_in c) a) → fit room (c ∷ (a ++ b)) ≡ fit room (c ∷ a)
fit_beyond_by true c a b room e more =
    let h : columns_in c ≤ room = grind (arith, nat_tests) in
    fit_yes c (a ++ b) room h ∙ ap (λ t. c ∷ t) (more h) ∙ sym (fit_yes c a room h)
fit_beyond_by false c a b room e more =
    let h : room < columns_in c = grind (arith, nat_tests) in
    fit_no c (a ++ b) room h ∙ sym (fit_no c a room h)

-- behind a text that doesn't fit nothing does
fit_beyond : (a b : List ℕ) (room : ℕ) → room < columns_of a → fit room (a ++ b) ≡ fit room a
fit_beyond [] b room h = absurd (omega arith)
fit_beyond (c ∷ a) b room h =
    let parts = columns_cons c a in
    fit_beyond_by (nat_le (columns_in c) room) c a b room refl (λ first. let rest : room - columns_in c < columns_of a = omega arith in fit_beyond a b (room - columns_in c) rest)

fit_within_by : (t : Bool) (c : ℕ) (a : List ℕ) (room : ℕ) → nat_le (columns_in c) room ≡ t
    → (columns_of (fit (room - columns_in c) a) ≤ room - columns_in c) → columns_of (fit room (c ∷ a)) ≤ room
fit_within_by true c a room e more =
    let h : columns_in c ≤ room = grind (arith, nat_tests) in
    rw (fit_yes c a room h) (let parts = columns_cons c (fit (room - columns_in c) a) in omega arith)
fit_within_by false c a room e more =
    let h : room < columns_in c = grind (arith, nat_tests) in
    rw (fit_no c a room h) (omega arith)

-- what fits is within the room
pub fit_within : (a : List ℕ) (room : ℕ) → columns_of (fit room a) ≤ room
fit_within [] room = rw (fit_none room) (omega arith)
fit_within (c ∷ a) room = fit_within_by (nat_le (columns_in c) room) c a room refl (fit_within a (room - columns_in c))

abbrev pub line_at : List ℕ → ℕ → Bool → Kept
line_at cs w closed = record { characters = cs; width = w; closed = closed }

opened : (cs : List ℕ) (w : ℕ) (more : List ℕ) → with_more (line_at cs w false) more ≡ line_at (cs ++ fit (w - columns_of cs) more) w (not (nat_le (columns_of more) (w - columns_of cs)))
unfolding with_more
opened cs w more = refl

shut : (cs : List ℕ) (w : ℕ) (more : List ℕ) → with_more (line_at cs w true) more ≡ line_at cs w true
unfolding with_more
shut cs w more = refl

-- text that fits
held : (cs : List ℕ) (w : ℕ) (more : List ℕ) → columns_of more ≤ w - columns_of cs → with_more (line_at cs w false) more ≡ line_at (cs ++ more) w false
held cs w more h = opened cs w more ∙ rw (fit_all more (w - columns_of cs) h, le_yes (columns_of more) (w - columns_of cs) h) refl

-- text that doesn't
cut : (cs : List ℕ) (w : ℕ) (more : List ℕ) → w - columns_of cs < columns_of more → with_more (line_at cs w false) more ≡ line_at (cs ++ fit (w - columns_of cs) more) w true
cut cs w more h = opened cs w more ∙ rw (le_no (columns_of more) (w - columns_of cs) h) refl

pub put_shut : (line : Kept) (more : List ℕ) → line.closed ≡ true → with_more line more ≡ line
unfolding with_more
put_shut line more e = rw e refl

pub put_held : (line : Kept) (c : ℕ) → line.closed ≡ false → columns_in c ≤ line.width - columns_of line.characters
    → with_more line (c ∷ []) ≡ record { characters = line.characters ++ c ∷ []; width = line.width; closed = false }
put_held line c e h =
    let one = columns_one c in
    ap (λ b. with_more (line_at line.characters line.width b) (c ∷ [])) e ∙ held line.characters line.width (c ∷ []) (omega arith)

pub put_cut : (line : Kept) (c : ℕ) → line.closed ≡ false → line.width - columns_of line.characters < columns_in c
    → with_more line (c ∷ []) ≡ record { characters = line.characters; width = line.width; closed = true }
put_cut line c e h =
    let one = columns_one c in
    ap (λ b. with_more (line_at line.characters line.width b) (c ∷ [])) e ∙ cut line.characters line.width (c ∷ []) (omega arith)
    ∙ rw (fit_no c [] (line.width - columns_of line.characters) h, append-nil line.characters) refl

more_none_by : (cs : List ℕ) (w : ℕ) (closed : Bool) → with_more (line_at cs w closed) [] ≡ line_at cs w closed
more_none_by cs w true = shut cs w []
more_none_by cs w false = held cs w [] (omega arith) ∙ ap (λ t. line_at t w false) (append-nil cs)

-- nothing more
pub more_none : (line : Kept) → with_more line [] ≡ line
more_none line = more_none_by line.characters line.width line.closed

moved : (x y room : ℕ) → x ≤ room → nat_le (x + y) room ≡ nat_le y (room - x)
moved x y room h = grind (arith, nat_tests)

both_open : (t : Bool) (cs : List ℕ) (w : ℕ) (a b : List ℕ) → nat_le (columns_of a) (w - columns_of cs) ≡ t
    → with_more (with_more (line_at cs w false) a) b ≡ with_more (line_at cs w false) (a ++ b)
both_open true cs w a b e =
    let fits : columns_of a ≤ w - columns_of cs = grind (arith, nat_tests) in
    let all = columns_append cs a in
    let both = columns_append a b in
    let same : w - columns_of (cs ++ a) ≡ (w - columns_of cs) - columns_of a = omega arith in
    let line : (cs ++ a) ++ fit (w - columns_of (cs ++ a)) b ≡ cs ++ fit (w - columns_of cs) (a ++ b) =
    append_assoc cs a _ ∙ ap (λ r. cs ++ (a ++ fit r b)) same ∙ ap (λ t. cs ++ t) (sym (fit_behind a b (w - columns_of cs) fits)) in
    let test : nat_le (columns_of b) (w - columns_of (cs ++ a)) ≡ nat_le (columns_of (a ++ b)) (w - columns_of cs) =
    ap (nat_le (columns_of b)) same ∙ sym (moved (columns_of a) (columns_of b) (w - columns_of cs) fits) ∙ ap (λ n. nat_le n (w - columns_of cs)) (sym both) in
    ap (λ l. with_more l b) (held cs w a fits) ∙ opened (cs ++ a) w b
    ∙ ap (λ t. line_at t w (not (nat_le (columns_of b) (w - columns_of (cs ++ a))))) line
    ∙ ap (λ t. line_at (cs ++ fit (w - columns_of cs) (a ++ b)) w (not t)) test ∙ sym (opened cs w (a ++ b))
both_open false cs w a b e =
    let beyond : w - columns_of cs < columns_of a = grind (arith, nat_tests) in
    let both = columns_append a b in
    let more : w - columns_of cs < columns_of (a ++ b) = omega arith in
    ap (λ l. with_more l b) (cut cs w a beyond) ∙ shut (cs ++ fit (w - columns_of cs) a) w b
    ∙ sym (cut cs w (a ++ b) more ∙ rw (fit_beyond a b (w - columns_of cs) beyond) refl)

both_by : (cs : List ℕ) (w : ℕ) (closed : Bool) (a b : List ℕ) → with_more (with_more (line_at cs w closed) a) b ≡ with_more (line_at cs w closed) (a ++ b)
both_by cs w true a b = ap (λ l. with_more l b) (shut cs w a) ∙ shut cs w b ∙ sym (shut cs w (a ++ b))
both_by cs w false a b = both_open (nat_le (columns_of a) (w - columns_of cs)) cs w a b refl

-- one text and then another are both at once
pub more_both : (line : Kept) (a b : List ℕ) → with_more (with_more line a) b ≡ with_more line (a ++ b)
more_both line a b = both_by line.characters line.width line.closed a b

-- a character that fits is added
pub character_held : (line : Kept) (text new : List ℕ) (width columns taken c : ℕ) (closed : Bool)
    → line_at text width closed ≡ line → columns ≡ columns_of text → closed ≡ false → taken ≡ columns_in c → taken ≤ width - columns
    → new ≡ text ++ c ∷ [] → line_at new width closed ≡ with_more line (c ∷ [])
character_held line text new width columns taken c closed is count open_one own fits more =
    ap (λ t. line_at t width closed) more ∙ ap (λ b. line_at (text ++ c ∷ []) width b) open_one
    ∙ sym (put_held (line_at text width closed) c open_one (omega arith))
    ∙ ap (λ l. with_more l (c ∷ [])) is

-- where there is no room, the line is closed
pub character_cut : (line : Kept) (text : List ℕ) (width columns taken c : ℕ) (closed : Bool)
    → line_at text width closed ≡ line → columns ≡ columns_of text → closed ≡ false → taken ≡ columns_in c → width - columns < taken
    → line_at text width true ≡ with_more line (c ∷ [])
character_cut line text width columns taken c closed is count open_one own fits =
    sym (put_cut (line_at text width closed) c open_one (omega arith)) ∙ ap (λ l. with_more l (c ∷ [])) is

-- one item more of a list
pub item_more : (start line new : Kept) (items : List ℕ) (i c : ℕ) → i < length items → c ≡ get_or items i 0
    → line ≡ with_more start (take i items) → new ≡ with_more line (c ∷ []) → new ≡ with_more start (take (i + 1) items)
item_more start line new items i c h e was is =
    is ∙ ap (λ l. with_more l (c ∷ [])) was ∙ more_both start (take i items) (c ∷ [])
    ∙ ap (with_more start) (ap (λ x. take i items ++ x ∷ []) e ∙ sym (take_more items i 0 h))

-- one character more behind others
pub character_more : (start line new : Kept) (before : List ℕ) (c : ℕ)
    → line ≡ with_more start before → new ≡ with_more line (c ∷ []) → new ≡ with_more start (before ++ c ∷ [])
character_more start line new before c was is = is ∙ ap (λ l. with_more l (c ∷ [])) was ∙ more_both start before (c ∷ [])

-- one copy more
pub copy_more : (start line new : Kept) (i c : ℕ)
    → line ≡ with_more start (replicate i c) → new ≡ with_more line (c ∷ []) → new ≡ with_more start (replicate (i + 1) c)
copy_more start line new i c was is = character_more start line new (replicate i c) c was is ∙ ap (with_more start) (replicate_more i c)

-- two texts, one behind the other
pub two_more : (start middle end : Kept) (a b : List ℕ) → middle ≡ with_more start a → end ≡ with_more middle b → end ≡ with_more start (a ++ b)
two_more start middle end a b first second = second ∙ ap (λ l. with_more l b) first ∙ more_both start a b

-- three texts, one behind the other
pub three_more : (start first second end : Kept) (a b c whole : List ℕ) → first ≡ with_more start a → second ≡ with_more first b → end ≡ with_more second c
    → a ++ (b ++ c) ≡ whole → end ≡ with_more start whole
three_more start first second end a b c whole one two three is =
    two_more start first end a (b ++ c) one (two_more first second end b c two three) ∙ ap (with_more start) is

pub on_ok : {T E : Type 0} (r : Result T E) (P Q : Type 0) → (P → Q) → OnOk r P → OnOk r Q
on_ok (Ok x) P Q f h = f h
on_ok (Err e) P Q f h = tt

-- a line of its own holds what fits into its width
pub field_held : (w : ℕ) (text : List ℕ) (field : Kept) → field ≡ with_more (empty_line w) text → field.characters ≡ fit w text
field_held w text field is =
    ap (λ (l : Kept). l.characters) (is ∙ opened [] w text) ∙ ap (λ n. fit n text) (omega arith)

pub field_wide : (w : ℕ) (text : List ℕ) (field : Kept) → field ≡ with_more (empty_line w) text → field.width ≡ w
field_wide w text field is = ap (λ (l : Kept). l.width) (is ∙ opened [] w text)

pub two_more_as : (start middle end : Kept) (a b whole : List ℕ) → middle ≡ with_more start a → end ≡ with_more middle b → a ++ b ≡ whole → end ≡ with_more start whole
two_more_as start middle end a b whole first second is = two_more start middle end a b first second ∙ ap (with_more start) is

wide_by : (cs : List ℕ) (w : ℕ) (closed : Bool) (more : List ℕ) → (with_more (line_at cs w closed) more).width ≡ w
wide_by cs w true more = ap (λ (l : Kept). l.width) (shut cs w more)
wide_by cs w false more = ap (λ (l : Kept). l.width) (opened cs w more)

-- a line keeps its width
pub as_wide : (line : Kept) (more : List ℕ) → (with_more line more).width ≡ line.width
as_wide line more = wide_by line.characters line.width line.closed more

row_free_by : (t : Bool) (w : ℕ) (written : List ℕ) → nat_le (columns_of written) (w - columns_of []) ≡ t
    → free (with_more (empty_line w) written) ≡ w - columns_of written
row_free_by true w written e =
    let fits : columns_of written ≤ w - columns_of [] = grind (arith, nat_tests) in
    ap free (held [] w written fits)
row_free_by false w written e =
    let beyond : w - columns_of [] < columns_of written = grind (arith, nat_tests) in
    ap free (cut [] w written beyond) ∙ omega arith

-- of a line on which this was written
pub row_free : (w : ℕ) (written : List ℕ) → free (with_more (empty_line w) written) ≡ w - columns_of written
row_free w written = row_free_by (nat_le (columns_of written) (w - columns_of [])) w written refl

-- a closed line takes nothing of what stands behind
pub closed_more : (start line : Kept) (before behind whole : List ℕ) → line ≡ with_more start before → line.closed ≡ true → before ++ behind ≡ whole → line ≡ with_more start whole
closed_more start line before behind whole was shut_one is =
    sym (put_shut line behind shut_one) ∙ ap (λ l. with_more l behind) was ∙ more_both start before behind ∙ ap (with_more start) is
