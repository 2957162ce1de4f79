-- Lines, one behind the other.
use Rattle.std.proofs.Common.{◌≡◌, ℕ, ◌+◌, ◌<◌, ◌≤◌, Bool, true, false, List, [], ◌∷◌, ◌++◌, length, take, drop, map, refl, sym, ◌∙◌, ap, arith, append_assoc, append-nil, length-drop}
use Rattle.std.specs.Prelude.{◌||◌, Result, Ok, Err, OnOk}
use Rattle.mime_tree.specs.BoundaryLines.{lines, line_len}
use Rattle.mime_tree.proofs.Lining.{line_some, lines_step, no_lines}
use Rattle.mh_drafts.specs.declared.directive.Directive.{Directive}
use Rattle.mh_drafts.specs.declared.directive.Directive.TheVariants.{Begin, End, Part, Wrong}
use Rattle.mh_drafts.specs.declared.gathering.Gathering.{Gathering}
use Rattle.mh_drafts.specs.declared.item.Item.{Item}
use Rattle.mh_drafts.specs.declared.sign.Sign.{Sign}
use Rattle.mh_drafts.specs.declared.want.Want.{Want}
use Rattle.mh_drafts.specs.Gatherings.{completed}
use Rattle.mh_drafts.specs.Items.{Gathered, Whole, all_of, directed, gathered, item_before, prepended, texted, want_before, wants_of, whole_of}
use Rattle.mh_drafts.specs.Marks.{Mark, plain, order, mark_of, marks_from, open_after, placed, is_said}
use Rattle.mh_drafts.specs.Signs.{directive_sign, sign_of, text_sign}

-- what is gathered from parts that are known
abbrev whole_by : List Item → List ℕ → Bool → List Want → List Sign → List Mark → Whole
whole_by items said_text said wants signs marks = record {
  items = items ++ all_of (prepended said_text said (gathered marks));
  wants = wants ++ wants_of marks;
  signs = signs ++ map sign_of marks;
}

completed_is : (g : Gathering) (marks : List Mark) → completed g marks ≡ whole_by g.items g.text g.said g.wants g.signs marks
unfolding completed
completed_is g marks = refl

whole_is : (items : List Item) (t : List ℕ) (said : Bool) (wants : List Want) (signs : List Sign) (marks : List Mark) → items ≡ [] → t ≡ [] → said ≡ false → wants ≡ [] → signs ≡ [] → whole_by items t said wants signs marks ≡ whole_of marks
whole_is items t said wants signs marks i e s w g = rw (i, e, s, w, g) refl

pub starts : (g : Gathering) (marks : List Mark) → g.items ≡ [] → g.text ≡ [] → g.said ≡ false → g.wants ≡ [] → g.signs ≡ [] → completed g marks ≡ whole_of marks
starts g marks i e s w f = completed_is g marks ∙ whole_is g.items g.text g.said g.wants g.signs marks i e s w f

one_text : (line : List ℕ) (marks : List Mark) → gathered (plain line ∷ marks) ≡ prepended line (is_said line) (gathered marks)
unfolding gathered
one_text line marks = refl

one_order : (d : Directive) (marks : List Mark) → gathered (order d ∷ marks) ≡ directed d (all_of (gathered marks))
unfolding gathered
one_order d marks = refl

text_wants : (line : List ℕ) (marks : List Mark) → wants_of (plain line ∷ marks) ≡ wants_of marks
unfolding wants_of
text_wants line marks = refl

order_wants : (d : Directive) (marks : List Mark) → wants_of (order d ∷ marks) ≡ want_before d (wants_of marks)
unfolding wants_of
order_wants d marks = refl

pub or_assoc : (a b c : Bool) → (a || b) || c ≡ a || (b || c)
or_assoc true b c = refl
or_assoc false b c = refl

both_texts : (t line : List ℕ) (said s : Bool) (g : Gathered) → prepended (t ++ line) (said || s) g ≡ prepended t said (prepended line s g)
both_texts t line said s g = λ i. record { text = append_assoc t line g.text i; said = or_assoc said s g.said i; items = g.items }

pub text_more : (old new : Gathering) (line : List ℕ) (marks : List Mark) → new.items ≡ old.items → new.text ≡ old.text ++ line → new.said ≡ (old.said || is_said line) → new.wants ≡ old.wants
    → new.signs ≡ old.signs ++ sign_of (plain line) ∷ [] → completed new marks ≡ completed old (plain line ∷ marks)
text_more old new line marks i t s w g =
    completed_is new marks
    ∙ rw (i, t, s, w, g) (λ k. record {
      items = old.items ++ all_of ((both_texts old.text line old.said (is_said line) (gathered marks) ∙ ap (prepended old.text old.said) (sym (one_text line marks))) k);
      wants = old.wants ++ sym (text_wants line marks) k;
      signs = append_assoc old.signs (sign_of (plain line) ∷ []) (map sign_of marks) k;
    })
    ∙ sym (completed_is old (plain line ∷ marks))

-- the same of the code's answer
pub told_text : {E : Type 0} (old new : Gathering) (line : List ℕ) (said : Bool) (s : Sign) (r : Result (Unit {0}) E) → said ≡ is_said line → new.items ≡ old.items → new.text ≡ old.text ++ line → new.said ≡ (old.said || said)
    → new.wants ≡ old.wants → s ≡ text_sign said → OnOk r (new.signs ≡ old.signs ++ s ∷ []) → OnOk r ((marks : List Mark) → completed new marks ≡ completed old (plain line ∷ marks))
told_text old new line said s (Err e) is i t both w sign g = tt
told_text old new line said s (Ok u) is i t both w sign g = λ marks.
    text_more old new line marks i t (both ∙ ap (λ b. old.said || b) is) w (g ∙ ap (λ x. old.signs ++ x ∷ []) (sign ∙ ap text_sign is))

item_first : (d : Directive) (items : List Item) → item_before d [] ++ items ≡ item_before d items
item_first (Begin kind) items = refl
item_first End items = refl
item_first (Part leaf want) items = refl
item_first Wrong items = refl

want_first : (d : Directive) (wants : List Want) → want_before d [] ++ wants ≡ want_before d wants
want_first (Begin kind) wants = refl
want_first End wants = refl
want_first (Part leaf want) wants = refl
want_first Wrong wants = refl

text_first : (t : List ℕ) (said : Bool) (items : List Item) → texted t said [] ++ items ≡ texted t said items
text_first t true items = refl
text_first t false items = refl

no_text : (t : List ℕ) (said : Bool) → texted (t ++ []) (said || false) ≡ texted t said
no_text t true = ap (λ l. texted l true) (append-nil t)
no_text t false = refl

items_joined : (items : List Item) (t : List ℕ) (said : Bool) (d : Directive) (more : List Item)
    → (((items ++ texted t said []) ++ item_before d []) ++ more) ≡ items ++ texted t said (item_before d more)
items_joined items t said d more =
    append_assoc (items ++ texted t said []) (item_before d []) more ∙ ap (λ l. (items ++ texted t said []) ++ l) (item_first d more)
    ∙ append_assoc items (texted t said []) (item_before d more) ∙ ap (λ l. items ++ l) (text_first t said (item_before d more))

bare_order : (t : List ℕ) (said : Bool) (d : Directive) (items : List Item) → texted t said (item_before d items) ≡ all_of (prepended t said (directed d items))
bare_order t said d items = λ i. sym (no_text t said) i (item_before d items)

pub order_more : (old ended new : Gathering) (d : Directive) (marks : List Mark) → ended.items ≡ old.items ++ texted old.text old.said [] → new.items ≡ ended.items ++ item_before d [] → new.text ≡ [] → new.said ≡ false
    → new.wants ≡ old.wants ++ want_before d [] → new.signs ≡ old.signs ++ directive_sign d ∷ [] → completed new marks ≡ completed old (order d ∷ marks)
order_more old ended new d marks e i t s w g =
    let items : new.items ++ all_of (gathered marks) ≡ old.items ++ all_of (prepended old.text old.said (gathered (order d ∷ marks))) =
    ap (λ l. l ++ all_of (gathered marks)) (i ∙ ap (λ l. l ++ item_before d []) e) ∙ items_joined old.items old.text old.said d (all_of (gathered marks))
    ∙ ap (λ l. old.items ++ l) (bare_order old.text old.said d (all_of (gathered marks)) ∙ ap (λ m. all_of (prepended old.text old.said m)) (sym (one_order d marks))) in
    let wants : new.wants ++ wants_of marks ≡ old.wants ++ wants_of (order d ∷ marks) =
    ap (λ l. l ++ wants_of marks) w ∙ append_assoc old.wants (want_before d []) (wants_of marks) ∙ ap (λ l. old.wants ++ l) (want_first d (wants_of marks) ∙ sym (order_wants d marks)) in
    let signs : new.signs ++ map sign_of marks ≡ old.signs ++ map sign_of (order d ∷ marks) =
    ap (λ l. l ++ map sign_of marks) g ∙ append_assoc old.signs (directive_sign d ∷ []) (map sign_of marks) in
    completed_is new marks
    ∙ ap (λ x. record { items = new.items ++ all_of (prepended x new.said (gathered marks)); wants = new.wants ++ wants_of marks; signs = new.signs ++ map sign_of marks }) t
    ∙ ap (λ x. record { items = new.items ++ all_of (prepended [] x (gathered marks)); wants = new.wants ++ wants_of marks; signs = new.signs ++ map sign_of marks }) s
    ∙ (λ k. record { items = items k; wants = wants k; signs = signs k })
    ∙ sym (completed_is old (order d ∷ marks))

-- the same of the code's answer
pub told_order : {E : Type 0} (old ended new : Gathering) (d : Directive) (s : Sign) (signs : List Sign) (r : Result (Unit {0}) E) → ended.items ≡ old.items ++ texted old.text old.said [] → ended.text ≡ [] → ended.said ≡ false
    → ended.wants ≡ old.wants → ended.signs ≡ old.signs → s ≡ directive_sign d → signs ≡ ended.signs ++ s ∷ [] → OnOk r (new.items ≡ ended.items ++ item_before d []) → OnOk r (new.text ≡ ended.text) → OnOk r (new.said ≡ ended.said)
    → OnOk r (new.wants ≡ ended.wants ++ want_before d []) → OnOk r (new.signs ≡ signs) → OnOk r ((marks : List Mark) → completed new marks ≡ completed old (order d ∷ marks))
told_order old ended new d s signs (Err e) a b c f g h k i t u w x = tt
told_order old ended new d s signs (Ok v) a b c f g h k i t u w x = λ marks.
    order_more old ended new d marks a i (t ∙ b) (u ∙ c) (w ∙ ap (λ l. l ++ want_before d []) f) (x ∙ k ∙ (λ j. g j ++ h j ∷ []))

-- a line is some bytes
pub behind_less : (rest behind : List ℕ) (len : ℕ) → 0 < length rest → len ≡ line_len rest → behind ≡ drop len rest → length behind < length rest
behind_less rest behind len some is back = let le = line_some rest some in rw back (omega (arith, length-drop len rest))

deeper : (depth : ℕ) (m : Mark) → open_after depth m ≤ depth + 1
deeper depth (plain line) = omega arith
deeper depth (order (Begin kind)) = omega arith
deeper depth (order End) = omega arith
deeper depth (order (Part leaf want)) = omega arith
deeper depth (order Wrong) = omega arith

pub no_deeper : (depth after : ℕ) (line : List ℕ) → after ≡ open_after depth (placed depth (mark_of line)) → after ≤ depth + 1
no_deeper depth after line e = rw e (deeper depth (placed depth (mark_of line)))

one_mark : (depth : ℕ) (line : List ℕ) (more : List (List ℕ)) → marks_from depth (line ∷ more) ≡ placed depth (mark_of line) ∷ marks_from (open_after depth (placed depth (mark_of line))) more
unfolding marks_from
one_mark depth line more = refl

no_marks : (depth : ℕ) → marks_from depth [] ≡ []
unfolding marks_from
no_marks depth = refl

-- a line of a text more
pub line_more : (old new : Gathering) (rest line behind : List ℕ) (depth after : ℕ) (all : Whole) (len : ℕ) → 0 < length rest → len ≡ line_len rest → line ≡ take len rest → behind ≡ drop len rest
    → ((marks : List Mark) → completed new marks ≡ completed old (placed depth (mark_of line) ∷ marks)) → after ≡ open_after depth (placed depth (mark_of line))
    → completed old (marks_from depth (lines rest)) ≡ all → completed new (marks_from after (lines behind)) ≡ all
line_more old new rest line behind depth after all len some is front back step on inv =
    let cut : lines rest ≡ line ∷ lines behind = lines_step rest some ∙ (λ i. take (sym is i) rest ∷ lines (drop (sym is i) rest)) ∙ (λ i. sym front i ∷ lines (sym back i)) in
    step (marks_from after (lines behind))
    ∙ ap (λ n. completed old (placed depth (mark_of line) ∷ marks_from n (lines behind))) on
    ∙ ap (completed old) (sym (ap (marks_from depth) cut ∙ one_mark depth line (lines behind)))
    ∙ inv

last : (t : List ℕ) (said : Bool) → texted t said [] ≡ all_of (prepended t said (gathered []))
unfolding gathered
last t said = λ k. sym (no_text t said) k []

unwanted : (items : List Item) (t : List ℕ) (said : Bool) (wants : List Want) (signs : List Sign)
    → record { items = items ++ all_of (prepended t said (gathered [])); wants = wants ++ []; signs = signs ++ [] } ≡ whole_by items t said wants signs []
unfolding wants_of
unwanted items t said wants signs = refl

-- all lines have been passed
pub lines_end : (old new : Gathering) (rest : List ℕ) (depth : ℕ) (all : Whole) → rest ≡ [] → new.items ≡ old.items ++ texted old.text old.said [] → new.wants ≡ old.wants → new.signs ≡ old.signs
    → completed old (marks_from depth (lines rest)) ≡ all → record { items = new.items; wants = new.wants; signs = new.signs } ≡ all
lines_end old new rest depth all none i w s inv =
    let over : marks_from depth (lines rest) ≡ [] = ap (λ r. marks_from depth (lines r)) none ∙ ap (marks_from depth) no_lines ∙ no_marks depth in
    let ended : whole_by old.items old.text old.said old.wants old.signs [] ≡ all = sym (ap (completed old) over ∙ completed_is old []) ∙ inv in
    let items : new.items ≡ old.items ++ all_of (prepended old.text old.said (gathered [])) = i ∙ ap (λ l. old.items ++ l) (last old.text old.said) in
    (λ k. record { items = items k; wants = (w ∙ sym (append-nil old.wants)) k; signs = (s ∙ sym (append-nil old.signs)) k }) ∙ unwanted old.items old.text old.said old.wants old.signs ∙ ended
