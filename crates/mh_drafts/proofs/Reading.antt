-- The parts of a draft.
use Rattle.std.proofs.Common.{◌≡◌, ℕ, zero, suc, ◌+◌, ◌-◌, ◌<◌, ◌≤◌, Bool, true, false, Option, Some, None, List, [], ◌∷◌, ◌++◌, length, map, refl, sym, ◌∙◌, ap, arith, append_assoc, subst}
use Rattle.std.specs.Prelude.{◌==◌, ◌||◌, nat_le, option_map, if◌then◌else◌}
use Rattle.std.proofs.lemmas.Bool.Decides.{nat_tests}
use Rattle.mime_tree.specs.BoundaryLines.{lines}
use Rattle.mh_drafts.specs.declared.directive.Directive.{Directive}
use Rattle.mh_drafts.specs.declared.directive.Directive.TheVariants.{Begin, End, Part, Wrong}
use Rattle.mh_drafts.specs.declared.item.Item.{Item}
use Rattle.mh_drafts.specs.declared.item.Item.TheVariants.{Leaf as leaf_item, Begin as begin_item, End as end_item}
use Rattle.mh_drafts.specs.declared.item.Leaf.TheVariants.{Text as text_leaf}
use Rattle.mh_drafts.specs.declared.sign.Sign.{Sign}
use Rattle.mh_drafts.specs.declared.sign.Sign.TheVariants.{Nothing, Part as part, Begin as begins, End as ends, Wrong as wrong}
use Rattle.mh_drafts.specs.Drafts.{Parts, none, leaf, multipart, written, AreSome, AreSound}
use Rattle.mh_drafts.specs.Items.{Gathered, all_of, directed, gathered, prepended, texted, items_of}
use Rattle.mh_drafts.specs.Marks.{Mark, plain, order, mark_of, marks_from, marks_in, open_after, open_behind, placed, settled, is_said}
use Rattle.mh_drafts.specs.Outcomes.{HasParts}
use Rattle.mh_drafts.proofs.Alone.{one_tree}
use Rattle.mh_drafts.specs.Signs.{directive_sign, sign_of, ends_in, is_bare, is_wrong, first_wrong}

-- parts of open multiparts, the innermost first, with the ends between them
spread : Parts → List Parts → List Item
spread t [] = written t
spread t (u ∷ us) = written t ++ end_item ∷ spread u us

SoundOut : ℕ → Parts → List Parts → Type 0
SoundOut depth t [] = AreSound (32 - depth) t
SoundOut depth t (u ∷ us) = AreSound (32 - depth) t × SoundOut (depth - 1) u us

abbrev with_text : List ℕ → Bool → Parts → Parts
with_text line said t = if said then leaf (text_leaf line) t else t

-- what stands behind a line: the parts of each multipart that is open there
record Stacked (depth : ℕ) (signs : List Sign) (g : Gathered) : Type 0 where
  pub parts : Parts
  pub outer : List Parts
  pub items_are : g.items ≡ spread parts outer
  pub ends_are : length outer ≡ ends_in signs
  pub within : ends_in signs ≤ depth
  pub sound : SoundOut depth parts outer
  pub some : is_bare signs ≡ false → AreSome (with_text g.text g.said parts)

written_leaf : (l : _) (t : Parts) → written (leaf l t) ≡ leaf_item l ∷ written t
unfolding written
written_leaf l t = refl

written_none : written none ≡ []
unfolding written
written_none = refl

written_multipart : (kind : _) (t u : Parts) → written (multipart kind t u) ≡ begin_item kind ∷ (written t ++ end_item ∷ written u)
unfolding written
written_multipart kind t u = refl

spread_leaf : (l : _) (t : Parts) (us : List Parts) → spread (leaf l t) us ≡ leaf_item l ∷ spread t us
unfolding spread
spread_leaf l t [] = written_leaf l t
spread_leaf l t (u ∷ us) = ap (λ w. w ++ end_item ∷ spread u us) (written_leaf l t)

spread_end : (t : Parts) (us : List Parts) → spread none (t ∷ us) ≡ end_item ∷ spread t us
unfolding spread
spread_end t us = ap (λ w. w ++ end_item ∷ spread t us) written_none

spread_multipart : (kind : _) (t u : Parts) (us : List Parts) → spread (multipart kind t u) us ≡ begin_item kind ∷ spread t (u ∷ us)
unfolding spread
spread_multipart kind t u [] = written_multipart kind t u
spread_multipart kind t u (v ∷ us) =
    ap (λ w. w ++ end_item ∷ spread v us) (written_multipart kind t u)
    ∙ ap (λ w. begin_item kind ∷ w) (append_assoc (written t) (end_item ∷ written u) (end_item ∷ spread v us))

spread_text : (line : List ℕ) (said : Bool) (t : Parts) (us : List Parts) (items : List Item) → items ≡ spread t us → texted line said items ≡ spread (with_text line said t) us
spread_text line true t us items e = ap (λ w. leaf_item (text_leaf line) ∷ w) e ∙ sym (spread_leaf (text_leaf line) t us)
spread_text line false t us items e = e

sound_text : (depth : ℕ) (line : List ℕ) (said : Bool) (t : Parts) → AreSound depth t → AreSound depth (with_text line said t)
unfolding AreSound
sound_text zero line true t s = s
sound_text (suc depth) line true t s = s
sound_text depth line false t s = s

sound_out_text : (depth : ℕ) (line : List ℕ) (said : Bool) (t : Parts) (us : List Parts) → SoundOut depth t us → SoundOut depth (with_text line said t) us
unfolding SoundOut
sound_out_text depth line said t [] s = sound_text (32 - depth) line said t s
sound_out_text depth line said t (u ∷ us) s = (sound_text (32 - depth) line said t s.0, s.1)

sound_none : (depth : ℕ) → AreSound depth none
unfolding AreSound
sound_none zero = tt
sound_none (suc depth) = tt

sound_leaf : (depth : ℕ) (l : _) (t : Parts) → AreSound depth t → AreSound depth (leaf l t)
unfolding AreSound
sound_leaf zero l t s = s
sound_leaf (suc depth) l t s = s

sound_out_leaf : (depth : ℕ) (l : _) (t : Parts) (us : List Parts) → SoundOut depth t us → SoundOut depth (leaf l t) us
unfolding SoundOut
sound_out_leaf depth l t [] s = sound_leaf (32 - depth) l t s
sound_out_leaf depth l t (u ∷ us) s = (sound_leaf (32 - depth) l t s.0, s.1)

sound_multipart : (outer inner : ℕ) (kind : _) (t u : Parts) → outer ≡ suc inner → AreSome t → AreSound inner t → AreSound outer u → AreSound outer (multipart kind t u)
unfolding AreSound
sound_multipart zero inner kind t u e some s v = absurd (omega arith)
sound_multipart (suc outer) inner kind t u e some s v = let same : inner ≡ outer = omega arith in (some, subst (λ d. AreSound d t) same s, v)

sound_out_multipart : (depth : ℕ) (kind : _) (t u : Parts) (us : List Parts) → depth < 32 → AreSome t → SoundOut (depth + 1) t (u ∷ us) → SoundOut depth (multipart kind t u) us
unfolding SoundOut
sound_out_multipart depth kind t u [] lt some s =
    let less : depth + 1 - 1 ≡ depth = omega arith in
    sound_multipart (32 - depth) (32 - (depth + 1)) kind t u (omega arith) some s.0 (subst (λ d. AreSound (32 - d) u) less s.1)
sound_out_multipart depth kind t u (v ∷ us) lt some s =
    let less : depth + 1 - 1 ≡ depth = omega arith in
    (sound_multipart (32 - depth) (32 - (depth + 1)) kind t u (omega arith) some s.0 (subst (λ d. AreSound (32 - d) u) less s.1.0), subst (λ d. SoundOut (d - 1) v us) less s.1.1)

sound_out_end : (depth : ℕ) (t : Parts) (us : List Parts) → SoundOut (depth - 1) t us → SoundOut depth none (t ∷ us)
unfolding SoundOut
sound_out_end depth t us s = (sound_none (32 - depth), s)

sound_out_start : (depth : ℕ) → SoundOut depth none []
unfolding SoundOut
sound_out_start depth = sound_none (32 - depth)

-- no line is wrong, so the first one isn't
first_right : (s : Sign) (more : List Sign) → first_wrong (s ∷ more) ≡ None → is_wrong s more ≡ false
unfolding first_wrong
first_right s more e = choose (is_wrong s more) e
  where
    choose : (w : Bool) → (if w then Some 0 else option_map (λ n. n + 1) (first_wrong more)) ≡ None → w ≡ false
    choose true h = cc
    choose false h = refl

-- and none of the others is
others_right : (s : Sign) (more : List Sign) → first_wrong (s ∷ more) ≡ None → first_wrong more ≡ None
unfolding first_wrong
others_right s more e = choose (is_wrong s more) (first_wrong more) e
  where
    choose : (w : Bool) (o : Option ℕ) → (if w then Some 0 else option_map (λ n. n + 1) o) ≡ None → o ≡ None
    choose true o h = cc
    choose false None h = refl
    choose false (Some n) h = cc

no_marks : (depth : ℕ) → Stacked depth (map sign_of []) (gathered [])
unfolding gathered spread ends_in is_bare written
no_marks depth = record {
  parts = none;
  outer = [];
  items_are = refl;
  ends_are = refl;
  within = omega arith;
  sound = sound_out_start depth;
  some = λ e. cc;
}

some_text : (line : List ℕ) (t : Parts) (l : List ℕ) (said : Bool) → AreSome (with_text l said t) → AreSome (with_text (line ++ l) said t)
some_text line t l true s = tt
some_text line t l false s = s

text_mark : (depth : ℕ) (line : List ℕ) (said : Bool) (signs : List Sign) (g : Gathered) → Stacked depth signs g → Stacked depth ((if said then part else Nothing) ∷ signs) (prepended line said g)
unfolding ends_in is_bare
text_mark depth line true signs g s = record {
  parts = s.parts;
  outer = s.outer;
  items_are = s.items_are;
  ends_are = s.ends_are;
  within = s.within;
  sound = s.sound;
  some = λ e. tt;
}
text_mark depth line false signs g s = record {
  parts = s.parts;
  outer = s.outer;
  items_are = s.items_are;
  ends_are = s.ends_are;
  within = s.within;
  sound = s.sound;
  some = λ e. some_text line s.parts g.text g.said (s.some e);
}

part_mark : (depth : ℕ) (l : _) (want : _) (signs : List Sign) (g : Gathered) → Stacked depth signs g → Stacked depth (part ∷ signs) (directed (Part l want) (all_of g))
unfolding ends_in is_bare
part_mark depth l want signs g s = record {
  parts = leaf l (with_text g.text g.said s.parts);
  outer = s.outer;
  items_are = ap (λ w. leaf_item l ∷ w) (spread_text g.text g.said s.parts s.outer g.items s.items_are) ∙ sym (spread_leaf l (with_text g.text g.said s.parts) s.outer);
  ends_are = s.ends_are;
  within = s.within;
  sound = sound_out_leaf depth l (with_text g.text g.said s.parts) s.outer (sound_out_text depth g.text g.said s.parts s.outer s.sound);
  some = λ e. tt;
}

end_mark : (depth : ℕ) (signs : List Sign) (g : Gathered) → 1 ≤ depth → Stacked (depth - 1) signs g → Stacked depth (ends ∷ signs) (directed End (all_of g))
unfolding ends_in is_bare
end_mark depth signs g le s =
    let count = s.ends_are in
    let within = s.within in
    record {
      parts = none;
      outer = with_text g.text g.said s.parts ∷ s.outer;
      items_are = ap (λ w. end_item ∷ w) (spread_text g.text g.said s.parts s.outer g.items s.items_are) ∙ sym (spread_end (with_text g.text g.said s.parts) s.outer);
      ends_are = omega arith;
      within = omega arith;
      sound = sound_out_end depth (with_text g.text g.said s.parts) s.outer (sound_out_text (depth - 1) g.text g.said s.parts s.outer s.sound);
      some = λ e. cc;
    }

begin_mark : (depth : ℕ) (kind : _) (signs : List Sign) (g : Gathered) → depth < 32 → (ends_in signs == 0 || is_bare signs) ≡ false → Stacked (depth + 1) signs g → Stacked depth (begins ∷ signs) (directed (Begin kind) (all_of g))
unfolding ends_in is_bare
begin_mark depth kind signs g lt right s = choose s.outer s.items_are s.ends_are s.sound
  where
    closed : (a b : Bool) → (a || b) ≡ false → a ≡ false
    closed true b e = e
    closed false b e = refl

    filled : (a b : Bool) → (a || b) ≡ false → b ≡ false
    filled true b e = cc
    filled false b e = e

    choose : (us : List Parts) → g.items ≡ spread s.parts us → length us ≡ ends_in signs → SoundOut (depth + 1) s.parts us → Stacked depth (begins ∷ signs) (directed (Begin kind) (all_of g))
    choose [] items count sound = let test = closed (ends_in signs == 0) (is_bare signs) right in absurd (grind (arith, nat_tests, test, count))
    choose (u ∷ us) items count sound =
        let within = s.within in
        record {
          parts = multipart kind (with_text g.text g.said s.parts) u;
          outer = us;
          items_are = ap (λ w. begin_item kind ∷ w) (spread_text g.text g.said s.parts (u ∷ us) g.items items) ∙ sym (spread_multipart kind (with_text g.text g.said s.parts) u us);
          ends_are = omega arith;
          within = omega arith;
          sound = sound_out_multipart depth kind (with_text g.text g.said s.parts) u us lt (s.some (filled (ends_in signs == 0) (is_bare signs) right)) (sound_out_text (depth + 1) g.text g.said s.parts (u ∷ us) sound);
          some = λ e. tt;
        }

one_order : (d : Directive) (marks : List Mark) → gathered (order d ∷ marks) ≡ directed d (all_of (gathered marks))
unfolding gathered
one_order d marks = refl

one_text : (line : List ℕ) (marks : List Mark) → gathered (plain line ∷ marks) ≡ prepended line (is_said line) (gathered marks)
unfolding gathered
one_text line marks = refl

-- one line more, where no line is wrong
order_mark : (depth : ℕ) (d : Directive) (signs : List Sign) (g : Gathered) → first_wrong (directive_sign (settled depth d) ∷ signs) ≡ None → Stacked (open_behind depth (settled depth d)) signs g
    → Stacked depth (directive_sign (settled depth d) ∷ signs) (directed (settled depth d) (all_of g))
order_mark depth (Part l want) signs g right s = part_mark depth l want signs g s
order_mark depth Wrong signs g right s = let h : true ≡ false = first_right wrong signs right in cc
order_mark depth End signs g right s = choose (depth == 0) refl right s
  where
    choose : (t : Bool) → depth == 0 ≡ t → first_wrong (directive_sign (if t then Wrong else End) ∷ signs) ≡ None → Stacked (open_behind depth (if t then Wrong else End)) signs g
        → Stacked depth (directive_sign (if t then Wrong else End) ∷ signs) (directed (if t then Wrong else End) (all_of g))
    choose true e r k = let h : true ≡ false = first_right wrong signs r in cc
    choose false e r k = end_mark depth signs g (grind (arith, nat_tests, e)) k
order_mark depth (Begin kind) signs g right s = choose (nat_le 32 depth) refl right s
  where
    choose : (t : Bool) → nat_le 32 depth ≡ t → first_wrong (directive_sign (if t then Wrong else Begin kind) ∷ signs) ≡ None → Stacked (open_behind depth (if t then Wrong else Begin kind)) signs g
        → Stacked depth (directive_sign (if t then Wrong else Begin kind) ∷ signs) (directed (if t then Wrong else Begin kind) (all_of g))
    choose true e r k = let h : true ≡ false = first_right wrong signs r in cc
    choose false e r k = begin_mark depth kind signs g (grind (arith, nat_tests, e)) (first_right begins signs r) k

one_mark : (depth : ℕ) (m : Mark) (marks : List Mark) → first_wrong (map sign_of (placed depth m ∷ marks)) ≡ None → Stacked (open_after depth (placed depth m)) (map sign_of marks) (gathered marks)
    → Stacked depth (map sign_of (placed depth m ∷ marks)) (gathered (placed depth m ∷ marks))
one_mark depth (plain line) marks right s =
    subst (λ (g : Gathered). Stacked depth (sign_of (plain line) ∷ map sign_of marks) g) (sym (one_text line marks)) (text_mark depth line (is_said line) (map sign_of marks) (gathered marks) s)
one_mark depth (order d) marks right s =
    subst (λ (g : Gathered). Stacked depth (directive_sign (settled depth d) ∷ map sign_of marks) g) (sym (one_order (settled depth d) marks)) (order_mark depth d (map sign_of marks) (gathered marks) right s)

stacked : (depth : ℕ) (ls : List (List ℕ)) → first_wrong (map sign_of (marks_from depth ls)) ≡ None → Stacked depth (map sign_of (marks_from depth ls)) (gathered (marks_from depth ls))
unfolding marks_from
stacked depth [] right = no_marks depth
stacked depth (line ∷ ls) right =
    let m = placed depth (mark_of line) in
    let more = marks_from (open_after depth m) ls in
    one_mark depth (mark_of line) more right (stacked (open_after depth m) ls (others_right (sign_of m) (map sign_of more) right))

ended : (g : Gathered) (items : List Item) (t : Parts) (us : List Parts) (n : ℕ) → items ≡ all_of g → g.items ≡ spread t us → length us ≡ n → n ≤ 0 → SoundOut 0 t us → HasParts items
unfolding spread SoundOut
ended g items t [] n are i count le sound = record {
  parts = with_text g.text g.said t;
  are_written = are ∙ spread_text g.text g.said t [] g.items i;
  are_sound = sound_text 32 g.text g.said t sound;
  are_alone = λ others is. one_tree others (with_text g.text g.said t) (sym is ∙ are ∙ spread_text g.text g.said t [] g.items i);
}
ended g items t (u ∷ us) n are i count le sound = absurd (omega arith)

-- where no line is wrong, the items write parts
pub has_parts : (body : List ℕ) (items : List Item) → first_wrong (map sign_of (marks_in body)) ≡ None → items ≡ items_of (marks_in body) → HasParts items
has_parts body items right are =
    let s = stacked 0 (lines body) right in
    ended (gathered (marks_in body)) items s.parts s.outer (ends_in (map sign_of (marks_in body))) are s.items_are s.ends_are s.within s.sound
