-- Words that stand in all of a text are one format.
use Rattle.std.proofs.Common.{◌≡◌, ℕ, zero, suc, Bool, true, false, List, [], ◌∷◌, ◌==◌, take, drop, Option, Some, None, Ok, Err, refl, sym, subst}
use Rattle.std.specs.Prelude.{if◌then◌else◌}
use Rattle.std.specs.List.{prefix_len}
use Rattle.format_compiler.specs.declared.piece.Piece.TheVariants.{Character, Component, Call}
use Rattle.format_compiler.specs.declared.width.Width.{Width}
use Rattle.format_compiler.specs.declared.word.Word.{Word}
use Rattle.format_compiler.specs.declared.word.Word.TheVariants.{Nothing, Print, If, ElseIf, Else, End}
use Rattle.format_compiler.specs.Calls.{call_in}
use Rattle.format_compiler.specs.Components.{component_in}
use Rattle.format_compiler.specs.Formats.{Stand}
use Rattle.format_compiler.specs.Grammar.{AreItems, AreOthers, Choice, Done, Format, IsFormat, Then, over, nothing, print, choice, end, otherwise, otherwise_if}
use Rattle.format_compiler.specs.Reading.{Read, ◌>>=◌}
use Rattle.format_compiler.specs.Widths.{begins_width, width_of}
use Rattle.format_compiler.specs.Words.{behind_word, else_if_in, escape_in, escaped, if_in, is_inside, mark_in, may_choose, Open, percent_in, printed_by, printed_component_in, printed_call_in, printed_in, room_in, sized_by, test_in, word_in}
use Rattle.mh_base.specs.Characters.{is_digit}

-- where a word may stand
abbrev pub MayStand : Word → Open → Type 0
MayStand Nothing o = Unit {0}
MayStand (Print piece) o = Unit {0}
MayStand (If test) o = Unit {0}
MayStand (ElseIf test) o = may_choose o ≡ true
MayStand Else o = may_choose o ≡ true
MayStand End o = is_inside o ≡ true

abbrev pub ReadsStanding : Open → Read Word → Type 0
ReadsStanding o (Ok x) = MayStand x.0 o
ReadsStanding o (Err wrong) = Unit {0}

made : {A : Type 0} (o : Open) (make : A → Word) → ((x : A) → MayStand (make x) o) → (read : Read A) → ReadsStanding o (read >>= λ x behind. Ok (make x, behind))
made o make h (Ok x) = h x.0
made o make h (Err wrong) = tt

either : (o : Open) (b : Bool) (x y : Read Word) → ReadsStanding o x → ReadsStanding o y → ReadsStanding o (if b then x else y)
either o true x y h k = h
either o false x y h k = k

if_stands : (o : Open) (room : ℕ) (whole text : List ℕ) → ReadsStanding o (if_in room whole text)
if_stands o zero whole text = tt
if_stands o (suc room) whole text = made o If (λ x. tt) (test_in room text)

else_if_stands : (o : Open) (b : Bool) (room : ℕ) (whole text : List ℕ) → may_choose o ≡ b → ReadsStanding o (else_if_in b room whole text)
else_if_stands o false room whole text h = tt
else_if_stands o true room whole text h = made o ElseIf (λ x. h) (test_in room text)

else_stands : (o : Open) (b : Bool) (whole text : List ℕ) → may_choose o ≡ b → ReadsStanding o (mark_in b Else whole text)
else_stands o false whole text h = tt
else_stands o true whole text h = h

end_stands : (o : Open) (b : Bool) (whole text : List ℕ) → is_inside o ≡ b → ReadsStanding o (mark_in b End whole text)
end_stands o false whole text h = tt
end_stands o true whole text h = h

printed_stands : (o : Open) (room : ℕ) (whole : List ℕ) (c : ℕ) (text : List ℕ) (width : Option (Option Width)) → ReadsStanding o (printed_by room whole c text width)
printed_stands o room whole c text None = tt
printed_stands o room whole c text (Some width) =
    either o (c == 123) (printed_component_in width whole text) (if c == 40 then printed_call_in room width whole text else Err whole)
    (made o (λ name. Print (Component width name)) (λ x. tt) (component_in whole text))
    (either o (c == 40) (printed_call_in room width whole text) (Err whole) (made o (λ call. Print (Call width call)) (λ x. tt) (call_in room false whole text)) tt)

sized_stands : (o : Open) (room : ℕ) (whole digits text : List ℕ) → ReadsStanding o (sized_by room whole digits text)
sized_stands o room whole digits [] = either o (begins_width digits) (Err []) (Err whole) tt tt
sized_stands o room whole digits (c ∷ text) = printed_stands o room whole c text (width_of digits)

nothing_or : (o : Open) (b : Bool) (word : Word) → MayStand word o → MayStand (if b then Nothing else word) o
nothing_or o true word h = tt
nothing_or o false word h = h

escape_stands : (o : Open) (text : List ℕ) → ReadsStanding o (escape_in text)
escape_stands o [] = tt
escape_stands o (c ∷ text) = nothing_or o (c == 10) (Print (Character (escaped c))) tt

printed_text_stands : (o : Open) (room : ℕ) (whole text : List ℕ) → ReadsStanding o (printed_in room whole text)
printed_text_stands o room whole text = sized_stands o room whole (take (prefix_len is_digit text) text) (drop (prefix_len is_digit text) text)

percent_stands : (o : Open) (whole text : List ℕ) → ReadsStanding o (percent_in o whole text)
percent_stands o whole [] = tt
percent_stands o whole (c ∷ text) =
    either o (c == 37) _ _ tt (either o (c == 59) _ _ tt (either o (c == 60) _ _ (if_stands o (room_in o) whole text)
    (either o (c == 63) _ _ (else_if_stands o (may_choose o) (room_in o) whole text refl)
    (either o (c == 124) _ _ (else_stands o (may_choose o) whole text refl)
    (either o (c == 62) _ _ (end_stands o (is_inside o) whole text refl)
    (printed_text_stands o (room_in o) whole (c ∷ text)))))))

-- a word that is read may stand
word_stands : (o : Open) (text : List ℕ) → ReadsStanding o (word_in o text)
unfolding word_in
word_stands o [] = tt
word_stands o (c ∷ text) = either o (c == 37) _ _ (percent_stands o (c ∷ text) text) (either o (c == 92) _ _ (escape_stands o text) tt)

-- the words lead from these conditionals to none
abbrev pub Lead : List Word → Open → Type 0
Lead [] o = o ≡ []
Lead (word ∷ words) o = MayStand word o × Lead words (behind_word word o)

lead : (words : List Word) (o : Open) (text : List ℕ) → Stand words o text [] [] → Lead words o
lead [] o text h = h.0
lead (w ∷ words) o text (b, is, h) = (subst (λ (z : Read Word). ReadsStanding o z) is (word_stands o text), lead words (behind_word w o) b h)

-- what is left of the words closes these conditionals, one after another, with items between
abbrev pub Closing : Open → List Word → Type 0
Closing [] words = words ≡ []
Closing (false ∷ o) words = (behind : List Word) × (other : Format) × AreOthers words behind other
    × (rest : List Word) × (f : Format) × AreItems behind rest f × Closing o rest
Closing (true ∷ o) words = (behind : List Word) × (words ≡ End ∷ behind)
    × (rest : List Word) × (f : Format) × AreItems behind rest f × Closing o rest

-- items and then such
pub record Closed (o : Open) (words : List Word) : Type 0 where
  pub rest : List Word
  pub format : Format
  pub items : AreItems words rest format
  pub closing : Closing o rest

-- words that lead from these conditionals to none are items and such
closed : (words : List Word) (o : Open) → Lead words o → Closed o words
closed [] o h = record { rest = []; format = Done; items = over tt; closing = subst (λ (z : Open). Closing z []) (sym h) refl }
closed (Nothing ∷ words) o h =
    let c = closed words o h.1 in record { rest = c.rest; format = c.format; items = nothing c.items; closing = c.closing }
closed (Print piece ∷ words) o h =
    let c = closed words o h.1 in record { rest = c.rest; format = Then piece c.format; items = print c.items; closing = c.closing }
closed (If test ∷ words) o h = opened (closed words (false ∷ o) h.1)
  where
    opened : Closed (false ∷ o) words → Closed o (If test ∷ words)
    opened c = begun c.closing
      where
        begun : Closing (false ∷ o) c.rest → Closed o (If test ∷ words)
        begun (behind, other, others, rest, f, items, closing) = record { rest = rest; format = Choice test c.format other f; items = choice c.items others items; closing = closing }
closed (ElseIf test ∷ words) [] h = cc
closed (ElseIf test ∷ words) (true ∷ o) h = cc
closed (ElseIf test ∷ words) (false ∷ o) h = more (closed words (false ∷ o) h.1)
  where
    more : Closed (false ∷ o) words → Closed (false ∷ o) (ElseIf test ∷ words)
    more c = begun c.closing
      where
        begun : Closing (false ∷ o) c.rest → Closed (false ∷ o) (ElseIf test ∷ words)
        begun (behind, other, others, rest, f, items, closing) = record {
          rest = ElseIf test ∷ words;
          format = Done;
          items = over tt;
          closing = (behind, Choice test c.format other Done, otherwise_if c.items others, rest, f, items, closing);
        }
closed (Else ∷ words) [] h = cc
closed (Else ∷ words) (true ∷ o) h = cc
closed (Else ∷ words) (false ∷ o) h = more (closed words (true ∷ o) h.1)
  where
    more : Closed (true ∷ o) words → Closed (false ∷ o) (Else ∷ words)
    more c = begun c.closing
      where
        begun : Closing (true ∷ o) c.rest → Closed (false ∷ o) (Else ∷ words)
        begun (behind, is, rest, f, items, closing) = record {
          rest = Else ∷ words;
          format = Done;
          items = over tt;
          closing = (behind, c.format, otherwise (subst (λ (z : List Word). AreItems words z c.format) is c.items), rest, f, items, closing);
        }
closed (End ∷ words) [] h = cc
closed (End ∷ words) (false ∷ o) h =
    let c = closed words o h.1 in
    record { rest = End ∷ words; format = Done; items = over tt; closing = (words, Done, end, c.rest, c.format, c.items, c.closing) }
closed (End ∷ words) (true ∷ o) h =
    let c = closed words o h.1 in
    record { rest = End ∷ words; format = Done; items = over tt; closing = (words, refl, c.rest, c.format, c.items, c.closing) }

pub record SomeFormat (words : List Word) : Type 0 where
  pub format : Format
  pub is : IsFormat words format

-- words that stand in all of a text are a format
pub some_format : (words : List Word) (text : List ℕ) → Stand words [] text [] [] → SomeFormat words
some_format words text h =
    let c = closed words [] (lead words [] text h) in
    record { format = c.format; is = subst (λ (z : List Word). AreItems words z c.format) c.closing c.items }
