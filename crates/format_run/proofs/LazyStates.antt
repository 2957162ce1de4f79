-- Lazy states, and what they stand for.
use Rattle.std.proofs.Common.{◌≡◌, ℕ, Bool, true, false, List, refl, sym, ap, ◌∙◌}
use Rattle.std.specs.Prelude.{not, Option, Some, None, OnOk, Result, Ok, Err, if◌then◌else◌}
use Rattle.std.specs.List.{list_any}
use Rattle.format_compiler.specs.declared.width.Width.{Width}
use Rattle.line_rows.specs.Fields.{field, printed_text}
use Rattle.mail_text.specs.Stripping.{is_gap, stripped}
use Rattle.mail_text.proofs.StrippedTwice.{stripped_none, stripped_twice}
use Rattle.format_run.specs.Answers.{is_empty}
use Rattle.format_run.specs.Lazy.{meant}
use Rattle.format_run.specs.Stepping.{adding}
use Rattle.format_run.specs.declared.lazy.LazyState.{LazyState}
use Rattle.format_run.specs.declared.state.LineState.{LineState}

abbrev lazy : Bool → LineState → LazyState
lazy b s = record { state = s; raw = b }

-- the text that is meant
abbrev meant_text : Bool → List ℕ → List ℕ
meant_text b t = if b then stripped t else t

adding_meant : (b : Bool) (more : List ℕ) (s : LineState) → meant (lazy b (adding more s)) ≡ adding more (meant (lazy b s))
adding_meant true more s = refl
adding_meant false more s = refl

printed_meant : (b : Bool) (w : Option Width) (t : List ℕ) → printed_text w t ≡ printed_text w (meant_text b t)
printed_meant true None t = sym (stripped_twice t)
printed_meant true (Some w) t = ap (field w.columns) (sym (stripped_twice t))
printed_meant false w t = refl

text_meant : (b : Bool) (s : LineState) → meant_text b s.text ≡ (meant (lazy b s)).text
text_meant true s = refl
text_meant false s = refl

-- a raw text is printed as the one that is meant
pub print_meant : (b : Bool) (w : Option Width) (s : LineState) → meant (lazy b (adding (printed_text w s.text) s)) ≡ adding (printed_text w (meant (lazy b s)).text) (meant (lazy b s))
print_meant b w s = adding_meant b (printed_text w s.text) s ∙ ap (λ t. adding t (meant (lazy b s))) (printed_meant b w s.text ∙ ap (printed_text w) (text_meant b s))

twice_not : (b : Bool) → not (not b) ≡ b
twice_not true = refl
twice_not false = refl

pub some_word : (t : List ℕ) → list_any (λ c. not (is_gap c)) t ≡ not (is_empty (stripped t))
some_word t = sym (twice_not (list_any (λ c. not (is_gap c)) t)) ∙ ap not (sym (stripped_none t))

-- where all went well
pub on_ok : {A E : Type 0} {P Q : Type 0} (r : Result A E) → OnOk r P → (P → Q) → OnOk r Q
on_ok (Ok a) p f = f p
on_ok (Err e) p f = tt
