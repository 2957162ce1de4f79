use Rattle.std.proofs.Common.{◌≡◌, ℕ, List, get_or, inr, ap, ◌∙◌, ◌+◌, ◌-◌, ◌<◌, refl, length, take, drop, sym, subst, arith}
use Rattle.std.proofs.lemmas.List.{take_rest, length-drop, get_or-drop}
use Rattle.std.proofs.lemmas.Bool.{eqb-true}
use Rattle.mbox_drop.specs.Leaping.{IsLeap}
use Rattle.mbox_drop.proofs.Leaps.{leap_over}
use Rattle.mbox_drop.proofs.leap.leap.Goals as goal

pub returns-in-Some-clause-plain : goal.returns-in-Some-clause-plain
returns-in-Some-clause-plain c =
    let h = c.in-Some.ensures in
    let size : length (take (length c.args.bytes.now - c.args.from) (drop c.args.from c.args.bytes.now)) ≡ length c.args.bytes.now - c.args.from =
    rw (take_rest, length-drop) refl in
    leap_over c.args.place c.args.bytes.now c.args.from c.in-Some.count (sym c.if-not-is_middle.ensures) (omega (arith, h.0.high)) h.0.before

pub returns-in-None-clause-plain : goal.returns-in-None-clause-plain
returns-in-None-clause-plain c =
    let size : length (take (length c.args.bytes.now - c.args.from) (drop c.args.from c.args.bytes.now)) ≡ length c.args.bytes.now - c.args.from =
    rw (take_rest, length-drop) refl in
    let all : c.args.from + (length c.args.bytes.now - c.args.from) ≡ length c.args.bytes.now = omega arith in
    subst (λ n. IsLeap c.args.place c.args.bytes.now c.args.from n) all
    (leap_over c.args.place c.args.bytes.now c.args.from (length c.args.bytes.now - c.args.from) (sym c.if-not-is_middle.ensures) (omega arith)
    (λ k l h. c.in-None.ensures k l (subst (λ n. k < n) (sym size) h)))

pub returns-in-Some-clause-far : goal.returns-in-Some-clause-far
returns-in-Some-clause-far c = λ m.
    let text : List ℕ = take (length c.args.bytes.now - c.args.from) (drop c.args.from c.args.bytes.now) in
    let found : get_or text c.in-Some.count 0 ≡ 10 = eqb-true _ _ c.in-Some.ensures.1 in
    inr (sym (get_or-drop c.args.from c.args.bytes.now c.in-Some.count 0) ∙ ap (λ x. get_or x c.in-Some.count 0) (sym (take_rest c.args.bytes.now c.args.from)) ∙ found)
