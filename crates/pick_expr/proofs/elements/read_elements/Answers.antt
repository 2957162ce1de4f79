use Rattle.std.proofs.Common.{ℕ, List, ◌+◌, ◌-◌, ◌<◌, get_or, length, take, drop, refl, sym, ◌∙◌, arith}
use Rattle.std.proofs.lemmas.List.{take_rest}
use Rattle.pick_expr.specs.Reading.{element_in}
use Rattle.pick_expr.proofs.ElementSteps.{anchored, ended, more_read, none_taken, one_taken, too_many, wrong}
use Rattle.pick_expr.proofs.elements.read_elements.Goals as goal

pub returns-then-is_anchor-clause-elements : goal.returns-then-is_anchor-clause-elements
returns-then-is_anchor-clause-elements c =
    let text = c.args.text.now in
    let at = c.loop-at.at in
    anchored 127 text at (get_or text at 0) (take (length text - (at + 1)) (drop (at + 1) text)) c.loop-at.elements c.loop-at.invariant c.loop-at-test.true refl
    (take_rest text (at + 1)) (sym c.is_anchor.ensures ∙ c.if-is_anchor.true)

pub returns-then-len-eq127-clause-elements : goal.returns-then-len-eq127-clause-elements
returns-then-len-eq127-clause-elements c =
    let text = c.args.text.now in
    let at = c.loop-at.at in
    too_many 127 text at (get_or text at 0) (take (length text - (at + 1)) (drop (at + 1) text)) c.loop-at.elements c.loop-at.invariant c.loop-at-test.true refl
    (take_rest text (at + 1)) (sym c.is_anchor.ensures ∙ c.if-is_anchor.false) (sym c.len.ensures ∙ c.if-len-eq127.true)

pub loop-at-preserved : goal.loop-at-preserved
loop-at-preserved c =
    let text = c.args.text.now in
    let at = c.loop-at.at in
    let room : length c.loop-at.elements < 127 = (let few = c.loop-at.invariant.few in omega (arith, c.len.ensures, c.if-len-eq127.false)) in
    let behind : List ℕ = take (length text - (at + 1)) (drop (at + 1) text) in
    let taken = one_taken (element_in (get_or text at 0) behind) behind c.in_ok-read.field-0 c.in-Some.read c.in-Some.is c.in_ok-read.ensures in
    more_read 127 text at (get_or text at 0) (take (length text - (at + 1)) (drop (at + 1) text)) c.loop-at.elements c.push.new.self c.in-Some.read.element
    c.in-Some.read.len (at + (1 + c.in-Some.read.len)) c.loop-at.invariant c.loop-at-test.true refl (take_rest text (at + 1)) (sym c.is_anchor.ensures ∙ c.if-is_anchor.false) room
    taken.0 taken.1 c.in_ok-push-in-Some.ensures.ok refl

pub returns-in-None-clause-elements : goal.returns-in-None-clause-elements
returns-in-None-clause-elements c =
    let text = c.args.text.now in
    let at = c.loop-at.at in
    let room : length c.loop-at.elements < 127 = (let few = c.loop-at.invariant.few in omega (arith, c.len.ensures, c.if-len-eq127.false)) in
    wrong 127 text at (get_or text at 0) (take (length text - (at + 1)) (drop (at + 1) text)) c.loop-at.elements c.loop-at.invariant c.loop-at-test.true refl
    (take_rest text (at + 1)) (sym c.is_anchor.ensures ∙ c.if-is_anchor.false) room
    (none_taken (element_in (get_or text at 0) (take (length text - (at + 1)) (drop (at + 1) text))) (take (length text - (at + 1)) (drop (at + 1) text)) c.in_ok-read.field-0 c.in-None.is c.in_ok-read.ensures)

pub returns-clause-elements : goal.returns-clause-elements
returns-clause-elements c = ended 127 c.args.text.now c.loop-at.at c.loop-at.elements c.loop-at.invariant c.loop-at-test.false
