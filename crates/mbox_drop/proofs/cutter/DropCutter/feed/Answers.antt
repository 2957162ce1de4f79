use Rattle.std.proofs.Common.{◌≡◌, ◌≤◌, ◌-◌, ◌++◌, ℕ, List, length, take, drop, ap, ◌∙◌, arith}
use Rattle.std.proofs.lemmas.List.{take_rest, length-append}
use Rattle.mbox_drop.specs.Finding.{found}
use Rattle.mbox_drop.specs.declared.find.Found.TheVariants.{Cut, End}
use Rattle.mbox_drop.proofs.Cuttings.{fed, feeds_hold, feeds_parts}
use Rattle.mbox_drop.proofs.cutter.DropCutter.feed.Goals as goal

pub returns-in-Cut-clause-taken : goal.returns-in-Cut-clause-taken
returns-in-Cut-clause-taken c = λ d h.
    let self = c.args.self.now in
    let piece = c.args.piece.now in
    let rest : List ℕ = take (length piece - c.skip-start.result.next) (drop c.skip-start.result.next piece) in
    let size : c.len.result ≡ length self.hand.items = c.len.ensures ∙ self.hand.ok.0 in
    let inside : c.in-Cut.body ≤ length (self.hand.items ++ rest) = omega (arith, c.in-Cut.ensures.within.0, length-append self.hand.items rest) in
    let before : self.body ≤ length self.hand.items = omega (arith, self.within, self.hand.ok.0) in
    feeds_parts self d piece rest h c.give.new.self c.in-Cut.body c.in-Cut.next c.give.result inside
    (fed self d piece rest c.skip-start.result (Cut c.in-Cut.body c.in-Cut.next) h before c.skip-start.ensures.value (take_rest piece c.skip-start.result.next)
    (c.in-Cut.ensures.value ∙ ap (λ n. found n (End c.skip-start.result.place self.body) 0 rest) size))
    c.give.ensures

pub returns-in-End-clause-taken : goal.returns-in-End-clause-taken
returns-in-End-clause-taken c = λ d h.
    let self = c.args.self.now in
    let piece = c.args.piece.now in
    let rest : List ℕ = take (length piece - c.skip-start.result.next) (drop c.skip-start.result.next piece) in
    let size : c.len.result ≡ length self.hand.items = c.len.ensures ∙ self.hand.ok.0 in
    let before : self.body ≤ length self.hand.items = omega (arith, self.within, self.hand.ok.0) in
    feeds_hold self d piece rest h c.hold.new.self c.in-End.place c.in-End.body c.hold.result
    (fed self d piece rest c.skip-start.result (End c.in-End.place c.in-End.body) h before c.skip-start.ensures.value (take_rest piece c.skip-start.result.next)
    (c.in-End.ensures.value ∙ ap (λ n. found n (End c.skip-start.result.place self.body) 0 rest) size))
    c.hold.ensures
