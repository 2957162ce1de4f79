use Rattle.std.proofs.Common.{◌-◌, List, ℕ, length, take, drop, sym, subst}
use Rattle.std.proofs.lemmas.List.{take_rest}
use Rattle.mbox_drop.specs.Parting.{IsWhole}
use Rattle.mbox_drop.specs.declared.find.Found.TheVariants.{Cut, End}
use Rattle.mbox_drop.proofs.Partings.{parted}
use Rattle.mbox_drop.proofs.part.first_part.Goals as goal

pub returns-in-Cut : goal.returns-in-Cut
returns-in-Cut c =
    let text : List ℕ = take (length c.args.bytes.now - c.skip-start.result.next) (drop c.skip-start.result.next c.args.bytes.now) in
    subst (λ x. IsWhole c.args.bytes.now (take c.in-Cut.body text) x) (sym (take_rest text c.in-Cut.next))
    (parted c.args.bytes.now text c.skip-start.result (Cut c.in-Cut.body c.in-Cut.next) c.skip-start.ensures.value (take_rest c.args.bytes.now c.skip-start.result.next) c.in-Cut.ensures.value)

pub returns-in-End : goal.returns-in-End
returns-in-End c =
    let text : List ℕ = take (length c.args.bytes.now - c.skip-start.result.next) (drop c.skip-start.result.next c.args.bytes.now) in
    parted c.args.bytes.now text c.skip-start.result (End c.in-End.place c.in-End.body) c.skip-start.ensures.value (take_rest c.args.bytes.now c.skip-start.result.next) c.in-End.ensures.value
