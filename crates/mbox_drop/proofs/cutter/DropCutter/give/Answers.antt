use Rattle.std.proofs.Common.{length, drop, sym, ap, ◌∙◌, subst}
use Rattle.std.specs.Option.{option_or}
use Rattle.std.proofs.lemmas.List.{take_rest}
use Rattle.mbox_drop.specs.Long.{overlong_of}
use Rattle.mbox_drop.specs.Parting.{AreParts}
use Rattle.mbox_drop.specs.Giving.{GivesParts}
use Rattle.mbox_drop.proofs.cutter.DropCutter.give.Goals as goal

pub returns-in-Some : goal.returns-in-Some
returns-in-Some c =
    let parts : AreParts c.args.body (drop c.args.next c.args.rest.now) c.in-Ok.parts =
    subst (λ x. AreParts c.args.body x c.in-Ok.parts) (take_rest c.args.rest.now c.args.next) c.in-Ok.ensures in
    subst (λ r. GivesParts c.args.self.now c.args.body c.args.rest.now c.args.next c.stop_with.new.self r) (sym c.stop_with.ensures.answer)
    (record {
      later = parts.given;
      text = c.in-Ok.parts.text.now;
      place = c.in-Ok.parts.place;
      last = c.in-Ok.parts.body;
      reads = record {
        reads = parts.reads;
        long_is = ap (λ o. option_or o (overlong_of (length c.in-Ok.parts.text.now))) (sym parts.long) ∙ ap (λ o. option_or c.in-Ok.parts.long o) (sym c.overlong.ensures)
            ∙ sym c.or.ensures ∙ c.in-Some.is;
      };
      stopped = c.stop_with.ensures.stopped;
    })
