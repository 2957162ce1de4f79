use Rattle.std.proofs.Common.{List, ℕ, Ok, Result, sym, subst, ap, ◌∙◌}
use Rattle.format_compiler.specs.declared.call.Call.{Call}
use Rattle.format_compiler.specs.Fronts.{front_of}
use Rattle.format_compiler.specs.Outcomes.{Gives}
use Rattle.format_compiler.proofs.Calling.{call_around, call_stops}
use Rattle.format_compiler.proofs.calls.+call.Goals as goal

pub returns-in-Ok-clause-given : goal.returns-in-Ok-clause-given
returns-in-Ok-clause-given t c =
    let is = c.in_ok-front.ensures.given ∙ ap (λ z. Ok (front_of z, c.in_ok-front.behind.now)) c.in-Around.is in
    let read = call_around c.args.room c.args.in_test c.args.whole.now c.args.text.now c.in-Around.function c.in-Around.whole.now c.in_ok-front.behind.now c.in-Ok.inner c.in-Ok.from_end.now
    c.if-room-eq0.false is c.in-Ok.ensures.given in
    subst (λ (z : Result (Call × List ℕ) (List ℕ)). Gives (λ x. (x.0, x.1.now)) c.closed_around.result z) (sym read) c.closed_around.ensures.given

pub returns-in-Err-clause-given : goal.returns-in-Err-clause-given
returns-in-Err-clause-given t c =
    let is = c.in_ok-front.ensures.given ∙ ap (λ z. Ok (front_of z, c.in_ok-front.behind.now)) c.in-Around.is in
    call_stops c.args.room c.args.in_test c.args.whole.now c.args.text.now c.in-Around.function c.in-Around.whole.now c.in_ok-front.behind.now c.in-Err.stop
    c.if-room-eq0.false is c.in-Err.ensures.given
