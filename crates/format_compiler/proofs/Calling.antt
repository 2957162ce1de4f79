-- One function around another.
use Rattle.std.proofs.Common.{◌≡◌, ◌≢◌, ℕ, zero, suc, ◌-◌, Bool, false, List, Ok, refl, sym, ap, ◌∙◌, arith}
use Rattle.format_compiler.specs.declared.call.Call.{Call}
use Rattle.format_compiler.specs.declared.function.Function.{Function}
use Rattle.format_compiler.specs.declared.stop.Stop.{Stop}
use Rattle.format_compiler.specs.declared.stop.Stop.TheVariants.{Wrong, Memory}
use Rattle.format_compiler.specs.Calls.{Around, call_in, front_in, whole_by, with_around}
use Rattle.format_compiler.specs.Outcomes.{Stops}
use Rattle.format_compiler.specs.Reading.{Read, ◌>>=◌, then_character}

-- the call is the inner one with the function around it
abbrev pub around_read : Function → Read Call → Read Call
around_read f read = read >>= λ call behind. then_character 41 (with_around f call) behind

step : (room : ℕ) (in_test : Bool) (whole text : List ℕ) (f : Function) (at inner : List ℕ) → room ≢ 0 → front_in in_test text ≡ Ok (Around f at, inner)
    → call_in room in_test whole text ≡ around_read f (call_in (room - 1) false at inner)
unfolding call_in
step zero in_test whole text f at inner some is = absurd (some refl)
step (suc room) in_test whole text f at inner some is =
    let e : suc room - 1 ≡ room = omega arith in
    ap (λ z. z >>= whole_by (call_in room false)) is ∙ ap (λ z. around_read f (call_in z false at inner)) (sym e)

pub call_around : (room : ℕ) (in_test : Bool) (whole text : List ℕ) (f : Function) (at inner : List ℕ) (call : Call) (behind : List ℕ) → room ≢ 0 → front_in in_test text ≡ Ok (Around f at, inner)
    → call_in (room - 1) false at inner ≡ Ok (call, behind) → call_in room in_test whole text ≡ then_character 41 (with_around f call) behind
call_around room in_test whole text f at inner call behind some is read = step room in_test whole text f at inner some is ∙ ap (around_read f) read

pub call_stops : (room : ℕ) (in_test : Bool) (whole text : List ℕ) (f : Function) (at inner : List ℕ) (stop : Stop) → room ≢ 0 → front_in in_test text ≡ Ok (Around f at, inner)
    → Stops (call_in (room - 1) false at inner) stop → Stops (call_in room in_test whole text) stop
call_stops room in_test whole text f at inner (Wrong left) some is stops = step room in_test whole text f at inner some is ∙ ap (around_read f) stops
call_stops room in_test whole text f at inner Memory some is stops = tt
