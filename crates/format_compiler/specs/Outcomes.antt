-- What readers answer.
use Rattle.std.specs.Prelude.{◌≡◌, ℕ, List, Result, Ok, Err}
use Rattle.format_compiler.specs.declared.stop.Stop.{Stop}
use Rattle.format_compiler.specs.declared.stop.Stop.TheVariants.{Wrong, Memory}

abbrev pub Stops : {A : Type 0} → Result A (List ℕ) → Stop → Type 0
Stops read (Wrong left) = read ≡ Err left.now
Stops read Memory = Unit {0}

-- the answer is what is read, unless memory runs out
abbrev pub Gives : {X A : Type 0} → (X → A) → Result X Stop → Result A (List ℕ) → Type 0
Gives view (Ok x) read = read ≡ Ok (view x)
Gives view (Err stop) read = Stops read stop
