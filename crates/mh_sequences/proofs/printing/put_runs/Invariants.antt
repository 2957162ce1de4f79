use Rattle.std.proofs.Common.{◌≡◌, ◌∷◌, ◌++◌, take}
use Rattle.std.specs.List.{flat_map}
use Rattle.mh_sequences.specs.Printing.{run_text}
use Rattle.mh_sequences.proofs.printing.put_runs.Given as goal

abbrev pub invariant-loop-run : goal.invariant-loop-run
invariant-loop-run l = l.text ≡ l.fn.text ++ flat_map (λ s. 32 ∷ run_text s) (take l.run-index l.runs)
