-- An input that fails at chosen calls, as the values that its clauses see.
use Rattle.std.specs.Prelude.{ℕ, ◌+◌, ◌-◌, ◌^◌, List, drop, min}
use Rattle.memory_inputs.specs.declared.mem_source.MemSource.{MemSource}

-- the bytes that are left, the calls that are to fail, and how many calls and faults there were
pub record InputState : Type 0 where
  pub left : List ℕ
  pub failing : List ℕ
  pub calls : ℕ
  pub faults : ℕ

abbrev pub input_state : MemSource → InputState
input_state s = record { left = drop s.read s.bytes; failing = s.failing; calls = s.calls; faults = s.faults }

-- the number of the next call, which stands still at the greatest 64-bit number
abbrev pub next_call : InputState → ℕ
next_call s = min (s.calls + 1) (2 ^ 64 - 1)
