-- Streams over memory as the values that their clauses see.
use Rattle.std.specs.Prelude.{ℕ, ◌+◌, ◌-◌, ◌^◌, List, drop, min}
use Rattle.mh_base.specs.declared.memory.PlainSource.{PlainSource}
use Rattle.mh_base.specs.declared.memory.PlainSink.{PlainSink}
use Rattle.mh_base.specs.declared.memory.MemSink.{MemSink}

-- the bytes that are left
abbrev pub left_of : PlainSource → List ℕ
left_of s = drop s.read s.bytes

-- the bytes that were put
abbrev pub put_into : PlainSink → List ℕ
put_into s = s.bytes

-- the bytes that were put, the calls that are to fail, and how many calls and faults there were
pub record MemState : Type 0 where
  pub bytes : List ℕ
  pub failing : List ℕ
  pub calls : ℕ
  pub faults : ℕ

abbrev pub mem_state : MemSink → MemState
mem_state s = record { bytes = s.bytes; failing = s.failing; calls = s.calls; faults = s.faults }

-- the number of the next call, which stands still at the greatest 64-bit number
abbrev pub next_call : MemState → ℕ
next_call s = min (s.calls + 1) (2 ^ 64 - 1)
