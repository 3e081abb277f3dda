-- A wire in memory: what it is seen as, and what its calls do.
use Rattle.std.specs.List.{list_any}
use Rattle.std.specs.Prelude.{Bool, ◌||◌, nat_le, nat_lt, ◌==◌, ◌≤◌, ℕ, ◌+◌, ◌-◌, min, List, [], ◌∷◌, ◌++◌, length, map, slice_range}
use Rattle.wire_lines.specs.Faults.{raised}
use Rattle.wire_lines.specs.Journal.{Entry, In, Out}
use Rattle.wire_lines.specs.declared.memory.WireStep.{WireStep}
use Rattle.wire_lines.specs.declared.memory.WireStep.TheVariants as steps

-- input: all bytes that reads give; output: all bytes written; steps: the journal by places;
-- step: the most bytes that a read gives; room: the most written bytes, and the most entries of the journal;
-- failing: the numbers of the calls that fail; calls: the number of the next call; taken: how many bytes of the input were read
pub record MemoryState : Type 0 where
  pub input : List ℕ
  pub output : List ℕ
  pub steps : List WireStep
  pub step : ℕ
  pub room : ℕ
  pub failing : List ℕ
  pub calls : ℕ
  pub taken : ℕ
  pub read_faults : ℕ
  pub write_faults : ℕ

-- the entry that a step stands for
abbrev pub entry_of : List ℕ → List ℕ → WireStep → Entry
entry_of input output (steps.In from to) = In (slice_range input from to)
entry_of input output (steps.Out from to) = Out (slice_range output from to)

-- the entries that the steps stand for
abbrev pub told_of : List ℕ → List ℕ → List WireStep → List Entry
told_of input output steps = map (entry_of input output) steps

-- the journal that the wire tells
abbrev pub told : MemoryState → List Entry
told m = told_of m.input m.output m.steps

-- the step names places that are there
abbrev pub IsWithin : List ℕ → List ℕ → WireStep → Type 0
IsWithin input output (steps.In from to) = (from ≤ to) × (to ≤ length input)
IsWithin input output (steps.Out from to) = (from ≤ to) × (to ≤ length output)

-- nothing taken, nothing given
abbrev pub fresh : List ℕ → ℕ → ℕ → List ℕ → MemoryState
fresh input step room failing = record {
  input = input;
  output = [];
  steps = [];
  step = step;
  room = room;
  failing = failing;
  calls = 0;
  taken = 0;
  read_faults = 0;
  write_faults = 0;
}

-- the next call has a number that fails, or no room is left for its entry in the journal
abbrev pub call_fails : MemoryState → Bool
call_fails m = list_any (λ n. n == m.calls) m.failing || nat_le m.room (length m.steps)

-- the next call, a write of so many bytes, fails as any call, or has no room left for its bytes
abbrev pub write_fails : MemoryState → ℕ → Bool
write_fails m count = call_fails m || nat_lt (m.room - length m.output) count

-- how many bytes a read into so many places gives
abbrev pub read_count : MemoryState → ℕ → ℕ
read_count m places = min (min m.step places) (length m.input - m.taken)

-- after a read of so many bytes
abbrev pub after_read : MemoryState → ℕ → MemoryState
after_read m count = record m { steps = m.steps ++ steps.In m.taken (m.taken + count) ∷ []; calls = raised m.calls; taken = m.taken + count }

-- after a write of these bytes
abbrev pub after_write : MemoryState → List ℕ → MemoryState
after_write m piece = record m {
  output = m.output ++ piece;
  steps = m.steps ++ steps.Out (length m.output) (length m.output + length piece) ∷ [];
  calls = raised m.calls;
}

-- after a read that failed
abbrev pub after_failed_read : MemoryState → MemoryState
after_failed_read m = record m { calls = raised m.calls; read_faults = raised m.read_faults }

-- after a write that failed
abbrev pub after_failed_write : MemoryState → MemoryState
after_failed_write m = record m { calls = raised m.calls; write_faults = raised m.write_faults }
