-- The fault that an engine tells.
use Rattle.std.specs.Prelude.{◌≡◌, ◌⊎◌, ℕ, Option, Some, Err, List}
use Rattle.plan_model.specs.IsPlan.{PlanParts}
use Rattle.row_reader.specs.declared.entry.BadLine.TheVariants as causes
use Rattle.row_reader.specs.declared.entry.RowFault.{RowFault}
use Rattle.row_reader.specs.declared.entry.RowFault.TheVariants as reading
use Rattle.admission.specs.Progress.{Fault, Malformed, TooLate, Overflowed}
use Rattle.ingress.specs.declared.ingress.Refusal.{Refusal}
use Rattle.ingress.specs.declared.ingress.Refusal.TheVariants as refusals
use Rattle.dataflow.specs.declared.fault.PlanFault.{PlanFault}
use Rattle.dataflow.specs.declared.fault.PlanFault.TheVariants as stepping
use Rattle.tempo_engine.specs.Output.{told}
use Rattle.tempo_engine.specs.declared.fault.EngineFault.{EngineFault}
use Rattle.tempo_engine.specs.declared.fault.EngineFault.TheVariants.{Bad, Late, Overflow, Memory}

-- the engine's fault is the first fault of the lines. Out of memory says nothing of the lines. Where line 3 is late, with
-- the time 4 and the bound 9, the engine says that of line 3
abbrev pub IsFaultOf : EngineFault → Option Fault → Type 0
IsFaultOf (Bad line cause) fault = fault ≡ Some (Malformed line cause)
IsFaultOf (Late line time bound) fault = fault ≡ Some (TooLate line time bound)
IsFaultOf (Overflow punctuation node time) fault = fault ≡ Some (Overflowed punctuation (record { node = node; time = time }))
IsFaultOf Memory fault = Unit {0}

-- a line that is told as bad is the line itself, whatever was before it: for a cause that can be read off it, or since it ends
-- a start that is not open
abbrev pub IsBadOf : PlanParts → ℕ → List ℕ → EngineFault → Type 0
IsBadOf plan number line (Bad told_number cause) = (told_number ≡ number) × ((cause ≡ causes.NoStart) ⊎ ((told plan number line).read ≡ Err cause))
IsBadOf plan number line f = Unit {0}

-- no line is told at the end of an input: a punctuation cannot be worked through, or it is out of memory
abbrev pub IsFaultAtEnd : EngineFault → Type 0
IsFaultAtEnd (Bad line cause) = ⊥
IsFaultAtEnd (Late line time bound) = ⊥
IsFaultAtEnd f = Unit {0}

-- what is told of the line of that number, where it is not read, where it is refused, and where a punctuation cannot be
-- worked through
abbrev pub unread : ℕ → RowFault → EngineFault
unread line (reading.Bad cause) = Bad line cause
unread line reading.Memory = Memory

abbrev pub refused : ℕ → Refusal → EngineFault
refused line (refusals.Late time bound) = Late line time bound
refused line refusals.NoStart = Bad line causes.NoStart
refused line refusals.Memory = Memory

abbrev pub undefined_at : ℕ → PlanFault → EngineFault
undefined_at punctuation (stepping.Overflow node time) = Overflow punctuation node time
undefined_at punctuation stepping.Memory = Memory
