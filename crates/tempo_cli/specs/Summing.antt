-- What a run over generated lines has done, by its status, for any faults and any text.
use Rattle.std.specs.Prelude.{◌≡◌, ℕ, true, List, [], Some, None}
use Rattle.wire_lines.specs.Journal.{Entry, SentAll, SentFront}
use Rattle.sample_trades.specs.Summary.{summary_of, summary_text}
use Rattle.admission.specs.Progress.{Malformed as WasBad, TooLate, Overflowed}
use Rattle.tempo_cli.specs.Answers.{Answers}
use Rattle.tempo_cli.specs.declared.status.Status.{Status}
use Rattle.tempo_cli.specs.declared.status.Status.TheVariants.{Done, Malformed, Late, Overflow, WriteFault, Memory}

-- the summary of the text of all lines: `starts 2`, `ends 1` and `puncts 1`, a line each
abbrev pub summary_for : Answers → List (List ℕ) → List ℕ
summary_for a lines = summary_text (summary_of (a.text lines true))

-- why there is no summary: the first fault of the lines, or out of memory
abbrev pub IsFailed : Answers → List (List ℕ) → Status → Type 0
IsFailed a lines (Malformed line cause) = a.fault lines true ≡ Some (WasBad line cause)
IsFailed a lines (Late line time bound) = a.fault lines true ≡ Some (TooLate line time bound)
IsFailed a lines (Overflow punct node time) = a.fault lines true ≡ Some (Overflowed punct (record { node = node; time = time }))
IsFailed a lines Memory = Unit {0}
IsFailed a lines status = ⊥

-- where the lines have no fault their summary went out, or its first bytes where a write failed; else nothing did. Nothing came
-- in. Of lines of which line 2 is late: Late, and nothing went out
abbrev pub Sums : Answers → List (List ℕ) → Status → List Entry → Type 0
Sums a lines Done J = (a.fault lines true ≡ None) × SentAll (summary_for a lines) J
Sums a lines WriteFault J = (a.fault lines true ≡ None) × SentFront (summary_for a lines) J
Sums a lines status J = (J ≡ []) × IsFailed a lines status
