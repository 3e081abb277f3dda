-- The rows so far are those of the streams so far.
use Rattle.std.proofs.Common.{◌≡◌, map, take}
use Rattle.frozen_state.specs.Forms.{stream_rows}
use Rattle.frozen_state.proofs.form.rows_of_streams.Given as goal

abbrev pub invariant-loop-stream : goal.invariant-loop-stream
invariant-loop-stream l = map (λ row. row.items) l.rows.items ≡ stream_rows (take l.stream-index l.streams)
