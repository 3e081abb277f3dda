-- The queues are those of the rows that the edges before this one start.
use Rattle.std.proofs.Common.{◌≡◌, List, take}
use Rattle.tw_rows.specs.declared.cells.Datum.{Datum}
use Rattle.sweep_laws.specs.Saving.{rows_of}
use Rattle.synopsis.specs.Queued.{queue_of}
use Rattle.synopsis.proofs.row_queues.queues_of.Given as goal

abbrev pub invariant-loop-edge : goal.invariant-loop-edge
invariant-loop-edge l = (c : List Datum) → queue_of l.queues c ≡ queue_of (rows_of (take l.edge-index l.edges)) c
