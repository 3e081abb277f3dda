-- Pending edges, each until its own sync.
use Rattle.std.specs.Prelude.{List, ◌++◌, map}
use Rattle.tw_rows.specs.declared.edge.Edge.{Edge}
use Rattle.end_queue.specs.Pending.{Pending}

-- an edge as it waits for its own sync: one at 5 for 5
abbrev pub own_pending : Edge → Pending
own_pending e = record { at = e.sync; edge = e }

-- all edges that are pending: the end edges that are kept with their rows, and the others. An end at 9 that is kept with its row,
-- and one at 5 that waits: both
abbrev pub all_pending : List Edge → List Pending → List Pending
all_pending ends waiting = map own_pending ends ++ waiting
