-- Rows that are open, one by one, as queues.
use Rattle.std.specs.Prelude.{◌≡◌, ℕ, List, map, filter}
use Rattle.tw_rows.specs.SameCells.{same_cells}
use Rattle.tw_rows.specs.declared.edge.HeldRow.{HeldRow}
use Rattle.tw_rows.specs.declared.edge.Edge.{Edge}
use Rattle.edge_history.specs.Opens.{bare, ended_rows, started_rows}
use Rattle.key_nodes.specs.Coalesced.{how_often}
use Rattle.sweep_laws.specs.Queues.{Cells, AreMoves, open_starts}

-- the starts of a row, in order. Of 7 from 1 on, 4 from 2 on and 7 from 3 on, those of 7 are 1 and 3
abbrev pub queue_of : List HeldRow → Cells → List ℕ
queue_of rows cells = map (λ r. r.start) (filter (λ r. same_cells cells r.cells) rows)

-- these rows from t on
abbrev pub rows_at : ℕ → List Cells → List HeldRow
rows_at t rows = map (λ r. record { cells = r; start = t }) rows

-- the rows are open just before t, of the coalesced events of the rows that f gives at each instant: the queue of each holds
-- its open starts. Of a row that stands once at 1 and twice at 2, at 3 they are 1 and 2
abbrev pub AreQueues : (ℕ → List Cells) → ℕ → List HeldRow → Type 0
AreQueues f t rows = (c : Cells) → queue_of rows c ≡ open_starts same_cells f c t

-- the edges at t lead to the rows there: an end takes its row out, and each other edge puts its row in
abbrev pub EdgesLead : (ℕ → List Cells) → ℕ → List Edge → Type 0
EdgesLead f t now =
    AreMoves same_cells f t (λ r. how_often same_cells r (bare (ended_rows now))) (λ r. how_often same_cells r (bare (started_rows now)))
