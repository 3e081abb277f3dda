-- Times of keys, as edges that start rows.
use Rattle.std.specs.Prelude.{ℕ, ◌≤◌, List}
use Rattle.tw_rows.specs.declared.cells.Datum.{Datum}
use Rattle.tw_rows.specs.declared.edge.Edge.{Edge}
use Rattle.edge_history.specs.Order.{many}
use Rattle.synopsis.specs.Held.{is_of_key}
use Rattle.sweep_laws.specs.Saving.{rows_of}

-- no key has two of the times that edges start. Of the key 5 a time 3, and none more
abbrev pub HaveOneTime : List ℕ → List Edge → Type 0
HaveOneTime key edges = (k : List Datum) → many (is_of_key key k) (rows_of edges) ≤ 1
