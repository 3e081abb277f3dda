-- Pending ends, each until the time to which it moves.
use Rattle.std.specs.Prelude.{◌≡◌, ℕ, ◌+◌, true, List, map}
use Rattle.tw_rows.specs.Bag.{total}
use Rattle.tw_rows.specs.Cells.{datum_kind}
use Rattle.tw_rows.specs.declared.edge.Edge.{Edge}
use Rattle.tw_rows.specs.declared.kind.CellKind.{CellKind}
use Rattle.edge_history.specs.Order.{is_end, IsReal}
use Rattle.end_queue.specs.Pending.{Pending}

-- the edges of entries, in the order in which they come due
abbrev pub edges_of_pending : List Pending → List Edge
edges_of_pending ps = map (λ p. p.edge) ps

-- a queue takes in edges, in whatever order it keeps them
abbrev pub TakesIn : List Pending → List Pending → List Edge → Type 0
TakesIn old new edges = (w : Edge → ℕ) → total w (edges_of_pending new) ≡ total w (edges_of_pending old) + total w edges

-- an entry holds an end that is due at its own time, with such columns. An end at 9 that is due at 9, and not at 8
pub record IsWaitingEnd (kinds : List CellKind) (p : Pending) : Type 0 where
  pub at : p.at ≡ p.edge.sync
  pub end : is_end p.edge ≡ true
  pub real : IsReal p.edge
  pub cells : map datum_kind p.edge.cells ≡ kinds
