-- What contracts see of a `Batch`: its rows, and the edges that they hold.
use Rattle.std.specs.Prelude.{ℕ, pos, slice_index_or, ◌&&◌, Bool, true, List, [], ◌∷◌, map, filter}
use Rattle.tw_rows.specs.declared.cells.Datum.{Datum}
use Rattle.tw_rows.specs.declared.cells.Datum.TheVariants.{Int}
use Rattle.tw_rows.specs.declared.edge.Edge.{Edge}
use Rattle.tw_rows.specs.declared.kind.CellKind.{CellKind}

-- a row: the times and the cells of an edge, the key and the hash of its key columns, and whether the row counts
pub record Row : Type 0 where
  pub sync : ℕ
  pub other : ℕ
  pub key : ℕ
  pub hash : ℕ
  pub cells : List Datum
  pub occupied : Bool

-- the rows in order, how many there is room for, and how the cells of each column are stored
pub record Table : Type 0 where
  pub rows : List Row
  pub capacity : ℕ
  pub kinds : List CellKind

-- the edge that a row holds
abbrev pub edge_of : Row → Edge
edge_of r = record { sync = r.sync; other = r.other; cells = r.cells }

-- the rows that count, in order
abbrev pub occupied_rows : List Row → List Row
occupied_rows rows = filter (λ r. r.occupied) rows

-- the edges of the rows that count, in order
abbrev pub edges_of : List Row → List Edge
edges_of rows = map edge_of (occupied_rows rows)

-- the row that `push_edge` adds: it counts, and its key and hash are 0
abbrev pub row_of : Edge → Row
row_of e = record { sync = e.sync; other = e.other; key = 0; hash = 0; cells = e.cells; occupied = true }

-- the rows, of which just those count that did and whose bit is set
abbrev pub kept : List Row → List Bool → List Row
kept [] bits = []
kept (r ∷ rs) [] = []
kept (r ∷ rs) (b ∷ bs) = record r { occupied = r.occupied && b } ∷ kept rs bs

-- the cells of one column, one for each row
abbrev pub cell_column : List Row → ℕ → List Datum
cell_column rows c = map (λ r. slice_index_or r.cells c (Int (pos 0))) rows
