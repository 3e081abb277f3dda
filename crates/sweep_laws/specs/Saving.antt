-- What is kept of a side between steps: rows, which are saved as their starts, and edges that wait.
use Rattle.std.specs.Prelude.{◌≡◌, ℕ, ◌&&◌, nat_eq, nat_lt, Bool, true, false, List, [], ◌∷◌, map}
use Rattle.std.specs.List.{list_all}
use Rattle.tw_rows.specs.Instant.{inf}
use Rattle.tw_rows.specs.declared.cells.Datum.{Datum}
use Rattle.tw_rows.specs.declared.cells.Datum.TheVariants.{Int, Bool as Flag, Text}
use Rattle.tw_rows.specs.declared.edge.Edge.{Edge}
use Rattle.tw_rows.specs.declared.edge.HeldRow.{HeldRow}
use Rattle.tw_rows.specs.declared.kind.CellKind.{CellKind}
use Rattle.tw_rows.specs.declared.kind.CellKind.TheVariants.{Whole, Bit, Place}
use Rattle.edge_history.specs.Order.{failing, is_real, is_from}
use Rattle.edge_history.specs.Balance.{is_single}

-- a column of the kind stores the datum
abbrev pub stores : CellKind → Datum → Bool
stores Whole (Int x) = true
stores Whole (Flag b) = false
stores Whole (Text t) = false
stores Bit (Int x) = false
stores Bit (Flag b) = true
stores Bit (Text t) = false
stores Place (Int x) = false
stores Place (Flag b) = false
stores Place (Text t) = true

-- columns of the kinds store the cells, one each: those of a whole number and a bit store 7, true, and not 7 alone
unfoldable pub store_all : List CellKind → List Datum → Bool
store_all [] [] = true
store_all [] (d ∷ ds) = false
store_all (k ∷ ks) [] = false
store_all (k ∷ ks) (d ∷ ds) = stores k d && store_all ks ds

-- rows as the starts that put them in, and the rows that edges start: of 5 from 3 on, a start at 3 of 5, and back
abbrev pub starts_of : List HeldRow → List Edge
starts_of rows = map (λ r. record { sync = r.start; other = inf; cells = r.cells }) rows

abbrev pub rows_of : List Edge → List HeldRow
rows_of edges = map (λ e. record { cells = e.cells; start = e.sync }) edges

-- the edge is the start of a row that began before a time, with such cells. Before 5, a start at 3, and none at 5
abbrev pub is_row_start : List CellKind → ℕ → Edge → Bool
is_row_start kinds to e = nat_eq e.other inf && (nat_lt e.sync to && store_all kinds e.cells)

-- the edge may wait from a time on: a start or an end with such cells that comes then or later. From 5 on, an end at 5, and
-- none at 4
abbrev pub may_wait : List CellKind → ℕ → Edge → Bool
may_wait kinds from e = is_real e && (is_single e && (is_from from e && store_all kinds e.cells))

abbrev pub are_row_starts : List CellKind → ℕ → List Edge → Bool
are_row_starts kinds to edges = list_all (is_row_start kinds to) edges

abbrev pub may_all_wait : List CellKind → ℕ → List Edge → Bool
may_all_wait kinds from edges = list_all (may_wait kinds from) edges

-- rows that began before a time, with such cells: before 5, a row from 3 on, and none from 5 on
abbrev pub HaveBegun : List CellKind → ℕ → List HeldRow → Type 0
HaveBegun kinds to rows = failing (is_row_start kinds to) (starts_of rows) ≡ 0
