-- The open starts of rows in a map, and the moves of an instant.
use Rattle.std.specs.Prelude.{◌≡◌, ℕ, not, cond, Option, Some, None, List, [], ◌∷◌, map, flat_map}
use Rattle.std.specs.declared.collections.VecDeque.{VecDeque}
use Rattle.indexmap.specs.IndexMap.{get, IndexMap}
use Rattle.tw_rows.specs.Bag.{total}
use Rattle.tw_rows.specs.declared.cells.Datum.{Datum}
use Rattle.tw_rows.specs.declared.edge.HeldRow.{HeldRow}
use Rattle.tw_rows.specs.SameCells.{same_cells}
use Rattle.edge_history.specs.Order.{failing}
use Rattle.sweep_laws.specs.Queues.{held_with}
use Rattle.synopsis.specs.declared.moves.Moves.{Moves}

abbrev pub times_if : {S : Type 0} → Option (VecDeque ℕ S) → List ℕ
times_if None = []
times_if (Some d) = d.items

-- the open starts of the row of these cells, the earliest first
abbrev pub since_at : {S H : Type 0} → IndexMap (List Datum) (VecDeque ℕ S) H → List Datum → List ℕ
since_at starts cells = times_if (get same_cells starts cells)

-- the rows of a map one by one: a row with the starts 1 and 3 is two
abbrev pub rows_in : {S : Type 0} → List (List Datum × VecDeque ℕ S) → List HeldRow
rows_in es = flat_map (λ e. held_with e.0 e.1.items) es

-- a row that is kept has an open start: one whose starts have all ended is not kept
abbrev pub EachIsOpen : {S H : Type 0} → IndexMap (List Datum) (VecDeque ℕ S) H → Type 0
EachIsOpen starts = (cells : List Datum) → since_at starts cells ≡ [] → get same_cells starts cells ≡ None

-- how often a row ends and starts by the moves, and the rows of the moves
abbrev pub ends_of : List Moves → List Datum → ℕ
ends_of ms c = total (λ m. cond (same_cells m.cells c) m.ends 0) ms

abbrev pub starts_of : List Moves → List Datum → ℕ
starts_of ms c = total (λ m. cond (same_cells m.cells c) m.starts 0) ms

abbrev pub rows_of : List Moves → List (List Datum)
rows_of ms = map (λ m. m.cells) ms

-- no row stands twice
abbrev pub AreOnce : List Moves → Type 0
AreOnce [] = Unit {0}
AreOnce (m ∷ ms) = (failing (λ n. not (same_cells m.cells n.cells)) ms ≡ 0) × AreOnce ms
