-- What is kept of rows: how often each ends and starts at an instant, and its open starts.
use Rattle.std.specs.Prelude.{◌≡◌, ℕ, nat_lt, ◌&&◌, Bool, true, cond, List, [], ◌∷◌, ◌++◌, map, length, replicate, All}
use Rattle.std.specs.Ordering.{eq_by_cmp}
use Rattle.std.specs.declared.collections.VecDeque.{VecDeque}
use Rattle.indexmap.specs.IndexMap.{IndexMap}
use Rattle.tw_rows.specs.Bag.{total}
use Rattle.tw_rows.specs.Rows.{Row, row_cmp}
use Rattle.tw_rows.specs.declared.cells.Datum.{Datum}
use Rattle.tw_rows.specs.declared.cells.Datum.TheVariants.{Int as IntDatum, Bool as FlagDatum, Text as PlaceDatum}
use Rattle.tw_rows.specs.SameCells.{same_cells}
use Rattle.tw_rows.specs.declared.edge.Edge.{Edge}
use Rattle.edge_history.specs.Opens.{ended_of, started_of}
use Rattle.tw_rows.specs.Cells.{read_cells}
use Rattle.plan_laws.specs.RowCells.{cells_of}
use Rattle.synopsis.specs.Kept.{since_at}
use Rattle.egress.specs.declared.moves.Moves.{Moves}

-- how often a row ends at the instant, and how often it starts; 0 where no moves are of it. Of moves of the row 7 with two
-- ends and one start it ends twice and starts once, and the row 8 never
abbrev pub ends_in : List (List ℕ) → List Moves → Row → ℕ
ends_in texts touched r = total (λ m. cond (eq_by_cmp row_cmp r (read_cells texts m.cells)) m.ends 0) touched

abbrev pub starts_in : List (List ℕ) → List Moves → Row → ℕ
starts_in texts touched r = total (λ m. cond (eq_by_cmp row_cmp r (read_cells texts m.cells)) m.starts 0) touched

-- the rows of moves, in their order. With the text `a`, moves of the cells place 0 are of the row `a`
abbrev pub rows_of : List (List ℕ) → List Moves → List Row
rows_of texts touched = map (λ m. read_cells texts m.cells) touched

-- the moves of one edge: an end edge ends its row once, and any other starts it once
abbrev pub moves_of : Edge → Moves
moves_of e = record { cells = e.cells; ends = length (ended_of e); starts = length (started_of e) }

-- the cells of all moves pass the test, as that of being placed in a table
abbrev pub KeepCells : (List Datum → Bool) → List Moves → Type 0
KeepCells p touched = All (λ m. p m.cells ≡ true) touched

-- the datum is no place, or that of a text of the table. With one text place 0 passes, and place 1 does not
abbrev pub is_placed : List (List ℕ) → Datum → Bool
is_placed texts (IntDatum x) = true
is_placed texts (FlagDatum b) = true
is_placed texts (PlaceDatum id) = nat_lt id (length texts)

-- each datum of cells passes
abbrev pub are_placed : List (List ℕ) → List Datum → Bool
are_placed texts [] = true
are_placed texts (d ∷ ds) = is_placed texts d && are_placed texts ds

-- the cells are placed and read as the row. With the text `a`, place 0 stands for the row `a`
abbrev pub stand_for : List (List ℕ) → Row → List Datum → Bool
stand_for texts r cells = are_placed texts cells && eq_by_cmp row_cmp (read_cells texts cells) r

-- the open starts of a row: those of its cells. With the text `a`, of the row `a` those of place 0
abbrev pub since_in : {S H : Type 0} → List (List ℕ) → IndexMap (List Datum) (VecDeque ℕ S) H → Row → List ℕ
since_in texts opens r = since_at opens (cells_of texts r)

-- the cells of each row that is open pass the test: where place 0 alone is open, a test that place 1 fails may be passed
abbrev pub OpensPass : (List Datum → Bool) → (List Datum → List ℕ) → Type 0
OpensPass p since = (cells : List Datum) (t : ℕ) (rest : List ℕ) → since cells ≡ t ∷ rest → p cells ≡ true

-- a time was added so often to those of the row of these cells, and the other rows have theirs
abbrev pub HasAdded : {S H : Type 0} → List Datum → ℕ → ℕ → IndexMap (List Datum) (VecDeque ℕ S) H → IndexMap (List Datum) (VecDeque ℕ S) H → Type 0
HasAdded cells time count old new = (c : List Datum) → since_at new c ≡ cond (same_cells cells c) (since_at old c ++ replicate count time) (since_at old c)
