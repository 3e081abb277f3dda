-- Cells: the values of a row, with each text as its place in a table.
use Rattle.std.specs.Prelude.{ℕ, ◌<◌, List, [], ◌∷◌, map, length, fold, slice_index_or}
use Rattle.tw_rows.specs.declared.row.Value.{Value}
use Rattle.tw_rows.specs.declared.row.Value.TheVariants.{Int, Bool as Flag, Text}
use Rattle.tw_rows.specs.declared.cells.Datum.{Datum}
use Rattle.tw_rows.specs.declared.cells.Datum.TheVariants.{Int as IntDatum, Bool as FlagDatum, Text as PlaceDatum}
use Rattle.tw_rows.specs.declared.kind.CellKind.{CellKind}
use Rattle.tw_rows.specs.declared.kind.CellKind.TheVariants.{Whole, Bit, Place}
use Rattle.tw_rows.specs.Rows.{Row}
use Rattle.tw_rows.specs.Texts.{interned}

-- how a datum is stored
abbrev pub datum_kind : Datum → CellKind
datum_kind (IntDatum x) = Whole
datum_kind (FlagDatum b) = Bit
datum_kind (PlaceDatum id) = Place

-- a datum of a text is the place of one. Other data are the same in every table
abbrev pub IsPlaced : List (List ℕ) → Datum → Type 0
IsPlaced texts (IntDatum x) = Unit {0}
IsPlaced texts (FlagDatum b) = Unit {0}
IsPlaced texts (PlaceDatum id) = id < length texts

abbrev pub ArePlaced : List (List ℕ) → List Datum → Type 0
ArePlaced texts [] = Unit {0}
ArePlaced texts (d ∷ ds) = IsPlaced texts d × ArePlaced texts ds

-- the value that a datum stands for. With the texts `a` and `b` the place 1 stands for `b`
abbrev pub read_datum : List (List ℕ) → Datum → Value
read_datum texts (IntDatum x) = Int x
read_datum texts (FlagDatum b) = Flag b
read_datum texts (PlaceDatum id) = Text (slice_index_or texts id [])

-- the row that cells stand for
abbrev pub read_cells : List (List ℕ) → List Datum → Row
read_cells texts cells = map (read_datum texts) cells

-- the table once the value can be a datum: a text is in it
abbrev pub with_value : List (List ℕ) → Value → List (List ℕ)
with_value texts (Int x) = texts
with_value texts (Flag b) = texts
with_value texts (Text t) = interned texts t

-- the table once each value of a row can be a datum
abbrev pub with_row : List (List ℕ) → Row → List (List ℕ)
with_row texts row = fold with_value texts row
