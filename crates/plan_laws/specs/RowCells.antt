-- The cells that stand for a row in a table of texts.
use Rattle.std.specs.Prelude.{ℕ, List, map}
use Rattle.std.specs.Str.{bytes_eq}
use Rattle.std.specs.List.{position_or_len}
use Rattle.tw_rows.specs.Rows.{Row}
use Rattle.tw_rows.specs.declared.row.Value.{Value}
use Rattle.tw_rows.specs.declared.row.Value.TheVariants.{Int, Bool as Flag, Text}
use Rattle.tw_rows.specs.declared.cells.Datum.{Datum}
use Rattle.tw_rows.specs.declared.cells.Datum.TheVariants.{Int as IntDatum, Bool as FlagDatum, Text as PlaceDatum}

-- the datum of a value: of a text its place, which is the number of texts where the table does not have it
abbrev pub datum_of : List (List ℕ) → Value → Datum
datum_of texts (Int x) = IntDatum x
datum_of texts (Flag b) = FlagDatum b
datum_of texts (Text t) = PlaceDatum (position_or_len (bytes_eq t) texts)

-- the cells of a row. With the texts `a` and `b`, the row `b`, 7 has the cells place 1, 7
abbrev pub cells_of : List (List ℕ) → Row → List Datum
cells_of texts row = map (datum_of texts) row
