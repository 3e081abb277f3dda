-- A row whose texts are still in the fields of their line.
use Rattle.std.specs.Prelude.{◌≡◌, ◌<◌, ◌^◌, ℕ, Bool as Truth, true, List, [], ◌∷◌, Some, Ok, drop, codes, decimal}
use Rattle.tw_rows.specs.Rows.{Row}
use Rattle.tw_rows.specs.Cells.{IsPlaced, ArePlaced, read_datum, read_cells, with_value, with_row}
use Rattle.tw_rows.specs.declared.row.Value.{Value}
use Rattle.tw_rows.specs.declared.row.Value.TheVariants.{Int, Bool as Flag, Text}
use Rattle.tw_rows.specs.declared.cells.Datum.{Datum}
use Rattle.tw_rows.specs.declared.cells.Datum.TheVariants as data_of
use Rattle.tw_rows.specs.declared.kind.Kind.{Kind}
use Rattle.tw_rows.specs.declared.schema.ColumnDef.{ColumnDef}
use Rattle.row_reader.specs.Record.{field_of}
use Rattle.row_reader.specs.Values.{value_of}
use Rattle.row_reader.specs.Answers.{values_of}

-- the value of a datum that was read of this field, which is the text of one of a text
abbrev pub value_in : List ℕ → Datum → Value
value_in field (data_of.Int x) = Int x
value_in field (data_of.Bool b) = Flag b
value_in field (data_of.Text place) = Text field

-- the row of data that were read of these fields: of 7 and a text, read of the fields `7` and `a`, it is the row (7, a)
unfoldable pub row_in : List (List ℕ) → List Datum → Row
row_in fields [] = []
row_in fields (d ∷ ds) = value_in (field_of fields 0) d ∷ row_in (drop 1 fields) ds

-- none of the data is of a text
abbrev pub HaveNoText : List Datum → Type 0
HaveNoText [] = Unit {0}
HaveNoText (data_of.Int x ∷ ds) = HaveNoText ds
HaveNoText (data_of.Bool b ∷ ds) = HaveNoText ds
HaveNoText (data_of.Text place ∷ ds) = ⊥

-- the datum is that of the value of the field in the table, and the table has its text
pub record IsKnown (texts : List (List ℕ)) (field : List ℕ) (datum : Datum) : Type 0 where
  pub placed : IsPlaced texts datum
  pub read : read_datum texts datum ≡ value_in field datum
  pub table : with_value texts (value_in field datum) ≡ texts

-- the same of all data of a row that were read of these fields: in the table of `a` the row of the place 0 is known of the field `a`
pub record AreKnown (texts fields : List (List ℕ)) (row : List Datum) : Type 0 where
  pub placed : ArePlaced texts row
  pub read : read_cells texts row ≡ row_in fields row
  pub table : with_row texts (row_in fields row) ≡ texts

-- the first of the fields spells a value of the kind, of which this datum was read, and these are the others: of an int the first of
-- the fields `7` and `a` spells 7
pub record IsFirst (texts : List (List ℕ)) (kind : Kind) (fields : List (List ℕ)) (datum : Datum) (known : Truth) (rest : List (List ℕ)) : Type 0 where
  pub field : List ℕ
  pub first : fields ≡ field ∷ rest
  pub spells : value_of kind field ≡ Some (value_in field datum)
  pub is_known : known ≡ true → IsKnown texts field datum

-- the fields are those of an interval from start to end with these fields of its values, of which this row of data was read: `interval`,
-- `1`, `5` and `7` are those of an interval from 1 to 5 with the row of 7
pub record IsInterval (columns : List ColumnDef) (fields : List (List ℕ)) (start stop : ℕ) (values : List (List ℕ)) (row : List Datum) : Type 0 where
  pub spelled : fields ≡ codes "interval" ∷ decimal start ∷ decimal stop ∷ values
  pub life : start < stop
  pub instant : stop < 2 ^ 60
  pub read : values_of columns values ≡ Ok (row_in values row)
