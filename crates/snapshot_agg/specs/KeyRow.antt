-- What the group of a key is at an instant.
use Rattle.std.specs.Prelude.{◌≡◌, Bool, true, false, Option, List}
use Rattle.tw_rows.specs.declared.cells.Datum.{Datum}
use Rattle.snapshot_agg.specs.declared.groups.KeyRow.{KeyRow}
use Rattle.snapshot_agg.specs.declared.groups.KeyRow.TheVariants.{Undefined, Row}

-- it is undefined where the test is true, and else has the row
abbrev pub IsKeyRow : KeyRow → Bool → Option (List Datum) → Type 0
IsKeyRow Undefined b o = b ≡ true
IsKeyRow (Row r) b o = (b ≡ false) × (r ≡ o)
