-- The rows that are alive, as one list.
use Rattle.std.specs.Prelude.{List}
use Rattle.tw_rows.specs.declared.edge.HeldRow.{HeldRow}

-- the rows, in no order
pub record AliveRows : Type 0 where
  pub rows : List HeldRow
