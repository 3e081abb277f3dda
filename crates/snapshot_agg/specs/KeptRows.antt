-- The rows that are alive, and the ends that are known of some of them.
use Rattle.std.specs.Prelude.{◌≡◌, ◌+◌, ◌∷◌, ℕ, true, List}
use Rattle.tw_rows.specs.Bag.{total}
use Rattle.edge_history.specs.Order.{is_end}
use Rattle.tw_rows.specs.declared.edge.Edge.{Edge}
use Rattle.tw_rows.specs.declared.edge.HeldRow.{HeldRow}

-- the row that an end edge ends: an end at 7 of a row since 3 ends the row since 3
abbrev pub row_ended : Edge → HeldRow
row_ended e = record { cells = e.cells; start = e.other }

-- all rows that are alive, in no order, and the pending end edges of those that are kept with their ends. Of a row since 3, and
-- one since 4 that ends at 9: both rows, and the end edge at 9
pub record RowsAndEnds : Type 0 where
  pub held : List HeldRow
  pub ends : List Edge

pub record KeptRows : Type 0 where
  pub rows : RowsAndEnds

-- the first row that was kept with its end was taken out, whose end edge comes at t. At 9, of the two rows above the one since 4
pub record IsEnded (e : Edge) (t : ℕ) (old new : RowsAndEnds) : Type 0 where
  pub first : old.ends ≡ e ∷ new.ends
  pub at : e.sync ≡ t
  pub ends : is_end e ≡ true
  pub row : (w : HeldRow → ℕ) → total w old.held ≡ total w new.held + w (row_ended e)
