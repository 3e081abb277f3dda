-- Rows that leave at an instant.
use Rattle.std.specs.Prelude.{◌≡◌, ℕ, ◌+◌, ◌≤◌, Bool, true, false, cond, List, map}
use Rattle.std.specs.List.{list_any}
use Rattle.tw_rows.specs.Bag.{total}
use Rattle.tw_rows.specs.declared.cells.Datum.{Datum}
use Rattle.tw_rows.specs.declared.edge.Edge.{Edge}
use Rattle.tw_rows.specs.declared.edge.HeldRow.{HeldRow}
use Rattle.edge_history.specs.Order.{many}
use Rattle.edge_history.specs.Opens.{is_held}
use Rattle.sweep_laws.specs.Moves.{Adds, told_at}
use Rattle.union_clip.specs.Clipped.{clip_meets}

-- one of the edges has the data of the left row in its key columns. With edges of the keys 5 and 6 a row of the key 5 is met,
-- and one of the key 7 is not
abbrev pub is_met : List ℕ → List ℕ → List Edge → HeldRow → Bool
is_met left_key right_key edges r = list_any (λ x. clip_meets left_key right_key r.cells x.cells) edges

-- the row that an end edge names. An end at 7 of what began at 3 names a row from 3 on
abbrev pub row_named : Edge → HeldRow
row_named e = record { cells = e.cells; start = e.other }

-- the rows `gone` were taken out, and their ends at t were emitted. Of a row from 3 on that leaves at 8 an end at 8 that names 3
pub record Leave (gone : List HeldRow) (t : ℕ) (old new : List HeldRow) (before after : List Edge) : Type 0 where
  pub rows : (w : HeldRow → ℕ) → total w old ≡ total w new + total w gone
  pub told : Adds before after (map (told_at false t) gone)

-- of rows that end, those that were not clipped are all among the rows, and none that was clipped is. A row that was clipped at 8
-- and ends at 20 is not there at 20
pub record EndsHeld (clipped : HeldRow → Bool) (ended rows : List HeldRow) : Type 0 where
  pub held : (w : HeldRow → ℕ) → total (λ r. cond (clipped r) 0 (w r)) ended ≤ total w rows
  pub none : (cells : List Datum) (start : ℕ) → clipped (record { cells = cells; start = start }) ≡ true → many (is_held cells start) rows ≡ 0
