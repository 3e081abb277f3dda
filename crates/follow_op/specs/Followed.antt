-- The events of a Follow over rows of cells.
use Rattle.std.specs.Prelude.{ℕ, Bool, List}
use Rattle.std.specs.List.{list_any}
use Rattle.tw_rows.specs.Instant.{later}
use Rattle.tw_rows.specs.declared.cells.Datum.{Datum}
use Rattle.tw_rows.specs.declared.edge.Edge.{Edge}
use Rattle.tw_rows.specs.declared.edge.HeldRow.{HeldRow}
use Rattle.edge_history.specs.History.{CellEvent}
use Rattle.key_nodes.specs.Follows.{followed}
use Rattle.plan_laws.specs.Keeping.{plain_cells}
use Rattle.plan_model.specs.Keys.{paired_row}
use Rattle.plan_model.specs.RowOps.{keys_equal_in}

-- the rows have the same data in their key columns
abbrev pub follow_meets : List ℕ → List ℕ → List Datum → List Datum → Bool
follow_meets left_key right_key a b = keys_equal_in plain_cells left_key right_key a b

-- each left event with the right events of its key that start next after it, within the time. Within 5, of a left start at 1
-- and right starts at 1, 4 and 5: that at 4, over [4, 6)
abbrev pub follows : List ℕ → List ℕ → ℕ → List CellEvent → List CellEvent → List CellEvent
follows left_key right_key within a b = followed (follow_meets left_key right_key) (paired_row right_key) within a b

-- the edge has the data of the left row in its key columns, and one of the edges has
abbrev pub is_met : List ℕ → List ℕ → Edge → HeldRow → Bool
is_met left_key right_key x r = follow_meets left_key right_key r.cells x.cells

abbrev pub is_followed : List ℕ → List ℕ → List Edge → HeldRow → Bool
is_followed left_key right_key edges r = list_any (λ x. is_met left_key right_key x r) edges

-- the event of a left row that waits with a right row that starts at t, as an interval edge: its end is known. Within 5 of a
-- row from 1 on, with one that starts at 4: from 4 to 6
abbrev pub match_told : List ℕ → ℕ → ℕ → List Datum → HeldRow → Edge
match_told right_key within t right l = record { sync = t; other = later within l.start; cells = paired_row right_key l.cells right }
