-- The events of a Session over rows of cells.
use Rattle.std.specs.Prelude.{ℕ, List}
use Rattle.tw_rows.specs.SameCells.{same_cells}
use Rattle.edge_history.specs.History.{CellEvent}
use Rattle.key_nodes.specs.Sessions.{sessions}
use Rattle.synopsis.specs.Held.{key_of}

-- each event up to the end of the session of its key. With timeout 5, lifetimes of one key that start at 1, 4 and 9: all of them up
-- to 9, and that from 9 on up to 14
abbrev pub windows : List ℕ → ℕ → List CellEvent → List CellEvent
windows key timeout events = sessions (key_of key) same_cells timeout events
