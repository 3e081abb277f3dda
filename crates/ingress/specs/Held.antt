-- What is held of a stream until a punctuation: edges in no order, by balance.
use Rattle.std.specs.Prelude.{◌≡◌, ℕ, List, ◌++◌}
use Rattle.tw_rows.specs.Instant.{inf}
use Rattle.tw_rows.specs.declared.cells.Datum.{Datum}
use Rattle.tw_rows.specs.declared.edge.Edge.{Edge}
use Rattle.edge_history.specs.Order.{failing, is_real, is_below, is_from, Rises}
use Rattle.edge_history.specs.History.{CellEvent}
use Rattle.edge_history.specs.Balance.{AreEventsOf}

-- the edges that were given are in order and below p, those that are held come at p or later, and together they are the
-- edges of the rows. Of a row over [3, 9) and p = 5: given the start at 3, held the end at 9; or given the interval edge
pub record IsHeld (p : ℕ) (given held : List Edge) (rows : List CellEvent) : Type 0 where
  pub events : AreEventsOf (given ++ held) rows
  pub real : failing is_real (given ++ held) ≡ 0
  pub order : Rises 0 given
  pub below : failing (is_below p) given ≡ 0
  pub from : failing (is_from p) held ≡ 0

-- the edge of these times and cells. With sync 3 and other 9 it is the interval edge of a row over [3, 9)
abbrev pub edge_with : ℕ → ℕ → List Datum → Edge
edge_with sync other cells = record { sync = sync; other = other; cells = cells }

-- the edge of an open start, and the row that it is until its end comes
abbrev pub start_of : List Datum → ℕ → Edge
start_of cells start = record { sync = start; other = inf; cells = cells }

abbrev pub open_row : List Datum → ℕ → CellEvent
open_row cells start = record { row = cells; start = start; end = inf }
