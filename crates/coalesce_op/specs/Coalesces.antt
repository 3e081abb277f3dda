-- The events of a Coalesce over rows of cells.
use Rattle.std.specs.Prelude.{List}
use Rattle.tw_rows.specs.Event.{alive}
use Rattle.tw_rows.specs.SameCells.{same_cells}
use Rattle.edge_history.specs.History.{CellEvent}
use Rattle.key_nodes.specs.Coalesced.{coalesced}

-- the rows that are alive at each instant, put together. Of one row over [1, 9) and again over [9, 12): [1, 12)
abbrev pub coalesces : List CellEvent → List CellEvent
coalesces events = coalesced same_cells (alive events)
