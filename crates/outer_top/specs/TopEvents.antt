-- The events of a Top over rows of cells, and what is held of them just before an instant.
use Rattle.std.specs.Prelude.{◌≡◌, ℕ, ◌≤◌, List}
use Rattle.std.specs.List.{IsDistinct}
use Rattle.std.specs.Map.{keys_of}
use Rattle.tw_rows.specs.Bag.{SameBag}
use Rattle.tw_rows.specs.Event.{alive}
use Rattle.tw_rows.specs.SameCells.{same_cells}
use Rattle.tw_rows.specs.declared.cells.Datum.{Datum}
use Rattle.tw_rows.specs.declared.edge.Edge.{Edge}
use Rattle.tw_rows.specs.declared.edge.HeldRow.{HeldRow}
use Rattle.edge_history.specs.History.{CellEvent}
use Rattle.edge_history.specs.Opens.{opens}
use Rattle.key_nodes.specs.Coalesced.{coalesced}
use Rattle.key_nodes.specs.Tops.{top_rows}
use Rattle.synopsis.specs.Queued.{AreQueues}
use Rattle.sweep_laws.specs.Sweeps.{IsDue, Tells}
use Rattle.outer_top.specs.TopKeys.{TopEntry, kept_rows, value_of, meets, AreTopRows, unsettled}

-- of rows those that a top shows
abbrev pub tops_of : List ℕ → ℕ → ℕ → List (List Datum) → List (List Datum)
tops_of columns by most rows = top_rows (meets columns) (value_of by) most rows

-- those that it shows at each instant
abbrev pub tops_at : List ℕ → ℕ → ℕ → List CellEvent → ℕ → List (List Datum)
tops_at columns by most a t = tops_of columns by most (alive a t)

-- its events
abbrev pub tops : List ℕ → ℕ → ℕ → List CellEvent → List CellEvent
tops columns by most a = coalesced same_cells (tops_at columns by most a)

-- the rows of all keys are settled, each key once
pub record AreSettled (columns : List ℕ) (by most : ℕ) (es : List TopEntry) : Type 0 where
  pub rows : AreTopRows columns by es
  pub settled : unsettled most es ≡ 0
  pub apart : IsDistinct same_cells (keys_of es)

-- just before t: the rows that are alive, and the open starts of those that are shown
pub record TopHeld (columns : List ℕ) (by most : ℕ) (a : List CellEvent) (t : ℕ) (es : List TopEntry) (rows : List HeldRow) : Type 0 where
  pub keys : AreSettled columns by most es
  pub kept : SameBag (kept_rows es) (opens t a)
  pub queues : AreQueues (tops_at columns by most a) t rows

-- so far: up to u, with these edges left
pub record TopReached (columns : List ℕ) (by most : ℕ) (a : List CellEvent) (from u to : ℕ) (rest : List Edge)
    (es : List TopEntry) (rows : List HeldRow) (before after : List Edge) : Type 0 where
  pub low : from ≤ u
  pub due : IsDue a u to rest
  pub now : TopHeld columns by most a u es rows
  pub told : Tells (tops columns by most a) from u before after
