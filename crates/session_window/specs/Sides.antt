-- What a side of a Session keeps.
use Rattle.std.specs.Prelude.{◌≡◌, ℕ, ◌≤◌, List, []}
use Rattle.tw_rows.specs.declared.edge.Edge.{Edge}
use Rattle.tw_rows.specs.declared.kind.CellKind.{CellKind}
use Rattle.edge_history.specs.Opens.{is_start}
use Rattle.edge_history.specs.Order.{failing}
use Rattle.sweep_sides.specs.Sides.{IsSide}
use Rattle.sweep_sides.specs.Waiting.{queued, AreTimed}
use Rattle.session_window.specs.declared.side.SessionSide.{SessionSide}
use Rattle.session_window.specs.Holding.{SessionKeeps}

-- it can be what is left, swept up to a time, after the edges came in and out was answered
pub record SideKeeps (s : SessionSide) (to : ℕ) (came out : List Edge) : Type 0 where
  pub positive : 1 ≤ s.sessions.timeout
  pub timed : AreTimed s.waiting
  pub kept : SessionKeeps s.sessions.rows.key s.sessions.timeout s.sessions.rows.rows s.sessions.ends (queued s.waiting) to came out

-- rows that began before a time, and starts from it on, of such columns
pub record SideFits (kinds : List CellKind) (to : ℕ) (s : SessionSide) : Type 0 where
  pub side : IsSide kinds to s.sessions.rows.rows s.waiting
  pub starts : failing is_start (queued s.waiting) ≡ 0

-- no row is kept, and no entry and no start waits
pub record IsEmpty (s : SessionSide) : Type 0 where
  pub positive : 1 ≤ s.sessions.timeout
  pub no_rows : s.sessions.rows.rows ≡ []
  pub no_ends : s.sessions.ends ≡ []
  pub none : s.waiting ≡ []
