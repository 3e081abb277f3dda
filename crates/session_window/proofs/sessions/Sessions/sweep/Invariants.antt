use Rattle.std.proofs.Common.{◌+◌, ◌≤◌, ◌-◌, ℕ, List, drop, take, length}
use Rattle.tw_rows.specs.Bag.{total}
use Rattle.tw_rows.specs.declared.edge.HeldRow.{HeldRow}
use Rattle.edge_history.specs.Opens.{started_rows}
use Rattle.edge_history.specs.History.{CellEvent}
use Rattle.sweep_laws.specs.Sweeps.{IsDue}
use Rattle.session_window.specs.Holding.{SessionHeld, SessionReached}
use Rattle.session_window.specs.Sessions.{IsLike}
use Rattle.session_window.proofs.sessions.Sessions.sweep.Given as goal

abbrev pub decreases-instants : goal.decreases-instants
decreases-instants l = l.to - l.u

abbrev pub invariant-instants : goal.invariant-instants
invariant-instants l = record {
  within : l.i ≤ length l.due;
  rows : (w : HeldRow → ℕ) → total w l.self.rows.rows ≤ total w l.fn.self.rows.rows + total w (started_rows (take l.i l.due));
  like : IsLike l.fn.self l.self;
  reached : (a : List CellEvent) → 1 ≤ l.fn.self.timeout → IsDue a l.fn.from l.to l.due → SessionHeld l.fn.self.rows.key l.fn.self.timeout a l.fn.from l.fn.self.rows.rows l.fn.self.ends →
      SessionReached l.fn.self.rows.key l.fn.self.timeout a l.fn.from l.u l.to (drop l.i l.due) l.self.rows.rows l.self.ends l.fn.answer.items l.answer.items;
}
