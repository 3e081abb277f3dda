use Rattle.std.proofs.Common.{◌≡◌, ◌+◌, ℕ, take, map, true}
use Rattle.std.specs.Prelude.{nat_le}
use Rattle.tw_rows.specs.Bag.{total}
use Rattle.tw_rows.specs.Instant.{later}
use Rattle.tw_rows.specs.declared.edge.HeldRow.{HeldRow}
use Rattle.edge_history.specs.Order.{failing}
use Rattle.edge_history.specs.Opens.{started_rows}
use Rattle.sweep_laws.specs.Moves.{Adds, told_at}
use Rattle.session_window.specs.Kept.{Await, waits_from}
use Rattle.session_window.specs.Sessions.{IsLike}
use Rattle.session_window.proofs.sessions.Sessions.start_all.Given as goal

abbrev pub invariant-loop-edge : goal.invariant-loop-edge
invariant-loop-edge l = record {
  rows : (w : HeldRow → ℕ) → total w l.self.rows.rows ≡ total w l.fn.self.rows.rows + total w (started_rows (take l.edge-index l.now));
  told : Adds l.fn.answer.items l.answer.items (map (told_at true l.t) (started_rows (take l.edge-index l.now)));
  awaits : Await l.fn.self.timeout l.fn.self.rows.key l.fn.self.rows.rows l.fn.self.ends → Await l.fn.self.timeout l.fn.self.rows.key l.self.rows.rows l.self.ends;
  later : (u : ℕ) → failing (λ e. nat_le u (later l.fn.self.timeout e.sync)) l.now ≡ 0 → failing (waits_from u) l.fn.self.ends ≡ 0 → failing (waits_from u) l.self.ends ≡ 0;
  like : IsLike l.fn.self l.self;
}
