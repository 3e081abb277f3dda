use Rattle.std.proofs.Common.{◌≡◌, ◌+◌, ℕ, take}
use Rattle.tw_rows.specs.Bag.{total}
use Rattle.tw_rows.specs.declared.edge.HeldRow.{HeldRow}
use Rattle.edge_history.specs.Order.{failing}
use Rattle.session_window.specs.Kept.{HasOne, is_placed_at}
use Rattle.session_window.specs.Sessions.{IsLike}
use Rattle.session_window.proofs.saving.put_block.Given as goal

abbrev pub invariant-loop-row : goal.invariant-loop-row
invariant-loop-row l = record {
  rows : (w : HeldRow → ℕ) → total w l.sessions.rows.rows ≡ total w l.fn.sessions.rows.rows + total w (take l.row-index l.rows);
  one : HasOne l.fn.sessions.rows.key l.fn.sessions.rows.rows l.fn.sessions.ends → HasOne l.fn.sessions.rows.key l.sessions.rows.rows l.sessions.ends;
  at : failing (is_placed_at l.at) l.fn.sessions.ends ≡ 0 → failing (is_placed_at l.at) l.sessions.ends ≡ 0;
  like : IsLike l.fn.sessions l.sessions;
}
