-- The edges from this one on are as they came.
use Rattle.std.proofs.Common.{◌≡◌, ◌+◌, take, drop, ℕ, true}
use Rattle.tw_rows.specs.Bag.{total}
use Rattle.tw_rows.specs.declared.edge.HeldRow.{HeldRow}
use Rattle.edge_history.specs.Opens.{started_rows}
use Rattle.sweep_laws.specs.Moves.{Adds}
use Rattle.temporal_join.specs.Pairing.{other_key, told_pairs}
use Rattle.temporal_join.proofs.pairs.Pairing.start_rows.Given as goal

abbrev pub invariant-loop-edge : goal.invariant-loop-edge
invariant-loop-edge l = record {
  key : l.rows.key ≡ l.fn.rows.key;
  rest : drop l.edge-index l.now ≡ drop l.edge-index l.fn.now;
  started : (w : HeldRow → ℕ) → total w l.rows.rows ≡ total w l.fn.rows.rows + total w (started_rows (take l.edge-index l.fn.now));
  told : l.others.key ≡ other_key l.self → Adds l.fn.answer.items l.answer.items (told_pairs l.self true (started_rows (take l.edge-index l.fn.now)) l.others.rows);
}
