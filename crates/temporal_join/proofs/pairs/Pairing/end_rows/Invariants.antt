use Rattle.std.proofs.Common.{◌≡◌, ◌+◌, ◌≤◌, take, ℕ, false}
use Rattle.tw_rows.specs.Bag.{total}
use Rattle.tw_rows.specs.declared.edge.HeldRow.{HeldRow}
use Rattle.edge_history.specs.Opens.{ended_rows}
use Rattle.sweep_laws.specs.Moves.{Adds}
use Rattle.temporal_join.specs.Pairing.{other_key, told_pairs}
use Rattle.temporal_join.proofs.pairs.Pairing.end_rows.Given as goal

abbrev pub invariant-loop-edge : goal.invariant-loop-edge
invariant-loop-edge l = record {
  key : l.rows.key ≡ l.fn.rows.key;
  ended : ((w : HeldRow → ℕ) → total w (ended_rows l.now) ≤ total w l.fn.rows.rows) → (w : HeldRow → ℕ) →
      total w l.fn.rows.rows ≡ total w l.rows.rows + total w (ended_rows (take l.edge-index l.now));
  fewer : (w : HeldRow → ℕ) → total w l.rows.rows ≤ total w l.fn.rows.rows;
  told : l.others.key ≡ other_key l.self → ((w : HeldRow → ℕ) → total w (ended_rows l.now) ≤ total w l.fn.rows.rows) →
      Adds l.fn.answer.items l.answer.items (told_pairs l.self false (ended_rows (take l.edge-index l.now)) l.others.rows);
}
