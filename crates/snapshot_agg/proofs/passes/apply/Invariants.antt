use Rattle.std.proofs.Common.{◌≡◌, ◌+◌, ◌≤◌, drop, take, ℕ, List, [], length}
use Rattle.std.specs.List.{list_any}
use Rattle.tw_rows.specs.Bag.{total}
use Rattle.tw_rows.specs.declared.edge.HeldRow.{HeldRow}
use Rattle.tw_rows.specs.SameCells.{same_cells}
use Rattle.tw_rows.specs.declared.cells.Datum.{Datum}
use Rattle.edge_history.specs.Opens.{ended_rows, started_rows}
use Rattle.sweep_laws.specs.Grouping.{keys_of}
use Rattle.snapshot_agg.specs.Words.{key_data}
use Rattle.sweep_laws.specs.Changes.{TakeAtMost}
use Rattle.snapshot_agg.specs.Counting.{IsCounted}
use Rattle.snapshot_agg.proofs.passes.apply.Given as goal

abbrev pub decreases-loop-next : goal.decreases-loop-next
decreases-loop-next l = l.next

abbrev pub invariant-loop-next : goal.invariant-loop-next
invariant-loop-next l = record {
  within : l.next ≤ length l.fn.now;
  first : take l.next l.now ≡ take l.next l.fn.now;
  counted : IsCounted l.groups;
  settled : l.groups.rows.rows.ends ≡ [];
  moved : ((w : HeldRow → ℕ) → total w (ended_rows l.fn.now) ≤ total w l.fn.groups.rows.rows.held) → (w : HeldRow → ℕ) →
      total w l.groups.rows.rows.held + total w (ended_rows (drop l.next l.fn.now)) ≡ total w l.fn.groups.rows.rows.held + total w (started_rows (drop l.next l.fn.now));
  fewer : TakeAtMost l.fn.groups.rows.rows.held l.groups.rows.rows.held (started_rows (drop l.next l.fn.now));
  touched : (q : List Datum) → list_any (same_cells q) l.groups.touched.items ≡ list_any (same_cells q) (keys_of (key_data l.fn.groups.key.items) (drop l.next l.fn.now));
  same_key : l.groups.key ≡ l.fn.groups.key;
  same_aggs : l.groups.aggs ≡ l.fn.groups.aggs;
}
