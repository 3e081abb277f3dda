-- There is a column for each item so far.
use Rattle.std.proofs.Common.{◌≡◌, map, take}
use Rattle.batch.specs.Payloads.{payload_kind}
use Rattle.batch.specs.PoolsView.{all_taken}
use Rattle.lane_expr.specs.Kernels.{result_kind}
use Rattle.where_select.specs.Projects.{exprs_of, AreColumns}
use Rattle.where_select.proofs.project.item_columns.Given as goal

abbrev pub invariant-loop-i : goal.invariant-loop-i
invariant-loop-i l = record {
  columns : AreColumns l.texts l.batch (exprs_of l.texts (take l.i l.fn.items)) l.columns.items;
  kinds : map payload_kind l.columns.items ≡ map result_kind (take l.i l.fn.items);
  taken : l.pools ≡ all_taken l.fn.pools (map result_kind (take l.i l.fn.items));
  same : l.items ≡ l.fn.items;
  room : l.columns.capacity ≡ 32;
}
