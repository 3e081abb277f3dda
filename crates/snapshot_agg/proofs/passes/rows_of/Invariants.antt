use Rattle.std.proofs.Common.{◌≡◌, take, map, List, true, false}
use Rattle.std.specs.List.{list_any}
use Rattle.tw_rows.specs.SameCells.{same_cells}
use Rattle.tw_rows.specs.declared.cells.Datum.{Datum}
use Rattle.edge_history.specs.Opens.{bare}
use Rattle.snapshot_agg.specs.Words.{tell}
use Rattle.snapshot_agg.specs.Counting.{is_undefined_now}
use Rattle.snapshot_agg.proofs.passes.rows_of.Given as goal

abbrev pub invariant-loop-key : goal.invariant-loop-key
invariant-loop-key l = record {
  rows : l.rows.items ≡ map (λ k. tell l.groups.key.items l.groups.aggs.items k (bare l.groups.rows.rows.held)) (take l.key-index l.keys);
  defined : (k : List Datum) → list_any (same_cells k) (take l.key-index l.keys) ≡ true → is_undefined_now l.groups k ≡ false;
}
