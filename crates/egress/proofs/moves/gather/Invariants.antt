use Rattle.std.proofs.Common.{◌≡◌, take, map, Bool, List, ℕ}
use Rattle.std.specs.List.{dedup}
use Rattle.tw_rows.specs.Cells.{read_cells}
use Rattle.tw_rows.specs.Rows.{Row}
use Rattle.tw_rows.specs.declared.cells.Datum.{Datum}
use Rattle.edge_history.specs.Order.{failing}
use Rattle.plan_laws.specs.Places.{AreDistinct, EdgesArePlaced}
use Rattle.egress.specs.Kept.{ends_in, starts_in, rows_of, KeepCells}
use Rattle.egress.proofs.Gathered.{same}
use Rattle.egress.proofs.Tallied.{ended_often, started_often}
use Rattle.egress.proofs.moves.gather.Given as goal

abbrev pub invariant-loop-edge : goal.invariant-loop-edge
invariant-loop-edge l = record {
  ends : (texts : List (List ℕ)) (r : Row) → ends_in texts l.touched.items r ≡ ended_often texts r (take l.edge-index l.edges);
  starts : (texts : List (List ℕ)) (r : Row) → starts_in texts l.touched.items r ≡ started_often texts r (take l.edge-index l.edges);
  rows : (texts : List (List ℕ)) → AreDistinct texts → EdgesArePlaced texts l.edges → rows_of texts l.touched.items ≡ dedup same (map (λ e. read_cells texts e.cells) (take l.edge-index l.edges));
  cells : (p : List Datum → Bool) → failing (λ e. p e.cells) l.edges ≡ 0 → KeepCells p l.touched.items;
}
