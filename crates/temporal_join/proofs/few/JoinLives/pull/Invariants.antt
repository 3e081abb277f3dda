use Rattle.std.proofs.Common.{◌≡◌, ◌++◌, map, length}
use Rattle.std.specs.Prelude.{All}
use Rattle.tw_rows.specs.Cells.{datum_kind}
use Rattle.edge_history.specs.Order.{failing}
use Rattle.temporal_join.specs.Lives.{is_begun}
use Rattle.temporal_join.proofs.few.JoinLives.pull.Given as goal

abbrev pub invariant-edges : goal.invariant-edges
invariant-edges l = record {
  edges : l.now.items ++ l.cursor.edges ≡ l.fn.now.items ++ l.fn.cursor.edges;
  begun : failing (is_begun l.t) l.fn.now.items ≡ 0 → failing (is_begun l.t) l.now.items ≡ 0;
  cells : All (λ e. map datum_kind e.cells ≡ l.fn.cursor.kinds) l.cursor.edges → All (λ e. map datum_kind e.cells ≡ l.fn.cursor.kinds) l.fn.cursor.edges;
  kinds : l.cursor.kinds ≡ l.fn.cursor.kinds;
}

abbrev pub decreases-edges : goal.decreases-edges
decreases-edges l = length l.cursor.edges
