-- What was compared is equal: what is left decides.
use Rattle.std.proofs.Common.{◌≡◌}
use Rattle.tw_rows.specs.Cells.{read_cells}
use Rattle.tw_rows.specs.Rows.{row_cmp}
use Rattle.egress.proofs.Ordered.{left}
use Rattle.egress.proofs.order.cmp_cells.Given as goal

abbrev pub invariant-loop-i : goal.invariant-loop-i
invariant-loop-i l = row_cmp (read_cells l.texts l.a) (read_cells l.texts l.b) ≡ row_cmp (left l.texts l.a l.i) (left l.texts l.b l.i)
