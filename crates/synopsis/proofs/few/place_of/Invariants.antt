use Rattle.std.proofs.Common.{◌≡◌, take}
use Rattle.edge_history.specs.Order.{many}
use Rattle.edge_history.specs.Opens.{is_held}
use Rattle.synopsis.proofs.few.place_of.Given as goal

abbrev pub invariant-loop-i : goal.invariant-loop-i
invariant-loop-i l = many (is_held l.cells l.start) (take l.i l.rows) ≡ 0
