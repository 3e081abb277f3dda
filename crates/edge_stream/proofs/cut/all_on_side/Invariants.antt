-- The rows before this one hold no edge of the other side.
use Rattle.std.proofs.Common.{◌≡◌, drop}
use Rattle.std.specs.List.{list_all}
use Rattle.batch.specs.Rows.{edges_of}
use Rattle.edge_stream.specs.Sides.{is_on_side}
use Rattle.edge_stream.proofs.cut.all_on_side.Given as goal

abbrev pub invariant-loop-i : goal.invariant-loop-i
invariant-loop-i l = list_all (is_on_side l.side l.t) (edges_of l.batch.rows) ≡ list_all (is_on_side l.side l.t) (edges_of (drop l.i l.batch.rows))
