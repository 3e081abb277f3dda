use Rattle.std.proofs.Common.{◌≡◌, Bool, List, map}
use Rattle.tw_rows.specs.declared.cells.Datum.{Datum}
use Rattle.synopsis.specs.Kept.{since_at, EachIsOpen}
use Rattle.egress.specs.Kept.{moves_of, since_in, OpensPass, KeepCells}
use Rattle.egress.proofs.Shown.{Starting}
use Rattle.egress.proofs.open_rows.OpenRows.start_edges.Given as goal

abbrev pub invariant-loop-edge : goal.invariant-loop-edge
invariant-loop-edge l = record {
  kinds : l.self.kinds ≡ l.fn.self.kinds;
  starting : Starting l.texts (map moves_of l.edges) l.at l.fn.self.kinds.items (since_in l.texts l.fn.self.starts) l.fn.self.lines.items l.edge-index (since_in l.texts l.self.starts) l.self.lines.items;
  passed : (p : List Datum → Bool) → KeepCells p (map moves_of l.edges) → OpensPass p (since_at l.fn.self.starts) → OpensPass p (since_at l.self.starts);
  kept : EachIsOpen l.fn.self.starts → EachIsOpen l.self.starts;
}
