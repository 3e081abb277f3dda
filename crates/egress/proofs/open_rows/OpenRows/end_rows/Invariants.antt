use Rattle.std.proofs.Common.{◌≡◌, Bool, List}
use Rattle.tw_rows.specs.declared.cells.Datum.{Datum}
use Rattle.synopsis.specs.Kept.{since_at, EachIsOpen}
use Rattle.egress.specs.Kept.{since_in, OpensPass}
use Rattle.egress.proofs.Shown.{Ending}
use Rattle.egress.proofs.open_rows.OpenRows.end_rows.Given as goal

abbrev pub invariant-loop-moves : goal.invariant-loop-moves
invariant-loop-moves l = record {
  kinds : l.self.kinds ≡ l.fn.self.kinds;
  ending : Ending l.texts l.touched l.at l.fn.self.kinds.items (since_in l.texts l.fn.self.starts) l.fn.self.lines.items l.moves-index (since_in l.texts l.self.starts) l.self.lines.items;
  passed : (p : List Datum → Bool) → OpensPass p (since_at l.fn.self.starts) → OpensPass p (since_at l.self.starts);
  kept : EachIsOpen l.fn.self.starts → EachIsOpen l.self.starts;
}
