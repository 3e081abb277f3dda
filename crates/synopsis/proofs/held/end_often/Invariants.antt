-- So many of the open starts are ended.
use Rattle.std.specs.Prelude.{◌≡◌, ◌++◌, List, cond, drop}
use Rattle.tw_rows.specs.declared.cells.Datum.{Datum}
use Rattle.tw_rows.specs.SameCells.{same_cells}
use Rattle.sweep_laws.specs.Queues.{queue_ends}
use Rattle.synopsis.specs.Kept.{EachIsOpen}
use Rattle.synopsis.specs.Holding.{since_of}
use Rattle.synopsis.proofs.held.end_often.Given as goal

abbrev pub invariant-loop : goal.invariant-loop
invariant-loop l = record {
  since : (c : List Datum) → since_of l.held c ≡ cond (same_cells l.cells c) (drop l.counter (since_of l.fn.held c)) (since_of l.fn.held c);
  told : l.answer.items ≡ l.fn.answer.items ++ queue_ends l.at l.counter l.cells (since_of l.fn.held l.cells);
  filled : EachIsOpen l.fn.held.starts → EachIsOpen l.held.starts;
}
