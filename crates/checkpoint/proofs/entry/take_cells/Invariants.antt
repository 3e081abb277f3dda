-- The cells so far, and those that the rest of the fields spells, are those that all fields spell.
use Rattle.std.proofs.Common.{◌≡◌, drop}
use Rattle.row_reader.specs.Fields.{left}
use Rattle.checkpoint.specs.Reading.{cells_of}
use Rattle.checkpoint.proofs.Cells.{then_cells}
use Rattle.checkpoint.proofs.entry.take_cells.Given as goal

abbrev pub invariant-loop-kind : goal.invariant-loop-kind
invariant-loop-kind l = cells_of l.kinds (left l.fn.fields) ≡ then_cells l.cells.items (cells_of (drop l.kind-index l.kinds) (left l.fields))
