use Rattle.std.proofs.Common.{◌≡◌, ◌++◌, drop, length}
use Rattle.csv.specs.Writing.{default_writer, fields_text}
use Rattle.tw_rows.specs.Cells.{read_cells}
use Rattle.row_reader.specs.FieldTexts.{row_texts}
use Rattle.row_reader.specs.RecordTexts.{Begins}
use Rattle.row_reader.proofs.output_line.push_cells.Given as goal

abbrev pub invariant-loop-kind : goal.invariant-loop-kind
invariant-loop-kind l = record {
  can : (goal.iterator-loop-kind).can_next l.kind-iterator;
  ends : (goal.iterator-loop-kind).is_finite l.kind-iterator;
  items : l.out.items ++ fields_text default_writer (row_texts (drop (length l.yielded) l.kinds) (drop (length l.yielded) (read_cells l.texts l.cells))) ≡ l.fn.out.items ++ fields_text default_writer (row_texts l.kinds (read_cells l.texts l.cells));
  begins : Begins l.fn.out.items l.out.items;
}
