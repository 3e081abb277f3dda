use Rattle.std.proofs.Common.{◌≡◌, ◌++◌, drop}
use Rattle.csv.specs.Writing.{default_writer, escaped}
use Rattle.row_reader.specs.RecordTexts.{Begins}
use Rattle.row_reader.proofs.field.push_doubled.Given as goal

abbrev pub invariant-loop-byte : goal.invariant-loop-byte
invariant-loop-byte l = record {
  items : l.out.items ++ escaped default_writer (drop l.byte-index l.text) ≡ l.fn.out.items ++ escaped default_writer l.text;
  begins : Begins l.fn.out.items l.out.items;
}
