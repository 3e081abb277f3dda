use Rattle.std.proofs.Common.{◌≡◌, ◌+◌, length, drop}
use Rattle.row_reader.specs.Drafted.{row_in}
use Rattle.row_reader.specs.Fields.{left}
use Rattle.row_reader.proofs.Reading.{AreRead}
use Rattle.row_reader.proofs.read.read_values.Given as goal

abbrev pub invariant-loop-i : goal.invariant-loop-i
invariant-loop-i l = record {
  read : AreRead (left l.fn.fields) l.schema l.i (row_in (left l.fn.fields) l.row.items) (left l.fields);
  behind : left l.fields ≡ drop (length l.row.items) (left l.fn.fields);
  many : length (left l.fn.fields) ≡ l.i + length (left l.fields);
}
