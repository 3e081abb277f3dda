use Rattle.std.proofs.Common.{◌≡◌, length, take, drop}
use Rattle.csv.specs.Records.{AllText}
use Rattle.tw_rows.proofs.CellReads.{IsTaken}
use Rattle.row_reader.specs.Drafted.{row_in}
use Rattle.row_reader.specs.Fields.{left}
use Rattle.row_reader.proofs.value.place_texts.Given as goal

abbrev pub invariant-loop-i : goal.invariant-loop-i
invariant-loop-i l = record {
  taken : IsTaken l.fn.texts (row_in (left l.fn.fields) l.fn.row.items) l.i l.texts (take l.i l.row.items);
  rest : drop l.i l.row.items ≡ drop l.i l.fn.row.items;
  long : length l.row.items ≡ length l.fn.row.items;
  behind : left l.fields ≡ drop l.i (left l.fn.fields);
  texts_left : AllText (left l.fields);
}
