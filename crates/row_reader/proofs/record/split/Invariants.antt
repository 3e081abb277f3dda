use Rattle.csv.specs.Records.{fields_of, partial_of}
use Rattle.row_reader.proofs.Records.{IsSplit}
use Rattle.row_reader.proofs.record.split.Given as goal

abbrev pub invariant-loop-byte : goal.invariant-loop-byte
invariant-loop-byte l = IsSplit l.line l.byte-index l.place (fields_of l.fields) l.field.items (partial_of l.fields)
