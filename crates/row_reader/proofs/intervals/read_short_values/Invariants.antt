use Rattle.std.proofs.Common.{◌≡◌, ◌+◌, length, drop, true}
use Rattle.csv.specs.Records.{AllText}
use Rattle.row_reader.specs.Drafted.{row_in, AreKnown}
use Rattle.row_reader.specs.Fields.{left}
use Rattle.row_reader.specs.declared.fields.Fields.TheVariants.{Plain}
use Rattle.row_reader.proofs.Reading.{AreRead}
use Rattle.row_reader.proofs.intervals.read_short_values.Given as goal

abbrev pub invariant-loop-i : goal.invariant-loop-i
invariant-loop-i l = record {
  read : AreRead (left (Plain l.fn.values)) l.columns l.i (row_in (left (Plain l.fn.values)) l.row.items) (left (Plain l.rest));
  behind : left (Plain l.rest) ≡ drop (length l.row.items) (left (Plain l.fn.values));
  many : length (left (Plain l.fn.values)) ≡ l.i + length (left (Plain l.rest));
  are_known : l.known ≡ true → AreKnown l.texts (left (Plain l.fn.values)) l.row.items;
  all_text : AllText (left (Plain l.rest));
}
