use Rattle.std.proofs.Common.{◌≡◌, ◌<◌, ◌^◌, drop}
use Rattle.std.specs.Str.Parse.{AllDigits, digits_value_after}
use Rattle.row_reader.proofs.number.read_short.Given as goal

abbrev pub invariant-loop-byte : goal.invariant-loop-byte
invariant-loop-byte l = record {
  whole : AllDigits 10 (drop l.byte-index l.bytes) → AllDigits 10 l.bytes;
  rest : AllDigits 10 l.bytes → AllDigits 10 (drop l.byte-index l.bytes);
  small : l.number < 10 ^ l.byte-index;
  value : digits_value_after 10 l.number (drop l.byte-index l.bytes) ≡ digits_value_after 10 0 l.bytes;
}
