use Rattle.std.proofs.Common.{◌≡◌, drop, Some}
use Rattle.row_reader.specs.Quotes.{odd_from, odd_quotes}
use Rattle.row_reader.proofs.quotes.has_odd_quotes.Given as goal

abbrev pub invariant-loop-byte : goal.invariant-loop-byte
invariant-loop-byte l = odd_quotes l.text ≡ odd_from (Some l.place) (drop l.byte-index l.text)
