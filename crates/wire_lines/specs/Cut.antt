-- What `next_line` answers, seen as the next line.
use Rattle.wire_lines.specs.Cutter.{Next, Given, Overlong, Overfull, Wanting}
use Rattle.wire_lines.specs.declared.cutter.Cut.{Cut}
use Rattle.wire_lines.specs.declared.cutter.Cut.TheVariants as cuts

-- the answer, with the bytes of its line
abbrev pub cut_view : Cut → Next
cut_view (cuts.Line l) = Given l.number l.bytes.now
cut_view (cuts.TooLong number) = Overlong number
cut_view cuts.TooMany = Overfull
cut_view cuts.More = Wanting
