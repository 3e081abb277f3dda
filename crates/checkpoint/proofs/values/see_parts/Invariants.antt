-- So far.
use Rattle.std.proofs.Common.{take}
use Rattle.std.specs.Prelude.{All}
use Rattle.checkpoint.specs.Values.{IsPartValue}
use Rattle.checkpoint.proofs.values.see_parts.Given as goal

abbrev pub invariant-loop-part : goal.invariant-loop-part
invariant-loop-part l = All IsPartValue (take l.part-index l.parts)
