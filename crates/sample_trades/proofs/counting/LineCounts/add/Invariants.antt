use Rattle.std.proofs.Common.{◌++◌, ℕ, List, take}
use Rattle.sample_trades.specs.Counted.{Counted}
use Rattle.sample_trades.proofs.counting.LineCounts.add.Given as goal

abbrev pub invariant-loop-byte : goal.invariant-loop-byte
invariant-loop-byte l = (text : List ℕ) → Counted text l.fn.self → Counted (text ++ take l.byte-index l.bytes) l.self
