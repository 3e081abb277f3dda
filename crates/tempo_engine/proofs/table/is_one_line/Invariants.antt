-- The bytes before this one are neither.
use Rattle.std.proofs.Common.{◌≡◌, ◌≢◌, All, take}
use Rattle.tempo_engine.proofs.table.is_one_line.Given as goal

abbrev pub invariant-loop-byte : goal.invariant-loop-byte
invariant-loop-byte l = (l.byte-items ≡ l.text) × All (λ b. b ≢ 13) (take l.byte-index l.byte-items) × All (λ b. b ≢ 10) (take l.byte-index l.byte-items)
