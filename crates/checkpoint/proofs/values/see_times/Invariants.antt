-- So far.
use Rattle.std.proofs.Common.{◌≤◌, take}
use Rattle.std.specs.Prelude.{All}
use Rattle.tw_rows.specs.Instant.{inf}
use Rattle.checkpoint.proofs.values.see_times.Given as goal

abbrev pub invariant-loop-time : goal.invariant-loop-time
invariant-loop-time l = All (λ t. t ≤ inf) (take l.time-index l.times)
