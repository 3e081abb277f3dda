use Rattle.std.proofs.Common.{◌≡◌, ◌≤◌, ℕ, take}
use Rattle.tw_rows.specs.Instant.{inf}
use Rattle.edge_history.specs.Order.{failing}
use Rattle.temporal_join.specs.Lives.{ends_from}
use Rattle.temporal_join.proofs.lives.least.Given as goal

abbrev pub invariant-loop-life : goal.invariant-loop-life
invariant-loop-life l = record {
  below : failing (ends_from l.least) (take l.life-index l.lives) ≡ 0;
  above : (t : ℕ) → t ≤ inf → failing (ends_from t) (take l.life-index l.lives) ≡ 0 → t ≤ l.least;
}
