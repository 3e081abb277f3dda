use Rattle.std.proofs.Common.{◌≡◌, ◌≤◌, take, length}
use Rattle.temporal_join.specs.Lives.{life_waits}
use Rattle.temporal_join.proofs.settling.count_ends.Given as goal

abbrev pub invariant-loop-life : goal.invariant-loop-life
invariant-loop-life l = record {
  is : l.count ≡ length (life_waits (take l.life-index l.lives));
  few : l.count ≤ l.life-index;
}
