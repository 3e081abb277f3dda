-- Those that were made so far are as `make` gives them.
use Rattle.std.proofs.Common.{◌≡◌, Ok, length, All}
use Rattle.dataflow.proofs.sharding.operators_of.Given as goal

abbrev pub invariant-loop : goal.invariant-loop
invariant-loop g l = record {
  callable : goal.F-IsAlwaysCallable g l.make;
  count : length l.operators.items ≡ l.counter;
  each : All (λ o. goal.F-post g l.make (Ok o)) l.operators.items;
}
