-- the count so far, multiplied with that of the numbers that are left, is that of all of them, as far as a usize goes
use Rattle.std.proofs.Common.{◌≡◌, ◌*◌, ◌-◌, ◌^◌, ◌<◌, min, drop}
use Rattle.query_plan.specs.Choices.{choice_count}
use Rattle.query_plan.proofs.choosing.choice_count.Given as goal

abbrev pub invariant-loop-width : goal.invariant-loop-width
invariant-loop-width l = record {
  fits : l.count < 2 ^ 64;
  counts : min (l.count * choice_count (drop l.width-index l.widths)) (2 ^ 64 - 1) ≡ min (choice_count l.widths) (2 ^ 64 - 1);
}
