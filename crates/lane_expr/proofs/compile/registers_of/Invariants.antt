-- The registers so far are of the kinds of the steps.
use Rattle.std.proofs.Common.{◌≡◌, map, take}
use Rattle.lane_expr.specs.Steps.{step_kind}
use Rattle.lane_expr.specs.Registers.{AreFilled}
use Rattle.lane_expr.proofs.compile.registers_of.Given as goal

abbrev pub invariant-loop-step : goal.invariant-loop-step
invariant-loop-step l = record {
  kinds : map (λ r. r.kind) l.registers.items ≡ map (step_kind l.columns) (take l.step-index l.steps);
  filled : AreFilled (take l.step-index l.steps) l.registers.items;
}
