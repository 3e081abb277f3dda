use Rattle.std.proofs.Common.{◌*◌, arith}
use Rattle.std.specs.Prelude.{int_lt}
use Rattle.occupancy.proofs.Places.{test-zero}
use Rattle.lane_expr.specs.Lanes.{number}
use Rattle.lane_expr.proofs.Parts.{part_added, past_part}
use Rattle.lane_expr.proofs.numbers.marks_below.Goals as goal

pub loop-part-preserved : goal.loop-part-preserved
loop-part-preserved c =
    let i = c.loop-part.invariant in
    let a = c.args.left.now in
    let b = c.args.right.now in
    let at = 4 * c.loop-part.part in
    let e = c.part_below.ensures in
    record {
      set = λ k lt. part_added c.loop-part.word c.part_below.result 4 at e.few i.rest (λ k. int_lt (number a.lanes k) (number b.lanes k)) i.set e.marks (omega arith) k (omega arith);
      rest = λ k ge less. past_part c.loop-part.word c.part_below.result 4 at e.few i.rest k (omega arith) less;
    }

pub loop-part-init : goal.loop-part-init
loop-part-init c = record { set = λ k lt. absurd (omega arith); rest = λ k ge less. test-zero k }
