use Rattle.std.proofs.Common.{◌*◌, arith, eqb}
use Rattle.occupancy.proofs.Places.{test-zero}
use Rattle.lane_expr.specs.Lanes.{place}
use Rattle.lane_expr.proofs.Parts.{part_added, past_part}
use Rattle.lane_expr.proofs.places.marks_same_places.Goals as goal

pub loop-part-preserved : goal.loop-part-preserved
loop-part-preserved c =
    let i = c.loop-part.invariant in
    let a = c.args.left.now in
    let b = c.args.right.now in
    let at = 16 * c.loop-part.part in
    let e = c.part_same.ensures in
    record {
      set = λ k lt. part_added c.loop-part.word c.part_same.result 16 at e.few i.rest (λ k. eqb (place a.lanes k) (place b.lanes k)) i.set e.marks (omega arith) k (omega arith);
      rest = λ k ge less. past_part c.loop-part.word c.part_same.result 16 at e.few i.rest k (omega arith) less;
    }

pub loop-part-init : goal.loop-part-init
loop-part-init c = record { set = λ k lt. absurd (omega arith); rest = λ k ge less. test-zero k }
