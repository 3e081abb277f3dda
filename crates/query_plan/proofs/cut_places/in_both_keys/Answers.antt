use Rattle.std.specs.Option.{is_some}
use Rattle.std.proofs.Common.{ap, length}
use Rattle.std.proofs.Math.ListN.{drop_of_length-le}
use Rattle.query_plan.proofs.Found.{left_ends, right_ends, past}
use Rattle.query_plan.proofs.cut_places.in_both_keys.Goals as goal
use Rattle.query_plan.proofs.cut_places.in_both_keys.Goals.{else-loop-i-test, then-loop-i-test+in_default}

pub returns : goal.returns
returns c = elim c.loop-i-test.branch [
  | else-loop-i-test w ↦
      left_ends _ _ _ _ _ _ (drop_of_length-le c.args.left_key.now w.loop-i-test.false) c.loop-i.invariant
  | then-loop-i-test+in_default w ↦
      right_ends _ _ _ _ _ _
      (drop_of_length-le c.args.right_key.now
      (past (is_some w.get.result) c.loop-i.i (length c.args.right_key.now) w.get.ensures.lookup.0 (ap is_some w.in_default.is)))
      c.loop-i.invariant
]
