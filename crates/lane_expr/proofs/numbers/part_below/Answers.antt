use Rattle.std.specs.Prelude.{int_lt}
use Rattle.lane_expr.proofs.Parts.{few_numbers, part_marked}
use Rattle.lane_expr.proofs.numbers.part_below.Goals as goal

pub returns : goal.returns
returns c =
    let a = c.args.left.now in
    let b = c.args.right.now in
    record {
      few = few_numbers _ a.lanes b.lanes 4 c.args.at c.requires a.long b.long;
      marks = part_marked int_lt a.lanes b.lanes 4 c.args.at c.requires a.long b.long a.whole b.whole;
    }
