use Rattle.lane_expr.proofs.Parts.{few_places, part_places}
use Rattle.lane_expr.proofs.places.part_same.Goals as goal

pub returns : goal.returns
returns c =
    let a = c.args.left.now in
    let b = c.args.right.now in
    record {
      few = few_places _ a.lanes b.lanes 16 c.args.at c.requires a.long b.long;
      marks = part_places a.lanes b.lanes 16 c.args.at c.requires a.long b.long;
    }
