use Rattle.std.proofs.lemmas.Simd.{get_or-replicate}
use Rattle.lane_expr.proofs.places.Places.filled.Goals as goal

pub returns : goal.returns
returns c k lt = get_or-replicate 64 k c.args.value 0 lt
