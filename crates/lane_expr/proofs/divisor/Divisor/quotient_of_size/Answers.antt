use Rattle.std.proofs.Common.{◌*◌, ◌^◌, ◌/◌, ap₂, ◌∙◌, arith}
use Rattle.std.proofs.Math.Nat.{one-le-pow}
use Rattle.lane_expr.proofs.Dividing.{by_reciprocal}
use Rattle.lane_expr.proofs.divisor.Divisor.quotient_of_size.Goals as goal

pub returns : goal.returns
returns c =
    let d = c.args.self.now in
    let r = d.reciprocal in
    ap₂ (λ a b. a * b / 2 ^ 64 / 2 ^ d.shift) c.from.ensures c.from-2.ensures
    ∙ by_reciprocal c.args.n d.by d.factor (2 ^ d.shift) r.above (one-le-pow d.shift 2 (omega arith)) c.requires r.high r.low
