use Rattle.std.proofs.Common.{arith}
use Rattle.lane_expr.proofs.Dividing.{power, power_rounded}
use Rattle.lane_expr.proofs.divisor.Divisor.new.Goals as goal

pub overflow_add-factor : goal.overflow_add-factor
overflow_add-factor c = let p = power c.args.by c.requires.above c.requires.below in record { fits = omega (arith, p.top, p.near) }

pub overflow_cast-result : goal.overflow_cast-result
overflow_cast-result c =
    let p = power c.args.by c.requires.above c.requires.below in
    let r = power_rounded c.args.by _ _ c.requires.above c.requires.below c.from-divisor.ensures p.top in
    record { fits = r.fits }

pub invariant_of-result : goal.invariant_of-result
invariant_of-result c =
    let p = power c.args.by c.requires.above c.requires.below in
    let r = power_rounded c.args.by _ _ c.requires.above c.requires.below c.from-divisor.ensures p.top in
    record { reciprocal = record { above = c.requires.above; below = c.requires.below; small = p.small; high = r.high; low = r.low } }
