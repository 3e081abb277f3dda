use Rattle.std.proofs.Common.{◌≡◌, ◌∙◌, sym, subst, w64, pos, ℤ}
use Rattle.std.proofs.lemmas.Simd.{length-replicate, get_or-replicate}
use Rattle.std.proofs.lemmas.Int.{to_z-of_z}
use lib.ListN.{replicate}
use mir.Val.{SFits, to_z, of_z}
use Rattle.lane_expr.proofs.Signed.{by_places, whole_replicate}
use Rattle.lane_expr.proofs.numbers.Numbers.filled.Goals as goal

pub invariant_of-result : goal.invariant_of-result
invariant_of-result c =
    let z : ℤ = to_z w64 (of_z w64 c.args.value) in
    let e : z ≡ c.args.value = to_z-of_z w64 c.args.value c.ranges.value in
    record { long = length-replicate 64 z; whole = by_places (replicate 64 z) (whole_replicate 64 z (subst (SFits w64) (sym e) c.ranges.value)) }

pub returns : goal.returns
returns c k lt = get_or-replicate 64 k (to_z w64 (of_z w64 c.args.value)) (pos 0) lt ∙ to_z-of_z w64 c.args.value c.ranges.value
