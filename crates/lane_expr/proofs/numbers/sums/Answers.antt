use Rattle.std.proofs.Common.{◌+◌, ◌%◌, ◌^◌, ◌+ℤ◌, w64, arith}
use Rattle.std.specs.Int.{int_wrap}
use Rattle.lane_expr.proofs.Signed.{signed_at, sums as law, made}
use Rattle.lane_expr.proofs.numbers.sums.Goals as goal

pub invariant_of-into : goal.invariant_of-into
invariant_of-into c =
    let a = c.args.left.now in
    let b = c.args.right.now in
    let m = made (λ m n. (m + n) % 2 ^ 64) (λ m n. omega arith) a.lanes b.lanes a.long b.long in
    record { long = m.long; whole = m.whole }

pub returns : goal.returns
returns c k lt =
    let a = c.args.left.now in
    let b = c.args.right.now in
    signed_at (λ m n. (m + n) % 2 ^ 64) (λ x y. int_wrap w64 (x +ℤ y)) law a.lanes b.lanes a.whole b.whole a.long b.long k lt
