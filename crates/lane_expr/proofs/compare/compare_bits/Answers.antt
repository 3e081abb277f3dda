use Rattle.std.proofs.Common.{◌∙◌, ◌&&◌, ◌||◌, not, ap}
use Rattle.occupancy.specs.Bits.{test}
use Rattle.occupancy.proofs.Test.{test-and, test-or, test-xor, test-flip, flip}
use lib.Bits.{bit_xor, xor_lt}
use Rattle.lane_expr.proofs.Comparing.{bits_eq, bits_ne, bits_lt, bits_le, bits_gt, bits_ge}
use Rattle.lane_expr.proofs.compare.compare_bits.Goals as goal

pub returns-in-Eq : goal.returns-in-Eq
returns-in-Eq c j lt = rw c.in-Eq.is (test-flip (bit_xor c.args.left c.args.right) j (xor_lt 64 c.args.left c.args.right c.ranges.left.fits c.ranges.right.fits) lt ∙ ap not (test-xor c.args.left c.args.right j) ∙ bits_eq (test c.args.left j) (test c.args.right j))

pub returns-in-Ne : goal.returns-in-Ne
returns-in-Ne c j lt = rw c.in-Ne.is (test-xor c.args.left c.args.right j ∙ bits_ne (test c.args.left j) (test c.args.right j))

pub returns-in-Lt : goal.returns-in-Lt
returns-in-Lt c j lt = rw c.in-Lt.is (test-and (flip c.args.left) c.args.right j ∙ ap (λ b. b && test c.args.right j) (test-flip c.args.left j c.ranges.left.fits lt) ∙ bits_lt (test c.args.left j) (test c.args.right j))

pub returns-in-Le : goal.returns-in-Le
returns-in-Le c j lt = rw c.in-Le.is (test-or (flip c.args.left) c.args.right j ∙ ap (λ b. b || test c.args.right j) (test-flip c.args.left j c.ranges.left.fits lt) ∙ bits_le (test c.args.left j) (test c.args.right j))

pub returns-in-Gt : goal.returns-in-Gt
returns-in-Gt c j lt = rw c.in-Gt.is (test-and c.args.left (flip c.args.right) j ∙ ap (λ b. test c.args.left j && b) (test-flip c.args.right j c.ranges.right.fits lt) ∙ bits_gt (test c.args.left j) (test c.args.right j))

pub returns-in-Ge : goal.returns-in-Ge
returns-in-Ge c j lt = rw c.in-Ge.is (test-or c.args.left (flip c.args.right) j ∙ ap (λ b. test c.args.left j || b) (test-flip c.args.right j c.ranges.right.fits lt) ∙ bits_ge (test c.args.left j) (test c.args.right j))
