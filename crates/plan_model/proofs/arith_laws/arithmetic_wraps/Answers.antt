use Rattle.std.specs.Prelude.{◌+ℤ◌, ◌-ℤ◌, ◌*ℤ◌, neg_ℤ}
use Rattle.plan_model.specs.Expr.{int_of}
use Rattle.plan_model.proofs.Wrapping.{wrapped-is, IsWrapped-unique}
use Rattle.plan_model.proofs.arith_laws.arithmetic_wraps.Goals as goal

pub returns-clause-sum : goal.returns-clause-sum
returns-clause-sum c = λ row at left right. wrapped-is (int_of (at left) +ℤ int_of (at right))

pub returns-clause-difference : goal.returns-clause-difference
returns-clause-difference c = λ row at left right. wrapped-is (int_of (at left) -ℤ int_of (at right))

pub returns-clause-product : goal.returns-clause-product
returns-clause-product c = λ row at left right. wrapped-is (int_of (at left) *ℤ int_of (at right))

pub returns-clause-negation : goal.returns-clause-negation
returns-clause-negation c = λ row at of. wrapped-is (neg_ℤ (int_of (at of)))

pub returns-clause-one : goal.returns-clause-one
returns-clause-one c = IsWrapped-unique
