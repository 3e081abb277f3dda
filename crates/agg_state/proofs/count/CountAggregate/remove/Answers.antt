use Rattle.std.proofs.Common.{arith}
use Rattle.agg_state.proofs.Bags.{one_less, count_less}
use Rattle.agg_state.proofs.count.CountAggregate.remove.Goals as goal

pub overflow_sub-self : goal.overflow_sub-self
overflow_sub-self c =
    let r = c.requires in
    let a = r.2.is_count in
    let b = one_less c.args._value r.0 r.1 r.3 in
    omega (arith, a, b)

pub returns : goal.returns
returns c = λ bag rest h same. count_less c.args.self.now.count c.args._value bag rest h same
