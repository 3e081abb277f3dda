use Rattle.std.proofs.Common.{arith}
use Rattle.std.proofs.lemmas.Int.{ints}
use Rattle.agg_state.proofs.Bags.{one_less, sum_small, sum_less}
use Rattle.agg_state.proofs.sum.SumAggregate.remove.Goals as goal

pub minus-self-requires-clause-low : goal.minus-self-requires-clause-low
minus-self-requires-clause-low c =
    let b = (sum_small c.args.self.now.total c.args.self.now.count c.requires.0 c.requires.2).0 in omega (arith, ints, b)

pub minus-self-requires-clause-high : goal.minus-self-requires-clause-high
minus-self-requires-clause-high c =
    let b = (sum_small c.args.self.now.total c.args.self.now.count c.requires.0 c.requires.2).1 in omega (arith, ints, b)

pub overflow_sub-self : goal.overflow_sub-self
overflow_sub-self c =
    let r = c.requires in
    let a = r.2.is_count in
    let b = one_less c.args.value r.0 r.1 r.3 in
    omega (arith, a, b)

pub returns : goal.returns
returns c = λ bag rest h same. sum_less c.args.self.now.total _ c.args.value c.args.self.now.count bag rest
    (let e = c.minus-self.ensures in omega (arith, ints, e)) h same
