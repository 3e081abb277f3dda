use Rattle.std.proofs.Common.{arith}
use Rattle.std.proofs.lemmas.Int.{ints}
use Rattle.agg_state.proofs.Bags.{sum_small}
use Rattle.agg_state.proofs.sum.SumAggregate.add.Goals as goal

pub plus-self-requires-clause-low : goal.plus-self-requires-clause-low
plus-self-requires-clause-low c =
    let b = (sum_small c.args.self.now.total c.args.self.now.count c.requires.0 c.requires.1).0 in omega (arith, ints, b)

pub plus-self-requires-clause-high : goal.plus-self-requires-clause-high
plus-self-requires-clause-high c =
    let b = (sum_small c.args.self.now.total c.args.self.now.count c.requires.0 c.requires.1).1 in omega (arith, ints, b)
