use Rattle.std.specs.Prelude.{◌≤◌, ◌*◌}
use Rattle.std.proofs.Common.{arith}
use Rattle.std.proofs.lemmas.Bool.Decides.{nat_tests}
use Rattle.edge_history.specs.Order.{is_below}
use Rattle.ingress.proofs.Ranked.{none_below as late_ranks, no_ranks}
use Rattle.ingress.proofs.Released.{none_below}
use Rattle.ingress.proofs.by_rank.ByRank.has_below.Goals as goal

pub returns-in-Some : goal.returns-in-Some
returns-in-Some c = λ late.
    let low : 2 * c.args.t ≤ c.in-Some.rank.now = (let r = c.end_rank.ensures.rank in grind (arith, nat_tests)) in
    none_below c.args.t c.args.self.now (late_ranks c.self.inside.ranks.entries c.args.self.now c.self.view_is c.self.invariant c.args.t c.in-Some.rank.now c.in-Some.field-0-1.now c.in-Some.ensures.first low)

pub returns-in-None : goal.returns-in-None
returns-in-None c = λ _.
    no_ranks c.self.inside.ranks.entries c.args.self.now (is_below c.args.t) c.self.view_is (λ some. let yes = c.in-None.ensures.variant.1 some in absurd (cc))
