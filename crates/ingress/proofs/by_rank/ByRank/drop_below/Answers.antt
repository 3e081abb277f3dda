use Rattle.std.specs.Prelude.{filter}
use Rattle.std.proofs.Common.{arith, ap, length, refl, ◌∙◌}
use Rattle.edge_history.specs.Order.{is_from}
use Rattle.ingress.specs.Ranks.{edges_at}
use Rattle.ingress.proofs.Released.{dropping_next, dropped_all}
use Rattle.ingress.proofs.by_rank.ByRank.drop_below.Goals as goal

pub ranks-init : goal.ranks-init
ranks-init c = record { ranked = c.self.invariant; same = refl }

pub ranks-preserved : goal.ranks-preserved
ranks-preserved c =
    dropping_next c.args.t c.end_rank-end.result c.self.inside.ranks.entries c.ranks.self-inside.ranks.entries c.drop_first_below.new.ranks.entries c.end_rank-end.ensures.rank
    c.ranks.invariant (c.drop_first_below.ensures.taken c.ranks-test.true)

pub ranks-smaller : goal.ranks-smaller
ranks-smaller c =
    let s = c.drop_first_below.ensures.taken c.ranks-test.true in
    omega (arith, ap length s.is)

pub returns : goal.returns
returns c =
    let none = c.drop_first_below.ensures.none c.ranks-test.false in
    ap edges_at none.0
    ∙ dropped_all c.args.t c.end_rank-end.result c.self.inside.ranks.entries c.ranks.self-inside.ranks.entries c.end_rank-end.ensures.rank c.ranks.invariant none.1
    ∙ ap (filter (is_from c.args.t)) c.self.view_is
