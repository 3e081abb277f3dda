use Rattle.std.proofs.Common.{refl}
use Rattle.ingress.proofs.Released.{short_below}
use Rattle.ingress.proofs.by_rank.drop_first_below.Goals as goal

pub returns-clause-taken : goal.returns-clause-taken
returns-clause-taken c = λ _.
    short_below c.args.end c.args.ranks.now.entries c.pop_first.new.self.entries c.pop_first.result c.in-Some.rank.now c.in-Some.field-0-1.now
    (c.pop_first.ensures.variant.1 (c.in-Some.ensures.variant.0 refl)) c.pop_first.ensures.removal c.in-Some.ensures.first c.if-end-rank.false
