use Rattle.shard_apply.proofs.WholeLaws.{fresh_together, opens_together, stands_together, grows_together, bounded_together}
use Rattle.shard_apply.proofs.sharded.Sharded.laws.Goals as goal

pub returns-clause-fresh : goal.returns-clause-fresh
returns-clause-fresh g c w are = fresh_together g.O.Operator.standing g.O.Operator.keeps w g.O.Operator.is_opening c.laws.ensures.fresh are

pub returns-clause-opens : goal.returns-clause-opens
returns-clause-opens g c w texts are = opens_together g.O.Operator.standing g.O.Operator.keeps w g.O.Operator.is_opening c.laws.ensures.opens texts are

pub returns-clause-stands : goal.returns-clause-stands
returns-clause-stands g c w texts hl hr out apart k = stands_together g.O.Operator.standing g.O.Operator.keeps w texts hl hr out k c.laws.ensures.stands apart

pub returns-clause-grows : goal.returns-clause-grows
returns-clause-grows g c w new old hl hr out longer k = grows_together g.O.Operator.standing g.O.Operator.keeps w c.laws.ensures.grows new old hl hr out longer k

pub returns-clause-bounded : goal.returns-clause-bounded
returns-clause-bounded g c w texts hl hr out k = bounded_together g.O.Operator.standing g.O.Operator.keeps w texts hl hr out k g.O.Operator.entries c.laws.ensures.bounded
