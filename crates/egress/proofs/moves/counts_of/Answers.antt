use Rattle.egress.proofs.Tallied.{is_end_from, no_end_from, one_ended, none_ended, one_started, none_started}
use Rattle.egress.proofs.moves.counts_of.Goals as goal

pub returns-then-is_end-clause-ends : goal.returns-then-is_end-clause-ends
returns-then-is_end-clause-ends c = one_ended c.args.edge.now (is_end_from c.is_end.result c.args.edge.now c.is_end.ensures c.if-is_end.true)

pub returns-then-is_end-clause-starts : goal.returns-then-is_end-clause-starts
returns-then-is_end-clause-starts c = none_started c.args.edge.now (is_end_from c.is_end.result c.args.edge.now c.is_end.ensures c.if-is_end.true)

pub returns-else-is_end-clause-ends : goal.returns-else-is_end-clause-ends
returns-else-is_end-clause-ends c = none_ended c.args.edge.now (no_end_from c.is_end.result c.args.edge.now c.is_end.ensures c.if-is_end.false)

pub returns-else-is_end-clause-starts : goal.returns-else-is_end-clause-starts
returns-else-is_end-clause-starts c = one_started c.args.edge.now (no_end_from c.is_end.result c.args.edge.now c.is_end.ensures c.if-is_end.false)
