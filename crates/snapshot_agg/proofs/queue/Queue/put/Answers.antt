use Rattle.snapshot_agg.proofs.Queueing.{more_in_line, more_others, edges_more, own_more}
use Rattle.snapshot_agg.proofs.queue.Queue.put.Goals as goal

pub returns-then-comes_last-clause-parts : goal.returns-then-comes_last-clause-parts
returns-then-comes_last-clause-parts c = λ w.
    rw (← c.self.view_is) (more_in_line w c.self.inside.others c.self.inside.line.items c.push_back.new.self.items c.args.edge c.in_ok-push_back.ensures.items)

pub returns-then-comes_last-clause-edges : goal.returns-then-comes_last-clause-edges
returns-then-comes_last-clause-edges c = edges_more c.args.self.now _ c.args.edge (returns-then-comes_last-clause-parts c)

pub returns-then-comes_last-clause-own : goal.returns-then-comes_last-clause-own
returns-then-comes_last-clause-own c = own_more c.args.self.now _ c.args.edge (returns-then-comes_last-clause-parts c)

pub returns-clause-parts : goal.returns-clause-parts
returns-clause-parts c = λ w.
    rw (← c.self.view_is) (more_others w c.self.inside.others c.put.new.self c.self.inside.line.items c.args.edge c.in_ok-put.ensures.ok)

pub returns-clause-edges : goal.returns-clause-edges
returns-clause-edges c = edges_more c.args.self.now _ c.args.edge (returns-clause-parts c)

pub returns-clause-own : goal.returns-clause-own
returns-clause-own c = own_more c.args.self.now _ c.args.edge (returns-clause-parts c)
