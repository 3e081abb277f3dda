use Rattle.std.proofs.Common.{subst}
use Rattle.tw_rows.proofs.Bags.{SameBag-refl}
use Rattle.edge_history.specs.Order.{Rises}
use Rattle.snapshot_agg.proofs.waiting.put_in_order.Goals as goal

pub returns-then-are_in_order-clause-same : goal.returns-then-are_in_order-clause-same
returns-then-are_in_order-clause-same c = SameBag-refl c.args.due.now.items

pub returns-then-are_in_order-clause-order : goal.returns-then-are_in_order-clause-order
returns-then-are_in_order-clause-order c = subst (Rises 0) c.as_slice.ensures.value (c.are_in_order.ensures c.if-are_in_order.true)
