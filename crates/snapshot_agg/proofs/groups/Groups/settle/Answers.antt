use Rattle.snapshot_agg.specs.Counting.{IsCounted}
use Rattle.snapshot_agg.proofs.Faults.{on_ok}
use Rattle.snapshot_agg.proofs.Totaling.{totaled_same}
use Rattle.snapshot_agg.proofs.groups.Groups.settle.Goals as goal

pub returns-clause-counted : goal.returns-clause-counted
returns-clause-counted c =
    let g = c.args.self.now in
    let rows = c.settle.new.self in
    on_ok c.settle.result _ (IsCounted (record { alloc = g.alloc; key = g.key; room = g.room; aggs = g.aggs; rows = rows; totals = g.totals; touched = g.touched; instant = g.instant }))
    (λ h. record {
      totals = totaled_same g.key.items g.aggs.items g.rows.rows.held rows.rows.held g.totals h c.requires.counted.totals;
      room = c.requires.counted.room;
      touched = c.requires.counted.touched;
    })
    c.settle.ensures.held
