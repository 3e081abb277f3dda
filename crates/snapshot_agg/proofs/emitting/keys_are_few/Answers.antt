use Rattle.snapshot_agg.proofs.Few.{few_totals}
use Rattle.snapshot_agg.proofs.emitting.keys_are_few.Goals as goal

pub returns : goal.returns
returns c =
    let g = c.args.groups.now in
    record { keys = few_totals g.key.items g.aggs.items g.rows.rows.held g.totals c.len.ensures.unique c.requires.counted.totals; once = c.len-2.ensures.unique }
