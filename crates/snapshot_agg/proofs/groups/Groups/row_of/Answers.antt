use Rattle.std.proofs.Common.{subst, sym}
use Rattle.snapshot_agg.specs.Totaled.{IsTotalOf}
use Rattle.snapshot_agg.proofs.Totaling.{of_key, none_told}
use Rattle.snapshot_agg.proofs.groups.Groups.row_of.Goals as goal

pub returns-in-None : goal.returns-in-None
returns-in-None c =
    let g = c.args.self.now in
    none_told g.aggs.items c.args.key.now (of_key g.key.items c.args.key.now g.rows.rows.held)
    (subst (λ o. IsTotalOf o g.aggs.items (of_key g.key.items c.args.key.now g.rows.rows.held)) (sym c.in-None.ensures.value) (c.requires.counted.totals.of_key c.args.key.now))
