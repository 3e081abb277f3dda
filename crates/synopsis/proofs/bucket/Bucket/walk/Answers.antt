use Rattle.std.proofs.Common.{◌∙◌, sym, ap, arith}
use Rattle.edge_history.specs.Opens.{is_held}
use Rattle.synopsis.proofs.Bags.{none_more}
use Rattle.synopsis.proofs.bucket.Bucket.walk.Goals as goal

pub loop-i-preserved : goal.loop-i-preserved
loop-i-preserved c = none_more (is_held c.args.cells.now c.args.start) c.self.inside.rows.items c.loop-i.i c.index.result.now (omega arith)
    (ap (is_held c.args.cells.now c.args.start) (sym c.index.ensures) ∙ (sym c.is_row.ensures ∙ c.if-is_row.false)) c.loop-i.invariant
