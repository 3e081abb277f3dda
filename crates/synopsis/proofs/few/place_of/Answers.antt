use Rattle.std.proofs.Common.{sym, ap, ◌∙◌}
use Rattle.edge_history.specs.Opens.{is_held}
use Rattle.synopsis.proofs.Bags.{none_more}
use Rattle.synopsis.proofs.few.place_of.Goals as goal

pub loop-i-preserved : goal.loop-i-preserved
loop-i-preserved c =
    let p = is_held c.args.cells.now c.args.start in
    none_more p c.args.rows.now c.loop-i.i c.index-rows-i.result c.loop-i-test.true (ap p (sym c.index-rows-i.is) ∙ (sym c.is_row.ensures ∙ c.if-is_row.false)) c.loop-i.invariant
