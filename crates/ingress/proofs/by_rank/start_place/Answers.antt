use Rattle.ingress.proofs.Starts.{no_more}
use Rattle.ingress.proofs.by_rank.start_place.Goals as goal

pub loop-i-preserved : goal.loop-i-preserved
loop-i-preserved c = no_more c.args.cells.now c.args.start c.args.edges.now c.loop-i.i c.index-edges-i.result c.loop-i-test.true c.index-edges-i.is c.is_start_of.result c.is_start_of.ensures c.if-is_start_of.false c.loop-i.invariant
