use Rattle.lane_expr.proofs.Marks.{marked_here, marked_elsewhere}
use Rattle.lane_expr.proofs.words.with_mark.Goals as goal

pub returns-clause-same : goal.returns-clause-same
returns-clause-same c = rw c.from.ensures (marked_here c.args.word c.args.j c.args.bit c.requires.place c.requires.clear)

pub returns-clause-others : goal.returns-clause-others
returns-clause-others c = rw c.from.ensures (marked_elsewhere c.args.word c.args.j c.args.bit c.requires.place)
