use Rattle.lane_expr.proofs.Marks.{test_is}
use Rattle.lane_expr.proofs.words.is_marked.Goals as goal

pub returns : goal.returns
returns c = test_is c.args.word c.args.j
