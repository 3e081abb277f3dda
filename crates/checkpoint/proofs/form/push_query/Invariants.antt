use Rattle.std.proofs.Common.{◌++◌, length, map}
use Rattle.checkpoint.specs.Form.{query_lines}
use Rattle.checkpoint.proofs.Pieces.{IsCut}
use Rattle.checkpoint.proofs.form.push_query.Given as goal

abbrev pub invariant-loop-rest : goal.invariant-loop-rest
invariant-loop-rest l = IsCut (map (λ line. line.items) l.head.items) l.rest (map (λ line. line.items) l.fn.head.items ++ query_lines l.query)

abbrev pub decreases-loop-rest : goal.decreases-loop-rest
decreases-loop-rest l = length l.rest
