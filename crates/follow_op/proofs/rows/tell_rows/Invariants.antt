use Rattle.std.proofs.Common.{◌≡◌, ◌++◌, map, take}
use Rattle.follow_op.specs.Followed.{match_told}
use Rattle.follow_op.proofs.rows.tell_rows.Given as goal

abbrev pub invariant-loop-row : goal.invariant-loop-row
invariant-loop-row l = l.answer.items ≡ l.fn.answer.items ++ map (match_told l.right_key l.within l.t l.right) (take l.row-index l.rows)
