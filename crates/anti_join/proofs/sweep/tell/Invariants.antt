use Rattle.std.proofs.Common.{◌≡◌, ◌++◌, take, map}
use Rattle.anti_join.specs.Free.{told_since}
use Rattle.anti_join.proofs.sweep.tell.Given as goal

abbrev pub invariant-loop-row : goal.invariant-loop-row
invariant-loop-row l = l.answer.items ≡ l.fn.answer.items ++ map (told_since l.since l.t) (take l.row-index l.rows)
